use Rattle.std.proofs.Common.{false, ◌<◌, ◌≡◌, ◌++◌, length, refl, sym, ap, ◌∙◌, subst, arith}
use Rattle.i_tree.proofs.RbLemmas.Shape.Contexts.{subtree_at-none}
use Rattle.i_tree.proofs.RbLemmas.SearchPath.Descent.{IsTop, cut_here, falls_on, path_top, path_end}
use Rattle.i_tree.proofs.RbLemmas.SearchPath.Search.{le-not_gt, search_on}
use Rattle.i_tree.proofs.RbLemmas.SearchPath.Asked.{asked_top, asked_on, asked_all}
use Rattle.i_tree.proofs.RbLemmas.SearchPath.Counts.{counted_none, counted_compare, counted_removal, counted_all}
use Rattle.i_tree.proofs.ExpiringLemmas.SearchPath.{length-items, followed_top, followed_end, followed_on, followed_gone}
use Rattle.i_tree.proofs.ExpiringLemmas.Search.{last_found, next_found}
use Rattle.i_tree.proofs.ExpiringLemmas.Descents.{IsRemoved, place_stays, path_stays, rank_stays, items_without, one_less, asked_here}
use Rattle.i_tree.proofs.RootLemmas.Withouts.{Without-refl, Without-trans}
use Rattle.i_tree.specs.Expiring.Descent.{DescendsBetween, FindsAbove, MayCall}
use Rattle.i_tree.specs.Expiring.Tree.{items}
use Rattle.i_tree.specs.Rb.Shape.{entries, rank, left_at, right_at, subtree_at, occurs}
use Rattle.i_tree.specs.Rb.Place.{place_below}
use Rattle.i_tree.specs.Root.Ends.{FirstFinds}
use Rattle.i_tree.specs.Root.Steps.{one_comparison, one_test, together}
use Rattle.i_tree.specs.declared.TheConstants.{EMPTY_REF}
use Rattle.i_tree.proofs.expiring.descent.descend.Goals as goal

pub loop-here-init : goal.loop-here-init
loop-here-init g c =
    let tree = c.args.core.now.shape in
    record {
      way = path_top _ _ _ tree c.root-here.result refl (record { live = c.root-here.ensures.live; is = c.root-here.ensures.part });
      kept = Without-refl (items tree);
      slots = refl;
      same = λ _. refl;
      follows = followed_top (g.L.Liveness.live c.args.lives.now) (goal.F-post g c.args.stands.now) c.args.core.now c.root-here.result c.root-here.ensures.part;
      asked = asked_top g.met.C.Counter.law (MayCall (g.L.Liveness.live c.args.lives.now) (goal.F-post g c.args.stands.now)) (length (entries tree) ≡ length (entries tree)) tree c.args.steps.now _ c.root-here.ensures.part;
      counted = counted_none g.met.C.Counter.law c.args.steps.now (rank tree) _ _ (omega (arith, ap rank c.root-here.ensures.part));
      core = c.root-here.ensures.core;
      first = c.root-here.ensures.core;
    }

pub top_below-here-requires : goal.top_below-here-requires
top_below-here-requires g c =
    let gone : IsRemoved c.loop-here.core.shape c.loop-here.here c.remove.new.self.shape = record { left = c.remove.ensures.left; right = c.remove.ensures.right; rank = c.remove.ensures.rank } in
    let way = c.loop-here.invariant.way in
    let live = way.at.live c.loop-here-test.true in
    (place_stays _ _ _ c.loop-here.core.shape c.remove.new.self.shape c.loop-here.here live gone (c.loop-here.last, c.loop-here.said) (place_below c.loop-here.above c.loop-here.on_right) way)

pub loop-here-smaller-then-not-is_live : goal.loop-here-smaller-then-not-is_live
loop-here-smaller-then-not-is_live g c =
    let gone : IsRemoved c.loop-here.core.shape c.loop-here.here c.remove.new.self.shape = record { left = c.remove.ensures.left; right = c.remove.ensures.right; rank = c.remove.ensures.rank } in
    let tree = c.loop-here.core.shape in
    let tree' = c.remove.new.self.shape in
    let here = c.loop-here.here in
    let way = c.loop-here.invariant.way in
    let live = way.at.live c.loop-here-test.true in
    let front = way.front ++ entries (left_at here tree) in
    let back = entries (right_at here tree) ++ way.back in
    let cut = cut_here tree here c.item.result.now c.item.ensures.value way.at in
    let less = one_less (λ _. Unit {0}) tree tree' front here c.item.result.now back cut (c.remove.ensures.list front c.item.result.now back cut).1 in
    let read = c.top_below-here.ensures.part in
    let lower = rank_stays _ _ _ tree tree' here live gone (c.loop-here.last, c.loop-here.said) c.top_below-here.result c.top_below-here.ensures.live (place_below c.loop-here.above c.loop-here.on_right) read way in
    omega (arith, less, lower)

pub loop-here-preserved-then-not-is_live : goal.loop-here-preserved-then-not-is_live
loop-here-preserved-then-not-is_live g c =
    let gone : IsRemoved c.loop-here.core.shape c.loop-here.here c.remove.new.self.shape = record { left = c.remove.ensures.left; right = c.remove.ensures.right; rank = c.remove.ensures.rank } in
    let tree = c.loop-here.core.shape in
    let tree' = c.remove.new.self.shape in
    let here = c.loop-here.here in
    let next = c.top_below-here.result in
    let way = c.loop-here.invariant.way in
    let place = place_below c.loop-here.above c.loop-here.on_right in
    let live = way.at.live c.loop-here-test.true in
    let front = way.front ++ entries (left_at here tree) in
    let back = entries (right_at here tree) ++ way.back in
    let cut = cut_here tree here c.item.result.now c.item.ensures.value way.at in
    let loses = (c.remove.ensures.list front c.item.result.now back cut).1 in
    let less = one_less (λ _. Unit {0}) tree tree' front here c.item.result.now back cut loses in
    let read = c.top_below-here.ensures.part in
    let lower = rank_stays _ _ _ tree tree' here live gone (c.loop-here.last, c.loop-here.said) next c.top_below-here.ensures.live place read way in
    let expired = sym c.is_live.ensures ∙ c.if-not-is_live.true in
    let counted = counted_removal g.met.C.Counter.law _ c.loop-here.steps c.add_test.new.self c.remove.new.steps _ (rank (subtree_at here tree)) (rank (subtree_at next tree')) _ (length (entries tree)) (length (entries tree')) c.loop-here.invariant.counted lower less c.add_test.ensures c.remove.ensures.steps in
    record {
      way = path_stays _ _ _ tree tree' here live gone (c.loop-here.last, c.loop-here.said) next c.top_below-here.ensures.live place read way;
      kept = Without-trans c.loop-here.invariant.kept (items_without (λ (other : g.row.K.Denot × g.row.V.Denot). g.L.Liveness.live c.args.lives.now other.0 ≡ false) tree tree' front here c.item.result.now back cut loses expired);
      slots = omega (arith, c.loop-here.invariant.slots, c.remove.ensures.spare, less);
      same = λ all. absurd (omega (arith, all, less, c.loop-here.invariant.counted.stores));
      follows = followed_gone (g.L.Liveness.live c.args.lives.now) (goal.F-post g c.args.stands.now) c.args.core.now c.loop-here.core here c.item.result.now c.item.ensures.value c.loop-here.invariant.follows c.remove.new.self next expired (omega (arith, less, c.loop-here.invariant.counted.stores));
      asked = record { made = counted.made; counted = counted.counted; asked = λ same. absurd (omega (arith, same, less, c.loop-here.invariant.counted.stores)) };
      counted = counted;
      core = c.remove.ensures.core;
      first = c.loop-here.invariant.first;
    }

pub stands-answer-requires : goal.stands-answer-requires
stands-answer-requires g c =
    let tree = c.loop-here.core.shape in
    let way = c.loop-here.invariant.way in
    asked_here (λ (pair : g.row.K.Denot × g.row.V.Denot). g.L.Liveness.live c.args.lives.now pair.0) (λ pair. goal.F-pre g c.args.stands.now pair.0)
    (items c.args.core.now.shape) tree (way.front ++ entries (left_at c.loop-here.here tree)) c.loop-here.here c.item.result.now (entries (right_at c.loop-here.here tree) ++ way.back)
    c.loop-here.invariant.kept (cut_here tree c.loop-here.here c.item.result.now c.item.ensures.value way.at) c.requires (sym c.is_live.ensures ∙ c.if-not-is_live.false)

-- the children were read, and one of them is chosen
falls : (g : _) (c : goal.After-select-here g) → rank (subtree_at c.select-here.result c.loop-here.core.shape) < rank (subtree_at c.loop-here.here c.loop-here.core.shape)
falls g c =
    falls_on c.loop-here.core.shape c.loop-here.here c.item.result.now c.item.ensures.value c.item.ensures.core.falls c.left-left.result c.right-right.result
    (record { live = c.left-left.ensures.live; is = c.left-left.ensures.part }) (record { live = c.right-right.ensures.live; is = c.right-right.ensures.part })
    c.is_le-on_right.result c.select-here.result (c.select-here.ensures.first, c.select-here.ensures.other)

pub loop-here-smaller : goal.loop-here-smaller
loop-here-smaller g c = let lower = falls g c in omega (arith, lower)

pub loop-here-preserved : goal.loop-here-preserved
loop-here-preserved g c =
    let tree = c.loop-here.core.shape in
    let here = c.loop-here.here in
    let pair = c.item.result.now in
    let on_left : IsTop tree (left_at here tree) c.left-left.result = record { live = c.left-left.ensures.live; is = c.left-left.ensures.part } in
    let on_right : IsTop tree (right_at here tree) c.right-right.result = record { live = c.right-right.ensures.live; is = c.right-right.ensures.part } in
    let live = g.L.Liveness.live c.args.lives.now in
    let May = goal.F-post g c.args.stands.now in
    let answer = c.stands-answer.result in
    let called : MayCall live May pair answer = (sym c.is_live.ensures ∙ c.if-not-is_live.false, c.stands-answer.ensures) in
    record {
      way = search_on (MayCall live May) (λ back. FirstFinds (FindsAbove live May) EMPTY_REF back _) (λ back. FirstFinds (FindsAbove live May) EMPTY_REF back c.select-next.result) tree here c.loop-here-test.true pair c.item.ensures.value
          c.left-left.result c.right-right.result on_left on_right _ _ c.loop-here.said c.loop-here.invariant.way answer called _ c.is_le-on_right.ensures
          (λ is back holds. subst (FirstFinds (FindsAbove live May) EMPTY_REF back) (sym (c.select-next.ensures.first is)) holds)
          (λ is above back. (above, c.select-next.ensures.other is))
          c.select-last.result c.select-said.result c.select-here.result (c.select-last.ensures.first, c.select-last.ensures.other)
          (c.select-said.ensures.first, c.select-said.ensures.other) (c.select-here.ensures.first, c.select-here.ensures.other);
      kept = c.loop-here.invariant.kept;
      slots = c.loop-here.invariant.slots;
      same = c.loop-here.invariant.same;
      follows = followed_on live May c.args.core.now c.loop-here.core here pair c.item.ensures.value c.loop-here.invariant.follows
          c.left-left.result c.right-right.result on_left on_right answer _ (c.is_le-on_right.ensures ∙ le-not_gt answer) c.select-here.result (c.select-here.ensures.first, c.select-here.ensures.other) called;
      asked = asked_on g.met.C.Counter.law (MayCall live May) (length (entries tree) ≡ length (entries c.args.core.now.shape)) c.args.core.now.shape tree here pair c.item.ensures.value c.left-left.result c.right-right.result on_left on_right
          answer called _ c.is_le-on_right.ensures c.select-here.result (c.select-here.ensures.first, c.select-here.ensures.other) _ c.loop-here.steps c.add_comparison.new.self c.loop-here.invariant.asked
          (together one_test one_comparison) (g.met.C.Counter.law.both c.loop-here.steps c.add_test.new.self c.add_comparison.new.self one_test one_comparison c.add_test.ensures c.add_comparison.ensures) refl;
      counted = counted_compare g.met.C.Counter.law _ c.loop-here.steps c.add_test.new.self c.add_comparison.new.self _ (rank (subtree_at here tree)) (rank (subtree_at c.select-here.result tree)) _ _ c.loop-here.invariant.counted (falls g c)
          c.add_test.ensures c.add_comparison.ensures;
      core = c.loop-here.invariant.core;
      first = c.loop-here.invariant.first;
    }

ended : (g : _) (c : goal.After-loop-here g) → DescendsBetween (g.L.Liveness.live c.args.lives.now) (goal.F-post g c.args.stands.now) c.loop-here.core.shape (place_below c.loop-here.above c.loop-here.on_right) c.loop-here.last c.loop-here.said c.loop-here.next
ended g c =
    let tree = c.loop-here.core.shape in
    let empty = subtree_at-none c.loop-here.here tree (ap (λ handle. occurs handle tree) c.loop-here-test.false ∙ c.loop-here.invariant.core.handles.none_empty) in
    path_end _ _ _ tree c.loop-here.here _ (c.loop-here.last, c.loop-here.said) empty c.loop-here.invariant.way

pub returns-clause-end : goal.returns-clause-end
returns-clause-end g c = ended g c

pub returns-clause-last : goal.returns-clause-last
returns-clause-last g c some =
    last_found (g.L.Liveness.live c.args.lives.now) (goal.F-post g c.args.stands.now) c.loop-here.core.shape (place_below c.loop-here.above c.loop-here.on_right) c.loop-here.last c.loop-here.said c.loop-here.next (ended g c) some

pub returns-clause-next : goal.returns-clause-next
returns-clause-next g c some =
    next_found (g.L.Liveness.live c.args.lives.now) (goal.F-post g c.args.stands.now) c.loop-here.core.shape (place_below c.loop-here.above c.loop-here.on_right) c.loop-here.last c.loop-here.said c.loop-here.next (ended g c) some

pub returns-clause-steps : goal.returns-clause-steps
returns-clause-steps g c =
    simp length-items
    (counted_all g.met.C.Counter.law c.args.core.now.shape c.args.steps.now c.loop-here.steps _ _ c.loop-here.invariant.first c.loop-here.invariant.counted)

pub returns-clause-follows : goal.returns-clause-follows
returns-clause-follows g c =
    let tree = c.loop-here.core.shape in
    let empty = subtree_at-none c.loop-here.here tree (ap (λ handle. occurs handle tree) c.loop-here-test.false ∙ c.loop-here.invariant.core.handles.none_empty) in
    followed_end (g.L.Liveness.live c.args.lives.now) (goal.F-post g c.args.stands.now) c.args.core.now c.loop-here.core c.loop-here.here empty c.loop-here.invariant.follows

pub returns-clause-asks : goal.returns-clause-asks
returns-clause-asks g c same =
    let tree = c.loop-here.core.shape in
    let empty = subtree_at-none c.loop-here.here tree (ap (λ handle. occurs handle tree) c.loop-here-test.false ∙ c.loop-here.invariant.core.handles.none_empty) in
    asked_all g.met.C.Counter.law (MayCall (g.L.Liveness.live c.args.lives.now) (goal.F-post g c.args.stands.now)) (length (entries tree) ≡ length (entries c.args.core.now.shape)) c.args.core.now.shape c.args.steps.now c.loop-here.steps (subtree_at c.loop-here.here tree) empty same c.loop-here.invariant.asked
