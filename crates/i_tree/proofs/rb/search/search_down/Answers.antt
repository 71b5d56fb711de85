use Rattle.std.proofs.Common.{ℕ, refl, sym, ap, ◌∙◌, arith}
use Rattle.std.specs.Bool.{⊤}
use Rattle.std.specs.Fn.{FnReturnsAt}
use Rattle.std.proofs.lemmas.Fn.{says_at}
use Rattle.std.specs.declared.cmp.Ordering.{Ordering}
use Rattle.std.specs.declared.cmp.Ordering.TheVariants.{Greater}
use Rattle.i_tree.specs.Root.Ends.{StartsIn}
use Rattle.i_tree.proofs.RbLemmas.Shape.Contexts.{subtree_at-none}
use Rattle.i_tree.proofs.RbLemmas.SearchPath.Descent.{IsChosen, IsTop, cut_here, falls_left, falls_on, path_top, path_end}
use Rattle.i_tree.proofs.RbLemmas.SearchPath.Search.{takes_item, search_on}
use Rattle.i_tree.proofs.RbLemmas.SearchPath.Asked.{asked_top, asked_on, asked_all}
use Rattle.i_tree.proofs.RbLemmas.SearchPath.Counts.{compared_none, compared_more, compared_all}
use Rattle.i_tree.specs.Rb.Shape.{entries, left_at, right_at, occurs, rank, subtree_at}
use Rattle.i_tree.specs.Rb.Place.{place_below}
use Rattle.i_tree.specs.Root.Steps.{one_comparison}
use Rattle.i_tree.proofs.rb.search.search_down.Goals as goal

pub loop-here-init : goal.loop-here-init
loop-here-init g c =
    record {
      way = path_top _ _ _ c.args.core.now.shape c.root-here.result tt (record { live = c.root-here.ensures.live; is = c.root-here.ensures.part });
      asked = asked_top g.met.C.Counter.law (λ (value : g.row.T.Denot) (answer : Ordering). FnReturnsAt g.F.Fn c.args.f.now value answer) ⊤ c.args.core.now.shape c.args.steps.now _ c.root-here.ensures.part;
      counted = compared_none g.met.C.Counter.law c.args.steps.now _ _ (omega (arith, ap rank c.root-here.ensures.part));
    }

pub f-answer-requires : goal.f-answer-requires
f-answer-requires g c =
    let way = c.loop-here.invariant.way in
    takes_item (λ item. goal.F-pre g c.args.f.now item) (entries c.args.core.now.shape) _ c.loop-here.here c.item.result.now _
    (cut_here c.args.core.now.shape c.loop-here.here c.item.result.now c.item.ensures.value way.at) c.requires c.item.result refl

pub loop-here-smaller : goal.loop-here-smaller
loop-here-smaller g c =
    falls_on c.args.core.now.shape c.loop-here.here c.item.result.now c.item.ensures.value c.item.ensures.core.falls c.left-left.result c.right-right.result
    (record { live = c.left-left.ensures.live; is = c.left-left.ensures.part }) (record { live = c.right-right.ensures.live; is = c.right-right.ensures.part })
    c.is_le-on_right.result c.select-here.result (c.select-here.ensures.first, c.select-here.ensures.other)

pub loop-here-preserved : goal.loop-here-preserved
loop-here-preserved g c =
    let tree = c.args.core.now.shape in
    let here = c.loop-here.here in
    let on_left : IsTop tree (left_at here tree) c.left-left.result = record { live = c.left-left.ensures.live; is = c.left-left.ensures.part } in
    let on_right : IsTop tree (right_at here tree) c.right-right.result = record { live = c.right-right.ensures.live; is = c.right-right.ensures.part } in
    let chosen : IsChosen c.is_le-on_right.result c.right-right.result c.left-left.result c.select-here.result = (c.select-here.ensures.first, c.select-here.ensures.other) in
    let lower = falls_on tree here _ c.item.ensures.value c.item.ensures.core.falls c.left-left.result c.right-right.result on_left on_right c.is_le-on_right.result c.select-here.result chosen in
    record {
      way = search_on (λ (value : g.row.T.Denot) (answer : Ordering). FnReturnsAt g.F.Fn c.args.f.now value answer) (StartsIn (λ (entry : ℕ × g.row.T.Denot). FnReturnsAt g.F.Fn c.args.f.now entry.1 Greater)) (StartsIn (λ (entry : ℕ × g.row.T.Denot). FnReturnsAt g.F.Fn c.args.f.now entry.1 Greater)) tree here c.loop-here-test.true _ c.item.ensures.value c.left-left.result c.right-right.result on_left on_right
          (place_below c.loop-here.above c.loop-here.on_right) c.loop-here.found c.loop-here.said c.loop-here.invariant.way c.f-answer.result (says_at g.F.Fn c.f-answer.ensures refl) c.is_le-on_right.result c.is_le-on_right.ensures (λ _ back holds. holds) (λ _ above back. above)
          c.select-found.result c.select-said.result c.select-here.result (c.select-found.ensures.first, c.select-found.ensures.other) (c.select-said.ensures.first, c.select-said.ensures.other) chosen;
      asked = asked_on g.met.C.Counter.law (λ (value : g.row.T.Denot) (answer : Ordering). FnReturnsAt g.F.Fn c.args.f.now value answer) ⊤ tree tree here _ c.item.ensures.value c.left-left.result c.right-right.result on_left on_right
          c.f-answer.result (says_at g.F.Fn c.f-answer.ensures refl) c.is_le-on_right.result c.is_le-on_right.ensures c.select-here.result chosen _ c.loop-here.steps c.add_comparison.new.self c.loop-here.invariant.asked one_comparison c.add_comparison.ensures refl;
      counted = compared_more g.met.C.Counter.law _ c.loop-here.steps c.add_comparison.new.self _ _ _ c.loop-here.invariant.counted lower c.add_comparison.ensures;
    }

-- a leaf ends the path, as both its subtrees are empty
pub returns-then-right-clause-end : goal.returns-then-right-clause-end
returns-then-right-clause-end g c =
    let tree = c.args.core.now.shape in
    let here = c.loop-here.here in
    let left = c.left-left.result in
    let on_left : IsTop tree (left_at here tree) left = record { live = c.left-left.ensures.live; is = c.left-left.ensures.part } in
    let on_right : IsTop tree (right_at here tree) c.right-right.result = record { live = c.right-right.ensures.live; is = c.right-right.ensures.part } in
    let way = search_on (λ (value : g.row.T.Denot) (answer : Ordering). FnReturnsAt g.F.Fn c.args.f.now value answer) (StartsIn (λ (entry : ℕ × g.row.T.Denot). FnReturnsAt g.F.Fn c.args.f.now entry.1 Greater)) (StartsIn (λ (entry : ℕ × g.row.T.Denot). FnReturnsAt g.F.Fn c.args.f.now entry.1 Greater)) tree here c.loop-here-test.true _ c.item.ensures.value left c.right-right.result on_left on_right
    (place_below c.loop-here.above c.loop-here.on_right) c.loop-here.found c.loop-here.said c.loop-here.invariant.way c.f-answer.result (says_at g.F.Fn c.f-answer.ensures refl) c.is_le-on_right.result c.is_le-on_right.ensures (λ _ back holds. holds) (λ _ above back. above)
    c.select-found.result c.select-said.result left (c.select-found.ensures.first, c.select-found.ensures.other) (c.select-said.ensures.first, c.select-said.ensures.other) (λ _. c.if-left.true ∙ sym c.if-right.true, λ _. refl) in
    path_end _ _ _ tree left _ (c.select-found.result, c.select-said.result) (c.left-left.ensures.part ∙ c.left-left.ensures.empty c.if-left.true) way

pub returns-then-right-clause-steps : goal.returns-then-right-clause-steps
returns-then-right-clause-steps g c =
    let lower = falls_left _ c.loop-here.here c.item.result.now c.item.ensures.value c.left-left.result c.item.ensures.core.falls c.left-left.ensures.part in
    compared_all g.met.C.Counter.law _ c.args.steps.now c.add_comparison.new.self (rank (subtree_at c.left-left.result _)) c.root-here.ensures.core
    (compared_more g.met.C.Counter.law c.args.steps.now c.loop-here.steps c.add_comparison.new.self (rank _) (rank (subtree_at c.loop-here.here _)) (rank (subtree_at c.left-left.result _)) c.loop-here.invariant.counted lower c.add_comparison.ensures)

pub returns-after-loop-here-clause-end : goal.returns-after-loop-here-clause-end
returns-after-loop-here-clause-end g c =
    let tree = c.args.core.now.shape in
    let empty = subtree_at-none c.loop-here.here tree (ap (λ handle. occurs handle tree) c.loop-here-test.false ∙ c.root-here.ensures.core.handles.none_empty) in
    path_end _ _ _ tree c.loop-here.here _ (c.loop-here.found, c.loop-here.said) empty c.loop-here.invariant.way

pub returns-after-loop-here-clause-steps : goal.returns-after-loop-here-clause-steps
returns-after-loop-here-clause-steps g c =
    compared_all g.met.C.Counter.law c.args.core.now.shape c.args.steps.now c.loop-here.steps _ c.root-here.ensures.core c.loop-here.invariant.counted

pub returns-then-right-clause-asks : goal.returns-then-right-clause-asks
returns-then-right-clause-asks g c =
    let tree = c.args.core.now.shape in
    let here = c.loop-here.here in
    let left = c.left-left.result in
    let on_left : IsTop tree (left_at here tree) left = record { live = c.left-left.ensures.live; is = c.left-left.ensures.part } in
    let on_right : IsTop tree (right_at here tree) c.right-right.result = record { live = c.right-right.ensures.live; is = c.right-right.ensures.part } in
    let asked = asked_on g.met.C.Counter.law (λ (value : g.row.T.Denot) (answer : Ordering). FnReturnsAt g.F.Fn c.args.f.now value answer) ⊤ tree tree here c.item.result.now c.item.ensures.value left c.right-right.result on_left on_right
    c.f-answer.result (says_at g.F.Fn c.f-answer.ensures refl) c.is_le-on_right.result c.is_le-on_right.ensures left (λ _. c.if-left.true ∙ sym c.if-right.true, λ _. refl)
    c.args.steps.now c.loop-here.steps c.add_comparison.new.self c.loop-here.invariant.asked one_comparison c.add_comparison.ensures refl in
    asked_all g.met.C.Counter.law (λ (value : g.row.T.Denot) (answer : Ordering). FnReturnsAt g.F.Fn c.args.f.now value answer) ⊤ tree c.args.steps.now c.add_comparison.new.self (subtree_at left tree) (c.left-left.ensures.part ∙ c.left-left.ensures.empty c.if-left.true) tt asked

pub returns-after-loop-here-clause-asks : goal.returns-after-loop-here-clause-asks
returns-after-loop-here-clause-asks g c =
    let tree = c.args.core.now.shape in
    let empty = subtree_at-none c.loop-here.here tree (ap (λ handle. occurs handle tree) c.loop-here-test.false ∙ c.root-here.ensures.core.handles.none_empty) in
    asked_all g.met.C.Counter.law (λ (value : g.row.T.Denot) (answer : Ordering). FnReturnsAt g.F.Fn c.args.f.now value answer) ⊤ tree c.args.steps.now c.loop-here.steps (subtree_at c.loop-here.here tree) empty tt c.loop-here.invariant.asked
