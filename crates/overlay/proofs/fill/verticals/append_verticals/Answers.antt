use Rattle.std.proofs.Common.{◌≡◌, ◌++◌, ◌≤ℤ◌, List, negsuc, pos, All, IsPermutation, ap, drop, map, ◌∙◌, subst, sym, rules}
use Rattle.std.specs.List.{flat_map}
use Rattle.std.specs.Ordering.{is_lt}
use Rattle.std.proofs.lemmas.List.Sorted.{All-permutation, IsPermutation-trans, answers_always, ranks_by}
use Rattle.std.proofs.lemmas.Result.{on_ok_weaker}
use Rattle.plane.specs.declared.edge.Edge.{Edge}
use Rattle.overlay.specs.Fill.Verticals.{before_all, both_ends, left_end, right_end, verticals_between}
use Rattle.overlay.specs.contracts.fill.verticals.EndOrd.TheImpl.{ghosts as end_order}
use Rattle.overlay.specs.contracts.fill.verticals.EndOrd.TheImpl.Laws.{total-law as end_total}
use Rattle.overlay.specs.declared.fill.verticals.End.{End}
use Rattle.overlay.proofs.VerticalLemmas.Closing.{AreVerticalsOf-sorted}
use Rattle.overlay.proofs.VerticalLemmas.Ends.{left_first}
use Rattle.overlay.proofs.VerticalLemmas.Order.{changes_small, rest_is}
use Rattle.overlay.proofs.fill.verticals.append_verticals.Goals as goal

-- the ends sorted are those of the edges
moved : (edges : List Edge) (made sorted : List End) → made ≡ map left_end edges ++ map right_end edges → IsPermutation made sorted → IsPermutation (flat_map both_ends edges) sorted
moved edges made sorted is permutation =
    IsPermutation-trans (flat_map both_ends edges) (map left_end edges ++ map right_end edges) sorted (left_first edges) (subst (λ (list : List End). IsPermutation list sorted) is permutation)

pub push_verticals-requires : goal.push_verticals-requires
push_verticals-requires g c =
    let sloped : List Edge = drop c.args.first c.args.edges.now.items in
    let ends : List End = c.sort_in_buckets.new.items.items in
    let is = rest_is c.args.first c.deref.result.now ∙ ap (λ (list : List Edge). drop c.args.first list) c.deref.ensures.value in
    let made = c.in_ok-ends.ensures ∙ ap (λ (edges : List Edge). map left_end edges ++ map right_end edges) is in
    subst (λ (list : List End). All (λ end. (negsuc 0 ≤ℤ end.change) × (end.change ≤ℤ pos 1)) list) (sym c.deref-2.ensures.value)
    (All-permutation (λ (end : End). (negsuc 0 ≤ℤ end.change) × (end.change ≤ℤ pos 1)) (flat_map both_ends sloped) ends (moved sloped _ ends made c.sort_in_buckets.ensures.permutation) (changes_small sloped))

pub returns-clause-ok : goal.returns-clause-ok
returns-clause-ok g c =
    let sloped : List Edge = drop c.args.first c.args.edges.now.items in
    let ends : List End = c.sort_in_buckets.new.items.items in
    let is = rest_is c.args.first c.deref.result.now ∙ ap (λ (list : List Edge). drop c.args.first list) c.deref.ensures.value in
    let made = c.in_ok-ends.ensures ∙ ap (λ (edges : List Edge). map left_end edges ++ map right_end edges) is in
    let are = AreVerticalsOf-sorted sloped c.requires.bound ends (moved sloped _ ends made c.sort_in_buckets.ensures.permutation) (c.in_ok-sort_in_buckets.ensures.sorted (λ a b. is_lt (end_order.cmp a b)) (ranks_by end_total (λ it. it)) (answers_always _ _ _ (λ f a r f' called. search rules))) in
    on_ok_weaker c.push_verticals.result
    (λ is. (verticals_between (pos 0) before_all ends, is ∙ ap (λ (list : List End). c.args.edges.now.items ++ verticals_between (pos 0) before_all list) c.deref-2.ensures.value, are))
    c.push_verticals.ensures.ok
