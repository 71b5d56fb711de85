use Rattle.std.proofs.Common.{◌≡◌, ◌∙◌, ◌++◌, ℕ, List, ap, subst, subst₂}
use Rattle.std.specs.List.Sorted.{IsPermutation}
use Rattle.plane.specs.Pairs.Points.{AreAll}
use Rattle.layers.specs.declared.around.chains.Chain.{Chain}
use Rattle.layers.specs.declared.around.placed.Placed.{Placed}
use Rattle.layers.specs.Chains.{LiesInChains}
use Rattle.layers.specs.Shapes.{edges_of_each}
use Rattle.layers.proofs.AroundLemmas.AllPoints.{ArePairsIn-sorted, on_ok}
use Rattle.layers.proofs.around.append_pairs_in.Goals as goal

pub returns-clause-ok : goal.returns-clause-ok
returns-clause-ok g c =
    let rule = c.args.rule in
    let border = c.args.border in
    let group = c.in_ok-group.group.items in
    let chains = c.in_ok-chains.chains.items in
    let sorted = c.sort_unstable.new.self.items in
    let (pairs, is, all) = c.in_ok-append_of_group.ensures in
    let all_are = subst₂ (λ (some : List Placed) (others : List Chain). AreAll (LiesInChains rule border some others) pairs) c.deref.ensures.value c.deref-2.ensures.value all in
    let listed : c.append_of_group.new.pairs.items ≡ pairs = is ∙ ap (λ (list : List (ℕ × ℕ)). list ++ pairs) c.new-pairs.ensures.items in
    on_ok c.extend_from_slice.result c.extend_from_slice.new.self.items (c.args.out.now.items ++ c.deref-3.result.now) c.args.out.now.items c.extend_from_slice.ensures.items (λ items. (
      sorted,
      items ∙ ap (λ (list : List (ℕ × ℕ)). c.args.out.now.items ++ list) c.deref-3.ensures.value,
      ArePairsIn-sorted rule border c.args.points.now group (edges_of_each c.args.shapes) chains c.in_ok-group.ensures c.in_ok-chains.ensures pairs sorted all_are
          (subst (λ (list : List (ℕ × ℕ)). IsPermutation list sorted) listed c.sort_unstable.ensures.permutation) c.sort_unstable.ensures.sorted,
    ))
