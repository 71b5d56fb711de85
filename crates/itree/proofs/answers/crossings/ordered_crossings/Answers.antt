use Rattle.std.proofs.Common.{◌≡◌, ◌++◌, ◌∙◌, ℕ, List, map, ap, subst, arith, rules, IsPermutation}
use Rattle.std.proofs.lemmas.List.Sorted.{IsNonDecreasingBy-from_sort_by_key}
use Rattle.itree.specs.CrossingsLines.{edge_or_point, range_or_none}
use Rattle.itree.proofs.Crossings.{ordered_crossings}
use Rattle.plane.specs.Columns.Asked.{Reaches}
use Rattle.plane.specs.Pairs.Pairs.{ArePairs, ArePairsBetween}
use Rattle.plane.specs.SweepLine.Crossings.{Cross}
use Rattle.plane.specs.declared.columns.Asked.{Asked}
use Rattle.plane.specs.declared.edge.Edge.{Edge}
use Rattle.itree.proofs.answers.crossings.ordered_crossings.Goals as goal

pub returns : goal.returns
returns g c =
    let said = c.args.said.now in
    let now = c.sort_unstable_by_key.new.self.items in
    let crossed = c.in_ok-pairs.field-0.crossed.items in
    let met = c.in_ok-pairs.field-0.met.items in
    let edges : c.deref.result.now ≡ map edge_or_point said = c.deref.ensures.value ∙ c.in_ok-edges.ensures in
    let ranges : c.deref-2.result.now ≡ map range_or_none said = c.deref-2.ensures.value ∙ c.in_ok-ranges.ensures in
    let pairs_is = c.in_ok-pairs.pairs-is in
    let met_is = c.in_ok-pairs.met-is in
    let gained = c.in_ok-extend_from_slice.ensures.items in
    let value = c.deref-3.ensures.value in
    let all : c.extend_from_slice.new.self.items ≡ crossed ++ met = cc in
    let cross = subst (λ (items : List Edge). ArePairs Cross items crossed) edges c.in_ok-pairs.ensures.crossed in
    let reach = subst (λ (items : List Asked). ArePairsBetween Reaches (map edge_or_point said) items met) ranges
    (subst (λ (items : List Edge). ArePairsBetween Reaches items c.deref-2.result.now met) edges c.in_ok-pairs.ensures.met) in
    let rising = IsNonDecreasingBy-from_sort_by_key (λ (pair : ℕ × ℕ). pair.0) now c.sort_unstable_by_key.ensures.sorted (λ a r q k. search rules) in
    ordered_crossings said crossed met cross reach now (subst (λ (old : List (ℕ × ℕ)). IsPermutation old now) all c.sort_unstable_by_key.ensures.permutation)
    (λ i j d below within. rising i j d (omega (arith, below)) within)
