use Rattle.std.proofs.Common.{◌∙◌, ℕ, List, map, subst}
use Rattle.std.specs.List.{All}
use Rattle.plane.specs.Columns.Asked.{Reaches}
use Rattle.plane.specs.Pairs.Pairs.{ArePairsBetween, PairBetween}
use Rattle.plane.specs.declared.columns.Asked.{Asked}
use Rattle.plane.specs.declared.edge.Edge.{Edge}
use Rattle.noding.specs.Close.{PassesPoint}
use Rattle.noding.specs.Columns.Passing.{AreKept, HasHeights, swept_edge}
use Rattle.noding.proofs.ColumnLemmas.PassingPairs.{ArePassed-kept}
use Rattle.noding.proofs.columns.passing.append_passed.Goals as goal

pub returns-clause-ok : goal.returns-clause-ok
returns-clause-ok g c =
    let steep = c.args.steep in
    let edges = c.args.edges.now in
    let points = c.args.points.now in
    let met = c.in_ok-found.found.met.items in
    let (kept, appended, are) = c.in_ok-append_if_passed.ensures in
    let swept_is = c.deref.ensures.value ∙ c.in_ok-swept.ensures.value in
    let asked_is = c.deref-2.ensures.value ∙ c.in_ok-asked.ensures in
    let heights = subst (All HasHeights) c.in_ok-swept.ensures.value c.in_ok-swept.ensures.heights in
    let told = subst (λ (asked : List Asked). ArePairsBetween Reaches (map (swept_edge steep) edges) asked met) asked_is
    (subst (λ (swept : List Edge). ArePairsBetween Reaches swept c.deref-2.result.now met) swept_is c.in_ok-found.ensures.met) in
    let are_kept = subst (λ (pairs : List (ℕ × ℕ)). AreKept (PairBetween PassesPoint edges points) pairs kept) c.deref-3.ensures.value are in
    (kept, appended, ArePassed-kept steep edges points met kept heights told are_kept)
