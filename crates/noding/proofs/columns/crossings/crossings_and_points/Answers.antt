use Rattle.std.proofs.Common.{ℕ, List, subst}
use Rattle.noding.specs.Crossings.{AreCrossed}
use Rattle.noding.proofs.ChainLemmas.Between.{AreAllCrossed-paired}
use Rattle.noding.proofs.columns.crossings.crossings_and_points.Goals as goal

pub returns-clause-ok : goal.returns-clause-ok
returns-clause-ok g c =
    let edges = c.args.edges.now in
    let pairs = c.in_ok-crossed.field-0.crossed.items in
    let crossings = c.in_ok-crossings.crossings.items in
    AreAllCrossed-paired edges pairs crossings c.in_ok-crossed.ensures.ok (subst (λ (among : List (ℕ × ℕ)). AreCrossed edges among crossings) c.deref.ensures.value c.in_ok-crossings.ensures)
