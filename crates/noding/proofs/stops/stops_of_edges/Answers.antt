use Rattle.std.proofs.Common.{◌∙◌, ℕ, List, subst, sym}
use Rattle.noding.specs.Crossings.{AreCrossed}
use Rattle.noding.proofs.stops.stops_of_edges.Goals as goal

pub stops_of_pairs-requires-clause-crossed : goal.stops_of_pairs-requires-clause-crossed
stops_of_pairs-requires-clause-crossed g c =
    let crossed = subst (λ (pairs : List (ℕ × ℕ)). AreCrossed c.args.edges.now pairs c.in_ok-crossings.crossings.items) (c.deref.ensures.value ∙ sym c.deref-2.ensures.value) c.in_ok-crossings.ensures in
    subst (AreCrossed c.args.edges.now c.deref-2.result.now) (sym c.deref-3.ensures.value) crossed
