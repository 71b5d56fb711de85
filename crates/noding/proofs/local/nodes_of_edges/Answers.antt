use Rattle.std.proofs.Common.{◌∙◌, ℕ, List, subst, sym}
use Rattle.noding.specs.Crossings.{AreAllCrossed, AreCrossed}
use Rattle.noding.proofs.ChainLemmas.Between.{AreAllCrossed-paired, HaveAllCrossed-close}
use Rattle.noding.proofs.local.nodes_of_edges.Goals as goal

pub stops_of_pairs-requires-clause-crossed : goal.stops_of_pairs-requires-clause-crossed
stops_of_pairs-requires-clause-crossed g c =
    let crossed = subst (λ (pairs : List (ℕ × ℕ)). AreCrossed c.args.edges.now pairs c.in_ok-crossings.crossings.items) (c.deref.ensures.value ∙ sym c.deref-2.ensures.value) c.in_ok-crossings.ensures in
    subst (AreCrossed c.args.edges.now c.deref-2.result.now) (sym c.deref-3.ensures.value) crossed

pub nodes_of_stops-requires-clause-crossed : goal.nodes_of_stops-requires-clause-crossed
nodes_of_stops-requires-clause-crossed g c =
    let edges = c.args.edges.now in
    let pairs = c.in-Some.pairs.items in
    let crossings = c.in_ok-crossings.crossings.items in
    let crossed = subst (λ (among : List (ℕ × ℕ)). AreCrossed edges among crossings) c.deref.ensures.value c.in_ok-crossings.ensures in
    subst (AreAllCrossed edges) (sym c.deref-4.ensures.value) (AreAllCrossed-paired edges pairs crossings (HaveAllCrossed-close edges pairs (rw c.in-Some.is at c.in_ok-pairs.ensures.ok)) crossed)
