use Rattle.std.proofs.Common.{◌∙◌, ◌<◌, ℕ, List, length, subst, subst₂, sym}
use Rattle.std.specs.List.{All}
use Rattle.plane.specs.declared.point.Point.{Point}
use Rattle.noding.specs.Columns.Ends.{AreEnds, HaveAllOn, LiesAtEnd}
use Rattle.noding.specs.Crossings.{AreAllCrossed}
use Rattle.noding.proofs.ChainLemmas.Between.{within-all_crossed}
use Rattle.noding.proofs.local.nodes_by_columns.Goals as goal

pub are_at_ends-requires : goal.are_at_ends-requires
are_at_ends-requires g c =
    subst (All (λ crossing. (crossing.one < length c.args.edges.now) × (crossing.other < length c.args.edges.now))) (sym c.deref-2.ensures.value)
    (within-all_crossed c.args.edges.now c.in_ok-crossings.field-0.crossings.items c.in_ok-crossings.ensures.ok)

pub nodes_at_ends-requires-clause-crossed : goal.nodes_at_ends-requires-clause-crossed
nodes_at_ends-requires-clause-crossed g c = subst (AreAllCrossed c.args.edges.now) (sym c.deref-then-are_at_ends.ensures.value) c.in_ok-crossings.ensures.ok

pub nodes_at_ends-requires-clause-at_ends : goal.nodes_at_ends-requires-clause-at_ends
nodes_at_ends-requires-clause-at_ends g c = subst (All (LiesAtEnd c.args.edges.now)) (c.deref-2.ensures.value ∙ sym c.deref-then-are_at_ends.ensures.value) c.if-are_at_ends.ensures

pub nodes_at_ends-requires-clause-ends : goal.nodes_at_ends-requires-clause-ends
nodes_at_ends-requires-clause-ends g c = subst (AreEnds c.args.edges.now) (sym c.deref-then-are_at_ends-2.ensures.value) c.in_ok-ends.ensures

pub nodes_at_ends-requires-clause-on : goal.nodes_at_ends-requires-clause-on
nodes_at_ends-requires-clause-on g c =
    subst₂ (HaveAllOn c.args.edges.now) (c.deref.ensures.value ∙ sym c.deref-then-are_at_ends-2.ensures.value) (sym c.deref-then-are_at_ends-3.ensures.value) c.in_ok-crossings.ensures.on

pub nodes_at_ends-requires-clause-within : goal.nodes_at_ends-requires-clause-within
nodes_at_ends-requires-clause-within g c =
    subst₂ (λ (points : List Point) (pairs : List (ℕ × ℕ)). All (λ pair. (pair.0 < length c.args.edges.now) × (pair.1 < length points)) pairs)
    (c.deref.ensures.value ∙ sym c.deref-then-are_at_ends-2.ensures.value) (sym c.deref-then-are_at_ends-3.ensures.value) c.in_ok-crossings.ensures.within

pub nodes_in_rounds-requires-clause-ends : goal.nodes_in_rounds-requires-clause-ends
nodes_in_rounds-requires-clause-ends g c = subst (AreEnds c.args.edges.now) (sym c.deref-4.ensures.value) c.in_ok-ends.ensures

pub nodes_in_rounds-requires-clause-on : goal.nodes_in_rounds-requires-clause-on
nodes_in_rounds-requires-clause-on g c =
    subst₂ (HaveAllOn c.args.edges.now) (c.deref.ensures.value ∙ sym c.deref-4.ensures.value) (sym c.deref-5.ensures.value) c.in_ok-crossings.ensures.on
