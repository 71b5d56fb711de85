use Rattle.std.proofs.Common.{[], List, subst, subst₂, sym}
use Rattle.std.proofs.lemmas.Result.{IfErr-weaker, IfOk-weaker}
use Rattle.plane.specs.declared.point.Point.{Point}
use Rattle.noding.specs.Offsets.{AreJoined}
use Rattle.overlay.specs.Boundary.{IsBoundary}
use Rattle.overlay.specs.Rings.{edges_of, real_edges, rings_of}
use Rattle.overlay.specs.declared.fill.rules.Operation.TheVariants.{Union}
use Rattle.overlay.proofs.Callers.{AreEnds-joined, rings-joined}
use Rattle.offset.specs.Cuts.{IsCurve}
use Rattle.offset.specs.Faults.{IsRawFault}
use Rattle.offset.specs.Minkowski.{IsSumFault}
use Rattle.offset.specs.Raw.{raw_edges}
use Rattle.offset.proofs.WoundLemmas.{fails-so}
use Rattle.offset.proofs.sum.raw_around.Goals as goal

pub raw_of_rings-requires-clause-ends : goal.raw_of_rings-requires-clause-ends
raw_of_rings-requires-clause-ends g c =
    let (rings, _, joined) = c.in_ok-points.ensures.ok in
    AreEnds-joined rings c.deref.result.now c.deref-2.result.now
    (subst₂ (AreJoined rings) (sym c.deref.ensures.value) (sym c.deref-2.ensures.value) joined)

-- the rings that were made are those of the points
pub returns-clause-ok : goal.returns-clause-ok
returns-clause-ok g c =
    let shape = c.args.shape.now in
    let edges = edges_of c.args.polygons in
    let (rings, bounds, joined) = c.in_ok-points.ensures.ok in
    let same = rings-joined rings c.deref.result.now c.deref-2.result.now
    (subst₂ (AreJoined rings) (sym c.deref.ensures.value) (sym c.deref-2.ensures.value) joined) in
    IfOk-weaker c.raw_of_rings.result (λ raw. IsCurve shape (rings_of c.deref.result.now 0 c.deref-2.result.now) raw.items)
    (λ raw. (rings : List (List Point)) × IsBoundary c.args.rule Union (real_edges edges) [] rings × IsCurve shape rings raw.items)
    (λ raw found. (rings, bounds, subst (λ (all : List (List Point)). IsCurve shape all raw.items) same found)) c.raw_of_rings.ensures.ok

pub returns-clause-fault : goal.returns-clause-fault
returns-clause-fault g c =
    let shape = c.args.shape.now in
    let edges = edges_of c.args.polygons in
    let (rings, bounds, joined) = c.in_ok-points.ensures.ok in
    let same = rings-joined rings c.deref.result.now c.deref-2.result.now
    (subst₂ (AreJoined rings) (sym c.deref.ensures.value) (sym c.deref-2.ensures.value) joined) in
    IfErr-weaker c.raw_of_rings.result (IsRawFault (raw_edges shape (rings_of c.deref.result.now 0 c.deref-2.result.now))) (IsSumFault c.args.rule edges shape)
    (λ fault fails. fails-so c.args.rule edges shape rings bounds fault (subst (λ (all : List (List Point)). IsRawFault (raw_edges shape all) fault) same fails)) c.raw_of_rings.ensures.fault
