use Rattle.std.proofs.Common.{◌≡◌, ◌∙◌, [], List, map, subst, subst₂, sym}
use Rattle.std.proofs.lemmas.Result.{IfErr-weaker, IfOk-weaker}
use Rattle.plane.specs.declared.point.Point.{Point}
use Rattle.noding.specs.Offsets.{AreJoined}
use Rattle.overlay.specs.Boundary.{IsBoundary}
use Rattle.overlay.specs.Rings.{edges_of, real_edges, rings_of}
use Rattle.overlay.specs.declared.fill.rules.Operation.TheVariants.{Union}
use Rattle.overlay.proofs.Callers.{AreEnds-joined, rings-joined}
use Rattle.offset.specs.Cuts.{IsCurve}
use Rattle.offset.specs.Faults.{IsRawFault}
use Rattle.offset.specs.Minkowski.{IsErosionFault}
use Rattle.offset.specs.Raw.{backwards, raw_edges}
use Rattle.offset.specs.Shape.{IsConvexAroundOrigin, opposite_shape}
use Rattle.offset.proofs.OppositeLemmas.{convex-opposite}
use Rattle.offset.proofs.RawLemmas.{handed-on}
use Rattle.offset.proofs.WoundLemmas.{fails-turned, fails-within}
use Rattle.offset.proofs.erosion.raw_within.Goals as goal

pub raw_of_rings_back-requires-clause-ends : goal.raw_of_rings_back-requires-clause-ends
raw_of_rings_back-requires-clause-ends g c =
    let (rings, _, joined) = c.in_ok-points.ensures.ok in
    AreEnds-joined rings c.deref-2.result.now c.deref-3.result.now
    (subst₂ (AreJoined rings) (sym c.deref-2.ensures.value) (sym c.deref-3.ensures.value) joined)

pub raw_of_rings_back-requires-clause-shape : goal.raw_of_rings_back-requires-clause-shape
raw_of_rings_back-requires-clause-shape g c =
    subst IsConvexAroundOrigin (sym (c.deref.ensures.value ∙ c.in_ok-turned.ensures.ok)) (convex-opposite c.args.shape.now c.requires.shape)

-- the rings that were made are those of the points
pub returns-clause-ok : goal.returns-clause-ok
returns-clause-ok g c =
    let shape = c.args.shape.now in
    let edges = edges_of c.args.polygons in
    let turned : c.deref.result.now ≡ opposite_shape shape = c.deref.ensures.value ∙ c.in_ok-turned.ensures.ok in
    let (rings, bounds, joined) = c.in_ok-points.ensures.ok in
    let same = rings-joined rings c.deref-2.result.now c.deref-3.result.now
    (subst₂ (AreJoined rings) (sym c.deref-2.ensures.value) (sym c.deref-3.ensures.value) joined) in
    IfOk-weaker c.raw_of_rings_back.result (λ raw. IsCurve c.deref.result.now (map backwards (rings_of c.deref-2.result.now 0 c.deref-3.result.now)) raw.items)
    (λ raw. (rings : List (List Point)) × IsBoundary c.args.rule Union (real_edges edges) [] rings × IsCurve (opposite_shape shape) (map backwards rings) raw.items)
    (λ raw found. (rings, bounds, subst₂ (λ (corners : List Point) (all : List (List Point)). IsCurve corners (map backwards all) raw.items) turned same found)) c.raw_of_rings_back.ensures.ok

pub returns-clause-fault : goal.returns-clause-fault
returns-clause-fault g c =
    let shape = c.args.shape.now in
    let edges = edges_of c.args.polygons in
    let turned : c.deref.result.now ≡ opposite_shape shape = c.deref.ensures.value ∙ c.in_ok-turned.ensures.ok in
    let (rings, bounds, joined) = c.in_ok-points.ensures.ok in
    let same = rings-joined rings c.deref-2.result.now c.deref-3.result.now
    (subst₂ (AreJoined rings) (sym c.deref-2.ensures.value) (sym c.deref-3.ensures.value) joined) in
    IfErr-weaker c.raw_of_rings_back.result (IsRawFault (raw_edges c.deref.result.now (map backwards (rings_of c.deref-2.result.now 0 c.deref-3.result.now)))) (IsErosionFault c.args.rule edges shape)
    (λ fault fails. fails-within c.args.rule edges shape rings bounds fault (subst₂ (λ (corners : List Point) (all : List (List Point)). IsRawFault (raw_edges corners (map backwards all)) fault) turned same fails)) c.raw_of_rings_back.ensures.fault

pub returns-in_err-turned-clause-fault : goal.returns-in_err-turned-clause-fault
returns-in_err-turned-clause-fault g c =
    handed-on c.from_residual.result _ (IsErosionFault c.args.rule (edges_of c.args.polygons) c.args.shape.now) c.from_residual.ensures.1
    (fails-turned c.args.rule (edges_of c.args.polygons) c.args.shape.now c.in_err-turned.field-0.0 c.in_err-turned.ensures.fault)
