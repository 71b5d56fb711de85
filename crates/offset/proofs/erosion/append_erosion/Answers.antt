use Rattle.std.proofs.Common.{[], List, append-nil, map, subst, sym}
use Rattle.plane.specs.declared.edge.Edge.{Edge}
use Rattle.noding.specs.Windings.{IsClosed}
use Rattle.plane.proofs.PairsLemmas.Extends.{Extends-same, OnErr-always}
use Rattle.overlay.specs.Rings.{edges_of}
use Rattle.offset.specs.Cuts.{IsCurve}
use Rattle.offset.specs.Minkowski.{IsErosionFault}
use Rattle.offset.specs.Raw.{backwards}
use Rattle.offset.specs.Shape.{opposite_shape}
use Rattle.offset.proofs.RawLemmas.{handed-on}
use Rattle.offset.proofs.WoundLemmas.{shrunk}
use Rattle.offset.proofs.ErosionLemmas.{inside-closed}
use Rattle.offset.proofs.erosion.append_erosion.Goals as goal

pub append_wound-requires : goal.append_wound-requires
append_wound-requires g c =
    let (rings, bounds, is) = c.in_ok-raw.ensures.ok in
    subst IsClosed (sym c.deref.ensures.value) (inside-closed c.args.shape.now c.requires.shape rings _ is bounds.bounds.two_ends)

pub returns-clause-ok : goal.returns-clause-ok
returns-clause-ok g c =
    let (rings, bounds, is) = c.in_ok-raw.ensures.ok in
    let (polygons, wound, appended) = c.in_ok-append_wound.ensures.ok in
    (polygons, shrunk c.args.rule (edges_of c.args.polygons) c.args.shape.now c.requires.shape rings c.deref.result.now polygons bounds (subst (λ (raw : List Edge). IsCurve (opposite_shape c.args.shape.now) (map backwards rings) raw) (sym c.deref.ensures.value) is) wound, appended)

pub returns-in_err-raw-clause-fault : goal.returns-in_err-raw-clause-fault
returns-in_err-raw-clause-fault g c =
    handed-on c.from_residual-in_err-raw.result _ (IsErosionFault c.args.rule (edges_of c.args.polygons) c.args.shape.now) c.from_residual-in_err-raw.ensures.1 c.in_err-raw.ensures.fault

pub returns-in_err-raw-clause-err : goal.returns-in_err-raw-clause-err
returns-in_err-raw-clause-err g c =
    let out = c.args.out.now in
    OnErr-always c.from_residual-in_err-raw.result _ (Extends-same out.points.items, Extends-same out.ring_ends.items, Extends-same out.polygon_ends.items)
