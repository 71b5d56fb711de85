use Rattle.std.proofs.Common.{◌∙◌, ◌<◌, [], List, ap, arith, length, map, subst, sym}
use Rattle.std.proofs.lemmas.List.{get_or-map, length-map, take_all}
use Rattle.plane.specs.declared.edge.Edge.{Edge}
use Rattle.plane.specs.declared.point.Point.{Point}
use Rattle.overlay.specs.Rings.{rings_of}
use Rattle.overlay.proofs.EachRing.{rings-size}
use Rattle.offset.specs.Cuts.{IsCurve, IsCurveOfRing}
use Rattle.offset.specs.Faults.{IsRawFault}
use Rattle.offset.specs.Raw.{backwards, raw_edges, raw_of_ring}
use Rattle.offset.proofs.CutLemmas.Moved.{curves-more, curves-none}
use Rattle.offset.proofs.RawLemmas.{handed-on, made-fails}
use Rattle.offset.proofs.erosion.raw_of_rings_back.Goals as goal

pub returns-in_err-append_curve_of_ring-clause-fault : goal.returns-in_err-append_curve_of_ring-clause-fault
returns-in_err-append_curve_of_ring-clause-fault g c =
    let shape = c.args.shape.now in
    let rings = rings_of c.args.points.now 0 c.args.ends.now in
    let size = rings-size c.args.points.now 0 c.args.ends.now in
    let sized = length-map rings backwards in
    let fault = c.in_err-append_curve_of_ring.field-0.0 in
    let there = get_or-map backwards rings c.loop-ring.ring [] [] (omega (arith, size, c.loop-ring-test.true)) in
    handed-on c.from_residual-in_err-append_curve_of_ring.result _ (IsRawFault (raw_edges shape (map backwards rings))) c.from_residual-in_err-append_curve_of_ring.ensures.1
    (made-fails (raw_of_ring shape) (map backwards rings) c.loop-ring.ring [] fault (omega (arith, size, sized, c.loop-ring-test.true))
    (subst (λ (ring : List Point). IsRawFault (raw_of_ring shape ring) fault) (c.deref.ensures.value ∙ c.in_ok-back.ensures ∙ ap backwards c.ring_at.ensures ∙ sym there) c.in_err-append_curve_of_ring.ensures.fault))

pub loop-ring-init : goal.loop-ring-init
loop-ring-init g c = subst (λ (edges : List Edge). IsCurve c.args.shape.now [] edges) (sym c.in_ok-raw.ensures.items) (curves-none c.args.shape.now)

pub loop-ring-preserved : goal.loop-ring-preserved
loop-ring-preserved g c =
    let shape = c.args.shape.now in
    let rings = rings_of c.args.points.now 0 c.args.ends.now in
    let size = rings-size c.args.points.now 0 c.args.ends.now in
    let sized = length-map rings backwards in
    let there = get_or-map backwards rings c.loop-ring.ring [] [] (omega (arith, size, c.loop-ring-test.true)) in
    let (curve, is, more) = c.in_ok-append_curve_of_ring.ensures.ok in
    curves-more shape (map backwards rings) c.loop-ring.ring [] c.loop-ring.raw.items _ curve (omega (arith, size, sized, c.loop-ring-test.true)) c.loop-ring.invariant
    (subst (λ (ring : List Point). IsCurveOfRing shape ring curve) (c.deref.ensures.value ∙ c.in_ok-back.ensures ∙ ap backwards c.ring_at.ensures ∙ sym there) is) more

pub returns-clause-ok : goal.returns-clause-ok
returns-clause-ok g c =
    let rings = rings_of c.args.points.now 0 c.args.ends.now in
    let size = rings-size c.args.points.now 0 c.args.ends.now in
    let sized = length-map rings backwards in
    subst (λ (all : List (List Point)). IsCurve c.args.shape.now all c.loop-ring.raw.items) (take_all c.loop-ring.ring (map backwards rings) (omega (arith, size, sized, c.loop-ring-test.false))) c.loop-ring.invariant
