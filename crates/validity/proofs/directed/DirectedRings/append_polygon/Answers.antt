use Rattle.std.proofs.Common.{◌++◌, ◌∷◌, [], ◌∙◌, ◌<◌, List, length, ap, append_assoc, eqb, subst, sym, arith}
use Rattle.std.specs.List.{between}
use Rattle.plane.specs.declared.point.Point.{Point}
use Rattle.noding.specs.Offsets.{AreJoined}
use Rattle.overlay.proofs.EachRing.{rings-size}
use Rattle.validity.specs.Given.{directed, rings_at, turned}
use Rattle.validity.proofs.Directing.{directed-step}
use Rattle.validity.proofs.directed.DirectedRings.append_polygon.Goals as goal

pub loop-ring-preserved : goal.loop-ring-preserved
loop-ring-preserved g c = λ before joined.
    let rings = rings_at c.args.rings in
    let at = c.loop-ring.ring in
    let so_far = directed (between c.args.first at rings) in
    let size = rings-size c.args.rings.points.now 0 c.args.rings.ends.now in
    let inside = c.requires.within in
    let more = c.loop-ring-test.true in
    subst (λ (list : List (List Point)). AreJoined list c.append_ring.new.self.points.items c.append_ring.new.self.ends.items)
    (append_assoc before so_far (turned (eqb at c.args.first) c.ring_at.result.now ∷ [])
    ∙ ap (λ (list : List (List Point)). before ++ list)
    (ap (λ (ring : List Point). so_far ++ turned (eqb at c.args.first) ring ∷ []) c.ring_at.ensures
    ∙ sym (directed-step rings c.args.first at c.loop-ring.auto.ring (let inner : at < length rings = omega (arith, size, inside, more) in inner))))
    (c.in_ok-append_ring.ensures (before ++ so_far) (c.loop-ring.invariant before joined))
