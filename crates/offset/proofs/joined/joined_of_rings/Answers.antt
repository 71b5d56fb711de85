use Rattle.std.proofs.Common.{◌≡◌, ◌∙◌, ◌<◌, ◌++◌, [], List, ap, arith, length, subst}
use Rattle.std.specs.List.{flat_map}
use Rattle.plane.specs.declared.edge.Edge.{Edge}
use Rattle.plane.specs.declared.point.Point.{Point}
use Rattle.overlay.specs.Rings.{rings_of}
use Rattle.overlay.proofs.EachRing.{rings-size, rings_all}
use Rattle.offset.specs.Faults.{IsRawFault}
use Rattle.offset.specs.Joins.{joined_edges, joined_of_ring}
use Rattle.offset.proofs.RawLemmas.{handed-on, made-fails, made-more}
use Rattle.offset.proofs.joined.joined_of_rings.Goals as goal

pub returns-in_err-append_joined_of_ring-clause-fault : goal.returns-in_err-append_joined_of_ring-clause-fault
returns-in_err-append_joined_of_ring-clause-fault g c =
    let shape = c.args.shape.now in
    let rings = rings_of c.args.points.now 0 c.args.ends.now in
    let size = rings-size c.args.points.now 0 c.args.ends.now in
    handed-on c.from_residual-in_err-append_joined_of_ring.result _ (IsRawFault (joined_edges c.args.join shape rings)) c.from_residual-in_err-append_joined_of_ring.ensures.1
    (made-fails (joined_of_ring c.args.join shape) rings c.loop-ring.ring [] _ (omega (arith, size, c.loop-ring-test.true))
    (subst (λ (ring : List Point). IsRawFault (joined_of_ring c.args.join shape ring) c.in_err-append_joined_of_ring.field-0.0) c.ring_at.ensures c.in_err-append_joined_of_ring.ensures.fault))

pub loop-ring-preserved : goal.loop-ring-preserved
loop-ring-preserved g c =
    let shape = c.args.shape.now in
    let rings = rings_of c.args.points.now 0 c.args.ends.now in
    let size = rings-size c.args.points.now 0 c.args.ends.now in
    c.in_ok-append_joined_of_ring.ensures.ok
    ∙ ap (λ (ring : List Point). c.loop-ring.raw.items ++ joined_of_ring c.args.join shape ring) c.ring_at.ensures
    ∙ made-more (joined_of_ring c.args.join shape) rings c.loop-ring.ring [] [] c.loop-ring.raw.items (omega (arith, size, c.loop-ring-test.true)) c.loop-ring.invariant

pub returns-clause-ok : goal.returns-clause-ok
returns-clause-ok g c =
    c.loop-ring.invariant ∙ ap (λ (all : List (List Point)). flat_map (joined_of_ring c.args.join c.args.shape.now) all) (rings_all c.args.points.now c.args.ends.now c.loop-ring.ring c.loop-ring-test.false)
