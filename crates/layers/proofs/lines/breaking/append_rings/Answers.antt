use Rattle.std.proofs.Common.{arith}
use Rattle.layers.specs.LineParts.{real_ring}
use Rattle.overlay.specs.Rings.{rings_of}
use Rattle.layers.proofs.GatheredLemmas.{AreGathered-all, AreGathered-made, AreGathered-none}
use Rattle.overlay.proofs.EachRing.{rings-size}
use Rattle.layers.proofs.lines.breaking.append_rings.Goals as goal

pub loop-ring-init : goal.loop-ring-init
loop-ring-init g c = AreGathered-none c.args.edges.now.items c.args.ends.now.items

pub loop-ring-preserved : goal.loop-ring-preserved
loop-ring-preserved g c =
    let size = rings-size c.args.rings.points.now 0 c.args.rings.ends.now in
    let test = c.loop-ring-test.true in
    AreGathered-made real_ring (rings_of c.args.rings.points.now 0 c.args.rings.ends.now) c.loop-ring.ring _ _ _ _ _ _ c.len.result (omega (arith, size, test)) (rw c.ring_at.ensures at c.in_ok-append_real_ones.ensures) c.in_ok-push.ensures.items (omega (arith, c.len.ensures)) c.loop-ring.invariant

pub returns-clause-edges : goal.returns-clause-edges
returns-clause-edges g c =
    let size = rings-size c.args.rings.points.now 0 c.args.rings.ends.now in
    let past = c.loop-ring-test.false in
    (AreGathered-all real_ring (rings_of c.args.rings.points.now 0 c.args.rings.ends.now) c.loop-ring.ring _ _ _ _ (omega (arith, size, past)) c.loop-ring.invariant).0

pub returns-clause-ends : goal.returns-clause-ends
returns-clause-ends g c =
    let size = rings-size c.args.rings.points.now 0 c.args.rings.ends.now in
    let past = c.loop-ring-test.false in
    (AreGathered-all real_ring (rings_of c.args.rings.points.now 0 c.args.rings.ends.now) c.loop-ring.ring _ _ _ _ (omega (arith, size, past)) c.loop-ring.invariant).1
