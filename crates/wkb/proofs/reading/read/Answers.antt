use Rattle.std.proofs.Common.{◌-◌, ◌<◌, length, arith}
use Rattle.wkb.proofs.RingLemmas.{one_more_shape}
use Rattle.wkb.proofs.reading.read.Goals as goal

pub loop-shape-preserved : goal.loop-shape-preserved
loop-shape-preserved g c = λ points ends shape_ends rest.
    let below : c.loop-shape.shape < length c.args.offsets.now - 1 = omega arith in
    c.loop-shape.invariant points ends shape_ends
    (one_more_shape c.args.grid.now c.args.most_nested c.args.bytes.now c.args.offsets.now (length c.args.offsets.now - 1) c.loop-shape.shape
    c.loop-shape.shapes.points.items c.append_next.new.shapes.points.items points c.loop-shape.shapes.ring_ends.items c.append_next.new.shapes.ring_ends.items ends c.loop-shape.shapes.shape_ends.items c.append_next.new.shapes.shape_ends.items shape_ends
    below c.in_ok-append_next.ensures.ok c.in_ok-append_next.ensures.shape_ends rest)
