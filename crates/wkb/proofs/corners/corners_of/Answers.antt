use Rattle.std.proofs.Common.{◌<◌, ◌-◌, length, arith}
use Rattle.wkb.proofs.CornersLemmas.{one_more_shape}
use Rattle.wkb.proofs.corners.corners_of.Goals as goal

pub loop-shape-preserved : goal.loop-shape-preserved
loop-shape-preserved g c =
    let lt : c.loop-shape.shape < length c.args.offsets.now - 1 = omega arith in
    record {
      finite = c.in_ok-append_next.ensures.finite;
      so_far = λ positions rest. c.loop-shape.invariant.so_far positions (one_more_shape c.args.most_nested c.args.bytes.now c.args.offsets.now (length c.args.offsets.now - 1) c.loop-shape.shape c.loop-shape.positions.items c.append_next.new.positions.items positions lt c.in_ok-append_next.ensures.ok rest);
    }
