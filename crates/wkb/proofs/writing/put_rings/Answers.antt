use Rattle.std.proofs.Common.{List, ◌≡◌, ◌++◌, ◌-◌, ◌+◌, ap, ◌∙◌, arith}
use Rattle.grid.specs.declared.position.Position.{Position}
use Rattle.wkb.specs.Spelling.{ring, ring_of}
use Rattle.wkb.proofs.Pieces.{one_piece_more}
use Rattle.wkb.proofs.writing.put_rings.Goals as goal

pub loop-index-preserved : goal.loop-index-preserved
loop-index-preserved g c =
    let after : c.loop-index.index + 1 - c.args.start ≡ c.loop-index.index - c.args.start + 1 = omega arith in
    one_piece_more ring (ring_of c.args.positions.now c.args.ring_ends.now) c.args.start (c.loop-index.index - c.args.start) c.loop-index.index (c.loop-index.index + 1 - c.args.start) c.args.bytes.now.items c.loop-index.bytes.items c.put_ring.new.bytes.items
    (omega arith) after c.loop-index.invariant (c.in_ok-put_ring.ensures ∙ ap (λ (p : List Position). c.loop-index.bytes.items ++ ring p) c.ring_of-positions_of_ring.ensures.value)
