use Rattle.std.proofs.Common.{◌++◌, [], List, get_or, ap, sym, ◌∙◌, arith}
use Rattle.overlay.specs.Contours.Rings.{ring_edges}
use Rattle.overlay.specs.Fill.Turned.{turned}
use Rattle.overlay.specs.Grouping.{pieces_of}
use Rattle.overlay.specs.Rings.{rings_of}
use Rattle.overlay.specs.declared.fill.pieces.Operand.TheVariants.{Subject}
use Rattle.overlay.specs.declared.fill.pieces.Piece.{Piece}
use Rattle.plane.specs.declared.point.Point.{Point}
use Rattle.overlay.proofs.EachRing.{rings-size}
use Rattle.overlay.proofs.GroupingLemmas.Edges.{turned_ring}
use Rattle.overlay.proofs.grouping.sides.all_sides.Goals as goal

pub loop-ring-preserved : goal.loop-ring-preserved
loop-ring-preserved g c =
    let points = c.args.points.now in
    let ends = c.args.ends.now in
    let k = c.loop-ring.ring in
    let (pieces, of) = c.loop-ring.invariant in
    let inside = c.loop-ring-test.true in
    let size = rings-size points 0 ends in (
      c.in_ok-append_sides.ensures.pieces ∙ ap (λ (ring : List Point). pieces_of c.loop-ring.sides.items ++ turned Subject (ring_edges ring)) c.ring_at.ensures ∙ ap (λ (list : List Piece). list ++ turned Subject (ring_edges (get_or (rings_of points 0 ends) k []))) pieces ∙ sym (turned_ring points ends k inside),
      c.in_ok-append_sides.ensures.of (rings_of points 0 ends) (omega (arith, inside, size)) c.ring_at.ensures of,
    )
