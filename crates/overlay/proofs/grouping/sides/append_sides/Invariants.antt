use Rattle.std.proofs.Common.{◌≡◌, ◌<◌, ◌++◌, [], List, drop, get_or, length}
use Rattle.std.specs.List.{All}
use Rattle.plane.specs.declared.point.Point.{Point}
use Rattle.overlay.specs.declared.fill.pieces.Operand.TheVariants.{Subject}
use Rattle.overlay.specs.Contours.Outlines.{ring_point}
use Rattle.overlay.specs.Contours.Rings.{ring_edges}
use Rattle.overlay.specs.Fill.Turned.{turned}
use Rattle.overlay.specs.Grouping.{IsSideOf, edges_from, pieces_of}
use Rattle.overlay.proofs.grouping.sides.append_sides.Given as goal

-- the pieces that are there and those of the edges left are those before and those of the ring
abbrev pub invariant-loop-place : goal.invariant-loop-place
invariant-loop-place g l =
    (pieces_of l.sides.items ++ turned Subject (edges_from (drop l.place l.points) (ring_point l.points 0)) ≡ pieces_of l.fn.sides.items ++ turned Subject (ring_edges l.points))
    × ((rings : List (List Point)) → l.ring < length rings → l.points ≡ get_or rings l.ring [] → All (IsSideOf rings) l.fn.sides.items → All (IsSideOf rings) l.sides.items)
