use Rattle.std.proofs.Common.{◌≡◌, take}
use Rattle.std.specs.List.{All, flat_map}
use Rattle.overlay.specs.declared.fill.pieces.Operand.TheVariants.{Subject}
use Rattle.overlay.specs.Contours.Rings.{ring_edges}
use Rattle.overlay.specs.Fill.Turned.{turned}
use Rattle.overlay.specs.Grouping.{IsSideOf, pieces_of}
use Rattle.overlay.specs.Rings.{rings_of}
use Rattle.overlay.proofs.grouping.sides.all_sides.Given as goal

-- the pieces are those of the rings so far
abbrev pub invariant-loop-ring : goal.invariant-loop-ring
invariant-loop-ring g l =
    (pieces_of l.sides.items ≡ turned Subject (flat_map ring_edges (take l.ring (rings_of l.points 0 l.ends))))
    × All (IsSideOf (rings_of l.points 0 l.ends)) l.sides.items
