-- Areas of rings.
use Rattle.std.specs.Prelude.{List, [], ◌∷◌, ℤ, pos, ◌+ℤ◌}
use Rattle.plane.specs.declared.edge.Edge.{Edge}
use Rattle.plane.specs.declared.point.Point.{Point}
use Rattle.plane.specs.Meet.Crosses.{cross}
use Rattle.overlay.specs.Contours.Rings.{ring_edges}
use Rattle.overlay.specs.Fill.Pieces.{total}

-- Twice the area between the edge and the origin: above 0 where it turns left around it.
abbrev pub swept : Edge → ℤ
swept edge = cross edge.x0 edge.y0 edge.x1 edge.y1

-- Twice the area of a ring, by the shoelace formula: above 0 where it runs counterclockwise.
abbrev pub twice_area : List Point → ℤ
twice_area ring = total swept (ring_edges ring)

-- Twice the area of a polygon, or of some rings: that of outer rings less that of holes. Added up over polygons it is that of the
-- region around which they wind, whichever closed edges tell it: they sweep as much (`same-area`, a lemma for callers).
abbrev pub twice_area_of : List (List Point) → ℤ
twice_area_of [] = pos 0
twice_area_of (ring ∷ rings) = twice_area ring +ℤ twice_area_of rings
