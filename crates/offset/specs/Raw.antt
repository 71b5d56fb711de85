-- The raw curve around the sum of rings and a shape: each edge moved by the shape's corner that lies furthest to the right of it,
-- and what joins these at the ends of edges.
use Rattle.std.specs.List.{flat_map}
use Rattle.std.specs.Prelude.{ℕ, ◌-◌, nat_eq, Bool, cond, ◌&&◌, ℤ, pos, ◌+ℤ◌, ◌-ℤ◌, ◌≤ℤ◌, ◌<ℤ◌, ◌^◌, int_le, int_lt, List, [], ◌∷◌, filter, get_or, map, reverse}
use Rattle.plane.specs.declared.edge.Edge.{Edge}
use Rattle.plane.specs.declared.point.Point.{Point}
use Rattle.plane.specs.Ends.{edge_between, end_of, start_of}
use Rattle.plane.specs.Meet.Edges.{IsOf, RationalPoint}
use Rattle.plane.specs.Meet.Kinds.{AreSame}
use Rattle.overlay.specs.Contours.Rings.{has_two_ends, ring_edges}
use Rattle.offset.specs.Shape.{neighbours, opposite_shape, sides, turn}

-- The point moved by another one, and the edge.
abbrev pub moved : Point → Point → Point
moved by point = record { x = by.x +ℤ point.x; y = by.y +ℤ point.y }

abbrev pub moved_edge : Point → Edge → Edge
moved_edge by edge = edge_between (moved by (start_of edge)) (moved by (end_of edge))

-- The corner between two sides is the first of those that lie furthest to the right of the edge.
abbrev pub is_furthest : Edge → Edge × Edge → Bool
is_furthest edge two = int_lt (turn edge two.0) (pos 0) && int_le (pos 0) (turn edge two.1)

-- the sides at that corner
abbrev pub sides_at_furthest : List Point → Edge → List (Edge × Edge)
sides_at_furthest corners edge = filter (is_furthest edge) (neighbours (sides corners))

-- the origin, twice
abbrev pub nowhere : Edge
nowhere = record { x0 = pos 0; y0 = pos 0; x1 = pos 0; y1 = pos 0 }

-- That corner.
abbrev pub furthest : List Point → Edge → Point
furthest corners edge = start_of (get_or (sides_at_furthest corners edge) 0 (nowhere, nowhere)).1

-- The side lies between the furthest corner of the edge and that of the next one, where the edges turn left.
abbrev pub is_of_fan : Edge → Edge → Edge → Bool
is_of_fan edge next side = int_le (pos 0) (turn edge side) && int_lt (turn next side) (pos 0)

abbrev pub fan : List Point → Edge → Edge → List Edge
fan corners edge next = filter (is_of_fan edge next) (sides corners)

-- The ways to a point from where one corner moves it, and on to where another one does.
abbrev pub ways_by : Point → Point → Point → List Edge
ways_by from to at = edge_between (moved from at) at ∷ edge_between at (moved to at) ∷ []

-- The ways from the edge's end, moved by its furthest corner, to the point that was not moved, and on to it moved by that of the
-- next. Where this is the same corner there are none, as they would go there and back.
abbrev pub ways : List Point → Edge → Edge → List Edge
ways corners edge next =
    cond (has_two_ends (edge_between (furthest corners edge) (furthest corners next))) (ways_by (furthest corners edge) (furthest corners next) (end_of edge)) []

-- What joins an edge that was moved with the next one, at the point between them: where they turn left the sides between their
-- furthest corners, else the ways to the point and on.
abbrev pub joint : List Point → Edge → Edge → List Edge
joint corners edge next =
    cond (int_lt (pos 0) (turn edge next))
    (map (moved_edge (end_of edge)) (fan corners edge next))
    (ways corners edge next)

-- The raw curve of an edge and the next one: the edge moved, and what joins them.
abbrev pub raw_of_two : List Point → Edge × Edge → List Edge
raw_of_two corners two = moved_edge (furthest corners two.0) two.0 ∷ joint corners two.0 two.1

-- That of a ring.
abbrev pub raw_of_ring : List Point → List Point → List Edge
raw_of_ring corners ring = flat_map (raw_of_two corners) (neighbours (ring_edges ring))

-- That of rings, one ring after another.
abbrev pub raw_edges : List Point → List (List Point) → List Edge
raw_edges corners rings = flat_map (raw_of_ring corners) rings

-- The ring the other way round, from the same point on.
abbrev pub backwards : List Point → List Point
backwards [] = []
backwards (first ∷ others) = first ∷ reverse others

-- Where the item of this place stands in it, of so many.
abbrev pub place_back : ℕ → ℕ → ℕ
place_back index count = cond (nat_eq index 0) 0 (count - index)

-- The raw curve around what is left of rings where the shape is taken along outside of them: that of the rings the other way round,
-- with the shape turned by half a turn.
abbrev pub raw_inside : List Point → List (List Point) → List Edge
raw_inside corners rings = raw_edges (opposite_shape corners) (map backwards rings)

-- The edge goes through the point, or ends there.
abbrev pub GoesThrough : Edge → RationalPoint → Type 0
GoesThrough edge point = (other : RationalPoint) × IsOf edge other × AreSame other point

-- The point is one of 32 bits.
pub record IsPointIn32Bits (point : Point) : Type 0 where
  pub x_from : (pos 0 -ℤ pos (2 ^ 31)) ≤ℤ point.x
  pub x_below : point.x <ℤ pos (2 ^ 31)
  pub y_from : (pos 0 -ℤ pos (2 ^ 31)) ≤ℤ point.y
  pub y_below : point.y <ℤ pos (2 ^ 31)

-- The ends of the edge are.
pub record IsIn32Bits (edge : Edge) : Type 0 where
  pub start : IsPointIn32Bits (start_of edge)
  pub stop : IsPointIn32Bits (end_of edge)
