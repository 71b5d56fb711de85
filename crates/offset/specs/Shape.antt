-- Shapes: convex polygons of whole points around the origin.
use Rattle.std.specs.List.{zip}
use Rattle.std.specs.Prelude.{ℕ, ◌+◌, ◌-◌, ◌<◌, cond, nat_eq, ℤ, pos, ◌-ℤ◌, ◌*ℤ◌, ◌≤ℤ◌, ◌<ℤ◌, List, [], ◌∷◌, ◌++◌, All, get_or, length, map}
use Rattle.plane.specs.Ends.{edge_between}
use Rattle.plane.specs.declared.edge.Edge.{Edge}
use Rattle.plane.specs.declared.point.Point.{Point}
use Rattle.plane.specs.Lines.{height_over}
use Rattle.plane.specs.Meet.Crosses.{cross}
use Rattle.plane.specs.Meet.Edges.{RationalPoint}
use Rattle.overlay.specs.Areas.{swept}
use Rattle.overlay.specs.Contours.Rings.{IsRing, ring_edges}

-- The sides of a shape: from each corner to the next, and from the last one to the first.
abbrev pub sides : List Point → List Edge
sides corners = ring_edges corners

-- Each item with the next one, and the last with the first.
abbrev pub neighbours : {X : Type 0} → List X → List (X × X)
neighbours [] = []
neighbours (first ∷ others) = zip (first ∷ others) (others ++ first ∷ [])

-- The place behind this one, of so many that go round.
abbrev pub next_place : ℕ → ℕ → ℕ
next_place index count = cond (nat_eq (index + 1) count) 0 (index + 1)

-- The cross product of the ways that two edges go: above 0 where the other one turns left, below 0 where it turns right.
abbrev pub turn : Edge → Edge → ℤ
turn one other = cross (one.x1 -ℤ one.x0) (one.y1 -ℤ one.y0) (other.x1 -ℤ other.x0) (other.y1 -ℤ other.y0)

-- The corners of a convex polygon with the origin inside, counterclockwise. So there are three or more.
pub record IsConvexAroundOrigin (corners : List Point) : Type 0 where
  -- some corners, none twice
  pub ring : IsRing corners
  -- the origin lies left of each side
  pub left : All (λ side. pos 0 <ℤ swept side) (sides corners)
  -- at each corner it turns left
  pub turns : All (λ two. pos 0 <ℤ turn two.0 two.1) (neighbours (sides corners))
  -- no corner lies right of a side
  pub convex : All (λ side. All (λ corner. pos 0 ≤ℤ height_over side corner) corners) (sides corners)

-- Once a corner doesn't lie left of the way from the origin to the first one, none behind it does. So the corners go round the
-- origin once, if it lies left of each side.
abbrev pub GoesRoundOnce : List Point → Type 0
GoesRoundOnce corners =
    (index : ℕ) (d : Point) → 1 < index → index < length corners
    → swept (edge_between (get_or corners 0 d) (get_or corners (index - 1) d)) ≤ℤ pos 0
    → swept (edge_between (get_or corners 0 d) (get_or corners index d)) ≤ℤ pos 0

-- The point on the other side of the origin, as far from it.
abbrev pub opposite : Point → Point
opposite point = record { x = pos 0 -ℤ point.x; y = pos 0 -ℤ point.y }

-- The shape turned by half a turn.
abbrev pub opposite_shape : List Point → List Point
opposite_shape corners = map opposite corners

-- The point lies left of the side, or on its line.
abbrev pub IsLeftOf : Edge → RationalPoint → Type 0
IsLeftOf side point =
    pos 0 ≤ℤ cross (side.x1 -ℤ side.x0) (side.y1 -ℤ side.y0) (point.x -ℤ (pos point.n *ℤ side.x0)) (point.y -ℤ (pos point.n *ℤ side.y0))

-- The point is of the shape, as its border is.
abbrev pub IsIn : List Point → RationalPoint → Type 0
IsIn corners point = All (λ side. IsLeftOf side point) (sides corners)
