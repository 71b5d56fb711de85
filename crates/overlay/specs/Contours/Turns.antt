-- Which of the edges that start at a point turns furthest left. For private contracts.
use Rattle.std.specs.Prelude.{◌≡◌, ◌≢◌, ◌⊎◌, ℕ, ◌<◌, ℤ, pos, ◌+ℤ◌, ◌-ℤ◌, ◌*ℤ◌, ◌<ℤ◌, Bool, true, false, List, Option, Some, get_or, length}
use Rattle.plane.specs.Meet.Crosses.{cross}
use Rattle.plane.specs.declared.edge.Edge.{Edge}
use Rattle.plane.specs.declared.point.Point.{Point}
use Rattle.overlay.specs.Contours.Order.{edge_at, point_at}
use Rattle.plane.specs.Ends.{end_of}
use Rattle.plane.specs.declared.vectors.Vector.{Vector}

-- The scalar product of two vectors.
abbrev pub dot : ℤ → ℤ → ℤ → ℤ → ℤ
dot x y other_x other_y = (x *ℤ other_x) +ℤ (y *ℤ other_y)

-- A direction, by how far it goes along x and along y.
pub record Direction : Type 0 where
  pub x : ℤ
  pub y : ℤ

-- That of a vector.
abbrev pub direction : Vector → Direction
direction vector = record { x = vector.x; y = vector.y }

-- That from the one point to the other.
abbrev pub direction_between : Point → Point → Direction
direction_between from to = record { x = to.x -ℤ from.x; y = to.y -ℤ from.y }

-- Clockwise from the way back the direction lies within a half turn: that way itself counts, the way onwards doesn't.
abbrev pub IsLeft : Direction → Direction → Type 0
IsLeft back there =
    (cross back.x back.y there.x there.y <ℤ pos 0)
    ⊎ ((cross back.x back.y there.x there.y ≡ pos 0) × (pos 0 <ℤ dot back.x back.y there.x there.y))

-- Both lie within it, or neither does.
abbrev pub AreAlike : Direction → Direction → Direction → Type 0
AreAlike back one other = (IsLeft back one × IsLeft back other) ⊎ ((¬ (IsLeft back one)) × (¬ (IsLeft back other)))

-- Clockwise from the way back, the one direction comes strictly before the other.
abbrev pub ComesBefore : Direction → Direction → Direction → Type 0
ComesBefore back one other =
    (IsLeft back one × (¬ (IsLeft back other)))
    ⊎ (AreAlike back one other × (cross one.x one.y other.x other.y <ℤ pos 0))

-- The edge at this place isn't walked yet, and starts at the point.
pub record Leaves (sorted : List Edge) (used : List Bool) (at : Point) (place : ℕ) : Type 0 where
  pub inside : place < length sorted
  pub unused : get_or used place true ≡ false
  pub starts : point_at sorted place ≡ at

-- No such edge is left.
abbrev pub NoneLeaves : List Edge → List Bool → Point → Type 0
NoneLeaves sorted used at = (place : ℕ) → ¬ (Leaves sorted used at place)

-- Of two edges that start at the point, the one comes strictly before the other, clockwise from the way to the point `back`.
abbrev pub TurnsBefore : List Edge → Point → Point → ℕ → ℕ → Type 0
TurnsBefore sorted back at one other =
    ComesBefore (direction_between at back) (direction_between at (end_of (edge_at sorted one))) (direction_between at (end_of (edge_at sorted other)))

-- The place of the edge that comes before the other, or else the other's.
abbrev pub IsBetter : List Edge → Point → Point → ℕ → ℕ → ℕ → Type 0
IsBetter sorted back at place other best =
    (TurnsBefore sorted back at place other × (best ≡ place)) ⊎ ((¬ (TurnsBefore sorted back at place other)) × (best ≡ other))

-- The edge at this place isn't walked yet, starts at the point, and no other such one comes strictly before it, if `back` is
-- another point.
pub record IsLeftmost (sorted : List Edge) (used : List Bool) (back at : Point) (place : ℕ) : Type 0 where
  pub leaves : Leaves sorted used at place
  pub first : back ≢ at → (other : ℕ) → Leaves sorted used at other → ¬ (TurnsBefore sorted back at other place)

-- Of the edges that start at the point the one at this place comes strictly before each other one, clockwise from the way to the
-- point `back`.
pub record IsFirstAround (sorted : List Edge) (back at : Point) (place : ℕ) : Type 0 where
  pub inside : place < length sorted
  pub starts : point_at sorted place ≡ at
  pub first : (other : ℕ) → other < length sorted → point_at sorted other ≡ at → other ≢ place → TurnsBefore sorted back at place other

-- Where an edge goes from the point `back` to this one, and that first edge around isn't walked yet, it is the next one.
abbrev pub TakesFirst : List Edge → List Bool → Point → Point → Option ℕ → Type 0
TakesFirst sorted used back at next =
    (last place : ℕ) → last < length sorted → point_at sorted last ≡ back → end_of (edge_at sorted last) ≡ at → IsFirstAround sorted back at place → get_or used place true ≡ false → next ≡ Some place
