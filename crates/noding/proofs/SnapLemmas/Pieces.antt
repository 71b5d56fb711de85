-- What the proofs say of a piece of an edge's chain, and of two that cross.
use Rattle.std.specs.Prelude.{pos, ℤ, ◌-ℤ◌, ◌<ℤ◌, ◌≤ℤ◌, ◌⊎◌}
use Rattle.plane.specs.declared.edge.Edge.{Edge}
use Rattle.plane.specs.Meet.Crosses.{cross}
use Rattle.plane.specs.Meet.Edges.{IsOf, RationalPoint}
use Rattle.noding.specs.Chains.{AreNotParallel, IsEnd, Passes}
use Rattle.noding.specs.Rounding.{RoundsTo}
use Rattle.plane.specs.Ends.{reversed}

-- ---- a piece of a chain over the points that `hot` says

-- z is between the two, in either order, or one of them.
abbrev pub IsBetween : ℤ → ℤ → ℤ → Type 0
IsBetween from to z = (from ≤ℤ z) × (z ≤ℤ to) ⊎ (to ≤ℤ z) × (z ≤ℤ from)

-- The whole point lies in the edge's box.
pub record InBox (edge : Edge) (x y : ℤ) : Type 0 where
  pub along_x : IsBetween edge.x0 edge.x1 x
  pub along_y : IsBetween edge.y0 edge.y1 y

-- The edge passes a whole point in the box of one of its pieces.
pub record PassesIn (edge piece : Edge) (x y : ℤ) : Type 0 where
  pub passes : Passes edge x y
  pub box : InBox piece x y

-- A piece goes from one hot point that the edge passes to the next: no other one lies in its box.
pub record IsPiece (hot : ℤ → ℤ → Type 0) (edge piece : Edge) : Type 0 where
  pub from_hot : hot piece.x0 piece.y0
  pub to_hot : hot piece.x1 piece.y1
  pub from_passes : Passes edge piece.x0 piece.y0
  pub to_passes : Passes edge piece.x1 piece.y1
  pub next : (x y : ℤ) → hot x y → PassesIn edge piece x y → IsEnd piece x y

-- What the common points of two edges that aren't parallel round to is hot.
abbrev pub HasCrossings : (ℤ → ℤ → Type 0) → Edge → Edge → Type 0
HasCrossings hot one other =
    (point : RationalPoint) (x y : ℤ) → AreNotParallel one other → IsOf one point → IsOf other point → RoundsTo point x y → hot x y

-- Of two edges, each with points of its own: what is a point of the one and is passed by the other is one of the other's too.
pub record Share (hot other_hot : ℤ → ℤ → Type 0) (edge other : Edge) : Type 0 where
  pub here : (x y : ℤ) → other_hot x y → Passes edge x y → hot x y
  pub there : (x y : ℤ) → hot x y → Passes other x y → other_hot x y

-- ---- two pieces that cross

-- Twice the area of the triangle of an edge and a point: above 0 where the point is to the left of the edge.
abbrev pub left_of : Edge → ℤ → ℤ → ℤ
left_of edge x y = cross (edge.x1 -ℤ edge.x0) (edge.y1 -ℤ edge.y0) (x -ℤ edge.x0) (y -ℤ edge.y0)

-- The other goes from the one's right to its left, and the one from the other's left to its right.
pub record CrossesLeft (one other : Edge) : Type 0 where
  pub from : left_of one other.x0 other.y0 <ℤ pos 0
  pub to : pos 0 <ℤ left_of one other.x1 other.y1
  pub back_from : pos 0 <ℤ left_of other one.x0 one.y0
  pub back_to : left_of other one.x1 one.y1 <ℤ pos 0

-- Each one's ends are on opposite sides of the other.
abbrev pub CrossProperly : Edge → Edge → Type 0
CrossProperly one other = CrossesLeft one other ⊎ CrossesLeft one (reversed other)

-- A point of both edges, which aren't parallel, rounds to a whole point in both pieces' boxes.
pub record MeetsIn (edge other piece other_piece : Edge) : Type 0 where
  pub point : RationalPoint
  pub of_one : IsOf edge point
  pub of_other : IsOf other point
  pub apart : AreNotParallel edge other
  pub x : ℤ
  pub y : ℤ
  pub rounds : RoundsTo point x y
  pub box : InBox piece x y
  pub other_box : InBox other_piece x y

-- One edge passes an end of the other's piece, in its own piece's box; or the edges themselves meet there.
abbrev pub Leads : Edge → Edge → Edge → Edge → Type 0
Leads edge other piece other_piece =
    PassesIn edge piece other_piece.x0 other_piece.y0
    ⊎ (PassesIn edge piece other_piece.x1 other_piece.y1
    ⊎ (PassesIn other other_piece piece.x0 piece.y0
    ⊎ (PassesIn other other_piece piece.x1 piece.y1
    ⊎ MeetsIn edge other piece other_piece)))
