-- How two edges meet: by how many points both have, and whether such a point is an end of one of them.
use Rattle.std.specs.Prelude.{◌≡◌, ℤ, pos, ◌*ℤ◌, ◌<ℤ◌, ◌⊎◌}
use Rattle.std.specs.Int.{int_min, int_max}
use Rattle.plane.specs.declared.edge.Edge.{Edge}
use Rattle.plane.specs.declared.meet.kinds.Meeting.{Meeting}
use Rattle.plane.specs.declared.meet.kinds.Meeting.TheVariants.{Apart, Touch, Cross, Share}
use Rattle.plane.specs.Meet.Edges.{RationalPoint, IsOf, Meet}

-- The two are one point: their x / n are the same, and their y / n.
pub record AreSame (point other : RationalPoint) : Type 0 where
  pub x : (pos other.n *ℤ point.x) ≡ (pos point.n *ℤ other.x)
  pub y : (pos other.n *ℤ point.y) ≡ (pos point.n *ℤ other.y)

-- The point is this whole one.
pub record IsAt (point : RationalPoint) (x y : ℤ) : Type 0 where
  pub x_is : point.x ≡ (pos point.n *ℤ x)
  pub y_is : point.y ≡ (pos point.n *ℤ y)

-- The point is an end of the edge.
abbrev pub IsEnd : Edge → RationalPoint → Type 0
IsEnd edge point = IsAt point edge.x0 edge.y0 ⊎ IsAt point edge.x1 edge.y1

abbrev pub IsOfBoth : Edge → Edge → RationalPoint → Type 0
IsOfBoth one other point = IsOf one point × IsOf other point

-- All points of both edges are one.
abbrev pub ShareAtMostOne : Edge → Edge → Type 0
ShareAtMostOne one other = (first second : RationalPoint) → IsOfBoth one other first → IsOfBoth one other second → AreSame first second

-- Two different points are of both edges, and then all between them.
abbrev pub ShareTwo : Edge → Edge → Type 0
ShareTwo one other = (first : RationalPoint) × (second : RationalPoint) × IsOfBoth one other first × IsOfBoth one other second × ¬ (AreSame first second)

-- The edges meet so: not at all; in one point alone, which is an end of one of them; in one point alone, which is an end
-- of neither; or in more than one point.
abbrev pub MeetSo : Edge → Edge → Meeting → Type 0
MeetSo one other Apart = ¬ (Meet one other)
MeetSo one other Touch = (point : RationalPoint) × IsOfBoth one other point × ShareAtMostOne one other × (IsEnd one point ⊎ IsEnd other point)
MeetSo one other Cross = (point : RationalPoint) × IsOfBoth one other point × ShareAtMostOne one other × ¬ (IsEnd one point ⊎ IsEnd other point)
MeetSo one other Share = ShareTwo one other

-- The whole point is of the edge.
abbrev pub HasPoint : Edge → ℤ → ℤ → Type 0
HasPoint edge x y = (point : RationalPoint) × IsOf edge point × IsAt point x y

-- An end of the other edge is of the one.
abbrev pub HasEndOf : Edge → Edge → Type 0
HasEndOf one other = HasPoint one other.x0 other.y0 ⊎ HasPoint one other.x1 other.y1

-- More than one number lies between both the first two numbers and the last two, whichever of each two is the lesser.
abbrev pub RangesOverlap : ℤ → ℤ → ℤ → ℤ → Type 0
RangesOverlap start end other_start other_end = int_max (int_min start end) (int_min other_start other_end) <ℤ int_min (int_max start end) (int_max other_start other_end)
