-- Edges that come close to each other. For private contracts.
use Rattle.std.specs.Prelude.{◌≡◌, ◌⊎◌, ℤ, pos, ◌-ℤ◌, ◌<ℤ◌}
use Rattle.plane.specs.declared.edge.Edge.{Edge}
use Rattle.plane.specs.declared.point.Point.{Point}
use Rattle.plane.specs.declared.pairs.items.Bounds.{Bounds}
use Rattle.plane.specs.Meet.Boxes.{bounds_of}
use Rattle.plane.specs.Ends.{end_of, start_of}
use Rattle.plane.specs.Lines.{height_over, margin_of}
use Rattle.plane.specs.Pairs.Bounds.{BoundsMeet}
use Rattle.noding.specs.Chains.{IsEnd, Passes}
use Rattle.noding.specs.declared.close.CloseEdge.{CloseEdge}

-- The box of a whole point.
abbrev pub at_point : ℤ → ℤ → Bounds
at_point x y = record { left = x; right = x; low = y; high = y }

-- The whole point (x, y) lies in the edge's box.
abbrev pub InBox : Edge → ℤ → ℤ → Type 0
InBox edge x y = BoundsMeet (bounds_of edge) (at_point x y)

-- The edge passes the whole point (x, y) between its ends.
abbrev pub PassesInside : Edge → ℤ → ℤ → Type 0
PassesInside edge x y = Passes edge x y × (¬ (IsEnd edge x y))

-- It passes the point so.
abbrev pub PassesPoint : Edge → Point → Type 0
PassesPoint edge point = PassesInside edge point.x point.y

-- It passes an end of the other edge so.
abbrev pub PassesEnd : Edge → Edge → Type 0
PassesEnd edge other = PassesInside edge other.x0 other.y0 ⊎ PassesInside edge other.x1 other.y1

-- An end of the other edge lies in the edge's box.
abbrev pub HoldsEnd : Edge → Edge → Type 0
HoldsEnd edge other = InBox edge other.x0 other.y0 ⊎ InBox edge other.x1 other.y1

-- Some point is an end of both edges.
abbrev pub ShareEnd : Edge → Edge → Type 0
ShareEnd one other = (x : ℤ) × (y : ℤ) × IsEnd one x y × IsEnd other x y

-- Two heights over a line lie on the same side of it, and both beyond its margin.
abbrev pub LieBeyond : ℤ → ℤ → ℤ → Type 0
LieBeyond start end margin = ((margin <ℤ start) × (margin <ℤ end)) ⊎ ((start <ℤ (pos 0 -ℤ margin)) × (end <ℤ (pos 0 -ℤ margin)))

-- Both ends of the edge lie so over the line, a unit from it or more: then no whole point is passed by both.
abbrev pub LiesBeside : Edge → Edge → Type 0
LiesBeside edge line = LieBeyond (height_over line (start_of edge)) (height_over line (end_of edge)) (margin_of line)

-- One of the edges does over the other.
abbrev pub LieApart : Edge → Edge → Type 0
LieApart one other = LiesBeside one other ⊎ LiesBeside other one

-- Their boxes meet, and they don't lie apart. Edges that both pass a whole point lie so near.
abbrev pub LieNear : Edge → Edge → Type 0
LieNear one other = BoundsMeet (bounds_of one) (bounds_of other) × (¬ (LieApart one other))

-- The edges lie near each other, and no point is an end of both; or one of them passes an end of the other between its own ends.
abbrev pub ComeClose : Edge → Edge → Type 0
ComeClose one other = (¬ (ShareEnd one other)) × LieNear one other ⊎ (PassesEnd one other ⊎ PassesEnd other one)

-- The boxes have one point in common at most.
abbrev pub HaveOnePoint : Bounds → Bounds → Type 0
HaveOnePoint first second =
    (x y other_x other_y : ℤ) → BoundsMeet first (at_point x y) → BoundsMeet second (at_point x y) → BoundsMeet first (at_point other_x other_y) → BoundsMeet second (at_point other_x other_y)
    → (x ≡ other_x) × (y ≡ other_y)

-- The edge as an item.
abbrev pub item_of : Edge → CloseEdge
item_of edge = record { edge = edge }
