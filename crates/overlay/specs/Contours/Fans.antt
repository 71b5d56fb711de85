-- Fans: the edges that start at a point where many do, in clockwise order. For private contracts.
use Rattle.std.specs.Prelude.{◌≡◌, ◌⊎◌, ℕ, ◌+◌, ◌-◌, ◌<◌, ◌≤◌, List, All, Contains, drop, get_or, length, map, take}
use Rattle.plane.specs.declared.edge.Edge.{Edge}
use Rattle.plane.specs.declared.point.Point.{Point}
use Rattle.plane.specs.Ends.{end_of}
use Rattle.overlay.specs.Contours.Order.{edge_at, point_at}
use Rattle.overlay.specs.Contours.Turns.{ComesBefore, TurnsBefore, direction_between}
use Rattle.overlay.specs.declared.contours.fans.Fan.{Fan}
use Rattle.overlay.specs.declared.contours.fans.Spoke.{Spoke}

-- The places of edges.
abbrev pub places : List Spoke → List ℕ
places spokes = map (λ spoke. spoke.place) spokes

-- Where the edge ends whose place stands at i.
abbrev pub end_at : List Edge → List ℕ → ℕ → Point
end_at sorted places i = end_of (edge_at sorted (get_or places i 0))

-- The places are those of all edges that start at the point.
pub record AreAllFrom (sorted : List Edge) (at : Point) (places : List ℕ) : Type 0 where
  pub inside : All (λ place. place < length sorted) places
  pub start : All (λ place. point_at sorted place ≡ at) places
  pub all : (place : ℕ) → place < length sorted → point_at sorted place ≡ at → Contains places place

-- Clockwise from the first of the edges none but it comes before the one that stands before it.
abbrev pub AreClockwise : List Edge → Point → List ℕ → Type 0
AreClockwise sorted at places =
    (i : ℕ) → 0 < i → i + 1 < length places → ¬ (TurnsBefore sorted (end_at sorted places 0) at (get_or places (i + 1) 0) (get_or places i 0))

-- Fans, each by where its spokes stand among all, and by the first edge in order that starts at its point.
pub record IsFan (sorted : List Edge) (spokes : List Spoke) (fan : Fan) : Type 0 where
  pub upto : fan.start ≤ fan.end
  pub inside : fan.end ≤ length spokes
  pub all : AreAllFrom sorted (point_at sorted fan.corner) (places (take (fan.end - fan.start) (drop fan.start spokes)))
  pub clockwise : AreClockwise sorted (point_at sorted fan.corner) (places (take (fan.end - fan.start) (drop fan.start spokes)))

abbrev pub AreFans : List Edge → List Spoke → List Fan → Type 0
AreFans sorted spokes fans = All (IsFan sorted spokes) fans

-- Clockwise from the way to the first edge's end, the way to the one point comes before that to the other.
abbrev pub PassesFirst : List Edge → List ℕ → Point → Point → Point → Type 0
PassesFirst sorted places at one other = ComesBefore (direction_between at (end_at sorted places 0)) (direction_between at one) (direction_between at other)

-- The way back lies between the edge whose place stands at i and the one before it, around. Or some edge ends where it starts, or
-- goes back.
abbrev pub IsTold : List Edge → List ℕ → Point → Point → ℕ → Type 0
IsTold sorted places back at i =
    (end_at sorted places (length places - 1) ≡ at)
    ⊎ ((i ≡ 0) × (¬ (PassesFirst sorted places at back (end_at sorted places (length places - 1)))))
    ⊎ (¬ (PassesFirst sorted places at (end_at sorted places 0) back))
    ⊎ ((0 < i) × (¬ (PassesFirst sorted places at back (end_at sorted places (i - 1)))) × (¬ (PassesFirst sorted places at (end_at sorted places i) back)))
