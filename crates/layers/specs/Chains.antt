-- Chains of edges, and which points of a group lie in the shapes that have them. For private contracts.
use Rattle.std.specs.Prelude.{ℕ, ◌≡◌, ◌==◌, ◌<◌, ◌≤◌, ◌↔◌, ◌++◌, ◌||◌, ◌&&◌, ℤ, pos, ◌*ℤ◌, ◌-ℤ◌, ◌<ℤ◌, ◌≤ℤ◌, Bool, true, cond, not, int_le, int_lt, IsTrue, Some, List, [], ◌∷◌, All, AllPairs, Any, Contains, filter, get_or, length, slice_get}
use Rattle.std.specs.List.{flat_map}
use Rattle.std.specs.Int.{int_max, int_min}
use Rattle.std.specs.Ordering.{int_eq}
use Rattle.plane.specs.declared.edge.Edge.{Edge}
use Rattle.plane.specs.declared.pairs.items.Bounds.{Bounds}
use Rattle.plane.specs.declared.point.Point.{Point}
use Rattle.plane.specs.Meet.Crosses.{cross}
use Rattle.plane.specs.Meet.Edges.{RationalPoint}
use Rattle.overlay.specs.declared.fill.rules.FillRule.{FillRule}
use Rattle.noding.specs.Windings.{pieces, winding, count}
use Rattle.layers.specs.declared.around.chains.Chain.{Chain}
use Rattle.layers.specs.declared.around.extents.Extent.{Extent}
use Rattle.layers.specs.declared.around.half_point.HalfPoint.{HalfPoint}
use Rattle.layers.specs.declared.around.placed.Placed.{Placed}
use Rattle.layers.specs.declared.around.turns.Around.{Around}
use Rattle.layers.specs.declared.points.Border.{Border}
use Rattle.layers.specs.declared.points.Border.TheVariants.{Closed, HalfOpen, Open}
use Rattle.layers.specs.Around.{IsOnAny, LiesIn, halved}
use Rattle.layers.specs.Boxes.{IsInBounds}

-- ---- chains

-- The edges: from each point to the next, and from the last one to the end.
abbrev pub chain_edges : Chain → List Edge
chain_edges chain = pieces (chain.points.now ++ chain.end ∷ [])

-- The edges of chains, one after another.
abbrev pub edges_of_chains : List Chain → List Edge
edges_of_chains chains = flat_map chain_edges chains

-- Those of the chains of the shape at a place.
abbrev pub edges_in : ℕ → List Chain → List Edge
edges_in shape chains = edges_of_chains (filter (λ chain. chain.shape == shape) chains)

-- It has a point, and no more than so many, and none of them lies beyond its bounds.
pub record IsBounded (chain : Chain) : Type 0 where
  pub some : 0 < length chain.points.now
  pub few : length chain.points.now ≤ 16
  pub points : All (λ point. IsInBounds chain.bounds point) chain.points.now
  pub end : IsInBounds chain.bounds chain.end

-- The first point.
abbrev pub chain_start : Chain → Point
chain_start chain = get_or chain.points.now 0 chain.end

-- They stand shape by shape.
pub record AreInOrder (chains : List Chain) : Type 0 where
  pub bounded : All IsBounded chains
  pub sorted : AllPairs (λ chain later. chain.shape ≤ later.shape) chains

-- And none is of a shape behind this one.
pub record AreUpto (shape : ℕ) (chains : List Chain) : Type 0 where
  pub order : AreInOrder chains
  pub upto : All (λ chain. chain.shape ≤ shape) chains

-- These are of the shape, and have these edges.
pub record AreOfShape (shape : ℕ) (edges : List Edge) (chains : List Chain) : Type 0 where
  pub bounded : All IsBounded chains
  pub of : All (λ chain. chain.shape ≡ shape) chains
  pub are : edges_of_chains chains ≡ edges

-- Such chains are appended.
abbrev pub AppendsChains : ℕ → List Edge → List Chain → List Chain → Type 0
AppendsChains shape edges before after = (more : List Chain) × (after ≡ before ++ more) × AreOfShape shape edges more

-- The chains of all shapes, of which these are the edges.
pub record AreChainsOf (shapes : List (List Edge)) (chains : List Chain) : Type 0 where
  pub order : AreInOrder chains
  pub each : (shape : ℕ) → edges_in shape chains ≡ get_or shapes shape []

-- ---- what edges are around points

-- The one edges wind around the point as often as the others, and go through it where these do.
pub record AreSameAround (point : RationalPoint) (edges others : List Edge) : Type 0 where
  pub turns : winding edges point ≡ winding others point
  pub touches : IsOnAny edges point ↔ IsOnAny others point

-- So often they wind around the point, and whether they go through it.
pub record IsAround (point : RationalPoint) (edges : List Edge) (around : Around) : Type 0 where
  pub turns : around.turns ≡ winding edges point
  pub touches : IsTrue around.touches ↔ IsOnAny edges point

-- The box of a single point.
abbrev pub extent_at : HalfPoint → Extent
extent_at point = record { left = point.twice_x; right = point.twice_x; low = point.twice_y; high = point.twice_y }

-- The point doesn't lie beyond a side.
pub record IsInExtent (extent : Extent) (point : HalfPoint) : Type 0 where
  pub left : extent.left ≤ℤ point.twice_x
  pub right : point.twice_x ≤ℤ extent.right
  pub low : extent.low ≤ℤ point.twice_y
  pub high : point.twice_y ≤ℤ extent.high

-- All of the box lies left or right of the bounds, or below them.
abbrev pub is_apart : Extent → Bounds → Bool
is_apart extent bounds =
    (int_lt (pos 2 *ℤ bounds.right) extent.left || int_lt extent.right (pos 2 *ℤ bounds.left)) || int_lt extent.high (pos 2 *ℤ bounds.low)

-- All of the box lies above the bounds.
abbrev pub is_above : Extent → Bounds → Bool
is_above extent bounds = int_lt (pos 2 *ℤ bounds.high) extent.low

-- No point of the box lies between two numbers of the x axis: right of the one, or there, and left of the other.
abbrev pub is_beside : Extent → ℤ → ℤ → Bool
is_beside extent x other =
    (int_eq x other
    || int_le (pos 2 *ℤ int_max x other) extent.left)
    || int_lt extent.right (pos 2 *ℤ int_min x other)

-- 1 where a way below the point from the one point to the other passes it rightwards, -1 leftwards, and 0 where it doesn't.
abbrev pub steps_over : Point → Point → HalfPoint → ℤ
steps_over from to point = count (int_le (pos 2 *ℤ from.x) point.twice_x) -ℤ count (int_le (pos 2 *ℤ to.x) point.twice_x)

-- How far the point lies to the left of the line from the one point to the other, times the line's length, and times 4.
abbrev pub side_of : Point → Point → HalfPoint → ℤ
side_of from to point =
    cross ((pos 2 *ℤ to.x) -ℤ (pos 2 *ℤ from.x)) ((pos 2 *ℤ to.y) -ℤ (pos 2 *ℤ from.y)) (point.twice_x -ℤ (pos 2 *ℤ from.x)) (point.twice_y -ℤ (pos 2 *ℤ from.y))

-- The line from the one point to the other isn't above what lies on this side of it.
abbrev pub is_under_side : Point → Point → ℤ → Bool
is_under_side from to side = cond (int_lt from.x to.x) (int_le (pos 0) side) (int_le side (pos 0))

-- Shape by shape, the one chains are the same as the others around each point of the box.
abbrev pub AreSameIn : Extent → List Chain → List Chain → Type 0
AreSameIn extent chains others = (shape : ℕ) (point : HalfPoint) → IsInExtent extent point → AreSameAround (halved point) (edges_in shape chains) (edges_in shape others)

-- All its points lie below the box.
pub record IsLow (extent : Extent) (chain : Chain) : Type 0 where
  pub points : All (λ point. (pos 2 *ℤ point.y) <ℤ extent.low) chain.points.now
  pub end : (pos 2 *ℤ chain.end.y) <ℤ extent.low

-- Both chains are of one shape. The one lies below the box, and ends where the other begins, or no point of the box lies between.
pub record Leads (extent : Extent) (last chain : Chain) : Type 0 where
  pub shape : last.shape ≡ chain.shape
  pub below : is_above extent last.bounds ≡ true
  pub beside : is_beside extent last.end.x (chain_start chain).x ≡ true

-- ---- groups of points

-- A point is in a shape, by whether it is inside and whether it is on an edge.
abbrev pub is_in : Border → Bool → Bool → Bool
is_in Closed is_inside touches = is_inside || touches
is_in Open is_inside touches = is_inside && not touches
is_in HalfOpen is_inside touches = is_inside

-- The point at this place is one of the group, and lies in the shape with these edges.
pub record LiesAmong (rule : FillRule) (border : Border) (group : List Placed) (edges : List Edge) (place : ℕ) : Type 0 where
  pub placed : Placed
  pub listed : Contains group placed
  pub is : placed.place ≡ place
  pub lies : LiesIn rule border (halved placed.point) edges

-- It lies in the shape at a place, by the chains of all shapes.
abbrev pub LiesInChains : FillRule → Border → List Placed → List Chain → ℕ → ℕ → Type 0
LiesInChains rule border group chains place shape = LiesAmong rule border group (edges_in shape chains) place

-- No two stand at one place.
abbrev pub AreApart : List Placed → Type 0
AreApart group = AllPairs (λ placed later. placed.place ≡ later.place → ⊥) group

-- The points, by their places, each once.
pub record ArePlaced (points : List HalfPoint) (group : List Placed) : Type 0 where
  pub apart : AreApart group
  pub of : All (λ placed. slice_get points placed.place ≡ Some placed.point) group
  pub each : (place : ℕ) → place < length points → Any (λ placed. placed.place ≡ place) group
