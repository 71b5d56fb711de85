-- The chain that an edge becomes: the hot points that it passes, in the order along it.
use Rattle.std.specs.List.{AllZip}
use Rattle.std.specs.Prelude.{◌≡◌, ◌≢◌, ◌⊎◌, ◌↔◌, List, AllPairs, Contains, ℤ, pos, ◌-ℤ◌, ◌≤ℤ◌}
use Rattle.plane.specs.declared.edge.Edge.{Edge}
use Rattle.plane.specs.declared.point.Point.{Point}
use Rattle.plane.specs.Meet.Crosses.{cross}
use Rattle.plane.specs.Meet.Edges.{RationalPoint, IsOf}
use Rattle.noding.specs.Rounding.{RoundsTo}

-- The edge passes the whole point (x, y): some point of the edge rounds to it.
abbrev pub Passes : Edge → ℤ → ℤ → Type 0
Passes edge x y = (point : RationalPoint) × IsOf edge point × RoundsTo point x y

-- The whole point (x, y) is an end of the edge.
abbrev pub IsEnd : Edge → ℤ → ℤ → Type 0
IsEnd edge x y = (x ≡ edge.x0) × (y ≡ edge.y0) ⊎ (x ≡ edge.x1) × (y ≡ edge.y1)

-- The ways that the edges go aren't parallel, so that they have one common point at most. A point is parallel to each edge.
abbrev pub AreNotParallel : Edge → Edge → Type 0
AreNotParallel one other = cross (one.x1 -ℤ one.x0) (one.y1 -ℤ one.y0) (other.x1 -ℤ other.x0) (other.y1 -ℤ other.y0) ≢ pos 0

-- The edges aren't parallel, and their common point rounds to the whole point (x, y).
abbrev pub CrossAt : Edge → Edge → ℤ → ℤ → Type 0
CrossAt one other x y = AreNotParallel one other × ((point : RationalPoint) × IsOf one point × IsOf other point × RoundsTo point x y)

-- Hot points are all ends of the edges, and what the common points of two that aren't parallel round to.
abbrev pub IsHot : List Edge → ℤ → ℤ → Type 0
IsHot edges x y =
    ((edge : Edge) × Contains edges edge × IsEnd edge x y)
    ⊎ ((one : Edge) × (other : Edge) × Contains edges one × Contains edges other × CrossAt one other x y)

-- On one axis, on the way from the one to the other, c isn't behind d.
pub record UptoOn (from to c d : ℤ) : Type 0 where
  pub rising : from ≤ℤ to → c ≤ℤ d
  pub falling : to ≤ℤ from → d ≤ℤ c

-- Along the edge the point (x, y) isn't behind the other, on both axes.
pub record Upto (edge : Edge) (x y other_x other_y : ℤ) : Type 0 where
  pub along_x : UptoOn edge.x0 edge.x1 x other_x
  pub along_y : UptoOn edge.y0 edge.y1 y other_y

-- A chain along an edge over the nodes that a predicate tells: these points, once each, in the order along the edge.
pub record IsAlong (IsNode : ℤ → ℤ → Type 0) (edge : Edge) (chain : List Point) : Type 0 where
  pub in_order : AllPairs (λ c d. Upto edge c.x c.y d.x d.y) chain
  pub once : AllPairs (λ c d. c ≢ d) chain
  pub exact : (c : Point) → Contains chain c ↔ IsNode c.x c.y

-- The chain of an edge among others: the hot points that it passes.
abbrev pub IsChain : List Edge → Edge → List Point → Type 0
IsChain edges edge chain = IsAlong (λ x y. IsHot edges x y × Passes edge x y) edge chain

-- The chains of edges, each at its edge's place.
abbrev pub AreChains : List Edge → List (List Point) → Type 0
AreChains edges chains = AllZip (IsChain edges) edges chains
