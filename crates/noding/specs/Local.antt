-- A noding that moves only what it must: edges stay exactly where they are, but for those near to where others cross at a
-- point with fractions.
use Rattle.std.specs.Bool.{MatchBool}
use Rattle.std.specs.List.{AllZip}
use Rattle.std.specs.Prelude.{◌≡◌, ◌⊎◌, ◌↔◌, Bool, ℕ, zero, suc, ℤ, List, Contains, Some, slice_get}
use Rattle.plane.specs.declared.edge.Edge.{Edge}
use Rattle.plane.specs.declared.point.Point.{Point}
use Rattle.plane.specs.Meet.Edges.{RationalPoint, IsOf}
use Rattle.plane.specs.Meet.Kinds.{HasPoint, IsAt}
use Rattle.noding.specs.declared.crossings.Crossing.{Crossing}
use Rattle.noding.specs.Chains.{AreNotParallel, IsAlong, IsHot, Passes}
use Rattle.noding.specs.Near.{CountsExactly}
use Rattle.noding.specs.Rounding.{RoundsTo}

-- The edges aren't parallel, and their common point, which isn't whole, rounds to the whole point (x, y).
abbrev pub CrossBeside : Edge → Edge → ℤ → ℤ → Type 0
CrossBeside one other x y =
    AreNotParallel one other × ((point : RationalPoint) × IsOf one point × IsOf other point × RoundsTo point x y × (¬ (IsAt point x y)))

-- The edges at this pair of places do.
pub record CrossBesideAt (edges : List Edge) (pair : ℕ × ℕ) (point : Point) : Type 0 where
  pub one : Edge
  pub other : Edge
  pub first : slice_get edges pair.0 ≡ Some one
  pub second : slice_get edges pair.1 ≡ Some other
  pub cross : CrossBeside one other point.x point.y

-- The edge passes a whole point of these that doesn't lie on it.
abbrev pub PassesBeside : (ℤ → ℤ → Type 0) → Edge → Type 0
PassesBeside Moves edge = (x : ℤ) × (y : ℤ) × Moves x y × Passes edge x y × (¬ (HasPoint edge x y))

-- The whole point moves edges, as is told in so many rounds. In the first it is what two edges round to that cross beside it. In
-- each later one it is a hot point that an edge passes which is moved by the round before.
abbrev pub MovesInRound : List Edge → ℕ → ℤ → ℤ → Type 0
MovesInRound edges zero x y = (one : Edge) × (other : Edge) × Contains edges one × Contains edges other × CrossBeside one other x y
MovesInRound edges (suc round) x y =
    IsHot edges x y × ((edge : Edge) × Contains edges edge × Passes edge x y × PassesBeside (MovesInRound edges round) edge)

-- The whole point moves edges, as some round tells.
abbrev pub Moves : List Edge → ℤ → ℤ → Type 0
Moves edges x y = (round : ℕ) × MovesInRound edges round x y

-- The edge is moved: it passes a point that moves edges and doesn't lie on it.
abbrev pub IsMoved : List Edge → Edge → Type 0
IsMoved edges edge = PassesBeside (Moves edges) edge

-- The nodes of an edge are the hot points that lie on it, and where it is moved all that it passes.
abbrev pub IsNode : List Edge → Edge → ℤ → ℤ → Type 0
IsNode edges edge x y = IsHot edges x y × Passes edge x y × (HasPoint edge x y ⊎ IsMoved edges edge)

-- The chain of an edge over its nodes.
abbrev pub IsNodeChain : List Edge → Edge → List Point → Type 0
IsNodeChain edges edge chain = IsAlong (IsNode edges edge) edge chain

-- The chains of edges over their nodes, each at its edge's place.
abbrev pub AreNodeChains : List Edge → List (List Point) → Type 0
AreNodeChains edges chains = AllZip (IsNodeChain edges) edges chains

-- Among these edges the edge runs along an axis, or isn't near the point, or isn't moved: so the pieces of its chain over its
-- nodes count there as the edge does.
abbrev pub IsExactAt : List Edge → RationalPoint → Edge → Type 0
IsExactAt edges point edge = CountsExactly edge point ⊎ ¬ (IsMoved edges edge)

-- ---- for private contracts

-- The point is the crossing's, and the edges at its places cross beside it.
pub record IsPointBeside (edges : List Edge) (crossing : Crossing) (point : Point) : Type 0 where
  pub one : Edge
  pub other : Edge
  pub first : slice_get edges crossing.one ≡ Some one
  pub second : slice_get edges crossing.other ≡ Some other
  pub cross : CrossBeside one other crossing.point.x crossing.point.y
  pub is : point ≡ crossing.point

-- The points are those that move edges in the first round.
abbrev pub AreFirst : List Edge → List Point → Type 0
AreFirst edges points = (point : Point) → Contains points point ↔ MovesInRound edges 0 point.x point.y

-- These tell of each edge whether it is moved.
abbrev pub AreMoved : List Edge → List Bool → Type 0
AreMoved edges moved = AllZip (λ edge is_moved. MatchBool is_moved (IsMoved edges edge) (¬ (IsMoved edges edge))) edges moved
