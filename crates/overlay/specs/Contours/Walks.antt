-- Walks along edges in order, and what of them is cut off as rings. For private contracts.
use Rattle.std.specs.Prelude.{◌≡◌, ◌≢◌, ℕ, ◌<◌, Bool, true, cond, List, [], ◌∷◌, ◌++◌, All, get_or, length, map}
use Rattle.std.specs.List.{flat_map}
use Rattle.plane.specs.declared.edge.Edge.{Edge}
use Rattle.plane.specs.declared.point.Point.{Point}
use Rattle.overlay.specs.Contours.Order.{IsCorner, edge_at, point_at}
use Rattle.overlay.specs.Contours.Rings.{IsRing}
use Rattle.overlay.specs.Contours.Turns.{IsFirstAround}
use Rattle.plane.specs.Ends.{end_of}
use Rattle.noding.specs.Offsets.{offsets}
use Rattle.noding.specs.Windings.{pieces}

-- The edges that aren't walked yet, by a mark at the place of each that is.
abbrev pub unwalked : List Edge → List Bool → List Edge
unwalked [] used = []
unwalked (edge ∷ edges) [] = []
unwalked (edge ∷ edges) (is ∷ used) = cond is (unwalked edges used) (edge ∷ unwalked edges used)

-- Marks stay.
abbrev pub Keeps : List Bool → List Bool → Type 0
Keeps before after = (k : ℕ) → get_or before k true ≡ true → get_or after k true ≡ true

-- The edges of a walk over these corners, from each to the next, and to the one at which it is.
abbrev pub path : List Edge → List ℕ → ℕ → List Edge
path sorted stack corner = pieces (map (point_at sorted) (stack ++ corner ∷ []))

-- The corners that a walk is over, each with a mark of its place in the walk.
pub record IsMarked (sorted : List Edge) (marks stack : List ℕ) : Type 0 where
  pub size : length marks ≡ length sorted
  pub corners : (k : ℕ) → k < length stack → IsCorner sorted (get_or stack k 0)
  pub marked : (k : ℕ) → k < length stack → get_or marks (get_or stack k 0) 0 ≡ k

-- The walk isn't over this corner.
abbrev pub IsOff : List ℕ → ℕ → Type 0
IsOff stack corner = (k : ℕ) → k < length stack → get_or stack k 0 ≢ corner

-- These rings are appended, and where each stops.
pub record AreAppended (rings : List (List Point)) (points_before points : List Point) (ends_before ends : List ℕ) : Type 0 where
  pub each : All IsRing rings
  pub points_are : points ≡ points_before ++ flat_map (λ ring. ring) rings
  pub ends_are : ends ≡ ends_before ++ offsets (length points_before) rings

-- Each edge is walked exactly if the first one clockwise where it ends is.
abbrev pub ArePairs : List Edge → List Bool → Type 0
ArePairs sorted used = (i j : ℕ) → i < length sorted → IsFirstAround sorted (point_at sorted i) (end_of (edge_at sorted i)) j → get_or used i true ≡ get_or used j true
