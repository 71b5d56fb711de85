-- Edges that stand in a list more than once, and their stops. For private contracts.
use Rattle.std.specs.Prelude.{◌≡◌, ◌⊎◌, ◌↔◌, ℕ, ◌+◌, ◌<◌, ◌≤◌, List, [], ◌∷◌, ◌++◌, AllPairs, Contains, Some, get_or, length, slice_get}
use Rattle.plane.specs.declared.edge.Edge.{Edge}
use Rattle.noding.specs.Stops.{IsBefore, Split}
use Rattle.noding.specs.declared.distinct.Placed.{Placed}
use Rattle.noding.specs.declared.stops.Stop.{Stop}

-- These are the edges of the list with their places, in whatever order.
abbrev pub ArePlaced : List Edge → List Placed → Type 0
ArePlaced edges placed = (one : Placed) → Contains placed one ↔ (slice_get edges one.place ≡ Some one.edge)

-- The list gains the edge, or stays as it is.
abbrev pub AppendsUnlessLast : Edge → List Edge → List Edge → Type 0
AppendsUnlessLast edge before after = (after ≡ before) ⊎ (after ≡ before ++ edge ∷ [])

-- The distinct edges are those of the list, and for each of its places it is told where its like stands among them.
pub record AreDistinct (edges distinct : List Edge) (places : List ℕ) : Type 0 where
  pub size : length places ≡ length edges
  pub same : (edge : Edge) → Contains edges edge ↔ Contains distinct edge
  pub like : (place : ℕ) (edge : Edge) → slice_get edges place ≡ Some edge → slice_get distinct (get_or places place 0) ≡ Some edge

-- It is told where the stops of each of so many edges begin, and where those of the last one end.
pub record AreStarts (count : ℕ) (stops : List Stop) (starts : List ℕ) : Type 0 where
  pub size : length starts ≡ count + 1
  pub each : (place : ℕ) → place ≤ count → Split place (get_or starts place 0) stops

-- The stop as one of the edge at this place.
abbrev pub at_place : ℕ → Stop → Stop
at_place place stop = record { place = place; along_x = stop.along_x; along_y = stop.along_y }

-- For each of the first so many places there stand the stops of its like, as its own, and no others; in order.
pub record AreCopied (places : List ℕ) (count : ℕ) (stops copies : List Stop) : Type 0 where
  pub exact : (stop : Stop) → Contains copies stop ↔ ((stop.place < count) × Contains stops (at_place (get_or places stop.place 0) stop))
  pub in_order : AllPairs IsBefore copies
