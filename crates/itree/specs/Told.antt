-- How pairs of edges that meet or cross, edges below points, and the chains of edges are told to the replies.
use Rattle.std.specs.Prelude.{◌≡◌, ◌≢◌, ◌==◌, ◌↔◌, ◌<◌, ◌≤◌, ℕ, if◌then◌else◌, List, Option, Some, None, AllPairs, Contains, length, map, slice_get}
use Rattle.std.specs.List.{filter_map}
use Rattle.itree.specs.CrossingsLines.{IsToldTo}
use Rattle.itree.specs.declared.lines.crossings.CrossingsLine.{CrossingsLine}
use Rattle.itree.specs.declared.lines.meetings.MetLines.{MetLines}
use Rattle.plane.specs.Meet.Meetings.{AreMeetings}
use Rattle.plane.specs.declared.edge.Edge.{Edge}

-- the number at the pair's earlier place, where its later place is this one
abbrev pub number_told : List ℕ → ℕ → ℕ × ℕ → Option ℕ
number_told numbers place pair = (if pair.1 == place then slice_get numbers pair.0 else None)

-- the numbers that the pairs tell at this place, in the order of the pairs
abbrev pub told : List ℕ → List (ℕ × ℕ) → ℕ → List ℕ
told numbers pairs place = filter_map (number_told numbers place) pairs

-- the numbers that each reply lists
abbrev pub lists_of : {A : Type 0} → List (MetLines A) → List (List ℕ)
lists_of replies = map (λ reply. reply.numbers.items) replies

-- so many replies list what the pairs tell at their places
pub record AreTold (numbers : List ℕ) (pairs : List (ℕ × ℕ)) (count : ℕ) (replies : List (List ℕ)) : Type 0 where
  pub one_each : length replies ≡ count
  pub each : (place : ℕ) → place < count → slice_get replies place ≡ Some (told numbers pairs place)

-- the pairs are the meetings of the edges, and their earlier places never fall
pub record AreOrderedMeetings (edges : List Edge) (pairs : List (ℕ × ℕ)) : Type 0 where
  pub meetings : AreMeetings edges pairs
  pub rising : AllPairs (λ pair later. pair.0 ≤ later.0) pairs

-- The pairs are those of places of lines of which the reply to the second tells the first, each once, and their first places
-- never fall.
pub record AreOrderedCrossings (said : List CrossingsLine) (pairs : List (ℕ × ℕ)) : Type 0 where
  pub once : AllPairs (λ pair later. pair ≢ later) pairs
  pub exact : (told place : ℕ) → Contains pairs (told, place) ↔ IsToldTo said told place
  pub rising : AllPairs (λ pair later. pair.0 ≤ later.0) pairs

-- the number at a place, where there are both
abbrev pub number_at : List ℕ → Option ℕ → Option ℕ
number_at numbers (Some place) = slice_get numbers place
number_at numbers None = None
