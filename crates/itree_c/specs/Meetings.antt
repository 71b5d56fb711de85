-- Pairs of edges that meet, as C reads them.
use Rattle.std.specs.Prelude.{◌≡◌, ◌++◌, ℕ, List, length, map, take, drop}
use Rattle.itree_c.specs.declared.meetings.Pair.{Pair}

-- a pair of places as it is written
abbrev pub pair_of : ℕ × ℕ → Pair
pair_of places = record { first = places.0; second = places.1 }

-- as many of the pairs as fit are written, from the first on, and what is left of the room stays as it was
abbrev pub WritesFirst : List (ℕ × ℕ) → List Pair → List Pair → Type 0
WritesFirst pairs before after = after ≡ map pair_of (take (length before) pairs) ++ drop (length pairs) before
