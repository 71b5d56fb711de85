-- Edges that are on no circle.
use Rattle.std.specs.Prelude.{◌≡◌, ◌≢◌, ◌<◌, ℕ, Bool, List, get_or, length}

-- The ends of the edge at this place.
abbrev pub ends_at : List (ℕ × ℕ) → ℕ → ℕ × ℕ
ends_at edges k = get_or edges k (0, 0)

-- Of the first so many edges the one at this place parts its ends: the nodes are on two sides, so that each other edge has both its
-- ends on one side, and this one hasn't.
abbrev pub PartsAmong : List (ℕ × ℕ) → ℕ → ℕ → Type 0
PartsAmong edges count place =
    (side : ℕ → Bool) × ((k : ℕ) → k < count → k ≢ place → side (ends_at edges k).0 ≡ side (ends_at edges k).1)
    × (side (ends_at edges place).0 ≢ side (ends_at edges place).1)

-- Of all edges. So the edge is on no circle: the others don't lead from its one end to the other.
abbrev pub Parts : List (ℕ × ℕ) → ℕ → Type 0
Parts edges place = PartsAmong edges (length edges) place

-- No edge is on a circle.
abbrev pub HasNoCircle : List (ℕ × ℕ) → Type 0
HasNoCircle edges = (k : ℕ) → k < length edges → Parts edges k
