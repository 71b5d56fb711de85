-- Lists in one list, by where each stops.
use Rattle.std.specs.List.{flat_map}
use Rattle.std.specs.Prelude.{◌≡◌, ℕ, ◌+◌, List, [], ◌∷◌, length}
-- those of a list from the one place on, and before the other
pub use Rattle.std.specs.List.{between}

-- Where each list stops, if they stand one after another from this place on.
abbrev pub offsets : {X : Type 0} → ℕ → List (List X) → List ℕ
offsets start [] = []
offsets start (list ∷ lists) = (start + length list) ∷ offsets (start + length list) lists

-- The items are those of the lists, one list after the other, and the numbers tell where each stops.
abbrev pub AreJoined : {X : Type 0} → List (List X) → List X → List ℕ → Type 0
AreJoined lists items ends = (items ≡ flat_map (λ list. list) lists) × (ends ≡ offsets 0 lists)
