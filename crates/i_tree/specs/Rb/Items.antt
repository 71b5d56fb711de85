-- The items of a core, without their handles.
use Rattle.std.specs.Prelude.{ℕ, List, map}

-- the items of pairs of a handle and an item
abbrev pub items_of : {T : Type 0} → List (ℕ × T) → List T
items_of pairs = map (λ pair. pair.1) pairs
