-- Numbers written in places of 32 bits, the lowest first. A place may hold more than 32 bits.
use Rattle.std.specs.Prelude.{ℕ, ℤ, List, [], ◌∷◌, ◌+◌, ◌*◌, ◌^◌, pos, ◌-ℤ◌}

-- The number that the places make.
abbrev pub number_of : List ℕ → ℕ
number_of [] = 0
number_of (place ∷ rest) = place + 2 ^ 32 * number_of rest

-- What was added, without what was taken.
unfoldable pub left_of : List ℕ → List ℕ → ℤ
left_of added taken = pos (number_of added) -ℤ pos (number_of taken)
