-- What the calls on grids answer.
use Rattle.std.specs.Prelude.{◌≡◌, ◌⊎◌, ℤ}
use Rattle.itree_c.specs.declared.status.TheConstants.{ANSWERED, CHOICE, FAULTY, LENGTHS}

-- one of the three, and no other number
abbrev pub IsPositionsStatus : ℤ → Type 0
IsPositionsStatus status = (status ≡ ANSWERED) ⊎ (status ≡ CHOICE) ⊎ (status ≡ LENGTHS)

-- one of the four, and no other number
abbrev pub IsRoundStatus : ℤ → Type 0
IsRoundStatus status = (status ≡ ANSWERED) ⊎ (status ≡ CHOICE) ⊎ (status ≡ LENGTHS) ⊎ (status ≡ FAULTY)
