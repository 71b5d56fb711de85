-- What an exported call answers.
use Rattle.std.specs.Prelude.{◌≡◌, ◌⊎◌, ℤ}
use Rattle.itree_c.specs.declared.status.TheConstants.{ANSWERED, REFUSED, LENGTHS}

-- one of the three, or what a call tells of its own, and no other number
abbrev pub IsStatus : ℤ → ℤ → Type 0
IsStatus own status = (status ≡ ANSWERED) ⊎ (status ≡ REFUSED) ⊎ (status ≡ own) ⊎ (status ≡ LENGTHS)
