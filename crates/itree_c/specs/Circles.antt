-- The corners of a circle, as C reads them.
use Rattle.std.specs.Prelude.{◌≡◌, ◌⊎◌, ℤ, List, length}
use Rattle.plane.specs.declared.point.Point.{Point}
use Rattle.itree_c.specs.declared.status.TheConstants.{ANSWERED, REFUSED, LENGTHS, CHOICE}

-- the corners stand in the room, or there is none
abbrev pub FillsCorners : List Point → List Point → List Point → Type 0
FillsCorners told before after = (after ≡ told) ⊎ ((length before ≡ 0) × (after ≡ before))

-- one of the four, and no other number
abbrev pub IsCircleStatus : ℤ → Type 0
IsCircleStatus status = (status ≡ ANSWERED) ⊎ (status ≡ REFUSED) ⊎ (status ≡ LENGTHS) ⊎ (status ≡ CHOICE)
