-- Polygons as well-known binary, as C reads them.
use Rattle.std.specs.Prelude.{◌≡◌, ◌⊎◌, ◌+◌, ◌<◌, ◌^◌, ℕ, ℤ, List, length}
use Rattle.grid.specs.declared.units.Grid.{Grid}
use Rattle.plane.specs.declared.point.Point.{Point}
use Rattle.wkb.specs.Spelling.{AreEnds, IsWritten}
use Rattle.wkb.specs.declared.writing.Form.{Form}
use Rattle.itree_c.specs.Choices.{number_of_form}
use Rattle.itree_c.specs.declared.status.TheConstants.{ANSWERED, REFUSED, LENGTHS, CHOICE}

-- rings and polygons stop where they can, and the format has room for all
pub record HaveRoom (points : List Point) (ring_ends polygon_ends : List ℕ) : Type 0 where
  pub few : length points + 1 < 2 ^ 32
  pub few_rings : length ring_ends < 2 ^ 32
  pub few_polygons : length polygon_ends < 2 ^ 32
  pub rings : AreEnds ring_ends (length points)
  pub polygons : AreEnds polygon_ends (length ring_ends)

-- the bytes of the polygons, in the form of the number
abbrev pub WritesBytes : Grid → List Point → List ℕ → List ℕ → ℤ → ℕ → List ℕ → Type 0
WritesBytes grid points ring_ends polygon_ends form srid told =
    (named : Form) × (form ≡ number_of_form named) × IsWritten grid points ring_ends polygon_ends named srid told

-- the bytes stand in the room, or there is none
abbrev pub FillsRoom : List ℕ → List ℕ → List ℕ → Type 0
FillsRoom told before after = (after ≡ told) ⊎ ((length before ≡ 0) × (after ≡ before))

-- one of the four, and no other number
abbrev pub IsWriteStatus : ℤ → Type 0
IsWriteStatus status = (status ≡ ANSWERED) ⊎ (status ≡ REFUSED) ⊎ (status ≡ LENGTHS) ⊎ (status ≡ CHOICE)
