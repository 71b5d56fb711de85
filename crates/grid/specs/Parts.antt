-- A finite double taken apart.
use Rattle.std.specs.Prelude.{ℕ, ℤ, Bool, ◌<◌, ◌≤◌, ◌*◌, ◌^◌, pos, ◌-ℤ◌, ◌*ℤ◌, neg_ℤ, cond}
use Rattle.grid.specs.declared.direction.PositionParts.{PositionParts}
use Rattle.grid.specs.declared.direction.parts.Parts.{Parts}

-- The number, below 0 where it is negative.
abbrev pub signed : Bool → ℕ → ℤ
signed negative number = cond negative (neg_ℤ (pos number)) (pos number)

-- How many leasts the parts make.
abbrev pub leasts_of : Parts → ℤ
leasts_of parts = signed parts.negative (parts.mantissa * 2 ^ parts.exponent)

-- What the parts of a finite double keep to.
pub record AreParts (parts : Parts) : Type 0 where
  pub mantissa : parts.mantissa < 2 ^ 53
  pub exponent : parts.exponent ≤ 2045

-- The same of both coordinates.
pub record ArePositionParts (position : PositionParts) : Type 0 where
  pub x : AreParts position.x
  pub y : AreParts position.y

-- What the edge from the one position to the other adds.
abbrev pub cross_of_parts : PositionParts → PositionParts → ℤ
cross_of_parts from to = (leasts_of from.x *ℤ leasts_of to.y) -ℤ (leasts_of to.x *ℤ leasts_of from.y)
