-- Rounding of a natural number of leasts to a whole number of units.
use Rattle.std.specs.Prelude.{◌≡◌, ℕ, ◌+◌, ◌*◌, ◌%◌, ◌≤◌}

-- No whole number of units is nearer to so many leasts. Of two that are as near it is the even one.
pub record RoundsTo (unit leasts units : ℕ) : Type 0 where
  pub not_above : 2 * (units * unit) ≤ 2 * leasts + unit
  pub not_below : 2 * leasts ≤ 2 * (units * unit) + unit
  pub even_above : 2 * (units * unit) ≡ 2 * leasts + unit → units % 2 ≡ 0
  pub even_below : 2 * leasts ≡ 2 * (units * unit) + unit → units % 2 ≡ 0
