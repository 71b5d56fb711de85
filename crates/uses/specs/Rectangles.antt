-- Numbers in a range.
use Rattle.std.specs.Prelude.{ℤ, ◌≤ℤ◌}

-- The number is one of those from the least to the greatest.
pub record IsBetween (least number greatest : ℤ) : Type 0 where
  pub above : least ≤ℤ number
  pub below : number ≤ℤ greatest
