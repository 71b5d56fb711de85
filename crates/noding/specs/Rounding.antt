-- Which whole point a rational point rounds to: each coordinate to the nearest whole number, a half upwards.
use Rattle.std.specs.Prelude.{ℕ, ℤ, pos, ◌+ℤ◌, ◌-ℤ◌, ◌*ℤ◌, ◌≤ℤ◌, ◌<ℤ◌}
use Rattle.plane.specs.Meet.Edges.{RationalPoint}

-- p / n is at least c - 1/2 and below c + 1/2.
pub record RoundsOn (n : ℕ) (p c : ℤ) : Type 0 where
  pub from : (pos n *ℤ ((pos 2 *ℤ c) -ℤ pos 1)) ≤ℤ (pos 2 *ℤ p)
  pub below : (pos 2 *ℤ p) <ℤ (pos n *ℤ ((pos 2 *ℤ c) +ℤ pos 1))

-- The points that round to the whole point (x, y) are its pixel: a square of side 1 around it, with its left and its lower
-- border.
pub record RoundsTo (point : RationalPoint) (x y : ℤ) : Type 0 where
  pub along_x : RoundsOn point.n point.x x
  pub along_y : RoundsOn point.n point.y y
