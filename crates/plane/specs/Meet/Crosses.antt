-- Cross products of vectors, from one point of the plane to another, and their parts.
use Rattle.std.specs.Prelude.{ℕ, ℤ, pos, ◌-ℤ◌, ◌*ℤ◌, ◌≤ℤ◌, ◌⊎◌}

-- The cross product of two vectors, each by how far it goes along x and along y. It is 0 where they are parallel, or where
-- one of them is 0.
abbrev pub cross : ℤ → ℤ → ℤ → ℤ → ℤ
cross x y other_x other_y = (x *ℤ other_y) -ℤ (y *ℤ other_x)

-- The part lies between 0 and the whole, which may be of either sign.
abbrev pub IsPart : ℤ → ℤ → Type 0
IsPart part whole = (pos 0 ≤ℤ part) × (part ≤ℤ whole) ⊎ (whole ≤ℤ part) × (part ≤ℤ pos 0)

-- The number is at most m, and at least -m.
pub record IsWithin (m : ℕ) (z : ℤ) : Type 0 where
  pub from : (pos 0 -ℤ pos m) ≤ℤ z
  pub upto : z ≤ℤ pos m
