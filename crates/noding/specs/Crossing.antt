-- A point at a part of an edge, rounded. For private contracts.
use Rattle.std.specs.Prelude.{◌≡◌, ℤ, pos, ◌+ℤ◌, ◌-ℤ◌, ◌*ℤ◌, ◌≤ℤ◌, ◌<ℤ◌}
use Rattle.std.specs.Int.RustNames.{unsigned_abs}
use Rattle.plane.specs.declared.edge.Edge.{Edge}
use Rattle.noding.specs.Rounding.{RoundsOn}

-- Of the whole both parts lie between 0 and it.
pub record HasParts (all first second : ℤ) : Type 0 where
  pub some : pos 0 <ℤ all
  pub first_from : pos 0 ≤ℤ first
  pub first_upto : first ≤ℤ all
  pub second_from : pos 0 ≤ℤ second
  pub second_upto : second ≤ℤ all

-- They do, and the point at the first part of the edge rounds to (x, y).
pub record RoundsPart (edge : Edge) (all first second x y : ℤ) : Type 0 where
  pub parts : HasParts all first second
  pub along_x : RoundsOn (unsigned_abs all) ((all *ℤ edge.x0) +ℤ (first *ℤ (edge.x1 -ℤ edge.x0))) x
  pub along_y : RoundsOn (unsigned_abs all) ((all *ℤ edge.y0) +ℤ (first *ℤ (edge.y1 -ℤ edge.y0))) y

-- On one axis: where the other way goes nowhere, the part of the one lies at it.
abbrev pub IsThere : (from to other_from other_to all first : ℤ) → Type 0
IsThere from to other_from other_to all first = other_from ≡ other_to → ((all *ℤ from) +ℤ (first *ℤ (to -ℤ from))) ≡ (all *ℤ other_from)

-- So it is on both, for a common point of two edges.
pub record IsCommonPart (one other : Edge) (all first : ℤ) : Type 0 where
  pub along_x : IsThere one.x0 one.x1 other.x0 other.x1 all first
  pub along_y : IsThere one.y0 one.y1 other.y0 other.y1 all first
