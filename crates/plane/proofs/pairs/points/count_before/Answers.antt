use Rattle.std.proofs.Common.{inl, inr, ◌≡◌, ◌⊎◌, ℕ, ◌/◌, ◌<ℤ◌, ◌≤ℤ◌, ◌+ℤ◌, ◌-ℤ◌, ℤ, pos, nat_abs, SFits, w32, w64, ap, subst, arith, rules}
use Rattle.std.proofs.lemmas.Bool.{cases_lt}
use Rattle.std.proofs.lemmas.Int.{ints, to_z-of_z}
use Rattle.plane.specs.declared.pairs.items.Bounds.{Bounds}
use Rattle.plane.proofs.pairs.points.count_before.Goals as goal

-- a difference of two numbers, so far above 0, is beyond so much if the first one is greater
above_or_not : (left other : ℤ) → SFits w32 left → SFits w32 other
    → (nat_abs (left -ℤ other +ℤ pos 4294967295) / 4294967296 ≡ 1) × (other <ℤ left) ⊎ (nat_abs (left -ℤ other +ℤ pos 4294967295) / 4294967296 ≡ 0) × (left ≤ℤ other)
above_or_not left other fits fits' = elim (cases_lt (nat_abs (left -ℤ other +ℤ pos 4294967295)) 4294967296) [
  | inl below ↦ inr (omega (arith, ints, below), omega (arith, ints, below))
  | inr above ↦ inl (omega (arith, ints, above), omega (arith, ints, above))
]

pub returns : goal.returns
returns g c =
    let at = c.bounds.result.left in
    let left : SFits w32 c.args.left = c.ranges.left in
    let other : SFits w32 at = search rules in
    let wide : SFits w64 c.args.left = omega (arith, ints) in
    let other_wide : SFits w64 at = omega (arith, ints) in
    let difference : SFits w64 (c.args.left -ℤ at) = omega (arith, ints) in
    let above : SFits w64 (c.args.left -ℤ at +ℤ pos 4294967295) = omega (arith, ints) in
    let many : ℕ = nat_abs (c.args.left -ℤ at +ℤ pos 4294967295) / 4294967296 in
    simp to_z-of_z
    (subst (λ (x : ℤ). ((many ≡ 1) × (x <ℤ c.args.left)) ⊎ ((many ≡ 0) × (c.args.left ≤ℤ x))) (ap (λ (bounds : Bounds). bounds.left) c.bounds.ensures)
    (above_or_not c.args.left at left other))
