-- Doubles that are rounded without a branch.
use Rattle.std.proofs.Common.{◌≡◌, ℕ, ◌+◌, ◌-◌, ◌*◌, ◌%◌, ◌^◌, ◌<◌, ◌≤◌, nat_eq, arith, sym, subst}
use Rattle.std.proofs.lemmas.Bool.{cond_both, eqb-true, eqb-false}
use Rattle.std.proofs.Math.Pow.{pow_mono}
use Rattle.grid.specs.Rounding.{RoundsTo}
use Rattle.grid.specs.Doubles.{exponent_field, fraction_field, magnitude}
use Rattle.grid.proofs.RoundingLemmas.{RoundsTo-none, RoundsTo-places, none_of_few}

-- what is left of a scale, where the difference doesn't wrap
pub left_of_scale : (scale field : ℕ) → scale ≤ 2044 → field < 2048 → (scale + (2 ^ 64 - field)) % 2 ^ 64 < 2 ^ 32 → field + (scale + (2 ^ 64 - field)) % 2 ^ 64 ≡ scale
left_of_scale scale field upto within few = omega arith

-- a leading one that isn't there changes nothing below a half of a unit
subnormal : (fraction scale units : ℕ) → fraction < 2 ^ 52 → 52 < scale → RoundsTo (2 ^ (scale + 1)) (2 ^ 52 + fraction) units → RoundsTo (2 ^ scale) fraction units
subnormal fraction scale units within from rounds =
    let least : 2 ^ 53 ≤ 2 ^ scale = pow_mono from in
    let more : 2 ^ 54 ≤ 2 ^ (scale + 1) = pow_mono {i = 54} {j = scale + 1} (omega arith) in
    subst (λ (n : ℕ). RoundsTo (2 ^ scale) fraction n) (sym (none_of_few (2 ^ (scale + 1)) (2 ^ 52 + fraction) units (omega (arith, more)) rounds))
    (RoundsTo-none (2 ^ scale) fraction (omega (arith, least)))

-- what is left of the scale tells how many places are taken
pub RoundsTo-straight : (bits scale further units : ℕ) → 52 < scale → exponent_field bits + further ≡ scale → RoundsTo (2 ^ (further + 1)) (2 ^ 52 + fraction_field bits) units → RoundsTo (2 ^ scale) (magnitude bits) units
RoundsTo-straight bits scale further units from sum rounds =
    let field : ℕ = exponent_field bits in
    let fraction : ℕ = fraction_field bits in
    cond_both (nat_eq field 0) fraction ((2 ^ 52 + fraction) * 2 ^ (field - 1)) (λ leasts. RoundsTo (2 ^ scale) leasts units)
    (λ none.
    let same : further ≡ scale = omega (arith, eqb-true field 0 none) in
    subnormal fraction scale units (omega arith) from (subst (λ (n : ℕ). RoundsTo (2 ^ (n + 1)) (2 ^ 52 + fraction) units) same rounds))
    (λ some.
    let positive : 0 < field = omega (arith, eqb-false field 0 some) in
    RoundsTo-places (2 ^ 52 + fraction) (field - 1) (further + 1) scale units (omega arith) rounds)
