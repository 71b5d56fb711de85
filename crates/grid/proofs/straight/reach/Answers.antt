use Rattle.std.proofs.Common.{◌≡◌, ◌+◌, ◌-◌, ◌%◌, ◌^◌, ℕ, ◌+ℤ◌, ◌-ℤ◌, w64, to_z, of_z, arith, refl, subst}
use Rattle.std.proofs.lemmas.Int.{ints}
use Rattle.std.proofs.lemmas.Nat.{le_or_l, le_or_r}
use Rattle.grid.specs.Doubles.{exponent_field, in_leasts, magnitude}
use Rattle.grid.specs.Rounding.{RoundsTo}
use Rattle.grid.proofs.NearestLemmas.{IsNearest-same}
use Rattle.grid.proofs.RoundingLemmas.{RoundsTo-few}
use Rattle.grid.proofs.StraightLemmas.{left_of_scale, RoundsTo-straight}
use Rattle.grid.proofs.straight.reach.Goals as goal

pub returns-clause-finite : goal.returns-clause-finite
returns-clause-finite c = λ h same.
    let further : ℕ = (c.args.scale + (2 ^ 64 - c.exponent_field.result)) % 2 ^ 64 in
    omega (arith, h, same, le_or_l further c.above_least.result, c.exponent_field.ensures.value, left_of_scale c.args.scale c.exponent_field.result c.requires.upto c.exponent_field.ensures.within)

pub returns-clause-fits : goal.returns-clause-fits
returns-clause-fits c = λ h.
    let further : ℕ = (c.args.scale + (2 ^ 64 - c.exponent_field.result)) % 2 ^ 64 in
    c.above_least.ensures (omega (arith, h, le_or_r further c.above_least.result))

pub returns-clause-nearest : goal.returns-clause-nearest
returns-clause-nearest c = λ h.
    let scale = c.args.scale in
    let bits = c.args.bits in
    let o = c.args.origin in
    let all = c.signed.result in
    let further : ℕ = (scale + (2 ^ 64 - c.exponent_field.result)) % 2 ^ 64 in
    let left = left_of_scale scale c.exponent_field.result c.requires.upto c.exponent_field.ensures.within (omega (arith, h, le_or_l further c.above_least.result)) in
    let sum : exponent_field bits + further ≡ scale = omega (arith, left, c.exponent_field.ensures.value) in
    let units = c.without_places-all.result in
    let rounded = RoundsTo-few (2 ^ 52 + c.fraction_field.result) further c.few_places-places.result units (omega (arith, c.fraction_field.ensures.within)) c.few_places-places.ensures.same c.few_places-places.ensures.most c.without_places-all.ensures.rounds in
    let R : ℕ → Type 0 = λ fraction. RoundsTo (2 ^ (further + 1)) (2 ^ 52 + fraction) units in
    let rounds : RoundsTo (2 ^ scale) (magnitude bits) units = RoundsTo-straight bits scale further units c.requires.from sum (subst R c.fraction_field.ensures.value rounded) in
    let same : all ≡ to_z w64 (of_z w64 (to_z w64 (of_z w64 all) -ℤ to_z w64 (of_z w64 o))) +ℤ o = omega (arith, ints, c.requires.origin, c.signed.ensures.within, c.without_places-all.ensures.within) in
    IsNearest-same (2 ^ scale) (2 ^ scale) (in_leasts bits) all _ refl same (c.signed.ensures.nearest (2 ^ scale) rounds)
