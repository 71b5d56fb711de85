use Rattle.std.proofs.Common.{◌≡◌, ◌^◌, ℤ, ◌+ℤ◌, ◌-ℤ◌, ◌*ℤ◌, arith, rules, subst}
use Rattle.std.specs.Int.RustNames.{unsigned_abs}
use Rattle.std.proofs.lemmas.Int.{ints}
use Rattle.plane.specs.Meet.Crosses.{IsWithin}
use Rattle.noding.specs.Rounding.{RoundsOn}
use Rattle.noding.proofs.SnapLemmas.Crossing.{mean-fits}
use Rattle.noding.proofs.crossing.round_mean.Goals as goal

-- what is rounded is the mean
rounds : (all first from to sum result : ℤ) → sum ≡ ((all *ℤ from) +ℤ (first *ℤ (to -ℤ from))) → RoundsOn (unsigned_abs all) sum result → RoundsOn (unsigned_abs all) ((all *ℤ from) +ℤ (first *ℤ (to -ℤ from))) result
rounds all first from to sum result is at = subst (λ (z : ℤ). RoundsOn (unsigned_abs all) z result) is at

pub round_half-requires-clause-within : goal.round_half-requires-clause-within
round_half-requires-clause-within c =
    let within = c.scaled_mean.ensures.within in
    let wider : IsWithin (2 ^ 100) c.scaled_mean.result = record { from = omega (arith, ints, within.from); upto = omega (arith, ints, within.upto) } in
    search rules

pub overflow_cast-result : goal.overflow_cast-result
overflow_cast-result c =
    let mean = rounds c.args.all c.args.first c.args.from c.args.to c.scaled_mean.result c.round_half.result (search rules) (search rules) in
    let there = mean-fits c.args.all c.args.first c.args.from c.args.to c.round_half.result c.requires.some c.requires.first_from c.requires.first_upto mean c.ranges.from c.ranges.to in
    search rules

pub returns : goal.returns
returns c =
    let mean = rounds c.args.all c.args.first c.args.from c.args.to c.scaled_mean.result c.round_half.result (search rules) (search rules) in
    let there = mean-fits c.args.all c.args.first c.args.from c.args.to c.round_half.result c.requires.some c.requires.first_from c.requires.first_upto mean c.ranges.from c.ranges.to in
    search rules
