use Rattle.std.proofs.Common.{ℕ, ◌+◌, ◌-◌, ◌/◌, ◌%◌, ◌^◌, subst, sym, arith}
use Rattle.std.proofs.lemmas.Nat.{pow_pos}
use Rattle.grid.specs.Rounding.{RoundsTo}
use Rattle.grid.proofs.RoundingLemmas.{RoundsTo-shifted_down, RoundsTo-within}
use Rattle.grid.proofs.rounding.without_places.Goals as goal

pub returns : goal.returns
returns c =
    let unit = 2 ^ c.args.places in
    let less = c.args.mantissa - 1 in
    let rounds : RoundsTo unit c.args.mantissa ((less + c.power_of_two.result + less / unit % 2) / unit) =
    subst (λ (half : ℕ). RoundsTo unit c.args.mantissa ((less + half + less / unit % 2) / unit)) (sym c.power_of_two.ensures)
    (RoundsTo-shifted_down c.args.mantissa c.args.places c.requires.least c.requires.some) in
    record { rounds = rounds; within = omega (arith, RoundsTo-within unit c.args.mantissa _ (pow_pos c.args.places) rounds) }
