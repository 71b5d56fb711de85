use Rattle.std.proofs.Common.{◌≡◌, ◌+◌, ◌*◌, ◌^◌, ◌-◌, ◌%◌, ℕ, arith, subst, sym}
use Rattle.grid.specs.Rounding.{RoundsTo}
use Rattle.grid.proofs.RoundingLemmas.{RoundsTo-places, RoundsTo-shifted, beyond_62, within_62}
use Rattle.grid.proofs.rounding.whole_units.Goals as goal

pub returns-then-magnitude-scale-clause-rounds : goal.returns-then-magnitude-scale-clause-rounds
returns-then-magnitude-scale-clause-rounds c =
    RoundsTo-places c.args.magnitude.mantissa c.args.magnitude.exponent (c.args.scale - c.args.magnitude.exponent - 1 + 1) c.args.scale c.shortened.result (omega arith) c.shortened.ensures.rounds

pub returns-then-places-gt9-clause-beyond : goal.returns-then-places-gt9-clause-beyond
returns-then-places-gt9-clause-beyond c =
    beyond_62 c.args.magnitude.mantissa c.args.magnitude.exponent c.args.scale (c.requires.leading (omega arith)) c.if-magnitude-scale.false c.if-places-gt9.true

pub returns-clause-rounds : goal.returns-clause-rounds
returns-clause-rounds c =
    let below = within_62 c.args.magnitude.mantissa (c.args.magnitude.exponent - c.args.scale) c.requires.within c.if-places-gt9.false in
    let R : ℕ → Type 0 = λ units. RoundsTo (2 ^ c.args.scale) (c.args.magnitude.mantissa * 2 ^ c.args.magnitude.exponent) units in
    let whole : c.args.magnitude.mantissa * 2 ^ (c.args.magnitude.exponent - c.args.scale) % 2 ^ 64 ≡ c.args.magnitude.mantissa * 2 ^ (c.args.magnitude.exponent - c.args.scale) = omega (arith, below) in
    subst R (sym whole) (RoundsTo-shifted c.args.magnitude.mantissa c.args.magnitude.exponent c.args.scale c.if-magnitude-scale.false)

pub returns-clause-within : goal.returns-clause-within
returns-clause-within c =
    omega (arith, within_62 c.args.magnitude.mantissa (c.args.magnitude.exponent - c.args.scale) c.requires.within c.if-places-gt9.false)
