use Rattle.std.proofs.Common.{◌≤◌, ◌*◌, ◌^◌, ℕ, nat_lt, subst, sym}
use Rattle.std.proofs.lemmas.Nat.{pow_pos}
use Rattle.grid.specs.Doubles.{magnitude}
use Rattle.grid.proofs.NearestLemmas.{beyond_either}
use Rattle.grid.proofs.axis.nearest_units.Goals as goal

pub returns-in_default-clause-beyond : goal.returns-in_default-clause-beyond
returns-in_default-clause-beyond c = λ units near.
    let R : ℕ → Type 0 = λ leasts. 2 ^ 62 * 2 ^ c.args.scale ≤ leasts in
    beyond_either (2 ^ c.args.scale) (magnitude c.args.bits) (nat_lt c.args.bits (2 ^ 63)) units (pow_pos c.args.scale)
    (subst R (sym c.magnitude_of-magnitude.ensures.value) c.in_default.ensures.beyond) near
