use Rattle.std.proofs.Common.{◌≡◌, ◌∙◌, ◌*◌, ◌^◌, ◌+◌, ◌-◌, ◌/◌, ◌%◌, ℕ, arith, ap}
use Rattle.std.specs.Int.Count.{count_leading_zeros}
use Rattle.grid.proofs.BitsLemmas.{at_top, value_at_top}
use Rattle.grid.proofs.double.bits_of.Goals as goal

pub joined-requires-clause-from : goal.joined-requires-clause-from
joined-requires-clause-from c =
    let top = at_top c.args.units (omega arith) c.requires.few in
    omega (arith, top.least, top.most)

pub joined-requires-clause-exponent : goal.joined-requires-clause-exponent
joined-requires-clause-exponent c =
    let top = at_top c.args.units (omega arith) c.requires.few in
    omega (arith, top.from, top.upto)

pub returns-clause-value : goal.returns-clause-value
returns-clause-value c =
    let a = c.args.units in
    let places = count_leading_zeros 64 a in
    let top = at_top a (omega arith) c.requires.few in
    let small : a * 2 ^ places % 2 ^ 64 ≡ a * 2 ^ places = omega (arith, top.most) in
    c.joined.ensures.value ∙ ap (λ (n : ℕ). n / 2048 * 2 ^ (c.args.scale + 11 - places)) small ∙ value_at_top a places c.args.scale top c.requires.from
