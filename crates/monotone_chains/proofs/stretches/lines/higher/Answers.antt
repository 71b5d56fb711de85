use Rattle.std.proofs.Common.{◌≡◌, to_z, of_z, rules, arith}
use Rattle.std.specs.Int.{w128}
use Rattle.std.proofs.lemmas.Int.{clamps, ints}
use Rattle.monotone_chains.proofs.stretches.lines.higher.Goals as goal

pub returns-clause-within : goal.returns-clause-within
returns-clause-within c =
    let is : to_z w128 (of_z w128 c.max.result) ≡ c.max.result = search rules in
    let one : to_z w128 (of_z w128 c.args.most) ≡ c.args.most = search rules in
    let other : to_z w128 (of_z w128 c.height_over.result) ≡ c.height_over.result = search rules in
    let from = c.requires.from in
    let upto = c.requires.upto in
    let from_too = c.height_over.ensures.within.from in
    let upto_too = c.height_over.ensures.within.upto in
    let value = c.max.ensures.value in
    record {
      from = omega (arith, ints, clamps, is, one, other, from, from_too, value);
      upto = omega (arith, ints, clamps, is, one, other, upto, upto_too, value);
    }
