use Rattle.std.proofs.Common.{SFits, w64, ◌+ℤ◌, arith, rules}
use Rattle.std.proofs.lemmas.Int.{ints, to_z-of_z}
use Rattle.layers.proofs.around.turns.both.Goals as goal

pub overflow_add-result : goal.overflow_add-result
overflow_add-result c =
    let one : SFits w64 c.args.one.turns = search rules in
    let other : SFits w64 c.args.other.turns = search rules in
    let first = c.requires.one in
    let second = c.requires.other in
    simp to_z-of_z (omega (arith, ints))

pub returns-then-one-clause-turns : goal.returns-then-one-clause-turns
returns-then-one-clause-turns c =
    let one : SFits w64 c.args.one.turns = search rules in
    let other : SFits w64 c.args.other.turns = search rules in
    let first = c.requires.one in
    let second = c.requires.other in
    let sum : SFits w64 (c.args.one.turns +ℤ c.args.other.turns) = omega (arith, ints) in
    simp to_z-of_z

pub returns-else-one-clause-turns : goal.returns-else-one-clause-turns
returns-else-one-clause-turns c =
    let one : SFits w64 c.args.one.turns = search rules in
    let other : SFits w64 c.args.other.turns = search rules in
    let first = c.requires.one in
    let second = c.requires.other in
    let sum : SFits w64 (c.args.one.turns +ℤ c.args.other.turns) = omega (arith, ints) in
    simp to_z-of_z
