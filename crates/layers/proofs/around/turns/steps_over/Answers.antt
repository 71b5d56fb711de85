use Rattle.std.proofs.Common.{SFits, w32, w64, ◌≡◌, ◌-ℤ◌, ◌*ℤ◌, pos, int_le, arith, rules}
use Rattle.std.proofs.lemmas.Int.{ints, to_z-of_z}
use Rattle.noding.specs.Windings.{count}
use Rattle.layers.proofs.around.turns.steps_over.Goals as goal

pub overflow_sub-result : goal.overflow_sub-result
overflow_sub-result c =
    let one : SFits w64 c.count.result = search rules in
    let other : SFits w64 c.count-2.result = search rules in
    let from = c.count.ensures.from in
    let upto = c.count.ensures.upto in
    let from2 = c.count-2.ensures.from in
    let upto2 = c.count-2.ensures.upto in
    simp to_z-of_z (omega (arith, ints))

pub returns : goal.returns
returns c =
    let one : SFits w64 c.count.result = search rules in
    let other : SFits w64 c.count-2.result = search rules in
    let from = c.count.ensures.from in
    let upto = c.count.ensures.upto in
    let from2 = c.count-2.ensures.from in
    let upto2 = c.count-2.ensures.upto in
    let both : SFits w64 (c.count.result -ℤ c.count-2.result) = omega (arith, ints) in
    let at : SFits w64 c.args.point.twice_x = search rules in
    let x : SFits w32 c.args.from.x = search rules in
    let to_x : SFits w32 c.args.to.x = search rules in
    let first : SFits w64 c.twice.result = search rules in
    let second : SFits w64 c.twice-2.result = search rules in
    let first_is : c.twice.result ≡ pos 2 *ℤ c.args.from.x = simp to_z-of_z at c.twice.ensures in
    let second_is : c.twice-2.result ≡ pos 2 *ℤ c.args.to.x = simp to_z-of_z at c.twice-2.ensures in
    let value : c.count.result ≡ count (int_le c.twice.result c.args.point.twice_x) = simp to_z-of_z at c.count.ensures.value in
    let value2 : c.count-2.result ≡ count (int_le c.twice-2.result c.args.point.twice_x) = simp to_z-of_z at c.count-2.ensures.value in
    simp to_z-of_z (rw (value, value2, first_is, second_is))
