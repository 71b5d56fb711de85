use Rattle.std.proofs.Common.{SFits, w32, w64, ◌≡◌, ◌*ℤ◌, pos, arith, rules}
use Rattle.std.proofs.lemmas.Int.{ints, to_z-of_z}
use Rattle.layers.proofs.around.extents.Extent.is_apart_from.Goals as goal

pub returns-then-self-twice : goal.returns-then-self-twice
returns-then-self-twice c =
    let right : SFits w32 c.args.bounds.right = search rules in
    let left : SFits w32 c.args.bounds.left = search rules in
    let one : c.twice.result ≡ pos 2 *ℤ c.args.bounds.right = simp to_z-of_z at c.twice.ensures in
    let two : c.twice-2.result ≡ pos 2 *ℤ c.args.bounds.left = simp to_z-of_z at c.twice-2.ensures in
    grind (arith, ints)

pub returns : goal.returns
returns c =
    let right : SFits w32 c.args.bounds.right = search rules in
    let left : SFits w32 c.args.bounds.left = search rules in
    let low : SFits w32 c.args.bounds.low = search rules in
    let own : SFits w64 c.args.self.high = search rules in
    let last : SFits w64 c.twice-3.result = search rules in
    let one : c.twice.result ≡ pos 2 *ℤ c.args.bounds.right = simp to_z-of_z at c.twice.ensures in
    let two : c.twice-2.result ≡ pos 2 *ℤ c.args.bounds.left = simp to_z-of_z at c.twice-2.ensures in
    let three : c.twice-3.result ≡ pos 2 *ℤ c.args.bounds.low = simp to_z-of_z at c.twice-3.ensures in
    simp to_z-of_z (grind (arith, ints))
