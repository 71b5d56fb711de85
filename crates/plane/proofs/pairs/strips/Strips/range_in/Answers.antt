use Rattle.std.proofs.Common.{◌≡◌, ℕ, ◌*◌, ◌-◌, ◌^◌, ◌%◌, min, SFits, w32, ap, arith, rules}
use Rattle.std.proofs.lemmas.Int.{to_z-of_z}
use Rattle.i_tree.specs.Seg.Buckets.{distance}
use Rattle.i_tree.specs.declared.seg.exp.SegRange.{SegRange}
use Rattle.plane.specs.Pairs.Strips.{width}
use Rattle.plane.proofs.PairsLemmas.Strips.{begins_upto}
use Rattle.plane.proofs.pairs.strips.Strips.range_in.Goals as goal

pub overflow_sub-abs_diff : goal.overflow_sub-abs_diff
overflow_sub-abs_diff c =
    let begins = begins_upto c.args.self c.args.strip c.args.bounds.high c.requires.reaches.upto in
    let high : SFits w32 c.args.bounds.high = search rules in
    let base : SFits w32 c.args.self.base = search rules in
    let is = simp to_z-of_z at c.abs_diff-2.ensures in
    omega (arith, begins, is)

pub returns : goal.returns
returns c =
    let begins = begins_upto c.args.self c.args.strip c.args.bounds.high c.requires.reaches.upto in
    let high : SFits w32 c.args.bounds.high = search rules in
    let low : SFits w32 c.args.bounds.low = search rules in
    let base : SFits w32 c.args.self.base = search rules in
    let above = simp to_z-of_z at c.abs_diff-2.ensures in
    let below = simp to_z-of_z at c.abs_diff.ensures in
    let first : c.args.strip * 2 ^ c.args.self.bits % 4294967296 ≡ c.args.strip * width c.args.self = omega (arith, begins, above) in
    let last : c.heights.result.max ≡ width c.args.self - 1 = ap (λ (range : SegRange ℕ). range.max) c.heights.ensures in
    let least : c.saturating_sub.result ≡ distance c.args.self.base c.args.bounds.low - c.args.strip * width c.args.self = cc in
    let greatest : c.min.result ≡ min (distance c.args.self.base c.args.bounds.high - c.args.strip * width c.args.self) (width c.args.self - 1) = omega (arith, above, first, last, c.min.ensures) in
    cc
