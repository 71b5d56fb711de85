use Rattle.std.proofs.Common.{◌≡◌, ◌+ℤ◌, ap₂, arith, rules, w32, FitsSigned}
use Rattle.std.specs.Int.{w128}
use Rattle.std.proofs.lemmas.Int.{ints, to_z-of_z}
use Rattle.offset.specs.Joins.{point_at}
use Rattle.offset.specs.Raw.{IsPointIn32Bits, moved}
use Rattle.offset.proofs.mitres.tip_at.Goals.{else-is_in_32_bits-via-then-is_in_32_bits+else-is_in_32_bits-2, else-is_in_32_bits-via-else-is_in_32_bits}
use Rattle.offset.proofs.mitres.tip_at.Goals as goal

pub returns-then-is_in_32_bits-2 : goal.returns-then-is_in_32_bits-2
returns-then-is_in_32_bits-2 c =
    let (from_x, below_x) = c.if-is_in_32_bits.ensures in
    let (from_y, below_y) = c.if-is_in_32_bits-2.ensures in
    let x : c.tip_on-x.result ≡ (c.args.at.x +ℤ (c.args.from.x +ℤ c.args.x)) = search rules in
    let y : c.tip_on-y.result ≡ (c.args.at.y +ℤ (c.args.from.y +ℤ c.args.y)) = search rules in
    let wide_x : FitsSigned w128 c.tip_on-x.result = record { sfits = c.tip_on-x.type_inv } in
    let wide_y : FitsSigned w128 c.tip_on-y.result = record { sfits = c.tip_on-y.type_inv } in
    let fits_x : FitsSigned w32 c.tip_on-x.result = omega (arith, ints, from_x, below_x) in
    let fits_y : FitsSigned w32 c.tip_on-y.result = omega (arith, ints, from_y, below_y) in
    let told = ap₂ point_at x y in
    simp to_z-of_z told

pub returns-else-is_in_32_bits : goal.returns-else-is_in_32_bits
returns-else-is_in_32_bits c = λ is.
    let x : c.tip_on-x.result ≡ (c.args.at.x +ℤ (c.args.from.x +ℤ c.args.x)) = search rules in
    let y : c.tip_on-y.result ≡ (c.args.at.y +ℤ (c.args.from.y +ℤ c.args.y)) = search rules in
    elim c.else-is_in_32_bits.branch [
      | else-is_in_32_bits-via-then-is_in_32_bits+else-is_in_32_bits-2 w ↦ w.if-is_in_32_bits-2.ensures (omega (arith, ints, y, is.y_from), omega (arith, ints, y, is.y_below))
      | else-is_in_32_bits-via-else-is_in_32_bits w ↦ w.if-is_in_32_bits.ensures (omega (arith, ints, x, is.x_from), omega (arith, ints, x, is.x_below))
    ]
