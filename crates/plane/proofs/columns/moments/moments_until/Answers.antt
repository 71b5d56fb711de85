use Rattle.std.proofs.Common.{◌≡◌, ◌≢◌, inl, inr, pos, ◌+ℤ◌, ◌*ℤ◌, ◌<ℤ◌, ◌^◌, refl, arith, rules, FitsSigned}
use Rattle.std.specs.Int.{w64, w128}
use Rattle.std.specs.Int.Signed.{quot_z, rem_z}
use Rattle.std.proofs.lemmas.Int.{ints, to_z-of_z}
use Rattle.plane.specs.Columns.Moments.{Overcomes}
use Rattle.plane.proofs.ColumnLemmas.FirstAbove.{remainder_within, quotient_is, quotient_below, closed, left}
use Rattle.plane.proofs.columns.moments.moments_until.Goals as goal

pub overflow_mul-result : goal.overflow_mul-result
overflow_mul-result c =
    let gap = c.args.gap in
    let gain = c.args.gain in
    let q = quot_z gap gain in
    let is = quotient_is gap gain c.requires.gap c.requires.gain in
    let below : q <ℤ pos (2 ^ 32) = quotient_below gap gain q (pos (2 ^ 32)) c.requires.gain is.1 c.requires.near in
    let gap_fits : FitsSigned w128 gap = c.ranges.gap in
    let gain_fits : FitsSigned w128 gain = c.ranges.gain in
    let wide : FitsSigned w128 q = omega (arith, ints, is.0, below) in
    let q_fits : FitsSigned w64 q = omega (arith, ints, is.0, below) in
    let twice : FitsSigned w64 (pos 2 *ℤ q) = omega (arith, ints, is.0, below) in
    simp to_z-of_z twice

pub returns-then-gap-gain-eq0 : goal.returns-then-gap-gain-eq0
returns-then-gap-gain-eq0 c =
    let gap = c.args.gap in
    let gain = c.args.gain in
    let q = quot_z gap gain in
    let is = quotient_is gap gain c.requires.gap c.requires.gain in
    let below : q <ℤ pos (2 ^ 32) = quotient_below gap gain q (pos (2 ^ 32)) c.requires.gain is.1 c.requires.near in
    let gap_fits : FitsSigned w128 gap = c.ranges.gap in
    let gain_fits : FitsSigned w128 gain = c.ranges.gain in
    let wide : FitsSigned w128 q = omega (arith, ints, is.0, below) in
    let q_fits : FitsSigned w64 q = omega (arith, ints, is.0, below) in
    let twice : FitsSigned w64 (pos 2 *ℤ q) = omega (arith, ints, is.0, below) in
    let more : FitsSigned w64 ((pos 2 *ℤ q) +ℤ pos 1) = omega (arith, ints, is.0, below) in
    let rest = remainder_within gap gain c.requires.gap c.requires.gain in
    let r_fits : FitsSigned w128 (rem_z gap gain) = omega (arith, ints, rest, c.ranges.gap) in
    let none : rem_z gap gain ≡ pos 0 = search rules in
    let told : Overcomes gap gain q ((pos 2 *ℤ q) +ℤ pos 1) = inl (closed gap gain c.requires.gap c.requires.gain none, refl) in
    (q, is.0, below, simp to_z-of_z told)

pub overflow_mul-result-2 : goal.overflow_mul-result-2
overflow_mul-result-2 c =
    let gap = c.args.gap in
    let gain = c.args.gain in
    let q = quot_z gap gain in
    let is = quotient_is gap gain c.requires.gap c.requires.gain in
    let below : q <ℤ pos (2 ^ 32) = quotient_below gap gain q (pos (2 ^ 32)) c.requires.gain is.1 c.requires.near in
    let gap_fits : FitsSigned w128 gap = c.ranges.gap in
    let gain_fits : FitsSigned w128 gain = c.ranges.gain in
    let wide : FitsSigned w128 q = omega (arith, ints, is.0, below) in
    let q_fits : FitsSigned w64 q = omega (arith, ints, is.0, below) in
    let twice : FitsSigned w64 (pos 2 *ℤ q) = omega (arith, ints, is.0, below) in
    simp to_z-of_z twice

pub returns : goal.returns
returns c =
    let gap = c.args.gap in
    let gain = c.args.gain in
    let q = quot_z gap gain in
    let is = quotient_is gap gain c.requires.gap c.requires.gain in
    let below : q <ℤ pos (2 ^ 32) = quotient_below gap gain q (pos (2 ^ 32)) c.requires.gain is.1 c.requires.near in
    let gap_fits : FitsSigned w128 gap = c.ranges.gap in
    let gain_fits : FitsSigned w128 gain = c.ranges.gain in
    let wide : FitsSigned w128 q = omega (arith, ints, is.0, below) in
    let q_fits : FitsSigned w64 q = omega (arith, ints, is.0, below) in
    let twice : FitsSigned w64 (pos 2 *ℤ q) = omega (arith, ints, is.0, below) in
    let more : FitsSigned w64 ((pos 2 *ℤ q) +ℤ pos 2) = omega (arith, ints, is.0, below) in
    let rest = remainder_within gap gain c.requires.gap c.requires.gain in
    let r_fits : FitsSigned w128 (rem_z gap gain) = omega (arith, ints, rest, c.ranges.gap) in
    let some : rem_z gap gain ≢ pos 0 = search rules in
    let told : Overcomes gap gain q ((pos 2 *ℤ q) +ℤ pos 2) = inr (left gap gain c.requires.gap c.requires.gain some, is.2, omega (arith, ints)) in
    (q, is.0, below, simp to_z-of_z told)
