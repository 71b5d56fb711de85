-- By the gap at the column of the moment from which it is asked, and what the lower edge gains of it from each column to the next.
use Rattle.std.proofs.Common.{◌≡◌, ℤ, pos, ◌+ℤ◌, ◌*ℤ◌, ◌<ℤ◌, ◌≤ℤ◌, ◌^◌, sym, subst, ◌∙◌, arith, rules, FitsSigned, to_z, of_z}
use Rattle.std.specs.Int.{int_min, w32, w64, w128}
use Rattle.std.proofs.lemmas.Int.{ints, to_z-of_z}
use Rattle.plane.specs.Columns.Moments.{IsHigher, Overcomes, at_column, behind_column}
use Rattle.plane.specs.SweepLine.Heights.{IsUpto, height_by_runs}
use Rattle.plane.proofs.SweepLineLemmas.Gaps.{gap, slope}
use Rattle.plane.proofs.ColumnLemmas.FirstAbove.{above_of, end-near, first-at_once, first-overcome, moment-within, moments-fit, moments_within, near, never_above, steeper, upto_of}
use Rattle.plane.proofs.columns.moments.first_above.Goals as goal

pub returns-then-ne : goal.returns-then-ne
returns-then-ne c =
    let below = c.args.below in
    let above = c.args.above in
    let end = int_min below.x1 above.x1 in
    let upto : IsUpto below above end = upto_of c.compare_ends.result (height_by_runs below above end) (height_by_runs above below end) c.compare_ends.ensures (sym c.ne.ensures ∙ c.if-ne.true) in
    never_above below above c.args.from c.requires.common.1 c.requires.steeper upto

pub column_of-x-requires-clause-from : goal.column_of-x-requires-clause-from
column_of-x-requires-clause-from c =
    let below = c.args.below in
    let above = c.args.above in
    let below_x0 : FitsSigned w32 c.args.below.x0 = search rules in
    let below_x1 : FitsSigned w32 c.args.below.x1 = search rules in
    let above_x0 : FitsSigned w32 c.args.above.x0 = search rules in
    let above_x1 : FitsSigned w32 c.args.above.x1 = search rules in
    let within = moment-within below.x0 above.x0 below.x1 above.x1 c.args.from below_x0 above_x0 below_x1 above_x1 c.requires.common.0 c.requires.common.1 in
    let from_fits : FitsSigned w64 c.args.from = omega (arith, ints, within) in
    simp to_z-of_z within.0

pub column_of-x-requires-clause-upto : goal.column_of-x-requires-clause-upto
column_of-x-requires-clause-upto c =
    let below = c.args.below in
    let above = c.args.above in
    let below_x0 : FitsSigned w32 c.args.below.x0 = search rules in
    let below_x1 : FitsSigned w32 c.args.below.x1 = search rules in
    let above_x0 : FitsSigned w32 c.args.above.x0 = search rules in
    let above_x1 : FitsSigned w32 c.args.above.x1 = search rules in
    let within = moment-within below.x0 above.x0 below.x1 above.x1 c.args.from below_x0 above_x0 below_x1 above_x1 c.requires.common.0 c.requires.common.1 in
    let from_fits : FitsSigned w64 c.args.from = omega (arith, ints, within) in
    simp to_z-of_z within.1

pub returns-then-gap-lt0 : goal.returns-then-gap-lt0
returns-then-gap-lt0 c =
    let below = c.args.below in
    let above = c.args.above in
    let below_x0 : FitsSigned w32 c.args.below.x0 = search rules in
    let below_x1 : FitsSigned w32 c.args.below.x1 = search rules in
    let above_x0 : FitsSigned w32 c.args.above.x0 = search rules in
    let above_x1 : FitsSigned w32 c.args.above.x1 = search rules in
    let within = moment-within below.x0 above.x0 below.x1 above.x1 c.args.from below_x0 above_x0 below_x1 above_x1 c.requires.common.0 c.requires.common.1 in
    let from_fits : FitsSigned w64 c.args.from = omega (arith, ints, within) in
    let x = c.column_of-x.result in
    let at : at_column x ≤ℤ c.args.from = search rules in
    let behind : c.args.from ≤ℤ behind_column x = search rules in
    let gap_is : c.gap_at-gap.result ≡ gap below above x = search rules in
    let lower : c.gap_at-gap.result <ℤ pos 0 = search rules in
    let higher : IsHigher below above x = omega (arith, ints, lower, gap_is) in
    let first = first-at_once below above c.args.from c.requires.common.1 x at behind higher c.requires.steeper in
    simp to_z-of_z first

pub moments_until-requires-clause-gain : goal.moments_until-requires-clause-gain
moments_until-requires-clause-gain c =
    let below = c.args.below in
    let above = c.args.above in
    let x = c.column_of-x.result in
    let at : at_column x ≤ℤ c.args.from = search rules in
    let behind : c.args.from ≤ℤ behind_column x = search rules in
    let gap_is : c.gap_at-gap.result ≡ gap below above x = search rules in
    let end = int_min below.x1 above.x1 in
    let higher : IsHigher below above end = above_of c.compare_ends.result (height_by_runs below above end) (height_by_runs above below end) c.compare_ends.ensures (sym c.ne.ensures ∙ c.if-ne.false) in
    let from_none : pos 0 ≤ℤ c.gap_at-gap.result = search rules in
    let upto : IsUpto below above x = omega (arith, ints, from_none, gap_is) in
    let gain_is : c.gain_by_column.result ≡ slope above below = search rules in
    let up = steeper below above c.args.from c.requires.common.1 higher x at behind upto in
    let some : pos 0 <ℤ c.gain_by_column.result = omega (arith, ints, gain_is, up) in
    let fits : FitsSigned w128 c.gain_by_column.result = record { sfits = c.gain_by_column.type_inv } in
    simp to_z-of_z some

pub moments_until-requires-clause-near : goal.moments_until-requires-clause-near
moments_until-requires-clause-near c =
    let below = c.args.below in
    let above = c.args.above in
    let below_x0 : FitsSigned w32 c.args.below.x0 = search rules in
    let below_x1 : FitsSigned w32 c.args.below.x1 = search rules in
    let above_x0 : FitsSigned w32 c.args.above.x0 = search rules in
    let above_x1 : FitsSigned w32 c.args.above.x1 = search rules in
    let x = c.column_of-x.result in
    let at : at_column x ≤ℤ c.args.from = search rules in
    let behind : c.args.from ≤ℤ behind_column x = search rules in
    let gap_is : c.gap_at-gap.result ≡ gap below above x = search rules in
    let end = int_min below.x1 above.x1 in
    let higher : IsHigher below above end = above_of c.compare_ends.result (height_by_runs below above end) (height_by_runs above below end) c.compare_ends.ensures (sym c.ne.ensures ∙ c.if-ne.false) in
    let from_none : pos 0 ≤ℤ c.gap_at-gap.result = search rules in
    let upto : IsUpto below above x = omega (arith, ints, from_none, gap_is) in
    let gain_is : c.gain_by_column.result ≡ slope above below = search rules in
    let wide = end-near below.x0 above.x0 below.x1 above.x1 x c.args.from below_x0 above_x0 below_x1 above_x1 c.requires.common.0 behind in
    let there : c.gap_at-gap.result <ℤ (pos (2 ^ 32) *ℤ c.gain_by_column.result) =
    subst (λ (g : ℤ). g <ℤ (pos (2 ^ 32) *ℤ c.gain_by_column.result)) (sym gap_is)
    (subst (λ (d : ℤ). gap below above x <ℤ (pos (2 ^ 32) *ℤ d)) (sym gain_is) (near below above c.args.from c.requires.common.1 higher x at behind upto (pos (2 ^ 32)) wide)) in
    let fits : FitsSigned w128 c.gain_by_column.result = record { sfits = c.gain_by_column.type_inv } in
    let gap_fits : FitsSigned w128 c.gap_at-gap.result = record { sfits = c.gap_at-gap.type_inv } in
    simp to_z-of_z there

pub overflow_add-result : goal.overflow_add-result
overflow_add-result c =
    let x_fits : FitsSigned w32 c.column_of-x.result = record { sfits = c.column_of-x.type_inv } in
    let x_wide : FitsSigned w64 c.column_of-x.result = omega (arith, ints, x_fits.sfits) in
    let twice : FitsSigned w64 (pos 2 *ℤ c.column_of-x.result) = omega (arith, ints, x_fits.sfits) in
    let moments_fit : FitsSigned w64 c.moments_until.result = record { sfits = c.moments_until.type_inv } in
    let gap_fits : FitsSigned w128 c.gap_at-gap.result = record { sfits = c.gap_at-gap.type_inv } in
    let gain_fits : FitsSigned w128 c.gain_by_column.result = record { sfits = c.gain_by_column.type_inv } in
    let (columns, some, few, told) = c.moments_until.ensures in
    let overcomes : Overcomes c.gap_at-gap.result c.gain_by_column.result columns c.moments_until.result =
    subst (λ (g : ℤ). Overcomes g c.gain_by_column.result columns c.moments_until.result) (to_z-of_z w128 c.gap_at-gap.result gap_fits)
    (subst (λ (d : ℤ). Overcomes (to_z w128 (of_z w128 c.gap_at-gap.result)) d columns c.moments_until.result) (to_z-of_z w128 c.gain_by_column.result gain_fits) told) in
    let bounds = moments_within c.gap_at-gap.result c.gain_by_column.result columns c.moments_until.result some overcomes in
    let sum : FitsSigned w64 ((pos 2 *ℤ c.column_of-x.result) +ℤ c.moments_until.result) = moments-fit c.column_of-x.result columns c.moments_until.result x_fits few bounds.0 bounds.1 in
    simp to_z-of_z sum

pub returns : goal.returns
returns c =
    let below = c.args.below in
    let above = c.args.above in
    let x = c.column_of-x.result in
    let at : at_column x ≤ℤ c.args.from = search rules in
    let behind : c.args.from ≤ℤ behind_column x = search rules in
    let gap_is : c.gap_at-gap.result ≡ gap below above x = search rules in
    let end = int_min below.x1 above.x1 in
    let higher : IsHigher below above end = above_of c.compare_ends.result (height_by_runs below above end) (height_by_runs above below end) c.compare_ends.ensures (sym c.ne.ensures ∙ c.if-ne.false) in
    let from_none : pos 0 ≤ℤ c.gap_at-gap.result = search rules in
    let upto : IsUpto below above x = omega (arith, ints, from_none, gap_is) in
    let x_fits : FitsSigned w32 c.column_of-x.result = record { sfits = c.column_of-x.type_inv } in
    let x_wide : FitsSigned w64 c.column_of-x.result = omega (arith, ints, x_fits.sfits) in
    let twice : FitsSigned w64 (pos 2 *ℤ c.column_of-x.result) = omega (arith, ints, x_fits.sfits) in
    let moments_fit : FitsSigned w64 c.moments_until.result = record { sfits = c.moments_until.type_inv } in
    let gap_fits : FitsSigned w128 c.gap_at-gap.result = record { sfits = c.gap_at-gap.type_inv } in
    let gain_fits : FitsSigned w128 c.gain_by_column.result = record { sfits = c.gain_by_column.type_inv } in
    let (columns, some, few, told) = c.moments_until.ensures in
    let overcomes : Overcomes c.gap_at-gap.result c.gain_by_column.result columns c.moments_until.result =
    subst (λ (g : ℤ). Overcomes g c.gain_by_column.result columns c.moments_until.result) (to_z-of_z w128 c.gap_at-gap.result gap_fits)
    (subst (λ (d : ℤ). Overcomes (to_z w128 (of_z w128 c.gap_at-gap.result)) d columns c.moments_until.result) (to_z-of_z w128 c.gain_by_column.result gain_fits) told) in
    let bounds = moments_within c.gap_at-gap.result c.gain_by_column.result columns c.moments_until.result some overcomes in
    let sum : FitsSigned w64 ((pos 2 *ℤ c.column_of-x.result) +ℤ c.moments_until.result) = moments-fit c.column_of-x.result columns c.moments_until.result x_fits few bounds.0 bounds.1 in
    let gain_is : c.gain_by_column.result ≡ slope above below = search rules in
    let over : Overcomes (gap below above x) (slope above below) columns c.moments_until.result =
    subst (λ (g : ℤ). Overcomes g (slope above below) columns c.moments_until.result) gap_is
    (subst (λ (d : ℤ). Overcomes c.gap_at-gap.result d columns c.moments_until.result) gain_is overcomes) in
    let first = first-overcome below above c.args.from c.requires.common.1 higher x at behind upto columns c.moments_until.result some over in
    simp to_z-of_z first
