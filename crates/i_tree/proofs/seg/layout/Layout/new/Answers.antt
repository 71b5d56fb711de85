use Rattle.std.proofs.Common.{◌-◌, refl, sym, ◌∙◌}
use Rattle.i_tree.specs.Seg.Buckets.{distance}
use Rattle.i_tree.proofs.SegLemmas.Numbers.{number_not_lt}
use Rattle.i_tree.proofs.SegLemmas.Widths.{too_narrow, layout_is, cut_is, width_of_exponent}
use Rattle.i_tree.proofs.seg.layout.Layout.new.Goals as goal

pub returns-then-power-lt-HALF_POWER-clause-cases : goal.returns-then-power-lt-HALF_POWER-clause-cases
returns-then-power-lt-HALF_POWER-clause-cases g c =
    too_narrow (g.R.UInt.LayoutUInt.number g.R.UInt.LayoutUInt.HEAP_MIN_SPAN) (g.R.UInt.LayoutUInt.number c.in_ok-span.span) c.ilog2-power.result
    (g.R.LayoutNumber.whole c.args.start) (g.R.LayoutNumber.whole c.args.end) c.in_ok-span.ensures
    c.ilog2-power.ensures.greatest c.if-power-lt-HALF_POWER.true

pub invariant_of-result : goal.invariant_of-result
invariant_of-result g c =
    cut_is 0 (g.R.UInt.LayoutUInt.number c.in_ok-span.span) c.ilog2-power.result
    (g.R.LayoutNumber.whole c.args.start) (g.R.LayoutNumber.whole c.args.end) c.in_ok-span.ensures
    c.ilog2-power.ensures.reached c.if-power-lt-HALF_POWER.false g.R.UInt.LayoutUInt.BITS c.ilog2-power.ensures.greatest c.within.ensures.range

pub returns-clause-cases : goal.returns-clause-cases
returns-clause-cases g c =
    let allowed =
    number_not_lt g.R.UInt.PartialOrd.partial_cmp g.R.UInt.Ord.cmp g.met.R.UInt.Ord.matches_partial_cmp g.R.UInt.LayoutUInt.number g.met.R.UInt.LayoutUInt.order
    c.in_ok-span.span c.HEAP_MIN_SPAN.result (sym c.lt.ensures ∙ c.if-lt.false) in
    layout_is (g.R.UInt.LayoutUInt.number g.R.UInt.LayoutUInt.HEAP_MIN_SPAN) (g.R.UInt.LayoutUInt.number c.in_ok-span.span) c.ilog2-power.result
    (g.R.LayoutNumber.whole c.args.start) (g.R.LayoutNumber.whole c.args.end) c.in_ok-span.ensures
    c.ilog2-power.ensures.reached c.if-power-lt-HALF_POWER.false (rw (← c.HEAP_MIN_SPAN.ensures) allowed)

pub returns-clause-layout : goal.returns-clause-layout
returns-clause-layout g c =
    let cut = invariant_of-result g c in
    record {
      starts = refl;
      ends = refl;
      width = width_of_exponent (distance (g.R.LayoutNumber.whole c.args.start) (g.R.LayoutNumber.whole c.args.end)) (c.ilog2-power.result - 4) cut.wide cut.enough;
    }
