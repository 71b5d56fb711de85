-- Edges that don't cross, since the one is nowhere above the other.
use Rattle.std.proofs.Common.{◌≢◌, ℤ, ◌≤ℤ◌, ◌<ℤ◌, arith, ap, subst}
use Rattle.std.specs.Ordering.{int_cmp, nat_cmp}
use Rattle.std.specs.declared.cmp.Ordering.TheVariants.{Greater}
use Rattle.std.specs.Int.{int_min, int_max}
use Rattle.std.proofs.lemmas.Int.{ints, clamps}
use Rattle.plane.proofs.SweepLineLemmas.Comparisons.{not_greater}
use Rattle.plane.specs.declared.edge.Edge.{Edge}
use Rattle.plane.specs.declared.sweep_line.active.ActiveEdge.{ActiveEdge}
use Rattle.plane.specs.SweepLine.Crossings.{Cross}
use Rattle.plane.specs.SweepLine.Heights.{rightwards, height_by_runs, rise_by_run, Spans, IsLowerAt}
use Rattle.plane.specs.SweepLine.Active.{cmp_active, common_start, then_cmp}
use Rattle.plane.proofs.SweepLineLemmas.Gaps.{upto_between}
use Rattle.plane.specs.SweepLine.Heights.{IsUpto}
use Rattle.plane.proofs.SweepLineLemmas.Order.{common_end}
use Rattle.plane.proofs.SweepLineLemmas.Rightwards.{rightwards-same}

-- edges cross whichever comes first
pub Cross-exchanged : (one other : Edge) → Cross one other → Cross other one
Cross-exchanged one other cross = record {
  below = cross.above;
  above = cross.below;
  is_below = cross.is_above;
  is_above = cross.is_below;
}

pub max_before : (a b x : ℤ) → a ≤ℤ x → b ≤ℤ x → int_max a b ≤ℤ x
max_before a b x one other = omega (arith, ints, clamps)

pub min_behind : (a b x : ℤ) → x ≤ℤ a → x ≤ℤ b → x ≤ℤ int_min a b
min_behind a b x one other = omega (arith, ints, clamps)

-- what is said of edges that are turned to the right, of edges that go there
pub spans_of : (edge : Edge) (x : ℤ) → edge.x0 <ℤ edge.x1 → Spans edge x → (edge.x0 ≤ℤ x) × (x ≤ℤ edge.x1)
spans_of edge x some spans = (
  subst (λ (turned : Edge). turned.x0 ≤ℤ x) (rightwards-same edge some) spans.from,
  subst (λ (turned : Edge). x ≤ℤ turned.x1) (rightwards-same edge some) spans.upto,
)

pub lower_of : (one other : Edge) (x : ℤ) → one.x0 <ℤ one.x1 → other.x0 <ℤ other.x1 → IsLowerAt x one other → height_by_runs one other x <ℤ height_by_runs other one x
lower_of one other x some some_too lower =
    subst (λ (turned : Edge). height_by_runs one turned x <ℤ height_by_runs turned one x) (rightwards-same other some_too)
    (subst (λ (turned : Edge). height_by_runs turned (rightwards other) x <ℤ height_by_runs (rightwards other) turned x) (rightwards-same one some) lower)

-- where the one isn't above the other at the first common x, nor at the last or behind it, they don't cross
pub upto_uncrossed : (one other : ActiveEdge) (last : ℤ) → one.edge.x0 <ℤ one.edge.x1 → other.edge.x0 <ℤ other.edge.x1 → common_end one other ≤ℤ last
    → IsUpto one.edge other.edge (common_start one other) → IsUpto one.edge other.edge last → ¬ (Cross one.edge other.edge)
upto_uncrossed one other last some some_too ends first upto cross =
    let x = cross.above in
    let spanned = spans_of one.edge x some cross.is_above.other_spanned in
    let spanned_too = spans_of other.edge x some_too cross.is_above.spanned in
    let start : common_start one other ≤ℤ cross.above = max_before one.edge.x0 other.edge.x0 x spanned.0 spanned_too.0 in
    let within : cross.above ≤ℤ common_end one other = min_behind one.edge.x1 other.edge.x1 x spanned.1 spanned_too.1 in
    let here : IsUpto one.edge other.edge cross.above = upto_between one.edge other.edge (common_start one other) x last start (omega (arith, ints, within, ends)) first upto in
    let above = lower_of other.edge one.edge x some_too some cross.is_above.lower in
    omega (arith, ints, here, above)

-- where the one doesn't stand behind the other, nor is above it at the last common x, they don't cross
pub ahead_uncrossed : (one other : ActiveEdge) → one.edge.x0 <ℤ one.edge.x1 → other.edge.x0 <ℤ other.edge.x1 → cmp_active one other ≢ Greater
    → int_cmp (height_by_runs one.edge other.edge (common_end one other)) (height_by_runs other.edge one.edge (common_end one other)) ≢ Greater → ¬ (Cross one.edge other.edge)
ahead_uncrossed one other some some_too stands ends =
    let start = common_start one other in
    let end = common_end one other in
    let heights = int_cmp (height_by_runs one.edge other.edge start) (height_by_runs other.edge one.edge start) in
    let slopes = int_cmp (rise_by_run one.edge other.edge) (rise_by_run other.edge one.edge) in
    let begins = then_cmp (int_cmp one.edge.x0 other.edge.x0) (nat_cmp one.place other.place) in
    upto_uncrossed one other end some some_too (omega (arith, ints))
    (not_greater (height_by_runs one.edge other.edge start) (height_by_runs other.edge one.edge start) (λ greater. stands (ap (λ r. then_cmp r (then_cmp slopes begins)) greater)))
    (not_greater (height_by_runs one.edge other.edge end) (height_by_runs other.edge one.edge end) ends)
