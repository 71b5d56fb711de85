-- What is said of an edge is said of it turned to the right; and when two edges can't cross.
use Rattle.std.proofs.Common.{◌≡◌, ℤ, ◌*ℤ◌, ◌≤ℤ◌, ◌<ℤ◌, sym, subst, arith}
use Rattle.std.proofs.lemmas.Int.{ints, by_lt_z}
use Rattle.plane.specs.declared.edge.Edge.{Edge}
use Rattle.plane.specs.declared.point.Point.{Point}
use Rattle.plane.specs.SweepLine.Crossings.{Cross}
use Rattle.plane.specs.SweepLine.Heights.{rightwards, run, height_by_run, height_by_runs, Spans, IsLowerAt, IsUnder}
use Rattle.plane.specs.Locate.Events.{CoversSome}
use Rattle.plane.proofs.SweepLineLemmas.Rightwards.{rightwards-same}

module _ (one one' : Edge) (same : rightwards one ≡ rightwards one') where
  Spans-turned : (x : ℤ) → Spans one x → Spans one' x
  Spans-turned x spans = record { from = subst (λ (edge : Edge). edge.x0 ≤ℤ x) same spans.from; upto = subst (λ (edge : Edge). x ≤ℤ edge.x1) same spans.upto }

  pub IsUnder-turned : (point : Point) → IsUnder point one → IsUnder point one'
  IsUnder-turned point under = record {
    covers = record { from = subst (λ (edge : Edge). edge.x0 ≤ℤ point.x) same under.covers.from; before = subst (λ (edge : Edge). point.x <ℤ edge.x1) same under.covers.before };
    upto = subst (λ (edge : Edge). height_by_run edge point.x ≤ℤ (point.y *ℤ run edge)) same under.upto;
  }

  module _ (other other' : Edge) (same' : rightwards other ≡ rightwards other') where
    pub IsLowerAt-turned : (x : ℤ) → IsLowerAt x one other → IsLowerAt x one' other'
    IsLowerAt-turned x lower =
        subst (λ (edge : Edge). height_by_runs edge (rightwards other') x <ℤ height_by_runs (rightwards other') edge x) same
        (subst (λ (edge : Edge). height_by_runs (rightwards one) edge x <ℤ height_by_runs edge (rightwards one) x) same' lower)

pub Cross-turned : (one one' other other' : Edge) → rightwards one ≡ rightwards one' → rightwards other ≡ rightwards other' → Cross one other → Cross one' other'
Cross-turned one one' other other' same same' cross = record {
  below = cross.below;
  above = cross.above;
  is_below = record {
    spanned = Spans-turned one one' same cross.below cross.is_below.spanned;
    other_spanned = Spans-turned other other' same' cross.below cross.is_below.other_spanned;
    lower = IsLowerAt-turned one one' same other other' same' cross.below cross.is_below.lower;
  };
  is_above = record {
    spanned = Spans-turned other other' same' cross.above cross.is_above.spanned;
    other_spanned = Spans-turned one one' same cross.above cross.is_above.other_spanned;
    lower = IsLowerAt-turned other other' same' one one' same cross.above cross.is_above.lower;
  };
}

-- ---- edges that can't cross

never_both : (a b : ℤ) → a <ℤ b → b <ℤ a → ⊥
never_both a b below above = omega (arith, ints, below, above)

-- edges that cross have two x's in common
two_apart : (one other : Edge) (cross : Cross one other) → ¬ (cross.below ≡ cross.above)
two_apart one other cross same =
    never_both (height_by_runs (rightwards one) (rightwards other) cross.below) (height_by_runs (rightwards other) (rightwards one) cross.below) cross.is_below.lower
    (subst (λ x. IsLowerAt x other one) (sym same) cross.is_above.lower)

between : (start end a b : ℤ) → start ≤ℤ a → a ≤ℤ end → start ≤ℤ b → b ≤ℤ end → end ≤ℤ start → a ≡ b
between start end a b from upto from' upto' narrow = omega (arith, ints, from, upto, from', upto', narrow)

-- an edge doesn't cross itself
pub uncrossed_itself : (one : Edge) → ¬ (Cross one one)
uncrossed_itself one cross =
    let below = cross.is_below.lower in
    never_both (height_by_runs (rightwards one) (rightwards one) cross.below) (height_by_runs (rightwards one) (rightwards one) cross.below) below below

-- an edge that crosses another covers something
pub CoversSome-crossed : (one other : Edge) → Cross one other → CoversSome one
CoversSome-crossed one other cross =
    by_lt_z (rightwards one).x0 (rightwards one).x1 (λ some. some)
    (λ narrow. absurd (two_apart one other cross
    (between (rightwards one).x0 (rightwards one).x1 cross.below cross.above cross.is_below.spanned.from cross.is_below.spanned.upto cross.is_above.other_spanned.from cross.is_above.other_spanned.upto narrow)))

-- an edge that ends where another begins, or before, doesn't cross it
pub uncrossed_before : (one other : Edge) → one.x0 <ℤ one.x1 → other.x0 <ℤ other.x1 → one.x1 ≤ℤ other.x0 → ¬ (Cross one other)
uncrossed_before one other some other_some before cross =
    two_apart one other cross
    (between other.x0 one.x1 cross.below cross.above
    (from cross.below cross.is_below.other_spanned) (upto cross.below cross.is_below.spanned)
    (from cross.above cross.is_above.spanned) (upto cross.above cross.is_above.other_spanned) before)
  where
    from : (x : ℤ) → Spans other x → other.x0 ≤ℤ x
    from x spans = subst (λ (edge : Edge). edge.x0 ≤ℤ x) (rightwards-same other other_some) spans.from

    upto : (x : ℤ) → Spans one x → x ≤ℤ one.x1
    upto x spans = subst (λ (edge : Edge). x ≤ℤ edge.x1) (rightwards-same one some) spans.upto
