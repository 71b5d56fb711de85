-- Edges that cross: their heights differ in opposite ways at the two ends of the x's that both span.
use Rattle.std.proofs.Common.{◌≡◌, ℤ, ◌≤ℤ◌, ◌<ℤ◌, inl, inr, Bool, true, false, MatchBool, arith, sym}
use Rattle.std.specs.Int.{int_min, int_max}
use Rattle.std.specs.Ordering.{int_cmp}
use Rattle.std.specs.declared.cmp.Ordering.{Ordering}
use Rattle.std.specs.declared.cmp.Ordering.TheVariants.{Less, Greater}
use Rattle.std.proofs.lemmas.Cmp.{int_ranked}
use Rattle.std.proofs.lemmas.Int.{ints, clamps, by_lt_z}
use Rattle.plane.proofs.SweepLineLemmas.Comparisons.{says_greater, says_less}
use Rattle.plane.specs.declared.edge.Edge.{Edge}
use Rattle.plane.specs.SweepLine.Heights.{rightwards, height_by_runs, Spans, IsLowerAt}
use Rattle.plane.specs.SweepLine.Crossings.{IsBelowAt, Cross, AreOpposite}
use Rattle.plane.proofs.SweepLineLemmas.Gaps.{upto_between}

-- The first and the last x that both edges span, where they span one.
pub record IsCommonSpan (one other : Edge) (first last : ℤ) : Type 0 where
  pub first_is : first ≡ int_max (rightwards one).x0 (rightwards other).x0
  pub last_is : last ≡ int_min (rightwards one).x1 (rightwards other).x1

-- how the one's height at x stands to the other's
abbrev pub heights_at : Edge → Edge → ℤ → Ordering
heights_at one other x = int_cmp (height_by_runs (rightwards one) (rightwards other) x) (height_by_runs (rightwards other) (rightwards one) x)

less_of : (a b : ℤ) → int_cmp a b ≡ Less → a <ℤ b
less_of a b says = int_ranked a b Less (sym says)

greater_of : (a b : ℤ) → int_cmp a b ≡ Greater → b <ℤ a
greater_of a b says = int_ranked a b Greater (sym says)

-- an x that both span lies between the two ends
within_max : (a b first x : ℤ) → first ≡ int_max a b → a ≤ℤ x → b ≤ℤ x → first ≤ℤ x
within_max a b first x is one other = omega (arith, ints, clamps)

within_min : (a b last x : ℤ) → last ≡ int_min a b → x ≤ℤ a → x ≤ℤ b → x ≤ℤ last
within_min a b last x is one other = omega (arith, ints, clamps)

max_upto : (a b first x : ℤ) → first ≡ int_max a b → first ≤ℤ x → (a ≤ℤ x) × (b ≤ℤ x)
max_upto a b first x is after = omega (arith, ints, clamps)

min_from : (a b last x : ℤ) → last ≡ int_min a b → x ≤ℤ last → (x ≤ℤ a) × (x ≤ℤ b)
min_from a b last x is before = omega (arith, ints, clamps)

module _ (one other : Edge) (first last : ℤ) (common : IsCommonSpan one other first last) where
  after_first : (x : ℤ) → Spans one x → Spans other x → first ≤ℤ x
  after_first x spanned other_spanned = within_max (rightwards one).x0 (rightwards other).x0 first x common.first_is spanned.from other_spanned.from

  before_last : (x : ℤ) → Spans one x → Spans other x → x ≤ℤ last
  before_last x spanned other_spanned = within_min (rightwards one).x1 (rightwards other).x1 last x common.last_is spanned.upto other_spanned.upto

  -- edges that have no x in common don't cross
  pub apart : last <ℤ first → ¬ (Cross one other)
  apart none cross =
      let after = after_first cross.below cross.is_below.spanned cross.is_below.other_spanned in
      let before = before_last cross.below cross.is_below.spanned cross.is_below.other_spanned in
      omega (arith, ints, none, after, before)

  -- the heights at x, each times both runs
  abbrev low : ℤ → ℤ
  low x = height_by_runs (rightwards one) (rightwards other) x

  abbrev high : ℤ → ℤ
  high x = height_by_runs (rightwards other) (rightwards one) x

  module _ (some : first ≤ℤ last) where
    spans : (x : ℤ) → first ≤ℤ x → x ≤ℤ last → Spans one x × Spans other x
    spans x after before =
        let from = max_upto (rightwards one).x0 (rightwards other).x0 first x common.first_is after in
        let upto = min_from (rightwards one).x1 (rightwards other).x1 last x common.last_is before in
        (record { from = from.0; upto = upto.0 }, record { from = from.1; upto = upto.1 })

    below_at : (x : ℤ) → first ≤ℤ x → x ≤ℤ last → IsLowerAt x one other → IsBelowAt one other x
    below_at x after before lower =
        let both = spans x after before in
        record { spanned = both.0; other_spanned = both.1; lower = lower }

    above_at : (x : ℤ) → first ≤ℤ x → x ≤ℤ last → IsLowerAt x other one → IsBelowAt other one x
    above_at x after before lower =
        let both = spans x after before in
        record { spanned = both.1; other_spanned = both.0; lower = lower }

    cross-of_opposite : AreOpposite (heights_at one other first) (heights_at one other last) → Cross one other
    cross-of_opposite (inl (less, greater)) = record {
      below = first;
      above = last;
      is_below = below_at first (omega (arith, ints)) some (less_of (low first) (high first) less);
      is_above = above_at last some (omega (arith, ints)) (greater_of (low last) (high last) greater);
    }
    cross-of_opposite (inr (greater, less)) = record {
      below = last;
      above = first;
      is_below = below_at last some (omega (arith, ints)) (less_of (low last) (high last) less);
      is_above = above_at first (omega (arith, ints)) some (greater_of (low first) (high first) greater);
    }

    -- where the one isn't above the other at both ends, it never is
    never_above : low first ≤ℤ high first → low last ≤ℤ high last → ¬ (Cross one other)
    never_above start end cross =
        let after = after_first cross.above cross.is_above.other_spanned cross.is_above.spanned in
        let before = before_last cross.above cross.is_above.other_spanned cross.is_above.spanned in
        let upto = upto_between (rightwards one) (rightwards other) first cross.above last after before start end in
        let above = cross.is_above.lower in
        omega (arith, ints, upto, above)

    never_below : high first ≤ℤ low first → high last ≤ℤ low last → ¬ (Cross one other)
    never_below start end cross =
        let after = after_first cross.below cross.is_below.spanned cross.is_below.other_spanned in
        let before = before_last cross.below cross.is_below.spanned cross.is_below.other_spanned in
        let upto = upto_between (rightwards other) (rightwards one) first cross.below last after before start end in
        let below = cross.is_below.lower in
        omega (arith, ints, upto, below)

    apart-of_same : ¬ (AreOpposite (heights_at one other first) (heights_at one other last)) → ¬ (Cross one other)
    apart-of_same same =
        by_lt_z (low first) (high first)
        (λ below. by_lt_z (high last) (low last)
        (λ above. absurd (same (inl (says_less (low first) (high first) below, says_greater (low last) (high last) above))))
        (λ upto. never_above (omega (arith, ints, below)) upto))
        (λ from. by_lt_z (low last) (high last)
        (λ below. by_lt_z (high first) (low first)
        (λ above. absurd (same (inr (says_greater (low first) (high first) above, says_less (low last) (high last) below))))
        (λ upto. never_above upto (omega (arith, ints, below))))
        (λ onwards. never_below from onwards))

    pub cross_tested : (r : Bool) → MatchBool r (AreOpposite (heights_at one other first) (heights_at one other last)) (¬ (AreOpposite (heights_at one other first) (heights_at one other last))) → MatchBool r (Cross one other) (¬ (Cross one other))
    cross_tested true opposite = cross-of_opposite opposite
    cross_tested false same = apart-of_same same
