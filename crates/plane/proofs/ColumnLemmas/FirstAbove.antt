-- The first moment at which one edge is above another, by how far it is below and how much it gains from column to column.
use Rattle.std.proofs.Common.{◌≡◌, ◌≢◌, inl, inr, ◌<◌, ◌^◌, ◌%◌, ℤ, pos, negsuc, ◌+ℤ◌, ◌-ℤ◌, ◌*ℤ◌, ◌≤ℤ◌, ◌<ℤ◌, ap, subst, FitsSigned, w32, w64, true, false, not, arith}
use Rattle.std.specs.Bool.{◌==◌}
use Rattle.std.specs.Int.{int_max, int_min}
use Rattle.std.specs.Ordering.{int_cmp, ordering_index}
use Rattle.std.specs.declared.cmp.Ordering.{Ordering}
use Rattle.std.specs.declared.cmp.Ordering.TheVariants.{Less, Equal, Greater}
use Rattle.std.proofs.lemmas.Cmp.{int_ranked}
use Rattle.std.specs.Int.Signed.{quot_z, rem_z}
use Rattle.std.proofs.lemmas.Int.{ints, clamps, by_lt_z}
use Rattle.std.proofs.Math.Nat.{mod-add-div', mod-lt}
use Rattle.plane.specs.declared.edge.Edge.{Edge}
use Rattle.plane.specs.Columns.Moments.{IsAbove, IsFirstAbove, IsHigher, IsHigherBehind, IsSteeper, Overcomes, at_column, behind_column, last_common}
use Rattle.plane.specs.SweepLine.Heights.{IsUpto, height_by_run, height_by_runs, rise_by_run}
use Rattle.plane.proofs.MeetLemmas.Identities.{number, plus, minus, times, identity}
use Rattle.plane.proofs.SweepLineLemmas.Gaps.{gap, slope, gap-rising, product_above}
use Rattle.plane.proofs.ColumnLemmas.Moments.{above-or-not, above-at, above-behind, above-steeper, above-later, higher-above, higher-before, higher-behind, never_higher, steeper-above}

-- ---- the division

abbrev pub IsQuotient : ℤ → ℤ → ℤ → Type 0
IsQuotient g d q = (pos 0 ≤ℤ q) × ((q *ℤ d) ≤ℤ g) × (g <ℤ ((q +ℤ pos 1) *ℤ d))

pub quotient_is : (g d : ℤ) → pos 0 ≤ℤ g → pos 0 <ℤ d → IsQuotient g d (quot_z g d)
quotient_is (pos g) (pos d) from some =
    let whole = mod-add-div' g d in
    let less : g % d < d = mod-lt g (omega (arith, ints, some)) in
    (omega (arith, ints), omega (arith, ints, whole), omega (arith, ints, whole, less))
quotient_is (negsuc g) d from some = absurd (omega (arith, ints, from))
quotient_is (pos g) (negsuc d) from some = absurd (omega (arith, ints, some))

pub closed : (g d : ℤ) → pos 0 ≤ℤ g → pos 0 <ℤ d → rem_z g d ≡ pos 0 → g ≡ (quot_z g d *ℤ d)
closed (pos g) (pos d) from some none =
    let whole = mod-add-div' g d in
    let nothing : g % d ≡ 0 = omega (arith, ints, none) in
    omega (arith, ints, whole, nothing)
closed (negsuc g) d from some none = absurd (omega (arith, ints, from))
closed (pos g) (negsuc d) from some none = absurd (omega (arith, ints, some))

pub left : (g d : ℤ) → pos 0 ≤ℤ g → pos 0 <ℤ d → rem_z g d ≢ pos 0 → (quot_z g d *ℤ d) <ℤ g
left (pos g) (pos d) from some more =
    let whole = mod-add-div' g d in
    let something : g % d ≢ 0 = λ none. more (ap pos none) in
    omega (arith, ints, whole, something)
left (negsuc g) d from some more = absurd (omega (arith, ints, from))
left (pos g) (negsuc d) from some more = absurd (omega (arith, ints, some))

apart : (m q d : ℤ) → ((q -ℤ m) *ℤ d) ≡ ((q *ℤ d) -ℤ (m *ℤ d))
apart m q d = identity (times (minus (number q) (number m)) (number d)) (minus (times (number q) (number d)) (times (number m) (number d))) (omega arith)

-- a quotient is below what its divisor's multiple of is above
pub quotient_below : (g d q m : ℤ) → pos 0 <ℤ d → (q *ℤ d) ≤ℤ g → g <ℤ (m *ℤ d) → q <ℤ m
quotient_below g d q m some upto near =
    by_lt_z q m
    (λ less. less)
    (λ from.
    let more = product_above (q -ℤ m) d (omega (arith, ints, from)) (omega (arith, ints, some)) in
    let same = apart m q d in
    absurd (omega (arith, ints, more, same, upto, near)))

pub remainder_within : (g d : ℤ) → pos 0 ≤ℤ g → pos 0 <ℤ d → (pos 0 ≤ℤ rem_z g d) × (rem_z g d ≤ℤ g)
remainder_within (pos g) (pos d) from some =
    let whole = mod-add-div' g d in
    (omega (arith, ints), omega (arith, ints, whole))
remainder_within (negsuc g) d from some = absurd (omega (arith, ints, from))
remainder_within (pos g) (negsuc d) from some = absurd (omega (arith, ints, some))

pub moments_within : (g d columns moments : ℤ) → pos 0 ≤ℤ columns → Overcomes g d columns moments → (pos 0 ≤ℤ moments) × (moments ≤ℤ ((pos 2 *ℤ columns) +ℤ pos 2))
moments_within g d columns moments some (inl (closed, is)) = (omega (arith, ints, some, is), omega (arith, ints, is))
moments_within g d columns moments some (inr (left, upto, is)) = (omega (arith, ints, some, is), omega (arith, ints, is))

-- ---- what a comparison that is or isn't Greater says

pub upto_of : (r : Ordering) (a b : ℤ) → r ≡ int_cmp a b → not (ordering_index r == 2) ≡ true → a ≤ℤ b
upto_of Less a b is says = let less : a <ℤ b = int_ranked a b Less is in omega (arith, ints, less)
upto_of Equal a b is says = let same : a ≡ b = int_ranked a b Equal is in omega (arith, ints, same)
upto_of Greater a b is says = cc

pub above_of : (r : Ordering) (a b : ℤ) → r ≡ int_cmp a b → not (ordering_index r == 2) ≡ false → b <ℤ a
above_of Less a b is says = cc
above_of Equal a b is says = cc
above_of Greater a b is says = int_ranked a b Greater is

-- ---- heights

-- the height times the run is a cross product
pub height_crossed : (edge : Edge) (x : ℤ) → (((edge.x1 -ℤ x) *ℤ (edge.y0 -ℤ pos 0)) -ℤ ((edge.y1 -ℤ pos 0) *ℤ (edge.x0 -ℤ x))) ≡ height_by_run edge x
height_crossed edge x =
    identity
    (minus (times (minus (number edge.x1) (number x)) (minus (number edge.y0) (number (pos 0)))) (times (minus (number edge.y1) (number (pos 0))) (minus (number edge.x0) (number x))))
    (plus (times (number edge.y0) (minus (number edge.x1) (number x))) (times (number edge.y1) (minus (number x) (number edge.x0))))
    (omega arith)

-- ---- the moment

module _ (p q : Edge) (from : ℤ) (within : from ≤ℤ last_common p q) where
  abbrev end : ℤ
  end = int_min p.x1 q.x1

  -- a moment at which it is above, and not one before
  first_of : (moment : ℤ) → from ≤ℤ moment → moment ≤ℤ last_common p q → IsAbove p q moment → IsSteeper p q → ¬ (IsAbove p q (moment -ℤ pos 1)) → IsFirstAbove p q from moment
  first_of moment behind common above steeper before = record {
    behind = behind;
    common = common;
    above = above;
    steeper = steeper;
    not_before = λ earlier behind_it earlier_than above_it. before (above-later p q earlier (moment -ℤ pos 1) (omega (arith, ints, earlier_than)) steeper above_it);
  }

  -- it is above as the search begins
  pub first-at_once : (x : ℤ) → at_column x ≤ℤ from → from ≤ℤ behind_column x → IsHigher p q x → (IsAbove p q from → IsSteeper p q) → IsFirstAbove p q from from
  first-at_once x at behind higher steeper =
      let above = higher-above p q x from at behind higher in record {
        behind = omega (arith, ints);
        common = within;
        above = above;
        steeper = steeper above;
        not_before = λ earlier behind_it earlier_than above_it. omega (arith, ints, behind_it, earlier_than);
      }

  -- at its end it isn't above: so it never is
  pub never_above : (IsAbove p q from → IsSteeper p q) → IsUpto p q end → (moment : ℤ) → from ≤ℤ moment → moment ≤ℤ last_common p q → ¬ (IsAbove p q moment)
  never_above steeper upto moment behind common above =
      never_higher p q end upto (above-at p q end (above-later p q moment (last_common p q) common up above))
    where
      up : IsSteeper p q
      up = elim (above-or-not p q from) [
        | inl above_it ↦ steeper above_it
        | inr below ↦ above-steeper p q from moment below behind above
      ]

  module _ (higher_end : IsHigher p q end) (x : ℤ) (at : at_column x ≤ℤ from) (behind : from ≤ℤ behind_column x) (below : IsUpto p q x) where
    x_upto : (x end from : ℤ) → at_column x ≤ℤ from → from ≤ℤ at_column end → x ≤ℤ end
    x_upto x end from at within = omega (arith, ints, at, within)

    pub steeper : IsSteeper p q
    steeper =
        by_lt_z (rise_by_run q p) (rise_by_run p q)
        (λ steeper. steeper)
        (λ slower. absurd (never_higher p q x below (higher-before p q x end (x_upto x end from at within) slower higher_end)))

    -- where it isn't above, its end is behind
    before_end : (y : ℤ) → IsUpto p q y → y <ℤ end
    before_end y upto = by_lt_z y end (λ before. before) (λ from_end. absurd (never_higher p q y upto (higher-behind p q end y from_end steeper higher_end)))

    -- the gap at a later column
    gap_later : (columns : ℤ) → gap p q (x +ℤ columns) ≡ (gap p q x -ℤ (columns *ℤ slope q p))
    gap_later columns =
        let falls = gap-rising p q x (x +ℤ columns) in
        let turned = turn (rise_by_run q p) (rise_by_run p q) columns x in
        omega (arith, ints, falls, turned)
      where
        turn : (a b k x : ℤ) → ((a -ℤ b) *ℤ ((x +ℤ k) -ℤ x)) ≡ (pos 0 -ℤ (k *ℤ (b -ℤ a)))
        turn a b k x = identity (times (minus (number a) (number b)) (minus (plus (number x) (number k)) (number x))) (minus (number (pos 0)) (times (number k) (minus (number b) (number a)))) (omega arith)

    pub first-overcome : (columns moments : ℤ) → pos 0 ≤ℤ columns → Overcomes (gap p q x) (slope q p) columns moments → IsFirstAbove p q from ((pos 2 *ℤ x) +ℤ moments)
    first-overcome columns moments some (inl (closed, is)) =
        let here = gap_later columns in
        let level : height_by_runs p q y ≡ height_by_runs q p y = omega (arith, ints, here, closed) in
        let before = before_end y (omega (arith, ints, level)) in
        subst (IsFirstAbove p q from) (omega (arith, ints, is))
        (first_of (behind_column y) (omega (arith, ints, some, behind)) (omega (arith, ints, before)) (steeper-above p q y level steeper) steeper
        (λ above. never_higher p q y (omega (arith, ints, level)) (above-at p q y (subst (IsAbove p q) (omega (arith, ints)) above))))
      where
        y : ℤ
        y = x +ℤ columns
    first-overcome columns moments some (inr (left, upto, is)) =
        let here = gap_later columns in
        let next = gap_later (columns +ℤ pos 1) in
        let lower : height_by_runs p q y <ℤ height_by_runs q p y = omega (arith, ints, here, left) in
        let higher : IsHigher p q (x +ℤ (columns +ℤ pos 1)) = omega (arith, ints, next, upto) in
        let before = before_end y (omega (arith, ints, lower)) in
        subst (IsFirstAbove p q from) (omega (arith, ints, is))
        (first_of (at_column (x +ℤ (columns +ℤ pos 1))) (omega (arith, ints, some, behind)) (omega (arith, ints, before))
        (higher-above p q (x +ℤ (columns +ℤ pos 1)) (at_column (x +ℤ (columns +ℤ pos 1))) (omega (arith, ints)) (omega (arith, ints)) higher) steeper
        (λ above. not_yet lower (above-behind p q y (subst (IsAbove p q) (omega (arith, ints)) above))))
      where
        y : ℤ
        y = x +ℤ columns

        not_yet : height_by_runs p q y <ℤ height_by_runs q p y → IsHigherBehind p q y → ⊥
        not_yet lower (inl higher) = omega (arith, ints, lower, higher)
        not_yet lower (inr (level, up)) = omega (arith, ints, lower, level)

    -- the gap is small enough
    pub near : (m : ℤ) → end ≤ℤ (x +ℤ m) → gap p q x <ℤ (m *ℤ slope q p)
    near m wide =
        let here = gap_later m in
        let higher = higher-behind p q end (x +ℤ m) wide steeper higher_end in
        omega (arith, ints, here, higher)

-- the moments from one at which both live lie within 33 bits
pub moment-within : (a b m n from : ℤ) → FitsSigned w32 a → FitsSigned w32 b → FitsSigned w32 m → FitsSigned w32 n → behind_column (int_max a b) ≤ℤ from → from ≤ℤ at_column (int_min m n)
    → ((pos 0 -ℤ pos (2 ^ 32)) ≤ℤ from) × (from <ℤ pos (2 ^ 32))
moment-within a b m n from a_fits b_fits m_fits n_fits behind upto = (omega (arith, ints, clamps, a_fits.sfits, b_fits.sfits, behind), omega (arith, ints, clamps, m_fits.sfits, n_fits.sfits, upto))

pub end-near : (a b m n x from : ℤ) → FitsSigned w32 a → FitsSigned w32 b → FitsSigned w32 m → FitsSigned w32 n → behind_column (int_max a b) ≤ℤ from → from ≤ℤ behind_column x → int_min m n ≤ℤ (x +ℤ pos (2 ^ 32))
end-near a b m n x from a_fits b_fits m_fits n_fits behind upto = omega (arith, ints, clamps, a_fits.sfits, m_fits.sfits, behind, upto)

pub moments-fit : (x columns moments : ℤ) → FitsSigned w32 x → columns <ℤ pos (2 ^ 32) → pos 0 ≤ℤ moments → moments ≤ℤ ((pos 2 *ℤ columns) +ℤ pos 2) → FitsSigned w64 ((pos 2 *ℤ x) +ℤ moments)
moments-fit x columns moments fits few from upto = omega (arith, ints, fits.sfits, few, from, upto)
