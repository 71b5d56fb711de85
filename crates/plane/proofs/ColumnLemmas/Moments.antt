-- How two edges stand to each other at the moments of a sweep by columns, from one moment to the next.
use Rattle.std.proofs.Common.{◌≡◌, ◌⊎◌, inl, inr, ℕ, zero, suc, ◌+◌, ◌*◌, ℤ, pos, negsuc, ◌+ℤ◌, ◌-ℤ◌, ◌*ℤ◌, ◌≤ℤ◌, ◌<ℤ◌, refl, sym, ap, subst, arith}
use Rattle.std.specs.Int.{int_max, int_min}
use Rattle.std.proofs.lemmas.Int.{ints, clamps, by_lt_z}
use Rattle.plane.specs.declared.edge.Edge.{Edge}
use Rattle.plane.specs.declared.sweep_line.active.ActiveEdge.{ActiveEdge}
use Rattle.plane.specs.Columns.Moments.{IsAbove, IsHigher, IsHigherBehind, IsSteeper, at_column, behind_column, first_common, last_common}
use Rattle.plane.specs.SweepLine.Crossings.{Cross, IsBelowAt}
use Rattle.plane.specs.SweepLine.Heights.{IsUpto, Spans, height_by_runs, rightwards, rise, rise_by_run, run}
use Rattle.plane.proofs.MeetLemmas.Identities.{number, plus, minus, times, identity}
use Rattle.plane.proofs.SweepLineLemmas.Gaps.{gap, slope, gap-rising, product_above, upto_between}
use Rattle.plane.proofs.SweepLineLemmas.Order.{above_at, below_at, in_order, level_upto, upto-trans}
use Rattle.plane.proofs.SweepLineLemmas.Rightwards.{rightwards-same}

-- ---- moments

halves : (n : ℕ) → (m : ℕ) × ((n ≡ 2 * m) ⊎ (n ≡ 2 * m + 1))
halves zero = (zero, inl refl)
halves (suc n) =
    let (m, half) = halves n in
    elim half [
      | inl even ↦ (m, inr (omega (arith, even)))
      | inr odd ↦ (m + 1, inl (omega (arith, odd)))
    ]

-- each moment is at a column, or just behind one
pub by_moment : {P : Type 0} (t : ℤ) → ((x : ℤ) → t ≡ at_column x → P) → ((x : ℤ) → t ≡ behind_column x → P) → P
by_moment (pos n) at behind =
    let (m, half) = halves n in
    elim half [
      | inl even ↦ at (pos m) (omega (arith, ints, even))
      | inr odd ↦ behind (pos m) (omega (arith, ints, odd))
    ]
by_moment (negsuc n) at behind =
    let (m, half) = halves n in
    elim half [
      | inl even ↦ behind (negsuc m) (omega (arith, ints, even))
      | inr odd ↦ at (negsuc m) (omega (arith, ints, odd))
    ]

pub same_column : (x y : ℤ) → at_column x ≡ at_column y → x ≡ y
same_column x y same = omega (arith, ints, same)

pub same_behind : (x y : ℤ) → behind_column x ≡ behind_column y → x ≡ y
same_behind x y same = omega (arith, ints, same)

pub never_both : (x y : ℤ) → at_column x ≡ behind_column y → ⊥
never_both x y same = omega (arith, ints, same)

-- ---- two edges at a moment

module _ (p q : Edge) where
  -- the two are as high at x
  abbrev Level : ℤ → Type 0
  Level x = height_by_runs p q x ≡ height_by_runs q p x

  pub higher-above : (x t : ℤ) → at_column x ≤ℤ t → t ≤ℤ behind_column x → IsHigher p q x → IsAbove p q t
  higher-above x t from upto higher =
      by_lt_z (at_column x) t
      (λ behind. (x, inr (omega (arith, ints, upto, behind), inl higher)))
      (λ at. (x, inl (omega (arith, ints, from, at), higher)))

  pub steeper-above : (x : ℤ) → Level x → IsSteeper p q → IsAbove p q (behind_column x)
  steeper-above x level steeper = (x, inr (refl, inr (level, steeper)))

  -- and what that says
  pub above-at : (x : ℤ) → IsAbove p q (at_column x) → IsHigher p q x
  above-at x (y, inl (same, higher)) = subst (IsHigher p q) (sym (same_column x y same)) higher
  above-at x (y, inr (same, higher)) = absurd (never_both x y same)

  pub above-behind : (x : ℤ) → IsAbove p q (behind_column x) → IsHigherBehind p q x
  above-behind x (y, inl (same, higher)) = absurd (never_both y x (sym same))
  above-behind x (y, inr (same, higher)) = subst (IsHigherBehind p q) (sym (same_behind x y same)) higher

  -- it is higher at the column, or as high there and steeper, and the moment just behind it
  pub above-cases : {P : Type 0} (t : ℤ) → IsAbove p q t
      → ((x : ℤ) → at_column x ≤ℤ t → t ≤ℤ behind_column x → IsHigher p q x → P)
      → ((x : ℤ) → t ≡ behind_column x → Level x → IsSteeper p q → P) → P
  above-cases t (x, inl (at, higher)) above level = above x (omega (arith, ints, at)) (omega (arith, ints, at)) higher
  above-cases t (x, inr (behind, inl higher)) above level = above x (omega (arith, ints, behind)) (omega (arith, ints, behind)) higher
  above-cases t (x, inr (behind, inr (same, steeper))) above level = level x behind same steeper

  upto_of : (x : ℤ) → ¬ (IsHigher p q x) → IsUpto p q x
  upto_of x lower = by_lt_z (height_by_runs q p x) (height_by_runs p q x) (λ higher. absurd (lower higher)) (λ upto. upto)

  pub never_higher : (x : ℤ) → IsUpto p q x → ¬ (IsHigher p q x)
  never_higher x upto higher = omega (arith, ints, upto, higher)

  -- where it isn't above, it is at most as high
  pub upto-at : (x : ℤ) → ¬ (IsAbove p q (at_column x)) → IsUpto p q x
  upto-at x below = upto_of x (λ higher. below (higher-above x (at_column x) (omega (arith, ints)) (omega (arith, ints)) higher))

  pub upto-behind : (x : ℤ) → ¬ (IsAbove p q (behind_column x)) → IsUpto p q x
  upto-behind x below = upto_of x (λ higher. below (higher-above x (behind_column x) (omega (arith, ints)) (omega (arith, ints)) higher))

  pub not_steeper-behind : (x : ℤ) → ¬ (IsAbove p q (behind_column x)) → Level x → rise_by_run p q ≤ℤ rise_by_run q p
  not_steeper-behind x below level = by_lt_z (rise_by_run q p) (rise_by_run p q) (λ steeper. absurd (below (steeper-above x level steeper))) (λ upto. upto)

  pub not_above-at : (x : ℤ) → IsUpto p q x → ¬ (IsAbove p q (at_column x))
  not_above-at x upto above = never_higher x upto (above-at x above)

  pub not_above-behind : (x : ℤ) → IsUpto p q x → (Level x → rise_by_run p q ≤ℤ rise_by_run q p) → ¬ (IsAbove p q (behind_column x))
  not_above-behind x upto slower above = elim (above-behind x above) [
    | inl higher ↦ never_higher x upto higher
    | inr (level, steeper) ↦ let slopes = slower level in omega (arith, ints, slopes, steeper)
  ]

  higher_or_not : (x : ℤ) → IsHigher p q x ⊎ ¬ (IsHigher p q x)
  higher_or_not x = by_lt_z (height_by_runs q p x) (height_by_runs p q x) (λ higher. inl higher) (λ upto. inr (never_higher x upto))

  level_or_lower : (x : ℤ) → IsUpto p q x → Level x ⊎ (height_by_runs p q x <ℤ height_by_runs q p x)
  level_or_lower x upto = by_lt_z (height_by_runs p q x) (height_by_runs q p x) (λ lower. inr lower) (λ from. inl (omega (arith, ints, upto, from)))

  pub steeper_or_not : IsSteeper p q ⊎ (rise_by_run p q ≤ℤ rise_by_run q p)
  steeper_or_not = by_lt_z (rise_by_run q p) (rise_by_run p q) (λ steeper. inl steeper) (λ slower. inr slower)

  pub above-or-not : (t : ℤ) → IsAbove p q t ⊎ ¬ (IsAbove p q t)
  above-or-not t =
      by_moment t
      (λ x at. elim (higher_or_not x) [
        | inl higher ↦ inl (x, inl (at, higher))
        | inr lower ↦ inr (λ above. lower (above-at x (subst (IsAbove p q) at above)))
      ])
      (λ x behind. subst (λ s. IsAbove p q s ⊎ ¬ (IsAbove p q s)) (sym behind) (just_behind x))
    where
      just_behind : (x : ℤ) → IsAbove p q (behind_column x) ⊎ ¬ (IsAbove p q (behind_column x))
      just_behind x = elim (higher_or_not x) [
        | inl higher ↦ inl (x, inr (refl, inl higher))
        | inr lower ↦ elim steeper_or_not [
          | inr slower ↦ inr (not_above-behind x (upto_of x lower) (λ level. slower))
          | inl steeper ↦ elim (level_or_lower x (upto_of x lower)) [
            | inl level ↦ inl (steeper-above x level steeper)
            | inr below ↦ inr (not_above-behind x (upto_of x lower) (λ level. omega (arith, ints, level, below)))
          ]
        ]
      ]

  -- ---- from one moment to another

  -- the one that isn't steeper gains nothing
  falls : (l r : ℤ) → l ≤ℤ r → rise_by_run p q ≤ℤ rise_by_run q p → gap q p r ≤ℤ gap q p l
  falls l r onwards slower =
      let less = product_above (slope p q) (r -ℤ l) (omega (arith, ints, slower)) (omega (arith, ints, onwards)) in
      let rises = gap-rising p q l r in
      omega (arith, ints, less, rises)

  pub higher-before : (l r : ℤ) → l ≤ℤ r → rise_by_run p q ≤ℤ rise_by_run q p → IsHigher p q r → IsHigher p q l
  higher-before l r onwards slower higher =
      let gaps = falls l r onwards slower in
      omega (arith, ints, gaps, higher)

  rises : (l r : ℤ) → l ≤ℤ r → IsSteeper p q → gap q p l ≤ℤ gap q p r
  rises l r onwards steeper =
      let more = product_above (slope q p) (r -ℤ l) (omega (arith, ints, steeper)) (omega (arith, ints, onwards)) in
      let here = gap-rising q p l r in
      omega (arith, ints, more, here)

  pub higher-behind : (l r : ℤ) → l ≤ℤ r → IsSteeper p q → IsHigher p q l → IsHigher p q r
  higher-behind l r onwards steeper higher =
      let gaps = rises l r onwards steeper in
      omega (arith, ints, gaps, higher)

  -- from where they are level the steeper one is higher
  pub higher-from_level : (l r : ℤ) → l <ℤ r → Level l → IsSteeper p q → IsHigher p q r
  higher-from_level l r onwards level steeper =
      let more = product_above (slope q p -ℤ pos 1) ((r -ℤ l) -ℤ pos 1) (omega (arith, ints, steeper)) (omega (arith, ints, onwards)) in
      let here = gap-rising q p l r in
      let parted = parts (slope q p) (r -ℤ l) in
      omega (arith, ints, more, here, level, parted, steeper, onwards)
    where
      parts : (a b : ℤ) → (a *ℤ b) ≡ ((((a -ℤ pos 1) *ℤ (b -ℤ pos 1)) +ℤ a) +ℤ b) -ℤ pos 1
      parts a b = identity (times (number a) (number b)) (minus (plus (plus (times (minus (number a) (number (pos 1))) (minus (number b) (number (pos 1)))) (number a)) (number b)) (number (pos 1))) (omega arith)

  above-before : (s t : ℤ) → s ≤ℤ t → rise_by_run p q ≤ℤ rise_by_run q p → IsAbove p q t → IsAbove p q s
  above-before s t onwards slower above =
      above-cases t above
      (λ x from upto higher. by_moment s
      (λ y at. higher-above y s (omega (arith, ints, at)) (omega (arith, ints, at)) (higher-before y x (omega (arith, ints, at, onwards, upto)) slower higher))
      (λ y behind. higher-above y s (omega (arith, ints, behind)) (omega (arith, ints, behind)) (higher-before y x (omega (arith, ints, behind, onwards, upto)) slower higher)))
      (λ x behind level steeper. absurd (omega (arith, ints, steeper, slower)))

  pub above-later : (t u : ℤ) → t ≤ℤ u → IsSteeper p q → IsAbove p q t → IsAbove p q u
  above-later t u onwards steeper above =
      above-cases t above
      (λ x from upto higher. by_moment u
      (λ y at. higher-above y u (omega (arith, ints, at)) (omega (arith, ints, at)) (higher-behind x y (omega (arith, ints, at, onwards, from)) steeper higher))
      (λ y behind. higher-above y u (omega (arith, ints, behind)) (omega (arith, ints, behind)) (higher-behind x y (omega (arith, ints, behind, onwards, from)) steeper higher)))
      (λ x behind level up. by_moment u
      (λ y at. higher-above y u (omega (arith, ints, at)) (omega (arith, ints, at)) (higher-from_level x y (omega (arith, ints, at, onwards, behind)) level steeper))
      (λ y behind_y. by_lt_z x y
      (λ later. higher-above y u (omega (arith, ints, behind_y)) (omega (arith, ints, behind_y)) (higher-from_level x y later level steeper))
      (λ here. let same : u ≡ behind_column x = omega (arith, ints, behind, behind_y, onwards, here) in
      subst (IsAbove p q) (sym same) (steeper-above x level steeper))))

  -- what comes to be above the other is steeper
  pub above-steeper : (s t : ℤ) → ¬ (IsAbove p q s) → s ≤ℤ t → IsAbove p q t → IsSteeper p q
  above-steeper s t below onwards above = elim steeper_or_not [
    | inl steeper ↦ steeper
    | inr slower ↦ absurd (below (above-before s t onwards slower above))
  ]

  -- and stays above it
  pub above-stays : (s t u : ℤ) → ¬ (IsAbove p q s) → s ≤ℤ t → IsAbove p q t → t ≤ℤ u → IsAbove p q u
  above-stays s t u below onwards above later = above-later t u later (above-steeper s t below onwards above) above

pub above-asym : (p q : Edge) (t : ℤ) → IsAbove p q t → ¬ (IsAbove q p t)
above-asym p q t above other =
    by_moment t
    (λ x at. let higher = above-at p q x (subst (IsAbove p q) at above) in let lower = above-at q p x (subst (IsAbove q p) at other) in omega (arith, ints, higher, lower))
    (λ x behind. just_behind x (above-behind p q x (subst (IsAbove p q) behind above)) (above-behind q p x (subst (IsAbove q p) behind other)))
  where
    just_behind : (x : ℤ) → IsHigherBehind p q x → IsHigherBehind q p x → ⊥
    just_behind x (inl higher) (inl lower) = omega (arith, ints, higher, lower)
    just_behind x (inl higher) (inr (level, steeper)) = omega (arith, ints, higher, level)
    just_behind x (inr (level, steeper)) (inl lower) = omega (arith, ints, lower, level)
    just_behind x (inr (level, steeper)) (inr (level', slower)) = omega (arith, ints, steeper, slower)

-- of three edges: what isn't above the second, which isn't above the third, isn't above the third
pub not_above-trans : (p q r : Edge) (t : ℤ) → p.x0 <ℤ p.x1 → q.x0 <ℤ q.x1 → r.x0 <ℤ r.x1 → ¬ (IsAbove p q t) → ¬ (IsAbove q r t) → ¬ (IsAbove p r t)
not_above-trans p q r t right right_too right_third first second above =
    by_moment t
    (λ x at. not_above-at p r x
    (upto x (upto-at p q x (subst (λ s. ¬ (IsAbove p q s)) at first)) (upto-at q r x (subst (λ s. ¬ (IsAbove q r s)) at second)))
    (subst (IsAbove p r) at above))
    (λ x behind. just_behind x (subst (λ s. ¬ (IsAbove p q s)) behind first) (subst (λ s. ¬ (IsAbove q r s)) behind second) (subst (IsAbove p r) behind above))
  where
    some : (e : Edge) → e.x0 <ℤ e.x1 → pos 0 <ℤ run e
    some e goes = omega (arith, ints, goes)

    upto : (x : ℤ) → IsUpto p q x → IsUpto q r x → IsUpto p r x
    upto x = upto-trans p q r x (some p right) (some q right_too) (some r right_third)

    just_behind : (x : ℤ) → ¬ (IsAbove p q (behind_column x)) → ¬ (IsAbove q r (behind_column x)) → ¬ (IsAbove p r (behind_column x))
    just_behind x below below_too =
        let low = upto-behind p q x below in
        let high = upto-behind q r x below_too in
        not_above-behind p r x (upto x low high)
        (λ level.
        let third : IsUpto r p x = omega (arith, ints, level) in
        let back : IsUpto r q x = upto-trans r p q x (some r right_third) (some p right) (some q right_too) third low in
        let back_too : IsUpto q p x = upto-trans q r p x (some q right_too) (some r right_third) (some p right) high third in
        in_order (rise p) (rise q) (rise r) (run p) (run q) (run r) (some p right) (some q right_too) (some r right_third)
        (not_steeper-behind p q x below (omega (arith, ints, low, back_too)))
        (not_steeper-behind q r x below_too (omega (arith, ints, high, back))))

-- ---- edges that cross

spans_of : (edge : Edge) (x : ℤ) → edge.x0 <ℤ edge.x1 → Spans edge x → (edge.x0 ≤ℤ x) × (x ≤ℤ edge.x1)
spans_of edge x right spans =
    let same = rightwards-same edge right in
    (subst (λ (it : Edge). it.x0 ≤ℤ x) same spans.from, subst (λ (it : Edge). x ≤ℤ it.x1) same spans.upto)

abbrev first : Edge → Edge → ℤ
first p q = int_max p.x0 q.x0

abbrev last : Edge → Edge → ℤ
last p q = int_min p.x1 q.x1

-- the x's from the later beginning to the earlier end
both_from : (a b x : ℤ) → a ≤ℤ x → b ≤ℤ x → int_max a b ≤ℤ x
both_from a b x one other = omega (arith, ints, clamps, one, other)

both_upto : (a b x : ℤ) → x ≤ℤ a → x ≤ℤ b → x ≤ℤ int_min a b
both_upto a b x one other = omega (arith, ints, clamps, one, other)

module _ (p q : Edge) (right : p.x0 <ℤ p.x1) (right_too : q.x0 <ℤ q.x1) where
  lower_of : (x : ℤ) → IsBelowAt p q x → (first p q ≤ℤ x) × (x ≤ℤ last p q) × (height_by_runs p q x <ℤ height_by_runs q p x)
  lower_of x below =
      let one = spans_of p x right below.spanned in
      let other = spans_of q x right_too below.other_spanned in (
        both_from p.x0 q.x0 x one.0 other.0,
        both_upto p.x1 q.x1 x one.1 other.1,
        subst (λ (e : Edge). height_by_runs e q x <ℤ height_by_runs q e x) (rightwards-same p right)
            (subst (λ (e : Edge). height_by_runs (rightwards p) e x <ℤ height_by_runs e (rightwards p) x) (rightwards-same q right_too) below.lower),
      )

pub cross-sym : (p q : Edge) → Cross p q → Cross q p
cross-sym p q cross = record {
  below = cross.above;
  above = cross.below;
  is_below = cross.is_above;
  is_above = cross.is_below;
}

first_of_two : (a b : ℤ) → int_max a b ≡ int_max b a
first_of_two a b = omega (arith, ints, clamps)

last_of_two : (a b : ℤ) → int_min a b ≡ int_min b a
last_of_two a b = omega (arith, ints, clamps)

pub first_common-sym : (p q : Edge) → first_common p q ≡ first_common q p
first_common-sym p q = ap behind_column (first_of_two p.x0 q.x0)

pub last_common-sym : (p q : Edge) → last_common p q ≡ last_common q p
last_common-sym p q = ap at_column (last_of_two p.x1 q.x1)

module _ (p q : Edge) (right : p.x0 <ℤ p.x1) (right_too : q.x0 <ℤ q.x1) where
  -- where they cross, the one is lower at an x that both span, and higher at another
  lower_there : (cross : Cross p q) → (first p q ≤ℤ cross.below) × (cross.below ≤ℤ last p q) × (height_by_runs p q cross.below <ℤ height_by_runs q p cross.below)
  lower_there cross = lower_of p q right right_too cross.below cross.is_below

  higher_there : (cross : Cross p q) → (first p q ≤ℤ cross.above) × (cross.above ≤ℤ last p q) × IsHigher p q cross.above
  higher_there cross =
      let lower = lower_of q p right_too right cross.above cross.is_above in
      (subst (λ x. x ≤ℤ cross.above) (first_of_two q.x0 p.x0) lower.0, subst (λ x. cross.above ≤ℤ x) (last_of_two q.x1 p.x1) lower.1, lower.2)

  pub cross-common : Cross p q → int_max p.x0 q.x0 <ℤ int_min p.x1 q.x1
  cross-common cross =
      let lower = lower_there cross in
      let higher = higher_there cross in
      by_lt_z (first p q) (last p q)
      (λ some. some)
      (λ none.
      let same : cross.below ≡ cross.above = between (first p q) (last p q) cross.below cross.above lower.0 lower.1 higher.0 higher.1 none in
      absurd (never_higher p q cross.above (subst (λ x. IsUpto p q x) same (let below = lower.2 in omega (arith, ints, below))) higher.2))
    where
      between : (start end a b : ℤ) → start ≤ℤ a → a ≤ℤ end → start ≤ℤ b → b ≤ℤ end → end ≤ℤ start → a ≡ b
      between start end a b from upto from' upto' narrow = omega (arith, ints, from, upto, from', upto', narrow)

  -- what comes to be above the other while both live crosses it
  pub cross-from : (t : ℤ) → ¬ (IsAbove p q (first_common p q)) → first_common p q ≤ℤ t → t ≤ℤ last_common p q → IsAbove p q t → Cross p q
  cross-from t below from upto above = elim (level_or_lower p q (first p q) (upto-behind p q (first p q) below)) [
    | inl level ↦ absurd (below (steeper-above p q (first p q) level steeper))
    | inr lower ↦
        above-cases p q t above
        (λ x at behind higher. crosses x lower (within (first p q) x t from behind) (before x (last p q) t at upto) higher)
        (λ x behind level steeper.
        let next : (x +ℤ pos 1) ≤ℤ last p q = before_next x (last p q) t behind upto in
        crosses (x +ℤ pos 1) lower (omega (arith, ints, within (first p q) x t from (omega (arith, ints, behind)))) next
        (higher-from_level p q x (x +ℤ pos 1) (omega (arith, ints)) level steeper))
  ]
    where
      steeper : IsSteeper p q
      steeper = above-steeper p q (first_common p q) t below from above

      within : (start x t : ℤ) → behind_column start ≤ℤ t → t ≤ℤ behind_column x → start ≤ℤ x
      within start x t from behind = omega (arith, ints, from, behind)

      before : (x end t : ℤ) → at_column x ≤ℤ t → t ≤ℤ at_column end → x ≤ℤ end
      before x end t at upto = omega (arith, ints, at, upto)

      before_next : (x end t : ℤ) → t ≡ behind_column x → t ≤ℤ at_column end → (x +ℤ pos 1) ≤ℤ end
      before_next x end t behind upto = omega (arith, ints, behind, upto)

      active : Edge → ActiveEdge
      active edge = record { edge = edge; place = zero }

      crosses : (x : ℤ) → height_by_runs p q (first p q) <ℤ height_by_runs q p (first p q) → first p q ≤ℤ x → x ≤ℤ last p q → IsHigher p q x → Cross p q
      crosses x lower after end higher = record {
        below = first p q;
        above = x;
        is_below = below_at (active p) (active q) (first p q) right right_too (omega (arith, ints)) (omega (arith, ints, after, end)) lower;
        is_above = above_at (active p) (active q) x right right_too after end higher;
      }

  -- where they cross, the one that isn't above the other as both begin to live is above it as the first of them ends
  pub cross-above : Cross p q → ¬ (IsAbove p q (first_common p q)) → IsAbove p q (last_common p q)
  cross-above cross below =
      let higher = higher_there cross in
      by_lt_z (height_by_runs q p (last p q)) (height_by_runs p q (last p q))
      (λ above. higher-above p q (last p q) (last_common p q) (omega (arith, ints)) (omega (arith, ints)) above)
      (λ end. absurd (never_higher p q cross.above
      (upto_between p q (first p q) cross.above (last p q) higher.0 higher.1 (upto-behind p q (first p q) below) end) higher.2))

  -- one of two edges that cross is above the other as both begin to live
  pub cross-begins : Cross p q → IsAbove p q (first_common p q) ⊎ IsAbove q p (first_common p q)
  cross-begins cross =
      by_lt_z (height_by_runs q p x) (height_by_runs p q x)
      (λ higher. inl (x, inr (refl, inl higher)))
      (λ upto. elim (level_or_lower p q x upto) [
        | inr lower ↦ inr (x, inr (refl, inl lower))
        | inl level ↦
            by_lt_z (rise_by_run q p) (rise_by_run p q)
            (λ steeper. inl (steeper-above p q x level steeper))
            (λ slower. let higher = higher_there cross in
            absurd (never_higher p q cross.above (level_upto p q x cross.above higher.0 level slower) higher.2))
      ])
    where
      x : ℤ
      x = first p q
