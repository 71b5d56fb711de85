-- Edges that stand in order along the status: the one is nowhere above the other where both live, unless they cross.
use Rattle.std.proofs.Common.{◌≡◌, ℤ, pos, ◌+ℤ◌, ◌-ℤ◌, ◌*ℤ◌, ◌≤ℤ◌, ◌<ℤ◌, ◌⊎◌, inl, inr, arith, refl, ap, sym, subst, ◌∙◌}
use Rattle.std.specs.Int.{int_min, int_max}
use Rattle.std.specs.Ordering.{int_cmp, nat_cmp}
use Rattle.std.specs.declared.cmp.Ordering.{Ordering}
use Rattle.std.specs.declared.cmp.Ordering.TheVariants.{Less, Equal, Greater}
use Rattle.std.proofs.lemmas.Cmp.{int_ranked}
use Rattle.std.proofs.lemmas.Int.{ints, clamps, by_lt_z}
use Rattle.plane.specs.declared.edge.Edge.{Edge}
use Rattle.plane.specs.declared.sweep_line.active.ActiveEdge.{ActiveEdge}
use Rattle.plane.specs.SweepLine.Heights.{IsUpto, rightwards, run, height_by_run, height_by_runs, rise_by_run, Spans, IsLowerAt}
use Rattle.plane.specs.SweepLine.Crossings.{IsBelowAt, Cross}
use Rattle.plane.specs.SweepLine.Active.{then_cmp, common_start, cmp_active}
use Rattle.plane.proofs.MeetLemmas.Identities.{number, plus, minus, times, identity}
use Rattle.plane.proofs.SweepLineLemmas.Rightwards.{rightwards-same}
use Rattle.plane.proofs.SweepLineLemmas.Gaps.{gap, slope, start, gap-linear, gap-rising, product_above, quotient_above, upto_between}

-- ---- one after another

chain : (a b c m n k : ℤ) → ((k *ℤ ((b *ℤ m) -ℤ (a *ℤ n))) +ℤ (m *ℤ ((c *ℤ n) -ℤ (b *ℤ k)))) ≡ (n *ℤ ((c *ℤ m) -ℤ (a *ℤ k)))
chain a b c m n k =
    identity (plus (times (number k) (minus (times (number b) (number m)) (times (number a) (number n)))) (times (number m) (minus (times (number c) (number n)) (times (number b) (number k)))))
    (times (number n) (minus (times (number c) (number m)) (times (number a) (number k))))
    (omega arith)

-- rational numbers a / m, b / n and c / k in order
pub in_order : (a b c m n k : ℤ) → pos 0 <ℤ m → pos 0 <ℤ n → pos 0 <ℤ k → (a *ℤ n) ≤ℤ (b *ℤ m) → (b *ℤ k) ≤ℤ (c *ℤ n) → (a *ℤ k) ≤ℤ (c *ℤ m)
in_order a b c m n k some_m some_n some_k first second =
    let left = product_above k ((b *ℤ m) -ℤ (a *ℤ n)) (omega (arith, ints, some_k)) (omega (arith, ints, first)) in
    let right = product_above m ((c *ℤ n) -ℤ (b *ℤ k)) (omega (arith, ints, some_m)) (omega (arith, ints, second)) in
    let sum : pos 0 ≤ℤ ((k *ℤ ((b *ℤ m) -ℤ (a *ℤ n))) +ℤ (m *ℤ ((c *ℤ n) -ℤ (b *ℤ k)))) = omega (arith, ints, left, right) in
    let apart = quotient_above n ((c *ℤ m) -ℤ (a *ℤ k)) some_n (rw (← chain a b c m n k) sum) in
    omega (arith, ints, apart)

-- where the first isn't above the second at x, nor the second above the third, the first isn't above the third
pub upto-trans : (one second third : Edge) (x : ℤ) → pos 0 <ℤ run one → pos 0 <ℤ run second → pos 0 <ℤ run third → IsUpto one second x → IsUpto second third x → IsUpto one third x
upto-trans one second third x some other_some third_some first second_upto =
    in_order (height_by_run one x) (height_by_run second x) (height_by_run third x) (run one) (run second) (run third) some other_some third_some first second_upto

-- ---- from the order along the status

-- the first comparison tells Less, or it tells nothing and the next one does
lex_cases : (first rest : Ordering) → then_cmp first rest ≡ Less → (first ≡ Less) ⊎ ((first ≡ Equal) × (rest ≡ Less))
lex_cases Less rest before = inl refl
lex_cases Equal rest before = inr (refl, before)
lex_cases Greater rest before = cc

lex_upto : (a b : ℤ) (rest : Ordering) → then_cmp (int_cmp a b) rest ≡ Less → a ≤ℤ b
lex_upto a b rest before = elim (lex_cases (int_cmp a b) rest before) [
  | inl less ↦ let lower : a <ℤ b = int_ranked a b Less (sym less) in omega (arith, ints, lower)
  | inr equal ↦ let same : a ≡ b = int_ranked a b Equal (sym equal.0) in omega (arith, ints, same)
]

-- where one edge stands before another, it is below it at the first common x, or as high and not steeper
pub stands_cases : (one other : ActiveEdge) → cmp_active one other ≡ Less
    → (height_by_runs one.edge other.edge (common_start one other) <ℤ height_by_runs other.edge one.edge (common_start one other))
    ⊎ ((height_by_runs one.edge other.edge (common_start one other) ≡ height_by_runs other.edge one.edge (common_start one other)) × (rise_by_run one.edge other.edge ≤ℤ rise_by_run other.edge one.edge))
stands_cases one other before =
    let low = height_by_runs one.edge other.edge (common_start one other) in
    let high = height_by_runs other.edge one.edge (common_start one other) in
    let last = then_cmp (int_cmp one.edge.x0 other.edge.x0) (nat_cmp one.place other.place) in
    let along = then_cmp (int_cmp (rise_by_run one.edge other.edge) (rise_by_run other.edge one.edge)) last in
    elim (lex_cases (int_cmp low high) along before) [
      | inl less ↦ inl (int_ranked low high Less (sym less))
      | inr equal ↦ inr (int_ranked low high Equal (sym equal.0), lex_upto (rise_by_run one.edge other.edge) (rise_by_run other.edge one.edge) last equal.1)
    ]

-- ---- to the end of a stretch

-- what is as high as another at an x and not above it one later isn't steeper
level_next : (p q x : ℤ) → ((p *ℤ (x +ℤ pos 1)) +ℤ q) ≡ (((p *ℤ x) +ℤ q) +ℤ p)
level_next p q x =
    identity (plus (times (number p) (plus (number x) (number (pos 1)))) (number q)) (plus (plus (times (number p) (number x)) (number q)) (number p)) (omega arith)

pub not_steeper : (one other : Edge) (x : ℤ) → height_by_runs one other x ≡ height_by_runs other one x → IsUpto one other (x +ℤ pos 1) → rise_by_run one other ≤ℤ rise_by_run other one
not_steeper one other x level upto =
    let next : gap one other (x +ℤ pos 1) ≡ (gap one other x +ℤ slope one other) =
    gap-linear one other (x +ℤ pos 1) ∙ level_next (slope one other) (start one other) x ∙ ap (λ (g : ℤ). g +ℤ slope one other) (sym (gap-linear one other x)) in
    omega (arith, ints, next, level, upto)

-- what is as high at an x and not steeper isn't above later
pub level_upto : (one other : Edge) (l r : ℤ) → l ≤ℤ r → height_by_runs one other l ≡ height_by_runs other one l → rise_by_run one other ≤ℤ rise_by_run other one → IsUpto one other r
level_upto one other l r onwards level steeper =
    let more = product_above (slope one other) (r -ℤ l) (omega (arith, ints, steeper)) (omega (arith, ints, onwards)) in
    let here = gap-rising one other l r in
    omega (arith, ints, more, here, level)

-- an edge that stands before another isn't above it at the first common x
pub stands_upto : (one other : ActiveEdge) → cmp_active one other ≡ Less → IsUpto one.edge other.edge (common_start one other)
stands_upto one other before = elim (stands_cases one other before) [
  | inl lower ↦ omega (arith, ints, lower)
  | inr level ↦ let same = level.0 in omega (arith, ints, same)
]

-- nor at a later x, where it isn't below first and above there
pub stands_upto_at : (one other : ActiveEdge) (last : ℤ) → cmp_active one other ≡ Less → common_start one other ≤ℤ last
    → ((height_by_runs one.edge other.edge (common_start one other) <ℤ height_by_runs other.edge one.edge (common_start one other)) → ¬ (height_by_runs other.edge one.edge last <ℤ height_by_runs one.edge other.edge last))
    → IsUpto one.edge other.edge last
stands_upto_at one other last before some uncrossed = elim (stands_cases one other before) [
  | inl lower ↦ by_lt_z (height_by_runs other.edge one.edge last) (height_by_runs one.edge other.edge last) (λ above. absurd (uncrossed lower above)) (λ upto. upto)
  | inr level ↦ level_upto one.edge other.edge (common_start one other) last some level.0 level.1
]

-- ---- edges that don't cross

-- the last x that both span, where they span one
abbrev pub common_end : ActiveEdge → ActiveEdge → ℤ
common_end one other = int_min one.edge.x1 other.edge.x1

spans_within : (active : ActiveEdge) (x : ℤ) → active.edge.x0 <ℤ active.edge.x1 → active.edge.x0 ≤ℤ x → x ≤ℤ active.edge.x1 → Spans active.edge x
spans_within active x some after before = record {
  from = subst (λ (edge : Edge). edge.x0 ≤ℤ x) (sym (rightwards-same active.edge some)) after;
  upto = subst (λ (edge : Edge). x ≤ℤ edge.x1) (sym (rightwards-same active.edge some)) before;
}

lower_at : (one other : Edge) (x : ℤ) → one.x0 <ℤ one.x1 → other.x0 <ℤ other.x1 → height_by_runs one other x <ℤ height_by_runs other one x → IsLowerAt x one other
lower_at one other x some other_some lower =
    subst (λ (edge : Edge). height_by_runs edge (rightwards other) x <ℤ height_by_runs (rightwards other) edge x) (sym (rightwards-same one some))
    (subst (λ (edge : Edge). height_by_runs one edge x <ℤ height_by_runs edge one x) (sym (rightwards-same other other_some)) lower)

within_start : (a b x : ℤ) → int_max a b ≤ℤ x → (a ≤ℤ x) × (b ≤ℤ x)
within_start a b x after = omega (arith, ints, clamps)

within_end : (a b x : ℤ) → x ≤ℤ int_min a b → (x ≤ℤ a) × (x ≤ℤ b)
within_end a b x before = omega (arith, ints, clamps)

pub below_at : (one other : ActiveEdge) (x : ℤ) → one.edge.x0 <ℤ one.edge.x1 → other.edge.x0 <ℤ other.edge.x1 → common_start one other ≤ℤ x → x ≤ℤ common_end one other
    → height_by_runs one.edge other.edge x <ℤ height_by_runs other.edge one.edge x → IsBelowAt one.edge other.edge x
below_at one other x some other_some after before lower =
    let from = within_start one.edge.x0 other.edge.x0 x after in
    let upto = within_end one.edge.x1 other.edge.x1 x before in
    record {
      spanned = spans_within one x some from.0 upto.0;
      other_spanned = spans_within other x other_some from.1 upto.1;
      lower = lower_at one.edge other.edge x some other_some lower;
    }

pub above_at : (one other : ActiveEdge) (x : ℤ) → one.edge.x0 <ℤ one.edge.x1 → other.edge.x0 <ℤ other.edge.x1 → common_start one other ≤ℤ x → x ≤ℤ common_end one other
    → height_by_runs other.edge one.edge x <ℤ height_by_runs one.edge other.edge x → IsBelowAt other.edge one.edge x
above_at one other x some other_some after before lower =
    let from = within_start one.edge.x0 other.edge.x0 x after in
    let upto = within_end one.edge.x1 other.edge.x1 x before in
    record {
      spanned = spans_within other x other_some from.1 upto.1;
      other_spanned = spans_within one x some from.0 upto.0;
      lower = lower_at other.edge one.edge x other_some some lower;
    }

module _ (one other : ActiveEdge) (some : one.edge.x0 <ℤ one.edge.x1) (other_some : other.edge.x0 <ℤ other.edge.x1) (common : common_start one other ≤ℤ common_end one other) where
  -- an edge that is below another at the first common x and above at the last crosses it
  pub crosses : height_by_runs one.edge other.edge (common_start one other) <ℤ height_by_runs other.edge one.edge (common_start one other)
      → height_by_runs other.edge one.edge (common_end one other) <ℤ height_by_runs one.edge other.edge (common_end one other) → Cross one.edge other.edge
  crosses lower above = record {
    below = common_start one other;
    above = common_end one other;
    is_below = below_at one other (common_start one other) some other_some (omega (arith, ints)) common lower;
    is_above = above_at one other (common_end one other) some other_some common (omega (arith, ints)) above;
  }

  -- so one that stands before another that it doesn't cross is nowhere above it
  pub never_above : cmp_active one other ≡ Less → ¬ (Cross one.edge other.edge) → (x : ℤ) → common_start one other ≤ℤ x → x ≤ℤ common_end one other → IsUpto one.edge other.edge x
  never_above before uncrossed x after upto =
      upto_between one.edge other.edge (common_start one other) x (common_end one other) after upto (stands_upto one other before)
      (stands_upto_at one other (common_end one other) before common (λ lower above. uncrossed (crosses lower above)))
