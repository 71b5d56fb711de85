-- The order of edges on a stretch, from below to above.
use Rattle.std.proofs.Common.{◌≡◌, ◌≢◌, ◌⊎◌, inl, inr, ℤ, pos, ◌+ℤ◌, ◌-ℤ◌, ◌*ℤ◌, ◌≤ℤ◌, ◌<ℤ◌, true, false, arith, ap, sym, subst, ◌∙◌}
use Rattle.std.specs.declared.cmp.Ordering.TheVariants.{Less}
use Rattle.std.proofs.lemmas.Int.{ints, by_lt_z}
use Rattle.plane.specs.declared.edge.Edge.{Edge}
use Rattle.plane.specs.declared.sweep_line.active.ActiveEdge.{ActiveEdge}
use Rattle.plane.specs.SweepLine.Active.{cmp_active, common_start}
use Rattle.plane.specs.SweepLine.Heights.{IsUpto, run, height_by_run, height_by_runs, rise_by_run}
use Rattle.plane.proofs.MeetLemmas.Identities.{number, plus, minus, times, identity}
use Rattle.plane.proofs.SweepLineLemmas.Order.{common_end, level_upto, never_above, in_order}
use Rattle.plane.proofs.SweepLineLemmas.Uncrossed.{max_before, min_behind}
use Rattle.overlay.specs.Fill.Counts.{is_over, is_lower_on}
use Rattle.overlay.proofs.FillLemmas.Level.{MeetOnly, level-same_middle}
use Rattle.overlay.proofs.FillLemmas.Tests.{lt_true, lt_false, lt_is, over_is, over_true}
use Rattle.overlay.proofs.FillLemmas.Uncrossed.{Uncrossed, uncrossed, uncrossed_onwards}
use Rattle.noding.proofs.SnapLemmas.Numbers.{product_positive}

-- the heights at both ends of the stretch, added, by which the test compares
abbrev low : ℤ → Edge → Edge → ℤ
low x one other = height_by_runs one other x +ℤ height_by_runs one other (x +ℤ pos 1)

-- no edge is lower than itself
pub lower-irrefl : (x : ℤ) (edge : Edge) → is_lower_on x edge edge ≡ false
lower-irrefl x edge = lt_false (low x edge edge) (low x edge edge) (omega (arith, ints))

-- of two edges one alone is lower
pub lower-asym : (x : ℤ) (one other : Edge) → is_lower_on x one other ≡ true → is_lower_on x other one ≡ false
lower-asym x one other e =
    let less = lt_is (low x one other) (low x other one) e in
    lt_false (low x other one) (low x one other) (omega (arith, ints, less))

-- ---- one after another

-- rational numbers a / m, b / n and c / k strictly in order
rising : (a b c m n k : ℤ) → pos 0 <ℤ m → pos 0 <ℤ n → pos 0 <ℤ k → (a *ℤ n) <ℤ (b *ℤ m) → (b *ℤ k) <ℤ (c *ℤ n) → (a *ℤ k) <ℤ (c *ℤ m)
rising a b c m n k some_m some_n some_k first second =
    by_lt_z (a *ℤ k) (c *ℤ m) (λ less. less)
    (λ back.
    let there = in_order c a b k m n some_k some_m some_n back (omega (arith, ints, first)) in
    absurd (omega (arith, ints, there, second)))

-- a sum of products by one number
pub twofold : (h k m : ℤ) → ((h *ℤ m) +ℤ (k *ℤ m)) ≡ ((h +ℤ k) *ℤ m)
twofold h k m = identity (plus (times (number h) (number m)) (times (number k) (number m))) (times (plus (number h) (number k)) (number m)) (omega arith)

-- twice the height in the middle of the stretch, times the edge's run
abbrev pub middle : ℤ → Edge → ℤ
middle x edge = height_by_run edge x +ℤ height_by_run edge (x +ℤ pos 1)

-- the test compares the middles by cross-multiplying
pub lower_out : (x : ℤ) (one other : Edge) → is_lower_on x one other ≡ true → (middle x one *ℤ run other) <ℤ (middle x other *ℤ run one)
lower_out x one other e =
    let less = lt_is (low x one other) (low x other one) e in
    let left = twofold (height_by_run one x) (height_by_run one (x +ℤ pos 1)) (run other) in
    let right = twofold (height_by_run other x) (height_by_run other (x +ℤ pos 1)) (run one) in
    subst (λ (z : ℤ). z <ℤ (middle x other *ℤ run one)) left (subst (λ (z : ℤ). low x one other <ℤ z) right less)

lower_in : (x : ℤ) (one other : Edge) → (middle x one *ℤ run other) <ℤ (middle x other *ℤ run one) → is_lower_on x one other ≡ true
lower_in x one other less =
    let left = twofold (height_by_run one x) (height_by_run one (x +ℤ pos 1)) (run other) in
    let right = twofold (height_by_run other x) (height_by_run other (x +ℤ pos 1)) (run one) in
    lt_true (low x one other) (low x other one)
    (subst (λ (z : ℤ). z <ℤ low x other one) (sym left) (subst (λ (z : ℤ). (middle x one *ℤ run other) <ℤ z) (sym right) less))

-- what is lower than an edge that is lower than a third one is lower than the third
pub lower-trans : (x : ℤ) (one second third : Edge) → one.x0 <ℤ one.x1 → second.x0 <ℤ second.x1 → third.x0 <ℤ third.x1 → is_lower_on x one second ≡ true → is_lower_on x second third ≡ true → is_lower_on x one third ≡ true
lower-trans x one second third some other_some third_some first next =
    lower_in x one third
    (rising (middle x one) (middle x second) (middle x third) (run one) (run second) (run third) (omega (arith, ints, some)) (omega (arith, ints, other_some)) (omega (arith, ints, third_some))
    (lower_out x one second first) (lower_out x second third next))

-- ---- edges that meet only at common ends

-- of two that are over the stretch and aren't one edge, one is lower
pub lower-apart : (one other : Edge) (x : ℤ) → MeetOnly one other → one ≢ other → is_over x one ≡ true → is_over x other ≡ true → (is_lower_on x one other ≡ true) ⊎ (is_lower_on x other one ≡ true)
lower-apart one other x meet differ over over_too =
    let span = over_is x one over in
    let span_too = over_is x other over_too in
    by_lt_z (low x one other) (low x other one)
    (λ less. inl (lt_true (low x one other) (low x other one) less))
    (λ upto. by_lt_z (low x other one) (low x one other)
    (λ more. inr (lt_true (low x other one) (low x one other) more))
    (λ back. absurd (differ (level-same_middle one other x meet span.0 span.1 span_too.0 span_too.1 (omega (arith, ints, upto, back))))))

-- and it is the one that isn't above the other at both ends of the stretch
upto-lower : (one other : Edge) (x : ℤ) → MeetOnly one other → one ≢ other → is_over x one ≡ true → is_over x other ≡ true → IsUpto one other x → IsUpto one other (x +ℤ pos 1) → is_lower_on x one other ≡ true
upto-lower one other x meet differ over over_too here next =
    elim (lower-apart one other x meet differ over over_too) [
      | inl lower ↦ lower
      | inr higher ↦ let less = lt_is (low x other one) (low x one other) higher in absurd (omega (arith, ints, here, next, less))
    ]

-- the one that stands before the other along the status
pub stands-lower : (one other : ActiveEdge) (x : ℤ) → MeetOnly one.edge other.edge → one.edge ≢ other.edge → is_over x one.edge ≡ true → is_over x other.edge ≡ true → cmp_active one other ≡ Less → is_lower_on x one.edge other.edge ≡ true
stands-lower one other x meet differ over over_too before =
    let span = over_is x one.edge over in
    let span_too = over_is x other.edge over_too in
    let from = span.0 in
    let upto = span.1 in
    let from_too = span_too.0 in
    let upto_too = span_too.1 in
    let start : common_start one other ≤ℤ x = max_before one.edge.x0 other.edge.x0 x from from_too in
    let finish : (x +ℤ pos 1) ≤ℤ common_end one other = min_behind one.edge.x1 other.edge.x1 (x +ℤ pos 1) (omega (arith, ints, upto)) (omega (arith, ints, upto_too)) in
    let never = never_above one other (omega (arith, ints, from, upto)) (omega (arith, ints, from_too, upto_too)) (across (common_start one other) (common_end one other) start finish) before (uncrossed one.edge other.edge meet) in
    upto-lower one.edge other.edge x meet differ over over_too
    (never x start (last (common_end one other) finish)) (never (x +ℤ pos 1) (later (common_start one other) start) finish)
  where
    across : (a b : ℤ) → a ≤ℤ x → (x +ℤ pos 1) ≤ℤ b → a ≤ℤ b
    across a b first second = omega (arith, ints, first, second)

    last : (b : ℤ) → (x +ℤ pos 1) ≤ℤ b → x ≤ℤ b
    last b first = omega (arith, ints, first)

    later : (a : ℤ) → a ≤ℤ x → a ≤ℤ (x +ℤ pos 1)
    later a first = omega (arith, ints, first)

-- ---- edges that start at one x

-- the height of an edge at its start
start_height : (x0 x1 y0 y1 w : ℤ) → (((y0 *ℤ (x1 -ℤ x0)) +ℤ (y1 *ℤ (x0 -ℤ x0))) *ℤ w) ≡ (y0 *ℤ ((x1 -ℤ x0) *ℤ w))
start_height x0 x1 y0 y1 w =
    identity (times (plus (times (number y0) (minus (number x1) (number x0))) (times (number y1) (minus (number x0) (number x0)))) (number w))
    (times (number y0) (times (minus (number x1) (number x0)) (number w)))
    (omega arith)

pub height-start : (edge other : Edge) → height_by_runs edge other edge.x0 ≡ (edge.y0 *ℤ (run edge *ℤ run other))
height-start edge other = start_height edge.x0 edge.x1 edge.y0 edge.y1 (run other)

-- and of another that starts at the same x
height-start_other : (edge other : Edge) → edge.x0 ≡ other.x0 → height_by_runs other edge edge.x0 ≡ (other.y0 *ℤ (run edge *ℤ run other))
height-start_other edge other level =
    subst (λ (x : ℤ). height_by_runs other edge x ≡ (other.y0 *ℤ (run other *ℤ run edge))) (sym level) (height-start other edge)
    ∙ ap (λ k. other.y0 *ℤ k) (identity (times (number (run other)) (number (run edge))) (times (number (run edge)) (number (run other))) (omega arith))

-- a multiple of a difference
apart_by : (k a b : ℤ) → (k *ℤ (b -ℤ a)) ≡ ((b *ℤ k) -ℤ (a *ℤ k))
apart_by k a b = identity (times (number k) (minus (number b) (number a))) (minus (times (number b) (number k)) (times (number a) (number k))) (omega arith)

-- the one that starts lower, or as high and goes on no steeper
module _ (one other : Edge) (meet : MeetOnly one other) (differ : one ≢ other) (some : one.x0 <ℤ one.x1) (some_too : other.x0 <ℤ other.x1) (level : one.x0 ≡ other.x0) where
  -- how high both start
  here : height_by_runs one other one.x0 ≡ (one.y0 *ℤ (run one *ℤ run other))
  here = height-start one other

  there : height_by_runs other one one.x0 ≡ (other.y0 *ℤ (run one *ℤ run other))
  there = height-start_other one other level

  -- both are over the stretch
  over : is_over one.x0 one ≡ true
  over = over_true one.x0 one (omega (arith, ints)) some

  over_too : is_over one.x0 other ≡ true
  over_too = over_true one.x0 other (omega (arith, ints, level)) (omega (arith, ints, level, some_too))

  -- they don't cross
  never : Uncrossed one other
  never = uncrossed_onwards one other some some_too (uncrossed one other meet)

  -- the one that starts lower is lower there
  starts_lower : one.y0 <ℤ other.y0 → height_by_runs one other one.x0 <ℤ height_by_runs other one one.x0
  starts_lower less =
      let k = run one *ℤ run other in
      let apart = product_positive k (other.y0 -ℤ one.y0) (product_positive (run one) (run other) (omega (arith, ints, some)) (omega (arith, ints, some_too))) (omega (arith, ints, less)) in
      let is = apart_by k one.y0 other.y0 in
      omega (arith, ints, here, there, apart, is)

  -- and isn't above the other at the next x
  next_upto : height_by_runs one other one.x0 <ℤ height_by_runs other one one.x0 → IsUpto one other (one.x0 +ℤ pos 1)
  next_upto lower =
      by_lt_z (height_by_runs other one (one.x0 +ℤ pos 1)) (height_by_runs one other (one.x0 +ℤ pos 1))
      (λ above.
      let also = never (one.x0 +ℤ pos 1) one.x0 (omega (arith, ints)) (omega (arith, ints, some)) (omega (arith, ints, level)) (omega (arith, ints, level, some_too)) (omega (arith, ints)) (omega (arith, ints, some)) (omega (arith, ints, level)) (omega (arith, ints, level, some_too)) (omega (arith, ints, above)) in
      absurd (omega (arith, ints, also, lower)))
      (λ upto. upto)

  -- so it is lower on the stretch; and so is one that starts as high and goes on no steeper
  pub start-lower : (one.y0 <ℤ other.y0) ⊎ ((one.y0 ≡ other.y0) × (rise_by_run one other ≤ℤ rise_by_run other one)) → is_lower_on one.x0 one other ≡ true
  start-lower (inl less) =
      let lower = starts_lower less in
      upto-lower one other one.x0 meet differ over over_too (omega (arith, ints, lower)) (next_upto lower)
  start-lower (inr (same, steeper)) =
      let level_here : height_by_runs one other one.x0 ≡ height_by_runs other one one.x0 = here ∙ ap (λ y. y *ℤ (run one *ℤ run other)) same ∙ sym there in
      upto-lower one other one.x0 meet differ over over_too (omega (arith, ints, level_here)) (level_upto one other one.x0 (one.x0 +ℤ pos 1) (omega (arith, ints)) level_here steeper)
