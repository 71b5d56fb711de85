-- Two edges that have a common point that is an end of neither cross where neither is upright; and an edge that has a point at a
-- column, between what is asked there, reaches this.
use Rattle.std.proofs.Common.{arith, ap, inl, inr, negsuc, pos, refl, sym, subst, subst₂, true, zero, suc, ◌∙◌, ◌⊎◌, ⊎_elim, ℕ, ℤ, ◌+◌, ◌-◌, ◌<◌, ◌≡◌, ◌≢◌, ◌+ℤ◌, ◌-ℤ◌, ◌*ℤ◌, ◌<ℤ◌, ◌≤ℤ◌}
use Rattle.std.proofs.Math.Nat.{mul-pos}
use Rattle.std.proofs.lemmas.Int.{by_lt_z, clamps, ints}
use Rattle.std.specs.Int.{int_max, int_min}
use Rattle.std.specs.Int.Signed.{lt_z}
use Rattle.plane.specs.declared.columns.Asked.{Asked}
use Rattle.plane.specs.declared.edge.Edge.{Edge}
use Rattle.plane.specs.Columns.Asked.{IsWithinAsked, Reaches}
use Rattle.plane.specs.Ends.{reversed}
use Rattle.plane.specs.Meet.Columns.{asked_about}
use Rattle.plane.specs.Meet.Crosses.{cross}
use Rattle.plane.specs.Meet.Edges.{IsOf, RationalPoint}
use Rattle.plane.specs.Meet.Kinds.{IsAt, IsEnd}
use Rattle.plane.specs.SweepLine.Crossings.{Cross}
use Rattle.plane.specs.SweepLine.Heights.{IsLowerAt, Spans, height_by_run, height_by_runs, rightwards, rise, run}
use Rattle.plane.proofs.MeetLemmas.Along.{same_or_apart}
use Rattle.plane.proofs.MeetLemmas.Boxes.{way_above, way_below}
use Rattle.plane.proofs.MeetLemmas.Identities.{Term, identity, minus, number, plus, same_of, scaled, times}
use Rattle.plane.proofs.MeetLemmas.Shares.{whole}
use Rattle.plane.proofs.SweepLineLemmas.Gaps.{base, gap, gap-linear, product_above, quotient_above, slope}
use Rattle.plane.proofs.SweepLineLemmas.Rightwards.{rightwards-left, rightwards-same}
use Rattle.plane.proofs.SweepLineLemmas.Turned.{Cross-turned}
use Rattle.plane.proofs.SweepLineLemmas.Uncrossed.{Cross-exchanged}

-- ---- numbers

-- a natural number, as an expression
abbrev n_of : ℕ → Term
n_of n = number (pos n)

-- the edges aren't parallel, and neither is a point
abbrev pub AreNotParallel : Edge → Edge → Type 0
AreNotParallel one other = whole one other ≢ pos 0

product_positive : (k d : ℤ) → pos 0 <ℤ k → pos 0 <ℤ d → pos 0 <ℤ (k *ℤ d)
product_positive (pos k) (pos d) first second =
    let some = mul-pos {m = k} {n = d} (omega (arith, ints, first)) (omega (arith, ints, second)) in omega (arith, ints, some)
product_positive (negsuc k) d first second = absurd (omega (arith, ints, first))
product_positive (pos k) (negsuc d) first second = absurd (omega (arith, ints, second))

-- z has the sign of k d
positive_by : (n : ℕ) (z k d : ℤ) → (pos n *ℤ z) ≡ (k *ℤ d) → pos 0 <ℤ k → pos 0 <ℤ d → pos 0 <ℤ z
positive_by n z k d is first second =
    let some = product_positive k d first second in
    let none = identity (times (n_of n) (n_of 0)) (n_of 0) (omega arith) in
    by_lt_z (pos 0) z (λ above. above) (λ below.
    let upto = scaled n z (pos 0) below in absurd (omega (arith, ints, some, upto, is, none)))

-- where an edge goes nowhere along an axis, all of its points are where it starts there
pub mean-nowhere : (all first from to : ℤ) → from ≡ to → ((all *ℤ from) +ℤ (first *ℤ (to -ℤ from))) ≡ (all *ℤ from)
mean-nowhere all first from to same =
    ap (λ z. (all *ℤ from) +ℤ (first *ℤ (z -ℤ from))) (sym same)
    ∙ identity (plus (times (number all) (number from)) (times (number first) (minus (number from) (number from)))) (times (number all) (number from)) (omega arith)

-- a share from the one end, and from the other
reverse_along : (n a b : ℕ) (p start end : ℤ) → a + b ≡ n → p ≡ ((pos n *ℤ start) +ℤ (pos a *ℤ (end -ℤ start))) → p ≡ ((pos n *ℤ end) +ℤ (pos b *ℤ (start -ℤ end)))
reverse_along n a b p start end whole is =
    let there : p ≡ ((pos (a + b) *ℤ start) +ℤ (pos a *ℤ (end -ℤ start))) = rw whole is in
    let back : p ≡ ((pos (a + b) *ℤ end) +ℤ (pos b *ℤ (start -ℤ end))) =
    there ∙ identity (plus (times (n_of (a + b)) (number start)) (times (n_of a) (minus (number end) (number start)))) (plus (times (n_of (a + b)) (number end)) (times (n_of b) (minus (number start) (number end)))) (omega arith) in
    subst (λ (m : ℕ). p ≡ ((pos m *ℤ end) +ℤ (pos b *ℤ (start -ℤ end)))) whole back

-- the reversed edge has the same points
IsOf-reversed : (edge : Edge) (point : RationalPoint) → IsOf edge point → IsOf (reversed edge) point
IsOf-reversed edge point (a, at) =
    let share = at.share in (
      point.n - a,
      record {
        share = omega arith;
        x = reverse_along point.n a (point.n - a) point.x edge.x0 edge.x1 (omega arith) at.x;
        y = reverse_along point.n a (point.n - a) point.y edge.y0 edge.y1 (omega arith) at.y;
      },
    )

-- a point is an end of the edge or not
at_or_not : (point : RationalPoint) (x y : ℤ) → IsAt point x y ⊎ ¬ (IsAt point x y)
at_or_not point x y =
    elim (same_or_apart point.x (pos point.n *ℤ x)) [
      | inl same ↦ elim (same_or_apart point.y (pos point.n *ℤ y)) [
        | inl level ↦ inl (record { x_is = same; y_is = level })
        | inr apart ↦ inr (λ at. apart at.y_is)
      ]
      | inr apart ↦ inr (λ at. apart at.x_is)
    ]

pub end-or_not : (edge : Edge) (point : RationalPoint) → IsEnd edge point ⊎ ¬ (IsEnd edge point)
end-or_not edge point =
    elim (at_or_not point edge.x0 edge.y0) [
      | inl start ↦ inl (inl start)
      | inr no_start ↦ elim (at_or_not point edge.x1 edge.y1) [
        | inl end ↦ inl (inr end)
        | inr no_end ↦ inr (⊎_elim no_start no_end)
      ]
    ]

-- an order of multiples is one of the numbers
less_of : (n : ℕ) (a b p : ℤ) → (pos n *ℤ a) <ℤ p → p <ℤ (pos n *ℤ b) → a <ℤ b
less_of n a b p first second =
    by_lt_z a b (λ less. less) (λ upto. let multiples = scaled n b a upto in absurd (omega (arith, ints, first, second, multiples)))

-- the greater of two numbers whose multiples are below another
record Latest (n : ℕ) (a b p : ℤ) : Type 0 where
  x : ℤ
  from : a ≤ℤ x
  other_from : b ≤ℤ x
  below : (pos n *ℤ x) <ℤ p

latest : (n : ℕ) (a b p : ℤ) → (pos n *ℤ a) <ℤ p → (pos n *ℤ b) <ℤ p → Latest n a b p
latest n a b p first second =
    by_lt_z a b (λ less. record { x = b; from = omega (arith, ints, less); other_from = omega (arith, ints); below = second })
    (λ upto. record { x = a; from = omega (arith, ints); other_from = upto; below = first })

-- and the lesser of two whose multiples are above it
record Earliest (n : ℕ) (a b p : ℤ) : Type 0 where
  x : ℤ
  upto : x ≤ℤ a
  other_upto : x ≤ℤ b
  above : p <ℤ (pos n *ℤ x)

earliest : (n : ℕ) (a b p : ℤ) → p <ℤ (pos n *ℤ a) → p <ℤ (pos n *ℤ b) → Earliest n a b p
earliest n a b p first second =
    by_lt_z a b (λ less. record { x = a; upto = omega (arith, ints); other_upto = omega (arith, ints, less); above = first })
    (λ upto. record { x = b; upto = upto; other_upto = omega (arith, ints); above = second })

-- ---- a point of an edge that is no end of it

share_starts : (n : ℕ) (from to : ℤ) → ((pos n *ℤ from) +ℤ (pos 0 *ℤ (to -ℤ from))) ≡ (pos n *ℤ from)
share_starts n from to = identity (plus (times (n_of n) (number from)) (times (n_of 0) (minus (number to) (number from)))) (times (n_of n) (number from)) (omega arith)

share_ends : (n : ℕ) (from to : ℤ) → ((pos n *ℤ from) +ℤ (pos n *ℤ (to -ℤ from))) ≡ (pos n *ℤ to)
share_ends n from to = identity (plus (times (n_of n) (number from)) (times (n_of n) (minus (number to) (number from)))) (times (n_of n) (number to)) (omega arith)

-- it is at a share between
share_some : (edge : Edge) (point : RationalPoint) (of : IsOf edge point) → ¬ (IsEnd edge point) → 0 < of.0
share_some edge point (a, at) none = by a refl
  where
    by : (b : ℕ) → a ≡ b → 0 < a
    by zero is = absurd (none (inl (record {
      x_is = subst (λ (k : ℕ). point.x ≡ ((pos point.n *ℤ edge.x0) +ℤ (pos k *ℤ (edge.x1 -ℤ edge.x0)))) is at.x ∙ share_starts point.n edge.x0 edge.x1;
      y_is = subst (λ (k : ℕ). point.y ≡ ((pos point.n *ℤ edge.y0) +ℤ (pos k *ℤ (edge.y1 -ℤ edge.y0)))) is at.y ∙ share_starts point.n edge.y0 edge.y1;
    })))
    by (suc b) is = omega (arith, is)

-- so on its other way round
reversed_none : (edge : Edge) (point : RationalPoint) → ¬ (IsEnd edge point) → ¬ (IsEnd (reversed edge) point)
reversed_none edge point none (inl at) = none (inr at)
reversed_none edge point none (inr at) = none (inl at)

share_above : (n a : ℕ) (from to p : ℤ) → p ≡ ((pos n *ℤ from) +ℤ (pos a *ℤ (to -ℤ from))) → 0 < a → from <ℤ to → (pos n *ℤ from) <ℤ p
share_above n a from to p is some rising =
    let part = product_positive (pos a) (to -ℤ from) (omega (arith, ints, some)) (omega (arith, ints, rising)) in
    omega (arith, ints, is, part)

share_below : (n a : ℕ) (from to p : ℤ) → p ≡ ((pos n *ℤ from) +ℤ (pos a *ℤ (to -ℤ from))) → 0 < a → to <ℤ from → p <ℤ (pos n *ℤ from)
share_below n a from to p is some falling =
    let part = product_positive (pos a) (from -ℤ to) (omega (arith, ints, some)) (omega (arith, ints, falling)) in
    let turned = identity (plus (times (n_of a) (minus (number to) (number from))) (times (n_of a) (minus (number from) (number to)))) (n_of 0) (omega arith) in
    omega (arith, ints, is, part, turned)

-- it lies to the right of where the edge begins, and to the left of where it ends
pub inside_from : (edge : Edge) (point : RationalPoint) → edge.x0 <ℤ edge.x1 → IsOf edge point → ¬ (IsEnd edge point) → (pos point.n *ℤ edge.x0) <ℤ point.x
inside_from edge point rising of none = share_above point.n of.0 edge.x0 edge.x1 point.x of.1.x (share_some edge point of none) rising

pub inside_upto : (edge : Edge) (point : RationalPoint) → edge.x0 <ℤ edge.x1 → IsOf edge point → ¬ (IsEnd edge point) → point.x <ℤ (pos point.n *ℤ edge.x1)
inside_upto edge point rising of none =
    let back = IsOf-reversed edge point of in
    share_below point.n back.0 edge.x1 edge.x0 point.x back.1.x (share_some (reversed edge) point back (reversed_none edge point none)) rising

-- ---- the line of an edge

on_line : (n a : ℕ) (x0 y0 x1 y1 : ℤ)
    → ((x1 -ℤ x0) *ℤ ((pos n *ℤ y0) +ℤ (pos a *ℤ (y1 -ℤ y0)))) ≡ (((y1 -ℤ y0) *ℤ ((pos n *ℤ x0) +ℤ (pos a *ℤ (x1 -ℤ x0)))) +ℤ (pos n *ℤ ((y0 *ℤ x1) -ℤ (y1 *ℤ x0))))
on_line n a x0 y0 x1 y1 =
    let way : ℤ → ℤ → Term = λ from to. minus (number to) (number from) in
    let at : ℤ → ℤ → Term = λ from to. plus (times (n_of n) (number from)) (times (n_of a) (way from to)) in
    identity (times (way x0 x1) (at y0 y1)) (plus (times (way y0 y1) (at x0 x1)) (times (n_of n) (minus (times (number y0) (number x1)) (times (number y1) (number x0))))) (omega arith)

-- a point of it lies on the line
line-of : (edge : Edge) (point : RationalPoint) → IsOf edge point → (run edge *ℤ point.y) ≡ ((rise edge *ℤ point.x) +ℤ (pos point.n *ℤ base edge))
line-of edge point (a, at) =
    ap (λ y. run edge *ℤ y) at.y ∙ on_line point.n a edge.x0 edge.y0 edge.x1 edge.y1 ∙ sym (ap (λ x. (rise edge *ℤ x) +ℤ (pos point.n *ℤ base edge)) at.x)

-- where two lines meet, how far they are apart at an x is by how far that is from there
apart : (n : ℕ) (a b w c d v px py x : ℤ) → (w *ℤ py) ≡ ((a *ℤ px) +ℤ (pos n *ℤ b)) → (v *ℤ py) ≡ ((c *ℤ px) +ℤ (pos n *ℤ d))
    → (pos n *ℤ ((((c *ℤ w) -ℤ (a *ℤ v)) *ℤ x) +ℤ ((d *ℤ w) -ℤ (b *ℤ v)))) ≡ (((c *ℤ w) -ℤ (a *ℤ v)) *ℤ ((pos n *ℤ x) -ℤ px))
apart n a b w c d v px py x first second =
    let line : ℤ → ℤ → Term = λ k l. plus (times (number k) (number px)) (times (n_of n) (number l)) in
    let one = same_of (times (number v) (times (number w) (number py))) (times (number v) (line a b)) (ap (λ z. v *ℤ z) first) in
    let other = same_of (times (number w) (times (number v) (number py))) (times (number w) (line c d)) (ap (λ z. w *ℤ z) second) in
    let steeper : Term = minus (times (number c) (number w)) (times (number a) (number v)) in
    identity (times (n_of n) (plus (times steeper (number x)) (minus (times (number d) (number w)) (times (number b) (number v)))))
    (times steeper (minus (times (n_of n) (number x)) (number px)))
    (omega (arith, one, other))

gap-apart : (one other : Edge) (point : RationalPoint) (x : ℤ) → IsOf one point → IsOf other point → (pos point.n *ℤ gap one other x) ≡ (slope one other *ℤ ((pos point.n *ℤ x) -ℤ point.x))
gap-apart one other point x of_one of_other =
    ap (λ g. pos point.n *ℤ g) (gap-linear one other x)
    ∙ apart point.n (rise one) (base one) (run one) (rise other) (base other) (run other) point.x point.y x (line-of one point of_one) (line-of other point of_other)

-- ---- edges that go to the right

module _ (one other : Edge) (point : RationalPoint) (right : one.x0 <ℤ one.x1) (other_right : other.x0 <ℤ other.x1) (of_one : IsOf one point) (of_other : IsOf other point) (none : ¬ (IsEnd one point)) (none_other : ¬ (IsEnd other point)) where
  spans_at : (edge : Edge) (x : ℤ) → edge.x0 <ℤ edge.x1 → edge.x0 ≤ℤ x → x ≤ℤ edge.x1 → Spans edge x
  spans_at edge x onwards from upto = let same = sym (rightwards-same edge onwards) in record {
    from = subst (λ (e : Edge). e.x0 ≤ℤ x) same from;
    upto = subst (λ (e : Edge). x ≤ℤ e.x1) same upto;
  }

  lower_at : (below above : Edge) (x : ℤ) → below.x0 <ℤ below.x1 → above.x0 <ℤ above.x1 → height_by_runs below above x <ℤ height_by_runs above below x → IsLowerAt x below above
  lower_at below above x onwards onwards_too =
      subst₂ (λ (b a : Edge). height_by_runs b a x <ℤ height_by_runs a b x) (sym (rightwards-same below onwards)) (sym (rightwards-same above onwards_too))

  -- the last of their starts, and the first of their ends
  first : Latest point.n one.x0 other.x0 point.x
  first = latest point.n one.x0 other.x0 point.x (inside_from one point right of_one none) (inside_from other point other_right of_other none_other)

  last : Earliest point.n one.x1 other.x1 point.x
  last = earliest point.n one.x1 other.x1 point.x (inside_upto one point right of_one none) (inside_upto other point other_right of_other none_other)

  -- before the common point the steeper one is below
  lower_first : pos 0 <ℤ slope one other → height_by_runs other one first.x <ℤ height_by_runs one other first.x
  lower_first steeper =
      let below = first.below in
      let back : (pos point.n *ℤ (pos 0 -ℤ gap one other first.x)) ≡ (slope one other *ℤ (point.x -ℤ (pos point.n *ℤ first.x))) =
      identity (times (n_of point.n) (minus (n_of 0) (number (gap one other first.x)))) (minus (n_of 0) (times (n_of point.n) (number (gap one other first.x)))) (omega arith)
      ∙ ap (λ g. pos 0 -ℤ g) (gap-apart one other point first.x of_one of_other)
      ∙ identity (minus (n_of 0) (times (number (slope one other)) (minus (times (n_of point.n) (number first.x)) (number point.x)))) (times (number (slope one other)) (minus (number point.x) (times (n_of point.n) (number first.x)))) (omega arith) in
      let found = positive_by point.n (pos 0 -ℤ gap one other first.x) (slope one other) (point.x -ℤ (pos point.n *ℤ first.x)) back steeper (omega (arith, ints, below)) in
      omega (arith, ints, found)

  -- and behind it above
  lower_last : pos 0 <ℤ slope one other → height_by_runs one other last.x <ℤ height_by_runs other one last.x
  lower_last steeper =
      let above = last.above in
      let found = positive_by point.n (gap one other last.x) (slope one other) ((pos point.n *ℤ last.x) -ℤ point.x) (gap-apart one other point last.x of_one of_other) steeper (omega (arith, ints, above)) in
      omega (arith, ints, found)

  spans_first : Spans one first.x × Spans other first.x
  spans_first = (
    (let less = less_of point.n first.x one.x1 point.x first.below (inside_upto one point right of_one none) in spans_at one first.x right first.from (omega (arith, ints, less))),
    (let less = less_of point.n first.x other.x1 point.x first.below (inside_upto other point other_right of_other none_other) in spans_at other first.x other_right first.other_from (omega (arith, ints, less))),
  )

  spans_last : Spans one last.x × Spans other last.x
  spans_last = (
    (let less = less_of point.n one.x0 last.x point.x (inside_from one point right of_one none) last.above in spans_at one last.x right (omega (arith, ints, less)) last.upto),
    (let less = less_of point.n other.x0 last.x point.x (inside_from other point other_right of_other none_other) last.above in spans_at other last.x other_right (omega (arith, ints, less)) last.other_upto),
  )

  cross_steeper : pos 0 <ℤ slope one other → Cross one other
  cross_steeper steeper = record {
    below = last.x;
    above = first.x;
    is_below = record { spanned = spans_last.0; other_spanned = spans_last.1; lower = lower_at one other last.x right other_right (lower_last steeper) };
    is_above = record { spanned = spans_first.1; other_spanned = spans_first.0; lower = lower_at other one first.x other_right right (lower_first steeper) };
  }

slope-exchanged : (one other : Edge) → slope other one ≡ (pos 0 -ℤ slope one other)
slope-exchanged one other =
    let steeper : Edge → Edge → Term = λ e f. minus (times (number (rise f)) (number (run e))) (times (number (rise e)) (number (run f))) in
    identity (steeper other one) (minus (n_of 0) (steeper one other)) (omega arith)

-- they cross where they aren't parallel
slope-some : (one other : Edge) → AreNotParallel one other → slope one other ≢ pos 0
slope-some one other slanted none =
    slanted
    (identity (minus (times (number (run one)) (number (rise other))) (times (number (rise one)) (number (run other))))
    (minus (times (number (rise other)) (number (run one))) (times (number (rise one)) (number (run other)))) (omega arith)
    ∙ none)

cross_right : (one other : Edge) (point : RationalPoint) → one.x0 <ℤ one.x1 → other.x0 <ℤ other.x1 → AreNotParallel one other → IsOf one point → IsOf other point → ¬ (IsEnd one point) → ¬ (IsEnd other point) → Cross one other
cross_right one other point right other_right slanted of_one of_other none none_other =
    let some = slope-some one other slanted in
    let turned = slope-exchanged one other in
    by_lt_z (pos 0) (slope one other)
    (λ steeper. cross_steeper one other point right other_right of_one of_other none none_other steeper)
    (λ upto. Cross-exchanged other one (cross_steeper other one point other_right right of_other of_one none_other none (omega (arith, ints, some, turned, upto))))

-- ---- any edges

-- the edge that goes to the right, or from its end to its start
record Onwards (edge : Edge) (point : RationalPoint) : Type 0 where
  turned : Edge
  same : rightwards turned ≡ rightwards edge
  right : turned.x0 <ℤ turned.x1
  of : IsOf turned point
  none : ¬ (IsEnd turned point)
  slanted : (other : Edge) → AreNotParallel edge other → AreNotParallel turned other

slanted_reversed : (edge other : Edge) → AreNotParallel edge other → AreNotParallel (reversed edge) other
slanted_reversed edge other slanted none =
    let way : ℤ → ℤ → Term = λ from to. minus (number to) (number from) in
    let turn : Term → Term → Term = λ x y. minus (times x (way other.y0 other.y1)) (times y (way other.x0 other.x1)) in
    slanted
    (identity (turn (way edge.x0 edge.x1) (way edge.y0 edge.y1)) (minus (n_of 0) (turn (way edge.x1 edge.x0) (way edge.y1 edge.y0))) (omega arith) ∙ ap (λ z. pos 0 -ℤ z) none)

leftwards : (a b : ℤ) → b <ℤ a → lt_z b a ≡ true
leftwards a b less = grind (arith, ints)

onwards : (edge : Edge) (point : RationalPoint) → edge.x0 ≢ edge.x1 → IsOf edge point → ¬ (IsEnd edge point) → Onwards edge point
onwards edge point wide of none =
    by_lt_z edge.x0 edge.x1
    (λ right. record { turned = edge; same = refl; right = right; of = of; none = none; slanted = λ other slanted. slanted })
    (λ upto.
    let left : edge.x1 <ℤ edge.x0 = omega (arith, ints, wide, upto) in record {
      turned = reversed edge;
      same = rightwards-same (reversed edge) left ∙ sym (rightwards-left edge (leftwards edge.x0 edge.x1 left));
      right = left;
      of = IsOf-reversed edge point of;
      none = reversed_none edge point none;
      slanted = slanted_reversed edge;
    })

-- the other way first
cross-exchanged : (ux uy vx vy : ℤ) → cross vx vy ux uy ≡ (pos 0 -ℤ cross ux uy vx vy)
cross-exchanged ux uy vx vy =
    let turn : ℤ → ℤ → ℤ → ℤ → Term = λ a b c d. minus (times (number a) (number d)) (times (number b) (number c)) in
    identity (turn vx vy ux uy) (minus (n_of 0) (turn ux uy vx vy)) (omega arith)

slanted_exchanged : (one other : Edge) → AreNotParallel one other → AreNotParallel other one
slanted_exchanged one other slanted none =
    let back = cross-exchanged (one.x1 -ℤ one.x0) (one.y1 -ℤ one.y0) (other.x1 -ℤ other.x0) (other.y1 -ℤ other.y0) in
    slanted (omega (arith, ints, back, none))

-- neither of which is upright
pub cross-between_ends : (one other : Edge) (point : RationalPoint) → one.x0 ≢ one.x1 → other.x0 ≢ other.x1 → AreNotParallel one other → IsOf one point → IsOf other point → ¬ (IsEnd one point) → ¬ (IsEnd other point) → Cross one other
cross-between_ends one other point wide other_wide slanted of_one of_other none none_other =
    let first = onwards one point wide of_one none in
    let second = onwards other point other_wide of_other none_other in
    let once = first.slanted other slanted in
    let both = slanted_exchanged second.turned first.turned (second.slanted first.turned (slanted_exchanged first.turned other once)) in
    Cross-turned first.turned one second.turned other first.same second.same
    (cross_right first.turned second.turned point first.right second.right both first.of second.of first.none second.none)

-- ---- an upright one

-- a point of it lies at its column, between its ends
module _ (upright : Edge) (point : RationalPoint) (same : upright.x0 ≡ upright.x1) (of : IsOf upright point) where
  at_column : point.x ≡ (pos point.n *ℤ upright.x0)
  at_column = of.1.x ∙ mean-nowhere (pos point.n) (pos of.0) upright.x0 upright.x1 same

  above_low : (pos point.n *ℤ int_min upright.y0 upright.y1) ≤ℤ point.y
  above_low =
      subst (λ (y : ℤ). (pos point.n *ℤ int_min upright.y0 upright.y1) ≤ℤ y) (sym of.1.y)
      (way_above point.n of.0 (int_min upright.y0 upright.y1) upright.y0 upright.y1 of.1.share (omega (arith, ints, clamps)) (omega (arith, ints, clamps)))

  below_high : point.y ≤ℤ (pos point.n *ℤ int_max upright.y0 upright.y1)
  below_high =
      subst (λ (y : ℤ). y ≤ℤ (pos point.n *ℤ int_max upright.y0 upright.y1)) (sym of.1.y)
      (way_below point.n of.0 (int_max upright.y0 upright.y1) upright.y0 upright.y1 of.1.share (omega (arith, ints, clamps)) (omega (arith, ints, clamps)))

-- the height of an edge at the x of a point of it is the point's
height_there : (edge : Edge) (point : RationalPoint) (x : ℤ) → IsOf edge point → point.x ≡ (pos point.n *ℤ x) → (pos point.n *ℤ height_by_run edge x) ≡ (run edge *ℤ point.y)
height_there edge point x of at =
    identity (times (n_of point.n) (plus (times (number edge.y0) (minus (number edge.x1) (number x))) (times (number edge.y1) (minus (number x) (number edge.x0)))))
    (plus (times (minus (number edge.y1) (number edge.y0)) (times (n_of point.n) (number x))) (times (n_of point.n) (minus (times (number edge.y0) (number edge.x1)) (times (number edge.y1) (number edge.x0)))))
    (omega arith)
    ∙ sym (ap (λ z. (rise edge *ℤ z) +ℤ (pos point.n *ℤ base edge)) at)
    ∙ sym (line-of edge point of)

-- so that it stands to a number there as the point does
low_there : (n : ℕ) (h w y low : ℤ) → 0 < n → pos 0 ≤ℤ w → (pos n *ℤ h) ≡ (w *ℤ y) → (pos n *ℤ low) ≤ℤ y → (low *ℤ w) ≤ℤ h
low_there n h w y low some wide is from =
    let part = product_above w (y -ℤ (pos n *ℤ low)) wide (omega (arith, ints, from)) in
    let fact = same_of (times (n_of n) (number h)) (times (number w) (number y)) is in
    let there : (pos n *ℤ (h -ℤ (low *ℤ w))) ≡ (w *ℤ (y -ℤ (pos n *ℤ low))) =
    identity (times (n_of n) (minus (number h) (times (number low) (number w)))) (times (number w) (minus (number y) (times (n_of n) (number low)))) (omega (arith, fact)) in
    let above = quotient_above (pos n) (h -ℤ (low *ℤ w)) (omega (arith, ints, some)) (omega (arith, ints, part, there)) in
    omega (arith, ints, above)

high_there : (n : ℕ) (h w y high : ℤ) → 0 < n → pos 0 ≤ℤ w → (pos n *ℤ h) ≡ (w *ℤ y) → y ≤ℤ (pos n *ℤ high) → h ≤ℤ (high *ℤ w)
high_there n h w y high some wide is upto =
    let part = product_above w ((pos n *ℤ high) -ℤ y) wide (omega (arith, ints, upto)) in
    let fact = same_of (times (n_of n) (number h)) (times (number w) (number y)) is in
    let there : (pos n *ℤ ((high *ℤ w) -ℤ h)) ≡ (w *ℤ ((pos n *ℤ high) -ℤ y)) =
    identity (times (n_of n) (minus (times (number high) (number w)) (number h))) (times (number w) (minus (times (n_of n) (number high)) (number y))) (omega (arith, fact)) in
    let above = quotient_above (pos n) ((high *ℤ w) -ℤ h) (omega (arith, ints, some)) (omega (arith, ints, part, there)) in
    omega (arith, ints, above)

-- an edge reaches what is asked at a column between whose heights a point of it lies that is no end
pub reaches-inside : (edge : Edge) (point : RationalPoint) (asked : Asked) → edge.x0 ≢ edge.x1 → IsOf edge point → ¬ (IsEnd edge point)
    → point.x ≡ (pos point.n *ℤ asked.x) → (pos point.n *ℤ asked.low) ≤ℤ point.y → point.y ≤ℤ (pos point.n *ℤ asked.high) → Reaches edge asked
reaches-inside edge point asked wide of none at above below =
    let found = onwards edge point wide of none in
    let onward = found.turned in
    let right = found.right in
    let from = inside_from onward point found.right found.of found.none in
    let upto = inside_upto onward point found.right found.of found.none in
    let height = height_there onward point asked.x found.of at in
    let low = low_there point.n (height_by_run onward asked.x) (run onward) point.y asked.low point.positive (omega (arith, ints, right)) height above in
    let high = high_there point.n (height_by_run onward asked.x) (run onward) point.y asked.high point.positive (omega (arith, ints, right)) height below in
    let within : IsWithinAsked asked onward = (λ lower. omega (arith, ints, low, lower), high) in
    let turned : onward ≡ rightwards edge = sym (rightwards-same onward found.right) ∙ found.same in
    let onwards_from : onward.x0 ≤ℤ asked.x = by_lt_z asked.x onward.x0 (λ less. let multiples = scaled point.n asked.x onward.x0 (omega (arith, ints, less)) in absurd (omega (arith, ints, multiples, from, at))) (λ upto. upto) in
    let onwards_upto : asked.x <ℤ onward.x1 = by_lt_z asked.x onward.x1 (λ less. less) (λ upto_there. let multiples = scaled point.n onward.x1 asked.x upto_there in absurd (omega (arith, ints, multiples, upto, at))) in record {
      covers = record {
        from = subst (λ (e : Edge). e.x0 ≤ℤ asked.x) turned onwards_from;
        before = subst (λ (e : Edge). asked.x <ℤ e.x1) turned onwards_upto;
      };
      within = subst (IsWithinAsked asked) turned within;
    }

-- so it does with what is asked about an upright edge that has the point too
pub reaches-between_ends : (upright other : Edge) (point : RationalPoint) → upright.x0 ≡ upright.x1 → other.x0 ≢ other.x1 → IsOf upright point → IsOf other point → ¬ (IsEnd other point) → Reaches other (asked_about upright)
reaches-between_ends upright other point same wide of_upright of_other none =
    reaches-inside other point (asked_about upright) wide of_other none (at_column upright point same of_upright) (above_low upright point same of_upright) (below_high upright point same of_upright)
