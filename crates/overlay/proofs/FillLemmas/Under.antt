-- Which edges are under a rational point, by the stretch that the point is over.
use Rattle.std.proofs.Common.{◌≡◌, ℤ, pos, ◌+ℤ◌, ◌-ℤ◌, ◌*ℤ◌, ◌<ℤ◌, ◌≤ℤ◌, Bool, true, false, refl, ap₂, arith, sym, ◌∙◌}
use Rattle.std.specs.Prelude.{int_le, int_lt}
use Rattle.std.proofs.lemmas.Bool.{and_parts}
use Rattle.std.proofs.lemmas.Int.{ints, by_lt_z}
use Rattle.plane.specs.declared.edge.Edge.{Edge}
use Rattle.plane.specs.Meet.Edges.{RationalPoint}
use Rattle.plane.specs.SweepLine.Crossings.{Cross}
use Rattle.plane.specs.SweepLine.Heights.{run, rise, height_by_runs}
use Rattle.plane.proofs.MeetLemmas.Identities.{number, plus, minus, times, identity, scaled}
use Rattle.plane.proofs.SweepLineLemmas.Gaps.{gap, base, slope, start, gap-linear, product_above}
use Rattle.plane.proofs.SweepLineLemmas.Order.{in_order}
use Rattle.overlay.specs.Fill.Counts.{is_over, is_lower_on}
use Rattle.overlay.proofs.FillLemmas.Tests.{lt_is, over_is, over_true}
use Rattle.overlay.proofs.FillLemmas.Uncrossed.{uncrossed_onwards}
use Rattle.noding.proofs.SnapLemmas.Rounding.{Floor}
use Rattle.noding.proofs.SnapLemmas.Counted.{covers, height_at, is_counted, is_low}

-- ---- heights at the point's x

-- an edge's height is linear in the point's x
height_at-linear : (edge : Edge) (point : RationalPoint) → height_at edge point ≡ ((rise edge *ℤ point.x) +ℤ (pos point.n *ℤ base edge))
height_at-linear edge point =
    let n = number (pos point.n) in
    identity (plus (times (number edge.y0) (minus (times n (number edge.x1)) (number point.x))) (times (number edge.y1) (minus (number point.x) (times n (number edge.x0)))))
    (plus (times (minus (number edge.y1) (number edge.y0)) (number point.x)) (times n (minus (times (number edge.y0) (number edge.x1)) (times (number edge.y1) (number edge.x0)))))
    (omega arith)

-- and so is how far two edges are apart
apart_at : (a b m c d k n x : ℤ) → ((((c *ℤ x) +ℤ (n *ℤ d)) *ℤ m) -ℤ (((a *ℤ x) +ℤ (n *ℤ b)) *ℤ k)) ≡ ((((c *ℤ m) -ℤ (a *ℤ k)) *ℤ x) +ℤ (n *ℤ ((d *ℤ m) -ℤ (b *ℤ k))))
apart_at a b m c d k n x =
    identity (minus (times (plus (times (number c) (number x)) (times (number n) (number d))) (number m)) (times (plus (times (number a) (number x)) (times (number n) (number b))) (number k)))
    (plus (times (minus (times (number c) (number m)) (times (number a) (number k))) (number x)) (times (number n) (minus (times (number d) (number m)) (times (number b) (number k)))))
    (omega arith)

-- a linear function between two x's is a mean of what it is there
between : (s t n x z : ℤ) → ((s *ℤ x) +ℤ (n *ℤ t)) ≡ ((((n *ℤ (z +ℤ pos 1)) -ℤ x) *ℤ ((s *ℤ z) +ℤ t)) +ℤ ((x -ℤ (n *ℤ z)) *ℤ ((s *ℤ (z +ℤ pos 1)) +ℤ t)))
between s t n x z =
    let next = plus (number z) (number (pos 1)) in
    identity (plus (times (number s) (number x)) (times (number n) (number t)))
    (plus (times (minus (times (number n) next) (number x)) (plus (times (number s) (number z)) (number t))) (times (minus (number x) (times (number n) (number z))) (plus (times (number s) next) (number t))))
    (omega arith)

-- ---- the tests

-- what the tests say
pub le_true : (a b : ℤ) → a ≤ℤ b → int_le a b ≡ true
le_true a b upto = by (int_le a b) refl
  where
    by : (t : Bool) → int_le a b ≡ t → t ≡ true
    by true e = refl
    by false e = absurd (omega (arith, ints, e, upto))

less_true : (a b : ℤ) → a <ℤ b → int_lt a b ≡ true
less_true a b less = by (int_lt a b) refl
  where
    by : (t : Bool) → int_lt a b ≡ t → t ≡ true
    by true e = refl
    by false e = absurd (omega (arith, ints, e, less))

pub le_is : (a b : ℤ) → int_le a b ≡ true → a ≤ℤ b
le_is a b e = omega (arith, ints, e)

pub less_is : (a b : ℤ) → int_lt a b ≡ true → a <ℤ b
less_is a b e = omega (arith, ints, e)

-- the point's x is one of the edge's, but for the end's, and the edge isn't above the point there
pub record Under (edge : Edge) (point : RationalPoint) : Type 0 where
  pub from : (pos point.n *ℤ edge.x0) ≤ℤ point.x
  pub before : point.x <ℤ (pos point.n *ℤ edge.x1)
  pub upto : height_at edge point ≤ℤ (point.y *ℤ run edge)

-- the test tells this, and no other
pub under_is : (edge : Edge) (point : RationalPoint) → is_counted edge point ≡ true → Under edge point
under_is edge point e =
    let one = and_parts (covers edge point) (is_low edge point) e in
    let two = and_parts (int_le (pos point.n *ℤ edge.x0) point.x) (int_lt point.x (pos point.n *ℤ edge.x1)) one.0 in record {
      from = le_is (pos point.n *ℤ edge.x0) point.x two.0;
      before = less_is point.x (pos point.n *ℤ edge.x1) two.1;
      upto = le_is (height_at edge point) (point.y *ℤ run edge) one.1;
    }

pub is_counted-from : (edge : Edge) (point : RationalPoint) → Under edge point → is_counted edge point ≡ true
is_counted-from edge point under =
    rw (le_true (pos point.n *ℤ edge.x0) point.x under.from, less_true point.x (pos point.n *ℤ edge.x1) under.before, le_true (height_at edge point) (point.y *ℤ run edge) under.upto) refl

-- ---- on the stretch from x to x + 1 that the point is over

module _ (point : RationalPoint) (x : ℤ) (floor : Floor point.n point.x x) where
  -- what isn't above another at both ends of the stretch isn't at the point's x
  upto_at : (one other : Edge) → pos 0 ≤ℤ gap one other x → pos 0 ≤ℤ gap one other (x +ℤ pos 1) → (height_at one point *ℤ run other) ≤ℤ (height_at other point *ℤ run one)
  upto_at one other first last =
      let left = product_above ((pos point.n *ℤ (x +ℤ pos 1)) -ℤ point.x) (gap one other x) (let h = floor.below in omega (arith, ints, h)) first in
      let right = product_above (point.x -ℤ (pos point.n *ℤ x)) (gap one other (x +ℤ pos 1)) (let h = floor.from in omega (arith, ints, h)) last in
      let is : ((height_at other point *ℤ run one) -ℤ (height_at one point *ℤ run other)) ≡ ((((pos point.n *ℤ (x +ℤ pos 1)) -ℤ point.x) *ℤ gap one other x) +ℤ ((point.x -ℤ (pos point.n *ℤ x)) *ℤ gap one other (x +ℤ pos 1))) =
      ap₂ (λ a b. (a *ℤ run one) -ℤ (b *ℤ run other)) (height_at-linear other point) (height_at-linear one point)
      ∙ apart_at (rise one) (base one) (run one) (rise other) (base other) (run other) (pos point.n) point.x
      ∙ between (slope one other) (start one other) (pos point.n) point.x x
      ∙ sym (ap₂ (λ a b. (((pos point.n *ℤ (x +ℤ pos 1)) -ℤ point.x) *ℤ a) +ℤ ((point.x -ℤ (pos point.n *ℤ x)) *ℤ b)) (gap-linear one other x) (gap-linear one other (x +ℤ pos 1))) in
      omega (arith, ints, left, right, is)

  -- what is under the point is over its stretch
  pub under_over : (edge : Edge) → is_counted edge point ≡ true → is_over x edge ≡ true
  under_over edge e =
      let under = under_is edge point e in
      over_true x edge
      (by_lt_z x edge.x0 (λ late. let far = scaled point.n (x +ℤ pos 1) edge.x0 (omega (arith, ints)) in let a = under.from in let b = floor.below in absurd (omega (arith, ints, far, a, b))) (λ h. h))
      (by_lt_z x edge.x1 (λ h. h) (λ late. let far = scaled point.n edge.x1 x late in let a = under.before in let b = floor.from in absurd (omega (arith, ints, far, a, b))))

  -- what is over the stretch, and lower there than an edge under the point, is under the point
  pub lower_under : (one other : Edge) → one.x0 <ℤ one.x1 → other.x0 <ℤ other.x1 → ¬ (Cross one other) → is_over x one ≡ true → is_counted other point ≡ true → is_lower_on x one other ≡ true → is_counted one point ≡ true
  lower_under one other some some_too none over under_too lower =
      let span = over_is x one over in
      let span_too = over_is x other (under_over other under_too) in
      let under = under_is other point under_too in
      let less = lt_is (height_by_runs one other x +ℤ height_by_runs one other (x +ℤ pos 1)) (height_by_runs other one x +ℤ height_by_runs other one (x +ℤ pos 1)) lower in
      let one_from = span.0 in
      let one_before = span.1 in
      let other_from = span_too.0 in
      let other_before = span_too.1 in
      let uncrossed = uncrossed_onwards one other some some_too none in
      let here : pos 0 ≤ℤ gap one other x = by_lt_z (gap one other x) (pos 0)
      (λ low. let also = uncrossed x (x +ℤ pos 1) one_from (omega (arith, ints)) other_from (omega (arith, ints)) (omega (arith, ints)) (omega (arith, ints)) (omega (arith, ints)) (omega (arith, ints)) low in absurd (omega (arith, ints, low, also, less)))
      (λ h. h) in
      let there : pos 0 ≤ℤ gap one other (x +ℤ pos 1) = by_lt_z (gap one other (x +ℤ pos 1)) (pos 0)
      (λ low. let also = uncrossed (x +ℤ pos 1) x (omega (arith, ints)) (omega (arith, ints)) (omega (arith, ints)) (omega (arith, ints)) one_from (omega (arith, ints)) other_from (omega (arith, ints)) low in absurd (omega (arith, ints, low, also, less)))
      (λ h. h) in
      let below = upto_at one other here there in
      let above = under.upto in
      let whole = in_order (height_at one point) (height_at other point) point.y (run one) (run other) (pos 1) (omega (arith, ints)) (omega (arith, ints)) (omega (arith, ints)) below (omega (arith, ints, above)) in
      let from = scaled point.n one.x0 x one_from in
      let upto = scaled point.n (x +ℤ pos 1) one.x1 (omega (arith, ints)) in
      let low = floor.from in
      let high = floor.below in
      is_counted-from one point (record {
        from = omega (arith, ints, from, low);
        before = omega (arith, ints, upto, high);
        upto = omega (arith, ints, whole);
      })
