-- The area that closed edges bound, by the trapezoids below them, and these by slices over the stretches of an edge.
use Rattle.std.proofs.Common.{◌≡◌, ◌≢◌, ℕ, ℤ, pos, negsuc, ◌+ℤ◌, ◌-ℤ◌, ◌*ℤ◌, ◌≤ℤ◌, ◌<ℤ◌, cond, List, ap, ap₂, arith, sym, ◌∙◌}
use Rattle.std.proofs.lemmas.Int.{ints, by_lt_z}
use Rattle.plane.specs.declared.edge.Edge.{Edge}
use Rattle.plane.specs.declared.point.Point.{Point}
use Rattle.plane.specs.Ends.{start_of, end_of}
use Rattle.plane.specs.SweepLine.Heights.{rightwards, run, rise}
use Rattle.plane.proofs.MeetLemmas.Identities.{number, plus, minus, times, identity}
use Rattle.plane.proofs.SweepLineLemmas.Gaps.{base}
use Rattle.plane.proofs.SweepLineLemmas.Rightwards.{rightwards-left, rightwards-right}
use Rattle.overlay.specs.Areas.{swept}
use Rattle.overlay.specs.Fill.Counts.{is_over}
use Rattle.overlay.specs.Fill.Pieces.{total, weight}
use Rattle.overlay.proofs.AreaLemmas.Potential.{gains-nothing}
use Rattle.overlay.proofs.AreaLemmas.Ranges.{along, along-over}
use Rattle.overlay.proofs.FillLemmas.Balance.{AreBalanced}
use Rattle.overlay.proofs.FillLemmas.Order.{middle}
use Rattle.overlay.proofs.FillLemmas.Premises.{All-among}
use Rattle.overlay.proofs.FillLemmas.Tests.{lt_true, lt_false}
use Rattle.overlay.proofs.FillLemmas.Totals.{total-same, total-difference}
use Rattle.overlay.proofs.FillLemmas.Weights.{weight-right, weight-left}
use Rattle.noding.proofs.SnapLemmas.Numbers.{n_of}

-- ---- what edges sweep

-- Twice the area between the edge and the x axis: above 0 where it goes rightwards above the axis.
abbrev pub trapezoid : Edge → ℤ
trapezoid edge = (edge.x1 -ℤ edge.x0) *ℤ (edge.y0 +ℤ edge.y1)

-- the area of the rectangle between a point and the origin
abbrev rectangle : Point → ℤ
rectangle point = point.x *ℤ point.y

-- an edge sweeps what its ends' rectangles differ by, less its trapezoid
swept_by : (x0 y0 x1 y1 : ℤ) → ((x0 *ℤ y1) -ℤ (y0 *ℤ x1)) ≡ (((x1 *ℤ y1) -ℤ (x0 *ℤ y0)) -ℤ ((x1 -ℤ x0) *ℤ (y0 +ℤ y1)))
swept_by x0 y0 x1 y1 =
    identity (minus (times (number x0) (number y1)) (times (number y0) (number x1)))
    (minus (minus (times (number x1) (number y1)) (times (number x0) (number y0))) (times (minus (number x1) (number x0)) (plus (number y0) (number y1))))
    (omega arith)

-- so closed edges sweep minus their trapezoids
pub total-swept : (edges : List Edge) → AreBalanced edges → total swept edges ≡ (pos 0 -ℤ total trapezoid edges)
total-swept edges closed =
    total-same swept (λ edge. (rectangle (end_of edge) -ℤ rectangle (start_of edge)) -ℤ trapezoid edge) edges
    (All-among (λ edge. swept edge ≡ ((rectangle (end_of edge) -ℤ rectangle (start_of edge)) -ℤ trapezoid edge)) edges (λ edge among. swept_by edge.x0 edge.y0 edge.x1 edge.y1))
    ∙ total-difference (λ edge. rectangle (end_of edge) -ℤ rectangle (start_of edge)) trapezoid edges
    ∙ ap (λ z. z -ℤ total trapezoid edges) (gains-nothing rectangle edges closed)

-- ---- turned rightwards

-- a number once, and less a number
once : (a : ℤ) → (pos 1 *ℤ a) ≡ a
once a = identity (times (n_of 1) (number a)) (number a) (omega arith)

turned_over : (x0 y0 x1 y1 : ℤ) → (negsuc 0 *ℤ ((x0 -ℤ x1) *ℤ (y1 +ℤ y0))) ≡ ((x1 -ℤ x0) *ℤ (y0 +ℤ y1))
turned_over x0 y0 x1 y1 =
    identity (times (number (negsuc 0)) (times (minus (number x0) (number x1)) (plus (number y1) (number y0))))
    (times (minus (number x1) (number x0)) (plus (number y0) (number y1)))
    (omega arith)

-- an edge's trapezoid is that of the edge turned rightwards, by its weight
pub trapezoid-weighed : (edge : Edge) → edge.x0 ≢ edge.x1 → (weight edge *ℤ trapezoid (rightwards edge)) ≡ trapezoid edge
trapezoid-weighed edge sloped =
    by_lt_z edge.x0 edge.x1
    (λ onwards.
    ap₂ (λ w (r : Edge). w *ℤ trapezoid r) (weight-right edge onwards) (rightwards-right edge (lt_false edge.x1 edge.x0 (omega (arith, ints, onwards))))
    ∙ once (trapezoid edge))
    (λ upto. by_lt_z edge.x1 edge.x0
    (λ back.
    ap₂ (λ w (r : Edge). w *ℤ trapezoid r) (weight-left edge back) (rightwards-left edge (lt_true edge.x1 edge.x0 back))
    ∙ turned_over edge.x0 edge.y0 edge.x1 edge.y1)
    (λ from. absurd (sloped (omega (arith, ints, upto, from)))))

-- ---- slices

-- a height as a linear function of x
height_linear : (x0 y0 x1 y1 x : ℤ) → ((y0 *ℤ (x1 -ℤ x)) +ℤ (y1 *ℤ (x -ℤ x0))) ≡ (((y1 -ℤ y0) *ℤ x) +ℤ ((y0 *ℤ x1) -ℤ (y1 *ℤ x0)))
height_linear x0 y0 x1 y1 x =
    identity (plus (times (number y0) (minus (number x1) (number x))) (times (number y1) (minus (number x) (number x0))))
    (plus (times (minus (number y1) (number y0)) (number x)) (minus (times (number y0) (number x1)) (times (number y1) (number x0))))
    (omega arith)

-- p x x + 2 q x, which is the integral of 2 (p x + q)
abbrev integral : ℤ → ℤ → ℤ → ℤ
integral p q x = (p *ℤ (x *ℤ x)) +ℤ ((q *ℤ x) +ℤ (q *ℤ x))

-- over one stretch it gains both heights
integral_step : (p q x : ℤ) → (integral p q (x +ℤ pos 1) -ℤ integral p q x) ≡ (((p *ℤ x) +ℤ q) +ℤ ((p *ℤ (x +ℤ pos 1)) +ℤ q))
integral_step p q x =
    let next = plus (number x) (n_of 1) in
    identity (minus (plus (times (number p) (times next next)) (plus (times (number q) next) (times (number q) next))) (plus (times (number p) (times (number x) (number x))) (plus (times (number q) (number x)) (times (number q) (number x)))))
    (plus (plus (times (number p) (number x)) (number q)) (plus (times (number p) next) (number q)))
    (omega arith)

-- and from the edge's start to its end its trapezoid by its run
integral_whole : (x0 y0 x1 y1 : ℤ) → (integral (y1 -ℤ y0) ((y0 *ℤ x1) -ℤ (y1 *ℤ x0)) x1 -ℤ integral (y1 -ℤ y0) ((y0 *ℤ x1) -ℤ (y1 *ℤ x0)) x0) ≡ ((x1 -ℤ x0) *ℤ ((x1 -ℤ x0) *ℤ (y0 +ℤ y1)))
integral_whole x0 y0 x1 y1 =
    let p = minus (number y1) (number y0) in
    let q = minus (times (number y0) (number x1)) (times (number y1) (number x0)) in
    let width = minus (number x1) (number x0) in
    identity (minus (plus (times p (times (number x1) (number x1))) (plus (times q (number x1)) (times q (number x1)))) (plus (times p (times (number x0) (number x0))) (plus (times q (number x0)) (times q (number x0)))))
    (times width (times width (plus (number y0) (number y1))))
    (omega arith)

-- twice a multiple of a difference, and how far x goes on
differ_by : (u k a b c x y : ℤ) → (a -ℤ b) ≡ c → ((((u *ℤ (k *ℤ a)) +ℤ (u *ℤ (k *ℤ a))) +ℤ y) -ℤ (((u *ℤ (k *ℤ b)) +ℤ (u *ℤ (k *ℤ b))) +ℤ x)) ≡ (((u *ℤ (k *ℤ c)) +ℤ (u *ℤ (k *ℤ c))) +ℤ (y -ℤ x))
differ_by u k a b c x y is =
    let split : (u *ℤ (k *ℤ (a -ℤ b))) ≡ ((u *ℤ (k *ℤ a)) -ℤ (u *ℤ (k *ℤ b))) =
    identity (times (number u) (times (number k) (minus (number a) (number b)))) (minus (times (number u) (times (number k) (number a))) (times (number u) (times (number k) (number b)))) (omega arith) in
    let same : (u *ℤ (k *ℤ (a -ℤ b))) ≡ (u *ℤ (k *ℤ c)) = ap (λ z. u *ℤ (k *ℤ z)) is in
    omega (arith, ints, split, same)

-- factors in another order
regrouped : (u k n t : ℤ) → (u *ℤ (k *ℤ (n *ℤ t))) ≡ ((k *ℤ n) *ℤ (u *ℤ t))
regrouped u k n t = identity (times (number u) (times (number k) (times (number n) (number t)))) (times (times (number k) (number n)) (times (number u) (number t))) (omega arith)

-- Of the stretch from x on twice a multiple of the edge's height in its middle, and 1.
abbrev pub slice : ℤ → ℤ → Edge → ℤ → ℤ
slice u k r x = ((u *ℤ (k *ℤ middle x r)) +ℤ (u *ℤ (k *ℤ middle x r))) +ℤ pos 1

module _ (r : Edge) (onwards : r.x0 <ℤ r.x1) (u k d : ℤ) (shares : (k *ℤ run r) ≡ d) where
  -- what it adds up to
  abbrev upto : ℤ → ℤ
  upto x = ((u *ℤ (k *ℤ integral (rise r) (base r) x)) +ℤ (u *ℤ (k *ℤ integral (rise r) (base r) x))) +ℤ x

  -- one stretch
  one_slice : (x : ℤ) → (upto (x +ℤ pos 1) -ℤ upto x) ≡ slice u k r x
  one_slice x =
      differ_by u k (integral (rise r) (base r) (x +ℤ pos 1)) (integral (rise r) (base r) x) (middle x r) x (x +ℤ pos 1)
      (integral_step (rise r) (base r) x ∙ sym (ap₂ (λ a b. a +ℤ b) (height_linear r.x0 r.y0 r.x1 r.y1 x) (height_linear r.x0 r.y0 r.x1 r.y1 (x +ℤ pos 1))))
      ∙ ap (λ z. ((u *ℤ (k *ℤ middle x r)) +ℤ (u *ℤ (k *ℤ middle x r))) +ℤ z) (step x)
    where
      step : (z : ℤ) → ((z +ℤ pos 1) -ℤ z) ≡ pos 1
      step z = omega (arith, ints)

  -- The slices over the edge's stretches add up to twice a multiple of its trapezoid, and its run.
  pub slices : (first : ℤ) (n : ℕ) → first ≤ℤ r.x0 → r.x1 ≤ℤ (first +ℤ pos n)
      → along first n (λ x. cond (is_over x r) (slice u k r x) (pos 0)) ≡ (((d *ℤ (u *ℤ trapezoid r)) +ℤ (d *ℤ (u *ℤ trapezoid r))) +ℤ run r)
  slices first n from to =
      let same : (u *ℤ (k *ℤ (run r *ℤ trapezoid r))) ≡ (d *ℤ (u *ℤ trapezoid r)) = regrouped u k (run r) (trapezoid r) ∙ ap (λ z. z *ℤ (u *ℤ trapezoid r)) shares in
      along-over r onwards upto (slice u k r) one_slice first n from to
      ∙ differ_by u k (integral (rise r) (base r) r.x1) (integral (rise r) (base r) r.x0) (run r *ℤ trapezoid r) r.x0 r.x1 (integral_whole r.x0 r.y0 r.x1 r.y1)
      ∙ ap (λ z. (z +ℤ z) +ℤ run r) same
