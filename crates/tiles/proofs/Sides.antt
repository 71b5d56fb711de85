-- How often an edge beside a point winds around it.
use Rattle.std.proofs.Common.{Bool, true, false, not, ◌&&◌, ◌≡◌, ℕ, ◌<◌, ℤ, pos, ◌+ℤ◌, ◌-ℤ◌, ◌*ℤ◌, ◌<ℤ◌, ◌≤ℤ◌, refl, ap, arith}
use Rattle.std.specs.Prelude.{int_le, int_lt}
use Rattle.std.proofs.lemmas.Int.{by_lt_z, ints}
use Rattle.plane.specs.declared.edge.Edge.{Edge}
use Rattle.plane.specs.Meet.Edges.{RationalPoint}
use Rattle.plane.specs.SweepLine.Heights.{run}
use Rattle.plane.proofs.MeetLemmas.Boxes.{way_above, way_below}
use Rattle.plane.proofs.MeetLemmas.Identities.{identity, number, plus, scaled, times}
use Rattle.plane.specs.Ends.{reversed}
use Rattle.noding.specs.Windings.{count}
use Rattle.noding.proofs.SnapLemmas.Counted.{counted, covers, height_at, is_low, under}
use Rattle.noding.proofs.SnapLemmas.Heights.{Covering, height_of}
use Rattle.noding.proofs.SnapLemmas.Numbers.{n_of}
use Rattle.noding.proofs.SnapLemmas.Windings.{after, before}

-- ---- tests of numbers

pub le-true : (a b : ℤ) → a ≤ℤ b → int_le a b ≡ true
le-true a b upto = grind (arith, ints)

pub le-false : (a b : ℤ) → b <ℤ a → int_le a b ≡ false
le-false a b less = grind (arith, ints)

lt-not_le : (a b : ℤ) → int_lt a b ≡ not (int_le b a)
lt-not_le a b = by (int_lt a b) (int_le b a) refl refl
  where
    by : (s t : Bool) → int_lt a b ≡ s → int_le b a ≡ t → s ≡ not t
    by true false e f = refl
    by false true e f = refl
    by true true e f = absurd (omega (arith, ints, e, f))
    by false false e f = absurd (omega (arith, ints, e, f))

-- ---- steps

-- 1 where the x isn't to the right of the point, else 0
abbrev pub step : ℤ → RationalPoint → ℤ
step x point = count (int_le (pos point.n *ℤ x) point.x)

-- what covers the point rightwards, less what covers it leftwards, is a difference of steps
steps_between : (q r s t : Bool) → s ≡ not q → t ≡ not r → (count (q && t) -ℤ count (r && s)) ≡ (count q -ℤ count r)
steps_between true true false false first second = refl
steps_between true false false true first second = refl
steps_between false true true false first second = refl
steps_between false false true true first second = refl
steps_between true r true t first second = cc
steps_between false r false t first second = cc
steps_between q true s true first second = cc
steps_between q false s false first second = cc

pub covers-steps : (edge : Edge) (point : RationalPoint) → (count (covers edge point) -ℤ count (covers (reversed edge) point)) ≡ (step edge.x0 point -ℤ step edge.x1 point)
covers-steps edge point =
    steps_between (int_le (pos point.n *ℤ edge.x0) point.x) (int_le (pos point.n *ℤ edge.x1) point.x) (int_lt point.x (pos point.n *ℤ edge.x0)) (int_lt point.x (pos point.n *ℤ edge.x1))
    (lt-not_le point.x (pos point.n *ℤ edge.x0)) (lt-not_le point.x (pos point.n *ℤ edge.x1))

-- ---- edges below and above

covering : (edge : Edge) (point : RationalPoint) → covers edge point ≡ true → Covering edge point
covering edge point is = by (int_le (pos point.n *ℤ edge.x0) point.x) (int_lt point.x (pos point.n *ℤ edge.x1)) refl refl is
  where
    by : (s t : Bool) → int_le (pos point.n *ℤ edge.x0) point.x ≡ s → int_lt point.x (pos point.n *ℤ edge.x1) ≡ t → (s && t) ≡ true → Covering edge point
    by true true e f both = record { from = omega (arith, ints, e); before = omega (arith, ints, f) }
    by false t e f both = cc
    by true false e f both = cc

exchanged : (n k : ℕ) (z : ℤ) → (pos n *ℤ (pos k *ℤ z)) ≡ (pos k *ℤ (pos n *ℤ z))
exchanged n k z = identity (times (n_of n) (times (n_of k) (number z))) (times (n_of k) (times (n_of n) (number z))) (omega arith)

-- multiples of numbers of which one is less, or not more
below_twice : (n k : ℕ) (m y z : ℤ) → y ≤ℤ (pos k *ℤ m) → (pos n *ℤ m) ≤ℤ z → (pos n *ℤ y) ≤ℤ (pos k *ℤ z)
below_twice n k m y z some upto =
    let first = scaled n y (pos k *ℤ m) some in
    let second = scaled k (pos n *ℤ m) z upto in
    let one = exchanged n k m in
    omega (arith, ints, first, second, one)

above_twice : (n k : ℕ) (m y z : ℤ) → 0 < k → (pos k *ℤ m) ≤ℤ y → z <ℤ (pos n *ℤ m) → (pos k *ℤ z) <ℤ (pos n *ℤ y)
above_twice n k m y z some upto less =
    let first = scaled n (pos k *ℤ m) y upto in
    let second = scaled k (z +ℤ pos 1) (pos n *ℤ m) (omega (arith, ints, less)) in
    let one = exchanged n k m in
    let more = identity (times (n_of k) (plus (number z) (n_of 1))) (plus (times (n_of k) (number z)) (n_of k)) (omega arith) in
    omega (arith, ints, first, second, one, more)

module _ (edge : Edge) (point : RationalPoint) (m : ℤ) where
  -- an edge with both ends below the point, or as high, is low there
  low-below : edge.y0 ≤ℤ m → edge.y1 ≤ℤ m → (pos point.n *ℤ m) ≤ℤ point.y → Covering edge point → is_low edge point ≡ true
  low-below first second below c =
      let h = height_of edge point c in
      let (a, at) = h.of in
      let upto : h.other.y ≤ℤ (pos h.other.n *ℤ m) = rw at.y (way_below h.other.n a m edge.y0 edge.y1 at.share first second) in
      let less = below_twice point.n h.other.n m h.other.y point.y upto below in
      by_lt_z (point.y *ℤ run edge) (height_at edge point)
      (λ high. let over = h.high high in absurd (omega (arith, ints, over, less)))
      (λ low. le-true (height_at edge point) (point.y *ℤ run edge) low)

  -- and one with both above it isn't
  low-above : m ≤ℤ edge.y0 → m ≤ℤ edge.y1 → point.y <ℤ (pos point.n *ℤ m) → Covering edge point → is_low edge point ≡ false
  low-above first second above c =
      let h = height_of edge point c in
      let (a, at) = h.of in
      let from : (pos h.other.n *ℤ m) ≤ℤ h.other.y = rw at.y (way_above h.other.n a m edge.y0 edge.y1 at.share first second) in
      let less = above_twice point.n h.other.n m h.other.y point.y h.other.positive from above in
      by_lt_z (point.y *ℤ run edge) (height_at edge point)
      (λ high. le-false (height_at edge point) (point.y *ℤ run edge) high)
      (λ low. let under_it = h.low low in absurd (omega (arith, ints, under_it, less)))

  counted-below : edge.y0 ≤ℤ m → edge.y1 ≤ℤ m → (pos point.n *ℤ m) ≤ℤ point.y → counted edge point ≡ count (covers edge point)
  counted-below first second below = by (covers edge point) refl
    where
      by : (t : Bool) → covers edge point ≡ t → count (t && is_low edge point) ≡ count t
      by false is = refl
      by true is = ap count (low-below first second below (covering edge point is))

  counted-above : m ≤ℤ edge.y0 → m ≤ℤ edge.y1 → point.y <ℤ (pos point.n *ℤ m) → counted edge point ≡ pos 0
  counted-above first second above = by (covers edge point) refl
    where
      by : (t : Bool) → covers edge point ≡ t → count (t && is_low edge point) ≡ pos 0
      by false is = refl
      by true is = ap count (low-above first second above (covering edge point is))

-- ---- how often

-- an edge below the point, or upto its height, by its steps
pub under-below : (edge : Edge) (point : RationalPoint) (m : ℤ) → edge.y0 ≤ℤ m → edge.y1 ≤ℤ m → (pos point.n *ℤ m) ≤ℤ point.y → under edge point ≡ (step edge.x0 point -ℤ step edge.x1 point)
under-below edge point m first second below =
    let one = counted-below edge point m first second below in
    let other = counted-below (reversed edge) point m second first below in
    let steps = covers-steps edge point in
    omega (arith, ints, one, other, steps)

pub under-above : (edge : Edge) (point : RationalPoint) (m : ℤ) → m ≤ℤ edge.y0 → m ≤ℤ edge.y1 → point.y <ℤ (pos point.n *ℤ m) → under edge point ≡ pos 0
under-above edge point m first second above =
    let one = counted-above edge point m first second above in
    let other = counted-above (reversed edge) point m second first above in
    omega (arith, ints, one, other)

pub under-right : (edge : Edge) (point : RationalPoint) → point.x <ℤ (pos point.n *ℤ edge.x0) → point.x <ℤ (pos point.n *ℤ edge.x1) → under edge point ≡ pos 0
under-right edge point first second =
    let one = before edge point first in
    let other = before (reversed edge) point second in
    omega (arith, ints, one, other)

pub under-left : (edge : Edge) (point : RationalPoint) → (pos point.n *ℤ edge.x0) ≤ℤ point.x → (pos point.n *ℤ edge.x1) ≤ℤ point.x → under edge point ≡ pos 0
under-left edge point first second =
    let one = after edge point second in
    let other = after (reversed edge) point first in
    omega (arith, ints, one, other)
