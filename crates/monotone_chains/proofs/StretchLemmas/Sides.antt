-- On which side of a point an edge is, where some line has the point on its one side and the edge's ends beyond it.
use Rattle.std.proofs.Common.{◌≡◌, ◌⊎◌, inl, inr, Bool, true, false, ℕ, ◌<◌, ℤ, pos, ◌+ℤ◌, ◌-ℤ◌, ◌*ℤ◌, ◌<ℤ◌, ◌≤ℤ◌, arith, refl, sym}
use Rattle.std.specs.Prelude.{int_le, int_lt}
use Rattle.std.proofs.lemmas.Int.{by_lt_z, ints}
use Rattle.plane.specs.declared.edge.Edge.{Edge}
use Rattle.plane.specs.Meet.Edges.{RationalPoint}
use Rattle.plane.specs.SweepLine.Heights.{run}
use Rattle.plane.proofs.MeetLemmas.Identities.{Term, identity, minus, number, plus, times, unscaled}
use Rattle.plane.proofs.SweepLineLemmas.Gaps.{product_above}
use Rattle.overlay.proofs.FillLemmas.Under.{le_true}
use Rattle.noding.proofs.SnapLemmas.Counted.{height_at, is_low}
use Rattle.noding.proofs.SnapLemmas.Heights.{Covering, onwards}
use Rattle.noding.proofs.SnapLemmas.Numbers.{n_of, natural, product_positive}

-- how far (x, y) lies in the direction (u, v)
abbrev pub along : ℤ → ℤ → ℤ → ℤ → ℤ
along u v x y = (u *ℤ x) +ℤ (v *ℤ y)

-- ---- tests

pub le_false : (a b : ℤ) → b <ℤ a → int_le a b ≡ false
le_false a b less = by (int_le a b) refl
  where
    by : (t : Bool) → int_le a b ≡ t → t ≡ false
    by false e = refl
    by true e = absurd (omega (arith, ints, e, less))

-- whether it is below, of a test that is true exactly where v is negative
test_by : (v a b : ℤ) → (v <ℤ pos 0 → a ≤ℤ b) → (pos 0 ≤ℤ v → b <ℤ a) → int_le a b ≡ int_lt v (pos 0)
test_by v a b low high = by (int_lt v (pos 0)) refl
  where
    by : (t : Bool) → int_lt v (pos 0) ≡ t → int_le a b ≡ t
    by true e = le_true a b (low (omega (arith, ints, e)))
    by false e = le_false a b (high (omega (arith, ints, e)))

-- ---- signs

-- a positive product has factors of one sign
positive_too : (v d : ℤ) → pos 0 <ℤ (v *ℤ d) → pos 0 ≤ℤ v → pos 0 <ℤ d
positive_too v d some from = by_lt_z (pos 0) d (λ above. above) (λ upto.
    let none = product_above v (pos 0 -ℤ d) from (omega (arith, ints, upto)) in
    let turned = identity (times (number v) (minus (n_of 0) (number d))) (minus (n_of 0) (times (number v) (number d))) (omega arith) in
    absurd (omega (arith, ints, some, none, turned)))

negative_too : (v d : ℤ) → pos 0 <ℤ (v *ℤ d) → v <ℤ pos 0 → d <ℤ pos 0
negative_too v d some below = by_lt_z d (pos 0) (λ low. low) (λ from.
    let none = product_above (pos 0 -ℤ v) d (omega (arith, ints, below)) from in
    let turned = identity (times (minus (n_of 0) (number v)) (number d)) (minus (n_of 0) (times (number v) (number d))) (omega arith) in
    absurd (omega (arith, ints, some, none, turned)))

-- ---- what is at an edge's point is a mean of what is at its ends

mean : (n x x0 x1 y0 y1 u v c : ℤ) → ((((n *ℤ x1) -ℤ x) *ℤ (along u v x0 y0 -ℤ c)) +ℤ ((x -ℤ (n *ℤ x0)) *ℤ (along u v x1 y1 -ℤ c)))
    ≡ ((((u *ℤ x) *ℤ (x1 -ℤ x0)) +ℤ (v *ℤ ((y0 *ℤ ((n *ℤ x1) -ℤ x)) +ℤ (y1 *ℤ (x -ℤ (n *ℤ x0)))))) -ℤ ((n *ℤ c) *ℤ (x1 -ℤ x0)))
mean n x x0 x1 y0 y1 u v c =
    let before = minus (times (number n) (number x1)) (number x) in
    let behind = minus (number x) (times (number n) (number x0)) in
    let from = minus (plus (times (number u) (number x0)) (times (number v) (number y0))) (number c) in
    let to = minus (plus (times (number u) (number x1)) (times (number v) (number y1))) (number c) in
    let width = minus (number x1) (number x0) in
    identity (plus (times before from) (times behind to))
    (minus (plus (times (times (number u) (number x)) width) (times (number v) (plus (times (number y0) before) (times (number y1) behind)))) (times (times (number n) (number c)) width))
    (omega arith)

-- the same where it is to be at most c
turn : (a b f t c : ℤ) → ((a *ℤ (c -ℤ f)) +ℤ (b *ℤ (c -ℤ t))) ≡ (pos 0 -ℤ ((a *ℤ (f -ℤ c)) +ℤ (b *ℤ (t -ℤ c))))
turn a b f t c =
    let way : (s z : ℤ) → Term = λ s z. minus (number s) (number z) in
    identity (plus (times (number a) (way c f)) (times (number b) (way c t))) (minus (n_of 0) (plus (times (number a) (way f c)) (times (number b) (way t c)))) (omega arith)

-- and the point's own part of it
split : (u v x y w h : ℤ) → (along u v x y *ℤ w) ≡ ((((u *ℤ x) *ℤ w) +ℤ (v *ℤ h)) -ℤ (v *ℤ (h -ℤ (y *ℤ w))))
split u v x y w h =
    let there = times (times (number u) (number x)) (number w) in
    identity (times (plus (times (number u) (number x)) (times (number v) (number y))) (number w))
    (minus (plus there (times (number v) (number h))) (times (number v) (minus (number h) (times (number y) (number w)))))
    (omega arith)

module _ (edge : Edge) (point : RationalPoint) (c : Covering edge point) (u v k : ℤ) where
  -- an edge with both ends beyond a line that the point isn't beyond is on the side that the line tells
  pub beyond-low : k <ℤ along u v edge.x0 edge.y0 → k <ℤ along u v edge.x1 edge.y1 → along u v point.x point.y ≤ℤ (pos point.n *ℤ k) → is_low edge point ≡ int_lt v (pos 0)
  beyond-low from to upto =
      let some = onwards edge point c in
      let after = c.from in
      let before = c.before in
      let one = product_positive ((pos point.n *ℤ edge.x1) -ℤ point.x) (along u v edge.x0 edge.y0 -ℤ k) (omega (arith, ints, before)) (omega (arith, ints, from)) in
      let other = product_above (point.x -ℤ (pos point.n *ℤ edge.x0)) (along u v edge.x1 edge.y1 -ℤ k) (omega (arith, ints, after)) (omega (arith, ints, to)) in
      let total = mean (pos point.n) point.x edge.x0 edge.x1 edge.y0 edge.y1 u v k in
      let here = product_above ((pos point.n *ℤ k) -ℤ along u v point.x point.y) (run edge) (omega (arith, ints, upto)) (omega (arith, ints, some)) in
      let apart = identity (times (minus (times (n_of point.n) (number k)) (plus (times (number u) (number point.x)) (times (number v) (number point.y)))) (minus (number edge.x1) (number edge.x0)))
      (minus (times (times (n_of point.n) (number k)) (minus (number edge.x1) (number edge.x0))) (times (plus (times (number u) (number point.x)) (times (number v) (number point.y))) (minus (number edge.x1) (number edge.x0)))) (omega arith) in
      let own = split u v point.x point.y (run edge) (height_at edge point) in
      let sign : pos 0 <ℤ (v *ℤ (height_at edge point -ℤ (point.y *ℤ run edge))) = omega (arith, ints, one, other, total, here, apart, own) in
      test_by v (height_at edge point) (point.y *ℤ run edge)
      (λ below. let less = negative_too v (height_at edge point -ℤ (point.y *ℤ run edge)) sign below in omega (arith, ints, less))
      (λ above. let more = positive_too v (height_at edge point -ℤ (point.y *ℤ run edge)) sign above in omega (arith, ints, more))

  -- an edge of which no end is beyond a line isn't beyond it at the point's x
  pub upto-at : along u v edge.x0 edge.y0 ≤ℤ k → along u v edge.x1 edge.y1 ≤ℤ k → (((u *ℤ point.x) *ℤ run edge) +ℤ (v *ℤ height_at edge point)) ≤ℤ ((pos point.n *ℤ k) *ℤ run edge)
  upto-at from to =
      let after = c.from in
      let before = c.before in
      let one = product_above ((pos point.n *ℤ edge.x1) -ℤ point.x) (k -ℤ along u v edge.x0 edge.y0) (omega (arith, ints, before)) (omega (arith, ints, from)) in
      let other = product_above (point.x -ℤ (pos point.n *ℤ edge.x0)) (k -ℤ along u v edge.x1 edge.y1) (omega (arith, ints, after)) (omega (arith, ints, to)) in
      let turned = turn ((pos point.n *ℤ edge.x1) -ℤ point.x) (point.x -ℤ (pos point.n *ℤ edge.x0)) (along u v edge.x0 edge.y0) (along u v edge.x1 edge.y1) k in
      let total = mean (pos point.n) point.x edge.x0 edge.x1 edge.y0 edge.y1 u v k in
      omega (arith, ints, one, other, turned, total)

  -- nor is the point, where it is on the side of the edge to which the line lets go
  pub upto-point : along u v edge.x0 edge.y0 ≤ℤ k → along u v edge.x1 edge.y1 ≤ℤ k
      → (pos 0 ≤ℤ v) × ((point.y *ℤ run edge) ≤ℤ height_at edge point) ⊎ (v ≤ℤ pos 0) × (height_at edge point ≤ℤ (point.y *ℤ run edge))
      → along u v point.x point.y ≤ℤ (pos point.n *ℤ k)
  upto-point from to side =
      let some = onwards edge point c in
      let there = upto-at from to in
      let own = split u v point.x point.y (run edge) (height_at edge point) in
      let sign : pos 0 ≤ℤ (v *ℤ (height_at edge point -ℤ (point.y *ℤ run edge))) = signed side in
      let width = natural (run edge) (omega (arith, ints, some)) in
      let is = width.is in
      let upto : (along u v point.x point.y *ℤ run edge) ≤ℤ ((pos point.n *ℤ k) *ℤ run edge) = omega (arith, ints, there, own, sign) in
      less_by width.k (run edge) (along u v point.x point.y) (pos point.n *ℤ k) (omega (arith, ints, some, is)) is upto
    where
      signed : (pos 0 ≤ℤ v) × ((point.y *ℤ run edge) ≤ℤ height_at edge point) ⊎ (v ≤ℤ pos 0) × (height_at edge point ≤ℤ (point.y *ℤ run edge)) → pos 0 ≤ℤ (v *ℤ (height_at edge point -ℤ (point.y *ℤ run edge)))
      signed (inl (above, high)) = product_above v (height_at edge point -ℤ (point.y *ℤ run edge)) above (omega (arith, ints, high))
      signed (inr (below, low)) =
          let product = product_above (pos 0 -ℤ v) ((point.y *ℤ run edge) -ℤ height_at edge point) (omega (arith, ints, below)) (omega (arith, ints, low)) in
          let h = number (height_at edge point) in
          let y = number (point.y *ℤ run edge) in
          let same = identity (times (minus (n_of 0) (number v)) (minus y h)) (times (number v) (minus h y)) (omega arith) in
          omega (arith, ints, product, same)

      less_by : (r : ℕ) (w a b : ℤ) → 0 < r → w ≡ pos r → (a *ℤ w) ≤ℤ (b *ℤ w) → a ≤ℤ b
      less_by r w a b wide is upto =
          let there : (a *ℤ pos r) ≤ℤ (b *ℤ pos r) = rw (sym is) upto in
          let one = identity (times (number a) (n_of r)) (times (n_of r) (number a)) (omega arith) in
          let other = identity (times (number b) (n_of r)) (times (n_of r) (number b)) (omega arith) in
          unscaled r a b wide (omega (arith, ints, there, one, other))

-- so a point between two edges isn't beyond a line that no end of either is beyond
pub between-upto : (low high : Edge) (point : RationalPoint) → Covering low point → Covering high point → height_at low point ≤ℤ (point.y *ℤ run low) → (point.y *ℤ run high) ≤ℤ height_at high point → (u v k : ℤ)
    → along u v low.x0 low.y0 ≤ℤ k → along u v low.x1 low.y1 ≤ℤ k → along u v high.x0 high.y0 ≤ℤ k → along u v high.x1 high.y1 ≤ℤ k → along u v point.x point.y ≤ℤ (pos point.n *ℤ k)
between-upto low high point c d under over u v k low_from low_to high_from high_to =
    by_lt_z v (pos 0)
    (λ down. upto-point low point c u v k low_from low_to (inr (omega (arith, ints, down), under)))
    (λ up. upto-point high point d u v k high_from high_to (inl (up, over)))
