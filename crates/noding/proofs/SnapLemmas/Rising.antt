-- Along an edge that rises over a line what it passes rises, too, but for what is rounded: so once something lies far above the line,
-- nothing behind it is passed by the line's own edge.
use Rattle.std.proofs.Common.{◌≡◌, ℕ, pos, ◌+◌, ◌*◌, ◌<◌, ◌≤◌, ℤ, ◌+ℤ◌, ◌-ℤ◌, ◌*ℤ◌, ◌≤ℤ◌, Bool, true, false, ap₂, refl, ◌∙◌, arith}
use Rattle.std.specs.Int.RustNames.{unsigned_abs}
use Rattle.std.specs.Int.Signed.{lt_z}
use Rattle.std.proofs.Math.Nat.{mul-le-mul_left}
use Rattle.std.proofs.lemmas.Int.{by_lt_z, ints}
use Rattle.plane.specs.declared.edge.Edge.{Edge}
use Rattle.plane.specs.declared.point.Point.{Point}
use Rattle.plane.specs.Lines.{height_over, margin_of}
use Rattle.plane.specs.Meet.Edges.{IsAtShare, RationalPoint}
use Rattle.plane.proofs.MeetLemmas.Identities.{at_most, at_most_of, identity, minus, number, plus, times, unscaled}
use Rattle.noding.specs.Beside.{LiesFarAbove, LiesFarBelow, RisesOver}
use Rattle.noding.specs.Chains.{Passes, Upto, UptoOn}
use Rattle.noding.specs.Rounding.{RoundsOn, RoundsTo}
use Rattle.noding.proofs.SnapLemmas.Along.{Upto-by_shares, ahead}
use Rattle.noding.proofs.SnapLemmas.Beside.{passed-from, passed-upto}
use Rattle.noding.proofs.SnapLemmas.Hulls.{half_upto, over, product_upto, reach}
use Rattle.noding.proofs.SnapLemmas.Numbers.{abs-negative, n_of}
use Rattle.noding.proofs.SnapLemmas.Rounding.{below_out, from_out}

-- ---- what a point rounds to

module _ (n : ℕ) (p c : ℤ) (rounds : RoundsOn n p c) where
  over_whole : (pos 2 *ℤ ((pos n *ℤ c) -ℤ (pos 1 *ℤ p))) ≤ℤ pos (1 * n)
  over_whole = at_most (times (n_of 2) (minus (times (n_of n) (number c)) (times (n_of 1) (number p)))) (n_of (1 * n)) (omega (arith, from_out n p c rounds))

  under_whole : (pos 0 -ℤ (pos 2 *ℤ ((pos n *ℤ c) -ℤ (pos 1 *ℤ p)))) ≤ℤ pos (1 * n)
  under_whole = at_most (minus (n_of 0) (times (n_of 2) (minus (times (n_of n) (number c)) (times (n_of 1) (number p))))) (n_of (1 * n)) (omega (arith, below_out n p c rounds))

  over_point : (pos 2 *ℤ ((pos 1 *ℤ p) -ℤ (pos n *ℤ c))) ≤ℤ pos (n * 1)
  over_point = at_most (times (n_of 2) (minus (times (n_of 1) (number p)) (times (n_of n) (number c)))) (n_of (n * 1)) (omega (arith, below_out n p c rounds))

  under_point : (pos 0 -ℤ (pos 2 *ℤ ((pos 1 *ℤ p) -ℤ (pos n *ℤ c)))) ≤ℤ pos (n * 1)
  under_point = at_most (minus (n_of 0) (times (n_of 2) (minus (times (n_of 1) (number p)) (times (n_of n) (number c))))) (n_of (n * 1)) (omega (arith, from_out n p c rounds))

-- how far a point and what it rounds to lie in a direction
module _ (u v : ℤ) (point : RationalPoint) (x y : ℤ) (rounds : RoundsTo point x y) where
  abbrev size : ℕ
  size = unsigned_abs u + unsigned_abs v

  whole_upto : (most : ℤ) → (pos 2 *ℤ reach u v point) ≤ℤ (pos point.n *ℤ most) → (pos 2 *ℤ ((u *ℤ x) +ℤ (v *ℤ y))) ≤ℤ (pos 1 *ℤ (most +ℤ pos size))
  whole_upto most upto =
      half_upto 1 point.n (unsigned_abs u) (unsigned_abs v) u v x y point.x point.y most point.positive
      (product_upto u (pos 2 *ℤ ((pos point.n *ℤ x) -ℤ (pos 1 *ℤ point.x))) (1 * point.n) (over_whole point.n point.x x rounds.along_x) (under_whole point.n point.x x rounds.along_x))
      (product_upto v (pos 2 *ℤ ((pos point.n *ℤ y) -ℤ (pos 1 *ℤ point.y))) (1 * point.n) (over_whole point.n point.y y rounds.along_y) (under_whole point.n point.y y rounds.along_y)) upto

  point_upto : (most : ℤ) → (pos 2 *ℤ ((u *ℤ x) +ℤ (v *ℤ y))) ≤ℤ (pos 1 *ℤ most) → (pos 2 *ℤ reach u v point) ≤ℤ (pos point.n *ℤ (most +ℤ pos size))
  point_upto most upto =
      half_upto point.n 1 (unsigned_abs u) (unsigned_abs v) u v point.x point.y x y most (omega arith)
      (product_upto u (pos 2 *ℤ ((pos 1 *ℤ point.x) -ℤ (pos point.n *ℤ x))) (point.n * 1) (over_point point.n point.x x rounds.along_x) (under_point point.n point.x x rounds.along_x))
      (product_upto v (pos 2 *ℤ ((pos 1 *ℤ point.y) -ℤ (pos point.n *ℤ y))) (point.n * 1) (over_point point.n point.y y rounds.along_y) (under_point point.n point.y y rounds.along_y)) upto

-- ---- along an edge

-- how far a point at a share lies
reach-share : (u v : ℤ) (edge : Edge) (point : RationalPoint) (a : ℕ) → IsAtShare edge point a
    → reach u v point ≡ ((pos point.n *ℤ ((u *ℤ edge.x0) +ℤ (v *ℤ edge.y0))) +ℤ (pos a *ℤ (((u *ℤ edge.x1) +ℤ (v *ℤ edge.y1)) -ℤ ((u *ℤ edge.x0) +ℤ (v *ℤ edge.y0)))))
reach-share u v edge point a at =
    ap₂ (λ (p q : ℤ). (u *ℤ p) +ℤ (v *ℤ q)) at.x at.y
    ∙ identity
    (plus (times (number u) (plus (times (n_of point.n) (number edge.x0)) (times (n_of a) (minus (number edge.x1) (number edge.x0)))))
    (times (number v) (plus (times (n_of point.n) (number edge.y0)) (times (n_of a) (minus (number edge.y1) (number edge.y0))))))
    (plus (times (n_of point.n) (plus (times (number u) (number edge.x0)) (times (number v) (number edge.y0))))
    (times (n_of a) (minus (plus (times (number u) (number edge.x1)) (times (number v) (number edge.y1))) (plus (times (number u) (number edge.x0)) (times (number v) (number edge.y0))))))
    (omega arith)

-- what isn't behind on one axis, either way, is the same
upto-same : (from to c d : ℤ) → UptoOn from to c d → UptoOn from to d c → c ≡ d
upto-same from to c d first back = go (lt_z to from) refl
  where
    go : (down : Bool) → lt_z to from ≡ down → c ≡ d
    go true is = let one = first.falling (omega (arith, ints, is)) in let other = back.falling (omega (arith, ints, is)) in omega (arith, ints, one, other)
    go false is = let one = first.rising (omega (arith, ints, is)) in let other = back.rising (omega (arith, ints, is)) in omega (arith, ints, one, other)

module _ (u v : ℤ) (edge : Edge) (rises : ((u *ℤ edge.x0) +ℤ (v *ℤ edge.y0)) ≤ℤ ((u *ℤ edge.x1) +ℤ (v *ℤ edge.y1))) where
  abbrev far : ℤ → ℤ → ℤ
  far x y = (u *ℤ x) +ℤ (v *ℤ y)

  by_order : (one other : RationalPoint) (a b : ℕ) (x y other_x other_y : ℤ) → IsAtShare edge one a → IsAtShare edge other b → RoundsTo one x y → RoundsTo other other_x other_y → a * other.n ≤ b * one.n
      → (pos 2 *ℤ far x y) ≤ℤ ((pos 2 *ℤ far other_x other_y) +ℤ pos (2 * (unsigned_abs u + unsigned_abs v)))
  by_order one other a b x y other_x other_y first second rounds other_rounds order =
      let most = pos 2 *ℤ far other_x other_y in
      let w = unsigned_abs u + unsigned_abs v in
      let start : (pos 2 *ℤ far other_x other_y) ≤ℤ (pos 1 *ℤ most) = let same = identity (times (n_of 1) (number most)) (number most) (omega arith) in omega (arith, ints, same) in
      let there = point_upto u v other other_x other_y other_rounds most start in
      let along = ahead one.n other.n a b (reach u v one) (reach u v other) (far edge.x0 edge.y0) (far edge.x1 edge.y1) order rises (reach-share u v edge one a first) (reach-share u v edge other b second) in
      let here : (pos 2 *ℤ reach u v one) ≤ℤ (pos one.n *ℤ (most +ℤ pos w)) = up one.n other.n (reach u v one) (reach u v other) (most +ℤ pos w) other.positive along there in
      let back = whole_upto u v one x y rounds (most +ℤ pos w) here in
      let same = identity (times (n_of 1) (plus (plus (number most) (n_of w)) (n_of w))) (plus (number most) (n_of (2 * w))) (omega arith) in
      omega (arith, ints, back, same)
    where
      up : (n m : ℕ) (p q most : ℤ) → 0 < m → (pos m *ℤ p) ≤ℤ (pos n *ℤ q) → (pos 2 *ℤ q) ≤ℤ (pos m *ℤ most) → (pos 2 *ℤ p) ≤ℤ (pos n *ℤ most)
      up n m p q most some along upto =
          let one = at_most_of (times (n_of m) (number p)) (times (n_of n) (number q)) along in
          let other = mul-le-mul_left n (at_most_of (times (n_of 2) (number q)) (times (n_of m) (number most)) upto) in
          unscaled m (pos 2 *ℤ p) (pos n *ℤ most) some
          (at_most (times (n_of m) (times (n_of 2) (number p))) (times (n_of m) (times (n_of n) (number most))) (omega (arith, one, other)))

  -- what it passes first lies no further, but for what is rounded
  rises-passed : (x y other_x other_y : ℤ) → Passes edge x y → Passes edge other_x other_y → Upto edge x y other_x other_y
      → (pos 2 *ℤ far x y) ≤ℤ ((pos 2 *ℤ far other_x other_y) +ℤ pos (2 * (unsigned_abs u + unsigned_abs v)))
  rises-passed x y other_x other_y (one, (a, first), rounds) (other, (b, second), other_rounds) upto =
      by_lt_z (pos (b * one.n)) (pos (a * other.n))
      (λ behind.
      let back = Upto-by_shares edge other_x other_y x y other one b a second first other_rounds rounds (omega (arith, ints, behind)) in
      let same_x = upto-same edge.x0 edge.x1 x other_x upto.along_x back.along_x in
      let same_y = upto-same edge.y0 edge.y1 y other_y upto.along_y back.along_y in
      let same = ap₂ far same_x same_y in omega (arith, ints, same))
      (λ order. by_order one other a b x y other_x other_y first second rounds other_rounds (omega (arith, ints, order)))

-- ---- over a line

module _ (line edge : Edge) (rises : RisesOver line edge) (x y other_x other_y : ℤ) (passes : Passes edge x y) (other_passes : Passes edge other_x other_y) (upto : Upto edge x y other_x other_y) where
  abbrev first : Point
  first = record { x = x; y = y }

  abbrev last : Point
  last = record { x = other_x; y = other_y }

  abbrev across : ℤ
  across = pos 0 -ℤ (line.y1 -ℤ line.y0)

  abbrev run : ℤ
  run = line.x1 -ℤ line.x0

  heights : (pos 2 *ℤ height_over line first) ≤ℤ ((pos 2 *ℤ height_over line last) +ℤ (pos 2 *ℤ margin_of line))
  heights =
      let start_is = over line.x0 line.y0 line.x1 line.y1 edge.x0 edge.y0 in
      let end_is = over line.x0 line.y0 line.x1 line.y1 edge.x1 edge.y1 in
      let first_is = over line.x0 line.y0 line.x1 line.y1 x y in
      let last_is = over line.x0 line.y0 line.x1 line.y1 other_x other_y in
      let size_is = abs-negative (line.y1 -ℤ line.y0) in
      let found = rises-passed across run edge (let climb = rises in omega (arith, ints, climb, start_is, end_is)) x y other_x other_y passes other_passes upto in
      omega (arith, ints, found, first_is, last_is, size_is)

  -- far below the line with all that stands before it
  pub not-before : LiesFarBelow line last → ¬ (Passes line x y)
  not-before below line_passes = let rise = heights in let least = passed-from line x y line_passes in omega (arith, ints, below, rise, least)

  -- or far above it with all that stands behind
  pub not-behind : LiesFarAbove line first → ¬ (Passes line other_x other_y)
  not-behind above line_passes = let rise = heights in let most = passed-upto line other_x other_y line_passes in omega (arith, ints, above, rise, most)

-- what lies far from a line isn't passed itself
pub not-below : (line : Edge) (x y : ℤ) → LiesFarBelow line (record { x = x; y = y }) → ¬ (Passes line x y)
not-below line x y below passes = let least = passed-from line x y passes in omega (arith, ints, below, least)

pub not-above : (line : Edge) (x y : ℤ) → LiesFarAbove line (record { x = x; y = y }) → ¬ (Passes line x y)
not-above line x y above passes = let most = passed-upto line x y passes in omega (arith, ints, above, most)
