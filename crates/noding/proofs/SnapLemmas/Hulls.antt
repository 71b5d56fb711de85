-- The hull of points: what no line keeps from all of them.
use Rattle.std.proofs.Common.{◌≡◌, ℕ, suc, pos, negsuc, ◌+◌, ◌-◌, ◌*◌, ◌<◌, ℤ, ◌+ℤ◌, ◌-ℤ◌, ◌*ℤ◌, ◌≤ℤ◌, List, sym, subst, arith}
use Rattle.std.specs.Int.RustNames.{unsigned_abs}
use Rattle.std.specs.List.{Contains}
use Rattle.std.proofs.lemmas.Int.{ints}
use Rattle.std.proofs.Math.Nat.{mul-le-mul_left}
use Rattle.plane.specs.declared.edge.Edge.{Edge}
use Rattle.plane.specs.declared.point.Point.{Point}
use Rattle.plane.specs.Meet.Edges.{IsOf, RationalPoint}
use Rattle.plane.proofs.MeetLemmas.Identities.{Term, at_most, at_most_of, identity, minus, number, plus, scaled, times, unscaled}
use Rattle.noding.specs.Near.{IsNear, WithinHalf}
use Rattle.plane.specs.Ends.{end_of, start_of}
use Rattle.noding.specs.Windings.{further}
use Rattle.noding.proofs.SnapLemmas.Numbers.{n_of}
use Rattle.noding.proofs.SnapLemmas.Rounding.{whole}

-- how far a rational point lies in the direction (u, v), over its denominator
abbrev pub reach : ℤ → ℤ → RationalPoint → ℤ
reach u v point = (u *ℤ point.x) +ℤ (v *ℤ point.y)

-- the point is in each half-plane that has all of the points
abbrev pub IsInHull : List Point → RationalPoint → Type 0
IsInHull points point = (u v k : ℤ) → ((p : Point) → Contains points p → further u v p ≤ℤ k) → reach u v point ≤ℤ (pos point.n *ℤ k)

-- it is within so many halves of that on both axes
abbrev pub IsWithinHull : ℕ → List Point → RationalPoint → Type 0
IsWithinHull halves points point =
    (u v k : ℤ) → ((p : Point) → Contains points p → further u v p ≤ℤ k) → (pos 2 *ℤ reach u v point) ≤ℤ (pos point.n *ℤ ((pos 2 *ℤ k) +ℤ pos (halves * (unsigned_abs u + unsigned_abs v))))

abbrev pub IsNearHull : List Point → RationalPoint → Type 0
IsNearHull points point = IsWithinHull 1 points point

-- ---- numbers

-- a product is at most that of the absolute values
pub product_upto : (u d : ℤ) (b : ℕ) → d ≤ℤ pos b → (pos 0 -ℤ d) ≤ℤ pos b → (u *ℤ d) ≤ℤ pos (unsigned_abs u * b)
product_upto (pos a) d b upto back = let most = scaled a d (pos b) upto in omega (arith, ints, most)
product_upto (negsuc a) d b upto back =
    let most = scaled (suc a) (pos 0 -ℤ d) (pos b) back in
    let same = identity (times (number (negsuc a)) (number d)) (times (n_of (suc a)) (minus (n_of 0) (number d))) (omega arith) in
    omega (arith, ints, most, same)

-- twice how far (x, y) lies in the direction (u, v)
abbrev twice : Term → Term → Term → Term → Term
twice u v x y = times (n_of 2) (plus (times u x) (times v y))

abbrev share : ℕ → ℕ → ℤ → ℤ → Term
share b a from to = plus (times (n_of (b + a)) (number from)) (times (n_of a) (minus (number to) (number from)))

mean_upto : (b a : ℕ) (u v x0 y0 x1 y1 most : ℤ) → (pos 2 *ℤ ((u *ℤ x0) +ℤ (v *ℤ y0))) ≤ℤ (pos 1 *ℤ most) → (pos 2 *ℤ ((u *ℤ x1) +ℤ (v *ℤ y1))) ≤ℤ (pos 1 *ℤ most)
    → (pos 2 *ℤ ((u *ℤ ((pos (b + a) *ℤ x0) +ℤ (pos a *ℤ (x1 -ℤ x0)))) +ℤ (v *ℤ ((pos (b + a) *ℤ y0) +ℤ (pos a *ℤ (y1 -ℤ y0)))))) ≤ℤ (pos (b + a) *ℤ most)
mean_upto b a u v x0 y0 x1 y1 most first second =
    let one = mul-le-mul_left b (at_most_of (twice (number u) (number v) (number x0) (number y0)) (times (n_of 1) (number most)) first) in
    let other = mul-le-mul_left a (at_most_of (twice (number u) (number v) (number x1) (number y1)) (times (n_of 1) (number most)) second) in
    at_most (twice (number u) (number v) (share b a x0 x1) (share b a y0 y1)) (times (n_of (b + a)) (number most)) (omega (arith, one, other))

-- twice how far two numbers are apart, over both denominators
abbrev between : ℕ → ℕ → ℤ → ℤ → Term
between n m p q = times (n_of 2) (minus (times (n_of m) (number p)) (times (n_of n) (number q)))

pub half_upto : (n m c d : ℕ) (u v x y other_x other_y most : ℤ) → 0 < m → (u *ℤ (pos 2 *ℤ ((pos m *ℤ x) -ℤ (pos n *ℤ other_x)))) ≤ℤ pos (c * (n * m)) → (v *ℤ (pos 2 *ℤ ((pos m *ℤ y) -ℤ (pos n *ℤ other_y)))) ≤ℤ pos (d * (n * m))
    → (pos 2 *ℤ ((u *ℤ other_x) +ℤ (v *ℤ other_y))) ≤ℤ (pos m *ℤ most) → (pos 2 *ℤ ((u *ℤ x) +ℤ (v *ℤ y))) ≤ℤ (pos n *ℤ (most +ℤ pos (c + d)))
half_upto n m c d u v x y other_x other_y most some near_x near_y upto =
    let along_x = at_most_of (times (number u) (between n m x other_x)) (n_of (c * (n * m))) near_x in
    let along_y = at_most_of (times (number v) (between n m y other_y)) (n_of (d * (n * m))) near_y in
    let there = mul-le-mul_left n (at_most_of (twice (number u) (number v) (number other_x) (number other_y)) (times (n_of m) (number most)) upto) in
    unscaled m (pos 2 *ℤ ((u *ℤ x) +ℤ (v *ℤ y))) (pos n *ℤ (most +ℤ pos (c + d))) some
    (at_most (times (n_of m) (twice (number u) (number v) (number x) (number y))) (times (n_of m) (times (n_of n) (plus (number most) (n_of (c + d))))) (omega (arith, along_x, along_y, there)))

-- ---- points of the hull

module _ (points : List Point) (point : RationalPoint) where
  -- what is in it is within no halves of it
  pub within-of_hull : IsInHull points point → IsWithinHull 0 points point
  within-of_hull inside u v k all =
      let upto = at_most_of (plus (times (number u) (number point.x)) (times (number v) (number point.y))) (times (n_of point.n) (number k)) (inside u v k all) in
      at_most (twice (number u) (number v) (number point.x) (number point.y)) (times (n_of point.n) (plus (times (n_of 2) (number k)) (n_of (0 * (unsigned_abs u + unsigned_abs v))))) (omega (arith, upto))

  pub hull-of_within : IsWithinHull 0 points point → IsInHull points point
  hull-of_within inside u v k all =
      let upto = at_most_of (twice (number u) (number v) (number point.x) (number point.y)) (times (n_of point.n) (plus (times (n_of 2) (number k)) (n_of (0 * (unsigned_abs u + unsigned_abs v))))) (inside u v k all) in
      at_most (plus (times (number u) (number point.x)) (times (number v) (number point.y))) (times (n_of point.n) (number k)) (omega (arith, upto))

  -- what is within half a unit of such a point, on both axes, is within one half more
  pub within-half : (halves : ℕ) (other : RationalPoint) → IsWithinHull halves points other → WithinHalf point.n point.x other.n other.x → WithinHalf point.n point.y other.n other.y → IsWithinHull (halves + 1) points point
  within-half halves other inside near_x near_y u v k all =
      let most = (pos 2 *ℤ k) +ℤ pos (halves * (unsigned_abs u + unsigned_abs v)) in
      let found = half_upto point.n other.n (unsigned_abs u) (unsigned_abs v) u v point.x point.y other.x other.y most other.positive
      (product_upto u (pos 2 *ℤ ((pos other.n *ℤ point.x) -ℤ (pos point.n *ℤ other.x))) (point.n * other.n) near_x.above (back point.n other.n point.x other.x near_x.below))
      (product_upto v (pos 2 *ℤ ((pos other.n *ℤ point.y) -ℤ (pos point.n *ℤ other.y))) (point.n * other.n) near_y.above (back point.n other.n point.y other.y near_y.below))
      (inside u v k all) in
      subst (λ (z : ℤ). (pos 2 *ℤ reach u v point) ≤ℤ (pos point.n *ℤ z)) (one_more k halves (unsigned_abs u + unsigned_abs v)) found
    where
      back : (n m : ℕ) (p q : ℤ) → (pos 2 *ℤ ((pos n *ℤ q) -ℤ (pos m *ℤ p))) ≤ℤ pos (n * m) → (pos 0 -ℤ (pos 2 *ℤ ((pos m *ℤ p) -ℤ (pos n *ℤ q)))) ≤ℤ pos (n * m)
      back n m p q upto = omega (arith, ints, upto)

      one_more : (k : ℤ) (i w : ℕ) → ((pos 2 *ℤ k) +ℤ pos (i * w)) +ℤ pos w ≡ (pos 2 *ℤ k) +ℤ pos ((i + 1) * w)
      one_more k i w = omega (arith, ints)

-- each of the points is in it
pub hull-held : (points : List Point) (p : Point) → Contains points p → IsInHull points (whole p.x p.y)
hull-held points p held u v k all = let upto = all p held in let same = identity (number k) (times (n_of 1) (number k)) (omega arith) in omega (arith, ints, upto, same)

-- and each point of an edge of which both ends are
pub within-edge : (halves : ℕ) (points : List Point) (edge : Edge) (point : RationalPoint) → IsWithinHull halves points (whole edge.x0 edge.y0) → IsWithinHull halves points (whole edge.x1 edge.y1) → IsOf edge point → IsWithinHull halves points point
within-edge halves points edge point from to (a, at) u v k all =
    let upto = at.share in
    let most = (pos 2 *ℤ k) +ℤ pos (halves * (unsigned_abs u + unsigned_abs v)) in
    let parts : (point.n - a) + a ≡ point.n = omega (arith, upto) in
    let found = mean_upto (point.n - a) a u v edge.x0 edge.y0 edge.x1 edge.y1 most (from u v k all) (to u v k all) in
    let there : (pos 2 *ℤ ((u *ℤ ((pos point.n *ℤ edge.x0) +ℤ (pos a *ℤ (edge.x1 -ℤ edge.x0)))) +ℤ (v *ℤ ((pos point.n *ℤ edge.y0) +ℤ (pos a *ℤ (edge.y1 -ℤ edge.y0)))))) ≤ℤ (pos point.n *ℤ most) =
    subst (λ (n : ℕ). (pos 2 *ℤ ((u *ℤ ((pos n *ℤ edge.x0) +ℤ (pos a *ℤ (edge.x1 -ℤ edge.x0)))) +ℤ (v *ℤ ((pos n *ℤ edge.y0) +ℤ (pos a *ℤ (edge.y1 -ℤ edge.y0)))))) ≤ℤ (pos n *ℤ most)) parts found in
    subst (λ (x : ℤ). (pos 2 *ℤ ((u *ℤ x) +ℤ (v *ℤ point.y))) ≤ℤ (pos point.n *ℤ most)) (sym at.x)
    (subst (λ (y : ℤ). (pos 2 *ℤ ((u *ℤ ((pos point.n *ℤ edge.x0) +ℤ (pos a *ℤ (edge.x1 -ℤ edge.x0)))) +ℤ (v *ℤ y))) ≤ℤ (pos point.n *ℤ most)) (sym at.y) there)

pub hull-edge : (points : List Point) (edge : Edge) (point : RationalPoint) → Contains points (start_of edge) → Contains points (end_of edge) → IsOf edge point → IsInHull points point
hull-edge points edge point from to of =
    hull-of_within points point
    (within-edge 0 points edge point (within-of_hull points (whole edge.x0 edge.y0) (hull-held points (start_of edge) from)) (within-of_hull points (whole edge.x1 edge.y1) (hull-held points (end_of edge) to)) of)

-- the points stand in one column, and the first isn't above the second
pub record StandsUnder (low high : RationalPoint) : Type 0 where
  pub x : (pos high.n *ℤ low.x) ≡ (pos low.n *ℤ high.x)
  pub y : (pos high.n *ℤ low.y) ≤ℤ (pos low.n *ℤ high.y)

-- what is near an edge of which both ends are is near it
pub near-hull : (points : List Point) (edge : Edge) (point : RationalPoint) → Contains points (start_of edge) → Contains points (end_of edge) → IsNear edge point → IsNearHull points point
near-hull points edge point from to (other, of, along_x, along_y) =
    within-half points point 0 other (within-of_hull points other (hull-edge points edge other from to of)) along_x along_y

-- ---- heights over a line

-- how far a point lies over a line is how much further it lies across than the line does
pub over : (x0 y0 x1 y1 x y : ℤ) → (((x1 -ℤ x0) *ℤ (y -ℤ y0)) -ℤ ((y1 -ℤ y0) *ℤ (x -ℤ x0))) ≡ ((((pos 0 -ℤ (y1 -ℤ y0)) *ℤ x) +ℤ ((x1 -ℤ x0) *ℤ y)) -ℤ (((pos 0 -ℤ (y1 -ℤ y0)) *ℤ x0) +ℤ ((x1 -ℤ x0) *ℤ y0)))
over x0 y0 x1 y1 x y =
    let run = minus (number x1) (number x0) in
    let rise = minus (number y1) (number y0) in
    let back = minus (n_of 0) rise in
    identity (minus (times run (minus (number y) (number y0))) (times rise (minus (number x) (number x0))))
    (minus (plus (times back (number x)) (times run (number y))) (plus (times back (number x0)) (times run (number y0)))) (omega arith)
