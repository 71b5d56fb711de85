-- What is near an edge is convex, and each point of its chain is near it.
use Rattle.std.proofs.Common.{ap, arith, pos, subst, sym, ℕ, ℤ, ◌*ℤ◌, ◌*◌, ◌+ℤ◌, ◌+◌, ◌-ℤ◌, ◌-◌, ◌<ℤ◌, ◌<◌, ◌≡◌, ◌≤ℤ◌}
use Rattle.std.proofs.Math.Nat.{mul-le-mul_left, mul-pos}
use Rattle.std.proofs.lemmas.Int.{ints}
use Rattle.plane.specs.declared.edge.Edge.{Edge}
use Rattle.plane.specs.Meet.Edges.{IsOf, RationalPoint}
use Rattle.noding.specs.Chains.{Passes}
use Rattle.noding.specs.Near.{IsNear, WithinHalf}
use Rattle.noding.specs.Rounding.{RoundsOn}
use Rattle.noding.proofs.SnapLemmas.Means.{between, IsOf-mean, mean_on}
use Rattle.noding.proofs.SnapLemmas.Numbers.{n_of, natural}
use Rattle.noding.proofs.SnapLemmas.Rounding.{below_out, from_out}
use Rattle.plane.proofs.MeetLemmas.Identities.{Term, at_most, at_most_of, identity, minus, number, plus, same_of, times, unscaled, value}

-- twice how far two numbers are apart, over both denominators
abbrev apart : ℕ → Term → ℕ → Term → Term
apart n p m q = times (n_of 2) (minus (times (n_of m) p) (times (n_of n) q))

abbrev apart_back : ℕ → Term → ℕ → Term → Term
apart_back n p m q = times (n_of 2) (minus (times (n_of n) q) (times (n_of m) p))

-- means at the same weights
within-mean : (b a n1 n2 m1 m2 : ℕ) (p1 p2 q1 q2 : ℤ) → WithinHalf n1 p1 m1 q1 → WithinHalf n2 p2 m2 q2 → WithinHalf ((b + a) * (n1 * n2)) (mean_on b a n1 n2 p1 p2) ((b + a) * (m1 * m2)) (mean_on b a m1 m2 q1 q2)
within-mean b a n1 n2 m1 m2 p1 p2 q1 q2 first second =
    let mean : ℕ → ℕ → ℤ → ℤ → Term = λ k1 k2 z1 z2. plus (times (n_of b) (times (n_of k2) (number z1))) (times (n_of a) (times (n_of k1) (number z2))) in
    let n = (b + a) * (n1 * n2) in
    let m = (b + a) * (m1 * m2) in
    let p = mean n1 n2 p1 p2 in
    let q = mean m1 m2 q1 q2 in
    let k1 = (b + a) * (b * (n2 * m2)) in
    let k2 = (b + a) * (a * (n1 * m1)) in
    let above1 = mul-le-mul_left k1 (at_most_of (apart n1 (number p1) m1 (number q1)) (n_of (n1 * m1)) first.above) in
    let above2 = mul-le-mul_left k2 (at_most_of (apart n2 (number p2) m2 (number q2)) (n_of (n2 * m2)) second.above) in
    let below1 = mul-le-mul_left k1 (at_most_of (apart_back n1 (number p1) m1 (number q1)) (n_of (n1 * m1)) first.below) in
    let below2 = mul-le-mul_left k2 (at_most_of (apart_back n2 (number p2) m2 (number q2)) (n_of (n2 * m2)) second.below) in record {
      above = at_most (apart n p m q) (n_of (n * m)) (omega (arith, above1, above2));
      below = at_most (apart_back n p m q) (n_of (n * m)) (omega (arith, below1, below2));
    }

-- what is near an edge is convex
pub IsNear-mean : (edge : Edge) (b a : ℕ) (some : 0 < b + a) (one other : RationalPoint) → IsNear edge one → IsNear edge other → IsNear edge (between b a some one other)
IsNear-mean edge b a some one other (p, p_of, p_x, p_y) (q, q_of, q_x, q_y) = (
  between b a some p q,
  IsOf-mean edge b a some p q p_of q_of,
  within-mean b a one.n other.n p.n q.n one.x other.x p.x q.x p_x q_x,
  within-mean b a one.n other.n p.n q.n one.y other.y p.y q.y p_y q_y,
)

-- a point of a piece, and the same mean of points that round to the piece's ends
within-piece : (b a n1 n2 : ℕ) (p1 p2 c1 c2 : ℤ) → RoundsOn n1 p1 c1 → RoundsOn n2 p2 c2 → WithinHalf (b + a) ((pos (b + a) *ℤ c1) +ℤ (pos a *ℤ (c2 -ℤ c1))) ((b + a) * (n1 * n2)) (mean_on b a n1 n2 p1 p2)
within-piece b a n1 n2 p1 p2 c1 c2 first second =
    let p : Term = plus (times (n_of b) (times (n_of n2) (number p1))) (times (n_of a) (times (n_of n1) (number p2))) in
    let c : Term = plus (times (n_of (b + a)) (number c1)) (times (n_of a) (minus (number c2) (number c1))) in
    let m = (b + a) * (n1 * n2) in
    let k1 = (b + a) * (b * n2) in
    let k2 = (b + a) * (a * n1) in
    let from1 = mul-le-mul_left k1 (from_out n1 p1 c1 first) in
    let from2 = mul-le-mul_left k2 (from_out n2 p2 c2 second) in
    let below1 = mul-le-mul_left k1 (below_out n1 p1 c1 first) in
    let below2 = mul-le-mul_left k2 (below_out n2 p2 c2 second) in record {
      above = at_most (apart (b + a) c m p) (n_of ((b + a) * m)) (omega (arith, from1, from2));
      below = at_most (apart_back (b + a) c m p) (n_of ((b + a) * m)) (omega (arith, below1, below2));
    }

-- the same at a share
within-at : (b a n n1 n2 : ℕ) (p1 p2 c1 c2 z : ℤ) → b + a ≡ n → z ≡ ((pos n *ℤ c1) +ℤ (pos a *ℤ (c2 -ℤ c1))) → RoundsOn n1 p1 c1 → RoundsOn n2 p2 c2 → WithinHalf n z ((b + a) * (n1 * n2)) (mean_on b a n1 n2 p1 p2)
within-at b a n n1 n2 p1 p2 c1 c2 z whole is first second =
    let there : z ≡ ((pos (b + a) *ℤ c1) +ℤ (pos a *ℤ (c2 -ℤ c1))) = rw whole is in
    let found = within-piece b a n1 n2 p1 p2 c1 c2 first second in
    subst (λ (k : ℕ). WithinHalf k z ((b + a) * (n1 * n2)) (mean_on b a n1 n2 p1 p2)) whole
    (subst (λ (w : ℤ). WithinHalf (b + a) w ((b + a) * (n1 * n2)) (mean_on b a n1 n2 p1 p2)) (sym there) found)

-- each point of a piece is near the edge
pub IsNear-piece : (edge piece : Edge) (point : RationalPoint) → Passes edge piece.x0 piece.y0 → Passes edge piece.x1 piece.y1 → IsOf piece point → IsNear edge point
IsNear-piece edge piece point (one, one_of, one_rounds) (other, other_of, other_rounds) (a, at) =
    let share = at.share in
    let b = point.n - a in
    let whole : (point.n - a) + a ≡ point.n = omega arith in
    let n_some = point.positive in
    let some : 0 < (point.n - a) + a = omega arith in (
      between b a some one other,
      IsOf-mean edge b a some one other one_of other_of,
      within-at b a point.n one.n other.n one.x other.x piece.x0 piece.x1 point.x whole at.x one_rounds.along_x other_rounds.along_x,
      within-at b a point.n one.n other.n one.y other.y piece.y0 piece.y1 point.y whole at.y one_rounds.along_y other_rounds.along_y,
    )

-- ---- the same point over another denominator

within-same : (n1 n m : ℕ) (p1 p q : ℤ) → 0 < n1 → (pos n *ℤ p1) ≡ (pos n1 *ℤ p) → WithinHalf n1 p1 m q → WithinHalf n p m q
within-same n1 n m p1 p q some same h =
    let apart : ℕ → ℤ → Term = λ k z. times (n_of 2) (minus (times (n_of m) (number z)) (times (n_of k) (number q))) in
    let back : ℕ → ℤ → Term = λ k z. times (n_of 2) (minus (times (n_of k) (number q)) (times (n_of m) (number z))) in
    let equal = ap (λ k. (2 * m) * k) (same_of (times (n_of n) (number p1)) (times (n_of n1) (number p)) same) in
    let above = mul-le-mul_left n (at_most_of (apart n1 p1) (n_of (n1 * m)) h.above) in
    let below = mul-le-mul_left n (at_most_of (back n1 p1) (n_of (n1 * m)) h.below) in record {
      above = unscaled n1 (value (apart n p)) (pos (n * m)) some (at_most (times (n_of n1) (apart n p)) (times (n_of n1) (n_of (n * m))) (omega (arith, equal, above)));
      below = unscaled n1 (value (back n p)) (pos (n * m)) some (at_most (times (n_of n1) (back n p)) (times (n_of n1) (n_of (n * m))) (omega (arith, equal, below)));
    }

-- nearness is of the point, not of its denominator
pub IsNear-same : (edge : Edge) (other point : RationalPoint) → (pos point.n *ℤ other.x) ≡ (pos other.n *ℤ point.x) → (pos point.n *ℤ other.y) ≡ (pos other.n *ℤ point.y) → IsNear edge other → IsNear edge point
IsNear-same edge other point same_x same_y (near, of, along_x, along_y) = (
  near,
  of,
  within-same other.n point.n near.n other.x point.x near.x other.positive same_x along_x,
  within-same other.n point.n near.n other.y point.y near.y other.positive same_y along_y,
)

-- what is of the edge is near it
within-self : (n : ℕ) (p : ℤ) → WithinHalf n p n p
within-self n p = record {
  above = at_most (times (n_of 2) (minus (times (n_of n) (number p)) (times (n_of n) (number p)))) (n_of (n * n)) (omega arith);
  below = at_most (times (n_of 2) (minus (times (n_of n) (number p)) (times (n_of n) (number p)))) (n_of (n * n)) (omega arith);
}

-- a point of the edge is near it
pub IsNear-itself : (edge : Edge) (point : RationalPoint) → IsOf edge point → IsNear edge point
IsNear-itself edge point of = (point, of, within-self point.n point.x, within-self point.n point.y)

-- ---- straight between two points that are near

-- a mean of two points that are straight above each other has their x, and one at a height between theirs has that height
mean-level : (b a n n1 n2 : ℕ) (p p1 p2 : ℤ) → (pos n *ℤ p1) ≡ (pos n1 *ℤ p) → (pos n *ℤ p2) ≡ (pos n2 *ℤ p) → (pos n *ℤ mean_on b a n1 n2 p1 p2) ≡ (pos ((b + a) * (n1 * n2)) *ℤ p)
mean-level b a n n1 n2 p p1 p2 first second =
    let one = ap (λ k. (b * n2) * k) (same_of (times (n_of n) (number p1)) (times (n_of n1) (number p)) first) in
    let two = ap (λ k. (a * n1) * k) (same_of (times (n_of n) (number p2)) (times (n_of n2) (number p)) second) in
    let mean : Term = plus (times (n_of b) (times (n_of n2) (number p1))) (times (n_of a) (times (n_of n1) (number p2))) in
    identity (times (n_of n) mean) (times (n_of ((b + a) * (n1 * n2))) (number p)) (omega (arith, one, two))

mean-upright : (n n1 n2 d1 d2 : ℕ) (p p1 p2 : ℤ) → ((pos n1 *ℤ p) -ℤ (pos n *ℤ p1)) ≡ pos d1 → ((pos n *ℤ p2) -ℤ (pos n2 *ℤ p)) ≡ pos d2 → (pos n *ℤ mean_on (n1 * d2) (n2 * d1) n1 n2 p1 p2) ≡ (pos ((n1 * d2 + n2 * d1) * (n1 * n2)) *ℤ p)
mean-upright n n1 n2 d1 d2 p p1 p2 first second =
    let one = ap (λ k. ((n1 * d2) * n2) * k) (same_of (minus (times (n_of n1) (number p)) (times (n_of n) (number p1))) (n_of d1) first) in
    let two = ap (λ k. ((n2 * d1) * n1) * k) (same_of (minus (times (n_of n) (number p2)) (times (n_of n2) (number p))) (n_of d2) second) in
    let mean : Term = plus (times (n_of (n1 * d2)) (times (n_of n2) (number p1))) (times (n_of (n2 * d1)) (times (n_of n1) (number p2))) in
    identity (times (n_of n) mean) (times (n_of ((n1 * d2 + n2 * d1) * (n1 * n2))) (number p)) (omega (arith, one, two))

-- a point that isn't below the one and is below the other
pub IsNear-upright : (edge : Edge) (low high point : RationalPoint) → (pos point.n *ℤ low.x) ≡ (pos low.n *ℤ point.x) → (pos point.n *ℤ high.x) ≡ (pos high.n *ℤ point.x) → (pos point.n *ℤ low.y) ≤ℤ (pos low.n *ℤ point.y) → (pos high.n *ℤ point.y) <ℤ (pos point.n *ℤ high.y) → IsNear edge low → IsNear edge high → IsNear edge point
IsNear-upright edge low high point low_x high_x from below first second =
    let up = natural ((pos low.n *ℤ point.y) -ℤ (pos point.n *ℤ low.y)) (omega (arith, ints, from)) in
    let down = natural ((pos point.n *ℤ high.y) -ℤ (pos high.n *ℤ point.y)) (omega (arith, ints, below)) in
    let is = down.is in
    let wide : 0 < down.k = omega (arith, ints, below, is) in
    let weight : 0 < low.n * down.k = mul-pos low.positive wide in
    let b = low.n * down.k in
    let a = high.n * up.k in
    let some : 0 < b + a = omega arith in
    IsNear-same edge (between b a some low high) point
    (mean-level b a point.n low.n high.n point.x low.x high.x low_x high_x)
    (mean-upright point.n low.n high.n up.k down.k point.y low.y high.y up.is down.is)
    (IsNear-mean edge b a some low high first second)
