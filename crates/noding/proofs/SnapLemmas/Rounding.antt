-- Rounding, on one axis and of points.
use Rattle.std.proofs.Common.{ap, arith, inl, inr, negsuc, pos, subst, sym, ℕ, ℤ, ◌*ℤ◌, ◌*◌, ◌+ℤ◌, ◌+◌, ◌/◌, ◌<ℤ◌, ◌<◌, ◌∙◌, ◌≡◌, ◌≤ℤ◌, ◌≤◌}
use Rattle.std.proofs.Math.Nat.{le_of_mul-le-mul_left, lt-div-mul-add, lt_of_mul-lt-mul_left, mul-div-le, mul-le-mul_left, mul-lt-mul_of_pos_left, mul-pos}
use Rattle.std.proofs.lemmas.Int.{by_lt_z, ints}
use Rattle.std.specs.Int.{int_div_euclid}
use Rattle.std.specs.Int.RustNames.{unsigned_abs}
use borrow.Author.Differences.{at_most_in, down, up}
use Rattle.plane.specs.Meet.Edges.{RationalPoint}
use Rattle.noding.specs.Rounding.{RoundsOn, RoundsTo}
use Rattle.noding.proofs.SnapLemmas.Numbers.{below, below_of, n_of}
use Rattle.noding.proofs.SnapLemmas.Pieces.{IsBetween}
use Rattle.plane.proofs.MeetLemmas.Identities.{Term, at_most, at_most_of, less, minus, more, number, plus, same_of, times}

-- the pixel's ends, times n
abbrev pub low : ℕ → ℤ → Term
low n c = times (n_of n) (minus (times (n_of 2) (number c)) (n_of 1))

abbrev pub high : ℕ → ℤ → Term
high n c = times (n_of n) (plus (times (n_of 2) (number c)) (n_of 1))

abbrev pub twice : Term → Term
twice p = times (n_of 2) p

-- what it says in natural numbers
pub from_out : (n : ℕ) (p c : ℤ) → RoundsOn n p c → n * (2 * up c) + 2 * down p ≤ 2 * up p + n * (2 * down c + 1)
from_out n p c h = omega (arith, at_most_of (low n c) (twice (number p)) h.from)

pub below_out : (n : ℕ) (p c : ℤ) → RoundsOn n p c → 2 * up p + n * (2 * down c) < n * (2 * up c + 1) + 2 * down p
below_out n p c h = omega (arith, below_of (twice (number p)) (high n c) h.below)

-- rounding keeps the order
pub RoundsOn-monotone : (n m : ℕ) (p q c d : ℤ) → 0 < n → 0 < m → (pos m *ℤ p) ≤ℤ (pos n *ℤ q) → RoundsOn n p c → RoundsOn m q d → c ≤ℤ d
RoundsOn-monotone n m p q c d some many order first second =
    let left = mul-le-mul_left m (from_out n p c first) in
    let right = mul-lt-mul_of_pos_left {k = n} (below_out m q d second) some in
    let middle = at_most_of (times (n_of m) (number p)) (times (n_of n) (number q)) order in
    let cleared : up c + down d < up d + down c + 1 = lt_of_mul-lt-mul_left (2 * (n * m)) (omega (arith, left, right, middle)) in
    at_most_in c d (omega (arith, cleared))

-- a number rounds to one whole number
pub RoundsOn-unique : (n : ℕ) (p c d : ℤ) → 0 < n → RoundsOn n p c → RoundsOn n p d → c ≡ d
RoundsOn-unique n p c d some first second =
    let upto = RoundsOn-monotone n n p p c d some some (omega (arith, ints)) first second in
    let back = RoundsOn-monotone n n p p d c some some (omega (arith, ints)) second first in
    omega (arith, ints)

-- a mean of two numbers that round rounds to the same mean of what they round to, where that is whole
pub RoundsOn-mean : (b a n1 n2 : ℕ) (p1 p2 c1 c2 c : ℤ) → 0 < b + a → 0 < n1 → 0 < n2 → (pos (b + a) *ℤ c) ≡ ((pos b *ℤ c1) +ℤ (pos a *ℤ c2)) → RoundsOn n1 p1 c1 → RoundsOn n2 p2 c2 → RoundsOn ((b + a) * (n1 * n2)) ((pos b *ℤ (pos n2 *ℤ p1)) +ℤ (pos a *ℤ (pos n1 *ℤ p2))) c
RoundsOn-mean b a n1 n2 p1 p2 c1 c2 c some some1 some2 mean first second =
    let p : Term = plus (times (n_of b) (times (n_of n2) (number p1))) (times (n_of a) (times (n_of n1) (number p2))) in
    let n = (b + a) * (n1 * n2) in
    let whole = same_of (times (n_of (b + a)) (number c)) (plus (times (n_of b) (number c1)) (times (n_of a) (number c2))) mean in
    let scaled = ap (λ k. (2 * (n1 * n2)) * k) whole in
    let from1 = mul-le-mul_left (b * n2) (from_out n1 p1 c1 first) in
    let from2 = mul-le-mul_left (a * n1) (from_out n2 p2 c2 second) in
    let below1 = mul-le-mul_left (b * n2) (below_out n1 p1 c1 first) in
    let below2 = mul-le-mul_left (a * n1) (below_out n2 p2 c2 second) in
    let wide1 : b ≤ b * n2 = omega (arith, mul-le-mul_left b some2) in
    let wide2 : a ≤ a * n1 = omega (arith, mul-le-mul_left a some1) in record {
      from = at_most (low n c) (twice p) (omega (arith, scaled, from1, from2));
      below = below (twice p) (high n c) (omega (arith, scaled, below1, below2, wide1, wide2, some));
    }

-- the same number over another denominator rounds to the same
pub RoundsOn-same : (m n : ℕ) (p q c : ℤ) → 0 < m → 0 < n → (pos m *ℤ q) ≡ (pos n *ℤ p) → RoundsOn m p c → RoundsOn n q c
RoundsOn-same m n p q c some many is rounds =
    let same = same_of (times (n_of m) (number q)) (times (n_of n) (number p)) is in
    let from = mul-le-mul_left n (from_out m p c rounds) in
    let upto = mul-lt-mul_of_pos_left {k = n} (below_out m p c rounds) many in
    let from_there : n * (2 * up c) + 2 * down q ≤ 2 * up q + n * (2 * down c + 1) = le_of_mul-le-mul_left {k = m} (omega (arith, from, same)) some in
    let upto_there : 2 * up q + n * (2 * down c) < n * (2 * up c + 1) + 2 * down q = lt_of_mul-lt-mul_left m (omega (arith, upto, same)) in record {
      from = at_most (low n c) (twice (number q)) (omega (arith, from_there));
      below = below (twice (number q)) (high n c) (omega (arith, upto_there));
    }

-- a whole number rounds to itself, over any denominator
pub RoundsOn-whole : (n : ℕ) (c : ℤ) → 0 < n → RoundsOn n (pos n *ℤ c) c
RoundsOn-whole n c some = record {
  from = at_most (low n c) (twice (times (n_of n) (number c))) (omega arith);
  below = below (twice (times (n_of n) (number c))) (high n c) (omega (arith, some));
}

-- ---- by division that rounds down

-- q is z / k, rounded down
pub record Floor (k : ℕ) (z q : ℤ) : Type 0 where
  pub from : (pos k *ℤ q) ≤ℤ z
  pub below : z <ℤ (pos k *ℤ (q +ℤ pos 1))

-- Euclid's division by a positive number rounds down
pub floor_is : (k : ℕ) (z : ℤ) → 0 < k → Floor k z (int_div_euclid z (pos k))
floor_is k (pos a) some =
    let q = number (pos (a / k)) in
    let from_there = mul-div-le a k in
    let upto = lt-div-mul-add {a = a} {b = k} some in record {
      from = at_most (times (n_of k) q) (number (pos a)) (omega (arith, from_there));
      below = below (number (pos a)) (times (n_of k) (plus q (n_of 1))) (omega (arith, upto));
    }
floor_is k (negsuc a) some =
    let q = number (negsuc (a / k)) in
    let from_there = mul-div-le a k in
    let upto = lt-div-mul-add {a = a} {b = k} some in record {
      from = at_most (times (n_of k) q) (number (negsuc a)) (omega (arith, upto));
      below = below (number (negsuc a)) (times (n_of k) (plus q (n_of 1))) (omega (arith, from_there));
    }

-- what 2 n + k over 2 k rounds down to, n over k rounds to
rounds_by : (k : ℕ) (n q : ℤ) → Floor (k + k) ((n +ℤ n) +ℤ pos k) q → RoundsOn k n q
rounds_by k n q floor =
    let sum = plus (plus (number n) (number n)) (n_of k) in
    let from_there = at_most_of (times (n_of (k + k)) (number q)) sum floor.from in
    let upto = below_of sum (times (n_of (k + k)) (plus (number q) (n_of 1))) floor.below in record {
      from = at_most (low k q) (twice (number n)) (omega (arith, from_there));
      below = below (twice (number n)) (high k q) (omega (arith, upto));
    }

-- n / d rounds to (2 n + d) / 2 d, rounded down
pub RoundsOn-half : (n d : ℤ) → pos 0 <ℤ d → RoundsOn (unsigned_abs d) n (int_div_euclid ((n +ℤ n) +ℤ d) (d +ℤ d))
RoundsOn-half n (pos k) some = rounds_by k n (int_div_euclid ((n +ℤ n) +ℤ pos k) (pos (k + k))) (floor_is (k + k) ((n +ℤ n) +ℤ pos k) (omega (arith, ints, some)))
RoundsOn-half n (negsuc k) some = absurd (omega (arith, ints, some))

-- the same for numbers that are equal to these
pub rounds_from : (n d sum twice_d result : ℤ) → pos 0 <ℤ d → result ≡ int_div_euclid sum twice_d → sum ≡ ((n +ℤ n) +ℤ d) → twice_d ≡ (d +ℤ d) → RoundsOn (unsigned_abs d) n result
rounds_from n d sum twice_d result some is is_sum is_twice =
    let there : result ≡ int_div_euclid ((n +ℤ n) +ℤ d) (d +ℤ d) = is ∙ ap (λ s. int_div_euclid s twice_d) is_sum ∙ ap (λ t. int_div_euclid ((n +ℤ n) +ℤ d) t) is_twice in
    subst (λ (q : ℤ). RoundsOn (unsigned_abs d) n q) (sym there) (RoundsOn-half n d some)

-- the whole number to which it rounds
pub record Rounded (n : ℕ) (p : ℤ) : Type 0 where
  pub whole : ℤ
  pub rounds : RoundsOn n p whole

-- each number rounds to one
pub RoundsOn-some : (n : ℕ) (p : ℤ) → 0 < n → Rounded n p
RoundsOn-some n p some = record {
  whole = int_div_euclid ((p +ℤ p) +ℤ pos n) (pos n +ℤ pos n);
  rounds = RoundsOn-half p (pos n) (omega (arith, ints, some));
}

-- ---- means of two numbers over one n

-- a number that rounds does so with another denominator
pub RoundsOn-scaled : (k n : ℕ) (p c : ℤ) → 0 < k → RoundsOn n p c → RoundsOn (k * n) (pos k *ℤ p) c
RoundsOn-scaled k n p c some rounds = record {
  from = at_most (low (k * n) c) (twice (times (n_of k) (number p))) (omega (arith, mul-le-mul_left k (from_out n p c rounds)));
  below = below (twice (times (n_of k) (number p))) (high (k * n) c) (omega (arith, mul-lt-mul_of_pos_left {k = k} (below_out n p c rounds) some));
}

-- a mean of two numbers over one denominator, as `RoundsOn-mean` has it
pub RoundsOn-mean_once : (n b a : ℕ) (p1 p2 c1 c2 c : ℤ) → 0 < b + a → (pos (b + a) *ℤ c) ≡ ((pos b *ℤ c1) +ℤ (pos a *ℤ c2)) → RoundsOn n p1 c1 → RoundsOn n p2 c2 → RoundsOn ((b + a) * n) ((pos b *ℤ p1) +ℤ (pos a *ℤ p2)) c
RoundsOn-mean_once n b a p1 p2 c1 c2 c some mean first second =
    let p : Term = plus (times (n_of b) (number p1)) (times (n_of a) (number p2)) in
    let whole = same_of (times (n_of (b + a)) (number c)) (plus (times (n_of b) (number c1)) (times (n_of a) (number c2))) mean in
    let scaled = ap (λ k. (2 * n) * k) whole in
    let from1 = mul-le-mul_left b (from_out n p1 c1 first) in
    let from2 = mul-le-mul_left a (from_out n p2 c2 second) in
    let below1 = mul-le-mul_left b (below_out n p1 c1 first) in
    let below2 = mul-le-mul_left a (below_out n p2 c2 second) in record {
      from = at_most (low ((b + a) * n) c) (twice p) (omega (arith, scaled, from1, from2));
      below = below (twice p) (high ((b + a) * n) c) (omega (arith, scaled, below1, below2, some));
    }

-- The touch: q1 and q2 round to c1 and c2, and r to d. On the way from q1, q2 and r to these, r comes to lie between the
-- two. Then the same mean of q1 and q2 rounds to d.
pub RoundsOn-touch : (n l k b a : ℕ) (q1 q2 r c1 c2 d : ℤ) → 0 < b + a → 0 < n → 0 < l → (pos (b + a) *ℤ ((pos l *ℤ r) +ℤ (pos k *ℤ d))) ≡ ((pos b *ℤ ((pos l *ℤ q1) +ℤ (pos k *ℤ c1))) +ℤ (pos a *ℤ ((pos l *ℤ q2) +ℤ (pos k *ℤ c2)))) → RoundsOn n q1 c1 → RoundsOn n q2 c2 → RoundsOn n r d → RoundsOn ((b + a) * n) ((pos b *ℤ q1) +ℤ (pos a *ℤ q2)) d
RoundsOn-touch n l k b a q1 q2 r c1 c2 d some many early touch first second third =
    let p : Term = plus (times (n_of b) (number q1)) (times (n_of a) (number q2)) in
    let place : ℤ → ℤ → Term = λ q c. plus (times (n_of l) (number q)) (times (n_of k) (number c)) in
    let fact = same_of (times (n_of (b + a)) (place r d)) (plus (times (n_of b) (place q1 c1)) (times (n_of a) (place q2 c2))) touch in
    let scaled = ap (λ z. (2 * n) * z) fact in
    let from1 = mul-le-mul_left (k * b) (from_out n q1 c1 first) in
    let from2 = mul-le-mul_left (k * a) (from_out n q2 c2 second) in
    let from3 = mul-le-mul_left (n * (l * (b + a))) (from_out n r d third) in
    let below1 = mul-le-mul_left (k * b) (below_out n q1 c1 first) in
    let below2 = mul-le-mul_left (k * a) (below_out n q2 c2 second) in
    let below3 = mul-le-mul_left (n * (l * (b + a))) (below_out n r d third) in
    let whole = l * n + k in
    let product : 0 < l * n = mul-pos early many in
    let positive : 0 < whole = omega (arith, product) in
    let wide = mul-le-mul_left whole some in
    let at = low ((b + a) * n) d in
    let end = high ((b + a) * n) d in
    let t = twice p in record {
      from = at_most at t (le_of_mul-le-mul_left {m = more at + less t} {n = more t + less at} {k = whole} (omega (arith, scaled, from1, from2, from3)) positive);
      below = below t end (lt_of_mul-lt-mul_left whole {m = more t + less end} {n = more end + less t} (omega (arith, scaled, below1, below2, below3, wide, positive)));
    }

-- a mean of two numbers is at least what both are at least, and at most what both are at most
mean_above : (n b a : ℕ) (p1 p2 m : ℤ) → m ≤ℤ p1 → m ≤ℤ p2 → (pos ((b + a) * n) *ℤ m) ≤ℤ (pos n *ℤ ((pos b *ℤ p1) +ℤ (pos a *ℤ p2)))
mean_above n b a p1 p2 m first second =
    at_most (times (n_of ((b + a) * n)) (number m)) (times (n_of n) (plus (times (n_of b) (number p1)) (times (n_of a) (number p2))))
    (omega (arith, mul-le-mul_left (n * b) (at_most_of (number m) (number p1) first), mul-le-mul_left (n * a) (at_most_of (number m) (number p2) second)))

mean_below : (n b a : ℕ) (p1 p2 m : ℤ) → p1 ≤ℤ m → p2 ≤ℤ m → (pos n *ℤ ((pos b *ℤ p1) +ℤ (pos a *ℤ p2))) ≤ℤ (pos ((b + a) * n) *ℤ m)
mean_below n b a p1 p2 m first second =
    at_most (times (n_of n) (plus (times (n_of b) (number p1)) (times (n_of a) (number p2)))) (times (n_of ((b + a) * n)) (number m))
    (omega (arith, mul-le-mul_left (n * b) (at_most_of (number p1) (number m) first), mul-le-mul_left (n * a) (at_most_of (number p2) (number m) second)))

-- what a mean rounds to is between what the two numbers round to
pub RoundsOn-between : (n b a : ℕ) (p1 p2 c1 c2 c : ℤ) → 0 < b + a → 0 < n → RoundsOn n p1 c1 → RoundsOn n p2 c2 → RoundsOn ((b + a) * n) ((pos b *ℤ p1) +ℤ (pos a *ℤ p2)) c → IsBetween c1 c2 c
RoundsOn-between n b a p1 p2 c1 c2 c some many first second mean =
    let whole : 0 < (b + a) * n = mul-pos some many in
    let p = (pos b *ℤ p1) +ℤ (pos a *ℤ p2) in
    by_lt_z p1 p2
    (λ up. inl (
      RoundsOn-monotone n ((b + a) * n) p1 p c1 c many whole (mean_above n b a p1 p2 p1 (omega (arith, ints)) (omega (arith, ints))) first mean,
      RoundsOn-monotone ((b + a) * n) n p p2 c c2 whole many (mean_below n b a p1 p2 p2 (omega (arith, ints)) (omega (arith, ints))) mean second,
    ))
    (λ down. inr (
      RoundsOn-monotone n ((b + a) * n) p2 p c2 c many whole (mean_above n b a p1 p2 p2 down (omega (arith, ints))) second mean,
      RoundsOn-monotone ((b + a) * n) n p p1 c c1 whole many (mean_below n b a p1 p2 p1 (omega (arith, ints)) down) mean first,
    ))

-- ---- points

-- the whole point, as a rational one
abbrev pub whole : ℤ → ℤ → RationalPoint
whole x y = record {
  n = 1;
  x = x;
  y = y;
  positive = omega arith;
}

RoundsOn-itself : (c : ℤ) → RoundsOn 1 c c
RoundsOn-itself c = record {
  from = at_most (low 1 c) (twice (number c)) (omega arith);
  below = below (twice (number c)) (high 1 c) (omega arith);
}

-- a whole point rounds to itself
pub RoundsTo-itself : (x y : ℤ) → RoundsTo (whole x y) x y
RoundsTo-itself x y = record {
  along_x = RoundsOn-itself x;
  along_y = RoundsOn-itself y;
}

-- a point rounds to one whole point
pub RoundsTo-unique : (point : RationalPoint) (x y other_x other_y : ℤ) → RoundsTo point x y → RoundsTo point other_x other_y → (x ≡ other_x) × (y ≡ other_y)
RoundsTo-unique point x y other_x other_y first second = (
  RoundsOn-unique point.n point.x x other_x point.positive first.along_x second.along_x,
  RoundsOn-unique point.n point.y y other_y point.positive first.along_y second.along_y,
)
