-- Lemmas on whole numbers alone: orders as polynomials, tests that agree, signs and bounds of products.
use Rattle.std.proofs.Common.{Bool, FitsSigned, ap, arith, false, negsuc, pos, refl, suc, sym, true, zero, ℕ, ℤ, ◌*ℤ◌, ◌*◌, ◌^◌, ◌+ℤ◌, ◌+◌, ◌-ℤ◌, ◌<ℤ◌, ◌<◌, ◌∙◌, ◌≡◌, ◌≢◌, ◌≤ℤ◌}
use Rattle.std.proofs.Math.Nat.{eq_of_mul-eq-mul_left, mul-pos}
use Rattle.std.proofs.lemmas.Int.{by_lt_z, ints}
use Rattle.std.specs.Int.{w128}
use Rattle.std.specs.Int.RustNames.{unsigned_abs}
use Rattle.std.specs.Prelude.{int_le}
use borrow.Author.Differences.{down, up}
use Rattle.plane.specs.Meet.Crosses.{IsWithin, cross}
use Rattle.plane.proofs.MeetLemmas.Identities.{Term, at_most, at_most_of, identity, less, minus, more, number, plus, same_of, scaled, times, value}

-- a natural number, as an expression
abbrev pub n_of : ℕ → Term
n_of n = number (pos n)

abbrev pub minus_of : ℕ → Term
minus_of n = minus (n_of 0) (n_of n)

-- strict orders, as polynomials
pub below_of : (s t : Term) → value s <ℤ value t → more s + less t < more t + less s
below_of s t h = omega (arith, at_most_of (plus s (n_of 1)) t (omega (arith, ints)))

pub below : (s t : Term) → more s + less t < more t + less s → value s <ℤ value t
below s t h =
    let weak = at_most (plus s (n_of 1)) t (omega arith) in
    omega (arith, ints)

-- ---- numbers that aren't negative

-- a number that isn't negative
pub record Natural (z : ℤ) : Type 0 where
  pub k : ℕ
  pub is : z ≡ pos k

-- each such number is natural
pub natural : (z : ℤ) → pos 0 ≤ℤ z → Natural z
natural (pos k) from = record { k = k; is = refl }
natural (negsuc k) from = absurd (omega (arith, ints, from))

-- a number by its natural parts
pub up_is : (z : ℤ) → pos 0 ≤ℤ z → pos (up z) ≡ z
up_is (pos n) above = refl
up_is (negsuc n) above = absurd (omega (arith, ints))

pub down_is : (z : ℤ) → z ≤ℤ pos 0 → pos (down z) ≡ (pos 0 -ℤ z)
down_is (pos n) below = omega (arith, ints)
down_is (negsuc n) below = omega (arith, ints)

pub above_sum : (a b : ℤ) → pos 0 ≤ℤ a → pos 0 ≤ℤ b → pos 0 ≤ℤ (a +ℤ b)
above_sum a b first second = omega (arith, ints)

pub both_zero : (a b : ℤ) → a ≡ pos 0 → b ≡ pos 0 → (a +ℤ b) ≡ pos 0
both_zero a b first second = omega (arith, ints, first, second)

pub both : (a b c d : ℤ) → a ≡ b → c ≡ d → (a +ℤ c) ≡ (b +ℤ d)
both a b c d first second = ap (λ z. z +ℤ c) first ∙ ap (λ z. b +ℤ z) second

-- ---- two tests that agree

-- tests of which neither is true alone
pub same_test : (a b c d : ℤ) → (a ≤ℤ b → d <ℤ c → ⊥) → (c ≤ℤ d → b <ℤ a → ⊥) → int_le a b ≡ int_le c d
same_test a b c d first second = by (int_le a b) (int_le c d) refl refl
  where
    by : (s t : Bool) → int_le a b ≡ s → int_le c d ≡ t → s ≡ t
    by true true e f = refl
    by false false e f = refl
    by true false e f = absurd (first (omega (arith, ints, e)) (omega (arith, ints, f)))
    by false true e f = absurd (second (omega (arith, ints, f)) (omega (arith, ints, e)))

-- ---- signs of z where n z is k d

-- a product of positive numbers
pub product_positive : (k d : ℤ) → pos 0 <ℤ k → pos 0 <ℤ d → pos 0 <ℤ (k *ℤ d)
product_positive (pos k) (pos d) first second =
    let some = mul-pos {m = k} {n = d} (omega (arith, ints, first)) (omega (arith, ints, second)) in omega (arith, ints, some)
product_positive (negsuc k) d first second = absurd (omega (arith, ints, first))
product_positive (pos k) (negsuc d) first second = absurd (omega (arith, ints, second))

-- z has the sign of k d
pub positive_by : (n : ℕ) (z k d : ℤ) → (pos n *ℤ z) ≡ (k *ℤ d) → pos 0 <ℤ k → pos 0 <ℤ d → pos 0 <ℤ z
positive_by n z k d is first second =
    let some = product_positive k d first second in
    let none = identity (times (n_of n) (n_of 0)) (n_of 0) (omega arith) in
    by_lt_z (pos 0) z (λ above. above) (λ below.
    let upto = scaled n z (pos 0) below in absurd (omega (arith, ints, some, upto, is, none)))

-- the same with signs turned
pub negate : (n : ℕ) (z k d : ℤ) → (pos n *ℤ z) ≡ (k *ℤ d) → (pos n *ℤ (pos 0 -ℤ z)) ≡ (k *ℤ (pos 0 -ℤ d))
negate n z k d is =
    let fact = same_of (times (n_of n) (number z)) (times (number k) (number d)) is in
    identity (times (n_of n) (minus (n_of 0) (number z))) (times (number k) (minus (n_of 0) (number d))) (omega (arith, fact))

pub negate_times : (n : ℕ) (z k d : ℤ) → (pos n *ℤ z) ≡ ((pos 0 -ℤ k) *ℤ d) → (pos n *ℤ (pos 0 -ℤ z)) ≡ (k *ℤ d)
negate_times n z k d is =
    let fact = same_of (times (n_of n) (number z)) (times (minus (n_of 0) (number k)) (number d)) is in
    identity (times (n_of n) (minus (n_of 0) (number z))) (times (number k) (number d)) (omega (arith, fact))

pub negate_both : (n : ℕ) (z k d : ℤ) → (pos n *ℤ z) ≡ ((pos 0 -ℤ k) *ℤ (pos 0 -ℤ d)) → (pos n *ℤ z) ≡ (k *ℤ d)
negate_both n z k d is =
    is ∙ identity (times (minus (n_of 0) (number k)) (minus (n_of 0) (number d))) (times (number k) (number d)) (omega arith)

pub negate_back : (n : ℕ) (z k d : ℤ) → (pos n *ℤ z) ≡ (k *ℤ (pos 0 -ℤ d)) → (pos n *ℤ (pos 0 -ℤ z)) ≡ (k *ℤ d)
negate_back n z k d is =
    negate n z k (pos 0 -ℤ d) is ∙ identity (times (number k) (minus (n_of 0) (minus (n_of 0) (number d)))) (times (number k) (number d)) (omega arith)

-- z is 0 where d is
pub zero_by : (n : ℕ) (z k d : ℤ) → 0 < n → (pos n *ℤ z) ≡ (k *ℤ d) → d ≡ pos 0 → z ≡ pos 0
zero_by n z k d some is none =
    let product : (pos n *ℤ z) ≡ pos 0 = is ∙ ap (λ w. k *ℤ w) none ∙ identity (times (number k) (n_of 0)) (n_of 0) (omega arith) in
    by_lt_z (pos 0) z
    (λ above. let found = product_positive (pos n) z (omega (arith, ints)) above in absurd (omega (arith, ints, found, product)))
    (λ upto. by_lt_z z (pos 0)
    (λ below.
    let back = negate n z (pos 0) (pos 0) (product ∙ identity (n_of 0) (times (n_of 0) (n_of 0)) (omega arith)) in
    let found = product_positive (pos n) (pos 0 -ℤ z) (omega (arith, ints)) (omega (arith, ints)) in
    absurd (omega (arith, ints, found, back)))
    (λ from. omega (arith, ints)))

pub negative : (z : ℤ) → pos 0 <ℤ (pos 0 -ℤ z) → z <ℤ pos 0
negative z below = omega (arith, ints)

pub double : (z : ℤ) → pos 0 <ℤ (pos 0 -ℤ (pos 0 -ℤ z)) → pos 0 <ℤ z
double z above = omega (arith, ints)

-- ---- cross products

-- the other way first
pub cross-exchanged : (ux uy vx vy : ℤ) → cross vx vy ux uy ≡ (pos 0 -ℤ cross ux uy vx vy)
cross-exchanged ux uy vx vy =
    let turn : ℤ → ℤ → ℤ → ℤ → Term = λ a b c d. minus (times (number a) (number d)) (times (number b) (number c)) in
    identity (turn vx vy ux uy) (minus (n_of 0) (turn ux uy vx vy)) (omega arith)

-- ---- two shares of one point

-- two shares by which one number is the same part of another are in one ratio
pub share_same : (n m b c : ℕ) (l d : ℤ) → (pos n *ℤ l) ≡ ((pos 0 -ℤ pos b) *ℤ d) → (pos m *ℤ l) ≡ ((pos 0 -ℤ pos c) *ℤ d) → d ≢ pos 0 → b * m ≡ c * n
share_same n m b c l (pos zero) first second some = absurd (some refl)
share_same n m b c l (pos (suc k)) first second some =
    let one = same_of (times (n_of n) (number l)) (times (minus (n_of 0) (n_of b)) (number (pos (suc k)))) first in
    let other = same_of (times (n_of m) (number l)) (times (minus (n_of 0) (n_of c)) (number (pos (suc k)))) second in
    eq_of_mul-eq-mul_left (suc k) (omega arith) (b * m) (c * n) (omega (arith, ap (λ z. m * z) one, ap (λ z. n * z) other))
share_same n m b c l (negsuc k) first second some =
    let one = same_of (times (n_of n) (number l)) (times (minus (n_of 0) (n_of b)) (number (negsuc k))) first in
    let other = same_of (times (n_of m) (number l)) (times (minus (n_of 0) (n_of c)) (number (negsuc k))) second in
    eq_of_mul-eq-mul_left (suc k) (omega arith) (b * m) (c * n) (omega (arith, ap (λ z. m * z) one, ap (λ z. n * z) other))

-- where a way is j of the one way and k of the other, its cross product with the one is k times theirs
pub side : (n : ℕ) (j k ux uy vx vy wx wy : ℤ) → (pos n *ℤ wx) ≡ ((j *ℤ ux) +ℤ (k *ℤ vx)) → (pos n *ℤ wy) ≡ ((j *ℤ uy) +ℤ (k *ℤ vy)) → (pos n *ℤ cross ux uy wx wy) ≡ (k *ℤ cross ux uy vx vy)
side n j k ux uy vx vy wx wy along_x along_y =
    let turn : Term → Term → Term → Term → Term = λ a b c d. minus (times a d) (times b c) in
    let sum : ℤ → ℤ → Term = λ u v. plus (times (number j) (number u)) (times (number k) (number v)) in
    identity (times (n_of n) (turn (number ux) (number uy) (number wx) (number wy))) (turn (number ux) (number uy) (times (n_of n) (number wx)) (times (n_of n) (number wy))) (omega arith)
    ∙ ap (λ z. cross ux uy z (pos n *ℤ wy)) along_x
    ∙ ap (λ z. cross ux uy ((j *ℤ ux) +ℤ (k *ℤ vx)) z) along_y
    ∙ identity (turn (number ux) (number uy) (sum ux vx) (sum uy vy)) (times (number k) (turn (number ux) (number uy) (number vx) (number vy))) (omega arith)

-- the way from one edge's start to another's, and to its end, by the shares of a common point
pub way_from : (n a b : ℕ) (p c0 c1 d0 d1 : ℤ) → p ≡ ((pos n *ℤ c0) +ℤ (pos a *ℤ (c1 -ℤ c0))) → p ≡ ((pos n *ℤ d0) +ℤ (pos b *ℤ (d1 -ℤ d0))) → (pos n *ℤ (d0 -ℤ c0)) ≡ ((pos a *ℤ (c1 -ℤ c0)) +ℤ ((pos 0 -ℤ pos b) *ℤ (d1 -ℤ d0)))
way_from n a b p c0 c1 d0 d1 first second =
    let at : ℕ → ℤ → ℤ → Term = λ s z0 z1. plus (times (n_of n) (number z0)) (times (n_of s) (minus (number z1) (number z0))) in
    let fact = same_of (at a c0 c1) (at b d0 d1) (sym first ∙ second) in
    identity (times (n_of n) (minus (number d0) (number c0))) (plus (times (n_of a) (minus (number c1) (number c0))) (times (minus (n_of 0) (n_of b)) (minus (number d1) (number d0)))) (omega (arith, fact))

pub way_to : (n a b : ℕ) (p c0 c1 d0 d1 : ℤ) → p ≡ ((pos n *ℤ c0) +ℤ (pos a *ℤ (c1 -ℤ c0))) → p ≡ ((pos n *ℤ d0) +ℤ (pos b *ℤ (d1 -ℤ d0))) → (pos n *ℤ (d1 -ℤ c0)) ≡ ((pos a *ℤ (c1 -ℤ c0)) +ℤ ((pos n -ℤ pos b) *ℤ (d1 -ℤ d0)))
way_to n a b p c0 c1 d0 d1 first second =
    let at : ℕ → ℤ → ℤ → Term = λ s z0 z1. plus (times (n_of n) (number z0)) (times (n_of s) (minus (number z1) (number z0))) in
    let fact = same_of (at a c0 c1) (at b d0 d1) (sym first ∙ second) in
    identity (times (n_of n) (minus (number d1) (number c0))) (plus (times (n_of a) (minus (number c1) (number c0))) (times (minus (n_of n) (n_of b)) (minus (number d1) (number d0)))) (omega (arith, fact))

-- ---- bounds of sums

pub IsWithin-sum : (a b : ℤ) → IsWithin (2 ^ 98) a → IsWithin (2 ^ 98) b → IsWithin (2 ^ 99) (a +ℤ b)
IsWithin-sum a b first second =
    let a_from = first.from in
    let a_upto = first.upto in
    let b_from = second.from in
    let b_upto = second.upto in record {
      from = omega (arith, ints, a_from, b_from);
      upto = omega (arith, ints, a_upto, b_upto);
    }

pub fits-within : (z : ℤ) → IsWithin (2 ^ 99) z → FitsSigned w128 z
fits-within z within =
    let from = within.from in
    let upto = within.upto in
    omega (arith, ints, from, upto)

-- ---- absolute values

pub abs-negative : (z : ℤ) → unsigned_abs (pos 0 -ℤ z) ≡ unsigned_abs z
abs-negative (pos zero) = refl
abs-negative (pos (suc k)) = let below : pos 0 -ℤ pos (suc k) ≡ negsuc k = omega (arith, ints) in ap unsigned_abs below
abs-negative (negsuc k) = let same : pos 0 -ℤ negsuc k ≡ pos (suc k) = omega (arith, ints) in ap unsigned_abs same
