-- Signs of products of whole numbers.
use Rattle.std.proofs.Common.{arith, negsuc, pos, ℤ, ◌*ℤ◌, ◌-ℤ◌, ◌≡◌, ◌≤ℤ◌, ◌<ℤ◌}
use Rattle.std.proofs.lemmas.Int.{by_lt_z, ints}
pub use Rattle.noding.proofs.SnapLemmas.Numbers.{product_positive as positive-product}
use Rattle.plane.proofs.MeetLemmas.Identities.{Term, identity, minus, number, plus, times}

-- 0, as an expression
abbrev pub none : Term
none = number (pos 0)

-- A product of numbers that aren't negative isn't either.
pub above-product : (a b : ℤ) → pos 0 ≤ℤ a → pos 0 ≤ℤ b → pos 0 ≤ℤ (a *ℤ b)
above-product (pos a) (pos b) first second = omega (arith, ints)
above-product (negsuc a) b first second = absurd (omega (arith, ints, first))
above-product (pos a) (negsuc b) first second = absurd (omega (arith, ints, second))

turned : (k z : ℤ) → (k *ℤ (pos 0 -ℤ z)) ≡ (pos 0 -ℤ (k *ℤ z))
turned k z = identity (times (number k) (minus none (number z))) (minus none (times (number k) (number z))) (omega arith)

-- A number has the sign of its product with a positive one.
pub above-factor : (k z : ℤ) → pos 0 <ℤ k → pos 0 ≤ℤ (k *ℤ z) → pos 0 ≤ℤ z
above-factor k z some above = by_lt_z z (pos 0)
    (λ below.
    let other = positive-product k (pos 0 -ℤ z) some (omega (arith, ints, below)) in
    let turn = turned k z in
    absurd (omega (arith, ints, other, turn, above)))
    (λ from. from)

pub positive-factor : (k z : ℤ) → pos 0 <ℤ k → pos 0 <ℤ (k *ℤ z) → pos 0 <ℤ z
positive-factor k z some above = by_lt_z (pos 0) z
    (λ from. from)
    (λ below.
    let other = above-product k (pos 0 -ℤ z) (omega (arith, ints, some)) (omega (arith, ints, below)) in
    let turn = turned k z in
    absurd (omega (arith, ints, other, turn, above)))

-- Products by one number that isn't negative are in the order of the other factors.
pub scaled-most : (k a b : ℤ) → pos 0 ≤ℤ k → a ≤ℤ b → (k *ℤ a) ≤ℤ (k *ℤ b)
scaled-most k a b some below =
    let above = above-product k (b -ℤ a) some (omega (arith, ints, below)) in
    let same = identity (times (number k) (minus (number b) (number a))) (minus (times (number k) (number b)) (times (number k) (number a))) (omega arith) in
    omega (arith, ints, above, same)

-- and the factors in the order of products by a positive number
pub unscaled-most : (k a b : ℤ) → pos 0 <ℤ k → (k *ℤ a) ≤ℤ (k *ℤ b) → a ≤ℤ b
unscaled-most k a b some below =
    let same = identity (times (number k) (minus (number b) (number a))) (minus (times (number k) (number b)) (times (number k) (number a))) (omega arith) in
    let above = above-factor k (b -ℤ a) some (omega (arith, ints, below, same)) in
    omega (arith, ints, above)

-- The order of fractions a / b, c / d and e / f, under which positive numbers stand, by their cross products: it is handed on.
pub fractions-most : (a b c d e f : ℤ) → pos 0 <ℤ b → pos 0 <ℤ d → pos 0 <ℤ f → (a *ℤ d) ≤ℤ (c *ℤ b) → (c *ℤ f) ≤ℤ (e *ℤ d) → (a *ℤ f) ≤ℤ (e *ℤ b)
fractions-most a b c d e f b_some d_some f_some first second =
    let one = above-product f ((c *ℤ b) -ℤ (a *ℤ d)) (omega (arith, ints, f_some)) (omega (arith, ints, first)) in
    let other = above-product b ((e *ℤ d) -ℤ (c *ℤ f)) (omega (arith, ints, b_some)) (omega (arith, ints, second)) in
    let n = λ (z : ℤ). number z in
    let by = λ (s t : Term). times s t in
    let same = identity
    (by (n d) (minus (by (n e) (n b)) (by (n a) (n f))))
    (plus (by (n f) (minus (by (n c) (n b)) (by (n a) (n d)))) (by (n b) (minus (by (n e) (n d)) (by (n c) (n f)))))
    (omega arith) in
    let above = above-factor d ((e *ℤ b) -ℤ (a *ℤ f)) d_some (omega (arith, ints, one, other, same)) in
    omega (arith, ints, above)
