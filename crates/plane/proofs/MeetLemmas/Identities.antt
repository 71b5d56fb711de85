-- Identities of whole numbers: sums, differences and products of them are compared as polynomials.
use Rattle.std.proofs.Common.{◌≡◌, ℕ, ◌+◌, ◌*◌, ◌<◌, ◌≤◌, ℤ, pos, ◌+ℤ◌, ◌-ℤ◌, ◌*ℤ◌, ◌≤ℤ◌, arith, refl, ap, suc, ◌^◌, negsuc, FitsSigned, w64}
use Rattle.std.specs.Int.RustNames.{unsigned_abs}
use Rattle.std.proofs.lemmas.Int.{ints}
use Rattle.std.proofs.lemmas.Nat.{mul-le}
use Rattle.std.proofs.Math.Nat.{le_of_mul-le-mul_left}
use Rattle.plane.specs.Meet.Crosses.{IsWithin}
use borrow.Author.Differences.{up, down, product_is, same_in, sum_is_lem, at_most_in, le_out}

-- An expression over whole numbers.
pub data Term : Type 0 where
  number : ℤ → Term
  plus : Term → Term → Term
  minus : Term → Term → Term
  times : Term → Term → Term

-- What it stands for.
abbrev pub value : Term → ℤ
value (number z) = z
value (plus s t) = value s +ℤ value t
value (minus s t) = value s -ℤ value t
value (times s t) = value s *ℤ value t

-- Two natural numbers of which it is the difference.
abbrev mutual
  pub more : Term → ℕ
  more (number z) = up z
  more (plus s t) = more s + more t
  more (minus s t) = more s + less t
  more (times s t) = more s * more t + less s * less t

  pub less : Term → ℕ
  less (number z) = down z
  less (plus s t) = less s + less t
  less (minus s t) = less s + more t
  less (times s t) = more s * less t + less s * more t

products : (a b c d p q r s : ℕ) → a + q ≡ p + b → c + s ≡ r + d → (a * c + b * d) + (p * s + q * r) ≡ (p * r + q * s) + (a * d + b * c)
products a b c d p q r s first second =
    omega (arith, ap (λ n. n * c) first, ap (λ n. n * d) first, ap (λ n. p * n) second, ap (λ n. q * n) second)

reads : (t : Term) → up (value t) + less t ≡ more t + down (value t)
reads (number z) = refl
reads (plus s t) = omega (arith, reads s, reads t, sum_is_lem (value s) (value t))
reads (minus s t) = omega (arith, ints, reads s, reads t)
reads (times s t) =
    omega (arith, product_is (value s) (value t), products (up (value s)) (down (value s)) (up (value t)) (down (value t)) (more s) (less s) (more t) (less t) (reads s) (reads t))

-- two expressions that are one polynomial stand for one number
pub identity : (s t : Term) → more s + less t ≡ more t + less s → value s ≡ value t
identity s t same = same_in (value s) (value t) (omega (arith, reads s, reads t))

-- where one polynomial isn't above another, neither is what it stands for
pub at_most : (s t : Term) → more s + less t ≤ more t + less s → value s ≤ℤ value t
at_most s t below = at_most_in (value s) (value t) (omega (arith, reads s, reads t))

-- the same, from the numbers to the polynomials
pub at_most_of : (s t : Term) → value s ≤ℤ value t → more s + less t ≤ more t + less s
at_most_of s t below = omega (arith, reads s, reads t, le_out (value s) (value t) below)

-- a natural multiple keeps an order
pub scaled : (k : ℕ) (a b : ℤ) → a ≤ℤ b → (pos k *ℤ a) ≤ℤ (pos k *ℤ b)
scaled k a b below =
    at_most (times (number (pos k)) (number a)) (times (number (pos k)) (number b)) (omega (arith, mul-le k (up a + down b) k (up b + down a) (omega arith) (le_out a b below)))

-- and an order of multiples by a positive number is one of the numbers
pub unscaled : (k : ℕ) (a b : ℤ) → 0 < k → (pos k *ℤ a) ≤ℤ (pos k *ℤ b) → a ≤ℤ b
unscaled k a b some below =
    at_most_in a b (le_of_mul-le-mul_left {m = up a + down b} {n = up b + down a} {k = k} (omega (arith, at_most_of (times (number (pos k)) (number a)) (times (number (pos k)) (number b)) below)) some)

-- two expressions for one number are one polynomial, up to what both sides lack
pub same_of : (s t : Term) → value s ≡ value t → more s + less t ≡ more t + less s
same_of s t same = omega (arith, reads s, reads t, ap up same, ap down same)

-- the product of two numbers of 64 bits takes 127 bits and a sign, and only the least number's square takes the last one
pub product_upto : (a b : ℤ) → FitsSigned w64 a → FitsSigned w64 b → (a *ℤ b) ≤ℤ pos (2 ^ 126)
product_upto (pos a) (pos b) first second = omega (arith, ints, mul-le a b (2 ^ 63) (2 ^ 63) (omega (arith, first.sfits)) (omega (arith, second.sfits)))
product_upto (pos a) (negsuc b) first second = omega (arith, ints)
product_upto (negsuc a) (pos b) first second = omega (arith, ints)
product_upto (negsuc a) (negsuc b) first second =
    omega (arith, ints, mul-le (suc a) (suc b) (2 ^ 63) (2 ^ 63) (omega (arith, first.sfits)) (omega (arith, second.sfits)))

pub abs_upto : (z : ℤ) → FitsSigned w64 z → unsigned_abs z ≤ 2 ^ 63
abs_upto (pos n) fits = omega (arith, fits.sfits)
abs_upto (negsuc n) fits = omega (arith, fits.sfits)

-- ---- bounds of products

within_of : (a b : ℤ) (m n : ℕ) → down a * up b + up a * down b ≤ m * n + (up a * up b + down a * down b) → up a * up b + down a * down b ≤ m * n + (down a * up b + up a * down b) → IsWithin (m * n) (a *ℤ b)
within_of a b m n first second = record {
  from = at_most (minus (number (pos 0)) (number (pos (m * n)))) (times (number a) (number b)) (omega (arith, first));
  upto = at_most (times (number a) (number b)) (number (pos (m * n))) (omega (arith, second));
}

-- a product lies within the product of the bounds
pub IsWithin-product : (a b : ℤ) (m n : ℕ) → IsWithin m a → IsWithin n b → IsWithin (m * n) (a *ℤ b)
IsWithin-product (pos a) (pos b) m n first second =
    let upto = mul-le a b m n (omega (arith, ints, first.upto)) (omega (arith, ints, second.upto)) in
    within_of (pos a) (pos b) m n (omega arith) (omega (arith, upto))
IsWithin-product (pos a) (negsuc b) m n first second =
    let upto = mul-le a (suc b) m n (omega (arith, ints, first.upto)) (omega (arith, ints, second.from)) in
    within_of (pos a) (negsuc b) m n (omega (arith, upto)) (omega arith)
IsWithin-product (negsuc a) (pos b) m n first second =
    let upto = mul-le (suc a) b m n (omega (arith, ints, first.from)) (omega (arith, ints, second.upto)) in
    within_of (negsuc a) (pos b) m n (omega (arith, upto)) (omega arith)
IsWithin-product (negsuc a) (negsuc b) m n first second =
    let upto = mul-le (suc a) (suc b) m n (omega (arith, ints, first.from)) (omega (arith, ints, second.from)) in
    within_of (negsuc a) (negsuc b) m n (omega arith) (omega (arith, upto))
