-- A common multiple of numbers, and multiples of fractions by it.
use Rattle.std.proofs.Common.{◌≡◌, ℕ, zero, suc, ◌+◌, ◌*◌, ◌/◌, ◌<◌, ℤ, pos, ◌-ℤ◌, ◌*ℤ◌, ◌<ℤ◌, List, [], ◌∷◌, ap, ap₂, arith, sym, subst, ◌∙◌}
use Rattle.std.specs.List.{All, Contains}
use Rattle.std.proofs.Math.Nat.{mul-pos}
use Rattle.std.proofs.lemmas.Int.{ints, by_lt_z}
use Rattle.std.proofs.lemmas.List.Elements.{All-head, All-tail, All-contains}
use Rattle.std.proofs.lemmas.Nat.{div-mul-add}
use Rattle.plane.proofs.MeetLemmas.Identities.{number, minus, times, identity}
use Rattle.plane.proofs.SweepLineLemmas.Gaps.{product_above}
use Rattle.noding.proofs.SnapLemmas.Numbers.{n_of, product_positive}

-- The product of what the elements give.
abbrev pub product : {X : Type 0} → (X → ℕ) → List X → ℕ
product f [] = 1
product f (x ∷ xs) = f x * product f xs

-- a multiple of a number
record IsMultiple (n m : ℕ) : Type 0 where
  factor : ℕ
  is : m ≡ factor * n

first_divides : (n m : ℕ) → IsMultiple n (n * m)
first_divides n m = record { factor = m; is = omega arith }

assoc : (a b c : ℕ) → a * (b * c) ≡ (a * b) * c
assoc a b c = omega arith

further_divides : (n m k : ℕ) → IsMultiple n m → IsMultiple n (k * m)
further_divides n m k found = record { factor = k * found.factor; is = ap (λ z. k * z) found.is ∙ assoc k found.factor n }

-- it is a multiple by the quotient
plain : (a : ℕ) → a ≡ a + 0
plain a = omega arith

quotient : (n m : ℕ) → 0 < n → IsMultiple n m → (m / n) * n ≡ m
quotient n m some found =
    let whole : m ≡ found.factor * n + 0 = found.is ∙ plain (found.factor * n) in
    ap (λ z. (z / n) * n) whole ∙ ap (λ z. z * n) (div-mul-add found.factor n 0 some) ∙ sym found.is

module _ {X : Type 0} (f : X → ℕ) where
  -- the product isn't 0 where no factor is
  pub product-some : (xs : List X) → All (λ x. 0 < f x) xs → 0 < product f xs
  product-some [] all = omega arith
  product-some (x ∷ xs) all = mul-pos {m = f x} {n = product f xs} (All-head (λ x. 0 < f x) x xs all) (product-some xs (All-tail (λ x. 0 < f x) x xs all))

  -- each factor divides it
  divides : (xs : List X) (x : X) → Contains xs x → IsMultiple (f x) (product f xs)
  divides [] x (k, inside, is) = absurd (omega (arith, inside))
  divides (y ∷ ys) x (zero, inside, is) = subst (λ z. IsMultiple (f z) (f y * product f ys)) is (first_divides (f y) (product f ys))
  divides (y ∷ ys) x (suc k, inside, is) = further_divides (f x) (product f ys) (f y) (divides ys x (k, omega (arith, inside), is))

  -- So the quotient by a factor, times the factor, is the product.
  pub product-shared : (xs : List X) (x : X) → All (λ x. 0 < f x) xs → Contains xs x → (product f xs / f x) * f x ≡ product f xs
  product-shared xs x all among = quotient (f x) (product f xs) (All-contains (λ x. 0 < f x) xs x all among) (divides xs x among)

-- Of two fractions by numbers that k and h multiply to one number, the lesser one is the lesser multiple.
pub shared-order : (a b m n k h : ℤ) (d : ℕ) → 0 < d → pos 0 <ℤ m → pos 0 <ℤ n → (k *ℤ m) ≡ pos d → (h *ℤ n) ≡ pos d → (a *ℤ n) <ℤ (b *ℤ m) → (k *ℤ a) <ℤ (h *ℤ b)
shared-order a b m n k h d some some_m some_n one other less =
    by_lt_z (k *ℤ a) (h *ℤ b) (λ is. is)
    (λ back.
    let from = product_above (m *ℤ n) ((k *ℤ a) -ℤ (h *ℤ b)) (let here = product_positive m n some_m some_n in omega (arith, ints, here)) (omega (arith, ints, back)) in
    let split : ((m *ℤ n) *ℤ ((k *ℤ a) -ℤ (h *ℤ b))) ≡ (((k *ℤ m) *ℤ (a *ℤ n)) -ℤ ((h *ℤ n) *ℤ (b *ℤ m))) =
    identity (times (times (number m) (number n)) (minus (times (number k) (number a)) (times (number h) (number b))))
    (minus (times (times (number k) (number m)) (times (number a) (number n))) (times (times (number h) (number n)) (times (number b) (number m))))
    (omega arith) in
    let same : (((k *ℤ m) *ℤ (a *ℤ n)) -ℤ ((h *ℤ n) *ℤ (b *ℤ m))) ≡ ((pos d *ℤ (a *ℤ n)) -ℤ (pos d *ℤ (b *ℤ m))) = ap₂ (λ y z. (y *ℤ (a *ℤ n)) -ℤ (z *ℤ (b *ℤ m))) one other in
    let apart = product_positive (pos d) ((b *ℤ m) -ℤ (a *ℤ n)) (omega (arith, ints, some)) (omega (arith, ints, less)) in
    let is : (pos d *ℤ ((b *ℤ m) -ℤ (a *ℤ n))) ≡ ((pos d *ℤ (b *ℤ m)) -ℤ (pos d *ℤ (a *ℤ n))) =
    identity (times (n_of d) (minus (times (number b) (number m)) (times (number a) (number n)))) (minus (times (n_of d) (times (number b) (number m))) (times (n_of d) (times (number a) (number n)))) (omega arith) in
    absurd (omega (arith, ints, from, split, same, apart, is)))
