-- Numbers with their signs.
use Rattle.std.proofs.Common.{◌≡◌, ℕ, zero, suc, ◌+◌, ◌*◌, ◌^◌, ◌<◌, ◌↔◌, Bool, true, false, List, sym, ◌∙◌, ap, arith}
use Rattle.std.specs.Prelude.{ℤ, pos, negsuc, ◌+ℤ◌, ◌-ℤ◌, ◌*ℤ◌, neg_ℤ, ◌<ℤ◌, not}
use Rattle.std.proofs.Math.IntN.{*ℤ-zero, *ℤ-negsuc, *ℤ_comm, neg_ℤ-neg_ℤ, pos-*ℤ-pos}
use Rattle.std.proofs.Math.Bool.{beq}
use Rattle.std.proofs.lemmas.Int.{ints}
use Rattle.std.proofs.lemmas.Nat.{pow-add}
use Rattle.grid.specs.Parts.{signed}
use Rattle.grid.specs.Places.{number_of, left_of}

-- The sign of a factor is a sign of the product.
pub mul-neg_right : (m k : ℤ) → m *ℤ neg_ℤ k ≡ neg_ℤ (m *ℤ k)
mul-neg_right m (pos zero) = *ℤ-zero m ∙ sym (ap neg_ℤ (*ℤ-zero m))
mul-neg_right m (pos (suc n)) = *ℤ-negsuc m n
mul-neg_right m (negsuc n) = sym (ap neg_ℤ (*ℤ-negsuc m n) ∙ neg_ℤ-neg_ℤ (m *ℤ pos (suc n)))

pub mul-neg_left : (m k : ℤ) → neg_ℤ m *ℤ k ≡ neg_ℤ (m *ℤ k)
mul-neg_left m k = *ℤ_comm (neg_ℤ m) k ∙ mul-neg_right k m ∙ ap neg_ℤ (*ℤ_comm k m)

pub signed-mul : (a b : Bool) (m n : ℕ) → signed a m *ℤ signed b n ≡ signed (not (beq a b)) (m * n)
signed-mul true true m n = mul-neg_left (pos m) (neg_ℤ (pos n)) ∙ ap neg_ℤ (mul-neg_right (pos m) (pos n)) ∙ neg_ℤ-neg_ℤ (pos m *ℤ pos n) ∙ pos-*ℤ-pos m n
signed-mul true false m n = mul-neg_left (pos m) (pos n) ∙ ap neg_ℤ (pos-*ℤ-pos m n)
signed-mul false true m n = mul-neg_right (pos m) (pos n) ∙ ap neg_ℤ (pos-*ℤ-pos m n)
signed-mul false false m n = pos-*ℤ-pos m n

powers_apart : (m n p q : ℕ) → m * n * (p * q) ≡ m * p * (n * q)
powers_apart m n p q = omega arith

-- Of two numbers that are each a mantissa times a power of two.
pub signed-mul_powers : (a b : Bool) (m n d e : ℕ) → signed (not (beq a b)) (m * n * 2 ^ (d + e)) ≡ signed a (m * 2 ^ d) *ℤ signed b (n * 2 ^ e)
signed-mul_powers a b m n d e =
    ap (λ (k : ℕ). signed (not (beq a b)) k) (ap (λ (k : ℕ). m * n * k) (pow-add 2 d e) ∙ powers_apart m n (2 ^ d) (2 ^ e))
    ∙ sym (signed-mul a b (m * 2 ^ d) (n * 2 ^ e))

-- What is added, and what is taken.
pub left_of-add : (added taken more : List ℕ) (n : ℕ) → number_of more ≡ number_of added + n → left_of more taken ≡ left_of added taken +ℤ signed false n
unfolding left_of
left_of-add added taken more n h = omega (arith, ints)

pub left_of-take : (added taken more : List ℕ) (n : ℕ) → number_of more ≡ number_of taken + n → left_of added more ≡ left_of added taken +ℤ signed true n
unfolding left_of
left_of-take added taken more n h = omega (arith, ints)

pub left_of-none : (added taken : List ℕ) → number_of added ≡ 0 → number_of taken ≡ 0 → left_of added taken ≡ pos 0
unfolding left_of
left_of-none added taken h k = omega (arith, ints)

-- More was added than taken where what is left is above 0.
pub left_of-positive : (added taken : List ℕ) → (number_of taken < number_of added) ↔ (pos 0 <ℤ left_of added taken)
unfolding left_of
left_of-positive added taken = (λ h. omega (arith, ints), λ h. omega (arith, ints))

-- The product of one number by another's opposite is taken.
after_both : (old a p one two : ℤ) → one ≡ old +ℤ a → two ≡ one +ℤ neg_ℤ p → two ≡ old +ℤ (a -ℤ p)
after_both old a p one two h k = omega (arith, ints)

pub after_edge : (old a x y opposite one two : ℤ) → opposite ≡ neg_ℤ y → one ≡ old +ℤ a → two ≡ one +ℤ (x *ℤ opposite) → two ≡ old +ℤ (a -ℤ (x *ℤ y))
after_edge old a x y opposite one two e h k = after_both old a (x *ℤ y) one two h (k ∙ ap (λ (n : ℤ). one +ℤ n) (ap (λ (n : ℤ). x *ℤ n) e ∙ mul-neg_right x y))
