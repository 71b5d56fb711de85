-- Doubles are in the order of their bits, and those below 0 in the other one.
use Rattle.std.proofs.Common.{◌≡◌, ◌∙◌, ℕ, ℤ, pos, neg_ℤ, ◌+◌, ◌-◌, ◌*◌, ◌^◌, ◌<◌, ◌≤◌, ◌≤ℤ◌, Bool, true, false, cond, nat_eq, nat_lt, inl, inr, suc, zero, arith, ap, sym, subst, refl}
use Rattle.std.proofs.lemmas.Int.{ints}
use Rattle.std.proofs.lemmas.Bool.{cases_lt}
use Rattle.std.proofs.lemmas.Bool.Decides.{nat_tests}
use Rattle.std.proofs.Math.Dec.{leb}
use Rattle.std.specs.Bool.{MatchBool}
use Rattle.std.proofs.lemmas.Nat.{pow_pos, mul-le, pow-add}
use Rattle.std.proofs.Math.Pow.{pow_mono}
use Rattle.grid.specs.Doubles.{magnitude, exponent_field, fraction_field, in_leasts}

-- the magnitude by its two fields
value : ℕ → ℕ → ℕ
value zero f = f
value (suc e) f = (2 ^ 52 + f) * 2 ^ e

-- a greater field of the exponent outweighs all fractions
value_below : (e e' f f' : ℕ) → f < 2 ^ 52 → e < e' → value e f ≤ value e' f'
unfolding value
value_below e zero f f' small below = absurd (omega arith)
value_below zero (suc e') f f' small below =
    let one : 0 < 2 ^ e' = pow_pos e' in
    let most : 2 ^ 52 * 1 ≤ (2 ^ 52 + f') * 2 ^ e' = mul-le (2 ^ 52) 1 (2 ^ 52 + f') (2 ^ e') (omega arith) (omega arith) in
    omega arith
value_below (suc e) (suc e') f f' small below =
    let next : suc e ≤ e' = omega arith in
    let twice : 2 ^ suc e ≡ 2 * 2 ^ e = ap (λ (n : ℕ). 2 ^ n) (let n : suc e ≡ 1 + e = omega arith in n) ∙ pow-add 2 1 e in
    let power : 2 ^ suc e ≤ 2 ^ e' = pow_mono next in
    let first : (2 ^ 52 + f) * 2 ^ e ≤ 2 ^ 53 * 2 ^ e = mul-le (2 ^ 52 + f) (2 ^ e) (2 ^ 53) (2 ^ e) (omega arith) (omega arith) in
    let second : 2 ^ 52 * 2 ^ e' ≤ (2 ^ 52 + f') * 2 ^ e' = mul-le (2 ^ 52) (2 ^ e') (2 ^ 52 + f') (2 ^ e') (omega arith) (omega arith) in
    omega (arith, twice, power, first, second)

value_same : (e f f' : ℕ) → f ≤ f' → value e f ≤ value e f'
unfolding value
value_same zero f f' upto = upto
value_same (suc e) f f' upto = mul-le (2 ^ 52 + f) (2 ^ e) (2 ^ 52 + f') (2 ^ e) (omega arith) (omega arith)

not_zero : (e f n : ℕ) → cond (nat_eq (suc e) 0) f n ≡ n
not_zero e f n = grind (arith, nat_tests)

value_is : (e f : ℕ) → cond (nat_eq e 0) f ((2 ^ 52 + f) * 2 ^ (e - 1)) ≡ value e f
unfolding value
value_is zero f = refl
value_is (suc e) f = let same : suc e - 1 ≡ e = omega arith in not_zero e f ((2 ^ 52 + f) * 2 ^ (suc e - 1)) ∙ ap (λ (n : ℕ). (2 ^ 52 + f) * 2 ^ n) same

-- a mantissa has 53 bits
value_upto : (e f : ℕ) → f < 2 ^ 52 → value e f ≤ 9007199254740991 * 2 ^ (e - 1)
unfolding value
value_upto zero f small = omega arith
value_upto (suc e) f small =
    let same : suc e - 1 ≡ e = omega arith in
    subst (λ (n : ℕ). (2 ^ 52 + f) * 2 ^ e ≤ 9007199254740991 * 2 ^ n) (sym same)
    (mul-le (2 ^ 52 + f) (2 ^ e) 9007199254740991 (2 ^ e) (omega arith) (omega arith))

pub magnitude_upto : (bits : ℕ) → magnitude bits ≤ 9007199254740991 * 2 ^ (exponent_field bits - 1)
magnitude_upto bits =
    subst (λ (n : ℕ). n ≤ 9007199254740991 * 2 ^ (exponent_field bits - 1)) (sym (value_is (exponent_field bits) (fraction_field bits)))
    (value_upto (exponent_field bits) (fraction_field bits) (omega arith))

-- of two doubles above 0, the one with the lesser bits is at most the other
pub magnitude-mono : (u v : ℕ) → u ≤ v → v < 2 ^ 63 → magnitude u ≤ magnitude v
magnitude-mono u v upto within =
    let one = value_is (exponent_field u) (fraction_field u) in
    let other = value_is (exponent_field v) (fraction_field v) in
    let order : value (exponent_field u) (fraction_field u) ≤ value (exponent_field v) (fraction_field v) =
    elim (cases_lt (exponent_field u) (exponent_field v)) [
      | inl below ↦ value_below (exponent_field u) (exponent_field v) (fraction_field u) (fraction_field v) (omega arith) below
      | inr from ↦
          let same : exponent_field v ≡ exponent_field u = omega arith in
          subst (λ (e : ℕ). value (exponent_field u) (fraction_field u) ≤ value e (fraction_field v)) (sym same)
          (value_same (exponent_field u) (fraction_field u) (fraction_field v) (omega arith))
    ] in
    subst (λ (n : ℕ). n ≤ magnitude v) (sym one) (subst (λ (n : ℕ). value (exponent_field u) (fraction_field u) ≤ n) (sym other) order)

-- the sign's bit is in neither field
magnitude-sign : (u : ℕ) → 2 ^ 63 ≤ u → u < 2 ^ 64 → magnitude (u - 2 ^ 63) ≡ magnitude u
magnitude-sign u from within =
    let e : exponent_field (u - 2 ^ 63) ≡ exponent_field u = omega arith in
    let f : fraction_field (u - 2 ^ 63) ≡ fraction_field u = omega arith in
    ap (λ (n : ℕ). cond (nat_eq n 0) (fraction_field (u - 2 ^ 63)) ((2 ^ 52 + fraction_field (u - 2 ^ 63)) * 2 ^ (n - 1))) e
    ∙ ap (λ (n : ℕ). cond (nat_eq (exponent_field u) 0) n ((2 ^ 52 + n) * 2 ^ (exponent_field u - 1))) f

signed_above : (b : Bool) (m : ℕ) → b ≡ true → cond b (pos m) (neg_ℤ (pos m)) ≡ pos m
signed_above true m e = refl
signed_above false m e = cc

signed_below : (b : Bool) (m : ℕ) → b ≡ false → cond b (pos m) (neg_ℤ (pos m)) ≡ neg_ℤ (pos m)
signed_below true m e = cc
signed_below false m e = refl

above : (u : ℕ) → u < 2 ^ 63 → in_leasts u ≡ pos (magnitude u)
above u within = signed_above (nat_lt u (2 ^ 63)) (magnitude u) (grind arith)

below : (u : ℕ) → 2 ^ 63 ≤ u → in_leasts u ≡ neg_ℤ (pos (magnitude u))
below u from = signed_below (nat_lt u (2 ^ 63)) (magnitude u) (grind arith)

pub in_order_above : (u v : ℕ) → u ≤ v → v < 2 ^ 63 → in_leasts u ≤ℤ in_leasts v
in_order_above u v upto within =
    let h = magnitude-mono u v upto within in
    let R : ℤ → ℤ → Type 0 = λ a b. a ≤ℤ b in
    let order : pos (magnitude u) ≤ℤ pos (magnitude v) = of_order (magnitude u) (magnitude v) h in
    subst (λ (z : ℤ). z ≤ℤ in_leasts v) (sym (above u (omega arith))) (subst (λ (z : ℤ). pos (magnitude u) ≤ℤ z) (sym (above v within)) order)
  where
    of_order : (m n : ℕ) → m ≤ n → pos m ≤ℤ pos n
    of_order m n h = omega (arith, ints)

pub in_order_below : (u v : ℕ) → u ≤ v → 2 ^ 63 ≤ u → v < 2 ^ 64 → in_leasts v ≤ℤ in_leasts u
in_order_below u v upto from within =
    let h : magnitude (u - 2 ^ 63) ≤ magnitude (v - 2 ^ 63) = magnitude-mono (u - 2 ^ 63) (v - 2 ^ 63) (omega arith) (omega arith) in
    let order : neg_ℤ (pos (magnitude v)) ≤ℤ neg_ℤ (pos (magnitude u)) =
    of_order (magnitude u) (magnitude v) (subst (λ (n : ℕ). n ≤ magnitude v) (magnitude-sign u from (omega arith)) (subst (λ (n : ℕ). magnitude (u - 2 ^ 63) ≤ n) (magnitude-sign v (omega arith) within) h)) in
    subst (λ (z : ℤ). z ≤ℤ in_leasts u) (sym (below v (omega arith))) (subst (λ (z : ℤ). neg_ℤ (pos (magnitude v)) ≤ℤ z) (sym (below u from)) order)
  where
    of_order : (m n : ℕ) → m ≤ n → neg_ℤ (pos n) ≤ℤ neg_ℤ (pos m)
    of_order m n h = omega (arith, ints)

decided : (b : Bool) (P Q : Type 0) → (b ≡ true → P) → (b ≡ false → Q) → MatchBool b P Q
decided true P Q on_true on_false = on_true refl
decided false P Q on_true on_false = on_false refl

pub either_above : (u v : ℕ) → u < 2 ^ 63 → v < 2 ^ 63 → MatchBool (leb u v) (in_leasts u ≤ℤ in_leasts v) (in_leasts v ≤ℤ in_leasts u)
either_above u v first second =
    decided (leb u v) (in_leasts u ≤ℤ in_leasts v) (in_leasts v ≤ℤ in_leasts u)
    (λ e. in_order_above u v (grind (arith, nat_tests)) second) (λ e. in_order_above v u (grind (arith, nat_tests)) first)

pub either_below : (u v : ℕ) → 2 ^ 63 ≤ u → 2 ^ 63 ≤ v → u < 2 ^ 64 → v < 2 ^ 64 → MatchBool (leb v u) (in_leasts u ≤ℤ in_leasts v) (in_leasts v ≤ℤ in_leasts u)
either_below u v first second one other =
    decided (leb v u) (in_leasts u ≤ℤ in_leasts v) (in_leasts v ≤ℤ in_leasts u)
    (λ e. in_order_below v u (grind (arith, nat_tests)) second one) (λ e. in_order_below u v (grind (arith, nat_tests)) first other)
