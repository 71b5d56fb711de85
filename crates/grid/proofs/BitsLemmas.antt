-- Numbers that are shifted until their leading one stands at the top of 64 bits.
use Rattle.std.proofs.Common.{◌≡◌, ◌∙◌, ℕ, ◌+◌, ◌-◌, ◌*◌, ◌/◌, ◌^◌, ◌<◌, ◌≤◌, suc, inl, inr, arith, ap, sym, subst}
use Rattle.std.specs.Int.Count.{count_leading_zeros}
use Rattle.std.proofs.lemmas.Bool.{cases_lt}
use Rattle.std.proofs.lemmas.Nat.{pow_pos, pow-add, pow_below, mul-le, leading_top, shl_below}
use Rattle.grid.proofs.RoundingLemmas.{cancelled}

-- The leading one at the top, of a number of at most 53 bits, or of the next.
pub record IsAtTop (a places : ℕ) : Type 0 where
  pub from : 10 ≤ places
  pub upto : places ≤ 63
  pub least : 2 ^ 63 ≤ a * 2 ^ places
  pub most : a * 2 ^ places < 2 ^ 64
  pub whole : a * 2 ^ places / 2048 * 2048 ≡ a * 2 ^ places

-- a number that is shifted by eleven places or more ends with eleven zeros
whole_where : (a places : ℕ) → a ≤ 2 ^ 53 → 10 ≤ places → 2 ^ 63 ≤ a * 2 ^ places → a * 2 ^ places / 2048 * 2048 ≡ a * 2 ^ places
whole_where a places few from least =
    elim (cases_lt 10 places) [
      | inl more ↦
          let sum : places ≡ places - 11 + 11 = omega arith in
          let power : 2 ^ places ≡ 2 ^ (places - 11) * 2048 = ap (λ (n : ℕ). 2 ^ n) sum ∙ pow-add 2 (places - 11) 11 in
          let product : a * 2 ^ places ≡ a * 2 ^ (places - 11) * 2048 = omega (arith, ap (λ (n : ℕ). a * n) power) in
          omega (arith, product)
      | inr upto ↦
          let ten : places ≡ 10 = omega arith in
          let power : a * 2 ^ places ≡ a * 1024 = ap (λ (n : ℕ). a * 2 ^ n) ten in
          omega (arith, power)
    ]

pub at_top : (a : ℕ) → 0 < a → a ≤ 2 ^ 53 → IsAtTop a (count_leading_zeros 64 a)
at_top a some few =
    let within : a < 2 ^ 64 = omega arith in
    let (j, sum, least, most) = leading_top 64 a some within in
    let places : ℕ = count_leading_zeros 64 a in
    let low : j ≤ 53 = elim (cases_lt 53 j) [ inl high ↦ absurd (omega (arith, pow_below 53 j high)) | inr low ↦ low ] in
    let from : 10 ≤ places = omega (arith, sum, low) in
    let all : suc j + places ≡ 64 = omega (arith, sum) in
    let below : a * 2 ^ places < 2 ^ (suc j + places) = shl_below a (suc j) places most in
    let B : ℕ → Type 0 = λ n. a * 2 ^ places < 2 ^ n in
    let below_64 : a * 2 ^ places < 2 ^ 64 = subst B all below in
    let under : j + places ≡ 63 = omega (arith, sum) in
    let product : 2 ^ j * 2 ^ places ≤ a * 2 ^ places = mul-le (2 ^ j) (2 ^ places) a (2 ^ places) least (omega arith) in
    let P : ℕ → Type 0 = λ n. 2 ^ n ≤ a * 2 ^ places in
    let Q : ℕ → Type 0 = λ n. n ≤ a * 2 ^ places in
    let at_least : 2 ^ 63 ≤ a * 2 ^ places = subst P under (subst Q (sym (pow-add 2 j places)) product) in
    record { from = from; upto = omega (arith, sum); least = at_least; most = below_64; whole = whole_where a places few from at_least }

-- the mantissa's power of two makes up for the places
pub value_at_top : (a places scale : ℕ) → IsAtTop a places → 52 ≤ scale → a * 2 ^ places / 2048 * 2 ^ (scale + 11 - places) ≡ a * 2 ^ scale
value_at_top a places scale top from =
    let mantissa : ℕ = a * 2 ^ places / 2048 in
    let sum : scale + 11 - places + places ≡ scale + 11 = omega (arith, top.upto) in
    let power : 2 ^ (scale + 11 - places) * 2 ^ places ≡ 2 ^ scale * 2048 =
    sym (pow-add 2 (scale + 11 - places) places) ∙ ap (λ (n : ℕ). 2 ^ n) sum ∙ pow-add 2 scale 11 in
    let left : mantissa * (2 ^ (scale + 11 - places) * 2 ^ places) ≡ mantissa * (2 ^ scale * 2048) = ap (λ (n : ℕ). mantissa * n) power in
    let right : mantissa * 2048 * 2 ^ scale ≡ a * 2 ^ places * 2 ^ scale = ap (λ (n : ℕ). n * 2 ^ scale) top.whole in
    cancelled (mantissa * 2 ^ (scale + 11 - places)) (a * 2 ^ scale) (2 ^ places) (pow_pos places) (omega (arith, left, right))
