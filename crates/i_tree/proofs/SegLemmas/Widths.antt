-- Facts on the width of a span's buckets.
use Rattle.std.proofs.Common.{◌≡◌, ℕ, ◌+◌, ◌-◌, ◌*◌, ◌^◌, ◌<◌, ◌≤◌, ℤ, pos, ◌-ℤ◌, refl, ap, sym, subst, arith, inl, inr}
use Rattle.std.specs.Int.RustNames.{unsigned_abs}
use Rattle.std.proofs.Math.Pow.{pow_mono}
use Rattle.std.proofs.lemmas.Nat.{pow-add}
use Rattle.std.proofs.lemmas.Bool.{cases_lt}
use Rattle.std.proofs.lemmas.Int.{ints}
use Rattle.i_tree.specs.Seg.Buckets.{distance, IsWidth, HasLayout, IsCut}

-- the greater power has the greater exponent
pub exponents : (a b : ℕ) → 2 ^ a < 2 ^ b → a < b
exponents a b h = elim (cases_lt a b) [ inl below ↦ below | inr above ↦ absurd (let h2 : 2 ^ b ≤ 2 ^ a = pow_mono above in omega arith) ]

-- the power of two that 16 of lie within the span, but not 32, is its width
pub width_of_exponent : (span scale : ℕ) → 16 * 2 ^ scale ≤ span → span < 32 * 2 ^ scale → IsWidth span (2 ^ scale)
width_of_exponent span scale wide enough = record {
  power = (scale, refl);
  enough = enough;
  least = λ exponent more.
      let below : 2 ^ scale < 2 ^ (1 + exponent) = omega (arith, pow-add 2 1 exponent) in
      let most : scale ≤ exponent = omega (arith, exponents scale (1 + exponent) below, pow-add 2 1 exponent) in
      pow_mono most;
}

module _ (least n power : ℕ) (start end : ℤ) (span : pos n ≡ end -ℤ start) where
  pub distance_is : distance start end ≡ n
  distance_is = ap unsigned_abs (sym span)

  -- a span of fewer buckets than 16 has no layout
  pub too_narrow : n < 2 ^ (power + 1) → power < 4 → HasLayout least start end → ⊥
  too_narrow greatest low layout = grind (arith, distance_is, pow_mono)

  module _ (reached : 2 ^ power ≤ n) (high : 4 ≤ power) where
    pub layout_is : least ≤ n → HasLayout least start end
    layout_is allowed =
        let wide : 16 ≤ n = omega (arith, pow_mono high) in
        record {
          order = omega (arith, pow_mono high, ints);
          wide = subst (λ (d : ℕ). 16 ≤ d) (sym distance_is) wide;
          allowed = subst (λ (d : ℕ). least ≤ d) (sym distance_is) allowed;
        }

    pub cut_is : (bits : ℕ) → n < 2 ^ (power + 1) → n < 2 ^ bits → IsCut start end (power - 4) bits
    cut_is bits greatest within = grind (arith, pow-add, exponents, ints, distance_is)
