-- Rounding over natural numbers.
use Rattle.std.proofs.Common.{◌≡◌, ◌∙◌, ℕ, ◌+◌, ◌-◌, ◌*◌, ◌^◌, ◌<◌, ◌≤◌, arith, ap, sym, subst, ◌/◌, ◌%◌, inl, inr}
use Rattle.std.proofs.lemmas.Nat.{pow_pos, pow-add, mul-le, div-add-mod', mod_below}
use Rattle.std.proofs.lemmas.Bool.{cases_lt}
use Rattle.std.proofs.Math.Nat.{le_of_mul-le-mul_left}
use Rattle.std.proofs.Math.Pow.{pow_mono}
use Rattle.grid.specs.Rounding.{RoundsTo}

-- both sides of an equation by one positive factor
pub cancelled : (a b c : ℕ) → 0 < c → a * c ≡ b * c → a ≡ b
cancelled a b c some same =
    let upto : a ≤ b = le_of_mul-le-mul_left {m = a} {n = b} {k = c} (omega arith) some in
    let from : b ≤ a = le_of_mul-le-mul_left {m = b} {n = a} {k = c} (omega arith) some in
    omega arith

-- leasts and units that are c times as many, for c times as great a unit
pub RoundsTo-times : (unit leasts units c : ℕ) → 0 < c → RoundsTo unit leasts units → RoundsTo (unit * c) (leasts * c) units
RoundsTo-times unit leasts units c some rounds =
    let not_above : 2 * (units * unit) * c ≤ (2 * leasts + unit) * c = mul-le (2 * (units * unit)) c (2 * leasts + unit) c rounds.not_above (omega arith) in
    let not_below : 2 * leasts * c ≤ (2 * (units * unit) + unit) * c = mul-le (2 * leasts) c (2 * (units * unit) + unit) c rounds.not_below (omega arith) in
    record {
      not_above = omega arith;
      not_below = omega arith;
      even_above = λ same. rounds.even_above (cancelled (2 * (units * unit)) (2 * leasts + unit) c some (omega arith));
      even_below = λ same. rounds.even_below (cancelled (2 * leasts) (2 * (units * unit) + unit) c some (omega arith));
    }

-- places behind the point that are taken away, as a whole
pub RoundsTo-places : (mantissa exponent places scale units : ℕ) → places + exponent ≡ scale → RoundsTo (2 ^ places) mantissa units → RoundsTo (2 ^ scale) (mantissa * 2 ^ exponent) units
RoundsTo-places mantissa exponent places scale units sum rounds =
    let whole : 2 ^ places * 2 ^ exponent ≡ 2 ^ scale = sym (pow-add 2 places exponent) ∙ ap (λ (n : ℕ). 2 ^ n) sum in
    let R : ℕ → Type 0 = λ unit. RoundsTo unit (mantissa * 2 ^ exponent) units in
    subst R whole (RoundsTo-times (2 ^ places) mantissa units (2 ^ exponent) (pow_pos exponent) rounds)

-- a whole number of units is itself
pub RoundsTo-exact : (unit leasts units : ℕ) → 0 < unit → leasts ≡ units * unit → RoundsTo unit leasts units
RoundsTo-exact unit leasts units some same =
    record { not_above = omega arith; not_below = omega arith; even_above = λ e. absurd (omega arith); even_below = λ e. absurd (omega arith) }

-- a mantissa that is shifted up, in units
pub shifted_up : (mantissa exponent scale : ℕ) → scale ≤ exponent → mantissa * 2 ^ exponent ≡ mantissa * 2 ^ (exponent - scale) * 2 ^ scale
shifted_up mantissa exponent scale upto =
    let sum : exponent ≡ exponent - scale + scale = omega arith in
    let whole : 2 ^ exponent ≡ 2 ^ (exponent - scale) * 2 ^ scale = ap (λ (n : ℕ). 2 ^ n) sum ∙ pow-add 2 (exponent - scale) scale in
    omega (arith, ap (λ (n : ℕ). mantissa * n) whole)

pub RoundsTo-shifted : (mantissa exponent scale : ℕ) → scale ≤ exponent → RoundsTo (2 ^ scale) (mantissa * 2 ^ exponent) (mantissa * 2 ^ (exponent - scale))
RoundsTo-shifted mantissa exponent scale upto = RoundsTo-exact (2 ^ scale) (mantissa * 2 ^ exponent) (mantissa * 2 ^ (exponent - scale)) (pow_pos scale) (shifted_up mantissa exponent scale upto)

-- too few leasts for a half of a unit
pub RoundsTo-none : (unit leasts : ℕ) → 2 * leasts < unit → RoundsTo unit leasts 0
RoundsTo-none unit leasts few =
    record { not_above = omega arith; not_below = omega arith; even_above = λ e. absurd (omega arith); even_below = λ e. absurd (omega arith) }

-- no more units than leasts
pub RoundsTo-within : (unit leasts units : ℕ) → 0 < unit → RoundsTo unit leasts units → units ≤ leasts
RoundsTo-within unit leasts units some rounds =
    elim (cases_lt leasts units) [
      | inl over ↦ absurd (omega (arith, rounds.not_above, mul-le (leasts + 1) unit units unit (omega arith) (omega arith), mul-le leasts 1 leasts unit (omega arith) (omega arith)))
      | inr upto ↦ upto
    ]

pub none_of_few : (unit leasts units : ℕ) → 2 * leasts < unit → RoundsTo unit leasts units → units ≡ 0
none_of_few unit leasts units few rounds =
    elim (cases_lt 0 units) [
      | inl some ↦ absurd (omega (arith, rounds.not_above, mul-le 1 unit units unit (omega arith) (omega arith)))
      | inr none ↦ omega arith
    ]

-- 54 places leave nothing of 53 bits, and more places leave nothing too
RoundsTo-far : (mantissa places units : ℕ) → mantissa < 2 ^ 53 → 54 ≤ places → RoundsTo (2 ^ 54) mantissa units → RoundsTo (2 ^ places) mantissa units
RoundsTo-far mantissa places units within many rounds =
    let least : 2 ^ 54 ≤ 2 ^ places = pow_mono many in
    subst (λ (n : ℕ). RoundsTo (2 ^ places) mantissa n) (sym (none_of_few (2 ^ 54) mantissa units (omega arith) rounds))
    (RoundsTo-none (2 ^ places) mantissa (omega (arith, least)))

-- so at most 54 places are taken for one and `further` ones
pub RoundsTo-few : (mantissa further places units : ℕ) → mantissa < 2 ^ 53 → (further < 53 → places ≡ further + 1) → (53 ≤ further → places ≡ 54) → RoundsTo (2 ^ places) mantissa units → RoundsTo (2 ^ (further + 1)) mantissa units
RoundsTo-few mantissa further places units within same most rounds =
    let R : ℕ → Type 0 = λ n. RoundsTo (2 ^ n) mantissa units in
    elim (cases_lt further 53) [
      | inl few ↦ subst R (same few) rounds
      | inr many ↦ RoundsTo-far mantissa (further + 1) units within (omega (arith, many)) (subst R (most many) rounds)
    ]

-- ten places up and a leading one leave 62 bits
pub beyond_62 : (mantissa exponent scale : ℕ) → 2 ^ 52 ≤ mantissa → scale ≤ exponent → 9 < exponent - scale → 2 ^ 62 * 2 ^ scale ≤ mantissa * 2 ^ exponent
beyond_62 mantissa exponent scale leading upto many =
    let ten : 10 ≤ exponent - scale = omega arith in
    let least : 2 ^ 10 ≤ 2 ^ (exponent - scale) = pow_mono ten in
    let more : 2 ^ 52 * 2 ^ 10 ≤ mantissa * 2 ^ (exponent - scale) = mul-le (2 ^ 52) (2 ^ 10) mantissa (2 ^ (exponent - scale)) leading least in
    let most : 2 ^ 62 * 2 ^ scale ≤ mantissa * 2 ^ (exponent - scale) * 2 ^ scale = mul-le (2 ^ 62) (2 ^ scale) (mantissa * 2 ^ (exponent - scale)) (2 ^ scale) (omega arith) (omega arith) in
    omega (arith, shifted_up mantissa exponent scale upto)

-- nine places up fit 62 bits
pub within_62 : (mantissa places : ℕ) → mantissa < 2 ^ 53 → places ≤ 9 → mantissa * 2 ^ places < 2 ^ 62
within_62 mantissa places within few =
    let most : 2 ^ places ≤ 2 ^ 9 = pow_mono few in
    let product : mantissa * 2 ^ places ≤ (2 ^ 53 - 1) * 2 ^ 9 = mul-le mantissa (2 ^ places) (2 ^ 53 - 1) (2 ^ 9) (omega arith) most in
    omega arith

rounds_at : (unit leasts q r : ℕ) → 0 < unit → q * unit + r ≡ leasts → 2 * r + 2 * (q % 2) ≤ unit → RoundsTo unit leasts q
rounds_at unit leasts q r some split less =
    record { not_above = omega arith; not_below = omega arith; even_above = λ e. omega arith; even_below = λ e. omega arith }

rounds_next : (unit leasts q r : ℕ) → q * unit + r ≡ leasts → r ≤ unit → unit + 2 ≤ 2 * r + 2 * (q % 2) → RoundsTo unit leasts (q + 1)
rounds_next unit leasts q r split rest more =
    record { not_above = omega arith; not_below = omega arith; even_above = λ e. omega arith; even_below = λ e. omega arith }

-- to one least less a half is added, and one least where the whole part is odd: what is left of the sum is rounded
pub RoundsTo-added : (less half : ℕ) → 0 < half → RoundsTo (2 * half) (less + 1) ((less + half + less / (2 * half) % 2) / (2 * half))
RoundsTo-added less half some =
    let unit : ℕ = 2 * half in
    let positive : 0 < unit = omega arith in
    let q : ℕ = less / unit in
    let r : ℕ = less % unit in
    let sum : ℕ = less + half + q % 2 in
    let units : ℕ = sum / unit in
    let t : ℕ = sum % unit in
    let split : q * unit + r ≡ less = div-add-mod' less unit in
    let rest : r < unit = mod_below less unit positive in
    let whole : units * unit + t ≡ sum = div-add-mod' sum unit in
    let left : t < unit = mod_below sum unit positive in
    parts half less q r units t some split rest whole left
  where
    parts : (half less q r units t : ℕ) → 0 < half → q * (2 * half) + r ≡ less → r < 2 * half → units * (2 * half) + t ≡ less + half + q % 2 → t < 2 * half → RoundsTo (2 * half) (less + 1) units
    parts half less q r units t some split rest whole left =
        elim (cases_lt units q) [
          | inl under ↦ absurd (omega (arith, mul-le (units + 1) (2 * half) q (2 * half) (omega arith) (omega arith)))
          | inr from ↦ elim (cases_lt q units) [
            | inl over ↦ elim (cases_lt (q + 1) units) [
              | inl far ↦ absurd (omega (arith, mul-le (q + 2) (2 * half) units (2 * half) (omega arith) (omega arith)))
              | inr next ↦
                  let same : q + 1 ≡ units = omega arith in
                  let sum : (q + 1) * (2 * half) + t ≡ less + half + q % 2 = ap (λ (n : ℕ). n * (2 * half) + t) same ∙ whole in
                  subst (λ (n : ℕ). RoundsTo (2 * half) (less + 1) n) same (rounds_next (2 * half) (less + 1) q (r + 1) (omega arith) (omega arith) (omega arith))
            ]
            | inr upto ↦
                let same : q ≡ units = omega arith in
                let sum : q * (2 * half) + t ≡ less + half + q % 2 = ap (λ (n : ℕ). n * (2 * half) + t) same ∙ whole in
                subst (λ (n : ℕ). RoundsTo (2 * half) (less + 1) n) same (rounds_at (2 * half) (less + 1) q (r + 1) (omega arith) (omega arith) (omega arith))
          ]
        ]

pub RoundsTo-shifted_down : (mantissa places : ℕ) → 0 < mantissa → 0 < places
    → RoundsTo (2 ^ places) mantissa ((mantissa - 1 + 2 ^ (places - 1) + (mantissa - 1) / 2 ^ places % 2) / 2 ^ places)
RoundsTo-shifted_down mantissa places least some =
    let less : ℕ = mantissa - 1 in
    let one_more : less + 1 ≡ mantissa = omega arith in
    let sum : 1 + (places - 1) ≡ places = omega arith in
    let twice : 2 * 2 ^ (places - 1) ≡ 2 ^ places = sym (pow-add 2 1 (places - 1)) ∙ ap (λ (n : ℕ). 2 ^ n) sum in
    let R : ℕ → ℕ → Type 0 = λ unit leasts. RoundsTo unit leasts ((less + 2 ^ (places - 1) + less / unit % 2) / unit) in
    subst (λ (unit : ℕ). R unit mantissa) twice
    (subst (λ (leasts : ℕ). R (2 * 2 ^ (places - 1)) leasts) one_more (RoundsTo-added less (2 ^ (places - 1)) (pow_pos (places - 1))))
