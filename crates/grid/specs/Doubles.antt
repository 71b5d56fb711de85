-- Doubles by their bits (IEEE 754, binary64), as whole multiples of the least of them, 2 ^ -1074.
use Rattle.std.specs.Prelude.{ℕ, ℤ, ◌≢◌, ◌+◌, ◌*◌, ◌-◌, ◌/◌, ◌%◌, ◌^◌, pos, neg_ℤ, nat_eq, nat_lt, cond}

-- The 11 bits of the exponent.
abbrev pub exponent_field : ℕ → ℕ
exponent_field bits = bits / 2 ^ 52 % 2 ^ 11

-- The 52 bits behind the binary point.
abbrev pub fraction_field : ℕ → ℕ
fraction_field bits = bits % 2 ^ 52

-- No infinity, and no NaN.
abbrev pub IsFinite : ℕ → Type 0
IsFinite bits = exponent_field bits ≢ 2047

-- How many leasts the number has without its sign. Where the exponent's bits are 0 there is no leading 1.
abbrev pub magnitude : ℕ → ℕ
magnitude bits =
    cond (nat_eq (exponent_field bits) 0) (fraction_field bits) ((2 ^ 52 + fraction_field bits) * 2 ^ (exponent_field bits - 1))

-- How many leasts the number is: below 0 where the sign's bit is set.
abbrev pub in_leasts : ℕ → ℤ
in_leasts bits = cond (nat_lt bits (2 ^ 63)) (pos (magnitude bits)) (neg_ℤ (pos (magnitude bits)))
