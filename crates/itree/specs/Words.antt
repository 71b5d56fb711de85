-- What a word is read as.
use Rattle.std.specs.Prelude.{◌≡◌, ℕ, ℤ, List}
use Rattle.std.specs.Int.{w32}
use Rattle.std.specs.Int.RustNames.{FitsSigned}
use Rattle.std.specs.Str.Parse.{IsNumeral, without_leading_sign, signed_digits_value}

-- the word is digits, with a sign or none, and this is its number
pub record Reads (word : List ℕ) (number : ℤ) : Type 0 where
  pub numeral : IsNumeral 10 (without_leading_sign word)
  pub fits : FitsSigned w32 number
  pub value : number ≡ signed_digits_value 10 word
