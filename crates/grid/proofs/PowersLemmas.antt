-- Powers of two in a list.
use Rattle.std.proofs.Common.{◌≡◌, ◌∙◌, ℕ, zero, suc, ◌*◌, ◌^◌, ◌<◌, List, [], ◌∷◌, get_or, pow-suc, arith}

doubled : (number k : ℕ) → 2 * number * 2 ^ k ≡ number * 2 ^ suc k
doubled number k = rw pow-suc (omega arith)

-- So many numbers, each twice the one before.
abbrev pub powers : ℕ → ℕ → List ℕ
powers zero number = []
powers (suc count) number = number ∷ powers count (2 * number)

powers-at : (count number k : ℕ) → k < count → get_or (powers count number) k 0 ≡ number * 2 ^ k
powers-at zero number k below = absurd (omega arith)
powers-at (suc count) number zero below = omega arith
powers-at (suc count) number (suc k) below =
    let shorter : k < count = omega arith in powers-at count (2 * number) k shorter ∙ doubled number k

one_times : (k : ℕ) → 1 * 2 ^ k ≡ 2 ^ k
one_times k = omega arith

pub powers_of_two-at : (k : ℕ) → k < 64 → get_or (powers 64 1) k 0 ≡ 2 ^ k
powers_of_two-at k below = powers-at 64 1 k below ∙ one_times k
