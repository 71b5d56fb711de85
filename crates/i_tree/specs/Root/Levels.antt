-- Levels of a number of entries.
use Rattle.std.specs.Prelude.{ℕ, ◌+◌, ◌*◌, ◌^◌, ◌<◌, ◌≤◌}

-- the number is at most twice the levels of so many entries (n entries have k levels where 2^k <= n + 1 < 2^(k + 1))
abbrev pub TwiceLevels : ℕ → ℕ → Type 0
TwiceLevels entries number = (levels : ℕ) → entries + 1 < 2 ^ (levels + 1) → number ≤ 2 * levels
