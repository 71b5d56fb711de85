-- For how many pairs a collection has handles: each with handles says so by what it takes for `has_handles`.
use Rattle.std.specs.Prelude.{ℕ, ◌≤◌}

-- for so many, and for fewer
abbrev pub HasHandlesFor : (ℕ → Type 0) → ℕ → Type 0
HasHandlesFor has_handles most = (count : ℕ) → count ≤ most → has_handles count

-- for any number: then a refusal is always for want of memory
abbrev pub HasAllHandles : (ℕ → Type 0) → Type 0
HasAllHandles has_handles = (count : ℕ) → has_handles count
