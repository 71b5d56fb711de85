-- What contracts say of the steps of a descent of a tree. `Made` says of two states of a counter which counts were made from
-- the one to the other.
use Rattle.std.specs.Prelude.{◌≡◌, ℕ, ◌+◌, ◌*◌, ◌≤◌}
use Rattle.i_tree.specs.Root.Steps.{Counts}
use Rattle.i_tree.specs.Root.Levels.{TwiceLevels}

module _ {S : Type 0} (Made : S → S → Counts → Type 0) where
  -- A descent of a tree of so many entries, after which so many are stored, where one may have joined. It tests what it compares
  -- and what it removes, and rotates at most three times a removal, and twice where an entry joined.
  pub record Descends (old new : S) (entries stored joined : ℕ) : Type 0 where
    pub made : Counts
    pub counted : Made old new made
    pub compares : TwiceLevels entries made.comparisons
    pub tests : made.tests ≡ made.comparisons + made.removals
    pub rotations : made.rotations ≤ 3 * made.removals + 2 * joined
    pub stores : stored + made.removals ≡ entries + joined

  -- A descent of a tree of so many entries that removes nothing: it tests at most so many entries, and rotates at most so often.
  pub record Searches (old new : S) (entries most_tests most_rotations : ℕ) : Type 0 where
    pub made : Counts
    pub counted : Made old new made
    pub compares : TwiceLevels entries made.comparisons
    pub tests : made.tests ≤ most_tests
    pub removals : made.removals ≡ 0
    pub rotations : made.rotations ≤ most_rotations

  -- A search for a key in a tree of so many entries: it tests the entry whose key compares Equal, if one is stored, and no other.
  pub record SearchesFor (old new : S) (entries : ℕ) (IsStored IsMissing : Type 0) : Type 0 where
    pub made : Counts
    pub counted : Made old new made
    pub compares : TwiceLevels entries made.comparisons
    pub tests : made.tests ≤ 1
    pub tests_one : IsStored → made.tests ≡ 1
    pub tests_none : IsMissing → made.tests ≡ 0
    pub removals : made.removals ≡ 0
    pub rotations : made.rotations ≡ 0
