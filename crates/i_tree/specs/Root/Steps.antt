-- What contracts see of counted steps.
use Rattle.std.specs.Prelude.{◌≡◌, ℕ, ◌+◌, ◌≤◌}

-- how many comparisons of keys, tests of an expiration, removals and rotations were made
pub record Counts : Type 0 where
  pub comparisons : ℕ
  pub tests : ℕ
  pub removals : ℕ
  pub rotations : ℕ

abbrev pub nothing : Counts
nothing = record { comparisons = 0; tests = 0; removals = 0; rotations = 0 }

-- One comparison, and nothing else.
abbrev pub one_comparison : Counts
one_comparison = record { comparisons = 1; tests = 0; removals = 0; rotations = 0 }

-- One test of what has expired, and nothing else.
abbrev pub one_test : Counts
one_test = record { comparisons = 0; tests = 1; removals = 0; rotations = 0 }

-- One removal, and nothing else.
abbrev pub one_removal : Counts
one_removal = record { comparisons = 0; tests = 0; removals = 1; rotations = 0 }

-- One rotation, and nothing else.
abbrev pub one_rotation : Counts
one_rotation = record { comparisons = 0; tests = 0; removals = 0; rotations = 1 }

-- what was made first and what was made then
abbrev pub together : Counts → Counts → Counts
together first second =
    record {
      comparisons = first.comparisons + second.comparisons;
      tests = first.tests + second.tests;
      removals = first.removals + second.removals;
      rotations = first.rotations + second.rotations;
    }

-- the new counts are the old ones and what was made since
pub record Adds (old new made : Counts) : Type 0 where
  pub comparisons : new.comparisons ≡ old.comparisons + made.comparisons
  pub tests : new.tests ≡ old.tests + made.tests
  pub removals : new.removals ≡ old.removals + made.removals
  pub rotations : new.rotations ≡ old.rotations + made.rotations

-- `Made` says of two states of a counter which counts were made from the one to the other.
module _ {S : Type 0} (Made : S → S → Counts → Type 0) where
  -- nothing is made between a state and itself, and what is made one after the other is made together
  pub record Accumulates : Type 0 where
    pub none : (state : S) → Made state state nothing
    pub both : (old mid new : S) (first second : Counts) → Made old mid first → Made mid new second → Made old new (together first second)

  -- at most so many rotations were made, and nothing else that is counted
  pub record OnlyRotates (old new : S) (most : ℕ) : Type 0 where
    pub made : Counts
    pub counted : Made old new made
    pub comparisons : made.comparisons ≡ 0
    pub tests : made.tests ≡ 0
    pub removals : made.removals ≡ 0
    pub rotations : made.rotations ≤ most

  -- between the two states counts were made of which this holds
  pub record Makes (old new : S) (Holds : Counts → Type 0) : Type 0 where
    pub made : Counts
    pub counted : Made old new made
    pub holds : Holds made
