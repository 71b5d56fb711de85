-- What a descent counts, by any counter.
use Rattle.std.proofs.Common.{◌≡◌, ℕ, ◌+◌, ◌*◌, ◌<◌, ◌≤◌, length, refl, arith}
use Rattle.i_tree.specs.Rb.Balance.{IsCore}
use Rattle.i_tree.specs.Rb.Removal.{RemovesOne}
use Rattle.i_tree.specs.Rb.Shape.{Shape, entries, rank}
use Rattle.i_tree.specs.Root.Descent.{Descends, Searches, SearchesFor}
use Rattle.i_tree.specs.Root.Steps.{Counts, nothing, one_comparison, one_test, together, Accumulates, OnlyRotates}

module _ {S : Type 0} (Made : S → S → Counts → Type 0) where
  -- a search has compared, and nothing else, where the rank of the subtree that it has come to is `left`
  pub record IsCompared (old new : S) (most left : ℕ) : Type 0 where
    pub made : Counts
    pub counted : Made old new made
    pub compares : made.comparisons + left ≤ most
    pub tests : made.tests ≡ 0
    pub removals : made.removals ≡ 0
    pub rotations : made.rotations ≡ 0

  -- what a descent has counted so far that removes entries, where the rank of the subtree that it has come to is `left`
  pub record IsCounted (old new : S) (most left entries stored : ℕ) : Type 0 where
    pub made : Counts
    pub counted : Made old new made
    pub compares : made.comparisons + left ≤ most
    pub tests : made.tests ≡ made.comparisons + made.removals
    pub rotations : made.rotations ≤ 3 * made.removals
    pub stores : stored + made.removals ≡ entries

-- a search that has come to no key that compares Equal
pub searches_past : {S : Type 0} {Made : S → S → Counts → Type 0} (old new : S) (entries : ℕ) {IsStored IsMissing : Type 0} → (IsStored → ⊥) → Searches Made old new entries 0 0 → SearchesFor Made old new entries IsStored IsMissing
searches_past old new entries missing searched = grind arith

module _ {S : Type 0} {Made : S → S → Counts → Type 0} (law : Accumulates Made) where
  pub compared_none : (state : S) (most left : ℕ) → left ≤ most → IsCompared Made state state most left
  compared_none state most left low =
      record { made = nothing; counted = law.none state; compares = omega arith; tests = refl; removals = refl; rotations = refl }

  pub compared_more : (old mid new : S) (most left left' : ℕ) → IsCompared Made old mid most left → left' < left → Made mid new one_comparison → IsCompared Made old new most left'
  compared_more old mid new most left left' so_far lower one =
      record {
        made = together so_far.made one_comparison;
        counted = law.both old mid new so_far.made one_comparison so_far.counted one;
        compares = omega (arith, so_far.compares);
        tests = omega (arith, so_far.tests);
        removals = omega (arith, so_far.removals);
        rotations = omega (arith, so_far.rotations);
      }

  -- the search has ended, where the rank was that of the tree at first
  pub compared_all : {T : Type 0} (tree : Shape T) (old new : S) (left : ℕ) → IsCore tree → IsCompared Made old new (rank tree) left → Searches Made old new (length (entries tree)) 0 0
  compared_all tree old new left core so_far = grind arith

  -- a search that has found a key that compares Equal, and then one test
  pub searches_at : (old mid new : S) (entries : ℕ) {IsStored IsMissing : Type 0} → (IsMissing → ⊥) → Searches Made old mid entries 0 0 → Made mid new one_test → SearchesFor Made old new entries IsStored IsMissing
  searches_at old mid new entries stored searched one =
      record {
        made = together searched.made one_test;
        counted = law.both old mid new searched.made one_test searched.counted one;
        compares = λ levels small. let bound = searched.compares levels small in omega (arith, bound);
        tests = omega (arith, searched.tests);
        tests_one = λ _. omega (arith, searched.tests);
        tests_none = λ missing. absurd (stored missing);
        removals = omega (arith, searched.removals);
        rotations = omega (arith, searched.rotations);
      }

  -- a search, and then some rotations
  pub searches_rotation : (old mid new : S) (entries most : ℕ) → Searches Made old mid entries 0 0 → OnlyRotates Made mid new most → Searches Made old new entries 0 most
  searches_rotation old mid new entries most searched rotates =
      record {
        made = together searched.made rotates.made;
        counted = law.both old mid new searched.made rotates.made searched.counted rotates.counted;
        compares = λ levels small. let bound = searched.compares levels small in omega (arith, bound, rotates.comparisons);
        tests = omega (arith, searched.tests, rotates.tests);
        removals = omega (arith, searched.removals, rotates.removals);
        rotations = omega (arith, searched.rotations, rotates.rotations);
      }

  pub counted_none : (state : S) (most left entries : ℕ) → left ≤ most → IsCounted Made state state most left entries entries
  counted_none state most left entries low =
      record { made = nothing; counted = law.none state; compares = omega arith; tests = refl; rotations = omega arith; stores = omega arith }

  -- a live entry was tested and compared
  pub counted_compare : (old mid tested new : S) (most left left' entries stored : ℕ) → IsCounted Made old mid most left entries stored → left' < left
      → Made mid tested one_test → Made tested new one_comparison → IsCounted Made old new most left' entries stored
  counted_compare old mid tested new most left left' entries stored so_far lower test comparison =
      let made = together so_far.made one_test in
      record {
        made = together made one_comparison;
        counted = law.both old tested new made one_comparison (law.both old mid tested so_far.made one_test so_far.counted test) comparison;
        compares = omega (arith, so_far.compares);
        tests = omega (arith, so_far.tests);
        rotations = omega (arith, so_far.rotations);
        stores = omega (arith, so_far.stores);
      }

  -- an expired entry was tested and removed
  pub counted_removal : (old mid tested new : S) (most left left' entries stored stored' : ℕ) → IsCounted Made old mid most left entries stored → left' ≤ left → stored' + 1 ≡ stored
      → Made mid tested one_test → RemovesOne Made tested new 3 → IsCounted Made old new most left' entries stored'
  counted_removal old mid tested new most left left' entries stored stored' so_far no_higher less test removes =
      let made = together so_far.made one_test in
      record {
        made = together made removes.made;
        counted = law.both old tested new made removes.made (law.both old mid tested so_far.made one_test so_far.counted test) removes.counted;
        compares = omega (arith, so_far.compares, removes.comparisons);
        tests = omega (arith, so_far.tests, removes.comparisons, removes.tests, removes.removals);
        rotations = omega (arith, so_far.rotations, removes.removals, removes.rotations);
        stores = omega (arith, so_far.stores, less, removes.removals);
      }

  -- the way has ended, where the rank was that of the core at first
  pub counted_all : {T : Type 0} (tree : Shape T) (old new : S) (left stored : ℕ) → IsCore tree → IsCounted Made old new (rank tree) left (length (entries tree)) stored → Descends Made old new (length (entries tree)) stored 0
  counted_all tree old new left stored core so_far = grind arith

  -- an entry has joined after a descent
  pub counted_join : (old mid new : S) (entries stored stored' : ℕ) → Descends Made old mid entries stored 0 → OnlyRotates Made mid new 2 → stored' ≡ stored + 1 → Descends Made old new entries stored' 1
  counted_join old mid new entries stored stored' way rotates more =
      record {
        made = together way.made rotates.made;
        counted = law.both old mid new way.made rotates.made way.counted rotates.counted;
        compares = λ levels small. let bound = way.compares levels small in omega (arith, bound, rotates.comparisons);
        tests = omega (arith, way.tests, rotates.comparisons, rotates.tests, rotates.removals);
        rotations = omega (arith, way.rotations, rotates.removals, rotates.rotations);
        stores = omega (arith, way.stores, rotates.removals, more);
      }
