-- Where a test that is lent the items of a list may be asked, how it answers there, and what a halving search holds.
use Rattle.std.specs.Prelude.{◌≡◌, ◌<◌, ◌≤◌, ◌+◌, ℕ, Bool, true, false, List, All, length}
use Rattle.std.specs.Borrow.{Bor}
use Rattle.std.specs.List.{AllWithin}
use Rattle.std.specs.List.Sorted.{IsPartitionedBy}

module _ {X : Type 0} where
  -- what may be asked about a reference may be asked about each item
  abbrev pub TakesItems : (Bor X → Type 0) → List X → Type 0
  TakesItems MayAsk items = All (λ item. (reference : Bor X) → reference.now ≡ item → MayAsk reference) items

  -- at each item, whatever a closure may answer is what the test says
  abbrev pub ItemsAnswer : (X → Bool → Type 0) → (X → Bool) → List X → Type 0
  ItemsAnswer may_answer test items = All (λ item. (answer : Bool) → may_answer item answer → answer ≡ test item) items

  -- a part that is not empty and lies within the items: those before it pass, and those behind it fail
  pub record Surrounds (may_answer : X → Bool → Type 0) (items : List X) (start size : ℕ) : Type 0 where
    pub some : 0 < size
    pub within : start + size ≤ length items
    pub splits :
        (test : X → Bool) → ItemsAnswer may_answer test items → IsPartitionedBy test items
        → AllWithin (λ item. test item ≡ true) items 0 start × AllWithin (λ item. test item ≡ false) items (start + size) (length items)
