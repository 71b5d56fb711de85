-- What contracts see of a set in order: its pairs of a handle and a value. `key_of` gives a value's key.
use Rattle.std.specs.Prelude.{◌≡◌, ◌≢◌, ◌==◌, ℕ, List, All, AllPairs, Any, map, if◌then◌else◌}
use Rattle.std.specs.Borrow.{Bor}
use Rattle.std.specs.declared.cmp.Ordering.{Ordering}
use Rattle.i_tree.specs.Root.Answer.{AtMost, AtMostBy}
use Rattle.i_tree.specs.Root.Pairs.{HasKey, IsRising, NoKey}
use Rattle.i_tree.specs.declared.TheConstants.{EMPTY_REF}

module _ {V : Type 0} where
  -- the values, in order
  abbrev pub values : List (ℕ × V) → List V
  values pairs = map (λ pair. pair.1) pairs

  -- some value has the handle
  abbrev pub HasHandle : List (ℕ × V) → ℕ → Type 0
  HasHandle pairs handle = Any (λ pair. pair.0 ≡ handle) pairs

  -- no value has the handle
  abbrev pub LacksHandle : List (ℕ × V) → ℕ → Type 0
  LacksHandle pairs handle = All (λ pair. pair.0 ≢ handle) pairs

  -- no handle stands twice, and none is `EMPTY_REF`
  abbrev pub AreApart : List (ℕ × V) → Type 0
  AreApart pairs = AllPairs (λ first second. first.0 ≢ second.0) pairs × All (λ pair. pair.0 ≢ EMPTY_REF) pairs

  -- the pairs with this value at the handle
  abbrev pub with_value : ℕ → V → List (ℕ × V) → List (ℕ × V)
  with_value handle value pairs = map (λ pair. (pair.0, (if handle == pair.0 then value else pair.1))) pairs

module _ {K V : Type 0} (key_of : V → K) where
  -- the pairs of a key and a handle, in order
  abbrev pub by_key : List (ℕ × V) → List (K × ℕ)
  by_key pairs = map (λ pair. (key_of pair.1, pair.0)) pairs

  module _ (cmp : K → K → Ordering) where
    -- each value's key is below the keys of all later ones
    abbrev pub IsOrdered : List (ℕ × V) → Type 0
    IsOrdered pairs = IsRising cmp (by_key pairs)

    -- some value's key compares Equal to the key
    abbrev pub HoldsKey : List (ℕ × V) → K → Type 0
    HoldsKey pairs key = HasKey cmp (by_key pairs) key

    -- no value's key compares Equal to the key
    abbrev pub LacksKey : List (ℕ × V) → K → Type 0
    LacksKey pairs key = NoKey cmp (by_key pairs) key

    -- the handle of a key that the order calls Equal, else of the greatest that it calls Less, else `EMPTY_REF`
    abbrev pub IsFoundBy : (K → Ordering) → List (ℕ × V) → ℕ → Type 0
    IsFoundBy order pairs handle = AtMost cmp (by_key pairs) order EMPTY_REF handle

    -- what a search by a closure answers: whatever order the closure answers by, where that is monotone, the handle is
    -- found by it
    abbrev pub IsFound : (K → Ordering → Type 0) → List (ℕ × V) → ℕ → Type 0
    IsFound may_answer pairs handle = AtMostBy cmp may_answer (by_key pairs) EMPTY_REF handle

  -- what may be asked about a reference may be asked about the key of each value
  abbrev pub TakesKeys : (Bor K → Type 0) → List (ℕ × V) → Type 0
  TakesKeys MayAsk pairs = All (λ pair. (key : Bor K) → key.now ≡ pair.0 → MayAsk key) (by_key pairs)
