-- Which pairs of items stand in a relation: of one list, or of two.
use Rattle.std.specs.Prelude.{◌≡◌, ◌≢◌, ◌↔◌, ◌⊎◌, ℕ, ◌<◌, List, Some, ◌++◌, All, AllPairs, Contains, length, slice_get}

-- The items at these two places of the list stand in the relation, the first place below the second.
pub record PairAt {X : Type 0} (Meeting : X → X → Type 0) (items : List X) (i j : ℕ) : Type 0 where
  pub one : X
  pub other : X
  pub rising : i < j
  pub first : slice_get items i ≡ Some one
  pub second : slice_get items j ≡ Some other
  pub meet : Meeting one other

-- Each such pair of places stands in the list of pairs once, and no other pair does. The order is open.
pub record ArePairs {X : Type 0} (Meeting : X → X → Type 0) (items : List X) (pairs : List (ℕ × ℕ)) : Type 0 where
  pub once : AllPairs (λ pair later. pair ≢ later) pairs
  pub exact : (i j : ℕ) → Contains pairs (i, j) ↔ PairAt Meeting items i j

-- The item at the first place of the one list stands in the relation to that at the second place of the other list.
pub record PairBetween {X Y : Type 0} (Meeting : X → Y → Type 0) (items : List X) (others : List Y) (i j : ℕ) : Type 0 where
  pub one : X
  pub other : Y
  pub first : slice_get items i ≡ Some one
  pub second : slice_get others j ≡ Some other
  pub meet : Meeting one other

-- Each such pair of places stands in the list of pairs once, and no other pair does. The order is open.
pub record ArePairsBetween {X Y : Type 0} (Meeting : X → Y → Type 0) (items : List X) (others : List Y) (pairs : List (ℕ × ℕ)) : Type 0 where
  pub once : AllPairs (λ pair later. pair ≢ later) pairs
  pub exact : (i j : ℕ) → Contains pairs (i, j) ↔ PairBetween Meeting items others i j

-- These are more than so many such pairs, each of them once.
pub record AreMoreThan {X : Type 0} (Meeting : X → X → Type 0) (items : List X) (most : ℕ) (pairs : List (ℕ × ℕ)) : Type 0 where
  pub more : most < length pairs
  pub once : AllPairs (λ pair later. pair ≢ later) pairs
  pub of : All (λ pair. PairAt Meeting items pair.0 pair.1) pairs

-- The list gains all pairs at its end, or more than so many of them.
abbrev pub GainsAll : {X : Type 0} → (X → X → Type 0) → List X → ℕ → List (ℕ × ℕ) → List (ℕ × ℕ) → Type 0
GainsAll Meeting items most before after =
    (pairs : List (ℕ × ℕ)) × (after ≡ before ++ pairs) × (ArePairs Meeting items pairs ⊎ AreMoreThan Meeting items most pairs)
