-- What is told in a strip, from left to right. For private contracts.
use Rattle.std.specs.Prelude.{◌≡◌, ◌≢◌, ◌⊎◌, ℕ, ℤ, pos, min, max, List, [], ◌∷◌, ◌++◌, AllPairs, Contains, IsPermutation}
use Rattle.std.specs.Int.{int_max}
use Rattle.std.specs.Ordering.{int_cmp}
use Rattle.i_tree.specs.Seg.Buckets.{Buckets, Filters}
use Rattle.i_tree.specs.Seg.Members.{Member, answer, live_members, values_of}
use Rattle.i_tree.specs.Seg.Ranges.{interval_over, segment_over}
use Rattle.plane.specs.Pairs.Strips.{strip_at, range_in}
use Rattle.plane.specs.declared.pairs.items.Bounds.{Bounds}
use Rattle.plane.specs.declared.pairs.strips.Strips.{Strips}
use Rattle.plane.specs.declared.pairs.sweep.Placed.{Placed}

-- two places, the lesser one first
abbrev pub pair_of : ℕ → ℕ → ℕ × ℕ
pair_of place other = (min place other, max place other)

-- the items meet, and the greater of their boxes' lower sides lies in the strip
pub record IsTold {X : Type 0} (bounds : X → Bounds) (Meeting : X → X → Type 0) (strips : Strips) (strip : ℕ) (one other : X) : Type 0 where
  pub meet : Meeting one other
  pub here : strip_at strips (int_max (bounds one).low (bounds other).low) ≡ strip

-- the list gains the pair of two items at its end, if they are told
abbrev pub GainsPair : {X : Type 0} → (X → Bounds) → (X → X → Type 0) → Strips → ℕ → Placed X → Placed X → List (ℕ × ℕ) → List (ℕ × ℕ) → Type 0
GainsPair bounds Meeting strips strip placed other before after =
    (IsTold bounds Meeting strips strip placed.item other.item × (after ≡ before ++ pair_of placed.place other.place ∷ [])) ⊎ ((¬ (IsTold bounds Meeting strips strip placed.item other.item)) × (after ≡ before))

-- the pairs of an item and each of the others with which it is told, each once where no two of these are at one place
pub record ArePairsWith {X : Type 0} (bounds : X → Bounds) (Meeting : X → X → Type 0) (strips : Strips) (strip : ℕ) (placed : Placed X) (others : List (Placed X)) (pairs : List (ℕ × ℕ)) : Type 0 where
  pub each : (other : Placed X) → Contains others other → IsTold bounds Meeting strips strip placed.item other.item → Contains pairs (pair_of placed.place other.place)
  pub of : (pair : ℕ × ℕ) → Contains pairs pair → (other : Placed X) × Contains others other × IsTold bounds Meeting strips strip placed.item other.item × (pair ≡ pair_of placed.place other.place)
  pub once : AllPairs (λ one later. one.place ≢ later.place) others → AllPairs (λ pair later. pair ≢ later) pairs

-- the list gains these pairs at its end
abbrev pub GainsPairs : {X : Type 0} → (X → Bounds) → (X → X → Type 0) → Strips → ℕ → Placed X → List (Placed X) → List (ℕ × ℕ) → List (ℕ × ℕ) → Type 0
GainsPairs bounds Meeting strips strip placed others before after = (pairs : List (ℕ × ℕ)) × (after ≡ before ++ pairs) × ArePairsWith bounds Meeting strips strip placed others pairs

-- what is stored in a strip for an item
abbrev pub member_in : {X : Type 0} → (X → Bounds) → Strips → ℕ → Buckets → Placed X → Member (Placed X)
member_in bounds strips strip buckets placed = segment_over pos buckets (range_in strips strip (bounds placed.item)) placed

-- the x up to which it is live
abbrev pub last_of : {X : Type 0} → (X → Bounds) → Placed X → ℤ
last_of bounds placed = (bounds placed.item).right

-- An item asks in a strip: its pairs with those are told that are live where it begins, all of them or those near its
-- heights, and what isn't live there goes.
pub record Asks {X : Type 0} (bounds : X → Bounds) (Meeting : X → X → Type 0) (strips : Strips) (strip : ℕ) (placed : Placed X) (buckets : Buckets) (old new : List (Member (Placed X))) (before after : List (ℕ × ℕ)) : Type 0 where
  pub others : List (Placed X)
  pub answers : (IsPermutation (answer (last_of bounds) int_cmp (bounds placed.item).left (interval_over pos buckets (range_in strips strip (bounds placed.item))) old) others × Filters buckets) ⊎ IsPermutation (values_of (live_members (last_of bounds) int_cmp (bounds placed.item).left old)) others
  pub gains : GainsPairs bounds Meeting strips strip placed others before after
  pub keeps : IsPermutation (live_members (last_of bounds) int_cmp (bounds placed.item).left old) new

-- An item is served in a strip: it asks, and then it joins what is stored.
pub record Serves {X : Type 0} (bounds : X → Bounds) (Meeting : X → X → Type 0) (strips : Strips) (strip : ℕ) (placed : Placed X) (buckets : Buckets) (old new : List (Member (Placed X))) (before after : List (ℕ × ℕ)) : Type 0 where
  pub mid : List (Member (Placed X))
  pub asks : Asks bounds Meeting strips strip placed buckets old mid before after
  pub joins : IsPermutation (member_in bounds strips strip buckets placed ∷ mid) new
