-- Trees of nodes by the parent of each. For private contracts.
use Rattle.std.specs.Prelude.{◌≡◌, ◌⊎◌, ◌<◌, ◌≤◌, ◌+◌, ℕ, List, get_or, length}
use Rattle.forest.specs.Circles.{PartsAmong, ends_at}

abbrev pub parent_of : List ℕ → ℕ → ℕ
parent_of parents k = get_or parents k 0

abbrev pub rank_of : List ℕ → ℕ → ℕ
rank_of ranks k = get_or ranks k 0

-- The rank of each node is below that of its parent, unless it is its own parent, and no rank is above so many.
pub record AreTrees (parents ranks : List ℕ) (most : ℕ) : Type 0 where
  pub as_many : length ranks ≡ length parents
  pub inside : (k : ℕ) → k < length parents → parent_of parents k < length parents
  pub rise : (k : ℕ) → k < length parents → (parent_of parents k ≡ k) ⊎ (rank_of ranks k < rank_of ranks (parent_of parents k))
  pub upto : (k : ℕ) → k < length parents → rank_of ranks k ≤ most

-- What each node has in common with its parent.
abbrev pub IsAlong : List ℕ → (ℕ → ℕ) → Type 0
IsAlong parents label = (k : ℕ) → k < length parents → label (parent_of parents k) ≡ label k

-- The trees join what the first so many edges join, and these are on no circle.
pub record HasJoined (edges : List (ℕ × ℕ)) (count : ℕ) (parents : List ℕ) : Type 0 where
  pub joined : (label : ℕ → ℕ) → ((k : ℕ) → k < count → label (ends_at edges k).0 ≡ label (ends_at edges k).1) → IsAlong parents label
  pub label : ℕ → ℕ
  pub alike : (k : ℕ) → k < count → label (ends_at edges k).0 ≡ label (ends_at edges k).1
  pub along : IsAlong parents label
  pub roots : (k : ℕ) → k < length parents → parent_of parents k ≡ k → label k ≡ k
  pub parts : (k : ℕ) → k < count → PartsAmong edges count k
