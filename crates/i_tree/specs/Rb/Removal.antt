-- How a removal changes the core.
use Rattle.std.specs.Prelude.{◌≡◌, ◌⊎◌, ℕ, ◌≤◌, ◌+◌, List, ◌∷◌, ◌++◌}
use Rattle.i_tree.specs.declared.rb.links.Colour.{Colour}
use Rattle.i_tree.specs.declared.rb.links.Side.{Side}
use Rattle.i_tree.specs.Rb.Balance.{IsShort}
use Rattle.i_tree.specs.Rb.Context.{Frame, fork_on, plug}
use Rattle.i_tree.specs.Rb.Shape.{Shape, entries, black_levels, rank, IsHandle}
use Rattle.i_tree.specs.Root.Steps.{Counts}

module _ {T : Type 0} where
  -- a list that was cut at the handle's pair has lost that pair; all others have their handles, or the next one alone
  -- has this handle now
  abbrev pub LosesAt : ℕ → List (ℕ × T) → List (ℕ × T) → List (ℕ × T) → Type 0
  LosesAt handle front back after =
      (after ≡ front ++ back)
      ⊎ ((next : ℕ) × (item : T) × (rest : List (ℕ × T)) × (back ≡ (next, item) ∷ rest) × (after ≡ front ++ (handle, item) ∷ rest))

  -- the node above is live, the list has changed on its side alone, and the rank of that side hasn't risen
  pub record ChangesSide (old new : Shape T) (above : ℕ) (old_side new_side : Shape T) : Type 0 where
    pub live : IsHandle new above
    pub rest : (front back : List (ℕ × T)) → entries old ≡ front ++ (entries old_side ++ back) → entries new ≡ front ++ (entries new_side ++ back)
    pub rank : rank new_side ≤ rank old_side

  -- the node has its item and this subtree on the side
  pub record KeepsSubtree (tree : Shape T) (handle : ℕ) (side : Side) (near : Shape T) (item : T) : Type 0 where
    pub around : List (Frame T)
    pub colour : Colour
    pub far : Shape T
    pub is : tree ≡ plug around (fork_on side colour near handle item far)

  -- the node has its item, and on the side a subtree with these entries, whose rank is at most so much
  pub record RebalancesSubtree (tree : Shape T) (handle : ℕ) (side : Side) (item : T) (list : List (ℕ × T)) (most : ℕ) : Type 0 where
    pub around : List (Frame T)
    pub colour : Colour
    pub subtree : Shape T
    pub far : Shape T
    pub is : tree ≡ plug around (fork_on side colour subtree handle item far)
    pub entries_are : entries subtree ≡ list
    pub ranks : rank subtree ≤ most

  -- The entries stay, and the short side itself is kept. Each subtree around it has the same entries, and its rank is at most
  -- what it is with a subtree one level higher in the place of the short side.
  pub record IsRebalanced (tree : Shape T) (parent : ℕ) (short : Side) (new : Shape T) : Type 0 where
    pub list : entries new ≡ entries tree
    pub own : (cut : IsShort tree parent short) → KeepsSubtree new parent short cut.near cut.item
    pub outer : (cut : IsShort tree parent short) (inner : List (Frame T)) (frame : Frame T) (outer : List (Frame T)) (fuller : Shape T)
        → cut.around ≡ inner ++ frame ∷ outer → black_levels fuller ≡ black_levels cut.near + 1
        → RebalancesSubtree new frame.handle frame.side frame.item (entries (plug inner (fork_on short cut.colour cut.near parent cut.item cut.far)))
        (rank (plug inner (fork_on short cut.colour fuller parent cut.item cut.far)))
    pub whole : (cut : IsShort tree parent short) (fuller : Shape T) → black_levels fuller ≡ black_levels cut.near + 1
        → rank new ≤ rank (plug cut.around (fork_on short cut.colour fuller parent cut.item cut.far))

-- one removal and at most so many rotations were made, and nothing else that is counted
pub record RemovesOne {S : Type 0} (Made : S → S → Counts → Type 0) (old new : S) (most : ℕ) : Type 0 where
  pub made : Counts
  pub counted : Made old new made
  pub comparisons : made.comparisons ≡ 0
  pub tests : made.tests ≡ 0
  pub removals : made.removals ≡ 1
  pub rotations : made.rotations ≤ most
