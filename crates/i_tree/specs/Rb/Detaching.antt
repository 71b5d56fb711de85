-- How a node with at most one subtree is taken out. For the private contracts of the core.
use Rattle.std.specs.Prelude.{◌≡◌, ℕ, ◌≤◌, List, ◌∷◌, ◌++◌}
use Rattle.i_tree.specs.declared.rb.links.Colour.{Colour}
use Rattle.i_tree.specs.declared.rb.links.Side.{Side}
use Rattle.i_tree.specs.Rb.Context.{Frame, fork_on, plug}
use Rattle.i_tree.specs.Rb.Removal.{RebalancesSubtree}
use Rattle.i_tree.specs.Rb.Shape.{Shape, leaf, fork, entries, rank}

module _ {T : Type 0} where
  -- the subtree's first entry has the handle, and its node has no subtree on the left
  pub record IsFirst (subtree : Shape T) (handle : ℕ) : Type 0 where
    pub inner : List (Frame T)
    pub colour : Colour
    pub item : T
    pub after : Shape T
    pub is : subtree ≡ plug inner (fork colour leaf handle item after)
    pub list : entries subtree ≡ (handle, item) ∷ entries (plug inner after)

  -- the node's subtree took its place in the list. Each subtree around it has lost that entry alone, and its rank hasn't risen
  pub record TakesOut (old : Shape T) (gone : ℕ) (new : Shape T) : Type 0 where
    pub list : (around : List (Frame T)) (side : Side) (colour : Colour) (subtree : Shape T) (item : T)
        → old ≡ plug around (fork_on side colour subtree gone item leaf) → entries new ≡ entries (plug around subtree)
    pub sides : (inner : List (Frame T)) (frame : Frame T) (outer : List (Frame T)) (side : Side) (colour : Colour) (subtree : Shape T) (item : T)
        → old ≡ plug (inner ++ frame ∷ outer) (fork_on side colour subtree gone item leaf)
        → RebalancesSubtree new frame.handle frame.side frame.item (entries (plug inner subtree)) (rank (plug inner (fork_on side colour subtree gone item leaf)))
    pub rank : rank new ≤ rank old
