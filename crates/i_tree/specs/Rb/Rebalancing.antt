-- What the rebalancing after an insertion meets on its path up. For the private contracts of the core.
use Rattle.std.specs.Prelude.{◌≡◌, ℕ, ◌+◌, true, List}
use Rattle.i_tree.specs.declared.rb.links.Colour.{Colour}
use Rattle.i_tree.specs.declared.rb.links.Colour.TheVariants.{Red, Black}
use Rattle.i_tree.specs.declared.rb.links.Side.{Side}
use Rattle.i_tree.specs.Rb.Balance.{is_black, IsRedBlack, Fits}
use Rattle.i_tree.specs.Rb.Context.{Frame, fork_on, plug}
use Rattle.i_tree.specs.Rb.Shape.{Shape, leaf, fork, black_levels}

-- one for a red node
abbrev pub one_if_red : Colour → ℕ
one_if_red Red = 1
one_if_red Black = 0

module _ {T : Type 0} where
  -- how many red nodes there are
  abbrev pub red_nodes : Shape T → ℕ
  red_nodes leaf = 0
  red_nodes (fork colour before _ _ after) = one_if_red colour + red_nodes before + red_nodes after

  -- a red-black subtree of so many black levels
  pub record IsSubtree (levels : ℕ) (subtree : Shape T) : Type 0 where
    pub balanced : IsRedBlack subtree
    pub deep : black_levels subtree ≡ levels

  -- and its top is black
  pub record IsBlackSubtree (levels : ℕ) (subtree : Shape T) : Type 0 where
    pub balanced : IsRedBlack subtree
    pub deep : black_levels subtree ≡ levels
    pub black : is_black subtree ≡ true

  -- The node and its parent are red, and the parent is on this side of the black grandparent. But for the two red ones the
  -- tree is red-black.
  pub record IsUnderRed (tree : Shape T) (node parent grandparent : ℕ) (side : Side) : Type 0 where
    pub around : List (Frame T)
    pub levels : ℕ
    pub rotation : Side
    pub near : Shape T
    pub item : T
    pub far : Shape T
    pub parent_item : T
    pub sibling : Shape T
    pub grandparent_item : T
    pub uncle : Shape T
    pub is : tree ≡ plug around (fork_on side Black (fork_on rotation Red (fork_on side Red near node item far) parent parent_item sibling) grandparent grandparent_item uncle)
    pub near_subtree : IsBlackSubtree levels near
    pub far_subtree : IsBlackSubtree levels far
    pub sibling_subtree : IsBlackSubtree levels sibling
    pub uncle_subtree : IsSubtree levels uncle
    pub fits : Fits around (levels + 1)
