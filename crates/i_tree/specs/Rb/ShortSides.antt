-- What a step of the rebalancing after a removal makes of the subtree of a node with a short side. For the private contracts of
-- the core.
use Rattle.std.specs.Prelude.{◌≡◌, ℕ, ◌+◌, true}
use Rattle.i_tree.specs.declared.rb.links.Colour.TheVariants.{Black}
use Rattle.i_tree.specs.declared.rb.links.Side.{Side}
use Rattle.i_tree.specs.Rb.Balance.{is_black, level_of, IsRedBlack, IsShort}
use Rattle.i_tree.specs.Rb.Context.{fork_on, plug}
use Rattle.i_tree.specs.Rb.Rebalancing.{red_nodes}
use Rattle.i_tree.specs.Rb.Removal.{KeepsSubtree}
use Rattle.i_tree.specs.Rb.Shape.{Shape, top, entries, black_levels}

module _ {T : Type 0} where
  -- the node's side is short, and its other subtree has a black top
  pub record HasBlackSibling (tree : Shape T) (node : ℕ) (side : Side) : Type 0 where
    pub cut : IsShort tree node side
    pub black : is_black cut.far ≡ true

  -- A red-black subtree has taken the place of the node's subtree, as many levels deep as that was before the removal, and with a
  -- black top if that had one. The node has its short side there.
  pub record IsEnded (tree : Shape T) (node : ℕ) (side : Side) (cut : IsShort tree node side) (new : Shape T) : Type 0 where
    pub subtree : Shape T
    pub is : new ≡ plug cut.around subtree
    pub balanced : IsRedBlack subtree
    pub levels : black_levels subtree ≡ black_levels cut.far + level_of cut.colour
    pub black : cut.colour ≡ Black → is_black subtree ≡ true
    pub entries_are : entries subtree ≡ entries (fork_on side cut.colour cut.near node cut.item cut.far)
    pub kept : KeepsSubtree subtree node side cut.near cut.item

  -- The node is black, and its subtree is red-black now, but one level short. There is one red node more.
  pub record IsRisen (tree : Shape T) (node : ℕ) (side : Side) (cut : IsShort tree node side) (new : Shape T) : Type 0 where
    pub was_black : cut.colour ≡ Black
    pub subtree : Shape T
    pub is : new ≡ plug cut.around subtree
    pub at_top : top subtree ≡ node
    pub balanced : IsRedBlack subtree
    pub levels : black_levels subtree ≡ black_levels cut.far
    pub black : is_black subtree ≡ true
    pub entries_are : entries subtree ≡ entries (fork_on side cut.colour cut.near node cut.item cut.far)
    pub kept : KeepsSubtree subtree node side cut.near cut.item
    pub more_red : red_nodes new ≡ red_nodes tree + 1
