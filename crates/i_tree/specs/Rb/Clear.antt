-- How the core is cleared. For the private contracts of the core.
use Rattle.std.specs.Prelude.{◌≡◌, ℕ, List}
use Rattle.i_tree.specs.declared.rb.links.Colour.{Colour}
use Rattle.i_tree.specs.Rb.Context.{Frame, plug}
use Rattle.i_tree.specs.Rb.Shape.{Shape, leaf, fork}

module _ {T : Type 0} where
  -- the node has no subtree
  pub record IsChildless (tree : Shape T) (handle : ℕ) : Type 0 where
    pub around : List (Frame T)
    pub colour : Colour
    pub item : T
    pub is : tree ≡ plug around (fork colour leaf handle item leaf)
