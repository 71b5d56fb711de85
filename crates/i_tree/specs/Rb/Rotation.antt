-- How a node of a tree is rotated down, in the tree and in its slots. No public clause cites this module.
use Rattle.std.specs.Prelude.{◌≡◌, ◌≢◌, ℕ, List, Some}
use Rattle.i_tree.specs.declared.TheConstants.{EMPTY_REF}
use Rattle.i_tree.specs.declared.rb.links.Colour.{Colour}
use Rattle.i_tree.specs.declared.rb.links.Links.{Links}
use Rattle.i_tree.specs.declared.rb.links.Side.{Side}
use Rattle.i_tree.specs.declared.rb.links.Side.TheVariants.{Left, Right}
use Rattle.i_tree.specs.declared.rb.links.Slot.{Slot}
use Rattle.i_tree.specs.Rb.Context.{Frame, fork_on, plug}
use Rattle.i_tree.specs.Rb.Shape.{Shape}
use Rattle.i_tree.specs.Rb.Slots.{IsSound, Relinks, links_of, with_child_link, with_parent_link}

-- a node with a subtree on the other side, in its frames
pub record Rotation (T : Type 0) (handle : ℕ) (side : Side) : Type 0 where
  pub around : List (Frame T)
  pub colour : Colour
  pub outer : Shape T
  pub item : T
  pub raised_colour : Colour
  pub inner : Shape T
  pub raised : ℕ
  pub raised_item : T
  pub far : Shape T

module _ {T : Type 0} {handle : ℕ} {side : Side} where
  -- the node before its rotation
  abbrev pub unrotated : Rotation T handle side → Shape T
  unrotated rotation = fork_on side rotation.colour rotation.outer handle rotation.item (fork_on side rotation.raised_colour rotation.inner rotation.raised rotation.raised_item rotation.far)

  -- the top of its subtree in its place, and the node below on the side
  abbrev pub rotated : Rotation T handle side → Shape T
  rotated rotation = fork_on side rotation.colour (fork_on side rotation.raised_colour rotation.outer handle rotation.item rotation.inner) rotation.raised rotation.raised_item rotation.far

module _ {T : Type 0} where
  -- the node has a subtree on the other side
  pub record CanRotation (tree : Shape T) (handle : ℕ) (side : Side) : Type 0 where
    pub rotation : Rotation T handle side
    pub is : tree ≡ plug rotation.around (unrotated rotation)

  -- the slots hold a tree in which the node can rotate
  pub record HoldsRotation (slots : List (Slot T)) (root handle : ℕ) (side : Side) : Type 0 where
    pub rotation : Rotation T handle side
    pub first_free : ℕ
    pub free : ℕ
    pub sound : IsSound slots root first_free free (plug rotation.around (unrotated rotation))

  -- the parent of the child, or the root where it has none, has the other handle in its place
  pub record Rehangs (old new : List (Slot T)) (old_root new_root parent child other : ℕ) : Type 0 where
    pub root : parent ≡ EMPTY_REF → new_root ≡ other
    pub slots : parent ≡ EMPTY_REF → new ≡ old
    pub same_root : parent ≢ EMPTY_REF → new_root ≡ old_root
    pub left : (links : Links) → parent ≢ EMPTY_REF → links_of old parent ≡ Some links → links.left ≡ child → Relinks old new parent (with_child_link Left other)
    pub right : (links : Links) → parent ≢ EMPTY_REF → links_of old parent ≡ Some links → links.left ≢ child → Relinks old new parent (with_child_link Right other)

  -- the node, where the handle is that of one, has the other parent
  pub record Reparents (old new : List (Slot T)) (handle parent : ℕ) : Type 0 where
    pub none : handle ≡ EMPTY_REF → new ≡ old
    pub some : handle ≢ EMPTY_REF → Relinks old new handle (with_parent_link parent)
