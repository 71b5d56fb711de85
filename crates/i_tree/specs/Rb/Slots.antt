-- How the arena lays a tree out in slots. No public clause cites this module.
use Rattle.std.specs.Prelude.{◌≡◌, ◌≢◌, ℕ, zero, suc, ◌+◌, ◌≤◌, ltb, ◌&&◌, List, [], ◌∷◌, length, Option, Some, None, IsSome, slice_get, if◌then◌else◌}
use Rattle.i_tree.specs.declared.TheConstants.{EMPTY_REF}
use Rattle.i_tree.specs.declared.rb.links.Colour.{Colour}
use Rattle.i_tree.specs.declared.rb.links.Links.{Links}
use Rattle.i_tree.specs.declared.rb.links.Side.{Side}
use Rattle.i_tree.specs.declared.rb.links.Side.TheVariants.{Left, Right}
use Rattle.i_tree.specs.declared.rb.links.Slot.{Slot}
use Rattle.i_tree.specs.declared.rb.links.Slot.TheVariants.{Free, Used}
use Rattle.i_tree.specs.declared.rb.links.Ties.{Ties}
use Rattle.i_tree.specs.Rb.Shape.{Shape, leaf, fork, top, entries, occurs, one_if_same}

abbrev pub child_link : Side → Links → ℕ
child_link Left links = links.left
child_link Right links = links.right

abbrev pub with_child_link : Side → ℕ → Links → Links
with_child_link Left child links = record links { left = child }
with_child_link Right child links = record links { right = child }

abbrev pub with_child_tie : Side → ℕ → Ties → Ties
with_child_tie Left child ties = record ties { left = child }
with_child_tie Right child ties = record ties { right = child }

abbrev pub with_parent_link : ℕ → Links → Links
with_parent_link parent links = record links { parent = parent }

abbrev pub with_colour : Colour → Links → Links
with_colour colour links = record links { colour = colour }

-- below another parent, in another colour, with another subtree on the side
abbrev pub hung_links : ℕ → Colour → Side → ℕ → Links → Links
hung_links parent colour side child links = record (with_child_link side child links) { parent = parent; colour = colour }

-- a node's links, from the two parts that its slot has of them
abbrev pub tied_links : Colour → Ties → Links
tied_links colour ties = record { parent = ties.parent; left = ties.left; right = ties.right; colour = colour }

abbrev pub occurs_in : ℕ → List ℕ → ℕ
occurs_in wanted [] = 0
occurs_in wanted (handle ∷ rest) = one_if_same wanted handle + occurs_in wanted rest

-- one for each slot but the reserved one
abbrev pub one_if_slot : ℕ → ℕ → ℕ
one_if_slot count handle = if ltb 0 handle && ltb handle count then 1 else 0

module _ {T : Type 0} where
  -- the slot of a node with these links
  abbrev pub node_slot : Links → T → Slot T
  node_slot links item = Used links.colour (record { parent = links.parent; left = links.left; right = links.right }) item

  abbrev pub slot_links : Option (Slot T) → Option Links
  slot_links None = None
  slot_links (Some (Free _)) = None
  slot_links (Some (Used colour ties _)) = Some (tied_links colour ties)

  abbrev pub slot_item : Slot T → Option T
  slot_item (Free _) = None
  slot_item (Used _ _ item) = Some item

  -- the slot with another item in it, where it is in use
  abbrev pub with_slot_item : Slot T → T → Slot T
  with_slot_item (Free next) item = Free next
  with_slot_item (Used colour ties _) item = Used colour ties item

  abbrev pub links_of : List (Slot T) → ℕ → Option Links
  links_of slots handle = slot_links (slice_get slots handle)

  -- a node is in the slot
  abbrev pub IsUsed : List (Slot T) → ℕ → Type 0
  IsUsed slots handle = IsSome (links_of slots handle)

  -- the links of the node in this slot have changed so, its item is the same, and the other slots are the same
  pub record Relinks (old new : List (Slot T)) (handle : ℕ) (change : Links → Links) : Type 0 where
    pub at : (links : Links) (item : T) → slice_get old handle ≡ Some (node_slot links item) → slice_get new handle ≡ Some (node_slot (change links) item)
    pub others : (other : ℕ) → other ≢ handle → slice_get new other ≡ slice_get old other

  -- the slots hold this tree, whose top has this parent
  abbrev pub IsAt : List (Slot T) → ℕ → Shape T → Type 0
  IsAt slots above leaf = Unit {0}
  IsAt slots above (fork shade before handle item after) =
      (slice_get slots handle ≡ Some (node_slot (record { parent = above; left = top before; right = top after; colour = shade }) item))
      × IsAt slots handle before × IsAt slots handle after

  -- these slots, the first of which is given, are free, and each names the next
  abbrev pub IsChain : List (Slot T) → ℕ → List ℕ → Type 0
  IsChain slots first [] = first ≡ EMPTY_REF
  IsChain slots first (handle ∷ rest) = (first ≡ handle) × ((next : ℕ) × (slice_get slots handle ≡ Some (Free next)) × IsChain slots next rest)

  -- the slots from the root hold the tree, and each other slot but the reserved one is on the chain of free slots
  pub record IsSound (slots : List (Slot T)) (root first_free free : ℕ) (tree : Shape T) : Type 0 where
    pub at : IsAt slots EMPTY_REF tree
    pub root_is : root ≡ top tree
    pub chain : List ℕ
    pub linked : IsChain slots first_free chain
    pub counted : length chain ≡ free
    pub each_once : (handle : ℕ) → occurs handle tree + occurs_in handle chain ≡ one_if_slot (length slots) handle
    pub total : length (entries tree) + free + 1 ≡ length slots
    pub few : length slots ≤ EMPTY_REF
    pub reserved : slice_get slots 0 ≡ Some (Free EMPTY_REF)

  -- the tree that is read from a handle on, so many levels down
  abbrev pub read_slot : (ℕ → Shape T) → ℕ → Option (Slot T) → Shape T
  read_slot read handle None = leaf
  read_slot read handle (Some (Free _)) = leaf
  read_slot read handle (Some (Used colour ties item)) = fork colour (read ties.left) handle item (read ties.right)

  abbrev pub read_tree : List (Slot T) → ℕ → ℕ → Shape T
  read_tree slots zero handle = leaf
  read_tree slots (suc levels) handle = read_slot (read_tree slots levels) handle (slice_get slots handle)
