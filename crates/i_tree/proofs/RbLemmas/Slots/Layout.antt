-- A tree in the slots of the arena: from the whole to a subtree and what is around it, and back; and what a change leaves.
use Rattle.std.proofs.Common.{◌≡◌, ◌≢◌, ℕ, zero, suc, ◌<◌, ◌≤◌, Bool, true, false, ltb, ◌&&◌, cond, is_some, List, [], ◌∷◌, Some, length, slice_get, refl, sym, ap, ◌∙◌, subst, length-append, arith}
use Rattle.std.proofs.lemmas.Bool.Decides.{nat_tests}
use Rattle.std.proofs.lemmas.Option.{slice_get_past}
use Rattle.i_tree.specs.declared.TheConstants.{EMPTY_REF}
use Rattle.i_tree.specs.declared.rb.links.Colour.{Colour}
use Rattle.i_tree.specs.declared.rb.links.Links.{Links}
use Rattle.i_tree.specs.declared.rb.links.Side.{Side}
use Rattle.i_tree.specs.declared.rb.links.Side.TheVariants.{Left, Right}
use Rattle.i_tree.specs.declared.rb.links.Slot.{Slot}
use Rattle.i_tree.specs.Rb.Shape.{Shape, leaf, fork, top, entries, occurs, AreHandles}
use Rattle.i_tree.specs.Rb.Context.{Frame, fork_on, fill, plug, hole_parent}
use Rattle.i_tree.specs.Rb.Slots.{node_slot, slot_links, IsUsed, IsAt, IsSound, read_slot, read_tree, one_if_slot, IsChain, occurs_in}
use Rattle.i_tree.proofs.RbLemmas.Shape.Contexts.{one_if_same-same, occurs_where, occurs_around, top-fork_on}

-- the links of a node by its side
abbrev pub links_on : Side → ℕ → ℕ → ℕ → Colour → Links
links_on Left above near far shade = record { parent = above; left = near; right = far; colour = shade }
links_on Right above near far shade = record { parent = above; left = far; right = near; colour = shade }

pub one_if_slot-le : (count handle : ℕ) → one_if_slot count handle ≤ 1
one_if_slot-le count handle = by_test (ltb 0 handle && ltb handle count)
  where
    by_test : (b : Bool) → cond b 1 0 ≤ 1
    by_test true = omega arith
    by_test false = omega arith

pub one_if_slot-inside : (count handle : ℕ) → 0 < handle → handle < count → one_if_slot count handle ≡ 1
one_if_slot-inside count handle some below = grind (arith, nat_tests)

pub one_if_slot-past : (count handle : ℕ) → count ≤ handle → one_if_slot count handle ≡ 0
one_if_slot-past count handle past = grind (arith, nat_tests)

module _ {T : Type 0} where
  -- the slots hold these frames, in whose hole this handle is
  abbrev pub IsAround : List (Slot T) → List (Frame T) → ℕ → Type 0
  IsAround slots [] child = Unit {0}
  IsAround slots (frame ∷ around) child =
      (slice_get slots frame.handle ≡ Some (node_slot (links_on frame.side (hole_parent around) child (top frame.sibling) frame.colour) frame.item))
      × IsAt slots frame.handle frame.sibling × IsAround slots around frame.handle

  -- a chain in slots that are the same along it
  pub IsChain-same : (old new : List (Slot T)) (first : ℕ) (chain : List ℕ) → ((handle : ℕ) → 0 < occurs_in handle chain → slice_get new handle ≡ slice_get old handle)
      → IsChain old first chain → IsChain new first chain
  IsChain-same old new first [] same linked = linked
  IsChain-same old new first (handle ∷ rest) same linked =
      let here = one_if_same-same handle in
      (linked.0, (linked.1.0, same handle (omega arith) ∙ linked.1.1, IsChain-same old new linked.1.0 rest (λ other some. same other (omega arith)) linked.1.2))

  pub IsAt-from_fork_on : (slots : List (Slot T)) (above : ℕ) (side : Side) (shade : Colour) (near : Shape T) (handle : ℕ) (item : T) (far : Shape T)
      → IsAt slots above (fork_on side shade near handle item far)
      → (slice_get slots handle ≡ Some (node_slot (links_on side above (top near) (top far) shade) item)) × IsAt slots handle near × IsAt slots handle far
  IsAt-from_fork_on slots above Left shade near handle item far at = at
  IsAt-from_fork_on slots above Right shade near handle item far at = (at.0, at.2, at.1)

  pub IsAt-fork_on : (slots : List (Slot T)) (above : ℕ) (side : Side) (shade : Colour) (near : Shape T) (handle : ℕ) (item : T) (far : Shape T)
      → slice_get slots handle ≡ Some (node_slot (links_on side above (top near) (top far) shade) item) → IsAt slots handle near → IsAt slots handle far
      → IsAt slots above (fork_on side shade near handle item far)
  IsAt-fork_on slots above Left shade near handle item far own near_at far_at = (own, near_at, far_at)
  IsAt-fork_on slots above Right shade near handle item far own near_at far_at = (own, far_at, near_at)

  -- the tree is in the slots where a subtree is, and the frames around it are
  pub IsAt-from_plug : (slots : List (Slot T)) (around : List (Frame T)) (subtree : Shape T) → IsAt slots EMPTY_REF (plug around subtree)
      → IsAround slots around (top subtree) × IsAt slots (hole_parent around) subtree
  IsAt-from_plug slots [] subtree at = (tt, at)
  IsAt-from_plug slots (frame ∷ around) subtree at =
      let outer = IsAt-from_plug slots around (fill frame subtree) at in
      let own = IsAt-from_fork_on slots (hole_parent around) frame.side frame.colour subtree frame.handle frame.item frame.sibling outer.1 in
      let Held : ℕ → Type 0 = λ child. IsAround slots around child in
      ((own.0, own.2, subst Held (top-fork_on frame.side frame.colour subtree frame.handle frame.item frame.sibling) outer.0), own.1)

  pub IsAt-plug : (slots : List (Slot T)) (around : List (Frame T)) (subtree : Shape T) → IsAround slots around (top subtree) → IsAt slots (hole_parent around) subtree
      → IsAt slots EMPTY_REF (plug around subtree)
  IsAt-plug slots [] subtree held at = at
  IsAt-plug slots (frame ∷ around) subtree held at =
      let Held : ℕ → Type 0 = λ child. IsAround slots around child in
      IsAt-plug slots around (fill frame subtree)
      (subst Held (sym (top-fork_on frame.side frame.colour subtree frame.handle frame.item frame.sibling)) held.2)
      (IsAt-fork_on slots (hole_parent around) frame.side frame.colour subtree frame.handle frame.item frame.sibling held.0 at held.1)

  -- the root of a plugged tree
  pub top-plug : (frame : Frame T) (around : List (Frame T)) (first second : Shape T) → top (plug (frame ∷ around) first) ≡ top (plug (frame ∷ around) second)
  top-plug frame [] first second = top-fork_on frame.side frame.colour first frame.handle frame.item frame.sibling ∙ sym (top-fork_on frame.side frame.colour second frame.handle frame.item frame.sibling)
  top-plug frame (outer ∷ around) first second = top-plug outer around (fill frame first) (fill frame second)

  -- slots that are the same at each handle of a tree, or of frames, hold it too
  pub IsAt-same : (old new : List (Slot T)) (above : ℕ) (tree : Shape T) → ((handle : ℕ) → 0 < occurs handle tree → slice_get new handle ≡ slice_get old handle)
      → IsAt old above tree → IsAt new above tree
  IsAt-same old new above leaf same at = tt
  IsAt-same old new above (fork shade before own item after) same at = (
    same own (let here = one_if_same-same own in omega arith) ∙ at.0,
    IsAt-same old new own before (λ handle some. same handle (omega arith)) at.1,
    IsAt-same old new own after (λ handle some. same handle (omega arith)) at.2,
  )

  pub IsAround-same : (old new : List (Slot T)) (around : List (Frame T)) (child : ℕ) → ((handle : ℕ) → 0 < occurs_around handle around → slice_get new handle ≡ slice_get old handle)
      → IsAround old around child → IsAround new around child
  IsAround-same old new [] child same held = tt
  IsAround-same old new (frame ∷ around) child same held = (
    same frame.handle (let here = one_if_same-same frame.handle in omega arith) ∙ held.0,
    IsAt-same old new frame.handle frame.sibling (λ handle some. same handle (omega arith)) held.1,
    IsAround-same old new around frame.handle (λ handle some. same handle (omega arith)) held.2,
  )

  -- another handle in the hole of the frames
  pub IsAround-child : (old new : List (Slot T)) (frame : Frame T) (around : List (Frame T)) (child : ℕ) (other : ℕ)
      → slice_get new frame.handle ≡ Some (node_slot (links_on frame.side (hole_parent around) other (top frame.sibling) frame.colour) frame.item)
      → ((handle : ℕ) → handle ≢ frame.handle → 0 < occurs_around handle (frame ∷ around) → slice_get new handle ≡ slice_get old handle)
      → occurs_around frame.handle (frame ∷ around) ≤ 1
      → IsAround old (frame ∷ around) child → IsAround new (frame ∷ around) other
  IsAround-child old new frame around child other own same once held =
      let here = one_if_same-same frame.handle in (
        own,
        IsAt-same old new frame.handle frame.sibling (λ handle some. same handle (λ is. let moved = ap (λ h. occurs h frame.sibling) is in omega arith) (omega arith)) held.1,
        IsAround-same old new around frame.handle (λ handle some. same handle (λ is. let moved = ap (λ h. occurs_around h around) is in omega arith) (omega arith)) held.2,
      )

  -- the top of a tree with another parent
  pub IsAt-parent : (old new : List (Slot T)) (above other : ℕ) (shade : Colour) (before : Shape T) (own : ℕ) (item : T) (after : Shape T)
      → slice_get new own ≡ Some (node_slot (record { parent = other; left = top before; right = top after; colour = shade }) item)
      → ((handle : ℕ) → handle ≢ own → 0 < occurs handle (fork shade before own item after) → slice_get new handle ≡ slice_get old handle)
      → occurs own (fork shade before own item after) ≤ 1
      → IsAt old above (fork shade before own item after) → IsAt new other (fork shade before own item after)
  IsAt-parent old new above other shade before own item after at_own same once at =
      let here = one_if_same-same own in (
        at_own,
        IsAt-same old new own before (λ handle some. same handle (λ is. let moved = ap (λ h. occurs h before) is in omega arith) (omega arith)) at.1,
        IsAt-same old new own after (λ handle some. same handle (λ is. let moved = ap (λ h. occurs h after) is in omega arith) (omega arith)) at.2,
      )

  -- a live handle's slot is in use
  pub IsUsed-live : (slots : List (Slot T)) (above handle : ℕ) (tree : Shape T) → IsAt slots above tree → 0 < occurs handle tree → IsUsed slots handle
  IsUsed-live slots above handle leaf at some = absurd (omega arith)
  IsUsed-live slots above handle (fork shade before own item after) at some =
      let Used_at : ℕ → Type 0 = λ other. IsUsed slots other in
      occurs_where own handle (occurs handle before) (occurs handle after) (Used_at handle) some
      (λ inside. IsUsed-live slots own handle before at.1 inside)
      (λ same. subst Used_at (sym same) (ap (λ slot. is_some (slot_links slot)) at.0))
      (λ inside. IsUsed-live slots own handle after at.2 inside)

  -- what is read from the top of a tree in slots is that tree
  pub IsAt-read : (slots : List (Slot T)) (above levels : ℕ) (tree : Shape T) → length slots ≤ EMPTY_REF → length (entries tree) ≤ levels → IsAt slots above tree
      → read_tree slots levels (top tree) ≡ tree
  IsAt-read slots above zero leaf few enough at = refl
  IsAt-read slots above (suc levels) leaf few enough at = ap (read_slot (read_tree slots levels) EMPTY_REF) (slice_get_past slots EMPTY_REF few)
  IsAt-read slots above zero (fork shade before own item after) few enough at =
      let size = length-append (entries before) ((own, item) ∷ entries after) in absurd (omega arith)
  IsAt-read slots above (suc levels) (fork shade before own item after) few enough at =
      let size = length-append (entries before) ((own, item) ∷ entries after) in
      ap (read_slot (read_tree slots levels) own) at.0
      ∙ ap (λ tree. fork shade tree own item (read_tree slots levels (top after))) (IsAt-read slots own levels before few (omega arith) at.1)
      ∙ ap (λ tree. fork shade before own item tree) (IsAt-read slots own levels after few (omega arith) at.2)

  -- handles of sound slots
  pub AreHandles-sound : (slots : List (Slot T)) (root first_free free : ℕ) (tree : Shape T) → IsSound slots root first_free free tree → AreHandles tree
  AreHandles-sound slots root first_free free tree sound = grind (arith, one_if_slot-le, one_if_slot-past)

  -- sound slots are read as the tree that they hold
  pub read_sound : (slots : List (Slot T)) (root first_free free : ℕ) (tree : Shape T) → IsSound slots root first_free free tree
      → read_tree slots (length slots) root ≡ tree
  read_sound slots root first_free free tree sound =
      ap (read_tree slots (length slots)) sound.root_is ∙ IsAt-read slots EMPTY_REF (length slots) tree sound.few (omega (arith, sound.total)) sound.at
