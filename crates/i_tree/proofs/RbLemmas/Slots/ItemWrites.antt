-- An item of a node in its slot is changed.
use Rattle.std.proofs.Common.{◌≡◌, ℕ, Bool, eqb, cond, List, ◌∷◌, Some, length, slice_get, slice_set, get_or, is_some, IsSome, refl, sym, ap, ◌∙◌, length-append, arith}
use Rattle.std.proofs.lemmas.Bool.{eqb-true, eqb-false}
use Rattle.std.proofs.lemmas.List.{length-set}
use Rattle.std.proofs.lemmas.Option.{slice_get_within, slice_get-get_or}
use Rattle.i_tree.specs.declared.TheConstants.{EMPTY_REF}
use Rattle.i_tree.specs.declared.rb.links.Colour.{Colour}
use Rattle.i_tree.specs.declared.rb.links.Links.{Links}
use Rattle.i_tree.specs.declared.rb.links.Slot.{Slot}
use Rattle.i_tree.specs.Rb.Context.{Frame, plug}
use Rattle.i_tree.specs.Rb.RbTree.{Contents}
use Rattle.i_tree.specs.Rb.Shape.{Shape, leaf, fork, top, entries, occurs, with_item, IsHandle}
use Rattle.i_tree.specs.Rb.Slots.{node_slot, slot_item, with_slot_item, slot_links, IsAt, IsSound}
use Rattle.i_tree.proofs.RbLemmas.Slots.Writes.{InUse, in_use, IsUsed-within, slice_get-set_other, slice_get-set_same, IsSound-kept}
use Rattle.i_tree.proofs.RbLemmas.Slots.Reads.{IsUsed-sound, item_at}

module _ {T : Type 0} where
  pub top-with_item : (handle : ℕ) (item : T) (tree : Shape T) → top (with_item handle item tree) ≡ top tree
  top-with_item handle item leaf = refl
  top-with_item handle item (fork shade before own held after) = refl

  pub occurs-with_item : (other handle : ℕ) (item : T) (tree : Shape T) → occurs other (with_item handle item tree) ≡ occurs other tree
  occurs-with_item other handle item leaf = refl
  occurs-with_item other handle item (fork shade before own held after) =
      omega (arith, occurs-with_item other handle item before, occurs-with_item other handle item after)

  pub entries-with_item : (handle : ℕ) (item : T) (tree : Shape T) → length (entries (with_item handle item tree)) ≡ length (entries tree)
  entries-with_item handle item leaf = refl
  entries-with_item handle item (fork shade before own held after) =
      let first = length-append (entries (with_item handle item before)) ((own, cond (eqb handle own) item held) ∷ entries (with_item handle item after)) in
      let second = length-append (entries before) ((own, held) ∷ entries after) in
      omega (arith, entries-with_item handle item before, entries-with_item handle item after)

  -- the tree in slots, one of which has another item
  pub IsAt-with_item : (slots : List (Slot T)) (above handle : ℕ) (links : Links) (held item : T) (tree : Shape T) → slice_get slots handle ≡ Some (node_slot links held)
      → IsAt slots above tree → IsAt (slice_set slots handle (node_slot links item)) above (with_item handle item tree)
  IsAt-with_item slots above handle links held item leaf used at = tt
  IsAt-with_item slots above handle links held item (fork shade before own was after) used at = (
    by_test (eqb handle own) refl,
    IsAt-with_item slots own handle links held item before used at.1,
    IsAt-with_item slots own handle links held item after used at.2,
  )
    where
      same_links : ◌≡◌ {A = Links} (record { parent = above; left = top before; right = top after; colour = shade })
          (record { parent = above; left = top (with_item handle item before); right = top (with_item handle item after); colour = shade })
      same_links =
          let First : ℕ → Links = λ near. record { parent = above; left = near; right = top after; colour = shade } in
          let Second : ℕ → Links = λ far. record { parent = above; left = top (with_item handle item before); right = far; colour = shade } in
          ap First (sym (top-with_item handle item before)) ∙ ap Second (sym (top-with_item handle item after))

      by_test : (test : Bool) → eqb handle own ≡ test → slice_get (slice_set slots handle (node_slot links item)) own
          ≡ Some (node_slot (record { parent = above; left = top (with_item handle item before); right = top (with_item handle item after); colour = shade }) (cond (eqb handle own) item was))
      by_test test is = grind (arith, eqb-true, slice_get-set_same, slice_get_within, same_links, eqb-false, slice_get-set_other)

  pub sound-item : (slots : List (Slot T)) (root first_free free handle : ℕ) (links : Links) (held item : T) (tree : Shape T) → IsSound slots root first_free free tree
      → IsHandle tree handle → slice_get slots handle ≡ Some (node_slot links held)
      → IsSound (slice_set slots handle (node_slot links item)) root first_free free (with_item handle item tree)
  sound-item slots root first_free free handle links held item tree sound live used =
      IsSound-kept slots (slice_set slots handle (node_slot links item)) root root first_free free tree (with_item handle item tree) sound
      (length-set slots handle (node_slot links item))
      (λ other gone. slice_get-set_other slots handle other (node_slot links item) (λ same. let moved = ap (λ h. occurs h tree) same in omega arith))
      (IsAt-with_item slots EMPTY_REF handle links held item tree used sound.at)
      (sound.root_is ∙ sym (top-with_item handle item tree)) (λ other. occurs-with_item other handle item tree) (entries-with_item handle item tree)

  -- what the slot of a live handle has in it
  pub slot_live : (slots : List (Slot T)) (root first_free free handle : ℕ) (slot : Slot T) (tree : Shape T) → IsSound slots root first_free free tree
      → IsHandle tree handle → slot ≡ get_or slots handle slot → (held : InUse slots handle) × (slot ≡ node_slot held.links held.item)
  slot_live slots root first_free free handle slot tree sound live is =
      let used = IsUsed-sound slots root first_free free handle tree sound live in
      let held = in_use slots handle used in
      let read = slice_get-get_or slots handle slot (IsUsed-within slots handle used) in
      let at = held.is in
      (held, cc)

  -- whatever item the borrower leaves
  pub sound-lent : (slots : List (Slot T)) (root first_free free handle : ℕ) (slot : Slot T) (item : T) (tree : Shape T) → IsSound slots root first_free free tree
      → IsHandle tree handle → slot ≡ get_or slots handle slot
      → IsSound (slice_set slots handle (with_slot_item slot item)) root first_free free (with_item handle item tree)
  sound-lent slots root first_free free handle slot item tree sound live is = grind (arith, slot_live, sound-item)

  pub used_lent : (slots : List (Slot T)) (root first_free free handle : ℕ) (slot : Slot T) (tree : Shape T) → IsSound slots root first_free free tree
      → IsHandle tree handle → slot ≡ get_or slots handle slot → IsSome (slot_links (Some slot))
  used_lent slots root first_free free handle slot tree sound live is =
      ap (λ (left : Slot T). is_some (slot_links (Some left))) (slot_live slots root first_free free handle slot tree sound live is).1

  pub item_lent : (slots : List (Slot T)) (root first_free free handle : ℕ) (slot : Slot T) (lent : T) (tree : Shape T)
      (around : List (Frame T)) (shade : Colour) (before : Shape T) (item : T) (after : Shape T) → IsSound slots root first_free free tree
      → IsHandle tree handle → slot ≡ get_or slots handle slot → slot_item slot ≡ Some lent → tree ≡ plug around (fork shade before handle item after) → lent ≡ item
  item_lent slots root first_free free handle slot lent tree around shade before item after sound live is lends cut =
      let held = slot_live slots root first_free free handle slot tree sound live is in
      let equal : lent ≡ held.0.item = cc in
      equal ∙ item_at slots root first_free free handle tree held.0.links held.0.item around shade before item after sound held.0.is cut

  -- the contents with that item
  pub contents_lent : (was left : Shape T) (free handle : ℕ) (contents : Contents T) (item : T) → ◌≡◌ {A = Contents T} (record { shape = was; spare = free }) contents
      → left ≡ with_item handle item contents.shape
      → ◌≡◌ {A = Contents T} (record { shape = left; spare = free }) (record { shape = with_item handle item contents.shape; spare = contents.spare })
  contents_lent was left free handle contents item view_is read = grind arith
