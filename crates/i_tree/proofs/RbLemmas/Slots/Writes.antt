-- What the arena's writers leave: links changed in place, and the slots still hold a tree.
use Rattle.std.proofs.Common.{◌≡◌, ◌≢◌, ℕ, zero, suc, ◌<◌, ◌≤◌, List, [], ◌∷◌, ◌++◌, Option, Some, None, IsSome, length, slice_get, slice_set, refl, sym, ap, ◌∙◌, subst, arith}
use Rattle.std.proofs.lemmas.Option.{slice_get_within}
use Rattle.i_tree.specs.declared.TheConstants.{EMPTY_REF}
use Rattle.i_tree.specs.declared.rb.links.Colour.{Colour}
use Rattle.i_tree.specs.declared.rb.links.Links.{Links}
use Rattle.i_tree.specs.declared.rb.links.Side.{Side}
use Rattle.i_tree.specs.declared.rb.links.Side.TheVariants.{Left, Right}
use Rattle.i_tree.specs.declared.rb.links.Slot.{Slot}
use Rattle.i_tree.specs.declared.rb.links.Slot.TheVariants.{Free, Used}
use Rattle.i_tree.specs.declared.rb.links.Ties.{Ties}
use Rattle.i_tree.specs.Rb.Context.{Frame, plug, hole_parent}
use Rattle.i_tree.specs.Rb.Shape.{Shape, fork, top, entries, occurs}
use Rattle.i_tree.specs.Rb.Slots.{node_slot, tied_links, with_child_link, with_child_tie, slot_links, IsUsed, Relinks, IsAt, IsSound, with_colour, read_tree}
use Rattle.i_tree.proofs.RbLemmas.Shape.Contexts.{one_if_same-same, occurs_around, occurs_among, occurs_among-entries, occurs-plug, before_hole, after_hole, entries-plug}
use Rattle.i_tree.proofs.RbLemmas.Slots.Layout.{one_if_slot-le, IsAt-from_plug, IsAt-plug, top-plug, IsAt-same, IsAround-same, AreHandles-sound, read_sound, IsChain-same}

-- another subtree on a side, in the two parts and in the links
pub with_child-tied : (side : Side) (child : ℕ) (colour : Colour) (ties : Ties) → tied_links colour (with_child_tie side child ties) ≡ with_child_link side child (tied_links colour ties)
with_child-tied Left child colour ties = refl
with_child-tied Right child colour ties = refl

module _ {T : Type 0} where
  -- a slot in use, with what is in it
  pub record InUse (slots : List (Slot T)) (handle : ℕ) : Type 0 where
    pub links : Links
    pub item : T
    pub is : slice_get slots handle ≡ Some (node_slot links item)

  pub in_use : (slots : List (Slot T)) (handle : ℕ) → IsUsed slots handle → InUse slots handle
  in_use slots handle used = by_slot (slice_get slots handle) refl used
    where
      by_slot : (slot : Option (Slot T)) → slice_get slots handle ≡ slot → IsSome (slot_links slot) → InUse slots handle
      by_slot None is used = cc
      by_slot (Some (Free next)) is used = cc
      by_slot (Some (Used colour ties item)) is used = record { links = tied_links colour ties; item = item; is = is }

  pub IsUsed-within : (slots : List (Slot T)) (handle : ℕ) → IsUsed slots handle → handle < length slots
  IsUsed-within slots handle used = slice_get_within slots handle _ (in_use slots handle used).is

  pub not_free : (slots : List (Slot T)) (handle next : ℕ) → IsUsed slots handle → slice_get slots handle ≡ Some (Free next) → ⊥
  not_free slots handle next used is = let held = (in_use slots handle used).is in cc

  pub slice_get-set_other : (slots : List (Slot T)) (handle other : ℕ) (new : Slot T) → other ≢ handle → slice_get (slice_set slots handle new) other ≡ slice_get slots other
  slice_get-set_other [] handle other new apart = refl
  slice_get-set_other (slot ∷ rest) zero zero new apart = absurd (apart refl)
  slice_get-set_other (slot ∷ rest) zero (suc other) new apart = refl
  slice_get-set_other (slot ∷ rest) (suc handle) zero new apart = refl
  slice_get-set_other (slot ∷ rest) (suc handle) (suc other) new apart = slice_get-set_other rest handle other new (λ same. apart (ap suc same))

  pub slice_get-set_same : (slots : List (Slot T)) (handle : ℕ) (new : Slot T) → handle < length slots → slice_get (slice_set slots handle new) handle ≡ Some new
  slice_get-set_same [] handle new within = absurd (omega arith)
  slice_get-set_same (slot ∷ rest) zero new within = refl
  slice_get-set_same (slot ∷ rest) (suc handle) new within = slice_get-set_same rest handle new (omega arith)

  -- a write of a node's links
  pub Relinks-set : (slots : List (Slot T)) (handle : ℕ) (was_colour colour : Colour) (was ties : Ties) (change : Links → Links) (item : T) → slice_get slots handle ≡ Some (Used was_colour was item)
      → tied_links colour ties ≡ change (tied_links was_colour was) → Relinks slots (slice_set slots handle (Used colour ties item)) handle change
  Relinks-set slots handle was_colour colour was ties change item at is = grind (arith, slice_get-set_same, slice_get_within, slice_get-set_other)

  -- the fields hold the tree that is read from them
  pub IsSound-read : (slots : List (Slot T)) (root first_free free : ℕ) (tree : Shape T) → IsSound slots root first_free free tree
      → IsSound slots root first_free free (read_tree slots (length slots) root)
  IsSound-read slots root first_free free tree sound = grind (arith, read_sound)

  pub occurs-same : (handle : ℕ) (first second : Shape T) → entries first ≡ entries second → occurs handle first ≡ occurs handle second
  occurs-same handle first second same = sym (occurs_among-entries handle first) ∙ ap (occurs_among handle) same ∙ occurs_among-entries handle second

  -- a change of the slots of nodes, and a tree with the same handles in them
  pub IsSound-kept : (slots new : List (Slot T)) (root new_root first_free free : ℕ) (tree new_tree : Shape T)
      → IsSound slots root first_free free tree → length new ≡ length slots → ((handle : ℕ) → occurs handle tree ≡ 0 → slice_get new handle ≡ slice_get slots handle)
      → IsAt new EMPTY_REF new_tree → new_root ≡ top new_tree → ((handle : ℕ) → occurs handle new_tree ≡ occurs handle tree)
      → length (entries new_tree) ≡ length (entries tree) → IsSound new new_root first_free free new_tree
  IsSound-kept slots new root new_root first_free free tree new_tree sound long off at root_is same size = grind (arith, IsChain-same, one_if_slot-le, AreHandles-sound)

  -- the same for a tree with the same entries
  pub IsSound-changed : (slots new : List (Slot T)) (root new_root first_free free : ℕ) (tree new_tree : Shape T)
      → IsSound slots root first_free free tree → length new ≡ length slots → ((handle : ℕ) → occurs handle tree ≡ 0 → slice_get new handle ≡ slice_get slots handle)
      → IsAt new EMPTY_REF new_tree → new_root ≡ top new_tree → entries new_tree ≡ entries tree → IsSound new new_root first_free free new_tree
  IsSound-changed slots new root new_root first_free free tree new_tree sound long off at root_is same =
      IsSound-kept slots new root new_root first_free free tree new_tree sound long off at root_is (λ handle. occurs-same handle new_tree tree same) (ap length same)

  pub entries-plug-same : (around : List (Frame T)) (first second : Shape T) → entries first ≡ entries second → entries (plug around first) ≡ entries (plug around second)
  entries-plug-same around first second same =
      entries-plug around first ∙ ap (λ (list : List (ℕ × T)). before_hole around ++ (list ++ after_hole around)) same ∙ sym (entries-plug around second)

  pub top-plug-same : (around : List (Frame T)) (first second : Shape T) → top first ≡ top second → top (plug around first) ≡ top (plug around second)
  top-plug-same [] first second same = same
  top-plug-same (frame ∷ around) first second same = top-plug frame around first second

  -- a node with another colour
  pub sound-painted : (slots new : List (Slot T)) (root first_free free : ℕ) (tree : Shape T) (around : List (Frame T)) (was colour : Colour) (before : Shape T) (own : ℕ) (item : T) (after : Shape T)
      → IsSound slots root first_free free tree → tree ≡ plug around (fork was before own item after) → Relinks slots new own (with_colour colour)
      → length new ≡ length slots
      → IsSound new root first_free free (plug around (fork colour before own item after))
  sound-painted slots new root first_free free tree around was colour before own item after sound is relinks long =
      let Held : Shape T → Type 0 = λ other. IsAt slots EMPTY_REF other in
      let old_at = IsAt-from_plug slots around (fork was before own item after) (subst Held is sound.at) in
      let Node : Links = record { parent = hole_parent around; left = top before; right = top after; colour = was } in
      let own_at = relinks.at Node item old_at.1.0 in
      let here = one_if_same-same own in
      let once : occurs own tree ≤ 1 = (AreHandles-sound slots root first_free free tree sound).apart own in
      let total = ap (occurs own) is ∙ occurs-plug own around (fork was before own item after) in
      IsSound-changed slots new root root first_free free tree (plug around (fork colour before own item after)) sound long
      (λ handle none. relinks.others handle (λ same. let moved = ap (λ h. occurs h tree) same in omega arith))
      (IsAt-plug new around (fork colour before own item after)
      (IsAround-same slots new around own (λ handle some. relinks.others handle (λ same. let moved = ap (λ h. occurs_around h around) same in omega arith)) old_at.0) (
        own_at,
        IsAt-same slots new own before (λ handle some. relinks.others handle (λ same. let moved = ap (λ h. occurs h before) same in omega arith)) old_at.1.1,
        IsAt-same slots new own after (λ handle some. relinks.others handle (λ same. let moved = ap (λ h. occurs h after) same in omega arith)) old_at.1.2,
      ))
      (sound.root_is ∙ ap top is ∙ top-plug-same around (fork was before own item after) (fork colour before own item after) refl)
      (entries-plug-same around (fork colour before own item after) (fork was before own item after) refl ∙ ap entries (sym is))
