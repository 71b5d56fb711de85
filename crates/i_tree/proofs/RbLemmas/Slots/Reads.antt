-- What a reader of the arena finds in the slot of a node.
use Rattle.std.proofs.Common.{◌≡◌, ◌≢◌, ℕ, zero, suc, ◌<◌, true, List, [], ◌∷◌, Some, length, slice_get, refl, sym, ap, ◌∙◌, arith}
use Rattle.std.proofs.lemmas.Option.{slice_get_within}
use Rattle.i_tree.specs.declared.TheConstants.{EMPTY_REF}
use Rattle.i_tree.specs.declared.rb.links.Colour.{Colour}
use Rattle.i_tree.specs.declared.rb.links.Links.{Links}
use Rattle.i_tree.specs.declared.rb.links.Side.{Side}
use Rattle.i_tree.specs.declared.rb.links.Side.TheVariants.{Left, Right}
use Rattle.i_tree.specs.declared.rb.links.Slot.{Slot}
use Rattle.i_tree.specs.declared.rb.links.Slot.TheVariants.{Free}
use Rattle.i_tree.specs.Rb.Balance.{is_black, is_black_colour}
use Rattle.i_tree.specs.Rb.Context.{Frame, fork_on, plug, hole_parent}
use Rattle.i_tree.specs.Rb.RbTree.{Contents}
use Rattle.i_tree.specs.Rb.Shape.{Shape, leaf, fork, top, occurs, one_if_same, IsHandle, AreHandles}
use Rattle.i_tree.specs.Rb.Slots.{node_slot, child_link, slot_links, links_of, IsUsed, IsChain, IsSound, read_tree, occurs_in}
use Rattle.i_tree.proofs.RbLemmas.Shape.Contexts.{one_if_same-same, one_if_same-cases, occurs-plug}
use Rattle.i_tree.proofs.RbLemmas.Slots.Layout.{one_if_slot-inside, links_on, IsAt-from_fork_on, IsAt-from_plug, IsUsed-live, AreHandles-sound}
use Rattle.i_tree.proofs.RbLemmas.Slots.Writes.{not_free}

pub child_link-on : (side : Side) (above near far : ℕ) (shade : Colour) → child_link side (links_on side above near far shade) ≡ near
child_link-on Left above near far shade = refl
child_link-on Right above near far shade = refl

module _ {T : Type 0} where
  -- the invariant of the fields, said of what contracts see
  pub IsSound-view : (slots : List (Slot T)) (root first_free free spare : ℕ) (contents : Contents T)
      → IsSound slots root first_free free (read_tree slots (length slots) root)
      → ◌≡◌ {A = Contents T} (record { shape = read_tree slots (length slots) root; spare = spare }) contents
      → IsSound slots root first_free free contents.shape
  IsSound-view slots root first_free free spare contents sound same = grind arith

  pub IsSound-as : (slots : List (Slot T)) (root first_free free : ℕ) (tree other : Shape T) → tree ≡ other → IsSound slots root first_free free tree → IsSound slots root first_free free other
  IsSound-as slots root first_free free tree other same sound = grind arith

  -- the slot of a node in its frames
  pub node_at : (slots : List (Slot T)) (root first_free free : ℕ) (tree : Shape T) (around : List (Frame T)) (shade : Colour) (before : Shape T) (own : ℕ) (item : T) (after : Shape T)
      → IsSound slots root first_free free tree → tree ≡ plug around (fork shade before own item after)
      → slice_get slots own ≡ Some (node_slot (record { parent = hole_parent around; left = top before; right = top after; colour = shade }) item)
  node_at slots root first_free free tree around shade before own item after sound is = grind (arith, IsAt-from_plug)

  pub node_on : (slots : List (Slot T)) (root first_free free : ℕ) (tree : Shape T) (around : List (Frame T)) (side : Side) (shade : Colour) (near : Shape T) (own : ℕ) (item : T) (far : Shape T)
      → IsSound slots root first_free free tree → tree ≡ plug around (fork_on side shade near own item far)
      → slice_get slots own ≡ Some (node_slot (links_on side (hole_parent around) (top near) (top far) shade) item)
  node_on slots root first_free free tree around side shade near own item far sound is = grind (arith, IsAt-from_plug, IsAt-from_fork_on)

  pub IsUsed-sound : (slots : List (Slot T)) (root first_free free handle : ℕ) (tree : Shape T) → IsSound slots root first_free free tree → IsHandle tree handle → IsUsed slots handle
  IsUsed-sound slots root first_free free handle tree sound live = IsUsed-live slots EMPTY_REF handle tree sound.at live

  -- a live handle's node in its frames has these links
  pub top_links : (slots : List (Slot T)) (root first_free free handle : ℕ) (tree : Shape T) (links : Links) (around : List (Frame T)) (subtree : Shape T)
      → IsSound slots root first_free free tree → IsHandle tree handle → links_of slots handle ≡ Some links → tree ≡ plug around subtree → top subtree ≡ handle
      → (links.parent ≡ hole_parent around) × (is_black_colour links.colour ≡ is_black subtree)
  top_links slots root first_free free handle tree links around leaf sound live read is here = grind (arith, AreHandles-sound)
  top_links slots root first_free free handle tree links around (fork shade before own item after) sound live read is here =
      let at = node_at slots root first_free free tree around shade before own item after sound is in
      let Node : Links = record { parent = hole_parent around; left = top before; right = top after; colour = shade } in
      let linked : links_of slots own ≡ Some Node = ap slot_links at in
      let same : Some Node ≡ Some links = sym linked ∙ ap (links_of slots) here ∙ read in
      let equal : Node ≡ links = cc in
      (ap (λ (l : Links). l.parent) (sym equal), ap (λ (l : Links). is_black_colour l.colour) (sym equal))

  pub child_at : (slots : List (Slot T)) (root first_free free handle : ℕ) (tree : Shape T) (links : Links) (side : Side) (around : List (Frame T)) (shade : Colour) (near : Shape T) (item : T) (far : Shape T)
      → IsSound slots root first_free free tree → links_of slots handle ≡ Some links → tree ≡ plug around (fork_on side shade near handle item far)
      → child_link side links ≡ top near
  child_at slots root first_free free handle tree links side around shade near item far sound read is =
      let at = node_on slots root first_free free tree around side shade near handle item far sound is in
      let Node : Links = links_on side (hole_parent around) (top near) (top far) shade in
      let linked : links_of slots handle ≡ Some Node = ap slot_links at in
      let equal : links ≡ Node = cc in
      ap (child_link side) equal ∙ child_link-on side (hole_parent around) (top near) (top far) shade

  -- no node has the handle that stands for none
  pub black_at_none : (tree : Shape T) (around : List (Frame T)) (subtree : Shape T) (handle : ℕ) → AreHandles tree → handle ≡ EMPTY_REF → tree ≡ plug around subtree → top subtree ≡ handle
      → is_black subtree ≡ true
  black_at_none tree around subtree handle handles none is here = grind (arith, one_if_same-same, occurs-plug)

  -- the item of a node in its frames
  pub item_at : (slots : List (Slot T)) (root first_free free handle : ℕ) (tree : Shape T) (links : Links) (held : T) (around : List (Frame T)) (shade : Colour) (before : Shape T) (item : T) (after : Shape T)
      → IsSound slots root first_free free tree → slice_get slots handle ≡ Some (node_slot links held) → tree ≡ plug around (fork shade before handle item after)
      → held ≡ item
  item_at slots root first_free free handle tree links held around shade before item after sound read is =
      let at = node_at slots root first_free free tree around shade before handle item after sound is in
      cc

  -- a slot on the chain is free
  pub free_on_chain : (slots : List (Slot T)) (first : ℕ) (chain : List ℕ) (handle : ℕ) → IsChain slots first chain → 0 < occurs_in handle chain
      → (next : ℕ) × (slice_get slots handle ≡ Some (Free next))
  free_on_chain slots first [] handle linked some = absurd (omega arith)
  free_on_chain slots first (own ∷ rest) handle linked some =
      by_own (one_if_same handle own) refl (λ below. free_on_chain slots linked.1.0 rest handle linked.1.2 below)
    where
      by_own : (same : ℕ) → one_if_same handle own ≡ same → (0 < occurs_in handle rest → (next : ℕ) × (slice_get slots handle ≡ Some (Free next)))
          → (next : ℕ) × (slice_get slots handle ≡ Some (Free next))
      by_own zero is later = later (omega arith)
      by_own (suc more) is later =
          let here : handle ≡ own = (one_if_same-cases handle own).1 (omega arith) in
          (linked.1.0, ap (slice_get slots) here ∙ linked.1.1)

  -- a slot in use is that of a node
  pub live_used : (slots : List (Slot T)) (root first_free free handle : ℕ) (tree : Shape T) (links : Links) (item : T) → IsSound slots root first_free free tree
      → slice_get slots handle ≡ Some (node_slot links item) → IsHandle tree handle
  live_used slots root first_free free handle tree links item sound used = by_count (occurs_in handle sound.chain) refl
    where
      by_count : (count : ℕ) → occurs_in handle sound.chain ≡ count → IsHandle tree handle
      by_count zero is =
          let within = slice_get_within slots handle (node_slot links item) used in
          let some : handle ≢ 0 = λ same. let moved = ap (slice_get slots) same in let reserved = sound.reserved in cc in
          let once = sound.each_once handle in
          let here = one_if_slot-inside (length slots) handle (omega arith) within in omega arith
      by_count (suc more) is =
          let unused = (free_on_chain slots first_free sound.chain handle sound.linked (omega arith)).1 in absurd cc

  -- a free slot is that of none
  pub none_free : (slots : List (Slot T)) (root first_free free handle next : ℕ) (tree : Shape T) → IsSound slots root first_free free tree
      → slice_get slots handle ≡ Some (Free next) → occurs handle tree ≡ 0
  none_free slots root first_free free handle next tree sound unused = by_count (occurs handle tree) refl
    where
      by_count : (count : ℕ) → occurs handle tree ≡ count → count ≡ 0
      by_count zero is = refl
      by_count (suc more) is = absurd (not_free slots handle next (IsUsed-live slots EMPTY_REF handle tree sound.at (omega arith)) unused)
