-- For a rotation in slots: what each single write leaves of frames, subtrees and links.
use Rattle.std.proofs.Common.{◌≡◌, ◌≢◌, ℕ, ◌+◌, ◌≤◌, List, [], ◌∷◌, Option, Some, is_some, slice_get, refl, ap, append_assoc, arith}
use Rattle.i_tree.specs.declared.TheConstants.{EMPTY_REF}
use Rattle.i_tree.specs.declared.rb.links.Colour.{Colour}
use Rattle.i_tree.specs.declared.rb.links.Links.{Links}
use Rattle.i_tree.specs.declared.rb.links.Side.{Side}
use Rattle.i_tree.specs.declared.rb.links.Side.TheVariants.{Left, Right}
use Rattle.i_tree.specs.declared.rb.links.Slot.{Slot}
use Rattle.i_tree.specs.Rb.Context.{Frame, fork_on, plug, other_side, hole_parent}
use Rattle.i_tree.specs.Rb.Shape.{Shape, leaf, fork, top, entries, occurs, one_if_same}
use Rattle.i_tree.specs.Rb.Slots.{node_slot, child_link, with_child_link, hung_links, slot_links, links_of, IsUsed, Relinks, IsAt}
use Rattle.i_tree.specs.Rb.Rotation.{Rehangs, Reparents}
use Rattle.i_tree.proofs.RbLemmas.Shape.Contexts.{one_if_same-same, one_if_same-cases, occurs_around}
use Rattle.i_tree.proofs.RbLemmas.Slots.Layout.{links_on, IsAround, top-plug, IsAround-child, IsAt-parent}

pub child_link-other : (side : Side) (above near far : ℕ) (shade : Colour) → child_link (other_side side) (links_on side above near far shade) ≡ far
child_link-other Left above near far shade = refl
child_link-other Right above near far shade = refl

pub hung_links-far : (side : Side) (above near far new parent : ℕ) (was shade : Colour)
    → hung_links parent shade (other_side side) new (links_on side above near far was) ≡ links_on side parent near new shade
hung_links-far Left above near far new parent was shade = refl
hung_links-far Right above near far new parent was shade = refl

pub hung_links-near : (side : Side) (above near far new parent : ℕ) (was shade : Colour)
    → hung_links parent shade side new (links_on side above near far was) ≡ links_on side parent new far shade
hung_links-near Left above near far new parent was shade = refl
hung_links-near Right above near far new parent was shade = refl

pub parent-on : (side : Side) (above near far : ℕ) (shade : Colour) → (links_on side above near far shade).parent ≡ above
parent-on Left above near far shade = refl
parent-on Right above near far shade = refl

pub colour-on : (side : Side) (above near far : ℕ) (shade : Colour) → (links_on side above near far shade).colour ≡ shade
colour-on Left above near far shade = refl
colour-on Right above near far shade = refl

pub apart_by : (other own : ℕ) → one_if_same other own ≡ 0 → other ≢ own
apart_by other own none = (one_if_same-cases other own).0 none

module _ {T : Type 0} where
  -- the order of the entries is the same after a rotation
  pub entries-rotation_on : (side : Side) (colour : Colour) (outer : Shape T) (handle : ℕ) (item : T) (raised_colour : Colour) (inner : Shape T) (raised : ℕ) (raised_item : T) (far : Shape T)
      → entries (fork_on side colour (fork_on side raised_colour outer handle item inner) raised raised_item far)
      ≡ entries (fork_on side colour outer handle item (fork_on side raised_colour inner raised raised_item far))
  entries-rotation_on Left colour outer handle item raised_colour inner raised raised_item far = simp append_assoc
  entries-rotation_on Right colour outer handle item raised_colour inner raised raised_item far = simp append_assoc

  pub used_by : (slots : List (Slot T)) (handle : ℕ) (links : Links) (item : T) → slice_get slots handle ≡ Some (node_slot links item) → IsUsed slots handle
  used_by slots handle links item at = ap (λ (slot : Option (Slot T)). is_some (slot_links slot)) at

  -- no subtree has the top of another at its own top
  pub top-apart : (subtree : Shape T) (handle : ℕ) → occurs handle subtree ≡ 0 → handle ≢ EMPTY_REF → top subtree ≢ handle
  top-apart subtree handle none some = grind (arith, one_if_same-same)

  -- a child of a node has another handle
  pub relinked : (old new : List (Slot T)) (side : Side) (parent above child other far : ℕ) (shade : Colour) (item : T)
      → slice_get old parent ≡ Some (node_slot (links_on side above child far shade) item) → far ≢ child
      → ((links : Links) → links_of old parent ≡ Some links → links.left ≡ child → Relinks old new parent (with_child_link Left other))
      → ((links : Links) → links_of old parent ≡ Some links → links.left ≢ child → Relinks old new parent (with_child_link Right other))
      → (slice_get new parent ≡ Some (node_slot (links_on side above other far shade) item)) × ((handle : ℕ) → handle ≢ parent → slice_get new handle ≡ slice_get old handle)
  relinked old new Left parent above child other far shade item at apart left right =
      let Node : Links = links_on Left above child far shade in
      let relinks = left Node (ap slot_links at) refl in (relinks.at Node item at, relinks.others)
  relinked old new Right parent above child other far shade item at apart left right =
      let Node : Links = links_on Right above child far shade in
      let relinks = right Node (ap slot_links at) apart in (relinks.at Node item at, relinks.others)

  -- frames whose hole has another handle
  pub rehung : (old new : List (Slot T)) (old_root new_root child other : ℕ) (around : List (Frame T))
      → Rehangs old new old_root new_root (hole_parent around) child other → IsAround old around child
      → ((handle : ℕ) → occurs_around handle around + one_if_same handle child ≤ 1) → occurs_around EMPTY_REF around + one_if_same EMPTY_REF child ≡ 0
      → IsAround new around other × ((handle : ℕ) → occurs_around handle around ≡ 0 → slice_get new handle ≡ slice_get old handle)
  rehung old new old_root new_root child other [] rehangs held once none = (tt, λ handle gone. ap (λ (s : List (Slot T)). slice_get s handle) (rehangs.slots refl))
  rehung old new old_root new_root child other (frame ∷ around) rehangs held once none =
      let here = one_if_same-same frame.handle in
      let child_here = one_if_same-same child in
      let some : frame.handle ≢ EMPTY_REF = λ same. let moved = ap (λ h. occurs_around h (frame ∷ around)) same in omega arith in
      let child_some : child ≢ EMPTY_REF = λ same. let moved = ap (λ h. one_if_same h child) same in omega arith in
      let child_once = once child in
      let own_once = once frame.handle in
      let wrote = relinked old new frame.side frame.handle (hole_parent around) child other (top frame.sibling) frame.colour frame.item held.0
      (top-apart frame.sibling child (omega arith) child_some) (λ links. rehangs.left links some) (λ links. rehangs.right links some) in (
        IsAround-child old new frame around child other wrote.0 (λ handle apart in_frames. wrote.1 handle apart) (omega arith) held,
        λ handle gone. wrote.1 handle (λ same. let moved = ap (λ h. occurs_around h (frame ∷ around)) same in omega arith),
      )

  pub rehung-root : (old new : List (Slot T)) (old_root new_root child other : ℕ) (around : List (Frame T)) (first second : Shape T)
      → Rehangs old new old_root new_root (hole_parent around) child other → occurs_around EMPTY_REF around ≡ 0 → old_root ≡ top (plug around first) → top second ≡ other
      → new_root ≡ top (plug around second)
  rehung-root old new old_root new_root child other around first second rehangs none root_is top_is = grind (arith, one_if_same-same, occurs_around, top-plug)

  -- a subtree that has another parent
  pub reparented : (old new : List (Slot T)) (above other : ℕ) (subtree : Shape T) → Reparents old new (top subtree) other
      → ((handle : ℕ) → occurs handle subtree ≤ 1) → occurs EMPTY_REF subtree ≡ 0 → IsAt old above subtree
      → IsAt new other subtree × ((handle : ℕ) → occurs handle subtree ≡ 0 → slice_get new handle ≡ slice_get old handle)
  reparented old new above other leaf reparents once none at = (tt, λ handle gone. ap (λ (s : List (Slot T)). slice_get s handle) (reparents.none refl))
  reparented old new above other (fork shade before own item after) reparents once none at =
      let here = one_if_same-same own in
      let some : own ≢ EMPTY_REF = λ same. let moved = ap (λ h. occurs h (fork shade before own item after)) same in omega arith in
      let Node : Links = record { parent = above; left = top before; right = top after; colour = shade } in
      let relinks = reparents.some some in (
        IsAt-parent old new above other shade before own item after (relinks.at Node item at.0) (λ handle apart inside. relinks.others handle apart) (once own) at,
        λ handle gone. relinks.others handle (λ same. let moved = ap (λ h. occurs h (fork shade before own item after)) same in omega arith),
      )

  pub IsUsed-top : (slots : List (Slot T)) (above : ℕ) (subtree : Shape T) → IsAt slots above subtree → top subtree ≢ EMPTY_REF → IsUsed slots (top subtree)
  IsUsed-top slots above leaf at some = absurd (some refl)
  IsUsed-top slots above (fork shade before own item after) at some = used_by slots own _ item at.0

  pub IsUsed-hole : (slots : List (Slot T)) (around : List (Frame T)) (child : ℕ) → IsAround slots around child → hole_parent around ≢ EMPTY_REF → IsUsed slots (hole_parent around)
  IsUsed-hole slots [] child held some = absurd (some refl)
  IsUsed-hole slots (frame ∷ around) child held some = used_by slots frame.handle _ frame.item held.0
