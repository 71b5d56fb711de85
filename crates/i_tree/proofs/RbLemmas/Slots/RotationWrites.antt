-- The writes of a rotation, one after another, and the tree that is in the slots then.
use Rattle.std.proofs.Common.{◌≡◌, ◌≢◌, ℕ, ◌+◌, ◌≤◌, List, Some, length, slice_get, sym, ap, ◌∙◌, subst, arith}
use Rattle.i_tree.specs.declared.TheConstants.{EMPTY_REF}
use Rattle.i_tree.specs.declared.rb.links.Links.{Links}
use Rattle.i_tree.specs.declared.rb.links.Side.{Side}
use Rattle.i_tree.specs.declared.rb.links.Slot.{Slot}
use Rattle.i_tree.specs.Rb.Context.{fork_on, plug, other_side, hole_parent}
use Rattle.i_tree.specs.Rb.Shape.{Shape, top, entries, occurs, one_if_same}
use Rattle.i_tree.specs.Rb.Slots.{node_slot, child_link, hung_links, links_of, IsUsed, Relinks, IsAt, IsSound}
use Rattle.i_tree.specs.Rb.Rotation.{Rotation, unrotated, rotated, Rehangs, Reparents}
use Rattle.i_tree.proofs.RbLemmas.Shape.Contexts.{one_if_same-same, occurs_around, occurs-fork_on, occurs-plug, top-fork_on}
use Rattle.i_tree.proofs.RbLemmas.Slots.Layout.{links_on, IsAround, IsAt-from_fork_on, IsAt-fork_on, IsAt-from_plug, IsAt-plug, IsAt-same, IsAround-same, AreHandles-sound}
use Rattle.i_tree.proofs.RbLemmas.Slots.Writes.{IsSound-changed, entries-plug-same}
use Rattle.i_tree.proofs.RbLemmas.Slots.Reads.{child_link-on}
use Rattle.i_tree.proofs.RbLemmas.Slots.RotationSteps.{child_link-other, hung_links-far, hung_links-near, parent-on, colour-on, apart_by, entries-rotation_on, used_by, rehung, rehung-root, reparented, IsUsed-top, IsUsed-hole}

module _ {T : Type 0} {handle : ℕ} {side : Side} where
  -- the slots of a node that can be rotated, and no handle twice
  pub record Laid (slots : List (Slot T)) (rotation : Rotation T handle side) : Type 0 where
    pub around : IsAround slots rotation.around handle
    pub own : slice_get slots handle ≡ Some (node_slot (links_on side (hole_parent rotation.around) (top rotation.outer) rotation.raised rotation.colour) rotation.item)
    pub outer : IsAt slots handle rotation.outer
    pub raised : slice_get slots rotation.raised ≡ Some (node_slot (links_on side handle (top rotation.inner) (top rotation.far) rotation.raised_colour) rotation.raised_item)
    pub inner : IsAt slots rotation.raised rotation.inner
    pub far : IsAt slots rotation.raised rotation.far
    pub once : (other : ℕ) → occurs_around other rotation.around + one_if_same other handle + occurs other rotation.outer + one_if_same other rotation.raised + occurs other rotation.inner + occurs other rotation.far ≤ 1
    pub none : occurs_around EMPTY_REF rotation.around + one_if_same EMPTY_REF handle + occurs EMPTY_REF rotation.outer + one_if_same EMPTY_REF rotation.raised + occurs EMPTY_REF rotation.inner + occurs EMPTY_REF rotation.far ≡ 0

  pub occurs-rotation : (other : ℕ) (rotation : Rotation T handle side) → occurs other (plug rotation.around (unrotated rotation))
      ≡ occurs_around other rotation.around + one_if_same other handle + occurs other rotation.outer + one_if_same other rotation.raised + occurs other rotation.inner + occurs other rotation.far
  occurs-rotation other rotation = grind (arith, occurs-fork_on, occurs-plug)

  pub laid : (slots : List (Slot T)) (root first_free free : ℕ) (rotation : Rotation T handle side) → IsSound slots root first_free free (plug rotation.around (unrotated rotation)) → Laid slots rotation
  laid slots root first_free free rotation sound =
      let handles = AreHandles-sound slots root first_free free (plug rotation.around (unrotated rotation)) sound in
      let below : Shape T = fork_on side rotation.raised_colour rotation.inner rotation.raised rotation.raised_item rotation.far in
      let below_top = top-fork_on side rotation.raised_colour rotation.inner rotation.raised rotation.raised_item rotation.far in
      let whole = IsAt-from_plug slots rotation.around (unrotated rotation) sound.at in
      let node = IsAt-from_fork_on slots (hole_parent rotation.around) side rotation.colour rotation.outer handle rotation.item below whole.1 in
      let raised = IsAt-from_fork_on slots handle side rotation.raised_colour rotation.inner rotation.raised rotation.raised_item rotation.far node.2 in
      let Held : ℕ → Type 0 = λ child. IsAround slots rotation.around child in
      record {
        around = subst Held (top-fork_on side rotation.colour rotation.outer handle rotation.item below) whole.0;
        own = node.0 ∙ ap (λ far. Some (node_slot (links_on side (hole_parent rotation.around) (top rotation.outer) far rotation.colour) rotation.item)) below_top;
        outer = node.1;
        raised = raised.0;
        inner = raised.1;
        far = raised.2;
        once = λ other. let total = occurs-rotation other rotation in let most = handles.apart other in omega arith;
        none = let total = occurs-rotation EMPTY_REF rotation in let most = handles.none_empty in omega arith;
      }

  -- what the code read of a rotation
  pub record Found (rotation : Rotation T handle side) (links : Links) (up : ℕ) (raised_links : Links) (low : ℕ) : Type 0 where
    pub links_are : links ≡ links_on side (hole_parent rotation.around) (top rotation.outer) rotation.raised rotation.colour
    pub up_is : up ≡ rotation.raised
    pub raised_are : raised_links ≡ links_on side handle (top rotation.inner) (top rotation.far) rotation.raised_colour
    pub low_is : low ≡ top rotation.inner

  pub links_found : (slots : List (Slot T)) (rotation : Rotation T handle side) (links : Links) → Laid slots rotation → links_of slots handle ≡ Some links
      → links ≡ links_on side (hole_parent rotation.around) (top rotation.outer) rotation.raised rotation.colour
  links_found slots rotation links lies read = grind (arith, links_on)

  pub up_found : (slots : List (Slot T)) (rotation : Rotation T handle side) (links : Links) (up : ℕ) → Laid slots rotation → links_of slots handle ≡ Some links → up ≡ child_link (other_side side) links
      → up ≡ rotation.raised
  up_found slots rotation links up lies read up_is = grind (arith, links_found, child_link-other)

  pub found : (slots : List (Slot T)) (rotation : Rotation T handle side) (links : Links) (up : ℕ) (raised_links : Links) (low : ℕ) → Laid slots rotation
      → links_of slots handle ≡ Some links → up ≡ child_link (other_side side) links → links_of slots up ≡ Some raised_links → low ≡ child_link side raised_links
      → Found rotation links up raised_links low
  found slots rotation links up raised_links low lies read up_read raised_read low_read = grind (arith, up_found, links_on, links_found, child_link-on)

  pub entries-rotation : (rotation : Rotation T handle side) → entries (rotated rotation) ≡ entries (unrotated rotation)
  entries-rotation rotation = entries-rotation_on side rotation.colour rotation.outer handle rotation.item rotation.raised_colour rotation.inner rotation.raised rotation.raised_item rotation.far

  -- the frames have the raised node in their hole, and the other slots are the same
  pub hung_at : (s0 s1 : List (Slot T)) (root new_root : ℕ) (rotation : Rotation T handle side) (links : Links) (up : ℕ) (raised_links : Links) (low : ℕ)
      → Found rotation links up raised_links low → Rehangs s0 s1 root new_root links.parent handle up → Rehangs s0 s1 root new_root (hole_parent rotation.around) handle rotation.raised
  hung_at s0 s1 root new_root rotation links up raised_links low values rehangs = grind (arith, parent-on)

  pub hung : (s0 s1 : List (Slot T)) (root new_root : ℕ) (rotation : Rotation T handle side) (links : Links) (up : ℕ) (raised_links : Links) (low : ℕ) → Laid s0 rotation
      → Found rotation links up raised_links low → Rehangs s0 s1 root new_root links.parent handle up
      → IsAround s1 rotation.around rotation.raised × ((other : ℕ) → occurs_around other rotation.around ≡ 0 → slice_get s1 other ≡ slice_get s0 other)
  hung s0 s1 root new_root rotation links up raised_links low lies values rehangs = grind (arith, rehung, hung_at)

  pub used_hung : (s0 s1 : List (Slot T)) (root new_root : ℕ) (rotation : Rotation T handle side) (links : Links) (up : ℕ) (raised_links : Links) (low : ℕ) → Laid s0 rotation
      → Found rotation links up raised_links low → Rehangs s0 s1 root new_root links.parent handle up → IsUsed s1 handle
  used_hung s0 s1 root new_root rotation links up raised_links low lies values rehangs =
      let here = one_if_same-same handle in let once = lies.once handle in
      let Node : Links = links_on side (hole_parent rotation.around) (top rotation.outer) rotation.raised rotation.colour in
      used_by s1 handle Node rotation.item ((hung s0 s1 root new_root rotation links up raised_links low lies values rehangs).1 handle (omega arith) ∙ lies.own)

  -- the raised node's slot is the same after the write of the node
  pub raised_lowered : (s0 s1 s2 : List (Slot T)) (root new_root : ℕ) (rotation : Rotation T handle side) (links : Links) (up : ℕ) (raised_links : Links) (low : ℕ) (lowered : Links → Links) → Laid s0 rotation
      → Found rotation links up raised_links low → Rehangs s0 s1 root new_root links.parent handle up → Relinks s1 s2 handle lowered
      → slice_get s2 rotation.raised ≡ Some (node_slot (links_on side handle (top rotation.inner) (top rotation.far) rotation.raised_colour) rotation.raised_item)
  raised_lowered s0 s1 s2 root new_root rotation links up raised_links low lowered lies values rehangs down =
      let here = one_if_same-same rotation.raised in let once = lies.once rotation.raised in
      down.others rotation.raised (apart_by rotation.raised handle (omega arith))
      ∙ (hung s0 s1 root new_root rotation links up raised_links low lies values rehangs).1 rotation.raised (omega arith) ∙ lies.raised

  pub used_lowered : (s0 s1 s2 : List (Slot T)) (root new_root : ℕ) (rotation : Rotation T handle side) (links : Links) (up : ℕ) (raised_links : Links) (low : ℕ) (lowered : Links → Links) → Laid s0 rotation
      → Found rotation links up raised_links low → Rehangs s0 s1 root new_root links.parent handle up → Relinks s1 s2 handle lowered → IsUsed s2 up
  used_lowered s0 s1 s2 root new_root rotation links up raised_links low lowered lies values rehangs down =
      let Used_at : ℕ → Type 0 = λ other. IsUsed s2 other in
      let Node : Links = links_on side handle (top rotation.inner) (top rotation.far) rotation.raised_colour in
      subst Used_at (sym values.up_is)
      (used_by s2 rotation.raised Node rotation.raised_item (raised_lowered s0 s1 s2 root new_root rotation links up raised_links low lowered lies values rehangs down))

  -- the slots of all but the frames and the two nodes are the same after both writes
  pub same_lifted : (s0 s1 s2 s3 : List (Slot T)) (root new_root : ℕ) (rotation : Rotation T handle side) (links : Links) (up : ℕ) (raised_links : Links) (low : ℕ) (lowered lifted : Links → Links) → Laid s0 rotation
      → Found rotation links up raised_links low → Rehangs s0 s1 root new_root links.parent handle up → Relinks s1 s2 handle lowered → Relinks s2 s3 rotation.raised lifted
      → (other : ℕ) → occurs_around other rotation.around + one_if_same other handle + one_if_same other rotation.raised ≡ 0 → slice_get s3 other ≡ slice_get s0 other
  same_lifted s0 s1 s2 s3 root new_root rotation links up raised_links low lowered lifted lies values rehangs down lift other none =
      lift.others other (apart_by other rotation.raised (omega arith)) ∙ down.others other (apart_by other handle (omega arith))
      ∙ (hung s0 s1 root new_root rotation links up raised_links low lies values rehangs).1 other (omega arith)

  pub inner_lifted : (s0 s1 s2 s3 : List (Slot T)) (root new_root : ℕ) (rotation : Rotation T handle side) (links : Links) (up : ℕ) (raised_links : Links) (low : ℕ) (lowered lifted : Links → Links) → Laid s0 rotation
      → Found rotation links up raised_links low → Rehangs s0 s1 root new_root links.parent handle up → Relinks s1 s2 handle lowered → Relinks s2 s3 rotation.raised lifted
      → IsAt s3 rotation.raised rotation.inner
  inner_lifted s0 s1 s2 s3 root new_root rotation links up raised_links low lowered lifted lies values rehangs down lift =
      IsAt-same s0 s3 rotation.raised rotation.inner
      (λ other inside. same_lifted s0 s1 s2 s3 root new_root rotation links up raised_links low lowered lifted lies values rehangs down lift other (let once = lies.once other in omega arith))
      lies.inner

  pub lift_at : (s2 s3 : List (Slot T)) (rotation : Rotation T handle side) (links : Links) (up : ℕ) (raised_links : Links) (low : ℕ) (lifted : Links → Links)
      → Found rotation links up raised_links low → Relinks s2 s3 up lifted → Relinks s2 s3 rotation.raised lifted
  lift_at s2 s3 rotation links up raised_links low lifted values lift =
      let At : ℕ → Type 0 = λ other. Relinks s2 s3 other lifted in subst At values.up_is lift

  pub used_lifted : (s0 s1 s2 s3 : List (Slot T)) (root new_root : ℕ) (rotation : Rotation T handle side) (links : Links) (up : ℕ) (raised_links : Links) (low : ℕ) (lowered lifted : Links → Links) → Laid s0 rotation
      → Found rotation links up raised_links low → Rehangs s0 s1 root new_root links.parent handle up → Relinks s1 s2 handle lowered → Relinks s2 s3 up lifted
      → low ≢ EMPTY_REF → IsUsed s3 low
  used_lifted s0 s1 s2 s3 root new_root rotation links up raised_links low lowered lifted lies values rehangs down lift some =
      let raised_lift = lift_at s2 s3 rotation links up raised_links low lifted values lift in
      let at = inner_lifted s0 s1 s2 s3 root new_root rotation links up raised_links low lowered lifted lies values rehangs down raised_lift in
      let Used_at : ℕ → Type 0 = λ other. IsUsed s3 other in
      subst Used_at (sym values.low_is) (IsUsed-top s3 rotation.raised rotation.inner at (λ same. some (values.low_is ∙ same)))

  -- the links that the two nodes are given
  pub lowered_links : (rotation : Rotation T handle side) (links : Links) (up : ℕ) (raised_links : Links) (low : ℕ) (away : Side) → Found rotation links up raised_links low → away ≡ other_side side
      → hung_links up raised_links.colour away low (links_on side (hole_parent rotation.around) (top rotation.outer) rotation.raised rotation.colour)
      ≡ links_on side rotation.raised (top rotation.outer) (top rotation.inner) rotation.raised_colour
  lowered_links rotation links up raised_links low away values is = grind (arith, links_on, colour-on, hung_links-far)

  pub lifted_links : (rotation : Rotation T handle side) (links : Links) (up : ℕ) (raised_links : Links) (low : ℕ) → Found rotation links up raised_links low
      → hung_links links.parent links.colour side handle (links_on side handle (top rotation.inner) (top rotation.far) rotation.raised_colour)
      ≡ links_on side (hole_parent rotation.around) handle (top rotation.far) rotation.colour
  lifted_links rotation links up raised_links low values = grind (arith, colour-on, parent-on, hung_links-near, links_on)

  -- the rotated tree, from its subtrees
  pub rotated_at : (slots : List (Slot T)) (rotation : Rotation T handle side) → IsAround slots rotation.around rotation.raised
      → slice_get slots handle ≡ Some (node_slot (links_on side rotation.raised (top rotation.outer) (top rotation.inner) rotation.raised_colour) rotation.item)
      → slice_get slots rotation.raised ≡ Some (node_slot (links_on side (hole_parent rotation.around) handle (top rotation.far) rotation.colour) rotation.raised_item)
      → IsAt slots handle rotation.outer → IsAt slots handle rotation.inner → IsAt slots rotation.raised rotation.far → IsAt slots EMPTY_REF (plug rotation.around (rotated rotation))
  rotated_at slots rotation held own raised outer inner far = grind (arith, top-fork_on, IsAround, IsAt-plug, IsAt-fork_on, links_on)

  pub sound-rotated : (s0 s1 s2 s3 s4 : List (Slot T)) (root new_root first_free free : ℕ) (rotation : Rotation T handle side) (links : Links) (up : ℕ) (raised_links : Links) (low : ℕ) (away : Side)
      → IsSound s0 root first_free free (plug rotation.around (unrotated rotation)) → Found rotation links up raised_links low → Rehangs s0 s1 root new_root links.parent handle up
      → away ≡ other_side side → Relinks s1 s2 handle (hung_links up raised_links.colour away low) → Relinks s2 s3 up (hung_links links.parent links.colour side handle)
      → Reparents s3 s4 low handle → length s4 ≡ length s0
      → IsSound s4 new_root first_free free (plug rotation.around (rotated rotation))
  sound-rotated s0 s1 s2 s3 s4 root new_root first_free free rotation links up raised_links low away sound values rehangs away_is down lift moves long =
      let lies = laid s0 root first_free free rotation sound in
      let DownAs : Links → Links = hung_links up raised_links.colour away low in
      let LiftAs : Links → Links = hung_links links.parent links.colour side handle in
      let raised_lift = lift_at s2 s3 rotation links up raised_links low LiftAs values lift in
      let frames = hung s0 s1 root new_root rotation links up raised_links low lies values rehangs in
      let Moves : ℕ → Type 0 = λ child. Reparents s3 s4 child handle in
      let inner = reparented s3 s4 rotation.raised handle rotation.inner (subst Moves values.low_is moves) (λ other. let once = lies.once other in omega arith) (let none = lies.none in omega arith)
      (inner_lifted s0 s1 s2 s3 root new_root rotation links up raised_links low DownAs LiftAs lies values rehangs down raised_lift) in
      let here = one_if_same-same handle in
      let there = one_if_same-same rotation.raised in
      let own_once = lies.once handle in
      let raised_once = lies.once rotation.raised in
      let same : (other : ℕ) → occurs_around other rotation.around + one_if_same other handle + one_if_same other rotation.raised + occurs other rotation.inner ≡ 0 → slice_get s4 other ≡ slice_get s0 other =
      λ other gone. inner.1 other (omega arith) ∙ same_lifted s0 s1 s2 s3 root new_root rotation links up raised_links low DownAs LiftAs lies values rehangs down raised_lift other (omega arith) in
      let own_at = inner.1 handle (omega arith) ∙ raised_lift.others handle (apart_by handle rotation.raised (omega arith))
      ∙ down.at (links_on side (hole_parent rotation.around) (top rotation.outer) rotation.raised rotation.colour) rotation.item (frames.1 handle (omega arith) ∙ lies.own)
      ∙ ap (λ (l : Links). Some (node_slot l rotation.item)) (lowered_links rotation links up raised_links low away values away_is) in
      let raised_at = inner.1 rotation.raised (omega arith)
      ∙ raised_lift.at (links_on side handle (top rotation.inner) (top rotation.far) rotation.raised_colour) rotation.raised_item
      (raised_lowered s0 s1 s2 root new_root rotation links up raised_links low DownAs lies values rehangs down)
      ∙ ap (λ (l : Links). Some (node_slot l rotation.raised_item)) (lifted_links rotation links up raised_links low values) in
      let held = IsAround-same s1 s4 rotation.around rotation.raised
      (λ other inside. let once = lies.once other in
      inner.1 other (omega arith) ∙ raised_lift.others other (apart_by other rotation.raised (omega arith)) ∙ down.others other (apart_by other handle (omega arith))) frames.0 in
      IsSound-changed s0 s4 root new_root first_free free (plug rotation.around (unrotated rotation)) (plug rotation.around (rotated rotation)) sound long
      (λ other gone. same other (let total = occurs-rotation other rotation in omega arith))
      (rotated_at s4 rotation held own_at raised_at
      (IsAt-same s0 s4 handle rotation.outer (λ other inside. same other (let once = lies.once other in omega arith)) lies.outer) inner.0
      (IsAt-same s0 s4 rotation.raised rotation.far (λ other inside. same other (let once = lies.once other in omega arith)) lies.far))
      (rehung-root s0 s1 root new_root handle rotation.raised rotation.around (unrotated rotation) (rotated rotation)
      (hung_at s0 s1 root new_root rotation links up raised_links low values rehangs) (let none = lies.none in omega arith) sound.root_is
      (top-fork_on side rotation.colour (fork_on side rotation.raised_colour rotation.outer handle rotation.item rotation.inner) rotation.raised rotation.raised_item rotation.far))
      (entries-plug-same rotation.around (rotated rotation) (unrotated rotation) (entries-rotation rotation))

  pub hung_used : (slots : List (Slot T)) (rotation : Rotation T handle side) (links : Links) (up : ℕ) (raised_links : Links) (low : ℕ) → Laid slots rotation
      → Found rotation links up raised_links low → links.parent ≢ EMPTY_REF → IsUsed slots links.parent
  hung_used slots rotation links up raised_links low lies values some = grind (arith, parent-on, IsUsed-hole)
