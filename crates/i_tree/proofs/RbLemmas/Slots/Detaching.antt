-- A node with one subtree is taken out of the slots: its subtree takes its place, and its slot stands before the free ones.
use Rattle.std.proofs.Common.{◌≡◌, ◌≢◌, ℕ, ◌+◌, ◌≤◌, List, [], ◌∷◌, ◌++◌, Some, length, slice_get, get_or, take, drop, refl, sym, ap, ◌∙◌, subst, length-append, arith}
use Rattle.std.proofs.lemmas.Option.{slice_get_within, slice_get-get_or}
use Rattle.i_tree.specs.declared.TheConstants.{EMPTY_REF}
use Rattle.i_tree.specs.declared.rb.links.Colour.{Colour}
use Rattle.i_tree.specs.declared.rb.links.Links.{Links}
use Rattle.i_tree.specs.declared.rb.links.Side.{Side}
use Rattle.i_tree.specs.declared.rb.links.Side.TheVariants.{Left, Right}
use Rattle.i_tree.specs.declared.rb.links.Slot.{Slot}
use Rattle.i_tree.specs.declared.rb.links.Slot.TheVariants.{Free}
use Rattle.i_tree.specs.Rb.Context.{Frame, fork_on, plug, hole_parent, HasOneSubtree}
use Rattle.i_tree.specs.Rb.Shape.{Shape, leaf, top, entries, occurs, one_if_same}
use Rattle.i_tree.specs.Rb.Slots.{node_slot, links_of, IsUsed, IsAt, IsSound, one_if_slot}
use Rattle.i_tree.specs.Rb.Rotation.{Rehangs, Reparents}
use Rattle.i_tree.proofs.RbLemmas.Shape.Contexts.{one_if_same-same, occurs_around, occurs-fork_on, occurs-plug, top-fork_on, length-plug}
use Rattle.i_tree.proofs.RbLemmas.Slots.Layout.{links_on, one_if_slot-le, IsAround, IsAt-from_fork_on, IsAt-from_plug, IsAt-plug, IsAt-same, IsAround-same, AreHandles-sound, IsChain-same}
use Rattle.i_tree.proofs.RbLemmas.Slots.FreeSlots.{written_back}
use Rattle.i_tree.proofs.RbLemmas.Slots.RotationSteps.{parent-on, apart_by, used_by, rehung, rehung-root, reparented, IsUsed-top, IsUsed-hole}

-- a list as it is lent again, after another one was written back whole
pub lent_again : {X : Type 0} (len : ℕ) (items new lent : List X) → length new ≡ length items → len ≡ length items
    → lent ≡ take len (new ++ drop (length new) items) → lent ≡ new
lent_again len items new lent same is value = value ∙ written_back len items new same is

-- what is read as the only subtree of a node
pub record OnlySubtree (links : Links) (taken : ℕ) : Type 0 where
  pub none : links.left ≡ EMPTY_REF → taken ≡ links.right
  pub some : links.left ≢ EMPTY_REF → taken ≡ links.left

module _ {T : Type 0} where
  -- the item of a node is the one that was read
  pub read_item : (slots : List (Slot T)) (handle : ℕ) (read : Slot T) (found links : Links) (held item : T) → get_or slots handle read ≡ node_slot found held
      → slice_get slots handle ≡ Some (node_slot links item) → held ≡ item
  read_item slots handle read found links held item is at = grind (arith, slice_get-get_or, slice_get_within)

  pub taken_is : (side : Side) (above taken : ℕ) (shade : Colour) (subtree : Shape T) → occurs EMPTY_REF subtree ≡ 0
      → OnlySubtree (links_on side above (top subtree) EMPTY_REF shade) taken → taken ≡ top subtree
  taken_is side above taken shade subtree none only = grind (arith, one_if_same-same)

  pub size-one : (side : Side) (colour : Colour) (subtree : Shape T) (handle : ℕ) (item : T) → length (entries (fork_on side colour subtree handle item leaf)) ≡ length (entries subtree) + 1
  size-one Left colour subtree handle item = omega (arith, length-append (entries subtree) ((handle, item) ∷ []))
  size-one Right colour subtree handle item = omega arith

  -- a node with one subtree in its frames, and no handle twice
  pub record Alone (slots : List (Slot T)) (around : List (Frame T)) (side : Side) (colour : Colour) (subtree : Shape T) (handle : ℕ) (item : T) : Type 0 where
    pub held : IsAround slots around handle
    pub own : slice_get slots handle ≡ Some (node_slot (links_on side (hole_parent around) (top subtree) EMPTY_REF colour) item)
    pub below : IsAt slots handle subtree
    pub once : (other : ℕ) → occurs_around other around + one_if_same other handle + occurs other subtree ≤ 1
    pub none : occurs_around EMPTY_REF around + one_if_same EMPTY_REF handle + occurs EMPTY_REF subtree ≡ 0

  pub occurs-one : (other : ℕ) (around : List (Frame T)) (side : Side) (colour : Colour) (subtree : Shape T) (handle : ℕ) (item : T)
      → occurs other (plug around (fork_on side colour subtree handle item leaf)) ≡ occurs_around other around + one_if_same other handle + occurs other subtree
  occurs-one other around side colour subtree handle item =
      omega (arith, occurs-plug other around (fork_on side colour subtree handle item leaf), occurs-fork_on other side colour subtree handle item leaf)

  pub alone : (slots : List (Slot T)) (root first_free free : ℕ) (around : List (Frame T)) (side : Side) (colour : Colour) (subtree : Shape T) (handle : ℕ) (item : T)
      → IsSound slots root first_free free (plug around (fork_on side colour subtree handle item leaf)) → Alone slots around side colour subtree handle item
  alone slots root first_free free around side colour subtree handle item sound =
      let node : Shape T = fork_on side colour subtree handle item leaf in
      let handles = AreHandles-sound slots root first_free free (plug around node) sound in
      let whole = IsAt-from_plug slots around node sound.at in
      let own = IsAt-from_fork_on slots (hole_parent around) side colour subtree handle item leaf whole.1 in
      let Held : ℕ → Type 0 = λ child. IsAround slots around child in
      record {
        held = subst Held (top-fork_on side colour subtree handle item leaf) whole.0;
        own = own.0;
        below = own.1;
        once = λ other. omega (arith, occurs-one other around side colour subtree handle item, handles.apart other);
        none = omega (arith, occurs-one EMPTY_REF around side colour subtree handle item, handles.none_empty);
      }

  -- the node that is to be taken out
  pub alone_in : (slots : List (Slot T)) (root first_free free : ℕ) (tree : Shape T) (handle : ℕ) (room : HasOneSubtree tree handle)
      → IsSound slots root first_free free tree → Alone slots room.around room.side room.colour room.subtree handle room.item
  alone_in slots root first_free free tree handle room sound =
      let Sound : Shape T → Type 0 = λ other. IsSound slots root first_free free other in
      alone slots root first_free free room.around room.side room.colour room.subtree handle room.item (subst Sound room.is sound)

  -- what the code read of the node
  pub links_alone : (slots : List (Slot T)) (around : List (Frame T)) (side : Side) (colour : Colour) (subtree : Shape T) (handle : ℕ) (item : T) (links : Links)
      → Alone slots around side colour subtree handle item → links_of slots handle ≡ Some links → links ≡ links_on side (hole_parent around) (top subtree) EMPTY_REF colour
  links_alone slots around side colour subtree handle item links lies read = grind (arith, links_on)

  pub parent_alone : (slots : List (Slot T)) (around : List (Frame T)) (side : Side) (colour : Colour) (subtree : Shape T) (handle : ℕ) (item : T) (links : Links)
      → Alone slots around side colour subtree handle item → links_of slots handle ≡ Some links → links.parent ≡ hole_parent around
  parent_alone slots around side colour subtree handle item links lies read =
      ap (λ (l : Links). l.parent) (links_alone slots around side colour subtree handle item links lies read) ∙ parent-on side (hole_parent around) (top subtree) EMPTY_REF colour

  pub taken_alone : (slots : List (Slot T)) (around : List (Frame T)) (side : Side) (colour : Colour) (subtree : Shape T) (handle : ℕ) (item : T) (links : Links) (taken : ℕ)
      → Alone slots around side colour subtree handle item → links_of slots handle ≡ Some links → OnlySubtree links taken → taken ≡ top subtree
  taken_alone slots around side colour subtree handle item links taken lies read only = grind (arith, taken_is, links_alone)

  -- the frames have the subtree in their hole
  pub hung_alone : (s0 s1 : List (Slot T)) (root new_root : ℕ) (around : List (Frame T)) (side : Side) (colour : Colour) (subtree : Shape T) (handle : ℕ) (item : T)
      → Alone s0 around side colour subtree handle item → Rehangs s0 s1 root new_root (hole_parent around) handle (top subtree)
      → IsAround s1 around (top subtree) × ((other : ℕ) → occurs_around other around ≡ 0 → slice_get s1 other ≡ slice_get s0 other)
  hung_alone s0 s1 root new_root around side colour subtree handle item lies rehangs =
      rehung s0 s1 root new_root handle (top subtree) around rehangs lies.held (λ other. omega (arith, lies.once other)) (omega (arith, lies.none))

  pub subtree_hung : (s0 s1 : List (Slot T)) (root new_root : ℕ) (around : List (Frame T)) (side : Side) (colour : Colour) (subtree : Shape T) (handle : ℕ) (item : T)
      → Alone s0 around side colour subtree handle item → Rehangs s0 s1 root new_root (hole_parent around) handle (top subtree) → IsAt s1 handle subtree
  subtree_hung s0 s1 root new_root around side colour subtree handle item lies rehangs =
      let frames = hung_alone s0 s1 root new_root around side colour subtree handle item lies rehangs in
      IsAt-same s0 s1 handle subtree (λ other inside. frames.1 other (omega (arith, lies.once other))) lies.below

  -- the subtree has the node's parent
  pub subtree_moved : (s0 s1 s2 : List (Slot T)) (root new_root : ℕ) (around : List (Frame T)) (side : Side) (colour : Colour) (subtree : Shape T) (handle : ℕ) (item : T)
      → Alone s0 around side colour subtree handle item → Rehangs s0 s1 root new_root (hole_parent around) handle (top subtree) → Reparents s1 s2 (top subtree) (hole_parent around)
      → IsAt s2 (hole_parent around) subtree × ((other : ℕ) → occurs other subtree ≡ 0 → slice_get s2 other ≡ slice_get s1 other)
  subtree_moved s0 s1 s2 root new_root around side colour subtree handle item lies rehangs moves =
      reparented s1 s2 handle (hole_parent around) subtree moves (λ other. omega (arith, lies.once other)) (omega (arith, lies.none))
      (subtree_hung s0 s1 root new_root around side colour subtree handle item lies rehangs)

  -- the subtree in the node's place, and the node's slot before the free ones
  pub sound-detached : (s0 s1 s2 s3 : List (Slot T)) (root new_root first_free free : ℕ) (around : List (Frame T)) (side : Side) (colour : Colour) (subtree : Shape T) (handle : ℕ) (item : T)
      → IsSound s0 root first_free free (plug around (fork_on side colour subtree handle item leaf))
      → Rehangs s0 s1 root new_root (hole_parent around) handle (top subtree) → Reparents s1 s2 (top subtree) (hole_parent around)
      → slice_get s3 handle ≡ Some (Free first_free) → ((other : ℕ) → other ≢ handle → slice_get s3 other ≡ slice_get s2 other) → length s3 ≡ length s0
      → IsSound s3 new_root handle (free + 1) (plug around subtree)
  sound-detached s0 s1 s2 s3 root new_root first_free free around side colour subtree handle item sound rehangs moves freed others long =
      let node : Shape T = fork_on side colour subtree handle item leaf in
      let lies = alone s0 root first_free free around side colour subtree handle item sound in
      let frames = hung_alone s0 s1 root new_root around side colour subtree handle item lies rehangs in
      let moved = subtree_moved s0 s1 s2 root new_root around side colour subtree handle item lies rehangs moves in
      let count : (other : ℕ) → occurs other (plug around node) ≡ occurs_around other around + one_if_same other handle + occurs other subtree =
      λ other. occurs-one other around side colour subtree handle item in
      let same : (other : ℕ) → occurs other (plug around node) ≡ 0 → slice_get s3 other ≡ slice_get s0 other =
      λ other gone. others other (apart_by other handle (omega (arith, count other))) ∙ moved.1 other (omega (arith, count other)) ∙ frames.1 other (omega (arith, count other)) in
      record {
        at = IsAt-plug s3 around subtree
            (IsAround-same s1 s3 around (top subtree)
            (λ other inside. others other (apart_by other handle (omega (arith, lies.once other))) ∙ moved.1 other (omega (arith, lies.once other))) frames.0)
            (IsAt-same s2 s3 (hole_parent around) subtree (λ other inside. others other (apart_by other handle (omega (arith, lies.once other)))) moved.0);
        root_is = rehung-root s0 s1 root new_root handle (top subtree) around node subtree rehangs (omega (arith, lies.none)) sound.root_is refl;
        chain = handle ∷ sound.chain;
        linked = (
          refl,
          (
            first_free,
            freed,
            IsChain-same s0 s3 first_free sound.chain
                (λ other inside. same other (omega (arith, sound.each_once other, one_if_slot-le (length s0) other))) sound.linked,
          ),
        );
        counted = omega (arith, sound.counted);
        each_once = λ other. omega (arith, sound.each_once other, count other, occurs-plug other around subtree, ap (λ size. one_if_slot size other) long);
        total = omega (arith, sound.total, length-plug around node, length-plug around subtree, size-one side colour subtree handle item);
        few = omega (arith, sound.few);
        reserved = same 0 (AreHandles-sound s0 root first_free free (plug around node) sound).none_reserved ∙ sound.reserved;
      }

  -- what the code took for the subtree and its parent is that
  pub rehangs_alone : (s0 s1 : List (Slot T)) (root new_root : ℕ) (around : List (Frame T)) (side : Side) (colour : Colour) (subtree : Shape T) (handle : ℕ) (item : T) (links : Links) (taken : ℕ)
      → Alone s0 around side colour subtree handle item → links_of s0 handle ≡ Some links → OnlySubtree links taken
      → Rehangs s0 s1 root new_root links.parent handle taken → Rehangs s0 s1 root new_root (hole_parent around) handle (top subtree)
  rehangs_alone s0 s1 root new_root around side colour subtree handle item links taken lies read only rehangs = grind (arith, parent_alone, taken_alone)

  pub reparents_alone : (s0 s1 s2 : List (Slot T)) (around : List (Frame T)) (side : Side) (colour : Colour) (subtree : Shape T) (handle : ℕ) (item : T) (links : Links) (taken : ℕ)
      → Alone s0 around side colour subtree handle item → links_of s0 handle ≡ Some links → OnlySubtree links taken
      → Reparents s1 s2 taken links.parent → Reparents s1 s2 (top subtree) (hole_parent around)
  reparents_alone s0 s1 s2 around side colour subtree handle item links taken lies read only moves = grind (arith, parent_alone, taken_alone)

  pub hung_used : (s0 : List (Slot T)) (around : List (Frame T)) (side : Side) (colour : Colour) (subtree : Shape T) (handle : ℕ) (item : T) (links : Links)
      → Alone s0 around side colour subtree handle item → links_of s0 handle ≡ Some links → links.parent ≢ EMPTY_REF → IsUsed s0 links.parent
  hung_used s0 around side colour subtree handle item links lies read some = grind (arith, parent_alone, IsUsed-hole)

  pub subtree_used : (s0 s1 : List (Slot T)) (root new_root : ℕ) (around : List (Frame T)) (side : Side) (colour : Colour) (subtree : Shape T) (handle : ℕ) (item : T) (links : Links) (taken : ℕ)
      → Alone s0 around side colour subtree handle item → links_of s0 handle ≡ Some links → OnlySubtree links taken
      → Rehangs s0 s1 root new_root links.parent handle taken → taken ≢ EMPTY_REF → IsUsed s1 taken
  subtree_used s0 s1 root new_root around side colour subtree handle item links taken lies read only rehangs some =
      let taken_top = taken_alone s0 around side colour subtree handle item links taken lies read only in
      let hangs = rehangs_alone s0 s1 root new_root around side colour subtree handle item links taken lies read only rehangs in
      let Used_at : ℕ → Type 0 = λ other. IsUsed s1 other in
      subst Used_at (sym taken_top)
      (IsUsed-top s1 handle subtree (subtree_hung s0 s1 root new_root around side colour subtree handle item lies hangs) (λ same. some (taken_top ∙ same)))

  -- the node's slot is as it was until it is freed
  pub own_kept : (s0 s1 s2 : List (Slot T)) (root new_root : ℕ) (around : List (Frame T)) (side : Side) (colour : Colour) (subtree : Shape T) (handle : ℕ) (item : T) (links : Links) (taken : ℕ)
      → Alone s0 around side colour subtree handle item → links_of s0 handle ≡ Some links → OnlySubtree links taken
      → Rehangs s0 s1 root new_root links.parent handle taken → Reparents s1 s2 taken links.parent → slice_get s2 handle ≡ slice_get s0 handle
  own_kept s0 s1 s2 root new_root around side colour subtree handle item links taken lies read only rehangs moves =
      let here = one_if_same-same handle in
      let once = lies.once handle in
      let hangs = rehangs_alone s0 s1 root new_root around side colour subtree handle item links taken lies read only rehangs in
      let goes = reparents_alone s0 s1 s2 around side colour subtree handle item links taken lies read only moves in
      (subtree_moved s0 s1 s2 root new_root around side colour subtree handle item lies hangs goes).1 handle (omega arith)
      ∙ (hung_alone s0 s1 root new_root around side colour subtree handle item lies hangs).1 handle (omega arith)

  pub own_used : (s0 s1 s2 : List (Slot T)) (root new_root : ℕ) (around : List (Frame T)) (side : Side) (colour : Colour) (subtree : Shape T) (handle : ℕ) (item : T) (links : Links) (taken : ℕ)
      → Alone s0 around side colour subtree handle item → links_of s0 handle ≡ Some links → OnlySubtree links taken
      → Rehangs s0 s1 root new_root links.parent handle taken → Reparents s1 s2 taken links.parent → IsUsed s2 handle
  own_used s0 s1 s2 root new_root around side colour subtree handle item links taken lies read only rehangs moves =
      used_by s2 handle (links_on side (hole_parent around) (top subtree) EMPTY_REF colour) item
      (own_kept s0 s1 s2 root new_root around side colour subtree handle item links taken lies read only rehangs moves ∙ lies.own)

  -- all of it
  pub sound-left : (s0 s1 s2 s3 : List (Slot T)) (root new_root first_free free : ℕ) (around : List (Frame T)) (side : Side) (colour : Colour) (subtree : Shape T) (handle : ℕ) (item : T) (links : Links) (taken : ℕ)
      → IsSound s0 root first_free free (plug around (fork_on side colour subtree handle item leaf)) → links_of s0 handle ≡ Some links → OnlySubtree links taken
      → Rehangs s0 s1 root new_root links.parent handle taken → Reparents s1 s2 taken links.parent
      → slice_get s3 handle ≡ Some (Free first_free) → ((other : ℕ) → other ≢ handle → slice_get s3 other ≡ slice_get s2 other) → length s3 ≡ length s0
      → IsSound s3 new_root handle (free + 1) (plug around subtree)
  sound-left s0 s1 s2 s3 root new_root first_free free around side colour subtree handle item links taken sound read only rehangs moves freed others long =
      let lies = alone s0 root first_free free around side colour subtree handle item sound in
      sound-detached s0 s1 s2 s3 root new_root first_free free around side colour subtree handle item sound
      (rehangs_alone s0 s1 root new_root around side colour subtree handle item links taken lies read only rehangs)
      (reparents_alone s0 s1 s2 around side colour subtree handle item links taken lies read only moves) freed others long
