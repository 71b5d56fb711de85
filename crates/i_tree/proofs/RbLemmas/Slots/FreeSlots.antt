-- Free slots of the arena: a slot that is taken from the chain, and the tree that gains a node in it.
use Rattle.std.proofs.Common.{◌≡◌, ◌≢◌, ℕ, ◌+◌, ◌-◌, ◌<◌, ◌≤◌, List, [], ◌∷◌, ◌++◌, Option, Some, IsSome, length, slice_get, get_or, take, drop, refl, sym, ap, ◌∙◌, subst, arith}
use Rattle.std.proofs.lemmas.Option.{slice_get_within, slice_get-get_or}
use Rattle.std.proofs.Math.Seq.{take-append_seam}
use Rattle.i_tree.specs.declared.TheConstants.{EMPTY_REF}
use Rattle.i_tree.specs.declared.rb.links.Colour.{Colour}
use Rattle.i_tree.specs.declared.rb.links.Colour.TheVariants.{Red, Black}
use Rattle.i_tree.specs.declared.rb.links.Links.{Links}
use Rattle.i_tree.specs.declared.rb.links.Side.{Side}
use Rattle.i_tree.specs.declared.rb.links.Side.TheVariants.{Left, Right}
use Rattle.i_tree.specs.declared.rb.links.Slot.{Slot}
use Rattle.i_tree.specs.declared.rb.links.Slot.TheVariants.{Free}
use Rattle.i_tree.specs.Rb.Shape.{Shape, leaf, fork, top, occurs, one_if_same}
use Rattle.i_tree.specs.Rb.Context.{Frame, plug, hole_parent}
use Rattle.i_tree.specs.Rb.Slots.{node_slot, with_child_link, slot_links, read_tree, IsUsed, IsChain, IsSound, Relinks, occurs_in, one_if_slot}
use Rattle.i_tree.proofs.RbLemmas.Shape.Contexts.{one_if_same-same, occurs_around, occurs-plug, length-plug}
use Rattle.i_tree.proofs.RbLemmas.Slots.Layout.{links_on, one_if_slot-le, IsAround-child, IsAt-plug, IsAt-from_plug, top-plug, read_sound, IsUsed-live, IsChain-same}

-- numbers that stand in two ways differ
pub apart_in : (counted : ℕ → ℕ) (first second : ℕ) → 0 < counted first → counted second ≡ 0 → first ≢ second
apart_in counted first second some none same = let moved = ap counted same in omega arith

-- the links of a node with another subtree on its side
pub with_child-links_on : (side : Side) (above near far other : ℕ) (shade : Colour) → with_child_link side other (links_on side above near far shade) ≡ links_on side above other far shade
with_child-links_on Left above near far other shade = refl
with_child-links_on Right above near far other shade = refl

-- a list that was lent and given back whole
pub written_back : {X : Type 0} (len : ℕ) (items new : List X) → length new ≡ length items → len ≡ length items → take len (new ++ drop (length new) items) ≡ new
written_back len items new same is = ap (λ n. take n (new ++ drop (length new) items)) (is ∙ sym same) ∙ take-append_seam new (drop (length new) items)

module _ {T : Type 0} where
  -- what is read from a free slot
  pub read_free : (slots : List (Slot T)) (handle next : ℕ) (read : Slot T) (found : ℕ) → slice_get slots handle ≡ Some (Free next) → get_or slots handle read ≡ Free found
      → slice_get slots handle ≡ Some (Free found)
  read_free slots handle next read found free is = slice_get-get_or slots handle read (slice_get_within slots handle (Free next) free) ∙ ap Some is

  pub read_not_used : (slots : List (Slot T)) (handle next : ℕ) (read : Slot T) (links : Links) (item : T) → slice_get slots handle ≡ Some (Free next) → get_or slots handle read ≡ node_slot links item → ⊥
  read_not_used slots handle next read links item free is = grind (arith, slice_get-get_or, slice_get_within)

  -- the first free slot, and the chain behind it
  pub record Head (slots : List (Slot T)) (first free : ℕ) (tree : Shape T) : Type 0 where
    pub next : ℕ
    pub rest : List ℕ
    pub is_free : slice_get slots first ≡ Some (Free next)
    pub linked : IsChain slots next rest
    pub counted : length rest + 1 ≡ free
    pub each_once : (handle : ℕ) → occurs handle tree + (one_if_same handle first + occurs_in handle rest) ≡ one_if_slot (length slots) handle

  pub head_of : (slots : List (Slot T)) (root first free : ℕ) (tree : Shape T) → IsSound slots root first free tree → 0 < free → Head slots first free tree
  head_of slots root first free tree sound some = by_chain sound.chain sound.linked sound.counted sound.each_once
    where
      by_chain : (chain : List ℕ) → IsChain slots first chain → length chain ≡ free → ((handle : ℕ) → occurs handle tree + occurs_in handle chain ≡ one_if_slot (length slots) handle)
          → Head slots first free tree
      by_chain [] linked counted each_once = absurd (omega arith)
      by_chain (handle ∷ rest) linked counted each_once = record {
        next = linked.1.0;
        rest = rest;
        is_free = ap (slice_get slots) linked.0 ∙ linked.1.1;
        linked = linked.1.2;
        counted = omega arith;
        each_once = λ other. ap (λ number. occurs other tree + (one_if_same other number + occurs_in other rest)) linked.0 ∙ each_once other;
      }

  -- the first free slot is in the tree and in the chain behind it nowhere, and isn't the reserved one
  pub head_fresh : (slots : List (Slot T)) (first free : ℕ) (tree : Shape T) → Head slots first free tree → occurs first tree ≡ 0
  head_fresh slots first free tree head = omega (arith, head.each_once first, one_if_same-same first, one_if_slot-le (length slots) first)

  pub head_alone : (slots : List (Slot T)) (first free : ℕ) (tree : Shape T) (head : Head slots first free tree) → occurs_in first head.rest ≡ 0
  head_alone slots first free tree head = omega (arith, head.each_once first, one_if_same-same first, one_if_slot-le (length slots) first)

  pub head_not_reserved : (slots : List (Slot T)) (first free : ℕ) (tree : Shape T) → Head slots first free tree → 0 ≢ first
  head_not_reserved slots first free tree head same =
      omega (arith, ap (one_if_same 0) (sym same) ∙ one_if_same-same 0, head.each_once 0)

  pub same_next : (slots : List (Slot T)) (handle next other : ℕ) → slice_get slots handle ≡ Some (Free next) → slice_get slots handle ≡ Some (Free other) → next ≡ other
  same_next slots handle next other first second =
      let both : ◌≡◌ {A = Option (Slot T)} (Some (Free next)) (Some (Free other)) = sym first ∙ second in cc

  -- the tree that is read from slots known to be sound ones
  pub read_back : (slots new : List (Slot T)) (root first free : ℕ) (tree : Shape T) → slots ≡ new → IsSound new root first free tree
      → read_tree slots (length slots) root ≡ tree
  read_back slots new root first free tree is sound = ap (λ list. read_tree list (length list) root) is ∙ read_sound new root first free tree sound

  pub sound_back : (slots new : List (Slot T)) (root first free : ℕ) (tree : Shape T) → slots ≡ new → IsSound new root first free tree
      → IsSound slots root first free (read_tree slots (length slots) root)
  sound_back slots new root first free tree is sound = grind (arith, read_back)

  -- a black node in the first free slot, in the empty tree
  pub sound-rooted : (old new : List (Slot T)) (root first next free : ℕ) (item : T) → IsSound old root first free leaf → 0 < free
      → slice_get old first ≡ Some (Free next)
      → slice_get new first ≡ Some (node_slot (record { parent = EMPTY_REF; left = EMPTY_REF; right = EMPTY_REF; colour = Black }) item)
      → ((other : ℕ) → other ≢ first → slice_get new other ≡ slice_get old other)
      → length new ≡ length old
      → IsSound new first next (free - 1) (fork Black leaf first item leaf)
  sound-rooted old new root first next free item sound some was_free used others same_length =
      let head = head_of old root first free leaf sound some in
      let alone = head_alone old first free leaf head in
      let Linked : ℕ → Type 0 = λ number. IsChain old number head.rest in
      record {
        at = (used, tt, tt);
        root_is = refl;
        chain = head.rest;
        linked = IsChain-same old new next head.rest (λ handle inside. others handle (apart_in (λ number. occurs_in number head.rest) handle first inside alone))
            (subst Linked (same_next old first head.next next head.is_free was_free) head.linked);
        counted = omega (arith, head.counted);
        each_once = λ handle. omega (arith, head.each_once handle, ap (λ count. one_if_slot count handle) same_length);
        total = omega (arith, sound.total);
        few = omega (arith, sound.few);
        reserved = others 0 (head_not_reserved old first free leaf head) ∙ sound.reserved;
      }

  -- the links of the parent, once the new node is tied to it
  pub relinked : (taken new : List (Slot T)) (side : Side) (above far first handle : ℕ) (shade : Colour) (item : T)
      → slice_get taken handle ≡ Some (node_slot (links_on side above EMPTY_REF far shade) item) → Relinks taken new handle (with_child_link side first)
      → slice_get new handle ≡ Some (node_slot (links_on side above first far shade) item)
  relinked taken new side above far first handle shade item own relinks =
      relinks.at (links_on side above EMPTY_REF far shade) item own
      ∙ ap (λ (given : Links). Some (node_slot given item)) (with_child-links_on side above EMPTY_REF far first shade)

  -- the node that gains a subtree is in the tree, and isn't the first free slot
  pub parent_live : (frame : Frame T) (around : List (Frame T)) (subtree : Shape T) → 0 < occurs frame.handle (plug (frame ∷ around) subtree)
  parent_live frame around subtree = omega (arith, occurs-plug frame.handle (frame ∷ around) subtree, one_if_same-same frame.handle)

  pub parent_apart : (old : List (Slot T)) (root first free : ℕ) (frame : Frame T) (around : List (Frame T)) → IsSound old root first free (plug (frame ∷ around) leaf) → 0 < free
      → frame.handle ≢ first
  parent_apart old root first free frame around sound some =
      let tree : Shape T = plug (frame ∷ around) leaf in
      apart_in (λ number. occurs number tree) frame.handle first (parent_live frame around leaf) (head_fresh old first free tree (head_of old root first free tree sound some))

  pub parent_used : (old taken list : List (Slot T)) (root first free : ℕ) (frame : Frame T) (around : List (Frame T)) → IsSound old root first free (plug (frame ∷ around) leaf) → 0 < free
      → ((other : ℕ) → other ≢ first → slice_get taken other ≡ slice_get old other) → list ≡ taken → IsUsed list frame.handle
  parent_used old taken list root first free frame around sound some others is =
      let Held : Option (Slot T) → Type 0 = λ slot. IsSome (slot_links slot) in
      subst Held (sym (ap (λ given. slice_get given frame.handle) is ∙ others frame.handle (parent_apart old root first free frame around sound some)))
      (IsUsed-live old EMPTY_REF frame.handle (plug (frame ∷ around) leaf) sound.at (parent_live frame around leaf))

  -- a red node in the first free slot, on a side of a node that had no subtree there
  pub sound-attached : (old taken new : List (Slot T)) (root first next free : ℕ) (frame : Frame T) (around : List (Frame T)) (item : T)
      → IsSound old root first free (plug (frame ∷ around) leaf) → 0 < free
      → slice_get old first ≡ Some (Free next)
      → slice_get taken first ≡ Some (node_slot (record { parent = frame.handle; left = EMPTY_REF; right = EMPTY_REF; colour = Red }) item)
      → ((other : ℕ) → other ≢ first → slice_get taken other ≡ slice_get old other)
      → Relinks taken new frame.handle (with_child_link frame.side first)
      → length new ≡ length old
      → IsSound new root next (free - 1) (plug (frame ∷ around) (fork Red leaf first item leaf))
  sound-attached old taken new root first next free frame around item sound some was_free used others relinks same_length =
      let tree : Shape T = plug (frame ∷ around) leaf in
      let subtree : Shape T = fork Red leaf first item leaf in
      let head = head_of old root first free tree sound some in
      let alone = head_alone old first free tree head in
      let fresh = head_fresh old first free tree head in
      let here = one_if_same-same frame.handle in
      let outside : (handle : ℕ) → occurs handle tree ≡ occurs_around handle (frame ∷ around) = λ handle. omega (arith, occurs-plug handle (frame ∷ around) leaf) in
      let once : (handle : ℕ) → occurs_around handle (frame ∷ around) + occurs_in handle head.rest ≤ 1 =
      λ handle. omega (arith, outside handle, head.each_once handle, one_if_slot-le (length old) handle) in
      let apart_parent = parent_apart old root first free frame around sound some in
      let same : (handle : ℕ) → handle ≢ first → handle ≢ frame.handle → slice_get new handle ≡ slice_get old handle =
      λ handle apart away. relinks.others handle away ∙ others handle apart in
      let held = (IsAt-from_plug old (frame ∷ around) leaf sound.at).0 in
      let own = relinked taken new frame.side (hole_parent around) (top frame.sibling) first frame.handle frame.colour frame.item (others frame.handle apart_parent ∙ held.0) relinks in
      let Linked : ℕ → Type 0 = λ number. IsChain old number head.rest in
      record {
        at = IsAt-plug new (frame ∷ around) subtree
            (IsAround-child old new frame around EMPTY_REF first own
            (λ handle away inside. same handle (apart_in (λ number. occurs_around number (frame ∷ around)) handle first inside (omega (arith, outside first))) away)
            (omega (arith, once frame.handle)) held)
            (relinks.others first (λ is. apart_parent (sym is)) ∙ used, tt, tt);
        root_is = sound.root_is ∙ top-plug frame around leaf subtree;
        chain = head.rest;
        linked = IsChain-same old new next head.rest
            (λ handle inside. same handle (apart_in (λ number. occurs_in number head.rest) handle first inside alone)
            (λ is. let moved = ap (λ number. occurs_in number head.rest) is in omega (arith, once frame.handle)))
            (subst Linked (same_next old first head.next next head.is_free was_free) head.linked);
        counted = omega (arith, head.counted);
        each_once = λ handle. omega (arith, head.each_once handle, outside handle, occurs-plug handle (frame ∷ around) subtree, ap (λ count. one_if_slot count handle) same_length);
        total = omega (arith, sound.total, length-plug (frame ∷ around) leaf, length-plug (frame ∷ around) subtree);
        few = omega (arith, sound.few);
        reserved = same 0 (head_not_reserved old first free tree head)
            (λ is. let moved = ap (λ number. occurs_around number (frame ∷ around)) is in omega (arith, outside 0, sound.each_once 0)) ∙ sound.reserved;
      }
