-- A node that joins a red-black tree below another: it may stand under a red one, and its entry comes beside the other's.
use Rattle.std.proofs.Common.{◌≡◌, ℕ, ◌+◌, true, false, List, [], ◌∷◌, ◌++◌, length, refl, sym, ap, ◌∙◌, subst, append_assoc, append-nil, length-append, arith}
use Rattle.std.proofs.lemmas.Bool.{false≢true}
use Rattle.i_tree.specs.declared.rb.links.Colour.{Colour}
use Rattle.i_tree.specs.declared.rb.links.Colour.TheVariants.{Red, Black}
use Rattle.i_tree.specs.declared.rb.links.Side.{Side}
use Rattle.i_tree.specs.declared.rb.links.Side.TheVariants.{Left, Right}
use Rattle.i_tree.specs.Rb.Shape.{Shape, leaf, fork, entries, black_levels, IsHandle, AreHandles}
use Rattle.i_tree.specs.Rb.Context.{Frame, fork_on, fill, plug, subtree_on, beside, Replaces, HasRoomOn}
use Rattle.i_tree.specs.Rb.Balance.{is_black_colour, is_black, MayHold, IsRedBlack, is_black_around, MayStand, Fits, IsRaised}
use Rattle.i_tree.proofs.RbLemmas.Shape.Contexts.{Cut, before_hole, after_hole, entries-plug, length-plug}
use Rattle.i_tree.proofs.RbLemmas.Balance.Ranks.{levels-fork_on}
use Rattle.i_tree.proofs.RbLemmas.Shape.Subtrees.{list_cut, side_cut}

module _ {T : Type 0} where
  MayHold-swap : (colour : Colour) (before after : Shape T) → MayHold colour before after → MayHold colour after before
  MayHold-swap Red before after may = (may.1, may.0)
  MayHold-swap Black before after may = tt

  -- a red-black node seen from one of its sides
  near_balanced : (side : Side) (colour : Colour) (near : Shape T) (handle : ℕ) (item : T) (far : Shape T) → IsRedBlack (fork_on side colour near handle item far)
      → IsRedBlack near × IsRedBlack far × (black_levels far ≡ black_levels near) × MayHold colour near far
  near_balanced Left colour near handle item far balanced = (balanced.0, balanced.1, sym balanced.2, balanced.3)
  near_balanced Right colour near handle item far balanced = (balanced.1, balanced.0, balanced.2, MayHold-swap colour far near balanced.3)

  -- each subtree of a red-black tree is one
  subtree_balanced : (around : List (Frame T)) (subtree : Shape T) → IsRedBlack (plug around subtree) → IsRedBlack subtree
  subtree_balanced [] subtree balanced = balanced
  subtree_balanced (frame ∷ around) subtree balanced =
      (near_balanced frame.side frame.colour subtree frame.handle frame.item frame.sibling (subtree_balanced around (fill frame subtree) balanced)).0

  -- around a red subtree of a red-black tree is no red frame
  holder_black : (colour : Colour) (near far : Shape T) → MayHold colour near far → is_black near ≡ false → is_black_colour colour ≡ true
  holder_black Red near far may red = absurd (false≢true (sym red ∙ may.0))
  holder_black Black near far may red = refl

  black_around : (around : List (Frame T)) (subtree : Shape T) → IsRedBlack (plug around subtree) → is_black subtree ≡ false → is_black_around around ≡ true
  black_around around subtree balanced red = grind (arith, holder_black, near_balanced, subtree_balanced)

  is_red-fork_on : (side : Side) (near : Shape T) (handle : ℕ) (item : T) (far : Shape T) → is_black (fork_on side Red near handle item far) ≡ false
  is_red-fork_on Left near handle item far = refl
  is_red-fork_on Right near handle item far = refl

  stands : (colour : Colour) (side : Side) (near : Shape T) (handle : ℕ) (item : T) (far : Shape T) (around : List (Frame T))
      → IsRedBlack (plug around (fork_on side colour near handle item far)) → MayStand colour far around
  stands colour side near handle item far around balanced = grind (arith, near_balanced, subtree_balanced, black_around, is_red-fork_on)

  -- what is around a subtree of a red-black tree fits it
  pub Fits-from_red_black : (around : List (Frame T)) (subtree : Shape T) → IsRedBlack (plug around subtree) → Fits around (black_levels subtree)
  Fits-from_red_black [] subtree balanced = tt
  Fits-from_red_black (frame ∷ around) subtree balanced =
      let node = near_balanced frame.side frame.colour subtree frame.handle frame.item frame.sibling (subtree_balanced around (fill frame subtree) balanced) in (
        node.1,
        node.2,
        stands frame.colour frame.side subtree frame.handle frame.item frame.sibling around balanced,
        subst (Fits around) (levels-fork_on frame.side frame.colour subtree frame.handle frame.item frame.sibling node.2) (Fits-from_red_black around (fill frame subtree) balanced),
      )

  -- where a red node joins, on a side with room
  abbrev pub Joins : Shape T → Shape T → ℕ → Side → ℕ → T → Type 0
  Joins tree new parent side handle item =
      (colour : Colour) (at : T) (far : Shape T) → Replaces tree new (fork_on side colour leaf parent at far) (fork_on side colour (fork Red leaf handle item leaf) parent at far)

  pub IsRaised-joined : (tree new : Shape T) (parent : ℕ) (side : Side) (handle : ℕ) (item : T) → IsRedBlack tree → HasRoomOn tree parent side
      → Joins tree new parent side handle item → IsRaised new handle
  IsRaised-joined tree new parent side handle item balanced room joins =
      let frame : Frame T = record { side = side; colour = room.colour; handle = parent; item = room.item; sibling = room.far } in
      let whole : IsRedBlack (plug (frame ∷ room.around) leaf) = subst IsRedBlack room.is balanced in
      record {
        around = frame ∷ room.around;
        before = leaf;
        item = item;
        after = leaf;
        is = joins room.colour room.item room.far room.around room.is;
        subtree = (tt, tt, refl, (refl, refl));
        fits = Fits-from_red_black (frame ∷ room.around) leaf whole;
      }

  -- what the list of entries becomes
  entries-beside : (side : Side) (tree new : Shape T) (parent : ℕ) (handle : ℕ) (item : T) (around : List (Frame T)) (colour : Colour) (at : T) (far : Shape T)
      → AreHandles tree → tree ≡ plug around (fork_on side colour leaf parent at far)
      → new ≡ plug around (fork_on side colour (fork Red leaf handle item leaf) parent at far)
      → (front : List (ℕ × T)) (held : T) (back : List (ℕ × T)) → entries tree ≡ front ++ (parent, held) ∷ back
      → entries new ≡ front ++ beside side (handle, item) (parent, held) back
  entries-beside Left tree new parent handle item around colour at far handles is new_is front held back e =
      let cut : Cut tree parent = record { around = around; colour = colour; before = leaf; item = at; after = far; is = is } in
      let places = list_cut tree parent handles cut front held back e in
      let first : front ≡ before_hole around = places.0 ∙ append-nil (before_hole around) in
      let whole : entries new ≡ before_hole around ++ (handle, item) ∷ (parent, at) ∷ (entries far ++ after_hole around)
      = ap (λ (shape : Shape T). entries shape) new_is ∙ entries-plug around (fork colour (fork Red leaf handle item leaf) parent at far) in
      let own : held ≡ at = places.1 in
      let rest : back ≡ entries far ++ after_hole around = places.2 in
      rw (first, own, rest) whole
  entries-beside Right tree new parent handle item around colour at far handles is new_is front held back e =
      let cut : Cut tree parent = record { around = around; colour = colour; before = far; item = at; after = leaf; is = is } in
      let places = list_cut tree parent handles cut front held back e in
      let whole : entries new ≡ before_hole around ++ ((entries far ++ (parent, at) ∷ (handle, item) ∷ []) ++ after_hole around)
      = ap (λ (shape : Shape T). entries shape) new_is ∙ entries-plug around (fork colour far parent at (fork Red leaf handle item leaf)) in
      let flat : before_hole around ++ ((entries far ++ (parent, at) ∷ (handle, item) ∷ []) ++ after_hole around)
      ≡ (before_hole around ++ entries far) ++ (parent, at) ∷ (handle, item) ∷ after_hole around = simp append_assoc in
      let first : front ≡ before_hole around ++ entries far = places.0 in
      let own : held ≡ at = places.1 in
      let rest : back ≡ after_hole around = places.2 in
      rw (first, own, rest) (whole ∙ flat)

  pub entries-joined : (tree new : Shape T) (parent : ℕ) (side : Side) (handle : ℕ) (item : T) → AreHandles tree → HasRoomOn tree parent side
      → Joins tree new parent side handle item
      → (front : List (ℕ × T)) (held : T) (back : List (ℕ × T)) → entries tree ≡ front ++ (parent, held) ∷ back
      → entries new ≡ front ++ beside side (handle, item) (parent, held) back
  entries-joined tree new parent side handle item handles room joins =
      entries-beside side tree new parent handle item room.around room.colour room.item room.far handles room.is (joins room.colour room.item room.far room.around room.is)

  length-node : (side : Side) (colour : Colour) (near : Shape T) (handle : ℕ) (item : T) (far : Shape T)
      → length (entries (fork_on side colour near handle item far)) ≡ length (entries near) + length (entries far) + 1
  length-node Left colour near handle item far = let sum = length-append (entries near) ((handle, item) ∷ entries far) in omega arith
  length-node Right colour near handle item far = let sum = length-append (entries far) ((handle, item) ∷ entries near) in omega arith

  -- there is one entry more
  pub length-joined : (tree new : Shape T) (parent : ℕ) (side : Side) (handle : ℕ) (item : T) → HasRoomOn tree parent side
      → Joins tree new parent side handle item → length (entries new) ≡ length (entries tree) + 1
  length-joined tree new parent side handle item room joins = grind (arith, length-plug, length-node)

  -- a live handle with no subtree on a side has room there
  HasRoomOn-subtree_on : (side : Side) (tree : Shape T) (handle : ℕ) → AreHandles tree → IsHandle tree handle → subtree_on side handle tree ≡ leaf → HasRoomOn tree handle side
  HasRoomOn-subtree_on side tree handle handles live none =
      let cut = side_cut tree handle side handles live in
      record {
        around = cut.around;
        colour = cut.colour;
        item = cut.item;
        far = cut.far;
        is = cut.is ∙ ap (λ (subtree : Shape T). plug cut.around (fork_on side cut.colour subtree handle cut.item cut.far)) none;
      }

  -- and so in a tree that is kept
  pub HasRoomOn-kept : (side : Side) (tree kept : Shape T) (handle : ℕ) → kept ≡ tree → AreHandles tree → IsHandle tree handle → subtree_on side handle tree ≡ leaf
      → HasRoomOn kept handle side
  HasRoomOn-kept side tree kept handle same handles live none = grind (arith, HasRoomOn-subtree_on)
