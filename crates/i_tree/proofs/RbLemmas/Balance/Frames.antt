-- Red-black subtrees inside their frames, and what painting and rotating a node keeps.
use Rattle.std.proofs.Common.{◌≡◌, ◌≢◌, ℕ, ◌+◌, ◌<◌, ◌≤◌, ◌⊎◌, true, List, [], ◌∷◌, ◌++◌, refl, sym, ap, ◌∙◌, subst, append_assoc, arith}
use Rattle.i_tree.specs.declared.TheConstants.{EMPTY_REF}
use Rattle.i_tree.specs.declared.rb.links.Colour.{Colour}
use Rattle.i_tree.specs.declared.rb.links.Colour.TheVariants.{Red, Black}
use Rattle.i_tree.specs.declared.rb.links.Side.{Side}
use Rattle.i_tree.specs.declared.rb.links.Side.TheVariants.{Left, Right}
use Rattle.i_tree.specs.Rb.Shape.{Shape, leaf, fork, top, entries, occurs, one_if_same, IsHandle, AreHandles}
use Rattle.i_tree.specs.Rb.Balance.{is_black, is_black_colour, is_black_around, level_of, IsRedBlack, MayStand, Fits}
use Rattle.i_tree.specs.Rb.Context.{Frame, fork_on, fill, plug, Replaces}
use Rattle.i_tree.specs.Rb.Rotation.{Rotation, unrotated, rotated, CanRotation}
use Rattle.i_tree.specs.Rb.Rebalancing.{one_if_red, red_nodes, IsSubtree, IsBlackSubtree}
use Rattle.i_tree.proofs.RbLemmas.Shape.Contexts.{one_if_same-same, occurs-fork_on, occurs-plug, before_hole, after_hole, entries-plug, cut_at}

module _ {T : Type 0} where
  pub IsSubtree-from_black : {levels : ℕ} {subtree : Shape T} → IsBlackSubtree levels subtree → IsSubtree levels subtree
  IsSubtree-from_black black_subtree = record { balanced = black_subtree.balanced; deep = black_subtree.deep }

  pub IsBlackSubtree-from : {levels : ℕ} {subtree : Shape T} → IsSubtree levels subtree → is_black subtree ≡ true → IsBlackSubtree levels subtree
  IsBlackSubtree-from subtree black = record { balanced = subtree.balanced; deep = subtree.deep; black = black }

  -- a red node over black subtrees
  pub IsSubtree-red : {levels : ℕ} {near far : Shape T} (side : Side) (handle : ℕ) (item : T) → IsBlackSubtree levels near → IsBlackSubtree levels far
      → IsSubtree levels (fork_on side Red near handle item far)
  IsSubtree-red side handle item near_subtree far_subtree = grind arith

  -- a black node over any subtrees
  pub IsBlackSubtree-black : {levels : ℕ} {near far : Shape T} (side : Side) (handle : ℕ) (item : T) → IsSubtree levels near → IsSubtree levels far
      → IsBlackSubtree (levels + 1) (fork_on side Black near handle item far)
  IsBlackSubtree-black side handle item near_subtree far_subtree = grind arith

  -- one frame around a subtree that fits
  fills : (side : Side) (colour : Colour) (near : Shape T) (handle : ℕ) (item : T) (far : Shape T) (around : List (Frame T)) (levels : ℕ)
      → IsSubtree levels near → IsSubtree levels far → MayStand colour far around → (is_black near ≡ true) ⊎ (is_black_colour colour ≡ true)
      → IsSubtree (levels + level_of colour) (fork_on side colour near handle item far)
      × ((is_black (fork_on side colour near handle item far) ≡ true) ⊎ (is_black_around around ≡ true))
  fills side colour near handle item far around levels near_subtree far_subtree stands either = grind (arith, IsSubtree-red, IsBlackSubtree-from, IsBlackSubtree-black)

  -- the frames make a red-black tree of a subtree that fits
  pub IsRedBlack-plug : (around : List (Frame T)) (levels : ℕ) (subtree : Shape T) → Fits around levels → IsSubtree levels subtree
      → (is_black subtree ≡ true) ⊎ (is_black_around around ≡ true) → IsRedBlack (plug around subtree)
  IsRedBlack-plug [] levels subtree fits is_subtree either = is_subtree.balanced
  IsRedBlack-plug (frame ∷ around) levels subtree fits is_subtree either =
      let filled = fills frame.side frame.colour subtree frame.handle frame.item frame.sibling around levels is_subtree (record { balanced = fits.0; deep = fits.1 }) fits.2 either in
      IsRedBlack-plug around (levels + level_of frame.colour) (fill frame subtree) fits.3 filled.0 filled.1

  -- each tree has an empty subtree
  pub leaf_inside : (around : List (Frame T)) (subtree : Shape T) → (other : List (Frame T)) × (plug around subtree ≡ plug other leaf)
  leaf_inside around leaf = (around, refl)
  leaf_inside around (fork colour before handle item after) =
      leaf_inside (record { side = Left; colour = colour; handle = handle; item = item; sibling = after } ∷ around) before

  pub IsHandle-in : (tree : Shape T) (around : List (Frame T)) (subtree : Shape T) (handle : ℕ) → tree ≡ plug around subtree → 0 < occurs handle subtree → IsHandle tree handle
  IsHandle-in tree around subtree handle is some = grind (arith, occurs-plug)

  pub occurs-own : (side : Side) (colour : Colour) (near : Shape T) (handle : ℕ) (item : T) (far : Shape T) → 0 < occurs handle (fork_on side colour near handle item far)
  occurs-own side colour near handle item far = omega (arith, occurs-fork_on handle side colour near handle item far, one_if_same-same handle)

  pub occurs_top : (subtree : Shape T) → top subtree ≢ EMPTY_REF → 0 < occurs (top subtree) subtree
  occurs_top leaf some = absurd (some refl)
  occurs_top (fork colour before handle item after) some = omega (arith, one_if_same-same handle)

  -- the handle of a node
  pub IsHandle-at : (tree : Shape T) (around : List (Frame T)) (side : Side) (colour : Colour) (near : Shape T) (handle : ℕ) (item : T) (far : Shape T)
      → tree ≡ plug around (fork_on side colour near handle item far) → IsHandle tree handle
  IsHandle-at tree around side colour near handle item far is =
      IsHandle-in tree around (fork_on side colour near handle item far) handle is (occurs-own side colour near handle item far)

  -- what stands in a node's one subtree isn't the top of its other subtree
  pub top_apart : (tree : Shape T) → AreHandles tree → (around : List (Frame T)) (side : Side) (colour : Colour) (near : Shape T) (handle : ℕ) (item : T) (far : Shape T)
      → tree ≡ plug around (fork_on side colour near handle item far) → (wanted : ℕ) → 0 < occurs wanted near → top far ≢ wanted
  top_apart tree handles around side colour near handle item far is wanted some same =
      let once : occurs wanted (plug around (fork_on side colour near handle item far)) ≤ 1 = subst (λ (whole : Shape T). occurs wanted whole ≤ 1) is (handles.apart wanted) in
      let none : occurs EMPTY_REF (plug around (fork_on side colour near handle item far)) ≡ 0 = subst (λ (whole : Shape T). occurs EMPTY_REF whole ≡ 0) is handles.none_empty in
      let all = occurs-plug wanted around (fork_on side colour near handle item far) in
      let here = occurs-fork_on wanted side colour near handle item far in
      let all_empty = occurs-plug EMPTY_REF around (fork_on side colour near handle item far) in
      let here_empty = occurs-fork_on EMPTY_REF side colour near handle item far in
      by_far far same (omega arith) (omega arith)
    where
      by_far : (subtree : Shape T) → top subtree ≡ wanted → occurs wanted subtree ≡ 0 → occurs EMPTY_REF near ≡ 0 → ⊥
      by_far leaf same none none_empty =
          omega (arith, ap (λ h. occurs h near) same)
      by_far (fork shade before own thing after) same none none_empty =
          omega (arith, ap (λ h. one_if_same wanted h) same, one_if_same-same wanted)

  -- the number of red nodes in the frames
  abbrev pub red_around : List (Frame T) → ℕ
  red_around [] = 0
  red_around (frame ∷ around) = one_if_red frame.colour + red_nodes frame.sibling + red_around around

  pub red_nodes-fork_on : (side : Side) (colour : Colour) (near : Shape T) (handle : ℕ) (item : T) (far : Shape T)
      → red_nodes (fork_on side colour near handle item far) ≡ one_if_red colour + red_nodes near + red_nodes far
  red_nodes-fork_on Left colour near handle item far = refl
  red_nodes-fork_on Right colour near handle item far = omega arith

  pub red_nodes-plug : (around : List (Frame T)) (subtree : Shape T) → red_nodes (plug around subtree) ≡ red_around around + red_nodes subtree
  red_nodes-plug [] subtree = omega arith
  red_nodes-plug (frame ∷ around) subtree =
      let outer = red_nodes-plug around (fill frame subtree) in
      omega (arith, red_nodes-fork_on frame.side frame.colour subtree frame.handle frame.item frame.sibling)

  -- the tree with another colour at the handle
  abbrev pub Paints : Colour → ℕ → Shape T → Shape T → Type 0
  Paints colour handle old new =
      (before : Shape T) (item : T) (after : Shape T) (was : Colour) → Replaces old new (fork was before handle item after) (fork colour before handle item after)

  pub painted : (side : Side) (colour : Colour) (handle : ℕ) (old new : Shape T) → Paints colour handle old new
      → (around : List (Frame T)) (was : Colour) (near : Shape T) (item : T) (far : Shape T)
      → old ≡ plug around (fork_on side was near handle item far) → new ≡ plug around (fork_on side colour near handle item far)
  painted Left colour handle old new paints around was near item far = paints near item far was around
  painted Right colour handle old new paints around was near item far = paints far item near was around

  pub entries-replaced : (around : List (Frame T)) (one other : Shape T) → entries one ≡ entries other → entries (plug around one) ≡ entries (plug around other)
  entries-replaced around one other same =
      entries-plug around one ∙ ap (λ list. before_hole around ++ (list ++ after_hole around)) same ∙ sym (entries-plug around other)

  pub entries-painted : (colour : Colour) (handle : ℕ) (old new : Shape T) → IsHandle old handle → Paints colour handle old new → entries new ≡ entries old
  entries-painted colour handle old new live paints =
      let cut = cut_at old handle live in
      ap entries (paints cut.before cut.item cut.after cut.colour cut.around cut.is)
      ∙ entries-replaced cut.around (fork colour cut.before handle cut.item cut.after) (fork cut.colour cut.before handle cut.item cut.after) refl
      ∙ sym (ap entries cut.is)

  pub IsHandle-painted : (colour : Colour) (handle : ℕ) (old new : Shape T) → IsHandle old handle → Paints colour handle old new
      → (wanted : ℕ) → IsHandle old wanted → IsHandle new wanted
  IsHandle-painted colour handle old new live paints wanted wanted_live =
      let cut = cut_at old handle live in
      let was = ap (occurs wanted) cut.is ∙ occurs-plug wanted cut.around (fork cut.colour cut.before handle cut.item cut.after) in
      let now = ap (occurs wanted) (paints cut.before cut.item cut.after cut.colour cut.around cut.is) ∙ occurs-plug wanted cut.around (fork colour cut.before handle cut.item cut.after) in
      omega arith

  -- the tree with the node rotated down to the side
  abbrev pub Rotations : ℕ → Side → Shape T → Shape T → Type 0
  Rotations handle side old new = (rotation : Rotation T handle side) → old ≡ plug rotation.around (unrotated rotation) → new ≡ plug rotation.around (rotated rotation)

  entries-rotated_subtree : (side : Side) (colour raised_colour : Colour) (outer : Shape T) (handle : ℕ) (item : T) (inner : Shape T) (raised : ℕ) (raised_item : T) (far : Shape T)
      → entries (fork_on side colour (fork_on side raised_colour outer handle item inner) raised raised_item far)
      ≡ entries (fork_on side colour outer handle item (fork_on side raised_colour inner raised raised_item far))
  entries-rotated_subtree Left colour raised_colour outer handle item inner raised raised_item far = simp append_assoc
  entries-rotated_subtree Right colour raised_colour outer handle item inner raised raised_item far = simp append_assoc

  pub entries-rotated : (handle : ℕ) (side : Side) (old new : Shape T) → CanRotation old handle side → Rotations handle side old new → entries new ≡ entries old
  entries-rotated handle side old new can rotations = grind (arith, entries-replaced, entries-rotated_subtree)
