-- The steps of the rebalancing after an insertion.
use Rattle.std.proofs.Common.{◌≡◌, ◌≢◌, ℕ, ◌+◌, ◌<◌, ◌⊎◌, inl, inr, Bool, true, false, List, [], ◌∷◌, refl, sym, ap, ◌∙◌, subst, arith}
use Rattle.i_tree.specs.declared.TheConstants.{EMPTY_REF}
use Rattle.i_tree.specs.declared.rb.links.Colour.{Colour}
use Rattle.i_tree.specs.declared.rb.links.Colour.TheVariants.{Red, Black}
use Rattle.i_tree.specs.declared.rb.links.Side.{Side}
use Rattle.i_tree.specs.declared.rb.links.Side.TheVariants.{Left, Right}
use Rattle.i_tree.specs.Rb.Shape.{Shape, leaf, fork, top, occurs, black_levels, IsHandle, AreHandles}
use Rattle.i_tree.specs.Rb.Balance.{is_black, is_black_colour, is_black_around, level_of, IsRedBlack, MayStand, Fits, IsRaised}
use Rattle.i_tree.specs.Rb.Context.{Frame, fork_on, fill, plug, other_side, hole_parent}
use Rattle.i_tree.specs.Rb.Rotation.{CanRotation}
use Rattle.i_tree.specs.Rb.Rebalancing.{IsSubtree, IsBlackSubtree, IsUnderRed}
use Rattle.i_tree.proofs.RbLemmas.Shape.Contexts.{one_if_same-same, fork_on-other, top-fork_on}
use Rattle.i_tree.proofs.RbLemmas.Balance.Ranks.{is_black-fork_on}
use Rattle.i_tree.proofs.RbLemmas.Balance.Frames.{IsSubtree-from_black, IsBlackSubtree-from, IsSubtree-red, IsBlackSubtree-black, IsRedBlack-plug, leaf_inside, IsHandle-at, Paints, painted, Rotations}

module _ {T : Type 0} where
  -- what the arena answers of a handle in the tree
  abbrev pub IsParent : Shape T → ℕ → ℕ → Type 0
  IsParent tree handle parent = (around : List (Frame T)) (subtree : Shape T) → tree ≡ plug around subtree → top subtree ≡ handle → parent ≡ hole_parent around

  abbrev pub SaysBlack : Shape T → ℕ → Bool → Type 0
  SaysBlack tree handle says = (around : List (Frame T)) (subtree : Shape T) → tree ≡ plug around subtree → top subtree ≡ handle → says ≡ is_black subtree

  abbrev pub IsChild : Shape T → ℕ → Side → ℕ → Type 0
  IsChild tree handle side child =
      (around : List (Frame T)) (colour : Colour) (near : Shape T) (item : T) (far : Shape T) → tree ≡ plug around (fork_on side colour near handle item far) → child ≡ top near

  abbrev pub IsSide : Shape T → ℕ → ℕ → Side → Type 0
  IsSide tree parent child found =
      (around : List (Frame T)) (side : Side) (colour : Colour) (near : Shape T) (item : T) (far : Shape T)
      → tree ≡ plug around (fork_on side colour near parent item far) → top near ≡ child → top far ≢ child → found ≡ side

  -- the side is found by the subtree on the left
  pub side_left : (tree : Shape T) (parent child left : ℕ) → IsChild tree parent Left left → left ≡ child → IsSide tree parent child Left
  side_left tree parent child left left_is same around either colour near item far is near_is far_apart = grind arith

  pub side_right : (tree : Shape T) (parent child left : ℕ) → IsChild tree parent Left left → left ≢ child → IsSide tree parent child Right
  side_right tree parent child left left_is apart around either colour near item far is near_is far_apart = grind arith

  -- the red node's parent is red
  pub record HasRedParent (tree : Shape T) (node parent : ℕ) : Type 0 where
    pub around : List (Frame T)
    pub side : Side
    pub before : Shape T
    pub item : T
    pub after : Shape T
    pub parent_item : T
    pub sibling : Shape T
    pub is : tree ≡ plug around (fork_on side Red (fork Red before node item after) parent parent_item sibling)
    pub subtree : IsRedBlack (fork Red before node item after)
    pub sibling_subtree : IsBlackSubtree (black_levels before) sibling
    pub black_above : is_black_around around ≡ true
    pub fits : Fits around (black_levels before)

  pub IsHandle-raised : {tree : Shape T} {node : ℕ} → IsRaised tree node → IsHandle tree node
  IsHandle-raised {tree} {node} raised = IsHandle-at tree raised.around Left Red raised.before node raised.item raised.after raised.is

  pub IsHandle-parent : {tree : Shape T} {node : ℕ} → IsRaised tree node → (parent : ℕ) → IsParent tree node parent → parent ≢ EMPTY_REF → IsHandle tree parent
  IsHandle-parent {tree} {node} raised parent parent_is some = by_around raised.around raised.is (parent_is raised.around (fork Red raised.before node raised.item raised.after) raised.is refl)
    where
      by_around : (around : List (Frame T)) → tree ≡ plug around (fork Red raised.before node raised.item raised.after) → parent ≡ hole_parent around → IsHandle tree parent
      by_around [] is same = absurd (some same)
      by_around (frame ∷ around) is same =
          let P : ℕ → Type 0 = λ handle. IsHandle tree handle in
          subst P (sym same) (IsHandle-at tree around frame.side frame.colour (fork Red raised.before node raised.item raised.after) frame.handle frame.item frame.sibling is)

  -- at the root, or under a black parent, the tree is red-black
  pub balanced-under_black : {tree : Shape T} {node : ℕ} {says : Bool} → IsRaised tree node → (parent : ℕ) → IsParent tree node parent → SaysBlack tree parent says → says ≡ true → IsRedBlack tree
  balanced-under_black {tree} {node} {says} raised parent parent_is says_is black =
      by_around raised.around raised.is (parent_is raised.around (fork Red raised.before node raised.item raised.after) raised.is refl) raised.fits
    where
      by_around : (around : List (Frame T)) → tree ≡ plug around (fork Red raised.before node raised.item raised.after) → parent ≡ hole_parent around → Fits around (black_levels raised.before) → IsRedBlack tree
      by_around [] is same fits = subst IsRedBlack (sym is) raised.subtree
      by_around (frame ∷ around) is same fits =
          let node_subtree : Shape T = fork Red raised.before node raised.item raised.after in
          let above : says ≡ is_black (fill frame node_subtree) =
          says_is around (fill frame node_subtree) is (top-fork_on frame.side frame.colour node_subtree frame.handle frame.item frame.sibling ∙ sym same) in
          let shade = is_black-fork_on frame.side frame.colour node_subtree frame.handle frame.item frame.sibling in
          subst IsRedBlack (sym is) (IsRedBlack-plug (frame ∷ around) (black_levels raised.before) node_subtree fits (record { balanced = raised.subtree; deep = refl }) (inr (sym shade ∙ sym above ∙ black)))

  red_parent-at : (tree : Shape T) (around : List (Frame T)) (side : Side) (colour : Colour) (before : Shape T) (node : ℕ) (item : T) (after : Shape T) (parent : ℕ) (parent_item : T) (sibling : Shape T)
      → tree ≡ plug around (fork_on side colour (fork Red before node item after) parent parent_item sibling)
      → IsRedBlack (fork Red before node item after) → IsSubtree (black_levels before) sibling → MayStand colour sibling around → Fits around (black_levels before + level_of colour)
      → is_black_colour colour ≡ false → HasRedParent tree node parent
  red_parent-at tree around side colour before node item after parent parent_item sibling is subtree sibling_subtree stands fits red = grind (arith, IsBlackSubtree-from)

  pub HasRedParent-from : {tree : Shape T} {node : ℕ} {says : Bool} → IsRaised tree node → (parent : ℕ) → IsParent tree node parent → SaysBlack tree parent says → says ≡ false → HasRedParent tree node parent
  HasRedParent-from {tree} {node} {says} raised parent parent_is says_is red =
      by_around raised.around raised.is (parent_is raised.around (fork Red raised.before node raised.item raised.after) raised.is refl) raised.fits
    where
      by_around : (around : List (Frame T)) → tree ≡ plug around (fork Red raised.before node raised.item raised.after) → parent ≡ hole_parent around → Fits around (black_levels raised.before) → HasRedParent tree node parent
      by_around [] is same fits =
          let place = leaf_inside [] tree in
          let black : says ≡ true = says_is place.0 leaf place.1 (sym same) in
          cc
      by_around (frame ∷ around) is same fits =
          let node_subtree : Shape T = fork Red raised.before node raised.item raised.after in
          let above : says ≡ is_black (fill frame node_subtree) =
          says_is around (fill frame node_subtree) is (top-fork_on frame.side frame.colour node_subtree frame.handle frame.item frame.sibling ∙ sym same) in
          let shade = is_black-fork_on frame.side frame.colour node_subtree frame.handle frame.item frame.sibling in
          let P : ℕ → Type 0 = λ handle. HasRedParent tree node handle in
          subst P (sym same)
          (red_parent-at tree around frame.side frame.colour raised.before node raised.item raised.after frame.handle frame.item frame.sibling is raised.subtree
          (record { balanced = fits.0; deep = fits.1 }) fits.2 fits.3 (sym shade ∙ sym above ∙ red))

  pub IsHandle-red_parent : {tree : Shape T} {node parent : ℕ} → HasRedParent tree node parent → IsHandle tree parent
  IsHandle-red_parent {tree} {node} {parent} under =
      IsHandle-at tree under.around under.side Red (fork Red under.before node under.item under.after) parent under.parent_item under.sibling under.is

  -- a red root is painted black
  pub balanced-painted_root : {tree : Shape T} {node parent : ℕ} → HasRedParent tree node parent → AreHandles tree → (above : ℕ) → IsParent tree parent above → above ≡ EMPTY_REF
      → (new : Shape T) → Paints Black parent tree new → IsRedBlack new
  balanced-painted_root {tree} {node} {parent} under handles above above_is root new paints =
      by_around under.around under.is (above_is under.around (fork_on under.side Red node_subtree parent under.parent_item under.sibling) under.is (top-fork_on under.side Red node_subtree parent under.parent_item under.sibling))
    where
      node_subtree : Shape T
      node_subtree = fork Red under.before node under.item under.after

      by_around : (around : List (Frame T)) → tree ≡ plug around (fork_on under.side Red node_subtree parent under.parent_item under.sibling) → above ≡ hole_parent around → IsRedBlack new
      by_around around is same = grind (arith, node_subtree, IsBlackSubtree-black, IsSubtree-from_black, painted, IsHandle-at)

  -- the parent's parent, on whichever side the parent is
  under_red-at : (tree : Shape T) (around : List (Frame T)) (side : Side) (colour : Colour) (rotation : Side) (before : Shape T) (node : ℕ) (item : T) (after : Shape T) (parent : ℕ) (parent_item : T) (sibling : Shape T) (above : ℕ) (above_item : T) (uncle : Shape T)
      → tree ≡ plug around (fork_on side colour (fork_on rotation Red (fork Red before node item after) parent parent_item sibling) above above_item uncle)
      → IsRedBlack (fork Red before node item after) → IsBlackSubtree (black_levels before) sibling → IsSubtree (black_levels before) uncle → Fits around (black_levels before + level_of colour)
      → is_black_colour colour ≡ true → IsUnderRed tree node parent above side
  under_red-at tree around side Red rotation before node item after parent parent_item sibling above above_item uncle is subtree sibling_subtree uncle_subtree fits black = cc
  under_red-at tree around Left Black rotation before node item after parent parent_item sibling above above_item uncle is subtree sibling_subtree uncle_subtree fits black =
      record {
        around = around;
        levels = black_levels before;
        rotation = rotation;
        near = before;
        item = item;
        far = after;
        parent_item = parent_item;
        sibling = sibling;
        grandparent_item = above_item;
        uncle = uncle;
        is = is;
        near_subtree = record { balanced = subtree.0; deep = refl; black = subtree.3.0 };
        far_subtree = record { balanced = subtree.1; deep = sym subtree.2; black = subtree.3.1 };
        sibling_subtree = sibling_subtree;
        uncle_subtree = uncle_subtree;
        fits = fits;
      }
  under_red-at tree around Right Black rotation before node item after parent parent_item sibling above above_item uncle is subtree sibling_subtree uncle_subtree fits black =
      record {
        around = around;
        levels = black_levels before;
        rotation = rotation;
        near = after;
        item = item;
        far = before;
        parent_item = parent_item;
        sibling = sibling;
        grandparent_item = above_item;
        uncle = uncle;
        is = is;
        near_subtree = record { balanced = subtree.1; deep = sym subtree.2; black = subtree.3.1 };
        far_subtree = record { balanced = subtree.0; deep = refl; black = subtree.3.0 };
        sibling_subtree = sibling_subtree;
        uncle_subtree = uncle_subtree;
        fits = fits;
      }

  pub IsUnderRed-from : {tree : Shape T} {node parent : ℕ} → HasRedParent tree node parent → (above : ℕ) → IsParent tree parent above → above ≢ EMPTY_REF → (side : Side) × IsUnderRed tree node parent above side
  IsUnderRed-from {tree} {node} {parent} under above above_is inner =
      by_around under.around under.is (above_is under.around (fork_on under.side Red node_subtree parent under.parent_item under.sibling) under.is (top-fork_on under.side Red node_subtree parent under.parent_item under.sibling)) under.black_above under.fits
    where
      node_subtree : Shape T
      node_subtree = fork Red under.before node under.item under.after

      by_around : (around : List (Frame T)) → tree ≡ plug around (fork_on under.side Red node_subtree parent under.parent_item under.sibling) → above ≡ hole_parent around
          → is_black_around around ≡ true → Fits around (black_levels under.before) → (side : Side) × IsUnderRed tree node parent above side
      by_around around is same black fits = grind (arith, under_red-at)

  -- a red top, and what it stands over
  pub red_top : (subtree : Shape T) → is_black subtree ≡ false → (before : Shape T) × (item : T) × (after : Shape T) × (subtree ≡ fork Red before (top subtree) item after)
  red_top leaf red = cc
  red_top (fork Black before handle item after) red = cc
  red_top (fork Red before handle item after) red = (before, item, after, refl)

  pub occurs-red_top : (subtree : Shape T) → is_black subtree ≡ false → 0 < occurs (top subtree) subtree
  occurs-red_top leaf red = cc
  occurs-red_top (fork colour before handle item after) red = omega (arith, one_if_same-same handle)

  pub IsBlackSubtree-painted : {levels : ℕ} {before : Shape T} {handle : ℕ} {item : T} {after : Shape T} → IsSubtree levels (fork Red before handle item after)
      → IsBlackSubtree (levels + 1) (fork Black before handle item after)
  IsBlackSubtree-painted subtree =
      record { balanced = (subtree.balanced.0, subtree.balanced.1, subtree.balanced.2, tt); deep = ap (λ n. n + 1) subtree.deep; black = refl }

  pub IsRaised-from : (tree : Shape T) (levels : ℕ) (around : List (Frame T)) (side : Side) (near : Shape T) (handle : ℕ) (item : T) (far : Shape T)
      → tree ≡ plug around (fork_on side Red near handle item far) → IsBlackSubtree levels near → IsBlackSubtree levels far → Fits around levels → IsRaised tree handle
  IsRaised-from tree levels around side near handle item far is near_subtree far_subtree fits = grind (arith, IsSubtree-red)

  -- two red nodes on the same side, under a black one whose other subtree is black
  pub record IsLeaning (tree : Shape T) (above : ℕ) (side : Side) : Type 0 where
    pub around : List (Frame T)
    pub levels : ℕ
    pub outer : Shape T
    pub raised : ℕ
    pub raised_item : T
    pub inner : Shape T
    pub item : T
    pub far : Shape T
    pub is : tree ≡ plug around (fork_on side Black (fork_on side Red outer raised raised_item inner) above item far)
    pub outer_subtree : IsSubtree levels outer
    pub inner_subtree : IsBlackSubtree levels inner
    pub far_subtree : IsBlackSubtree levels far
    pub fits : Fits around (levels + 1)

  leaning_other : {tree : Shape T} {above : ℕ} {side way : Side} → way ≡ other_side side → (lean : IsLeaning tree above side)
      → tree ≡ plug lean.around (fork_on way Black lean.far above lean.item (fork_on way Red lean.inner lean.raised lean.raised_item lean.outer))
  leaning_other {tree} {above} {side} {way} is_other lean =
      let P : Side → Type 0 =
      λ other. tree ≡ plug lean.around (fork_on other Black lean.far above lean.item (fork_on other Red lean.inner lean.raised lean.raised_item lean.outer)) in
      subst P (sym is_other)
      (lean.is
      ∙ ap (λ (subtree : Shape T). plug lean.around (fork_on side Black subtree above lean.item lean.far)) (fork_on-other side Red lean.outer lean.raised lean.raised_item lean.inner)
      ∙ ap (plug lean.around) (fork_on-other side Black (fork_on (other_side side) Red lean.inner lean.raised lean.raised_item lean.outer) above lean.item lean.far))

  pub CanRotation-leaning : {tree : Shape T} {above : ℕ} {side way : Side} → way ≡ other_side side → IsLeaning tree above side → CanRotation tree above way
  CanRotation-leaning {tree} {above} {side} {way} is_other lean =
      record {
        rotation = record {
          around = lean.around;
          colour = Black;
          outer = lean.far;
          item = lean.item;
          raised_colour = Red;
          inner = lean.inner;
          raised = lean.raised;
          raised_item = lean.raised_item;
          far = lean.outer;
        };
        is = leaning_other is_other lean;
      }

  pub balanced-lifted : {tree : Shape T} {above : ℕ} {side way : Side} → way ≡ other_side side → IsLeaning tree above side → (new : Shape T) → Rotations above way tree new → IsRedBlack new
  unfolding CanRotation-leaning
  balanced-lifted {tree} {above} {side} {way} is_other lean new rotations =
      let can = CanRotation-leaning is_other lean in
      let rotated = rotations can.rotation can.is in
      let lowered = IsSubtree-red way above lean.item lean.far_subtree lean.inner_subtree in
      let whole = IsBlackSubtree-black way lean.raised lean.raised_item lowered lean.outer_subtree in
      subst IsRedBlack (sym rotated)
      (IsRedBlack-plug lean.around (lean.levels + 1) (fork_on way Black (fork_on way Red lean.far above lean.item lean.inner) lean.raised lean.raised_item lean.outer)
      lean.fits (IsSubtree-from_black whole) (inl whole.black))

  -- The tree before the last rotation: rotated at the parent where the node is between, and else the same.
  abbrev pub IsStraightened : Shape T → Shape T → ℕ → ℕ → Side → ℕ → Type 0
  IsStraightened tree new node parent side child = ((child ≡ node) × Rotations parent side tree new) ⊎ ((child ≢ node) × (new ≡ tree))
