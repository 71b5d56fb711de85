-- The rebalancing after an insertion where two red nodes stand under a black one: by colours, or by rotations.
use Rattle.std.proofs.Common.{◌≡◌, ◌≢◌, ℕ, ◌+◌, ◌<◌, ◌⊎◌, inl, inr, Bool, true, false, List, ◌∷◌, sym, ap, ◌∙◌, subst, arith}
use Rattle.i_tree.specs.declared.TheConstants.{EMPTY_REF}
use Rattle.i_tree.specs.declared.rb.links.Colour.{Colour}
use Rattle.i_tree.specs.declared.rb.links.Colour.TheVariants.{Red, Black}
use Rattle.i_tree.specs.declared.rb.links.Side.{Side}
use Rattle.i_tree.specs.Rb.Shape.{Shape, fork, top, entries, IsHandle, AreHandles}
use Rattle.i_tree.specs.Rb.Balance.{is_black, IsRaised}
use Rattle.i_tree.specs.Rb.Context.{Frame, fork_on, plug, other_side}
use Rattle.i_tree.specs.Rb.Rotation.{CanRotation}
use Rattle.i_tree.specs.Rb.Rebalancing.{red_nodes, IsSubtree, IsBlackSubtree, IsUnderRed}
use Rattle.i_tree.proofs.RbLemmas.Shape.Contexts.{fork_on-other, top-fork_on, other_other, same_or_other}
use Rattle.i_tree.proofs.RbLemmas.Balance.Frames.{IsSubtree-from_black, IsBlackSubtree-from, IsSubtree-red, IsBlackSubtree-black, IsHandle-in, IsHandle-at, occurs-own, occurs_top, top_apart, red_nodes-fork_on, red_nodes-plug, Paints, painted, entries-painted, IsHandle-painted, Rotations, entries-rotated}
use Rattle.i_tree.proofs.RbLemmas.Balance.Insertion.{IsParent, SaysBlack, IsChild, IsSide, HasRedParent, IsUnderRed-from, red_top, occurs-red_top, IsBlackSubtree-painted, IsRaised-from, IsLeaning, IsStraightened}

module _ {T : Type 0} where
  module _ {tree : Shape T} {node parent above : ℕ} {side : Side} (under : IsUnderRed tree node parent above side) where
    -- the subtrees that the node and its parent stand over, and what is around the parent and the uncle
    abbrev node_in : Shape T
    node_in = fork_on side Red under.near node under.item under.far

    abbrev parent_in : Colour → Shape T
    parent_in colour = fork_on under.rotation colour node_in parent under.parent_item under.sibling

    abbrev around_parent : List (Frame T)
    around_parent = record { side = side; colour = Black; handle = above; item = under.grandparent_item; sibling = under.uncle } ∷ under.around

    abbrev around_uncle : Colour → List (Frame T)
    around_uncle colour = record { side = other_side side; colour = Black; handle = above; item = under.grandparent_item; sibling = parent_in colour } ∷ under.around

    node_in_subtree : IsSubtree under.levels node_in
    node_in_subtree = IsSubtree-red side node under.item under.near_subtree under.far_subtree

    -- the tree seen from the uncle
    other_way : tree ≡ plug (around_uncle Red) under.uncle
    other_way = under.is ∙ ap (plug under.around) (fork_on-other side Black (parent_in Red) above under.grandparent_item under.uncle)

    -- the tree seen from the parent's other side
    other_rotation : (way : Side) → under.rotation ≡ other_side way → tree ≡ plug around_parent (fork_on way Red under.sibling parent under.parent_item node_in)
    other_rotation way rotation_is = grind (arith, other_other, fork_on-other)

    pub IsHandle-above : IsHandle tree above
    IsHandle-above = IsHandle-at tree under.around side Black (parent_in Red) above under.grandparent_item under.uncle under.is

    pub IsHandle-under_parent : IsHandle tree parent
    IsHandle-under_parent = IsHandle-at tree around_parent under.rotation Red node_in parent under.parent_item under.sibling under.is

    IsSide-same : AreHandles tree → (found : Side) → IsSide tree above parent found → found ≡ side
    IsSide-same handles found found_is =
        found_is under.around side Black (parent_in Red) under.grandparent_item under.uncle under.is
        (top-fork_on under.rotation Red node_in parent under.parent_item under.sibling)
        (top_apart tree handles under.around side Black (parent_in Red) above under.grandparent_item under.uncle under.is parent
        (occurs-own under.rotation Red node_in parent under.parent_item under.sibling))

    pub uncle_is : (other : Side) → other ≡ other_side side → (uncle : ℕ) → IsChild tree above other uncle → uncle ≡ top under.uncle
    uncle_is other is_other uncle child_is = grind (arith, other_way)

    pub IsHandle-uncle : {uncle : ℕ} → uncle ≡ top under.uncle → uncle ≢ EMPTY_REF → IsHandle tree uncle
    IsHandle-uncle {uncle} is_uncle some =
        let P : ℕ → Type 0 = λ handle. IsHandle tree handle in
        let top_some : top under.uncle ≢ EMPTY_REF = λ empty. some (is_uncle ∙ empty) in
        subst P (sym is_uncle) (IsHandle-in tree (around_uncle Red) under.uncle (top under.uncle) other_way (occurs_top under.uncle top_some))

    -- the node under its parent, where the child on the other side was read
    module _ (way : Side) (is_other : way ≡ other_side side) (child : ℕ) (child_is : IsChild tree parent way child) where
      rotated : AreHandles tree → child ≡ node → under.rotation ≡ other_side side
      rotated handles same = by_rotation (same_or_other side under.rotation)
        where
          by_rotation : (under.rotation ≡ side) ⊎ (under.rotation ≡ other_side side) → under.rotation ≡ other_side side
          by_rotation (inr rotation_is) = rotation_is
          by_rotation (inl rotation_is) =
              let found = child_is around_parent Red under.sibling under.parent_item node_in (other_rotation way (rotation_is ∙ sym (other_other side) ∙ ap other_side (sym is_other))) in
              absurd (top_apart tree handles around_parent under.rotation Red node_in parent under.parent_item under.sibling under.is node
              (occurs-own side Red under.near node under.item under.far) (sym found ∙ same))

      straight : child ≢ node → under.rotation ≡ side
      straight apart = by_rotation (same_or_other side under.rotation)
        where
          by_rotation : (under.rotation ≡ side) ⊎ (under.rotation ≡ other_side side) → under.rotation ≡ side
          by_rotation (inl rotation_is) = rotation_is
          by_rotation (inr rotation_is) =
              let P : Side → Type 0 = λ other. tree ≡ plug around_parent (fork_on other Red node_in parent under.parent_item under.sibling) in
              let found = child_is around_parent Red node_in under.parent_item under.sibling (subst P (rotation_is ∙ sym is_other) under.is) in
              absurd (apart (found ∙ top-fork_on side Red under.near node under.item under.far))

      -- a node between its parent and the grandparent can be rotated out
      pub CanRotation-inner : AreHandles tree → child ≡ node → CanRotation tree parent side
      CanRotation-inner handles same =
          record {
            rotation = record {
              around = around_parent;
              colour = Red;
              outer = under.sibling;
              item = under.parent_item;
              raised_colour = Red;
              inner = under.near;
              raised = node;
              raised_item = under.item;
              far = under.far;
            };
            is = other_rotation side (rotated handles same);
          }

      IsLeaning-rotated : AreHandles tree → is_black under.uncle ≡ true → child ≡ node → (new : Shape T) → Rotations parent side tree new → IsLeaning new above side
      unfolding CanRotation-inner
      IsLeaning-rotated handles black same new rotations =
          record {
            around = under.around;
            levels = under.levels;
            outer = fork_on side Red under.sibling parent under.parent_item under.near;
            raised = node;
            raised_item = under.item;
            inner = under.far;
            item = under.grandparent_item;
            far = under.uncle;
            is = rotations (CanRotation-inner handles same).rotation (CanRotation-inner handles same).is;
            outer_subtree = IsSubtree-red side parent under.parent_item under.sibling_subtree under.near_subtree;
            inner_subtree = under.far_subtree;
            far_subtree = IsBlackSubtree-from under.uncle_subtree black;
            fits = under.fits;
          }

      IsLeaning-straight : is_black under.uncle ≡ true → child ≢ node → IsLeaning tree above side
      IsLeaning-straight black apart = grind (arith, straight, node_in_subtree, IsBlackSubtree-from)

      -- either way both red nodes then stand on the side, and the entries are the same
      pub IsLeaning-joined : AreHandles tree → is_black under.uncle ≡ true → (new : Shape T) → IsStraightened tree new node parent side child
          → IsLeaning new above side × (entries new ≡ entries tree)
      IsLeaning-joined handles black new either = grind (arith, IsLeaning-rotated, entries-rotated, CanRotation-inner, IsLeaning, IsLeaning-straight)

  -- the node under red, at the side that was found
  pub IsUnderRed-found : {tree : Shape T} {node parent : ℕ} → HasRedParent tree node parent → AreHandles tree → (above : ℕ) → IsParent tree parent above → above ≢ EMPTY_REF
      → (found : Side) → IsSide tree above parent found → IsUnderRed tree node parent above found
  IsUnderRed-found {tree} {node} {parent} red_parent handles above above_is inner found found_is =
      let (side, under) = IsUnderRed-from red_parent above above_is inner in
      let P : Side → Type 0 = λ other. IsUnderRed tree node parent above other in
      subst P (sym (IsSide-same under handles found found_is)) under

  -- what a step of the loop has learnt once it has seen the uncle
  pub record SeesUncle (tree : Shape T) (node parent above : ℕ) (side : Side) (uncle : ℕ) (says : Bool) : Type 0 where
    pub under : IsUnderRed tree node parent above side
    pub is_uncle : uncle ≡ top under.uncle
    pub says_is : is_black under.uncle ≡ says

  pub SeesUncle-from : {tree : Shape T} {node parent above : ℕ} {side : Side} → IsUnderRed tree node parent above side → (other : Side) → other ≡ other_side side
      → (uncle : ℕ) → IsChild tree above other uncle → (says : Bool) → SaysBlack tree uncle says → SeesUncle tree node parent above side uncle says
  SeesUncle-from under other is_other uncle child_is says says_is =
      let is_uncle = uncle_is under other is_other uncle child_is in
      record { under = under; is_uncle = is_uncle; says_is = sym (says_is (around_uncle under Red) under.uncle (other_way under) (sym is_uncle)) }

  -- the step at a red uncle, where the three nodes get their other colours one by one
  module _ {tree : Shape T} {node parent above : ℕ} {side : Side} {uncle : ℕ} {says : Bool} (sees : SeesUncle tree node parent above side uncle says) (red : says ≡ false)
      (one : Shape T) (paints_one : Paints Black parent tree one) where
    uncle_red : is_black sees.under.uncle ≡ false
    uncle_red = sees.says_is ∙ red

    pub IsHandle-uncle_then : IsHandle one uncle
    IsHandle-uncle_then =
        let P : ℕ → Type 0 = λ handle. IsHandle tree handle in
        let live = IsHandle-in tree (around_uncle sees.under Red) sees.under.uncle (top sees.under.uncle) (other_way sees.under) (occurs-red_top sees.under.uncle uncle_red) in
        IsHandle-painted Black parent tree one (IsHandle-under_parent sees.under) paints_one uncle (subst P (sym sees.is_uncle) live)

    module _ (two : Shape T) (paints_two : Paints Black uncle one two) where
      pub IsHandle-above_then : IsHandle two above
      IsHandle-above_then =
          IsHandle-painted Black uncle one two IsHandle-uncle_then paints_two above
          (IsHandle-painted Black parent tree one (IsHandle-under_parent sees.under) paints_one above (IsHandle-above sees.under))

      module _ (three : Shape T) (paints_three : Paints Red above two three) where
        pub entries-recoloured : entries three ≡ entries tree
        entries-recoloured =
            entries-painted Red above two three IsHandle-above_then paints_three
            ∙ entries-painted Black uncle one two IsHandle-uncle_then paints_two
            ∙ entries-painted Black parent tree one (IsHandle-under_parent sees.under) paints_one

        -- the grandparent is the red node then, and one red node is gone
        pub IsRaised-recoloured : IsRaised three above × (red_nodes three < red_nodes tree)
        IsRaised-recoloured =
            let under = sees.under in
            let (before, item, after, uncle_top) = red_top under.uncle uncle_red in
            let uncle_subtrees : under.uncle ≡ fork Red before uncle item after = uncle_top ∙ ap (λ handle. fork Red before handle item after) (sym sees.is_uncle) in
            let black_uncle : Shape T = fork Black before uncle item after in
            let at_one = painted under.rotation Black parent tree one paints_one (around_parent under) Red (node_in under) under.parent_item under.sibling under.is in
            let swapped : one ≡ plug (around_uncle under Black) (fork Red before uncle item after) =
            at_one
            ∙ ap (plug under.around) (fork_on-other side Black (parent_in under Black) above under.grandparent_item under.uncle)
            ∙ ap (plug (around_uncle under Black)) uncle_subtrees in
            let at_two = paints_two before item after Red (around_uncle under Black) swapped in
            let at_three = painted (other_side side) Red above two three paints_three under.around Black black_uncle under.grandparent_item (parent_in under Black) at_two in
            let uncle_subtree : IsBlackSubtree (under.levels + 1) black_uncle = IsBlackSubtree-painted (subst (IsSubtree under.levels) uncle_subtrees under.uncle_subtree) in
            let parent_subtree : IsBlackSubtree (under.levels + 1) (parent_in under Black) =
            IsBlackSubtree-black under.rotation parent under.parent_item (node_in_subtree under) (IsSubtree-from_black under.sibling_subtree) in
            let old = ap red_nodes under.is ∙ red_nodes-plug under.around (fork_on side Black (parent_in under Red) above under.grandparent_item under.uncle) in
            let old_here = red_nodes-fork_on side Black (parent_in under Red) above under.grandparent_item under.uncle in
            let old_parent = red_nodes-fork_on under.rotation Red (node_in under) parent under.parent_item under.sibling in
            let old_uncle = ap red_nodes uncle_subtrees in
            let new = ap red_nodes at_three ∙ red_nodes-plug under.around (fork_on (other_side side) Red black_uncle above under.grandparent_item (parent_in under Black)) in
            let new_here = red_nodes-fork_on (other_side side) Red black_uncle above under.grandparent_item (parent_in under Black) in
            let new_parent = red_nodes-fork_on under.rotation Black (node_in under) parent under.parent_item under.sibling in
            (IsRaised-from three (under.levels + 1) under.around (other_side side) black_uncle above under.grandparent_item (parent_in under Black) at_three uncle_subtree parent_subtree under.fits, omega arith)
