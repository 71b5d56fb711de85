-- For a step of the rebalancing after a removal: a node seen from a side, and the entries that painting and rotating it keeps.
use Rattle.std.proofs.Common.{◌≡◌, ◌≢◌, ℕ, ◌+◌, true, false, List, ◌∷◌, ◌++◌, refl, sym, ap, ◌∙◌, append_assoc, arith}
use Rattle.i_tree.specs.declared.rb.links.Colour.{Colour}
use Rattle.i_tree.specs.declared.rb.links.Colour.TheVariants.{Red, Black}
use Rattle.i_tree.specs.declared.rb.links.Side.{Side}
use Rattle.i_tree.specs.declared.rb.links.Side.TheVariants.{Left, Right}
use Rattle.i_tree.specs.Rb.Balance.{is_black, is_black_colour, level_of}
use Rattle.i_tree.specs.Rb.Context.{Frame, fork_on, plug}
use Rattle.i_tree.specs.Rb.Rebalancing.{IsSubtree, IsBlackSubtree}
use Rattle.i_tree.specs.Rb.Removal.{KeepsSubtree}
use Rattle.i_tree.specs.Rb.Shape.{Shape, fork, top, entries, black_levels}
use Rattle.i_tree.proofs.RbLemmas.Shape.Contexts.{plug-append}
use Rattle.i_tree.proofs.RbLemmas.Balance.Ranks.{is_black-fork_on}
use Rattle.i_tree.proofs.RbLemmas.Balance.Frames.{IsSubtree-from_black, IsSubtree-red, IsBlackSubtree-black}

pub black_colour : (colour : Colour) → colour ≢ Red → colour ≡ Black
black_colour Red apart = absurd (apart refl)
black_colour Black apart = refl

pub level_red : (colour : Colour) → is_black_colour colour ≡ false → level_of colour ≡ 0
level_red Red red = refl
level_red Black red = cc

module _ {T : Type 0} where
  -- the subtrees of a node, seen from a side
  pub record Subtrees (side : Side) (colour : Colour) (tree : Shape T) (handle : ℕ) : Type 0 where
    pub inner : Shape T
    pub item : T
    pub outer : Shape T
    pub is : tree ≡ fork_on side colour inner handle item outer

  Subtrees-of : (side : Side) (colour : Colour) (before : Shape T) (handle : ℕ) (item : T) (after : Shape T) → Subtrees side colour (fork colour before handle item after) handle
  Subtrees-of Left colour before handle item after = record { inner = before; item = item; outer = after; is = refl }
  Subtrees-of Right colour before handle item after = record { inner = after; item = item; outer = before; is = refl }

  pub Subtrees-black : (side : Side) (tree : Shape T) (levels : ℕ) → is_black tree ≡ true → black_levels tree ≡ levels + 1 → Subtrees side Black tree (top tree)
  Subtrees-black side tree levels black deep = grind (arith, Subtrees-of)

  pub Subtrees-red : (side : Side) (tree : Shape T) → is_black tree ≡ false → Subtrees side Red tree (top tree)
  Subtrees-red side tree red = grind (arith, Subtrees-of)

  pub IsSubtree-below_black : {near far : Shape T} (side : Side) (handle : ℕ) (item : T) (levels : ℕ) → IsSubtree (levels + 1) (fork_on side Black near handle item far)
      → IsSubtree levels near × IsSubtree levels far
  IsSubtree-below_black side handle item levels subtree = grind arith

  pub IsSubtree-below_red : {near far : Shape T} (side : Side) (handle : ℕ) (item : T) (levels : ℕ) → IsSubtree levels (fork_on side Red near handle item far)
      → IsBlackSubtree levels near × IsBlackSubtree levels far
  IsSubtree-below_red side handle item levels subtree = grind arith

  -- a node of any colour over black subtrees
  pub IsSubtree-over : {levels : ℕ} {near far : Shape T} (side : Side) (colour : Colour) (handle : ℕ) (item : T) → IsBlackSubtree levels near → IsBlackSubtree levels far
      → IsSubtree (levels + level_of colour) (fork_on side colour near handle item far)
  IsSubtree-over side colour handle item near_subtree far_subtree = grind (arith, IsSubtree-red, IsSubtree-from_black, IsBlackSubtree-black)

  pub black_over : (side : Side) (colour : Colour) (near : Shape T) (handle : ℕ) (item : T) (far : Shape T) → colour ≡ Black → is_black (fork_on side colour near handle item far) ≡ true
  black_over side colour near handle item far black = is_black-fork_on side colour near handle item far ∙ ap is_black_colour black

  -- entries where a node's subtree on the far side has come up
  pub entries-raised : (side : Side) (one two three four : Colour) (near : Shape T) (node : ℕ) (node_item : T) (inner : Shape T) (sibling : ℕ) (item : T) (outer : Shape T)
      → entries (fork_on side one (fork_on side two near node node_item inner) sibling item outer)
      ≡ entries (fork_on side three near node node_item (fork_on side four inner sibling item outer))
  entries-raised Left one two three four near node node_item inner sibling item outer = simp append_assoc
  entries-raised Right one two three four near node node_item inner sibling item outer = simp append_assoc

  pub entries-raised_inner : (side : Side) (colour : Colour) (near : Shape T) (node : ℕ) (node_item : T) (low : Shape T) (raised : ℕ) (raised_item : T) (high : Shape T) (sibling : ℕ) (item : T) (outer : Shape T)
      → entries (fork_on side colour (fork_on side Black near node node_item low) raised raised_item (fork_on side Black high sibling item outer))
      ≡ entries (fork_on side colour near node node_item (fork_on side Black (fork_on side Red low raised raised_item high) sibling item outer))
  entries-raised_inner Left colour near node node_item low raised raised_item high sibling item outer = simp append_assoc
  entries-raised_inner Right colour near node node_item low raised raised_item high sibling item outer = simp append_assoc

  pub entries-painted_far : (side : Side) (one two : Colour) (near : Shape T) (node : ℕ) (node_item : T) (inner : Shape T) (sibling : ℕ) (item : T) (outer : Shape T)
      → entries (fork_on side one near node node_item (fork_on side Red inner sibling item outer))
      ≡ entries (fork_on side two near node node_item (fork_on side Black inner sibling item outer))
  entries-painted_far Left one two near node node_item inner sibling item outer = refl
  entries-painted_far Right one two near node node_item inner sibling item outer = refl

  -- entries where the near subtree has others in the same order
  pub entries-same_near : (side : Side) (colour : Colour) (one other : Shape T) (handle : ℕ) (item : T) (far : Shape T) → entries one ≡ entries other
      → entries (fork_on side colour one handle item far) ≡ entries (fork_on side colour other handle item far)
  entries-same_near Left colour one other handle item far same = ap (λ list. list ++ (handle, item) ∷ entries far) same
  entries-same_near Right colour one other handle item far same = ap (λ list. entries far ++ (handle, item) ∷ list) same

  pub entries-same_outer : (side : Side) (colour : Colour) (near : Shape T) (node : ℕ) (node_item : T) (inner : Shape T) (sibling : ℕ) (item : T) (one other : Shape T) → entries one ≡ entries other
      → entries (fork_on side colour near node node_item (fork_on side Black inner sibling item one)) ≡ entries (fork_on side colour near node node_item (fork_on side Black inner sibling item other))
  entries-same_outer Left colour near node node_item inner sibling item one other same = ap (λ list. entries near ++ (node, node_item) ∷ (entries inner ++ (sibling, item) ∷ list)) same
  entries-same_outer Right colour near node node_item inner sibling item one other same = ap (λ list. (list ++ (sibling, item) ∷ entries inner) ++ (node, node_item) ∷ entries near) same

  pub KeepsSubtree-inside : (around : List (Frame T)) (subtree : Shape T) (handle : ℕ) (side : Side) (near : Shape T) (item : T)
      → KeepsSubtree subtree handle side near item → KeepsSubtree (plug around subtree) handle side near item
  KeepsSubtree-inside around subtree handle side near item kept =
      record {
        around = kept.around ++ around;
        colour = kept.colour;
        far = kept.far;
        is = ap (plug around) kept.is ∙ sym (plug-append kept.around around (fork_on side kept.colour near handle item kept.far));
      }
