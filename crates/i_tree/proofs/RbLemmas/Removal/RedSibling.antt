-- A step of the rebalancing after a removal where the sibling is red: it comes up, and the node stands under it beside a black subtree.
use Rattle.std.proofs.Common.{◌≡◌, ℕ, ◌+◌, Bool, true, false, List, [], ◌∷◌, sym, ap, ◌∙◌, subst, arith}
use Rattle.std.specs.Bool.{MatchBool}
use Rattle.i_tree.specs.declared.rb.links.Colour.{Colour}
use Rattle.i_tree.specs.declared.rb.links.Colour.TheVariants.{Red, Black}
use Rattle.i_tree.specs.declared.rb.links.Side.{Side}
use Rattle.i_tree.specs.Rb.Balance.{is_black, is_black_colour, level_of, IsRedBlack, MayStand, Fits, IsShort}
use Rattle.i_tree.specs.Rb.Context.{Frame, fork_on}
use Rattle.i_tree.specs.Rb.Rebalancing.{IsSubtree, IsBlackSubtree}
use Rattle.i_tree.specs.Rb.ShortSides.{IsEnded, IsRisen, HasBlackSibling}
use Rattle.i_tree.specs.Rb.Shape.{Shape, entries, black_levels}
use Rattle.i_tree.proofs.RbLemmas.Balance.Frames.{IsSubtree-from_black, IsBlackSubtree-black, Rotations}
use Rattle.i_tree.proofs.RbLemmas.Removal.Step.{black_colour, Subtrees, IsSubtree-below_red, black_over, entries-raised, entries-same_near, KeepsSubtree-inside}
use Rattle.i_tree.proofs.RbLemmas.Removal.ShortSide.{far_subtree, rotated}

module _ {T : Type 0} where
  module _ (tree : Shape T) (node : ℕ) (side : Side) (cut : IsShort tree node side) where
    -- the sibling is red: it comes up, and the node stands under it, beside a black subtree
    module _ (sibling : ℕ) (subtrees : Subtrees side Red cut.far sibling) (far_red : is_black cut.far ≡ false) (one : Shape T) (rotations : Rotations node side tree one) where
      over_red : IsBlackSubtree (black_levels cut.near + 1) subtrees.inner × IsBlackSubtree (black_levels cut.near + 1) subtrees.outer
      over_red = grind (arith, IsSubtree-below_red, far_subtree)

      colour_is : cut.colour ≡ Black
      colour_is = black_colour cut.colour (λ red. let black = (cut.red_holds red).0 in cc)

      abbrev lower_frames : List (Frame T)
      lower_frames = record { side = side; colour = cut.colour; handle = sibling; item = subtrees.item; sibling = subtrees.outer } ∷ cut.around

      stands : (colour : Colour) → colour ≡ Black → MayStand colour subtrees.outer cut.around
      stands Red black = cc
      stands Black black = tt

      folded : IsShort one node side
      folded =
          record {
            around = lower_frames;
            colour = Red;
            near = cut.near;
            item = cut.item;
            far = subtrees.inner;
            is = (rotated tree node side cut) sibling Red subtrees one rotations;
            near_balanced = cut.near_balanced;
            far_balanced = over_red.0.balanced;
            one_less = over_red.0.deep;
            red_holds = λ _. (over_red.0.black, ap is_black_colour colour_is);
            fits =
                let same : black_levels cut.far ≡ black_levels subtrees.inner + 0 = omega (arith, over_red.0.deep, cut.one_less) in
                let P : ℕ → Type 0 = λ levels. Fits cut.around (levels + level_of cut.colour) in
                (over_red.1.balanced, omega (arith, over_red.0.deep, over_red.1.deep), stands cut.colour colour_is, subst P same cut.fits);
          }

      pub HasBlackSibling-folded : HasBlackSibling one node side
      unfolding folded
      HasBlackSibling-folded = record { cut = folded; black = over_red.0.black }

      not_risen : (two : Shape T) → IsRisen one node side folded two → ⊥
      unfolding folded
      not_risen two risen = let black = risen.was_black in cc

      IsEnded-folded : (two : Shape T) → IsEnded one node side folded two → IsEnded tree node side cut two
      unfolding folded
      IsEnded-folded two ended =
          let level = ap level_of colour_is in
          let lower : IsSubtree (black_levels cut.near + 1) ended.subtree = record { balanced = ended.balanced; deep = omega (arith, ended.levels, over_red.0.deep) } in
          let whole = IsBlackSubtree-black side sibling subtrees.item lower (IsSubtree-from_black over_red.1) in
          let P : Colour → Type 0 = λ colour. IsRedBlack (fork_on side colour ended.subtree sibling subtrees.item subtrees.outer) × (black_levels (fork_on side colour ended.subtree sibling subtrees.item subtrees.outer) ≡ black_levels cut.near + 1 + 1) in
          let (balanced, deep) = subst P (sym colour_is) (whole.balanced, whole.deep) in
          record {
            subtree = fork_on side cut.colour ended.subtree sibling subtrees.item subtrees.outer;
            is = ended.is;
            balanced = balanced;
            levels = omega (arith, deep, cut.one_less);
            black = black_over side cut.colour ended.subtree sibling subtrees.item subtrees.outer;
            entries_are =
                entries-same_near side cut.colour ended.subtree (fork_on side Red cut.near node cut.item subtrees.inner) sibling subtrees.item subtrees.outer ended.entries_are
                ∙ entries-raised side cut.colour Red cut.colour Red cut.near node cut.item subtrees.inner sibling subtrees.item subtrees.outer
                ∙ ap (λ (far : Shape T). entries (fork_on side cut.colour cut.near node cut.item far)) (sym subtrees.is);
            kept =
                KeepsSubtree-inside (record { side = side; colour = cut.colour; handle = sibling; item = subtrees.item; sibling = subtrees.outer } ∷ []) ended.subtree node side cut.near cut.item ended.kept;
          }

      pub IsEnded-from_folded : (two : Shape T) (result : Bool)
          → ((next : IsShort one node side) → is_black next.far ≡ true → MatchBool result (IsEnded one node side next two) (IsRisen one node side next two))
          → IsEnded tree node side cut two
      unfolding folded
      IsEnded-from_folded two true rebalanced = IsEnded-folded two (rebalanced folded over_red.0.black)
      IsEnded-from_folded two false rebalanced = absurd (not_risen two (rebalanced folded over_red.0.black))
