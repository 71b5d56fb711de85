-- A step of the rebalancing after a removal where the sibling is black and its outer child red: one rotation ends it.
use Rattle.std.proofs.Common.{◌≡◌, ℕ, ◌+◌, false, [], ◌∷◌, refl, sym, ap, ◌∙◌, subst, arith}
use Rattle.i_tree.specs.declared.rb.links.Colour.TheVariants.{Red, Black}
use Rattle.i_tree.specs.declared.rb.links.Side.{Side}
use Rattle.i_tree.specs.declared.rb.links.Side.TheVariants.{Left}
use Rattle.i_tree.specs.Rb.Balance.{is_black, IsShort}
use Rattle.i_tree.specs.Rb.Context.{fork_on, plug, other_side}
use Rattle.i_tree.specs.Rb.Rebalancing.{IsSubtree, IsBlackSubtree}
use Rattle.i_tree.specs.Rb.ShortSides.{IsEnded}
use Rattle.i_tree.specs.Rb.Shape.{Shape, fork, top, entries, black_levels, IsHandle}
use Rattle.i_tree.proofs.RbLemmas.Shape.Contexts.{fork_on-other}
use Rattle.i_tree.proofs.RbLemmas.Balance.Frames.{IsSubtree-from_black, IsBlackSubtree-black, IsHandle-at, Paints, Rotations}
use Rattle.i_tree.proofs.RbLemmas.Removal.Step.{Subtrees, Subtrees-red, IsSubtree-below_red, IsSubtree-over, black_over, entries-raised, entries-same_outer}
use Rattle.i_tree.proofs.RbLemmas.Removal.ShortSide.{below, near_subtree, rotated}

module _ {T : Type 0} where
  module _ (tree : Shape T) (node : ℕ) (side : Side) (cut : IsShort tree node side) where
    module _ (sibling : ℕ) (subtrees : Subtrees side Black cut.far sibling) where
      -- the far subtree comes up, where its outer subtree is red: that is black then
      module _ (outer : ℕ) (outer_is : outer ≡ top subtrees.outer) (outer_red : is_black subtrees.outer ≡ false) where
        outer_subtrees : Subtrees Left Red subtrees.outer outer
        outer_subtrees = grind (arith, Subtrees, Subtrees-red)

        outer_black : Shape T
        outer_black = fork Black outer_subtrees.inner outer outer_subtrees.item outer_subtrees.outer

        outer_black_subtree : IsBlackSubtree (black_levels cut.near + 1) outer_black
        unfolding outer_black
        outer_black_subtree =
            let P : Shape T → Type 0 = λ subtree. IsSubtree (black_levels cut.near) subtree in
            let under = IsSubtree-below_red Left outer outer_subtrees.item (black_levels cut.near) (subst P outer_subtrees.is (below tree node side cut sibling subtrees).1) in
            IsBlackSubtree-black Left outer outer_subtrees.item (IsSubtree-from_black under.0) (IsSubtree-from_black under.1)

        lowered : Shape T
        lowered = fork_on side Black cut.near node cut.item subtrees.inner

        lowered_subtree : IsBlackSubtree (black_levels cut.near + 1) lowered
        unfolding lowered
        lowered_subtree = IsBlackSubtree-black side node cut.item (near_subtree tree node side cut) (below tree node side cut sibling subtrees).0

        module _ (one : Shape T) (rotations : Rotations node side tree one) where
          at_raised : one ≡ plug (record { side = other_side side; colour = cut.colour; handle = sibling; item = subtrees.item; sibling = lowered } ∷ cut.around) (fork Red outer_subtrees.inner outer outer_subtrees.item outer_subtrees.outer)
          unfolding lowered
          at_raised =
              (rotated tree node side cut) sibling Black subtrees one rotations
              ∙ ap (plug cut.around) (fork_on-other side cut.colour lowered sibling subtrees.item subtrees.outer)
              ∙ ap (λ (subtree : Shape T). plug cut.around (fork_on (other_side side) cut.colour subtree sibling subtrees.item lowered)) outer_subtrees.is

          pub IsHandle-raised_outer : IsHandle one outer
          IsHandle-raised_outer =
              IsHandle-at one (record { side = other_side side; colour = cut.colour; handle = sibling; item = subtrees.item; sibling = lowered } ∷ cut.around) Left Red outer_subtrees.inner outer outer_subtrees.item outer_subtrees.outer at_raised

          pub IsEnded-outer : (two : Shape T) → Paints Black outer one two → IsEnded tree node side cut two
          unfolding lowered outer_black
          IsEnded-outer two paints =
              let at_two : two ≡ plug cut.around (fork_on (other_side side) cut.colour outer_black sibling subtrees.item lowered) =
              paints outer_subtrees.inner outer_subtrees.item outer_subtrees.outer Red
              (record { side = other_side side; colour = cut.colour; handle = sibling; item = subtrees.item; sibling = lowered } ∷ cut.around) at_raised in
              let subtree = IsSubtree-over side cut.colour sibling subtrees.item lowered_subtree outer_black_subtree in
              record {
                subtree = fork_on side cut.colour lowered sibling subtrees.item outer_black;
                is = at_two ∙ ap (plug cut.around) (sym (fork_on-other side cut.colour lowered sibling subtrees.item outer_black));
                balanced = subtree.balanced;
                levels = omega (arith, subtree.deep, cut.one_less);
                black = black_over side cut.colour lowered sibling subtrees.item outer_black;
                entries_are =
                    entries-raised side cut.colour Black cut.colour Black cut.near node cut.item subtrees.inner sibling subtrees.item outer_black
                    ∙ entries-same_outer side cut.colour cut.near node cut.item subtrees.inner sibling subtrees.item outer_black subtrees.outer (sym (ap entries outer_subtrees.is))
                    ∙ ap (λ (far : Shape T). entries (fork_on side cut.colour cut.near node cut.item far)) (sym subtrees.is);
                kept = record { around = record { side = side; colour = cut.colour; handle = sibling; item = subtrees.item; sibling = outer_black } ∷ []; colour = Black; far = subtrees.inner; is = refl };
              }
