-- A step of the rebalancing after a removal, at a node with a short side: what is read of its sibling, and the step where that is black and its inner child red.
use Rattle.std.proofs.Common.{◌≡◌, ◌≢◌, ℕ, ◌+◌, Bool, true, false, List, [], ◌∷◌, refl, sym, ap, ◌∙◌, subst, arith}
use Rattle.i_tree.specs.declared.TheConstants.{EMPTY_REF}
use Rattle.i_tree.specs.declared.rb.links.Colour.{Colour}
use Rattle.i_tree.specs.declared.rb.links.Colour.TheVariants.{Red, Black}
use Rattle.i_tree.specs.declared.rb.links.Side.{Side}
use Rattle.i_tree.specs.Rb.Balance.{is_black, IsShort}
use Rattle.i_tree.specs.Rb.Context.{Frame, fork_on, plug, other_side}
use Rattle.i_tree.specs.Rb.Rotation.{CanRotation}
use Rattle.i_tree.specs.Rb.Rebalancing.{IsSubtree, IsBlackSubtree}
use Rattle.i_tree.specs.Rb.ShortSides.{IsEnded}
use Rattle.i_tree.specs.Rb.Shape.{Shape, top, entries, black_levels, IsHandle}
use Rattle.i_tree.proofs.RbLemmas.Shape.Contexts.{fork_on-other}
use Rattle.i_tree.proofs.RbLemmas.Balance.Frames.{IsSubtree-from_black, IsBlackSubtree-black, IsHandle-in, IsHandle-at, occurs_top, Paints, painted, Rotations}
use Rattle.i_tree.proofs.RbLemmas.Balance.Insertion.{IsChild, SaysBlack}
use Rattle.i_tree.proofs.RbLemmas.Removal.Step.{Subtrees, Subtrees-black, Subtrees-red, IsSubtree-below_black, IsSubtree-below_red, IsSubtree-over, black_over, entries-raised_inner}

module _ {T : Type 0} where
  module _ (tree : Shape T) (node : ℕ) (side : Side) (cut : IsShort tree node side) where
    pub IsHandle-short : IsHandle tree node
    IsHandle-short = IsHandle-at tree cut.around side cut.colour cut.near node cut.item cut.far cut.is

    far_away : (away : Side) → away ≡ other_side side → tree ≡ plug cut.around (fork_on away cut.colour cut.far node cut.item cut.near)
    far_away away away_is = grind (arith, fork_on-other)

    pub far_top : (away : Side) (sibling : ℕ) → away ≡ other_side side → IsChild tree node away sibling → sibling ≡ top cut.far
    far_top away sibling away_is sibling_is = sibling_is cut.around cut.colour cut.far cut.item cut.near (far_away away away_is)

    -- what the frames around the far subtree are
    unfoldable pub far_frames : List (Frame T)
    far_frames = record { side = other_side side; colour = cut.colour; handle = node; item = cut.item; sibling = cut.near } ∷ cut.around

    pub IsHandle-far : (sibling : ℕ) → sibling ≡ top cut.far → sibling ≢ EMPTY_REF → IsHandle tree sibling
    unfolding far_frames
    IsHandle-far sibling same some =
        let P : ℕ → Type 0 = λ handle. IsHandle tree handle in
        let top_some : top cut.far ≢ EMPTY_REF = λ empty. some (same ∙ empty) in
        subst P (sym same) (IsHandle-in tree far_frames cut.far (top cut.far) (far_away (other_side side) refl) (occurs_top cut.far top_some))

    pub says_far : (sibling : ℕ) (says : Bool) → sibling ≡ top cut.far → SaysBlack tree sibling says → says ≡ is_black cut.far
    unfolding far_frames
    says_far sibling says same says_is = says_is far_frames cut.far (far_away (other_side side) refl) (sym same)

    pub black_subtrees : (sibling : ℕ) → sibling ≡ top cut.far → is_black cut.far ≡ true → Subtrees side Black cut.far sibling
    black_subtrees sibling same black =
        let P : ℕ → Type 0 = λ handle. Subtrees side Black cut.far handle in
        subst P (sym same) (Subtrees-black side cut.far (black_levels cut.near) black cut.one_less)

    pub subtrees_beside : is_black cut.far ≡ true → (away : Side) (sibling : ℕ) → away ≡ other_side side → IsChild tree node away sibling → Subtrees side Black cut.far sibling
    subtrees_beside black away sibling away_is sibling_is = black_subtrees sibling (far_top away sibling away_is sibling_is) black

    pub red_subtrees : (sibling : ℕ) → sibling ≡ top cut.far → is_black cut.far ≡ false → Subtrees side Red cut.far sibling
    red_subtrees sibling same red = grind (arith, Subtrees, Subtrees-red)

    pub far_subtree : IsSubtree (black_levels cut.near + 1) cut.far
    far_subtree = record { balanced = cut.far_balanced; deep = cut.one_less }

    pub near_subtree : IsSubtree (black_levels cut.near) cut.near
    near_subtree = record { balanced = cut.near_balanced; deep = refl }

    pub at : (sibling : ℕ) (colour : Colour) (subtrees : Subtrees side colour cut.far sibling)
        → tree ≡ plug cut.around (fork_on side cut.colour cut.near node cut.item (fork_on side colour subtrees.inner sibling subtrees.item subtrees.outer))
    at sibling colour subtrees = cut.is ∙ ap (λ (far : Shape T). plug cut.around (fork_on side cut.colour cut.near node cut.item far)) subtrees.is

    pub CanRotation-short : (sibling : ℕ) (colour : Colour) → Subtrees side colour cut.far sibling → CanRotation tree node side
    CanRotation-short sibling colour subtrees =
        record {
          rotation = record {
            around = cut.around;
            colour = cut.colour;
            outer = cut.near;
            item = cut.item;
            raised_colour = colour;
            inner = subtrees.inner;
            raised = sibling;
            raised_item = subtrees.item;
            far = subtrees.outer;
          };
          is = at sibling colour subtrees;
        }

    pub rotated : (sibling : ℕ) (colour : Colour) (subtrees : Subtrees side colour cut.far sibling) (one : Shape T) → Rotations node side tree one
        → one ≡ plug cut.around (fork_on side cut.colour (fork_on side colour cut.near node cut.item subtrees.inner) sibling subtrees.item subtrees.outer)
    unfolding CanRotation-short
    rotated sibling colour subtrees one rotations = rotations (CanRotation-short sibling colour subtrees).rotation (at sibling colour subtrees)

    module _ (sibling : ℕ) (subtrees : Subtrees side Black cut.far sibling) where
      pub below : IsSubtree (black_levels cut.near) subtrees.inner × IsSubtree (black_levels cut.near) subtrees.outer
      below = grind (arith, IsSubtree-below_black, far_subtree)

      pub at_sibling : tree ≡ plug far_frames (fork_on side Black subtrees.inner sibling subtrees.item subtrees.outer)
      unfolding far_frames
      at_sibling = at sibling Black subtrees ∙ ap (plug cut.around) (fork_on-other side cut.colour cut.near node cut.item (fork_on side Black subtrees.inner sibling subtrees.item subtrees.outer))

      outer_frames : List (Frame T)
      outer_frames = record { side = other_side side; colour = Black; handle = sibling; item = subtrees.item; sibling = subtrees.inner } ∷ far_frames

      inner_frames : List (Frame T)
      inner_frames = record { side = side; colour = Black; handle = sibling; item = subtrees.item; sibling = subtrees.outer } ∷ far_frames

      outer_away : (away : Side) → away ≡ other_side side → tree ≡ plug far_frames (fork_on away Black subtrees.outer sibling subtrees.item subtrees.inner)
      outer_away away away_is = grind (arith, at_sibling, fork_on-other)

      at_outer : tree ≡ plug outer_frames subtrees.outer
      unfolding outer_frames
      at_outer = outer_away (other_side side) refl

      at_inner : tree ≡ plug inner_frames subtrees.inner
      unfolding inner_frames
      at_inner = at_sibling

      pub IsHandle-sibling : IsHandle tree sibling
      IsHandle-sibling = IsHandle-at tree far_frames side Black subtrees.inner sibling subtrees.item subtrees.outer at_sibling

      pub outer_top : (away : Side) (outer : ℕ) → away ≡ other_side side → IsChild tree sibling away outer → outer ≡ top subtrees.outer
      outer_top away outer away_is outer_is = outer_is far_frames Black subtrees.outer subtrees.item subtrees.inner (outer_away away away_is)

      pub inner_top : (inner : ℕ) → IsChild tree sibling side inner → inner ≡ top subtrees.inner
      inner_top inner inner_is = inner_is far_frames Black subtrees.inner subtrees.item subtrees.outer at_sibling

      pub IsHandle-outer : (outer : ℕ) → outer ≡ top subtrees.outer → outer ≢ EMPTY_REF → IsHandle tree outer
      IsHandle-outer outer same some = grind (arith, IsHandle-in, outer_frames, at_outer, occurs_top)

      pub IsHandle-inner : (inner : ℕ) → inner ≡ top subtrees.inner → inner ≢ EMPTY_REF → IsHandle tree inner
      IsHandle-inner inner same some = grind (arith, IsHandle-in, inner_frames, at_inner, occurs_top)

      pub says_outer : (outer : ℕ) (says : Bool) → outer ≡ top subtrees.outer → SaysBlack tree outer says → says ≡ is_black subtrees.outer
      says_outer outer says same says_is = says_is outer_frames subtrees.outer at_outer (sym same)

      pub says_inner : (inner : ℕ) (says : Bool) → inner ≡ top subtrees.inner → SaysBlack tree inner says → says ≡ is_black subtrees.inner
      says_inner inner says same says_is = says_is inner_frames subtrees.inner at_inner (sym same)

      -- what stands between the node and its sibling comes up, where it is red
      module _ (inner : ℕ) (inner_is : inner ≡ top subtrees.inner) (inner_red : is_black subtrees.inner ≡ false) where
        inner_subtrees : Subtrees side Red subtrees.inner inner
        inner_subtrees = grind (arith, Subtrees, Subtrees-red)

        inner_below : IsBlackSubtree (black_levels cut.near) inner_subtrees.inner × IsBlackSubtree (black_levels cut.near) inner_subtrees.outer
        inner_below = grind (arith, IsSubtree-below_red, inner_subtrees, below)

        at_between : (away : Side) → away ≡ other_side side
            → tree ≡ plug far_frames (fork_on away Black subtrees.outer sibling subtrees.item (fork_on away Red inner_subtrees.outer inner inner_subtrees.item inner_subtrees.inner))
        at_between away away_is = grind (arith, inner_subtrees, outer_away, fork_on-other)

        pub CanRotation-sibling : (away : Side) → away ≡ other_side side → CanRotation tree sibling away
        CanRotation-sibling away away_is =
            record {
              rotation = record {
                around = far_frames;
                colour = Black;
                outer = subtrees.outer;
                item = subtrees.item;
                raised_colour = Red;
                inner = inner_subtrees.outer;
                raised = inner;
                raised_item = inner_subtrees.item;
                far = inner_subtrees.inner;
              };
              is = at_between away away_is;
            }

        module _ (away : Side) (away_is : away ≡ other_side side) (one : Shape T) (rotations : Rotations sibling away tree one) where
          straightened : one ≡ plug cut.around (fork_on side cut.colour cut.near node cut.item (fork_on side Black inner_subtrees.inner inner inner_subtrees.item (fork_on side Red inner_subtrees.outer sibling subtrees.item subtrees.outer)))
          unfolding far_frames CanRotation-sibling
          straightened =
              let rotated_there : one ≡ plug far_frames (fork_on away Black (fork_on away Red subtrees.outer sibling subtrees.item inner_subtrees.outer) inner inner_subtrees.item inner_subtrees.inner) =
              rotations (CanRotation-sibling away away_is).rotation (at_between away away_is) in
              let P : Side → Type 0 = λ way. one ≡ plug far_frames (fork_on way Black (fork_on way Red subtrees.outer sibling subtrees.item inner_subtrees.outer) inner inner_subtrees.item inner_subtrees.inner) in
              subst P away_is rotated_there
              ∙ ap (λ (subtree : Shape T). plug far_frames (fork_on (other_side side) Black subtree inner inner_subtrees.item inner_subtrees.inner)) (sym (fork_on-other side Red inner_subtrees.outer sibling subtrees.item subtrees.outer))
              ∙ ap (plug far_frames) (sym (fork_on-other side Black inner_subtrees.inner inner inner_subtrees.item (fork_on side Red inner_subtrees.outer sibling subtrees.item subtrees.outer)))
              ∙ ap (plug cut.around) (sym (fork_on-other side cut.colour cut.near node cut.item (fork_on side Black inner_subtrees.inner inner inner_subtrees.item (fork_on side Red inner_subtrees.outer sibling subtrees.item subtrees.outer))))

          pub CanRotation-straightened : CanRotation one node side
          CanRotation-straightened =
              record {
                rotation = record {
                  around = cut.around;
                  colour = cut.colour;
                  outer = cut.near;
                  item = cut.item;
                  raised_colour = Black;
                  inner = inner_subtrees.inner;
                  raised = inner;
                  raised_item = inner_subtrees.item;
                  far = fork_on side Red inner_subtrees.outer sibling subtrees.item subtrees.outer;
                };
                is = straightened;
              }

          module _ (two : Shape T) (rotations_again : Rotations node side one two) where
            low : Shape T
            low = fork_on side Black cut.near node cut.item inner_subtrees.inner

            high : Colour → Shape T
            high colour = fork_on side colour inner_subtrees.outer sibling subtrees.item subtrees.outer

            high_frames : List (Frame T)
            high_frames = record { side = other_side side; colour = cut.colour; handle = inner; item = inner_subtrees.item; sibling = low } ∷ cut.around

            at_high : two ≡ plug high_frames (high Red)
            unfolding low high high_frames CanRotation-straightened
            at_high =
                rotations_again CanRotation-straightened.rotation straightened
                ∙ ap (plug cut.around) (fork_on-other side cut.colour low inner inner_subtrees.item (high Red))

            pub IsHandle-high : IsHandle two sibling
            unfolding high
            IsHandle-high = IsHandle-at two high_frames side Red inner_subtrees.outer sibling subtrees.item subtrees.outer at_high

            low_subtree : IsBlackSubtree (black_levels cut.near + 1) low
            unfolding low
            low_subtree = IsBlackSubtree-black side node cut.item near_subtree (IsSubtree-from_black inner_below.0)

            high_subtree : IsBlackSubtree (black_levels cut.near + 1) (high Black)
            unfolding high
            high_subtree = IsBlackSubtree-black side sibling subtrees.item (IsSubtree-from_black inner_below.1) below.1

            at_end : (three : Shape T) → Paints Black sibling two three → three ≡ plug cut.around (fork_on side cut.colour low inner inner_subtrees.item (high Black))
            unfolding high high_frames
            at_end three paints =
                painted side Black sibling two three paints high_frames Red inner_subtrees.outer subtrees.item subtrees.outer at_high
                ∙ ap (plug cut.around) (sym (fork_on-other side cut.colour low inner inner_subtrees.item (high Black)))

            pub IsEnded-inner : (three : Shape T) → Paints Black sibling two three → IsEnded tree node side cut three
            unfolding low high
            IsEnded-inner three paints =
                let subtree = IsSubtree-over side cut.colour inner inner_subtrees.item low_subtree high_subtree in
                record {
                  subtree = fork_on side cut.colour low inner inner_subtrees.item (high Black);
                  is = at_end three paints;
                  balanced = subtree.balanced;
                  levels = omega (arith, subtree.deep, cut.one_less);
                  black = black_over side cut.colour low inner inner_subtrees.item (high Black);
                  entries_are =
                      entries-raised_inner side cut.colour cut.near node cut.item inner_subtrees.inner inner inner_subtrees.item inner_subtrees.outer sibling subtrees.item subtrees.outer
                      ∙ ap (λ (subtree : Shape T). entries (fork_on side cut.colour cut.near node cut.item (fork_on side Black subtree sibling subtrees.item subtrees.outer))) (sym inner_subtrees.is)
                      ∙ ap (λ (far : Shape T). entries (fork_on side cut.colour cut.near node cut.item far)) (sym subtrees.is);
                  kept = record { around = record { side = side; colour = cut.colour; handle = inner; item = inner_subtrees.item; sibling = high Black } ∷ []; colour = Black; far = inner_subtrees.inner; is = refl };
                }
