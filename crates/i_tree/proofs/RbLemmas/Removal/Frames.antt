-- A red-black subtree inside its frames: what is known of it and of them, and how ranks grow with it.
use Rattle.std.proofs.Common.{◌≡◌, ℕ, ◌+◌, ◌<◌, ◌≤◌, ◌⊎◌, inl, inr, Bool, true, List, [], ◌∷◌, refl, subst, arith}
use Rattle.i_tree.specs.declared.rb.links.Colour.{Colour}
use Rattle.i_tree.specs.declared.rb.links.Colour.TheVariants.{Red, Black}
use Rattle.i_tree.specs.declared.rb.links.Side.{Side}
use Rattle.i_tree.specs.declared.rb.links.Side.TheVariants.{Left, Right}
use Rattle.i_tree.specs.Rb.Shape.{Shape, leaf, fork, black_levels, rank}
use Rattle.i_tree.specs.Rb.Balance.{is_black, is_black_colour, is_black_around, level_of, IsRedBlack, MayStand, Fits}
use Rattle.i_tree.specs.Rb.Context.{Frame, fork_on, fill, plug}
use Rattle.i_tree.proofs.RbLemmas.Balance.Ranks.{RanksFall-from_red_black, is_black-fork_on, levels-fork_on}

module _ {T : Type 0} where
  -- the subtrees of a red-black node
  pub record HasSubtrees (colour : Colour) (near far : Shape T) : Type 0 where
    pub near_balanced : IsRedBlack near
    pub far_balanced : IsRedBlack far
    pub even : black_levels far ≡ black_levels near
    pub black_near : colour ≡ Red → is_black near ≡ true
    pub black_far : colour ≡ Red → is_black far ≡ true

  pub HasSubtrees-from : (side : Side) (colour : Colour) (near : Shape T) (handle : ℕ) (item : T) (far : Shape T)
      → IsRedBlack (fork_on side colour near handle item far) → HasSubtrees colour near far
  HasSubtrees-from side colour near handle item far balanced = grind arith

  -- what frames and their subtree are, where they make a red-black tree
  pub record IsSplit (around : List (Frame T)) (subtree : Shape T) : Type 0 where
    pub balanced : IsRedBlack subtree
    pub fits : Fits around (black_levels subtree)
    pub either : (is_black subtree ≡ true) ⊎ (is_black_around around ≡ true)

  stands : (colour : Colour) (sibling : Shape T) (around : List (Frame T)) (black : Bool) → (colour ≡ Red → is_black sibling ≡ true)
      → black ≡ is_black_colour colour → (black ≡ true) ⊎ (is_black_around around ≡ true) → MayStand colour sibling around
  stands colour sibling around black black_far is either = grind arith

  one_black : (colour : Colour) (subtree : Shape T) → (colour ≡ Red → is_black subtree ≡ true) → (is_black subtree ≡ true) ⊎ (is_black_colour colour ≡ true)
  one_black Red subtree black_near = inl (black_near refl)
  one_black Black subtree black_near = inr refl

  pub IsSplit-from : (around : List (Frame T)) (subtree : Shape T) → IsRedBlack (plug around subtree) → IsSplit around subtree
  IsSplit-from [] subtree balanced = record { balanced = balanced; fits = tt; either = inr refl }
  IsSplit-from (frame ∷ around) subtree balanced =
      let outer = IsSplit-from around (fill frame subtree) balanced in
      let subtrees = HasSubtrees-from frame.side frame.colour subtree frame.handle frame.item frame.sibling outer.balanced in
      let levels = levels-fork_on frame.side frame.colour subtree frame.handle frame.item frame.sibling subtrees.even in
      let P : ℕ → Type 0 = λ count. Fits around count in
      record {
        balanced = subtrees.near_balanced;
        fits = (
          subtrees.far_balanced,
          subtrees.even,
          stands frame.colour frame.sibling around (is_black (fill frame subtree)) subtrees.black_far (is_black-fork_on frame.side frame.colour subtree frame.handle frame.item frame.sibling) outer.either,
          subst P levels outer.fits,
        );
        either = one_black frame.colour subtree subtrees.black_near;
      }

  pub IsSplit-of : (tree : Shape T) (around : List (Frame T)) (subtree : Shape T) → tree ≡ plug around subtree → IsRedBlack tree → IsSplit around subtree
  IsSplit-of tree around subtree is balanced = IsSplit-from around subtree (subst IsRedBlack is balanced)

  -- the levels and the rank of one subtree are at most those of the other
  pub record IsLower (one other : Shape T) : Type 0 where
    pub levels : black_levels one ≤ black_levels other
    pub ranks : rank one ≤ rank other

  lower_fill : (side : Side) (colour : Colour) (one other : Shape T) (handle : ℕ) (item : T) (far : Shape T) → IsLower one other
      → IsLower (fork_on side colour one handle item far) (fork_on side colour other handle item far)
  lower_fill side colour one other handle item far lower = grind arith

  pub IsLower-plug : (around : List (Frame T)) (one other : Shape T) → IsLower one other → IsLower (plug around one) (plug around other)
  IsLower-plug [] one other lower = lower
  IsLower-plug (frame ∷ around) one other lower =
      IsLower-plug around (fill frame one) (fill frame other) (lower_fill frame.side frame.colour one other frame.handle frame.item frame.sibling lower)

  -- a node with an empty subtree, and its other subtree
  pub record IsGone (colour : Colour) (subtree node : Shape T) : Type 0 where
    pub subtree_balanced : IsRedBlack subtree
    pub none : black_levels subtree ≡ 0
    pub levels : black_levels node ≡ black_levels subtree + level_of colour
    pub lower : IsLower subtree node
    pub red : colour ≡ Red → is_black subtree ≡ true

  falls_on : (side : Side) (colour : Colour) (near : Shape T) (handle : ℕ) (item : T) (far : Shape T) → IsRedBlack (fork_on side colour near handle item far)
      → rank near < rank (fork_on side colour near handle item far)
  falls_on Left colour near handle item far balanced = (RanksFall-from_red_black (fork colour near handle item far) balanced).0
  falls_on Right colour near handle item far balanced = (RanksFall-from_red_black (fork colour far handle item near) balanced).1

  pub IsGone-from : (side : Side) (colour : Colour) (subtree : Shape T) (handle : ℕ) (item : T)
      → IsRedBlack (fork_on side colour subtree handle item leaf) → IsGone colour subtree (fork_on side colour subtree handle item leaf)
  IsGone-from side colour subtree handle item balanced = grind (arith, HasSubtrees-from, levels-fork_on, falls_on)
