-- How a tree changes where a node with an empty subtree is taken out, with the rebalancing or without.
use Rattle.std.proofs.Common.{◌≡◌, ◌≢◌, ℕ, ◌+◌, ◌≤◌, ◌⊎◌, inl, Bool, true, false, List, [], ◌∷◌, ◌++◌, refl, sym, ap, ◌∙◌, subst, arith}
use Rattle.i_tree.specs.declared.TheConstants.{EMPTY_REF}
use Rattle.i_tree.specs.declared.rb.links.Colour.{Colour}
use Rattle.i_tree.specs.declared.rb.links.Colour.TheVariants.{Red, Black}
use Rattle.i_tree.specs.declared.rb.links.Side.{Side}
use Rattle.i_tree.specs.Rb.Shape.{Shape, leaf, top, entries, black_levels, rank, IsHandle, AreHandles}
use Rattle.i_tree.specs.Rb.Balance.{is_black, is_black_colour, level_of, IsRedBlack, Fits, IsShort}
use Rattle.i_tree.specs.Rb.Context.{Frame, fork_on, plug, hole_parent, Replaces, HasOneSubtree}
use Rattle.i_tree.specs.Rb.Removal.{IsRebalanced, KeepsSubtree, RebalancesSubtree}
use Rattle.i_tree.specs.Rb.Detaching.{TakesOut}
use Rattle.i_tree.proofs.RbLemmas.Shape.Contexts.{one_if_same-same, occurs-plug, occurs-fork_on, top-fork_on, plug-append}
use Rattle.i_tree.proofs.RbLemmas.Balance.Ranks.{is_black-fork_on, red_stands}
use Rattle.i_tree.proofs.RbLemmas.Balance.Frames.{IsRedBlack-plug, top_apart, occurs-own, IsHandle-at}
use Rattle.i_tree.proofs.RbLemmas.Removal.Frames.{IsSplit-of, IsLower-plug, IsGone, IsGone-from}

red_colour : (colour : Colour) → is_black_colour colour ≡ false → colour ≡ Red
red_colour Red is = refl
red_colour Black is = cc

black_colour : (colour : Colour) → is_black_colour colour ≡ true → colour ≡ Black
black_colour Red is = cc
black_colour Black is = refl

module _ {T : Type 0} where
  -- the tree in which the node's subtree stands in its place
  abbrev pub Detaches : Shape T → ℕ → Shape T → Type 0
  Detaches old gone new = (side : Side) (colour : Colour) (subtree : Shape T) (item : T) → Replaces old new (fork_on side colour subtree gone item leaf) subtree

  -- the node with its subtree, in a red-black tree
  gone_in : (old : Shape T) (gone : ℕ) → IsRedBlack old → (around : List (Frame T)) (side : Side) (colour : Colour) (subtree : Shape T) (item : T)
      → old ≡ plug around (fork_on side colour subtree gone item leaf) → IsGone colour subtree (fork_on side colour subtree gone item leaf)
  gone_in old gone balanced around side colour subtree item is =
      IsGone-from side colour subtree gone item (IsSplit-of old around (fork_on side colour subtree gone item leaf) is balanced).balanced

  pub TakesOut-plain : (old : Shape T) (gone : ℕ) (new : Shape T) → IsRedBlack old → HasOneSubtree old gone → Detaches old gone new → TakesOut old gone new
  TakesOut-plain old gone new balanced one detaches =
      let node : Shape T = fork_on one.side one.colour one.subtree gone one.item leaf in
      let whole = gone_in old gone balanced one.around one.side one.colour one.subtree one.item one.is in
      let lower = IsLower-plug one.around one.subtree node whole.lower in
      let ranks = lower.ranks in
      let now : rank new ≡ rank (plug one.around one.subtree) = ap (λ (shape : Shape T). rank shape) (detaches one.side one.colour one.subtree one.item one.around one.is) in
      record {
        list = λ around side colour subtree item is. ap (λ (shape : Shape T). entries shape) (detaches side colour subtree item around is);
        sides = λ inner frame outer side colour subtree item is. record {
          around = outer;
          colour = frame.colour;
          subtree = plug inner subtree;
          far = frame.sibling;
          is = detaches side colour subtree item (inner ++ frame ∷ outer) is ∙ plug-append inner (frame ∷ outer) subtree;
          entries_are = refl;
          ranks = (IsLower-plug inner subtree (fork_on side colour subtree gone item leaf) (gone_in old gone balanced (inner ++ frame ∷ outer) side colour subtree item is).lower).ranks;
        };
        rank = omega (arith, ap (λ (shape : Shape T). rank shape) one.is);
      }

  -- a node has no `EMPTY_REF` above it but the root
  pub no_frame : (old : Shape T) (frame : Frame T) (rest : List (Frame T)) (subtree : Shape T) → AreHandles old → old ≡ plug (frame ∷ rest) subtree → frame.handle ≢ EMPTY_REF
  no_frame old frame rest subtree handles is same = grind (arith, occurs-fork_on, one_if_same-same, occurs-plug)

  balanced_root : (old new : Shape T) (gone : ℕ) → AreHandles old → IsRedBlack old → (around : List (Frame T)) (side : Side) (colour : Colour) (subtree : Shape T) (item : T)
      → old ≡ plug around (fork_on side colour subtree gone item leaf) → new ≡ plug around subtree → EMPTY_REF ≡ hole_parent around → IsRedBlack new
  balanced_root old new gone handles balanced around side colour subtree item is now at = grind (arith, gone_in, no_frame)

  balanced_red : (old new : Shape T) (gone : ℕ) → IsRedBlack old → (around : List (Frame T)) (side : Side) (colour : Colour) (subtree : Shape T) (item : T)
      → old ≡ plug around (fork_on side colour subtree gone item leaf) → new ≡ plug around subtree → colour ≡ Red → IsRedBlack new
  balanced_red old new gone balanced around side colour subtree item is now red =
      let node : Shape T = fork_on side colour subtree gone item leaf in
      let split = IsSplit-of old around node is balanced in
      let whole = gone_in old gone balanced around side colour subtree item is in
      let levels : black_levels node ≡ black_levels subtree = let e = whole.levels in omega (arith, ap level_of red) in
      let P : ℕ → Type 0 = λ count. Fits around count in
      subst IsRedBlack (sym now)
      (IsRedBlack-plug around (black_levels subtree) subtree (subst P levels split.fits) (record { balanced = whole.subtree_balanced; deep = refl }) (inl (whole.red red)))

  -- no rebalancing is due where the node was the root, or red
  pub IsRedBlack-unbalanced : (old new : Shape T) (gone parent : ℕ) (was_black : Bool) → AreHandles old → IsRedBlack old → HasOneSubtree old gone → Detaches old gone new
      → ((around : List (Frame T)) (subtree : Shape T) → old ≡ plug around subtree → top subtree ≡ gone → parent ≡ hole_parent around)
      → ((around : List (Frame T)) (subtree : Shape T) → old ≡ plug around subtree → top subtree ≡ gone → was_black ≡ is_black subtree)
      → (parent ≡ EMPTY_REF) ⊎ ((parent ≢ EMPTY_REF) × (was_black ≡ false)) → IsRedBlack new
  IsRedBlack-unbalanced old new gone parent was_black handles balanced one detaches parent_is black_is either = grind (arith, balanced_root, top-fork_on, balanced_red, red_colour, is_black-fork_on)

  -- a black node below this parent was taken out, on this side
  pub record LeavesShort (old : Shape T) (gone parent : ℕ) (short : Side) (mid : Shape T) : Type 0 where
    pub handles : AreHandles old
    pub balanced : IsRedBlack old
    pub detaches : Detaches old gone mid
    pub some : parent ≢ EMPTY_REF
    pub parent_is : (around : List (Frame T)) (subtree : Shape T) → old ≡ plug around subtree → top subtree ≡ gone → parent ≡ hole_parent around
    pub black_is : (around : List (Frame T)) (subtree : Shape T) → old ≡ plug around subtree → top subtree ≡ gone → true ≡ is_black subtree
    pub side_is : (around : List (Frame T)) (side : Side) (colour : Colour) (near : Shape T) (item : T) (far : Shape T)
        → old ≡ plug around (fork_on side colour near parent item far) → top near ≡ gone → top far ≢ gone → short ≡ side

  -- the frame that is the parent, around the black node
  record IsPlace (parent : ℕ) (short : Side) (frame : Frame T) (colour : Colour) : Type 0 where
    handle : frame.handle ≡ parent
    side : frame.side ≡ short
    black : colour ≡ Black

  place_of : (old mid : Shape T) (gone parent : ℕ) (short : Side) → LeavesShort old gone parent short mid
      → (frame : Frame T) (rest : List (Frame T)) (side : Side) (colour : Colour) (subtree : Shape T) (item : T)
      → old ≡ plug (frame ∷ rest) (fork_on side colour subtree gone item leaf) → IsPlace parent short frame colour
  place_of old mid gone parent short leaves frame rest side colour subtree item is =
      let node : Shape T = fork_on side colour subtree gone item leaf in
      let at_top = top-fork_on side colour subtree gone item leaf in
      let handle : frame.handle ≡ parent = sym (leaves.parent_is (frame ∷ rest) node is at_top) in
      let whole : old ≡ plug rest (fork_on frame.side frame.colour node parent frame.item frame.sibling)
      = is ∙ ap (λ (own : ℕ). plug rest (fork_on frame.side frame.colour node own frame.item frame.sibling)) handle in
      let apart = top_apart old leaves.handles rest frame.side frame.colour node parent frame.item frame.sibling whole gone (occurs-own side colour subtree gone item leaf) in
      record {
        handle = handle;
        side = sym (leaves.side_is rest frame.side frame.colour node frame.item frame.sibling whole at_top apart);
        black = black_colour colour (sym (is_black-fork_on side colour subtree gone item leaf) ∙ sym (leaves.black_is (frame ∷ rest) node is at_top));
      }

  -- where the node was, the parent's side is a level short
  abbrev short_cut : (old mid : Shape T) (gone parent : ℕ) (short : Side) → LeavesShort old gone parent short mid
      → (frame : Frame T) (rest : List (Frame T)) (side : Side) (colour : Colour) (subtree : Shape T) (item : T)
      → old ≡ plug (frame ∷ rest) (fork_on side colour subtree gone item leaf) → IsShort mid parent short
  short_cut old mid gone parent short leaves frame rest side colour subtree item is =
      let node : Shape T = fork_on side colour subtree gone item leaf in
      let place = place_of old mid gone parent short leaves frame rest side colour subtree item is in
      let split = IsSplit-of old (frame ∷ rest) node is leaves.balanced in
      let whole = gone_in old gone leaves.balanced (frame ∷ rest) side colour subtree item is in
      let deep : black_levels frame.sibling ≡ black_levels node = split.fits.1 in
      let P : ℕ → Type 0 = λ count. Fits rest (count + level_of frame.colour) in
      let Q : ℕ → Type 0 = λ own. mid ≡ plug rest (fork_on short frame.colour subtree own frame.item frame.sibling) in
      let R : Side → Type 0 = λ toward. mid ≡ plug rest (fork_on toward frame.colour subtree frame.handle frame.item frame.sibling) in
      record {
        around = rest;
        colour = frame.colour;
        near = subtree;
        item = frame.item;
        far = frame.sibling;
        is = subst Q place.handle (subst R place.side (leaves.detaches side colour subtree item (frame ∷ rest) is));
        near_balanced = whole.subtree_balanced;
        far_balanced = split.fits.0;
        one_less = omega (arith, whole.levels, ap level_of place.black);
        red_holds = red_stands frame.colour frame.sibling rest split.fits.2;
        fits = subst P (sym deep) split.fits.3;
      }

  short_at : (old mid : Shape T) (gone parent : ℕ) (short : Side) → LeavesShort old gone parent short mid
      → (around : List (Frame T)) (side : Side) (colour : Colour) (subtree : Shape T) (item : T)
      → old ≡ plug around (fork_on side colour subtree gone item leaf) → IsShort mid parent short
  short_at old mid gone parent short leaves [] side colour subtree item is =
      absurd (leaves.some (leaves.parent_is [] (fork_on side colour subtree gone item leaf) is (top-fork_on side colour subtree gone item leaf)))
  short_at old mid gone parent short leaves (frame ∷ rest) side colour subtree item is = short_cut old mid gone parent short leaves frame rest side colour subtree item is

  pub IsShort-at : (old mid : Shape T) (gone parent : ℕ) (short : Side) → HasOneSubtree old gone → LeavesShort old gone parent short mid → IsShort mid parent short
  IsShort-at old mid gone parent short one leaves = short_at old mid gone parent short leaves one.around one.side one.colour one.subtree one.item one.is

  full_levels : (old mid : Shape T) (gone parent : ℕ) (short : Side) → LeavesShort old gone parent short mid
      → (frame : Frame T) (rest : List (Frame T)) (side : Side) (colour : Colour) (subtree : Shape T) (item : T)
      → old ≡ plug (frame ∷ rest) (fork_on side colour subtree gone item leaf) → black_levels (fork_on side colour subtree gone item leaf) ≡ black_levels subtree + 1
  full_levels old mid gone parent short leaves frame rest side colour subtree item is =
      let place = place_of old mid gone parent short leaves frame rest side colour subtree item is in
      let whole = gone_in old gone leaves.balanced (frame ∷ rest) side colour subtree item is in
      omega (arith, whole.levels, ap level_of place.black)

  rebalanced_side : (old mid new : Shape T) (gone parent : ℕ) (short : Side) → LeavesShort old gone parent short mid → IsRebalanced mid parent short new
      → (inner : List (Frame T)) (frame : Frame T) (outer : List (Frame T)) (side : Side) (colour : Colour) (subtree : Shape T) (item : T)
      → old ≡ plug (inner ++ frame ∷ outer) (fork_on side colour subtree gone item leaf)
      → RebalancesSubtree new frame.handle frame.side frame.item (entries (plug inner subtree)) (rank (plug inner (fork_on side colour subtree gone item leaf)))
  rebalanced_side old mid new gone parent short leaves rebalanced [] frame outer side colour subtree item is =
      let place = place_of old mid gone parent short leaves frame outer side colour subtree item is in
      let kept : KeepsSubtree new parent short subtree frame.item = rebalanced.own (short_cut old mid gone parent short leaves frame outer side colour subtree item is) in
      let whole = gone_in old gone leaves.balanced (frame ∷ outer) side colour subtree item is in
      let Q : ℕ → Type 0 = λ own. new ≡ plug kept.around (fork_on frame.side kept.colour subtree own frame.item kept.far) in
      let R : Side → Type 0 = λ toward. new ≡ plug kept.around (fork_on toward kept.colour subtree parent frame.item kept.far) in
      record {
        around = kept.around;
        colour = kept.colour;
        subtree = subtree;
        far = kept.far;
        is = subst Q (sym place.handle) (subst R (sym place.side) kept.is);
        entries_are = refl;
        ranks = whole.lower.ranks;
      }
  rebalanced_side old mid new gone parent short leaves rebalanced (first ∷ inner) frame outer side colour subtree item is =
      let node : Shape T = fork_on side colour subtree gone item leaf in
      let place = place_of old mid gone parent short leaves first (inner ++ frame ∷ outer) side colour subtree item is in
      let rebalances : RebalancesSubtree new frame.handle frame.side frame.item (entries (plug inner (fork_on short first.colour subtree parent first.item first.sibling)))
      (rank (plug inner (fork_on short first.colour node parent first.item first.sibling)))
      = rebalanced.outer (short_cut old mid gone parent short leaves first (inner ++ frame ∷ outer) side colour subtree item is) inner frame outer node refl
      (full_levels old mid gone parent short leaves first (inner ++ frame ∷ outer) side colour subtree item is) in
      let Q : ℕ → Type 0 = λ own. RebalancesSubtree new frame.handle frame.side frame.item (entries (plug inner (fork_on first.side first.colour subtree own first.item first.sibling)))
      (rank (plug inner (fork_on first.side first.colour node own first.item first.sibling))) in
      let R : Side → Type 0 = λ toward. RebalancesSubtree new frame.handle frame.side frame.item (entries (plug inner (fork_on toward first.colour subtree parent first.item first.sibling)))
      (rank (plug inner (fork_on toward first.colour node parent first.item first.sibling))) in
      subst Q (sym place.handle) (subst R (sym place.side) rebalances)

  rebalanced_rank : (old mid new : Shape T) (gone parent : ℕ) (short : Side) → LeavesShort old gone parent short mid → IsRebalanced mid parent short new
      → (around : List (Frame T)) (side : Side) (colour : Colour) (subtree : Shape T) (item : T)
      → old ≡ plug around (fork_on side colour subtree gone item leaf) → rank new ≤ rank old
  rebalanced_rank old mid new gone parent short leaves rebalanced [] side colour subtree item is =
      absurd (leaves.some (leaves.parent_is [] (fork_on side colour subtree gone item leaf) is (top-fork_on side colour subtree gone item leaf)))
  rebalanced_rank old mid new gone parent short leaves rebalanced (frame ∷ rest) side colour subtree item is =
      let node : Shape T = fork_on side colour subtree gone item leaf in
      let place = place_of old mid gone parent short leaves frame rest side colour subtree item is in
      let most : rank new ≤ rank (plug rest (fork_on short frame.colour node parent frame.item frame.sibling))
      = rebalanced.whole (short_cut old mid gone parent short leaves frame rest side colour subtree item is) node
      (full_levels old mid gone parent short leaves frame rest side colour subtree item is) in
      let Q : ℕ → Type 0 = λ own. rank new ≤ rank (plug rest (fork_on frame.side frame.colour node own frame.item frame.sibling)) in
      let R : Side → Type 0 = λ toward. rank new ≤ rank (plug rest (fork_on toward frame.colour node parent frame.item frame.sibling)) in
      let P : Shape T → Type 0 = λ whole. rank new ≤ rank whole in
      subst P (sym is) (subst Q (sym place.handle) (subst R (sym place.side) most))

  pub TakesOut-rebalanced : (old mid new : Shape T) (gone parent : ℕ) (short : Side) → HasOneSubtree old gone → LeavesShort old gone parent short mid → IsRebalanced mid parent short new
      → TakesOut old gone new
  TakesOut-rebalanced old mid new gone parent short one leaves rebalanced =
      record {
        list = λ around side colour subtree item is. rebalanced.list ∙ ap (λ (shape : Shape T). entries shape) (leaves.detaches side colour subtree item around is);
        sides = rebalanced_side old mid new gone parent short leaves rebalanced;
        rank = rebalanced_rank old mid new gone parent short leaves rebalanced one.around one.side one.colour one.subtree one.item one.is;
      }

  -- the node and the parent are live
  pub IsHandle-gone : (old : Shape T) (gone : ℕ) → HasOneSubtree old gone → IsHandle old gone
  IsHandle-gone old gone one = IsHandle-at old one.around one.side one.colour one.subtree gone one.item leaf one.is

  parent_live : (old : Shape T) (parent : ℕ) (around : List (Frame T)) (subtree : Shape T) → old ≡ plug around subtree → parent ≡ hole_parent around → parent ≢ EMPTY_REF → IsHandle old parent
  parent_live old parent around subtree is at some = grind (arith, IsHandle-at)

  pub IsHandle-parent : (old : Shape T) (gone parent : ℕ) → HasOneSubtree old gone
      → ((around : List (Frame T)) (subtree : Shape T) → old ≡ plug around subtree → top subtree ≡ gone → parent ≡ hole_parent around) → parent ≢ EMPTY_REF → IsHandle old parent
  IsHandle-parent old gone parent one parent_is some = grind (arith, parent_live, top-fork_on)
