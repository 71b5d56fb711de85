-- The path up of the rebalancing after a removal: what it keeps of the first tree.
use Rattle.std.proofs.Common.{◌≡◌, ◌≢◌, ℕ, ◌+◌, ◌*◌, ◌<◌, ◌≤◌, ◌⊎◌, inl, inr, true, List, [], ◌∷◌, ◌++◌, length, refl, sym, ap, ◌∙◌, subst, arith}
use Rattle.std.proofs.lemmas.List.{length-append}
use Rattle.i_tree.specs.declared.TheConstants.{EMPTY_REF}
use Rattle.i_tree.specs.declared.rb.links.Colour.{Colour}
use Rattle.i_tree.specs.declared.rb.links.Colour.TheVariants.{Red, Black}
use Rattle.i_tree.specs.declared.rb.links.Side.{Side}
use Rattle.i_tree.specs.declared.rb.links.Side.TheVariants.{Left, Right}
use Rattle.i_tree.specs.Rb.Balance.{is_black, is_black_around, level_of, IsRedBlack, IsShort}
use Rattle.i_tree.specs.Rb.Context.{Frame, fork_on, plug, hole_parent}
use Rattle.i_tree.specs.Rb.Rebalancing.{one_if_red, red_nodes, IsSubtree}
use Rattle.i_tree.specs.Rb.Removal.{RebalancesSubtree}
use Rattle.i_tree.specs.Rb.ShortSides.{IsEnded, IsRisen}
use Rattle.i_tree.specs.Rb.Shape.{Shape, leaf, fork, entries, occurs, black_levels, rank, IsHandle, AreHandles}
use Rattle.i_tree.proofs.RbLemmas.Balance.Ranks.{levels-fork_on}
use Rattle.i_tree.proofs.RbLemmas.Balance.Frames.{IsRedBlack-plug, IsHandle-at, top_apart, entries-replaced}
use Rattle.i_tree.proofs.RbLemmas.Shape.Contexts.{plug-append}
use Rattle.i_tree.proofs.RbLemmas.Balance.Insertion.{IsParent, IsSide}
use Rattle.i_tree.proofs.RbLemmas.Removal.Step.{KeepsSubtree-inside}

module _ {X : Type 0} where
  pub some_not_none : (inner : List X) (x : X) (outer : List X) → [] ≡ inner ++ x ∷ outer → ⊥
  some_not_none [] x outer same = cc
  some_not_none (_ ∷ inner) x outer same = cc

  -- where a list with one more item is cut: at that item, or before it
  pub cut_last : (passed : List X) (last : X) (inner : List X) (x : X) (outer : List X) → passed ++ last ∷ [] ≡ inner ++ x ∷ outer
      → ((passed ≡ inner) × (last ≡ x)) ⊎ ((rest : List X) × (passed ≡ inner ++ x ∷ rest))
  cut_last [] last [] x outer same = inl (refl, cc)
  cut_last [] last (y ∷ inner) x outer same =
      let rest : [] ≡ inner ++ x ∷ outer = cc in
      absurd (some_not_none inner x outer rest)
  cut_last (y ∷ passed) last [] x outer same =
      let head : y ≡ x = cc in
      inr (passed, ap (λ z. z ∷ passed) head)
  cut_last (y ∷ passed) last (z ∷ inner) x outer same =
      let head : y ≡ z = cc in
      let rest : passed ++ last ∷ [] ≡ inner ++ x ∷ outer = cc in
      by_rest head (cut_last passed last inner x outer rest)
    where
      by_rest : y ≡ z → ((passed ≡ inner) × (last ≡ x)) ⊎ ((rest : List X) × (passed ≡ inner ++ x ∷ rest))
          → ((y ∷ passed ≡ z ∷ inner) × (last ≡ x)) ⊎ ((rest : List X) × (y ∷ passed ≡ z ∷ (inner ++ x ∷ rest)))
      by_rest head (inl (here, last_is)) = inl (cc, last_is)
      by_rest head (inr (rest, here)) = inr (rest, cc)

module _ {T : Type 0} where
  -- a node's levels and rank, by its far subtree, where both have as many levels
  pub levels-far : (side : Side) (colour : Colour) (near : Shape T) (handle : ℕ) (item : T) (far : Shape T) → black_levels near ≡ black_levels far
      → black_levels (fork_on side colour near handle item far) ≡ black_levels far + level_of colour
  levels-far side colour near handle item far even =
      levels-fork_on side colour near handle item far (sym even) ∙ ap (λ levels. levels + level_of colour) even

  pub rank-fork_on : (side : Side) (colour : Colour) (near : Shape T) (handle : ℕ) (item : T) (far : Shape T) → black_levels near ≡ black_levels far
      → rank (fork_on side colour near handle item far) ≡ 2 * (black_levels far + level_of colour) + one_if_red colour
  rank-fork_on side colour near handle item far even = grind arith

  -- a node's levels and rank, by its subtree's levels
  pub levels-same_near : (side : Side) (colour : Colour) (one other : Shape T) (handle : ℕ) (item : T) (far : Shape T) → black_levels one ≡ black_levels other
      → black_levels (fork_on side colour one handle item far) ≡ black_levels (fork_on side colour other handle item far)
  levels-same_near Left Red one other handle item far same = same
  levels-same_near Left Black one other handle item far same = ap (λ n. n + 1) same
  levels-same_near Right colour one other handle item far same = by_colour colour
    where
      by_colour : (shade : Colour) → black_levels (fork_on Right shade one handle item far) ≡ black_levels (fork_on Right shade other handle item far)
      by_colour Red = refl
      by_colour Black = refl

  pub rank-same_near : (side : Side) (colour : Colour) (one other : Shape T) (handle : ℕ) (item : T) (far : Shape T) → black_levels one ≡ black_levels other
      → rank (fork_on side colour one handle item far) ≡ rank (fork_on side colour other handle item far)
  rank-same_near side colour one other handle item far same = grind arith

  -- no more nodes are red than there are
  pub red_nodes-few : (tree : Shape T) → red_nodes tree ≤ length (entries tree)
  red_nodes-few leaf = omega arith
  red_nodes-few (fork Red before handle item after) =
      omega (arith, red_nodes-few before, red_nodes-few after, length-append (entries before) ((handle, item) ∷ entries after))
  red_nodes-few (fork Black before handle item after) =
      omega (arith, red_nodes-few before, red_nodes-few after, length-append (entries before) ((handle, item) ∷ entries after))

  pub RebalancesSubtree-inside : (around : List (Frame T)) (subtree : Shape T) (handle : ℕ) (side : Side) (item : T) (list : List (ℕ × T)) (most : ℕ)
      → RebalancesSubtree subtree handle side item list most → RebalancesSubtree (plug around subtree) handle side item list most
  RebalancesSubtree-inside around subtree handle side item list most rebalances =
      record {
        around = rebalances.around ++ around;
        colour = rebalances.colour;
        subtree = rebalances.subtree;
        far = rebalances.far;
        is = ap (plug around) rebalances.is ∙ sym (plug-append rebalances.around around (fork_on side rebalances.colour rebalances.subtree handle item rebalances.far));
        entries_are = rebalances.entries_are;
        ranks = rebalances.ranks;
      }

  module _ (tree new : Shape T) (node : ℕ) (side : Side) (cut : IsShort tree node side) where
    pub entries-risen : IsRisen tree node side cut new → entries new ≡ entries tree
    entries-risen risen = grind (arith, entries-replaced)

    pub balanced-ended : IsEnded tree node side cut new → IsRedBlack new
    balanced-ended ended =
        let subtree : IsSubtree (black_levels cut.far + level_of cut.colour) ended.subtree = record { balanced = ended.balanced; deep = ended.levels } in
        subst IsRedBlack (sym ended.is)
        (IsRedBlack-plug cut.around (black_levels cut.far + level_of cut.colour) ended.subtree cut.fits subtree (either cut.colour ended.black cut.red_holds))
      where
        either : (colour : Colour) → (colour ≡ Black → is_black ended.subtree ≡ true) → (colour ≡ Red → (is_black cut.far ≡ true) × (is_black_around cut.around ≡ true))
            → (is_black ended.subtree ≡ true) ⊎ (is_black_around cut.around ≡ true)
        either Red black holds = inr (holds refl).1
        either Black black holds = inl (black refl)

    module _ (risen : IsRisen tree node side cut new) where
      pub IsHandle-risen : IsHandle new node
      IsHandle-risen =
          let kept = KeepsSubtree-inside cut.around risen.subtree node side cut.near cut.item risen.kept in
          IsHandle-at new kept.around side kept.colour cut.near node cut.item kept.far (risen.is ∙ kept.is)

      node_inside : 0 < occurs node risen.subtree
      node_inside = IsHandle-at risen.subtree risen.kept.around side risen.kept.colour cut.near node cut.item risen.kept.far risen.kept.is

      pub at_frame : (frame : Frame T) (rest : List (Frame T)) → cut.around ≡ frame ∷ rest
          → new ≡ plug rest (fork_on frame.side frame.colour risen.subtree frame.handle frame.item frame.sibling)
      at_frame frame rest around_is = risen.is ∙ ap (λ (around : List (Frame T)). plug around risen.subtree) around_is

      pub balanced-root : cut.around ≡ [] → IsRedBlack new
      balanced-root root = subst IsRedBlack (sym (risen.is ∙ ap (λ (around : List (Frame T)). plug around risen.subtree) root)) risen.balanced

      module _ (above : ℕ) (above_is : IsParent new node above) where
        hole_is : above ≡ hole_parent cut.around
        hole_is = above_is cut.around risen.subtree risen.is risen.at_top

        pub at_root : AreHandles new → above ≡ EMPTY_REF → cut.around ≡ []
        at_root handles empty = by_around cut.around refl hole_is
          where
            by_around : (around : List (Frame T)) → cut.around ≡ around → above ≡ hole_parent around → cut.around ≡ []
            by_around [] around_is same = around_is
            by_around (frame ∷ rest) around_is same =
                let live = IsHandle-at new rest frame.side frame.colour risen.subtree frame.handle frame.item frame.sibling (at_frame frame rest around_is) in
                absurd (omega (arith, ap (λ handle. occurs handle new) (sym same ∙ empty), handles.none_empty))

        pub frame_above : above ≢ EMPTY_REF → (frame : Frame T) × (rest : List (Frame T)) × (cut.around ≡ frame ∷ rest) × (above ≡ frame.handle)
        frame_above some = by_around cut.around refl hole_is
          where
            by_around : (around : List (Frame T)) → cut.around ≡ around → above ≡ hole_parent around
                → (frame : Frame T) × (rest : List (Frame T)) × (cut.around ≡ frame ∷ rest) × (above ≡ frame.handle)
            by_around [] around_is same = absurd (some same)
            by_around (frame ∷ rest) around_is same = (frame, rest, around_is, same)

        pub IsHandle-above : above ≢ EMPTY_REF → IsHandle new above
        IsHandle-above some =
            let (frame, rest, around_is, same) = frame_above some in
            let P : ℕ → Type 0 = λ handle. IsHandle new handle in
            subst P (sym same) (IsHandle-at new rest frame.side frame.colour risen.subtree frame.handle frame.item frame.sibling (at_frame frame rest around_is))

        pub side_found : AreHandles new → (found : Side) → IsSide new above node found → (frame : Frame T) (rest : List (Frame T)) → cut.around ≡ frame ∷ rest → above ≡ frame.handle → found ≡ frame.side
        side_found handles found found_is frame rest around_is same =
            let is = at_frame frame rest around_is in
            let P : ℕ → Type 0 = λ handle. new ≡ plug rest (fork_on frame.side frame.colour risen.subtree handle frame.item frame.sibling) in
            found_is rest frame.side frame.colour risen.subtree frame.item frame.sibling (subst P (sym same) is) risen.at_top
            (top_apart new handles rest frame.side frame.colour risen.subtree frame.handle frame.item frame.sibling is node node_inside)
