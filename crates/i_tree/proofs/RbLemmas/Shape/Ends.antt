-- The entries at the ends of a subtree, seen from the side.
use Rattle.std.proofs.Common.{◌≡◌, ◌≢◌, ℕ, ◌<◌, List, [], ◌∷◌, ◌++◌, length, refl, sym, ap, ◌∙◌, length-append, arith}
use Rattle.i_tree.specs.declared.TheConstants.{EMPTY_REF}
use Rattle.i_tree.specs.declared.rb.links.Colour.{Colour}
use Rattle.i_tree.specs.declared.rb.links.Side.{Side}
use Rattle.i_tree.specs.declared.rb.links.Side.TheVariants.{Left, Right}
use Rattle.i_tree.specs.Rb.Shape.{Shape, leaf, top, entries, subtree_at, left_subtree, right_subtree, first_handle, last_handle, IsHandle, AreHandles}
use Rattle.i_tree.specs.Rb.Context.{fork_on, subtree_on, other_side}
use Rattle.i_tree.specs.Rb.Neighbours.{end_handle, next_handle}
use Rattle.i_tree.proofs.RbLemmas.Shape.Contexts.{cut_at, before_hole, after_hole}
use Rattle.i_tree.proofs.RbLemmas.Shape.Subtrees.{subtree_at-of_cut, list_cut, first_handle-of_append, last_handle-append, last_handle-of_append, some_entries}

module _ {T : Type 0} where
  pub length-fork_on : (side : Side) (colour : Colour) (near : Shape T) (handle : ℕ) (item : T) (far : Shape T)
      → length (entries near) < length (entries (fork_on side colour near handle item far))
  length-fork_on Left colour near handle item far = let sum = length-append (entries near) ((handle, item) ∷ entries far) in omega arith
  length-fork_on Right colour near handle item far = let sum = length-append (entries far) ((handle, item) ∷ entries near) in omega arith

  -- a node of the tree in its frames, seen from the side
  record NodeAt (side : Side) (tree : Shape T) (handle : ℕ) : Type 0 where
    colour : Colour
    near : Shape T
    item : T
    far : Shape T
    is : subtree_at handle tree ≡ fork_on side colour near handle item far
    near_is : subtree_on side handle tree ≡ near

  node_at : (side : Side) (tree : Shape T) (handle : ℕ) → AreHandles tree → IsHandle tree handle → NodeAt side tree handle
  node_at Left tree handle handles live =
      let cut = cut_at tree handle live in
      let is = subtree_at-of_cut tree handle handles cut in
      record { colour = cut.colour; near = cut.before; item = cut.item; far = cut.after; is = is; near_is = ap left_subtree is }
  node_at Right tree handle handles live =
      let cut = cut_at tree handle live in
      let is = subtree_at-of_cut tree handle handles cut in
      record { colour = cut.colour; near = cut.after; item = cut.item; far = cut.before; is = is; near_is = ap right_subtree is }

  -- a node ends on the side as its subtree there does
  end_near : (side : Side) (colour : Colour) (near : Shape T) (handle : ℕ) (item : T) (far : Shape T) → 0 < length (entries near)
      → end_handle side (entries near) ≡ end_handle side (entries (fork_on side colour near handle item far))
  end_near side colour near handle item far some = grind (arith, first_handle-of_append, last_handle-append, last_handle-of_append)

  -- or with its own entry
  end_own : (side : Side) (colour : Colour) (handle : ℕ) (item : T) (far : Shape T) → end_handle side (entries (fork_on side colour leaf handle item far)) ≡ handle
  end_own Left colour handle item far = refl
  end_own Right colour handle item far = last_handle-append (entries far) (handle, item) []

  module _ (side : Side) (tree : Shape T) (handle : ℕ) (handles : AreHandles tree) (live : IsHandle tree handle) where
    pub end_handle-further : top (subtree_on side handle tree) ≢ EMPTY_REF
        → end_handle side (entries (subtree_on side handle tree)) ≡ end_handle side (entries (subtree_at handle tree))
    end_handle-further apart =
        let node = node_at side tree handle handles live in
        let some = some_entries node.near (λ empty. apart (ap top node.near_is ∙ empty)) in
        ap (λ (part : Shape T). end_handle side (entries part)) node.near_is
        ∙ end_near side node.colour node.near handle node.item node.far some
        ∙ ap (λ (part : Shape T). end_handle side (entries part)) (sym node.is)

    pub end_handle-here : subtree_on side handle tree ≡ leaf → end_handle side (entries (subtree_at handle tree)) ≡ handle
    end_handle-here none =
        let node = node_at side tree handle handles live in
        ap (λ (part : Shape T). end_handle side (entries part)) node.is
        ∙ ap (λ (part : Shape T). end_handle side (entries (fork_on side node.colour part handle node.item node.far))) (sym node.near_is ∙ none)
        ∙ end_own side node.colour handle node.item node.far

    pub fewer-further : length (entries (subtree_on side handle tree)) < length (entries (subtree_at handle tree))
    fewer-further =
        let node = node_at side tree handle handles live in
        let less = length-fork_on side node.colour node.near handle node.item node.far in
        let near = ap (λ (part : Shape T). length (entries part)) node.near_is in
        let whole = ap (λ (part : Shape T). length (entries part)) node.is in
        omega (arith, less, near, whole)

  -- where the subtree on the side isn't empty, what is next to the handle there is at that subtree's other end
  pub next_handle-below : (side : Side) (tree : Shape T) (handle : ℕ) → AreHandles tree → IsHandle tree handle → top (subtree_on side handle tree) ≢ EMPTY_REF
      → (front : List (ℕ × T)) (item : T) (back : List (ℕ × T)) → entries tree ≡ front ++ (handle, item) ∷ back
      → end_handle (other_side side) (entries (subtree_on side handle tree)) ≡ next_handle side front back
  next_handle-below Left tree handle handles live apart front item back is =
      let cut = cut_at tree handle live in
      let left_is : subtree_on Left handle tree ≡ cut.before = ap left_subtree (subtree_at-of_cut tree handle handles cut) in
      let some : 0 < length (entries cut.before) = some_entries cut.before (λ empty. apart (ap top left_is ∙ empty)) in
      ap (λ (part : Shape T). last_handle (entries part)) left_is
      ∙ sym (ap last_handle (list_cut tree handle handles cut front item back is).0 ∙ last_handle-of_append (before_hole cut.around) (entries cut.before) some)
  next_handle-below Right tree handle handles live apart front item back is =
      let cut = cut_at tree handle live in
      let right_is : subtree_on Right handle tree ≡ cut.after = ap right_subtree (subtree_at-of_cut tree handle handles cut) in
      let some : 0 < length (entries cut.after) = some_entries cut.after (λ empty. apart (ap top right_is ∙ empty)) in
      ap (λ (part : Shape T). first_handle (entries part)) right_is
      ∙ sym (ap first_handle (list_cut tree handle handles cut front item back is).2 ∙ first_handle-of_append (entries cut.after) (after_hole cut.around) some)
