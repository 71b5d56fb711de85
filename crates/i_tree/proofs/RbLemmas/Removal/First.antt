-- The descent along the left side of a subtree, to its first entry.
use Rattle.std.proofs.Common.{arith, ◌≡◌, ℕ, List, [], ◌∷◌, refl, sym, ap, ◌∙◌, append-nil}
use Rattle.i_tree.specs.declared.rb.links.Colour.{Colour}
use Rattle.i_tree.specs.declared.rb.links.Side.TheVariants.{Left}
use Rattle.i_tree.specs.Rb.Shape.{Shape, leaf, fork, subtree_at, left_subtree, left_at, IsHandle, AreHandles}
use Rattle.i_tree.specs.Rb.Context.{Frame, plug}
use Rattle.i_tree.specs.Rb.Detaching.{IsFirst}
use Rattle.i_tree.proofs.RbLemmas.Shape.Contexts.{cut_at, before_hole, after_hole, entries-plug}
use Rattle.i_tree.proofs.RbLemmas.Shape.Subtrees.{subtree_at-of_cut}

module _ {T : Type 0} where
  -- the subtree stands in the whole, and nothing before it
  pub record StartsWith (whole subtree : Shape T) : Type 0 where
    pub inner : List (Frame T)
    pub is : whole ≡ plug inner subtree
    pub none : before_hole inner ≡ []

  pub StartsWith-self : (whole : Shape T) → StartsWith whole whole
  StartsWith-self whole = record { inner = []; is = refl; none = refl }

  starts_left : (whole subtree : Shape T) (colour : Colour) (before : Shape T) (handle : ℕ) (item : T) (after : Shape T)
      → subtree ≡ fork colour before handle item after → StartsWith whole subtree → StartsWith whole before
  starts_left whole subtree colour before handle item after subtree_is starts =
      record {
        inner = record { side = Left; colour = colour; handle = handle; item = item; sibling = after } ∷ starts.inner;
        is = starts.is ∙ ap (plug starts.inner) subtree_is;
        none = append-nil (before_hole starts.inner) ∙ starts.none;
      }

  -- one step to the left
  pub StartsWith-left : (whole tree : Shape T) (handle : ℕ) → AreHandles tree → IsHandle tree handle
      → StartsWith whole (subtree_at handle tree) → StartsWith whole (left_at handle tree)
  StartsWith-left whole tree handle handles live starts = grind (arith, cut_at, subtree_at-of_cut, starts_left)

  starts_first : (whole subtree : Shape T) (colour : Colour) (before : Shape T) (handle : ℕ) (item : T) (after : Shape T)
      → subtree ≡ fork colour before handle item after → before ≡ leaf → StartsWith whole subtree → IsFirst whole handle
  starts_first whole subtree colour before handle item after subtree_is empty starts = grind (arith, before_hole, after_hole, entries-plug)

  -- where nothing is on the left any more
  pub IsFirst-here : (whole tree : Shape T) (handle : ℕ) → AreHandles tree → IsHandle tree handle → left_at handle tree ≡ leaf
      → StartsWith whole (subtree_at handle tree) → IsFirst whole handle
  IsFirst-here whole tree handle handles live empty starts =
      let cut = cut_at tree handle live in
      let subtree_is = subtree_at-of_cut tree handle handles cut in
      starts_first whole (subtree_at handle tree) cut.colour cut.before handle cut.item cut.after subtree_is (sym (ap left_subtree subtree_is) ∙ empty) starts
