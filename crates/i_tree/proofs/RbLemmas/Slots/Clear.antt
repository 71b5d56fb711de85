-- The core is cleared: the descent to a node without subtrees, and what is left where that node is gone.
use Rattle.std.proofs.Common.{◌≡◌, ◌≢◌, ℕ, ◌+◌, List, length, refl, sym, ap, ◌∙◌, subst, length-append, arith}
use Rattle.i_tree.specs.declared.TheConstants.{EMPTY_REF}
use Rattle.i_tree.specs.declared.rb.links.Colour.{Colour}
use Rattle.i_tree.specs.declared.rb.links.Side.TheVariants.{Left}
use Rattle.i_tree.specs.Rb.Clear.{IsChildless}
use Rattle.i_tree.specs.Rb.Context.{Frame, plug, hole_parent}
use Rattle.i_tree.specs.Rb.Shape.{Shape, leaf, fork, top, entries, left_subtree, right_subtree, left_at, right_at, IsHandle, AreHandles}
use Rattle.i_tree.proofs.RbLemmas.Balance.Frames.{IsHandle-at}
use Rattle.i_tree.proofs.RbLemmas.Shape.Contexts.{cut_at, before_hole, after_hole, entries-plug}
use Rattle.i_tree.proofs.RbLemmas.Shape.Subtrees.{subtree_at-of_cut, live-not_empty}

module _ {T : Type 0} where
  pub IsChildless-here : (tree : Shape T) (handle : ℕ) → AreHandles tree → IsHandle tree handle → left_at handle tree ≡ leaf → right_at handle tree ≡ leaf → IsChildless tree handle
  IsChildless-here tree handle handles live no_left no_right =
      let cut = cut_at tree handle live in
      let subtree_is = subtree_at-of_cut tree handle handles cut in
      let before : cut.before ≡ leaf = sym (ap left_subtree subtree_is) ∙ no_left in
      let after : cut.after ≡ leaf = sym (ap right_subtree subtree_is) ∙ no_right in
      record {
        around = cut.around;
        colour = cut.colour;
        item = cut.item;
        is = cut.is
            ∙ ap (λ (near : Shape T). plug cut.around (fork cut.colour near handle cut.item cut.after)) before
            ∙ ap (λ (far : Shape T). plug cut.around (fork cut.colour leaf handle cut.item far)) after;
      }

  pub IsHandle-childless : (tree : Shape T) (handle : ℕ) → IsChildless tree handle → IsHandle tree handle
  IsHandle-childless tree handle childless = IsHandle-at tree childless.around Left childless.colour leaf handle childless.item leaf childless.is

  -- the tree has lost the node, which had no subtree. The parent is live, or the node was the last
  pub record HasLost (old new : Shape T) (parent : ℕ) : Type 0 where
    pub live : parent ≢ EMPTY_REF → IsHandle new parent
    pub ended : parent ≡ EMPTY_REF → new ≡ leaf
    pub fewer : length (entries new) + 1 ≡ length (entries old)

  fewer_without : (around : List (Frame T)) (colour : Colour) (gone : ℕ) (item : T)
      → length (entries (plug around leaf)) + 1 ≡ length (entries (plug around (fork colour leaf gone item leaf)))
  fewer_without around colour gone item = grind (arith, length-append, before_hole, after_hole, entries-plug)

  lost_inside : (around : List (Frame T)) (colour : Colour) (gone : ℕ) (item : T) (new : Shape T) → AreHandles new → new ≡ plug around leaf
      → HasLost (plug around (fork colour leaf gone item leaf)) new (hole_parent around)
  lost_inside around colour gone item new handles is = grind (arith, IsHandle-at, live-not_empty, fewer_without)

  pub HasLost-detached : (old new : Shape T) (gone parent : ℕ) → AreHandles new → (childless : IsChildless old gone)
      → ((around : List (Frame T)) (subtree : Shape T) → old ≡ plug around subtree → top subtree ≡ gone → parent ≡ hole_parent around)
      → ((around : List (Frame T)) (colour : Colour) (item : T) → old ≡ plug around (fork colour leaf gone item leaf) → new ≡ plug around leaf)
      → HasLost old new parent
  HasLost-detached old new gone parent handles childless parent_is detaches =
      let node : Shape T = fork childless.colour leaf gone childless.item leaf in
      let P : Shape T → Type 0 = λ tree. HasLost tree new (hole_parent childless.around) in
      let Q : ℕ → Type 0 = λ above. HasLost old new above in
      subst Q (sym (parent_is childless.around node childless.is refl))
      (subst P (sym childless.is) (lost_inside childless.around childless.colour gone childless.item new handles (detaches childless.around childless.colour childless.item childless.is)))
