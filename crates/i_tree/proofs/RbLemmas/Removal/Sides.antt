-- How a removal changes the sides of the nodes around the handle.
use Rattle.std.proofs.Common.{◌≡◌, ℕ, ◌≤◌, List, ◌∷◌, ◌++◌, sym, ap, ◌∙◌, subst, append_assoc, arith}
use Rattle.std.proofs.lemmas.List.{append_cancel_left, append_cancel_right}
use Rattle.i_tree.specs.declared.rb.links.Colour.{Colour}
use Rattle.i_tree.specs.declared.rb.links.Side.{Side}
use Rattle.i_tree.specs.declared.rb.links.Side.TheVariants.{Left, Right}
use Rattle.i_tree.specs.Rb.Shape.{Shape, fork, top, entries, subtree_at, left_subtree, right_subtree, rank, with_item, IsHandle, AreHandles}
use Rattle.i_tree.specs.Rb.Context.{Frame, fork_on, plug, subtree_on}
use Rattle.i_tree.specs.Rb.Removal.{RebalancesSubtree, ChangesSide}
use Rattle.i_tree.proofs.RbLemmas.Shape.Contexts.{cut_at, before_hole, after_hole, entries-plug, same_cut, occurs_among, occurs_among-entries}
use Rattle.i_tree.proofs.RbLemmas.Shape.Items.{occurs-with_item}
use Rattle.i_tree.proofs.RbLemmas.Shape.Subtrees.{subtree_at-of_cut, side_cut, IsTopOf-subtree}
use Rattle.i_tree.proofs.RbLemmas.Balance.Frames.{IsHandle-at}
use Rattle.i_tree.proofs.RbLemmas.Removal.Items.{set_item, entries-with_item, subtree_at-with_item, left_subtree-with_item, right_subtree-with_item, rank-with_item}

module _ {T : Type 0} where
  -- a list with a handle once has one place for what stands around it
  pub same_around : (handle : ℕ) (front back front' back' before : List (ℕ × T)) (item : T) (after : List (ℕ × T))
      → occurs_among handle (front ++ ((before ++ (handle, item) ∷ after) ++ back)) ≤ 1
      → front ++ ((before ++ (handle, item) ∷ after) ++ back) ≡ front' ++ ((before ++ (handle, item) ∷ after) ++ back') → (front ≡ front') × (back ≡ back')
  same_around handle front back front' back' before item after once same =
      let one : front ++ ((before ++ (handle, item) ∷ after) ++ back) ≡ (front ++ before) ++ (handle, item) ∷ (after ++ back) = simp append_assoc in
      let other : front' ++ ((before ++ (handle, item) ∷ after) ++ back') ≡ (front' ++ before) ++ (handle, item) ∷ (after ++ back') = simp append_assoc in
      let count = ap (occurs_among handle) one in
      let cut = same_cut handle (front ++ before) (after ++ back) (front' ++ before) (after ++ back') item item (omega arith) (sym one ∙ same ∙ other) in
      (append_cancel_right front front' before cut.0, append_cancel_left after back back' cut.2)

  pub subtree_on-cut : (tree : Shape T) → AreHandles tree → (around : List (Frame T)) (side : Side) (colour : Colour) (near : Shape T) (handle : ℕ) (item : T) (far : Shape T)
      → tree ≡ plug around (fork_on side colour near handle item far) → subtree_on side handle tree ≡ near
  subtree_on-cut tree handles around Left colour near handle item far is =
      ap left_subtree (subtree_at-of_cut tree handle handles (record { around = around; colour = colour; before = near; item = item; after = far; is = is }))
  subtree_on-cut tree handles around Right colour near handle item far is =
      ap right_subtree (subtree_at-of_cut tree handle handles (record { around = around; colour = colour; before = far; item = item; after = near; is = is }))

  -- the node is live, and has these entries on the side, in a subtree whose rank is at most so much
  pub record HasOnSide (tree : Shape T) (handle : ℕ) (side : Side) (list : List (ℕ × T)) (most : ℕ) : Type 0 where
    pub live : IsHandle tree handle
    pub entries_are : entries (subtree_on side handle tree) ≡ list
    pub ranks : rank (subtree_on side handle tree) ≤ most

  pub HasOnSide-from : (tree : Shape T) (handle : ℕ) (side : Side) (item : T) (list : List (ℕ × T)) (most : ℕ)
      → AreHandles tree → RebalancesSubtree tree handle side item list most → HasOnSide tree handle side list most
  HasOnSide-from tree handle side item list most handles rebalances = grind (arith, subtree_on-cut, IsHandle-at)

  subtree_on-with_item : (side : Side) (at : ℕ) (new : T) (handle : ℕ) (tree : Shape T) → subtree_on side handle (with_item at new tree) ≡ with_item at new (subtree_on side handle tree)
  subtree_on-with_item Left at new handle tree = ap left_subtree (subtree_at-with_item at new handle tree) ∙ left_subtree-with_item at new (subtree_at handle tree)
  subtree_on-with_item Right at new handle tree = ap right_subtree (subtree_at-with_item at new handle tree) ∙ right_subtree-with_item at new (subtree_at handle tree)

  pub HasOnSide-with_item : (at : ℕ) (new : T) (tree : Shape T) (handle : ℕ) (side : Side) (list : List (ℕ × T)) (most : ℕ)
      → HasOnSide tree handle side list most → HasOnSide (with_item at new tree) handle side (set_item at new list) most
  HasOnSide-with_item at new tree handle side list most has = grind (arith, subtree_on-with_item, rank-with_item, occurs-with_item, entries-with_item, set_item)

  -- what the side of a node is made, and what stands around it in the list
  pub record MakesSide (new : Shape T) (above : ℕ) (side : Side) (front back : List (ℕ × T)) (most : ℕ) : Type 0 where
    pub live : IsHandle new above
    pub list : entries new ≡ front ++ (entries (subtree_on side above new) ++ back)
    pub ranks : rank (subtree_on side above new) ≤ most

  -- it is enough to know this of the subtree at the handle, in the frames of the node above
  pub ChangesSide-from : (old new : Shape T) (handle above : ℕ) (side : Side) → AreHandles old → IsHandle old handle → IsHandle old above → top (subtree_on side above old) ≡ handle
      → ((colour : Colour) (item : T) (far : Shape T) (around : List (Frame T)) → old ≡ plug around (fork_on side colour (subtree_at handle old) above item far)
      → MakesSide new above side (before_hole (record { side = side; colour = colour; handle = above; item = item; sibling = far } ∷ around))
      (after_hole (record { side = side; colour = colour; handle = above; item = item; sibling = far } ∷ around)) (rank (subtree_at handle old)))
      → ChangesSide old new above (subtree_on side above old) (subtree_on side above new)
  ChangesSide-from old new handle above side handles live live_above at_top makes =
      let cut = side_cut old above side handles live_above in
      let own = cut_at old handle live in
      let frame : Frame T = record { side = side; colour = cut.colour; handle = above; item = cut.item; sibling = cut.far } in
      let near : Shape T = subtree_on side above old in
      let P : ℕ → Type 0 = λ number. subtree_at number old ≡ near in
      let here : subtree_at handle old ≡ near = subst P at_top (IsTopOf-subtree old (frame ∷ cut.around) near cut.is handles).at in
      let node : near ≡ fork own.colour own.before handle own.item own.after = sym here ∙ subtree_at-of_cut old handle handles own in
      let made = makes cut.colour cut.item cut.far cut.around (cut.is ∙ ap (λ (subtree : Shape T). plug cut.around (fork_on side cut.colour subtree above cut.item cut.far)) (sym here)) in
      let front : List (ℕ × T) = before_hole (frame ∷ cut.around) in
      let back : List (ℕ × T) = after_hole (frame ∷ cut.around) in
      let middle : List (ℕ × T) = entries own.before ++ (handle, own.item) ∷ entries own.after in
      let middle_is : entries near ≡ middle = ap (λ (subtree : Shape T). entries subtree) node in
      let whole : entries old ≡ front ++ (middle ++ back)
      = ap (λ (subtree : Shape T). entries subtree) cut.is ∙ entries-plug (frame ∷ cut.around) near ∙ ap (λ (list : List (ℕ × T)). front ++ (list ++ back)) middle_is in
      let same_rank : rank near ≡ rank (subtree_at handle old) = ap (λ (subtree : Shape T). rank subtree) (sym here) in
      let ranks = made.ranks in
      let once : occurs_among handle (front ++ (middle ++ back)) ≤ 1
      = let count = ap (occurs_among handle) whole in let total = occurs_among-entries handle old in let apart = handles.apart handle in omega arith in
      record {
        live = made.live;
        rest = λ front' back' is.
            let other : entries old ≡ front' ++ (middle ++ back') = is ∙ ap (λ (list : List (ℕ × T)). front' ++ (list ++ back')) middle_is in
            let same = same_around handle front back front' back' (entries own.before) own.item (entries own.after) once (sym whole ∙ other) in
            made.list ∙ ap (λ list. list ++ (entries (subtree_on side above new) ++ back)) same.0 ∙ ap (λ list. front' ++ (entries (subtree_on side above new) ++ list)) same.1;
        rank = omega arith;
      }
