-- From a node to the one next to it on a side, upwards: while the subtree that was reached is on that side, nothing stands between.
use Rattle.std.proofs.Common.{◌≡◌, ◌≢◌, ℕ, ◌<◌, ◌≤◌, List, [], ◌∷◌, ◌++◌, length, refl, sym, ap, ◌∙◌, subst, append_assoc, append-nil, arith}
use Rattle.i_tree.specs.declared.TheConstants.{EMPTY_REF}
use Rattle.i_tree.specs.declared.rb.links.Colour.{Colour}
use Rattle.i_tree.specs.declared.rb.links.Side.{Side}
use Rattle.i_tree.specs.declared.rb.links.Side.TheVariants.{Left, Right}
use Rattle.i_tree.specs.Rb.Shape.{Shape, leaf, fork, top, entries, subtree_at, left_subtree, right_subtree, first_handle, last_handle, occurs, IsHandle, AreHandles}
use Rattle.i_tree.specs.Rb.Context.{Frame, fork_on, fill, plug, hole_parent, other_side, subtree_on}
use Rattle.i_tree.specs.Rb.Neighbours.{next_handle}
use Rattle.i_tree.proofs.RbLemmas.Shape.Contexts.{Cut, cut_at, one_if_same-same, occurs-plug, occurs-fork_on, before_hole, after_hole, own_before, own_after, top-fork_on}
use Rattle.i_tree.proofs.RbLemmas.Shape.Ends.{length-fork_on}
use Rattle.i_tree.proofs.RbLemmas.Shape.Subtrees.{subtree_at-of_cut, IsTopOf-subtree, list_cut, last_handle-append, live-top, live-not_empty, length-subtree}

module _ {T : Type 0} where
  -- the handle of the entry next to the hole on the side
  abbrev next_to_hole : Side → List (Frame T) → ℕ
  next_to_hole side around = next_handle side (before_hole around) (after_hole around)

  -- the subtree at the child is in frames in which the same entry is next on the side as is next to the handle
  pub record ComesNextTo (side : Side) (tree : Shape T) (handle child : ℕ) : Type 0 where
    pub around : List (Frame T)
    pub subtree : Shape T
    pub is : tree ≡ plug around subtree
    pub at : top subtree ≡ child
    pub live : IsHandle tree child
    pub same : (front : List (ℕ × T)) (item : T) (back : List (ℕ × T)) → entries tree ≡ front ++ (handle, item) ∷ back → next_handle side front back ≡ next_to_hole side around

  -- at first, at a handle whose subtree on the side is empty
  pub ComesNextTo-first : (side : Side) (tree : Shape T) (handle : ℕ) → AreHandles tree → IsHandle tree handle → subtree_on side handle tree ≡ leaf → ComesNextTo side tree handle handle
  ComesNextTo-first side tree handle handles live none =
      let cut = cut_at tree handle live in
      record {
        around = cut.around;
        subtree = fork cut.colour cut.before handle cut.item cut.after;
        is = cut.is;
        at = refl;
        live = live;
        same = λ front item back is. next_around side none cut (list_cut tree handle handles cut front item back is);
      }
    where
      next_around : (side : Side) → subtree_on side handle tree ≡ leaf → (cut : Cut tree handle) {front back : List (ℕ × T)} {Same : Type 0}
          → (front ≡ before_hole cut.around ++ entries cut.before) × Same × (back ≡ entries cut.after ++ after_hole cut.around)
          → next_handle side front back ≡ next_to_hole side cut.around
      next_around Left none cut lists =
          let empty : cut.before ≡ leaf = sym (ap left_subtree (subtree_at-of_cut tree handle handles cut)) ∙ none in
          ap last_handle (lists.0 ∙ ap (λ (part : Shape T). before_hole cut.around ++ entries part) empty ∙ append-nil (before_hole cut.around))
      next_around Right none cut lists =
          let empty : cut.after ≡ leaf = sym (ap right_subtree (subtree_at-of_cut tree handle handles cut)) ∙ none in
          ap first_handle (lists.2 ∙ ap (λ (part : Shape T). entries part ++ after_hole cut.around) empty)

  -- the innermost frame, where there is one
  pub record IsAbove (around : List (Frame T)) (parent : ℕ) : Type 0 where
    pub frame : Frame T
    pub rest : List (Frame T)
    pub is : around ≡ frame ∷ rest
    pub at : frame.handle ≡ parent

  pub is_above : (around : List (Frame T)) (parent : ℕ) → parent ≡ hole_parent around → parent ≢ EMPTY_REF → IsAbove around parent
  is_above [] parent is apart = absurd (apart is)
  is_above (frame ∷ rest) parent is apart = record { frame = frame; rest = rest; is = refl; at = sym is }

  -- where no frame is left, nothing is next on either side
  pub nothing_next : (side : Side) (tree : Shape T) (around : List (Frame T)) (subtree : Shape T) → AreHandles tree → tree ≡ plug around subtree → EMPTY_REF ≡ hole_parent around
      → next_to_hole side around ≡ EMPTY_REF
  nothing_next side tree around subtree handles is at = grind (arith, occurs-fork_on, one_if_same-same, occurs-plug)

  -- no subtree of a node has the top of the other
  tops_apart : (tree : Shape T) (rest : List (Frame T)) (side : Side) (colour : Colour) (subtree : Shape T) (own : ℕ) (item : T) (sibling : Shape T)
      → AreHandles tree → tree ≡ plug rest (fork_on side colour subtree own item sibling) → IsHandle tree (top subtree) → top sibling ≢ top subtree
  tops_apart tree rest side colour subtree own item sibling handles is live same = grind (arith, live-not_empty, same, occurs-plug, occurs-fork_on, live-top)

  -- what a read of the parent's subtree on the side says
  abbrev IsTopBelow : Side → Shape T → ℕ → ℕ → Type 0
  IsTopBelow side tree parent found = (around : List (Frame T)) (shade : Colour) (near : Shape T) (held : T) (far : Shape T) → tree ≡ plug around (fork_on side shade near parent held far) → found ≡ top near

  -- where the subtree that was reached is on the other side of its parent, the parent is next; else the same is next as to the parent
  pub parent_next : (side : Side) (tree : Shape T) (child found : ℕ) (rest : List (Frame T)) (frame : Frame T) (subtree : Shape T)
      → AreHandles tree → tree ≡ plug rest (fill frame subtree) → top subtree ≡ child → IsHandle tree child → IsTopBelow (other_side side) tree frame.handle found
      → (found ≡ child → next_to_hole side (frame ∷ rest) ≡ frame.handle) × (found ≢ child → next_to_hole side (frame ∷ rest) ≡ next_to_hole side rest)
  parent_next side tree child found rest frame subtree handles is at live found_is = by_sides side frame.side refl found_is
    where
      sibling_apart : (where_sibling : found ≡ top frame.sibling) → found ≢ child
      sibling_apart is_sibling same =
          let Q : ℕ → Type 0 = λ handle. IsHandle tree handle in
          tops_apart tree rest frame.side frame.colour subtree frame.handle frame.item frame.sibling handles is (subst Q (sym at) live) (sym is_sibling ∙ same ∙ sym at)

      by_sides : (side own : Side) → frame.side ≡ own → IsTopBelow (other_side side) tree frame.handle found
          → (found ≡ child → next_handle side (before_hole rest ++ own_before own (frame.handle, frame.item) (entries frame.sibling)) (own_after own (frame.handle, frame.item) (entries frame.sibling) ++ after_hole rest) ≡ frame.handle)
          × (found ≢ child → next_handle side (before_hole rest ++ own_before own (frame.handle, frame.item) (entries frame.sibling)) (own_after own (frame.handle, frame.item) (entries frame.sibling) ++ after_hole rest) ≡ next_to_hole side rest)
      by_sides Left Left own_is found_is =
          let on_left = is ∙ ap (λ (own : Side). plug rest (fork_on own frame.colour subtree frame.handle frame.item frame.sibling)) own_is in (
            λ same. absurd (sibling_apart (found_is rest frame.colour frame.sibling frame.item subtree on_left) same),
            λ _. ap last_handle (append-nil (before_hole rest)),
          )
      by_sides Left Right own_is found_is =
          let on_right = is ∙ ap (λ (own : Side). plug rest (fork_on own frame.colour subtree frame.handle frame.item frame.sibling)) own_is in (
            λ _. ap last_handle (sym (append_assoc (before_hole rest) (entries frame.sibling) ((frame.handle, frame.item) ∷ [])))
                ∙ last_handle-append (before_hole rest ++ entries frame.sibling) (frame.handle, frame.item) [],
            λ apart. absurd (apart (found_is rest frame.colour subtree frame.item frame.sibling on_right ∙ at)),
          )
      by_sides Right Left own_is found_is =
          let on_left = is ∙ ap (λ (own : Side). plug rest (fork_on own frame.colour subtree frame.handle frame.item frame.sibling)) own_is in (
            λ _. refl,
            λ apart. absurd (apart (found_is rest frame.colour subtree frame.item frame.sibling on_left ∙ at)),
          )
      by_sides Right Right own_is found_is =
          let on_right = is ∙ ap (λ (own : Side). plug rest (fork_on own frame.colour subtree frame.handle frame.item frame.sibling)) own_is in (
            λ same. absurd (sibling_apart (found_is rest frame.colour frame.sibling frame.item subtree on_right) same),
            λ _. refl,
          )

  -- what the parent that was reached is
  pub record IsParentOf (side : Side) (tree : Shape T) (handle child parent : ℕ) : Type 0 where
    pub live : IsHandle tree parent
    pub next : (found : ℕ) → IsTopBelow (other_side side) tree parent found
        → found ≡ child → (front : List (ℕ × T)) (item : T) (back : List (ℕ × T)) → entries tree ≡ front ++ (handle, item) ∷ back → parent ≡ next_handle side front back
    pub further : (found : ℕ) → IsTopBelow (other_side side) tree parent found → found ≢ child → ComesNextTo side tree handle parent
    pub grows : length (entries (subtree_at child tree)) < length (entries (subtree_at parent tree))
    pub within : length (entries (subtree_at parent tree)) ≤ length (entries tree)

  parent_of : (side : Side) (tree : Shape T) (handle child : ℕ) → AreHandles tree → (at_child : ComesNextTo side tree handle child)
      → (frame : Frame T) (rest : List (Frame T)) → at_child.around ≡ frame ∷ rest → IsParentOf side tree handle child frame.handle
  parent_of side tree handle child handles at_child frame rest above =
      let whole : Shape T = fill frame at_child.subtree in
      let is : tree ≡ plug rest whole = at_child.is ∙ ap (λ around. plug around at_child.subtree) above in
      let top_is = top-fork_on frame.side frame.colour at_child.subtree frame.handle frame.item frame.sibling in
      let Q : ℕ → Type 0 = λ own. subtree_at own tree ≡ whole in
      let whole_at : subtree_at frame.handle tree ≡ whole = subst Q top_is (IsTopOf-subtree tree rest whole is handles).at in
      let R : ℕ → Type 0 = λ own. subtree_at own tree ≡ at_child.subtree in
      let subtree_is : subtree_at child tree ≡ at_child.subtree = subst R at_child.at (IsTopOf-subtree tree at_child.around at_child.subtree at_child.is handles).at in
      let less = length-fork_on frame.side frame.colour at_child.subtree frame.handle frame.item frame.sibling in
      let here = one_if_same-same frame.handle in
      let count : occurs frame.handle tree ≡ occurs frame.handle (plug rest whole) = ap (occurs frame.handle) is in
      let outer = occurs-plug frame.handle rest whole in
      let inner = occurs-fork_on frame.handle frame.side frame.colour at_child.subtree frame.handle frame.item frame.sibling in
      let live : IsHandle tree frame.handle = omega arith in
      let ends : (front : List (ℕ × T)) (item : T) (back : List (ℕ × T)) → entries tree ≡ front ++ (handle, item) ∷ back → next_handle side front back ≡ next_to_hole side (frame ∷ rest)
      = λ front item back e. at_child.same front item back e ∙ ap (λ around. next_to_hole side around) above in
      record {
        live = live;
        next = λ found found_is same front item back e.
            sym (ends front item back e ∙ (parent_next side tree child found rest frame at_child.subtree handles is at_child.at at_child.live found_is).0 same);
        further = λ found found_is apart. record {
          around = rest;
          subtree = whole;
          is = is;
          at = top_is;
          live = live;
          same = λ front item back e.
              ends front item back e ∙ (parent_next side tree child found rest frame at_child.subtree handles is at_child.at at_child.live found_is).1 apart;
        };
        grows = let e = ap (λ subtree. length (entries subtree)) whole_at in let f = ap (λ subtree. length (entries subtree)) subtree_is in omega arith;
        within = let e = ap (λ subtree. length (entries subtree)) whole_at in let f = length-subtree tree rest whole is in omega arith;
      }

  pub IsParentOf-above : (side : Side) (tree : Shape T) (handle child parent : ℕ) → AreHandles tree → (at_child : ComesNextTo side tree handle child)
      → parent ≡ hole_parent at_child.around → parent ≢ EMPTY_REF → IsParentOf side tree handle child parent
  IsParentOf-above side tree handle child parent handles at_child is apart =
      let above = is_above at_child.around parent is apart in
      let P : ℕ → Type 0 = λ own. IsParentOf side tree handle child own in
      subst P above.at (parent_of side tree handle child handles at_child above.frame above.rest above.is)
