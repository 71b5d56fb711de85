-- What a removal answers and changes, from how a node with an empty subtree is taken out.
use Rattle.std.proofs.Common.{◌≡◌, ◌≢◌, ℕ, ◌<◌, ◌≤◌, ◌⊎◌, inl, inr, List, [], ◌∷◌, ◌++◌, refl, sym, ap, ◌∙◌, subst, append_assoc, append-nil, arith}
use Rattle.std.proofs.lemmas.List.{append_cancel_left}
use Rattle.i_tree.specs.declared.TheConstants.{EMPTY_REF}
use Rattle.i_tree.specs.declared.rb.links.Colour.{Colour}
use Rattle.i_tree.specs.declared.rb.links.Side.{Side}
use Rattle.i_tree.specs.declared.rb.links.Side.TheVariants.{Left, Right}
use Rattle.i_tree.specs.Rb.Shape.{Shape, leaf, fork, top, entries, subtree_at, left_subtree, right_subtree, left_at, right_at, rank, with_item, IsHandle, AreHandles}
use Rattle.i_tree.specs.Rb.Context.{Frame, fork_on, plug, other_side, subtree_on, HasOneSubtree}
use Rattle.i_tree.specs.Rb.Removal.{LosesAt, RebalancesSubtree, ChangesSide}
use Rattle.i_tree.specs.Rb.Detaching.{IsFirst, TakesOut}
use Rattle.i_tree.proofs.RbLemmas.Shape.Contexts.{cut_at, fork_on-other, before_hole, after_hole, entries-plug, occurs_among, occurs_among-append, occurs_among-entries, one_if_same-same, top-fork_on, plug-append}
use Rattle.i_tree.proofs.RbLemmas.Shape.Subtrees.{subtree_at-of_cut, side_cut, subtree_at-empty, list_cut, IsTopOf-subtree}
use Rattle.i_tree.proofs.RbLemmas.Balance.Frames.{IsHandle-at}
use Rattle.i_tree.proofs.RbLemmas.Removal.Items.{set_item, set_item-append, set_item-none, set_item-cut, entries-with_item, rank-with_item}
use Rattle.i_tree.proofs.RbLemmas.Removal.Sides.{HasOnSide-from, HasOnSide-with_item, MakesSide, ChangesSide-from}

module _ {T : Type 0} where
  -- a node whose subtree on a side has no top
  HasOneSubtree-on : (side : Side) (tree : Shape T) (handle : ℕ) → AreHandles tree → IsHandle tree handle → subtree_on side handle tree ≡ leaf → HasOneSubtree tree handle
  HasOneSubtree-on side tree handle handles live empty =
      let cut = side_cut tree handle side handles live in
      record {
        around = cut.around;
        side = other_side side;
        colour = cut.colour;
        subtree = cut.far;
        item = cut.item;
        is = cut.is ∙ ap (plug cut.around) (ap (λ (subtree : Shape T). fork_on side cut.colour subtree handle cut.item cut.far) empty ∙ fork_on-other side cut.colour leaf handle cut.item cut.far);
      }

  -- where the left or the right subtree has no top
  pub HasOneSubtree-either : (tree : Shape T) (handle left right : ℕ) → AreHandles tree → IsHandle tree handle
      → subtree_at left tree ≡ left_at handle tree → subtree_at right tree ≡ right_at handle tree
      → (left ≡ EMPTY_REF) ⊎ ((left ≢ EMPTY_REF) × (right ≡ EMPTY_REF)) → HasOneSubtree tree handle
  HasOneSubtree-either tree handle left right handles live left_is right_is (inl none) =
      HasOneSubtree-on Left tree handle handles live (sym left_is ∙ ap (λ (number : ℕ). subtree_at number tree) none ∙ subtree_at-empty tree handles)
  HasOneSubtree-either tree handle left right handles live left_is right_is (inr none) =
      HasOneSubtree-on Right tree handle handles live (sym right_is ∙ ap (λ (number : ℕ). subtree_at number tree) none.1 ∙ subtree_at-empty tree handles)

  -- the list without the node, and its item
  record LosesNode (around : List (Frame T)) (subtree : Shape T) (held item : T) (front back : List (ℕ × T)) : Type 0 where
    held_is : held ≡ item
    list : entries (plug around subtree) ≡ front ++ back

  loses_node : (old : Shape T) (handle : ℕ) (held : T) → AreHandles old → (around : List (Frame T)) (side : Side) (colour : Colour) (subtree : Shape T) (own : T)
      → old ≡ plug around (fork_on side colour subtree handle own leaf)
      → ((place : List (Frame T)) (shade : Colour) (before : Shape T) (kept : T) (after : Shape T) → old ≡ plug place (fork shade before handle kept after) → held ≡ kept)
      → (front : List (ℕ × T)) (item : T) (back : List (ℕ × T)) → entries old ≡ front ++ (handle, item) ∷ back → LosesNode around subtree held item front back
  loses_node old handle held handles around Left colour subtree own is held_is front item back list_is =
      let cut = list_cut old handle handles (record { around = around; colour = colour; before = subtree; item = own; after = leaf; is = is }) front item back list_is in
      record {
        held_is = held_is around colour subtree own leaf is ∙ sym cut.1;
        list = entries-plug around subtree ∙ sym (append_assoc (before_hole around) (entries subtree) (after_hole around))
            ∙ ap (λ list. list ++ after_hole around) (sym cut.0) ∙ ap (λ list. front ++ list) (sym cut.2);
      }
  loses_node old handle held handles around Right colour subtree own is held_is front item back list_is =
      let cut = list_cut old handle handles (record { around = around; colour = colour; before = leaf; item = own; after = subtree; is = is }) front item back list_is in
      record {
        held_is = held_is around colour leaf own subtree is ∙ sym cut.1;
        list = entries-plug around subtree
            ∙ ap (λ list. list ++ (entries subtree ++ after_hole around)) (sym (cut.0 ∙ append-nil (before_hole around))) ∙ ap (λ list. front ++ list) (sym cut.2);
      }

  -- a node with an empty subtree: its entry alone is lost
  pub removed_one : (old new : Shape T) (handle : ℕ) (held : T) → AreHandles old → HasOneSubtree old handle → TakesOut old handle new
      → ((place : List (Frame T)) (shade : Colour) (before : Shape T) (kept : T) (after : Shape T) → old ≡ plug place (fork shade before handle kept after) → held ≡ kept)
      → (front : List (ℕ × T)) (item : T) (back : List (ℕ × T)) → entries old ≡ front ++ (handle, item) ∷ back → (held ≡ item) × LosesAt handle front back (entries new)
  removed_one old new handle held handles one takes held_is front item back list_is =
      let loses = loses_node old handle held handles one.around one.side one.colour one.subtree one.item one.is held_is front item back list_is in
      (loses.held_is, inl (takes.list one.around one.side one.colour one.subtree one.item one.is ∙ loses.list))

  pub removed_one_side : (old new : Shape T) (handle : ℕ) → AreHandles old → AreHandles new → HasOneSubtree old handle → TakesOut old handle new
      → (side : Side) (above : ℕ) → IsHandle old above → top (subtree_on side above old) ≡ handle → ChangesSide old new above (subtree_on side above old) (subtree_on side above new)
  removed_one_side old new handle handles new_handles one takes side above live_above at_top =
      let node : Shape T = fork_on one.side one.colour one.subtree handle one.item leaf in
      let live = IsHandle-at old one.around one.side one.colour one.subtree handle one.item leaf one.is in
      let P : ℕ → Type 0 = λ number. subtree_at number old ≡ node in
      let here : subtree_at handle old ≡ node = subst P (top-fork_on one.side one.colour one.subtree handle one.item leaf) (IsTopOf-subtree old one.around node one.is handles).at in
      ChangesSide-from old new handle above side handles live live_above at_top (λ colour item far around is. one_side one takes new_handles side above node here refl colour item far around is)
    where
      one_side : (one : HasOneSubtree old handle) → TakesOut old handle new → AreHandles new → (side : Side) (above : ℕ) (node : Shape T) → subtree_at handle old ≡ node
          → node ≡ fork_on one.side one.colour one.subtree handle one.item leaf
          → (colour : Colour) (item : T) (far : Shape T) (around : List (Frame T)) → old ≡ plug around (fork_on side colour (subtree_at handle old) above item far)
          → MakesSide new above side (before_hole (record { side = side; colour = colour; handle = above; item = item; sibling = far } ∷ around))
          (after_hole (record { side = side; colour = colour; handle = above; item = item; sibling = far } ∷ around)) (rank (subtree_at handle old))
      one_side one takes new_handles side above node here node_is colour item far around is =
          let frame : Frame T = record { side = side; colour = colour; handle = above; item = item; sibling = far } in
          let own : Shape T = fork_on one.side one.colour one.subtree handle one.item leaf in
          let is_own : old ≡ plug (frame ∷ around) own = is ∙ ap (λ (subtree : Shape T). plug around (fork_on side colour subtree above item far)) (here ∙ node_is) in
          let rebalances = takes.sides [] frame around one.side one.colour one.subtree one.item is_own in
          let has = HasOnSide-from new above side item (entries one.subtree) (rank own) new_handles rebalances in
          let ranks = has.ranks in
          record {
            live = has.live;
            list = takes.list (frame ∷ around) one.side one.colour one.subtree one.item is_own ∙ entries-plug (frame ∷ around) one.subtree
                ∙ ap (λ list. before_hole (frame ∷ around) ++ (list ++ after_hole (frame ∷ around))) (sym has.entries_are);
            ranks = omega (arith, ap (λ (subtree : Shape T). rank subtree) (here ∙ node_is));
          }

  -- a node with two subtrees, and the next entry's node, inside its right subtree
  pub record HasNext (old : Shape T) (handle next : ℕ) : Type 0 where
    pub around : List (Frame T)
    pub colour : Colour
    pub before : Shape T
    pub item : T
    pub inner : List (Frame T)
    pub next_colour : Colour
    pub next_item : T
    pub next_after : Shape T
    pub is : old ≡ plug around (fork colour before handle item (plug inner (fork next_colour leaf next next_item next_after)))
    pub list : entries (plug inner (fork next_colour leaf next next_item next_after)) ≡ (next, next_item) ∷ entries (plug inner next_after)

  pub HasNext-from : (old : Shape T) (handle right next : ℕ) → AreHandles old → IsHandle old handle → subtree_at right old ≡ right_at handle old
      → IsFirst (subtree_at right old) next → HasNext old handle next
  HasNext-from old handle right next handles live right_is first =
      let cut = cut_at old handle live in
      let after : cut.after ≡ plug first.inner (fork first.colour leaf next first.item first.after)
      = sym (ap right_subtree (subtree_at-of_cut old handle handles cut)) ∙ sym right_is ∙ first.is in
      record {
        around = cut.around;
        colour = cut.colour;
        before = cut.before;
        item = cut.item;
        inner = first.inner;
        next_colour = first.colour;
        next_item = first.item;
        next_after = first.after;
        is = cut.is ∙ ap (λ (subtree : Shape T). plug cut.around (fork cut.colour cut.before handle cut.item subtree)) after;
        list = ap (λ (subtree : Shape T). entries subtree) (sym first.is) ∙ first.list;
      }

  -- the frame that the handle's node is, around its right subtree
  abbrev own_frame : (old : Shape T) (handle next : ℕ) → HasNext old handle next → Frame T
  own_frame old handle next has = record { side = Right; colour = has.colour; handle = handle; item = has.item; sibling = has.before }

  abbrev next_node : (old : Shape T) (handle next : ℕ) → HasNext old handle next → Shape T
  next_node old handle next has = fork has.next_colour leaf next has.next_item has.next_after

  next_is : (old : Shape T) (handle next : ℕ) → (has : HasNext old handle next)
      → old ≡ plug (has.inner ++ own_frame old handle next has ∷ has.around) (next_node old handle next has)
  next_is old handle next has =
      has.is ∙ sym (plug-append has.inner (own_frame old handle next has ∷ has.around) (next_node old handle next has))

  pub HasOneSubtree-next : (old : Shape T) (handle next : ℕ) → HasNext old handle next → HasOneSubtree old next
  HasOneSubtree-next old handle next has =
      record {
        around = has.inner ++ own_frame old handle next has ∷ has.around;
        side = Right;
        colour = has.next_colour;
        subtree = has.next_after;
        item = has.next_item;
        is = next_is old handle next has;
      }

  -- the handle's node is still there, with its item
  own_rebalances : (old mid : Shape T) (handle next : ℕ) → (has : HasNext old handle next) → TakesOut old next mid
      → RebalancesSubtree mid handle Right has.item (entries (plug has.inner has.next_after)) (rank (plug has.inner (next_node old handle next has)))
  own_rebalances old mid handle next has takes =
      takes.sides has.inner (own_frame old handle next has) has.around Right has.next_colour has.next_after has.next_item (next_is old handle next has)

  pub IsHandle-next : (old mid : Shape T) (handle next : ℕ) → HasNext old handle next → TakesOut old next mid → IsHandle mid handle
  IsHandle-next old mid handle next has takes =
      let rebalances = own_rebalances old mid handle next has takes in
      IsHandle-at mid rebalances.around Right rebalances.colour rebalances.subtree handle has.item rebalances.far rebalances.is

  -- the item at the handle is read
  held_item : (mid : Shape T) (handle : ℕ) (held own : T) → AreHandles mid → (around : List (Frame T)) (colour : Colour) (before after : Shape T)
      → mid ≡ plug around (fork colour before handle own after)
      → entries (subtree_at handle mid) ≡ entries (left_at handle mid) ++ (handle, held) ∷ entries (right_at handle mid) → held ≡ own
  held_item mid handle held own handles around colour before after is read =
      let here = subtree_at-of_cut mid handle handles (record { around = around; colour = colour; before = before; item = own; after = after; is = is }) in
      let P : Shape T → Type 0 = λ subtree. entries subtree ≡ entries (left_subtree subtree) ++ (handle, held) ∷ entries (right_subtree subtree) in
      let both : entries before ++ (handle, own) ∷ entries after ≡ entries before ++ (handle, held) ∷ entries after = subst P here read in
      let rest : ◌≡◌ {A = List (ℕ × T)} ((handle, own) ∷ entries after) ((handle, held) ∷ entries after)
      = append_cancel_left (entries before) ((handle, own) ∷ entries after) ((handle, held) ∷ entries after) both in
      let pair : ◌≡◌ {A = ℕ × T} (handle, own) (handle, held) = cc in
      sym (ap (λ (entry : ℕ × T). entry.1) pair)

  -- a node with two subtrees: the next entry's item comes to its handle
  pub removed_two : (old mid : Shape T) (handle next : ℕ) (taken held : T) → AreHandles old → AreHandles mid → HasNext old handle next → TakesOut old next mid
      → ((place : List (Frame T)) (shade : Colour) (before : Shape T) (kept : T) (after : Shape T) → old ≡ plug place (fork shade before next kept after) → taken ≡ kept)
      → entries (subtree_at handle mid) ≡ entries (left_at handle mid) ++ (handle, held) ∷ entries (right_at handle mid)
      → (front : List (ℕ × T)) (item : T) (back : List (ℕ × T)) → entries old ≡ front ++ (handle, item) ∷ back
      → (held ≡ item) × LosesAt handle front back (entries (with_item handle taken mid))
  removed_two old mid handle next taken held handles mid_handles has takes taken_is read front item back list_is =
      let frame : Frame T = own_frame old handle next has in
      let node : Shape T = next_node old handle next has in
      let rebalances = own_rebalances old mid handle next has takes in
      let cut = list_cut old handle handles (record { around = has.around; colour = has.colour; before = has.before; item = has.item; after = plug has.inner node; is = has.is }) front item back list_is in
      let rest : List (ℕ × T) = entries (plug has.inner has.next_after) ++ after_hole has.around in
      let back_is : back ≡ (next, has.next_item) ∷ rest = cut.2 ∙ ap (λ list. list ++ after_hole has.around) has.list in
      let mid_list : entries mid ≡ front ++ (handle, has.item) ∷ rest
      = takes.list (has.inner ++ frame ∷ has.around) Right has.next_colour has.next_after has.next_item (next_is old handle next has)
      ∙ ap (λ (subtree : Shape T). entries subtree) (plug-append has.inner (frame ∷ has.around) has.next_after)
      ∙ entries-plug has.around (fork has.colour has.before handle has.item (plug has.inner has.next_after))
      ∙ regroup (before_hole has.around) (entries has.before) (handle, has.item) (entries (plug has.inner has.next_after)) (after_hole has.around)
      ∙ ap (λ list. list ++ (handle, has.item) ∷ rest) (sym cut.0) in
      let once : occurs_among handle (front ++ (handle, has.item) ∷ rest) ≤ 1
      = let count = ap (occurs_among handle) mid_list in let total = occurs_among-entries handle mid in let apart = mid_handles.apart handle in omega arith in
      let taken_next : taken ≡ has.next_item = taken_is (has.inner ++ frame ∷ has.around) has.next_colour leaf has.next_item has.next_after (next_is old handle next has) in
      let list : entries (with_item handle taken mid) ≡ front ++ (handle, taken) ∷ rest
      = entries-with_item handle taken mid ∙ ap (set_item handle taken) mid_list ∙ set_item-cut handle taken front has.item rest once in (
        held_item mid handle held has.item mid_handles rebalances.around rebalances.colour rebalances.far rebalances.subtree rebalances.is read ∙ sym cut.1,
        inr (next, has.next_item, rest, back_is, list ∙ ap (λ (own : T). front ++ (handle, own) ∷ rest) taken_next),
      )
    where
      regroup : (a b : List (ℕ × T)) (x : ℕ × T) (d e : List (ℕ × T)) → a ++ ((b ++ x ∷ d) ++ e) ≡ (a ++ b) ++ x ∷ (d ++ e)
      regroup a b x d e = simp append_assoc

  -- the frames inside the node above, with the handle's own
  inner_is : (old : Shape T) (handle next : ℕ) → AreHandles old → (has : HasNext old handle next)
      → subtree_at handle old ≡ plug (has.inner ++ own_frame old handle next has ∷ []) (next_node old handle next has)
  inner_is old handle next handles has =
      subtree_at-of_cut old handle handles (record { around = has.around; colour = has.colour; before = has.before; item = has.item; after = plug has.inner (next_node old handle next has); is = has.is })
      ∙ sym (plug-append has.inner (own_frame old handle next has ∷ []) (next_node old handle next has))

  two_side : (old mid : Shape T) (handle next : ℕ) (taken : T) → AreHandles old → AreHandles mid → IsHandle old handle → HasNext old handle next → TakesOut old next mid
      → (side : Side) (above : ℕ) (colour : Colour) (item : T) (far : Shape T) (around : List (Frame T)) → old ≡ plug around (fork_on side colour (subtree_at handle old) above item far)
      → MakesSide (with_item handle taken mid) above side (before_hole (record { side = side; colour = colour; handle = above; item = item; sibling = far } ∷ around))
      (after_hole (record { side = side; colour = colour; handle = above; item = item; sibling = far } ∷ around)) (rank (subtree_at handle old))
  two_side old mid handle next taken handles mid_handles live has takes side above colour item far around is =
      let frame : Frame T = record { side = side; colour = colour; handle = above; item = item; sibling = far } in
      let inner : List (Frame T) = has.inner ++ own_frame old handle next has ∷ [] in
      let node : Shape T = next_node old handle next has in
      let here : subtree_at handle old ≡ plug inner node = inner_is old handle next handles has in
      let is_next : old ≡ plug (inner ++ frame ∷ around) node
      = is ∙ ap (λ (subtree : Shape T). plug around (fork_on side colour subtree above item far)) here ∙ sym (plug-append inner (frame ∷ around) node) in
      let list : List (ℕ × T) = entries (plug inner has.next_after) in
      let rebalances = takes.sides inner frame around Right has.next_colour has.next_after has.next_item is_next in
      let mid_has = HasOnSide-from mid above side item list (rank (plug inner node)) mid_handles rebalances in
      let new_has = HasOnSide-with_item handle taken mid above side list (rank (plug inner node)) mid_has in
      let front : List (ℕ × T) = before_hole (frame ∷ around) in
      let back : List (ℕ × T) = after_hole (frame ∷ around) in
      let mid_list : entries mid ≡ front ++ (list ++ back)
      = takes.list (inner ++ frame ∷ around) Right has.next_colour has.next_after has.next_item is_next
      ∙ ap (λ (subtree : Shape T). entries subtree) (plug-append inner (frame ∷ around) has.next_after) ∙ entries-plug (frame ∷ around) (plug inner has.next_after) in
      let old_list : entries old ≡ front ++ (entries (subtree_at handle old) ++ back) = ap (λ (subtree : Shape T). entries subtree) is ∙ entries-plug (frame ∷ around) (subtree_at handle old) in
      let count = ap (occurs_among handle) old_list in
      let total = occurs_among-entries handle old in
      let apart = handles.apart handle in
      let outside = occurs_among-append handle front (entries (subtree_at handle old) ++ back) in
      let inside = occurs_among-append handle (entries (subtree_at handle old)) back in
      let own = own_once handle live in
      let front_same : set_item handle taken front ≡ front = set_item-none handle taken front (omega arith) in
      let back_same : set_item handle taken back ≡ back = set_item-none handle taken back (omega arith) in
      let ranks = new_has.ranks in
      record {
        live = new_has.live;
        list = entries-with_item handle taken mid ∙ ap (set_item handle taken) mid_list ∙ set_item-append handle taken front (list ++ back)
            ∙ ap (λ after. set_item handle taken front ++ after) (set_item-append handle taken list back)
            ∙ ap (λ before. before ++ (set_item handle taken list ++ set_item handle taken back)) front_same
            ∙ ap (λ after. front ++ (set_item handle taken list ++ after)) back_same
            ∙ ap (λ middle. front ++ (middle ++ back)) (sym new_has.entries_are);
        ranks = omega (arith, ap (λ (subtree : Shape T). rank subtree) here);
      }
    where
      own_once : (handle : ℕ) → IsHandle old handle → 0 < occurs_among handle (entries (subtree_at handle old))
      own_once handle live =
          let cut = cut_at old handle live in
          let here = ap (λ (subtree : Shape T). occurs_among handle (entries subtree)) (subtree_at-of_cut old handle handles cut) in
          let one = one_if_same-same handle in
          omega (arith, occurs_among-append handle (entries cut.before) ((handle, cut.item) ∷ entries cut.after))

  pub removed_two_side : (old mid : Shape T) (handle next : ℕ) (taken : T) → AreHandles old → AreHandles mid → HasNext old handle next → TakesOut old next mid
      → (side : Side) (above : ℕ) → IsHandle old above → top (subtree_on side above old) ≡ handle
      → ChangesSide old (with_item handle taken mid) above (subtree_on side above old) (subtree_on side above (with_item handle taken mid))
  removed_two_side old mid handle next taken handles mid_handles has takes side above live_above at_top =
      let live = IsHandle-at old has.around Left has.colour has.before handle has.item (plug has.inner (next_node old handle next has)) has.is in
      ChangesSide-from old (with_item handle taken mid) handle above side handles live live_above at_top
      (two_side old mid handle next taken handles mid_handles live has takes side above)

  pub removed_two_rank : (old mid : Shape T) (handle next : ℕ) (taken : T) → TakesOut old next mid → rank (with_item handle taken mid) ≤ rank old
  removed_two_rank old mid handle next taken takes =
      omega (arith, takes.rank, rank-with_item handle taken mid)
