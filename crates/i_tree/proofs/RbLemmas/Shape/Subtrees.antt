-- A subtree of a tree of handles: where it stands, and how it is reached from the node above it.
use Rattle.std.proofs.Common.{◌≡◌, ◌≢◌, ℕ, ◌<◌, ◌≤◌, List, [], ◌∷◌, ◌++◌, length, refl, sym, ap, ◌∙◌, subst, append_assoc, length-append, arith}
use Rattle.i_tree.specs.declared.TheConstants.{EMPTY_REF}
use Rattle.i_tree.specs.declared.rb.links.Colour.{Colour}
use Rattle.i_tree.specs.declared.rb.links.Side.{Side}
use Rattle.i_tree.specs.declared.rb.links.Side.TheVariants.{Left, Right}
use Rattle.i_tree.specs.Rb.Shape.{Shape, leaf, fork, top, entries, subtree_at, left_subtree, right_subtree, left_at, right_at, first_handle, last_handle, occurs, IsHandle, AreHandles}
use Rattle.i_tree.specs.Rb.Context.{Frame, fork_on, plug, subtree_on}
use Rattle.i_tree.proofs.RbLemmas.Shape.Contexts.{Cut, cut_at, one_if_same-same, occurs-plug, subtree_at-none, subtree_at-cut, before_hole, after_hole, entries-plug, same_cut, occurs_among-entries, occurs_among}

module _ {T : Type 0} where
  pub live-top : (tree : Shape T) → top tree ≢ EMPTY_REF → IsHandle tree (top tree)
  live-top leaf apart = absurd (apart refl)
  live-top (fork shade before own item after) apart = let here = one_if_same-same own in omega arith

  -- this subtree of the tree has the handle as its top
  pub record IsTopOf (tree : Shape T) (handle : ℕ) (subtree : Shape T) : Type 0 where
    pub value : handle ≡ top subtree
    pub at : subtree_at handle tree ≡ subtree
    pub live : handle ≢ EMPTY_REF → IsHandle tree handle

  -- a subtree is the one at its top
  pub subtree_at-subtree : (around : List (Frame T)) (subtree : Shape T) → AreHandles (plug around subtree) → subtree_at (top subtree) (plug around subtree) ≡ subtree
  subtree_at-subtree around leaf handles = subtree_at-none EMPTY_REF (plug around leaf) handles.none_empty
  subtree_at-subtree around (fork shade before own item after) handles = subtree_at-cut around shade before own item after (handles.apart own)

  pub live-subtree : (around : List (Frame T)) (subtree : Shape T) → top subtree ≢ EMPTY_REF → IsHandle (plug around subtree) (top subtree)
  live-subtree around subtree apart =
      omega (arith, occurs-plug (top subtree) around subtree, live-top subtree apart)

  pub IsTopOf-subtree : (tree : Shape T) (around : List (Frame T)) (subtree : Shape T) → tree ≡ plug around subtree → AreHandles tree → IsTopOf tree (top subtree) subtree
  IsTopOf-subtree tree around subtree is handles = grind (arith, subtree_at-subtree, live-subtree)

  pub IsTopOf-root : (tree : Shape T) (root : ℕ) → AreHandles tree → root ≡ top tree → IsTopOf tree root tree
  IsTopOf-root tree root handles root_is = grind (arith, IsTopOf-subtree)

  -- where there is no handle, the subtree is empty
  pub IsTopOf-none : (tree : Shape T) (handle : ℕ) (subtree : Shape T) → AreHandles tree → IsTopOf tree handle subtree → handle ≡ EMPTY_REF → subtree ≡ leaf
  IsTopOf-none tree handle subtree handles top_of none =
      sym top_of.at ∙ ap (λ number. subtree_at number tree) none ∙ subtree_at-none EMPTY_REF tree handles.none_empty

  -- a tree without entries is empty
  pub leaf-without_entries : (tree : Shape T) → length (entries tree) ≡ 0 → tree ≡ leaf
  leaf-without_entries leaf none = refl
  leaf-without_entries (fork colour before handle item after) none =
      absurd (omega (arith, length-append (entries before) ((handle, item) ∷ entries after)))

  -- the subtrees at a handle are those of its node
  pub subtree_at-of_cut : (tree : Shape T) (handle : ℕ) → AreHandles tree → (cut : Cut tree handle)
      → subtree_at handle tree ≡ fork cut.colour cut.before handle cut.item cut.after
  subtree_at-of_cut tree handle handles cut = grind (arith, subtree_at-cut)

  -- a node of the tree, seen from one side
  pub record SideCut (tree : Shape T) (handle : ℕ) (side : Side) : Type 0 where
    pub around : List (Frame T)
    pub colour : Colour
    pub item : T
    pub far : Shape T
    pub is : tree ≡ plug around (fork_on side colour (subtree_on side handle tree) handle item far)

  pub side_cut : (tree : Shape T) (handle : ℕ) (side : Side) → AreHandles tree → IsHandle tree handle → SideCut tree handle side
  side_cut tree handle Left handles live =
      let cut = cut_at tree handle live in
      let near = ap left_subtree (subtree_at-of_cut tree handle handles cut) in
      record {
        around = cut.around;
        colour = cut.colour;
        item = cut.item;
        far = cut.after;
        is = cut.is ∙ ap (λ (subtree : Shape T). plug cut.around (fork cut.colour subtree handle cut.item cut.after)) (sym near);
      }
  side_cut tree handle Right handles live =
      let cut = cut_at tree handle live in
      let near = ap right_subtree (subtree_at-of_cut tree handle handles cut) in
      record {
        around = cut.around;
        colour = cut.colour;
        item = cut.item;
        far = cut.before;
        is = cut.is ∙ ap (λ (subtree : Shape T). plug cut.around (fork cut.colour cut.before handle cut.item subtree)) (sym near);
      }

  pub IsTopOf-on : (side : Side) (tree : Shape T) (handle child : ℕ) → AreHandles tree → IsHandle tree handle
      → ((around : List (Frame T)) (colour : Colour) (near : Shape T) (item : T) (far : Shape T) → tree ≡ plug around (fork_on side colour near handle item far) → child ≡ top near)
      → IsTopOf tree child (subtree_on side handle tree)
  IsTopOf-on side tree handle child handles live child_is =
      let cut = side_cut tree handle side handles live in
      let near : Shape T = subtree_on side handle tree in
      let frame : Frame T = record { side = side; colour = cut.colour; handle = handle; item = cut.item; sibling = cut.far } in
      subst (λ (number : ℕ). IsTopOf tree number near) (sym (child_is cut.around cut.colour near cut.item cut.far cut.is)) (IsTopOf-subtree tree (frame ∷ cut.around) near cut.is handles)

  -- the entries of a subtree are those of the two subtrees below it, around its own
  pub entries-subtree_at : (tree : Shape T) (handle : ℕ) (item : T) → AreHandles tree → IsHandle tree handle
      → ((around : List (Frame T)) (colour : Colour) (before : Shape T) (held : T) (after : Shape T) → tree ≡ plug around (fork colour before handle held after) → item ≡ held)
      → entries (subtree_at handle tree) ≡ entries (left_at handle tree) ++ (handle, item) ∷ entries (right_at handle tree)
  entries-subtree_at tree handle item handles live item_is =
      let cut = cut_at tree handle live in
      let is = subtree_at-of_cut tree handle handles cut in
      let held : item ≡ cut.item = item_is cut.around cut.colour cut.before cut.item cut.after cut.is in
      let P : Shape T → Type 0 = λ subtree. entries subtree ≡ entries (left_subtree subtree) ++ (handle, item) ∷ entries (right_subtree subtree) in
      subst P (sym is) (ap (λ (own : T). entries cut.before ++ (handle, own) ∷ entries cut.after) (sym held))

  -- the last handle of a list that ends so
  pub last_handle-append : (front : List (ℕ × T)) (entry : ℕ × T) (back : List (ℕ × T)) → last_handle (front ++ entry ∷ back) ≡ last_handle (entry ∷ back)
  last_handle-append [] entry back = refl
  last_handle-append (first ∷ []) entry back = refl
  last_handle-append (first ∷ second ∷ front) entry back = last_handle-append (second ∷ front) entry back

  -- where a list follows, its last handle is the last
  pub last_handle-of_append : (front back : List (ℕ × T)) → 0 < length back → last_handle (front ++ back) ≡ last_handle back
  last_handle-of_append front [] some = absurd (omega arith)
  last_handle-of_append front (entry ∷ back) some = last_handle-append front entry back

  -- where a list stands in front, its first handle is the first
  pub first_handle-of_append : (front back : List (ℕ × T)) → 0 < length front → first_handle (front ++ back) ≡ first_handle front
  first_handle-of_append [] back some = absurd (omega arith)
  first_handle-of_append (entry ∷ front) back some = refl

  pub some_entries : (tree : Shape T) → top tree ≢ EMPTY_REF → 0 < length (entries tree)
  some_entries leaf apart = absurd (apart refl)
  some_entries (fork shade before own item after) apart = let sum = length-append (entries before) ((own, item) ∷ entries after) in omega arith

  -- no subtree is at `EMPTY_REF`
  pub subtree_at-empty : (tree : Shape T) → AreHandles tree → subtree_at EMPTY_REF tree ≡ leaf
  subtree_at-empty tree handles = subtree_at-none EMPTY_REF tree handles.none_empty

  pub live-not_empty : (tree : Shape T) (handle : ℕ) → AreHandles tree → IsHandle tree handle → handle ≢ EMPTY_REF
  live-not_empty tree handle handles live same = let none = handles.none_empty in let e = ap (λ number. occurs number tree) same in omega arith

  -- where an entry of the tree is in the list: what is before it and after it, around the node and in its subtrees
  pub list_cut : (tree : Shape T) (handle : ℕ) → AreHandles tree → (cut : Cut tree handle) (front : List (ℕ × T)) (item : T) (back : List (ℕ × T))
      → entries tree ≡ front ++ (handle, item) ∷ back
      → (front ≡ before_hole cut.around ++ entries cut.before) × (item ≡ cut.item) × (back ≡ entries cut.after ++ after_hole cut.around)
  list_cut tree handle handles cut front item back is =
      let node : Shape T = fork cut.colour cut.before handle cut.item cut.after in
      let whole : entries tree ≡ before_hole cut.around ++ (entries node ++ after_hole cut.around) = ap (λ (subtree : Shape T). entries subtree) cut.is ∙ entries-plug cut.around node in
      let cuts : before_hole cut.around ++ (entries node ++ after_hole cut.around)
      ≡ (before_hole cut.around ++ entries cut.before) ++ (handle, cut.item) ∷ (entries cut.after ++ after_hole cut.around) = simp append_assoc in
      same_cut handle front back (before_hole cut.around ++ entries cut.before) (entries cut.after ++ after_hole cut.around) item cut.item
      (omega (arith, handles.apart handle, occurs_among-entries handle tree, ap (occurs_among handle) is)) (sym is ∙ whole ∙ cuts)

  pub length-subtree : (tree : Shape T) (around : List (Frame T)) (subtree : Shape T) → tree ≡ plug around subtree → length (entries subtree) ≤ length (entries tree)
  length-subtree tree around subtree is = grind (arith, length-append, before_hole, after_hole, entries-plug)
