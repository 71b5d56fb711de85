-- A tree in which an item is replaced: its list, its subtrees and its ranks.
use Rattle.std.proofs.Common.{◌≡◌, ◌≢◌, ℕ, ◌+◌, ◌≤◌, Bool, true, false, eqb, cond, max, List, [], ◌∷◌, ◌++◌, length, refl, sym, ap, ◌∙◌, arith}
use Rattle.std.specs.Prelude.{◌==◌, if◌then◌else◌}
use Rattle.i_tree.specs.Rb.Balance.{IsCore}
use Rattle.i_tree.specs.Rb.Shape.{Shape, leaf, fork, entries, subtree_at, left_subtree, right_subtree, or_else, rank, height, RanksFall, with_item, one_if_same}
use Rattle.i_tree.proofs.RbLemmas.Shape.Contexts.{eqb-apart, one_if_same-cases, one_if_same-same, occurs_among, occurs_among-append}
use Rattle.i_tree.proofs.RbLemmas.Shape.Items.{black_levels-with_item, AreHandles-with_item, IsRedBlack-with_item}

module _ {T : Type 0} (at : ℕ) (new : T) where
  -- the list with the new item at each pair of the handle
  abbrev pub set_item : List (ℕ × T) → List (ℕ × T)
  set_item [] = []
  set_item (entry ∷ rest) = (entry.0, (if at == entry.0 then new else entry.1)) ∷ set_item rest

  pub set_item-append : (front back : List (ℕ × T)) → set_item (front ++ back) ≡ set_item front ++ set_item back
  set_item-append [] back = refl
  set_item-append (entry ∷ front) back = ap (λ rest. (entry.0, (if at == entry.0 then new else entry.1)) ∷ rest) (set_item-append front back)

  pub entries-with_item : (tree : Shape T) → entries (with_item at new tree) ≡ set_item (entries tree)
  entries-with_item leaf = refl
  entries-with_item (fork shade before own held after) =
      let left = entries-with_item before in
      let right = entries-with_item after in
      let whole = set_item-append (entries before) ((own, held) ∷ entries after) in
      cc

  -- a list without the handle stays
  pub set_item-none : (list : List (ℕ × T)) → occurs_among at list ≡ 0 → set_item list ≡ list
  set_item-none [] none = refl
  set_item-none (entry ∷ rest) none =
      let apart : at ≢ entry.0 = (one_if_same-cases at entry.0).0 (omega arith) in
      let head : ◌≡◌ {A = ℕ × T} (entry.0, (if at == entry.0 then new else entry.1)) entry
      = ap (λ (test : Bool). (entry.0, cond test new entry.1)) (eqb-apart at entry.0 apart) in
      ap (λ (first : ℕ × T). first ∷ set_item rest) head ∙ ap (λ list. entry ∷ list) (set_item-none rest (omega arith))

  pub set_item-cut : (front : List (ℕ × T)) (item : T) (back : List (ℕ × T)) → occurs_among at (front ++ (at, item) ∷ back) ≤ 1
      → set_item (front ++ (at, item) ∷ back) ≡ front ++ (at, new) ∷ back
  set_item-cut front item back once =
      let total = occurs_among-append at front ((at, item) ∷ back) in
      let here = one_if_same-same at in
      let left : set_item front ≡ front = set_item-none front (omega arith) in
      let right : set_item back ≡ back = set_item-none back (omega arith) in
      let own : ◌≡◌ {A = T} (if at == at then new else item) new = by_test (at == at) refl in
      set_item-append front ((at, item) ∷ back)
      ∙ ap (λ list. list ++ (at, (if at == at then new else item)) ∷ set_item back) left
      ∙ ap (λ (held : T). front ++ (at, held) ∷ set_item back) own
      ∙ ap (λ list. front ++ (at, new) ∷ list) right
    where
      by_test : (test : Bool) → eqb at at ≡ test → (if at == at then new else item) ≡ new
      by_test true is = ap (λ (test : Bool). cond test new item) is
      by_test false is =
          let zero_here : one_if_same at at ≡ 0 = ap (λ (test : Bool). cond test 1 0) is in
          let here = one_if_same-same at in
          absurd (omega arith)

  or_else-with_item : (first second : Shape T) → with_item at new (or_else first second) ≡ or_else (with_item at new first) (with_item at new second)
  or_else-with_item leaf second = refl
  or_else-with_item (fork _ _ _ _ _) second = refl

  cond-with_item : (test : Bool) (first second : Shape T) → with_item at new (cond test first second) ≡ cond test (with_item at new first) (with_item at new second)
  cond-with_item true first second = refl
  cond-with_item false first second = refl

  pub subtree_at-with_item : (wanted : ℕ) (tree : Shape T) → subtree_at wanted (with_item at new tree) ≡ with_item at new (subtree_at wanted tree)
  subtree_at-with_item wanted leaf = refl
  subtree_at-with_item wanted (fork shade before own held after) =
      let node : Shape T = fork shade before own held after in
      let inner : or_else (subtree_at wanted (with_item at new before)) (subtree_at wanted (with_item at new after)) ≡ with_item at new (or_else (subtree_at wanted before) (subtree_at wanted after))
      = ap (λ tree. or_else tree (subtree_at wanted (with_item at new after))) (subtree_at-with_item wanted before)
      ∙ ap (λ tree. or_else (with_item at new (subtree_at wanted before)) tree) (subtree_at-with_item wanted after)
      ∙ sym (or_else-with_item (subtree_at wanted before) (subtree_at wanted after)) in
      ap (λ (tree : Shape T). cond (eqb wanted own) (with_item at new node) tree) inner
      ∙ sym (cond-with_item (eqb wanted own) node (or_else (subtree_at wanted before) (subtree_at wanted after)))

  pub left_subtree-with_item : (tree : Shape T) → left_subtree (with_item at new tree) ≡ with_item at new (left_subtree tree)
  left_subtree-with_item leaf = refl
  left_subtree-with_item (fork _ _ _ _ _) = refl

  pub right_subtree-with_item : (tree : Shape T) → right_subtree (with_item at new tree) ≡ with_item at new (right_subtree tree)
  right_subtree-with_item leaf = refl
  right_subtree-with_item (fork _ _ _ _ _) = refl

  pub rank-with_item : (tree : Shape T) → rank (with_item at new tree) ≡ rank tree
  rank-with_item tree = grind (arith, black_levels-with_item)

  height-with_item : (tree : Shape T) → height (with_item at new tree) ≡ height tree
  height-with_item leaf = refl
  height-with_item (fork shade before own held after) =
      ap (λ (left : ℕ). max left (height (with_item at new after)) + 1) (height-with_item before)
      ∙ ap (λ (right : ℕ). max (height before) right + 1) (height-with_item after)

  RanksFall-with_item : (tree : Shape T) → RanksFall tree → RanksFall (with_item at new tree)
  RanksFall-with_item leaf falls = tt
  RanksFall-with_item (fork shade before own held after) falls =
      let left = rank-with_item before in
      let right = rank-with_item after in
      let whole = rank-with_item (fork shade before own held after) in
      let near = falls.0 in
      let far = falls.1 in
      (omega arith, omega arith, RanksFall-with_item before falls.2, RanksFall-with_item after falls.3)

  length-set_item : (list : List (ℕ × T)) → length (set_item list) ≡ length list
  length-set_item [] = refl
  length-set_item (entry ∷ rest) = omega (arith, length-set_item rest)

  pub IsCore-with_item : (tree : Shape T) → IsCore tree → IsCore (with_item at new tree)
  IsCore-with_item tree core =
      let same : length (entries (with_item at new tree)) ≡ length (entries tree) = ap (λ (list : List (ℕ × T)). length list) (entries-with_item tree) ∙ length-set_item (entries tree) in
      let heights = height-with_item tree in
      let low = core.low in
      record {
        handles = AreHandles-with_item at new tree core.handles;
        balanced = IsRedBlack-with_item at new tree core.balanced;
        falls = RanksFall-with_item tree core.falls;
        low = omega (arith, rank-with_item tree);
        bounded = λ levels few. omega (arith, rank-with_item tree, core.bounded levels (omega (arith, rank-with_item tree)));
      }
