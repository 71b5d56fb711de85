-- Facts on the subtrees of a tree and on its handles.
use Rattle.std.proofs.Common.{◌≡◌, ◌==◌, ℕ, ◌<◌, ◌≤◌, Bool, true, false, List, [], ◌∷◌, ◌++◌, refl, sym, ap, ◌∙◌, ⊎_elim, arith, append_assoc}
use Rattle.std.specs.Bool.{MatchBool}
use Rattle.std.proofs.lemmas.Bool.{cond_both, eqb-true, eq-eqb, cases_lt}
use Rattle.std.proofs.lemmas.List.{append-nil}
use Rattle.i_tree.proofs.RbLemmas.Shape.Contexts.{occurs_among, occurs_among-append, occurs_among-entries, subtree_at-none}
use Rattle.i_tree.specs.declared.rb.links.Colour.{Colour}
use Rattle.i_tree.specs.Rb.Shape.{Shape, leaf, fork, entries, left_subtree, right_subtree, or_else, subtree_at, rank, RanksFall, occurs, one_if_same}

pub one_from_same : (wanted handle : ℕ) → wanted ≡ handle → one_if_same wanted handle ≡ 1
one_from_same wanted handle same = rw (eq-eqb wanted handle same) refl

module _ {V : Type 0} where
  -- a subtree that a handle has, and what stands in front of it and behind it
  pub record SubtreeAt (wanted : ℕ) (tree : Shape V) : Type 0 where
    pub colour : Colour
    pub before : Shape V
    pub item : V
    pub after : Shape V
    pub is : subtree_at wanted tree ≡ fork colour before wanted item after
    pub front : List (ℕ × V)
    pub back : List (ℕ × V)
    pub cut : entries tree ≡ front ++ (entries (subtree_at wanted tree) ++ back)

  or_else-fork : (first second : Shape V) (colour : Colour) (before : Shape V) (handle : ℕ) (item : V) (after : Shape V) → first ≡ fork colour before handle item after → or_else first second ≡ first
  or_else-fork first second colour before handle item after is = rw is refl

  or_else-leaf : (first second : Shape V) → first ≡ leaf → or_else first second ≡ second
  or_else-leaf first second is = rw is refl

  subtree_here : (wanted : ℕ) (colour : Colour) (before : Shape V) (handle : ℕ) (item : V) (after : Shape V) → wanted ≡ handle → subtree_at wanted (fork colour before handle item after) ≡ fork colour before handle item after
  subtree_here wanted colour before handle item after same = rw (eq-eqb wanted handle same) refl

  subtree_below : (wanted : ℕ) (colour : Colour) (before : Shape V) (handle : ℕ) (item : V) (after : Shape V) → wanted == handle ≡ false → subtree_at wanted (fork colour before handle item after) ≡ or_else (subtree_at wanted before) (subtree_at wanted after)
  subtree_below wanted colour before handle item after differs = rw differs refl

  pub SubtreeAt-live : (wanted : ℕ) (tree : Shape V) → 0 < occurs wanted tree → SubtreeAt wanted tree
  SubtreeAt-live wanted leaf live = absurd (omega (arith, live))
  SubtreeAt-live wanted (fork colour before handle item after) live =
      by_test (wanted == handle) refl (SubtreeAt-live wanted before) (SubtreeAt-live wanted after)
    where
      tree : Shape V
      tree = fork colour before handle item after

      by_test : (b : Bool) → wanted == handle ≡ b → (0 < occurs wanted before → SubtreeAt wanted before) → (0 < occurs wanted after → SubtreeAt wanted after) → SubtreeAt wanted tree
      by_test true same in_before in_after =
          let here : wanted ≡ handle = eqb-true wanted handle same in
          let is = subtree_here wanted colour before handle item after here in
          record {
            colour = colour;
            before = before;
            item = item;
            after = after;
            is = is ∙ ap (λ h. fork colour before h item after) (sym here);
            front = [];
            back = [];
            cut = sym (append-nil (entries (subtree_at wanted tree)) ∙ ap entries is);
          }
      by_test false differs in_before in_after =
          let below = subtree_below wanted colour before handle item after differs in
          ⊎_elim
          (λ some.
          let subtree = in_before some in
          let is : subtree_at wanted tree ≡ subtree_at wanted before = below ∙ or_else-fork (subtree_at wanted before) (subtree_at wanted after) subtree.colour subtree.before wanted subtree.item subtree.after subtree.is in
          record {
            colour = subtree.colour;
            before = subtree.before;
            item = subtree.item;
            after = subtree.after;
            is = is ∙ subtree.is;
            front = subtree.front;
            back = subtree.back ++ (handle, item) ∷ entries after;
            cut = ap (λ pairs. pairs ++ (handle, item) ∷ entries after) subtree.cut
                ∙ append_assoc subtree.front (entries (subtree_at wanted before) ++ subtree.back) ((handle, item) ∷ entries after)
                ∙ ap (λ pairs. subtree.front ++ pairs) (append_assoc (entries (subtree_at wanted before)) subtree.back ((handle, item) ∷ entries after))
                ∙ ap (λ found. subtree.front ++ (entries found ++ (subtree.back ++ (handle, item) ∷ entries after))) (sym is);
          })
          (λ none.
          let absent : occurs wanted before ≡ 0 = omega arith in
          let apart : one_if_same wanted handle ≡ 0 = rw differs refl in
          let subtree = in_after (omega (arith, live, absent, apart)) in
          let is : subtree_at wanted tree ≡ subtree_at wanted after = below ∙ or_else-leaf (subtree_at wanted before) (subtree_at wanted after) (subtree_at-none wanted before absent) in
          record {
            colour = subtree.colour;
            before = subtree.before;
            item = subtree.item;
            after = subtree.after;
            is = is ∙ subtree.is;
            front = entries before ++ (handle, item) ∷ subtree.front;
            back = subtree.back;
            cut = ap (λ pairs. entries before ++ (handle, item) ∷ pairs) subtree.cut
                ∙ sym (append_assoc (entries before) ((handle, item) ∷ subtree.front) (entries (subtree_at wanted after) ++ subtree.back))
                ∙ ap (λ found. (entries before ++ (handle, item) ∷ subtree.front) ++ (entries found ++ subtree.back)) (sym is);
          })
          (cases_lt 0 (occurs wanted before))

  RanksFall-or_else : (first second : Shape V) → RanksFall first → RanksFall second → RanksFall (or_else first second)
  RanksFall-or_else leaf second falls falls_too = falls_too
  RanksFall-or_else (fork colour before handle item after) second falls falls_too = falls

  pub RanksFall-subtree : (wanted : ℕ) (tree : Shape V) → RanksFall tree → RanksFall (subtree_at wanted tree)
  RanksFall-subtree wanted leaf falls = falls
  RanksFall-subtree wanted (fork colour before handle item after) falls =
      let in_before = RanksFall-subtree wanted before falls.2 in
      let in_after = RanksFall-subtree wanted after falls.3 in
      cond_both (wanted == handle) (fork colour before handle item after) (or_else (subtree_at wanted before) (subtree_at wanted after)) RanksFall
      (λ _. falls)
      (λ _. RanksFall-or_else (subtree_at wanted before) (subtree_at wanted after) in_before in_after)

  -- both subtrees of a tree that isn't empty have lower ranks
  pub ranks_below : (tree : Shape V) (front : List (ℕ × V)) (pair : ℕ × V) (back : List (ℕ × V)) → RanksFall tree → entries tree ≡ front ++ pair ∷ back → (rank (left_subtree tree) < rank tree) × (rank (right_subtree tree) < rank tree)
  ranks_below leaf [] pair back falls is = absurd (cc)
  ranks_below leaf (first ∷ rest) pair back falls is = absurd (cc)
  ranks_below (fork colour before handle item after) front pair back falls is = (falls.0, falls.1)

  pub occurs_among-middle : (wanted : ℕ) (front : List (ℕ × V)) (value : V) (back : List (ℕ × V)) → 0 < occurs_among wanted (front ++ (wanted, value) ∷ back)
  occurs_among-middle wanted front value back =
      omega (arith, occurs_among-append wanted front ((wanted, value) ∷ back), one_from_same wanted wanted refl)

  -- a handle that stands once has one value
  pub same_value : (wanted : ℕ) (front : List (ℕ × V)) (value : V) (back : List (ℕ × V)) (front_too : List (ℕ × V)) (value_too : V) (back_too : List (ℕ × V))
      → occurs_among wanted (front ++ (wanted, value) ∷ back) ≤ 1 → front ++ (wanted, value) ∷ back ≡ front_too ++ (wanted, value_too) ∷ back_too → value ≡ value_too
  same_value wanted [] value back [] value_too back_too once same =
      let first : (wanted, value) ≡ (wanted, value_too) = cc in ap (λ (pair : ℕ × V). pair.1) first
  same_value wanted [] value back (pair ∷ front_too) value_too back_too once same = grind (arith, one_from_same, occurs_among, occurs_among-middle)
  same_value wanted (pair ∷ front) value back [] value_too back_too once same = grind (arith, one_from_same, occurs_among-middle)
  same_value wanted (pair ∷ front) value back (other ∷ front_too) value_too back_too once same =
      let rest : front ++ (wanted, value) ∷ back ≡ front_too ++ (wanted, value_too) ∷ back_too = cc in
      same_value wanted front value back front_too value_too back_too (omega (arith, once)) rest

  -- what stands at a handle of the tree
  pub value_at : (wanted : ℕ) (tree : Shape V) (read : V) → occurs wanted tree ≤ 1 → 0 < occurs wanted tree
      → entries (subtree_at wanted tree) ≡ entries (left_subtree (subtree_at wanted tree)) ++ (wanted, read) ∷ entries (right_subtree (subtree_at wanted tree))
      → (front : List (ℕ × V)) (value : V) (back : List (ℕ × V)) → entries tree ≡ front ++ (wanted, value) ∷ back → read ≡ value
  value_at wanted tree read once live subtrees front value back is =
      let subtree = SubtreeAt-live wanted tree live in
      let before = entries (left_subtree (subtree_at wanted tree)) in
      let after = entries (right_subtree (subtree_at wanted tree)) in
      let cut : entries tree ≡ (subtree.front ++ before) ++ (wanted, read) ∷ (after ++ subtree.back) =
      subtree.cut ∙ ap (λ pairs. subtree.front ++ (pairs ++ subtree.back)) subtrees
      ∙ ap (λ pairs. subtree.front ++ pairs) (append_assoc before ((wanted, read) ∷ after) subtree.back)
      ∙ sym (append_assoc subtree.front before ((wanted, read) ∷ (after ++ subtree.back))) in
      same_value wanted (subtree.front ++ before) read (after ++ subtree.back) front value back
      (omega (arith, ap (occurs_among wanted) cut, occurs_among-entries wanted tree, once))
      (sym cut ∙ is)

  -- the pairs of the subtree that a handle has
  pub subtrees_live : (wanted : ℕ) (tree : Shape V) → 0 < occurs wanted tree → (value : V) × (entries (subtree_at wanted tree) ≡ entries (left_subtree (subtree_at wanted tree)) ++ (wanted, value) ∷ entries (right_subtree (subtree_at wanted tree)))
  subtrees_live wanted tree live = let subtree = SubtreeAt-live wanted tree live in (subtree.item, rw subtree.is refl)

  pub live_from_cut : (wanted : ℕ) (tree : Shape V) (front : List (ℕ × V)) (value : V) (back : List (ℕ × V)) → entries tree ≡ front ++ (wanted, value) ∷ back → 0 < occurs wanted tree
  live_from_cut wanted tree front value back is = omega (arith, occurs_among-entries wanted tree, ap (occurs_among wanted) is, occurs_among-middle wanted front value back)

-- a weaker fact for each answer of a test
pub MatchBool-weaker : (b : Bool) (P Q P' Q' : Type 0) → (P → P') → (Q → Q') → MatchBool b P Q → MatchBool b P' Q'
MatchBool-weaker true P Q P' Q' at_true at_false h = at_true h
MatchBool-weaker false P Q P' Q' at_true at_false h = at_false h
