-- A descent counts a comparison for each item on its search path, and no other.
use Rattle.std.proofs.Common.{◌≡◌, ℕ, ◌+◌, Bool, true, false, ◌∷◌, ◌++◌, length, if◌then◌else◌, refl, sym, ap, ◌∙◌, arith}
use Rattle.std.specs.Ordering.{is_le}
use Rattle.std.specs.declared.cmp.Ordering.{Ordering}
use Rattle.std.proofs.lemmas.List.{append_cancel_left}
use Rattle.i_tree.proofs.RbLemmas.SearchPath.Descent.{IsChosen, IsTop}
use Rattle.i_tree.proofs.RbLemmas.SearchPath.Search.{le-not_gt}
use Rattle.i_tree.specs.Rb.SearchPath.{AnswersAs, AsksAlong, way_by}
use Rattle.i_tree.specs.Rb.Shape.{Shape, leaf, fork, entries, left_subtree, right_subtree, left_at, right_at, subtree_at}
use Rattle.i_tree.specs.Root.Steps.{Accumulates, Counts, nothing, together}

-- the search path on from the top of a subtree
way_here : {T : Type 0} (passes : T → Bool) (subtree : Shape T) (here : ℕ) (item : T) → entries subtree ≡ entries (left_subtree subtree) ++ (here, item) ∷ entries (right_subtree subtree)
    → way_by passes subtree ≡ item ∷ (if passes item then way_by passes (right_subtree subtree) else way_by passes (left_subtree subtree))
way_here passes leaf here item is = absurd (cc)
way_here {T} passes (fork colour before handle top after) here item is =
    let rest : (handle, top) ∷ entries after ≡ (here, item) ∷ entries after = append_cancel_left (entries before) ((handle, top) ∷ entries after) ((here, item) ∷ entries after) is in
    let heads : ◌≡◌ {A = ℕ × T} (handle, top) (here, item) = cc in
    let same : top ≡ item = ap (λ (entry : ℕ × T). entry.1) heads in
    ap (λ (x : T). x ∷ (if passes x then way_by passes after else way_by passes before)) same

-- So far so many comparisons were made that with the rest of the search path they are the whole of it, as long as `Holds`: that
-- the tree is what it was at first.
pub record IsAsked {S T : Type 0} (Made : S → S → Counts → Type 0) (May : T → Ordering → Type 0) (Holds : Type 0) (first : Shape T) (old new : S) (rest : Shape T) : Type 0 where
  pub made : Counts
  pub counted : Made old new made
  pub asked : Holds → (passes : T → Bool) → AnswersAs May passes → made.comparisons + length (way_by passes rest) ≡ length (way_by passes first)

module _ {S T : Type 0} {Made : S → S → Counts → Type 0} (law : Accumulates Made) (May : T → Ordering → Type 0) (Holds : Type 0) (first : Shape T) where
  pub asked_top : (state : S) (rest : Shape T) → rest ≡ first → IsAsked Made May Holds first state state rest
  asked_top state rest is =
      record { made = nothing; counted = law.none state; asked = λ _ passes answers. omega (arith, ap (λ subtree. length (way_by passes subtree)) is) }

  -- an item was asked about and counted, and one of its subtrees is chosen
  pub asked_on : (tree : Shape T) (here : ℕ) (item : T) → entries (subtree_at here tree) ≡ entries (left_at here tree) ++ (here, item) ∷ entries (right_at here tree)
      → (left right : ℕ) → IsTop tree (left_at here tree) left → IsTop tree (right_at here tree) right
      → (answer : Ordering) → May item answer → (passed : Bool) → passed ≡ is_le answer → (next : ℕ) → IsChosen passed right left next
      → (old mid new : S) → IsAsked Made May Holds first old mid (subtree_at here tree) → (step : Counts) → Made mid new step → step.comparisons ≡ 1
      → IsAsked Made May Holds first old new (subtree_at next tree)
  asked_on tree here item subtrees left right on_left on_right answer may passed is next chosen old mid new so_far step one once =
      record {
        made = together so_far.made step;
        counted = law.both old mid new so_far.made step so_far.counted one;
        asked = λ holds passes answers. omega (arith, so_far.asked holds passes answers, once, ap length (way passes answers));
      }
    where
      chosen_subtree : (passes : T → Bool) (b : Bool) → IsChosen b right left next → (if b then way_by passes (right_at here tree) else way_by passes (left_at here tree)) ≡ way_by passes (subtree_at next tree)
      chosen_subtree passes true chosen = ap (way_by passes) (sym on_right.is ∙ ap (λ child. subtree_at child tree) (sym (chosen.0 refl)))
      chosen_subtree passes false chosen = ap (way_by passes) (sym on_left.is ∙ ap (λ child. subtree_at child tree) (sym (chosen.1 refl)))

      way : (passes : T → Bool) → AnswersAs May passes → way_by passes (subtree_at here tree) ≡ item ∷ way_by passes (subtree_at next tree)
      way passes answers =
          way_here passes (subtree_at here tree) here item subtrees
          ∙ ap (λ rest. item ∷ rest)
          (ap (λ b. if b then way_by passes (right_at here tree) else way_by passes (left_at here tree)) (sym (answers item answer may) ∙ sym (is ∙ le-not_gt answer))
          ∙ chosen_subtree passes passed chosen)

  -- the path has ended
  pub asked_all : (old new : S) (rest : Shape T) → rest ≡ leaf → Holds → IsAsked Made May Holds first old new rest → AsksAlong Made May old new first
  asked_all old new rest empty holds so_far = grind arith
