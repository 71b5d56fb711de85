-- A descent from which expired entries go: as long as none has gone, it is the search path of a test, and all on it are live.
use Rattle.std.proofs.Common.{◌≡◌, ◌≢◌, ℕ, ◌<◌, Bool, true, false, not, ◌∷◌, ◌++◌, length, if◌then◌else◌, refl, sym, ap, ◌∙◌, subst, arith}
use Rattle.std.specs.List.{All, filter}
use Rattle.std.proofs.lemmas.Bool.{both_ways}
use Rattle.std.proofs.lemmas.List.{append_cancel_left, length-map, map-append}
use Rattle.std.proofs.lemmas.List.Elements.{All-nil, All-cons, All-head, All-tail}
use Rattle.i_tree.proofs.RbLemmas.SearchPath.Descent.{IsChosen, IsTop}
use Rattle.std.specs.Ordering.{is_gt, is_lt}
use Rattle.std.specs.declared.cmp.Ordering.{Ordering}
use Rattle.std.specs.declared.cmp.Ordering.TheVariants.{Equal}
use Rattle.i_tree.specs.Expiring.Descent.{FollowsPath, MayCall}
use Rattle.i_tree.proofs.RootLemmas.Joined.{All-behind, All-front}
use Rattle.i_tree.proofs.RootLemmas.Lists.{All-from_filter}
use Rattle.i_tree.specs.Expiring.Tree.{items}
use Rattle.i_tree.specs.Root.Pairs.{NoKey}
use Rattle.i_tree.specs.Expiring.SearchPath.{path_by}
use Rattle.i_tree.specs.Rb.RbTree.{Contents}
use Rattle.i_tree.specs.Rb.SearchPath.{AnswersAs}
use Rattle.i_tree.specs.Rb.Shape.{Shape, leaf, fork, entries, left_subtree, right_subtree, left_at, right_at, subtree_at}

-- a core has as many items as entries
pub length-items : {T : Type 0} (tree : Shape T) → length (items tree) ≡ length (entries tree)
length-items {T} tree = length-map (entries tree) (λ (entry : ℕ × T). entry.1)

module _ {K V : Type 0} where
  -- the search path on from the top of a subtree
  path_here : (passes : K → Bool) (subtree : Shape (K × V)) (here : ℕ) (pair : K × V) → entries subtree ≡ entries (left_subtree subtree) ++ (here, pair) ∷ entries (right_subtree subtree)
      → path_by passes subtree ≡ pair ∷ (if passes pair.0 then path_by passes (right_subtree subtree) else path_by passes (left_subtree subtree))
  path_here passes subtree here pair is = grind (arith, append_cancel_left)

  module _ (is_live : K → Bool) (MayAnswer : K → Ordering → Type 0) where
    abbrev Lives : K × V → Type 0
    Lives pair = is_live pair.0 ≡ true

    pub record IsFollowed (old core : Contents (K × V)) (here : ℕ) : Type 0 where
      pub all_live : (passes : K → Bool) → AnswersAs MayAnswer passes → length (entries core.shape) ≡ length (entries old.shape)
          → All Lives (path_by passes (subtree_at here core.shape)) → All Lives (path_by passes old.shape)
      pub none_gone : (passes : K → Bool) → AnswersAs MayAnswer passes → All Lives (path_by passes old.shape)
          → (core ≡ old) × All Lives (path_by passes (subtree_at here core.shape))

    pub followed_top : (old : Contents (K × V)) (here : ℕ) → subtree_at here old.shape ≡ old.shape → IsFollowed old old here
    followed_top old here is =
        record {
          all_live = λ passes answers same all. subst (λ subtree. All Lives (path_by passes subtree)) is all;
          none_gone = λ passes answers all. (refl, subst (λ subtree. All Lives (path_by passes subtree)) (sym is) all);
        }

    -- where the path has ended
    pub followed_end : (old core : Contents (K × V)) (here : ℕ) → subtree_at here core.shape ≡ leaf → IsFollowed old core here → FollowsPath is_live MayAnswer old core
    followed_end old core here empty followed =
        record {
          all_live = λ passes answers same. followed.all_live passes answers same (subst (λ subtree. All Lives (path_by passes subtree)) (sym empty) (All-nil Lives));
          none_gone = λ passes answers all. (followed.none_gone passes answers all).0;
        }

    module _ (old core : Contents (K × V)) (here : ℕ) (pair : K × V) (subtrees : entries (subtree_at here core.shape) ≡ entries (left_at here core.shape) ++ (here, pair) ∷ entries (right_at here core.shape)) (followed : IsFollowed old core here) where
      -- a live entry is followed by the subtree on its right where it passes, and else by that on its left
      pub followed_on : (left right : ℕ) → IsTop core.shape (left_at here core.shape) left → IsTop core.shape (right_at here core.shape) right
          → (answer : Ordering) (passed : Bool) → passed ≡ not (is_gt answer) → (next : ℕ) → IsChosen passed right left next → MayCall is_live MayAnswer pair answer → IsFollowed old core next
      followed_on left right on_left on_right answer passed is next chosen called =
          record {
            all_live = λ passes answers same all. followed.all_live passes answers same (subst (All Lives) (sym (way passes answers)) (All-cons Lives pair (path_by passes (subtree_at next core.shape)) called.0 all));
            none_gone = λ passes answers all.
                let (same, rest) = followed.none_gone passes answers all in
                (same, All-tail Lives pair (path_by passes (subtree_at next core.shape)) (subst (All Lives) (way passes answers) rest));
          }
        where
          chosen_subtree : (passes : K → Bool) (b : Bool) → IsChosen b right left next → (if b then path_by passes (right_at here core.shape) else path_by passes (left_at here core.shape)) ≡ path_by passes (subtree_at next core.shape)
          chosen_subtree passes true chosen = ap (path_by passes) (sym on_right.is ∙ ap (λ child. subtree_at child core.shape) (sym (chosen.0 refl)))
          chosen_subtree passes false chosen = ap (path_by passes) (sym on_left.is ∙ ap (λ child. subtree_at child core.shape) (sym (chosen.1 refl)))

          way : (passes : K → Bool) → AnswersAs MayAnswer passes → path_by passes (subtree_at here core.shape) ≡ pair ∷ path_by passes (subtree_at next core.shape)
          way passes answers =
              path_here passes (subtree_at here core.shape) here pair subtrees
              ∙ ap (λ rest. pair ∷ rest)
              (ap (λ b. if b then path_by passes (right_at here core.shape) else path_by passes (left_at here core.shape)) (sym (answers pair.0 answer called.1) ∙ sym is)
              ∙ chosen_subtree passes passed chosen)

      -- once an expired entry has gone, not all on the search path were live
      pub followed_gone : (core' : Contents (K × V)) (next : ℕ) → is_live pair.0 ≡ false → length (entries core'.shape) < length (entries old.shape) → IsFollowed old core' next
      followed_gone core' next expired less =
          record {
            all_live = λ passes answers same. absurd (omega (arith, same, less));
            none_gone = λ passes answers all.
                let rest = (followed.none_gone passes answers all).1 in
                let on = subst (All Lives) (path_here passes (subtree_at here core.shape) here pair subtrees) rest in
                absurd (both_ways (is_live pair.0) expired (All-head Lives pair (if passes pair.0 then path_by passes (right_at here core.shape) else path_by passes (left_at here core.shape)) on));
          }

-- two search paths by tests that agree
module _ {K V : Type 0} (p q : K → Bool) where
  pub path_same : (tree : Shape (K × V)) → All (λ pair. p pair.0 ≡ q pair.0) (path_by p tree) → path_by q tree ≡ path_by p tree
  path_same leaf agree = refl
  path_same (fork colour before handle pair after) agree =
      let Agree : K × V → Type 0 = λ other. p other.0 ≡ q other.0 in
      let here = All-head Agree pair (if p pair.0 then path_by p after else path_by p before) agree in
      ap (λ rest. pair ∷ rest) (by (path_same after) (path_same before) (p pair.0) (q pair.0) here (All-tail Agree pair (if p pair.0 then path_by p after else path_by p before) agree))
    where
      AreSame : Shape (K × V) → Type 0
      AreSame tree = All (λ other. p other.0 ≡ q other.0) (path_by p tree) → path_by q tree ≡ path_by p tree

      by : AreSame after → AreSame before → (a b : Bool) → a ≡ b → All (λ other. p other.0 ≡ q other.0) (if a then path_by p after else path_by p before)
          → (if b then path_by q after else path_by q before) ≡ (if a then path_by p after else path_by p before)
      by on_right on_left true true same rest = on_right rest
      by on_right on_left true false same rest = absurd (cc same)
      by on_right on_left false true same rest = absurd (cc same)
      by on_right on_left false false same rest = on_left rest

-- what holds of all pairs holds of those on a search path
pub All-path : {K V : Type 0} (P : K × V → Type 0) (p : K → Bool) (tree : Shape (K × V)) → All P (items tree) → All P (path_by p tree)
All-path P p leaf all = All-nil P
All-path {K} {V} P p (fork colour before handle pair after) all =
    let whole : items (fork colour before handle pair after) ≡ items before ++ pair ∷ items after = map-append (λ (entry : ℕ × (K × V)). entry.1) (entries before) ((handle, pair) ∷ entries after) in
    let cut = subst (All P) whole all in
    let behind = All-behind P (items before) (pair ∷ items after) cut in
    All-cons P pair (if p pair.0 then path_by p after else path_by p before) (All-head P pair (items after) behind)
    (by (p pair.0) (All-path P p after (All-tail P pair (items after) behind)) (All-path P p before (All-front P (items before) (pair ∷ items after) cut)))
  where
    by : (b : Bool) → All P (path_by p after) → All P (path_by p before) → All P (if b then path_by p after else path_by p before)
    by true on_right on_left = on_right
    by false on_right on_left = on_left

-- Where no live key compares Equal, tests that tell other keys alike have one search path as long as all on it is live.
module _ {K V : Type 0} (cmp : K → K → Ordering) (key : K) (is_live : K → Bool) (p q : K → Bool) (alike : (other : K) → cmp other key ≢ Equal → p other ≡ q other)
    (tree : Shape (K × V)) (absent : NoKey cmp (filter (λ pair. is_live pair.0) (items tree)) key) where
  pub path_live : All (λ (pair : K × V). is_live pair.0 ≡ true) (path_by p tree) → All (λ (pair : K × V). is_live pair.0 ≡ true) (path_by q tree)
  path_live lives =
      let differs = All-path (λ (pair : K × V). is_live pair.0 ≡ true → cmp pair.0 key ≢ Equal) p tree (All-from_filter (λ (pair : K × V). is_live pair.0) (λ (pair : K × V). cmp pair.0 key ≢ Equal) (items tree) absent) in
      subst (All (λ (pair : K × V). is_live pair.0 ≡ true)) (sym (path_same p q tree (λ k d within. alike _ (differs k d within (lives k d within))))) lives

-- what isn't Greater is Less, where it isn't Equal
pub not_gt-lt : (r : Ordering) → r ≢ Equal → not (is_gt r) ≡ is_lt r
not_gt-lt r differs = grind arith
