-- A pair that joins a tree between live ones that were called Less and live ones that were called Greater.
use Rattle.std.proofs.Common.{◌≡◌, ◌≤◌, ◌+◌, Bool, true, false, Result, length, arith, List, [], ◌∷◌, ◌++◌, refl, sym, ap, ◌∙◌, subst, inl, inr}
use Rattle.std.specs.Bool.{MatchBool}
use Rattle.std.specs.List.{All, AllPairs, filter}
use Rattle.std.specs.declared.cmp.Ordering.{Ordering}
use Rattle.std.specs.declared.cmp.Ordering.TheVariants.{Less, Equal, Greater}
use Rattle.std.proofs.lemmas.List.Elements.{All-contains, All-head, filter-append}
use Rattle.i_tree.proofs.ExpiringLemmas.Insertion.{room_grown, room_same}
use Rattle.i_tree.proofs.RootLemmas.Along.{All-above, All-less, NoneEqual-between, Rises}
use Rattle.i_tree.proofs.RootLemmas.Joined.{All-behind, All-front, AllPairs-behind, AllPairs-front}
use Rattle.i_tree.proofs.RootLemmas.Lists.{Contains-filter}
use Rattle.i_tree.proofs.RootLemmas.Withouts.{filter-without}
use Rattle.i_tree.specs.Expiring.Descent.{MayCall}
use Rattle.i_tree.specs.Expiring.Insertion.{CallsEqual, HasPlace, IsBetween, JoinsBetween}
use Rattle.i_tree.specs.Root.Along.{ByEachOrder, HasEqual, IsMonotoneAlong, NoneEqual}
use Rattle.i_tree.specs.Root.Answer.{AnswersBy}
use Rattle.i_tree.specs.Root.Change.{Without}
use Rattle.i_tree.specs.Root.Ends.{EndsIn, LastFinds, StartsIn}
use Rattle.i_tree.specs.Expiring.Tree.{items}
use Rattle.i_tree.specs.Rb.RbTree.{Contents}
use Rattle.i_tree.specs.Status.Insertion.{IsNew, JoinsAlong, JoinsOrLeaves}
use Rattle.i_tree.specs.Status.StatusTree.{StatusTreeInserts}
use Rattle.i_tree.specs.declared.Refusal.{Refusal}

module _ {K V : Type 0} (is_live : K → Bool) (May : K → Ordering → Type 0) where
  abbrev live : List (K × V) → List (K × V)
  live pairs = filter (λ pair. is_live pair.0) pairs

  same_live : (before after : List (K × V)) → Without (λ (pair : K × V). is_live pair.0 ≡ false) before after → live before ≡ live after
  same_live before after kept = filter-without (λ (pair : K × V). is_live pair.0) (λ x expired. expired) kept

  -- by an order the live ones around such a place are called Less and Greater
  module _ (front back : List (K × V)) (between : IsBetween is_live May front back) (order : K → Ordering) (answers : AnswersBy May order (live (front ++ back))) (monotone : IsMonotoneAlong order (live (front ++ back))) where
    abbrev Says : K × V → Type 0
    Says pair = (answer : Ordering) → May pair.0 answer → answer ≡ order pair.0

    cut : live (front ++ back) ≡ live front ++ live back
    cut = filter-append (λ (pair : K × V). is_live pair.0) front back

    says : All Says (live front ++ live back)
    says = subst (All Says) cut answers

    rises : AllPairs (Rises order) (live front ++ live back)
    rises = subst (AllPairs (Rises order)) cut monotone

    less : All (λ pair. order pair.0 ≡ Less) (live front)
    less =
        All-less order Less Less (λ pair answer. (answer ≡ Less) × (order pair.0 ≡ Less)) (λ pair finds. finds.1) (live front) (AllPairs-front (Rises order) (live front) (live back) rises) (by_last between.last)
      where
        by_last : EndsIn (λ pair. MayCall is_live May pair Less) front → LastFinds (λ pair answer. (answer ≡ Less) × (order pair.0 ≡ Less)) Less (live front) Less
        by_last (inl none) = inl (ap live none, refl)
        by_last (inr (rest, last, is, (lives, may))) =
            let whole : live front ≡ live rest ++ last ∷ [] =
            ap live is ∙ filter-append (λ (pair : K × V). is_live pair.0) rest (last ∷ []) ∙ ap (λ (pairs : List (K × V)). live rest ++ pairs) (rw lives refl) in
            let at_last = All-head Says last [] (All-behind Says (live rest) (last ∷ []) (subst (All Says) whole (All-front Says (live front) (live back) says))) in
            inr (live rest, last, whole, (refl, sym (at_last Less may)))

    greater : All (λ pair. order pair.0 ≡ Greater) (live back)
    greater =
        All-above order (live back) (AllPairs-behind (Rises order) (live front) (live back) rises) (by_first back between.first (All-behind Says (live front) (live back) says))
      where
        by_first : (back : List (K × V)) → StartsIn (λ pair. MayCall is_live May pair Greater) back → All Says (live back) → StartsIn (λ (pair : K × V). order pair.0 ≡ Greater) (live back)
        by_first [] starts all = tt
        by_first (pair ∷ rest) (lives, may) all =
            let whole : live (pair ∷ rest) ≡ pair ∷ live rest = rw lives refl in
            subst (StartsIn (λ (other : K × V). order other.0 ≡ Greater)) (sym whole) (sym (All-head Says pair (live rest) (subst (All Says) whole all) Greater may))

    none_equal : NoneEqual order (live (front ++ back))
    none_equal = subst (NoneEqual order) (sym cut) (NoneEqual-between order (live front) (live back) less greater)

  -- so a pair that joined there has joined along the line, and no live key was called Equal
  pub joins_along : (pair : K × V) (before after : List (K × V)) → JoinsBetween is_live May pair before after → JoinsAlong is_live May pair before after
  joins_along pair before after (front, back, kept, between, is) =
      record {
        front = front;
        back = back;
        kept = kept;
        place = is;
        between = subst (λ pairs. ByEachOrder May pairs (λ order. All (λ other. order other.0 ≡ Less) (live front) × All (λ other. order other.0 ≡ Greater) (live back))) (sym (same_live before (front ++ back) kept))
            (λ order answers monotone. (less front back between order answers monotone, greater front back between order answers monotone));
      }

  pub refused_none : (before : List (K × V)) → HasPlace is_live May before → ByEachOrder May (live before) (λ order. NoneEqual order (live before))
  refused_none before (front, back, is, between) =
      subst (λ (pairs : List (K × V)). ByEachOrder May (live pairs) (λ order. NoneEqual order (live pairs))) (sym is) (none_equal front back between)

  joined_none : (pair : K × V) (before after : List (K × V)) → JoinsBetween is_live May pair before after → IsNew May true (live before)
  joined_none pair before after (front, back, kept, between, is) =
      subst (λ pairs. ByEachOrder May pairs (λ order. NoneEqual order pairs)) (sym (same_live before (front ++ back) kept)) (none_equal front back between)

  called_equal : (before after : List (K × V)) → Without (λ (pair : K × V). is_live pair.0 ≡ false) before after → CallsEqual is_live May after → IsNew May false (live before)
  called_equal before after kept (k, pair, within, at, (lives, may)) =
      subst (λ pairs. ByEachOrder May pairs (λ order. HasEqual order pairs)) (sym (same_live before after kept))
      (λ order answers monotone.
      let found = Contains-filter (λ (other : K × V). is_live other.0) after pair lives (k, within, at) in
      let says = All-contains (λ (other : K × V). (answer : Ordering) → May other.0 answer → answer ≡ order other.0) (live after) pair answers found in
      (found.0, pair, found.1, found.2, sym (says Equal may)))

  -- an insertion leaves no less room
  pub room_kept : (old : Contents (K × V)) (result : Result Bool Refusal) (new : Contents (K × V)) → StatusTreeInserts is_live May old result new
      → length (items old.shape) + old.spare ≤ length (items new.shape) + new.spare
  room_kept old result new inserts = grind (arith, room_grown, room_same)

  -- what an insertion answers
  module _ (pair : K × V) (before after : List (K × V)) where
    pub joins_or_leaves : (joined : Bool) → MatchBool joined (JoinsBetween is_live May pair before after) (Without (λ (other : K × V). is_live other.0 ≡ false) before after) → JoinsOrLeaves is_live May joined pair before after
    joins_or_leaves true joins = joins_along pair before after joins
    joins_or_leaves false kept = kept

    pub new_or_equal : (joined : Bool) → MatchBool joined (JoinsBetween is_live May pair before after) (Without (λ (other : K × V). is_live other.0 ≡ false) before after) → (joined ≡ false → CallsEqual is_live May after)
        → IsNew May joined (live before)
    new_or_equal true joins equal = joined_none pair before after joins
    new_or_equal false kept equal = called_equal before after kept (equal refl)
