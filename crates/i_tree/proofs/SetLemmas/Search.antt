-- What a search says of the keys further out, by their order.
use Rattle.std.proofs.Common.{◌≡◌, ℕ, Bool, false, not, List, [], ◌∷◌, ◌++◌, refl, sym, ap, ◌∙◌, subst, inl, inr}
use Rattle.std.specs.Borrow.{Bor}
use Rattle.std.specs.Cmp.{IsTotalOrder}
use Rattle.std.specs.List.{All, AllPairs}
use Rattle.std.specs.List.Sorted.{IsPartitionedBy}
use Rattle.std.specs.Ordering.{is_gt}
use Rattle.std.specs.declared.cmp.Ordering.{Ordering}
use Rattle.std.specs.declared.cmp.Ordering.TheVariants.{Less, Greater}
use Rattle.std.proofs.lemmas.List.{map-append}
use Rattle.std.proofs.lemmas.List.Elements.{All-head}
use Rattle.i_tree.proofs.RbLemmas.SearchPath.Entries.{IsBelow}
use Rattle.i_tree.proofs.RootLemmas.Cuts.{IsCutBy, FindsPassing, cut_between, at_most_at_cut}
use Rattle.i_tree.proofs.RootLemmas.Joined.{All-front, All-behind, All-of_map, All-to_map, AllPairs-of_map, AllPairs-to_map}
use Rattle.i_tree.proofs.RootLemmas.RisingKeys.{IsPartitionedBy-monotone}
use Rattle.i_tree.specs.Root.Ends.{LastFinds, StartsIn}
use Rattle.i_tree.specs.Root.Answer.{AnswersBy, IsMonotone}
use Rattle.i_tree.specs.Set.Pairs.{by_key, values, IsOrdered, IsFoundBy, TakesKeys}
use Rattle.i_tree.specs.Rb.Shape.{Shape, entries, last_handle}
use Rattle.i_tree.specs.Rb.SearchPath.{FindsNotAbove, SearchesBetween}
use Rattle.i_tree.specs.declared.TheConstants.{EMPTY_REF}
use Rattle.i_tree.specs.declared.rb.place.Place.{Place}

pub last_handle-end : {V : Type 0} (front : List (ℕ × V)) (last : ℕ × V) → last_handle (front ++ last ∷ []) ≡ last.0
last_handle-end [] last = refl
last_handle-end (x ∷ []) last = refl
last_handle-end (x ∷ y ∷ ys) last = last_handle-end (y ∷ ys) last

-- what may be asked about each key of the pairs may be asked about that of each value
pub takes_values : {K V : Type 0} (key_of : V → K) (MayAsk : Bor K → Type 0) (pairs : List (ℕ × V)) → TakesKeys key_of MayAsk pairs
    → All (λ value. (key : Bor K) → key.now ≡ key_of value → MayAsk key) (values pairs)
takes_values {K} {V} key_of MayAsk pairs takes =
    let Takes : V → Type 0 = λ value. (key : Bor K) → key.now ≡ key_of value → MayAsk key in
    All-to_map Takes (λ (pair : ℕ × V). pair.1) pairs
    (All-of_map (λ (pair : K × ℕ). (key : Bor K) → key.now ≡ pair.0 → MayAsk key) (λ (pair : ℕ × V). (key_of pair.1, pair.0)) pairs takes)

module _ {K V : Type 0} (key_of : V → K) {cmp : K → K → Ordering} (o : IsTotalOrder cmp) where
  abbrev keyed : ℕ × V → K × ℕ
  keyed pair = (key_of pair.1, pair.0)

  pub below_from_ordered : (pairs : List (ℕ × V)) → IsOrdered key_of cmp pairs → AllPairs (IsBelow key_of o) pairs
  below_from_ordered pairs ordered = AllPairs-of_map (λ (earlier : K × ℕ) later. cmp earlier.0 later.0 ≡ Less) keyed pairs ordered

  pub ordered_from_below : (pairs : List (ℕ × V)) → AllPairs (IsBelow key_of o) pairs → IsOrdered key_of cmp pairs
  ordered_from_below pairs below = AllPairs-to_map (λ (earlier : K × ℕ) later. cmp earlier.0 later.0 ≡ Less) keyed pairs below

  -- Of each value is answered what may be answered of its key.
  module _ (MayAnswer : V → Ordering → Type 0) (May : K → Ordering → Type 0) (of_key : (value : V) (answer : Ordering) → MayAnswer value answer → May (key_of value) answer) (order : K → Ordering) where
    abbrev passes : K → Bool
    passes key = not (is_gt (order key))

    abbrev Says : K × ℕ → Type 0
    Says pair = (answer : Ordering) → May pair.0 answer → answer ≡ order pair.0

    last_keyed : (front : List (ℕ × V)) (found : ℕ) (said : Ordering) → All Says (by_key key_of front) → LastFinds (FindsNotAbove MayAnswer) (EMPTY_REF, Greater) front (found, said)
        → LastFinds (FindsPassing passes) EMPTY_REF (by_key key_of front) found
    last_keyed front found said says (inl (none, is)) = inl (ap (by_key key_of) none, ap (λ (answer : ℕ × Ordering). answer.0) is)
    last_keyed front found said says (inr (rest, last, cut, (is, may, not_above))) =
        let whole : by_key key_of front ≡ by_key key_of rest ++ keyed last ∷ [] = ap (by_key key_of) cut ∙ map-append keyed rest (last ∷ []) in
        let at_last = All-head Says (keyed last) [] (All-behind Says (by_key key_of rest) (keyed last ∷ []) (subst (All Says) whole says)) in
        inr (by_key key_of rest, keyed last, whole, (ap (λ (r : Ordering). not (is_gt r)) (sym (at_last said (of_key last.1 said may))) ∙ ap not not_above, is))

    first_keyed : (back : List (ℕ × V)) → All Says (by_key key_of back) → StartsIn (λ (pair : ℕ × V). MayAnswer pair.1 Greater) back → StartsIn (λ (pair : K × ℕ). passes pair.0 ≡ false) (by_key key_of back)
    first_keyed [] says starts = tt
    first_keyed (pair ∷ rest) says may = ap (λ (r : Ordering). not (is_gt r)) (sym (All-head Says (keyed pair) (by_key key_of rest) says Greater (of_key pair.1 Greater may)))

    found_at_cut : (tree : Shape V) (place : Place) (found : ℕ) (said : Ordering) → SearchesBetween MayAnswer tree place found said → IsOrdered key_of cmp (entries tree)
        → AnswersBy May order (by_key key_of (entries tree)) → IsMonotone cmp order (by_key key_of (entries tree)) → IsFoundBy key_of cmp order (entries tree) found
    found_at_cut tree place found said end ordered answers monotone =
        let whole : by_key key_of (entries tree) ≡ by_key key_of end.front ++ by_key key_of end.back = ap (by_key key_of) end.between.cut ∙ map-append keyed end.front end.back in
        let says_too = subst (All Says) whole answers in
        at_most_at_cut o (by_key key_of (entries tree)) EMPTY_REF found ordered order monotone
        (subst (λ (pairs : List (K × ℕ)). IsCutBy passes pairs EMPTY_REF found) (sym whole)
        (cut_between passes EMPTY_REF found (by_key key_of end.back) (by_key key_of end.front)
        (subst (IsPartitionedBy (λ (pair : K × ℕ). passes pair.0)) whole (IsPartitionedBy-monotone cmp (by_key key_of (entries tree)) order ordered monotone))
        (last_keyed end.front found said (All-front Says (by_key key_of end.front) (by_key key_of end.back) says_too) end.before)
        (first_keyed end.back (All-behind Says (by_key key_of end.front) (by_key key_of end.back) says_too) end.after)))

  -- a search answers the last pair in front of its cut
  pub search_finds : (MayAnswer : V → Ordering → Type 0) (tree : Shape V) (place : Place) (found : ℕ) (said : Ordering) → SearchesBetween MayAnswer tree place found said → IsOrdered key_of cmp (entries tree)
      → (May : K → Ordering → Type 0) → ((value : V) (answer : Ordering) → MayAnswer value answer → May (key_of value) answer) → (order : K → Ordering)
      → AnswersBy May order (by_key key_of (entries tree)) → IsMonotone cmp order (by_key key_of (entries tree)) → IsFoundBy key_of cmp order (entries tree) found
  search_finds MayAnswer tree place found said end ordered May of_key order answers monotone = found_at_cut MayAnswer May of_key order tree place found said end ordered answers monotone
