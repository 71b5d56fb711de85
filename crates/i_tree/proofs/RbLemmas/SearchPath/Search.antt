-- A search that removes nothing.
use Rattle.std.proofs.Common.{arith, ◌≡◌, ◌≢◌, ℕ, Bool, true, false, not, List, [], ◌∷◌, ◌++◌, sym, ap, ◌∙◌, subst, inl, inr, append_assoc}
use Rattle.std.specs.Borrow.{Bor}
use Rattle.std.specs.Cmp.{IsTotalOrder}
use Rattle.std.specs.List.{All, AllPairs}
use Rattle.std.specs.Ordering.{is_eq, is_gt, is_le, ordering_reverse}
use Rattle.std.specs.declared.cmp.Ordering.{Ordering}
use Rattle.std.specs.declared.cmp.Ordering.TheVariants.{Less, Equal, Greater}
use Rattle.std.proofs.lemmas.Bool.{both_ways}
use Rattle.std.proofs.lemmas.List.{map-append}
use Rattle.std.proofs.lemmas.List.Elements.{All-head}
use Rattle.i_tree.proofs.RbLemmas.SearchPath.Descent.{IsChosen, IsTop, IsPath, path_on}
use Rattle.i_tree.proofs.RbLemmas.SearchPath.Insertion.{IsBetween, IsLower, IsHigher, keys_between}
use Rattle.i_tree.proofs.RootLemmas.Joined.{All-behind}
use Rattle.i_tree.proofs.RbLemmas.SearchPath.Entries.{IsBelow}
use Rattle.i_tree.specs.Rb.Shape.{Shape, entries, subtree_at, left_at, right_at}
use Rattle.i_tree.specs.Rb.Place.{place_below}
use Rattle.i_tree.specs.Rb.SearchPath.{FindsNotAbove, SearchesBetween}
use Rattle.i_tree.specs.Root.Ends.{LastFinds}
use Rattle.i_tree.specs.Root.BinarySearch.{TakesItems}
use Rattle.i_tree.specs.Rb.Items.{items_of}
use Rattle.i_tree.specs.declared.TheConstants.{EMPTY_REF}
use Rattle.i_tree.specs.declared.rb.place.Place.{Place}

-- what may be asked about each item may be asked about this one
pub takes_item : {T : Type 0} (MayAsk : Bor T → Type 0) (pairs front : List (ℕ × T)) (handle : ℕ) (item : T) (back : List (ℕ × T)) → pairs ≡ front ++ (handle, item) ∷ back
    → TakesItems MayAsk (items_of pairs) → (reference : Bor T) → reference.now ≡ item → MayAsk reference
takes_item {T} MayAsk pairs front handle item back is takes =
    let Takes : T → Type 0 = λ other. (reference : Bor T) → reference.now ≡ other → MayAsk reference in
    let cut = ap items_of is ∙ map-append (λ (pair : ℕ × T). pair.1) front ((handle, item) ∷ back) in
    All-head Takes item (items_of back) (All-behind Takes (items_of front) (item ∷ items_of back) (subst (All Takes) cut takes))

-- the test whether an answer isn't Greater
not_above : (answer : Ordering) → is_le answer ≡ true → is_gt answer ≡ false
not_above answer test = grind arith

above_only : (answer : Ordering) → is_le answer ≡ false → answer ≡ Greater
above_only answer test = grind arith

-- what a selection takes
abbrev pub IsSelected : {X : Type 0} → Bool → X → X → X → Type 0
IsSelected takes_first first other selected = (takes_first ≡ true → selected ≡ first) × (takes_first ≡ false → selected ≡ other)

-- a test that passes is one whose answer isn't Greater
pub le-not_gt : (answer : Ordering) → is_le answer ≡ not (is_gt answer)
le-not_gt answer = grind arith

-- From an entry that was asked about, a search goes on: what holds of the entries behind it then, it holds where the entry passed,
-- and where it was called Greater.
module _ {T : Type 0} (May : T → Ordering → Type 0) (HoldsBehind HoldsThen : List (ℕ × T) → Type 0) (tree : Shape T) (here : ℕ) (some : here ≢ EMPTY_REF) (item : T)
    (subtrees : entries (subtree_at here tree) ≡ entries (left_at here tree) ++ (here, item) ∷ entries (right_at here tree))
    (left right : ℕ) (on_left : IsTop tree (left_at here tree) left) (on_right : IsTop tree (right_at here tree) right) where
  pub search_on : (place : Place) (found : ℕ) (said : Ordering) → IsPath (FindsNotAbove May) HoldsBehind (EMPTY_REF, Greater) tree here place (found, said)
      → (answer : Ordering) → May item answer → (passed : Bool) → passed ≡ is_le answer
      → (passed ≡ true → (back : List (ℕ × T)) → HoldsBehind back → HoldsThen back) → (passed ≡ false → May item Greater → (back : List (ℕ × T)) → HoldsThen ((here, item) ∷ back))
      → (found' : ℕ) (said' : Ordering) (next : ℕ) → IsSelected passed here found found' → IsSelected passed answer said said' → IsChosen passed right left next
      → IsPath (FindsNotAbove May) HoldsThen (EMPTY_REF, Greater) tree next (place_below here passed) (found', said')
  search_on place found said way answer may passed is stays misses found' said' next found_is said_is chosen =
      path_on (FindsNotAbove May) HoldsBehind HoldsThen (EMPTY_REF, Greater) tree here some item subtrees left right on_left on_right place (found, said) way passed next (found', said') chosen
      (λ yes. (
        found_is.0 yes,
        subst (May item) (sym (said_is.0 yes)) may,
        ap is_gt (said_is.0 yes) ∙ not_above answer (sym is ∙ yes),
      ))
      (λ no. let found_same = found_is.1 no in let said_same = said_is.1 no in cc (found_same, said_same))
      stays
      (λ no. misses no (subst (May item) (above_only answer (sym is ∙ no)) may))

-- the tests whether an answer is Equal
pub equal_from : (r : Ordering) → is_eq r ≡ true → r ≡ Equal
equal_from r test = grind arith

pub not_equal_from : (r : Ordering) → is_eq r ≡ false → r ≢ Equal
not_equal_from r test equal = both_ways (is_eq r) test (ap is_eq equal)

-- what is not called Greater and isn't Equal either
pub less_left : (r : Ordering) → is_gt r ≡ false → r ≢ Equal → r ≡ Less
less_left r test differs = grind arith

-- A search by how the keys stand to one has come to its place.
module _ {K T : Type 0} (key_of : T → K) {cmp : K → K → Ordering} (o : IsTotalOrder cmp) (key : K) (tree : Shape T) (place : Place) (found : ℕ) (said : Ordering)
    (MayAnswer : T → Ordering → Type 0) (end : SearchesBetween MayAnswer tree place found said) (asked : (item : T) (answer : Ordering) → MayAnswer item answer → answer ≡ cmp (key_of item) key) where
  -- where none on the search path was called Equal, the keys in front of the place are below it, and those behind above
  pub keys_around : (Also : ℕ × T → Type 0) → ((entry : ℕ × T) → Also entry → cmp (key_of entry.1) key ≡ said → said ≢ Equal) → AllPairs (IsBelow key_of o) (entries tree) → All Also (entries tree)
      → All (IsLower key_of o key) end.front × All (IsHigher key_of o key) end.back
  keys_around Also differs below also =
      keys_between key_of o key end.front end.back between (subst (AllPairs (IsBelow key_of o)) end.between.cut below) (subst (All Also) end.between.cut also)
    where
      between : IsBetween key_of o key (FindsNotAbove MayAnswer) (λ (entry : ℕ × T). MayAnswer entry.1 Greater) Also (EMPTY_REF, Greater) (found, said) end.front end.back
      between =
          record {
            last = end.before;
            first = end.after;
            lower = λ entry too finds. let is = asked entry.1 said finds.1 in sym is ∙ less_left said finds.2 (differs entry too (sym is));
            higher = λ entry _ misses. o.antisymm key (key_of entry.1) ∙ ap ordering_reverse (sym (asked entry.1 Greater misses));
          }

  -- where one was called Equal it is the one found
  pub found_equal : said ≡ Equal → (front : List (ℕ × T)) × (item : T) × (back : List (ℕ × T)) × (entries tree ≡ front ++ (found, item) ∷ back) × (cmp (key_of item) key ≡ Equal)
  found_equal equal = by_last end.before
    where
      by_last : LastFinds (FindsNotAbove MayAnswer) (EMPTY_REF, Greater) end.front (found, said)
          → (front : List (ℕ × T)) × (item : T) × (back : List (ℕ × T)) × (entries tree ≡ front ++ (found, item) ∷ back) × (cmp (key_of item) key ≡ Equal)
      by_last (inl (none, is)) = let greater : said ≡ Greater = ap (λ (answer : ℕ × Ordering). answer.1) is in absurd (cc (greater, equal))
      by_last (inr (rest, last, cut, finds)) = (
        rest,
        last.1,
        end.back,
        end.between.cut ∙ ap (λ list. list ++ end.back) cut ∙ append_assoc rest (last ∷ []) end.back ∙ ap (λ handle. rest ++ (handle, last.1) ∷ end.back) (sym finds.0),
        sym (asked last.1 said finds.1) ∙ equal,
      )
