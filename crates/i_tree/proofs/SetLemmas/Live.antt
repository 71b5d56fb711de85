-- The handles that a set answers are live, a search for one tells whether a key is there, and a set that loses a value stays in
-- order.
use Rattle.std.proofs.Common.{◌≡◌, ◌≢◌, ℕ, zero, suc, inl, inr, ◌+◌, List, [], ◌∷◌, ◌++◌, map, length, get_or, refl, sym, ap, ◌∙◌, subst, arith, append_assoc, length-append}
use Rattle.std.specs.Cmp.{IsTotalOrder}
use Rattle.std.specs.List.{All, AllPairs, Any, Contains}
use Rattle.std.specs.Ordering.{ordering_reverse}
use Rattle.std.specs.declared.cmp.Ordering.{Ordering}
use Rattle.std.specs.declared.cmp.Ordering.TheVariants.{Less, Equal, Greater}
use Rattle.std.proofs.lemmas.List.{length-map, map-append}
use Rattle.std.proofs.lemmas.List.Elements.{All-append, All-contains, All-tail, All-weaker}
use Rattle.i_tree.proofs.RootLemmas.Lists.{AllPairs-tail, Contains-here, Contains-there}
use Rattle.i_tree.proofs.RootLemmas.Joined.{Any-here, Any-there, Any-behind, AllPairs-append, AllPairs-across, AllPairs-behind, AllPairs-front, AllPairs-of_map, AllPairs-to_map, All-to_map, last_cut}
use Rattle.i_tree.proofs.SetLemmas.Search.{below_from_ordered, ordered_from_below, last_handle-end}
use Rattle.i_tree.specs.Set.Pairs.{AreApart, values, by_key, HasHandle, IsOrdered, HoldsKey, LacksKey, IsFoundBy}
use Rattle.i_tree.specs.Rb.Shape.{Shape, entries, first_handle, last_handle}
use Rattle.i_tree.specs.Rb.SearchPath.{FindsNotAbove, SearchesBetween}
use Rattle.i_tree.specs.Root.Ends.{LastFinds}
use Rattle.i_tree.specs.declared.rb.place.Place.{Place}
use Rattle.i_tree.specs.declared.TheConstants.{EMPTY_REF}

module _ {X : Type 0} where
  -- a list is cut at each of its items
  pub cut_at_item : (xs : List X) (x : X) → Contains xs x → (front : List X) × (back : List X) × (xs ≡ front ++ x ∷ back)
  cut_at_item [] x (k, within, is) = absurd (omega (arith, within))
  cut_at_item (y ∷ ys) x (zero, within, is) = ([], ys, ap (λ z. z ∷ ys) is)
  cut_at_item (y ∷ ys) x (suc k, within, is) =
      let (front, back, cut) = cut_at_item ys x (k, omega (arith, within), is) in
      (y ∷ front, back, ap (λ zs. y ∷ zs) cut)

  pub Any-of_map : {Y : Type 0} (P : Y → Type 0) (f : X → Y) (xs : List X) → Any P (map f xs) → (x : X) × Contains xs x × P (f x)
  Any-of_map P f [] (k, y, within, at, meets) = absurd (omega (arith, within))
  Any-of_map P f (x ∷ xs) (zero, y, within, at, meets) = (x, Contains-here x xs, subst P (sym at) meets)
  Any-of_map P f (x ∷ xs) (suc k, y, within, at, meets) =
      let (found, there, is) = Any-of_map P f xs (k, y, omega (arith, within), at, meets) in
      (found, Contains-there x xs found there, is)

module _ {V : Type 0} where
  -- pairs are cut at each of their handles
  cut_at_handle : (pairs : List (ℕ × V)) (handle : ℕ) → HasHandle pairs handle → (front : List (ℕ × V)) × (value : V) × (back : List (ℕ × V)) × (pairs ≡ front ++ (handle, value) ∷ back)
  cut_at_handle pairs handle (k, pair, within, at, is) =
      let (front, back, cut) = cut_at_item pairs pair (k, within, at) in
      (front, pair.1, back, cut ∙ ap (λ (number : ℕ). front ++ (number, pair.1) ∷ back) is)

  -- pairs that lose one, by their values
  pub length-loses : (pairs after : List (ℕ × V)) (handle : ℕ) → HasHandle pairs handle
      → ((front : List (ℕ × V)) (value : V) (back : List (ℕ × V)) → pairs ≡ front ++ (handle, value) ∷ back → values after ≡ values front ++ values back)
      → length after + 1 ≡ length pairs
  length-loses pairs after handle has loses =
      let (front, value, back, cut) = cut_at_handle pairs handle has in
      let second : ℕ × V → V = λ pair. pair.1 in
      let left = ap length (loses front value back cut) ∙ length-append (values front) (values back) in
      omega (arith, left, length-map after second, length-map front second, length-map back second, ap length cut ∙ length-append front ((handle, value) ∷ back))

  pub HasHandle-middle : (front : List (ℕ × V)) (handle : ℕ) (value : V) (back : List (ℕ × V)) → HasHandle (front ++ (handle, value) ∷ back) handle
  HasHandle-middle front handle value back =
      let P : ℕ × V → Type 0 = λ pair. pair.0 ≡ handle in
      Any-behind P front ((handle, value) ∷ back) (Any-here P (handle, value) back refl)

  -- the last handle in front of a place is live
  pub HasHandle-last : (pairs front back : List (ℕ × V)) (handle : ℕ) → pairs ≡ front ++ back → handle ≡ last_handle front → handle ≢ EMPTY_REF → HasHandle pairs handle
  HasHandle-last pairs [] back handle cut is some = absurd (some is)
  HasHandle-last pairs (first ∷ more) back handle cut is some =
      let (rest, last, ends) = last_cut first more in
      let same : last.0 ≡ handle = sym (is ∙ ap last_handle ends ∙ last_handle-end rest last) in
      let whole : pairs ≡ rest ++ (handle, last.1) ∷ back =
      cut ∙ ap (λ (front : List (ℕ × V)). front ++ back) ends ∙ append_assoc rest (last ∷ []) back ∙ ap (λ (number : ℕ). rest ++ (number, last.1) ∷ back) same in
      subst (λ (ps : List (ℕ × V)). HasHandle ps handle) (sym whole) (HasHandle-middle rest handle last.1 back)

  -- so is the first handle behind a place
  pub HasHandle-first : (pairs front back : List (ℕ × V)) (handle : ℕ) → pairs ≡ front ++ back → handle ≡ first_handle back → handle ≢ EMPTY_REF → HasHandle pairs handle
  HasHandle-first pairs front [] handle cut is some = absurd (some is)
  HasHandle-first pairs front (first ∷ rest) handle cut is some =
      subst (λ (ps : List (ℕ × V)). HasHandle ps handle) (sym (cut ∙ ap (λ (number : ℕ). front ++ (number, first.1) ∷ rest) (sym is))) (HasHandle-middle front handle first.1 rest)

  -- so is one that a search has found
  pub HasHandle-found : (MayAnswer : V → Ordering → Type 0) (tree : Shape V) (place : Place) (found : ℕ) (said : Ordering) → SearchesBetween MayAnswer tree place found said → found ≢ EMPTY_REF → HasHandle (entries tree) found
  HasHandle-found MayAnswer tree place found said end some = by_last end.before
    where
      by_last : LastFinds (FindsNotAbove MayAnswer) (EMPTY_REF, Greater) end.front (found, said) → HasHandle (entries tree) found
      by_last (inl (none, is)) = absurd (some (ap (λ (answer : ℕ × Ordering). answer.0) is))
      by_last (inr (rest, last, cut, finds)) =
          let whole : entries tree ≡ rest ++ (found, last.1) ∷ end.back =
          end.between.cut ∙ ap (λ (front : List (ℕ × V)). front ++ end.back) cut ∙ append_assoc rest (last ∷ []) end.back ∙ ap (λ (number : ℕ). rest ++ (number, last.1) ∷ end.back) (sym finds.0) in
          subst (λ (pairs : List (ℕ × V)). HasHandle pairs found) (sym whole) (HasHandle-middle rest found last.1 end.back)

  -- so is the handle before a live one
  pub HasHandle-before : (pairs : List (ℕ × V)) (handle before : ℕ) → HasHandle pairs handle
      → ((front : List (ℕ × V)) (value : V) (back : List (ℕ × V)) → pairs ≡ front ++ (handle, value) ∷ back → before ≡ last_handle front)
      → before ≢ EMPTY_REF → HasHandle pairs before
  HasHandle-before pairs handle before has is =
      let (front, value, back, cut) = cut_at_handle pairs handle has in
      HasHandle-last pairs front ((handle, value) ∷ back) before cut (is front value back cut)

  -- and the handle after a live one
  pub HasHandle-after : (pairs : List (ℕ × V)) (handle after : ℕ) → HasHandle pairs handle
      → ((front : List (ℕ × V)) (value : V) (back : List (ℕ × V)) → pairs ≡ front ++ (handle, value) ∷ back → after ≡ first_handle back)
      → after ≢ EMPTY_REF → HasHandle pairs after
  HasHandle-after pairs handle after has is =
      let (front, value, back, cut) = cut_at_handle pairs handle has in
      HasHandle-first pairs (front ++ (handle, value) ∷ []) back after (cut ∙ sym (append_assoc front ((handle, value) ∷ []) back)) (is front value back cut)

  -- whatever joins, each handle stays live
  pub HasHandle-joined : (old new front back : List (ℕ × V)) (pair : ℕ × V) → old ≡ front ++ back → new ≡ front ++ pair ∷ back → (handle : ℕ) → HasHandle old handle → HasHandle new handle
  HasHandle-joined old new front back pair was is handle has =
      subst (λ (pairs : List (ℕ × V)). HasHandle pairs handle) (sym is) (by_place front (subst (λ (pairs : List (ℕ × V)). HasHandle pairs handle) was has))
    where
      by_place : (front : List (ℕ × V)) → HasHandle (front ++ back) handle → HasHandle (front ++ pair ∷ back) handle
      by_place [] has = Any-there (λ (other : ℕ × V). other.0 ≡ handle) pair back has
      by_place (first ∷ rest) (zero, found, within, at, same) = (0, found, omega arith, at, same)
      by_place (first ∷ rest) (suc k, found, within, at, same) =
          Any-there (λ (other : ℕ × V). other.0 ≡ handle) first (rest ++ pair ∷ back) (by_place rest (k, found, omega (arith, within), at, same))

module _ {K V : Type 0} (key_of : V → K) (cmp : K → K → Ordering) where
  -- a value whose key compares Equal is one that holds the key
  pub HoldsKey-cut : (key : K) (pairs front : List (ℕ × V)) (handle : ℕ) (value : V) (back : List (ℕ × V)) → pairs ≡ front ++ (handle, value) ∷ back → cmp (key_of value) key ≡ Equal → HoldsKey key_of cmp pairs key
  HoldsKey-cut key pairs front handle value back cut equal =
      let P : K × ℕ → Type 0 = λ pair. cmp pair.0 key ≡ Equal in
      let keyed : ℕ × V → K × ℕ = λ pair. (key_of pair.1, pair.0) in
      subst (Any P) (sym (ap (by_key key_of) cut ∙ map-append keyed front ((handle, value) ∷ back)))
      (Any-behind P (by_key key_of front) (by_key key_of ((handle, value) ∷ back))
      (Any-here P (key_of value, handle) (by_key key_of back) equal))

  -- a key is not both there and not
  pub key_apart : (key : K) (pairs : List (ℕ × V)) → HoldsKey key_of cmp pairs key → LacksKey key_of cmp pairs key → ⊥
  key_apart key pairs (k, pair, within, at, equal) lacks = lacks k pair within (ap (λ (pair : K × ℕ). cmp pair.0 key) at ∙ equal)

  -- where all in front are below the key and all behind above it, it is not there
  pub LacksKey-between : (o : IsTotalOrder cmp) (key : K) (pairs front back : List (ℕ × V)) → pairs ≡ front ++ back
      → All (λ pair. cmp (key_of pair.1) key ≡ Less) front → All (λ pair. cmp key (key_of pair.1) ≡ Less) back → LacksKey key_of cmp pairs key
  LacksKey-between o key pairs front back cut lows highs =
      let Apart : ℕ × V → Type 0 = λ pair. cmp (key_of pair.1) key ≢ Equal in
      All-to_map (λ (pair : K × ℕ). cmp pair.0 key ≢ Equal) (λ (pair : ℕ × V). (key_of pair.1, pair.0)) pairs
      (subst (All Apart) (sym cut)
      (All-append Apart front back
      (λ k d within equal. let low = lows k d within in cc (low, equal))
      (λ k d within equal. let high = highs k d within in let turned = o.antisymm key (key_of (get_or back k d).1) in absurd (less_not_equal (sym high ∙ turned ∙ ap ordering_reverse equal)))))
    where
      less_not_equal : Less ≡ Equal → ⊥
      less_not_equal same = cc

  module _ (key : K) (pairs : List (ℕ × V)) (found : ℕ) where
    abbrev SaysValue : V → Type 0
    SaysValue value = (front : List (ℕ × V)) (held : V) (back : List (ℕ × V)) → pairs ≡ front ++ (found, held) ∷ back → value ≡ held

    -- a value that is found at a handle holds its key
    pub HoldsKey-found : (value : V) → HasHandle pairs found → SaysValue value → cmp (key_of value) key ≡ Equal → HoldsKey key_of cmp pairs key
    HoldsKey-found value has says equal =
        let (front, held, back, cut) = cut_at_handle pairs found has in
        HoldsKey-cut key pairs front found held back cut (ap (λ (v : V). cmp (key_of v) key) (sym (says front held back cut)) ∙ equal)

    -- where the answer of a search for the key is no handle, or its value has another key, the key is not there
    at_answer : (differs : (pair : ℕ × V) → Contains pairs pair → found ≡ pair.0 → cmp (key_of pair.1) key ≢ Equal)
        → IsFoundBy key_of cmp (λ other. cmp other key) pairs found → LacksKey key_of cmp pairs key
    at_answer differs (inr none) = none.0
    at_answer differs (inl here) =
        let (pair, there, (equal, is)) = Any-of_map (λ (pair : K × ℕ). (cmp pair.0 key ≡ Equal) × (found ≡ pair.1)) (λ (pair : ℕ × V). (key_of pair.1, pair.0)) pairs here in
        absurd (differs pair there is equal)

    pub LacksKey-none : AreApart pairs → found ≡ EMPTY_REF → IsFoundBy key_of cmp (λ other. cmp other key) pairs found → LacksKey key_of cmp pairs key
    LacksKey-none apart none =
        at_answer (λ pair there is equal. All-contains (λ (pair : ℕ × V). pair.0 ≢ EMPTY_REF) pairs pair apart.1 there (sym is ∙ none))

    pub LacksKey-other : (value : V) → SaysValue value → cmp (key_of value) key ≢ Equal → IsFoundBy key_of cmp (λ other. cmp other key) pairs found → LacksKey key_of cmp pairs key
    LacksKey-other value says differs =
        at_answer (λ pair there is equal.
        let (front, back, cut) = cut_at_item pairs pair there in
        let at_found : pairs ≡ front ++ (found, pair.1) ∷ back = cut ∙ ap (λ (number : ℕ). front ++ (number, pair.1) ∷ back) (sym is) in
        differs (ap (λ (v : V). cmp (key_of v) key) (says front pair.1 back at_found) ∙ equal))

  module _ (o : IsTotalOrder cmp) where
    -- values of which one goes stay in order
    pub IsOrdered-loses : (old new : List (ℕ × V)) (handle : ℕ) → HasHandle old handle
        → ((front : List (ℕ × V)) (value : V) (back : List (ℕ × V)) → old ≡ front ++ (handle, value) ∷ back → values new ≡ values front ++ values back)
        → IsOrdered key_of cmp old → IsOrdered key_of cmp new
    IsOrdered-loses old new handle has loses ordered =
        let (front, value, back, cut) = cut_at_handle old handle has in
        let Below : V → V → Type 0 = λ earlier later. cmp (key_of earlier) (key_of later) ≡ Less in
        let second : ℕ × V → V = λ pair. pair.1 in
        let cut_values : values old ≡ values front ++ value ∷ values back = ap values cut ∙ map-append second front ((handle, value) ∷ back) in
        let all = subst (AllPairs Below) cut_values (AllPairs-to_map Below second old (below_from_ordered key_of o old ordered)) in
        let across = AllPairs-across Below (values front) (value ∷ values back) all in
        let left = AllPairs-append Below (values front) (values back)
        (AllPairs-front Below (values front) (value ∷ values back) all)
        (AllPairs-tail Below value (values back) (AllPairs-behind Below (values front) (value ∷ values back) all))
        (All-weaker (λ earlier. All (Below earlier) (value ∷ values back)) (λ earlier. All (Below earlier) (values back)) (λ earlier. All-tail (Below earlier) value (values back)) (values front) across) in
        ordered_from_below key_of o new (AllPairs-of_map Below second new (subst (AllPairs Below) (sym (loses front value back cut)) left))
