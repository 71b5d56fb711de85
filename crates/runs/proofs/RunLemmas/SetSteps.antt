-- Each reply that the runner of set commands gives is a step of the machine.
use Rattle.std.proofs.Common.{◌≡◌, ◌≢◌, ◌⊎◌, ℕ, zero, suc, List, [], ◌∷◌, ◌++◌, map, inl, inr, ⊎_elim, refl, sym, ap, ◌∙◌, subst, arith, append_assoc}
use Rattle.std.specs.Cmp.{IsTotalOrder, alike_right}
use Rattle.std.specs.Ordering.{ordering_reverse}
use Rattle.std.specs.declared.cmp.Ordering.{Ordering}
use Rattle.std.specs.declared.cmp.Ordering.TheVariants.{Less, Equal, Greater}
use Rattle.std.specs.List.{All, AllPairs, Contains}
use Rattle.std.proofs.lemmas.List.{map-append}
use Rattle.std.proofs.lemmas.List.Elements.{All-contains, All-map, All-weaker}
use Rattle.i_tree.specs.Root.Answer.{IsGreatest, GreatestOr}
use Rattle.i_tree.specs.Root.Pairs.{HasKey, NoKey, IsRising}
use Rattle.i_tree.specs.Set.Pairs.{AreApart, values, by_key, HasHandle, HoldsKey, IsOrdered, LacksKey, IsFoundBy}
use Rattle.i_tree.specs.Rb.Shape.{last_handle}
use Rattle.i_tree.specs.declared.TheConstants.{EMPTY_REF}
use Rattle.i_tree.proofs.RootLemmas.Lists.{Contains-here, Contains-there}
use Rattle.i_tree.proofs.RootLemmas.Joined.{All-of_map, AllPairs-of_map, AllPairs-to_map, Contains-middle, last_cut}
use Rattle.i_tree.proofs.SetLemmas.Live.{Any-of_map, cut_at_item}
use Rattle.i_tree.proofs.SetLemmas.Search.{last_handle-end}
use Rattle.runs.specs.SetMachine.{keyed, Step}
use Rattle.runs.specs.declared.sets.SetCommand.TheVariants.{Delete, Find, Before}
use Rattle.runs.specs.declared.sets.SetReply.TheVariants.{Deleted, Key, None}

module _ {X : Type 0} where
  module _ {Y : Type 0} (f : X → Y) where
    pub Contains-of_map : (xs : List X) (y : Y) → Contains (map f xs) y → (x : X) × Contains xs x × (y ≡ f x)
    Contains-of_map [] y (k, within, is) = absurd (omega (arith, within))
    Contains-of_map (x ∷ xs) y (zero, within, is) = (x, Contains-here x xs, sym is)
    Contains-of_map (x ∷ xs) y (suc k, within, is) =
        let (z, there, same) = Contains-of_map xs y (k, omega (arith, within), is) in
        (z, Contains-there x xs z there, same)

    pub Contains-to_map : (xs : List X) (x : X) → Contains xs x → Contains (map f xs) (f x)
    Contains-to_map [] x (k, within, is) = absurd (omega (arith, within))
    Contains-to_map (y ∷ ys) x (zero, within, is) = (0, omega arith, ap f is)
    Contains-to_map (y ∷ ys) x (suc k, within, is) = Contains-there (f y) (map f ys) (f x) (Contains-to_map ys x (k, omega (arith, within), is))

module _ {V : Type 0} where
  values_at_cut : (pairs front : List (ℕ × V)) (handle : ℕ) (value : V) (back : List (ℕ × V)) → pairs ≡ front ++ (handle, value) ∷ back → values pairs ≡ values front ++ value ∷ values back
  values_at_cut pairs front handle value back cut = ap values cut ∙ map-append (λ (pair : ℕ × V). pair.1) front ((handle, value) ∷ back)

  pub HasHandle-contained : (pairs : List (ℕ × V)) (handle : ℕ) (value : V) → Contains pairs (handle, value) → HasHandle pairs handle
  HasHandle-contained pairs handle value (k, within, is) = (k, (handle, value), within, is, refl)

  -- the last handle of a list, where there is one
  last_pair : (pairs : List (ℕ × V)) (handle : ℕ) → handle ≡ last_handle pairs → handle ≢ EMPTY_REF → (rest : List (ℕ × V)) × (value : V) × (pairs ≡ rest ++ (handle, value) ∷ [])
  last_pair [] handle is some = absurd (some is)
  last_pair (first ∷ more) handle is some =
      let (rest, last, cut) = last_cut first more in
      let same : last.0 ≡ handle = sym (is ∙ ap last_handle cut ∙ last_handle-end rest last) in
      (rest, last.1, cut ∙ ap (λ (number : ℕ). rest ++ (number, last.1) ∷ []) same)

  -- in front of the first pair there is none
  nothing_in_front : (pairs front : List (ℕ × V)) (handle : ℕ) (value : V) (back : List (ℕ × V)) → pairs ≡ front ++ (handle, value) ∷ back → AreApart pairs → last_handle front ≡ EMPTY_REF → front ≡ []
  nothing_in_front pairs [] handle value back cut apart none = refl
  nothing_in_front pairs (first ∷ more) handle value back cut apart none =
      let (rest, last, ends) = last_cut first more in
      let whole : pairs ≡ rest ++ last ∷ ((handle, value) ∷ back) =
      cut ∙ ap (λ (front : List (ℕ × V)). front ++ (handle, value) ∷ back) ends ∙ append_assoc rest (last ∷ []) ((handle, value) ∷ back) in
      absurd (All-contains (λ (pair : ℕ × V). pair.0 ≢ EMPTY_REF) pairs last apart.1
      (subst (λ (ps : List (ℕ × V)). Contains ps last) (sym whole) (Contains-middle rest last ((handle, value) ∷ back)))
      (sym (ap last_handle ends ∙ last_handle-end rest last) ∙ none))

  module _ (pairs : List (ℕ × V)) (handle : ℕ) (value : V) (there : Contains pairs (handle, value)) (earlier : ℕ)
      (is : (front : List (ℕ × V)) (held : V) (back : List (ℕ × V)) → pairs ≡ front ++ (handle, held) ∷ back → earlier ≡ last_handle front) where
    -- the pair before the one at the handle
    pair_before : earlier ≢ EMPTY_REF → (front : List (ℕ × V)) × (previous : V) × (back : List (ℕ × V)) × (pairs ≡ front ++ (earlier, previous) ∷ ((handle, value) ∷ back))
    pair_before some =
        let (front, back, cut) = cut_at_item pairs (handle, value) there in
        let (rest, previous, ends) = last_pair front earlier (is front value back cut) some in
        (rest, previous, back, cut ∙ ap (λ (front : List (ℕ × V)). front ++ (handle, value) ∷ back) ends ∙ append_assoc rest ((earlier, previous) ∷ []) ((handle, value) ∷ back))

    first_pair : AreApart pairs → earlier ≡ EMPTY_REF → (back : List (ℕ × V)) × (pairs ≡ (handle, value) ∷ back)
    first_pair apart none =
        let (front, back, cut) = cut_at_item pairs (handle, value) there in
        (back, cut ∙ ap (λ (front : List (ℕ × V)). front ++ (handle, value) ∷ back) (nothing_in_front pairs front handle value back cut apart (sym (is front value back cut) ∙ none)))

-- what an order may answer
not_greater : (r : Ordering) → r ≡ Less ⊎ r ≡ Equal → r ≢ Greater
not_greater r (inl less) greater = cc
not_greater r (inr equal) greater = cc

greater_else : (r : Ordering) → ¬ (r ≢ Greater) → r ≡ Greater
greater_else Less h = absurd (h (λ e. cc))
greater_else Equal h = absurd (h (λ e. cc))
greater_else Greater h = refl

less_else : (r : Ordering) → r ≢ Greater → r ≢ Equal → r ≡ Less
less_else Less g e = refl
less_else Equal g e = absurd (e refl)
less_else Greater g e = absurd (g refl)

module _ {K V : Type 0} (key_of : V → K) where
  module _ (P : K → Type 0) (pairs : List (ℕ × V)) (all : All (λ (pair : K × ℕ). P pair.0) (by_key key_of pairs)) where
    -- what holds of the key of each pair holds of that of each value
    All-values : All (λ (value : V). P (key_of value)) (values pairs)
    All-values = All-map (λ (value : V). P (key_of value)) (λ (pair : ℕ × V). pair.1) pairs (All-of_map (λ (pair : K × ℕ). P pair.0) (λ (pair : ℕ × V). (key_of pair.1, pair.0)) pairs all)

    All-keyed : All (λ (pair : K × V). P pair.0) (keyed key_of (values pairs))
    All-keyed = All-map (λ (pair : K × V). P pair.0) (λ (value : V). (key_of value, value)) (values pairs) All-values

  Contains-keyed : (pairs : List (ℕ × V)) (handle : ℕ) (value : V) → Contains pairs (handle, value) → Contains (keyed key_of (values pairs)) (key_of value, value)
  Contains-keyed pairs handle value there =
      Contains-to_map (λ (value : V). (key_of value, value)) (values pairs) value (Contains-to_map (λ (pair : ℕ × V). pair.1) pairs (handle, value) there)

  module _ (cmp : K → K → Ordering) where
    abbrev Rises : V → V → Type 0
    Rises earlier later = cmp (key_of earlier) (key_of later) ≡ Less

    rising_from_ordered : (pairs : List (ℕ × V)) → IsOrdered key_of cmp pairs → AllPairs Rises (values pairs)
    rising_from_ordered pairs ordered =
        AllPairs-to_map Rises (λ (pair : ℕ × V). pair.1) pairs
        (AllPairs-of_map (λ (earlier : K × ℕ) (later : K × ℕ). cmp earlier.0 later.0 ≡ Less) (λ (pair : ℕ × V). (key_of pair.1, pair.0)) pairs ordered)

    ordered_from_rising : (pairs : List (ℕ × V)) → AllPairs Rises (values pairs) → IsOrdered key_of cmp pairs
    ordered_from_rising pairs rises =
        AllPairs-to_map (λ (earlier : K × ℕ) (later : K × ℕ). cmp earlier.0 later.0 ≡ Less) (λ (pair : ℕ × V). (key_of pair.1, pair.0)) pairs
        (AllPairs-of_map Rises (λ (pair : ℕ × V). pair.1) pairs rises)

    pub IsRising-values : (pairs : List (ℕ × V)) → IsOrdered key_of cmp pairs → IsRising cmp (keyed key_of (values pairs))
    IsRising-values pairs ordered =
        AllPairs-to_map (λ (earlier : K × V) (later : K × V). cmp earlier.0 later.0 ≡ Less) (λ (value : V). (key_of value, value)) (values pairs) (rising_from_ordered pairs ordered)

    pub NoKey-values : (pairs : List (ℕ × V)) (key : K) → LacksKey key_of cmp pairs key → NoKey cmp (keyed key_of (values pairs)) key
    NoKey-values pairs key lacks = All-keyed (λ other. cmp other key ≢ Equal) pairs lacks

    pub HasKey-values : (pairs : List (ℕ × V)) (handle : ℕ) (value : V) (key : K) → Contains pairs (handle, value) → cmp (key_of value) key ≡ Equal → HasKey cmp (keyed key_of (values pairs)) key
    HasKey-values pairs handle value key there equal =
        let (k, within, is) = Contains-keyed pairs handle value there in
        (k, (key_of value, value), within, is, equal)

    pub HasKey-held : (pairs : List (ℕ × V)) (key : K) → HoldsKey key_of cmp pairs key → HasKey cmp (keyed key_of (values pairs)) key
    HasKey-held pairs key holds =
        let (pair, there, equal) = Any-of_map (λ (pair : K × ℕ). cmp pair.0 key ≡ Equal) (λ (pair : ℕ × V). (key_of pair.1, pair.0)) pairs holds in
        HasKey-values pairs pair.0 pair.1 key there equal

    -- the value at a handle goes
    module _ (old : List (ℕ × V)) (handle : ℕ) (value : V) (there : Contains old (handle, value)) (new : List (ℕ × V))
        (is : (front : List (ℕ × V)) (held : V) (back : List (ℕ × V)) → old ≡ front ++ (handle, held) ∷ back → values new ≡ values front ++ values back) where
      pub deleted_step : (key : K) → cmp (key_of value) key ≡ Equal → Step key_of cmp (values old) (Delete key) Deleted (values new)
      deleted_step key equal =
          let (front, back, cut) = cut_at_item old (handle, value) there in
          (values front, value, values back, values_at_cut old front handle value back cut, equal, is front value back cut)

    module _ (pairs : List (ℕ × V)) (handle : ℕ) (value : V) (there : Contains pairs (handle, value)) (key : K) (equal : cmp (key_of value) key ≡ Equal) (earlier : ℕ)
        (is : (front : List (ℕ × V)) (held : V) (back : List (ℕ × V)) → pairs ≡ front ++ (handle, held) ∷ back → earlier ≡ last_handle front) where
      pub before_step : earlier ≢ EMPTY_REF → (found : K) → ((previous : V) → Contains pairs (earlier, previous) → found ≡ key_of previous) → Step key_of cmp (values pairs) (Before key) (Key found) (values pairs)
      before_step some found reads =
          let (front, previous, back, cut) = pair_before pairs handle value there earlier is some in
          let there_too = subst (λ (ps : List (ℕ × V)). Contains ps (earlier, previous)) (sym cut) (Contains-middle front (earlier, previous) ((handle, value) ∷ back)) in
          (values front, previous, value, values back, values_at_cut pairs front earlier previous ((handle, value) ∷ back) cut, equal, reads previous there_too, refl)

      pub before_none_step : AreApart pairs → earlier ≡ EMPTY_REF → Step key_of cmp (values pairs) (Before key) None (values pairs)
      before_none_step apart none =
          let (back, cut) = first_pair pairs handle value there earlier is apart none in
          (value, values back, ap values cut, equal, refl)

    -- the value of the greatest key that meets P, by the pair of its key and its handle
    greatest_value : (P : K → Type 0) (pairs : List (ℕ × V)) (pair : K × ℕ) → IsGreatest cmp P (by_key key_of pairs) pair
        → (value : V) × Contains pairs (pair.1, value) × (pair.0 ≡ key_of value) × IsGreatest cmp P (keyed key_of (values pairs)) (key_of value, value)
    greatest_value P pairs pair greatest =
        let (held, there, same) = Contains-of_map (λ (pair : ℕ × V). (key_of pair.1, pair.0)) pairs pair greatest.contained in
        let key_is : pair.0 ≡ key_of held.1 = ap (λ (other : K × ℕ). other.0) same in
        let handle_is : held.0 ≡ pair.1 = sym (ap (λ (other : K × ℕ). other.1) same) in
        let IsBelow : K → Type 0 = λ other. P other → cmp other (key_of held.1) ≢ Greater in (
          held.1,
          subst (λ (handle : ℕ). Contains pairs (handle, held.1)) handle_is there,
          key_is,
          record {
            contained = Contains-keyed pairs held.0 held.1 there;
            meets = subst P key_is greatest.meets;
            none_above = All-keyed IsBelow pairs (subst (λ (key : K). All (λ (other : K × ℕ). P other.0 → cmp other.0 key ≢ Greater) (by_key key_of pairs)) key_is greatest.none_above);
          },
        )

module _ {K V : Type 0} (key_of : V → K) {cmp : K → K → Ordering} (o : IsTotalOrder cmp) (pairs : List (ℕ × V)) (key : K) where
  abbrev IsAtMost : K → Type 0
  IsAtMost other = cmp other key ≢ Greater

  -- what is found by comparisons with a key has the greatest key at most that one
  pub at_most_from_found : (handle : ℕ) → IsFoundBy key_of cmp (λ other. cmp other key) pairs handle → GreatestOr cmp IsAtMost (by_key key_of pairs) EMPTY_REF handle
  at_most_from_found handle (inl (k, pair, within, read, (equal, is))) =
      inl (
        pair,
        record {
          contained = (k, within, read);
          meets = not_greater (cmp pair.0 key) (inr equal);
          none_above = λ i d inside meets greater. meets (sym (alike_right o pair.0 key _ equal) ∙ greater);
        },
        is,
      )
  at_most_from_found handle (inr (differ, inl (pair, greatest, is))) =
      inl (
        pair,
        record {
          contained = greatest.contained;
          meets = not_greater (cmp pair.0 key) (inl greatest.meets);
          none_above = λ i d inside meets. greatest.none_above i d inside (less_else _ meets (differ i d inside));
        },
        is,
      )
  at_most_from_found handle (inr (differ, inr (none, is))) = inr (λ i d inside meets. none i d inside (less_else _ meets (differ i d inside)), is)

  module _ (handle : ℕ) (answer : GreatestOr cmp IsAtMost (by_key key_of pairs) EMPTY_REF handle) where
    none_at_most : AreApart pairs → handle ≡ EMPTY_REF → All (λ (pair : K × ℕ). ¬ (IsAtMost pair.0)) (by_key key_of pairs)
    none_at_most apart empty = ⊎_elim
        (λ found.
        let (pair, greatest, is) = found in
        let (value, there, same, keyed_too) = greatest_value key_of cmp IsAtMost pairs pair greatest in
        absurd (All-contains (λ (pair : ℕ × V). pair.0 ≢ EMPTY_REF) pairs (pair.1, value) apart.1 there (sym is ∙ empty)))
        (λ none. none.0)
        answer

    pub LacksKey-none : AreApart pairs → handle ≡ EMPTY_REF → LacksKey key_of cmp pairs key
    LacksKey-none apart empty = All-weaker (λ (pair : K × ℕ). ¬ (IsAtMost pair.0)) (λ (pair : K × ℕ). cmp pair.0 key ≢ Equal) (λ pair above equal. above (not_greater _ (inr equal))) (by_key key_of pairs) (none_at_most apart empty)

    pub find_none_step : AreApart pairs → handle ≡ EMPTY_REF → Step key_of cmp (values pairs) (Find key) None (values pairs)
    find_none_step apart empty =
        (All-values key_of (λ other. cmp other key ≡ Greater) pairs (All-weaker (λ (pair : K × ℕ). ¬ (IsAtMost pair.0)) (λ (pair : K × ℕ). cmp pair.0 key ≡ Greater) (λ pair above. greater_else _ above) (by_key key_of pairs) (none_at_most apart empty)), refl)

    module _ (some : handle ≢ EMPTY_REF) (found : K) (reads : (value : V) → Contains pairs (handle, value) → found ≡ key_of value) where
      -- the value at the handle
      found_value : (value : V) × Contains pairs (handle, value) × IsGreatest cmp IsAtMost (keyed key_of (values pairs)) (found, value)
      found_value = ⊎_elim
          (λ at.
          let (pair, greatest, is) = at in
          let (value, there, same, keyed_too) = greatest_value key_of cmp IsAtMost pairs pair greatest in
          let here = subst (λ (handle : ℕ). Contains pairs (handle, value)) (sym is) there in
          (value, here, subst (λ (key : K). IsGreatest cmp IsAtMost (keyed key_of (values pairs)) (key, value)) (sym (reads value here)) keyed_too))
          (λ none. absurd (some none.1))
          answer

      pub find_step : Step key_of cmp (values pairs) (Find key) (Key found) (values pairs)
      find_step = let (value, there, greatest) = found_value in (value, greatest, refl)

      pub contained_equal : cmp found key ≡ Equal → (value : V) × Contains pairs (handle, value) × (cmp (key_of value) key ≡ Equal)
      contained_equal equal =
          let (value, there, greatest) = found_value in
          (value, there, ap (λ (other : K). cmp other key) (sym (reads value there)) ∙ equal)

      -- where the greatest key at most this one is another, this one is not there
      pub LacksKey-other : cmp found key ≢ Equal → LacksKey key_of cmp pairs key
      LacksKey-other differs i d inside equal = ⊎_elim
          (λ at.
          let (pair, greatest, is) = at in
          let (value, there, same, keyed_too) = greatest_value key_of cmp IsAtMost pairs pair greatest in
          let found_is : found ≡ pair.0 = reads value (subst (λ (handle : ℕ). Contains pairs (handle, value)) (sym is) there) ∙ sym same in
          let less : cmp pair.0 key ≡ Less = less_else _ greatest.meets (λ e. differs (ap (λ (other : K). cmp other key) found_is ∙ e)) in
          greatest.none_above i d inside (not_greater _ (inr equal)) (o.congr _ key pair.0 equal ∙ o.antisymm key pair.0 ∙ ap ordering_reverse less))
          (λ none. some none.1)
          answer
