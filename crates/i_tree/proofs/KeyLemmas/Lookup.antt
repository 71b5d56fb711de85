-- A search for a key that removes nothing.
use Rattle.std.proofs.Common.{◌≡◌, ◌≢◌, ℕ, Bool, true, false, List, ◌∷◌, ◌++◌, sym, ap, ◌∙◌, subst}
use Rattle.std.specs.Bool.{MatchBool}
use Rattle.std.specs.Cmp.{IsTotalOrder, alike_right}
use Rattle.std.specs.List.{All, AllPairs, Contains, filter}
use Rattle.std.specs.Ordering.{ordering_reverse}
use Rattle.std.specs.declared.cmp.Ordering.{Ordering}
use Rattle.std.specs.declared.cmp.Ordering.TheVariants.{Less, Equal}
use Rattle.std.proofs.lemmas.Bool.{both_ways}
use Rattle.std.proofs.lemmas.List.{map-append}
use Rattle.std.proofs.lemmas.List.Elements.{All-cons, All-contains, All-head, All-append, All-filter, All-weaker}
use Rattle.i_tree.proofs.RbLemmas.SearchPath.Insertion.{IsLower, IsHigher}
use Rattle.i_tree.proofs.RootLemmas.RisingKeys.{HasKey-live}
use Rattle.i_tree.proofs.RootLemmas.Lists.{All-filter_passing, AllPairs-head, MatchBool-by}
use Rattle.i_tree.proofs.RootLemmas.Joined.{Any-behind, Any-here, AllPairs-across, AllPairs-behind, AllPairs-of_map, All-to_map, Contains-middle}
use Rattle.i_tree.proofs.RbLemmas.SearchPath.Entries.{IsBelow}
use Rattle.i_tree.specs.Expiring.Tree.{items}
use Rattle.i_tree.specs.Expiring.Live.{live_pairs}
use Rattle.i_tree.specs.Root.Live.{is_live}
use Rattle.i_tree.specs.Root.Pairs.{HasKey, IsRising, NoKey}
use Rattle.i_tree.specs.Set.Pairs.{values}
use Rattle.i_tree.specs.Rb.Shape.{Shape, entries}

module _ {K : Type 0} {cmp : K → K → Ordering} (o : IsTotalOrder cmp) (key : K) where
  pub not_equal_above : (other : K) → cmp key other ≡ Less → cmp other key ≢ Equal
  not_equal_above other below equal = let is = o.antisymm key other ∙ ap ordering_reverse equal in absurd (cc (below, is))

-- a key isn't both there and missing
pub not_both : {K V : Type 0} (cmp : K → K → Ordering) (pairs : List (K × V)) (key : K) → HasKey cmp pairs key → NoKey cmp pairs key → ⊥
not_both {K} {V} cmp pairs key (k, pair, within, at, equal) none = All-contains (λ (other : K × V). cmp other.0 key ≢ Equal) pairs pair none (k, within, at) equal

module _ {K V : Type 0} {cmp : K → K → Ordering} (o : IsTotalOrder cmp) (key : K) where
  abbrev key_of : K × V → K
  key_of pair = pair.0

  pub below_of_items : (tree : Shape (K × V)) → IsRising cmp (items tree) → AllPairs (IsBelow key_of o) (entries tree)
  below_of_items tree rising = AllPairs-of_map (λ (earlier : K × V) later. cmp earlier.0 later.0 ≡ Less) (λ (entry : ℕ × (K × V)). entry.1) (entries tree) rising

  -- between keys that are below and keys that are above it the key isn't there
  pub missing_between : (tree : Shape (K × V)) (front back : List (ℕ × (K × V))) → entries tree ≡ front ++ back → All (IsLower key_of o key) front × All (IsHigher key_of o key) back
      → NoKey cmp (items tree) key
  missing_between tree front back cut (lows, highs) =
      let Differs : ℕ × (K × V) → Type 0 = λ entry. cmp entry.1.0 key ≢ Equal in
      All-to_map (λ (pair : K × V). cmp pair.0 key ≢ Equal) (λ (entry : ℕ × (K × V)). entry.1) (entries tree)
      (subst (All Differs) (sym cut)
      (All-append Differs front back
      (All-weaker (IsLower key_of o key) Differs (λ entry low equal. absurd (cc (low, equal))) front lows)
      (All-weaker (IsHigher key_of o key) Differs (λ entry high. not_equal_above o key entry.1.0 high) back highs)))

  pub absent_between : (p : K × V → Bool) (tree : Shape (K × V)) (front back : List (ℕ × (K × V))) → entries tree ≡ front ++ back → All (IsLower key_of o key) front × All (IsHigher key_of o key) back
      → NoKey cmp (filter p (items tree)) key
  absent_between p tree front back cut around = All-filter p (λ (pair : K × V). cmp pair.0 key ≢ Equal) (items tree) (missing_between tree front back cut around)

  module _ {E : Type 0} (expiration : K → E) (cmp_time : E → E → Ordering) (time : E) (tree : Shape (K × V)) (front : List (ℕ × (K × V))) (entry : ℕ × (K × V)) (back : List (ℕ × (K × V)))
      (cut : entries tree ≡ front ++ entry ∷ back) (rising : IsRising cmp (items tree)) (equal : cmp entry.1.0 key ≡ Equal) where
    -- the key of a stored entry is there, whether live or not
    pub stored_equal : HasKey cmp (items tree) key
    stored_equal =
        rw (ap values cut ∙ map-append (λ (other : ℕ × (K × V)). other.1) front (entry ∷ back)) (Any-behind (λ (pair : K × V). cmp pair.0 key ≡ Equal) (values front) (entry.1 ∷ values back) (Any-here (λ (pair : K × V). cmp pair.0 key ≡ Equal) entry.1 (values back) equal))

    has_equal : is_live expiration cmp_time time entry.1.0 ≡ true → HasKey cmp (live_pairs expiration cmp_time time (items tree)) key
    has_equal live =
        let contained : Contains (items tree) entry.1 = rw (ap values cut ∙ map-append (λ (other : ℕ × (K × V)). other.1) front (entry ∷ back)) (Contains-middle (values front) entry.1 (values back)) in
        HasKey-live o expiration cmp_time time (items tree) key entry.1 contained live equal

    lacks_equal : is_live expiration cmp_time time entry.1.0 ≡ false → NoKey cmp (live_pairs expiration cmp_time time (items tree)) key
    lacks_equal expired =
        let Passes : ℕ × (K × V) → Type 0 = λ other. is_live expiration cmp_time time other.1.0 ≡ true → cmp other.1.0 key ≢ Equal in
        let below : AllPairs (IsBelow key_of o) (front ++ entry ∷ back) = subst (AllPairs (IsBelow key_of o)) cut (below_of_items tree rising) in
        let across = AllPairs-across (IsBelow key_of o) front (entry ∷ back) below in
        let behind : All (IsBelow key_of o entry) back = AllPairs-head (IsBelow key_of o) entry back (AllPairs-behind (IsBelow key_of o) front (entry ∷ back) below) in
        All-filter_passing (λ (pair : K × V). is_live expiration cmp_time time pair.0) (λ (pair : K × V). cmp pair.0 key ≢ Equal) (items tree)
        (All-to_map (λ (pair : K × V). is_live expiration cmp_time time pair.0 ≡ true → cmp pair.0 key ≢ Equal) (λ (other : ℕ × (K × V)). other.1) (entries tree)
        (subst (All Passes) (sym cut)
        (All-append Passes front (entry ∷ back)
        (All-weaker (λ other. All (IsBelow key_of o other) (entry ∷ back)) Passes
        (λ other lower _ level. let is_below = All-head (IsBelow key_of o other) entry back lower in let is = alike_right o entry.1.0 key other.1.0 equal in absurd (cc (is_below, is, level)))
        front across)
        (All-cons Passes entry back (λ live _. both_ways (is_live expiration cmp_time time entry.1.0) expired live)
        (All-weaker (IsBelow key_of o entry) Passes
        (λ other higher _ level. let is = alike_right o other.1.0 key entry.1.0 level in absurd (cc (higher, is, equal)))
        back behind)))))

    -- the one key that compares Equal is live or not
    pub cases_equal : (answer : Bool) → answer ≡ is_live expiration cmp_time time entry.1.0 → MatchBool answer (HasKey cmp (live_pairs expiration cmp_time time (items tree)) key) (NoKey cmp (live_pairs expiration cmp_time time (items tree)) key)
    cases_equal answer is = MatchBool-by answer _ _ (λ yes. has_equal (sym is ∙ yes)) (λ no. lacks_equal (sym is ∙ no))
