-- A pair that joins between keys that a test calls Less and keys that it calls Greater, among live and expired ones that rise.
use Rattle.std.proofs.Common.{◌≡◌, ◌≢◌, Bool, true, false, if◌then◌else◌, List, ◌∷◌, ◌++◌, length, refl, sym, ap, ◌∙◌, subst, inl, inr, arith, length-append}
use Rattle.std.proofs.Math.Seq.{take-append_seam, drop-append_seam}
use Rattle.std.specs.Cmp.{IsTotalOrder}
use Rattle.std.specs.Bool.{MatchBool}
use Rattle.std.specs.List.{All, filter, insert}
use Rattle.std.specs.Ordering.{is_lt, ordering_reverse}
use Rattle.std.specs.declared.cmp.Ordering.{Ordering}
use Rattle.std.specs.declared.cmp.Ordering.TheVariants.{Less, Equal, Greater}
use Rattle.std.proofs.lemmas.List.Elements.{All-append, All-filter, All-weaker}
use Rattle.i_tree.proofs.KeyLemmas.Lookup.{not_equal_above}
use Rattle.i_tree.proofs.RbLemmas.SearchPath.Entries.{StartsIn-with}
use Rattle.i_tree.proofs.RootLemmas.Joined.{All-behind, All-front, All-from_end, All-from_start, AllPairs-behind, AllPairs-front, AllPairs-joined}
use Rattle.i_tree.proofs.RootLemmas.Lists.{All-from_filter, Contains-filter}
use Rattle.i_tree.proofs.RootLemmas.Orders.{above}
use Rattle.i_tree.proofs.RootLemmas.Withouts.{IsRising-without, filter-without}
use Rattle.i_tree.specs.Root.Change.{Gains, Without}
use Rattle.i_tree.specs.Root.Ends.{EndsIn, LastFinds}
use Rattle.i_tree.specs.Expiring.Descent.{MayCall}
use Rattle.i_tree.specs.Expiring.Insertion.{CallsEqual, HasPlace, IsBetween, JoinsBetween}
use Rattle.i_tree.specs.Root.Pairs.{HasKey, IsRising, NoKey}

-- a pair that joins between two lists
module _ {X : Type 0} where
  insert-seam : (front back : List X) (x : X) → insert (front ++ back) (length front) x ≡ front ++ x ∷ back
  insert-seam front back x = rw (take-append_seam front back, drop-append_seam front back) refl

  ends_found : (P : X → Type 0) (xs : List X) → EndsIn P xs → LastFinds (λ x (found : Bool). P x) true xs true
  ends_found P xs (inl none) = inl (none, refl)
  ends_found P xs (inr ends) = inr ends

-- a test answers how the other keys stand to this one
abbrev StandsTo : {K : Type 0} → (K → K → Ordering) → K → K → Ordering → Type 0
StandsTo cmp key other answer = answer ≡ cmp other key

module _ {K V : Type 0} {cmp : K → K → Ordering} (o : IsTotalOrder cmp) (key : K) where
  abbrev IsLower : K × V → Type 0
  IsLower pair = cmp pair.0 key ≡ Less

  abbrev IsHigher : K × V → Type 0
  IsHigher pair = cmp key pair.0 ≡ Less

  module _ (front back : List (K × V)) (around : All IsLower front × All IsHigher back) where
    missing : NoKey cmp (front ++ back) key
    missing =
        let Differs : K × V → Type 0 = λ pair. cmp pair.0 key ≢ Equal in
        All-append Differs front back
        (All-weaker IsLower Differs (λ pair low equal. absurd (cc (low, equal))) front around.0)
        (All-weaker IsHigher Differs (λ pair high. not_equal_above o key pair.0 high) back around.1)

    rising_joined : (val : V) → IsRising cmp (front ++ back) → IsRising cmp (front ++ (key, val) ∷ back)
    rising_joined val rising = AllPairs-joined (λ earlier later. cmp earlier.0 later.0 ≡ Less) front (key, val) back rising around.0 around.1

  module _ (is_live : K → Bool) where
    abbrev live : List (K × V) → List (K × V)
    live pairs = filter (λ pair. is_live pair.0) pairs

    module _ (May : K → Ordering → Type 0) where
      pub gains_between : (val : V) (before after : List (K × V)) → JoinsBetween is_live May (key, val) before after → Gains (λ (pair : K × V). is_live pair.0 ≡ false) (key, val) before after
      gains_between val before after (front, back, kept, between, is) =
          (front ++ back, kept, (length front, omega (arith, length-append front back), is ∙ sym (insert-seam front back (key, val))))

      -- where what the test calls a live key says how that stands to this one, the keys around the place are below and above it
      keys_around_place : (Also : K × V → Type 0) → ((pair : K × V) → Also pair → MayCall is_live May pair Less → IsLower pair) → ((pair : K × V) → Also pair → MayCall is_live May pair Greater → IsHigher pair)
          → (front back : List (K × V)) → IsRising cmp (front ++ back) → All Also (front ++ back) → IsBetween is_live May front back → All IsLower front × All IsHigher back
      keys_around_place Also lower higher front back rising also between =
          let Below : K × V → K × V → Type 0 = λ earlier later. cmp earlier.0 later.0 ≡ Less in (
            All-from_end Below (λ (pair : K × V) (found : Bool). MayCall is_live May pair Less) true true IsLower Also (λ x y h low. o.trans x.0 y.0 key h low) lower front
                (AllPairs-front Below front back rising) (All-front Also front back also) (ends_found (λ pair. MayCall is_live May pair Less) front between.last),
            All-from_start Below IsHigher (λ x y h high. o.trans key x.0 y.0 high h) back (AllPairs-behind Below front back rising)
                (StartsIn-with (λ pair. MayCall is_live May pair Greater) Also IsHigher (λ pair called too. higher pair too called) back (All-behind Also front back also) between.first),
          )

    -- by a test that answers how the keys stand
    around_new : (front back : List (K × V)) → IsRising cmp (front ++ back) → IsBetween is_live (StandsTo cmp key) front back → All IsLower front × All IsHigher back
    around_new front back rising between =
        keys_around_place (StandsTo cmp key) (λ _. Unit {0}) (λ pair _ called. sym called.1) (λ pair _ called. o.antisymm key pair.0 ∙ ap ordering_reverse (sym called.1)) front back rising (λ k d within. tt) between

    module _ (before : List (K × V)) (rising : IsRising cmp before) where
      pub rising_new : (val : V) (after : List (K × V)) → JoinsBetween is_live (StandsTo cmp key) (key, val) before after → IsRising cmp after
      rising_new val after (front, back, kept, between, is) =
          let rises = IsRising-without cmp kept rising in
          subst (IsRising cmp) (sym is) (rising_joined front back (around_new front back rises between) val rises)

      pub is_new : (val : V) (after : List (K × V)) → JoinsBetween is_live (StandsTo cmp key) (key, val) before after → NoKey cmp (live before) key
      is_new val after (front, back, kept, between, is) =
          let rises = IsRising-without cmp kept rising in
          subst (λ (pairs : List (K × V)). NoKey cmp pairs key) (sym (filter-without (λ (pair : K × V). is_live pair.0) (λ x expired. expired) kept))
          (All-filter (λ (pair : K × V). is_live pair.0) (λ pair. cmp pair.0 key ≢ Equal) (front ++ back) (missing front back (around_new front back rises between)))

      pub refused_new : HasPlace is_live (StandsTo cmp key) before → NoKey cmp (live before) key
      refused_new (front, back, is, between) =
          All-filter (λ (pair : K × V). is_live pair.0) (λ pair. cmp pair.0 key ≢ Equal) before
          (subst (λ (pairs : List (K × V)). NoKey cmp pairs key) (sym is) (missing front back (around_new front back (subst (IsRising cmp) is rising) between)))

    pub is_present : (before after : List (K × V)) → Without (λ (pair : K × V). is_live pair.0 ≡ false) before after → CallsEqual is_live (StandsTo cmp key) after → HasKey cmp (live before) key
    is_present before after kept (k, pair, within, at, (lives, equal)) =
        let found = Contains-filter (λ (other : K × V). is_live other.0) after pair lives (k, within, at) in
        subst (λ (pairs : List (K × V)). HasKey cmp pairs key) (sym (filter-without (λ (pair : K × V). is_live pair.0) (λ x expired. expired) kept))
        (found.0, pair, found.1, found.2, sym equal)

    -- what an insertion answers that goes by such a test
    module _ (val : V) (before after : List (K × V)) (rising : IsRising cmp before) (joined : Bool)
        (joins : MatchBool joined (JoinsBetween is_live (StandsTo cmp key) (key, val) before after) (Without (λ (pair : K × V). is_live pair.0 ≡ false) before after)) where
      abbrev Joins : Type 0
      Joins = JoinsBetween is_live (StandsTo cmp key) (key, val) before after

      abbrev Loses : Type 0
      Loses = Without (λ (pair : K × V). is_live pair.0 ≡ false) before after

      pub new_or_present : (joined ≡ false → CallsEqual is_live (StandsTo cmp key) after) → MatchBool joined (NoKey cmp (live before) key) (HasKey cmp (live before) key)
      new_or_present equal = by joined joins equal
        where
          by : (b : Bool) → MatchBool b Joins Loses → (b ≡ false → CallsEqual is_live (StandsTo cmp key) after) → MatchBool b (NoKey cmp (live before) key) (HasKey cmp (live before) key)
          by true between calls = is_new before rising val after between
          by false loses calls = is_present before after loses (calls refl)

      pub gains_or_loses : MatchBool joined (Gains (λ (pair : K × V). is_live pair.0 ≡ false) (key, val) before after) Loses
      gains_or_loses = by joined joins
        where
          by : (b : Bool) → MatchBool b Joins Loses → MatchBool b (Gains (λ (pair : K × V). is_live pair.0 ≡ false) (key, val) before after) Loses
          by true between = gains_between (StandsTo cmp key) val before after between
          by false loses = loses

      pub rising_after : IsRising cmp after
      rising_after = by joined joins
        where
          by : (b : Bool) → MatchBool b Joins Loses → IsRising cmp after
          by true between = rising_new before rising val after between
          by false loses = IsRising-without cmp loses rising

    -- by a test whether the other keys are below, where no live one compares Equal
    pub rising_absent : (val : V) (before after : List (K × V)) → IsRising cmp before → NoKey cmp (live before) key
        → JoinsBetween is_live (λ other answer. answer ≡ (if is_lt (cmp other key) then Less else Greater)) (key, val) before after → IsRising cmp after
    rising_absent val before after rising absent (front, back, kept, between, is) =
        let rises = IsRising-without cmp kept rising in
        subst (IsRising cmp) (sym is)
        (rising_joined front back
        (keys_around_place May Differs (λ pair _ called. lower_from (cmp pair.0 key) called.1) (λ pair differs called. above o pair.0 key (not_lower_from (cmp pair.0 key) called.1) (differs called.0)) front back rises
        (All-from_filter (λ (pair : K × V). is_live pair.0) (λ (pair : K × V). cmp pair.0 key ≢ Equal) (front ++ back)
        (subst (λ (pairs : List (K × V)). NoKey cmp pairs key) (filter-without (λ (pair : K × V). is_live pair.0) (λ x expired. expired) kept) absent))
        between)
        val rises)
      where
        May : K → Ordering → Type 0
        May other answer = answer ≡ (if is_lt (cmp other key) then Less else Greater)

        Differs : K × V → Type 0
        Differs pair = is_live pair.0 ≡ true → cmp pair.0 key ≢ Equal

        lower_from : (r : Ordering) → Less ≡ (if is_lt r then Less else Greater) → r ≡ Less
        lower_from r is = grind arith

        not_lower_from : (r : Ordering) → Greater ≡ (if is_lt r then Less else Greater) → r ≢ Less
        not_lower_from r is equal = grind arith

-- a test whether the other keys are below calls none Equal
pub none_equal : {K V : Type 0} (cmp : K → K → Ordering) (key : K) (is_live : K → Bool) (pairs : List (K × V)) → CallsEqual is_live (λ other answer. answer ≡ (if is_lt (cmp other key) then Less else Greater)) pairs → ⊥
none_equal cmp key is_live pairs (k, pair, within, at, (lives, is)) = apart (is_lt (cmp pair.0 key)) is
  where
    apart : (b : Bool) → Equal ≡ (if b then Less else Greater) → ⊥
    apart true is = cc is
    apart false is = cc is

-- what was answered, by what holds of each answer
pub true_unless : (b : Bool) → (b ≡ false → ⊥) → b ≡ true
true_unless true differs = refl
true_unless false differs = absurd (differs refl)
