-- A walk over the copies at one node: what each copy that it reads changes.
use Rattle.std.proofs.Common.{◌≡◌, ℕ, ◌+◌, ◌<◌, Bool, true, false, cond, Option, List, ◌∷◌, map, length, get_or, take, drop, bit_and, refl, ap, sym, ◌∙◌, subst, arith, IsPermutation}
use Rattle.std.specs.Bool.{◌==◌}
use Rattle.std.specs.List.{filter, swap_remove}
use Rattle.std.specs.Ordering.{is_ge, is_lt, is_some_and, partial_lt}
use Rattle.std.specs.declared.cmp.Ordering.{Ordering}
use Rattle.std.specs.declared.cmp.Ordering.TheVariants.{Less, Equal, Greater}
use Rattle.std.specs.declared.option.Option.TheVariants.{Some}
use Rattle.std.proofs.lemmas.Bool.{cond-true, cond-false}
use Rattle.std.proofs.lemmas.List.{drop_more}
use Rattle.std.proofs.lemmas.List.Elements.{All-more, All-same}
use Rattle.std.proofs.lemmas.List.Sorted.{IsPermutation-refl, IsPermutation-trans, IsPermutation-map, IsPermutation-swap_remove, length_permutation}
use Rattle.i_tree.specs.Root.Steps.{Counts, nothing, one_test, one_removal, together, Accumulates, Makes}
use Rattle.i_tree.specs.Seg.Copies.{found_at, live_copies, member_of}
use Rattle.i_tree.specs.Seg.Members.{Member}
use Rattle.i_tree.specs.Root.Live.{is_live}
use Rattle.i_tree.specs.Seg.Nodes.{lowest}
use Rattle.i_tree.specs.Seg.Walk.{AllLive, LosesExpired, Reads}
use Rattle.i_tree.proofs.SegLemmas.Bags.{IsPermutation-filter}
use Rattle.i_tree.proofs.SegLemmas.Losing.{take-swap_remove, LosesExpired-none, LosesExpired-one, LosesExpired-trans}
use Rattle.i_tree.proofs.SegLemmas.Removed.{removed-behind}

-- whether a value is live, by what `<` answered of its expiration and the time
module _ {E V : Type 0} (partial-cmp : E → E → Option Ordering) (cmp : E → E → Ordering) (agrees : (x y : E) → partial-cmp x y ≡ Some (cmp x y)) (expiration : V → E) where
  pub live_from_lt : (time : E) (value : V) (expires : E) → expires ≡ expiration value → (answer : Bool) → answer ≡ partial_lt partial-cmp expires time → (below : Bool) → answer ≡ below → is_live expiration cmp time value ≡ cond below false true
  live_from_lt time value expires is answer answered below so =
      ap (λ (at : E). is_ge (cmp at time)) (sym is) ∙ told (cmp expires time) (sym (ap (is_some_and is_lt) (agrees expires time)) ∙ sym answered ∙ so)
    where
      told : (r : Ordering) → is_lt r ≡ below → is_ge r ≡ cond below false true
      told Less h = ap (λ (b : Bool). cond b false true) h
      told Equal h = ap (λ (b : Bool). cond b false true) h
      told Greater h = ap (λ (b : Bool). cond b false true) h

-- `Made` says of two states of a counter which counts were made from the one to the other.
module _ {S : Type 0} {Made : S → S → Counts → Type 0} (law : Accumulates Made) where
  -- nothing was read yet
  pub Reads-none : (state : S) (live stored : ℕ) → Makes Made state state (Reads live live stored stored)
  Reads-none state live stored =
      record { made = nothing; counted = law.none state; holds = record { comparisons = refl; rotations = refl; tests = omega arith; tested = omega arith; removals = omega arith } }

  -- one part after another
  pub Reads-trans : (old mid new : S) (live0 live1 live2 stored0 stored1 stored2 : ℕ) → Makes Made old mid (Reads live0 live1 stored0 stored1) → Makes Made mid new (Reads live1 live2 stored1 stored2) → Makes Made old new (Reads live0 live2 stored0 stored2)
  Reads-trans old mid new live0 live1 live2 stored0 stored1 stored2 first second =
      record {
        made = together first.made second.made;
        counted = law.both old mid new first.made second.made first.counted second.counted;
        holds = record {
          comparisons = omega (arith, first.holds.comparisons, second.holds.comparisons);
          rotations = omega (arith, first.holds.rotations, second.holds.rotations);
          tests = omega (arith, first.holds.tests, second.holds.tests);
          tested = omega (arith, first.holds.tested, second.holds.tested);
          removals = omega (arith, first.holds.removals, second.holds.removals);
        };
      }

  -- one live copy was tested
  pub Reads-live : (old new : S) (live0 live1 stored : ℕ) → Made old new one_test → live0 ≡ live1 + 1 → Makes Made old new (Reads live0 live1 stored stored)
  Reads-live old new live0 live1 stored tested fewer =
      record { made = one_test; counted = tested; holds = record { comparisons = refl; rotations = refl; tests = omega arith; tested = omega arith; removals = omega arith } }

  -- one copy was tested that was no longer live, and was removed
  pub Reads-dead : (old mid new : S) (live stored0 stored1 : ℕ) → Made old mid one_test → Made mid new one_removal → stored0 ≡ stored1 + 1 → Makes Made old new (Reads live live stored0 stored1)
  Reads-dead old mid new live stored0 stored1 tested removed fewer =
      record { made = together one_test one_removal; counted = law.both old mid new one_test one_removal tested removed; holds = record { comparisons = refl; rotations = refl; tests = omega arith; tested = omega arith; removals = omega arith } }

-- a removal leaves one copy fewer
one_fewer : {X : Type 0} (xs : List X) (i : ℕ) (x : X) → i < length xs → x ≡ get_or xs i x → length xs ≡ length (swap_remove xs i x) + 1
one_fewer xs i x within is = omega (arith, length_permutation xs (x ∷ swap_remove xs i x) (IsPermutation-swap_remove xs i x within is))

-- `expiration` gives a value's expiration, `cmp` compares expirations.
module _ {E V : Type 0} (expiration : V → E) (cmp : E → E → Ordering) (time : E) where
  abbrev IsAlive : ℕ × V → Type 0
  IsAlive copy = is_live expiration cmp time copy.1 ≡ true

  pub IsPermutation-live : (xs ys : List (ℕ × V)) → IsPermutation xs ys → IsPermutation (live_copies expiration cmp (Some time) xs) (live_copies expiration cmp (Some time) ys)
  IsPermutation-live xs ys h = IsPermutation-filter (λ copy. is_live expiration cmp time copy.1) xs ys h

  -- what is no longer live counts for nothing
  pub live-dead : (copy : ℕ × V) (rest : List (ℕ × V)) → is_live expiration cmp time copy.1 ≡ false → live_copies expiration cmp (Some time) (copy ∷ rest) ≡ live_copies expiration cmp (Some time) rest
  live-dead copy rest dead =
      cond-false (is_live expiration cmp time copy.1) (copy ∷ live_copies expiration cmp (Some time) rest) (live_copies expiration cmp (Some time) rest) dead

  pub live-alive : (copy : ℕ × V) (rest : List (ℕ × V)) → is_live expiration cmp time copy.1 ≡ true → live_copies expiration cmp (Some time) (copy ∷ rest) ≡ copy ∷ live_copies expiration cmp (Some time) rest
  live-alive copy rest alive =
      cond-true (is_live expiration cmp time copy.1) (copy ∷ live_copies expiration cmp (Some time) rest) (live_copies expiration cmp (Some time) rest) alive

  -- the same live copies, and the same from a place on, after the removal of one that is no longer live
  module _ (copies : List (ℕ × V)) (i : ℕ) (copy : ℕ × V) (within : i < length copies) (is : copy ≡ get_or copies i copy) (dead : is_live expiration cmp time copy.1 ≡ false) where
    pub live-removed : IsPermutation (live_copies expiration cmp (Some time) copies) (live_copies expiration cmp (Some time) (swap_remove copies i copy))
    live-removed =
        subst (λ (live : List (ℕ × V)). IsPermutation (live_copies expiration cmp (Some time) copies) live) (live-dead copy (swap_remove copies i copy) dead)
        (IsPermutation-live copies (copy ∷ swap_remove copies i copy) (IsPermutation-swap_remove copies i copy within is))

    pub live_behind-removed : IsPermutation (live_copies expiration cmp (Some time) (drop i copies)) (live_copies expiration cmp (Some time) (drop i (swap_remove copies i copy)))
    live_behind-removed =
        subst (λ (live : List (ℕ × V)). IsPermutation (live_copies expiration cmp (Some time) (drop i copies)) live) (live-dead copy (drop i (swap_remove copies i copy)) dead)
        (IsPermutation-live (drop i copies) (copy ∷ drop i (swap_remove copies i copy)) (removed-behind copies i copy within is))

  -- of the live copies of a node, the members whose lowest asked node it is
  abbrev pub found_of : ℕ → ℕ → List (ℕ × V) → List (Member V)
  found_of asked node live = map member_of (filter (λ copy. lowest (bit_and copy.0 asked) == node) live)

  pub IsPermutation-found : (asked node : ℕ) (live live' : List (ℕ × V)) → IsPermutation live live' → IsPermutation (found_of asked node live) (found_of asked node live')
  IsPermutation-found asked node live live' h = grind (arith, IsPermutation-map, IsPermutation-filter)

  -- `Made` says of two states of a counter which counts were made from the one to the other.
  module _ {S : Type 0} (Made : S → S → Counts → Type 0) (asked node : ℕ) where
    -- What a walk over a node's copies has done so far: what is still found there is what was, the live copies are what they
    -- were, copies went that are not live, and no others, those that it passed are live, and the counts are those of a part of a
    -- walk.
    pub record InChunk (old new : S) (before : List (ℕ × V)) (start : ℕ) (after : List (ℕ × V)) (index : ℕ) : Type 0 where
      pub found : IsPermutation (found_at expiration cmp (Some time) asked node (drop start before)) (found_at expiration cmp (Some time) asked node (drop index after))
      pub live : IsPermutation (live_copies expiration cmp (Some time) before) (live_copies expiration cmp (Some time) after)
      pub loses : LosesExpired expiration cmp time before after
      pub passed : AllLive expiration cmp time (take start before) → AllLive expiration cmp time (take index after)
      pub steps : Makes Made old new (Reads (length (live_copies expiration cmp (Some time) (drop start before))) (length (live_copies expiration cmp (Some time) (drop index after))) (length before) (length after))

    module _ (law : Accumulates Made) where
      pub InChunk-start : (state : S) (copies : List (ℕ × V)) (start : ℕ) → InChunk state state copies start copies start
      InChunk-start state copies start =
          record {
            found = IsPermutation-refl (found_at expiration cmp (Some time) asked node (drop start copies));
            live = IsPermutation-refl (live_copies expiration cmp (Some time) copies);
            loses = LosesExpired-none expiration cmp time copies;
            passed = λ first. first;
            steps = Reads-none law state (length (live_copies expiration cmp (Some time) (drop start copies))) (length copies);
          }

      -- the walk reads the copy at the index
      module _ (old mid : S) (before : List (ℕ × V)) (start : ℕ) (copies : List (ℕ × V)) (i : ℕ) (so_far : InChunk old mid before start copies i) (copy : ℕ × V) (within : i < length copies) (is : copy ≡ get_or copies i copy) where
        loses-more : is_live expiration cmp time copy.1 ≡ false → LosesExpired expiration cmp time before (swap_remove copies i copy)
        loses-more dead = LosesExpired-trans expiration cmp time before copies (swap_remove copies i copy) so_far.loses (LosesExpired-one expiration cmp time copies i copy within is dead)

        -- it is no longer live, and is removed
        pub InChunk-removed : (tested new : S) → Made mid tested one_test → Made tested new one_removal → is_live expiration cmp time copy.1 ≡ false → InChunk old new before start (swap_remove copies i copy) i
        InChunk-removed tested new first second dead =
            let behind = live_behind-removed copies i copy within is dead in
            let live_behind : ℕ = length (live_copies expiration cmp (Some time) (drop i (swap_remove copies i copy))) in
            record {
              found = IsPermutation-trans _ _ _ so_far.found (IsPermutation-found asked node _ _ behind);
              live = IsPermutation-trans _ _ _ so_far.live (live-removed copies i copy within is dead);
              loses = loses-more dead;
              passed = λ first. All-same IsAlive (take i (swap_remove copies i copy)) (take i copies) (take-swap_remove copies i copy within) (so_far.passed first);
              steps = Reads-trans law old mid new _ live_behind live_behind _ (length copies) (length (swap_remove copies i copy))
                  (subst (λ (live : ℕ). Makes Made old mid (Reads (length (live_copies expiration cmp (Some time) (drop start before))) live (length before) (length copies))) (sym (length_permutation _ _ behind)) so_far.steps)
                  (Reads-dead law mid tested new live_behind (length copies) (length (swap_remove copies i copy)) first second (one_fewer copies i copy within is));
            }

        -- the walk goes past it, where it is live
        live_on : is_live expiration cmp time copy.1 ≡ true → live_copies expiration cmp (Some time) (drop i copies) ≡ copy ∷ live_copies expiration cmp (Some time) (drop (i + 1) copies)
        live_on alive = ap (live_copies expiration cmp (Some time)) (drop_more copies i copy within ∙ ap (λ (first : ℕ × V). first ∷ drop (i + 1) copies) (sym is)) ∙ live-alive copy (drop (i + 1) copies) alive

        pub Reads-past : (tested : S) → Made mid tested one_test → is_live expiration cmp time copy.1 ≡ true
            → Makes Made old tested (Reads (length (live_copies expiration cmp (Some time) (drop start before))) (length (live_copies expiration cmp (Some time) (drop (i + 1) copies))) (length before) (length copies))
        Reads-past tested first alive =
            Reads-trans law old mid tested _ (length (live_copies expiration cmp (Some time) (drop i copies))) _ _ (length copies) _ so_far.steps
            (Reads-live law mid tested _ (length (live_copies expiration cmp (Some time) (drop (i + 1) copies))) (length copies) first (omega (arith, ap length (live_on alive))))

        pub passed-more : is_live expiration cmp time copy.1 ≡ true → AllLive expiration cmp time (take start before) → AllLive expiration cmp time (take (i + 1) copies)
        passed-more alive first = All-more IsAlive copies i copy within (so_far.passed first) (subst IsAlive is alive)

        -- its member isn't found here
        pub InChunk-passed : (tested : S) → Made mid tested one_test → is_live expiration cmp time copy.1 ≡ true → (lowest (bit_and copy.0 asked) == node) ≡ false → InChunk old tested before start copies (i + 1)
        InChunk-passed tested first alive elsewhere =
            record {
              found = subst (λ (found : List (Member V)). IsPermutation (found_at expiration cmp (Some time) asked node (drop start before)) found)
                  (ap (found_of asked node) (live_on alive) ∙ ap (λ (copies : List (ℕ × V)). map member_of copies) (cond-false (lowest (bit_and copy.0 asked) == node) (copy ∷ rest) rest elsewhere))
                  so_far.found;
              live = so_far.live;
              loses = so_far.loses;
              passed = passed-more alive;
              steps = Reads-past tested first alive;
            }
          where
            rest : List (ℕ × V)
            rest = filter (λ copy. lowest (bit_and copy.0 asked) == node) (live_copies expiration cmp (Some time) (drop (i + 1) copies))

        -- its member is found here
        pub InChunk-found : is_live expiration cmp time copy.1 ≡ true → (lowest (bit_and copy.0 asked) == node) ≡ true
            → IsPermutation (found_at expiration cmp (Some time) asked node (drop start before)) (member_of copy ∷ found_at expiration cmp (Some time) asked node (drop (i + 1) copies))
        InChunk-found alive here =
            subst (λ (found : List (Member V)). IsPermutation (found_at expiration cmp (Some time) asked node (drop start before)) found)
            (ap (found_of asked node) (live_on alive) ∙ ap (λ (copies : List (ℕ × V)). map member_of copies) (cond-true (lowest (bit_and copy.0 asked) == node) (copy ∷ rest) rest here))
            so_far.found
          where
            rest : List (ℕ × V)
            rest = filter (λ copy. lowest (bit_and copy.0 asked) == node) (live_copies expiration cmp (Some time) (drop (i + 1) copies))
