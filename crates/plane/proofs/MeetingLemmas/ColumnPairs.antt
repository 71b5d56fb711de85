-- The pairs of places of edges that two sweeps over columns and common ends tell have all that meet.
use Rattle.std.proofs.Common.{arith, ap, ap₂, inl, inr, refl, sym, subst, subst₂, ◌∙◌, ⊎_elim, ℕ, Bool, true, false, cond, ◌+◌, ◌-◌, ◌<◌, ◌≡◌, ◌≢◌, ◌++◌, List, [], ◌∷◌, Some, get_or, length, map, min, max}
use Rattle.std.specs.Prelude.{nat_lt}
use Rattle.std.specs.List.{All, AllPairs, Contains, slice_get}
use Rattle.std.proofs.lemmas.Bool.{lt-ltb, ltb-true}
use Rattle.std.proofs.lemmas.List.{get_or-append_right, length-append, length-map}
use Rattle.std.proofs.lemmas.List.Elements.{All-append, Contains-append_left, Contains-append_right, Contains-get_or}
use Rattle.std.proofs.lemmas.Option.{get_or_from_slice_get, same_Some, slice_get-get_or, slice_get_within}
use Rattle.i_tree.proofs.RbLemmas.Slots.Growth.{slice_get-append_kept}
use Rattle.plane.specs.declared.columns.Asked.{Asked}
use Rattle.plane.specs.declared.edge.Edge.{Edge}
use Rattle.plane.specs.Columns.Asked.{Reaches}
use Rattle.plane.specs.Gains.{GainsThese, HaveSame, IsOfSome}
use Rattle.plane.specs.Meet.Columns.{EitherWay, HaveAllAlike, HaveAllFound, HaveAllMeetings, IsMeetingOf, IsPairAbout, IsWithinCount, asked_first, asked_last, exchanged, place_about}
use Rattle.plane.specs.Meet.Edges.{Meet}
use Rattle.plane.specs.Meet.Meetings.{AreMeetings}
use Rattle.plane.specs.Pairs.Pairs.{PairAt, ArePairs, ArePairsBetween}
use Rattle.plane.specs.Pairs.Sweep.{pair_of}
use Rattle.plane.specs.SweepLine.Crossings.{Cross}
use Rattle.plane.proofs.GainsLemmas.{gains-none, gains-only}
use Rattle.plane.proofs.MeetingLemmas.Columns.{Found, told-meeting}
use Rattle.plane.proofs.PairsLemmas.Compared.{mapped_at}

-- ---- what is asked, and the edge that it is about

pub slice_get-behind : {X : Type 0} (xs ys : List X) (n i : ℕ) (x : X) → n ≡ length xs → slice_get ys i ≡ Some x → slice_get (xs ++ ys) (n + i) ≡ Some x
slice_get-behind xs ys n i x size is =
    let inside = slice_get_within ys i x is in
    let both = length-append xs ys in
    let back : n + i - n ≡ i = omega arith in
    slice_get-get_or (xs ++ ys) (n + i) x (omega (arith, size, inside, both))
    ∙ ap Some (get_or-append_right xs ys n (n + i) x (sym size) (omega arith) ∙ ap (λ (k : ℕ). get_or ys k x) back ∙ get_or_from_slice_get ys i x x is)

about-first : (count place : ℕ) → place < count → place_about count place ≡ place
about-first count place below = ap (λ (b : Bool). cond b place (place - count)) (lt-ltb place count below)

about-last : (count place : ℕ) → place_about count (count + place) ≡ place
about-last count place = by (nat_lt (count + place) count) refl
  where
    by : (b : Bool) → b ≡ nat_lt (count + place) count → cond b (count + place) (count + place - count) ≡ place
    by true is = absurd (let below = ltb-true (count + place) count (sym is) in omega (arith, below))
    by false is = omega arith

about-within : (count place : ℕ) → place < count + count → place_about count place < count
about-within count place inside = by (nat_lt place count) refl
  where
    by : (b : Bool) → b ≡ nat_lt place count → cond b place (place - count) < count
    by true is = ltb-true place count (sym is)
    by false is = omega (arith, inside)

module _ (edges : List Edge) (asked : List Asked) (crossed met pairs : List (ℕ × ℕ)) (asked_is : asked ≡ map asked_first edges ++ map asked_last edges) (gains : GainsThese (IsOfSome (IsPairAbout (length edges)) met) crossed pairs) where
  module _ (all_crossed : ArePairs Cross edges crossed) (all_met : ArePairsBetween Reaches edges asked met) where
    met_about : (i j k : ℕ) (one : Edge) (about : Asked) → slice_get edges i ≡ Some one → slice_get (map asked_first edges ++ map asked_last edges) k ≡ Some about → Reaches one about → place_about (length edges) k ≡ j → Contains pairs (i, j)
    met_about i j k one about first stands reaches is =
        (gains (i, j)).1 (inr (
          (i, k),
          (all_met.exact i k).1 (record { one = one; other = about; first = first; second = ap (λ (list : List Asked). slice_get list k) asked_is ∙ stands; meet = reaches }),
          ap (λ (place : ℕ). (i, place)) (sym is),
        ))

    pub HaveAllFound-columns : HaveAllFound edges pairs
    HaveAllFound-columns = record {
      crossed = λ i j pair. (gains (i, j)).1 (inl ((all_crossed.exact i j).1 pair));
      met = λ i j pair. elim pair.meet [
        | inl reaches ↦
            met_about i j j pair.one (asked_first pair.other) pair.first
            (slice_get-append_kept (map asked_first edges) (map asked_last edges) j (asked_first pair.other) (mapped_at asked_first edges j pair.other pair.second)) reaches
            (about-first (length edges) j (slice_get_within edges j pair.other pair.second))
        | inr reaches ↦
            met_about i j (length edges + j) pair.one (asked_last pair.other) pair.first
            (slice_get-behind (map asked_first edges) (map asked_last edges) (length edges) j (asked_last pair.other) (sym (length-map edges asked_first)) (mapped_at asked_last edges j pair.other pair.second)) reaches
            (about-last (length edges) j)
      ];
    }

  pub found-within : All (λ pair. (pair.0 < length edges) × (pair.1 < length edges)) crossed → All (λ pair. (pair.0 < length edges) × (pair.1 < length asked)) met → All (IsWithinCount (length edges)) pairs
  found-within within met_within k d below =
      ⊎_elim (held (IsWithinCount (length edges)) crossed within (get_or pairs k d))
      (λ (found, of, is).
      let at = held (λ pair. (pair.0 < length edges) × (pair.1 < length asked)) met met_within found of in
      subst (IsWithinCount (length edges)) (sym is) (at.0, about-within (length edges) found.1 (let inside = at.1 in let size = sizes in omega (arith, inside, size))))
      ((gains (get_or pairs k d)).0 (Contains-get_or pairs k d below))
    where
      held : (P : ℕ × ℕ → Type 0) (list : List (ℕ × ℕ)) → All P list → (pair : ℕ × ℕ) → Contains list pair → P pair
      held P list all pair (at, inside, is) = subst P is (all at pair inside)

      sizes : length asked ≡ length edges + length edges
      sizes = ap length asked_is ∙ length-append (map asked_first edges) (map asked_last edges) ∙ ap₂ (λ (m n : ℕ). m + n) (length-map edges asked_first) (length-map edges asked_last)

-- ---- all that meet

either-found : (edges : List Edge) (found : List (ℕ × ℕ)) → HaveAllFound edges found → (i j : ℕ) (one other : Edge) → i < j → slice_get edges i ≡ Some one → slice_get edges j ≡ Some other → Found one other → EitherWay found i j
either-found edges found all i j one other rising first second (inl cross) =
    inl (all.crossed i j (record { one = one; other = other; rising = rising; first = first; second = second; meet = cross }))
either-found edges found all i j one other rising first second (inr (inl reaches)) = inl (all.met i j (record { one = one; other = other; first = first; second = second; meet = reaches }))
either-found edges found all i j one other rising first second (inr (inr reaches)) = inr (all.met j i (record { one = other; other = one; first = second; second = first; meet = reaches }))

either-left : (front back : List (ℕ × ℕ)) (i j : ℕ) → EitherWay front i j → EitherWay (front ++ back) i j
either-left front back i j = ⊎_elim (λ held. inl (Contains-append_left front back (i, j) held)) (λ held. inr (Contains-append_left front back (j, i) held))

either-right : (front back : List (ℕ × ℕ)) (i j : ℕ) → EitherWay back i j → EitherWay (front ++ back) i j
either-right front back i j = ⊎_elim (λ held. inl (Contains-append_right front back (i, j) held)) (λ held. inr (Contains-append_right front back (j, i) held))

pub HaveAllMeetings-joined : (edges turned_edges : List Edge) (found turned ends near : List (ℕ × ℕ)) → turned_edges ≡ map exchanged edges → near ≡ (found ++ turned) ++ ends → HaveAllFound edges found → HaveAllFound turned_edges turned → HaveAllAlike edges ends → HaveAllMeetings edges near
HaveAllMeetings-joined edges turned_edges found turned ends near turned_is near_is all all_turned all_alike i j pair =
    subst (λ (list : List (ℕ × ℕ)). EitherWay list i j) (sym near_is)
    (elim (told-meeting pair.one pair.other pair.meet) [
      | inl (inl told) ↦ either-left (found ++ turned) ends i j (either-left found turned i j (either-found edges found all i j pair.one pair.other pair.rising pair.first pair.second told))
      | inl (inr told) ↦
          either-left (found ++ turned) ends i j
          (either-right found turned i j
          (either-found (map exchanged edges) turned (subst (λ (list : List Edge). HaveAllFound list turned) turned_is all_turned) i j (exchanged pair.one) (exchanged pair.other) pair.rising
          (mapped_at exchanged edges i pair.one pair.first) (mapped_at exchanged edges j pair.other pair.second) told))
      | inr common ↦
          either-right (found ++ turned) ends i j (all_alike i j (record { one = pair.one; other = pair.other; rising = pair.rising; first = pair.first; second = pair.second; meet = common }))
    ])

pub near-within : (edges turned_edges : List Edge) (found turned ends near : List (ℕ × ℕ)) → turned_edges ≡ map exchanged edges → near ≡ (found ++ turned) ++ ends
    → All (IsWithinCount (length edges)) found → All (IsWithinCount (length turned_edges)) turned → All (IsWithinCount (length edges)) ends → All (IsWithinCount (length edges)) near
near-within edges turned_edges found turned ends near turned_is near_is first second third =
    subst (All (IsWithinCount (length edges))) (sym near_is)
    (All-append (IsWithinCount (length edges)) (found ++ turned) ends
    (All-append (IsWithinCount (length edges)) found turned first (subst (λ (n : ℕ). All (IsWithinCount n) turned) (ap length turned_is ∙ length-map edges exchanged) second)) third)

-- ---- those that meet, each once

pair-rising : (i j : ℕ) → i < j → pair_of i j ≡ (i, j)
pair-rising i j below = ap₂ (λ (m n : ℕ). (m, n)) (least i j below) (greatest i j below)
  where
    least : (a b : ℕ) → a < b → min a b ≡ a
    least a b below = omega (arith, below)

    greatest : (a b : ℕ) → a < b → max a b ≡ b
    greatest a b below = omega (arith, below)

pair-falling : (i j : ℕ) → i < j → pair_of j i ≡ (i, j)
pair-falling i j below = ap₂ (λ (m n : ℕ). (m, n)) (least j i below) (greatest j i below)
  where
    least : (a b : ℕ) → b < a → min a b ≡ b
    least a b below = omega (arith, below)

    greatest : (a b : ℕ) → b < a → max a b ≡ a
    greatest a b below = omega (arith, below)

pub AreMeetings-sorted : (edges : List Edge) (near found pairs : List (ℕ × ℕ)) → HaveAllMeetings edges near → GainsThese (IsOfSome (IsMeetingOf edges) near) [] found → HaveSame found pairs → AllPairs (λ pair later. pair ≢ later) pairs → AreMeetings edges pairs
AreMeetings-sorted edges near found pairs all gains same once = record { once = once; exact = λ i j. (to i j, from i j) }
  where
    to : (i j : ℕ) → Contains pairs (i, j) → PairAt Meet edges i j
    to i j held = elim ((gains (i, j)).0 ((same (i, j)).0 held)) [
      | inl (k, within, is) ↦ absurd (omega (arith, within))
      | inr (one, of, is) ↦ is.1
    ]

    from : (i j : ℕ) → PairAt Meet edges i j → Contains pairs (i, j)
    from i j pair =
        (same (i, j)).1
        ((gains (i, j)).1
        (inr (⊎_elim (λ held. ((i, j), held, (sym (pair-rising i j pair.rising), pair))) (λ held. ((j, i), held, (sym (pair-falling i j pair.rising), pair))) (all i j pair))))

-- ---- a pair that is tested

module _ (edges : List Edge) (near : ℕ × ℕ) (first second : ℕ) (is : (first, second) ≡ pair_of near.0 near.1) where
  pub gains-apart : (before : List (ℕ × ℕ)) → ¬ (first < second) → GainsThese (IsMeetingOf edges near) before before
  gains-apart before apart = gains-none (IsMeetingOf edges near) before never
    where
      never : (pair : ℕ × ℕ) → ¬ (IsMeetingOf edges near pair)
      never pair (same, at) =
          let both : pair ≡ (first, second) = same ∙ sym is in
          apart (subst (λ (p : ℕ × ℕ). p.0 < p.1) both at.rising)

  module _ (one other : Edge) (stands : slice_get edges first ≡ Some one) (other_stands : slice_get edges second ≡ Some other) where
    pub gains-meeting : (before after : List (ℕ × ℕ)) → first < second → Meet one other → after ≡ before ++ (first, second) ∷ [] → GainsThese (IsMeetingOf edges near) before after
    gains-meeting before after rising meet appended =
        gains-only (IsMeetingOf edges near) before after (first, second) (is, record { one = one; other = other; rising = rising; first = stands; second = other_stands; meet = meet }) (λ pair same. same.0 ∙ sym is) appended

    pub gains-unmet : (before : List (ℕ × ℕ)) → ¬ (Meet one other) → GainsThese (IsMeetingOf edges near) before before
    gains-unmet before none = gains-none (IsMeetingOf edges near) before never
      where
        never : (pair : ℕ × ℕ) → ¬ (IsMeetingOf edges near pair)
        never pair (same, at) =
            let there = subst (λ (p : ℕ × ℕ). PairAt Meet edges p.0 p.1) (same ∙ sym is) at in
            none (subst₂ Meet (same_Some _ _ (sym there.first ∙ stands)) (same_Some _ _ (sym there.second ∙ other_stands)) there.meet)
