-- Pairs of an edge and a point: those that are kept of what the sweep tells, and those of both sweeps together.
use Rattle.std.proofs.Common.{◌≡◌, ◌≢◌, ◌⊎◌, ◌∙◌, ap, arith, inl, inr, refl, subst, sym, ⊎_elim, Bool, true, false, ℕ, ◌<◌, ◌+◌, List, [], ◌∷◌, ◌++◌, Some, get_or, length, map, take, append-nil, ◌≤◌}
use Rattle.std.proofs.lemmas.List.{append_assoc, map-append, take_all, take_more}
use Rattle.std.specs.List.{All, Contains, slice_get}
use Rattle.std.specs.Option.{option_map}
use Rattle.std.proofs.lemmas.List.Elements.{Contains-append_cases, Contains-append_left, Contains-append_right, Contains-get_or, Contains-push, Contains-push_cases}
use Rattle.std.proofs.lemmas.List.Quantifiers.{all_pairs_push}
use Rattle.std.proofs.lemmas.Option.{same_Some, slice_get-get_or, slice_get-map, slice_get_within}
use Rattle.i_tree.proofs.RootLemmas.Joined.{AllPairs-across, AllPairs-append, AllPairs-front}
use Rattle.plane.specs.declared.columns.Asked.{Asked}
use Rattle.plane.specs.declared.edge.Edge.{Edge}
use Rattle.plane.specs.declared.point.Point.{Point}
use Rattle.plane.specs.Columns.Asked.{Reaches}
use Rattle.plane.specs.Pairs.Pairs.{ArePairsBetween, PairBetween}
use Rattle.noding.specs.Close.{PassesPoint}
use Rattle.noding.specs.Columns.Passing.{AreKept, HasHeights, PassesAs, asked_of, is_steep, swept_edge}
use Rattle.noding.proofs.ColumnLemmas.Passing.{Reaches-passed, Reaches-swept}

abbrev Pair : Type 0
Pair = ℕ × ℕ

abbrev Differ : Pair → Pair → Type 0
Differ pair later = pair ≢ later

-- ---- pairs that are kept, one by one

module _ (Is : ℕ → ℕ → Type 0) where
  pub AreKept-none : AreKept Is [] []
  AreKept-none = record {
    once = λ differ. differ;
    exact = λ i j. (λ (k, within, at). absurd (omega (arith, within)), λ ((k, within, at), is). absurd (omega (arith, within)));
  }

  -- one more that is kept
  pub AreKept-more : (pairs kept : List Pair) (pair : Pair) → Is pair.0 pair.1 → AreKept Is pairs kept → AreKept Is (pairs ++ pair ∷ []) (kept ++ pair ∷ [])
  AreKept-more pairs kept pair is are = record {
    once = λ differ. all_pairs_push Differ kept pair (are.once (AllPairs-front Differ pairs (pair ∷ []) differ))
        (λ k d within.
        let (at, before, same) = ((are.exact (get_or kept k d).0 (get_or kept k d).1).0 (Contains-get_or kept k d within)).0 in
        subst (λ (p : Pair). p ≢ pair) same
        (AllPairs-across Differ pairs (pair ∷ []) differ at ((get_or kept k d).0, (get_or kept k d).1) before 0 (0, 0) (omega arith)));
    exact = λ i j. (
      λ held. ⊎_elim
          (λ earlier. let found = (are.exact i j).0 earlier in (Contains-append_left pairs (pair ∷ []) (i, j) found.0, found.1))
          (λ same. (subst (λ (p : Pair). Contains (pairs ++ pair ∷ []) p) same (Contains-push pairs pair), subst (λ (p : Pair). Is p.0 p.1) same is))
          (Contains-push_cases kept pair (i, j) held),
      λ (held, holds). ⊎_elim
          (λ earlier. Contains-append_left kept (pair ∷ []) (i, j) ((are.exact i j).1 (earlier, holds)))
          (λ same. subst (λ (p : Pair). Contains (kept ++ pair ∷ []) p) same (Contains-push kept pair))
          (Contains-push_cases pairs pair (i, j) held),
    );
  }

  -- and one that isn't
  pub AreKept-less : (pairs kept : List Pair) (pair : Pair) → ¬ (Is pair.0 pair.1) → AreKept Is pairs kept → AreKept Is (pairs ++ pair ∷ []) kept
  AreKept-less pairs kept pair isnt are = record {
    once = λ differ. are.once (AllPairs-front Differ pairs (pair ∷ []) differ);
    exact = λ i j. (
      λ held. (let found = (are.exact i j).0 held in (Contains-append_left pairs (pair ∷ []) (i, j) found.0, found.1)),
      λ (held, holds). ⊎_elim
          (λ earlier. (are.exact i j).1 (earlier, holds))
          (λ same. absurd (isnt (subst (λ (p : Pair). Is p.0 p.1) (sym same) holds)))
          (Contains-push_cases pairs pair (i, j) held),
    );
  }

-- ---- what the sweep tells of some edges, as those that pass

map_at : {X Y : Type 0} (f : X → Y) (xs : List X) (i : ℕ) (x : X) → slice_get xs i ≡ Some x → slice_get (map f xs) i ≡ Some (f x)
map_at f xs i x is = slice_get-map f xs i ∙ ap (option_map f) is

same_at : {X Y : Type 0} (f : X → Y) (xs : List X) (i : ℕ) (x : X) (y : Y) → slice_get xs i ≡ Some x → slice_get (map f xs) i ≡ Some y → f x ≡ y
same_at f xs i x y is mapped = same_Some _ _ (sym (map_at f xs i x is) ∙ mapped)

holds_at : {X : Type 0} (P : X → Type 0) (xs : List X) (i : ℕ) (x : X) → All P xs → slice_get xs i ≡ Some x → P x
holds_at P xs i x all is =
    let within = slice_get_within xs i x is in
    subst P (same_Some _ _ (sym (slice_get-get_or xs i x within) ∙ is)) (all i x within)

module _ (steep : Bool) (edges : List Edge) (points : List Point) (met kept : List Pair) (heights : All HasHeights (map (swept_edge steep) edges))
    (told : ArePairsBetween Reaches (map (swept_edge steep) edges) (map (asked_of steep) points) met) (are : AreKept (PairBetween PassesPoint edges points) met kept) where
  to : (i j : ℕ) → Contains kept (i, j) → PairBetween (PassesAs steep) edges points i j
  to i j held =
      let (meets, pair) = (are.exact i j).0 held in
      let reached = (told.exact i j).0 meets in
      let edge : swept_edge steep pair.one ≡ reached.one = same_at (swept_edge steep) edges i pair.one reached.one pair.first reached.first in
      let asked : asked_of steep pair.other ≡ reached.other = same_at (asked_of steep) points j pair.other reached.other pair.second reached.second in
      let reaches = subst (λ (e : Edge). Reaches e (asked_of steep pair.other)) (sym edge) (subst (λ (a : Asked). Reaches reached.one a) (sym asked) reached.meet) in record {
        one = pair.one;
        other = pair.other;
        first = pair.first;
        second = pair.second;
        meet = (Reaches-swept steep pair.one pair.other reaches, pair.meet);
      }

  from : (i j : ℕ) → PairBetween (PassesAs steep) edges points i j → Contains kept (i, j)
  from i j pair =
      let first = map_at (swept_edge steep) edges i pair.one pair.first in
      let high = holds_at HasHeights (map (swept_edge steep) edges) i (swept_edge steep pair.one) heights first in
      (are.exact i j).1 (
        (told.exact i j).1 (record {
          one = swept_edge steep pair.one;
          other = asked_of steep pair.other;
          first = first;
          second = map_at (asked_of steep) points j pair.other pair.second;
          meet = Reaches-passed steep pair.one pair.other high pair.meet.0 pair.meet.1;
        }),
        record { one = pair.one; other = pair.other; first = pair.first; second = pair.second; meet = pair.meet.1 },
      )

  pub ArePassed-kept : ArePairsBetween (PassesAs steep) edges points kept
  ArePassed-kept = record { once = are.once told.once; exact = λ i j. (to i j, from i j) }

-- ---- both sweeps

one_of : (steep : Bool) → (steep ≡ false) ⊎ (steep ≡ true)
one_of false = inl refl
one_of true = inr refl

not_both : {steep : Bool} → steep ≡ false → steep ≡ true → ⊥
not_both is isnt = cc

module _ (edges : List Edge) (points : List Point) (flat steep : List Pair) (are : ArePairsBetween (PassesAs false) edges points flat) (others : ArePairsBetween (PassesAs true) edges points steep) where
  joined : (i j : ℕ) → PairBetween PassesPoint edges points i j → Contains (flat ++ steep) (i, j)
  joined i j pair = ⊎_elim
      (λ is. Contains-append_left flat steep (i, j) ((are.exact i j).1 (record { one = pair.one; other = pair.other; first = pair.first; second = pair.second; meet = (is, pair.meet) })))
      (λ is. Contains-append_right flat steep (i, j) ((others.exact i j).1 (record { one = pair.one; other = pair.other; first = pair.first; second = pair.second; meet = (is, pair.meet) })))
      (one_of (is_steep pair.one))

  passed : (kind : Bool) (i j : ℕ) → PairBetween (PassesAs kind) edges points i j → PairBetween PassesPoint edges points i j
  passed kind i j pair = record { one = pair.one; other = pair.other; first = pair.first; second = pair.second; meet = pair.meet.1 }

  apart : (i j : ℕ) → Contains flat (i, j) → Contains steep (i, j) → ⊥
  apart i j held other_held =
      let one = (are.exact i j).0 held in
      let other = (others.exact i j).0 other_held in
      not_both one.meet.0 (ap is_steep (same_Some _ _ (sym one.first ∙ other.first)) ∙ other.meet.0)

  pub ArePassed-joined : ArePairsBetween PassesPoint edges points (flat ++ steep)
  ArePassed-joined = record {
    once = AllPairs-append Differ flat steep are.once others.once
        (λ k d within l e inside same.
        let pair = get_or flat k d in
        apart pair.0 pair.1 (Contains-get_or flat k d within) (subst (λ (p : Pair). Contains steep p) (sym same) (Contains-get_or steep l e inside)));
    exact = λ i j. (
      λ held. ⊎_elim (λ of. passed false i j ((are.exact i j).0 of)) (λ of. passed true i j ((others.exact i j).0 of)) (Contains-append_cases flat steep (i, j) held),
      joined i j,
    );
  }

-- ---- one pair after the other, and all of them

module _ (Is : ℕ → ℕ → Type 0) (pairs before : List Pair) where
  -- of the pairs so far those that are kept were appended
  abbrev pub KeepsUpto : ℕ → List Pair → Type 0
  KeepsUpto k now = (kept : List Pair) × (now ≡ before ++ kept) × AreKept Is (take k pairs) kept

  pub keeps-first : KeepsUpto 0 before
  keeps-first = ([], sym (append-nil before), AreKept-none Is)

  pub keeps-more : (k : ℕ) (now after : List Pair) → k < length pairs → KeepsUpto k now → Is (get_or pairs k (0, 0)).0 (get_or pairs k (0, 0)).1 → after ≡ now ++ get_or pairs k (0, 0) ∷ [] → KeepsUpto (k + 1) after
  keeps-more k now after within (kept, same, are) is appended = (
    kept ++ get_or pairs k (0, 0) ∷ [],
    appended ∙ ap (λ (list : List Pair). list ++ get_or pairs k (0, 0) ∷ []) same ∙ append_assoc before kept (get_or pairs k (0, 0) ∷ []),
    subst (λ (done : List Pair). AreKept Is done (kept ++ get_or pairs k (0, 0) ∷ [])) (sym (take_more pairs k (0, 0) within)) (AreKept-more Is (take k pairs) kept (get_or pairs k (0, 0)) is are),
  )

  pub keeps-less : (k : ℕ) (now after : List Pair) → k < length pairs → KeepsUpto k now → ¬ (Is (get_or pairs k (0, 0)).0 (get_or pairs k (0, 0)).1) → after ≡ now → KeepsUpto (k + 1) after
  keeps-less k now after within (kept, same, are) isnt stays = (
    kept,
    stays ∙ same,
    subst (λ (done : List Pair). AreKept Is done kept) (sym (take_more pairs k (0, 0) within)) (AreKept-less Is (take k pairs) kept (get_or pairs k (0, 0)) isnt are),
  )

  pub keeps-all : (k : ℕ) (now : List Pair) → length pairs ≤ k → KeepsUpto k now → (kept : List Pair) × (now ≡ before ++ kept) × AreKept Is pairs kept
  keeps-all k now all (kept, same, are) = (kept, same, subst (λ (done : List Pair). AreKept Is done kept) (take_all k pairs all) are)

-- ---- a list that is made of another, item by item

module _ {X Y : Type 0} (f : X → Y) (xs : List X) where
  pub mapped-more : (k : ℕ) (d : X) (now after : List Y) (last : Y) → k < length xs → now ≡ map f (take k xs) → after ≡ now ++ last ∷ [] → last ≡ f (get_or xs k d) → after ≡ map f (take (k + 1) xs)
  mapped-more k d now after last within same appended is =
      appended ∙ ap (λ (list : List Y). list ++ last ∷ []) same ∙ ap (λ (y : Y). map f (take k xs) ++ y ∷ []) is
      ∙ sym (map-append f (take k xs) (get_or xs k d ∷ [])) ∙ ap (map f) (sym (take_more xs k d within))

  pub mapped-all : (k : ℕ) (now : List Y) → length xs ≤ k → now ≡ map f (take k xs) → now ≡ map f xs
  mapped-all k now all same = same ∙ ap (map f) (take_all k xs all)

-- ---- a pair of an edge and a point

module _ (edges : List Edge) (points : List Point) (pair : Pair) (edge_less : Edge) (point_less : Point) (within : pair.0 < length edges) (inside : pair.1 < length points) where
  pub is_pair : PassesPoint (get_or edges pair.0 edge_less) (get_or points pair.1 point_less) → PairBetween PassesPoint edges points pair.0 pair.1
  is_pair passes = record {
    one = get_or edges pair.0 edge_less;
    other = get_or points pair.1 point_less;
    first = slice_get-get_or edges pair.0 edge_less within;
    second = slice_get-get_or points pair.1 point_less inside;
    meet = passes;
  }

  pub is_none : ¬ (PassesPoint (get_or edges pair.0 edge_less) (get_or points pair.1 point_less)) → ¬ (PairBetween PassesPoint edges points pair.0 pair.1)
  is_none none is =
      let edge = same_Some _ _ (sym is.first ∙ slice_get-get_or edges pair.0 edge_less within) in
      let point = same_Some _ _ (sym is.second ∙ slice_get-get_or points pair.1 point_less inside) in
      none (subst (λ (e : Edge). PassesPoint e (get_or points pair.1 point_less)) edge (subst (λ (p : Point). PassesPoint is.one p) point is.meet))
