-- The pairs among items of two kinds, first those of the one and then those of the other, are the pairs between the two.
use Rattle.std.proofs.Common.{◌≡◌, ◌≢◌, ℕ, zero, suc, ◌+◌, ◌-◌, ◌<◌, ◌≤◌, Some, List, [], ◌∷◌, ◌++◌, length, get_or, map, take, drop, length-append, ap, ap₂, ◌∙◌, subst, subst₂, arith}
use Rattle.std.specs.List.{All, Contains, slice_get}
use Rattle.std.proofs.Math.Seq.{take-append_seam, drop-append_seam}
use Rattle.std.proofs.lemmas.List.{length-map}
use Rattle.std.proofs.lemmas.List.Elements.{Contains-get_or}
use Rattle.std.proofs.lemmas.Option.{slice_get_within}
use Rattle.i_tree.proofs.RootLemmas.Joined.{AllPairs-to_map}
use Rattle.plane.specs.Pairs.Bounds.{BoundsMeet, MeetInBoxes, MeetInBoxesAcross}
use Rattle.plane.specs.Pairs.OfTwo.{bounds_of_two, MeetingOfTwo}
use Rattle.plane.specs.Pairs.Pairs.{PairAt, PairBetween, ArePairs, ArePairsBetween}
use Rattle.plane.specs.declared.pairs.items.Bounds.{Bounds}
use Rattle.plane.specs.declared.pairs.two.OfTwo.{OfTwo}
use Rattle.plane.specs.declared.pairs.two.OfTwo.TheVariants.{One, Other}
use Rattle.plane.proofs.PairsLemmas.Bags.{Contains-map, Contains-from_map}

-- items of two kinds meet only where their boxes do
pub of_two-in_boxes : {X Y : Type 0} (bounds : X → Bounds) (other_bounds : Y → Bounds) (Meeting : X → Y → Type 0) → MeetInBoxesAcross bounds other_bounds Meeting → MeetInBoxes (bounds_of_two bounds other_bounds) (MeetingOfTwo Meeting)
of_two-in_boxes {X} {Y} bounds other_bounds Meeting boxed = record {
  proper = elim [ One one ↦ boxed.proper one | Other other ↦ boxed.other_proper other ];
  exchanged = exchanged;
  near = near;
}
  where
    exchanged : (one other : OfTwo X Y) → MeetingOfTwo Meeting one other → MeetingOfTwo Meeting other one
    exchanged (One one) (Other other) meet = meet
    exchanged (Other other) (One one) meet = meet
    exchanged (One one) (One other) meet = meet
    exchanged (Other one) (Other other) meet = meet

    near : (one other : OfTwo X Y) → MeetingOfTwo Meeting one other → BoundsMeet (bounds_of_two bounds other_bounds one) (bounds_of_two bounds other_bounds other)
    near (One one) (Other other) meet = boxed.near one other meet
    near (Other other) (One one) meet =
        let boxes = boxed.near one other meet in
        record { left = boxes.right; right = boxes.left; low = boxes.high; high = boxes.low }
    near (One one) (One other) meet = absurd meet
    near (Other one) (Other other) meet = absurd meet

module _ {X Y : Type 0} where
  abbrev of_one : X → OfTwo X Y
  of_one one = One one

  abbrev of_other : Y → OfTwo X Y
  of_other other = Other other

  abbrev pub both : List X → List Y → List (OfTwo X Y)
  both items others = map of_one items ++ map of_other others

  -- ---- where the items of both lists stand

  none_of_one : (others : List Y) (i : ℕ) (x : X) → slice_get (map of_other others) i ≡ Some (of_one x) → ⊥
  none_of_one [] i x is = cc
  none_of_one (y ∷ others) zero x is = cc
  none_of_one (y ∷ others) (suc i) x is = none_of_one others i x is

  one_at : (items : List X) (others : List Y) (i : ℕ) (x : X) → slice_get (both items others) i ≡ Some (of_one x) → slice_get items i ≡ Some x
  one_at [] others i x is = absurd (none_of_one others i x is)
  one_at (y ∷ items) others zero x is = cc
  one_at (y ∷ items) others (suc i) x is = one_at items others i x is

  at_one : (items : List X) (others : List Y) (i : ℕ) (x : X) → slice_get items i ≡ Some x → slice_get (both items others) i ≡ Some (of_one x)
  at_one [] others i x is = cc
  at_one (y ∷ items) others zero x is = cc
  at_one (y ∷ items) others (suc i) x is = at_one items others i x is

  other_of : (others : List Y) (j : ℕ) (y : Y) → slice_get (map of_other others) j ≡ Some (of_other y) → slice_get others j ≡ Some y
  other_of [] j y is = cc
  other_of (x ∷ others) zero y is = cc
  other_of (x ∷ others) (suc j) y is = other_of others j y is

  with_other : (others : List Y) (j : ℕ) (y : Y) → slice_get others j ≡ Some y → slice_get (map of_other others) j ≡ Some (of_other y)
  with_other [] j y is = cc
  with_other (x ∷ others) zero y is = cc
  with_other (x ∷ others) (suc j) y is = with_other others j y is

  -- an item of the second kind stands behind those of the first
  pub record Behind (items : List X) (others : List Y) (j : ℕ) (y : Y) : Type 0 where
    pub place : ℕ
    pub is : j ≡ length items + place
    pub stands : slice_get others place ≡ Some y

  other_at : (items : List X) (others : List Y) (j : ℕ) (y : Y) → slice_get (both items others) j ≡ Some (of_other y) → Behind items others j y
  other_at [] others j y is = record { place = j; is = omega arith; stands = other_of others j y is }
  other_at (x ∷ items) others zero y is = cc
  other_at (x ∷ items) others (suc j) y is =
      let behind = other_at items others j y is in
      let at = behind.is in
      record { place = behind.place; is = omega (arith, at); stands = behind.stands }

  at_other : (items : List X) (others : List Y) (place : ℕ) (y : Y) → slice_get others place ≡ Some y → slice_get (both items others) (length items + place) ≡ Some (of_other y)
  at_other [] others place y is =
      let after : place ≡ 0 + place = omega arith in
      subst (λ (j : ℕ). slice_get (map of_other others) j ≡ Some (of_other y)) after (with_other others place y is)
  at_other (x ∷ items) others place y is =
      let after : suc (length items + place) ≡ suc (length items) + place = omega arith in
      subst (λ (j : ℕ). slice_get (both (x ∷ items) others) j ≡ Some (of_other y)) after (at_other items others place y is)

  -- ---- the pairs

  module _ (Meeting : X → Y → Type 0) (items : List X) (others : List Y) where
    -- a pair of both lists
    record Between (i j : ℕ) : Type 0 where
      place : ℕ
      is : j ≡ length items + place
      between : PairBetween Meeting items others i place

    between_of : (i j : ℕ) → PairAt (MeetingOfTwo Meeting) (both items others) i j → Between i j
    between_of i j pair = go pair.one pair.other pair.first pair.second pair.meet
      where
        go : (one other : OfTwo X Y) → slice_get (both items others) i ≡ Some one → slice_get (both items others) j ≡ Some other → MeetingOfTwo Meeting one other → Between i j
        go (One one) (Other other) first second meet =
            let behind = other_at items others j other second in
            record { place = behind.place; is = behind.is; between = record { one = one; other = other; first = one_at items others i one first; second = behind.stands; meet = meet } }
        go (Other other) (One one) first second meet =
            let behind = other_at items others i other first in
            let inside = slice_get_within items j one (one_at items others j one second) in
            let rising = pair.rising in
            let at = behind.is in
            absurd (omega (arith, inside, rising, at))
        go (One one) (One other) first second meet = absurd meet
        go (Other one) (Other other) first second meet = absurd meet

    pair_of_between : (i place : ℕ) → PairBetween Meeting items others i place → PairAt (MeetingOfTwo Meeting) (both items others) i (length items + place)
    pair_of_between i place between = record {
      one = One between.one;
      other = Other between.other;
      rising = let inside = slice_get_within items i between.one between.first in omega (arith, inside);
      first = at_one items others i between.one between.first;
      second = at_other items others place between.other between.second;
      meet = between.meet;
    }

    module _ (pairs : List (ℕ × ℕ)) (are : ArePairs (MeetingOfTwo Meeting) (both items others) pairs) where
      abbrev between_at : (k : ℕ) (d : ℕ × ℕ) → k < length pairs → Between (get_or pairs k d).0 (get_or pairs k d).1
      between_at k d within = between_of (get_or pairs k d).0 (get_or pairs k d).1 ((are.exact (get_or pairs k d).0 (get_or pairs k d).1).0 (Contains-get_or pairs k d within))

      -- their second places are those of the second list
      pub above : All (λ pair. length items ≤ pair.1) pairs
      above k d within = let is = (between_at k d within).is in omega (arith, is)

      abbrev numbered : ℕ × ℕ → ℕ × ℕ
      numbered pair = (pair.0, pair.1 - length items)

      pub ArePairsBetween-numbered : ArePairsBetween Meeting items others (map (λ (pair : ℕ × ℕ). (pair.0, pair.1 - length items)) pairs)
      ArePairsBetween-numbered = record {
        once = AllPairs-to_map (λ (pair later : ℕ × ℕ). pair ≢ later) numbered pairs
            (λ k l d below within same.
            let first = get_or pairs k d in
            let second = get_or pairs l d in
            let low = above k d (omega (arith, below, within)) in
            let high = above l d within in
            let left : first.0 ≡ second.0 = ap (λ (pair : ℕ × ℕ). pair.0) same in
            let right = ap (λ (pair : ℕ × ℕ). pair.1) same in
            are.once k l d below within (ap₂ (λ (a b : ℕ). (a, b)) left (omega (arith, low, high, right))));
        exact = λ i place. (
          λ within.
              let (pair, inside, is) = Contains-from_map numbered pairs (i, place) within in
              let between = between_of pair.0 pair.1 ((are.exact pair.0 pair.1).0 inside) in
              let at = between.is in
              let left : pair.0 ≡ i = ap (λ (pair : ℕ × ℕ). pair.0) is in
              let right = ap (λ (pair : ℕ × ℕ). pair.1) is in
              let same : between.place ≡ place = omega (arith, at, right) in
              subst₂ (PairBetween Meeting items others) left same between.between,
          λ between.
              let there = (are.exact i (length items + place)).1 (pair_of_between i place between) in
              subst (λ (n : ℕ). Contains (map numbered pairs) (i, n)) (omega arith) (Contains-map numbered pairs (i, length items + place) there),
        );
      }

-- a list whose end is numbered anew, written back over the whole of it
pub written_back : {X : Type 0} (f : X → X) (before pairs all new : List X) (start size : ℕ) → all ≡ before ++ pairs → start ≡ length before → size ≡ length all → new ≡ take start all ++ map f (drop start all)
    → take size (new ++ drop (length new) all) ≡ before ++ map f pairs
written_back {X} f before pairs all new start size are at is anew =
    let front : take start all ≡ before = ap₂ (λ (n : ℕ) (list : List X). take n list) at are ∙ take-append_seam before pairs in
    let behind : drop start all ≡ pairs = ap₂ (λ (n : ℕ) (list : List X). drop n list) at are ∙ drop-append_seam before pairs in
    let both : new ≡ before ++ map f pairs = anew ∙ ap₂ (λ (a b : List X). a ++ map f b) front behind in
    let whole = ap length both in
    let sizes = ap length are in
    let same : size ≡ length new = omega (arith, whole, sizes, is, length-append before (map f pairs), length-append before pairs, length-map pairs f) in
    ap (λ (n : ℕ). take n (new ++ drop (length new) all)) same ∙ take-append_seam new (drop (length new) all) ∙ both
