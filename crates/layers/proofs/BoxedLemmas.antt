-- The boxes of those of several shapes that have points, and the pairs of them that meet.
use Rattle.std.proofs.Common.{◌≡◌, ◌≢◌, ◌++◌, ◌∷◌, [], ℕ, ◌+◌, ◌<◌, Some, List, length, get_or, map, sym, subst, subst₂, ap, ap₂, ◌∙◌, arith, inl, inr}
use Rattle.std.specs.List.{All, AllPairs, Any, Contains, slice_get}
use Rattle.std.proofs.lemmas.Bool.{cases_lt}
use Rattle.std.proofs.lemmas.List.{get_or_append_left, get_or-map, length-append}
use Rattle.std.proofs.lemmas.List.Elements.{All-append, All-cons, All-nil, Contains-get_or}
use Rattle.std.proofs.lemmas.List.Quantifiers.{Any-push, all_pairs_push}
use Rattle.std.proofs.lemmas.Option.{get_or_from_slice_get, slice_get-get_or, slice_get_within}
use Rattle.i_tree.proofs.RootLemmas.Joined.{AllPairs-to_map}
use Rattle.plane.specs.declared.pairs.items.Bounds.{Bounds}
use Rattle.plane.specs.declared.point.Point.{Point}
use Rattle.plane.specs.Pairs.Bounds.{BoundsMeet}
use Rattle.plane.specs.Pairs.Pairs.{ArePairsBetween, PairBetween}
use Rattle.plane.proofs.PairsLemmas.Bags.{Contains-from_map, Contains-map}
use Rattle.layers.specs.Boxed.{AreBoxes, IsBoxAmong, place_in}
use Rattle.layers.specs.Boxes.{BoxesMeet, IsBoxOf}
use Rattle.layers.specs.Shapes.{shape_points}
use Rattle.layers.specs.declared.shape_box.ShapeBox.{ShapeBox}
use Rattle.layers.proofs.BoxLemmas.{IsBoxOf-same, IsBoxOf-some}

-- ---- boxes, one shape after another

-- The boxes of those of the first so many shapes that have points, once each.
pub record AreBoxesUpto (shapes : List (List (List Point))) (count : ℕ) (boxes : List ShapeBox) : Type 0 where
  pub each : All (IsBoxAmong shapes) boxes
  pub below : All (λ box. box.place < count) boxes
  pub once : AllPairs (λ box later. box.place < later.place) boxes
  pub all : (place : ℕ) → place < count → shape_points (get_or shapes place []) ≢ [] → Any (λ box. box.place ≡ place) boxes

module _ (shapes : List (List (List Point))) where
  pub AreBoxesUpto-none : AreBoxesUpto shapes 0 []
  AreBoxesUpto-none = record {
    each = All-nil _;
    below = All-nil _;
    once = λ i j d below within. absurd (omega arith);
    all = λ place below some. absurd (omega arith);
  }

  -- a shape without points has none
  pub AreBoxesUpto-skip : (count : ℕ) (boxes : List ShapeBox) → shape_points (get_or shapes count []) ≡ [] → AreBoxesUpto shapes count boxes → AreBoxesUpto shapes (count + 1) boxes
  AreBoxesUpto-skip count boxes none are = record {
    each = are.each;
    below = λ k d within. (let below = are.below k d within in omega (arith, below));
    once = are.once;
    all = λ place below some. elim (cases_lt place count) [
      | inl before ↦ are.all place before some
      | inr behind ↦ absurd (let same : count ≡ place = omega (arith, below, behind) in some (ap (λ (k : ℕ). shape_points (get_or shapes k [])) (sym same) ∙ none))
    ];
  }

  -- and one with points has one
  pub AreBoxesUpto-push : (count : ℕ) (boxes : List ShapeBox) (box : ShapeBox) → box.place ≡ count → IsBoxAmong shapes box → AreBoxesUpto shapes count boxes → AreBoxesUpto shapes (count + 1) (boxes ++ box ∷ [])
  AreBoxesUpto-push count boxes box at is are = record {
    each = All-append (IsBoxAmong shapes) boxes (box ∷ []) are.each (All-cons (IsBoxAmong shapes) box [] is (All-nil _));
    below = All-append (λ one. one.place < count + 1) boxes (box ∷ []) (λ k d within. (let below = are.below k d within in omega (arith, below)))
        (All-cons (λ one. one.place < count + 1) box [] (omega (arith, at)) (All-nil _));
    once = all_pairs_push (λ (one later : ShapeBox). one.place < later.place) boxes box are.once (λ k d within. (let below = are.below k d within in omega (arith, below, at)));
    all = λ place below some. elim (cases_lt place count) [
      | inl before ↦
          let (k, one, within, one_is, one_at) = are.all place before some in
          (k, one, (let sum = length-append boxes (box ∷ []) in omega (arith, sum, within)), get_or_append_left boxes (box ∷ []) one k within ∙ one_is, one_at)
      | inr behind ↦ Any-push (λ (one : ShapeBox). one.place ≡ place) boxes box (omega (arith, at, below, behind))
    ];
  }

  pub AreBoxesUpto-all : (count : ℕ) (boxes : List ShapeBox) → count ≡ length shapes → AreBoxesUpto shapes count boxes → AreBoxes shapes boxes
  AreBoxesUpto-all count boxes all are = record {
    each = are.each;
    once = are.once;
    all = λ place within some. are.all place (omega (arith, within, all)) some;
  }

-- ---- the places of boxes

module _ (shapes : List (List (List Point))) (boxes : List ShapeBox) (are : AreBoxes shapes boxes) where
  place_in-at : (k : ℕ) (box : ShapeBox) → slice_get boxes k ≡ Some box → place_in boxes k ≡ box.place
  place_in-at k box is = get_or-map (λ (one : ShapeBox). one.place) boxes k box 0 (slice_get_within boxes k box is) ∙ ap (λ (one : ShapeBox). one.place) (get_or_from_slice_get boxes k box box is)

  -- two have the same place only where they are one
  place_in-once : (i j : ℕ) (d : ShapeBox) → i < length boxes → j < length boxes → place_in boxes i ≡ place_in boxes j → i ≡ j
  place_in-once i j d within other_within same =
      let first = get_or-map (λ (one : ShapeBox). one.place) boxes i d 0 within in
      let second = get_or-map (λ (one : ShapeBox). one.place) boxes j d 0 other_within in
      elim (cases_lt i j) [
        | inl below ↦ absurd (let rising = are.once i j d below other_within in omega (arith, first, second, same, rising))
        | inr upto ↦ elim (cases_lt j i) [
          | inl below ↦ absurd (let rising = are.once j i d below within in omega (arith, first, second, same, rising))
          | inr other_upto ↦ omega (arith, upto, other_upto)
        ]
      ]

  -- it is the box of the shape there
  box-is : (k : ℕ) (box : ShapeBox) → slice_get boxes k ≡ Some box → IsBoxAmong shapes box
  box-is k box is = subst (IsBoxAmong shapes) (get_or_from_slice_get boxes k box box is) (are.each k box (slice_get_within boxes k box is))

  -- the box of a shape
  record BoxAt (rings : List (List Point)) (place : ℕ) (bounds : Bounds) : Type 0 where
    index : ℕ
    box : ShapeBox
    stands : slice_get boxes index ≡ Some box
    named : place_in boxes index ≡ place
    same : box.bounds ≡ bounds

  box-at : (place : ℕ) (rings : List (List Point)) (bounds : Bounds) → slice_get shapes place ≡ Some rings → IsBoxOf (shape_points rings) bounds → BoxAt rings place bounds
  box-at place rings bounds at is =
      let rings_are = get_or_from_slice_get shapes place rings [] at in
      let points_are = ap (λ (one : List (List Point)). shape_points one) rings_are in
      let (k, box, within, box_is, place_is) = are.all place (slice_get_within shapes place rings at) (λ none. IsBoxOf-some (shape_points rings) bounds is (sym points_are ∙ none)) in
      let stands : slice_get boxes k ≡ Some box = slice_get-get_or boxes k box within ∙ ap (λ (one : ShapeBox). Some one) box_is in
      record {
        index = k;
        box = box;
        stands = stands;
        named = place_in-at k box stands ∙ place_is;
        same = IsBoxOf-same (shape_points rings) box.bounds bounds
            (subst (λ (points : List Point). IsBoxOf points box.bounds) (ap (λ (n : ℕ). shape_points (get_or shapes n [])) place_is ∙ points_are) (box-is k box stands).is) is;
      }

-- ---- pairs of boxes, and of shapes

module _ (shapes others : List (List (List Point))) (boxes other_boxes : List ShapeBox) (are : AreBoxes shapes boxes) (others_are : AreBoxes others other_boxes) where
  abbrev Meeting : ShapeBox → ShapeBox → Type 0
  Meeting it other = BoundsMeet it.bounds other.bounds

  abbrev named : ℕ × ℕ → ℕ × ℕ
  named pair = (place_in boxes pair.0, place_in other_boxes pair.1)

  -- boxes that meet are those of shapes whose boxes meet
  pair-named : (i j : ℕ) → PairBetween Meeting boxes other_boxes i j → PairBetween BoxesMeet shapes others (place_in boxes i) (place_in other_boxes j)
  pair-named i j between =
      let it = between.one in
      let other = between.other in
      let is = box-is shapes boxes are i it between.first in
      let other_is = box-is others other_boxes others_are j other between.second in
      subst₂ (PairBetween BoxesMeet shapes others) (sym (place_in-at shapes boxes are i it between.first)) (sym (place_in-at others other_boxes others_are j other between.second)) (record {
        one = get_or shapes it.place [];
        other = get_or others other.place [];
        first = slice_get-get_or shapes it.place [] is.place;
        second = slice_get-get_or others other.place [] other_is.place;
        meet = record { box = it.bounds; other_box = other.bounds; is = is.is; other_is = other_is.is; meet = between.meet };
      })

  -- and shapes whose boxes meet have some that do
  pair-found : (i j : ℕ) → PairBetween BoxesMeet shapes others i j → (pair : ℕ × ℕ) × PairBetween Meeting boxes other_boxes pair.0 pair.1 × (named pair ≡ (i, j))
  pair-found i j between =
      let meet = between.meet in
      let it = box-at shapes boxes are i between.one meet.box between.first meet.is in
      let other = box-at others other_boxes others_are j between.other meet.other_box between.second meet.other_is in (
        (it.index, other.index),
        record {
          one = it.box;
          other = other.box;
          first = it.stands;
          second = other.stands;
          meet = subst₂ BoundsMeet (sym it.same) (sym other.same) meet.meet;
        },
        ap₂ (λ (a b : ℕ). (a, b)) it.named other.named,
      )

  module _ (pairs : List (ℕ × ℕ)) (found : ArePairsBetween Meeting boxes other_boxes pairs) where
    abbrev between-at : (k : ℕ) (d : ℕ × ℕ) → k < length pairs → PairBetween Meeting boxes other_boxes (get_or pairs k d).0 (get_or pairs k d).1
    between-at k d within = (found.exact (get_or pairs k d).0 (get_or pairs k d).1).0 (Contains-get_or pairs k d within)

    -- two pairs are named alike only where they are one
    named-once : (k l : ℕ) (d : ℕ × ℕ) → k < length pairs → l < length pairs → named (get_or pairs k d) ≡ named (get_or pairs l d) → get_or pairs k d ≡ get_or pairs l d
    named-once k l d within other_within same =
        let first = between-at k d within in
        let second = between-at l d other_within in
        ap₂ (λ (a b : ℕ). (a, b))
        (place_in-once shapes boxes are (get_or pairs k d).0 (get_or pairs l d).0 first.one (slice_get_within boxes _ _ first.first) (slice_get_within boxes _ _ second.first) (ap (λ (pair : ℕ × ℕ). pair.0) same))
        (place_in-once others other_boxes others_are (get_or pairs k d).1 (get_or pairs l d).1 first.other (slice_get_within other_boxes _ _ first.second) (slice_get_within other_boxes _ _ second.second) (ap (λ (pair : ℕ × ℕ). pair.1) same))

    pub ArePairsBetween-named : ArePairsBetween BoxesMeet shapes others (map (λ (pair : ℕ × ℕ). (place_in boxes pair.0, place_in other_boxes pair.1)) pairs)
    ArePairsBetween-named = record {
      once = AllPairs-to_map (λ (pair later : ℕ × ℕ). pair ≢ later) named pairs
          (λ k l d below within same. found.once k l d below within (named-once k l d (omega (arith, below, within)) within same));
      exact = λ i j. (
        λ within.
            let (pair, inside, is) = Contains-from_map named pairs (i, j) within in
            let between = pair-named pair.0 pair.1 ((found.exact pair.0 pair.1).0 inside) in
            subst₂ (PairBetween BoxesMeet shapes others) (ap (λ (one : ℕ × ℕ). one.0) is) (ap (λ (one : ℕ × ℕ). one.1) is) between,
        λ between.
            let (pair, meeting, is) = pair-found i j between in
            let there = (found.exact pair.0 pair.1).1 meeting in
            subst (Contains (map named pairs)) is (Contains-map named pairs pair there),
      );
    }
