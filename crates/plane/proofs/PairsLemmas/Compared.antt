-- Pairs of few items, each compared with all others.
use Rattle.std.proofs.Common.{◌≡◌, ◌↔◌, ◌⊎◌, inl, inr, ℕ, ◌+◌, ◌<◌, ◌≤◌, List, Some, length, map, sym, ap, ◌∙◌, subst, arith}
use Rattle.std.specs.List.{slice_get}
use Rattle.std.proofs.lemmas.Bool.{cases_lt}
use Rattle.std.proofs.lemmas.Int.{ints}
use Rattle.std.proofs.lemmas.List.{length-map}
use Rattle.std.proofs.lemmas.Option.{same_Some, slice_get-map, slice_get_within}
use Rattle.plane.specs.Pairs.Bounds.{BoundsMeet, IsAroundThese, IsFromUpto, IsWithinBox, MeetInBoxes}
use Rattle.plane.specs.Pairs.Pairs.{PairAt}
use Rattle.plane.specs.Pairs.Points.{MeetsAt}
use Rattle.plane.specs.declared.pairs.items.Bounds.{Bounds}

-- what a function makes of an item stands where the item does
pub mapped_at : {X Y : Type 0} (f : X → Y) (xs : List X) (i : ℕ) (x : X) → slice_get xs i ≡ Some x → slice_get (map f xs) i ≡ Some (f x)
mapped_at f xs i x is = let there = slice_get-map f xs i in let same = is in cc

-- there are as many boxes as items
pub same-size : {X : Type 0} (bounds : X → Bounds) (items : List X) (boxes : List Bounds) → boxes ≡ map bounds items → length boxes ≡ length items
same-size bounds items boxes are = ap length are ∙ length-map items bounds

-- ---- of one list

module _ {X : Type 0} (Meeting : X → X → Type 0) (items : List X) (second : ℕ) where
  -- one more item has its pairs with those before it
  pub second_more : (i j : ℕ) → ((j < second + 1) × PairAt Meeting items i j) ↔ (((j < second) × PairAt Meeting items i j) ⊎ ((j ≡ second) × PairAt Meeting items i j))
  second_more i j = (
    λ (below, pair). elim (cases_lt j second) [
      | inl before ↦ inl (before, pair)
      | inr upto ↦ inr (omega (arith, below, upto), pair)
    ],
    λ told. elim told [
      | inl (before, pair) ↦ (omega (arith, before), pair)
      | inr (is, pair) ↦ (omega (arith, is), pair)
    ],
  )

  -- behind the last item there is none
  pub second_all : length items ≤ second → (i j : ℕ) → PairAt Meeting items i j ↔ ((j < second) × PairAt Meeting items i j)
  second_all all i j = (λ pair. (let inside = slice_get_within items j pair.other pair.second in omega (arith, inside, all), pair), λ (_, pair). pair)

  -- one more item before it
  pub first_more : (first : ℕ)
      → (i j : ℕ) → ((i < first + 1) × (j ≡ second) × PairAt Meeting items i j) ↔ (((i < first) × (j ≡ second) × PairAt Meeting items i j) ⊎ ((i ≡ first) × (j ≡ second) × PairAt Meeting items i j))
  first_more first i j = (
    λ (below, at, pair). elim (cases_lt i first) [
      | inl before ↦ inl (before, at, pair)
      | inr upto ↦ inr (omega (arith, below, upto), at, pair)
    ],
    λ told. elim told [
      | inl (before, at, pair) ↦ (omega (arith, before), at, pair)
      | inr (is, at, pair) ↦ (omega (arith, is), at, pair)
    ],
  )

  -- all before it are those of its pairs
  pub first_all : (first : ℕ) → second ≤ first → (i j : ℕ) → ((j ≡ second) × PairAt Meeting items i j) ↔ ((i < first) × (j ≡ second) × PairAt Meeting items i j)
  first_all first all i j = (λ (at, pair). (let rising = pair.rising in omega (arith, rising, at, all), at, pair), λ (_, at, pair). (at, pair))

-- ---- of runs of one list

module _ {X : Type 0} (Meeting : X → X → Type 0) (items : List X) (from to : ℕ) where
  -- one more item of the run
  pub within_more : (second first : ℕ) → from ≤ first → first < to
      → (i j : ℕ) → (IsFromUpto from to i × (i < first + 1) × (j ≡ second) × PairAt Meeting items i j) ↔ ((IsFromUpto from to i × (i < first) × (j ≡ second) × PairAt Meeting items i j) ⊎ ((i ≡ first) × (j ≡ second) × PairAt Meeting items i j))
  within_more second first behind before i j = (
    λ (within, below, at, pair). elim (cases_lt i first) [
      | inl less ↦ inl (within, less, at, pair)
      | inr upto ↦ inr (omega (arith, below, upto), at, pair)
    ],
    λ told. elim told [
      | inl (within, less, at, pair) ↦ (within, omega (arith, less), at, pair)
      | inr (is, at, pair) ↦ ((omega (arith, is, behind), omega (arith, is, before)), omega (arith, is), at, pair)
    ],
  )

  -- all of the run that stand before the item
  pub within_all : (second first : ℕ) → (first < to → second ≤ first)
      → (i j : ℕ) → (IsFromUpto from to i × (j ≡ second) × PairAt Meeting items i j) ↔ (IsFromUpto from to i × (i < first) × (j ≡ second) × PairAt Meeting items i j)
  within_all second first all i j = (
    λ (within, at, pair). (
      within,
      elim (cases_lt i first) [
        | inl less ↦ less
        | inr upto ↦
            let rising = pair.rising in
            let below : first < to = omega (arith, upto, within.1) in
            omega (arith, rising, at, upto, all below)
      ],
      at,
      pair,
    ),
    λ (within, _, at, pair). (within, at, pair),
  )

-- a box that meets one within another meets that too
pub meet-around : (box around other : Bounds) → IsWithinBox box around → BoundsMeet box other → BoundsMeet around other
meet-around box around other within meet = record {
  left = omega (arith, ints, within.left, meet.left);
  right = omega (arith, ints, meet.right, within.right);
  low = omega (arith, ints, within.low, meet.low);
  high = omega (arith, ints, meet.high, within.high);
}

-- a box is around itself alone
pub around-first : (boxes : List Bounds) (from : ℕ) (first : Bounds) → slice_get boxes from ≡ Some first → IsAroundThese from (from + 1) boxes first
around-first boxes from first stands place box there behind below =
    let is : place ≡ from = omega (arith, behind, below) in
    subst (λ (one : Bounds). IsWithinBox one first) (same_Some first box (sym stands ∙ sym (ap (slice_get boxes) is) ∙ there))
    (record { left = omega (arith, ints); right = omega (arith, ints); low = omega (arith, ints); high = omega (arith, ints) })

-- one more box, and a box around both
pub around-more : (boxes : List Bounds) (from to : ℕ) (around next joined : Bounds) → IsAroundThese from to boxes around → slice_get boxes to ≡ Some next → IsWithinBox around joined → IsWithinBox next joined → IsAroundThese from (to + 1) boxes joined
around-more boxes from to around next joined so_far stands first second place box there behind below = elim (cases_lt place to) [
  | inl before ↦
      let within = so_far place box there behind before in
      record {
        left = omega (arith, ints, first.left, within.left);
        right = omega (arith, ints, first.right, within.right);
        low = omega (arith, ints, first.low, within.low);
        high = omega (arith, ints, first.high, within.high);
      }
  | inr upto ↦
      let is : place ≡ to = omega (arith, below, upto) in
      subst (λ (one : Bounds). IsWithinBox one joined) (same_Some next box (sym stands ∙ sym (ap (slice_get boxes) is) ∙ there)) second
]

module _ {X : Type 0} {bounds : X → Bounds} {Meeting : X → X → Type 0} (boxed : MeetInBoxes bounds Meeting) (items : List X) (boxes : List Bounds) (are : boxes ≡ map bounds items) (from to : ℕ) (around : Bounds) (is_around : IsAroundThese from to boxes around) where
  -- an item whose box doesn't meet the one around a run has no pairs with it
  pub run_apart : (second : ℕ) (other : Bounds) → slice_get boxes second ≡ Some other → ¬ (BoundsMeet around other) → (i j : ℕ) → IsFromUpto from to i → j ≡ second → PairAt Meeting items i j → ⊥
  run_apart second other stands apart i j within at pair =
      let mine : slice_get boxes i ≡ Some (bounds pair.one) = ap (λ (list : List Bounds). slice_get list i) are ∙ mapped_at bounds items i pair.one pair.first in
      let its : slice_get boxes j ≡ Some (bounds pair.other) = ap (λ (list : List Bounds). slice_get list j) are ∙ mapped_at bounds items j pair.other pair.second in
      let same : bounds pair.other ≡ other = same_Some (bounds pair.other) other (sym its ∙ ap (slice_get boxes) at ∙ stands) in
      apart (subst (BoundsMeet around) same (meet-around (bounds pair.one) around (bounds pair.other) (is_around i (bounds pair.one) mine within.0 within.1) (boxed.near pair.one pair.other pair.meet)))

  -- items of two runs have no pairs, where the boxes around these don't meet
  pub two_apart : (begin end : ℕ) (other_around : Bounds) → IsAroundThese begin end boxes other_around → ¬ (BoundsMeet around other_around) → (i j : ℕ) → ¬ (IsFromUpto from to i × IsFromUpto begin end j × PairAt Meeting items i j)
  two_apart begin end other_around is_other apart i j (within, other, pair) =
      let mine : slice_get boxes i ≡ Some (bounds pair.one) = ap (λ (list : List Bounds). slice_get list i) are ∙ mapped_at bounds items i pair.one pair.first in
      let its : slice_get boxes j ≡ Some (bounds pair.other) = ap (λ (list : List Bounds). slice_get list j) are ∙ mapped_at bounds items j pair.other pair.second in
      let near = boxed.near pair.one pair.other pair.meet in
      let first = is_around i (bounds pair.one) mine within.0 within.1 in
      let second = is_other j (bounds pair.other) its other.0 other.1 in
      apart (record {
        left = omega (arith, ints, near.left, first.left, second.right);
        right = omega (arith, ints, near.right, first.right, second.left);
        low = omega (arith, ints, near.low, first.low, second.high);
        high = omega (arith, ints, near.high, first.high, second.low);
      })

-- ---- of an item and of points

module _ {Y : Type 0} (Meeting : Y → Type 0) (points : List Y) (place : ℕ) where
  -- one more point
  pub point_more : (other : ℕ) (point : Y) → slice_get points other ≡ Some point
      → (i j : ℕ) → ((j < other + 1) × (i ≡ place) × MeetsAt Meeting points j) ↔ (((j < other) × (i ≡ place) × MeetsAt Meeting points j) ⊎ ((i ≡ place) × (j ≡ other) × Meeting point))
  point_more other point stands i j = (
    λ (below, at, met). elim (cases_lt j other) [
      | inl before ↦ inl (before, at, met)
      | inr upto ↦
          let is : j ≡ other = omega (arith, below, upto) in
          inr (at, is, subst Meeting (same_Some met.point point (sym met.stands ∙ ap (slice_get points) is ∙ stands)) met.meet)
    ],
    λ told. elim told [
      | inl (before, at, met) ↦ (omega (arith, before), at, met)
      | inr (at, is, meet) ↦ (omega (arith, is), at, record { point = point; stands = ap (slice_get points) is ∙ stands; meet = meet })
    ],
  )

  -- behind the last point there is none
  pub point_all : (other : ℕ) → length points ≤ other → (i j : ℕ) → ((i ≡ place) × MeetsAt Meeting points j) ↔ ((j < other) × (i ≡ place) × MeetsAt Meeting points j)
  point_all other all i j = (λ (at, met). (let inside = slice_get_within points j met.point met.stands in omega (arith, inside, all), at, met), λ (_, at, met). (at, met))
