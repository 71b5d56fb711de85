-- The pairs of a point and a shape, from those of a group and of chains to those of all points and shapes.
use Rattle.std.proofs.Common.{false, ◌≡◌, ◌≢◌, ◌∙◌, ℕ, ◌<◌, List, [], Some, length, get_or, map, ◌⊎◌, inl, inr, ⊎_elim, Ordering, Less, Equal, Greater, Result, Ok, Err, cond, refl, sym, ap, ap₂, subst, arith}
use Rattle.std.specs.List.{AllPairs}
use Rattle.std.specs.List.Sorted.{IsPermutation, IsSorted}
use Rattle.std.specs.Ordering.{MatchOrdering, is_lt, nat_cmp, ordering_then}
use Rattle.std.specs.Result.{OnOk, is_ok}
use Rattle.std.specs.Prelude.{slice_get, option_map}
use Rattle.std.proofs.lemmas.Cmp.{nat_cmp_total, on_total, ranked, then_total}
use Rattle.std.proofs.lemmas.List.{get_or-map, get_or_past, length-map}
use Rattle.std.proofs.lemmas.List.Elements.{All-contains}
use Rattle.std.proofs.lemmas.List.MinMax.{ranks_by}
use Rattle.std.proofs.lemmas.List.Sorted.{Contains-permutation, IsPermutation-sym, sorted_far}
use Rattle.std.proofs.lemmas.Option.{get_or_from_slice_get, slice_get_cases, slice_get_within, slice_get-map}
use Rattle.plane.specs.declared.edge.Edge.{Edge}
use Rattle.plane.specs.Meet.Edges.{RationalPoint}
use Rattle.plane.specs.Pairs.Pairs.{PairBetween}
use Rattle.plane.specs.Pairs.Points.{AreAll}
use Rattle.plane.proofs.PairsLemmas.Bags.{AllPairs-permutation}
use Rattle.overlay.specs.declared.fill.rules.FillRule.{FillRule}
use Rattle.overlay.specs.declared.fill.rules.FillRule.TheVariants.{EvenOdd, NonZero, Positive, Negative}
use Rattle.layers.specs.declared.around.chains.Chain.{Chain}
use Rattle.layers.specs.declared.around.half_point.HalfPoint.{HalfPoint}
use Rattle.layers.specs.declared.around.placed.Placed.{Placed}
use Rattle.layers.specs.declared.points.Border.{Border}
use Rattle.layers.specs.declared.points.Border.TheVariants.{Closed, Open, HalfOpen}
use Rattle.layers.specs.Around.{ArePairsIn, IsBefore, LiesIn, halved}
use Rattle.layers.specs.Chains.{AreChainsOf, ArePlaced, LiesInChains}

-- where an item of a mapped list comes from
pub from_map : {X Y : Type 0} (f : X → Y) (xs : List X) (k : ℕ) (y : Y) → slice_get (map f xs) k ≡ Some y → (x : X) × (slice_get xs k ≡ Some x) × (f x ≡ y)
from_map f xs k y is =
    let within = slice_get_within (map f xs) k y is in
    let size = length-map xs f in
    let inside : k < length xs = omega (arith, within, size) in
    ⊎_elim (λ (x, there, stands, same). (
      x,
      stands,
      ap f (sym same) ∙ sym (get_or-map f xs k x y inside) ∙ get_or_from_slice_get (map f xs) k y y is,
    )) (λ (past, none). absurd (omega (arith, past, inside))) (slice_get_cases xs k).1

-- ---- pairs in order

-- the order of pairs, as `Ord` has it
abbrev pub pair_cmp : ℕ × ℕ → ℕ × ℕ → Ordering
pair_cmp a b = ordering_then (nat_cmp a.0 b.0) (nat_cmp a.1 b.1)

-- of two that differ and stand in order the first stands before the second
before : (a b : ℕ × ℕ) → a ≢ b → is_lt (pair_cmp b a) ≡ false → IsBefore a b
before a b differ upto = elim (by (nat_cmp b.0 a.0) (ranked b.0 a.0 (nat_cmp b.0 a.0) refl) upto) [
  | inl first ↦ inl first
  | inr (same, behind) ↦ inr (
    sym same,
    elim (by_second (nat_cmp b.1 a.1) (ranked b.1 a.1 (nat_cmp b.1 a.1) refl) behind) [
      | inl less ↦ less
      | inr equal ↦ absurd (differ (ap₂ (λ (m n : ℕ). (m, n)) (sym same) (sym equal)))
    ],
  )
]
  where
    by : (o : Ordering) → MatchOrdering o (b.0 < a.0) (b.0 ≡ a.0) (a.0 < b.0) → is_lt (ordering_then o (nat_cmp b.1 a.1)) ≡ false → (a.0 < b.0) ⊎ ((b.0 ≡ a.0) × (is_lt (nat_cmp b.1 a.1) ≡ false))
    by Less said upto = cc
    by Equal said upto = inr (said, upto)
    by Greater said upto = inl said

    by_second : (o : Ordering) → MatchOrdering o (b.1 < a.1) (b.1 ≡ a.1) (a.1 < b.1) → is_lt o ≡ false → (a.1 < b.1) ⊎ (b.1 ≡ a.1)
    by_second Less said upto = cc
    by_second Equal said upto = inr said
    by_second Greater said upto = inl said

-- pairs that are sorted, each once, stand one before the other
sorted_once : (pairs : List (ℕ × ℕ)) → AllPairs (λ pair later. pair ≢ later) pairs → IsSorted pair_cmp pairs → AllPairs IsBefore pairs
sorted_once pairs once sorted i j d below within =
    before (get_or pairs i d) (get_or pairs j d) (once i j d below within)
    (sorted_far (λ a b. is_lt (pair_cmp a b)) (ranks_by {K = ℕ × ℕ} {R = pair_cmp} (then_total (on_total (λ (pair : ℕ × ℕ). pair.0) nat_cmp_total) (on_total (λ (pair : ℕ × ℕ). pair.1) nat_cmp_total)) (λ (pair : ℕ × ℕ). pair)) pairs sorted i j d (omega (arith, below)) within)

-- ---- no shape

-- no point lies in a shape without edges
nowhere : (rule : FillRule) (border : Border) (point : RationalPoint) → LiesIn rule border point [] → ⊥
nowhere EvenOdd Closed point (inl inside) = cc
nowhere NonZero Closed point (inl inside) = cc
nowhere Positive Closed point (inl inside) = cc
nowhere Negative Closed point (inl inside) = cc
nowhere rule Closed point (inr (k, edge, within, at, on)) = omega (arith, within)
nowhere EvenOdd Open point (inside, off) = cc
nowhere NonZero Open point (inside, off) = cc
nowhere Positive Open point (inside, off) = cc
nowhere Negative Open point (inside, off) = cc
nowhere EvenOdd HalfOpen point inside = cc
nowhere NonZero HalfOpen point inside = cc
nowhere Positive HalfOpen point inside = cc
nowhere Negative HalfOpen point inside = cc

-- ---- all points and all shapes

module _ (rule : FillRule) (border : Border) (points : List HalfPoint) (group : List Placed) (shapes : List (List Edge)) (chains : List Chain) (placed_are : ArePlaced points group) (chains_are : AreChainsOf shapes chains) where
  there : (i j : ℕ) → LiesInChains rule border group chains i j → PairBetween (LiesIn rule border) (map halved points) shapes i j
  there i j among =
      let placed = among.placed in
      let stands = All-contains (λ (one : Placed). slice_get points one.place ≡ Some one.point) group placed placed_are.of among.listed in
      let lies = subst (λ (edges : List Edge). LiesIn rule border (halved placed.point) edges) (chains_are.each j) among.lies in
      ⊎_elim (λ (shape, within, is, same). record {
        one = halved placed.point;
        other = shape;
        first = slice_get-map halved points i ∙ ap (option_map halved) (ap (λ (k : ℕ). slice_get points k) (sym among.is) ∙ stands);
        second = is;
        meet = subst (λ (edges : List Edge). LiesIn rule border (halved placed.point) edges) (get_or_from_slice_get shapes j shape [] is) lies;
      }) (λ (past, none). absurd (nowhere rule border (halved placed.point) (subst (λ (edges : List Edge). LiesIn rule border (halved placed.point) edges) (get_or_past shapes j [] past) lies)))
      (slice_get_cases shapes j).1

  back : (i j : ℕ) → PairBetween (LiesIn rule border) (map halved points) shapes i j → LiesInChains rule border group chains i j
  back i j between =
      let (point, at, same) = from_map halved points i between.one between.first in
      let (k, placed, within, is, place) = placed_are.each i (slice_get_within points i point at) in
      let stands = All-contains (λ (one : Placed). slice_get points one.place ≡ Some one.point) group placed placed_are.of (k, within, is) in
      let here : slice_get points i ≡ Some placed.point = ap (λ (n : ℕ). slice_get points n) (sym place) ∙ stands in
      let one : point ≡ placed.point = sym (get_or_from_slice_get points i point point at) ∙ get_or_from_slice_get points i placed.point point here in
      record {
        placed = placed;
        listed = (k, within, is);
        is = place;
        lies = subst (λ (edges : List Edge). LiesIn rule border (halved placed.point) edges) (sym (chains_are.each j ∙ get_or_from_slice_get shapes j between.other [] between.second))
            (subst (λ (it : RationalPoint). LiesIn rule border it between.other) (sym same ∙ ap (λ (it : HalfPoint). halved it) one) between.meet);
      }

  -- once they are sorted they are the pairs of all points and shapes
  pub ArePairsIn-sorted : (pairs sorted : List (ℕ × ℕ)) → AreAll (LiesInChains rule border group chains) pairs → IsPermutation pairs sorted → IsSorted pair_cmp sorted → ArePairsIn rule border (map halved points) shapes sorted
  ArePairsIn-sorted pairs sorted all same in_order =
      let once = AllPairs-permutation (λ (pair later : ℕ × ℕ). pair ≢ later) (λ pair later differ is. differ (sym is)) pairs sorted same all.once in
      record {
        all = record {
          once = once;
          exact = λ i j. (
            λ within. there i j ((all.exact i j).0 (Contains-permutation sorted pairs (i, j) (IsPermutation-sym pairs sorted same) within)),
            λ between. Contains-permutation pairs sorted (i, j) same ((all.exact i j).1 (back i j between)),
          );
        };
        ordered = sorted_once sorted once in_order;
      }

-- ---- results

-- what follows where there is a result, from what holds by whether there is one
pub on_ok : {T E X : Type 0} {P : Type 0} (result : Result T E) (new then other : X) → new ≡ cond (is_ok result) then other → (new ≡ then → P) → OnOk result P
on_ok (Ok done) new then other is told = told is
on_ok (Err fault) new then other is told = tt
