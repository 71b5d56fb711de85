-- Groups of points by their places.
use Rattle.std.proofs.Common.{◌≡◌, ℕ, ◌+◌, ◌<◌, List, [], ◌∷◌, ◌++◌, Some, length, get_or, take, sym, ap, ◌∙◌, subst, inl, inr, arith}
use Rattle.std.proofs.Math.Seq.{take-length}
use Rattle.std.specs.List.{All, Contains, slice_get}
use Rattle.std.specs.List.Sorted.{IsPermutation}
use Rattle.std.proofs.lemmas.Bool.{cases_lt}
use Rattle.std.proofs.lemmas.List.{take_more, length-take-le, length_push}
use Rattle.std.proofs.lemmas.List.Elements.{All-push, All-get_or, All-contains, All-from_get_or, Contains-get_or, Contains-append_left}
use Rattle.std.proofs.lemmas.List.Quantifiers.{all_pairs_push, Any-push}
use Rattle.std.proofs.lemmas.List.Sorted.{All-permutation, IsPermutation-sym}
use Rattle.std.proofs.lemmas.Option.{slice_get_within}
use Rattle.i_tree.proofs.RbLemmas.Slots.Growth.{slice_get-append_kept, slice_get-append_end}
use Rattle.plane.proofs.PairsLemmas.Bags.{AllPairs-permutation}
use Rattle.layers.specs.declared.around.half_point.HalfPoint.{HalfPoint}
use Rattle.layers.specs.declared.around.placed.Placed.{Placed}
use Rattle.layers.specs.Chains.{ArePlaced}

-- what a list contains, one in another order does
Contains-permuted : {X : Type 0} (xs ys : List X) → IsPermutation xs ys → (x : X) → Contains xs x → Contains ys x
Contains-permuted {X} xs ys same x within =
    let all : All (λ (y : X). Contains ys y) ys = All-from_get_or (λ (y : X). Contains ys y) ys x (λ i inside. Contains-get_or ys i x inside) in
    All-contains (λ (y : X). Contains ys y) xs x (All-permutation (λ (y : X). Contains ys y) ys xs (IsPermutation-sym xs ys same) all) within

-- in another order they are placed as before
pub ArePlaced-permuted : (points : List HalfPoint) (group other : List Placed) → ArePlaced points group → IsPermutation group other → ArePlaced points other
ArePlaced-permuted points group other are same = record {
  apart = AllPairs-permutation (λ (one later : Placed). one.place ≡ later.place → ⊥) (λ one later differ is. differ (sym is)) group other same are.apart;
  of = All-permutation (λ (placed : Placed). slice_get points placed.place ≡ Some placed.point) group other same are.of;
  each = λ place inside.
      let (k, placed, within, is, at) = are.each place inside in
      let (l, there, is') = Contains-permuted group other same placed (k, within, is) in
      (l, placed, there, is', at);
}

-- one point more, at the next place
pub ArePlaced-push : (points : List HalfPoint) (k : ℕ) (group : List Placed) (placed : Placed) → k < length points → ArePlaced (take k points) group → placed.place ≡ k → get_or points k placed.point ≡ placed.point → ArePlaced (take (k + 1) points) (group ++ placed ∷ [])
ArePlaced-push points k group placed inside are at stands =
    subst (λ (some : List HalfPoint). ArePlaced some (group ++ placed ∷ [])) (sym (take_more points k placed.point inside)) more
  where
    front : List HalfPoint
    front = take k points

    long : length front ≡ k
    long = length-take-le k points (omega (arith, inside))

    all : List HalfPoint
    all = front ++ get_or points k placed.point ∷ []

    earlier : (one : Placed) → slice_get front one.place ≡ Some one.point → one.place < k
    earlier one told = omega (arith, long, slice_get_within front one.place one.point told)

    more : ArePlaced all (group ++ placed ∷ [])
    more = record {
      apart = all_pairs_push (λ (one later : Placed). one.place ≡ later.place → ⊥) group placed are.apart
          (λ i d within same.
          let told = All-get_or (λ (one : Placed). slice_get front one.place ≡ Some one.point) group i d within are.of in
          let below : (get_or group i d).place < k = earlier (get_or group i d) told in
          omega (arith, below, same, at));
      of = All-push (λ (one : Placed). slice_get all one.place ≡ Some one.point) group placed
          (All-from_get_or (λ (one : Placed). slice_get all one.place ≡ Some one.point) group placed
          (λ i within.
          slice_get-append_kept front (get_or points k placed.point ∷ []) (get_or group i placed).place (get_or group i placed).point
          (All-get_or (λ (one : Placed). slice_get front one.place ≡ Some one.point) group i placed within are.of)))
          (slice_get-append_end front placed.place (get_or points k placed.point) (at ∙ sym long) ∙ ap Some stands);
      each = λ place below. elim (cases_lt place k) [
        | inl before ↦
            let (i, one, within, is, there) = are.each place (omega (arith, long, before)) in
            let (l, within', is') = Contains-append_left group (placed ∷ []) one (i, within, is) in
            (l, one, within', is', there)
        | inr from ↦ Any-push (λ (one : Placed). one.place ≡ place) group placed (omega (arith, at, from, lengths, below))
      ];
    }
      where
        lengths : length all ≡ k + 1
        lengths = length_push front (get_or points k placed.point) ∙ ap (λ (n : ℕ). n + 1) long

-- so many points are all of them
pub ArePlaced-all : (points : List HalfPoint) (k : ℕ) (group : List Placed) → k ≡ length points → ArePlaced (take k points) group → ArePlaced points group
ArePlaced-all points k group whole are =
    subst (λ (some : List HalfPoint). ArePlaced some group) (ap (λ (n : ℕ). take n points) whole ∙ take-length points) are
