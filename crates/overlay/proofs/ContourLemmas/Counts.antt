-- How many edges start and end at points that pass a test.
use Rattle.std.proofs.Common.{◌≡◌, ◌≢◌, ◌⊎◌, inl, inr, ℕ, zero, suc, ◌+◌, ◌<◌, Bool, true, false, cond, List, [], ◌∷◌, ◌++◌, IsPermutation, length, get_or, refl, ap, ◌∙◌, arith}
use Rattle.std.specs.List.{count_by, flat_map}
use Rattle.std.specs.Prelude.{ℤ, ◌<ℤ◌, ◌&&◌}
use Rattle.std.proofs.lemmas.Bool.{and_parts, cases_Bool}
use Rattle.std.proofs.lemmas.Int.{ints}
use Rattle.std.proofs.lemmas.List.Sorted.{sum_by-IsPermutation}
use Rattle.std.proofs.lemmas.List.Sums.{sum_by-append, sum_by-cons}
use Rattle.std.specs.Ordering.{int_cmp, is_eq, MatchOrdering}
use Rattle.std.proofs.Common.{Ordering, Less, Equal, Greater, ap₂}
use Rattle.std.proofs.lemmas.Cmp.{int_ranked}
use Rattle.plane.specs.declared.edge.Edge.{Edge}
use Rattle.plane.specs.declared.point.Point.{Point}
use Rattle.plane.specs.Ends.{edge_between, end_of, start_of}
use Rattle.noding.specs.Windings.{IsClosed, pieces}
use Rattle.overlay.specs.Contours.Rings.{ring_edges}

-- ---- whether points are the same

abbrev same_number : ℤ → ℤ → Bool
same_number a b = is_eq (int_cmp a b)

same_number-is : (a b : ℤ) → same_number a b ≡ true → a ≡ b
same_number-is a b is = go (int_cmp a b) (int_ranked a b (int_cmp a b) refl) is
  where
    go : (o : Ordering) → MatchOrdering o (a <ℤ b) (a ≡ b) (b <ℤ a) → is_eq o ≡ true → a ≡ b
    go Less said none = absurd cc
    go Equal said none = said
    go Greater said none = absurd cc

same_number-itself : (a : ℤ) → same_number a a ≡ true
same_number-itself a = go (int_cmp a a) (int_ranked a a (int_cmp a a) refl)
  where
    go : (o : Ordering) → MatchOrdering o (a <ℤ a) (a ≡ a) (a <ℤ a) → is_eq o ≡ true
    go Less said = absurd (omega (arith, ints, said))
    go Equal said = refl
    go Greater said = absurd (omega (arith, ints, said))

abbrev pub is_at : Point → Point → Bool
is_at at point = same_number point.x at.x && same_number point.y at.y

pub is_at-same : (at point : Point) → is_at at point ≡ true → point ≡ at
is_at-same at point is =
    let both = and_parts (same_number point.x at.x) (same_number point.y at.y) is in
    ap₂ (λ (x y : ℤ). record { x = x; y = y }) (same_number-is point.x at.x both.0) (same_number-is point.y at.y both.1)

pub is_at-itself : (at : Point) → is_at at at ≡ true
is_at-itself at = ap₂ (λ (a b : Bool). a && b) (same_number-itself at.x) (same_number-itself at.y)

pub is_at-other : (at point : Point) → point ≢ at → is_at at point ≡ false
is_at-other at point differ = elim (cases_Bool (is_at at point)) [
  | inl is ↦ absurd (differ (is_at-same at point is))
  | inr not ↦ not
]

-- ---- counts of any items

-- one that passes, or none is counted
pub found : {X : Type 0} (p : X → Bool) (xs : List X) → ((k : ℕ) × (k < length xs) × ((d : X) → p (get_or xs k d) ≡ true)) ⊎ (count_by p xs ≡ 0)
found p [] = inr refl
found {X = X} p (x ∷ xs) = elim (cases_Bool (p x)) [
  | inl is ↦ inl (0, omega arith, λ d. is)
  | inr not ↦ elim (found p xs) [
    | inl (k, within, is) ↦ inl (suc k, omega (arith, within), is)
    | inr none ↦ inr (sum_by-cons (λ (y : X). cond (p y) 1 0) x xs ∙ ap₂ (λ (m n : ℕ). m + n) (ap (λ (b : Bool). cond b 1 0) not) none)
  ]
]

-- one that passes is counted
pub counted : {X : Type 0} (p : X → Bool) (xs : List X) (k : ℕ) (d : X) → k < length xs → p (get_or xs k d) ≡ true → 0 < count_by p xs
counted p [] k d within is = absurd (omega (arith, within))
counted {X = X} p (x ∷ xs) zero d within is =
    let sum = sum_by-cons (λ (y : X). cond (p y) 1 0) x xs in
    let one : ◌≡◌ {A = ℕ} (cond (p x) 1 0) 1 = ap (λ (b : Bool). cond b 1 0) is in
    omega (arith, sum, one)
counted {X = X} p (x ∷ xs) (suc k) d within is =
    let sum = sum_by-cons (λ (y : X). cond (p y) 1 0) x xs in
    let later = counted p xs k d (omega (arith, within)) is in
    omega (arith, sum, later)

-- ---- starts and ends

module _ (test : Point → Bool) where
  abbrev pub unit : Point → ℕ
  unit point = cond (test point) 1 0

  abbrev pub starts : List Edge → ℕ
  starts edges = count_by (λ edge. test (start_of edge)) edges

  abbrev pub ends : List Edge → ℕ
  ends edges = count_by (λ edge. test (end_of edge)) edges

  pub starts-append : (xs ys : List Edge) → starts (xs ++ ys) ≡ starts xs + starts ys
  starts-append xs ys = sum_by-append (λ (e : Edge). unit (start_of e)) xs ys

  pub ends-append : (xs ys : List Edge) → ends (xs ++ ys) ≡ ends xs + ends ys
  ends-append xs ys = sum_by-append (λ (e : Edge). unit (end_of e)) xs ys

  pub starts-permutation : (xs ys : List Edge) → IsPermutation xs ys → starts ys ≡ starts xs
  starts-permutation xs ys moved = sum_by-IsPermutation (λ (e : Edge). unit (start_of e)) xs ys moved

  pub ends-permutation : (xs ys : List Edge) → IsPermutation xs ys → ends ys ≡ ends xs
  ends-permutation xs ys moved = sum_by-IsPermutation (λ (e : Edge). unit (end_of e)) xs ys moved

  -- from a point over others to a last one, starts and ends are the same but for these two
  pub along : (from : Point) (others : List Point) (to : Point) → starts (pieces (from ∷ others ++ to ∷ [])) + unit to ≡ unit from + ends (pieces (from ∷ others ++ to ∷ []))
  along from [] to =
      let first = sum_by-cons (λ (e : Edge). unit (start_of e)) (edge_between from to) [] in
      let second = sum_by-cons (λ (e : Edge). unit (end_of e)) (edge_between from to) [] in
      omega (arith, first, second)
  along from (next ∷ others) to =
      let first = sum_by-cons (λ (e : Edge). unit (start_of e)) (edge_between from next) (pieces (next ∷ others ++ to ∷ [])) in
      let second = sum_by-cons (λ (e : Edge). unit (end_of e)) (edge_between from next) (pieces (next ∷ others ++ to ∷ [])) in
      let later = along next others to in
      omega (arith, first, second, later)

  -- so those of a ring are as many
  pub ring-closed : (ring : List Point) → starts (ring_edges ring) ≡ ends (ring_edges ring)
  ring-closed [] = refl
  ring-closed (first ∷ others) = let sum = along first others first in omega (arith, sum)

  pub rings-closed : (rings : List (List Point)) → starts (flat_map ring_edges rings) ≡ ends (flat_map ring_edges rings)
  rings-closed [] = refl
  rings-closed (ring ∷ rings) =
      let here = ring-closed ring in
      let later = rings-closed rings in
      let first = starts-append (ring_edges ring) (flat_map ring_edges rings) in
      let second = ends-append (ring_edges ring) (flat_map ring_edges rings) in
      omega (arith, here, later, first, second)

-- ---- closed edges

-- at the end of one of them another one starts
pub closed-starts : (edges : List Edge) (k : ℕ) (d : Edge) → IsClosed edges → k < length edges → (i : ℕ) × (i < length edges) × ((e : Edge) → start_of (get_or edges i e) ≡ end_of (get_or edges k d))
closed-starts edges k d closed within =
    let at = end_of (get_or edges k d) in
    let test = is_at at in
    let some = counted (λ (edge : Edge). test (end_of edge)) edges k d within (is_at-itself at) in
    let same = closed test in
    elim (found (λ (edge : Edge). test (start_of edge)) edges) [
      | inl (i, inside, is) ↦ (i, inside, λ e. is_at-same at (start_of (get_or edges i e)) (is e))
      | inr none ↦ absurd (omega (arith, some, same, none))
    ]

-- what is closed stays so in another order
pub IsClosed-permuted : (xs ys : List Edge) → IsPermutation xs ys → IsClosed xs → IsClosed ys
IsClosed-permuted xs ys moved closed test =
    let first = starts-permutation test xs ys moved in
    let second = ends-permutation test xs ys moved in
    let same = closed test in
    omega (arith, first, second, same)

-- and without rings
pub IsClosed-rest : (rings : List (List Point)) (rest all : List Edge) → IsPermutation (flat_map ring_edges rings ++ rest) all → IsClosed all → IsClosed rest
IsClosed-rest rings rest all moved closed test =
    let first = starts-permutation test (flat_map ring_edges rings ++ rest) all moved in
    let second = ends-permutation test (flat_map ring_edges rings ++ rest) all moved in
    let same = closed test in
    let rings_same = rings-closed test rings in
    let starts_all = starts-append test (flat_map ring_edges rings) rest in
    let ends_all = ends-append test (flat_map ring_edges rings) rest in
    omega (arith, first, second, same, rings_same, starts_all, ends_all)
