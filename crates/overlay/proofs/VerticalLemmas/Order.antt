-- The order of ends, and what they change upto a point.
use Rattle.std.proofs.Common.{Bool, List, [], ◌∷◌, true, false, cond, inl, inr, ℕ, ℤ, pos, negsuc, suc, zero, ◌<◌, ◌+ℤ◌, ◌-ℤ◌, ◌*ℤ◌, ◌<ℤ◌, ◌≤ℤ◌, ◌≡◌, ◌≢◌, ◌⊎◌, refl, sym, ap, ap₂, ◌∙◌, arith, ◌-◌, drop, take, get_or, length, Ordering, Less, Equal, Greater}
use Rattle.std.specs.Bool.{⊤}
use Rattle.std.specs.List.{All, AllPairs, Contains, flat_map, sum_by}
use Rattle.std.specs.List.Sorted.{IsPermutation, IsSorted}
use Rattle.std.specs.Prelude.{int_le}
use Rattle.std.specs.Ordering.{MatchOrdering, int_cmp, ordering_then, is_lt}
use Rattle.std.proofs.lemmas.Cmp.{int_ranked}
use Rattle.std.proofs.lemmas.Int.{by_lt_z, ints}
use Rattle.std.proofs.lemmas.List.{length-drop, take_all}
use Rattle.std.proofs.lemmas.List.Elements.{All-append, All-cons, Contains-append_left, Contains-append_right}
use Rattle.std.proofs.lemmas.List.Sorted.{ranks_by, sorted_far, sum_by-IsPermutation}
use Rattle.std.proofs.lemmas.List.Sums.{sum_by-cons}
use borrow.Author.Differences.{down, up}
use Rattle.plane.specs.declared.edge.Edge.{Edge}
use Rattle.plane.specs.declared.point.Point.{Point}
use Rattle.plane.proofs.MeetLemmas.Identities.{identity, number, times}
use Rattle.overlay.specs.Fill.Verticals.{both_ends, ending, point_of_end, starting}
use Rattle.overlay.specs.contracts.fill.verticals.EndOrd.TheImpl.{ghosts as end_order}
use Rattle.overlay.specs.contracts.fill.verticals.EndOrd.TheImpl.Laws.{total-law as end_total}
use Rattle.overlay.specs.declared.fill.verticals.End.{End}
use Rattle.plane.specs.Ends.{end_of, start_of}
use Rattle.noding.specs.Windings.{count}
use Rattle.noding.proofs.SnapLemmas.Along.{point_at}
use Rattle.noding.proofs.SnapLemmas.Numbers.{n_of}
use Rattle.overlay.proofs.VerticalLemmas.Flows.{flow, is_upto, upto-at, upto-before, upto-behind}

-- ---- points by x, and then by y

abbrev pub Before : Point → Point → Type 0
Before p q = (p.x <ℤ q.x) ⊎ ((p.x ≡ q.x) × (p.y <ℤ q.y))

abbrev pub Upto : Point → Point → Type 0
Upto p q = (p.x <ℤ q.x) ⊎ ((p.x ≡ q.x) × (p.y ≤ℤ q.y))

pub Upto-itself : (p : Point) → Upto p p
Upto-itself p = inr (refl, omega (arith, ints))

pub Upto-trans : (p q r : Point) → Upto p q → Upto q r → Upto p r
Upto-trans p q r (inl a) (inl b) = inl (omega (arith, ints, a, b))
Upto-trans p q r (inl a) (inr (b, c)) = inl (omega (arith, ints, a, b))
Upto-trans p q r (inr (a, b)) (inl c) = inl (omega (arith, ints, a, c))
Upto-trans p q r (inr (a, b)) (inr (c, d)) = inr (a ∙ c, omega (arith, ints, b, d))

pub Before-upto : (p q r : Point) → Before p q → Upto q r → Before p r
Before-upto p q r (inl a) (inl b) = inl (omega (arith, ints, a, b))
Before-upto p q r (inl a) (inr (b, c)) = inl (omega (arith, ints, a, b))
Before-upto p q r (inr (a, b)) (inl c) = inl (omega (arith, ints, a, c))
Before-upto p q r (inr (a, b)) (inr (c, d)) = inr (a ∙ c, omega (arith, ints, b, d))

pub Before-of : (p q : Point) → Upto p q → p ≢ q → Before p q
Before-of p q (inl a) differ = inl a
Before-of p q (inr (a, b)) differ =
    by_lt_z p.y q.y (λ less. inr (a, less)) (λ back. let same : p.y ≡ q.y = omega (arith, ints, b, back) in absurd (differ (point_same p q a same)))
  where
    point_same : (p q : Point) → p.x ≡ q.x → p.y ≡ q.y → p ≡ q
    point_same p q x y = ap₂ point_at x y

-- the test of what is upto a point
abbrev pub upto_point : Point → Point → Bool
upto_point p = is_upto p.x 1 p.y

once : (y : ℤ) → (pos 1 *ℤ y) ≡ y
once y = identity (times (n_of 1) (number y)) (number y) (omega arith)

pub upto_point-yes : (p q : Point) → Upto q p → upto_point p q ≡ true
upto_point-yes p q (inl less) = upto-before p.x 1 p.y q less
upto_point-yes p q (inr (same, low)) = upto-at p.x 1 p.y q same ∙ go (int_le (pos 1 *ℤ q.y) p.y) refl
  where
    go : (t : Bool) → int_le (pos 1 *ℤ q.y) p.y ≡ t → int_le (pos 1 *ℤ q.y) p.y ≡ true
    go true e = e
    go false e = let one = once q.y in absurd (omega (arith, ints, e, one, low))

pub upto_point-no : (p q : Point) → Before p q → upto_point p q ≡ false
upto_point-no p q (inl less) = upto-behind p.x 1 p.y q less
upto_point-no p q (inr (same, low)) = upto-at p.x 1 p.y q (sym same) ∙ go (int_le (pos 1 *ℤ q.y) p.y) refl
  where
    go : (t : Bool) → int_le (pos 1 *ℤ q.y) p.y ≡ t → int_le (pos 1 *ℤ q.y) p.y ≡ false
    go true e = let one = once q.y in absurd (omega (arith, ints, e, one, low))
    go false e = e

-- ---- what ends change in a set of points

abbrev pub changed : (Point → Bool) → List End → ℤ
changed test [] = pos 0
changed test (end ∷ ends) = cond (test (point_of_end end)) end.change (pos 0) +ℤ changed test ends

pub changed-edges : (test : Point → Bool) (edges : List Edge) → changed test (flat_map both_ends edges) ≡ flow test edges
changed-edges test [] = refl
changed-edges test (edge ∷ edges) = go (test (start_of edge)) (test (end_of edge)) (changed test (flat_map both_ends edges)) (flow test edges) (changed-edges test edges)
  where
    go : (s t : Bool) (a b : ℤ) → a ≡ b → (cond s (negsuc 0) (pos 0) +ℤ (cond t (pos 1) (pos 0) +ℤ a)) ≡ ((count t -ℤ count s) +ℤ b)
    go true true a b is = omega (arith, ints, is)
    go true false a b is = omega (arith, ints, is)
    go false true a b is = omega (arith, ints, is)
    go false false a b is = omega (arith, ints, is)

-- as two sums of natural numbers
module _ (test : Point → Bool) where
  abbrev gain : End → ℤ
  gain end = cond (test (point_of_end end)) end.change (pos 0)

  parts_of : (z : ℤ) → z ≡ (pos (up z) -ℤ pos (down z))
  parts_of (pos n) = omega (arith, ints)
  parts_of (negsuc n) = omega (arith, ints)

  changed-sums : (ends : List End) → changed test ends ≡ (pos (sum_by (λ end. up (gain end)) ends) -ℤ pos (sum_by (λ end. down (gain end)) ends))
  changed-sums [] = refl
  changed-sums (end ∷ ends) =
      let rest = changed-sums ends in
      let first = sum_by-cons (λ (e : End). up (gain e)) end ends in
      let second = sum_by-cons (λ (e : End). down (gain e)) end ends in
      let here = parts_of (gain end) in
      omega (arith, ints, rest, first, second, here)

  pub changed-permutation : (ends others : List End) → IsPermutation ends others → changed test others ≡ changed test ends
  changed-permutation ends others moved =
      let first = changed-sums ends in
      let second = changed-sums others in
      let more = sum_by-IsPermutation (λ (e : End). up (gain e)) ends others moved in
      let less = sum_by-IsPermutation (λ (e : End). down (gain e)) ends others moved in
      omega (arith, ints, first, second, more, less)

-- ends of the list are at points behind: they change nothing
abbrev pub EveryEnd : (End → Type 0) → List End → Type 0
EveryEnd P [] = ⊤
EveryEnd P (end ∷ ends) = P end × EveryEnd P ends

pub changed-none : (p : Point) (ends : List End) → EveryEnd (λ end. Before p (point_of_end end)) ends → changed (upto_point p) ends ≡ pos 0
changed-none p [] behind = refl
changed-none p (end ∷ ends) (here, behind) =
    let first = ap (λ (t : Bool). cond t end.change (pos 0)) (upto_point-no p (point_of_end end) here) in
    let rest = changed-none p ends behind in
    omega (arith, ints, first, rest)

-- ---- sorted ends

abbrev pub Rises : List End → Type 0
Rises [] = ⊤
Rises (end ∷ ends) = EveryEnd (λ later. Upto (point_of_end end) (point_of_end later)) ends × Rises ends

ranked_y : (x x' y y' : ℤ) (o p : Ordering) → x ≡ x' → MatchOrdering o (y <ℤ y') (y ≡ y') (y' <ℤ y) → is_lt (ordering_then o p) ≡ false → Upto (point_at x' y') (point_at x y)
ranked_y x x' y y' Less p same said other = cc
ranked_y x x' y y' Equal p same said other = inr (sym same, omega (arith, ints, said))
ranked_y x x' y y' Greater p same said other = inr (sym same, omega (arith, ints, said))

ranked_x : (x x' y y' : ℤ) (o p : Ordering) → MatchOrdering o (x <ℤ x') (x ≡ x') (x' <ℤ x) → is_lt (ordering_then o (ordering_then (int_cmp y y') p)) ≡ false → Upto (point_at x' y') (point_at x y)
ranked_x x x' y y' Less p said other = cc
ranked_x x x' y y' Equal p said other = ranked_y x x' y y' (int_cmp y y') p said (int_ranked y y' (int_cmp y y') refl) other
ranked_x x x' y y' Greater p said other = inl said

-- what isn't less isn't before
pub not_less : (a b : End) → is_lt (end_order.cmp b a) ≡ false → Upto (point_of_end a) (point_of_end b)
not_less a b other = ranked_x b.x a.x b.y a.y (int_cmp b.x a.x) (int_cmp b.change a.change) (int_ranked b.x a.x (int_cmp b.x a.x) refl) other

every_from : (P : End → Type 0) (ends : List End) → ((i : ℕ) (d : End) → i < length ends → P (get_or ends i d)) → EveryEnd P ends
every_from P [] each = tt
every_from P (end ∷ ends) each = (each 0 end (omega arith), every_from P ends (λ i d within. each (suc i) d (omega (arith, within))))

rises_from : (ends : List End) → AllPairs (λ a b. Upto (point_of_end a) (point_of_end b)) ends → Rises ends
rises_from [] pairs = tt
rises_from (end ∷ ends) pairs = (
  every_from (λ later. Upto (point_of_end end) (point_of_end later)) ends (λ i d within. pairs 0 (suc i) d (omega arith) (omega (arith, within))),
  rises_from ends (λ i j d below within. pairs (suc i) (suc j) d (omega (arith, below)) (omega (arith, within))),
)

pub Rises-sorted : (ends : List End) → IsSorted end_order.cmp ends → Rises ends
Rises-sorted ends sorted =
    rises_from ends (λ i j d below within. not_less (get_or ends i d) (get_or ends j d) (sorted_far (λ a b. is_lt (end_order.cmp a b)) (ranks_by end_total (λ (end : End). end)) ends sorted i j d (omega arith) within))

pub every-all : (P : End → Type 0) (ends : List End) → All P ends → EveryEnd P ends
every-all P ends all = every_from P ends all

-- ---- which points ends are at

abbrev pub Has : List End → Point → Type 0
Has [] p = ⊥
Has (end ∷ ends) p = (point_of_end end ≡ p) ⊎ Has ends p

pub Has-from : (ends : List End) (end : End) → Contains ends end → Has ends (point_of_end end)
Has-from [] end (i, within, is) = absurd (omega (arith, within))
Has-from (first ∷ ends) end (zero, within, is) = inl (ap point_of_end is)
Has-from (first ∷ ends) end (suc i, within, is) = inr (Has-from ends end (i, omega (arith, within), is))

pub Contains-both : (edges : List Edge) (edge : Edge) → Contains edges edge → Contains (flat_map both_ends edges) (starting edge) × Contains (flat_map both_ends edges) (ending edge)
Contains-both [] edge (i, within, is) = absurd (omega (arith, within))
Contains-both (first ∷ edges) edge (zero, within, is) = (
  Contains-append_left (both_ends first) (flat_map both_ends edges) (starting edge) (0, omega arith, ap starting is),
  Contains-append_left (both_ends first) (flat_map both_ends edges) (ending edge) (1, omega arith, ap ending is),
)
Contains-both (first ∷ edges) edge (suc i, within, is) =
    let rest = Contains-both edges edge (i, omega (arith, within), is) in (
      Contains-append_right (both_ends first) (flat_map both_ends edges) (starting edge) rest.0,
      Contains-append_right (both_ends first) (flat_map both_ends edges) (ending edge) rest.1,
    )

-- each changes by 1 at most
pub changes_small : (edges : List Edge) → All (λ end. (negsuc 0 ≤ℤ end.change) × (end.change ≤ℤ pos 1)) (flat_map both_ends edges)
changes_small [] = λ i d within. absurd (omega (arith, within))
changes_small (edge ∷ edges) =
    let Small : End → Type 0 = λ end. (negsuc 0 ≤ℤ end.change) × (end.change ≤ℤ pos 1) in
    All-append Small (both_ends edge) (flat_map both_ends edges)
    (All-cons Small (starting edge) (ending edge ∷ []) (omega (arith, ints), omega (arith, ints)) (All-cons Small (ending edge) [] (omega (arith, ints), omega (arith, ints)) (λ i d within. absurd (omega (arith, within)))))
    (changes_small edges)

-- those from a place on, as a slice has them
pub rest_is : (n : ℕ) (edges : List Edge) → take (length edges - n) (drop n edges) ≡ drop n edges
rest_is n edges = let size = length-drop n edges in take_all (length edges - n) (drop n edges) (omega (arith, size))
