-- Placed rings: which rings they are, which are holes, and that the first in order is none.
use Rattle.std.proofs.Common.{◌≡◌, ◌<◌, ◌≤◌, ◌+◌, ◌-◌, ◌*◌, ◌++◌, [], ◌∷◌, ℕ, zero, suc, Bool, true, false, not, cond, List, take, length, get_or, map, refl, ap, ap₂, sym, ◌∙◌, append_assoc, arith, inl, inr}
use Rattle.std.specs.List.{All, Contains, between}
use Rattle.std.specs.List.Sorted.{IsNonDecreasingBy, IsPermutation}
use Rattle.std.proofs.lemmas.Bool.{cases_lt}
use Rattle.std.proofs.lemmas.List.{drop_at, get_or_past, length-append}
use Rattle.std.proofs.lemmas.List.Elements.{All-cons, All-head, All-nil, Contains-get_or}
use Rattle.std.proofs.lemmas.List.Sorted.{All-permutation, Contains-permutation}
use Rattle.std.proofs.Math.Seq.{get_or-append_seam, take-append_seam}
use Rattle.plane.specs.declared.point.Point.{Point}
use Rattle.noding.specs.Offsets.{offsets}
use Rattle.noding.proofs.ChainLemmas.Offsets.{joined}
use Rattle.overlay.specs.Grouping.{AreHomes, AreWithin, BeginOutside, home_of, is_outer, placed_from, rank, ring_in}
use Rattle.overlay.specs.Polygons.{is_counterclockwise}
use Rattle.overlay.specs.Rings.{AreEnds, rings_of}
use Rattle.overlay.specs.declared.grouping.order.PlacedRing.{PlacedRing}

-- ---- rings in one list, and back

pub ends-right : (start : ℕ) (rings : List (List Point)) (count : ℕ) → start + length (joined rings) ≤ count → AreEnds start (offsets start rings) count
ends-right start [] count fits = tt
ends-right start (ring ∷ rings) count fits =
    let sum = length-append ring (joined rings) in
    (omega arith, omega (arith, sum, fits), ends-right (start + length ring) rings count (omega (arith, sum, fits)))

between-is : (before ring rest : List Point) (start : ℕ) → start ≡ length before → between start (start + length ring) (before ++ (ring ++ rest)) ≡ ring
between-is before ring rest start is =
    ap₂ (λ (n : ℕ) (points : List Point). take n points) (let size : (start + length ring) - start ≡ length ring = omega arith in size) (drop_at before (ring ++ rest) start (sym is))
    ∙ take-append_seam ring rest

pub rings-back : (before : List Point) (rings : List (List Point)) (start : ℕ) → start ≡ length before → rings_of (before ++ joined rings) start (offsets start rings) ≡ rings
rings-back before [] start is = refl
rings-back before (ring ∷ rings) start is =
    ap₂ (λ (first : List Point) (others : List (List Point)). first ∷ others) (between-is before ring (joined rings) start is)
    (ap (λ (points : List Point). rings_of points (start + length ring) (offsets (start + length ring) rings)) (sym (append_assoc before ring (joined rings)))
    ∙ rings-back (before ++ ring) rings (start + length ring) (let sum = length-append before ring in omega (arith, is, sum)))

-- ---- placed rings

abbrev pub no_ring : PlacedRing
no_ring = record { home = 0; is_hole = false; start = 0; end = 0 }

outer-inside : (are_outer : List Bool) (home : ℕ) → is_outer are_outer home ≡ true → home < length are_outer
outer-inside are_outer home is = elim (cases_lt home (length are_outer)) [
  | inl below ↦ below
  | inr upto ↦ absurd (never (sym is ∙ get_or_past are_outer home false upto))
]
  where
    never : true ≡ false → ⊥
    never h = cc

rank-outer : (ring : PlacedRing) (home : ℕ) → ring.home ≡ home → ring.is_hole ≡ false → rank ring ≡ home * 2
rank-outer ring home is outer = ap₂ (λ (n : ℕ) (t : Bool). n * 2 + cond t 1 0) is outer ∙ (let same : home * 2 + 0 ≡ home * 2 = omega arith in same)

no-hole : (home : ℕ) (hole : Bool) → home * 2 + cond hole 1 0 ≤ home * 2 → hole ≡ false
no-hole home true upto = absurd (omega (arith, upto))
no-hole home false upto = refl

first-least : (are_outer : List Bool) (order : List PlacedRing) → IsNonDecreasingBy rank order → All (λ ring. is_outer are_outer ring.home ≡ true) order
    → ((home : ℕ) → is_outer are_outer home ≡ true → (ring : PlacedRing) × Contains order ring × (rank ring ≡ home * 2)) → BeginOutside order
first-least are_outer [] rising homes outer = tt
first-least are_outer (ring ∷ rings) rising homes outer =
    let (other, (k, within, at), least) = outer ring.home (All-head (λ (one : PlacedRing). is_outer are_outer one.home ≡ true) ring rings homes) in
    let upto : rank ring ≤ rank (get_or (ring ∷ rings) k other) = rising 0 k other (omega arith) within in
    let same = ap (λ (one : PlacedRing). rank one) at in
    no-hole ring.home ring.is_hole (omega (arith, upto, same, least))

module _ (are_outer : List Bool) (homes : List ℕ) where
  -- they are the rings
  pub placed-rings : (points : List Point) (number start : ℕ) (ends : List ℕ) → map (ring_in points) (placed_from are_outer homes number start ends) ≡ rings_of points start ends
  placed-rings points number start [] = refl
  placed-rings points number start (end ∷ ends) = ap (λ (rings : List (List Point)). between start end points ∷ rings) (placed-rings points (number + 1) end ends)

  pub placed-within : (points : List Point) (number start : ℕ) (ends : List ℕ) → AreEnds start ends (length points) → AreWithin points (placed_from are_outer homes number start ends)
  placed-within points number start [] right = All-nil _
  placed-within points number start (end ∷ ends) (rising, within, others) =
      All-cons (λ (ring : PlacedRing). (ring.start ≤ ring.end) × (ring.end ≤ length points)) _ _ (rising, within) (placed-within points (number + 1) end ends others)

  -- those that don't run counterclockwise are holes
  pub placed-marks : (points : List Point) (done : List Bool) (number start : ℕ) (ends : List ℕ) → number ≡ length done → are_outer ≡ done ++ map is_counterclockwise (rings_of points start ends)
      → All (λ ring. ring.is_hole ≡ not (is_counterclockwise (ring_in points ring))) (placed_from are_outer homes number start ends)
  placed-marks points done number start [] is all = All-nil _
  placed-marks points done number start (end ∷ ends) is all =
      let runs = is_counterclockwise (between start end points) in
      let others = map is_counterclockwise (rings_of points end ends) in
      let here : is_outer are_outer number ≡ runs = ap₂ (λ (list : List Bool) (n : ℕ). get_or list n false) all is ∙ get_or-append_seam done runs others false in
      All-cons (λ (ring : PlacedRing). ring.is_hole ≡ not (is_counterclockwise (ring_in points ring))) _ _ (ap not here)
      (placed-marks points (done ++ runs ∷ []) (number + 1) end ends (let sum = length-append done (runs ∷ []) in omega (arith, is, sum)) (all ∙ sym (append_assoc done (runs ∷ []) others)))

  pub placed-at : (number start : ℕ) (ends : List ℕ) (i : ℕ) (d : PlacedRing) → i < length ends
      → ((get_or (placed_from are_outer homes number start ends) i d).home ≡ home_of are_outer homes (number + i)) × ((get_or (placed_from are_outer homes number start ends) i d).is_hole ≡ not (is_outer are_outer (number + i)))
  placed-at number start [] i d within = absurd (omega (arith, within))
  placed-at number start (end ∷ ends) zero d within =
      let same : number ≡ number + 0 = omega arith in
      (ap (λ (n : ℕ). home_of are_outer homes n) same, ap (λ (n : ℕ). not (is_outer are_outer n)) same)
  placed-at number start (end ∷ ends) (suc i) d within =
      let same : (number + 1) + i ≡ number + suc i = omega arith in
      let (home, hole) = placed-at (number + 1) end ends i d (omega (arith, within)) in
      (home ∙ ap (λ (n : ℕ). home_of are_outer homes n) same, hole ∙ ap (λ (n : ℕ). not (is_outer are_outer n)) same)

  pub placed-size : (number start : ℕ) (ends : List ℕ) → length (placed_from are_outer homes number start ends) ≡ length ends
  placed-size number start [] = refl
  placed-size number start (end ∷ ends) = ap (λ (n : ℕ). suc n) (placed-size (number + 1) end ends)

  module _ (have : AreHomes are_outer homes) where
    pub home-outer : (ring : ℕ) → ring < length are_outer → is_outer are_outer (home_of are_outer homes ring) ≡ true
    home-outer ring within = by (is_outer are_outer ring) refl
      where
        by : (t : Bool) → is_outer are_outer ring ≡ t → is_outer are_outer (cond t ring (get_or homes ring 0)) ≡ true
        by true e = e
        by false e = let size = have.size in have.outer ring 0 (omega (arith, size, within))

    pub placed-homes : (number start : ℕ) (ends : List ℕ) → number + length ends ≤ length are_outer → All (λ ring. is_outer are_outer ring.home ≡ true) (placed_from are_outer homes number start ends)
    placed-homes number start [] fits = All-nil _
    placed-homes number start (end ∷ ends) fits =
        All-cons (λ (ring : PlacedRing). is_outer are_outer ring.home ≡ true) _ _ (home-outer number (omega (arith, fits))) (placed-homes (number + 1) end ends (omega (arith, fits)))

    -- the outer ring of a home
    pub outer-of : (ends : List ℕ) → length are_outer ≡ length ends → (order : List PlacedRing) → IsPermutation (placed_from are_outer homes 0 0 ends) order → (home : ℕ) → is_outer are_outer home ≡ true
        → (ring : PlacedRing) × Contains order ring × (rank ring ≡ home * 2)
    outer-of ends each order moved home is =
        let inside : home < length are_outer = outer-inside are_outer home is in
        let within : home < length ends = omega (arith, inside, each) in
        let all = placed_from are_outer homes 0 0 ends in
        let size = placed-size 0 0 ends in
        let same : 0 + home ≡ home = omega arith in
        let (at, hole) = placed-at 0 0 ends home no_ring within in (
          get_or all home no_ring,
          Contains-permutation all order (get_or all home no_ring) moved (Contains-get_or all home no_ring (omega (arith, within, size))),
          rank-outer (get_or all home no_ring) home (at ∙ ap (λ (n : ℕ). home_of are_outer homes n) same ∙ ap (λ (t : Bool). cond t home (get_or homes home 0)) is) (hole ∙ ap (λ (n : ℕ). not (is_outer are_outer n)) same ∙ ap not is),
        )

    -- the first ring in order is no hole
    pub begin-outside : (ends : List ℕ) → length are_outer ≡ length ends → (order : List PlacedRing) → IsPermutation (placed_from are_outer homes 0 0 ends) order → IsNonDecreasingBy rank order → BeginOutside order
    begin-outside ends each order moved rising =
        first-least are_outer order rising
        (All-permutation (λ (ring : PlacedRing). is_outer are_outer ring.home ≡ true) (placed_from are_outer homes 0 0 ends) order moved (placed-homes 0 0 ends (omega (arith, each))))
        (outer-of ends each order moved)
