-- Rings of one home are of one polygon, and each hole of that of what is just below it.
use Rattle.std.proofs.Common.{◌≡◌, ◌≢◌, ◌⊎◌, inl, inr, ◌<◌, ◌≤◌, ◌+◌, ◌*◌, ◌++◌, [], ◌∷◌, ℕ, Bool, true, false, not, cond, List, get_or, length, map, refl, ap, sym, subst, ◌∙◌, append-nil, append_assoc, ℤ, arith}
use Rattle.std.specs.List.{All, AllPairs, Contains, flat_map}
use Rattle.std.specs.List.Sorted.{IsNonDecreasingBy, IsPermutation}
use Rattle.std.proofs.lemmas.List.{get_or-map, get_or_default}
use Rattle.std.proofs.lemmas.List.Elements.{All-append, All-cons, All-contains, All-head, All-nil, All-tail, All-weaker, Contains-append_cases, Contains-get_or}
use Rattle.std.proofs.lemmas.List.Sorted.{All-permutation, Contains-permutation, IsPermutation-sym}
use Rattle.i_tree.proofs.RootLemmas.Lists.{AllPairs-head, AllPairs-tail, Contains-there}
use Rattle.plane.proofs.PairsLemmas.Bags.{AllPairs-permutation, Contains-from_map, Contains-map, here_or_there}
use Rattle.plane.specs.declared.edge.Edge.{Edge}
use Rattle.plane.specs.declared.point.Point.{Point}
use Rattle.plane.specs.SweepLine.Heights.{rightwards}
use Rattle.overlay.specs.Contours.Rings.{ring_edges}
use Rattle.overlay.specs.Grouping.{AreHomes, BeginOutside, ShareHomes, home_of, is_outer, placed_from, placed_polygons, polygons_from, polygons_of, rank, ring_in}
use Rattle.overlay.specs.Nesting.{AreNested, IsHoleIn, IsNextBelow}
use Rattle.overlay.specs.Polygons.{is_counterclockwise, rings_of as rings_of_all}
use Rattle.overlay.specs.Rings.{rings_of}
use Rattle.overlay.specs.declared.grouping.order.PlacedRing.{PlacedRing}
use Rattle.overlay.proofs.EachRing.{rings-size}
use Rattle.overlay.proofs.FillLemmas.Premises.{All-among}
use Rattle.overlay.proofs.GroupingLemmas.Bags.{Contains-in_flat_map, IsPermutation-flat_map}
use Rattle.overlay.proofs.GroupingLemmas.Grouped.{joined-from, joined-polygons}
use Rattle.overlay.proofs.GroupingLemmas.Placed.{no_ring, outer-of, placed-at, placed-homes, placed-rings, placed-size}

bool-or : (t : Bool) → (t ≡ true) ⊎ (t ≡ false)
bool-or true = inl refl
bool-or false = inr refl

never : true ≡ false → ⊥
never h = cc

-- ---- rings of one home

rank-hole : (ring : PlacedRing) → ring.is_hole ≡ true → rank ring ≡ ring.home * 2 + 1
rank-hole ring is = ap (λ t. ring.home * 2 + cond t 1 0) is

rank-outer : (ring : PlacedRing) → ring.is_hole ≡ false → rank ring ≡ ring.home * 2 + 0
rank-outer ring is = ap (λ t. ring.home * 2 + cond t 1 0) is

-- what has the greater rank hasn't the lower home
homes-rise : (one other : PlacedRing) → rank one ≤ rank other → one.home ≤ other.home
homes-rise one other upto = by one.is_hole other.is_hole upto
  where
    by : (s t : Bool) → one.home * 2 + cond s 1 0 ≤ other.home * 2 + cond t 1 0 → one.home ≤ other.home
    by true true h = omega (arith, h)
    by true false h = omega (arith, h)
    by false true h = omega (arith, h)
    by false false h = omega (arith, h)

-- No two outer rings have one home.
abbrev Apart : PlacedRing → PlacedRing → Type 0
Apart one other = one.is_hole ≡ false → other.is_hole ≡ false → one.home ≢ other.home

-- It is no hole, or an outer ring among them has its home.
abbrev IsLed : List PlacedRing → PlacedRing → Type 0
IsLed rings ring = ring.is_hole ≡ true → (outer : PlacedRing) × Contains rings outer × (outer.is_hole ≡ false) × (outer.home ≡ ring.home)

-- Rings in order behind an outer one of this home: outer rings have greater ones, and holes this one, or that of an outer ring
-- among them.
record Follow (home : ℕ) (rings : List PlacedRing) : Type 0 where
  sorted : AllPairs (λ one other. rank one ≤ rank other) rings
  apart : AllPairs Apart rings
  above : All (λ ring. ring.is_hole ≡ false → home < ring.home) rings
  led : All (λ ring. (ring.home ≡ home) ⊎ IsLed rings ring) rings

module _ (home : ℕ) (ring : PlacedRing) (rings : List PlacedRing) (follow : Follow home (ring ∷ rings)) where
  abbrev Sorted : PlacedRing → PlacedRing → Type 0
  Sorted one other = rank one ≤ rank other

  behind : (other : PlacedRing) → Contains rings other → rank ring ≤ rank other
  behind other held = All-contains (Sorted ring) rings other (AllPairs-head Sorted ring rings follow.sorted) held

  -- a hole in front has this home
  hole-home : ring.is_hole ≡ true → ring.home ≡ home
  hole-home is = elim (All-head (λ (one : PlacedRing). (one.home ≡ home) ⊎ IsLed (ring ∷ rings) one) ring rings follow.led) [
    | inl same ↦ same
    | inr led ↦ absurd (none (led is))
  ]
    where
      none : (outer : PlacedRing) × Contains (ring ∷ rings) outer × (outer.is_hole ≡ false) × (outer.home ≡ ring.home) → ⊥
      none (outer, held, outside, same) = elim (here_or_there ring rings outer held) [
        | inl first ↦ never (sym is ∙ ap (λ (one : PlacedRing). one.is_hole) first ∙ outside)
        | inr later ↦ (
            let upto = behind outer later in
            let high = rank-hole ring is in
            let low = rank-outer outer outside in
            omega (arith, upto, high, low, same))
      ]

  -- behind a hole they follow as before
  follow-hole : ring.is_hole ≡ true → Follow home rings
  follow-hole is = record {
    sorted = AllPairs-tail Sorted ring rings follow.sorted;
    apart = AllPairs-tail Apart ring rings follow.apart;
    above = All-tail (λ (one : PlacedRing). one.is_hole ≡ false → home < one.home) ring rings follow.above;
    led = All-among (λ (one : PlacedRing). (one.home ≡ home) ⊎ IsLed rings one) rings (λ other held.
        by other (All-contains (λ (one : PlacedRing). (one.home ≡ home) ⊎ IsLed (ring ∷ rings) one) (ring ∷ rings) other follow.led (Contains-there ring rings other held)));
  }
    where
      by : (other : PlacedRing) → (other.home ≡ home) ⊎ IsLed (ring ∷ rings) other → (other.home ≡ home) ⊎ IsLed rings other
      by other (inl same) = inl same
      by other (inr led) = inr (λ hole. later (led hole))
        where
          later : (outer : PlacedRing) × Contains (ring ∷ rings) outer × (outer.is_hole ≡ false) × (outer.home ≡ other.home) → (outer : PlacedRing) × Contains rings outer × (outer.is_hole ≡ false) × (outer.home ≡ other.home)
          later (outer, held, outside, same) = elim (here_or_there ring rings outer held) [
            | inl first ↦ absurd (never (sym is ∙ ap (λ (one : PlacedRing). one.is_hole) first ∙ outside))
            | inr among ↦ (outer, among, outside, same)
          ]

  -- from an outer ring on all have greater homes
  homes-above : ring.is_hole ≡ false → (other : PlacedRing) → Contains (ring ∷ rings) other → home < other.home
  homes-above is other held =
      let first = All-head (λ (one : PlacedRing). one.is_hole ≡ false → home < one.home) ring rings follow.above is in
      elim (here_or_there ring rings other held) [
        | inl same ↦ subst (λ (one : PlacedRing). home < one.home) same first
        | inr later ↦ (let rises = homes-rise ring other (behind other later) in omega (arith, first, rises))
      ]

  -- and they follow this one
  follow-outer : ring.is_hole ≡ false → Follow ring.home rings
  follow-outer is = record {
    sorted = AllPairs-tail Sorted ring rings follow.sorted;
    apart = AllPairs-tail Apart ring rings follow.apart;
    above = All-among (λ (one : PlacedRing). one.is_hole ≡ false → ring.home < one.home) rings (λ other held outside.
        (let rises = homes-rise ring other (behind other held) in
        let differ = All-contains (Apart ring) rings other (AllPairs-head Apart ring rings follow.apart) held is outside in
        omega (arith, rises, differ)));
    led = All-among (λ (one : PlacedRing). (one.home ≡ ring.home) ⊎ IsLed rings one) rings (λ other held.
        by other held (All-contains (λ (one : PlacedRing). (one.home ≡ home) ⊎ IsLed (ring ∷ rings) one) (ring ∷ rings) other follow.led (Contains-there ring rings other held)) (bool-or other.is_hole));
  }
    where
      by : (other : PlacedRing) → Contains rings other → (other.home ≡ home) ⊎ IsLed (ring ∷ rings) other → (other.is_hole ≡ true) ⊎ (other.is_hole ≡ false) → (other.home ≡ ring.home) ⊎ IsLed rings other
      by other held known (inr outside) = inr (λ hole. absurd (never (sym hole ∙ outside)))
      by other held (inl same) (inl hole) = (let above = homes-above is other (Contains-there ring rings other held) in absurd (omega (arith, same, above)))
      by other held (inr led) (inl hole) = from (led hole)
        where
          from : (outer : PlacedRing) × Contains (ring ∷ rings) outer × (outer.is_hole ≡ false) × (outer.home ≡ other.home) → (other.home ≡ ring.home) ⊎ IsLed rings other
          from (outer, among, outside, same) = elim (here_or_there ring rings outer among) [
            | inl first ↦ inl (sym same ∙ ap (λ (one : PlacedRing). one.home) (sym first))
            | inr later ↦ inr (λ again. (outer, later, outside, same))
          ]

-- Whatever has the home of one of the group is of it.
abbrev HasAll : List PlacedRing → List PlacedRing → Type 0
HasAll all group = (one other : PlacedRing) → Contains group one → Contains all other → one.home ≡ other.home → Contains group other

together-from : (home : ℕ) (polygon rings : List PlacedRing) → All (λ ring. ring.home ≡ home) polygon → Follow home rings → All (HasAll (polygon ++ rings)) (polygons_from polygon rings)
together-from home polygon [] homes follow =
    All-cons (HasAll (polygon ++ [])) polygon [] (λ one other held among same. subst (λ (list : List PlacedRing). Contains list other) (append-nil polygon) among) (All-nil (HasAll (polygon ++ [])))
together-from home polygon (ring ∷ rings) homes follow =
    by ring.is_hole refl
    (λ is. together-from home (polygon ++ ring ∷ []) rings
    (All-append (λ (one : PlacedRing). one.home ≡ home) polygon (ring ∷ []) homes (All-cons (λ (one : PlacedRing). one.home ≡ home) ring [] (hole-home home ring rings follow is) (All-nil (λ (one : PlacedRing). one.home ≡ home))))
    (follow-hole home ring rings follow is))
    (λ is. together-from ring.home (ring ∷ []) rings (All-cons (λ (one : PlacedRing). one.home ≡ ring.home) ring [] refl (All-nil (λ (one : PlacedRing). one.home ≡ ring.home))) (follow-outer home ring rings follow is))
  where
    same-all : (polygon ++ ring ∷ []) ++ rings ≡ (polygon ++ ring ∷ rings)
    same-all = append_assoc polygon (ring ∷ []) rings

    home-is : (one : PlacedRing) → Contains polygon one → one.home ≡ home
    home-is one held = All-contains (λ (r : PlacedRing). r.home ≡ home) polygon one homes held

    -- the polygon before an outer ring has all of its home
    front : ring.is_hole ≡ false → HasAll (polygon ++ ring ∷ rings) polygon
    front is one other held among same = elim (Contains-append_cases polygon (ring ∷ rings) other among) [
      | inl there ↦ there
      | inr later ↦ (let above = homes-above home ring rings follow is other later in let here = home-is one held in absurd (omega (arith, above, here, same)))
    ]

    -- and none of it is of a later one
    back : ring.is_hole ≡ false → (group : List PlacedRing) → Contains (polygons_from (ring ∷ []) rings) group → HasAll (ring ∷ rings) group → HasAll (polygon ++ ring ∷ rings) group
    back is group inside has one other held among same = elim (Contains-append_cases polygon (ring ∷ rings) other among) [
      | inl there ↦ (
          let above = homes-above home ring rings follow is one (subst (λ (list : List PlacedRing). Contains list one) (joined-from (ring ∷ []) rings) (Contains-in_flat_map (λ (list : List PlacedRing). list) (polygons_from (ring ∷ []) rings) group one inside held)) in
          let here = home-is other there in
          absurd (omega (arith, above, here, same)))
      | inr later ↦ has one other held later same
    ]

    by : (hole : Bool) → ring.is_hole ≡ hole → (ring.is_hole ≡ true → All (HasAll ((polygon ++ ring ∷ []) ++ rings)) (polygons_from (polygon ++ ring ∷ []) rings)) → (ring.is_hole ≡ false → All (HasAll (ring ∷ rings)) (polygons_from (ring ∷ []) rings))
        → All (HasAll (polygon ++ ring ∷ rings)) (cond hole (polygons_from (polygon ++ ring ∷ []) rings) (polygon ∷ polygons_from (ring ∷ []) rings))
    by true is joins begins = subst (λ (list : List PlacedRing). All (HasAll list) (polygons_from (polygon ++ ring ∷ []) rings)) same-all (joins is)
    by false is joins begins =
        All-cons (HasAll (polygon ++ ring ∷ rings)) polygon (polygons_from (ring ∷ []) rings) (front is)
        (All-among (HasAll (polygon ++ ring ∷ rings)) (polygons_from (ring ∷ []) rings) (λ group inside. back is group inside (All-contains (HasAll (ring ∷ rings)) (polygons_from (ring ∷ []) rings) group (begins is) inside)))

-- rings of one home are together
pub together : (order : List PlacedRing) → BeginOutside order → AllPairs (λ one other. rank one ≤ rank other) order → AllPairs Apart order → All (IsLed order) order → All (HasAll order) (polygons_of order)
together [] outside sorted apart led = All-nil (HasAll [])
together (ring ∷ rings) outside sorted apart led =
    together-from ring.home (ring ∷ []) rings (All-cons (λ (one : PlacedRing). one.home ≡ ring.home) ring [] refl (All-nil (λ (one : PlacedRing). one.home ≡ ring.home))) (record {
      sorted = AllPairs-tail (λ (one other : PlacedRing). rank one ≤ rank other) ring rings sorted;
      apart = AllPairs-tail Apart ring rings apart;
      above = All-among (λ (one : PlacedRing). one.is_hole ≡ false → ring.home < one.home) rings (λ other held is.
          (let rises = homes-rise ring other (All-contains (λ (one : PlacedRing). rank ring ≤ rank one) rings other (AllPairs-head (λ (one other : PlacedRing). rank one ≤ rank other) ring rings sorted) held) in
          let differ = All-contains (Apart ring) rings other (AllPairs-head Apart ring rings apart) held outside is in
          omega (arith, rises, differ)));
      led = All-among (λ (one : PlacedRing). (one.home ≡ ring.home) ⊎ IsLed rings one) rings (λ other held. by other (All-contains (IsLed (ring ∷ rings)) (ring ∷ rings) other led (Contains-there ring rings other held)) (bool-or other.is_hole));
    })
  where
    by : (other : PlacedRing) → IsLed (ring ∷ rings) other → (other.is_hole ≡ true) ⊎ (other.is_hole ≡ false) → (other.home ≡ ring.home) ⊎ IsLed rings other
    by other known (inr is) = inr (λ hole. absurd (never (sym hole ∙ is)))
    by other known (inl hole) = from (known hole)
      where
        from : (outer : PlacedRing) × Contains (ring ∷ rings) outer × (outer.is_hole ≡ false) × (outer.home ≡ other.home) → (other.home ≡ ring.home) ⊎ IsLed rings other
        from (outer, among, is, same) = elim (here_or_there ring rings outer among) [
          | inl first ↦ inl (sym same ∙ ap (λ (one : PlacedRing). one.home) (sym first))
          | inr later ↦ inr (λ again. (outer, later, is, same))
        ]

-- ---- placed rings

next-moved : (edges others : List Edge) → IsPermutation edges others → (x : ℤ) (one other : Edge) → IsNextBelow edges x one other → IsNextBelow others x one other
next-moved edges others moved x one other is = record {
  among = Contains-permutation edges others one moved is.among;
  among_too = Contains-permutation edges others other moved is.among_too;
  over = is.over;
  over_too = is.over_too;
  less = is.less;
  none = λ between held. is.none between (Contains-permutation others edges between (IsPermutation-sym edges others moved) held);
}

no-hole : (ring : PlacedRing) (home : ℕ) → rank ring ≡ home * 2 → (ring.is_hole ≡ false) × (ring.home ≡ home)
no-hole ring home is = by ring.is_hole is
  where
    by : (t : Bool) → ring.home * 2 + cond t 1 0 ≡ home * 2 → (t ≡ false) × (ring.home ≡ home)
    by true h = absurd (omega (arith, h))
    by false h = (refl, omega (arith, h))

not-hole : (t : Bool) → not t ≡ false → t ≡ true
not-hole true h = refl
not-hole false h = cc

apart-exchanged : (one other : PlacedRing) → Apart one other → Apart other one
apart-exchanged one other apart is is_too same = apart is_too is (sym same)

module _ (points : List Point) (ends : List ℕ) (are_outer : List Bool) (homes : List ℕ) (order : List PlacedRing) (moved : IsPermutation (placed_from are_outer homes 0 0 ends) order) where
  abbrev placed : List PlacedRing
  placed = placed_from are_outer homes 0 0 ends

  abbrev rings : List (List Point)
  rings = rings_of points 0 ends

  outer-home : (i : ℕ) (d : PlacedRing) → i < length ends → (get_or placed i d).is_hole ≡ false → (get_or placed i d).home ≡ i
  outer-home i d within is =
      let (home, hole) = placed-at are_outer homes 0 0 ends i d within in
      let outer : is_outer are_outer (0 + i) ≡ true = not-hole (is_outer are_outer (0 + i)) (sym hole ∙ is) in
      home ∙ ap (λ t. cond t (0 + i) (get_or homes (0 + i) 0)) outer ∙ (let same : 0 + i ≡ i = omega arith in same)

  placed-apart : AllPairs Apart placed
  placed-apart i j d less within is is_too same =
      let size = placed-size are_outer homes 0 0 ends in
      let first = outer-home i d (omega (arith, less, within, size)) is in
      let second = outer-home j d (omega (arith, within, size)) is_too in
      omega (arith, first, second, same, less)

  order-apart : AllPairs Apart order
  order-apart = AllPairs-permutation Apart apart-exchanged placed order moved placed-apart

  module _ (each : length are_outer ≡ length ends) (have : AreHomes are_outer homes) (rising : IsNonDecreasingBy rank order) (outside : BeginOutside order) where
    order-sorted : AllPairs (λ one other. rank one ≤ rank other) order
    order-sorted i j d less within = rising i j d (omega (arith, less)) within

    order-led : All (IsLed order) order
    order-led =
        All-weaker (λ (ring : PlacedRing). is_outer are_outer ring.home ≡ true) (IsLed order) by order
        (All-permutation (λ (ring : PlacedRing). is_outer are_outer ring.home ≡ true) placed order moved (placed-homes are_outer homes have 0 0 ends (omega (arith, each))))
      where
        by : (ring : PlacedRing) → is_outer are_outer ring.home ≡ true → IsLed order ring
        by ring is hole =
            let (outer, held, least) = outer-of are_outer homes have ends each order moved ring.home is in
            let (no_hole, same) = no-hole outer ring.home least in
            (outer, held, no_hole, same)

    all-together : All (HasAll order) (polygons_of order)
    all-together = together order outside order-sorted order-apart order-led

    module _ (share : ShareHomes rings are_outer homes) (rings_moved : IsPermutation rings (rings_of_all (placed_polygons points order))) where
      abbrev all_edges : List Edge
      all_edges = flat_map ring_edges (rings_of_all (placed_polygons points order))

      edges-moved : IsPermutation all_edges (flat_map ring_edges rings)
      edges-moved = IsPermutation-sym (flat_map ring_edges rings) all_edges (IsPermutation-flat_map ring_edges rings (rings_of_all (placed_polygons points order)) rings_moved)

      -- the ring of a number
      placed-ring : (k : ℕ) → k < length ends → ring_in points (get_or placed k no_ring) ≡ get_or rings k []
      placed-ring k within =
          let size = placed-size are_outer homes 0 0 ends in
          sym (get_or-map (ring_in points) placed k no_ring [] (omega (arith, within, size))) ∙ ap (λ (list : List (List Point)). get_or list k []) (placed-rings are_outer homes points 0 0 ends)

      placed-home : (k : ℕ) → k < length ends → (get_or placed k no_ring).home ≡ home_of are_outer homes k
      placed-home k within = (placed-at are_outer homes 0 0 ends k no_ring within).0 ∙ ap (home_of are_outer homes) (let same : 0 + k ≡ k = omega arith in same)

      module _ (group : List PlacedRing) (inside : Contains (polygons_of order) group) where
        -- a hole of the group, by its number
        nested-at : (k : ℕ) → k < length ends → Contains group (get_or placed k no_ring) → is_counterclockwise (get_or rings k []) ≡ false → IsHoleIn all_edges (map (ring_in points) group) (get_or rings k [])
        nested-at k within held clockwise first below is next =
            let count = rings-size points 0 ends in
            let size = placed-size are_outer homes 0 0 ends in
            let (j, within_j, among, home) = share k first below (omega (arith, within, count)) clockwise is (next-moved all_edges (flat_map ring_edges rings) edges-moved (rightwards first).x0 below first next) in
            let inside_j : j < length ends = omega (arith, within_j, count) in
            let other = get_or placed j no_ring in
            let in_order : Contains order other = Contains-permutation placed order other moved (Contains-get_or placed j no_ring (omega (arith, inside_j, size))) in
            let of_group = All-contains (HasAll order) (polygons_of order) group all-together inside (get_or placed k no_ring) other held in_order (placed-home k within ∙ home ∙ sym (placed-home j inside_j)) in
            Contains-in_flat_map ring_edges (map (ring_in points) group) (ring_in points other) below (Contains-map (ring_in points) group other of_group)
            (subst (λ (ring : List Point). Contains (ring_edges ring) below) (sym (placed-ring j inside_j)) among)

        of-order : (ring : PlacedRing) → Contains group ring → Contains order ring
        of-order ring held =
            subst (λ (list : List PlacedRing). Contains list ring) (joined-polygons order) (Contains-in_flat_map (λ (list : List PlacedRing). list) (polygons_of order) group ring inside held)

        nested-ring : (ring : PlacedRing) → Contains group ring → is_counterclockwise (ring_in points ring) ≡ false → IsHoleIn all_edges (map (ring_in points) group) (ring_in points ring)
        nested-ring ring held clockwise =
            let (k, within, at) = Contains-permutation order placed ring (IsPermutation-sym placed order moved) (of-order ring held) in
            let size = placed-size are_outer homes 0 0 ends in
            let inside_k : k < length ends = omega (arith, within, size) in
            let same : get_or placed k no_ring ≡ ring = get_or_default placed k no_ring ring within ∙ at in
            let ring_is : get_or rings k [] ≡ ring_in points ring = sym (placed-ring k inside_k) ∙ ap (ring_in points) same in
            subst (IsHoleIn all_edges (map (ring_in points) group)) ring_is
            (nested-at k inside_k (subst (Contains group) (sym same) held) (ap is_counterclockwise ring_is ∙ clockwise))

      pub order-nested : AreNested (placed_polygons points order)
      order-nested =
          All-among (λ (polygon : List (List Point)). All (λ ring. is_counterclockwise ring ≡ false → IsHoleIn all_edges polygon ring) polygon) (placed_polygons points order) by
        where
          by : (polygon : List (List Point)) → Contains (placed_polygons points order) polygon → All (λ ring. is_counterclockwise ring ≡ false → IsHoleIn all_edges polygon ring) polygon
          by polygon held =
              let (group, inside, is) = Contains-from_map (λ (one : List PlacedRing). map (ring_in points) one) (polygons_of order) polygon held in
              subst (λ (one : List (List Point)). All (λ ring. is_counterclockwise ring ≡ false → IsHoleIn all_edges one ring) one) is (each_of group inside)
            where
              each_of : (group : List PlacedRing) → Contains (polygons_of order) group → All (λ ring. is_counterclockwise ring ≡ false → IsHoleIn all_edges (map (ring_in points) group) ring) (map (ring_in points) group)
              each_of group inside =
                  All-among (λ (ring : List Point). is_counterclockwise ring ≡ false → IsHoleIn all_edges (map (ring_in points) group) ring) (map (ring_in points) group)
                  (λ ring among clockwise.
                  (let (one, of, same) = Contains-from_map (ring_in points) group ring among in
                  subst (IsHoleIn all_edges (map (ring_in points) group)) same (nested-ring group inside one of (ap is_counterclockwise same ∙ clockwise))))
