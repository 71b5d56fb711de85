-- Fewer cuts than bands wind around a point.
use Rattle.std.proofs.Common.{◌≡◌, ◌≢◌, ◌⊎◌, inl, inr, ⊎_elim, ℕ, suc, zero, ◌+◌, ◌<◌, ◌≤◌, ℤ, pos, ◌+ℤ◌, ◌≤ℤ◌, ◌<ℤ◌, Bool, true, false, cond, List, [], ◌∷◌, get_or, length, refl, ap, subst, sym, ◌∙◌, arith}
use Rattle.std.specs.List.{All, Contains}
use Rattle.std.proofs.lemmas.Bool.{cases_lt}
use Rattle.std.proofs.lemmas.Int.{ints}
use Rattle.std.proofs.lemmas.List.{get_or-map, length-map}
use Rattle.std.proofs.lemmas.List.Elements.{All-get_or, Contains-get_or}
use Rattle.plane.specs.declared.edge.Edge.{Edge}
use Rattle.plane.specs.declared.point.Point.{Point}
use Rattle.plane.specs.Ends.{end_of, start_of}
use Rattle.plane.specs.Meet.Edges.{RationalPoint}
use Rattle.overlay.specs.Contours.Rings.{ring_edges}
use Rattle.overlay.specs.Fill.Pieces.{total}
use Rattle.noding.specs.Windings.{winding}
use Rattle.offset.specs.Cuts.{IsCurveOfRing, IsSafe, edge_at}
use Rattle.offset.specs.Pieces.{band}
use Rattle.offset.specs.Raw.{furthest, nowhere}
use Rattle.offset.specs.Shape.{IsConvexAroundOrigin, neighbours}
use Rattle.offset.proofs.ShapeLemmas.{length-neighbours, neighbour-at}
use Rattle.offset.proofs.PieceLemmas.Parts.{edge-band-winds, fan_winds-natural, parts-natural, parts_wind}
use Rattle.offset.proofs.PieceLemmas.Rounds.{IsJoined, ring-joined}
use Rattle.offset.proofs.CutLemmas.Curves.{cut_winds, joint-told, pair-at}
use Rattle.offset.proofs.CutLemmas.Triangles.{IsCutOff, cut-winds, cut_off}
use Rattle.offset.proofs.CutLemmas.Walks.{HasBand, HasCut, IsOffEdge, band-back, band-on, no-other}

-- ---- numbers alone

-- The sum of what the first so many places give.
abbrev pub upto_sum : (ℕ → ℤ) → ℕ → ℤ
upto_sum f zero = pos 0
upto_sum f (suc n) = upto_sum f n +ℤ f n

-- It is what the first place gives, and what those behind it do.
shifted : (f : ℕ → ℤ) (n : ℕ) → upto_sum f (suc n) ≡ (f zero +ℤ upto_sum (λ i. f (suc i)) n)
shifted f zero = omega (arith, ints)
shifted f (suc n) = let rest = shifted f n in omega (arith, ints, rest)

-- A list's sum is that of its places.
pub total-upto : {X : Type 0} (g : X → ℤ) (xs : List X) (d : X) → total g xs ≡ upto_sum (λ i. g (get_or xs i d)) (length xs)
total-upto g [] d = refl
total-upto g (x ∷ xs) d = ap (λ z. g x +ℤ z) (total-upto g xs d) ∙ sym (shifted (λ i. g (get_or (x ∷ xs) i d)) (length xs))

module _ (bands cuts : ℕ → ℤ) (n : ℕ) (natural : (i : ℕ) → i < n → pos 0 ≤ℤ bands i) where
  -- The sum of what isn't below 0 doesn't fall with more places,
  grows : (i j : ℕ) → i ≤ j → j ≤ n → upto_sum bands i ≤ℤ upto_sum bands j
  grows zero zero upto within = omega (arith, ints)
  grows (suc i) zero upto within = absurd (omega (arith, upto))
  grows i (suc j) upto within =
      ⊎_elim
      (λ less.
      let rest = grows i j (omega (arith, less)) (omega (arith, within)) in
      let here = natural j (omega (arith, within)) in
      omega (arith, ints, rest, here))
      (λ most.
      let same : i ≡ suc j = omega (arith, most, upto) in
      let sums = ap (λ k. upto_sum bands k) same in
      omega (arith, ints, sums))
      (cases_lt i (suc j))

  -- and grows by one or more where one of these gives as much.
  grows-over : (i place j : ℕ) → i ≤ place → place < j → j ≤ n → pos 1 ≤ℤ bands place → (upto_sum bands i +ℤ pos 1) ≤ℤ upto_sum bands j
  grows-over i place j from upto within winds =
      let before = grows i place from (omega (arith, upto, within)) in
      let after = grows (suc place) j (omega (arith, upto)) within in
      omega (arith, ints, before, after, winds)

  module _ (one : (i : ℕ) → i < n → (cuts i ≡ pos 0) ⊎ (cuts i ≡ pos 1))
      (back : (i : ℕ) → i < n → cuts i ≡ pos 1 → (place : ℕ) × (place ≤ i) × (pos 1 ≤ℤ bands place) × ((m : ℕ) → place ≤ m → m < i → cuts m ≡ pos 0)) where
    -- The cuts up to one place are no more than the bands up to another one before it, if there are no cuts between them.
    no-more : (i : ℕ) → i ≤ n → (place : ℕ) → place ≤ i → ((m : ℕ) → place ≤ m → m < i → cuts m ≡ pos 0) → upto_sum cuts i ≤ℤ upto_sum bands place
    no-more zero within zero upto none = omega (arith, ints)
    no-more zero within (suc place) upto none = absurd (omega (arith, upto))
    no-more (suc i) within place upto none =
        ⊎_elim
        (λ earlier.
        let rest = no-more i (omega (arith, within)) place (omega (arith, earlier)) (λ m from below. none m from (omega (arith, below))) in
        let nothing = none i (omega (arith, earlier)) (omega arith) in
        omega (arith, ints, rest, nothing))
        (λ here.
        let same : place ≡ suc i = omega (arith, here, upto) in
        let sums = ap (λ k. upto_sum bands k) same in
        ⊎_elim
        (λ nothing.
        let rest = no-more i (omega (arith, within)) i (omega arith) (λ m from below. absurd (omega (arith, from, below))) in
        let more = natural i (omega (arith, within)) in
        omega (arith, ints, rest, nothing, more, sums))
        (λ once.
        let (from, before, winds, between) = back i (omega (arith, within)) once in
        let rest = no-more i (omega (arith, within)) from before between in
        let more = grows-over from from (suc i) (omega arith) (omega (arith, before)) within winds in
        omega (arith, ints, rest, once, more, sums))
        (one i (omega (arith, within))))
        (cases_lt place (suc i))

    module _ (on : (i : ℕ) → i < n → cuts i ≡ pos 1 → (place : ℕ) × (i < place) × (place < n) × (pos 1 ≤ℤ bands place)) where
      -- Up to any place they are fewer than all bands, or there are none.
      less : (i : ℕ) → i ≤ n → (upto_sum cuts i ≡ pos 0) ⊎ (upto_sum cuts i <ℤ upto_sum bands n)
      less zero within = inl refl
      less (suc i) within =
          ⊎_elim
          (λ nothing.
          ⊎_elim
          (λ none. inl (omega (arith, ints, none, nothing)))
          (λ under. inr (omega (arith, ints, under, nothing)))
          (less i (omega (arith, within))))
          (λ once.
          let (place, after, inside, winds) = on i (omega (arith, within)) once in
          let before = no-more (suc i) within (suc i) (omega arith) (λ m from below. absurd (omega (arith, from, below))) in
          let more = grows-over (suc i) place n (omega (arith, after)) inside (omega arith) winds in
          inr (omega (arith, ints, before, more)))
          (one i (omega (arith, within)))

      -- Some places have cuts, one each, and some have bands. Where from each cut one comes back to a band before any other cut,
      -- and on to a band too, the cuts are fewer than the bands, or there are none.
      pub fewer : (upto_sum cuts n ≡ pos 0) ⊎ (upto_sum cuts n <ℤ upto_sum bands n)
      fewer = less n (omega arith)

-- ---- of a ring

module _ (corners : List Point) (convex : IsConvexAroundOrigin corners) (ring : List Point) (curve : List Edge) (is : IsCurveOfRing corners ring curve)
    (proper : All (λ edge. start_of edge ≢ end_of edge) (ring_edges ring)) (point : RationalPoint)
    (generic : (edge : Edge) → Contains (ring_edges ring) edge → IsOffEdge corners edge point) where
  abbrev edges : List Edge
  edges = ring_edges ring

  abbrev pair_at : ℕ → Edge × Edge
  pair_at place = get_or (neighbours edges) place (nowhere, nowhere)

  abbrev no_joint : (Edge × Edge) × Bool
  no_joint = ((nowhere, nowhere), true)

  abbrev joint_at : ℕ → (Edge × Edge) × Bool
  joint_at place = get_or is.joints place no_joint

  abbrev bands : ℕ → ℤ
  bands place = parts_wind corners convex point (pair_at place)

  abbrev cuts : ℕ → ℤ
  cuts place = cut_winds corners point (joint_at place)

  -- There is a joint for each pair, and so for each edge.
  as-many : length is.joints ≡ length (neighbours edges)
  as-many = sym (length-map is.joints (λ (joint : (Edge × Edge) × Bool). joint.0)) ∙ ap (λ (some : List (Edge × Edge)). length some) is.pairs

  as-many-edges : length is.joints ≡ length edges
  as-many-edges = as-many ∙ length-neighbours edges

  -- The first one of a pair is the edge at its place, and a joint is of the pair at its place.
  first-is : (place : ℕ) → place < length edges → (pair_at place).0 ≡ edge_at edges place
  first-is place within = ap (λ (two : Edge × Edge). two.0) (neighbour-at edges place nowhere (nowhere, nowhere) within)

  pair-is : (place : ℕ) → place < length is.joints → (joint_at place).0 ≡ pair_at place
  pair-is place within = sym (get_or-map (λ (joint : (Edge × Edge) × Bool). joint.0) is.joints place no_joint (nowhere, nowhere) within) ∙ ap (λ (some : List (Edge × Edge)). get_or some place (nowhere, nowhere)) is.pairs

  -- What is known of the edges, by their places.
  proper-at : (place : ℕ) → place < length edges → start_of (edge_at edges place) ≢ end_of (edge_at edges place)
  proper-at place within = All-get_or (λ (edge : Edge). start_of edge ≢ end_of edge) edges place nowhere within proper

  joined-at : (place : ℕ) → place + 1 < length edges → end_of (edge_at edges place) ≡ start_of (edge_at edges (place + 1))
  joined-at place inside =
      let long = length-neighbours edges in
      subst IsJoined (pair-at edges place (nowhere, nowhere) inside) (All-get_or IsJoined (neighbours edges) place (nowhere, nowhere) (omega (arith, long, inside)) (ring-joined ring))

  generic-at : (place : ℕ) → place < length edges → IsOffEdge corners (edge_at edges place) point
  generic-at place within = generic (edge_at edges place) (Contains-get_or edges place nowhere within)

  -- No band winds less than not at all, with the fan behind it,
  natural : (place : ℕ) → place < length is.joints → pos 0 ≤ℤ bands place
  natural place within =
      let long = as-many-edges in
      let inside : place < length edges = omega (arith, long, within) in
      parts-natural corners convex point (pair_at place) (subst (λ (edge : Edge). start_of edge ≢ end_of edge) (sym (first-is place inside)) (proper-at place inside))

  -- and one that has the point winds once or more.
  band-winds : (place : ℕ) → place < length edges → HasBand corners edges point place → pos 1 ≤ℤ bands place
  band-winds place within inside =
      let here = (edge-band-winds corners convex point (edge_at edges place) (proper-at place within)).inside inside.behind inside.from inside.before inside.upto in
      let same = ap (λ (edge : Edge). winding (band edge (furthest corners edge)) point) (first-is place within) in
      let more = fan_winds-natural corners convex point (pair_at place).0 (pair_at place).1 in
      omega (arith, ints, here, same, more)

  -- What is cut off at a joint winds not at all, or once: then the corner is safe, and what is cut off has the point.
  told : (place : ℕ) → place < length is.joints → (cuts place ≡ pos 0) ⊎ ((cuts place ≡ pos 1) × IsSafe corners edges place × HasCut corners edges point place)
  told place within = by (joint_at place).1 refl
    where
      from : Edge × Edge
      from = (joint_at place).0

      winds : ℤ
      winds = winding (cut_off (end_of from.0) (furthest corners from.0) (furthest corners from.1)) point

      by : (t : Bool) → (joint_at place).1 ≡ t → (cond t winds (pos 0) ≡ pos 0) ⊎ ((cond t winds (pos 0) ≡ pos 1) × IsSafe corners edges place × HasCut corners edges point place)
      by false unmarked = inl refl
      by true marked =
          let safe = is.safe place no_joint within marked in
          let two = pair-is place within ∙ pair-at edges place (nowhere, nowhere) safe.inside in
          let turned = ((joint-told corners ring curve is (joint_at place) (Contains-get_or is.joints place no_joint within)).1 marked).1 in
          let (once, inside) = cut-winds (end_of from.0) (furthest corners from.0) (furthest corners from.1) turned point in
          ⊎_elim (λ none. inl none)
          (λ one. inr (one, safe, subst (λ (some : Edge × Edge). IsCutOff (end_of some.0) (furthest corners some.0) (furthest corners some.1) point) two (inside (λ none. omega (arith, ints, none, one)))))
          once

  cut-told : (place : ℕ) → place < length is.joints → cuts place ≡ pos 1 → IsSafe corners edges place × HasCut corners edges point place
  cut-told place within winds = ⊎_elim (λ none. absurd (omega (arith, ints, none, winds))) (λ some. (some.1, some.2)) (told place within)

  -- So there is a band that winds at its place or before, with no other cut that winds since, and one behind it.
  back : (index : ℕ) → index < length is.joints → cuts index ≡ pos 1 → (place : ℕ) × (place ≤ index) × (pos 1 ≤ℤ bands place) × ((other : ℕ) → place ≤ other → other < index → cuts other ≡ pos 0)
  back index within winds =
      let long = as-many-edges in
      let (safe, cut) = cut-told index within winds in
      let (place, upto, inside, between) = band-back corners convex edges proper-at joined-at point generic-at index safe cut in (
        place,
        upto,
        band-winds place (omega (arith, long, within, upto)) inside,
        λ other from below. ⊎_elim (λ none. none)
            (λ some. absurd (no-other corners convex edges proper-at joined-at point generic-at other (omega (arith, long, within, below)) (between (other + 1) (omega (arith, from)) (omega (arith, below))) some.2))
            (told other (omega (arith, within, below))),
      )

  on : (index : ℕ) → index < length is.joints → cuts index ≡ pos 1 → (place : ℕ) × (index < place) × (place < length is.joints) × (pos 1 ≤ℤ bands place)
  on index within winds =
      let long = as-many-edges in
      let (safe, cut) = cut-told index within winds in
      let (place, after, before, inside) = band-on corners convex edges proper-at joined-at point generic-at index safe cut in
      (place, after, omega (arith, long, before), band-winds place before inside)

  -- Around a point that is on no line of the ring's edges what is cut off of the curve winds less often than the bands and fans do,
  -- or not at all.
  pub fewer-cuts : (total (cut_winds corners point) is.joints ≡ pos 0) ⊎ (total (cut_winds corners point) is.joints <ℤ total (parts_wind corners convex point) (neighbours (ring_edges ring)))
  fewer-cuts =
      let of_cuts = total-upto (cut_winds corners point) is.joints no_joint in
      let of_bands = total-upto (parts_wind corners convex point) (neighbours edges) (nowhere, nowhere) ∙ ap (λ count. upto_sum bands count) (sym as-many) in
      ⊎_elim (λ none. inl (of_cuts ∙ none)) (λ under. inr (omega (arith, ints, of_cuts, of_bands, under)))
      (fewer bands cuts (length is.joints) natural (λ place within. ⊎_elim (λ none. inl none) (λ some. inr some.0) (told place within)) back on)
