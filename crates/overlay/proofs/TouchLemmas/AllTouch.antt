-- Edges of the outlines of polygons touch where they meet: in one point, which is an end of one of them.
use Rattle.std.proofs.Common.{◌≡◌, ◌≢◌, ◌⊎◌, ◌<◌, ◌≤◌, inl, inr, zero, suc, ℕ, Bool, true, List, [], ◌∷◌, ◌++◌, get_or, length, map, refl, ap, sym, subst, ◌∙◌, arith}
use Rattle.std.specs.List.{All, Contains, flat_map}
use Rattle.std.proofs.lemmas.Bool.{cases_eq}
use Rattle.std.proofs.lemmas.List.{get_or-map, get_or_default, length-map}
use Rattle.std.proofs.lemmas.List.Elements.{All-contains, Contains-get_or}
use Rattle.plane.specs.declared.edge.Edge.{Edge}
use Rattle.plane.specs.declared.meet.kinds.Meeting.TheVariants.{Touch}
use Rattle.plane.specs.declared.point.Point.{Point}
use Rattle.plane.specs.Ends.{end_of, start_of}
use Rattle.plane.specs.Meet.Edges.{Meet}
use Rattle.plane.specs.Meet.Kinds.{HasPoint, IsAt, MeetSo}
use Rattle.plane.proofs.MeetLemmas.Along.{whole_point}
use Rattle.plane.proofs.PairsLemmas.Bags.{Contains-from_map, Contains-map}
use Rattle.overlay.specs.Contours.Outlines.{IsStraight, outline}
use Rattle.overlay.specs.Contours.Rings.{IsRing, real_edges, ring_edges}
use Rattle.overlay.specs.Fill.Filled.{AreDistinct, AreNoded}
use Rattle.overlay.specs.Nesting.{PolygonWindsOnce}
use Rattle.overlay.specs.OnePiece.{IsThere, TouchAlongNoCircle, TouchesIn}
use Rattle.overlay.specs.Overlay.{polygon_edges}
use Rattle.overlay.specs.Polygons.{IsPolygon, rings_of}
use Rattle.overlay.specs.Sides.{AreBorders, sheared, sheared_edge}
use Rattle.overlay.proofs.AreaLemmas.Sheared.{sheared-same}
use Rattle.overlay.proofs.AreaLemmas.Touching.{Away, Touches}
use Rattle.overlay.proofs.FillLemmas.Premises.{All-among}
use Rattle.overlay.proofs.GroupingLemmas.Bags.{Contains-flat_map, Contains-in_flat_map}
use Rattle.overlay.proofs.GroupingLemmas.Edges.{ring-ends}
use Rattle.overlay.proofs.TouchLemmas.OnOutline.{on-outline}
use Rattle.overlay.proofs.TouchLemmas.Outlined.{PassesStraight}
use Rattle.overlay.proofs.TouchLemmas.OwnNoded.{own-end}
use Rattle.overlay.proofs.CircleLemmas.Distinct.{rings-apart}
use Rattle.overlay.proofs.TouchLemmas.PassBy.{lists, n, others-pass, own, own-pass, own-ring}
use Rattle.overlay.proofs.TouchLemmas.Shared.{touch-or-straight}
use Rattle.overlay.proofs.TouchLemmas.Stays.{Passes, any-touch}
use Rattle.overlay.proofs.UncrossedLemmas.Finer.{common-whole, one-point}
use Rattle.overlay.proofs.WindsLemmas.NextInRing.{held-or, one-ring}

-- the edges of rings, ring by ring
edges-joined : (rings : List (List Point)) → flat_map ring_edges rings ≡ flat_map (λ (list : List Edge). list) (map ring_edges rings)
edges-joined [] = refl
edges-joined (ring ∷ rings) = ap (λ (list : List Edge). ring_edges ring ++ list) (edges-joined rings)

-- a place among the items of a list, and the item there
place-of : {X : Type 0} (xs : List X) (x d : X) → Contains xs x → (k : ℕ) × (k < length xs) × (get_or xs k d ≡ x)
place-of xs x d (k, within, is) = (k, within, sym (get_or_default xs k x d within) ∙ is)

module _ (whole : List (List (List Point))) (are_rings : All IsRing (rings_of whole)) (borders : AreBorders (polygon_edges whole)) (are : All IsPolygon whole) (once : All PolygonWindsOnce whole)
    (free : All TouchAlongNoCircle (map (λ polygon. map outline polygon) whole)) (real : (ring : List Point) → Contains (rings_of whole) ring → real_edges (ring_edges (outline ring)) ≡ ring_edges (outline ring)) where
  abbrev rings : List (List Point)
  rings = rings_of whole

  abbrev steep : ℕ
  steep = n whole are_rings borders are once

  of-all : (polygon : List (List Point)) → Contains whole polygon → (ring : List Point) → Contains polygon ring → Contains rings ring
  of-all polygon inside ring of = Contains-in_flat_map (λ (p : List (List Point)). p) whole polygon ring inside of

  -- ---- rings of one polygon

  module _ (polygon : List (List Point)) (inside : Contains whole polygon) where
    abbrev slanted : List (List Edge)
    slanted = lists whole are_rings borders are once polygon inside

    abbrev ring_at : ℕ → List Point
    ring_at k = get_or polygon k []

    own-borders : AreBorders (flat_map ring_edges polygon)
    own-borders = own whole are_rings borders are once polygon inside

    all-rings : All IsRing polygon
    all-rings = All-among IsRing polygon (own-ring whole are_rings borders are once polygon inside)

    as-many : (k : ℕ) → k < length slanted → k < length polygon
    as-many k within = subst (λ (m : ℕ). k < m) (length-map polygon (λ r. map (sheared_edge steep) (ring_edges r))) within

    is-slanted : (k : ℕ) → k < length polygon → get_or slanted k [] ≡ map (sheared_edge steep) (ring_edges (ring_at k))
    is-slanted k within = get_or-map (λ r. map (sheared_edge steep) (ring_edges r)) polygon k [] [] within

    ring-of : (k : ℕ) → k < length polygon → Contains polygon (ring_at k)
    ring-of k within = Contains-get_or polygon k [] within

    -- a ring that passes a point has it
    has-it : (k : ℕ) (at : Point) → Passes steep slanted k at → Contains (ring_at k) at
    has-it k at (within, (edge, held, touches)) =
        let inside_it = as-many k within in
        let (e, e_held, is) = Contains-from_map (sheared_edge steep) (ring_edges (ring_at k)) edge (subst (λ (list : List Edge). Contains list edge) (is-slanted k inside_it) held) in
        by e e_held (subst (λ (g : Edge). Touches (sheared steep at) g) (sym is) touches)
      where
        by : (e : Edge) → Contains (ring_edges (ring_at k)) e → Touches (sheared steep at) (sheared_edge steep e) → Contains (ring_at k) at
        by e e_held (inl start) = subst (Contains (ring_at k)) (sheared-same steep (omega arith) (start_of e) at start) (ring-ends (ring_at k) e e_held).0
        by e e_held (inr end) = subst (Contains (ring_at k)) (sheared-same steep (omega arith) (end_of e) at end) (ring-ends (ring_at k) e e_held).1

    outline-real : (k : ℕ) → k < length polygon → (edge : Edge) → Contains (ring_edges (outline (ring_at k))) edge → Contains (real_edges (ring_edges (get_or (map outline polygon) k []))) edge
    outline-real k within edge held =
        subst (λ (ring : List Point). Contains (real_edges (ring_edges ring)) edge) (sym (get_or-map outline polygon k [] [] within))
        (subst (λ (list : List Edge). Contains list edge) (sym (real (ring_at k) (of-all polygon inside (ring_at k) (ring-of k within)))) held)

    -- Rings of the polygon that have a point touch there.
    to-touch : (j k : ℕ) (at : Point) → j ≢ k → Passes steep slanted j at → Passes steep slanted k at → TouchesIn (map outline polygon) j at
    to-touch j k at apart first second =
        let within = as-many j first.0 in
        let within_too = as-many k second.0 in
        let (one, held, on) = on-outline (ring_at j) at (has-it j at first) in
        let (other, held_too, on_too) = on-outline (ring_at k) at (has-it k at second) in
        let (m, some, of, of_too) = common-whole one other at.x at.y on on_too in
        elim (touch-or-straight polygon all-rings own-borders.noded own-borders.distinct j k within within_too one other held held_too (λ same. absurd (apart same)) (whole_point m some at.x at.y, of, of_too)) [
          | inl touch ↦ record {
            other = k;
            apart = λ same. apart (sym same);
            within = subst (λ (m : ℕ). j < m) (sym (length-map polygon outline)) within;
            other_within = subst (λ (m : ℕ). k < m) (sym (length-map polygon outline)) within_too;
            edge = one;
            other_edge = other;
            held = outline-real j within one held;
            other_held = outline-real k within_too other held_too;
            touch = touch;
            on = on;
            other_on = on_too;
          }
          | inr cross ↦ (
              let (there, here, here_too, off_a, off_b, off_c, off_d, passes, passes_too) = cross in
              absurd (own-pass whole are_rings borders are once polygon inside (ring_at j) (ring_at k) (ring-of j within) (ring-of k within_too) there
              (λ edge held_k held_j. rings-apart polygon own-borders.distinct j k within within_too apart edge held_j held_k) passes passes_too))
        ]

    -- ---- where another ring goes straight on

    -- some other ring of the polygon passes the point, or none does
    search : (place : ℕ) (at : Point) (m : ℕ) → m ≤ length slanted → ((k : ℕ) × (k ≢ place) × Passes steep slanted k at) ⊎ ((k : ℕ) → k < m → Passes steep slanted k at → k ≡ place)
    search place at zero upto = inr (λ k within passes. absurd (omega (arith, within)))
    search place at (suc m) upto =
        elim (search place at m (omega (arith, upto))) [
          | inl found ↦ inl found
          | inr none ↦ elim (cases_eq m place) [
            | inl same ↦ inr (λ k within passes. elim (cases_eq k m) [ inl is ↦ is ∙ same | inr apart ↦ none k (omega (arith, within, apart)) passes ])
            | inr apart ↦ elim (any-touch (sheared steep at) (get_or slanted m [])) [
              | inl touches ↦ inl (m, apart, (omega (arith, upto), touches))
              | inr away ↦ inr (λ k within passes. elim (cases_eq k m) [ inl is ↦ absurd (never k is passes away) | inr other ↦ none k (omega (arith, within, other)) passes ])
            ]
          ]
        ]
      where
        never : (k : ℕ) → k ≡ m → Passes steep slanted k at → ((edge : Edge) → Contains (get_or slanted m []) edge → Away (sheared steep at) edge) → ⊥
        never k is (within, (edge, held, touches)) away =
            let off = away edge (subst (λ (j : ℕ). Contains (get_or slanted j []) edge) is held) in
            elim touches [ inl start ↦ off.0 start | inr end ↦ off.1 end ]

    beside-pass : (place : ℕ) (within : place < length polygon) (other : List (List Point)) (inside_too : Contains whole other) (other_ring : List Point) (of_too : Contains other other_ring) (at : Point) → Passes steep slanted place at
        → PassesStraight (ring_edges (ring_at place)) at → (c d : Edge) → Contains (ring_edges other_ring) c → Contains (ring_edges other_ring) d → end_of c ≡ at → start_of d ≡ at → IsStraight (start_of c) at (end_of d)
        → ¬ (Contains (flat_map ring_edges polygon) c) → ⊥
    beside-pass place within other inside_too other_ring of_too at here pass c d held_c held_d ends starts straight off =
        elim (search place at (length slanted) (omega arith)) [
          | inl found ↦ (
              let (k, apart, passes) = found in
              let comes = All-contains TouchAlongNoCircle (map (λ p. map outline p) whole) (map outline polygon) free (Contains-map (λ p. map outline p) whole polygon inside) place at (to-touch place k at (λ same. apart (sym same)) here passes) in
              by comes.side (λ j l point first second away. alike comes.side comes.alike j l point first second away) (λ l second off_place. comes.across l (to-touch l place at off_place second here) off_place))
          | inr none ↦ by (λ k. true) (λ j l point first second away. refl) (λ l second off_place. absurd (off_place (none l second.0 second)))
        ]
      where
        by : (side : ℕ → Bool) → ((j k : ℕ) (point : Point) → Passes steep slanted j point → Passes steep slanted k point → point ≢ at → side j ≡ side k) → ((k : ℕ) → Passes steep slanted k at → k ≢ place → side k ≢ side place) → ⊥
        by side together across =
            others-pass whole are_rings borders are once polygon inside place within other inside_too other_ring of_too at side together across pass c d held_c held_d ends starts straight off

        alike : (side : ℕ → Bool) → ((one other : ℕ) (point : Point) → TouchesIn (map outline polygon) one point → TouchesIn (map outline polygon) other point → ¬ (IsThere place at one point) → ¬ (IsThere place at other point) → side one ≡ side other)
            → (j k : ℕ) (point : Point) → Passes steep slanted j point → Passes steep slanted k point → point ≢ at → side j ≡ side k
        alike side given j k point first second away =
            elim (cases_eq j k) [
              | inl same ↦ ap side same
              | inr apart ↦ given j k point (to-touch j k point apart first second) (to-touch k j point (λ same. apart (sym same)) second first) (λ there. away there.1) (λ there. away there.1)
            ]

  -- ---- any two edges

  -- a ring with an edge that ends at a point passes it
  passes-by : (polygon : List (List Point)) (inside : Contains whole polygon) (k : ℕ) → k < length polygon → (a : Edge) → Contains (ring_edges (get_or polygon k [])) a → (at : Point) → end_of a ≡ at → Passes steep (slanted polygon inside) k at
  passes-by polygon inside k within a held at ends = (
    subst (λ (m : ℕ). k < m) (sym (length-map polygon (λ r. map (sheared_edge steep) (ring_edges r)))) within,
    (sheared_edge steep a, subst (λ (list : List Edge). Contains list (sheared_edge steep a)) (sym (is-slanted polygon inside k within)) (Contains-map (sheared_edge steep) (ring_edges (get_or polygon k [])) a held), inr (ap (sheared steep) ends)),
  )

  -- two rings that share no edge don't both go straight on in one point
  pass-never : (ring other_ring : List Point) → Contains rings ring → Contains rings other_ring → ((edge : Edge) → Contains (ring_edges other_ring) edge → ¬ (Contains (ring_edges ring) edge)) → (at : Point)
      → PassesStraight (ring_edges ring) at → PassesStraight (ring_edges other_ring) at → ⊥
  pass-never ring other_ring of of_too off at pass pass_too =
      let (polygon, inside, in_it) = Contains-flat_map (λ (p : List (List Point)). p) whole ring of in
      let (other, inside_too, in_other) = Contains-flat_map (λ (p : List (List Point)). p) whole other_ring of_too in
      let (place, within, is) = place-of polygon ring [] in_it in
      let (c, d, held_c, held_d, ends, starts, straight) = pass_too in
      elim (held-or (flat_map ring_edges polygon) c) [
        | inr away ↦ (
            let here = subst (λ (r : List Point). PassesStraight (ring_edges r) at) (sym is) pass in
            beside-pass polygon inside place within other inside_too other_ring in_other at (passes-by polygon inside place within here.0 here.2 at here.4) here c d held_c held_d ends starts straight away)
        | inl held ↦ (
            let (third, third_of, third_held) = Contains-flat_map ring_edges polygon c held in
            let same = one-ring (map ring_edges rings) (subst AreDistinct (edges-joined rings) borders.distinct) (ring_edges other_ring) (ring_edges third)
            (Contains-map ring_edges rings other_ring of_too) (Contains-map ring_edges rings third (of-all polygon inside third third_of)) c held_c third_held in
            own-pass whole are_rings borders are once polygon inside ring third in_it third_of at
            (λ edge on. off edge (subst (λ (list : List Edge). Contains list edge) (sym same) on)) pass (subst (λ (list : List Edge). PassesStraight list at) same pass_too))
      ]

  -- Where two edges of outlines meet they touch.
  pub all-touch : (i j : ℕ) → i < length rings → j < length rings → (one other : Edge) → Contains (ring_edges (outline (get_or rings i []))) one → Contains (ring_edges (outline (get_or rings j []))) other → (i ≡ j → one ≢ other) → Meet one other → MeetSo one other Touch
  all-touch i j within within_too one other held held_too apart meet =
      elim (touch-or-straight rings are_rings borders.noded borders.distinct i j within within_too one other held held_too apart meet) [
        | inl touch ↦ touch
        | inr cross ↦ (
            let (at, on, on_too, off_a, off_b, off_c, off_d, passes, passes_too) = cross in
            elim (cases_eq i j) [
              | inl same ↦ absurd (own-never same at on on_too off_a off_b passes)
              | inr rings_differ ↦ absurd (pass-never (get_or rings i []) (get_or rings j []) (Contains-get_or rings i [] within) (Contains-get_or rings j [] within_too)
                  (λ edge held_j held_i. rings-apart rings borders.distinct i j within within_too rings_differ edge held_i held_j) at passes passes_too)
            ])
      ]
    where
      is-ring : (k : ℕ) → k < length rings → IsRing (get_or rings k [])
      is-ring k inside = All-contains IsRing rings (get_or rings k []) are_rings (Contains-get_or rings k [] inside)

      ring-noded : (k : ℕ) → k < length rings → AreNoded (ring_edges (get_or rings k []))
      ring-noded k inside first second point of of_too =
          let ring_of = Contains-get_or rings k [] inside in
          borders.noded first second point (Contains-in_flat_map ring_edges rings (get_or rings k []) first ring_of of) (Contains-in_flat_map ring_edges rings (get_or rings k []) second ring_of of_too)

      own-never : i ≡ j → (at : Point) → HasPoint one at.x at.y → HasPoint other at.x at.y → at ≢ start_of one → at ≢ end_of one → PassesStraight (ring_edges (get_or rings i [])) at → ⊥
      own-never same at on on_too off_start off_end (a, b, held_a, held_b, ends, starts, straight) =
          let (m, some, of, of_too) = common-whole one other at.x at.y on on_too in
          let spot = whole_point m some at.x at.y in
          let there : IsAt spot at.x at.y = record { x_is = refl; y_is = refl } in
          let held_same = subst (λ (k : ℕ). Contains (ring_edges (outline (get_or rings k []))) other) (sym same) held_too in
          let on_ring = subst (Contains (get_or rings i [])) ends (ring-ends (get_or rings i []) a held_a).1 in
          elim (own-end (get_or rings i []) (is-ring i within) (ring-noded i within) one other held held_same (apart same) spot at there on_ring of of_too) [
            | inl start ↦ off_start (one-point spot at (start_of one) there start)
            | inr end ↦ off_end (one-point spot at (end_of one) there end)
          ]
