-- What tiles are joined to is a part of each window around theirs.
use Rattle.std.proofs.Common.{Bool, true, false, not, cond, ◌||◌, ◌≡◌, ◌≢◌, ◌≤◌, ◌⊎◌, inl, inr, ⊎_elim, ℤ, pos, ◌<ℤ◌, ◌≤ℤ◌, List, [], ◌∷◌, ◌++◌, length, refl, ap, ap₂, sym, subst, ◌∙◌, append-nil, arith}
use Rattle.std.specs.List.{All, AllPairs, Contains, filter, flat_map, list_any}
use Rattle.std.specs.Ordering.{int_eq}
use Rattle.std.proofs.lemmas.Int.{ints}
use Rattle.std.proofs.lemmas.List.Concat.{flat_map-append}
use Rattle.std.proofs.lemmas.List.Elements.{All-append, All-filter, All-head, All-nil, All-tail, All-weaker, Contains-append_left, filter-append}
use Rattle.i_tree.proofs.RootLemmas.Joined.{All-behind, All-front}
use Rattle.plane.specs.declared.edge.Edge.{Edge}
use Rattle.plane.specs.declared.point.Point.{Point}
use Rattle.plane.specs.Meet.Edges.{RationalPoint}
use Rattle.plane.proofs.MeetLemmas.Identities.{scaled}
use Rattle.noding.specs.Local.{CrossBeside}
use Rattle.noding.specs.Windings.{winding}
use Rattle.overlay.specs.declared.fill.rules.FillRule.TheVariants.{Positive}
use Rattle.overlay.specs.declared.fill.rules.Operation.TheVariants.{Union}
use Rattle.overlay.specs.Contours.Rings.{IsRing}
use Rattle.overlay.specs.Overlay.{IsOverlay, polygon_edges}
use Rattle.overlay.specs.Polygons.{HasSignedArea, IsPolygon, rings_of}
use Rattle.overlay.proofs.Callers.{none-cross}
use Rattle.overlay.proofs.PieceLemmas.Edges.{equal, unequal}
use Rattle.tiles.specs.Join.{AreApart, AreParts, IsIn, IsJoined, LiesWithin, Tile, all_of, bordering_of, inner_of, tile_points}
use Rattle.tiles.specs.Part.{IsPart, at_border, comes_to_border, is_at_border}
use Rattle.tiles.specs.Window.{HasPoints, InWindow, IsWithin}
use Rattle.tiles.specs.declared.window.Window.{Window}
use Rattle.tiles.proofs.JoinUncrossed.{AreAllBeside, edges-filter, uncrossed-bordering}
use Rattle.tiles.proofs.JoinWinds.{around-append, around-none, around-once, around-tiles, unites}

never : true ≡ false → ⊥
never h = cc

-- ---- what comes to no border of its window comes to none around

four-fail : (a b c d : Bool) → (a || b || c || d) ≡ false → (a ≡ false) × (b ≡ false) × (c ≡ false) × (d ≡ false)
four-fail false false false false none = (refl, refl, refl, refl)
four-fail true b c d none = absurd (never none)
four-fail false true c d none = absurd (never none)
four-fail false false true d none = absurd (never none)
four-fail false false false true none = absurd (never none)

all-fail : (a b c d : Bool) → a ≡ false → b ≡ false → c ≡ false → d ≡ false → (a || b || c || d) ≡ false
all-fail false false false false e f g h = refl
all-fail true b c d e f g h = absurd (never e)
all-fail false true c d e f g h = absurd (never f)
all-fail false false true d e f g h = absurd (never g)
all-fail false false false true e f g h = absurd (never h)

two-fail : (a b : Bool) → (a || b) ≡ false → (a ≡ false) × (b ≡ false)
two-fail false false none = (refl, refl)
two-fail true b none = absurd (never none)
two-fail false true none = absurd (never none)

both-fail : (a b : Bool) → a ≡ false → b ≡ false → (a || b) ≡ false
both-fail false false e f = refl
both-fail true b e f = absurd (never e)
both-fail false true e f = absurd (never f)

differs : (a b : ℤ) → a ≢ b → int_eq a b ≡ false
differs a b apart = by (int_eq a b) refl
  where
    by : (t : Bool) → int_eq a b ≡ t → t ≡ false
    by false e = refl
    by true e = absurd (apart (equal a b e))

module _ (whole window : Window) (inside : IsIn whole window) where
  point-not : (point : Point) → is_at_border window point ≡ false → IsWithin window point → is_at_border whole point ≡ false
  point-not point none within =
      let (a, b, c, d) = four-fail (int_eq point.x window.left) (int_eq point.x window.right) (int_eq point.y window.low) (int_eq point.y window.high) none in
      all-fail (int_eq point.x whole.left) (int_eq point.x whole.right) (int_eq point.y whole.low) (int_eq point.y whole.high)
      (differs point.x whole.left (λ same. unequal point.x window.left a (low same inside.left within.from_left)))
      (differs point.x whole.right (λ same. unequal point.x window.right b (high same inside.right within.upto_right)))
      (differs point.y whole.low (λ same. unequal point.y window.low c (low same inside.low within.from_low)))
      (differs point.y whole.high (λ same. unequal point.y window.high d (high same inside.high within.upto_high)))
    where
      low : {p w v : ℤ} → p ≡ w → w ≤ℤ v → v ≤ℤ p → p ≡ v
      low same upto from = omega (arith, ints, same, upto, from)

      high : {p w v : ℤ} → p ≡ w → v ≤ℤ w → p ≤ℤ v → p ≡ v
      high same upto from = omega (arith, ints, same, upto, from)

  ring-not : (ring : List Point) → list_any (is_at_border window) ring ≡ false → All (IsWithin window) ring → list_any (is_at_border whole) ring ≡ false
  ring-not [] none within = refl
  ring-not (point ∷ points) none within =
      let (first, others) = two-fail (is_at_border window point) (list_any (is_at_border window) points) none in
      both-fail (is_at_border whole point) (list_any (is_at_border whole) points)
      (point-not point first (All-head (IsWithin window) point points within)) (ring-not points others (All-tail (IsWithin window) point points within))

  polygon-not : (polygon : List (List Point)) → comes_to_border window polygon ≡ false → All (IsWithin window) (flat_map (λ ring. ring) polygon) → comes_to_border whole polygon ≡ false
  polygon-not [] none within = refl
  polygon-not (ring ∷ rings) none within =
      let (first, others) = two-fail (list_any (is_at_border window) ring) (comes_to_border window rings) none in
      both-fail (list_any (is_at_border whole) ring) (comes_to_border whole rings)
      (ring-not ring first (All-front (IsWithin window) ring (flat_map (λ (one : List Point). one) rings) within))
      (polygon-not rings others (All-behind (IsWithin window) ring (flat_map (λ (one : List Point). one) rings) within))

  polygons-not : (polygons : List (List (List Point))) → All (IsWithin window) (tile_points (window, polygons)) → at_border whole (filter (λ polygon. not (comes_to_border window polygon)) polygons) ≡ []
  polygons-not [] within = refl
  polygons-not (polygon ∷ polygons) within =
      let split = flat_map-append (λ (ring : List Point). ring) polygon (rings_of polygons) in
      let points = subst (All (IsWithin window)) split within in
      let here = flat_map (λ (ring : List Point). ring) polygon in
      by (filter (λ (one : List (List Point)). not (comes_to_border window one)) polygons) (comes_to_border window polygon) refl (All-front (IsWithin window) here (tile_points (window, polygons)) points)
      (polygons-not polygons (All-behind (IsWithin window) here (tile_points (window, polygons)) points))
    where
      by : (rest : List (List (List Point))) (t : Bool) → comes_to_border window polygon ≡ t → All (IsWithin window) (flat_map (λ ring. ring) polygon) → at_border whole rest ≡ []
          → at_border whole (cond (not t) (polygon ∷ rest) rest) ≡ []
      by rest true e points others = others
      by rest false e points others = ap (λ (t : Bool). cond t (polygon ∷ at_border whole rest) (at_border whole rest)) (polygon-not polygon e points) ∙ others

inner-not : (whole : Window) (tiles : List Tile) → All (λ tile. IsIn whole tile.0) tiles → All LiesWithin tiles → at_border whole (inner_of tiles) ≡ []
inner-not whole [] all within = refl
inner-not whole (tile ∷ tiles) all within =
    filter-append (comes_to_border whole) (filter (λ (polygon : List (List Point)). not (comes_to_border tile.0 polygon)) tile.1) (inner_of tiles)
    ∙ ap₂ (λ (some others : List (List (List Point))). some ++ others)
    (polygons-not whole tile.0 (All-head (λ (some : Tile). IsIn whole some.0) tile tiles all) tile.1 (All-head LiesWithin tile tiles within))
    (inner-not whole tiles (All-tail (λ (some : Tile). IsIn whole some.0) tile tiles all) (All-tail LiesWithin tile tiles within))

-- ---- what holds of all polygons holds of some

rings-filter : (P : List Point → Type 0) (test : List (List Point) → Bool) (polygons : List (List (List Point))) → All P (rings_of polygons) → All P (rings_of (filter test polygons))
rings-filter P test [] every = every
rings-filter P test (polygon ∷ polygons) every = by (test polygon) (All-front P polygon (rings_of polygons) every) (rings-filter P test polygons (All-behind P polygon (rings_of polygons) every))
  where
    by : (t : Bool) → All P polygon → All P (rings_of (filter test polygons)) → All P (rings_of (cond t (polygon ∷ filter test polygons) (filter test polygons)))
    by true here rest = All-append P polygon (rings_of (filter test polygons)) here rest
    by false here rest = rest

rings-inner : (P : List Point → Type 0) (tiles : List Tile) → All (λ tile. All P (rings_of tile.1)) tiles → All P (rings_of (inner_of tiles))
rings-inner P [] every = All-nil P
rings-inner P (tile ∷ tiles) every =
    let here = filter (λ (polygon : List (List Point)). not (comes_to_border tile.0 polygon)) tile.1 in
    subst (All P) (sym (flat_map-append (λ (polygon : List (List Point)). polygon) here (inner_of tiles)))
    (All-append P (rings_of here) (rings_of (inner_of tiles))
    (rings-filter P (λ (polygon : List (List Point)). not (comes_to_border tile.0 polygon)) tile.1 (All-head (λ (some : Tile). All P (rings_of some.1)) tile tiles every))
    (rings-inner P tiles (All-tail (λ (some : Tile). All P (rings_of some.1)) tile tiles every)))

polygons-inner : (P : List (List Point) → Type 0) (tiles : List Tile) → All (λ tile. All P tile.1) tiles → All P (inner_of tiles)
polygons-inner P [] every = All-nil P
polygons-inner P (tile ∷ tiles) every =
    let test = λ (polygon : List (List Point)). not (comes_to_border tile.0 polygon) in
    All-append P (filter test tile.1) (inner_of tiles)
    (All-filter test P tile.1 (All-head (λ (some : Tile). All P some.1) tile tiles every))
    (polygons-inner P tiles (All-tail (λ (some : Tile). All P some.1) tile tiles every))

-- ---- joined

module _ (tiles : List Tile) (united : List (List (List Point))) (is : IsOverlay Positive Union (polygon_edges (bordering_of tiles)) [] united)
    (apart : AllPairs (λ one other. AreApart one.0 other.0) tiles) (beside : AreAllBeside tiles) (within : All LiesWithin tiles)
    (once : AreParts tiles → (point : RationalPoint) → (winding (polygon_edges (bordering_of tiles)) point ≡ pos 0) ⊎ (winding (polygon_edges (bordering_of tiles)) point ≡ pos 1))
    (around : Window) (some : HasPoints around) (all_around : All (λ tile. IsIn around tile.0) tiles) where
  abbrev polygons : List (List (List Point))
  polygons = united ++ inner_of tiles

  joined-winds : AreParts tiles → (point : RationalPoint) → winding (polygon_edges polygons) point ≡ winding (polygon_edges (all_of tiles)) point
  joined-winds parts point =
      let sum = around-append point united (inner_of tiles) in
      let all = around-tiles point tiles in
      let same = unites (polygon_edges (bordering_of tiles)) united is (uncrossed-bordering tiles parts beside within around some all_around) point (once parts point) in
      omega (arith, ints, sum, all, same)

  module _ (parts : AreParts tiles) (whole : Window) (all : All (λ tile. IsIn whole tile.0) tiles) where
    -- those of its polygons that come to the border of a window around are united ones
    borders-united : at_border whole polygons ≡ at_border whole united
    borders-united =
        filter-append (comes_to_border whole) united (inner_of tiles)
        ∙ ap (λ (rest : List (List (List Point))). at_border whole united ++ rest) (inner-not whole tiles all within)
        ∙ append-nil (at_border whole united)

    among-united : (edge : Edge) → Contains (polygon_edges (at_border whole polygons)) edge → Contains (polygon_edges united ++ []) edge
    among-united edge held =
        Contains-append_left (polygon_edges united) [] edge
        (edges-filter (comes_to_border whole) united edge (subst (λ (some : List (List (List Point))). Contains (polygon_edges some) edge) borders-united held))

    uncrossed : (one other : Edge) (x y : ℤ) → Contains (polygon_edges (at_border whole polygons)) one → Contains (polygon_edges (at_border whole polygons)) other → ¬ (CrossBeside one other x y)
    uncrossed one other x y first second =
        none-cross Positive Union (polygon_edges (bordering_of tiles)) [] [] united is (λ edge (k, inside, at). absurd (omega (arith, inside))) one other x y (among-united one first) (among-united other second)

    -- what all rings have
    every-ring : (P : List Point → Type 0) → All P (rings_of united) → ((tile : Tile) → IsPart tile.0 tile.1 → All P (rings_of tile.1)) → All P (rings_of polygons)
    every-ring P first told =
        subst (All P) (sym (flat_map-append (λ (polygon : List (List Point)). polygon) united (inner_of tiles)))
        (All-append P (rings_of united) (rings_of (inner_of tiles)) first
        (rings-inner P tiles (All-weaker (λ (tile : Tile). IsPart tile.0 tile.1) (λ (tile : Tile). All P (rings_of tile.1)) told tiles parts)))

    -- no point out of the window around is in one of the others
    out-of-all : (point : RationalPoint) → ¬ (InWindow whole point) → All (λ tile. ¬ (InWindow tile.0 point)) tiles
    out-of-all point out = All-weaker (λ (tile : Tile). IsIn whole tile.0) (λ (tile : Tile). ¬ (InWindow tile.0 point)) (λ tile inside is. out (in-around whole tile.0 point inside is)) tiles all
      where
        in-around : (outer inner : Window) (at : RationalPoint) → IsIn outer inner → InWindow inner at → InWindow outer at
        in-around outer inner at inside is = record {
          from_left = trans (scaled at.n outer.left inner.left inside.left) is.from_left;
          before_right = trans_less is.before_right (scaled at.n inner.right outer.right inside.right);
          from_low = trans (scaled at.n outer.low inner.low inside.low) is.from_low;
          below_high = trans_less is.below_high (scaled at.n inner.high outer.high inside.high);
        }
          where
            trans : {a b c : ℤ} → a ≤ℤ b → b ≤ℤ c → a ≤ℤ c
            trans first second = omega (arith, ints, first, second)

            trans_less : {a b c : ℤ} → a <ℤ b → b ≤ℤ c → a <ℤ c
            trans_less first second = omega (arith, ints, first, second)

    joined-part : IsPart whole polygons
    joined-part = record {
      each = every-ring IsRing is.each (λ tile part. part.each);
      three_points = every-ring (λ ring. 3 ≤ length ring) is.three_points (λ tile part. part.three_points);
      directed = All-append IsPolygon united (inner_of tiles) is.directed
          (polygons-inner IsPolygon tiles (All-weaker (λ (tile : Tile). IsPart tile.0 tile.1) (λ (tile : Tile). All IsPolygon tile.1) (λ tile part. part.directed) tiles parts));
      areas = every-ring HasSignedArea is.areas (λ tile part. part.areas);
      once = λ point. ⊎_elim
          (λ none. inl (joined-winds parts point ∙ none))
          (λ one. inr (joined-winds parts point ∙ one))
          (around-once point tiles parts apart);
      outside = λ point out. joined-winds parts point ∙ around-none point tiles parts (out-of-all point out);
      uncrossed = uncrossed;
    }

  pub IsJoined-made : IsJoined tiles polygons
  IsJoined-made = record {
    united = united;
    are = refl;
    is = is;
    once = once;
    winds = joined-winds;
    part = joined-part;
  }
