-- The polygons of tiles that come to a border, and the border of a window around: no two edges cross at a point with fractions.
use Rattle.std.proofs.Common.{◌≡◌, ◌⊎◌, inl, inr, zero, suc, Bool, true, false, cond, ℤ, List, [], ◌∷◌, ◌++◌, zip, ap, sym, subst, ◌∙◌, arith}
use Rattle.std.specs.List.{All, AllPairs, Contains, filter, flat_map}
use Rattle.std.proofs.lemmas.Int.{ints}
use Rattle.std.proofs.lemmas.List.Concat.{flat_map-append}
use Rattle.std.proofs.lemmas.List.Elements.{All-cons, All-contains, All-head, All-nil, All-tail, Contains-append_cases, Contains-append_left, Contains-append_right}
use Rattle.std.proofs.lemmas.List.Kept.{AllPairs-cons}
use Rattle.i_tree.proofs.RootLemmas.Lists.{AllPairs-head, AllPairs-tail, Contains-here, Contains-there}
use Rattle.plane.specs.declared.edge.Edge.{Edge}
use Rattle.plane.specs.declared.point.Point.{Point}
use Rattle.plane.specs.Ends.{end_of, start_of}
use Rattle.noding.specs.Local.{CrossBeside}
use Rattle.overlay.specs.Contours.Rings.{ring_edges}
use Rattle.overlay.specs.Overlay.{polygon_edges}
use Rattle.overlay.specs.Polygons.{rings_of}
use Rattle.overlay.proofs.GroupingLemmas.Edges.{ring-ends}
use Rattle.overlay.proofs.UncrossedLemmas.Axes.{axes-meet}
use Rattle.tiles.specs.Join.{AreBeside, AreParts, IsIn, LiesWithin, Tile, bordering_of, tile_points}
use Rattle.tiles.specs.Part.{IsPart, at_border, comes_to_border}
use Rattle.tiles.specs.Tile.{turned_border}
use Rattle.tiles.specs.Window.{HasPoints, IsWithin}
use Rattle.tiles.specs.declared.window.Window.{Window}
use Rattle.tiles.proofs.Border.{turned-along}
use Rattle.tiles.proofs.JoinSides.{EdgeWithin, beside-uncrossed, never-beside, uncrossed-exchanged}

-- ---- the edges of polygons

-- those of polygons behind others
pub edges-append : (polygons others : List (List (List Point))) → polygon_edges (polygons ++ others) ≡ polygon_edges polygons ++ polygon_edges others
edges-append polygons others =
    ap (λ (rings : List (List Point)). flat_map ring_edges rings) (flat_map-append (λ (polygon : List (List Point)). polygon) polygons others)
    ∙ flat_map-append ring_edges (rings_of polygons) (rings_of others)

-- an edge of a ring goes between points of it (`ring-ends`), and so do those of many
pub rings-ends : (rings : List (List Point)) (edge : Edge) → Contains (flat_map ring_edges rings) edge
    → Contains (flat_map (λ ring. ring) rings) (start_of edge) × Contains (flat_map (λ ring. ring) rings) (end_of edge)
rings-ends [] edge (k, within, is) = absurd (omega (arith, within))
rings-ends (ring ∷ rings) edge held =
    let behind = flat_map (λ (list : List Point). list) rings in
    elim (Contains-append_cases (ring_edges ring) (flat_map ring_edges rings) edge held) [
      | inl first ↦ let (start, end) = ring-ends ring edge first in (Contains-append_left ring behind (start_of edge) start, Contains-append_left ring behind (end_of edge) end)
      | inr later ↦ let (start, end) = rings-ends rings edge later in (Contains-append_right ring behind (start_of edge) start, Contains-append_right ring behind (end_of edge) end)
    ]

-- so an edge of polygons within a window lies within it
edge-within : (tile : Tile) (edge : Edge) → LiesWithin tile → Contains (polygon_edges tile.1) edge → EdgeWithin tile.0 edge
edge-within tile edge within held =
    let (start, end) = rings-ends (rings_of tile.1) edge held in record {
      start = All-contains (IsWithin tile.0) (tile_points tile) (start_of edge) within start;
      end = All-contains (IsWithin tile.0) (tile_points tile) (end_of edge) within end;
    }

-- edges of some of the polygons are edges of these
pub edges-filter : (test : List (List Point) → Bool) (polygons : List (List (List Point))) (edge : Edge) → Contains (polygon_edges (filter test polygons)) edge → Contains (polygon_edges polygons) edge
edges-filter test [] edge held = held
edges-filter test (polygon ∷ polygons) edge held =
    subst (λ (edges : List Edge). Contains edges edge) (sym (edges-append (polygon ∷ []) polygons)) (by (test polygon) (edges-filter test polygons edge) held)
  where
    by : (t : Bool) → (Contains (polygon_edges (filter test polygons)) edge → Contains (polygon_edges polygons) edge) → Contains (polygon_edges (cond t (polygon ∷ filter test polygons) (filter test polygons))) edge
        → Contains (polygon_edges (polygon ∷ []) ++ polygon_edges polygons) edge
    by false rest there = Contains-append_right (polygon_edges (polygon ∷ [])) (polygon_edges polygons) edge (rest there)
    by true rest there = elim (Contains-append_cases (polygon_edges (polygon ∷ [])) (polygon_edges (filter test polygons)) edge (subst (λ (edges : List Edge). Contains edges edge) (edges-append (polygon ∷ []) (filter test polygons)) there)) [
      | inl first ↦ Contains-append_left (polygon_edges (polygon ∷ [])) (polygon_edges polygons) edge first
      | inr later ↦ Contains-append_right (polygon_edges (polygon ∷ [])) (polygon_edges polygons) edge (rest later)
    ]

-- ---- the edges of tiles

-- one of polygons that come to a border is of those of some tile
in-tile : (tiles : List Tile) (edge : Edge) → Contains (polygon_edges (bordering_of tiles)) edge → (tile : Tile) × Contains tiles tile × Contains (polygon_edges (at_border tile.0 tile.1)) edge
in-tile [] edge (k, within, is) = absurd (omega (arith, within))
in-tile (tile ∷ tiles) edge held =
    elim (Contains-append_cases (polygon_edges (at_border tile.0 tile.1)) (polygon_edges (bordering_of tiles)) edge
    (subst (λ (edges : List Edge). Contains edges edge) (edges-append (at_border tile.0 tile.1) (bordering_of tiles)) held)) [
      | inl first ↦ (tile, Contains-here tile tiles, first)
      | inr later ↦ let (other, among, there) = in-tile tiles edge later in (other, Contains-there tile tiles other among, there)
    ]

bordering-within : (tiles : List Tile) (tile : Tile) (edge : Edge) → All LiesWithin tiles → Contains tiles tile → Contains (polygon_edges (at_border tile.0 tile.1)) edge → EdgeWithin tile.0 edge
bordering-within tiles tile edge within among held =
    edge-within tile edge (All-contains LiesWithin tiles tile within among) (edges-filter (comes_to_border tile.0) tile.1 edge held)

-- Tiles of which each is beside each other one.
abbrev pub AreAllBeside : List Tile → Type 0
AreAllBeside tiles = AllPairs (λ one other. AreBeside one.0 other.0) tiles

-- No two edges of polygons that come to a border cross at a point with fractions.
uncrossed-tiles : (tiles : List Tile) → AreParts tiles → AreAllBeside tiles → All LiesWithin tiles → (one other : Edge) (x y : ℤ)
    → Contains (polygon_edges (bordering_of tiles)) one → Contains (polygon_edges (bordering_of tiles)) other → ¬ (CrossBeside one other x y)
uncrossed-tiles [] parts beside within one other x y (k, inside, is) held_too = absurd (omega (arith, inside))
uncrossed-tiles (tile ∷ tiles) parts beside within one other x y held held_too =
    let here = at_border tile.0 tile.1 in
    let rest = bordering_of tiles in
    let split = edges-append here rest in
    by (uncrossed-tiles tiles (All-tail (λ (some : Tile). IsPart some.0 some.1) tile tiles parts) (AllPairs-tail (λ (a b : Tile). AreBeside a.0 b.0) tile tiles beside) (All-tail LiesWithin tile tiles within) one other x y)
    (Contains-append_cases (polygon_edges here) (polygon_edges rest) one (subst (λ (edges : List Edge). Contains edges one) split held))
    (Contains-append_cases (polygon_edges here) (polygon_edges rest) other (subst (λ (edges : List Edge). Contains edges other) split held_too))
  where
    Part : Tile → Type 0
    Part = λ some. IsPart some.0 some.1

    Pair : Tile → Tile → Type 0
    Pair = λ a b. AreBeside a.0 b.0

    own : (edge : Edge) → Contains (polygon_edges (at_border tile.0 tile.1)) edge → EdgeWithin tile.0 edge
    own edge at = bordering-within (tile ∷ tiles) tile edge within (Contains-here tile tiles) at

    by : (Contains (polygon_edges (bordering_of tiles)) one → Contains (polygon_edges (bordering_of tiles)) other → ¬ (CrossBeside one other x y))
        → Contains (polygon_edges (at_border tile.0 tile.1)) one ⊎ Contains (polygon_edges (bordering_of tiles)) one
        → Contains (polygon_edges (at_border tile.0 tile.1)) other ⊎ Contains (polygon_edges (bordering_of tiles)) other → ¬ (CrossBeside one other x y)
    by others (inl first) (inl second) = (All-head Part tile tiles parts).uncrossed one other x y first second
    by others (inl first) (inr second) =
        let (there, among, at) = in-tile tiles other second in
        beside-uncrossed tile.0 there.0 one other x y (All-contains (Pair tile) tiles there (AllPairs-head Pair tile tiles beside) among) (own one first)
        (bordering-within tiles there other (All-tail LiesWithin tile tiles within) among at)
    by others (inr first) (inl second) =
        let (there, among, at) = in-tile tiles one first in
        uncrossed-exchanged tile.0 there.0 other one x y (All-contains (Pair tile) tiles there (AllPairs-head Pair tile tiles beside) among) (own other second)
        (bordering-within tiles there one (All-tail LiesWithin tile tiles within) among at)
    by others (inr first) (inr second) = others first second

-- ---- and a border around

-- a side of a window lies in one beside it
pub side-beside : (whole : Window) (edge : Edge) → HasPoints whole → Contains (ring_edges (turned_border whole)) edge → (box : Window) × EdgeWithin box edge × AreBeside box whole
side-beside whole edge some (zero, _, is) =
    let tall = some.tall in
    let box : Window = record { left = whole.left; low = whole.low; right = whole.left; high = whole.high } in (
      box,
      subst (λ (e : Edge). EdgeWithin box e) is (record {
        start = record { from_left = omega (arith, ints); upto_right = omega (arith, ints); from_low = omega (arith, ints); upto_high = omega (arith, ints, tall) };
        end = record { from_left = omega (arith, ints); upto_right = omega (arith, ints); from_low = omega (arith, ints, tall); upto_high = omega (arith, ints) };
      }),
      inl (omega (arith, ints)),
    )
side-beside whole edge some (suc zero, _, is) =
    let wide = some.wide in
    let box : Window = record { left = whole.left; low = whole.high; right = whole.right; high = whole.high } in (
      box,
      subst (λ (e : Edge). EdgeWithin box e) is (record {
        start = record { from_left = omega (arith, ints); upto_right = omega (arith, ints, wide); from_low = omega (arith, ints); upto_high = omega (arith, ints) };
        end = record { from_left = omega (arith, ints, wide); upto_right = omega (arith, ints); from_low = omega (arith, ints); upto_high = omega (arith, ints) };
      }),
      inr (inr (inr (omega (arith, ints)))),
    )
side-beside whole edge some (suc (suc zero), _, is) =
    let tall = some.tall in
    let box : Window = record { left = whole.right; low = whole.low; right = whole.right; high = whole.high } in (
      box,
      subst (λ (e : Edge). EdgeWithin box e) is (record {
        start = record { from_left = omega (arith, ints); upto_right = omega (arith, ints); from_low = omega (arith, ints, tall); upto_high = omega (arith, ints) };
        end = record { from_left = omega (arith, ints); upto_right = omega (arith, ints); from_low = omega (arith, ints); upto_high = omega (arith, ints, tall) };
      }),
      inr (inl (omega (arith, ints))),
    )
side-beside whole edge some (suc (suc (suc zero)), _, is) =
    let wide = some.wide in
    let box : Window = record { left = whole.left; low = whole.low; right = whole.right; high = whole.low } in (
      box,
      subst (λ (e : Edge). EdgeWithin box e) is (record {
        start = record { from_left = omega (arith, ints, wide); upto_right = omega (arith, ints); from_low = omega (arith, ints); upto_high = omega (arith, ints) };
        end = record { from_left = omega (arith, ints); upto_right = omega (arith, ints, wide); from_low = omega (arith, ints); upto_high = omega (arith, ints) };
      }),
      inr (inr (inl (omega (arith, ints)))),
    )
side-beside whole edge some (suc (suc (suc (suc k))), within, is) = absurd (omega (arith, within))

-- an edge in a window lies in one around it
within-whole : (whole window : Window) (edge : Edge) → IsIn whole window → EdgeWithin window edge → EdgeWithin whole edge
within-whole whole window edge inside within =
    let left = inside.left in
    let low = inside.low in
    let right = inside.right in
    let high = inside.high in
    let a = within.start.from_left in
    let b = within.start.upto_right in
    let c = within.start.from_low in
    let d = within.start.upto_high in
    let e = within.end.from_left in
    let f = within.end.upto_right in
    let g = within.end.from_low in
    let h = within.end.upto_high in record {
      start = record { from_left = omega (arith, ints, left, a); upto_right = omega (arith, ints, right, b); from_low = omega (arith, ints, low, c); upto_high = omega (arith, ints, high, d) };
      end = record { from_left = omega (arith, ints, left, e); upto_right = omega (arith, ints, right, f); from_low = omega (arith, ints, low, g); upto_high = omega (arith, ints, high, h) };
    }

module _ (tiles : List Tile) (parts : AreParts tiles) (beside : AreAllBeside tiles) (within : All LiesWithin tiles) (whole : Window) (some : HasPoints whole) (all : All (λ tile. IsIn whole tile.0) tiles) where
  abbrev bordering : List Edge
  bordering = polygon_edges (bordering_of tiles)

  abbrev sides : List Edge
  sides = ring_edges (turned_border whole)

  -- each edge lies within the window around
  pub in-whole : (edge : Edge) → Contains bordering edge → EdgeWithin whole edge
  in-whole edge held =
      let (tile, among, at) = in-tile tiles edge held in
      within-whole whole tile.0 edge (All-contains (λ (some : Tile). IsIn whole some.0) tiles tile all among) (bordering-within tiles tile edge within among at)

  -- none of both cross at a point with fractions
  pub uncrossed-around : (one other : Edge) (x y : ℤ) → Contains (bordering ++ sides) one → Contains (bordering ++ sides) other → ¬ (CrossBeside one other x y)
  uncrossed-around one other x y held held_too = by (Contains-append_cases bordering sides one held) (Contains-append_cases bordering sides other held_too)
    where
      by : Contains bordering one ⊎ Contains sides one → Contains bordering other ⊎ Contains sides other → ¬ (CrossBeside one other x y)
      by (inl first) (inl second) = uncrossed-tiles tiles parts beside within one other x y first second
      by (inl first) (inr second) = let (box, boxed, aside) = side-beside whole other some second in uncrossed-exchanged box whole other one x y aside boxed (in-whole one first)
      by (inr first) (inl second) = let (box, boxed, aside) = side-beside whole one some first in beside-uncrossed box whole one other x y aside boxed (in-whole other second)
      by (inr first) (inr second) = never-beside one other x y (λ point of_one of_other. axes-meet one other point (turned-along whole one first) (turned-along whole other second) of_one of_other)

  pub uncrossed-bordering : (one other : Edge) (x y : ℤ) → Contains bordering one → Contains bordering other → ¬ (CrossBeside one other x y)
  uncrossed-bordering = uncrossed-tiles tiles parts beside within

-- ---- windows and tiles

-- what holds of the windows holds of their tiles
pub zip-all : (P : Window → Type 0) (windows : List Window) (lists : List (List (List (List Point)))) → All P windows → All (λ tile. P tile.0) (zip windows lists)
zip-all P [] lists every = All-nil _
zip-all P (window ∷ windows) [] every = All-nil _
zip-all P (window ∷ windows) (list ∷ lists) every = All-cons (λ (tile : Tile). P tile.0) (window, list) (zip windows lists) (All-head P window windows every) (zip-all P windows lists (All-tail P window windows every))

pub zip-pairs : (R : Window → Window → Type 0) (windows : List Window) (lists : List (List (List (List Point)))) → AllPairs R windows → AllPairs (λ one other. R one.0 other.0) (zip windows lists)
zip-pairs R [] lists every = λ i j d order within. absurd (omega (arith, within))
zip-pairs R (window ∷ windows) [] every = λ i j d order within. absurd (omega (arith, within))
zip-pairs R (window ∷ windows) (list ∷ lists) every =
    AllPairs-cons (λ (one other : Tile). R one.0 other.0) (window, list) (zip windows lists)
    (zip-all (R window) windows lists (AllPairs-head R window windows every)) (zip-pairs R windows lists (AllPairs-tail R window windows every))
