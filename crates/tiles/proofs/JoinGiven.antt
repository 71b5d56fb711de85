-- Tiles as they are given in lists.
use Rattle.std.proofs.Common.{Bool, true, false, not, cond, ◌||◌, ◌≡◌, ℕ, suc, ◌+◌, ◌<◌, ◌≤◌, List, [], ◌∷◌, ◌++◌, get_or, length, take, zip, refl, ap, sym, subst, ◌∙◌, append-nil, arith}
use Rattle.std.specs.List.{between, filter, flat_map, list_any}
use Rattle.std.proofs.lemmas.List.{length-append, take_more}
use Rattle.std.proofs.lemmas.List.Concat.{flat_map-append}
use Rattle.std.proofs.lemmas.List.Elements.{filter-append}
use Rattle.std.proofs.lemmas.List.Folds.{list_any-append}
use Rattle.std.proofs.lemmas.Slice.Zip.{get_or-zip}
use Rattle.plane.specs.declared.point.Point.{Point}
use Rattle.noding.specs.Offsets.{offsets}
use Rattle.noding.proofs.Callers.{length-offsets}
use Rattle.overlay.specs.Polygons.{AreAppended}
use Rattle.overlay.specs.Rings.{AreEnds}
use Rattle.tiles.specs.Join.{HasTiles, Tile, all_rings, lists_of, no_tile, polygons_of, start_at, those, those_of, tile_points, tiles_of}
use Rattle.tiles.specs.Part.{comes_to_border, is_at_border}
use Rattle.tiles.specs.declared.joined.given.Tiles.{Tiles}
use Rattle.tiles.specs.declared.window.Window.{Window}
use Rattle.tiles.proofs.JoinLists.{AreAppended-more, AreGathered, between-more, joined-between, length-lists_of, lists_of-at}

-- as many pairs as items
zip-size : {X Y : Type 0} (xs : List X) (ys : List Y) → length ys ≡ length xs → length (zip xs ys) ≡ length xs
zip-size [] ys is = refl
zip-size (x ∷ xs) [] is = absurd (omega (arith, is))
zip-size (x ∷ xs) (y ∷ ys) is = ap suc (zip-size xs ys (omega (arith, is)))

module _ (tiles : Tiles) (has : HasTiles tiles) where
  -- as many tiles as windows
  pub tiles-size : length (tiles_of tiles) ≡ length tiles.windows.now
  tiles-size = zip-size tiles.windows.now (lists_of (polygons_of tiles) 0 tiles.tile_ends.now) (length-lists_of (polygons_of tiles) 0 tiles.tile_ends.now ∙ has.as_many)

  -- the polygons stop at the rings
  pub polygons-stop : AreEnds 0 tiles.polygon_ends.now (length (all_rings tiles.rings))
  polygons-stop = subst (AreEnds 0 tiles.polygon_ends.now) (sym (length-lists_of tiles.rings.points.now 0 tiles.rings.ends.now)) has.polygons.0

  module _ (at : ℕ) (inside : at < length tiles.windows.now) where
    first : ℕ
    first = start_at tiles.tile_ends.now at

    within : at < length tiles.tile_ends.now
    within = let many = has.as_many in omega (arith, inside, many)

    -- one tile
    pub tile-at : get_or (tiles_of tiles) at no_tile ≡ (get_or tiles.windows.now at no_tile.0, between (start_at tiles.tile_ends.now at) (get_or tiles.tile_ends.now at 0) (polygons_of tiles))
    tile-at =
        get_or-zip tiles.windows.now (lists_of (polygons_of tiles) 0 tiles.tile_ends.now) at no_tile inside
        (let size = length-lists_of (polygons_of tiles) 0 tiles.tile_ends.now in let there = within in omega (arith, size, there))
        ∙ ap (λ (polygons : List (List (List Point))). (let tile : Tile = (get_or tiles.windows.now at no_tile.0, polygons) in tile)) (lists_of-at (polygons_of tiles) 0 tiles.tile_ends.now at within)

    -- its points
    pub tile_points-at : start_at tiles.tile_ends.now at ≤ get_or tiles.tile_ends.now at 0 → get_or tiles.tile_ends.now at 0 ≤ length tiles.polygon_ends.now
        → tile_points (get_or (tiles_of tiles) at no_tile)
        ≡ flat_map (λ ring. ring) (between (start_at tiles.polygon_ends.now (start_at tiles.tile_ends.now at)) (start_at tiles.polygon_ends.now (get_or tiles.tile_ends.now at 0)) (all_rings tiles.rings))
    tile_points-at onwards upto =
        ap tile_points tile-at
        ∙ ap (λ (rings : List (List Point)). flat_map (λ ring. ring) rings)
        (joined-between (all_rings tiles.rings) 0 tiles.polygon_ends.now (start_at tiles.tile_ends.now at) (get_or tiles.tile_ends.now at 0) polygons-stop onwards upto).1

-- ---- those that come to a border, or the others

-- some point of some ring is some point of all rings
pub any-joined : (test : Point → Bool) (rings : List (List Point)) → list_any test (flat_map (λ ring. ring) rings) ≡ list_any (list_any test) rings
any-joined test [] = refl
any-joined test (ring ∷ rings) = list_any-append test ring (flat_map (λ (one : List Point). one) rings) ∙ ap (λ (rest : Bool). list_any test ring || rest) (any-joined test rings)

module _ (bordering : Bool) (window : Window) where
  abbrev pub wanted : List (List Point) → Bool
  wanted polygon = cond bordering (comes_to_border window polygon) (not (comes_to_border window polygon))

  -- one polygon more
  pub those-next : (polygons : List (List (List Point))) (start place : ℕ) → start ≤ place → place < length polygons
      → those_of bordering (window, between start (place + 1) polygons) ≡ those_of bordering (window, between start place polygons) ++ cond (wanted (get_or polygons place [])) (get_or polygons place [] ∷ []) []
  those-next polygons start place onwards within =
      ap (λ (some : List (List (List Point))). filter wanted some) (between-more polygons start place [] onwards within)
      ∙ filter-append wanted (between start place polygons) (get_or polygons place [] ∷ [])

  -- whether it is wanted, by its points
  pub wanted-is : (polygon : List (List Point)) (points : List Point) (result : Bool) → points ≡ flat_map (λ ring. ring) polygon
      → result ≡ cond bordering (list_any (is_at_border window) points) (not (list_any (is_at_border window) points)) → wanted polygon ≡ result
  wanted-is polygon points result are is =
      ap (λ (comes : Bool). cond bordering comes (not comes)) (sym (any-joined (is_at_border window) polygon) ∙ sym (ap (list_any (is_at_border window)) are)) ∙ sym is

-- ---- polygons that are appended

-- one polygon
pub AreAppended-one : (polygon : List (List Point)) (points points' : List Point) (ring_ends ring_ends' polygon_ends polygon_ends' : List ℕ) (end : ℕ) → AreGathered polygon points points' ring_ends ring_ends'
    → polygon_ends' ≡ polygon_ends ++ end ∷ [] → end ≡ length ring_ends' → AreAppended (polygon ∷ []) points points' ring_ends ring_ends' polygon_ends polygon_ends'
AreAppended-one polygon points points' ring_ends ring_ends' polygon_ends polygon_ends' end gathered is at =
    let size = length-append ring_ends (offsets (length points) polygon) in
    let told = length-offsets (length points) polygon in
    let all = ap (λ (ends : List ℕ). length ends) gathered.ends_are in
    record {
      points_are = gathered.items_are ∙ ap (λ (rings : List (List Point)). points ++ flat_map (λ ring. ring) rings) (sym (append-nil polygon));
      rings_are = gathered.ends_are ∙ ap (λ (rings : List (List Point)). ring_ends ++ offsets (length points) rings) (sym (append-nil polygon));
      polygons_are = is ∙ ap (λ (n : ℕ). polygon_ends ++ n ∷ []) (let same : end ≡ length ring_ends + length polygon = omega (arith, at, all, size, told) in same);
    }

module _ (bordering : Bool) (window : Window) (polygons : List (List (List Point))) (start place : ℕ) (onwards : start ≤ place) (within : place < length polygons)
    (points points' : List Point) (ring_ends ring_ends' polygon_ends polygon_ends' : List ℕ)
    (so_far : AreAppended (those_of bordering (window, between start place polygons)) points points' ring_ends ring_ends' polygon_ends polygon_ends') where
  abbrev all : List (List (List Point))
  all = those_of bordering (window, between start place polygons)

  abbrev one : List (List Point)
  one = get_or polygons place []

  grown : (result : Bool) → wanted bordering window one ≡ result → those_of bordering (window, between start (place + 1) polygons) ≡ all ++ cond result (one ∷ []) []
  grown result is = those-next bordering window polygons start place onwards within ∙ ap (λ (t : Bool). all ++ cond t (one ∷ []) []) is

  -- a polygon that is wanted is appended
  pub those-more : (points'' : List Point) (ring_ends'' polygon_ends'' : List ℕ) → wanted bordering window one ≡ true → AreAppended (one ∷ []) points' points'' ring_ends' ring_ends'' polygon_ends' polygon_ends''
      → AreAppended (those_of bordering (window, between start (place + 1) polygons)) points points'' ring_ends ring_ends'' polygon_ends polygon_ends''
  those-more points'' ring_ends'' polygon_ends'' is more =
      subst (λ (some : List (List (List Point))). AreAppended some points points'' ring_ends ring_ends'' polygon_ends polygon_ends'') (sym (grown true is))
      (AreAppended-more all (one ∷ []) points points' points'' ring_ends ring_ends' ring_ends'' polygon_ends polygon_ends' polygon_ends'' so_far more)

  -- and another one is left out
  pub those-same : wanted bordering window one ≡ false → AreAppended (those_of bordering (window, between start (place + 1) polygons)) points points' ring_ends ring_ends' polygon_ends polygon_ends'
  those-same is =
      subst (λ (some : List (List (List Point))). AreAppended some points points' ring_ends ring_ends' polygon_ends polygon_ends') (sym (grown false is ∙ append-nil all)) so_far

-- those of one tile more
pub those-tiles : (bordering : Bool) (tiles : List Tile) (at : ℕ) (d : Tile) → at < length tiles → those bordering (take (at + 1) tiles) ≡ those bordering (take at tiles) ++ those_of bordering (get_or tiles at d)
those-tiles bordering tiles at d within =
    ap (λ (some : List Tile). those bordering some) (take_more tiles at d within)
    ∙ flat_map-append (those_of bordering) (take at tiles) (get_or tiles at d ∷ [])
    ∙ ap (λ (some : List (List (List Point))). those bordering (take at tiles) ++ some) (append-nil (those_of bordering (get_or tiles at d)))
