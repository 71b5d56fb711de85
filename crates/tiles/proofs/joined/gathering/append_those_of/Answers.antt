use Rattle.std.proofs.Common.{◌≡◌, [], ◌∙◌, ◌<◌, ◌≤◌, ℕ, List, length, get_or, ap, ap₂, sym, subst, arith}
use Rattle.std.specs.List.{between, flat_map}
use Rattle.plane.specs.declared.point.Point.{Point}
use Rattle.overlay.specs.Polygons.{AreAppended}
use Rattle.tiles.specs.Join.{all_rings, no_tile, polygons_of, start_at, those_of}
use Rattle.tiles.proofs.JoinGiven.{those-more, those-same, tile-at, wanted-is}
use Rattle.tiles.proofs.JoinLists.{length-lists_of, lists_of-at}
use Rattle.tiles.proofs.joined.gathering.append_those_of.Goals as goal
use Rattle.tiles.proofs.joined.gathering.append_those_of.Goals.{then-is_wanted+in_ok-append_polygon, else-is_wanted}

pub loop-polygon-preserved : goal.loop-polygon-preserved
loop-polygon-preserved g c =
    let tiles = c.args.tiles in
    let rings = all_rings tiles.rings in
    let polygons = polygons_of tiles in
    let window = get_or tiles.windows.now c.args.at no_tile.0 in
    let start = c.range_at-start.result.0 in
    let place = c.loop-polygon.polygon in
    let out = c.args.out.now in
    let (onwards, inside) = c.range_at-start.ensures.within (length tiles.polygon_ends.now) c.requires.tiles.tiles_are.0 in
    let size = length-lists_of rings 0 tiles.polygon_ends.now in
    let within : place < length tiles.polygon_ends.now = omega arith in
    let here : get_or polygons place [] ≡ between c.range_at-first.result.0 c.range_at-first.result.1 rings =
    lists_of-at rings 0 tiles.polygon_ends.now place within ∙ sym (ap₂ (λ (i j : ℕ). between i j rings) c.range_at-first.ensures.start c.range_at-first.ensures.end) in
    let wanted = wanted-is c.args.bordering window (get_or polygons place []) c.points_between-points.result.now c.is_wanted.result
    (c.points_between-points.ensures ∙ ap (λ (some : List (List Point)). flat_map (λ ring. ring) some) (sym here)) c.is_wanted.ensures in
    let low : start ≤ place = omega arith in
    let inner : place < length polygons = omega (arith, size, within) in
    elim c.if-is_wanted.branch [
      | then-is_wanted+in_ok-append_polygon w ↦
          rw w.out-is (those-more c.args.bordering window polygons start place low inner _ _ _ _ _ _ c.loop-polygon.invariant _ _ _ (wanted ∙ w.if-is_wanted.true)
          (rw here w.in_ok-append_polygon.ensures.ok))
      | else-is_wanted w ↦ rw w.out-is (those-same c.args.bordering window polygons start place low inner _ _ _ _ _ _ c.loop-polygon.invariant (wanted ∙ w.if-is_wanted.false))
    ]

pub returns-clause-ok : goal.returns-clause-ok
returns-clause-ok g c =
    let tiles = c.args.tiles in
    let out = c.args.out.now in
    let now = c.loop-polygon.out in
    let window = get_or tiles.windows.now c.args.at no_tile.0 in
    let (onwards, inside) = c.range_at-start.ensures.within (length tiles.polygon_ends.now) c.requires.tiles.tiles_are.0 in
    let last : c.loop-polygon.polygon ≡ c.range_at-start.result.1 = omega arith in
    let tile = tile-at tiles c.requires.tiles c.args.at c.requires.at in
    let same : between c.range_at-start.result.0 c.loop-polygon.polygon (polygons_of tiles) ≡ between (start_at tiles.tile_ends.now c.args.at) (get_or tiles.tile_ends.now c.args.at 0) (polygons_of tiles) =
    ap₂ (λ (i j : ℕ). between i j (polygons_of tiles)) c.range_at-start.ensures.start (last ∙ c.range_at-start.ensures.end) in
    subst (λ (some : List (List (List Point))). AreAppended some out.points.items now.points.items out.ring_ends.items now.ring_ends.items out.polygon_ends.items now.polygon_ends.items)
    (ap (λ (some : List (List (List Point))). those_of c.args.bordering (window, some)) same ∙ sym (ap (those_of c.args.bordering) tile)) c.loop-polygon.invariant
