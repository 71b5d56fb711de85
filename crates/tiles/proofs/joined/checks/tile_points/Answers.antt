use Rattle.std.proofs.Common.{ℕ, length, ap, ap₂, sym, ◌∙◌, arith}
use Rattle.std.specs.List.{between, flat_map}
use Rattle.tiles.specs.Join.{all_rings, start_at}
use Rattle.tiles.proofs.JoinGiven.{polygons-stop, tile_points-at}
use Rattle.tiles.proofs.JoinLists.{AreEnds-upto, joined-between}
use Rattle.tiles.proofs.joined.checks.tile_points.Goals as goal

pub points_between-requires-clause-onwards : goal.points_between-requires-clause-onwards
points_between-requires-clause-onwards c =
    let tiles = c.args.tiles in
    let (onwards, inside) = c.range_at-first.ensures.within (length tiles.polygon_ends.now) c.requires.tiles.tiles_are.0 in
    let (upto, are) = joined-between (all_rings tiles.rings) 0 tiles.polygon_ends.now c.range_at-first.result.0 c.range_at-first.result.1 (polygons-stop tiles c.requires.tiles) onwards inside in
    let a = c.start_at.ensures in
    let b = c.start_at-2.ensures in
    omega (arith, upto, a, b)

pub points_between-requires-clause-within : goal.points_between-requires-clause-within
points_between-requires-clause-within c =
    let tiles = c.args.tiles in
    let (onwards, inside) = c.range_at-first.ensures.within (length tiles.polygon_ends.now) c.requires.tiles.tiles_are.0 in
    let last = AreEnds-upto 0 tiles.polygon_ends.now (length tiles.rings.ends.now) c.range_at-first.result.1 c.requires.tiles.polygons.0 (omega arith) inside in
    let b = c.start_at-2.ensures in
    omega (arith, last, b)

pub returns : goal.returns
returns c =
    let tiles = c.args.tiles in
    let (onwards, inside) = c.range_at-first.ensures.within (length tiles.polygon_ends.now) c.requires.tiles.tiles_are.0 in
    let start = c.range_at-first.ensures.start in
    let end = c.range_at-first.ensures.end in
    c.points_between.ensures
    ∙ ap₂ (λ (i j : ℕ). flat_map (λ ring. ring) (between i j (all_rings tiles.rings)))
    (c.start_at.ensures ∙ ap (λ (n : ℕ). start_at tiles.polygon_ends.now n) start) (c.start_at-2.ensures ∙ ap (λ (n : ℕ). start_at tiles.polygon_ends.now n) end)
    ∙ sym (tile_points-at tiles c.requires.tiles c.args.at c.requires.at (omega (arith, onwards, start, end)) (omega (arith, inside, end)))
