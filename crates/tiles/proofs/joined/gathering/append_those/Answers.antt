use Rattle.std.proofs.Common.{◌<◌, List, length, get_or, take, sym, subst, arith}
use Rattle.std.proofs.lemmas.List.{take_all}
use Rattle.plane.specs.declared.point.Point.{Point}
use Rattle.overlay.specs.Polygons.{AreAppended}
use Rattle.tiles.specs.Join.{Tile, no_tile, those, those_of, tiles_of}
use Rattle.tiles.proofs.JoinGiven.{those-tiles, tiles-size}
use Rattle.tiles.proofs.JoinLists.{AreAppended-more}
use Rattle.tiles.proofs.joined.gathering.append_those.Goals as goal

pub loop-at-preserved : goal.loop-at-preserved
loop-at-preserved g c =
    let tiles = tiles_of c.args.tiles in
    let at = c.loop-at.at in
    let out = c.args.out.now in
    let now = c.append_those_of.new.out in
    let size = tiles-size c.args.tiles c.requires in
    let inside : at < length tiles = (let test = c.loop-at-test.true in omega (arith, test, size)) in
    subst (λ (some : List (List (List Point))). AreAppended some out.points.items now.points.items out.ring_ends.items now.ring_ends.items out.polygon_ends.items now.polygon_ends.items)
    (sym (those-tiles c.args.bordering tiles at no_tile inside))
    (AreAppended-more (those c.args.bordering (take at tiles)) (those_of c.args.bordering (get_or tiles at no_tile)) _ _ _ _ _ _ _ _ _ c.loop-at.invariant c.in_ok-append_those_of.ensures.ok)

pub returns-clause-ok : goal.returns-clause-ok
returns-clause-ok g c =
    let tiles = tiles_of c.args.tiles in
    let out = c.args.out.now in
    let now = c.loop-at.out in
    let size = tiles-size c.args.tiles c.requires in
    let past = c.loop-at-test.false in
    subst (λ (some : List Tile). AreAppended (those c.args.bordering some) out.points.items now.points.items out.ring_ends.items now.ring_ends.items out.polygon_ends.items now.polygon_ends.items)
    (take_all c.loop-at.at tiles (omega (arith, past, size))) c.loop-at.invariant
