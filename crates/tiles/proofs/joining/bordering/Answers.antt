use Rattle.overlay.specs.Polygons.{rings_of}
use Rattle.overlay.proofs.Callers.{AreAppended-first, AreJoined-appended}
use Rattle.tiles.specs.Join.{IsIn, bordering_of, lists_of, polygons_of, tiles_of}
use Rattle.tiles.proofs.JoinUncrossed.{zip-all}
use Rattle.tiles.proofs.joining.bordering.Goals as goal

pub returns-clause-ok : goal.returns-clause-ok
returns-clause-ok g c =
    let tiles = c.args.tiles in
    let whole = c.around.result in
    let some = bordering_of (tiles_of tiles) in
    let joined = AreJoined-appended some _ _ _ (AreAppended-first some _ _ _ _ _ _ c.in_ok-append_those.ensures.ok c.new-found.ensures.points c.new-found.ensures.ring_ends c.new-found.ensures.polygon_ends) in (
      whole,
      c.around.ensures.some,
      zip-all (IsIn whole) tiles.windows.now (lists_of (polygons_of tiles) 0 tiles.tile_ends.now) c.around.ensures.all,
      c.in_ok-append_turned_border.ensures (rings_of some) joined,
    )
