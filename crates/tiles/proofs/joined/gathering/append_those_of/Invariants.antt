use Rattle.std.specs.List.{between}
use Rattle.overlay.specs.Polygons.{Appends}
use Rattle.tiles.specs.Join.{polygons_of, those_of}
use Rattle.tiles.proofs.joined.gathering.append_those_of.Given as goal

-- those of the polygons so far are appended
abbrev pub invariant-loop-polygon : goal.invariant-loop-polygon
invariant-loop-polygon g l = Appends (those_of l.bordering (l.window, between l.start l.polygon (polygons_of l.tiles))) l.fn.out l.out
