use Rattle.std.proofs.Common.{take}
use Rattle.overlay.specs.Polygons.{Appends}
use Rattle.tiles.specs.Join.{those, tiles_of}
use Rattle.tiles.proofs.joined.gathering.append_those.Given as goal

-- those of the tiles so far are appended
abbrev pub invariant-loop-at : goal.invariant-loop-at
invariant-loop-at g l = Appends (those l.bordering (take l.at (tiles_of l.tiles))) l.fn.out l.out
