use Rattle.std.proofs.Common.{take}
use Rattle.std.specs.List.{All}
use Rattle.tiles.specs.Join.{LiesWithin, tiles_of}
use Rattle.tiles.proofs.joined.checks.lie_within.Given as goal

-- the points of the tiles so far lie within
abbrev pub invariant-loop-at : goal.invariant-loop-at
invariant-loop-at l = All LiesWithin (take l.at (tiles_of l.tiles))
