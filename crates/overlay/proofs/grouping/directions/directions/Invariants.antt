use Rattle.std.proofs.Common.{◌≡◌, map, take}
use Rattle.overlay.specs.Polygons.{is_counterclockwise}
use Rattle.overlay.specs.Rings.{rings_of}
use Rattle.overlay.proofs.grouping.directions.directions.Given as goal

-- what is told of the rings so far
abbrev pub invariant-loop-ring : goal.invariant-loop-ring
invariant-loop-ring g l = l.are_outer.items ≡ map is_counterclockwise (take l.ring (rings_of l.points 0 l.ends))
