use Rattle.std.proofs.Common.{map, take}
use Rattle.noding.specs.Offsets.{AreJoined}
use Rattle.overlay.specs.Polygons.{rings_of}
use Rattle.validity.specs.Given.{directed, polygons_of}
use Rattle.validity.proofs.directed.directed_rings.Given as goal

-- those of the polygons before this one are there
abbrev pub invariant-loop-polygon : goal.invariant-loop-polygon
invariant-loop-polygon g l = AreJoined (rings_of (map directed (take l.polygon (polygons_of l.set)))) l.all.points.items l.all.ends.items
