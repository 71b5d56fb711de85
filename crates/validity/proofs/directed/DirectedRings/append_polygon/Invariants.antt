use Rattle.std.proofs.Common.{◌++◌, List}
use Rattle.std.specs.List.{between}
use Rattle.plane.specs.declared.point.Point.{Point}
use Rattle.noding.specs.Offsets.{AreJoined}
use Rattle.validity.specs.Given.{directed, rings_at}
use Rattle.validity.proofs.directed.DirectedRings.append_polygon.Given as goal

-- those of the rings before this one are appended
abbrev pub invariant-loop-ring : goal.invariant-loop-ring
invariant-loop-ring g l = (before : List (List Point)) → AreJoined before l.fn.self.points.items l.fn.self.ends.items → AreJoined (before ++ directed (between l.first l.ring (rings_at l.rings))) l.self.points.items l.self.ends.items
