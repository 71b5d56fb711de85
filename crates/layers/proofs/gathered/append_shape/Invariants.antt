use Rattle.std.specs.List.{between}
use Rattle.layers.specs.Gathered.{AreGathered}
use Rattle.layers.specs.Shapes.{all_rings}
use Rattle.layers.proofs.gathered.append_shape.Given as goal

-- the rings of the shape so far are gathered
abbrev pub invariant-loop-ring : goal.invariant-loop-ring
invariant-loop-ring g l = AreGathered (between l.first l.ring (all_rings l.shapes)) l.fn.points.items l.points.items l.fn.ends.items l.ends.items
