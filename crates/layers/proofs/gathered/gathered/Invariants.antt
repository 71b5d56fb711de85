use Rattle.std.proofs.Common.{[], take}
use Rattle.layers.specs.Gathered.{AreGathered}
use Rattle.layers.specs.Shapes.{rings_at}
use Rattle.layers.proofs.gathered.gathered.Given as goal

-- the rings of the shapes so far are gathered
abbrev pub invariant-loop-place : goal.invariant-loop-place
invariant-loop-place g l = AreGathered (rings_at l.group.shapes (take l.place-index l.group.places.now)) [] l.points.items [] l.ends.items
