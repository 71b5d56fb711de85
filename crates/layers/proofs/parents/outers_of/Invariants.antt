use Rattle.std.proofs.Common.{take}
use Rattle.layers.specs.Parents.{AreOuters}
use Rattle.layers.specs.Shapes.{shapes_of}
use Rattle.layers.proofs.parents.outers_of.Given as goal

-- the outer rings of the polygons so far
abbrev pub invariant-loop-place : goal.invariant-loop-place
invariant-loop-place g l = AreOuters (take l.place (shapes_of l.fn.polygons)) l.outers.points.items l.outers.ring_ends.items l.outers.shape_ends.items l.outers.middles.items
