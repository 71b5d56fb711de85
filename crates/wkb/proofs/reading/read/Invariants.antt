use Rattle.std.proofs.Common.{ℕ, List, [], ◌-◌, length}
use Rattle.plane.specs.declared.point.Point.{Point}
use Rattle.wkb.specs.Reading.{AppendsShapes}
use Rattle.wkb.proofs.reading.read.Given as goal

abbrev pub invariant-loop-shape : goal.invariant-loop-shape
invariant-loop-shape g l = (points : List Point) (ends shape_ends : List ℕ) → AppendsShapes l.grid l.most_nested l.bytes l.offsets (length l.offsets - 1 - l.shape) l.shape l.shapes.points.items points l.shapes.ring_ends.items ends l.shapes.shape_ends.items shape_ends
    → AppendsShapes l.grid l.most_nested l.bytes l.offsets (length l.offsets - 1) 0 [] points [] ends [] shape_ends
