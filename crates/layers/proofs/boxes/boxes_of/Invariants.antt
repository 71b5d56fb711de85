use Rattle.layers.specs.Shapes.{shapes_of}
use Rattle.layers.proofs.BoxedLemmas.{AreBoxesUpto}
use Rattle.layers.proofs.boxes.boxes_of.Given as goal

-- the boxes of the shapes so far
abbrev pub invariant-loop-place : goal.invariant-loop-place
invariant-loop-place g l = AreBoxesUpto (shapes_of l.shapes) l.place l.boxes.items
