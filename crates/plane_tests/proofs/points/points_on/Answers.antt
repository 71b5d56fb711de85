use Rattle.std.proofs.Common.{arith}
use Rattle.std.proofs.lemmas.Int.{ints, clamps}
use Rattle.plane.specs.declared.edge.Edge.{Edge}
use Rattle.plane.proofs.MeetLemmas.Boxes.{meet-in_boxes_across}
use Rattle.plane_tests.specs.declared.points.Dot.{Dot}
use Rattle.plane_tests.proofs.points.points_on.Goals as goal

-- a point is an edge, whose box is a single point
abbrev edge_of : Dot → Edge
edge_of dot = record { x0 = dot.x; y0 = dot.y; x1 = dot.x; y1 = dot.y }

pub pairs_with_points-requires-clause-boxed : goal.pairs_with_points-requires-clause-boxed
pairs_with_points-requires-clause-boxed g c = record {
  proper = meet-in_boxes_across.proper;
  other_proper = λ dot. meet-in_boxes_across.other_proper (edge_of dot);
  near = λ edge dot meet. meet-in_boxes_across.near edge (edge_of dot) meet;
}

pub pairs_with_points-requires-clause-points : goal.pairs_with_points-requires-clause-points
pairs_with_points-requires-clause-points g c = λ place dot inside. record { upright = omega (arith, ints, clamps); level = omega (arith, ints, clamps) }
