use Rattle.std.proofs.Common.{MatchBool, subst}
use Rattle.plane.specs.Meet.Edges.{Meet}
use Rattle.plane.specs.declared.edge.Edge.{Edge}
use Rattle.plane_tests.proofs.points.EdgeMeetsDot.meets.Goals as goal

pub returns : goal.returns
returns c = subst (λ (edge : Edge). MatchBool c.meet.result (Meet c.args.self edge) (¬ (Meet c.args.self edge))) c.edge.ensures c.meet.ensures
