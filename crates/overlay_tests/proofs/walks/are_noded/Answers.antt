use Rattle.std.proofs.Common.{List, pos, subst}
use Rattle.std.proofs.lemmas.List.{take_all}
use Rattle.std.proofs.lemmas.List.Elements.{All-contains, All-more}
use Rattle.std.specs.List.{All}
use Rattle.plane.specs.declared.edge.Edge.{Edge}
use Rattle.overlay_tests.specs.Walks.{MeetAtEndsAlone}
use Rattle.overlay_tests.proofs.walks.are_noded.Goals as goal

pub loop-edge-preserved : goal.loop-edge-preserved
loop-edge-preserved c =
    let none : Edge = record { x0 = pos 0; y0 = pos 0; x1 = pos 0; y1 = pos 0 } in
    All-more (λ (edge : Edge). All (MeetAtEndsAlone edge) c.args.edges.now) c.args.edges.now c.loop-edge.edge-index none c.loop-edge-test.true c.loop-edge.invariant
    (c.meets_each.ensures c.if-not-meets_each.false)

pub returns : goal.returns
returns c _ one other point first second =
    let edges = c.args.edges.now in
    let all = subst (λ (list : List Edge). All (λ (edge : Edge). All (MeetAtEndsAlone edge) edges) list) (take_all c.loop-edge.edge-index edges c.loop-edge-test.false) c.loop-edge.invariant in
    All-contains (MeetAtEndsAlone one) edges other (All-contains (λ (edge : Edge). All (MeetAtEndsAlone edge) edges) edges one all first) second point
