use Rattle.std.proofs.Common.{pos, subst}
use Rattle.std.proofs.lemmas.List.{take_all}
use Rattle.std.proofs.lemmas.List.Elements.{All-more}
use Rattle.std.specs.List.{All}
use Rattle.std.proofs.Common.{List}
use Rattle.plane.specs.declared.edge.Edge.{Edge}
use Rattle.overlay_tests.specs.Walks.{MeetAtEndsAlone}
use Rattle.overlay_tests.proofs.walks.meets_each.Goals as goal

pub loop-other-preserved : goal.loop-other-preserved
loop-other-preserved c =
    let none : Edge = record { x0 = pos 0; y0 = pos 0; x1 = pos 0; y1 = pos 0 } in
    All-more (MeetAtEndsAlone c.args.edge) c.args.others.now c.loop-other.other-index none c.loop-other-test.true c.loop-other.invariant
    (c.meet_at_ends.ensures c.if-not-meet_at_ends.false)

pub returns : goal.returns
returns c _ = subst (λ (list : List Edge). All (MeetAtEndsAlone c.args.edge) list) (take_all c.loop-other.other-index c.args.others.now c.loop-other-test.false) c.loop-other.invariant
