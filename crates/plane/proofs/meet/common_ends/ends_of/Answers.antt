use Rattle.std.proofs.Common.{pos}
use Rattle.plane.specs.declared.edge.Edge.{Edge}
use Rattle.plane.proofs.MeetingLemmas.CommonEnds.{AreTogether-sorted, ends-all, ends-next, ends-none}
use Rattle.plane.proofs.meet.common_ends.ends_of.Goals as goal

pub loop-place-init : goal.loop-place-init
loop-place-init g c = ends-none c.args.edges.now c.new-ends.result.items c.new-ends.ensures.items

pub loop-place-preserved : goal.loop-place-preserved
loop-place-preserved g c =
    let none : Edge = record { x0 = pos 0; y0 = pos 0; x1 = pos 0; y1 = pos 0 } in
    ends-next c.args.edges.now c.loop-place.place none c.loop-place.ends.items c.push_ends.new.ends.items c.loop-place-test.true c.loop-place.invariant c.in_ok-push_ends.ensures

pub returns-clause-are : goal.returns-clause-are
returns-clause-are g c = ends-all c.args.edges.now c.loop-place.place c.loop-place.ends.items c.sort_unstable.new.self.items c.loop-place-test.false c.loop-place.invariant c.sort_unstable.ensures.permutation

pub returns-clause-together : goal.returns-clause-together
returns-clause-together g c = AreTogether-sorted c.sort_unstable.new.self.items c.sort_unstable.ensures.sorted
