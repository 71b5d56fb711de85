use Rattle.std.proofs.Common.{pos}
use Rattle.plane.specs.declared.edge.Edge.{Edge}
use Rattle.noding.proofs.ColumnLemmas.Pairs.{asked-all, asked-more, asked-none}
use Rattle.noding.proofs.columns.crossings.uprights_of.Goals as goal

pub loop-place-init : goal.loop-place-init
loop-place-init g c = asked-none c.args.edges.now c.new.result.items c.new-2.result.items c.new.ensures.items c.new-2.ensures.items

pub loop-place-preserved : goal.loop-place-preserved
loop-place-preserved g c =
    let none : Edge = record { x0 = pos 0; y0 = pos 0; x1 = pos 0; y1 = pos 0 } in
    asked-more c.args.edges.now c.loop-place.place none c.loop-place.uprights.places.items c.loop-place.uprights.asked.items c.loop-place-test.true c.loop-place.invariant
    c.push_if_upright.new.uprights.places.items c.push_if_upright.new.uprights.asked.items c.in_ok-push_if_upright.ensures

pub returns : goal.returns
returns g c = asked-all c.args.edges.now c.loop-place.place c.loop-place.uprights.places.items c.loop-place.uprights.asked.items c.loop-place-test.false c.loop-place.invariant
