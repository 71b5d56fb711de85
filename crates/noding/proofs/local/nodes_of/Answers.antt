use Rattle.std.proofs.Common.{[], pos, sym, subst, List}
use Rattle.std.proofs.lemmas.List.{take_all}
use Rattle.plane.specs.declared.edge.Edge.{Edge}
use Rattle.noding.specs.Stops.{AreKept}
use Rattle.noding.specs.declared.stops.Stop.{Stop}
use Rattle.noding.proofs.ChainLemmas.Kept.{kept-more, kept-none}
use Rattle.noding.proofs.local.nodes_of.Goals as goal

pub loop-stop-init : goal.loop-stop-init
loop-stop-init g c = subst (AreKept c.args.edges.now c.args.moved.now []) (sym c.in_ok-nodes.ensures.items) (kept-none c.args.edges.now c.args.moved.now)

pub loop-stop-preserved : goal.loop-stop-preserved
loop-stop-preserved g c =
    let none : Edge = record { x0 = pos 0; y0 = pos 0; x1 = pos 0; y1 = pos 0 } in
    let no_stop : Stop = record { place = 0; along_x = pos 0; along_y = pos 0 } in
    let k = c.loop-stop.stop-index in
    kept-more c.args.edges.now c.args.stops.now k none no_stop c.loop-stop-test.true (c.requires.within k no_stop c.loop-stop-test.true) c.args.moved.now c.loop-stop.nodes.items c.push_if_kept.new.nodes.items
    c.requires.in_order c.loop-stop.invariant c.in_ok-push_if_kept.ensures

pub returns : goal.returns
returns g c =
    subst (λ (done : List Stop). AreKept c.args.edges.now c.args.moved.now done c.loop-stop.nodes.items) (take_all c.loop-stop.stop-index c.args.stops.now c.loop-stop-test.false) c.loop-stop.invariant
