use Rattle.std.proofs.Common.{[], pos, sym, subst, List}
use Rattle.std.proofs.lemmas.List.{take_all}
use Rattle.plane.specs.declared.edge.Edge.{Edge}
use Rattle.noding.specs.declared.stops.Stop.{Stop}
use Rattle.noding.proofs.ChainLemmas.Kept.{stops-within}
use Rattle.noding.proofs.ChainLemmas.Visits.{AreVisits-stops, AreVisitsOf, visits-more, visits-none}
use Rattle.noding.proofs.moved.visits_beside.Goals as goal

pub loop-stop-init : goal.loop-stop-init
loop-stop-init g c = subst (AreVisitsOf c.args.edges.now c.args.flags.now []) (sym c.new-visits.ensures.items) (visits-none c.args.edges.now c.args.flags.now)

pub loop-stop-preserved : goal.loop-stop-preserved
loop-stop-preserved g c =
    let none : Edge = record { x0 = pos 0; y0 = pos 0; x1 = pos 0; y1 = pos 0 } in
    let no_stop : Stop = record { place = 0; along_x = pos 0; along_y = pos 0 } in
    let k = c.loop-stop.stop-index in
    visits-more c.args.edges.now c.args.stops.now c.requires.stops k none no_stop c.loop-stop-test.true (stops-within c.args.edges.now c.args.stops.now c.requires.stops k no_stop c.loop-stop-test.true) c.args.flags.now
    c.loop-stop.visits.items c.push_unless_kept.new.visits.items c.loop-stop.invariant c.in_ok-push_unless_kept.ensures

pub returns : goal.returns
returns g c =
    AreVisits-stops c.args.edges.now c.args.flags.now c.args.stops.now c.loop-stop.visits.items c.requires.stops
    (subst (λ (done : List Stop). AreVisitsOf c.args.edges.now c.args.flags.now done c.loop-stop.visits.items) (take_all c.loop-stop.stop-index c.args.stops.now c.loop-stop-test.false) c.loop-stop.invariant)
