use Rattle.std.proofs.Common.{pos, get_or}
use Rattle.plane.specs.declared.edge.Edge.{Edge}
use Rattle.noding.specs.Stops.{IsStopOfPair}
use Rattle.plane.proofs.GainsLemmas.{upto-all, upto-first, upto-next}
use Rattle.noding.proofs.ChainLemmas.Stops.{gains-of_pair}
use Rattle.noding.proofs.stops.push_stops_at_ends.Goals as goal

pub loop-pair-init : goal.loop-pair-init
loop-pair-init g c = upto-first (IsStopOfPair c.args.edges.now) c.args.edges.now c.args.edges.now c.args.pairs.now c.args.stops.now.items

pub loop-pair-preserved : goal.loop-pair-preserved
loop-pair-preserved g c =
    let edges = c.args.edges.now in
    let pairs = c.args.pairs.now in
    let k = c.loop-pair.pair-index in
    let none : Edge = record { x0 = pos 0; y0 = pos 0; x1 = pos 0; y1 = pos 0 } in
    let pair = get_or pairs k (0, 0) in
    upto-next (IsStopOfPair edges) edges edges pairs c.args.stops.now.items c.requires k none none c.loop-pair.stops.items c.push_ends_of-in-loop-pair.new.stops.items c.loop-pair-test.true c.loop-pair.invariant
    (λ first second. gains-of_pair edges pair (get_or edges pair.0 none) (get_or edges pair.1 none) c.loop-pair.stops.items c.push_ends_of.new.stops.items c.push_ends_of-in-loop-pair.new.stops.items first second
    c.in_ok-push_ends_of.ensures c.in_ok-push_ends_of-2.ensures)

pub returns : goal.returns
returns g c = upto-all (IsStopOfPair c.args.edges.now) c.args.edges.now c.args.edges.now c.args.pairs.now c.args.stops.now.items c.loop-pair.pair-index c.loop-pair.stops.items c.loop-pair-test.false c.loop-pair.invariant
