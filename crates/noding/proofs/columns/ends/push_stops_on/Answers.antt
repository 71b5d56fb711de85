use Rattle.std.proofs.Common.{pos, get_or}
use Rattle.plane.specs.declared.edge.Edge.{Edge}
use Rattle.plane.specs.declared.point.Point.{Point}
use Rattle.noding.specs.Columns.Ends.{IsStopHeldAt}
use Rattle.plane.proofs.GainsLemmas.{upto-all, upto-first, upto-next}
use Rattle.noding.proofs.ColumnLemmas.Ends.{gains-held}
use Rattle.noding.proofs.columns.ends.push_stops_on.Goals as goal

pub loop-pair-init : goal.loop-pair-init
loop-pair-init g c = upto-first (IsStopHeldAt c.args.edges.now c.args.points.now) c.args.edges.now c.args.points.now c.args.pairs.now c.args.stops.now.items

pub loop-pair-preserved : goal.loop-pair-preserved
loop-pair-preserved g c =
    let edges = c.args.edges.now in
    let points = c.args.points.now in
    let pairs = c.args.pairs.now in
    let k = c.loop-pair.pair-index in
    let now = c.loop-pair.stops.items in
    let after = c.push_if_held.new.stops.items in
    let none : Edge = record { x0 = pos 0; y0 = pos 0; x1 = pos 0; y1 = pos 0 } in
    let origin : Point = record { x = pos 0; y = pos 0 } in
    let pair = get_or pairs k (0, 0) in
    upto-next (IsStopHeldAt edges points) edges points pairs c.args.stops.now.items c.requires k none origin now after c.loop-pair-test.true c.loop-pair.invariant
    (λ first second. gains-held edges points pair (get_or edges pair.0 none) (get_or points pair.1 origin) now after first second c.in_ok-push_if_held.ensures)

pub returns : goal.returns
returns g c =
    upto-all (IsStopHeldAt c.args.edges.now c.args.points.now) c.args.edges.now c.args.points.now c.args.pairs.now c.args.stops.now.items
    c.loop-pair.pair-index c.loop-pair.stops.items c.loop-pair-test.false c.loop-pair.invariant
