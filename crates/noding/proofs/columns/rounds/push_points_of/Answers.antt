use Rattle.std.proofs.Common.{get_or, pos}
use Rattle.std.proofs.lemmas.Option.{slice_get-get_or}
use Rattle.plane.specs.declared.edge.Edge.{Edge}
use Rattle.noding.specs.Columns.Rounds.{IsPointOfStop}
use Rattle.noding.specs.declared.stops.Stop.{Stop}
use Rattle.plane.proofs.GainsLemmas.{gains-all, gains-next}
use Rattle.noding.proofs.ColumnLemmas.Flags.{gains-point_of}
use Rattle.noding.proofs.columns.rounds.push_points_of.Goals as goal

pub loop-stop-preserved : goal.loop-stop-preserved
loop-stop-preserved g c =
    let edges = c.args.edges.now in
    let stops = c.args.stops.now in
    let k = c.loop-stop.stop-index in
    let now = c.loop-stop.points.items in
    let none : Edge = record { x0 = pos 0; y0 = pos 0; x1 = pos 0; y1 = pos 0 } in
    let begin : Stop = record { place = 0; along_x = pos 0; along_y = pos 0 } in
    let stop = get_or stops k begin in
    let within = c.loop-stop-test.true in
    let edge = get_or edges stop.place none in
    gains-next (IsPointOfStop edges) stops k begin c.args.points.now.items now c.push.new.self.items within c.loop-stop.invariant
    (gains-point_of edges stop edge now c.push.new.self.items c.point_of.result (slice_get-get_or edges stop.place none (c.requires k begin within)) c.point_of.ensures c.in_ok-push.ensures.items)

pub returns : goal.returns
returns g c = gains-all (IsPointOfStop c.args.edges.now) c.args.stops.now c.loop-stop.stop-index c.args.points.now.items c.loop-stop.points.items c.loop-stop-test.false c.loop-stop.invariant
