use Rattle.std.proofs.Common.{pos}
use Rattle.plane.specs.declared.edge.Edge.{Edge}
use Rattle.noding.specs.declared.stops.Stop.{Stop}
use Rattle.noding.proofs.ColumnLemmas.Flags.{flags-more}
use Rattle.noding.proofs.columns.rounds.flag_beside.Goals as goal

pub loop-stop-preserved : goal.loop-stop-preserved
loop-stop-preserved g c =
    let none : Edge = record { x0 = pos 0; y0 = pos 0; x1 = pos 0; y1 = pos 0 } in
    let begin : Stop = record { place = 0; along_x = pos 0; along_y = pos 0 } in
    let stops = c.args.stops.now in
    let k = c.loop-stop.stop-index in
    let within = c.loop-stop-test.true in
    flags-more c.args.edges.now stops c.args.flags.now c.loop-stop.flags c.loop-stop.flagged.alone.items c.loop-stop.flagged.passed.items k c.loop-stop.invariant none begin
    c.flag_if_beside.new.flags c.flag_if_beside.new.flagged.alone.items c.flag_if_beside.new.flagged.passed.items within (c.requires.within k begin within) c.in_ok-flag_if_beside.ensures
