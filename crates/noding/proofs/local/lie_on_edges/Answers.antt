use Rattle.std.proofs.Common.{pos, get_or, subst, Bool}
use Rattle.std.specs.Bool.{MatchBool}
use Rattle.std.specs.List.{All}
use Rattle.std.proofs.lemmas.List.{take_all}
use Rattle.plane.specs.declared.edge.Edge.{Edge}
use Rattle.noding.specs.Stops.{LiesOn, LiesOnItsEdge}
use Rattle.noding.specs.declared.stops.Stop.{Stop}
use Rattle.noding.proofs.ChainLemmas.Kept.{on-fails, on-more}
use Rattle.noding.proofs.local.lie_on_edges.Goals as goal

pub loop-stop-preserved : goal.loop-stop-preserved
loop-stop-preserved c =
    let none : Edge = record { x0 = pos 0; y0 = pos 0; x1 = pos 0; y1 = pos 0 } in
    let no_stop : Stop = record { place = 0; along_x = pos 0; along_y = pos 0 } in
    let k = c.loop-stop.stop-index in
    let stop = get_or c.args.stops.now k no_stop in
    let on = LiesOn (get_or c.args.edges.now stop.place none) stop in
    on-more c.args.edges.now c.args.stops.now k none no_stop c.loop-stop-test.true (c.requires k no_stop c.loop-stop-test.true) c.loop-stop.invariant
    (subst (λ (b : Bool). MatchBool b on (¬ on)) c.if-not-lies_on.false c.lies_on.ensures)

pub returns-then-not-lies_on : goal.returns-then-not-lies_on
returns-then-not-lies_on c =
    let none : Edge = record { x0 = pos 0; y0 = pos 0; x1 = pos 0; y1 = pos 0 } in
    let no_stop : Stop = record { place = 0; along_x = pos 0; along_y = pos 0 } in
    let k = c.loop-stop.stop-index in
    let stop = get_or c.args.stops.now k no_stop in
    let on = LiesOn (get_or c.args.edges.now stop.place none) stop in
    on-fails c.args.edges.now c.args.stops.now k none no_stop c.loop-stop-test.true (c.requires k no_stop c.loop-stop-test.true)
    (subst (λ (b : Bool). MatchBool b on (¬ on)) c.if-not-lies_on.true c.lies_on.ensures)

pub returns : goal.returns
returns c = subst (All (LiesOnItsEdge c.args.edges.now)) (take_all c.loop-stop.stop-index c.args.stops.now c.loop-stop-test.false) c.loop-stop.invariant
