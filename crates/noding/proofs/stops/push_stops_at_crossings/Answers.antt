use Rattle.std.proofs.Common.{List, subst}
use Rattle.plane.specs.Gains.{GainsThese}
use Rattle.noding.specs.Stops.{IsStopAmong}
use Rattle.plane.specs.declared.point.Point.{Point}
use Rattle.noding.proofs.ChainLemmas.Asked.{gains-there}
use Rattle.noding.proofs.ChainLemmas.Crossed.{gains-along_axes, gains-at_crossings, gains-paired}
use Rattle.noding.proofs.ChainLemmas.Crossings.{AreCrossings-inside}
use Rattle.noding.proofs.stops.push_stops_at_crossings.Goals as goal

pub returns-then-run_along_axes-clause-ok : goal.returns-then-run_along_axes-clause-ok
returns-then-run_along_axes-clause-ok g c = λ pairs close crossed.
    let edges = c.args.edges.now in
    let before = c.args.stops.now.items in
    let after = c.push_stops_of_crossings.new.stops.items in
    gains-along_axes edges pairs close c.if-run_along_axes.ensures before after (gains-paired edges pairs c.args.crossings.now before after crossed c.in_ok-push_stops_of_crossings.ensures)

pub returns-then-saturating_mul-le-FEW_TESTS-clause-ok : goal.returns-then-saturating_mul-le-FEW_TESTS-clause-ok
returns-then-saturating_mul-le-FEW_TESTS-clause-ok g c = λ pairs close crossed.
    gains-there c.args.edges.now pairs c.args.crossings.now c.args.stops.now.items c.push_stops_at_few.new.stops.items crossed c.in_ok-push_stops_at_few.ensures

pub returns-clause-ok : goal.returns-clause-ok
returns-clause-ok g c = λ pairs close crossed.
    let edges = c.args.edges.now in
    let before = c.args.stops.now.items in
    let after = c.push_stops_at_points.new.stops.items in
    gains-at_crossings edges pairs c.in_ok-points.points.items before after (AreCrossings-inside edges pairs c.args.crossings.now crossed c.in_ok-points.points.items c.in_ok-points.ensures)
    (subst (λ (among : List Point). GainsThese (IsStopAmong edges among) before after) c.deref.ensures.value c.in_ok-push_stops_at_points.ensures.ok)
