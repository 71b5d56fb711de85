use Rattle.std.proofs.Common.{◌++◌, length, subst, arith}
use Rattle.plane.specs.declared.point.Point.{Point}
use Rattle.plane.specs.Gains.{GainsThese}
use Rattle.plane.proofs.GainsLemmas.{gains-all, gains-next, gains-none}
use Rattle.noding.specs.Beside.{IsStopAtOther, LiesFarAbove}
use Rattle.noding.specs.Stops.{IsStopAlong}
use Rattle.noding.proofs.ChainLemmas.Passed.{gains-rest, no-stop, none-behind, none-first}
use Rattle.noding.proofs.beside.push_stops_passed.Goals as goal

pub loop-index-init : goal.loop-index-init
loop-index-init g c = λ known among.
    let place = c.args.place in
    let edge = c.args.edge in
    let other = c.args.other in
    let others = c.args.others.now in
    let first = c.first_beside-index.result in
    gains-none _ (known ++ c.args.beside.now.items)
    (none-first (IsStopAtOther place edge other) others first c.first_beside-index.ensures.within
    (λ j d below stop. no-stop place edge c.line_under-line.result other c.line_under-line.ensures.is others 0 first j d c.first_beside-index.ensures.before (omega arith) below stop))

pub loop-index-preserved : goal.loop-index-preserved
loop-index-preserved g c = λ known among.
    let place = c.args.place in
    let edge = c.args.edge in
    let other = c.args.other in
    let others = c.args.others.now in
    let k = c.loop-index.index in
    let now = known ++ c.loop-index.beside.items in
    let after = known ++ c.push_unless_known.new.beside.items in
    gains-next (IsStopAtOther place edge other) others k _ (known ++ c.args.beside.now.items) now after c.loop-index-test.true (c.loop-index.invariant known among)
    (subst (λ (p : Point). GainsThese (IsStopAlong place edge p.x p.y) now after) c.point_of-point.ensures (c.in_ok-push_unless_known.ensures known among))

pub returns-then-lies_far_above : goal.returns-then-lies_far_above
returns-then-lies_far_above g c = λ known among.
    let place = c.args.place in
    let edge = c.args.edge in
    let other = c.args.other in
    let others = c.args.others.now in
    let line = c.line_under-line.result in
    let k = c.loop-index.index in
    let more = c.loop-index-test.true in
    let above = subst (LiesFarAbove line) c.point_of-point.ensures (c.lies_far_above.ensures c.if-lies_far_above.true) in
    gains-rest (IsStopAtOther place edge other) others k (omega (arith, more)) (known ++ c.args.beside.now.items) (known ++ c.loop-index.beside.items)
    (λ j d from within stop. no-stop place edge line other c.line_under-line.ensures.is others k (length others) j d (none-behind line other others c.requires c.line_under-line.ensures.rises k _ more above) from within stop)
    (c.loop-index.invariant known among)

pub returns : goal.returns
returns g c = λ known among.
    gains-all (IsStopAtOther c.args.place c.args.edge c.args.other) c.args.others.now c.loop-index.index (known ++ c.args.beside.now.items) (known ++ c.loop-index.beside.items) c.loop-index-test.false
    (c.loop-index.invariant known among)
