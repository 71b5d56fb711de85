use Rattle.std.proofs.Common.{List, length, subst, arith}
use Rattle.plane.specs.declared.meet.common_ends.EndAt.{EndAt}
use Rattle.plane.specs.Gains.{GainsThese}
use Rattle.plane.specs.Meet.Columns.{IsAlike}
use Rattle.plane.proofs.MeetingLemmas.CommonEnds.{HaveAllAlike-ends, alike-within, each-next, each-none}
use Rattle.plane.proofs.meet.common_ends.pairs_at_common_ends.Goals as goal

pub loop-first-init : goal.loop-first-init
loop-first-init g c = each-none c.in_ok-ends.ends.items c.new-pairs.result.items c.new-pairs.ensures.items

pub loop-first-preserved : goal.loop-first-preserved
loop-first-preserved g c =
    let ends = c.in_ok-ends.ends.items in
    let now = c.loop-first.pairs.items in
    let after = c.append_alike.new.pairs.items in
    each-next ends c.loop-first.first now after c.loop-first.invariant (subst (λ (list : List EndAt). GainsThese (IsAlike list c.loop-first.first (length list)) now after) c.deref.ensures.value c.in_ok-append_alike.ensures)

pub returns-clause-ok : goal.returns-clause-ok
returns-clause-ok g c =
    let count = c.len-first-end.ensures in
    let past = c.loop-first-test.false in
    HaveAllAlike-ends c.args.edges.now c.in_ok-ends.ends.items c.loop-first.first c.loop-first.pairs.items c.in_ok-ends.ensures.are (omega (arith, count, past)) c.loop-first.invariant

pub returns-clause-within : goal.returns-clause-within
returns-clause-within g c = alike-within c.args.edges.now c.in_ok-ends.ends.items c.loop-first.first c.loop-first.pairs.items c.in_ok-ends.ensures.are c.loop-first.invariant
