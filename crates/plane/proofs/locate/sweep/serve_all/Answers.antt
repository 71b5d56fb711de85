use Rattle.std.proofs.Common.{rules, subst, arith}
use Rattle.std.proofs.lemmas.List.{take_all}
use Rattle.std.proofs.lemmas.Result.{err_from_is_err_and}
use Rattle.plane.proofs.LocateLemmas.Payloads.{ends_requires, ends_onwards, ends_live_onwards, ends_order, ends_crossing, Swept-ends, begins_sorted, begins_last, begins_onwards, begins_crossing, Swept-begins, asks_requires, asks_inside, Swept-asks}
use Rattle.plane.proofs.LocateLemmas.Room.{HoldsBegun-joins, HoldsBegun-nothing, HoldsBegun-without, one_more, room_at_begin}
use Rattle.plane.proofs.LocateLemmas.Swept.{Swept, Swept-nothing, none_cross, all_answered}
use Rattle.plane.specs.SweepLine.Active.{IsExpiredAt}
use Rattle.plane.proofs.locate.sweep.serve_all.Goals as goal
use Rattle.plane.proofs.locate.sweep.serve_all.Goals.{in-Ends+in_ok-end-in-Ends, in-Begins+in_ok-begin-in-Begins, in-Asks}

pub loop-next-init : goal.loop-next-init
loop-next-init g c = (
  Swept-nothing c.args.edges.now c.args.points.now (g.C.StatusCollection.stored c.args.status.now) c.args.answers.now c.requires.empty c.requires.room,
  rw c.new-read_ahead.ensures (λ i d within. absurd (omega (arith, within))),
  HoldsBegun-nothing (g.C.StatusCollection.stored c.args.status.now) c.requires.empty,
  omega arith,
)

pub end-requires-clause-monotone : goal.end-requires-clause-monotone
end-requires-clause-monotone g c =
    ends_requires c.args.edges.now c.args.points.now c.args.events.now c.requires.queue c.loop-next.next c.loop-next-test.true (g.C.StatusCollection.stored c.loop-next.status) c.loop-next.answers
    c.loop-next.invariant.0 c.in_ok-payload.payload c.in_ok-payload.ensures.value c.in-Ends.active c.in-Ends.is

pub end-requires-clause-right : goal.end-requires-clause-right
end-requires-clause-right g c =
    ends_onwards c.args.edges.now c.args.points.now c.args.events.now c.requires.queue c.loop-next.next c.loop-next-test.true (g.C.StatusCollection.stored c.loop-next.status) c.loop-next.answers
    c.loop-next.invariant.0 c.in_ok-payload.payload c.in_ok-payload.ensures.value c.in-Ends.active c.in-Ends.is

pub end-requires-clause-all_right : goal.end-requires-clause-all_right
end-requires-clause-all_right g c =
    ends_live_onwards c.args.edges.now c.args.points.now c.args.events.now c.requires.queue c.loop-next.next c.loop-next-test.true (g.C.StatusCollection.stored c.loop-next.status) c.loop-next.answers
    c.loop-next.invariant.0 c.in_ok-payload.payload c.in_ok-payload.ensures.value c.in-Ends.active c.in-Ends.is

pub end-requires-clause-order : goal.end-requires-clause-order
end-requires-clause-order g c =
    ends_order c.args.edges.now c.args.points.now c.args.events.now c.requires.queue c.loop-next.next c.loop-next-test.true (g.C.StatusCollection.stored c.loop-next.status) c.loop-next.answers
    c.loop-next.invariant.0 c.in_ok-payload.payload c.in_ok-payload.ensures.value c.in-Ends.active c.in-Ends.is

pub returns-in_err-end-in-Ends-clause-crossing : goal.returns-in_err-end-in-Ends-clause-crossing
returns-in_err-end-in-Ends-clause-crossing g c i j told =
    let (fault, was, given) = err_from_is_err_and c.from_residual-in_err-end-in-Ends.result c.from_residual-in_err-end-in-Ends.ensures.1 in
    let have = (c.in_err-end-in-Ends.ensures).crossing i j cc in
    ends_crossing c.args.edges.now c.args.points.now c.args.events.now c.requires.queue c.loop-next.next c.loop-next-test.true (g.C.StatusCollection.stored c.loop-next.status) c.loop-next.answers
    c.loop-next.invariant.0 c.in_ok-payload.payload c.in_ok-payload.ensures.value c.in-Ends.active c.in-Ends.is i j have

pub begin-requires-clause-sorted : goal.begin-requires-clause-sorted
begin-requires-clause-sorted g c =
    begins_sorted c.args.edges.now c.args.points.now c.args.events.now c.requires.queue c.loop-next.next c.loop-next-test.true (g.C.StatusCollection.stored c.loop-next.status) c.loop-next.answers
    c.loop-next.invariant.0 c.in_ok-payload.payload c.in_ok-payload.ensures.value c.in-Begins.active c.in-Begins.is

pub begin-requires-clause-last : goal.begin-requires-clause-last
begin-requires-clause-last g c =
    begins_last c.args.edges.now c.args.points.now c.args.events.now c.requires.queue c.loop-next.next c.loop-next-test.true (g.C.StatusCollection.stored c.loop-next.status) c.loop-next.answers
    c.loop-next.invariant.0 c.in_ok-payload.payload c.in_ok-payload.ensures.value c.in-Begins.active c.in-Begins.is

pub begin-requires-clause-right : goal.begin-requires-clause-right
begin-requires-clause-right g c =
    begins_onwards c.args.edges.now c.args.points.now c.args.events.now c.requires.queue c.loop-next.next c.loop-next-test.true (g.C.StatusCollection.stored c.loop-next.status) c.loop-next.answers
    c.loop-next.invariant.0 c.in_ok-payload.payload c.in_ok-payload.ensures.value c.in-Begins.active c.in-Begins.is

pub returns-in_err-begin-in-Begins-clause-crossing : goal.returns-in_err-begin-in-Begins-clause-crossing
returns-in_err-begin-in-Begins-clause-crossing g c i j told =
    let (fault, was, given) = err_from_is_err_and c.from_residual-in_err-begin-in-Begins.result c.from_residual-in_err-begin-in-Begins.ensures.1 in
    let have = (c.in_err-begin-in-Begins.ensures).crossing i j cc in
    begins_crossing c.args.edges.now c.args.points.now c.args.events.now c.requires.queue c.loop-next.next c.loop-next-test.true (g.C.StatusCollection.stored c.loop-next.status) c.loop-next.answers
    c.loop-next.invariant.0 c.in_ok-payload.payload c.in_ok-payload.ensures.value c.in-Begins.active c.in-Begins.is i j have

pub returns-in_err-begin-in-Begins-clause-refused : goal.returns-in_err-begin-in-Begins-clause-refused
returns-in_err-begin-in-Begins-clause-refused g c enough cause told =
    let (fault, was, given) = err_from_is_err_and c.from_residual-in_err-begin-in-Begins.result c.from_residual-in_err-begin-in-Begins.ensures.1 in
    let inside = room_at_begin c.args.edges.now c.args.points.now c.args.events.now c.requires.queue c.loop-next.next c.loop-next-test.true (g.C.StatusCollection.stored c.loop-next.status) c.loop-next.invariant.2
    c.in_ok-payload.payload c.in_ok-payload.ensures.value c.in-Begins.active c.in-Begins.is (g.C.StatusCollection.room c.loop-next.status) (omega (arith, enough, c.loop-next.invariant.3)) in
    absurd ((c.in_err-begin-in-Begins.ensures).with_room inside cause cc)

pub returns-in_err-begin-in-Begins-clause-handles : goal.returns-in_err-begin-in-Begins-clause-handles
returns-in_err-begin-in-Begins-clause-handles g c has cause told =
    let (fault, was, given) = err_from_is_err_and c.from_residual-in_err-begin-in-Begins.result c.from_residual-in_err-begin-in-Begins.ensures.1 in
    let most = one_more c.args.edges.now c.args.points.now c.args.events.now c.requires.queue c.loop-next.next c.loop-next-test.true (g.C.StatusCollection.stored c.loop-next.status) c.loop-next.invariant.2
    c.in_ok-payload.payload c.in_ok-payload.ensures.value c.in-Begins.active c.in-Begins.is in
    (c.in_err-begin-in-Begins.ensures).handles (has _ most) cause cc

pub place_below-requires : goal.place_below-requires
place_below-requires g c =
    asks_requires c.args.edges.now c.args.points.now c.args.events.now c.requires.queue c.loop-next.next c.loop-next-test.true (g.C.StatusCollection.stored c.loop-next.status) c.loop-next.answers
    c.loop-next.invariant.0 c.in_ok-payload.payload c.in_ok-payload.ensures.value c.in-Asks.place c.in-Asks.point c.in-Asks.is

pub bounds-answers-place : goal.bounds-answers-place
bounds-answers-place g c =
    asks_inside c.args.edges.now c.args.points.now c.args.events.now c.requires.queue c.loop-next.next c.loop-next-test.true (g.C.StatusCollection.stored c.loop-next.status) c.loop-next.answers
    c.loop-next.invariant.0 c.in_ok-payload.payload c.in_ok-payload.ensures.value c.in-Asks.place c.in-Asks.point c.in-Asks.is

pub offset_bounds-answers-place : goal.offset_bounds-answers-place
offset_bounds-answers-place g c =
    let inside =
    asks_inside c.args.edges.now c.args.points.now c.args.events.now c.requires.queue c.loop-next.next c.loop-next-test.true (g.C.StatusCollection.stored c.loop-next.status) c.loop-next.answers
    c.loop-next.invariant.0 c.in_ok-payload.payload c.in_ok-payload.ensures.value c.in-Asks.place c.in-Asks.point c.in-Asks.is in
    search rules

pub loop-next-preserved : goal.loop-next-preserved
loop-next-preserved g c =
    let edges = c.args.edges.now in
    let points = c.args.points.now in
    let events = c.args.events.now in
    let stored = g.C.StatusCollection.stored in
    elim c.match-payload.branch [
      | in-Ends+in_ok-end-in-Ends w ↦
          let ok = (w.in_ok-end-in-Ends.ensures).ok in
          rw (w.status-is, w.answers-is) (
            Swept-ends edges points events c.requires.queue c.loop-next.next c.loop-next-test.true (stored c.loop-next.status) c.loop-next.answers c.loop-next.invariant.0 c.in_ok-payload.payload c.in_ok-payload.ensures.value
                w.in-Ends.active w.in-Ends.is (stored w.end.new.status) ok.0 ok.1 ok.2 (w.in_ok-end-in-Ends.ensures).kept,
            c.in_ok-payload.ensures.ahead,
            HoldsBegun-without edges points events c.requires.queue c.loop-next.next c.loop-next-test.true (stored c.loop-next.status) c.loop-next.invariant.2 c.in_ok-payload.payload c.in_ok-payload.ensures.value (IsExpiredAt w.in-Ends.active.edge.x1) (stored w.end.new.status) (w.in_ok-end-in-Ends.ensures).kept,
            (let more = (w.in_ok-end-in-Ends.ensures).room in omega (arith, more, c.loop-next.invariant.3)),
          )
      | in-Begins+in_ok-begin-in-Begins w ↦
          let ok = (w.in_ok-begin-in-Begins.ensures).ok in
          rw (w.status-is, w.answers-is) (
            Swept-begins edges points events c.requires.queue c.loop-next.next c.loop-next-test.true (stored c.loop-next.status) c.loop-next.answers c.loop-next.invariant.0 c.in_ok-payload.payload c.in_ok-payload.ensures.value
                w.in-Begins.active w.in-Begins.is (stored w.begin.new.status) ok.0 ok.1 ok.2 ok.3 ok.4,
            c.in_ok-payload.ensures.ahead,
            HoldsBegun-joins edges points events c.requires.queue c.loop-next.next c.loop-next-test.true (stored c.loop-next.status) c.loop-next.invariant.2 c.in_ok-payload.payload c.in_ok-payload.ensures.value w.in-Begins.active w.in-Begins.is (stored w.begin.new.status) ok.4,
            (let more = (w.in_ok-begin-in-Begins.ensures).room in omega (arith, more, c.loop-next.invariant.3)),
          )
      | in-Asks w ↦
          rw (w.status-is, w.answers-is) (
            Swept-asks edges points events c.requires.queue c.loop-next.next c.loop-next-test.true (stored c.loop-next.status) c.loop-next.answers c.loop-next.invariant.0 c.in_ok-payload.payload c.in_ok-payload.ensures.value
                w.in-Asks.place w.in-Asks.point w.in-Asks.is (stored w.place_below.new.status) w.place_below.result w.place_below.ensures.value w.place_below.ensures.kept,
            c.in_ok-payload.ensures.ahead,
            HoldsBegun-without edges points events c.requires.queue c.loop-next.next c.loop-next-test.true (stored c.loop-next.status) c.loop-next.invariant.2 c.in_ok-payload.payload c.in_ok-payload.ensures.value (IsExpiredAt w.in-Asks.point.x) (stored w.place_below.new.status) w.place_below.ensures.kept,
            (let more = w.place_below.ensures.room in omega (arith, more, c.loop-next.invariant.3)),
          )
    ]

pub returns-clause-ok : goal.returns-clause-ok
returns-clause-ok g c =
    let events = c.args.events.now in
    let stored = g.C.StatusCollection.stored c.loop-next.status in
    let swept = subst (λ done. Swept c.args.edges.now c.args.points.now done stored c.loop-next.answers) (take_all c.loop-next.next events c.loop-next-test.false) c.loop-next.invariant.0 in (
      none_cross c.args.edges.now c.args.points.now events c.requires.queue stored c.loop-next.answers swept,
      all_answered c.args.edges.now c.args.points.now events c.requires.queue stored c.loop-next.answers swept,
    )
