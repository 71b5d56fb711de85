use Rattle.std.proofs.Common.{None, sym, subst, arith, rules}
use Rattle.std.proofs.lemmas.List.{get_or_default, take_all}
use Rattle.std.proofs.lemmas.Result.{err_from_is_err_and}
use Rattle.horizontal.specs.Events.{answering_of}
use Rattle.horizontal.specs.Heights.{IsFirstOverlap}
use Rattle.event_queue.proofs.QueueLemmas.Answers.{Answered-none, Answered-all}
use Rattle.horizontal.proofs.SweepLemmas.Begun.{is_answering, never_ends, segment_inside, point_inside, none_collide}
use Rattle.horizontal.proofs.SweepLemmas.Events.{Served, Served-begun, Served-overlap, Served-answered}
use Rattle.horizontal.proofs.SweepLemmas.Room.{HoldsBegun-gains, HoldsBegun-nothing, HoldsBegun-without, most_at_begin}
use Rattle.horizontal.proofs.SweepLemmas.Status.{Holds-nothing}
use Rattle.horizontal.proofs.serve_all.Goals as goal
use Rattle.horizontal.proofs.serve_all.Goals.{in-End, in-Begin+in_ok-begin-in-Begin, in-Answer}

pub loop-event-init : goal.loop-event-init
loop-event-init g c = (
  record {
    holds = Holds-nothing c.args.segments.now (g.C.KeyExpCollection.stored c.args.store.now) c.requires.empty;
    free = λ placed stands begun. absurd (omega (arith, begun.1));
    answered = Answered-none _ None c.args.points.now c.args.answers.now c.requires.room;
  },
  HoldsBegun-nothing (g.C.KeyExpCollection.stored c.args.store.now) c.requires.empty,
)

pub bounds-segments-event : goal.bounds-segments-event
bounds-segments-event g c = segment_inside c.args.segments.now c.args.points.now c.args.events.now c.requires.queue c.loop-event.event-index _ c.loop-event-test.true c.in-Begin.is

pub offset_bounds-segments-event : goal.offset_bounds-segments-event
offset_bounds-segments-event g c =
    let inside = segment_inside c.args.segments.now c.args.points.now c.args.events.now c.requires.queue c.loop-event.event-index _ c.loop-event-test.true c.in-Begin.is in search rules

pub bounds-points-event : goal.bounds-points-event
bounds-points-event g c = point_inside c.args.segments.now c.args.points.now c.args.events.now c.requires.queue c.loop-event.event-index _ c.loop-event-test.true c.in-Answer.is

pub offset_bounds-points-event : goal.offset_bounds-points-event
offset_bounds-points-event g c =
    let inside = point_inside c.args.segments.now c.args.points.now c.args.events.now c.requires.queue c.loop-event.event-index _ c.loop-event-test.true c.in-Answer.is in search rules

pub bounds-answers-event : goal.bounds-answers-event
bounds-answers-event g c =
    let inside = point_inside c.args.segments.now c.args.points.now c.args.events.now c.requires.queue c.loop-event.event-index _ c.loop-event-test.true c.in-Answer.is in omega (arith, inside, c.loop-event.invariant.0.answered.room)

pub offset_bounds-answers-event : goal.offset_bounds-answers-event
offset_bounds-answers-event g c =
    let inside = point_inside c.args.segments.now c.args.points.now c.args.events.now c.requires.queue c.loop-event.event-index _ c.loop-event-test.true c.in-Answer.is in search rules

pub returns-in_err-begin-in-Begin-clause-overlap : goal.returns-in_err-begin-in-Begin-clause-overlap
returns-in_err-begin-in-Begin-clause-overlap g c = λ place told.
    let events = c.args.events.now in
    let inside = c.loop-event-test.true in
    let (fault, was, given) = err_from_is_err_and c.from_residual.result c.from_residual.ensures.1 in
    let overlap = (c.in_err-begin-in-Begin.ensures).overlap place cc in
    subst (IsFirstOverlap c.args.segments.now) (sym overlap.0)
    (Served-overlap c.args.segments.now c.args.points.now events c.requires.queue c.loop-event.event-index _ inside (get_or_default events c.loop-event.event-index _ _ inside)
    (g.C.KeyExpCollection.stored c.loop-event.store) c.loop-event.answers c.loop-event.invariant.0 _ c.in-Begin.is overlap.1)

pub returns-in_err-begin-in-Begin-clause-refused : goal.returns-in_err-begin-in-Begin-clause-refused
returns-in_err-begin-in-Begin-clause-refused g c has cause told =
    let events = c.args.events.now in
    let inside = c.loop-event-test.true in
    let (fault, was, given) = err_from_is_err_and c.from_residual.result c.from_residual.ensures.1 in
    let most = most_at_begin c.args.segments.now c.args.points.now events c.requires.queue c.loop-event.event-index _ inside (get_or_default events c.loop-event.event-index _ _ inside)
    (g.C.KeyExpCollection.stored c.loop-event.store) c.loop-event.invariant.1 c.in-Begin.is in
    (c.in_err-begin-in-Begin.ensures).refused (has _ most) cause cc

pub loop-event-preserved : goal.loop-event-preserved
loop-event-preserved g c =
    let segments = c.args.segments.now in
    let points = c.args.points.now in
    let events = c.args.events.now in
    let k = c.loop-event.event-index in
    let inside = c.loop-event-test.true in
    let stored = g.C.KeyExpCollection.stored in
    elim c.match-event.branch [
      | in-End w ↦ absurd (never_ends segments points events c.requires.queue k _ inside (get_or_default events k _ _ inside) w.in-End.is)
      | in-Begin+in_ok-begin-in-Begin w ↦
          let ok = (w.in_ok-begin-in-Begin.ensures).ok in
          rw (w.store-is, w.answers-is) (
            Served-begun segments points events c.requires.queue k _ inside (get_or_default events k _ _ inside) (stored c.loop-event.store) c.loop-event.answers c.loop-event.invariant.0 (stored w.begin.new.store) _ w.in-Begin.is ok.0 ok.1,
            HoldsBegun-gains segments points events c.requires.queue k _ inside (get_or_default events k _ _ inside) (stored c.loop-event.store) c.loop-event.invariant.1 w.in-Begin.is _ _ (stored w.begin.new.store) ok.1,
          )
      | in-Answer w ↦
          rw (w.store-is, w.answers-is) (
            Served-answered segments points events c.requires.queue k _ inside (get_or_default events k _ _ inside) (stored c.loop-event.store) c.loop-event.answers c.loop-event.invariant.0 (stored w.height_below.new.store) _ w.in-Answer.is w.height_below.result w.height_below.ensures.value w.height_below.ensures.kept,
            HoldsBegun-without events k (stored c.loop-event.store) inside c.loop-event.invariant.1 _ (stored w.height_below.new.store) w.height_below.ensures.kept,
          )
    ]

pub returns-clause-ok : goal.returns-clause-ok
returns-clause-ok g c =
    let events = c.args.events.now in
    let served = subst (λ done. Served c.args.segments.now c.args.points.now done (g.C.KeyExpCollection.stored c.loop-event.store) c.loop-event.answers) (take_all c.loop-event.event-index events c.loop-event-test.false) c.loop-event.invariant.0 in (
      none_collide c.args.segments.now c.args.points.now events c.requires.queue served.free,
      Answered-all _ None c.args.points.now events c.loop-event.answers served.answered
          (λ place point stands. (point.x, c.requires.queue.each (answering_of place point) (is_answering c.args.segments.now c.args.points.now place point stands))),
    )
