use Rattle.std.proofs.Common.{◌≢◌, ◌≤◌, ◌+◌, ◌*◌, ℕ, List, arith, length, pos, get_or, take, rules, SFits, w64, sym, ◌∙◌, subst}
use Rattle.std.proofs.lemmas.Int.{to_z-of_z}
use Rattle.std.proofs.lemmas.List.{get_or_default}
use Rattle.event_queue.specs.declared.Event.{Event}
use Rattle.event_queue.specs.declared.Task.TheVariants.{End, Answer}
use Rattle.plane.specs.Columns.Sweep.{IsQueue, moment_of}
use Rattle.plane.proofs.ColumnLemmas.Comparing.{Compares-none, Compares-weaker, ServesComparing, ServesComparing-next}
use Rattle.plane.proofs.ColumnLemmas.SweepAsk.{IsSwept-asked}
use Rattle.plane.proofs.ColumnLemmas.SweepEvents.{IsOneOf-begins, StandsAt-answers}
use Rattle.plane.proofs.ColumnLemmas.SweepServed.{AreMet-other, begin_differs, end_differs, IsServed-next, IsServed-nothing, IsSweptUpto-served, all_crossed, all_met, next_is}
use Rattle.plane.proofs.ColumnLemmas.SweepSizes.{few_active, few_events}
use Rattle.plane.proofs.columns.sweep.serve_all.Goals as goal
use Rattle.plane.proofs.columns.sweep.serve_all.Goals.{in-End+in_ok-end-in-End, in-Begin+in_ok-begin-in-Begin, in-Answer+in_ok-ask-in-Answer}

pub loop-event-init : goal.loop-event-init
loop-event-init g c =
    record {
      served = IsServed-nothing c.args.edges.now c.args.asked.now c.deref-event-items.result.now c.in_ok-new.field-0 c.new-2.result c.new-3.result.items c.new-met.result.items
          c.in_ok-new.ensures.empty c.in_ok-new.ensures.places c.new-2.ensures c.new-3.ensures.items c.new-met.ensures.items;
      within = omega arith;
      steps = Compares-none g.met.C.Counter.law c.args.steps.now (length c.args.edges.now) 0 _;
    }

pub exchange_upto-requires : goal.exchange_upto-requires
exchange_upto-requires g c =
    let edges = c.args.edges.now in
    let asked = c.args.asked.now in
    let events = c.deref-event-items.result.now in
    let queue = subst (IsQueue edges asked) (sym c.deref-event-items.ensures.value) c.in_ok-events.ensures in
    let k = c.loop-event.event-index in
    let d : Event = record { x = pos 0; task = End; place = 0 } in
    let event = get_or events k d in
    let inside = c.loop-event-test.true in
    let is = get_or_default events k d event inside in
    let next = next_is edges asked events queue k event inside is in
    let fits : SFits w64 c.moment_of.result = search rules in
    let upto = IsSweptUpto-served edges asked events queue k event inside is c.loop-event.columns.status c.loop-event.columns.exchanges c.loop-event.columns.crossed.items c.loop-event.met.items c.loop-event.invariant.served in
    simp to_z-of_z (edges, take k events, rw c.moment_of.ensures upto)

pub end-requires-clause-sorted : goal.end-requires-clause-sorted
end-requires-clause-sorted g c =
    let edges = c.args.edges.now in
    let asked = c.args.asked.now in
    let events = c.deref-event-items.result.now in
    let queue = subst (IsQueue edges asked) (sym c.deref-event-items.ensures.value) c.in_ok-events.ensures in
    let k = c.loop-event.event-index in
    let d : Event = record { x = pos 0; task = End; place = 0 } in
    let event = get_or events k d in
    let inside = c.loop-event-test.true in
    let is = get_or_default events k d event inside in
    let next = next_is edges asked events queue k event inside is in
    let fits : SFits w64 c.moment_of.result = search rules in
    let upto = IsSweptUpto-served edges asked events queue k event inside is c.loop-event.columns.status c.loop-event.columns.exchanges c.loop-event.columns.crossed.items c.loop-event.met.items c.loop-event.invariant.served in
    let comes = rw c.moment_of.ensures at (simp to_z-of_z at c.in_ok-exchange_upto.ensures.sorted) in
    let sorted = comes edges (take k events) upto in
    (edges, asked, take k events, next, sorted)

pub begin-requires-clause-sorted : goal.begin-requires-clause-sorted
begin-requires-clause-sorted g c =
    let edges = c.args.edges.now in
    let asked = c.args.asked.now in
    let events = c.deref-event-items.result.now in
    let queue = subst (IsQueue edges asked) (sym c.deref-event-items.ensures.value) c.in_ok-events.ensures in
    let k = c.loop-event.event-index in
    let d : Event = record { x = pos 0; task = End; place = 0 } in
    let event = get_or events k d in
    let inside = c.loop-event-test.true in
    let is = get_or_default events k d event inside in
    let next = next_is edges asked events queue k event inside is in
    let fits : SFits w64 c.moment_of.result = search rules in
    let upto = IsSweptUpto-served edges asked events queue k event inside is c.loop-event.columns.status c.loop-event.columns.exchanges c.loop-event.columns.crossed.items c.loop-event.met.items c.loop-event.invariant.served in
    let comes = rw c.moment_of.ensures at (simp to_z-of_z at c.in_ok-exchange_upto.ensures.sorted) in
    let sorted = comes edges (take k events) upto in
    (edges, asked, take k events, next, IsOneOf-begins edges asked event next.is c.in-Begin.is c.active_edge_of.result _ c.active_edge_of.ensures.edge c.active_edge_of.ensures.place, sorted)

pub ask-requires-clause-sorted : goal.ask-requires-clause-sorted
ask-requires-clause-sorted g c =
    let edges = c.args.edges.now in
    let asked = c.args.asked.now in
    let events = c.deref-event-items.result.now in
    let queue = subst (IsQueue edges asked) (sym c.deref-event-items.ensures.value) c.in_ok-events.ensures in
    let k = c.loop-event.event-index in
    let d : Event = record { x = pos 0; task = End; place = 0 } in
    let event = get_or events k d in
    let inside = c.loop-event-test.true in
    let is = get_or_default events k d event inside in
    let next = next_is edges asked events queue k event inside is in
    let fits : SFits w64 c.moment_of.result = search rules in
    let upto = IsSweptUpto-served edges asked events queue k event inside is c.loop-event.columns.status c.loop-event.columns.exchanges c.loop-event.columns.crossed.items c.loop-event.met.items c.loop-event.invariant.served in
    let comes = rw c.moment_of.ensures at (simp to_z-of_z at c.in_ok-exchange_upto.ensures.sorted) in
    let sorted = comes edges (take k events) upto in
    (edges, asked, take k events, next, StandsAt-answers edges asked event next.is c.in-Answer.is _, sorted)

pub loop-event-preserved : goal.loop-event-preserved
loop-event-preserved g c =
    let edges = c.args.edges.now in
    let asked = c.args.asked.now in
    let events = c.deref-event-items.result.now in
    let queue = subst (IsQueue edges asked) (sym c.deref-event-items.ensures.value) c.in_ok-events.ensures in
    let k = c.loop-event.event-index in
    let d : Event = record { x = pos 0; task = End; place = 0 } in
    let event = get_or events k d in
    let inside = c.loop-event-test.true in
    let is = get_or_default events k d event inside in
    let next = next_is edges asked events queue k event inside is in
    let fits : SFits w64 c.moment_of.result = search rules in
    let upto = IsSweptUpto-served edges asked events queue k event inside is c.loop-event.columns.status c.loop-event.columns.exchanges c.loop-event.columns.crossed.items c.loop-event.met.items c.loop-event.invariant.served in
    let comes = rw c.moment_of.ensures at (simp to_z-of_z at c.in_ok-exchange_upto.ensures.sorted) in
    let sorted = comes edges (take k events) upto in
    let are_met = c.loop-event.invariant.served.are_met in
    let serves = IsServed-next edges asked events queue k event inside is in
    let few = few_active edges (take k events) (moment_of event) c.exchange_upto.new.self.status c.exchange_upto.new.self.exchanges c.exchange_upto.new.self.crossed.items sorted.swept in
    let law = g.met.C.Counter.law in
    let before = c.loop-event.met.items in
    let told = c.loop-event.columns.crossed.items in
    let told_then = c.exchange_upto.new.self.crossed.items in
    let next_steps = ServesComparing-next law c.args.steps.now c.loop-event.steps c.exchange_upto.new.steps in
    let so_far = c.loop-event.invariant.steps in
    let exchanges = c.in_ok-exchange_upto.ensures.steps in
    let more : k + 1 ≤ length events = omega (arith, inside) in
    elim c.match-event.branch [
      | in-End+in_ok-end-in-End w ↦
          let other : event.task ≢ Answer = λ answers. end_differs (sym w.in-End.is ∙ answers) in
          rw (w.columns-is, w.met-is, w.steps-is)
          (record {
            served = (serves w.end.new.self.status w.end.new.self.exchanges w.end.new.self.crossed.items c.loop-event.met.items
                (w.in_ok-end-in-End.ensures.swept edges asked (take k events) next sorted)
                (AreMet-other edges asked events queue k event inside is c.loop-event.met.items other are_met));
            within = more;
            steps = subst (λ (crossed : List (ℕ × ℕ)). ServesComparing g.C.Counter.made c.args.steps.now w.end.new.steps (length edges) (k + 1) crossed before) (sym w.in_ok-end-in-End.ensures.crossed)
                (next_steps w.end.new.steps (length edges) k told told_then before before 0 0 1 so_far exchanges w.in_ok-end-in-End.ensures.steps (omega arith) (omega arith) (omega arith));
          })
      | in-Begin+in_ok-begin-in-Begin w ↦
          let other : event.task ≢ Answer = λ answers. begin_differs (sym w.in-Begin.is ∙ answers) in
          let one = IsOneOf-begins edges asked event next.is w.in-Begin.is w.active_edge_of.result _ w.active_edge_of.ensures.edge w.active_edge_of.ensures.place in
          rw (w.columns-is, w.met-is, w.steps-is)
          (record {
            served = (serves w.begin.new.self.status w.begin.new.self.exchanges w.begin.new.self.crossed.items c.loop-event.met.items
                ((w.in_ok-begin-in-Begin.ensures).swept edges asked (take k events) next one sorted)
                (AreMet-other edges asked events queue k event inside is c.loop-event.met.items other are_met));
            within = more;
            steps = subst (λ (crossed : List (ℕ × ℕ)). ServesComparing g.C.Counter.made c.args.steps.now w.begin.new.steps (length edges) (k + 1) crossed before) (sym w.in_ok-begin-in-Begin.ensures.crossed)
                (next_steps w.begin.new.steps (length edges) k told told_then before before (length c.exchange_upto.new.self.status.edges) 1 2 so_far exchanges w.in_ok-begin-in-Begin.ensures.steps few (omega arith) (omega arith));
          })
      | in-Answer+in_ok-ask-in-Answer w ↦
          let stands = StandsAt-answers edges asked event next.is w.in-Answer.is (record { x = pos 0; low = pos 0; high = pos 0 }) in
          rw (w.columns-is, w.met-is, w.steps-is)
          (record {
            served = (serves c.exchange_upto.new.self.status c.exchange_upto.new.self.exchanges c.exchange_upto.new.self.crossed.items w.ask.new.met.items
                (IsSwept-asked edges asked (take k events) event next w.in-Answer.is c.exchange_upto.new.self.status c.exchange_upto.new.self.exchanges c.exchange_upto.new.self.crossed.items sorted)
                (w.in_ok-ask-in-Answer.ensures.met edges asked (take k events) next stands sorted are_met));
            within = more;
            steps = let appends = w.in_ok-ask-in-Answer.ensures.steps in
                next_steps w.ask.new.steps (length edges) k told told_then before w.ask.new.met.items (length c.exchange_upto.new.self.status.edges) 1 (appends.gained + 1) so_far exchanges appends.compares few (omega arith) (omega (arith, appends.gains));
          })
    ]

pub returns-clause-crossed : goal.returns-clause-crossed
returns-clause-crossed g c =
    let edges = c.args.edges.now in
    let asked = c.args.asked.now in
    let events = c.deref-event-items.result.now in
    let queue = subst (IsQueue edges asked) (sym c.deref-event-items.ensures.value) c.in_ok-events.ensures in
    let k = c.loop-event.event-index in
    all_crossed edges asked events queue k c.loop-event-test.false c.loop-event.columns.status c.loop-event.columns.exchanges c.loop-event.columns.crossed.items c.loop-event.met.items c.loop-event.invariant.served

pub returns-clause-met : goal.returns-clause-met
returns-clause-met g c =
    let edges = c.args.edges.now in
    let asked = c.args.asked.now in
    let events = c.deref-event-items.result.now in
    let queue = subst (IsQueue edges asked) (sym c.deref-event-items.ensures.value) c.in_ok-events.ensures in
    let k = c.loop-event.event-index in
    all_met edges asked events queue k c.loop-event-test.false c.loop-event.columns.status c.loop-event.columns.exchanges c.loop-event.columns.crossed.items c.loop-event.met.items c.loop-event.invariant.served

pub returns-clause-steps : goal.returns-clause-steps
returns-clause-steps g c =
    let edges = c.args.edges.now in
    let asked = c.args.asked.now in
    let events = c.deref-event-items.result.now in
    let queue = subst (IsQueue edges asked) (sym c.deref-event-items.ensures.value) c.in_ok-events.ensures in
    let k = c.loop-event.event-index in
    let most : k ≤ 2 * length edges + length asked = omega (arith, c.loop-event.invariant.within, few_events edges asked events queue) in
    let crossed = length c.loop-event.columns.crossed.items in
    let met = length c.loop-event.met.items in
    let all = 2 * length edges + length asked in
    Compares-weaker c.args.steps.now c.loop-event.steps (length edges) k (2 * k + 2 * crossed + met) (length edges) all (2 * all + 2 * crossed + met) (omega arith) most (omega (arith, most)) c.loop-event.invariant.steps
