use Rattle.std.proofs.Common.{List, rules, SFits, w64, arith, sym, subst}
use Rattle.std.proofs.lemmas.Int.{to_z-of_z}
use Rattle.plane.specs.declared.columns.exchanges.Exchange.{Exchange}
use Rattle.event_queue.specs.declared.Event.{Event}
use Rattle.plane.specs.declared.edge.Edge.{Edge}
use Rattle.plane.specs.Columns.Sweep.{IsSorted, IsSweptUpto}
use Rattle.plane.proofs.ColumnLemmas.SweepTimes.{IsSorted-upto, IsSwept-earliest, IsSweptUpto-next, measure_falls}
use Rattle.plane.proofs.ColumnLemmas.Comparing.{ExchangesComparing-both, ExchangesComparing-none}
use Rattle.plane.proofs.columns.sweep.Columns.exchange_upto.Goals as goal

pub exchange-requires : goal.exchange-requires
exchange-requires g c =
    let fits : SFits w64 c.args.moment = search rules in
    let (edges, done, upto) = c.requires in
    let here = simp to_z-of_z at c.loop-exchange.invariant.sorted in
    let within = simp to_z-of_z at c.in-Some.ensures.upto in (
      edges,
      done,
      IsSwept-earliest edges done c.args.moment c.loop-exchange.self.status c.loop-exchange.self.crossed.items c.in-Some.exchange c.loop-exchange.self.exchanges c.next_upto.new.self
          (here edges done upto) c.in-Some.ensures.taken within,
    )

pub loop-exchange-preserved : goal.loop-exchange-preserved
loop-exchange-preserved g c =
    let fits : SFits w64 c.args.moment = search rules in
    let here = simp to_z-of_z at c.loop-exchange.invariant.sorted in
    let within = simp to_z-of_z at c.in-Some.ensures.upto in
    let then : (edges : List Edge) (done : List Event)
    → IsSweptUpto edges done c.args.moment c.args.self.now.status c.args.self.now.exchanges c.args.self.now.crossed.items
    → IsSweptUpto edges done c.args.moment c.exchange.new.self.status c.exchange.new.self.exchanges c.exchange.new.self.crossed.items =
    (λ edges done upto.
    IsSweptUpto-next edges done c.args.moment c.in-Some.exchange.moment c.loop-exchange.self.status c.exchange.new.self.status c.loop-exchange.self.exchanges c.exchange.new.self.exchanges
    c.loop-exchange.self.crossed.items c.exchange.new.self.crossed.items (here edges done upto) within
    (c.in_ok-exchange.ensures.swept edges done
    (IsSwept-earliest edges done c.args.moment c.loop-exchange.self.status c.loop-exchange.self.crossed.items c.in-Some.exchange c.loop-exchange.self.exchanges c.next_upto.new.self
    (here edges done upto) c.in-Some.ensures.taken within))) in
    record {
      sorted = simp to_z-of_z then;
      steps = ExchangesComparing-both g.met.C.Counter.law c.args.steps.now c.loop-exchange.steps c.exchange.new.steps c.args.self.now.crossed.items c.loop-exchange.self.crossed.items c.exchange.new.self.crossed.items c.loop-exchange.invariant.steps c.in_ok-exchange.ensures.steps;
    }

pub loop-exchange-smaller : goal.loop-exchange-smaller
loop-exchange-smaller g c =
    measure_falls c.loop-exchange.self.crossed.items c.exchange.new.self.crossed.items c.in-Some.exchange c.loop-exchange.self.exchanges c.next_upto.new.self c.exchange.new.self.exchanges
    c.in-Some.ensures.taken c.in_ok-exchange.ensures.goes_on (omega (arith, c.exchange.new.self.crossed.ok.0, c.exchange.new.self.crossed.ok.1))

pub returns-clause-sorted : goal.returns-clause-sorted
returns-clause-sorted g c =
    let fits : SFits w64 c.args.moment = search rules in
    let here = simp to_z-of_z at c.loop-exchange.invariant.sorted in
    let none = simp to_z-of_z at c.in_default.ensures.upto in
    λ edges done upto.
    subst (λ (exchanges : List Exchange). IsSorted edges done c.args.moment c.loop-exchange.self.status exchanges c.loop-exchange.self.crossed.items) (sym c.in_default.ensures.taken)
    (IsSorted-upto edges done c.args.moment c.loop-exchange.self.status c.loop-exchange.self.crossed.items c.loop-exchange.self.exchanges (here edges done upto) none)

pub loop-exchange-init : goal.loop-exchange-init
loop-exchange-init g c = record {
  sorted = λ edges done upto. upto;
  steps = ExchangesComparing-none g.met.C.Counter.law c.args.steps.now c.args.self.now.crossed.items;
}

pub returns-clause-steps : goal.returns-clause-steps
returns-clause-steps g c = c.loop-exchange.invariant.steps
