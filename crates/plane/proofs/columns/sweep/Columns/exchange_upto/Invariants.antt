use Rattle.std.proofs.Common.{List, ◌+◌, ◌*◌, ◌-◌, ◌^◌, length}
use Rattle.event_queue.specs.declared.Event.{Event}
use Rattle.plane.specs.declared.edge.Edge.{Edge}
use Rattle.plane.specs.Columns.Steps.{ExchangesComparing}
use Rattle.plane.specs.Columns.Sweep.{IsSweptUpto}
use Rattle.plane.proofs.columns.sweep.Columns.exchange_upto.Given as goal

-- the sweep has come to a moment up to the one that is asked for
abbrev pub invariant-loop-exchange : goal.invariant-loop-exchange
invariant-loop-exchange g l = record {
  sorted : (edges : List Edge) (done : List Event)
      → IsSweptUpto edges done l.moment l.initial.self.status l.initial.self.exchanges l.initial.self.crossed.items
      → IsSweptUpto edges done l.moment l.self.status l.self.exchanges l.self.crossed.items;
  steps : ExchangesComparing g.C.Counter.made l.fn.steps l.steps l.initial.self.crossed.items l.self.crossed.items;
}

-- each iteration uses up an exchange, and where it puts down two more it tells a pair
abbrev pub decreases-loop-exchange : goal.decreases-loop-exchange
decreases-loop-exchange g l = 2 * (2 ^ 64 - length l.self.crossed.items) + length l.self.exchanges
