use Rattle.std.proofs.Common.{◌≤ℤ◌, ◌<ℤ◌, arith}
use Rattle.std.specs.BinaryHeap.{heap_items}
use Rattle.std.specs.Ordering.{nat_cmp, ordering_then}
use Rattle.std.proofs.lemmas.Int.{ints}
use Rattle.std.proofs.lemmas.List.Elements.{All-weaker}
use Rattle.std.proofs.lemmas.List.Sorted.{IsPermutation-map}
use Rattle.std.specs.declared.cmp.Reverse.{Reverse}
use Rattle.plane.specs.declared.columns.exchanges.Exchange.{Exchange}
use Rattle.plane.proofs.ColumnLemmas.Exchanges.{earliest_from_greatest}
use Rattle.plane.proofs.columns.exchanges.Exchanges.next_upto.Goals as goal

pub returns-then-moment-first-clause-upto : goal.returns-then-moment-first-clause-upto
returns-then-moment-first-clause-upto g c =
    rw (← c.self.view_is)
    (All-weaker (λ (exchange : Exchange). c.in_ok-first.first.now.0.moment ≤ℤ exchange.moment) (λ exchange. c.args.moment <ℤ exchange.moment)
    (λ exchange from. omega (arith, ints, from, c.if-moment-first.true))
    _ (earliest_from_greatest (λ one other. ordering_then (nat_cmp one.below other.below) (nat_cmp one.above other.above)) c.in_ok-first.first.now (heap_items c.self.inside.heap)
    (c.in_ok-first.ensures.greatest c.self.invariant)))

pub returns-clause-taken : goal.returns-clause-taken
returns-clause-taken g c =
    rw (← c.self.view_is)
    (record {
      left = IsPermutation-map (λ (item : Reverse Exchange). item.0) _ _ c.in_ok-exchange.ensures.permutation;
      earliest = earliest_from_greatest (λ one other. ordering_then (nat_cmp one.below other.below) (nat_cmp one.above other.above)) c.in_ok-exchange.field-0 (heap_items c.self.inside.heap)
          (c.in_ok-exchange.ensures.heap_order c.self.invariant).1;
    })
