use Rattle.std.specs.Ordering.{nat_cmp}
use Rattle.i_tree.specs.Rb.Shape.{entries}
use Rattle.i_tree.specs.Set.Pairs.{IsOrdered}
use Rattle.uses.proofs.tickets.seats_before.Given as goal

-- the numbers of the tickets rise
abbrev pub invariant-loop-ticket : goal.invariant-loop-ticket
invariant-loop-ticket l = IsOrdered (λ ticket. ticket.number) nat_cmp (entries l.tickets.shape)
