use Rattle.std.proofs.Common.{◌≡◌, ◌-◌, length}
use Rattle.noding.proofs.ChainLemmas.Spreading.{IsFound}
use Rattle.noding.specs.Moving.{AreFlagged, AreSpread}
use Rattle.noding.proofs.moved.flag_passed.Given as goal

-- what is flagged is moved, and what the points of edges before `next` move is flagged
abbrev pub invariant-loop-next : goal.invariant-loop-next
invariant-loop-next g l =
    (length l.moved.flags.items ≡ length l.fn.edges)
    × AreSpread l.fn.visits l.spread.items l.moved.order.items
    × AreFlagged l.moved.flags.items l.moved.order.items
    × IsFound l.fn.edges l.fn.passed l.fn.passed_ends l.fn.crossed l.fn.visits l.fn.moved.flags.items l.moved.order.items l.next

abbrev pub decreases-loop-next : goal.decreases-loop-next
decreases-loop-next g l = length l.fn.edges - l.next
