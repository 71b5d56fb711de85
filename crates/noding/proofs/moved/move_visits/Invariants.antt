use Rattle.std.proofs.Common.{◌≡◌, length, take}
use Rattle.plane.specs.Lists.{Extends}
use Rattle.plane.specs.Gains.{GainsThese, IsOfSome}
use Rattle.noding.specs.Moving.{AreFlagged, IsPlaceOf}
use Rattle.noding.proofs.moved.move_visits.Given as goal

-- the edges of the visits so far are flagged
abbrev pub invariant-loop-visit : goal.invariant-loop-visit
invariant-loop-visit g l =
    (length l.moved.flags.items ≡ length l.fn.moved.flags.items)
    × AreFlagged l.moved.flags.items l.moved.order.items
    × Extends l.fn.moved.order.items l.moved.order.items
    × GainsThese (IsOfSome IsPlaceOf (take l.visit-index l.visits)) l.fn.moved.order.items l.moved.order.items
