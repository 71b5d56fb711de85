use Rattle.std.proofs.Common.{◌≡◌, length, take}
use Rattle.plane.specs.Lists.{Extends}
use Rattle.plane.specs.Gains.{GainsThese, IsOfSome}
use Rattle.noding.specs.Moving.{AreFlagged, AreSpread, IsMovedAt}
use Rattle.noding.proofs.moved.move_at_all.Given as goal

-- the edges that the points so far move are flagged
abbrev pub invariant-loop-point : goal.invariant-loop-point
invariant-loop-point g l =
    (length l.moved.flags.items ≡ length l.fn.moved.flags.items)
    × AreSpread l.fn.visits l.spread l.moved.order.items
    × AreFlagged l.moved.flags.items l.moved.order.items
    × Extends l.fn.moved.order.items l.moved.order.items
    × GainsThese (IsOfSome (IsMovedAt l.fn.visits) (take l.point-index l.points)) l.fn.moved.order.items l.moved.order.items
