use Rattle.std.proofs.Common.{take}
use Rattle.plane.specs.Gains.{GainsThese, IsOfSome}
use Rattle.noding.specs.Local.{IsPointBeside}
use Rattle.noding.specs.Moving.{AreFound}
use Rattle.noding.proofs.moved.flag_crossed.Given as goal

-- the points of the crossings so far, and what they move
abbrev pub invariant-loop-crossing : goal.invariant-loop-crossing
invariant-loop-crossing g l =
    AreFound l.fn.edges l.moved.flags.items l.moved.order.items × GainsThese (IsOfSome (IsPointBeside l.fn.edges) (take l.crossing-index l.crossings)) l.fn.crossed.items l.crossed.items
