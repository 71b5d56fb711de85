use Rattle.std.proofs.Common.{take}
use Rattle.std.specs.List.{All}
use Rattle.validity.specs.Given.{rings_at}
use Rattle.validity.specs.Validity.{IsSimple}
use Rattle.validity.proofs.validity.fault_of_rings.Given as goal

-- the rings before this one are simple
abbrev pub invariant-loop-ring : goal.invariant-loop-ring
invariant-loop-ring g l = All IsSimple (take l.ring (rings_at l.set.rings))
