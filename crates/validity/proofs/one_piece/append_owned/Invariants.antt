use Rattle.std.proofs.Common.{take}
use Rattle.plane.specs.Gains.{GainsThese, IsOfSome}
use Rattle.validity.specs.Contacts.{IsOwnedBy}
use Rattle.validity.proofs.one_piece.append_owned.Given as goal

-- those so far are there
abbrev pub invariant-loop-edge : goal.invariant-loop-edge
invariant-loop-edge g l = GainsThese (IsOfSome (IsOwnedBy l.ring) (take l.edge-index l.edges)) l.fn.owned.items l.owned.items
