use Rattle.std.proofs.Common.{[], take}
use Rattle.plane.specs.Gains.{GainsThese, IsOfSome}
use Rattle.validity.specs.Contacts.{IsContactAt}
use Rattle.validity.proofs.one_piece.contacts_at.Given as goal

-- those at the pairs so far are there
abbrev pub invariant-loop-pair : goal.invariant-loop-pair
invariant-loop-pair g l = GainsThese (IsOfSome (IsContactAt l.owned) (take l.pair-index l.pairs)) [] l.contacts.items
