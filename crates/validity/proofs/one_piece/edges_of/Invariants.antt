use Rattle.std.proofs.Common.{◌≡◌, map, take}
use Rattle.validity.specs.Contacts.{edge_of}
use Rattle.validity.proofs.one_piece.edges_of.Given as goal

-- those so far are there
abbrev pub invariant-loop-one : goal.invariant-loop-one
invariant-loop-one g l = l.edges.items ≡ map edge_of (take l.one-index l.owned)
