use Rattle.std.proofs.Common.{◌≤◌, take}
use Rattle.plane.specs.Locate.Payloads.{IsReadAhead}
use Rattle.plane.proofs.LocateLemmas.Room.{HoldsBegun}
use Rattle.plane.proofs.LocateLemmas.Swept.{Swept}
use Rattle.plane.proofs.locate.sweep.serve_all.Given as goal

-- the events gone through are served, what is read ahead are their payloads, and the status holds no more than have begun, with no
-- less room than at first
abbrev pub invariant-loop-next : goal.invariant-loop-next
invariant-loop-next g l =
    Swept l.edges l.points (take l.next l.events) (g.C.StatusCollection.stored l.status) l.answers
    × IsReadAhead l.edges l.points l.events l.read_ahead.from l.read_ahead.payloads.items
    × HoldsBegun (take l.next l.events) (g.C.StatusCollection.stored l.status)
    × (g.C.StatusCollection.room l.fn.status ≤ g.C.StatusCollection.room l.status)
