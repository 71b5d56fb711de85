use Rattle.std.proofs.Common.{take}
use Rattle.horizontal.proofs.SweepLemmas.Events.{Served}
use Rattle.horizontal.proofs.SweepLemmas.Room.{HoldsBegun}
use Rattle.horizontal.proofs.serve_all.Given as goal

-- the events gone through are served, and the store holds no more than have begun
abbrev pub invariant-loop-event : goal.invariant-loop-event
invariant-loop-event g l =
    Served l.segments l.points (take l.event-index l.events) (g.C.KeyExpCollection.stored l.store) l.answers
    × HoldsBegun (take l.event-index l.events) (g.C.KeyExpCollection.stored l.store)
