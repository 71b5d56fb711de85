use Rattle.std.proofs.Common.{◌≡◌, ◌+◌, length}
use Rattle.plane.specs.Locate.Payloads.{IsReadAhead}
use Rattle.plane.proofs.locate.read_ahead.ReadAhead.read.Given as goal

-- the payloads of the events so far
abbrev pub invariant-loop-place : goal.invariant-loop-place
invariant-loop-place g l =
    (l.fn.from + length l.self.payloads.items ≡ l.place) × (l.self.from ≡ l.fn.from) × IsReadAhead l.edges l.points l.events l.fn.from l.self.payloads.items
