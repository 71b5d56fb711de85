use Rattle.std.proofs.Common.{◌≡◌, ◌+◌, length}
use Rattle.plane.specs.Pairs.Parts.{AreReadAhead}
use Rattle.plane.proofs.pairs.read_ahead.ReadAhead.read.Given as goal

-- the items of the parts so far
abbrev pub invariant-loop-place : goal.invariant-loop-place
invariant-loop-place g l =
    (l.fn.from + length l.self.items.items ≡ l.place) × (l.self.from ≡ l.fn.from) × AreReadAhead l.items l.parts l.fn.from l.self.items.items
