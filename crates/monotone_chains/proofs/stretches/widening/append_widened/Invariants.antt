use Rattle.std.proofs.Common.{map}
use Rattle.overlay.specs.Rings.{rings_of}
use Rattle.monotone_chains.specs.Stretches.Cut.{way}
use Rattle.monotone_chains.proofs.StretchLemmas.Widened.{AreWidened}
use Rattle.monotone_chains.proofs.stretches.widening.append_widened.Given as goal

-- the rings so far are widened and appended
abbrev pub invariant-loop-ring : goal.invariant-loop-ring
invariant-loop-ring g l = AreWidened (map way l.parts) (rings_of l.ring_points 0 l.ring_ends) l.ring l.fn.points.items l.points.items l.fn.ends.items l.ends.items
