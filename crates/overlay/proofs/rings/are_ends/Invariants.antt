use Rattle.std.proofs.Common.{length, drop}
use Rattle.std.specs.Prelude.{◌↔◌}
use Rattle.overlay.specs.Rings.{AreEnds, HasEnds}
use Rattle.overlay.proofs.rings.are_ends.Given as goal

-- the ends told so far are right: the others tell
abbrev pub invariant-loop-end : goal.invariant-loop-end
invariant-loop-end l = HasEnds l.fn.rings ↔ AreEnds l.start (drop l.end-index l.fn.rings.ends.now) (length l.fn.rings.points.now)
