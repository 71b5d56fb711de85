use Rattle.std.proofs.Common.{drop}
use Rattle.std.specs.Prelude.{◌↔◌}
use Rattle.overlay.specs.Rings.{AreEnds}
use Rattle.validity.proofs.given.are_ends.Given as goal

-- the ends told so far are right: the others tell
abbrev pub invariant-loop-end : goal.invariant-loop-end
invariant-loop-end l = AreEnds 0 l.ends l.count ↔ AreEnds l.start (drop l.end-index l.ends) l.count
