use Rattle.std.proofs.Common.{◌≡◌, get_or}
use Rattle.noding.specs.Distinct.{AreStarts}
use Rattle.noding.proofs.distinct.starts_of.Given as goal

-- where those of the edges so far begin is told
abbrev pub invariant-loop-place : goal.invariant-loop-place
invariant-loop-place g l = AreStarts l.place l.stops l.starts.items × (l.next ≡ get_or l.starts.items l.place 0)
