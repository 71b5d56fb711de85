use Rattle.std.proofs.Common.{◌≡◌, ◌++◌, map, take}
use Rattle.noding.specs.Distinct.{at_place}
use Rattle.noding.proofs.distinct.append_at.Given as goal

-- the stops so far are appended
abbrev pub invariant-loop-stop : goal.invariant-loop-stop
invariant-loop-stop g l = l.copies.items ≡ l.fn.copies.items ++ map (at_place l.fn.place) (take l.stop-index l.stops)
