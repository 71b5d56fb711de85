use Rattle.std.proofs.Common.{◌≡◌, length}
use Rattle.plane.specs.Pairs.Points.{AreStarts}
use Rattle.plane.proofs.pairs.points.begin_rows.Given as goal

-- the rows below this one have begun
abbrev pub invariant-loop-row : goal.invariant-loop-row
invariant-loop-row g l = record { counted : length l.starts.items ≡ l.row; begun : AreStarts l.fn.parts l.fn.place l.starts.items }
