use Rattle.std.proofs.Common.{◌≡◌, take}
use Rattle.overlay.specs.Fill.Few.{counts_upto}
use Rattle.overlay.proofs.fill.few.counts_upto.Given as goal

-- what the pieces so far weigh
abbrev pub invariant-loop-piece : goal.invariant-loop-piece
invariant-loop-piece l = l.counts ≡ counts_upto l.point (take l.piece-index l.begun)
