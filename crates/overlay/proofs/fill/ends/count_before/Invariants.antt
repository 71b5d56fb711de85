use Rattle.std.proofs.Common.{◌-◌, length}
use Rattle.overlay.proofs.fill.ends.count_before.Given as goal

abbrev pub decreases-loop-count : goal.decreases-loop-count
decreases-loop-count l = length l.ends - l.count
