use Rattle.std.proofs.Common.{◌-◌}
use Rattle.overlay.proofs.contours.fans.next_between.Given as goal

-- the spokes that are left
abbrev pub decreases-loop-spoke : goal.decreases-loop-spoke
decreases-loop-spoke l = l.end - l.spoke
