use Rattle.std.proofs.Common.{length}
use Rattle.layers.proofs.around.+append_of_group.Given as goal

-- half of the points, each time
abbrev pub decreases-append_of_group : goal.decreases-append_of_group
decreases-append_of_group g l = length l.group.now
