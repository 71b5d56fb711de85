use Rattle.std.proofs.Common.{◌<◌, ◌+◌, ◌-◌, length}
use Rattle.std.specs.List.{between}
use Rattle.monotone_chains.specs.Stretches.{Falls}
use Rattle.monotone_chains.proofs.stretches.cutting.fall_end.Given as goal

-- x falls so far
abbrev pub invariant-loop-end : goal.invariant-loop-end
invariant-loop-end l = record {
  some : l.from < l.end;
  within : l.end < length l.points;
  falls : Falls (between l.from (l.end + 1) l.points);
}

-- the points that are left
abbrev pub decreases-loop-end : goal.decreases-loop-end
decreases-loop-end l = length l.points - l.end
