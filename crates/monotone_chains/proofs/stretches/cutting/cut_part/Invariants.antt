use Rattle.std.proofs.Common.{◌≤◌, ◌+◌, ◌-◌}
use Rattle.std.specs.List.{between}
use Rattle.monotone_chains.specs.Stretches.Cut.{IsCutInParts, way}
use Rattle.monotone_chains.proofs.stretches.cutting.cut_part.Given as goal

-- the edges so far are cut
abbrev pub invariant-loop-next : goal.invariant-loop-next
invariant-loop-next g l = record {
  some : l.from ≤ l.next;
  within : l.next ≤ l.upto;
  cut : IsCutInParts (between l.from (l.next + 1) (way l.part)) l.most l.fn.parts.items l.parts.items;
}

-- the edges that are left
abbrev pub decreases-loop-next : goal.decreases-loop-next
decreases-loop-next g l = l.upto - l.next
