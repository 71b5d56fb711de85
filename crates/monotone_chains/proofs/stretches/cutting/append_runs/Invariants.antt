use Rattle.std.proofs.Common.{◌≤◌, ◌+◌, ◌-◌}
use Rattle.std.specs.List.{between}
use Rattle.overlay.specs.Contours.Rings.{real_edges}
use Rattle.noding.specs.Windings.{pieces}
use Rattle.monotone_chains.specs.Stretches.Cut.{AppendsParts}
use Rattle.monotone_chains.proofs.stretches.cutting.append_runs.Given as goal

-- the edges so far are cut
abbrev pub invariant-loop-next : goal.invariant-loop-next
invariant-loop-next g l = record {
  within : l.next ≤ l.last;
  cut : AppendsParts (real_edges (pieces (between 0 (l.next + 1) l.points))) l.fn.parts.items l.parts.items;
}

-- the edges that are left
abbrev pub decreases-loop-next : goal.decreases-loop-next
decreases-loop-next g l = l.last - l.next
