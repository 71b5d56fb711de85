use Rattle.std.proofs.Common.{◌≡◌, ◌<◌, ◌≤◌, ◌-◌, ◌++◌, Bool, List, true, get_or, length}
use Rattle.std.specs.List.{flat_map}
use Rattle.plane.specs.declared.point.Point.{Point}
use Rattle.noding.specs.Offsets.{offsets}
use Rattle.layers.proofs.LineLemmas.Runs.{GoOn}
use Rattle.layers.proofs.lines.joining.append_runs.Given as goal

-- the next edge is kept, if there is one, and the runs of all edges are those that are there and those from this edge on
abbrev pub invariant-loop-next : goal.invariant-loop-next
invariant-loop-next g l = record {
  within : l.next ≤ length l.kept;
  begins : (default : Bool) → l.next < length l.kept → get_or l.kept l.next default ≡ true;
  appended : (runs : List (List Point)) × GoOn l.kept l.edges l.next runs
      × (l.points.items ≡ l.fn.points.items ++ flat_map (λ run. run) runs)
      × (l.ends.items ≡ l.fn.ends.items ++ offsets (length l.fn.points.items) runs);
}

abbrev pub decreases-loop-next : goal.decreases-loop-next
decreases-loop-next g l = length l.edges - l.next
