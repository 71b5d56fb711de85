use Rattle.std.proofs.Common.{take}
use Rattle.overlay.proofs.LineLemmas.Runs.{AreRunUpto}
use Rattle.overlay.proofs.boundary.lines.append_changes.Given as goal

-- the last of the edges so far are the run, and the changes of those before are appended
abbrev pub invariant-loop-edge : goal.invariant-loop-edge
invariant-loop-edge g l = AreRunUpto l.operand (take l.edge-index l.edges) l.initial.changes.items l.changes.items l.run
