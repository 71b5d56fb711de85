use Rattle.std.proofs.Common.{List}
use Rattle.plane.specs.declared.point.Point.{Point}
use Rattle.layers.specs.Lines.{Appends}
use Rattle.layers.proofs.LineLemmas.Runs.{AreRunsUpto}
use Rattle.layers.proofs.lines.joining.append_pieces.Given as goal

-- the runs of the lines so far are appended
abbrev pub invariant-loop-line : goal.invariant-loop-line
invariant-loop-line g l = (clipped : List (List (List Point))) × Appends clipped l.fn.out l.out × AreRunsUpto l.line l.kept l.edges l.ends clipped
