use Rattle.std.proofs.Common.{map, take}
use Rattle.layers.specs.Gathered.{AreGathered}
use Rattle.layers.specs.Lines.{line_edges, lines_of}
use Rattle.layers.proofs.lines.breaking.append_lines.Given as goal

-- the edges of the lines so far are appended, and where they stop
abbrev pub invariant-loop-line : goal.invariant-loop-line
invariant-loop-line g l = AreGathered (map line_edges (take l.line (lines_of l.fn.lines))) l.fn.edges.items l.edges.items l.fn.ends.items l.ends.items
