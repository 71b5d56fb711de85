use Rattle.std.proofs.Common.{◌≡◌, ◌++◌}
use Rattle.layers.specs.Lines.{line_edges}
use Rattle.layers.proofs.lines.breaking.append_line.Given as goal

-- the edges that are there and those of what is left of the line are those before and those of the line
abbrev pub invariant-loop-pair : goal.invariant-loop-pair
invariant-loop-pair g l = (l.pair-iterator.size ≡ 2) × ((l.edges.items ++ line_edges l.pair-iterator.rest.now) ≡ (l.fn.edges.items ++ line_edges l.line))
