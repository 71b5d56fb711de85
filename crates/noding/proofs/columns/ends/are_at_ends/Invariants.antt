use Rattle.std.proofs.Common.{take}
use Rattle.std.specs.List.{All}
use Rattle.noding.specs.Columns.Ends.{LiesAtEnd}
use Rattle.noding.proofs.columns.ends.are_at_ends.Given as goal

-- the crossings so far are
abbrev pub invariant-loop-crossing : goal.invariant-loop-crossing
invariant-loop-crossing l = All (LiesAtEnd l.edges) (take l.crossing-index l.crossings)
