use Rattle.std.specs.List.{between}
use Rattle.offset.proofs.ChainedLemmas.{Lead}
use Rattle.offset.proofs.chained.round_end.Given as goal

-- the edges so far lead from the first point to this one
abbrev pub invariant-loop-index : goal.invariant-loop-index
invariant-loop-index l = Lead l.first (between l.from l.index l.edges) l.at
