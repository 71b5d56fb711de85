use Rattle.std.proofs.Common.{take}
use Rattle.noding.specs.Beside.{NoneCloses}
use Rattle.noding.proofs.beside.none_closes.Given as goal

-- none does at one of the crossings so far
abbrev pub invariant-loop-crossing : goal.invariant-loop-crossing
invariant-loop-crossing l = NoneCloses l.edges (take l.crossing-index l.crossings)
