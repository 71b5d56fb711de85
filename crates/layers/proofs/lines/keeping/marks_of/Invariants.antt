use Rattle.std.proofs.Common.{take}
use Rattle.layers.specs.LineParts.{AreMarked}
use Rattle.layers.proofs.lines.keeping.marks_of.Given as goal

abbrev pub invariant-loop-place : goal.invariant-loop-place
invariant-loop-place g l = AreMarked (take l.place-index l.pairs) l.mark l.count l.flags.items
