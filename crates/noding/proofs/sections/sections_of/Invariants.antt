use Rattle.std.proofs.Common.{}
use Rattle.noding.specs.Sections.{AreSections}
use Rattle.noding.proofs.sections.sections_of.Given as goal

-- the sections of the edges so far
abbrev pub invariant-loop-place : goal.invariant-loop-place
invariant-loop-place g l = AreSections l.edges l.place l.sections.items
