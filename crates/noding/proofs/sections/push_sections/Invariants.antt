use Rattle.std.proofs.Common.{}
use Rattle.noding.specs.Sections.{GainsParts, IsPartOf}
use Rattle.noding.proofs.sections.push_sections.Given as goal

-- the sections of the parts so far, and the point where this part begins
abbrev pub invariant-loop-part : goal.invariant-loop-part
invariant-loop-part g l = GainsParts l.fn.place l.fn.edge l.part l.fn.count l.fn.sections.items l.sections.items × IsPartOf l.fn.edge l.part l.fn.count l.from
