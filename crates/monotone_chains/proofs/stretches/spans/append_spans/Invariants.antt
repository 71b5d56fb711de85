use Rattle.std.proofs.Common.{take}
use Rattle.monotone_chains.specs.Stretches.Spans.{AppendsSpans}
use Rattle.monotone_chains.proofs.stretches.spans.append_spans.Given as goal

-- where the parts so far lie
abbrev pub invariant-loop-part : goal.invariant-loop-part
invariant-loop-part g l = AppendsSpans (take l.part-index l.parts) l.fn.spans.items l.spans.items
