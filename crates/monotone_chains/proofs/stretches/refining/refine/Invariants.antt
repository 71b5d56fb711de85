use Rattle.std.specs.List.{AllZip}
use Rattle.monotone_chains.specs.Stretches.Spans.{IsSpan}
use Rattle.monotone_chains.proofs.StretchLemmas.CutRefined.{AreRefinedUpto}
use Rattle.monotone_chains.proofs.stretches.refining.refine.Given as goal

-- the parts so far are cut anew, those of the subject are counted, and where all lie is told
abbrev pub invariant-loop-place : goal.invariant-loop-place
invariant-loop-place g l = AreRefinedUpto l.most l.count l.parts l.busy.items l.place l.refined.parts.items l.subject_count × AllZip IsSpan l.refined.parts.items l.refined.spans.items
