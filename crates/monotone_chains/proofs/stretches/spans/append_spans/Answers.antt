use Rattle.std.proofs.Common.{List, subst, arith}
use Rattle.std.proofs.lemmas.List.{take_all}
use Rattle.monotone_chains.specs.Stretches.Spans.{AppendsSpans}
use Rattle.monotone_chains.specs.declared.stretches.parts.Part.{Part}
use Rattle.monotone_chains.proofs.StretchLemmas.CutSpans.{more-spans}
use Rattle.monotone_chains.proofs.stretches.spans.append_spans.Goals as goal

pub loop-part-preserved : goal.loop-part-preserved
loop-part-preserved g c =
    more-spans c.args.parts.now c.loop-part.part-index _ c.args.spans.now.items c.loop-part.spans.items c.push.new.self.items c.span_of.result c.loop-part-test.true
    c.in_ok-push.ensures.items c.span_of.ensures c.loop-part.invariant

pub returns : goal.returns
returns g c =
    let past = c.loop-part-test.false in
    subst (λ (parts : List Part). AppendsSpans parts c.args.spans.now.items c.loop-part.spans.items) (take_all c.loop-part.part-index c.args.parts.now (omega (arith, past))) c.loop-part.invariant
