use Rattle.monotone_chains.proofs.StretchLemmas.CutSpans.{only-spans}
use Rattle.monotone_chains.proofs.stretches.spans.spans_of.Goals as goal

pub returns : goal.returns
returns g c = only-spans c.args.parts.now c.in_ok-spans.spans.items c.append_spans.new.spans.items c.in_ok-spans.ensures.items c.in_ok-append_spans.ensures
