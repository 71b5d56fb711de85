use Rattle.monotone_chains.specs.Stretches.Spans.{LeadsTo}
use Rattle.noding.proofs.ChainLemmas.Close.{either_tested}
use Rattle.monotone_chains.proofs.stretches.spans.adjoin.Goals as goal

pub returns-else-leads_to : goal.returns-else-leads_to
returns-else-leads_to c =
    either_tested c.leads_to.result c.leads_to-else-leads_to.result (LeadsTo c.args.one c.args.other) (LeadsTo c.args.other c.args.one)
    c.leads_to.ensures c.leads_to-else-leads_to.ensures c.if-leads_to.false
