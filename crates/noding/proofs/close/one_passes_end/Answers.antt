use Rattle.noding.specs.Close.{PassesEnd}
use Rattle.noding.proofs.ChainLemmas.Close.{either_tested, first_tested}
use Rattle.noding.proofs.close.one_passes_end.Goals as goal

pub returns-then-passes_end : goal.returns-then-passes_end
returns-then-passes_end c =
    first_tested c.passes_end.result (PassesEnd c.args.one c.args.other) (PassesEnd c.args.other c.args.one) c.passes_end.ensures c.if-passes_end.true

pub returns-else-passes_end : goal.returns-else-passes_end
returns-else-passes_end c =
    either_tested c.passes_end.result c.passes_end-else-passes_end.result (PassesEnd c.args.one c.args.other) (PassesEnd c.args.other c.args.one)
    c.passes_end.ensures c.passes_end-else-passes_end.ensures c.if-passes_end.false
