use Rattle.noding.specs.Stops.{LiesOn}
use Rattle.noding.proofs.ChainLemmas.Kept.{other_fails}
use Rattle.noding.proofs.moved.is_kept.Goals as goal

pub returns-else-is_moved : goal.returns-else-is_moved
returns-else-is_moved c = other_fails c.args.is_moved c.lies_on.result (LiesOn c.args.edge c.args.stop) c.if-is_moved.false c.lies_on.ensures
