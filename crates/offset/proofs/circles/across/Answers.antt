use Rattle.offset.proofs.CircleLemmas.{across-upto}
use Rattle.offset.proofs.circles.across.Goals as goal

pub returns-clause-upto : goal.returns-clause-upto
returns-clause-upto c = across-upto c.args.radius c.args.parts c.args.step
