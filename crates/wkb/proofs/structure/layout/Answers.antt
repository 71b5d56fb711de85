use Rattle.wkb.proofs.Lying.{given_lie}
use Rattle.wkb.proofs.structure.layout.Goals as goal

pub returns-else-is_err-clause-lies : goal.returns-else-is_err-clause-lies
returns-else-is_err-clause-lies g c = given_lie c.whole-found.result c.args.most_nested c.args.bytes.now c.whole-found.new.rings.items c.whole-found.ensures
