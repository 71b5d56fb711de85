use Rattle.i_tree.proofs.SetLemmas.Positions.{AreApart-viewed}
use Rattle.i_tree.proofs.set.list.SetList.spare.Goals as goal

pub returns-clause-handles : goal.returns-clause-handles
returns-clause-handles g c = AreApart-viewed c.self.view_is c.self.invariant
