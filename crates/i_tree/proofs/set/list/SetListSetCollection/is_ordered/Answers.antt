use Rattle.i_tree.proofs.SetLemmas.Positions.{AreApart-viewed}
use Rattle.i_tree.proofs.set.list.SetListSetCollection.is_ordered.Goals as goal

pub returns-clause-cases : goal.returns-clause-cases
returns-clause-cases g c = rw (← c.self.view_is, ← c.deref.ensures.value) c.keys_rise.ensures

pub returns-clause-handles : goal.returns-clause-handles
returns-clause-handles g c = AreApart-viewed c.self.view_is c.self.invariant
