use Rattle.i_tree.proofs.RootLemmas.Withouts.{IsRising-without}
use Rattle.i_tree.proofs.key.list.KeyExpList.remove_expired.Goals as goal

pub invariant_of-self : goal.invariant_of-self
invariant_of-self g c = IsRising-without g.K.Ord.cmp c.remove_expired.ensures.kept c.self.invariant

pub returns-clause-rising : goal.returns-clause-rising
returns-clause-rising g c = IsRising-without g.K.Ord.cmp c.remove_expired.ensures.kept c.self.invariant
