use Rattle.i_tree.proofs.status.list.StatusListStatusCollection.neighbours_by.Goals as goal

pub returns-clause-value : goal.returns-clause-value
returns-clause-value g c = rw (← c.self.view_is, ← c.remove_expired.ensures.leaves.keeps_live, ← c.pairs.ensures) c.neighbours.ensures
