use Rattle.i_tree.proofs.key.list.KeyExpListKeyExpCollection.contains_key.Goals as goal

pub returns-clause-cases : goal.returns-clause-cases
returns-clause-cases g c = rw (← c.pairs.ensures.value) c.has_live_key.ensures
