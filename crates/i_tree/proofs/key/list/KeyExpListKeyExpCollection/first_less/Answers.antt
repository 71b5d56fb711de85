use Rattle.i_tree.proofs.key.list.KeyExpListKeyExpCollection.first_less.Goals as goal

-- what is searched is what is live
pub returns-clause-value : goal.returns-clause-value
returns-clause-value g c = rw (← c.remove_expired.ensures.leaves.keeps_live, ← c.pairs.ensures.value) c.value_below.ensures
