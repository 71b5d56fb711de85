use Rattle.plane.proofs.sweep_line.growing.GrowingStatusStatusCollection.insert_by.Goals as goal

pub returns-clause-cases : goal.returns-clause-cases
returns-clause-cases g c = rw c.is_some.ensures c.in_ok-insert_between.ensures.cases
