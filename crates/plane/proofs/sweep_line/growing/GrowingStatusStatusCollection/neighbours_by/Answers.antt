use Rattle.plane.proofs.sweep_line.growing.GrowingStatusStatusCollection.neighbours_by.Goals as goal

pub returns-then-self-clause-value : goal.returns-then-self-clause-value
returns-then-self-clause-value g c = rw (← c.self.view_is, c.if-self.true) c.neighbours_by.ensures.value

pub returns-clause-value : goal.returns-clause-value
returns-clause-value g c = rw (← c.self.view_is, c.if-self.false) c.neighbours_by-2.ensures.value
