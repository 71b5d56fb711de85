use Rattle.plane.proofs.sweep_line.growing.GrowingStatusStatusCollection.first_less_or_equal_by.Goals as goal

pub returns-then-self-clause-value : goal.returns-then-self-clause-value
returns-then-self-clause-value g c = rw (← c.self.view_is, c.if-self.true) c.first_less_or_equal_by.ensures.value

pub returns-clause-value : goal.returns-clause-value
returns-clause-value g c = rw (← c.self.view_is, c.if-self.false) c.first_less_or_equal_by-2.ensures.value
