use Rattle.noding.proofs.beside.first_beside.Goals as goal

pub returns-then-none_before-clause-before : goal.returns-then-none_before-clause-before
returns-then-none_before-clause-before c = c.none_before.ensures.before c.if-none_before.true
