use Rattle.horizontal.proofs.below.Goals as goal

pub returns-clause-within : goal.returns-clause-within
returns-clause-within g c place is = (c.append_answers-outcome.ensures.overlap place is).stands.0
