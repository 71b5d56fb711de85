use Rattle.std.proofs.lemmas.Bool.{MatchBool-at_true}
use Rattle.plane.proofs.pairs.pairs_among.Goals as goal

pub returns-clause-ok : goal.returns-clause-ok
returns-clause-ok g c = MatchBool-at_true _ _ (c.in_ok-pairs_within_budget.ensures.unlimited c.unlimited.ensures) c.in_ok-pairs_within_budget.ensures.ok
