use Rattle.std.proofs.Common.{rules}
use Rattle.itree_c.proofs.places.places_below.Goals as goal

-- the fault is that of the sweep
pub returns-in_err-locate-clause-crossing : goal.returns-in_err-locate-clause-crossing
returns-in_err-locate-clause-crossing c = λ i j is.
    search (rules, c.in_err-locate.ensures.crossing i j)
