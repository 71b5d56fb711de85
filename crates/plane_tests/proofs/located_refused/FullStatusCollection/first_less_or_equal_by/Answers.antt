use Rattle.i_tree.specs.Root.Change.Without.{none}
use Rattle.plane_tests.proofs.located_refused.FullStatusCollection.first_less_or_equal_by.Goals as goal

pub returns-clause-kept : goal.returns-clause-kept
returns-clause-kept g c = none
