use Rattle.plane.proofs.MeetLemmas.Boxes.{meet-in_boxes}
use Rattle.plane_tests.proofs.budgets.found.Goals as goal

pub pairs_within_budget-requires : goal.pairs_within_budget-requires
pairs_within_budget-requires g c = meet-in_boxes
