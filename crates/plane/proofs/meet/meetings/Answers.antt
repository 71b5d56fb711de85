use Rattle.plane.proofs.MeetLemmas.Boxes.{meet-in_boxes}
use Rattle.plane.proofs.meet.meetings.Goals as goal

pub pairs_within_budget-requires : goal.pairs_within_budget-requires
pairs_within_budget-requires g c = meet-in_boxes
