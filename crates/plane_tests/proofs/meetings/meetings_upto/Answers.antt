use Rattle.plane.proofs.MeetLemmas.Boxes.{meet-in_boxes}
use Rattle.plane_tests.proofs.meetings.meetings_upto.Goals as goal

pub pairs_upto-requires : goal.pairs_upto-requires
pairs_upto-requires g c = meet-in_boxes
