use Rattle.plane.proofs.MeetLemmas.Boxes.{meet-in_boxes}
use Rattle.plane.proofs.meet.first_meeting.Goals as goal

pub first_pair-requires : goal.first_pair-requires
first_pair-requires g c = meet-in_boxes
