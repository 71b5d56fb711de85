use Rattle.plane.proofs.MeetLemmas.Boxes.{meet-in_boxes_across}
use Rattle.plane.proofs.meet.meetings_between.Goals as goal

pub pairs_between-requires : goal.pairs_between-requires
pairs_between-requires g c = meet-in_boxes_across
