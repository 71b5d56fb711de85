use Rattle.std.proofs.Common.{rules}
use Rattle.plane.specs.Meet.Boxes.{RangesMeet}
use Rattle.plane.proofs.MeetLemmas.Boxes.{boxes_tested}
use Rattle.plane.proofs.meet.exact.boxes_meet.Goals as goal

pub returns-then-not-ranges_meet : goal.returns-then-not-ranges_meet
returns-then-not-ranges_meet c =
    let apart : ¬ (RangesMeet c.args.one.x0 c.args.one.x1 c.args.other.x0 c.args.other.x1) = search rules in
    λ boxes. apart boxes.x

pub returns : goal.returns
returns c = boxes_tested c.args.one c.args.other c.ranges_meet-2.result (search rules) (search rules)
