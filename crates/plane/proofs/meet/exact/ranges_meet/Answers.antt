use Rattle.std.proofs.Common.{rules}
use Rattle.plane.proofs.MeetLemmas.Boxes.{ranges_tested}
use Rattle.plane.proofs.meet.exact.ranges_meet.Goals as goal

pub returns-then-min-max : goal.returns-then-min-max
returns-then-min-max c =
    let tested = ranges_tested c.args.start c.args.end c.args.other_start c.args.other_end c.min.result c.max-then-min-max.result c.min-then-min-max.result c.max.result
    (search rules) (search rules) (search rules) (search rules) (search rules) in
    search rules
