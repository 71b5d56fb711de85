use Rattle.std.proofs.Common.{◌≡◌, rules}
use Rattle.std.specs.Int.{int_min, int_max}
use Rattle.plane.proofs.MeetLemmas.Kinds.{overlap_tested}
use Rattle.plane.proofs.meet.kinds.ranges_overlap.Goals as goal

pub returns : goal.returns
returns c =
    let low_is : c.max-low.result ≡ int_max (int_min c.args.start c.args.end) (int_min c.args.other_start c.args.other_end) = search rules in
    let high_is : c.min-high.result ≡ int_min (int_max c.args.start c.args.end) (int_max c.args.other_start c.args.other_end) = search rules in
    let tested = overlap_tested c.args.start c.args.end c.args.other_start c.args.other_end c.max-low.result c.min-high.result low_is high_is in
    search rules
