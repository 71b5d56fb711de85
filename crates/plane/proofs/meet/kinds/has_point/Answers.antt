use Rattle.std.proofs.Common.{w32, FitsSigned}
use Rattle.std.proofs.lemmas.Int.{to_z-of_z}
use Rattle.plane.proofs.MeetLemmas.Kinds.{point_tested}
use Rattle.plane.proofs.meet.kinds.has_point.Goals as goal

pub returns : goal.returns
returns c =
    let x : FitsSigned w32 c.args.x = c.ranges.x in
    let y : FitsSigned w32 c.args.y = c.ranges.y in
    let tested = simp to_z-of_z at c.meet.ensures in
    point_tested c.args.edge c.args.x c.args.y c.meet.result tested
