use Rattle.std.proofs.Common.{rules, w32, FitsSigned}
use Rattle.std.proofs.lemmas.Int.{to_z-of_z}
use Rattle.noding.proofs.stops.passes_crossing.Goals as goal

pub returns-then-is_of_crossing : goal.returns-then-is_of_crossing
returns-then-is_of_crossing c = c.requires c.if-is_of_crossing.ensures

pub returns : goal.returns
returns c =
    let x : FitsSigned w32 c.args.crossing.point.x = search rules in
    let y : FitsSigned w32 c.args.crossing.point.y = search rules in
    simp to_z-of_z at c.passes_inside.ensures
