use Rattle.std.proofs.Common.{inl, rules, w32, FitsSigned}
use Rattle.std.proofs.lemmas.Int.{to_z-of_z}
use Rattle.plane.proofs.MeetLemmas.Kinds.{end_tested}
use Rattle.plane.proofs.meet.kinds.has_end_of.Goals as goal

pub returns-then-has_point : goal.returns-then-has_point
returns-then-has_point c =
    let x0 : FitsSigned w32 c.args.other.x0 = search rules in
    let y0 : FitsSigned w32 c.args.other.y0 = search rules in
    inl (simp to_z-of_z at c.if-has_point.ensures)

pub returns : goal.returns
returns c =
    let x0 : FitsSigned w32 c.args.other.x0 = search rules in
    let y0 : FitsSigned w32 c.args.other.y0 = search rules in
    let x1 : FitsSigned w32 c.args.other.x1 = search rules in
    let y1 : FitsSigned w32 c.args.other.y1 = search rules in
    let none = simp to_z-of_z at c.if-has_point.ensures in
    let tested = simp to_z-of_z at c.has_point-2.ensures in
    end_tested c.args.one c.args.other c.has_point-2.result none tested
