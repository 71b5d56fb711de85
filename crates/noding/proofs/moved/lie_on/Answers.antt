use Rattle.std.proofs.Common.{rules, w32, FitsSigned}
use Rattle.std.proofs.lemmas.Int.{to_z-of_z}
use Rattle.plane.specs.Meet.Kinds.{HasPoint}
use Rattle.noding.proofs.ChainLemmas.Local.{both_tested, first_fails}
use Rattle.noding.proofs.moved.lie_on.Goals as goal

pub returns-then-has_point : goal.returns-then-has_point
returns-then-has_point c =
    let point = c.args.point in
    let x : FitsSigned w32 c.args.point.x = search rules in
    let y : FitsSigned w32 c.args.point.y = search rules in
    both_tested _ (HasPoint c.args.one point.x point.y) (HasPoint c.args.other point.x point.y)
    (simp to_z-of_z at c.if-has_point.ensures) (simp to_z-of_z at c.has_point-then-has_point.ensures)

pub returns-else-has_point : goal.returns-else-has_point
returns-else-has_point c =
    let point = c.args.point in
    let x : FitsSigned w32 c.args.point.x = search rules in
    let y : FitsSigned w32 c.args.point.y = search rules in
    first_fails c.has_point.result (HasPoint c.args.one point.x point.y) (HasPoint c.args.other point.x point.y) (simp to_z-of_z at c.has_point.ensures) c.if-has_point.false
