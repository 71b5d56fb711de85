use Rattle.std.proofs.Common.{rules, w32, FitsSigned, subst}
use Rattle.std.proofs.lemmas.Int.{to_z-of_z}
use Rattle.std.specs.Bool.{MatchBool}
use Rattle.plane.specs.Meet.Kinds.{HasPoint}
use Rattle.plane.specs.declared.point.Point.{Point}
use Rattle.noding.proofs.moved.lies_on.Goals as goal

pub returns : goal.returns
returns c =
    let x : FitsSigned w32 c.point_of-point.result.x = search rules in
    let y : FitsSigned w32 c.point_of-point.result.y = search rules in
    subst (λ (point : Point). MatchBool c.has_point.result (HasPoint c.args.edge point.x point.y) (¬ (HasPoint c.args.edge point.x point.y))) c.point_of-point.ensures (simp to_z-of_z at c.has_point.ensures)
