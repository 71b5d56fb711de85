use Rattle.std.proofs.Common.{rules, w32, FitsSigned}
use Rattle.std.proofs.lemmas.Int.{to_z-of_z}
use Rattle.plane.specs.Meet.Kinds.{HasPoint}
use Rattle.noding.specs.Chains.{IsEnd}
use Rattle.noding.proofs.ColumnLemmas.Ends.{held_tested}
use Rattle.noding.proofs.columns.ends.lies_inside.Goals as goal

pub returns : goal.returns
returns c =
    let point = c.args.point in
    let x : FitsSigned w32 c.args.point.x = search rules in
    let y : FitsSigned w32 c.args.point.y = search rules in
    let none : ¬ (IsEnd c.args.edge point.x point.y) = simp to_z-of_z at c.if-is_end.ensures in
    held_tested c.has_point.result (HasPoint c.args.edge point.x point.y) (¬ (IsEnd c.args.edge point.x point.y)) none (simp to_z-of_z at c.has_point.ensures)
