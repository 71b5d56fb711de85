use Rattle.std.proofs.Common.{rules, w32, FitsSigned}
use Rattle.std.proofs.lemmas.Int.{to_z-of_z}
use Rattle.noding.specs.Chains.{IsEnd}
use Rattle.noding.proofs.ChainLemmas.Close.{either_tested, first_tested}
use Rattle.noding.proofs.crossings.is_end_of_one.Goals as goal

pub returns-then-is_end : goal.returns-then-is_end
returns-then-is_end c =
    let point = c.args.point in
    let x : FitsSigned w32 c.args.point.x = search rules in
    let y : FitsSigned w32 c.args.point.y = search rules in
    first_tested c.is_end.result (IsEnd c.args.one point.x point.y) (IsEnd c.args.other point.x point.y) (simp to_z-of_z at c.is_end.ensures) c.if-is_end.true

pub returns-else-is_end : goal.returns-else-is_end
returns-else-is_end c =
    let point = c.args.point in
    let x : FitsSigned w32 c.args.point.x = search rules in
    let y : FitsSigned w32 c.args.point.y = search rules in
    either_tested c.is_end.result c.is_end-else-is_end.result (IsEnd c.args.one point.x point.y) (IsEnd c.args.other point.x point.y)
    (simp to_z-of_z at c.is_end.ensures) (simp to_z-of_z at c.is_end-else-is_end.ensures) c.if-is_end.false
