use Rattle.std.proofs.Common.{rules, w32, FitsSigned}
use Rattle.std.proofs.lemmas.Int.{to_z-of_z}
use Rattle.noding.proofs.ChainLemmas.Close.{ShareEnd-tested}
use Rattle.noding.proofs.close.share_end.Goals as goal

pub returns-else-is_end : goal.returns-else-is_end
returns-else-is_end c =
    let x0 : FitsSigned w32 c.args.other.x0 = search rules in
    let y0 : FitsSigned w32 c.args.other.y0 = search rules in
    let x1 : FitsSigned w32 c.args.other.x1 = search rules in
    let y1 : FitsSigned w32 c.args.other.y1 = search rules in
    ShareEnd-tested c.args.one c.args.other c.is_end.result c.is_end-else-is_end.result (simp to_z-of_z at c.is_end.ensures) (simp to_z-of_z at c.is_end-else-is_end.ensures) c.if-is_end.false
