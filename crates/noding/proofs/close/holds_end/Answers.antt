use Rattle.std.proofs.Common.{rules, w32, FitsSigned}
use Rattle.std.proofs.lemmas.Int.{to_z-of_z}
use Rattle.noding.specs.Close.{InBox}
use Rattle.noding.proofs.ChainLemmas.Close.{both_tested}
use Rattle.noding.proofs.close.holds_end.Goals as goal

pub returns : goal.returns
returns c =
    let edge = c.args.edge in
    let other = c.args.other in
    let x0 : FitsSigned w32 c.args.other.x0 = search rules in
    let y0 : FitsSigned w32 c.args.other.y0 = search rules in
    let x1 : FitsSigned w32 c.args.other.x1 = search rules in
    let y1 : FitsSigned w32 c.args.other.y1 = search rules in
    both_tested c.is_in_box.result c.is_in_box-2.result (InBox edge other.x0 other.y0) (InBox edge other.x1 other.y1) (simp to_z-of_z at c.is_in_box.ensures) (simp to_z-of_z at c.is_in_box-2.ensures)
