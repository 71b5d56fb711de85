use Rattle.std.proofs.Common.{rules, w32, FitsSigned}
use Rattle.std.proofs.lemmas.Int.{to_z-of_z}
use Rattle.noding.proofs.SnapLemmas.Passing.{reversed_tested}
use Rattle.noding.proofs.passing.passes.Goals as goal

pub returns-then-edge : goal.returns-then-edge
returns-then-edge c =
    let x : FitsSigned w32 c.args.x = search rules in
    let y : FitsSigned w32 c.args.y = search rules in
    reversed_tested c.args.edge c.reverse.result c.args.x c.args.y c.passes_rightwards.result c.reverse.ensures (simp to_z-of_z at c.passes_rightwards.ensures)

pub returns : goal.returns
returns c =
    let x : FitsSigned w32 c.args.x = search rules in
    let y : FitsSigned w32 c.args.y = search rules in
    simp to_z-of_z at c.passes_rightwards-2.ensures
