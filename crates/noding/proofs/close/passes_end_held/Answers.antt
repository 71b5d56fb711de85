use Rattle.std.proofs.Common.{rules, w32, FitsSigned}
use Rattle.std.proofs.lemmas.Int.{to_z-of_z}
use Rattle.noding.specs.Close.{PassesInside}
use Rattle.noding.proofs.ChainLemmas.Close.{either_tested, first_tested}
use Rattle.noding.proofs.close.passes_end_held.Goals as goal

pub returns-then-passes_inside : goal.returns-then-passes_inside
returns-then-passes_inside c =
    let edge = c.args.edge in
    let other = c.args.other in
    let x0 : FitsSigned w32 c.args.other.x0 = search rules in
    let y0 : FitsSigned w32 c.args.other.y0 = search rules in
    first_tested c.passes_inside.result (PassesInside edge other.x0 other.y0) (PassesInside edge other.x1 other.y1) (simp to_z-of_z at c.passes_inside.ensures) c.if-passes_inside.true

pub returns-else-passes_inside : goal.returns-else-passes_inside
returns-else-passes_inside c =
    let edge = c.args.edge in
    let other = c.args.other in
    let x0 : FitsSigned w32 c.args.other.x0 = search rules in
    let y0 : FitsSigned w32 c.args.other.y0 = search rules in
    let x1 : FitsSigned w32 c.args.other.x1 = search rules in
    let y1 : FitsSigned w32 c.args.other.y1 = search rules in
    either_tested c.passes_inside.result c.passes_inside-else-passes_inside.result (PassesInside edge other.x0 other.y0) (PassesInside edge other.x1 other.y1)
    (simp to_z-of_z at c.passes_inside.ensures) (simp to_z-of_z at c.passes_inside-else-passes_inside.ensures) c.if-passes_inside.false
