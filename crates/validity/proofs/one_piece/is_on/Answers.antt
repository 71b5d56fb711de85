use Rattle.std.proofs.Common.{rules, w32, FitsSigned}
use Rattle.std.proofs.lemmas.Int.{to_z-of_z}
use Rattle.validity.proofs.one_piece.is_on.Goals as goal

pub returns : goal.returns
returns c =
    let x : FitsSigned w32 c.args.point.x = search rules in
    let y : FitsSigned w32 c.args.point.y = search rules in
    simp to_z-of_z at c.has_point.ensures
