use Rattle.std.proofs.Common.{FitsSigned}
use Rattle.std.specs.Int.{w128}
use Rattle.std.proofs.lemmas.Int.{to_z-of_z}
use Rattle.overlay.specs.Contours.Turns.{direction}
use Rattle.overlay.proofs.ContourLemmas.Turns.{before-alike, before-apart}
use Rattle.overlay.proofs.contours.turns.comes_before.Goals as goal

pub returns-then-left-is_left : goal.returns-then-left-is_left
returns-then-left-is_left c = before-apart (direction c.args.back) (direction c.args.one) (direction c.args.other) c.is_left-left.result c.is_left.result c.is_left-left.ensures c.is_left.ensures c.if-left-is_left.true

pub returns : goal.returns
returns c =
    let fits : FitsSigned w128 c.cross_product.result = record { sfits = c.cross_product.type_inv } in
    simp to_z-of_z (before-alike (direction c.args.back) (direction c.args.one) (direction c.args.other) c.is_left-left.result c.is_left.result c.is_left-left.ensures c.is_left.ensures c.if-left-is_left.false c.cross_product.result c.cross_product.ensures.value)
