use Rattle.std.proofs.Common.{◌∙◌, sym, arith}
use Rattle.std.proofs.lemmas.Bool.{eqb-false}
use Rattle.std.proofs.lemmas.List.{get_or_default}
use Rattle.tiles.proofs.Beyond.{beyond-decides}
use Rattle.tiles.proofs.extent.lies_beyond.Goals as goal

pub returns : goal.returns
returns c =
    let none = eqb-false _ _ (sym c.is_empty.ensures ∙ c.if-is_empty.false) in
    beyond-decides c.args.window c.extent_of.result _ c.args.ring.now c.extent_of.ensures (omega (arith, none)) (λ d. get_or_default c.args.ring.now 0 _ d (omega (arith, none))) c.are_beside.result c.are_beside.ensures
