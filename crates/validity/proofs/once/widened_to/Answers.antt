use Rattle.std.proofs.Common.{arith}
use Rattle.std.proofs.lemmas.Int.{to_z-of_z}
use Rattle.validity.proofs.once.widened_to.Goals as goal

pub returns : goal.returns
returns c =
    let a = c.max.ensures.value in
    let b = c.min.ensures.value in
    let d = c.max-2.ensures.value in
    let e = c.min-2.ensures.value in
    grind (arith, to_z-of_z)
