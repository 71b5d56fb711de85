use Rattle.std.proofs.Common.{◌≡◌, ◌-◌, Some, get_or, take, subst, ap, ◌∙◌, arith, refl, sym}
use Rattle.std.proofs.lemmas.List.{length-take-le, get_or-take}
use Rattle.std.proofs.lemmas.Option.{slice_get-get_or}
use Rattle.i_tree.proofs.expiring.along.last_pair.Goals as goal

pub returns-in-Some-clause-last : goal.returns-in-Some-clause-last
returns-in-Some-clause-last g c some =
    let pair = c.in-Some.pair.now in
    let pairs = c.args.pairs.now in
    let count = c.args.count in
    let is : pair ≡ get_or pairs (count - 1) pair =
    subst (λ n. pair ≡ get_or (take count pairs) (n - 1) pair) (length-take-le count pairs c.requires) (c.in-Some.ensures).item.1 ∙ get_or-take count pairs (count - 1) pair (omega arith) in
    (pair, slice_get-get_or pairs (count - 1) pair (omega arith) ∙ ap Some (sym is), refl)
