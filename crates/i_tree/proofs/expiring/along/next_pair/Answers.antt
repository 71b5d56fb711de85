use Rattle.std.proofs.Common.{Some, ap, ◌∙◌, refl, sym}
use Rattle.std.proofs.lemmas.Option.{slice_get-get_or}
use Rattle.i_tree.proofs.expiring.along.next_pair.Goals as goal

pub returns-in-Some-clause-next : goal.returns-in-Some-clause-next
returns-in-Some-clause-next g c inside =
    let pair = c.in-Some.pair.now in
    (pair, slice_get-get_or c.args.pairs.now c.args.count pair inside ∙ ap Some (sym ((c.in-Some.ensures).lookup.3.1 pair)), refl)
