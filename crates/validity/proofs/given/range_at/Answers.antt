use Rattle.std.proofs.Common.{arith}
use Rattle.tiles.proofs.JoinLists.{AreEnds-at}
use Rattle.validity.proofs.given.range_at.Goals as goal

pub returns-clause-within : goal.returns-clause-within
returns-clause-within c = λ count right.
    let (onwards, inside) = AreEnds-at 0 c.args.ends.now count c.args.place right c.requires in
    (omega (arith, onwards), inside)
