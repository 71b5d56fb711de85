use Rattle.std.proofs.Common.{refl}
use Rattle.tiles.proofs.JoinSides.{all-apart, all-beside}
use Rattle.tiles.proofs.JoinTests.{not-true}
use Rattle.tiles.proofs.whole.whole_of.Goals as goal

pub returns-then-not-are_all_beside-clause-fault : goal.returns-then-not-are_all_beside-clause-fault
returns-then-not-are_all_beside-clause-fault c =
    let some = c.if-not-have_points.ensures.0 refl in
    (some, λ apart. not-true (c.if-not-are_all_beside.ensures.1 (all-beside c.args.windows.now some apart)))

pub returns-clause-ok : goal.returns-clause-ok
returns-clause-ok c = (
  c.if-not-have_points.ensures.0 refl,
  all-apart c.args.windows.now (c.if-not-are_all_beside.ensures.0 refl),
  c.made_up.ensures,
)
