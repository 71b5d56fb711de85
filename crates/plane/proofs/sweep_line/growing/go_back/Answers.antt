-- No more pairs have gone back than the tree held, for which and for one more there is room.
use Rattle.std.proofs.Common.{ap, length, arith}
use Rattle.i_tree.proofs.RootLemmas.Lists.{length-filter_le}
use Rattle.i_tree.specs.Expiring.Tree.{items}
use Rattle.i_tree.specs.Root.Live.{is_live}
use Rattle.plane.proofs.sweep_line.growing.go_back.Goals as goal

pub returns-clause-room : goal.returns-clause-room
returns-clause-room g c =
    let lives = λ (pair : g.row.K.Denot × g.row.V.Denot). is_live g.K.ExpiredVal.expiration g.E.Ord.cmp c.args.time pair.0 in
    let gone = ap length c.in_default.ensures.ok in
    omega (arith, c.in_ok-reserve_capacity.ensures.room, c.append_live.ensures.room, c.stored.ensures.value, gone, length-filter_le lives (items c.args.many.now.shape))
