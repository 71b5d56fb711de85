use Rattle.i_tree.specs.Seg.Copies.{copies_in}
use Rattle.i_tree.proofs.SegLemmas.Alive.{members_in-live}
use Rattle.i_tree.proofs.seg.tree.SegExpTree.latest_time.Goals as goal

pub returns-clause-live : goal.returns-clause-live
returns-clause-live g c =
    rw (← c.self.view_is) (members_in-live g.V.ExpiredVal.expiration g.E.Ord.cmp c.self.inside.latest (copies_in c.self.inside.chunks.items))
