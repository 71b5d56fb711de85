use Rattle.i_tree.proofs.SetLemmas.Live.{HasHandle-before}
use Rattle.i_tree.proofs.SetLemmas.Positions.{AreApart-viewed, last_handle_is}
use Rattle.i_tree.specs.Set.SetList.{numbered}
use Rattle.i_tree.proofs.set.list.SetListSetCollection.index_before.Goals as goal

pub returns-clause-value : goal.returns-clause-value
returns-clause-value g c front value back cut =
    last_handle_is c.args.self.now.values front c.args.index value back c.position_before.result cut c.position_before.ensures.first c.position_before.ensures.later

pub returns-clause-live : goal.returns-clause-live
returns-clause-live g c = HasHandle-before (numbered c.args.self.now.values) c.args.index c.position_before.result c.requires (returns-clause-value g c)

pub returns-clause-handles : goal.returns-clause-handles
returns-clause-handles g c = AreApart-viewed c.self.view_is c.self.invariant
