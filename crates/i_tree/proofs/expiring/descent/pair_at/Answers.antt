use Rattle.std.proofs.Common.{Some, ap}
use Rattle.i_tree.proofs.RbLemmas.Shape.SubtreeHandles.{value_at}
use Rattle.i_tree.proofs.expiring.descent.pair_at.Goals as goal

pub returns-clause-some : goal.returns-clause-some
returns-clause-some g c some front pair back is =
    ap Some (value_at c.args.handle c.args.core.now.shape c.item.result.now (c.item.ensures.core.handles.apart c.args.handle) (c.requires some) c.item.ensures.value front pair back is)
