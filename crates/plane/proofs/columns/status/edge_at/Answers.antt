use Rattle.plane.proofs.ColumnLemmas.StatusEntries.{read_is_among}
use Rattle.plane.proofs.columns.status.edge_at.Goals as goal

pub returns : goal.returns
returns g c =
    read_is_among c.args.tree.now.shape c.args.handle c.item.result.now c.item.ensures.core.handles (c.requires c.if-handle-eq-EMPTY_REF.false) c.item.ensures.value
