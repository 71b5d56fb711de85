use Rattle.noding.proofs.ColumnLemmas.Ends.{ends-sorted}
use Rattle.noding.proofs.columns.hot_points.ends_in_order.Goals as goal

pub returns : goal.returns
returns g c =
    ends-sorted c.args.edges.now c.new-points.result.items c.push_ends.new.points.items c.sort_points.new.points.items c.new-points.ensures.items c.in_ok-push_ends.ensures c.in_ok-sort_points.ensures
