use Rattle.i_tree.proofs.ExpiringLemmas.Search.{answer_at_most}
use Rattle.i_tree.specs.Expiring.Tree.{items}
use Rattle.i_tree.specs.Rb.Place.{place_below}
use Rattle.i_tree.specs.Root.Live.{is_live}
use Rattle.i_tree.proofs.status.tree.StatusTree.first_less_or_equal_by_counted.Goals as goal

pub returns-clause-value : goal.returns-clause-value
returns-clause-value g c =
    rw (← c.self.view_is)
    (answer_at_most (is_live g.K.ExpiredVal.expiration g.E.Ord.cmp c.args.time) (goal.F-post g c.args.f) c.descend-end.new.core.shape (place_below c.descend-end.result.above c.descend-end.result.on_right) c.descend-end.result.last c.descend-end.result.said c.descend-end.result.next c.descend-end.ensures.end
    (items c.self.inside.core.shape) c.descend-end.ensures.kept c.args.default c.value_at.result (record { none_empty = c.descend-end.ensures.core.handles.none_empty; none = c.value_at.ensures.none; some = c.value_at.ensures.some }))

pub returns-clause-kept : goal.returns-clause-kept
returns-clause-kept g c = rw (← c.self.view_is) c.descend-end.ensures.kept
