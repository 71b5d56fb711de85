use Rattle.i_tree.proofs.KeyLemmas.Search.{answer_above_by}
use Rattle.i_tree.proofs.RootLemmas.Withouts.{IsRising-without}
use Rattle.i_tree.specs.Expiring.Tree.{items}
use Rattle.i_tree.specs.Rb.Place.{place_below}
use Rattle.i_tree.specs.Root.Live.{is_live}
use Rattle.i_tree.proofs.key.tree.KeyExpTree.first_greater_by_counted.Goals as goal

pub returns-clause-value : goal.returns-clause-value
returns-clause-value g c =
    rw (← c.self.view_is)
    (answer_above_by g.met.K.Ord.total (is_live g.K.ExpiredKey.expiration g.E.Ord.cmp c.args.time) (items c.self.inside.core.shape) c.self.invariant (goal.F-post g c.args.f) c.descend-end.new.core.shape (place_below c.descend-end.result.above c.descend-end.result.on_right) c.descend-end.result.last c.descend-end.result.said c.descend-end.result.next
    c.descend-end.ensures.kept c.args.default c.value_at.result c.descend-end.ensures.end (record { none_empty = c.descend-end.ensures.core.handles.none_empty; none = c.value_at.ensures.none; some = c.value_at.ensures.some }))

pub invariant_of-self : goal.invariant_of-self
invariant_of-self g c = IsRising-without g.K.Ord.cmp c.descend-end.ensures.kept c.self.invariant

pub returns-clause-rising : goal.returns-clause-rising
returns-clause-rising g c = IsRising-without g.K.Ord.cmp c.descend-end.ensures.kept c.self.invariant

pub returns-clause-kept : goal.returns-clause-kept
returns-clause-kept g c = rw (← c.self.view_is) c.descend-end.ensures.kept
