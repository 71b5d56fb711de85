use Rattle.std.proofs.Common.{is_some}
use Rattle.std.proofs.lemmas.Result.{err_from_is_err_and}
use Rattle.i_tree.proofs.ExpiringLemmas.Insertion.{pairs_told}
use Rattle.i_tree.proofs.StatusLemmas.TreeInsertion.{joins_or_leaves, new_or_equal, refused_none}
use Rattle.i_tree.specs.Expiring.Live.{live_pairs}
use Rattle.i_tree.specs.Expiring.Tree.{items}
use Rattle.i_tree.specs.Root.Live.{is_live}
use Rattle.i_tree.proofs.status.tree.StatusTree.insert_between_counted.Goals as goal

pub returns-clause-cases : goal.returns-clause-cases
returns-clause-cases g c =
    rw (c.pairs_beside.ensures.same, ← c.self.view_is)
    (new_or_equal (is_live g.K.ExpiredVal.expiration g.E.Ord.cmp c.args.time) (goal.F-post g c.args.f) (c.args.key, c.args.val) (items c.self.inside.core.shape) (items c.insert_between.new.core.shape) (is_some c.in_ok-told.told)
    c.in_ok-told.ensures.pairs.joins c.in_ok-told.ensures.pairs.equal)

pub returns-clause-ok : goal.returns-clause-ok
returns-clause-ok g c =
    rw (c.pairs_beside.ensures.same, ← c.self.view_is)
    (joins_or_leaves (is_live g.K.ExpiredVal.expiration g.E.Ord.cmp c.args.time) (goal.F-post g c.args.f) (c.args.key, c.args.val) (items c.self.inside.core.shape) (items c.insert_between.new.core.shape) (is_some c.in_ok-told.told)
    c.in_ok-told.ensures.pairs.joins)

pub returns-clause-neighbours : goal.returns-clause-neighbours
returns-clause-neighbours g c =
    rw (← c.self.view_is)
    (pairs_told (goal.F-post g c.args.f) (live_pairs g.K.ExpiredVal.expiration g.E.Ord.cmp c.args.time (items c.self.inside.core.shape)) c.insert_between.new.core.shape c.in_ok-told.told c.pairs_beside.result c.pairs_beside.ensures.same
    c.in_ok-told.ensures.neighbours c.pairs_beside.ensures.found)

pub returns-clause-inserts : goal.returns-clause-inserts
returns-clause-inserts g c =
    rw (c.pairs_beside.ensures.same, ← c.self.view_is) c.in_ok-told.ensures.inserts

pub returns-clause-steps : goal.returns-clause-steps
returns-clause-steps g c = rw (c.pairs_beside.ensures.same, ← c.self.view_is) c.in_ok-told.ensures.steps

pub returns-in_err-told-clause-err_new : goal.returns-in_err-told-clause-err_new
returns-in_err-told-clause-err_new g c =
    let p = err_from_is_err_and c.from_residual.result c.from_residual.ensures.1 in
    rw (p.1, ← c.self.view_is)
    (refused_none (is_live g.K.ExpiredVal.expiration g.E.Ord.cmp c.args.time) (goal.F-post g c.args.f) (items c.self.inside.core.shape) c.in_err-told.ensures.pairs.refused)
