use Rattle.i_tree.proofs.ExpiringLemmas.Insertion.{IfOk-joined, OnErr-joined}
use Rattle.std.proofs.lemmas.Result.{on_err_weaker}
use Rattle.i_tree.proofs.RootLemmas.Results.{IfOk-both}
use Rattle.i_tree.proofs.StatusLemmas.TreeInsertion.{joins_or_leaves, new_or_equal, refused_none}
use Rattle.i_tree.specs.Expiring.Insertion.{has_joined}
use Rattle.i_tree.specs.Expiring.Tree.{items}
use Rattle.i_tree.specs.Root.Live.{is_live}
use Rattle.i_tree.proofs.status.tree.StatusTree.insert_by_counted.Goals as goal

pub returns-clause-cases : goal.returns-clause-cases
returns-clause-cases g c =
    rw (c.has_joined.ensures, ← c.self.view_is)
    (IfOk-both (has_joined c.insert_between.result) c.insert_between.ensures.pairs.joins c.insert_between.ensures.pairs.equal
    (new_or_equal (is_live g.K.ExpiredVal.expiration g.E.Ord.cmp c.args.time) (goal.F-post g c.args.f) (c.args.key, c.args.val) (items c.self.inside.core.shape) (items c.insert_between.new.core.shape)))

pub returns-clause-ok : goal.returns-clause-ok
returns-clause-ok g c =
    rw (c.has_joined.ensures, ← c.self.view_is)
    (IfOk-both (has_joined c.insert_between.result) c.insert_between.ensures.pairs.joins c.insert_between.ensures.pairs.equal
    (λ is_new joins equal. joins_or_leaves (is_live g.K.ExpiredVal.expiration g.E.Ord.cmp c.args.time) (goal.F-post g c.args.f) (c.args.key, c.args.val) (items c.self.inside.core.shape) (items c.insert_between.new.core.shape) is_new joins))

pub returns-clause-err_new : goal.returns-clause-err_new
returns-clause-err_new g c =
    rw (c.has_joined.ensures, ← c.self.view_is)
    (on_err_weaker (has_joined c.insert_between.result)
    (refused_none (is_live g.K.ExpiredVal.expiration g.E.Ord.cmp c.args.time) (goal.F-post g c.args.f) (items c.self.inside.core.shape)) c.insert_between.ensures.pairs.refused)

pub returns-clause-inserts : goal.returns-clause-inserts
returns-clause-inserts g c =
    rw (c.has_joined.ensures, ← c.self.view_is) c.insert_between.ensures.inserts

pub returns-clause-steps : goal.returns-clause-steps
returns-clause-steps g c = rw (c.has_joined.ensures, ← c.self.view_is) (IfOk-joined c.insert_between.result _ c.insert_between.ensures.steps)

pub returns-clause-err_steps : goal.returns-clause-err_steps
returns-clause-err_steps g c = rw (c.has_joined.ensures, ← c.self.view_is) (OnErr-joined c.insert_between.result _ c.insert_between.ensures.err_steps)
