use Rattle.std.proofs.Common.{is_some, rules}
use Rattle.std.proofs.lemmas.Result.{MatchResult-from_err}
use Rattle.i_tree.specs.Expiring.Tree.{items}
use Rattle.i_tree.specs.Root.Live.{is_live}
use Rattle.plane.proofs.SweepLineLemmas.Growing.{IfSome-weaker, JoinsOrLeaves-as, held_by_one, passes_joined}
use Rattle.plane.proofs.sweep_line.growing.GrowingStatusStatusCollection.insert_between.Goals as goal

pub returns-in_err-told-clause-err_new : goal.returns-in_err-told-clause-err_new
returns-in_err-told-clause-err_new g c =
    rw (← c.self.view_is, c.if-self.false)
    (MatchResult-from_err c.from_residual-in_err-told.result _ _ c.from_residual-in_err-told.ensures.0 (λ _. c.in_err-told.ensures.err_new))

pub go_over_if_many-self-inside-requires-clause-live : goal.go_over_if_many-self-inside-requires-clause-live
go_over_if_many-self-inside-requires-clause-live g c =
    passes_joined (λ pair. is_live g.K.ExpiredVal.expiration g.E.Ord.cmp c.args.time pair.0) (c.args.key, c.args.val) c.self.inside.few.pairs
    c.insert_near.new.self.pairs (is_some c.in_ok-told.told) c.in_ok-told.ensures.inserts.keeps_live

pub returns-clause-cases : goal.returns-clause-cases
returns-clause-cases g c = rw (← c.self.view_is, c.if-self.false) c.in_ok-told.ensures.cases

pub returns-clause-ok : goal.returns-clause-ok
returns-clause-ok g c =
    let over = c.go_over_if_many-self-inside in
    rw (held_by_one over.result over.new.few.pairs (items over.new.many.shape) c.insert_near.new.self.pairs over.ensures.gone, ← c.self.view_is, c.if-self.false)
    c.in_ok-told.ensures.ok

pub returns-clause-neighbours : goal.returns-clause-neighbours
returns-clause-neighbours g c = rw (← c.self.view_is, c.if-self.false) c.in_ok-told.ensures.neighbours

-- the closure that the tree asks answers as the one that it calls
pub returns-in-Ok-clause-cases : goal.returns-in-Ok-clause-cases
returns-in-Ok-clause-cases g c =
    rw (← c.self.view_is, c.if-self.true)
    (λ order answers monotone. c.in-Ok.ensures.cases order (λ k d inside answer says. answers k d inside answer (search rules)) monotone)

pub returns-in-Ok-clause-ok : goal.returns-in-Ok-clause-ok
returns-in-Ok-clause-ok g c =
    rw (← c.self.view_is, c.if-self.true)
    (JoinsOrLeaves-as _ _ (λ key answer says. search rules) _ (is_some c.in-Ok.told) (c.args.key, c.args.val) (items c.self.inside.many.shape) _ c.in-Ok.ensures.ok)

pub returns-in-Ok-clause-neighbours : goal.returns-in-Ok-clause-neighbours
returns-in-Ok-clause-neighbours g c =
    rw (← c.self.view_is, c.if-self.true)
    (IfSome-weaker c.in-Ok.told _ _ (λ found tells order answers monotone. tells order (λ k d inside answer says. answers k d inside answer (search rules)) monotone)
    c.in-Ok.ensures.neighbours)

pub returns-in-Err-OutOfMemory-clause-err_new : goal.returns-in-Err-OutOfMemory-clause-err_new
returns-in-Err-OutOfMemory-clause-err_new g c =
    rw (← c.self.view_is, c.if-self.true)
    (λ order answers monotone. c.in-Err-OutOfMemory.ensures.err_new order (λ k d inside answer says. answers k d inside answer (search rules)) monotone)

pub returns-in_err-told-in-Err-NoHandle-clause-err_new : goal.returns-in_err-told-in-Err-NoHandle-clause-err_new
returns-in_err-told-in-Err-NoHandle-clause-err_new g c =
    rw (← c.self.view_is, c.if-self.true)
    (MatchResult-from_err c.from_residual.result _ _ c.from_residual.ensures.0
    (λ _ order answers monotone. c.in-Err-NoHandle.ensures.err_new order (λ k d inside answer says. answers k d inside answer (search rules)) monotone))

pub returns-in-Err-NoHandle-clause-cases : goal.returns-in-Err-NoHandle-clause-cases
returns-in-Err-NoHandle-clause-cases g c =
    rw (← c.self.view_is, c.if-self.true, ← c.in-Err-NoHandle.ensures.err) c.in_ok-told-in-Err-NoHandle.ensures.cases
