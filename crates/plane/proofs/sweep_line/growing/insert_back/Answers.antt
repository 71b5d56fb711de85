-- The pairs that have gone back are those of the tree that are live.
use Rattle.std.proofs.Common.{is_some}
use Rattle.std.proofs.lemmas.Result.{IfOk-weaker}
use Rattle.i_tree.specs.Expiring.Tree.{items}
use Rattle.i_tree.specs.Root.Live.{is_live}
use Rattle.plane.proofs.SweepLineLemmas.Growing.{JoinsOrLeaves-live, filter-twice}
use Rattle.plane.proofs.sweep_line.growing.insert_back.Goals as goal

pub insert_between-requires : goal.insert_between-requires
insert_between-requires g c =
    let lives = λ (pair : g.row.K.Denot × g.row.V.Denot). is_live g.K.ExpiredVal.expiration g.E.Ord.cmp c.args.time pair.0 in
    rw (c.in_ok-go_back.ensures.ok, filter-twice lives (items c.args.many.now.shape)) c.requires.asked

pub returns-clause-cases : goal.returns-clause-cases
returns-clause-cases g c =
    let lives = λ (pair : g.row.K.Denot × g.row.V.Denot). is_live g.K.ExpiredVal.expiration g.E.Ord.cmp c.args.time pair.0 in
    rw (c.in_ok-go_back.ensures.ok, filter-twice lives (items c.args.many.now.shape)) at c.insert_between.ensures.cases

pub returns-clause-ok : goal.returns-clause-ok
returns-clause-ok g c =
    let joined = rw c.in_ok-go_back.ensures.ok at c.insert_between.ensures.ok in
    IfOk-weaker c.insert_between.result _ _
    (λ told joins. JoinsOrLeaves-live (is_live g.K.ExpiredVal.expiration g.E.Ord.cmp c.args.time) _ (is_some told) _ (items c.args.many.now.shape) _ joins) joined

pub returns-clause-neighbours : goal.returns-clause-neighbours
returns-clause-neighbours g c =
    let lives = λ (pair : g.row.K.Denot × g.row.V.Denot). is_live g.K.ExpiredVal.expiration g.E.Ord.cmp c.args.time pair.0 in
    rw (c.in_ok-go_back.ensures.ok, filter-twice lives (items c.args.many.now.shape)) at c.insert_between.ensures.neighbours
