use Rattle.i_tree.specs.Root.Live.{is_live}
use Rattle.plane.proofs.SweepLineLemmas.Growing.{stands_last}
use Rattle.plane.proofs.sweep_line.growing.append.Goals as goal

pub returns-clause-ok : goal.returns-clause-ok
returns-clause-ok g c =
    let stored = g.C.StatusCollection.stored in
    stands_last (is_live g.K.ExpiredVal.expiration g.E.Ord.cmp c.args.time) _ (λ other answer says. says)
    c.args.pair (stored c.args.status.now) (stored c.insert_by.new.self) c.requires.live
    c.in_ok-insert_by.field-0 c.in_ok-insert_by.ensures.cases c.in_ok-insert_by.ensures.ok
