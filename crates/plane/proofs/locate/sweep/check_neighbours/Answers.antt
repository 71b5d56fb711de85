use Rattle.std.proofs.Common.{◌≢◌, rules, ◌∙◌}
use Rattle.std.specs.declared.cmp.Ordering.TheVariants.{Greater}
use Rattle.plane.proofs.SweepLineLemmas.Uncrossed.{ahead_uncrossed}
use Rattle.plane.proofs.locate.sweep.check_neighbours.Goals as goal

pub returns-then-ne-clause-ok : goal.returns-then-ne-clause-ok
returns-then-ne-clause-ok c =
    let order = rw (c.in-Some-Some.is-0, c.in-Some-Some.is-1) at c.requires.order in
    let upto : c.compare_ends.result ≢ Greater = search rules in
    rw (c.in-Some-Some.is-0, c.in-Some-Some.is-1)
    (ahead_uncrossed c.in-Some-Some.below c.in-Some-Some.above order.0 order.1 order.2 (λ greater. upto (c.compare_ends.ensures ∙ greater)))

pub returns-clause-ok : goal.returns-clause-ok
returns-clause-ok c = rw (c.in-Some-Some.is-0, c.in-Some-Some.is-1) c.check_crossing.ensures.ok

pub returns-clause-crossing : goal.returns-clause-crossing
returns-clause-crossing c = rw (c.in-Some-Some.is-0, c.in-Some-Some.is-1) c.check_crossing.ensures.crossing
