use Rattle.std.proofs.lemmas.Result.{on_ok_weaker}
use Rattle.tiles.proofs.cropping.go_over.Goals as goal

pub returns-clause-ok : goal.returns-clause-ok
returns-clause-ok g c = λ before chain is size.
    let (mid, first, mid_is) = c.in_ok-go_on.ensures.ok before chain is size in
    on_ok_weaker c.go_on-2.result (λ (after, second, after_is). (after, (c.fit.result.0, c.fit.result.1, mid, c.fit.ensures, first, second), after_is)) (c.go_on-2.ensures.ok before mid mid_is size)
