use Rattle.std.proofs.Common.{◌+◌, ◌-◌, ◌≡◌, arith, subst}
use Rattle.noding.specs.Beside.{LiesFarBelow, NonePassed}
use Rattle.noding.proofs.ChainLemmas.Passed.{none-before}
use Rattle.noding.proofs.beside.none_before.Goals as goal

pub returns-clause-before : goal.returns-clause-before
returns-clause-before c = λ far.
    let more = c.if-near-eq0.false in
    let within = c.if-others-near.false in
    let below = subst (LiesFarBelow c.args.line) c.point_of.ensures (c.lies_far_below.ensures far) in
    let back : (c.args.near - 1) + 1 ≡ c.args.near = omega (arith, more) in
    subst (λ end. NonePassed c.args.line c.args.other 0 end c.args.others.now) back
    (none-before c.args.line c.args.other c.args.others.now c.requires.along c.requires.rises (c.args.near - 1) _ (omega (arith, more, within)) below)
