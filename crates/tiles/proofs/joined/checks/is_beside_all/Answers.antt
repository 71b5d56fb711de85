use Rattle.std.proofs.Common.{refl, arith}
use Rattle.std.proofs.lemmas.List.Elements.{All-more}
use Rattle.tiles.specs.Join.{AreBeside}
use Rattle.tiles.proofs.JoinTests.{all-taken}
use Rattle.tiles.proofs.joined.checks.is_beside_all.Goals as goal

pub loop-other-preserved : goal.loop-other-preserved
loop-other-preserved c = All-more (AreBeside c.args.window) c.args.others.now c.loop-other.other-index _ c.loop-other-test.true c.loop-other.invariant c.if-not-are_beside.ensures

pub returns : goal.returns
returns c =
    let past = c.loop-other-test.false in
    (λ _. all-taken (AreBeside c.args.window) c.args.others.now c.loop-other.other-index (omega (arith, past)) c.loop-other.invariant, λ _. refl)
