use Rattle.std.proofs.Common.{refl, arith}
use Rattle.std.proofs.lemmas.List.Elements.{All-more}
use Rattle.tiles.specs.Window.{IsWithin}
use Rattle.tiles.proofs.JoinTests.{all-taken}
use Rattle.tiles.proofs.joined.checks.has_all.Goals as goal

pub loop-point-preserved : goal.loop-point-preserved
loop-point-preserved c = All-more (IsWithin c.args.window) c.args.points.now c.loop-point.point-index _ c.loop-point-test.true c.loop-point.invariant c.if-not-is_within.ensures

pub returns : goal.returns
returns c =
    let past = c.loop-point-test.false in
    (λ _. all-taken (IsWithin c.args.window) c.args.points.now c.loop-point.point-index (omega (arith, past)) c.loop-point.invariant, λ _. refl)
