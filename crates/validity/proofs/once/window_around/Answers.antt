use Rattle.std.proofs.Common.{◌+◌, take, arith, subst, sym}
use Rattle.std.specs.List.{All}
use Rattle.tiles.specs.Window.{HasPoints, IsWithin}
use Rattle.tiles.specs.declared.window.Window.{Window}
use Rattle.tiles.proofs.JoinTests.{all-taken}
use Rattle.validity.proofs.Framed.{window-more}
use Rattle.validity.proofs.once.window_around.Goals as goal

pub loop-point-preserved : goal.loop-point-preserved
loop-point-preserved c =
    subst (λ (window : Window). HasPoints window × All (IsWithin window) (take (c.loop-point.point-index + 1) c.args.points.now)) (sym c.widened_to-window.ensures)
    (window-more c.loop-point.window c.args.points.now c.loop-point.point-index _ c.loop-point-test.true c.loop-point.invariant)

pub returns-clause-all : goal.returns-clause-all
returns-clause-all c =
    let past = c.loop-point-test.false in
    all-taken (IsWithin c.loop-point.window) c.args.points.now c.loop-point.point-index (omega (arith, past)) c.loop-point.invariant.1
