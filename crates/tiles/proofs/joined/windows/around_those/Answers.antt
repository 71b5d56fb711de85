use Rattle.std.proofs.Common.{subst, sym, arith}
use Rattle.std.specs.List.{All}
use Rattle.std.proofs.lemmas.List.{take_all}
use Rattle.tiles.specs.Join.{IsIn}
use Rattle.tiles.proofs.JoinTests.{all-taken, around-first, around-more}
use Rattle.tiles.proofs.joined.windows.around_those.Goals as goal

pub loop-window-init : goal.loop-window-init
loop-window-init c = around-first c.args.first c.requires

pub loop-window-preserved : goal.loop-window-preserved
loop-window-preserved c = rw c.around_both-whole.ensures (around-more c.args.first c.loop-window.whole c.args.windows.now c.loop-window.window-index _ c.loop-window-test.true c.loop-window.invariant)

pub returns-clause-some : goal.returns-clause-some
returns-clause-some c = c.loop-window.invariant.some

pub returns-clause-all : goal.returns-clause-all
returns-clause-all c =
    let past = c.loop-window-test.false in
    all-taken (IsIn c.loop-window.whole) c.args.windows.now c.loop-window.window-index (omega (arith, past)) c.loop-window.invariant.all

pub returns-clause-least : goal.returns-clause-least
returns-clause-least c = λ outer has every.
    let past = c.loop-window-test.false in
    c.loop-window.invariant.least outer has (subst (All (IsIn outer)) (sym (take_all c.loop-window.window-index c.args.windows.now (omega (arith, past)))) every)
