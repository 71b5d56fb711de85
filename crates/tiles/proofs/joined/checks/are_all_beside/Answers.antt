use Rattle.std.proofs.Common.{List, ◌+◌, get_or, refl, sym, subst}
use Rattle.std.specs.List.{All}
use Rattle.tiles.specs.Join.{AreBeside, no_tile}
use Rattle.tiles.specs.declared.window.Window.{Window}
use Rattle.tiles.proofs.JoinTests.{not-true, pairs-fail, pairs-more, rest-taken}
use Rattle.tiles.proofs.joined.checks.are_all_beside.Goals as goal

pub returns-then-not-is_beside_all : goal.returns-then-not-is_beside_all
returns-then-not-is_beside_all c =
    let windows = c.args.windows.now in
    let here = get_or windows c.loop-at.at no_tile.0 in (
      λ never. absurd (not-true never),
      λ every. absurd (pairs-fail AreBeside windows c.loop-at.at no_tile.0 c.loop-at-test.true c.loop-at.invariant
          (λ all. not-true (c.if-not-is_beside_all.ensures.1 (subst (λ (rest : List Window). All (AreBeside here) rest) (sym (rest-taken windows (c.loop-at.at + 1))) all))) every),
    )

pub loop-at-preserved : goal.loop-at-preserved
loop-at-preserved c =
    let windows = c.args.windows.now in
    let here = get_or windows c.loop-at.at no_tile.0 in
    pairs-more AreBeside windows c.loop-at.at no_tile.0 c.loop-at-test.true c.loop-at.invariant
    (subst (λ (rest : List Window). All (AreBeside here) rest) (rest-taken windows (c.loop-at.at + 1)) (c.if-not-is_beside_all.ensures.0 refl))
