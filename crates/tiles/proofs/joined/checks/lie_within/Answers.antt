use Rattle.std.proofs.Common.{get_or, refl, ap, sym, subst, arith, List}
use Rattle.std.specs.List.{All}
use Rattle.std.proofs.lemmas.List.Elements.{All-get_or, All-more}
use Rattle.plane.specs.declared.point.Point.{Point}
use Rattle.tiles.specs.Join.{LiesWithin, Tile, no_tile, tile_points, tiles_of}
use Rattle.tiles.specs.Window.{IsWithin}
use Rattle.tiles.specs.declared.window.Window.{Window}
use Rattle.tiles.proofs.JoinGiven.{tile-at, tiles-size}
use Rattle.tiles.proofs.JoinTests.{all-taken, not-true}
use Rattle.tiles.proofs.joined.checks.lie_within.Goals as goal

pub returns-then-not-has_all : goal.returns-then-not-has_all
returns-then-not-has_all c =
    let tiles = c.args.tiles in
    let at = c.loop-at.at in
    let size = tiles-size tiles c.requires in
    let inside = c.loop-at-test.true in
    let window = ap (λ (tile : Tile). tile.0) (tile-at tiles c.requires at inside) in (
      λ never. absurd (not-true never),
      λ every.
          let here = All-get_or LiesWithin (tiles_of tiles) at no_tile (omega (arith, size, inside)) every in
          absurd (not-true (c.if-not-has_all.ensures.1 (subst (λ (points : List Point). All (IsWithin (get_or tiles.windows.now at no_tile.0)) points) (sym c.tile_points.ensures)
          (subst (λ (w : Window). All (IsWithin w) (tile_points (get_or (tiles_of tiles) at no_tile))) window here)))),
    )

pub loop-at-preserved : goal.loop-at-preserved
loop-at-preserved c =
    let tiles = c.args.tiles in
    let at = c.loop-at.at in
    let size = tiles-size tiles c.requires in
    let inside = c.loop-at-test.true in
    let window = ap (λ (tile : Tile). tile.0) (tile-at tiles c.requires at inside) in
    All-more LiesWithin (tiles_of tiles) at no_tile (omega (arith, size, inside)) c.loop-at.invariant
    (subst (λ (w : Window). All (IsWithin w) (tile_points (get_or (tiles_of tiles) at no_tile))) (sym window)
    (subst (λ (points : List Point). All (IsWithin (get_or tiles.windows.now at no_tile.0)) points) c.tile_points.ensures (c.if-not-has_all.ensures.0 refl)))

pub returns : goal.returns
returns c =
    let past = c.loop-at-test.false in
    let size = tiles-size c.args.tiles c.requires in
    (λ _. all-taken LiesWithin (tiles_of c.args.tiles) c.loop-at.at (omega (arith, past, size)) c.loop-at.invariant, λ _. refl)
