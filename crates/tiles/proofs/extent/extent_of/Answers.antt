use Rattle.std.proofs.Common.{◌∷◌, [], List, subst, sym, arith}
use Rattle.std.proofs.lemmas.List.{take_all}
use Rattle.plane.specs.declared.point.Point.{Point}
use Rattle.tiles.specs.Pushing.{IsExtent}
use Rattle.tiles.specs.declared.window.Window.{Window}
use Rattle.tiles.proofs.Beyond.{extent-more, extent-one}
use Rattle.tiles.proofs.extent.extent_of.Goals as goal

pub loop-point-init : goal.loop-point-init
loop-point-init c = subst (λ (extent : Window). IsExtent extent (c.args.first ∷ [])) (sym c.at_point-extent.ensures) (extent-one c.args.first)

pub loop-point-preserved : goal.loop-point-preserved
loop-point-preserved c =
    rw (c.around_both-extent.ensures, c.at_point.ensures) (extent-more c.loop-point.extent c.args.first c.args.points.now c.loop-point.point-index _ c.loop-point-test.true c.loop-point.invariant)

pub returns : goal.returns
returns c =
    let past = c.loop-point-test.false in
    subst (λ (points : List Point). IsExtent c.loop-point.extent (c.args.first ∷ points)) (take_all c.loop-point.point-index c.args.points.now (omega (arith, past))) c.loop-point.invariant
