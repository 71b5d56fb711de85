use Rattle.std.proofs.Common.{pos, get_or, take, sym, subst₂, rules}
use Rattle.std.specs.List.{AllZip}
use Rattle.std.proofs.lemmas.List.{take_more}
use Rattle.noding.proofs.ChainLemmas.Zips.{AllZip-more}
use Rattle.plane.specs.declared.point.Point.{Point}
use Rattle.layers.proofs.AroundLemmas.Doubling.{IsTwice}
use Rattle.layers.proofs.points.half_points_of.Goals as goal

pub loop-point-preserved : goal.loop-point-preserved
loop-point-preserved g c =
    let points = c.args.points.now in
    let k = c.loop-point.point-index in
    let none : Point = record { x = pos 0; y = pos 0 } in
    subst₂ (AllZip IsTwice) (sym (take_more points k none c.loop-point-test.true)) (sym c.in_ok-push.ensures.items)
    (AllZip-more IsTwice (take k points) c.loop-point.halves.items (get_or points k none) _ c.loop-point.invariant (search rules, search rules))
