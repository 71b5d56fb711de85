use Rattle.std.proofs.Common.{◌+◌, List, take, sym, subst, rules, arith}
use Rattle.layers.specs.declared.around.placed.Placed.{Placed}
use Rattle.layers.specs.Chains.{ArePlaced}
use Rattle.layers.proofs.AroundLemmas.Placing.{ArePlaced-all, ArePlaced-permuted, ArePlaced-push}
use Rattle.layers.proofs.around.placed.placed_points.Goals as goal

pub loop-place-preserved : goal.loop-place-preserved
loop-place-preserved g c =
    let placed : Placed = record { along = c.along_curve.result; place = c.loop-place.place; point = c.index-points-place.result } in
    subst (λ (group : List Placed). ArePlaced (take (c.loop-place.place + 1) c.args.points.now) group) (sym (search rules))
    (ArePlaced-push c.args.points.now c.loop-place.place c.loop-place.group.items placed (search rules) c.loop-place.invariant (search rules) (search rules))

pub returns : goal.returns
returns g c =
    ArePlaced-permuted c.args.points.now c.loop-place.group.items c.sort_unstable_by_key.new.self.items
    (ArePlaced-all c.args.points.now c.loop-place.place c.loop-place.group.items (omega (arith, c.loop-place-test.false, c.loop-place.auto.place-end)) c.loop-place.invariant) c.sort_unstable_by_key.ensures.permutation
