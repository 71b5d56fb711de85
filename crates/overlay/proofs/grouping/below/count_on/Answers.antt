use Rattle.std.proofs.Common.{FitsSigned, pos, w32, arith}
use Rattle.std.proofs.lemmas.Int.{ints, to_z-of_z}
use Rattle.std.proofs.lemmas.List.{get_or_default}
use Rattle.overlay.proofs.GroupingLemmas.Before.{all-less, before-at}
use Rattle.overlay.proofs.grouping.below.count_on.Goals as goal

pub loop-place-init : goal.loop-place-init
loop-place-init c = let fits : FitsSigned w32 c.args.x = c.ranges.x in simp to_z-of_z (λ k d before. all-less c.args.xs.now c.requires.rise c.args.x c.args.count c.args.x c.requires.within c.requires.less k d (omega (arith, before)))

pub returns-then-xs-place : goal.returns-then-xs-place
returns-then-xs-place c =
    let fits : FitsSigned w32 c.args.x = c.ranges.x in
    let less = simp to_z-of_z at c.loop-place.invariant in
    let inside = c.loop-place-test.true in
    let upto = c.if-xs-place.true in
    before-at c.args.xs.now c.requires.rise c.args.x c.loop-place.place (omega (arith, inside)) less
    (λ within. (let same = get_or_default c.args.xs.now c.loop-place.place c.args.x (pos 0) within in omega (arith, ints, same, upto)))
