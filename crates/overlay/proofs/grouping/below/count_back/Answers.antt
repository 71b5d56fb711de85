use Rattle.std.proofs.Common.{FitsSigned, pos, w32, arith}
use Rattle.std.proofs.lemmas.Int.{ints, to_z-of_z}
use Rattle.overlay.proofs.GroupingLemmas.Before.{before-last, none-less}
use Rattle.overlay.proofs.grouping.below.count_back.Goals as goal

pub loop-left-init : goal.loop-left-init
loop-left-init c = let fits : FitsSigned w32 c.args.x = c.ranges.x in record { within = c.requires.count; upto = simp to_z-of_z (none-less c.args.xs.now c.requires.rise c.args.x c.args.count c.requires.upto) }

pub returns-else-xs-left : goal.returns-else-xs-left
returns-else-xs-left c =
    let fits : FitsSigned w32 c.args.x = c.ranges.x in
    let less = c.if-xs-left.false in
    let upto = simp to_z-of_z at c.loop-left.invariant.upto in
    before-last c.args.xs.now c.requires.rise c.args.x c.loop-left.left (pos 0) c.loop-left.invariant.within upto (λ some. omega (arith, ints, less))
