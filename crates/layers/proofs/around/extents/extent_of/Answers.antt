use Rattle.std.proofs.Common.{take, sym, subst}
use Rattle.std.proofs.lemmas.List.{take_all}
use Rattle.std.proofs.lemmas.List.Elements.{All-more, All-same, All-weaker}
use Rattle.layers.specs.Chains.{IsInExtent}
use Rattle.layers.specs.declared.around.placed.Placed.{Placed}
use Rattle.layers.proofs.around.extents.extent_of.Goals as goal

pub loop-placed-preserved : goal.loop-placed-preserved
loop-placed-preserved c =
    let grown = c.grown-extent.result in
    let first = c.placed-item.result in
    All-more (λ placed. IsInExtent grown placed.point) c.args.group.now c.loop-placed.placed-index first c.loop-placed-test.true
    (All-weaker (λ placed. IsInExtent c.loop-placed.extent placed.point) (λ placed. IsInExtent grown placed.point) (λ placed. c.grown-extent.ensures.before placed.point) (take c.loop-placed.placed-index c.args.group.now) c.loop-placed.invariant)
    (subst (λ (placed : Placed). IsInExtent grown placed.point) c.placed-item.is c.grown-extent.ensures.point)

pub returns : goal.returns
returns c =
    All-same (λ placed. IsInExtent c.loop-placed.extent placed.point) c.args.group.now (take c.loop-placed.placed-index c.args.group.now)
    (sym (take_all c.loop-placed.placed-index c.args.group.now c.loop-placed-test.false)) c.loop-placed.invariant
