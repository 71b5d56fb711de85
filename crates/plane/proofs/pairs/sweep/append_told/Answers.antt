use Rattle.std.proofs.Common.{◌∙◌, subst}
use Rattle.plane.specs.Pairs.Sweep.{GainsPair}
use Rattle.plane.specs.declared.pairs.sweep.Placed.{Placed}
use Rattle.plane.proofs.PairsLemmas.Extends.{OnErr-always}
use Rattle.plane.proofs.PairsLemmas.Pairs.{GainsPairs-none, GainsPairs-more}
use Rattle.plane.proofs.pairs.sweep.append_told.Goals as goal

pub loop-other-init : goal.loop-other-init
loop-other-init g c = GainsPairs-none g.T.Boxed.bounds g.T.Meets.Meeting c.args.strips c.args.strip c.args.placed c.args.others.now c.args.out.now.items

pub loop-other-preserved : goal.loop-other-preserved
loop-other-preserved g c =
    GainsPairs-more g.T.Boxed.bounds g.T.Meets.Meeting c.args.strips c.args.strip c.args.placed c.args.others.now c.args.out.now.items
    c.loop-other.other-index c.other-item.result c.loop-other.out.items c.loop-other-test.true c.loop-other.invariant c.append_if_told.new.out.items
    (subst (λ (other : Placed g.row.T.Denot). GainsPair g.T.Boxed.bounds g.T.Meets.Meeting c.args.strips c.args.strip c.args.placed other c.loop-other.out.items c.append_if_told.new.out.items) c.other-item.is (c.in_ok-append_if_told.ensures).ok)

pub returns-in_err-append_if_told-clause-err : goal.returns-in_err-append_if_told-clause-err
returns-in_err-append_if_told-clause-err g c =
    let (pairs, is, _) = c.loop-other.invariant in
    OnErr-always c.from_residual.result _ (pairs, (c.in_err-append_if_told.ensures).err ∙ is)
