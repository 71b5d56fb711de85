use Rattle.std.proofs.Common.{◌≡◌, ◌<◌, ◌+◌, arith}
use Rattle.plane.specs.Pairs.Pairs.{PairAt}
use Rattle.plane.proofs.PairsLemmas.Compared.{second_more, second_all}
use Rattle.plane.proofs.PairsLemmas.Extends.{OnErr-always, Extends-trans}
use Rattle.plane.proofs.PairsLemmas.Points.{Gains-none, Gains-same, Gains-then}
use Rattle.plane.proofs.pairs.few.append_pairs_of_each.Goals as goal

pub loop-second-init : goal.loop-second-init
loop-second-init g c = Gains-none (λ i j. (j < 0) × PairAt g.T.Meets.Meeting c.args.items.now i j) c.args.out.now.items (λ i j (below, _). omega (arith, below))

pub returns-in_err-append_pairs_before-clause-err : goal.returns-in_err-append_pairs_before-clause-err
returns-in_err-append_pairs_before-clause-err g c =
    let (pairs, is, _) = c.loop-second.invariant in
    OnErr-always _ _ (Extends-trans c.args.out.now.items c.loop-second.out.items c.append_pairs_before.new.out.items (pairs, is) (c.in_err-append_pairs_before.ensures).err)

pub loop-second-preserved : goal.loop-second-preserved
loop-second-preserved g c =
    let items = c.args.items.now in
    let Meeting = g.T.Meets.Meeting in
    let second = c.loop-second.second in
    Gains-then (λ i j. (j < second) × PairAt Meeting items i j) (λ i j. (j ≡ second) × PairAt Meeting items i j) (λ i j. (j < second + 1) × PairAt Meeting items i j)
    (λ i j (below, _) (is, _). omega (arith, below, is)) (second_more Meeting items second)
    c.args.out.now.items c.loop-second.out.items c.append_pairs_before.new.out.items c.loop-second.invariant (c.in_ok-append_pairs_before.ensures).ok

pub returns-clause-ok : goal.returns-clause-ok
returns-clause-ok g c =
    let items = c.args.items.now in
    let Meeting = g.T.Meets.Meeting in
    Gains-same (λ i j. (j < c.loop-second.second) × PairAt Meeting items i j) (PairAt Meeting items) (second_all Meeting items c.loop-second.second c.loop-second-test.false)
    c.args.out.now.items c.loop-second.out.items c.loop-second.invariant
