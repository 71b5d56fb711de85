use Rattle.std.proofs.Common.{◌≡◌, ◌<◌, ◌+◌, ◌∙◌, arith}
use Rattle.plane.specs.Pairs.Pairs.{PairAt}
use Rattle.plane.proofs.PairsLemmas.Compared.{first_more, first_all}
use Rattle.plane.proofs.PairsLemmas.Extends.{OnErr-always}
use Rattle.plane.proofs.PairsLemmas.Points.{Gains-none, Gains-same, Gains-then}
use Rattle.plane.proofs.pairs.few.append_pairs_before.Goals as goal

pub loop-first-init : goal.loop-first-init
loop-first-init g c = Gains-none (λ i j. (i < 0) × (j ≡ c.args.second) × PairAt g.T.Meets.Meeting c.args.items.now i j) c.args.out.now.items (λ i j (below, _, _). omega (arith, below))

pub returns-in_err-append_if_they_meet-clause-err : goal.returns-in_err-append_if_they_meet-clause-err
returns-in_err-append_if_they_meet-clause-err g c =
    let (pairs, is, _) = c.loop-first.invariant in
    OnErr-always c.from_residual.result _ (pairs, (c.in_err-append_if_they_meet.ensures).err ∙ is)

pub loop-first-preserved : goal.loop-first-preserved
loop-first-preserved g c =
    let items = c.args.items.now in
    let Meeting = g.T.Meets.Meeting in
    let second = c.args.second in
    let first = c.loop-first.first in
    Gains-then (λ i j. (i < first) × (j ≡ second) × PairAt Meeting items i j) (λ i j. (i ≡ first) × (j ≡ second) × PairAt Meeting items i j) (λ i j. (i < first + 1) × (j ≡ second) × PairAt Meeting items i j)
    (λ i j (below, _, _) (is, _, _). omega (arith, below, is)) (first_more Meeting items second first)
    c.args.out.now.items c.loop-first.out.items c.append_if_they_meet.new.out.items c.loop-first.invariant (c.in_ok-append_if_they_meet.ensures).ok

pub returns-clause-ok : goal.returns-clause-ok
returns-clause-ok g c =
    let items = c.args.items.now in
    let Meeting = g.T.Meets.Meeting in
    let second = c.args.second in
    Gains-same (λ i j. (i < c.loop-first.first) × (j ≡ second) × PairAt Meeting items i j) (λ i j. (j ≡ second) × PairAt Meeting items i j) (first_all Meeting items second c.loop-first.first c.loop-first-test.false)
    c.args.out.now.items c.loop-first.out.items c.loop-first.invariant
