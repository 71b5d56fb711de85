use Rattle.std.proofs.Common.{◌≡◌, ◌<◌, ◌+◌, arith}
use Rattle.plane.specs.Pairs.Bounds.{IsFromUpto}
use Rattle.plane.specs.Pairs.Pairs.{PairAt}
use Rattle.plane.proofs.PairsLemmas.Compared.{within_more, within_all}
use Rattle.plane.proofs.PairsLemmas.Points.{Gains-same, Gains-then}
use Rattle.plane.proofs.pairs.few.append_pairs_within.Goals as goal

pub loop-first-preserved : goal.loop-first-preserved
loop-first-preserved g c =
    let items = c.args.items.now in
    let Meeting = g.T.Meets.Meeting in
    let from = c.args.from in
    let to = c.args.to in
    let second = c.args.second in
    let first = c.loop-first.first in
    let test = c.loop-first-test.true in
    Gains-then (λ i j. IsFromUpto from to i × (i < first) × (j ≡ second) × PairAt Meeting items i j) (λ i j. (i ≡ first) × (j ≡ second) × PairAt Meeting items i j) (λ i j. IsFromUpto from to i × (i < first + 1) × (j ≡ second) × PairAt Meeting items i j)
    (λ i j (_, below, _, _) (is, _, _). omega (arith, below, is)) (within_more Meeting items from to second first c.loop-first.auto.first (omega (arith, test, c.min-first-end.ensures)))
    c.args.out.now.items c.loop-first.out.items c.append_if_they_meet.new.out.items c.loop-first.invariant (c.in_ok-append_if_they_meet.ensures).ok

pub returns-clause-ok : goal.returns-clause-ok
returns-clause-ok g c =
    let items = c.args.items.now in
    let Meeting = g.T.Meets.Meeting in
    let from = c.args.from in
    let to = c.args.to in
    let second = c.args.second in
    let first = c.loop-first.first in
    let test = c.loop-first-test.false in
    Gains-same (λ i j. IsFromUpto from to i × (i < first) × (j ≡ second) × PairAt Meeting items i j) (λ i j. IsFromUpto from to i × (j ≡ second) × PairAt Meeting items i j) (within_all Meeting items from to second first (λ below. omega (arith, below, test, c.min-first-end.ensures)))
    c.args.out.now.items c.loop-first.out.items c.loop-first.invariant
