use Rattle.std.proofs.Common.{◌<◌, ◌+◌, ◌*◌, arith}
use Rattle.plane.specs.Pairs.Bounds.{IsFromUpto}
use Rattle.plane.specs.Pairs.Pairs.{PairAt}
use Rattle.plane.proofs.PairsLemmas.Compared.{same-size}
use Rattle.plane.proofs.PairsLemmas.Extends.{OnErr-always, Extends-trans}
use Rattle.plane.proofs.PairsLemmas.Points.{Gains-same, Gains-then}
use Rattle.plane.proofs.PairsLemmas.Runs.{runs_next, runs_upto}
use Rattle.plane.proofs.pairs.runs.append_pairs_by_runs.Goals as goal

pub returns-in_err-more-clause-err : goal.returns-in_err-more-clause-err
returns-in_err-more-clause-err g c =
    let (pairs, is, _) = c.loop-place.invariant in
    OnErr-always _ _ (Extends-trans c.args.out.now.items c.loop-place.out.items c.append_pairs_of_run.new.out.items (pairs, is) (c.in_err-more.ensures).err)

pub loop-place-preserved : goal.loop-place-preserved
loop-place-preserved g c =
    let items = c.args.items.now in
    let Meeting = g.T.Meets.Meeting in
    let place = c.loop-place.place in
    Gains-then (λ i j. (i < place * 8) × PairAt Meeting items i j) (λ i j. IsFromUpto (place * 8) (place * 8 + 8) i × PairAt Meeting items i j) (λ i j. (i < (place + 1) * 8) × PairAt Meeting items i j)
    (λ i j (below, _) (within, _). (let from = within.0 in omega (arith, below, from))) (runs_next Meeting items place)
    c.args.out.now.items c.loop-place.out.items c.append_pairs_of_run.new.out.items c.loop-place.invariant (c.in_ok-more.ensures).ok

pub returns-clause-ok : goal.returns-clause-ok
returns-clause-ok g c =
    let items = c.args.items.now in
    let Meeting = g.T.Meets.Meeting in
    let place = c.loop-place.place in
    let all = c.requires.runs.all in
    let test = c.loop-place-test.false in
    let same = same-size g.T.Boxed.bounds items c.args.boxes.now c.requires.boxes in
    Gains-same (λ i j. (i < place * 8) × PairAt Meeting items i j) (PairAt Meeting items) (runs_upto Meeting items place (omega (arith, all, test, same)))
    c.args.out.now.items c.loop-place.out.items c.loop-place.invariant
