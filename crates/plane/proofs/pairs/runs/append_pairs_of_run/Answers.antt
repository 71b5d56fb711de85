use Rattle.std.proofs.Common.{◌<◌, ◌+◌, ◌*◌, arith, get_or, pos}
use Rattle.plane.specs.Pairs.Bounds.{IsFromUpto}
use Rattle.plane.specs.Pairs.Pairs.{PairAt}
use Rattle.plane.specs.declared.pairs.runs.Run.{Run}
use Rattle.plane.proofs.PairsLemmas.Compared.{same-size}
use Rattle.plane.proofs.PairsLemmas.Extends.{OnErr-always, Extends-trans}
use Rattle.plane.proofs.PairsLemmas.Points.{Gains-none, Gains-same, Gains-then}
use Rattle.plane.proofs.PairsLemmas.Runs.{run_next, run_none, run_upto}
use Rattle.plane.proofs.pairs.runs.append_pairs_of_run.Goals as goal

abbrev none : Run
none = record { from = 0; to = 0; around = record { left = pos 0; right = pos 0; low = pos 0; high = pos 0 } }

pub loop-other-init : goal.loop-other-init
loop-other-init g c =
    let items = c.args.items.now in
    let place = c.args.place in
    Gains-none (λ i j. IsFromUpto (place * 8) (place * 8 + 8) i × (j < place * 8) × PairAt g.T.Meets.Meeting items i j) c.args.out.now.items (run_none g.T.Meets.Meeting items place)

pub append_pairs_of_two-requires-clause-around : goal.append_pairs_of_two-requires-clause-around
append_pairs_of_two-requires-clause-around g c = (c.requires.runs.each c.args.place none c.requires.inside).around

pub append_pairs_of_two-requires-clause-other_around : goal.append_pairs_of_two-requires-clause-other_around
append_pairs_of_two-requires-clause-other_around g c = (c.requires.runs.each c.loop-other.other none c.loop-other-test.true).around

pub returns-in_err-more-clause-err : goal.returns-in_err-more-clause-err
returns-in_err-more-clause-err g c =
    let (pairs, is, _) = c.loop-other.invariant in
    OnErr-always _ _ (Extends-trans c.args.out.now.items c.loop-other.out.items c.append_pairs_of_two.new.out.items (pairs, is) (c.in_err-more.ensures).err)

pub loop-other-preserved : goal.loop-other-preserved
loop-other-preserved g c =
    let items = c.args.items.now in
    let Meeting = g.T.Meets.Meeting in
    let place = c.args.place in
    let other = c.loop-other.other in
    let one_run = get_or c.args.runs.now place none in
    let other_run = get_or c.args.runs.now other none in
    let one_is = c.requires.runs.each place none c.requires.inside in
    let other_is = c.requires.runs.each other none c.loop-other-test.true in
    let begin = other_is.from in
    Gains-then (λ i j. IsFromUpto (place * 8) (place * 8 + 8) i × (j < other * 8) × PairAt Meeting items i j) (λ i j. IsFromUpto one_run.from one_run.to i × IsFromUpto other_run.from other_run.to j × PairAt Meeting items i j)
    (λ i j. IsFromUpto (place * 8) (place * 8 + 8) i × (j < (other + 1) * 8) × PairAt Meeting items i j)
    (λ i j (_, below, _) (_, within, _). (let from = within.0 in omega (arith, below, from, begin)))
    (run_next Meeting items place other one_run.from one_run.to other_run.from other_run.to one_is.from one_is.to other_is.from other_is.to)
    c.args.out.now.items c.loop-other.out.items c.append_pairs_of_two.new.out.items c.loop-other.invariant (c.in_ok-more.ensures).ok

pub returns-clause-ok : goal.returns-clause-ok
returns-clause-ok g c =
    let items = c.args.items.now in
    let Meeting = g.T.Meets.Meeting in
    let place = c.args.place in
    let other = c.loop-other.other in
    let all = c.requires.runs.all in
    let test = c.loop-other-test.false in
    let same = same-size g.T.Boxed.bounds items c.args.boxes.now c.requires.boxes in
    Gains-same (λ i j. IsFromUpto (place * 8) (place * 8 + 8) i × (j < other * 8) × PairAt Meeting items i j) (λ i j. IsFromUpto (place * 8) (place * 8 + 8) i × PairAt Meeting items i j)
    (run_upto Meeting items place other (omega (arith, all, test, same))) c.args.out.now.items c.loop-other.out.items c.loop-other.invariant
