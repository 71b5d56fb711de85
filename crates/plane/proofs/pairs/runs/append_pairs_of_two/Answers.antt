use Rattle.std.proofs.Common.{◌≡◌, ◌<◌, ◌≤◌, ◌+◌, ◌⊎◌, arith, inl, inr, length}
use Rattle.std.proofs.lemmas.Bool.{cases_lt}
use Rattle.plane.specs.Pairs.Bounds.{IsFromUpto}
use Rattle.plane.specs.Pairs.Pairs.{PairAt}
use Rattle.plane.proofs.PairsLemmas.Compared.{two_apart}
use Rattle.plane.proofs.PairsLemmas.Extends.{OnErr-always, Extends-trans}
use Rattle.plane.proofs.PairsLemmas.Points.{Gains-none, Gains-same, Gains-then}
use Rattle.plane.proofs.PairsLemmas.Runs.{two_all, two_more, two_none}
use Rattle.plane.proofs.pairs.runs.append_pairs_of_two.Goals as goal

pub returns-then-not-boxes_meet-clause-ok : goal.returns-then-not-boxes_meet-clause-ok
returns-then-not-boxes_meet-clause-ok g c =
    let items = c.args.items.now in
    let one = c.args.one in
    let other = c.args.other in
    Gains-none (λ i j. IsFromUpto one.from one.to i × IsFromUpto other.from other.to j × PairAt g.T.Meets.Meeting items i j) c.args.out.now.items
    (two_apart c.requires.boxed items c.args.boxes.now c.requires.boxes one.from one.to one.around c.requires.around other.from other.to other.around c.requires.other_around c.if-not-boxes_meet.ensures)

pub loop-second-init : goal.loop-second-init
loop-second-init g c =
    let items = c.args.items.now in
    let one = c.args.one in
    let other = c.args.other in
    Gains-none (λ i j. IsFromUpto one.from one.to i × IsFromUpto other.from other.to j × (j < other.from) × PairAt g.T.Meets.Meeting items i j) c.args.out.now.items
    (two_none g.T.Meets.Meeting items one.from one.to other.from other.to)

pub returns-in_err-more-clause-err : goal.returns-in_err-more-clause-err
returns-in_err-more-clause-err g c =
    let (pairs, is, _) = c.loop-second.invariant in
    OnErr-always _ _ (Extends-trans c.args.out.now.items c.loop-second.out.items c.append_pairs_near.new.out.items (pairs, is) (c.in_err-more.ensures).err)

pub loop-second-preserved : goal.loop-second-preserved
loop-second-preserved g c =
    let items = c.args.items.now in
    let Meeting = g.T.Meets.Meeting in
    let one = c.args.one in
    let other = c.args.other in
    let second = c.loop-second.second in
    let test = c.loop-second-test.true in
    Gains-then (λ i j. IsFromUpto one.from one.to i × IsFromUpto other.from other.to j × (j < second) × PairAt Meeting items i j) (λ i j. IsFromUpto one.from one.to i × (j ≡ second) × PairAt Meeting items i j)
    (λ i j. IsFromUpto one.from one.to i × IsFromUpto other.from other.to j × (j < second + 1) × PairAt Meeting items i j)
    (λ i j (_, _, below, _) (_, is, _). omega (arith, below, is)) (two_more Meeting items one.from one.to other.from other.to second c.loop-second.auto.second (omega (arith, test, c.min-second-end.ensures)))
    c.args.out.now.items c.loop-second.out.items c.append_pairs_near.new.out.items c.loop-second.invariant (c.in_ok-more.ensures).ok

pub returns-clause-ok : goal.returns-clause-ok
returns-clause-ok g c =
    let items = c.args.items.now in
    let Meeting = g.T.Meets.Meeting in
    let one = c.args.one in
    let other = c.args.other in
    let second = c.loop-second.second in
    let test = c.loop-second-test.false in
    let all : (other.to ≤ second) ⊎ (length items ≤ second) = elim (cases_lt other.to (length items)) [
      | inl less ↦ inl (omega (arith, less, test, c.min-second-end.ensures))
      | inr upto ↦ inr (omega (arith, upto, test, c.min-second-end.ensures))
    ] in
    Gains-same (λ i j. IsFromUpto one.from one.to i × IsFromUpto other.from other.to j × (j < second) × PairAt Meeting items i j) (λ i j. IsFromUpto one.from one.to i × IsFromUpto other.from other.to j × PairAt Meeting items i j)
    (two_all Meeting items one.from one.to other.from other.to second all) c.args.out.now.items c.loop-second.out.items c.loop-second.invariant
