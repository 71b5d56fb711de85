use Rattle.std.proofs.Common.{◌≡◌, ◌<◌, ◌+◌, Some, ap, sym, ◌∙◌, arith}
use Rattle.std.proofs.lemmas.Option.{slice_get-get_or}
use Rattle.plane.specs.Pairs.Pairs.{PairBetween}
use Rattle.plane.specs.Pairs.Points.{MeetsAt}
use Rattle.plane.proofs.PairsLemmas.Extends.{OnErr-always, Extends-trans}
use Rattle.plane.proofs.PairsLemmas.Points.{Gains-none, Gains-same, Gains-then, items_more, items_all}
use Rattle.plane.proofs.pairs.few.append_pairs_with_few.Goals as goal

pub loop-place-init : goal.loop-place-init
loop-place-init g c = Gains-none (λ i j. (i < 0) × PairBetween g.X.Meets.Meeting c.args.items.now c.args.points.now i j) c.args.out.now.items (λ i j (below, _). omega (arith, below))

pub returns-in_err-append_pairs_of_item-clause-err : goal.returns-in_err-append_pairs_of_item-clause-err
returns-in_err-append_pairs_of_item-clause-err g c =
    let (pairs, is, _) = c.loop-place.invariant in
    OnErr-always _ _ (Extends-trans c.args.out.now.items c.loop-place.out.items c.append_pairs_of_item.new.out.items (pairs, is) (c.in_err-append_pairs_of_item.ensures).err)

pub loop-place-preserved : goal.loop-place-preserved
loop-place-preserved g c =
    let items = c.args.items.now in
    let points = c.args.points.now in
    let Meeting = g.X.Meets.Meeting in
    let place = c.loop-place.place in
    let item = c.index-items-place.result in
    let stands = slice_get-get_or items place item c.loop-place-test.true ∙ ap (λ (one : g.row.X.Denot). Some one) (sym c.index-items-place.is) in
    Gains-then (λ i j. (i < place) × PairBetween Meeting items points i j) (λ i j. (i ≡ place) × MeetsAt (Meeting item) points j) (λ i j. (i < place + 1) × PairBetween Meeting items points i j)
    (λ i j (below, _) (is, _). omega (arith, below, is)) (items_more Meeting items points place item stands)
    c.args.out.now.items c.loop-place.out.items c.append_pairs_of_item.new.out.items c.loop-place.invariant (c.in_ok-append_pairs_of_item.ensures).ok

pub returns-clause-ok : goal.returns-clause-ok
returns-clause-ok g c =
    let items = c.args.items.now in
    let points = c.args.points.now in
    let Meeting = g.X.Meets.Meeting in
    Gains-same (λ i j. (i < c.loop-place.place) × PairBetween Meeting items points i j) (PairBetween Meeting items points) (items_all Meeting items points c.loop-place.place c.loop-place-test.false)
    c.args.out.now.items c.loop-place.out.items c.loop-place.invariant
