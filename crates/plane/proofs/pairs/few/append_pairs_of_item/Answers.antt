use Rattle.std.proofs.Common.{◌≡◌, ◌<◌, ◌+◌, Some, ap, sym, ◌∙◌, arith}
use Rattle.std.proofs.lemmas.Option.{slice_get-get_or}
use Rattle.plane.specs.Pairs.Points.{MeetsAt}
use Rattle.plane.proofs.PairsLemmas.Compared.{point_more, point_all}
use Rattle.plane.proofs.PairsLemmas.Extends.{OnErr-always}
use Rattle.plane.proofs.PairsLemmas.Points.{Gains-none, Gains-same, Gains-then}
use Rattle.plane.proofs.pairs.few.append_pairs_of_item.Goals as goal

pub loop-other-init : goal.loop-other-init
loop-other-init g c = Gains-none (λ i j. (j < 0) × (i ≡ c.args.place) × MeetsAt (g.X.Meets.Meeting c.args.item) c.args.points.now j) c.args.out.now.items (λ i j (below, _, _). omega (arith, below))

pub returns-in_err-append_if_it_meets-clause-err : goal.returns-in_err-append_if_it_meets-clause-err
returns-in_err-append_if_it_meets-clause-err g c =
    let (pairs, is, _) = c.loop-other.invariant in
    OnErr-always c.from_residual.result _ (pairs, (c.in_err-append_if_it_meets.ensures).err ∙ is)

pub loop-other-preserved : goal.loop-other-preserved
loop-other-preserved g c =
    let points = c.args.points.now in
    let place = c.args.place in
    let Meeting = g.X.Meets.Meeting c.args.item in
    let other = c.loop-other.other in
    let point = c.index-points-other.result in
    let stands = slice_get-get_or points other point c.loop-other-test.true ∙ ap (λ (one : g.row.Y.Denot). Some one) (sym c.index-points-other.is) in
    Gains-then (λ i j. (j < other) × (i ≡ place) × MeetsAt Meeting points j) (λ i j. (i ≡ place) × (j ≡ other) × Meeting point) (λ i j. (j < other + 1) × (i ≡ place) × MeetsAt Meeting points j)
    (λ i j (below, _, _) (_, is, _). omega (arith, below, is)) (point_more Meeting points place other point stands)
    c.args.out.now.items c.loop-other.out.items c.append_if_it_meets.new.out.items c.loop-other.invariant (c.in_ok-append_if_it_meets.ensures).ok

pub returns-clause-ok : goal.returns-clause-ok
returns-clause-ok g c =
    let points = c.args.points.now in
    let place = c.args.place in
    let Meeting = g.X.Meets.Meeting c.args.item in
    Gains-same (λ i j. (j < c.loop-other.other) × (i ≡ place) × MeetsAt Meeting points j) (λ i j. (i ≡ place) × MeetsAt Meeting points j) (point_all Meeting points place c.loop-other.other c.loop-other-test.false)
    c.args.out.now.items c.loop-other.out.items c.loop-other.invariant
