use Rattle.std.proofs.Common.{◌≡◌, ℕ, ◌+◌, length, get_or, sym, subst, arith}
use Rattle.std.proofs.lemmas.Option.{slice_get-get_or}
use Rattle.plane.specs.Pairs.Points.{ArePointsOf}
use Rattle.plane.proofs.PairsLemmas.Ordered.{ArePointsOf-none, ArePointsOf-push, stands_at}
use Rattle.plane.proofs.PairsLemmas.Points.{nothing}
use Rattle.plane.proofs.pairs.points.points_of.Goals as goal

pub loop-part-init : goal.loop-part-init
loop-part-init g c = subst (ArePointsOf c.args.points.now c.args.parts.now 0) (sym (c.in_ok-ordered.ensures).items) (ArePointsOf-none c.args.points.now c.args.parts.now)

pub loop-part-preserved : goal.loop-part-preserved
loop-part-preserved g c =
    let points = c.args.points.now in
    let parts = c.args.parts.now in
    let next = c.loop-part.part-index in
    let part = get_or parts next nothing in
    let inside = c.loop-part-test.true in
    let point = c.index-points-part.result in
    let stands = stands_at points part.place point (c.requires next nothing inside) c.index-points-part.is in
    subst (ArePointsOf points parts (next + 1)) (sym (c.in_ok-push.ensures).items)
    (ArePointsOf-push points parts next c.loop-part.ordered.items part point (slice_get-get_or parts next nothing inside) stands c.loop-part.invariant)

pub returns : goal.returns
returns g c =
    let test = c.loop-part-test.false in
    let end = c.loop-part.auto.part-index-end in
    let all : c.loop-part.part-index ≡ length c.args.parts.now = omega (arith, test, end) in
    subst (λ (count : ℕ). ArePointsOf c.args.points.now c.args.parts.now count c.loop-part.ordered.items) all c.loop-part.invariant
