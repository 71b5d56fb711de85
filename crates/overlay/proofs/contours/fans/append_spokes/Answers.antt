use Rattle.std.proofs.Common.{◌≡◌, ◌+◌, List, length, refl, sym, subst, ◌∙◌, arith}
use Rattle.overlay.specs.Contours.Order.{point_at}
use Rattle.overlay.specs.declared.contours.fans.Spoke.{Spoke}
use Rattle.overlay.proofs.ContourLemmas.Fans.{AreSoFar, so-far-all, so-far-more, so-far-none}
use Rattle.overlay.proofs.ContourLemmas.Order.{upto-other}
use Rattle.overlay.proofs.contours.fans.append_spokes.Goals as goal

pub loop-place-init : goal.loop-place-init
loop-place-init g c = so-far-none c.args.sorted.now (point_at c.args.sorted.now c.args.corner) c.args.corner c.args.spokes.now.items c.requires.inside c.requires.none

pub loop-place-preserved : goal.loop-place-preserved
loop-place-preserved g c =
    let sorted = c.args.sorted.now in
    let corner = c.args.corner in
    let place = c.loop-place.place in
    subst (λ (list : List Spoke). AreSoFar sorted (point_at sorted corner) corner (place + 1) list) (sym c.in_ok-push.ensures.items)
    (so-far-more sorted (point_at sorted corner) corner place c.loop-place.spokes.items (record { place = place; way = c.vector_along-way.result }) c.loop-place.invariant c.loop-place-test.true (c.if-starts_at.ensures ∙ c.start_of-at.ensures) refl)

pub returns-else-starts_at : goal.returns-else-starts_at
returns-else-starts_at g c =
    let sorted = c.args.sorted.now in
    let at = point_at sorted c.args.corner in
    let place = c.loop-place.place in
    so-far-all sorted c.requires.order at c.args.corner place c.loop-place.spokes.items c.requires.first c.loop-place.invariant
    (λ k within starts. upto-other sorted c.requires.order at c.args.corner c.requires.first place k c.loop-place.invariant.from c.loop-place-test.true (λ same. c.if-starts_at.ensures (same ∙ sym c.start_of-at.ensures)) within starts)

pub returns-after-loop-place : goal.returns-after-loop-place
returns-after-loop-place g c =
    let sorted = c.args.sorted.now in
    let past = c.loop-place-test.false in
    so-far-all sorted c.requires.order (point_at sorted c.args.corner) c.args.corner c.loop-place.place c.loop-place.spokes.items c.requires.first c.loop-place.invariant (λ k within starts. omega (arith, within, past))
