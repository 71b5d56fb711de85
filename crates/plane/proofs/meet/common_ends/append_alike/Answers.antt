use Rattle.std.proofs.Common.{◌≡◌, ◌<◌, ◌∙◌, true, false, pos, get_or, length, ap, sym, arith}
use Rattle.std.specs.Ordering.{eq_by_cmp}
use Rattle.std.proofs.lemmas.Cmp.{eq_by_cmp_equiv}
use Rattle.std.proofs.lemmas.Option.{slice_get-get_or}
use Rattle.plane.specs.contracts.point.PointOrd.TheImpl.Laws.{matches_eq-law, total-law as point_total}
use Rattle.plane.specs.contracts.point.PointOrd.TheImpl.{ghosts as point_order}
use Rattle.plane.specs.declared.meet.common_ends.EndAt.{EndAt}
use Rattle.plane.specs.declared.point.Point.{Point}
use Rattle.plane.proofs.MeetingLemmas.CommonEnds.{alike-all, alike-apart, alike-next, alike-none}
use Rattle.plane.proofs.PointLemmas.{point-same}
use Rattle.plane.proofs.meet.common_ends.append_alike.Goals as goal

pub loop-next-init : goal.loop-next-init
loop-next-init g c =
    let within = c.requires.within in
    (omega arith, omega (arith, within), alike-none c.args.ends.now c.args.first c.args.pairs.now.items)

pub loop-next-preserved : goal.loop-next-preserved
loop-next-preserved g c =
    let (rising, inside, gained) = c.loop-next.invariant in
    let ends = c.args.ends.now in
    let first = c.args.first in
    let next = c.loop-next.next in
    let none : EndAt = record { point = record { x = pos 0; y = pos 0 }; place = 0 } in
    let more : next < length ends = c.loop-next-test.true in
    let same = point-same (get_or ends next none).point (get_or ends first none).point (sym (matches_eq-law (get_or ends next none).point (get_or ends first none).point) ∙ sym c.eq.ensures ∙ c.if-eq.true) in (
      omega (arith, rising),
      omega (arith, more),
      alike-next ends first c.args.pairs.now.items (get_or ends first none) (slice_get-get_or ends first none c.requires.within) next (get_or ends next none) rising (slice_get-get_or ends next none more)
          c.loop-next.pairs.items c.push.new.self.items (sym same) gained c.in_ok-push.ensures.items,
    )

differ : false ≡ true → ⊥
differ same = cc

pub returns-else-eq : goal.returns-else-eq
returns-else-eq g c =
    let (rising, inside, gained) = c.loop-next.invariant in
    let ends = c.args.ends.now in
    let first = c.args.first in
    let next = c.loop-next.next in
    let none : EndAt = record { point = record { x = pos 0; y = pos 0 }; place = 0 } in
    let more : next < length ends = c.loop-next-test.true in
    alike-apart ends first c.args.pairs.now.items (get_or ends first none) (slice_get-get_or ends first none c.requires.within) next (get_or ends next none) rising (slice_get-get_or ends next none more)
    c.requires.together (λ same.
    differ (sym c.if-eq.false ∙ c.eq.ensures ∙ matches_eq-law (get_or ends next none).point (get_or ends first none).point ∙ ap (λ (point : Point). eq_by_cmp point_order.cmp point (get_or ends first none).point) (sym same)
    ∙ (eq_by_cmp_equiv point_total).refl (get_or ends first none).point)) c.loop-next.pairs.items more gained

pub returns-after-loop-next : goal.returns-after-loop-next
returns-after-loop-next g c =
    let (rising, inside, gained) = c.loop-next.invariant in
    alike-all c.args.ends.now c.args.first c.args.pairs.now.items c.loop-next.next c.loop-next.pairs.items c.loop-next-test.false inside gained
