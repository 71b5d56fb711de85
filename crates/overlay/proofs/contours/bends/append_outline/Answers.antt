use Rattle.std.proofs.Common.{◌≡◌, ◌+◌, ◌++◌, ◌∷◌, [], List, drop, sym, ap, ◌∙◌, append_assoc}
use Rattle.plane.specs.declared.point.Point.{Point}
use Rattle.plane.proofs.PairsLemmas.Extends.{OnErr-always, Extends-trans}
use Rattle.overlay.specs.Contours.Outlines.{bends, ring_point}
use Rattle.overlay.proofs.ContourLemmas.Outlines.{bends-kept, bends-straight}
use Rattle.overlay.proofs.contours.bends.append_outline.Goals.{then-not-goes_straight+in_ok-push, else-not-goes_straight}
use Rattle.overlay.proofs.contours.bends.append_outline.Goals as goal

pub returns-in_err-push-clause-err : goal.returns-in_err-push-clause-err
returns-in_err-push-clause-err g c =
    let (is, (more, extends)) = c.loop-place.invariant in
    OnErr-always c.from_residual.result _ (more, c.in_err-push.ensures.items ∙ extends)

pub loop-place-preserved : goal.loop-place-preserved
loop-place-preserved g c =
    let (is, (more, extends)) = c.loop-place.invariant in
    let ring = c.args.ring.now in
    let before = c.loop-place.before in
    let place = c.loop-place.place in
    let first = ring_point ring 0 in
    let at = ring_point ring place in
    let rest = bends at (drop (place + 1) ring) first in
    let old = c.args.points.now.items in
    let points = c.loop-place.points.items in
    let inside = c.loop-place-test.true in
    elim c.if-not-goes_straight.branch [
      | then-not-goes_straight+in_ok-push w ↦
          let pushed = w.in_ok-push.ensures.items in
          let now : c.if-not-goes_straight.points.items ≡ points ++ at ∷ [] = ap (λ it. it.items) w.points-is ∙ pushed in
          let kept = bends-kept before ring place first c.next_in.result inside c.next_in.ensures w.if-not-goes_straight.ensures in (
            ap (λ (list : List Point). list ++ rest) now ∙ append_assoc points (at ∷ []) rest ∙ ap (λ (list : List Point). points ++ list) (sym kept) ∙ is,
            Extends-trans old points c.if-not-goes_straight.points.items (more, extends) (at ∷ [], now),
          )
      | else-not-goes_straight w ↦
          let now : c.if-not-goes_straight.points.items ≡ points = ap (λ it. it.items) w.points-is in
          let straight = bends-straight before ring place first c.next_in.result inside c.next_in.ensures w.if-not-goes_straight.ensures in (
            ap (λ (list : List Point). list ++ rest) now ∙ ap (λ (list : List Point). points ++ list) (sym straight) ∙ is,
            (more, now ∙ extends),
          )
    ]
