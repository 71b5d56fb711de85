use Rattle.std.proofs.Common.{◌≡◌, ◌+◌, ◌-◌, ℕ, inl, inr, sym, ap, subst, subst₂, ◌∙◌, arith, length}
use Rattle.std.proofs.lemmas.Bool.{cases_eq}
use Rattle.std.proofs.lemmas.List.{length-map}
use Rattle.plane.specs.declared.point.Point.{Point}
use Rattle.overlay.specs.Contours.Fans.{end_at, places}
use Rattle.overlay.specs.Contours.Turns.{ComesBefore, direction_between}
use Rattle.overlay.specs.declared.contours.fans.Spoke.{Spoke}
use Rattle.overlay.proofs.contours.fans.are_clockwise.Goals as goal

pub loop-spoke-init : goal.loop-spoke-init
loop-spoke-init c = λ i above less. absurd (omega (arith, above, less))

pub loop-spoke-preserved : goal.loop-spoke-preserved
loop-spoke-preserved c =
    let sorted = c.args.sorted.now in
    let list = places c.args.fan.now in
    let spoke = c.loop-spoke.spoke in
    λ i above less before. elim (cases_eq (i + 1) spoke) [
      | inl same ↦
          c.if-comes_first.ensures
          (subst (λ (p : Point). ComesBefore (direction_between c.start_of-at.result c.end_of_spoke-first.result) (direction_between c.start_of-at.result c.end_of_spoke.result) (direction_between c.start_of-at.result p)) (sym (c.end_of_spoke-before.ensures ∙ ap (λ (m : ℕ). end_at sorted list m) (omega (arith, same))))
          (subst (λ (p : Point). ComesBefore (direction_between c.start_of-at.result c.end_of_spoke-first.result) (direction_between c.start_of-at.result p) (direction_between c.start_of-at.result (end_at sorted list i))) (sym (c.end_of_spoke.ensures ∙ ap (λ (m : ℕ). end_at sorted list m) (sym same)))
          (subst₂ (λ (p q : Point). ComesBefore (direction_between p q) (direction_between p (end_at sorted list (i + 1))) (direction_between p (end_at sorted list i))) (sym c.start_of-at.ensures) (sym c.end_of_spoke-first.ensures) before)))
      | inr differs ↦ c.loop-spoke.invariant i above (omega (arith, less, differs)) before
    ]

pub returns : goal.returns
returns c =
    let size = length-map c.args.fan.now (λ (spoke : Spoke). spoke.place) in
    let past = c.loop-spoke-test.false in
    λ i above less. c.loop-spoke.invariant i above (omega (arith, less, size, past))
