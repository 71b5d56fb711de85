use Rattle.std.proofs.Common.{◌≡◌, ◌-◌, ◌<◌, ℕ, Bool, true, false, not, inl, inr, length, sym, ap, subst, subst₂, ◌∙◌, arith}
use Rattle.std.specs.Bool.{MatchBool, OnTrue}
use Rattle.std.proofs.lemmas.List.{length-map}
use Rattle.plane.specs.declared.point.Point.{Point}
use Rattle.overlay.specs.Contours.Fans.{end_at, places}
use Rattle.overlay.specs.Contours.Turns.{ComesBefore, direction_between}
use Rattle.overlay.specs.declared.contours.fans.Spoke.{Spoke}
use Rattle.overlay.proofs.contours.fans.is_told.Goals as goal

on_other : {P Q : Type 0} (b : Bool) → MatchBool b Q (¬ Q) → ((¬ Q) → P) → OnTrue (not b) P
on_other true is told = tt
on_other false is told = told is

pub returns-then-not-comes_first : goal.returns-then-not-comes_first
returns-then-not-comes_first c =
    let at = c.args.at in
    let size = length-map c.args.spokes.now (λ (spoke : Spoke). spoke.place) in
    let inside = c.if-spokes-spoke.false in (
      omega (arith, size, inside),
      inr (inr (inl (subst (λ (p : Point). ¬ (ComesBefore (direction_between at p) (direction_between at p) (direction_between at c.args.back))) c.end_of_spoke-first.ensures c.if-not-comes_first.ensures))),
    )

pub returns-then-spoke-eq0 : goal.returns-then-spoke-eq0
returns-then-spoke-eq0 c =
    let at = c.args.at in
    let list = places c.args.spokes.now in
    let size = length-map c.args.spokes.now (λ (spoke : Spoke). spoke.place) in
    let inside = c.if-spokes-spoke.false in
    let last : c.end_of_spoke-last.result ≡ end_at c.args.sorted.now list (length list - 1) = c.end_of_spoke-last.ensures ∙ ap (λ (n : ℕ). end_at c.args.sorted.now list (n - 1)) (sym size) in
    on_other c.comes_first-then-spoke-eq0.result c.comes_first-then-spoke-eq0.ensures
    (λ isnt. (
      omega (arith, size, inside),
      inr (inl (
        c.if-spoke-eq0.true,
        subst₂ (λ (p q : Point). ¬ (ComesBefore (direction_between at p) (direction_between at c.args.back) (direction_between at q))) c.end_of_spoke-first.ensures last isnt,
      )),
    ))

pub returns : goal.returns
returns c =
    let at = c.args.at in
    let size = length-map c.args.spokes.now (λ (spoke : Spoke). spoke.place) in
    let inside = c.if-spokes-spoke.false in
    let some = c.if-spoke-eq0.false in
    on_other c.comes_first-3.result c.comes_first-3.ensures
    (λ isnt. (
      omega (arith, size, inside),
      inr (inr (inr (
        omega (arith, some),
        subst₂ (λ (p q : Point). ¬ (ComesBefore (direction_between at p) (direction_between at c.args.back) (direction_between at q))) c.end_of_spoke-first.ensures c.end_of_spoke.ensures c.if-comes_first.ensures,
        subst₂ (λ (p q : Point). ¬ (ComesBefore (direction_between at p) (direction_between at q) (direction_between at c.args.back))) c.end_of_spoke-first.ensures c.end_of_spoke-2.ensures isnt,
      ))),
    ))
