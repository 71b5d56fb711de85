use Rattle.std.proofs.Common.{◌≡◌, ◌∙◌, ℤ, ◌*ℤ◌, sym, ap₂, rules, to_z, of_z, w64}
use Rattle.std.specs.Int.{w128}
use Rattle.std.specs.Ordering.{int_cmp}
use Rattle.std.specs.declared.cmp.Ordering.{Ordering}
use Rattle.plane.specs.SweepLine.Active.{then_cmp}
use Rattle.plane.specs.SweepLine.Heights.{rise}
use Rattle.plane.proofs.SweepLineLemmas.Active.{then_cmp-equal}
use Rattle.overlay.specs.Fill.Begins.{steps}
use Rattle.overlay.proofs.fill.ends.compare_ends.Goals as goal

pub returns : goal.returns
returns c =
    let one = c.args.one in
    let other = c.args.other in
    let across : c.cmp-across.result ≡ int_cmp one.x1 other.x1 = c.cmp-across.ensures in
    let up : c.cmp-up.result ≡ int_cmp one.y1 other.y1 = c.cmp-up.ensures in
    let rise_is : to_z w64 (of_z w64 c.rise.result) ≡ rise other = search rules in
    let steps_is : to_z w64 (of_z w64 c.steps.result) ≡ steps one = search rules in
    let rise_too : to_z w64 (of_z w64 c.rise-2.result) ≡ rise one = search rules in
    let steps_too : to_z w64 (of_z w64 c.steps-2.result) ≡ steps other = search rules in
    let product_is : to_z w128 (of_z w128 c.product.result) ≡ c.product.result = search rules in
    let product_too : to_z w128 (of_z w128 c.product-2.result) ≡ c.product-2.result = search rules in
    let slopes : c.cmp.result ≡ int_cmp (rise other *ℤ steps one) (rise one *ℤ steps other) =
    c.cmp.ensures ∙ ap₂ (λ (a b : ℤ). int_cmp a b) (product_is ∙ c.product.ensures.value ∙ ap₂ (λ (a b : ℤ). a *ℤ b) rise_is steps_is) (product_too ∙ c.product-2.ensures.value ∙ ap₂ (λ (a b : ℤ). a *ℤ b) rise_too steps_too) in
    slopes
    ∙ then_cmp-equal c.cmp-up.result (int_cmp (rise other *ℤ steps one) (rise one *ℤ steps other)) (sym c.ne-2.ensures ∙ c.if-ne-2.false)
    ∙ then_cmp-equal c.cmp-across.result (then_cmp c.cmp-up.result (int_cmp (rise other *ℤ steps one) (rise one *ℤ steps other))) (sym c.ne.ensures ∙ c.if-ne.false)
    ∙ ap₂ (λ (r s : Ordering). then_cmp r (then_cmp s (int_cmp (rise other *ℤ steps one) (rise one *ℤ steps other)))) across up
