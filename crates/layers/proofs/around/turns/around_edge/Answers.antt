use Rattle.std.proofs.Common.{SFits, w64, of_z, nat_eq, ◌≡◌, ℤ, pos, negsuc, true, rules, sym, ◌∙◌, ap, ap₂, arith}
use Rattle.std.specs.Int.{w128}
use Rattle.std.proofs.lemmas.Bool.{eqb-true}
use Rattle.std.proofs.lemmas.Int.{ints, to_z-of_z}
use Rattle.layers.specs.Boxed.{grown}
use Rattle.layers.specs.Chains.{is_above, is_apart, is_under_side}
use Rattle.layers.proofs.AroundLemmas.Turns.{IsAround-above, IsAround-apart, IsAround-over, IsAround-under}
use Rattle.layers.proofs.around.turns.around_edge.Goals as goal

-- what the test of 0 says of a number that fits
zero_of : (z : ℤ) → SFits w128 z → nat_eq (of_z w128 z) 0 ≡ true → z ≡ pos 0
zero_of (pos n) fits is = ap pos (eqb-true n 0 is)
zero_of (negsuc n) fits is = let none = eqb-true _ 0 is in absurd (omega (arith, ints, none, fits))

of_zero : (z : ℤ) → z ≡ pos 0 → nat_eq (of_z w128 z) 0 ≡ true
of_zero z none = ap (λ k. nat_eq (of_z w128 k) 0) none

pub returns-then-is_apart_from : goal.returns-then-is_apart_from
returns-then-is_apart_from c =
    let bounds = ap (λ bounds. grown bounds c.args.to) (sym c.box_at.ensures) ∙ sym c.grown-bounds.ensures in
    IsAround-apart c.args.from c.args.to c.args.point
    (ap₂ is_apart (sym c.extent_at-extent.ensures) bounds ∙ sym c.is_apart_from.ensures ∙ c.if-is_apart_from.true)

pub returns-then-is_above : goal.returns-then-is_above
returns-then-is_above c =
    let fits : SFits w64 c.steps_over-turns.result = search rules in
    let bounds = ap (λ bounds. grown bounds c.args.to) (sym c.box_at.ensures) ∙ sym c.grown-bounds.ensures in
    simp to_z-of_z (rw c.steps_over-turns.ensures (IsAround-above c.args.from c.args.to c.args.point
    (ap₂ is_above (sym c.extent_at-extent.ensures) bounds ∙ sym c.is_above.ensures ∙ c.if-is_above.true)))

pub returns-then-is_under : goal.returns-then-is_under
returns-then-is_under c =
    let fits : SFits w64 c.steps_over-turns.result = search rules in
    let side : SFits w128 c.side_of-side.result = search rules in
    let bounds = ap (λ bounds. grown bounds c.args.to) (sym c.box_at.ensures) ∙ sym c.grown-bounds.ensures in
    let is = c.side_of-side.ensures in
    let says : c.is_under.result ≡ is_under_side c.args.from c.args.to c.side_of-side.result = simp to_z-of_z at c.is_under.ensures in
    simp to_z-of_z (rw c.steps_over-turns.ensures (IsAround-under c.args.from c.args.to c.args.point
    (ap₂ is_apart (sym c.extent_at-extent.ensures) bounds ∙ sym c.is_apart_from.ensures ∙ c.if-is_apart_from.false)
    (ap₂ is_above (sym c.extent_at-extent.ensures) bounds ∙ sym c.is_above.ensures ∙ c.if-is_above.false)
    (nat_eq (of_z w128 c.side_of-side.result) 0)
    (ap (is_under_side c.args.from c.args.to) (sym is) ∙ sym says ∙ c.if-is_under.true)
    (λ test. sym is ∙ zero_of c.side_of-side.result side test)
    (λ none. of_zero c.side_of-side.result (is ∙ none))))

pub returns : goal.returns
returns c =
    let side : SFits w128 c.side_of-side.result = search rules in
    let bounds = ap (λ bounds. grown bounds c.args.to) (sym c.box_at.ensures) ∙ sym c.grown-bounds.ensures in
    let is = c.side_of-side.ensures in
    let says : c.is_under.result ≡ is_under_side c.args.from c.args.to c.side_of-side.result = simp to_z-of_z at c.is_under.ensures in
    IsAround-over c.args.from c.args.to c.args.point
    (ap₂ is_apart (sym c.extent_at-extent.ensures) bounds ∙ sym c.is_apart_from.ensures ∙ c.if-is_apart_from.false)
    (ap₂ is_above (sym c.extent_at-extent.ensures) bounds ∙ sym c.is_above.ensures ∙ c.if-is_above.false)
    (ap (is_under_side c.args.from c.args.to) (sym is) ∙ sym says ∙ c.if-is_under.false)
