use Rattle.std.proofs.Common.{◌≡◌, ◌∙◌, ℤ, ◌+ℤ◌, ap₂, rules, to_z, of_z, w64}
use Rattle.overlay.proofs.fill.pieces.sum_of.Goals as goal

pub returns : goal.returns
returns c =
    let first : to_z w64 (of_z w64 c.sum.result) ≡ c.sum.result = search rules in
    let second : to_z w64 (of_z w64 c.sum-2.result) ≡ c.sum-2.result = search rules in
    let a : to_z w64 (of_z w64 c.args.one.subject) ≡ c.args.one.subject = search rules in
    let b : to_z w64 (of_z w64 c.args.other.subject) ≡ c.args.other.subject = search rules in
    let d : to_z w64 (of_z w64 c.args.one.clip) ≡ c.args.one.clip = search rules in
    let e : to_z w64 (of_z w64 c.args.other.clip) ≡ c.args.other.clip = search rules in
    ap₂ (λ (subject clip : ℤ). record { edge = c.args.one.edge; subject = subject; clip = clip }) (first ∙ c.sum.ensures ∙ ap₂ (λ (i j : ℤ). i +ℤ j) a b) (second ∙ c.sum-2.ensures ∙ ap₂ (λ (i j : ℤ). i +ℤ j) d e)
