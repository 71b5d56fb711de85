use Rattle.std.proofs.Common.{◌≡◌, ◌∙◌, ℤ, ◌+ℤ◌, ap, ap₂, rules, to_z, of_z, w64, w8}
use Rattle.overlay.proofs.boundary.lines.plus.Goals as goal

pub returns : goal.returns
returns c =
    let sums = c.args.sums in
    let change = c.args.change in
    let first : to_z w64 (of_z w64 c.sum.result) ≡ c.sum.result = search rules in
    let second : to_z w64 (of_z w64 c.sum-2.result) ≡ c.sum-2.result = search rules in
    let third : to_z w64 (of_z w64 c.sum-3.result) ≡ c.sum-3.result = search rules in
    let a : to_z w64 (of_z w64 sums.count) ≡ sums.count = search rules in
    let b : to_z w64 (of_z w64 (to_z w8 (of_z w8 change.count))) ≡ change.count = search rules in
    let d : to_z w64 (of_z w64 sums.subject) ≡ sums.subject = search rules in
    let e : to_z w64 (of_z w64 (to_z w8 (of_z w8 change.subject))) ≡ change.subject = search rules in
    let f : to_z w64 (of_z w64 sums.clip) ≡ sums.clip = search rules in
    let h : to_z w64 (of_z w64 (to_z w8 (of_z w8 change.clip))) ≡ change.clip = search rules in
    ap₂ (λ (count subject : ℤ). record { count = count; subject = subject; clip = to_z w64 (of_z w64 c.sum-3.result) }) (first ∙ c.sum.ensures ∙ ap₂ (λ (i j : ℤ). i +ℤ j) a b) (second ∙ c.sum-2.ensures ∙ ap₂ (λ (i j : ℤ). i +ℤ j) d e)
    ∙ ap (λ (clip : ℤ). record { count = sums.count +ℤ change.count; subject = sums.subject +ℤ change.subject; clip = clip }) (third ∙ c.sum-3.ensures ∙ ap₂ (λ (i j : ℤ). i +ℤ j) f h)
