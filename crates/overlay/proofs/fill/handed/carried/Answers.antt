use Rattle.std.proofs.Common.{◌≡◌, ◌∙◌, ℤ, ◌+ℤ◌, ◌-ℤ◌, ap₂, arith, rules, to_z, of_z, w64}
use Rattle.std.proofs.lemmas.Int.{ints}
use Rattle.overlay.specs.Fill.Counts.{Counts}
use Rattle.overlay.proofs.fill.handed.carried.Goals as goal

-- the numbers as they are passed
passed : (a b c d a' b' c' d' sum : ℤ) → a' ≡ a → b' ≡ b → c' ≡ c → d' ≡ d → sum ≡ ((a' +ℤ b') -ℤ (c' +ℤ d')) → sum ≡ ((a +ℤ b) -ℤ (c +ℤ d))
passed a b c d a' b' c' d' sum first second third fourth is = omega (arith, ints, first, second, third, fourth, is)

pub returns : goal.returns
returns g =
    let below = g.args.below in
    let above = g.args.above in
    let other = g.args.other in
    let ended = g.args.ended in
    let subject : to_z w64 (of_z w64 g.sum_less.result) ≡ g.sum_less.result = search rules in
    let clip : to_z w64 (of_z w64 g.sum_less-2.result) ≡ g.sum_less-2.result = search rules in
    let a : to_z w64 (of_z w64 below.subject) ≡ below.subject = search rules in
    let b : to_z w64 (of_z w64 above.subject) ≡ above.subject = search rules in
    let c : to_z w64 (of_z w64 other.subject) ≡ other.subject = search rules in
    let d : to_z w64 (of_z w64 ended.subject) ≡ ended.subject = search rules in
    let a' : to_z w64 (of_z w64 below.clip) ≡ below.clip = search rules in
    let b' : to_z w64 (of_z w64 above.clip) ≡ above.clip = search rules in
    let c' : to_z w64 (of_z w64 other.clip) ≡ other.clip = search rules in
    let d' : to_z w64 (of_z w64 ended.clip) ≡ ended.clip = search rules in
    ap₂ (λ (s t : ℤ). let counts : Counts = record { subject = s; clip = t } in counts)
    (subject ∙ passed below.subject above.subject other.subject ended.subject (to_z w64 (of_z w64 below.subject)) (to_z w64 (of_z w64 above.subject)) (to_z w64 (of_z w64 other.subject)) (to_z w64 (of_z w64 ended.subject)) g.sum_less.result a b c d g.sum_less.ensures)
    (clip ∙ passed below.clip above.clip other.clip ended.clip (to_z w64 (of_z w64 below.clip)) (to_z w64 (of_z w64 above.clip)) (to_z w64 (of_z w64 other.clip)) (to_z w64 (of_z w64 ended.clip)) g.sum_less-2.result a' b' c' d' g.sum_less-2.ensures)
