use Rattle.std.proofs.Common.{◌≡◌, ◌∙◌, ◌^◌, ◌+ℤ◌, ℤ, Option, Some, None, IfNone, FitsSigned, w64, to_z, of_z, arith, ap, sym}
use Rattle.std.specs.Int.{w32}
use Rattle.std.proofs.lemmas.Int.{ints}
use Rattle.std.proofs.lemmas.Nat.{pow_pos}
use Rattle.grid.specs.Doubles.{in_leasts}
use Rattle.grid.specs.Grid.{IsNearest}
use Rattle.grid.proofs.NearestLemmas.{IsNearest-unique}
use Rattle.grid.proofs.axis.nearest.Goals as goal

IfNone-weaker : (o : Option ℤ) (P Q : Type 0) → (P → Q) → IfNone o P → IfNone o Q
IfNone-weaker None P Q f p = f p
IfNone-weaker (Some z) P Q f p = p

pub returns-clause-none : goal.returns-clause-none
returns-clause-none c =
    let unit = 2 ^ c.args.scale in
    let leasts = in_leasts c.args.bits in
    let o = c.args.origin in
    let all = c.in-Some.all in
    let origin : to_z w64 (of_z w64 o) ≡ o = omega (arith, ints) in
    let whole : to_z w64 (of_z w64 all) ≡ all = omega (arith, ints, c.in-Some.ensures.within) in
    let P : Type 0 = (n : ℤ) → FitsSigned w32 n → (n +ℤ to_z w64 (of_z w64 o)) ≡ to_z w64 (of_z w64 all) → ⊥ in
    let Q : Type 0 = (n : ℤ) → FitsSigned w32 n → IsNearest unit leasts (n +ℤ o) → ⊥ in
    let turned : P → Q = λ none n fits near.
    none n fits (ap (λ (z : ℤ). n +ℤ z) origin ∙ IsNearest-unique unit leasts (n +ℤ o) all (pow_pos c.args.scale) near c.in-Some.ensures.nearest ∙ sym whole) in
    IfNone-weaker c.less_origin.result P Q turned c.less_origin.ensures.none
