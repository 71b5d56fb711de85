use Rattle.std.proofs.Common.{◌≡◌, ◌∙◌, ◌^◌, ◌+ℤ◌, ◌-ℤ◌, ◌≤ℤ◌, ℤ, pos, FitsSigned, w64, to_z, of_z, arith, rules, ap, sym, subst}
use Rattle.std.proofs.lemmas.Int.{ints, to_z-of_z}
use Rattle.std.proofs.lemmas.Nat.{pow_pos}
use Rattle.grid.specs.Doubles.{in_leasts}
use Rattle.grid.specs.Fit.{half, limited}
use Rattle.grid.proofs.NearestLemmas.{IsNearest-unique}
use Rattle.grid.proofs.fit.origin_of.Goals as goal

pub returns-then-greatest-least-gt-WIDEST-clause-none : goal.returns-then-greatest-least-gt-WIDEST-clause-none
returns-then-greatest-least-gt-WIDEST-clause-none c = λ narrow.
    let upto = narrow c.nearest_found-least.result c.nearest_found-greatest.result c.nearest_found-least.ensures.nearest c.nearest_found-greatest.ensures.nearest in
    omega (arith, ints, upto, c.nearest_found-least.ensures.within, c.nearest_found-greatest.ensures.within)

pub returns-clause-middle : goal.returns-clause-middle
returns-clause-middle c = λ a b first second.
    let least = c.nearest_found-least.result in
    let greatest = c.nearest_found-greatest.result in
    let unit = 2 ^ c.args.scale in
    let is_a : a ≡ least = IsNearest-unique unit (in_leasts c.args.low) a least (pow_pos c.args.scale) first c.nearest_found-least.ensures.nearest in
    let is_b : b ≡ greatest = IsNearest-unique unit (in_leasts c.args.high) b greatest (pow_pos c.args.scale) second c.nearest_found-greatest.ensures.nearest in
    let within_a = c.nearest_found-least.ensures.within in
    let within_b = c.nearest_found-greatest.ensures.within in
    let half_fits : FitsSigned w64 c.half.result = search rules in
    let fits : FitsSigned w64 c.limited.result = search rules in
    let sum : to_z w64 (of_z w64 (to_z w64 (of_z w64 least) +ℤ to_z w64 (of_z w64 greatest))) ≡ least +ℤ greatest = omega (arith, ints, within_a, within_b) in
    let both : least +ℤ greatest ≡ a +ℤ b = ap (λ (z : ℤ). z +ℤ greatest) (sym is_a) ∙ ap (λ (z : ℤ). a +ℤ z) (sym is_b) in
    let middle : c.half.result ≡ half (a +ℤ b) = c.half.ensures.value ∙ ap half sum ∙ ap half both in
    to_z-of_z w64 c.limited.result fits ∙ c.limited.ensures.value ∙ ap limited (to_z-of_z w64 c.half.result half_fits) ∙ ap limited middle

pub returns-clause-narrow : goal.returns-clause-narrow
returns-clause-narrow c = λ a b first second.
    let least = c.nearest_found-least.result in
    let greatest = c.nearest_found-greatest.result in
    let unit = 2 ^ c.args.scale in
    let is_a : a ≡ least = IsNearest-unique unit (in_leasts c.args.low) a least (pow_pos c.args.scale) first c.nearest_found-least.ensures.nearest in
    let is_b : b ≡ greatest = IsNearest-unique unit (in_leasts c.args.high) b greatest (pow_pos c.args.scale) second c.nearest_found-greatest.ensures.nearest in
    let upto : (greatest -ℤ least) ≤ℤ pos 2147483648 = omega (arith, ints, c.nearest_found-least.ensures.within, c.nearest_found-greatest.ensures.within) in
    subst (λ (z : ℤ). (b -ℤ z) ≤ℤ pos 2147483648) (sym is_a) (subst (λ (z : ℤ). (z -ℤ least) ≤ℤ pos 2147483648) (sym is_b) upto)
