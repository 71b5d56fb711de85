use Rattle.std.proofs.Common.{◌≡◌, inl, inr, true, false, ℤ, ◌<ℤ◌, SFits, w32, to_z, of_z, nat_eq, ◌&&◌, sym, ap, ap₂, ◌∙◌, subst, eq-eqb, arith, rules}
use Rattle.std.specs.Int.{int_min, int_max}
use Rattle.std.specs.Int.Signed.{le_z}
use Rattle.std.proofs.lemmas.Bool.{OnTrue_from, and_cases}
use Rattle.std.proofs.lemmas.Int.{to_z-of_z, ints, clamps}
use Rattle.plane.specs.Pairs.Strips.{strip_at}
use Rattle.plane.specs.declared.pairs.items.Bounds.{Bounds}
use Rattle.plane.proofs.PairsLemmas.Told.{not_told_apart}
use Rattle.plane.proofs.pairs.sweep.may_be_told.Goals as goal

pub strip_at-requires : goal.strip_at-requires
strip_at-requires g c =
    let one : SFits w32 c.bounds-first.result.low = search rules in
    let other : SFits w32 c.bounds-second.result.low = search rules in
    let low : SFits w32 c.max-low.result = search rules in
    let greater = (simp to_z-of_z at c.max-low.ensures.value) ∙ ap₂ (λ (a b : Bounds). int_max a.low b.low) c.bounds-first.ensures c.bounds-second.ensures in
    let base = c.requires.base in
    simp to_z-of_z (omega (arith, ints, clamps, greater, base))

pub returns-clause-here : goal.returns-clause-here
returns-clause-here g c =
    let one : SFits w32 c.bounds-first.result.low = search rules in
    let other : SFits w32 c.bounds-second.result.low = search rules in
    let low : SFits w32 c.max-low.result = search rules in
    let greater = (simp to_z-of_z at c.max-low.ensures.value) ∙ ap₂ (λ (a b : Bounds). int_max a.low b.low) c.bounds-first.ensures c.bounds-second.ensures in
    OnTrue_from _ _ (λ (both : le_z (to_z w32 (of_z w32 c.max-low.result)) (to_z w32 (of_z w32 c.min-high.result)) && nat_eq c.strip_at.result c.args.strip ≡ true).
    let here : c.strip_at.result ≡ c.args.strip = grind (arith, both) in
    ap (strip_at c.args.strips) (sym greater) ∙ sym (simp to_z-of_z at c.strip_at.ensures.value) ∙ here)

pub returns-clause-apart : goal.returns-clause-apart
returns-clause-apart g c = λ neither.
    let bounds = g.T.Boxed.bounds in
    let one : SFits w32 c.bounds-first.result.low = search rules in
    let other : SFits w32 c.bounds-second.result.low = search rules in
    let low : SFits w32 c.max-low.result = search rules in
    let one_high : SFits w32 c.bounds-first.result.high = search rules in
    let other_high : SFits w32 c.bounds-second.result.high = search rules in
    let high : SFits w32 c.min-high.result = search rules in
    let greater = (simp to_z-of_z at c.max-low.ensures.value) ∙ ap₂ (λ (a b : Bounds). int_max a.low b.low) c.bounds-first.ensures c.bounds-second.ensures in
    let lesser = (simp to_z-of_z at c.min-high.ensures.value) ∙ ap₂ (λ (a b : Bounds). int_min a.high b.high) c.bounds-first.ensures c.bounds-second.ensures in
    elim (and_cases (le_z (to_z w32 (of_z w32 c.max-low.result)) (to_z w32 (of_z w32 c.min-high.result))) (nat_eq c.strip_at.result c.args.strip) neither) [
      | inl above ↦ not_told_apart c.requires.boxed c.args.strips c.args.strip c.args.one c.args.other
          (let over = simp to_z-of_z at above in
          let apart : c.min-high.result <ℤ c.max-low.result = grind (arith, ints, over) in
          subst (λ (low : ℤ). int_min (bounds c.args.one).high (bounds c.args.other).high <ℤ low) greater (subst (λ (high : ℤ). high <ℤ c.max-low.result) lesser apart))
      | inr elsewhere ↦ λ told.
          let here : c.strip_at.result ≡ c.args.strip = (simp to_z-of_z at c.strip_at.ensures.value) ∙ ap (strip_at c.args.strips) greater ∙ told.here in
          let no : true ≡ false = sym (eq-eqb c.strip_at.result c.args.strip here) ∙ elsewhere in
          cc
    ]
