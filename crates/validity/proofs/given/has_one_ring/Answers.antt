use Rattle.std.proofs.Common.{◌≡◌, ◌-◌, ◌∙◌, ℕ, Bool, true, false, MatchBool, nat_eq, refl, ap₂, subst, sym}
use Rattle.std.proofs.lemmas.Bool.{eqb-false, eqb-true}
use Rattle.overlay.specs.Rings.{AreEnds}
use Rattle.overlay.proofs.EachRing.{rings-size}
use Rattle.validity.specs.Given.{rings_at}
use Rattle.validity.proofs.Alone.{polygon-size}
use Rattle.validity.proofs.given.has_one_ring.Goals as goal

-- whether a number is 1 tells whether one that is the same is
told : (m n : ℕ) → m ≡ n → (t : Bool) → nat_eq m 1 ≡ t → MatchBool t (n ≡ 1) (¬ (n ≡ 1))
told m n same true e = sym same ∙ eqb-true m 1 e
told m n same false e = λ one. eqb-false m 1 e (same ∙ one)

pub returns : goal.returns
returns c =
    let rings = rings_at c.args.set.rings in
    let ends = c.args.set.polygon_ends.now in
    let right = subst (λ (count : ℕ). AreEnds 0 ends count) (sym (rings-size c.args.set.rings.points.now 0 c.args.set.rings.ends.now)) c.requires.set.polygons.0 in
    told _ _ (ap₂ (λ (behind first : ℕ). behind - first) c.range_at-first.ensures.end c.range_at-first.ensures.start ∙ sym (polygon-size rings ends c.args.polygon c.requires.polygon right)) _ refl
