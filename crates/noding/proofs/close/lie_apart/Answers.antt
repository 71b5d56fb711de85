use Rattle.std.proofs.Common.{◌^◌, ◌≡◌, ◌↔◌, inl, Bool, MatchBool, true, false, ◌-ℤ◌, ℤ, FitsSigned, to_z, of_z, rules, arith, refl, subst, ◌∙◌}
use Rattle.std.specs.Int.{w128}
use Rattle.std.proofs.lemmas.Int.{ints, to_z-of_z}
use Rattle.plane.specs.Lines.{margin_of}
use Rattle.plane.specs.Meet.Crosses.{IsWithin}
use Rattle.plane.proofs.MeetLemmas.Shares.{whole, part_of_one, part_of_other}
use Rattle.noding.specs.Close.{LieBeyond, LiesBeside}
use Rattle.noding.proofs.ChainLemmas.Close.{either_tested}
use Rattle.noding.proofs.SnapLemmas.Apart.{one-beside, other-beside}
use Rattle.noding.proofs.close.lie_apart.Goals as goal

-- the difference of two cross products
module _ (a b : ℤ) (of_a : to_z w128 (of_z w128 a) ≡ a) (of_b : to_z w128 (of_z w128 b) ≡ b) (a_within : IsWithin (2 ^ 65) a) (b_within : IsWithin (2 ^ 65) b) where
  abbrev gap : ℤ
  gap = to_z w128 (of_z w128 (to_z w128 (of_z w128 a) -ℤ to_z w128 (of_z w128 b)))

  gap-is : gap ≡ a -ℤ b
  gap-is =
      let from = a_within.from in let upto = a_within.upto in let b_from = b_within.from in let b_upto = b_within.upto in
      let fits : FitsSigned w128 (to_z w128 (of_z w128 a) -ℤ to_z w128 (of_z w128 b)) = omega (arith, ints, of_a, of_b, from, upto, b_from, b_upto) in
      let is = to_z-of_z w128 (to_z w128 (of_z w128 a) -ℤ to_z w128 (of_z w128 b)) fits in omega (arith, ints, is, of_a, of_b)

  gap-within : IsWithin (2 ^ 67) gap
  gap-within =
      let is = gap-is in let from = a_within.from in let upto = a_within.upto in let b_from = b_within.from in let b_upto = b_within.upto in
      record { from = omega (arith, ints, is, from, upto, b_from, b_upto); upto = omega (arith, ints, is, from, upto, b_from, b_upto) }

  -- so heights lie as they are told
  told : (m first last most : ℤ) (r : Bool) → to_z w128 (of_z w128 m) ≡ m → a ≡ first → b ≡ last → m ≡ most
      → MatchBool r (LieBeyond (to_z w128 (of_z w128 a)) gap (to_z w128 (of_z w128 m))) (¬ (LieBeyond (to_z w128 (of_z w128 a)) gap (to_z w128 (of_z w128 m))))
      → MatchBool r (LieBeyond first (first -ℤ last) most) (¬ (LieBeyond first (first -ℤ last) most))
  told m first last most r of_m is_a is_b is_m beyond =
      subst (λ (z : ℤ). MatchBool r (LieBeyond z (z -ℤ last) most) (¬ (LieBeyond z (z -ℤ last) most))) is_a
      (subst (λ (z : ℤ). MatchBool r (LieBeyond a (a -ℤ z) most) (¬ (LieBeyond a (a -ℤ z) most))) is_b
      (subst (λ (z : ℤ). MatchBool r (LieBeyond a z most) (¬ (LieBeyond a z most))) gap-is
      (subst (λ (z : ℤ). MatchBool r (LieBeyond z gap most) (¬ (LieBeyond z gap most))) of_a
      (subst (λ (z : ℤ). MatchBool r (LieBeyond (to_z w128 (of_z w128 a)) gap z) (¬ (LieBeyond (to_z w128 (of_z w128 a)) gap z))) (of_m ∙ is_m) beyond))))

-- the same test of the same fact in other words
tested-same : (r : Bool) (P Q : Type 0) → P ↔ Q → MatchBool r P (¬ P) → MatchBool r Q (¬ Q)
tested-same true P Q both is = both.0 is
tested-same false P Q both none = λ is. none (both.1 is)

pub lie_beyond-requires-clause-end : goal.lie_beyond-requires-clause-end
lie_beyond-requires-clause-end c =
    gap-within c.cross_product-first.result c.cross_product-whole.result (search rules) (search rules) c.cross_product-first.ensures.within c.cross_product-whole.ensures.within

pub lie_beyond-requires-2-clause-end : goal.lie_beyond-requires-2-clause-end
lie_beyond-requires-2-clause-end c =
    gap-within c.cross_product-second.result c.cross_product-whole.result (search rules) (search rules) c.cross_product-second.ensures.within c.cross_product-whole.ensures.within

pub returns-then-lie_beyond : goal.returns-then-lie_beyond
returns-then-lie_beyond c =
    let one = c.args.one in
    let other = c.args.other in
    let whole_is : c.cross_product-whole.result ≡ whole one other = cc in
    let first_is : c.cross_product-first.result ≡ part_of_one one other = cc in
    inl ((one-beside one other).0
    (told c.cross_product-first.result c.cross_product-whole.result (search rules) (search rules) c.cross_product-first.ensures.within c.cross_product-whole.ensures.within
    c.margin_of.result (part_of_one one other) (whole one other) (margin_of other) true (search rules) first_is whole_is c.margin_of.ensures.value c.if-lie_beyond.ensures))

pub returns : goal.returns
returns c =
    let one = c.args.one in
    let other = c.args.other in
    let whole_is : c.cross_product-whole.result ≡ whole one other = cc in
    let first_is : c.cross_product-first.result ≡ part_of_one one other = cc in
    let second_is : c.cross_product-second.result ≡ part_of_other one other = cc in
    let first = tested-same false (LieBeyond (part_of_one one other) (part_of_one one other -ℤ whole one other) (margin_of other)) (LiesBeside one other) (one-beside one other)
    (told c.cross_product-first.result c.cross_product-whole.result (search rules) (search rules) c.cross_product-first.ensures.within c.cross_product-whole.ensures.within
    c.margin_of.result (part_of_one one other) (whole one other) (margin_of other) false (search rules) first_is whole_is c.margin_of.ensures.value c.if-lie_beyond.ensures) in
    let second = tested-same c.lie_beyond-2.result (LieBeyond (part_of_other one other) (part_of_other one other -ℤ whole one other) (margin_of one)) (LiesBeside other one) (other-beside one other)
    (told c.cross_product-second.result c.cross_product-whole.result (search rules) (search rules) c.cross_product-second.ensures.within c.cross_product-whole.ensures.within
    c.margin_of-2.result (part_of_other one other) (whole one other) (margin_of one) c.lie_beyond-2.result (search rules) second_is whole_is c.margin_of-2.ensures.value c.lie_beyond-2.ensures) in
    either_tested false c.lie_beyond-2.result (LiesBeside one other) (LiesBeside other one) first second refl
