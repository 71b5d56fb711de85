use Rattle.std.proofs.Common.{◌^◌, ◌≡◌, ◌⊎◌, inl, inr, Bool, true, false, ◌||◌, pos, ◌+ℤ◌, ◌-ℤ◌, ◌*ℤ◌, ◌<ℤ◌, ◌≤ℤ◌, ℤ, FitsSigned, to_z, of_z, rules, arith, refl}
use Rattle.std.specs.Int.{w128}
use Rattle.std.specs.Int.Signed.{lt_z}
use Rattle.std.proofs.lemmas.Int.{ints, to_z-of_z}
use Rattle.plane.specs.declared.edge.Edge.{Edge}
use Rattle.plane.specs.Meet.Crosses.{IsWithin}
use Rattle.noding.specs.Close.{PassesEnd, ShareEnd}
use Rattle.plane.specs.Lines.{margin_of}
use Rattle.noding.proofs.SnapLemmas.Beside.{between_ways, passes-narrow, ways-exchanged}
use Rattle.noding.proofs.close.part_widely.Goals as goal

-- one of two tests that are set
one_set : (one other : Bool) → (one || other) ≡ true → (one ≡ true) ⊎ (other ≡ true)
one_set true other set = inl refl
one_set false other set = inr set

below : (a b : ℤ) → lt_z a b ≡ true → a <ℤ b
below a b set = search (rules, set)

-- the product of the ways lies within the margin of the edge that passes an end
narrow : (one other : Edge) → ShareEnd one other → PassesEnd one other ⊎ PassesEnd other one → (most : ℤ) → margin_of one ≤ℤ most → margin_of other ≤ℤ most
    → ((pos 2 *ℤ between_ways one other) ≤ℤ most) × ((pos 0 -ℤ most) ≤ℤ (pos 2 *ℤ between_ways one other))
narrow one other share (inl passes) most first second = let (upto, from) = passes-narrow one other share passes in (omega (arith, ints, upto, first), omega (arith, ints, from, first))
narrow one other (x, y, of_one, of_other) (inr passes) most first second =
    let (upto, from) = passes-narrow other one (x, y, of_other, of_one) passes in
    let turned = ways-exchanged one other in
    (omega (arith, ints, from, second, turned), omega (arith, ints, upto, second, turned))

outside : (m s t : ℤ) → (lt_z m s || lt_z t (pos 0)) ≡ true → (m <ℤ s) ⊎ (t <ℤ pos 0)
outside m s t set = elim (one_set (lt_z m s) (lt_z t (pos 0)) set) [
  | inl over ↦ inl (below m s over)
  | inr under ↦ inr (below t (pos 0) under)
]

module _ (a m n : ℤ) (of_a : to_z w128 (of_z w128 a) ≡ a) (of_m : to_z w128 (of_z w128 m) ≡ m) (of_n : to_z w128 (of_z w128 n) ≡ n)
    (a_within : IsWithin (2 ^ 65) a) (m_within : IsWithin (2 ^ 33) m) (n_within : IsWithin (2 ^ 33) n) where
  abbrev twice : ℤ
  twice = to_z w128 (of_z w128 a) +ℤ to_z w128 (of_z w128 a)

  abbrev most : ℤ
  most = to_z w128 (of_z w128 m) +ℤ to_z w128 (of_z w128 n)

  twice-fits : FitsSigned w128 twice
  twice-fits = let from = a_within.from in let upto = a_within.upto in omega (arith, ints, of_a, from, upto)

  most-fits : FitsSigned w128 most
  most-fits = let from = m_within.from in let upto = m_within.upto in let first = n_within.from in let last = n_within.upto in omega (arith, ints, of_m, of_n, from, upto, first, last)

  twice-is : to_z w128 (of_z w128 twice) ≡ a +ℤ a
  twice-is = let is = to_z-of_z w128 twice twice-fits in omega (arith, ints, is, of_a)

  most-is : to_z w128 (of_z w128 most) ≡ m +ℤ n
  most-is = let is = to_z-of_z w128 most most-fits in omega (arith, ints, is, of_m, of_n)

  all-fits : FitsSigned w128 (to_z w128 (of_z w128 twice) +ℤ to_z w128 (of_z w128 most))
  all-fits =
      let one = twice-is in let other = most-is in
      let from = a_within.from in let upto = a_within.upto in let m_from = m_within.from in let m_upto = m_within.upto in let n_from = n_within.from in let n_upto = n_within.upto in
      omega (arith, ints, one, other, from, upto, m_from, m_upto, n_from, n_upto)

  neither : (one other : Edge) → ShareEnd one other → a ≡ between_ways one other → m ≡ margin_of one → n ≡ margin_of other
      → (lt_z (to_z w128 (of_z w128 most)) (to_z w128 (of_z w128 twice)) || lt_z (to_z w128 (of_z w128 (to_z w128 (of_z w128 twice) +ℤ to_z w128 (of_z w128 most)))) (pos 0)) ≡ true
      → PassesEnd one other ⊎ PassesEnd other one → ⊥
  neither one other share ways first second set either =
      let double = twice-is in let sum = most-is in
      let all = to_z-of_z w128 (to_z w128 (of_z w128 twice) +ℤ to_z w128 (of_z w128 most)) all-fits in
      let (least, greatest) = narrow one other share either (m +ℤ n) (let from = n_within.from in omega (arith, ints, first, second)) (omega (arith, ints, first, second)) in
      elim (outside (to_z w128 (of_z w128 most)) (to_z w128 (of_z w128 twice)) (to_z w128 (of_z w128 (to_z w128 (of_z w128 twice) +ℤ to_z w128 (of_z w128 most)))) set) [
        | inl over ↦ omega (arith, ints, over, ways, double, sum, least, greatest)
        | inr under ↦ omega (arith, ints, under, ways, double, sum, all, least, greatest)
      ]

pub overflow_add-result-3 : goal.overflow_add-result-3
overflow_add-result-3 c =
    all-fits c.cross_product-apart.result c.margin_of.result c.margin_of-2.result (search rules) (search rules) (search rules)
    c.cross_product-apart.ensures.within c.margin_of.ensures.within c.margin_of-2.ensures.within

pub returns : goal.returns
returns c =
    neither c.cross_product-apart.result c.margin_of.result c.margin_of-2.result (search rules) (search rules) (search rules)
    c.cross_product-apart.ensures.within c.margin_of.ensures.within c.margin_of-2.ensures.within
    c.args.one c.args.other c.requires ways c.margin_of.ensures.value c.margin_of-2.ensures.value
  where
    ways : c.cross_product-apart.result ≡ between_ways c.args.one c.args.other
    ways = rw (← c.vector_along.ensures.x, ← c.vector_along.ensures.y, ← c.vector_along-2.ensures.x, ← c.vector_along-2.ensures.y) c.cross_product-apart.ensures.value
