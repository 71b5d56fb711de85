use Rattle.std.proofs.Common.{◌^◌, ◌≡◌, Bool, MatchBool, true, false, ◌&&◌, pos, ◌+ℤ◌, ◌-ℤ◌, ◌<ℤ◌, ℤ, FitsSigned, to_z, of_z, rules, arith, refl}
use Rattle.std.specs.Int.{w128}
use Rattle.std.specs.Int.Signed.{lt_z}
use Rattle.std.proofs.lemmas.Int.{ints, to_z-of_z}
use Rattle.plane.specs.Meet.Crosses.{IsWithin}
use Rattle.noding.proofs.ChainLemmas.Close.{both_tested}
use Rattle.noding.proofs.close.lie_beyond.Goals as goal

-- two tests of which both are made
and_tested : (first second : Bool) (P Q : Type 0) → MatchBool first P (¬ P) → MatchBool second Q (¬ Q) → MatchBool (first && second) (P × Q) (¬ (P × Q))
and_tested true true P Q is too = (is, too)
and_tested true false P Q is none = λ both. none both.1
and_tested false second P Q none said = λ both. none both.0

-- a comparison tells, said of numbers that are the same
less_tested : (a b c d : ℤ) → ((a <ℤ b) → c <ℤ d) → ((c <ℤ d) → a <ℤ b) → MatchBool (lt_z a b) (c <ℤ d) (¬ (c <ℤ d))
less_tested a b c d to from = go (lt_z a b) refl
  where
    go : (r : Bool) → lt_z a b ≡ r → MatchBool r (c <ℤ d) (¬ (c <ℤ d))
    go true set = to (search (rules, set))
    go false set = λ less. (let back = from less in omega (arith, ints, set, back))

-- a height, and with the margin
module _ (a m : ℤ) (of_a : to_z w128 (of_z w128 a) ≡ a) (of_m : to_z w128 (of_z w128 m) ≡ m) (a_within : IsWithin (2 ^ 67) a) (m_within : IsWithin (2 ^ 33) m) where
  abbrev more : ℤ
  more = to_z w128 (of_z w128 (to_z w128 (of_z w128 a) +ℤ to_z w128 (of_z w128 m)))

  more-is : more ≡ a +ℤ m
  more-is =
      let from = a_within.from in let upto = a_within.upto in let m_from = m_within.from in let m_upto = m_within.upto in
      let fits : FitsSigned w128 (to_z w128 (of_z w128 a) +ℤ to_z w128 (of_z w128 m)) = omega (arith, ints, of_a, of_m, from, upto, m_from, m_upto) in
      let is = to_z-of_z w128 (to_z w128 (of_z w128 a) +ℤ to_z w128 (of_z w128 m)) fits in omega (arith, ints, is, of_a, of_m)

  over : MatchBool (lt_z (to_z w128 (of_z w128 m)) (to_z w128 (of_z w128 a))) (m <ℤ a) (¬ (m <ℤ a))
  over = less_tested (to_z w128 (of_z w128 m)) (to_z w128 (of_z w128 a)) m a (λ less. omega (arith, ints, less, of_a, of_m)) (λ less. omega (arith, ints, less, of_a, of_m))

  under : MatchBool (lt_z more (pos 0)) (a <ℤ (pos 0 -ℤ m)) (¬ (a <ℤ (pos 0 -ℤ m)))
  under = less_tested more (pos 0) a (pos 0 -ℤ m) (λ less. (let is = more-is in omega (arith, ints, less, is))) (λ less. (let is = more-is in omega (arith, ints, less, is)))

pub returns : goal.returns
returns c =
    let a = c.args.start in
    let b = c.args.end in
    let m = c.args.margin in
    let start : to_z w128 (of_z w128 c.args.start) ≡ c.args.start = search rules in
    let end : to_z w128 (of_z w128 c.args.end) ≡ c.args.end = search rules in
    let margin : to_z w128 (of_z w128 c.args.margin) ≡ c.args.margin = search rules in
    let first = over a m start margin c.requires.start c.requires.margin in
    let last = over b m end margin c.requires.end c.requires.margin in
    let low_first = under a m start margin c.requires.start c.requires.margin in
    let low_last = under b m end margin c.requires.end c.requires.margin in
    both_tested _ _ ((m <ℤ a) × (m <ℤ b)) ((a <ℤ (pos 0 -ℤ m)) × (b <ℤ (pos 0 -ℤ m)))
    (and_tested _ _ (m <ℤ a) (m <ℤ b) first last)
    (and_tested _ _ (a <ℤ (pos 0 -ℤ m)) (b <ℤ (pos 0 -ℤ m)) low_first low_last)
