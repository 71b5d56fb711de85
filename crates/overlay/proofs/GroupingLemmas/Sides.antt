-- Where three points lie straight on, which of the edges between them begins first.
use Rattle.std.proofs.Common.{◌≡◌, ◌≢◌, inl, inr, ℤ, ◌-ℤ◌, ◌*ℤ◌, ◌≤ℤ◌, ◌<ℤ◌, refl, sym, ap, ◌∙◌, subst₂, arith}
use Rattle.std.proofs.lemmas.Int.{by_lt_z, ints}
use Rattle.plane.specs.declared.edge.Edge.{Edge}
use Rattle.plane.specs.declared.point.Point.{Point}
use Rattle.plane.specs.Ends.{edge_between}
use Rattle.plane.specs.SweepLine.Heights.{rightwards, rise, run}
use Rattle.plane.proofs.MeetLemmas.Identities.{identity, minus, number, plus, times}
use Rattle.plane.proofs.SweepLineLemmas.Rightwards.{rightwards-left, rightwards-same}
use Rattle.overlay.specs.Contours.Outlines.{IsStraight}
use Rattle.overlay.specs.Fill.Begins.{BeginsUpto, steps}
use Rattle.overlay.proofs.ContourLemmas.Straight.{straight-back, ways}
use Rattle.overlay.proofs.ContourLemmas.Ways.{rises-alike}
use Rattle.overlay.proofs.FillLemmas.Tests.{lt_true}
use Rattle.overlay.proofs.PieceLemmas.Made.{steps-run}

-- all three to the right, each further than the one before; or all to the left; or all above one another
data Goes (a b c : Point) : Type 0 where
  right : a.x <ℤ b.x → b.x <ℤ c.x → Goes a b c
  left : b.x <ℤ a.x → c.x <ℤ b.x → Goes a b c
  upright : a.x ≡ b.x → b.x ≡ c.x → Goes a b c

goes : (a b c : Point) → IsStraight a b c → Goes a b c
goes a b c is =
    let alike = rises-alike (b.x -ℤ a.x) (b.y -ℤ a.y) (c.x -ℤ b.x) (c.y -ℤ b.y) (ways a b c is) in
    by_lt_z b.x c.x
    (λ second. let first = alike.positive (omega (arith, ints, second)) in right (omega (arith, ints, first)) second)
    (λ upto. by_lt_z c.x b.x
    (λ second. let first = alike.negative (omega (arith, ints, second)) in left (omega (arith, ints, first)) second)
    (λ from. let first = alike.zero (omega (arith, ints, upto, from)) in upright (omega (arith, ints, first)) (omega (arith, ints, upto, from))))

-- ---- rightwards

module _ (a b c : Point) (is : IsStraight a b c) (first : a.x <ℤ b.x) (second : b.x <ℤ c.x) where
  abbrev one : Edge
  one = edge_between a b

  abbrev whole : Edge
  whole = edge_between a c

  slope : (rise whole *ℤ run one) ≡ (rise one *ℤ run whole)
  slope =
      let turned = is.along in
      let sum = identity (times (minus (number c.y) (number a.y)) (minus (number b.x) (number a.x)))
      (plus (times (minus (number b.y) (number a.y)) (minus (number c.x) (number a.x))) (minus (times (minus (number b.x) (number a.x)) (minus (number c.y) (number b.y))) (times (minus (number b.y) (number a.y)) (minus (number c.x) (number b.x))))) (omega arith) in
      omega (arith, ints, turned, sum)

  slopes : (rise whole *ℤ steps one) ≡ (rise one *ℤ steps whole)
  slopes =
      ap (λ (z : ℤ). rise whole *ℤ z) (steps-run one first) ∙ slope ∙ ap (λ (z : ℤ). rise one *ℤ z) (sym (steps-run whole (omega (arith, ints, first, second))))

  whole-one : BeginsUpto whole one
  whole-one = inr (refl, inr (refl, upto (rise whole *ℤ steps one) (rise one *ℤ steps whole) slopes))
    where
      upto : (x y : ℤ) → x ≡ y → x ≤ℤ y
      upto x y same = omega (arith, ints, same)

  one-whole : BeginsUpto one whole
  one-whole = inr (refl, inr (refl, from (rise whole *ℤ steps one) (rise one *ℤ steps whole) slopes))
    where
      from : (x y : ℤ) → x ≡ y → y ≤ℤ x
      from x y same = omega (arith, ints, same)

  whole-other : BeginsUpto whole (edge_between b c)
  whole-other = inl first

-- ---- either way

-- The one isn't vertical either, and begins no later.
abbrev pub BeginsBy : Edge → Edge → Type 0
BeginsBy one other = other.x1 ≢ other.x0 → (one.x1 ≢ one.x0) × BeginsUpto (rightwards one) (rightwards other)

turned-right : (a b : Point) → a.x <ℤ b.x → rightwards (edge_between a b) ≡ edge_between a b
turned-right a b more = rightwards-same (edge_between a b) more

turned-left : (a b : Point) → b.x <ℤ a.x → rightwards (edge_between a b) ≡ edge_between b a
turned-left a b less = rightwards-left (edge_between a b) (lt_true b.x a.x less)

module _ (a b c : Point) (is : IsStraight a b c) where
  -- the whole begins by the first part
  pub whole-by_first : BeginsBy (edge_between a c) (edge_between a b)
  whole-by_first sloped = go (goes a b c is)
    where
      go : Goes a b c → (c.x ≢ a.x) × BeginsUpto (rightwards (edge_between a c)) (rightwards (edge_between a b))
      go (right first second) = (
        λ same. omega (arith, ints, first, second, same),
        subst₂ BeginsUpto (sym (turned-right a c (omega (arith, ints, first, second)))) (sym (turned-right a b first)) (whole-one a b c is first second),
      )
      go (left first second) = (
        λ same. omega (arith, ints, first, second, same),
        subst₂ BeginsUpto (sym (turned-left a c (omega (arith, ints, first, second)))) (sym (turned-left a b first)) (whole-other c b a (straight-back a b c is) second first),
      )
      go (upright first second) = absurd (sloped (sym first))

  -- and by the second
  pub whole-by_second : BeginsBy (edge_between a c) (edge_between b c)
  whole-by_second sloped = go (goes a b c is)
    where
      go : Goes a b c → (c.x ≢ a.x) × BeginsUpto (rightwards (edge_between a c)) (rightwards (edge_between b c))
      go (right first second) = (
        λ same. omega (arith, ints, first, second, same),
        subst₂ BeginsUpto (sym (turned-right a c (omega (arith, ints, first, second)))) (sym (turned-right b c second)) (whole-other a b c is first second),
      )
      go (left first second) = (
        λ same. omega (arith, ints, first, second, same),
        subst₂ BeginsUpto (sym (turned-left a c (omega (arith, ints, first, second)))) (sym (turned-left b c second)) (whole-one c b a (straight-back a b c is) second first),
      )
      go (upright first second) = absurd (sloped (sym second))

  -- rightwards the first part begins by the whole
  pub first-by_whole : a.x <ℤ c.x → (a.x <ℤ b.x) × BeginsUpto (rightwards (edge_between a b)) (rightwards (edge_between a c))
  first-by_whole more = go (goes a b c is)
    where
      go : Goes a b c → (a.x <ℤ b.x) × BeginsUpto (rightwards (edge_between a b)) (rightwards (edge_between a c))
      go (right first second) = (first, subst₂ BeginsUpto (sym (turned-right a b first)) (sym (turned-right a c more)) (one-whole a b c is first second))
      go (left first second) = absurd (omega (arith, ints, first, second, more))
      go (upright first second) = absurd (omega (arith, ints, first, second, more))

  -- and leftwards the second
  pub second-by_whole : c.x <ℤ a.x → (c.x <ℤ b.x) × BeginsUpto (rightwards (edge_between b c)) (rightwards (edge_between a c))
  second-by_whole less = go (goes a b c is)
    where
      go : Goes a b c → (c.x <ℤ b.x) × BeginsUpto (rightwards (edge_between b c)) (rightwards (edge_between a c))
      go (right first second) = absurd (omega (arith, ints, first, second, less))
      go (left first second) = (second, subst₂ BeginsUpto (sym (turned-left b c second)) (sym (turned-left a c less)) (one-whole c b a (straight-back a b c is) second first))
      go (upright first second) = absurd (omega (arith, ints, first, second, less))
