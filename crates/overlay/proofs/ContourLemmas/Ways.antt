-- Ways that go in one direction.
use Rattle.std.proofs.Common.{◌≡◌, ℤ, pos, ◌+ℤ◌, ◌-ℤ◌, ◌*ℤ◌, ◌<ℤ◌, sym, ap, ap₂, ◌∙◌, subst, arith}
use Rattle.std.specs.Prelude.{int_le}
use Rattle.std.proofs.lemmas.Int.{by_lt_z, ints}
use Rattle.plane.specs.Meet.Crosses.{cross}
use Rattle.plane.proofs.MeetLemmas.Identities.{identity, minus, number, plus, times}
use Rattle.overlay.specs.Contours.Turns.{dot}
use Rattle.overlay.proofs.ContourLemmas.Turns.{across, along, some_square}
use Rattle.noding.proofs.SnapLemmas.Numbers.{cross-exchanged, n_of, natural, negate, negative, positive_by, same_test, zero_by}

-- ---- numbers of one sign

-- The one is positive where the other is, 0 where that is, and negative where that is.
pub record Alike (a b : ℤ) : Type 0 where
  pub positive : pos 0 <ℤ b → pos 0 <ℤ a
  pub zero : b ≡ pos 0 → a ≡ pos 0
  pub negative : b <ℤ pos 0 → a <ℤ pos 0

-- two numbers of which positive multiples are the same
alike_by : (n k a b : ℤ) → pos 0 <ℤ n → pos 0 <ℤ k → (n *ℤ a) ≡ (k *ℤ b) → Alike a b
alike_by n k a b some more same =
    let m = natural n (omega (arith, ints, some)) in
    let m_is = m.is in
    let is : (pos m.k *ℤ a) ≡ (k *ℤ b) = ap (λ (z : ℤ). z *ℤ a) (sym m.is) ∙ same in record {
      positive = λ above. positive_by m.k a k b is more above;
      zero = λ none. zero_by m.k a k b (omega (arith, ints, some, m_is)) is none;
      negative = λ below. negative a (positive_by m.k (pos 0 -ℤ a) k (pos 0 -ℤ b) (negate m.k a k b is) more (omega (arith, ints, below)));
    }

-- so they pass the same test
alike-test : (a b : ℤ) → Alike a b → int_le (pos 0) a ≡ int_le (pos 0) b
alike-test a b is = same_test (pos 0) a (pos 0) b
    (λ from below. let under = is.negative below in omega (arith, ints, from, under))
    (λ from below. by_lt_z (pos 0) b
    (λ above. let over = is.positive above in omega (arith, ints, below, over))
    (λ upto. let none = is.zero (omega (arith, ints, from, upto)) in omega (arith, ints, below, none)))

-- ---- ways

-- The one way lies along the other, and in its direction.
abbrev pub GoesAlong : ℤ → ℤ → ℤ → ℤ → Type 0
GoesAlong ux uy vx vy = (cross ux uy vx vy ≡ pos 0) × (pos 0 <ℤ dot ux uy vx vy)

-- of three ways, by what the first two are to the one between
crosses : (ux uy vx vy wx wy : ℤ) → (dot vx vy vx vy *ℤ cross ux uy wx wy) ≡ ((dot ux uy vx vy *ℤ cross vx vy wx wy) +ℤ (cross ux uy vx vy *ℤ dot vx vy wx wy))
crosses ux uy vx vy wx wy =
    identity (times (along vx vy vx vy) (across ux uy wx wy)) (plus (times (along ux uy vx vy) (across vx vy wx wy)) (times (across ux uy vx vy) (along vx vy wx wy))) (omega arith)

dots : (ux uy vx vy wx wy : ℤ) → (dot vx vy vx vy *ℤ dot ux uy wx wy) ≡ ((dot ux uy vx vy *ℤ dot vx vy wx wy) -ℤ (cross ux uy vx vy *ℤ cross vx vy wx wy))
dots ux uy vx vy wx wy =
    identity (times (along vx vy vx vy) (along ux uy wx wy)) (minus (times (along ux uy vx vy) (along vx vy wx wy)) (times (across ux uy vx vy) (across vx vy wx wy))) (omega arith)

pub without_plus : (a b c d : ℤ) → c ≡ pos 0 → ((a *ℤ b) +ℤ (c *ℤ d)) ≡ (a *ℤ b)
without_plus a b c d none =
    ap (λ (z : ℤ). (a *ℤ b) +ℤ (z *ℤ d)) none
    ∙ identity (plus (times (number a) (number b)) (times (n_of 0) (number d))) (times (number a) (number b)) (omega arith)

pub without_minus : (a b c d : ℤ) → c ≡ pos 0 → ((a *ℤ b) -ℤ (c *ℤ d)) ≡ (a *ℤ b)
without_minus a b c d none =
    ap (λ (z : ℤ). (a *ℤ b) -ℤ (z *ℤ d)) none
    ∙ identity (minus (times (number a) (number b)) (times (n_of 0) (number d))) (times (number a) (number b)) (omega arith)

module _ (ux uy vx vy : ℤ) (is : GoesAlong ux uy vx vy) where
  -- the second goes somewhere
  square : pos 0 <ℤ dot vx vy vx vy
  square = some_square vx vy (λ none.
      (let zero : dot ux uy vx vy ≡ pos 0 =
      ap₂ (λ (x y : ℤ). dot ux uy x y) none.0 none.1 ∙ identity (plus (times (number ux) (n_of 0)) (times (number uy) (n_of 0))) (n_of 0) (omega arith) in
      let ahead = is.1 in
      omega (arith, ints, zero, ahead)))

  -- to a third one both turn to the same side
  pub crosses-alike : (wx wy : ℤ) → Alike (cross ux uy wx wy) (cross vx vy wx wy)
  crosses-alike wx wy =
      alike_by (dot vx vy vx vy) (dot ux uy vx vy) (cross ux uy wx wy) (cross vx vy wx wy) square is.1
      (crosses ux uy vx vy wx wy ∙ without_plus (dot ux uy vx vy) (cross vx vy wx wy) (cross ux uy vx vy) (dot vx vy wx wy) is.0)

  pub crosses-test : (wx wy : ℤ) → int_le (pos 0) (cross ux uy wx wy) ≡ int_le (pos 0) (cross vx vy wx wy)
  crosses-test wx wy = alike-test (cross ux uy wx wy) (cross vx vy wx wy) (crosses-alike wx wy)

  -- both go to the right, or both go to the left, or neither
  pub rises-alike : Alike ux vx
  rises-alike =
      let first : cross ux uy (pos 0) (pos 1) ≡ ux = identity (minus (times (number ux) (n_of 1)) (times (number uy) (n_of 0))) (number ux) (omega arith) in
      let second : cross vx vy (pos 0) (pos 1) ≡ vx = identity (minus (times (number vx) (n_of 1)) (times (number vy) (n_of 0))) (number vx) (omega arith) in
      subst (λ (z : ℤ). Alike z vx) first (subst (λ (z : ℤ). Alike (cross ux uy (pos 0) (pos 1)) z) second (crosses-alike (pos 0) (pos 1)))

  -- what the second one goes along the first one goes along
  pub GoesAlong-trans : (wx wy : ℤ) → GoesAlong vx vy wx wy → GoesAlong ux uy wx wy
  GoesAlong-trans wx wy on = (
    (crosses-alike wx wy).zero on.0,
    (alike_by (dot vx vy vx vy) (dot ux uy vx vy) (dot ux uy wx wy) (dot vx vy wx wy) square is.1
        (dots ux uy vx vy wx wy ∙ without_minus (dot ux uy vx vy) (dot vx vy wx wy) (cross ux uy vx vy) (cross vx vy wx wy) is.0)).positive on.1,
  )

  pub GoesAlong-sym : GoesAlong vx vy ux uy
  GoesAlong-sym =
      let turned = cross-exchanged ux uy vx vy in
      let none = is.0 in
      let ahead = is.1 in
      let same : dot vx vy ux uy ≡ dot ux uy vx vy = identity (along vx vy ux uy) (along ux uy vx vy) (omega arith) in (
        omega (arith, ints, turned, none),
        omega (arith, ints, same, ahead),
      )

  -- one after the other they go along the second
  pub GoesAlong-both : GoesAlong (ux +ℤ vx) (uy +ℤ vy) vx vy
  GoesAlong-both =
      let turn : cross (ux +ℤ vx) (uy +ℤ vy) vx vy ≡ cross ux uy vx vy =
      identity (minus (times (plus (number ux) (number vx)) (number vy)) (times (plus (number uy) (number vy)) (number vx))) (across ux uy vx vy) (omega arith) in
      let sum : dot (ux +ℤ vx) (uy +ℤ vy) vx vy ≡ (dot ux uy vx vy +ℤ dot vx vy vx vy) =
      identity (plus (times (plus (number ux) (number vx)) (number vx)) (times (plus (number uy) (number vy)) (number vy))) (plus (along ux uy vx vy) (along vx vy vx vy)) (omega arith) in
      let none = is.0 in
      let ahead = is.1 in
      let some = square in (
        turn ∙ none,
        omega (arith, ints, sum, ahead, some),
      )
