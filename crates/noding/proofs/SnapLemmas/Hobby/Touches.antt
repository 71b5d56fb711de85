-- Where two segments' turns aren't negative and one is 0, an end of one is of the other.
use Rattle.std.proofs.Common.{ap, arith, inl, inr, pos, sym, ℤ, ◌*ℤ◌, ◌+ℤ◌, ◌-ℤ◌, ◌<ℤ◌, ◌∙◌, ◌≡◌, ◌≤ℤ◌, ◌⊎◌}
use Rattle.std.proofs.lemmas.Int.{by_lt_z, ints}
use Rattle.plane.specs.Meet.Crosses.{cross}
use Rattle.noding.proofs.SnapLemmas.Hobby.Lines.{Common, SomeWithin, Weights, Within, common_turned, some_within, turned}
use Rattle.noding.proofs.SnapLemmas.Hobby.Turns.{Four, crossing_x, crossing_y, turn1, turn2, turn3, turn4, turns-same}
use Rattle.noding.proofs.SnapLemmas.Numbers.{n_of, cross-exchanged}
use Rattle.plane.proofs.MeetLemmas.Identities.{Term, identity, minus, number, plus, same_of, times}

-- The point (x, y) is a mean of (x1, y1) and (x2, y2).
pub record Lies (x1 y1 x2 y2 x y : ℤ) : Type 0 where
  pub b : ℤ
  pub a : ℤ
  pub from : pos 0 ≤ℤ b
  pub upto : pos 0 ≤ℤ a
  pub some : pos 0 <ℤ (b +ℤ a)
  pub along_x : ((b +ℤ a) *ℤ x) ≡ ((b *ℤ x1) +ℤ (a *ℤ x2))
  pub along_y : ((b +ℤ a) *ℤ y) ≡ ((b *ℤ y1) +ℤ (a *ℤ y2))

-- An end of one segment is of the other.
pub data Touch (x y : Four) : Type 0 where
  by_s1 : Lies x.p1 y.p1 x.p2 y.p2 x.s1 y.s1 → Touch x y
  by_s2 : Lies x.p1 y.p1 x.p2 y.p2 x.s2 y.s2 → Touch x y
  by_p1 : Lies x.s1 y.s1 x.s2 y.s2 x.p1 y.p1 → Touch x y
  by_p2 : Lies x.s1 y.s1 x.s2 y.s2 x.p2 y.p2 → Touch x y

-- ---- one turn is 0, and the sum isn't

-- with one weight 0 the common point is an end
alone : (u b a s r p1 p2 : ℤ) → (b +ℤ a) ≡ u → ((b *ℤ p1) +ℤ (a *ℤ p2)) ≡ ((u *ℤ s) +ℤ (pos 0 *ℤ r)) → ((b +ℤ a) *ℤ s) ≡ ((b *ℤ p1) +ℤ (a *ℤ p2))
alone u b a s r p1 p2 whole same =
    let none = identity (plus (times (number u) (number s)) (times (n_of 0) (number r))) (times (number u) (number s)) (omega arith) in
    ap (λ z. z *ℤ s) whole ∙ sym none ∙ sym same

-- t is the turn that is 0, at the end (x, y)
alone_at : (t u b a x1 y1 x2 y2 x y other_x other_y : ℤ) → t ≡ pos 0 → (b +ℤ a) ≡ (u +ℤ t) → pos 0 ≤ℤ b → pos 0 ≤ℤ a → pos 0 <ℤ (b +ℤ a) → ((b *ℤ x1) +ℤ (a *ℤ x2)) ≡ ((u *ℤ x) +ℤ (t *ℤ other_x)) → ((b *ℤ y1) +ℤ (a *ℤ y2)) ≡ ((u *ℤ y) +ℤ (t *ℤ other_y)) → Lies x1 y1 x2 y2 x y
alone_at t u b a x1 y1 x2 y2 x y other_x other_y none whole from upto some same_x same_y = record {
  b = b;
  a = a;
  from = from;
  upto = upto;
  some = some;
  along_x = alone u b a x other_x x1 x2 (omega (arith, ints)) (same_x ∙ ap (λ z. (u *ℤ x) +ℤ (z *ℤ other_x)) none);
  along_y = alone u b a y other_y y1 y2 (omega (arith, ints)) (same_y ∙ ap (λ z. (u *ℤ y) +ℤ (z *ℤ other_y)) none);
}

-- none is negative
pub record AllTurns (x y : Four) : Type 0 where
  pub turns1 : pos 0 ≤ℤ turn1 x y
  pub turns2 : pos 0 ≤ℤ turn2 x y
  pub turns3 : pos 0 ≤ℤ turn3 x y
  pub turns4 : pos 0 ≤ℤ turn4 x y

-- One of them is 0.
abbrev pub NoTurn : Four → Four → Type 0
NoTurn x y = (turn1 x y ≡ pos 0) ⊎ ((turn2 x y ≡ pos 0) ⊎ ((turn3 x y ≡ pos 0) ⊎ ((turn4 x y ≡ pos 0) ⊎ ⊥)))

swapped : (a b : ℤ) → (a +ℤ b) ≡ (b +ℤ a)
swapped a b = omega (arith, ints)

-- by which of the four it is
touch_apart_by : (t1 t2 t3 t4 : ℤ) (x y : Four) → pos 0 ≤ℤ t1 → pos 0 ≤ℤ t2 → pos 0 ≤ℤ t3 → pos 0 ≤ℤ t4 → pos 0 <ℤ (t1 +ℤ t2) → (t1 +ℤ t2) ≡ (t3 +ℤ t4) → ((t4 *ℤ x.p1) +ℤ (t3 *ℤ x.p2)) ≡ ((t2 *ℤ x.s1) +ℤ (t1 *ℤ x.s2)) → ((t4 *ℤ y.p1) +ℤ (t3 *ℤ y.p2)) ≡ ((t2 *ℤ y.s1) +ℤ (t1 *ℤ y.s2)) → (t1 ≡ pos 0) ⊎ ((t2 ≡ pos 0) ⊎ ((t3 ≡ pos 0) ⊎ ((t4 ≡ pos 0) ⊎ ⊥))) → Touch x y
touch_apart_by t1 t2 t3 t4 x y one two three four some whole same_x same_y (inl none) =
    by_s1 (alone_at t1 t2 t4 t3 x.p1 y.p1 x.p2 y.p2 x.s1 y.s1 x.s2 y.s2 none (omega (arith, ints)) four three (omega (arith, ints)) same_x same_y)
touch_apart_by t1 t2 t3 t4 x y one two three four some whole same_x same_y (inr (inl none)) =
    by_s2 (alone_at t2 t1 t4 t3 x.p1 y.p1 x.p2 y.p2 x.s2 y.s2 x.s1 y.s1 none (omega (arith, ints)) four three (omega (arith, ints)) (same_x ∙ swapped (t2 *ℤ x.s1) (t1 *ℤ x.s2)) (same_y ∙ swapped (t2 *ℤ y.s1) (t1 *ℤ y.s2)))
touch_apart_by t1 t2 t3 t4 x y one two three four some whole same_x same_y (inr (inr (inl none))) =
    by_p1 (alone_at t3 t4 t2 t1 x.s1 y.s1 x.s2 y.s2 x.p1 y.p1 x.p2 y.p2 none (omega (arith, ints)) two one (omega (arith, ints)) (sym same_x) (sym same_y))
touch_apart_by t1 t2 t3 t4 x y one two three four some whole same_x same_y (inr (inr (inr (inl none)))) =
    by_p2 (alone_at t4 t3 t2 t1 x.s1 y.s1 x.s2 y.s2 x.p2 y.p2 x.p1 y.p1 none (omega (arith, ints)) two one (omega (arith, ints)) (sym same_x ∙ swapped (t4 *ℤ x.p1) (t3 *ℤ x.p2)) (sym same_y ∙ swapped (t4 *ℤ y.p1) (t3 *ℤ y.p2)))
touch_apart_by t1 t2 t3 t4 x y one two three four some whole same_x same_y (inr (inr (inr (inr none)))) = absurd none

-- where their sum isn't 0
pub touch_apart : (x y : Four) → AllTurns x y → pos 0 <ℤ (turn1 x y +ℤ turn2 x y) → NoTurn x y → Touch x y
touch_apart x y all some none =
    touch_apart_by (turn1 x y) (turn2 x y) (turn3 x y) (turn4 x y) x y all.turns1 all.turns2 all.turns3 all.turns4 some (turns-same x y) (crossing_x x y) (crossing_y x y) none

-- ---- all turns are 0: the four ends are along one line

-- the ends of a turn that is 0, on an axis on which they are in a row
lies_within : (x1 y1 x2 y2 x y : ℤ) → Within x1 x2 x → cross (x -ℤ x1) (y -ℤ y1) (x2 -ℤ x1) (y2 -ℤ y1) ≡ pos 0 → Lies x1 y1 x2 y2 x y
lies_within x1 y1 x2 y2 x y (inl (from, upto, up)) flat =
    let b = minus (number x2) (number x) in
    let a = minus (number x) (number x1) in
    let turn = minus (times (minus (number x) (number x1)) (minus (number y2) (number y1))) (times (minus (number y) (number y1)) (minus (number x2) (number x1))) in
    let fact = same_of turn (n_of 0) flat in record {
      b = x2 -ℤ x;
      a = x -ℤ x1;
      from = omega (arith, ints);
      upto = omega (arith, ints);
      some = omega (arith, ints);
      along_x = identity (times (plus b a) (number x)) (plus (times b (number x1)) (times a (number x2))) (omega arith);
      along_y = identity (times (plus b a) (number y)) (plus (times b (number y1)) (times a (number y2))) (omega (arith, fact));
    }
lies_within x1 y1 x2 y2 x y (inr (from, upto, down)) flat =
    let b = minus (number x) (number x2) in
    let a = minus (number x1) (number x) in
    let turn = minus (times (minus (number x) (number x1)) (minus (number y2) (number y1))) (times (minus (number y) (number y1)) (minus (number x2) (number x1))) in
    let fact = same_of turn (n_of 0) flat in record {
      b = x -ℤ x2;
      a = x1 -ℤ x;
      from = omega (arith, ints);
      upto = omega (arith, ints);
      some = omega (arith, ints);
      along_x = identity (times (plus b a) (number x)) (plus (times b (number x1)) (times a (number x2))) (omega arith);
      along_y = identity (times (plus b a) (number y)) (plus (times b (number y1)) (times a (number y2))) (omega (arith, fact));
    }

-- a turn the other way round
pub flat_back : (ux uy wx wy : ℤ) → cross ux uy wx wy ≡ pos 0 → cross wx wy ux uy ≡ pos 0
flat_back ux uy wx wy flat = let back = cross-exchanged ux uy wx wy in omega (arith, ints, back, flat)

-- a turn with its axes exchanged
flat_exchanged : (ux uy wx wy : ℤ) → cross ux uy wx wy ≡ pos 0 → cross uy ux wy wx ≡ pos 0
flat_exchanged ux uy wx wy flat =
    let turn : ℤ → ℤ → ℤ → ℤ → Term = λ a b c d. minus (times (number a) (number d)) (times (number b) (number c)) in
    let fact = same_of (turn ux uy wx wy) (n_of 0) flat in
    identity (turn uy ux wy wx) (n_of 0) (omega (arith, fact))

-- All are 0.
pub record Flat (x y : Four) : Type 0 where
  pub flat1 : turn1 x y ≡ pos 0
  pub flat2 : turn2 x y ≡ pos 0
  pub flat3 : turn3 x y ≡ pos 0
  pub flat4 : turn4 x y ≡ pos 0

flat-exchanged : (x y : Four) → Flat x y → Flat y x
flat-exchanged x y flat = record {
  flat1 = flat_exchanged (x.s1 -ℤ x.p1) (y.s1 -ℤ y.p1) (x.p2 -ℤ x.p1) (y.p2 -ℤ y.p1) flat.flat1;
  flat2 = flat_exchanged (x.p2 -ℤ x.p1) (y.p2 -ℤ y.p1) (x.s2 -ℤ x.p1) (y.s2 -ℤ y.p1) flat.flat2;
  flat3 = flat_exchanged (x.s2 -ℤ x.s1) (y.s2 -ℤ y.s1) (x.p1 -ℤ x.s1) (y.p1 -ℤ y.s1) flat.flat3;
  flat4 = flat_exchanged (x.p2 -ℤ x.s1) (y.p2 -ℤ y.s1) (x.s2 -ℤ x.s1) (y.s2 -ℤ y.s1) flat.flat4;
}

-- an end that is within the other segment on one axis is of it
touch_row : (x y : Four) → Flat x y → SomeWithin x.p1 x.p2 x.s1 x.s2 → Touch x y
touch_row x y flat (inl s1) = by_s1 (lies_within x.p1 y.p1 x.p2 y.p2 x.s1 y.s1 s1 flat.flat1)
touch_row x y flat (inr (inl s2)) =
    by_s2 (lies_within x.p1 y.p1 x.p2 y.p2 x.s2 y.s2 s2 (flat_back (x.p2 -ℤ x.p1) (y.p2 -ℤ y.p1) (x.s2 -ℤ x.p1) (y.s2 -ℤ y.p1) flat.flat2))
touch_row x y flat (inr (inr (inl p1))) =
    by_p1 (lies_within x.s1 y.s1 x.s2 y.s2 x.p1 y.p1 p1 (flat_back (x.s2 -ℤ x.s1) (y.s2 -ℤ y.s1) (x.p1 -ℤ x.s1) (y.p1 -ℤ y.s1) flat.flat3))
touch_row x y flat (inr (inr (inr p2))) = by_p2 (lies_within x.s1 y.s1 x.s2 y.s2 x.p2 y.p2 p2 flat.flat4)

-- the other pair first
regrouped : (p1 p2 s1 s2 : ℤ) → SomeWithin s1 s2 p1 p2 → SomeWithin p1 p2 s1 s2
regrouped p1 p2 s1 s2 (inl first) = inr (inr (inl first))
regrouped p1 p2 s1 s2 (inr (inl second)) = inr (inr (inr second))
regrouped p1 p2 s1 s2 (inr (inr (inl third))) = inl third
regrouped p1 p2 s1 s2 (inr (inr (inr fourth))) = inr (inl fourth)

lies_exchanged : (x1 y1 x2 y2 x y : ℤ) → Lies y1 x1 y2 x2 y x → Lies x1 y1 x2 y2 x y
lies_exchanged x1 y1 x2 y2 x y lies = record {
  b = lies.b;
  a = lies.a;
  from = lies.from;
  upto = lies.upto;
  some = lies.some;
  along_x = lies.along_y;
  along_y = lies.along_x;
}

-- the axes exchanged
pub touch_exchanged : (x y : Four) → Touch y x → Touch x y
touch_exchanged x y (by_s1 lies) = by_s1 (lies_exchanged x.p1 y.p1 x.p2 y.p2 x.s1 y.s1 lies)
touch_exchanged x y (by_s2 lies) = by_s2 (lies_exchanged x.p1 y.p1 x.p2 y.p2 x.s2 y.s2 lies)
touch_exchanged x y (by_p1 lies) = by_p1 (lies_exchanged x.s1 y.s1 x.s2 y.s2 x.p1 y.p1 lies)
touch_exchanged x y (by_p2 lies) = by_p2 (lies_exchanged x.s1 y.s1 x.s2 y.s2 x.p2 y.p2 lies)

-- two numbers are one or not
same_or : (a b : ℤ) → (a ≡ b) ⊎ (a ≡ b → ⊥)
same_or a b =
    by_lt_z a b
    (λ less. inr (λ same. omega (arith, ints)))
    (λ upto. by_lt_z b a (λ less. inr (λ same. omega (arith, ints))) (λ back. inl (omega (arith, ints))))

-- where the second segment is a point, it is the common point
point_same : (w1 w2 w3 w4 p1 p2 s1 s2 : ℤ) → Weights w1 w2 w3 w4 → Common w1 w2 w3 w4 p1 p2 s1 s2 → s1 ≡ s2 → ((w4 +ℤ w3) *ℤ s1) ≡ ((w4 *ℤ p1) +ℤ (w3 *ℤ p2))
point_same w1 w2 w3 w4 p1 p2 s1 s2 weights common one =
    let sum = identity (times (plus (number w2) (number w1)) (number s1)) (plus (times (number w2) (number s1)) (times (number w1) (number s1))) (omega arith) in
    ap (λ w. w *ℤ s1) (omega (arith, ints, weights.whole)) ∙ sum ∙ ap (λ s. (w2 *ℤ s1) +ℤ (w1 *ℤ s)) one ∙ sym common.same

-- four ends along one line, of segments with a common point: by an axis on which a segment isn't a point
pub touch_line : (w1 w2 w3 w4 : ℤ) (x y : Four) → Weights w1 w2 w3 w4 → Common w1 w2 w3 w4 x.p1 x.p2 x.s1 x.s2 → Common w1 w2 w3 w4 y.p1 y.p2 y.s1 y.s2 → Flat x y → Touch x y
touch_line w1 w2 w3 w4 x y weights common_x common_y flat =
    elim (same_or x.p1 x.p2) [
      | inr apart ↦ touch_row x y flat (some_within w1 w2 w3 w4 x.p1 x.p2 x.s1 x.s2 weights common_x apart)
      | inl same_p ↦ elim (same_or x.s1 x.s2) [
        | inr apart ↦ touch_row x y flat (regrouped x.p1 x.p2 x.s1 x.s2 (some_within w3 w4 w1 w2 x.s1 x.s2 x.p1 x.p2 (turned w1 w2 w3 w4 weights) (common_turned w1 w2 w3 w4 x.p1 x.p2 x.s1 x.s2 common_x) apart))
        | inl same_x ↦ elim (same_or y.s1 y.s2) [
          | inr apart ↦ touch_exchanged x y (touch_row y x (flat-exchanged x y flat) (regrouped y.p1 y.p2 y.s1 y.s2 (some_within w3 w4 w1 w2 y.s1 y.s2 y.p1 y.p2 (turned w1 w2 w3 w4 weights) (common_turned w1 w2 w3 w4 y.p1 y.p2 y.s1 y.s2 common_y) apart)))
          | inl same_y ↦ by_s1 (record {
            b = w4;
            a = w3;
            from = omega (arith, ints, weights.some4);
            upto = omega (arith, ints, weights.some3);
            some = omega (arith, ints, weights.some3, weights.some4);
            along_x = point_same w1 w2 w3 w4 x.p1 x.p2 x.s1 x.s2 weights common_x same_x;
            along_y = point_same w1 w2 w3 w4 y.p1 y.p2 y.s1 y.s2 weights common_y same_y;
          })
        ]
      ]
    ]
