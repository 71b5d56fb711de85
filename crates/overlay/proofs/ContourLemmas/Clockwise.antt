-- Of ways from one point, each to the left or to the right, which one comes first clockwise.
use Rattle.std.proofs.Common.{◌≡◌, ◌⊎◌, inl, inr, ℤ, pos, ◌+ℤ◌, ◌-ℤ◌, ◌*ℤ◌, ◌≤ℤ◌, ◌<ℤ◌, ap, ◌∙◌, arith}
use Rattle.std.proofs.lemmas.Int.{by_lt_z, ints}
use Rattle.plane.specs.Meet.Crosses.{cross}
use Rattle.plane.proofs.MeetLemmas.Identities.{Term, identity, minus, number, plus, times}
use Rattle.plane.proofs.SweepLineLemmas.Gaps.{product_above}
use Rattle.noding.proofs.SnapLemmas.Numbers.{n_of, product_positive}
use Rattle.overlay.specs.Contours.Turns.{AreAlike, ComesBefore, Direction, IsLeft, dot}
use Rattle.overlay.proofs.ContourLemmas.Turns.{across, left_signs, right_signs}

-- Both ways go to the left, or both to the right.
abbrev pub AreBeside : Direction → Direction → Type 0
AreBeside one other = ((one.x <ℤ pos 0) × (other.x <ℤ pos 0)) ⊎ ((pos 0 <ℤ one.x) × (pos 0 <ℤ other.x))

-- One of them goes to the left, and the other to the right.
abbrev pub AreOpposite : Direction → Direction → Type 0
AreOpposite one other = ((one.x <ℤ pos 0) × (pos 0 <ℤ other.x)) ⊎ ((pos 0 <ℤ one.x) × (other.x <ℤ pos 0))

-- The cross product of two ways: below 0 where the other one lies clockwise from the one, by less than a half turn.
abbrev pub turn : Direction → Direction → ℤ
turn one other = cross one.x one.y other.x other.y

-- the other way round it is as much below 0 as it was above it
pub turn-back : (one other : Direction) → turn one other ≡ (pos 0 -ℤ turn other one)
turn-back one other = identity (across one.x one.y other.x other.y) (minus (n_of 0) (across other.x other.y one.x one.y)) (omega arith)

-- the way against one
abbrev reversed_way : Direction → Direction
reversed_way way = record { x = pos 0 -ℤ way.x; y = pos 0 -ℤ way.y }

turn-reversed : (one other : Direction) → turn one (reversed_way other) ≡ (pos 0 -ℤ turn one other)
turn-reversed one other =
    identity (minus (times (number one.x) (minus (n_of 0) (number other.y))) (times (number one.y) (minus (n_of 0) (number other.x)))) (minus (n_of 0) (across one.x one.y other.x other.y)) (omega arith)

-- whether a way lies within a half turn clockwise
pub left-or : (back way : Direction) → IsLeft back way ⊎ (¬ (IsLeft back way))
left-or back way =
    by_lt_z (turn back way) (pos 0) (λ below. inl (inl below))
    (λ from. by_lt_z (pos 0) (turn back way) (λ above. inr (not-above above))
    (λ upto. by_lt_z (pos 0) (dot back.x back.y way.x way.y) (λ ahead. inl (inr (omega (arith, ints, from, upto), ahead)))
    (λ behind. inr (not-behind from behind))))
  where
    not-above : pos 0 <ℤ turn back way → ¬ (IsLeft back way)
    not-above above (inl below) = omega (arith, ints, above, below)
    not-above above (inr (none, ahead)) = omega (arith, ints, above, none)

    not-behind : pos 0 ≤ℤ turn back way → dot back.x back.y way.x way.y ≤ℤ pos 0 → ¬ (IsLeft back way)
    not-behind from behind (inl below) = omega (arith, ints, from, below)
    not-behind from behind (inr (none, ahead)) = omega (arith, ints, behind, ahead)

-- ---- signs

-- numbers whose multiples add up to 0: one is below 0 where the others aren't, and one of those is above
below-others : (p q r u v w : ℤ) → pos 0 <ℤ p → pos 0 <ℤ q → pos 0 <ℤ r → (((p *ℤ u) +ℤ (q *ℤ v)) +ℤ (r *ℤ w)) ≡ pos 0 → pos 0 ≤ℤ v → pos 0 <ℤ w → u <ℤ pos 0
below-others p q r u v w first second third sum from above =
    by_lt_z u (pos 0) (λ is. is)
    (λ not_below.
    let one = product_above p u (omega (arith, ints, first)) not_below in
    let other = product_above q v (omega (arith, ints, second)) from in
    let more = product_positive r w third above in
    absurd (omega (arith, ints, sum, one, other, more)))

abbrev neg : ℤ → Term
neg z = minus (n_of 0) (number z)

module _ (a e b : Direction) where
  abbrev ae : Term
  ae = across a.x a.y e.x e.y

  abbrev ea : Term
  ea = across e.x e.y a.x a.y

  abbrev ab : Term
  ab = across a.x a.y b.x b.y

  abbrev ba : Term
  ba = across b.x b.y a.x a.y

  abbrev eb : Term
  eb = across e.x e.y b.x b.y

  abbrev be : Term
  be = across b.x b.y e.x e.y

  less : (x : ℤ) → x <ℤ pos 0 → pos 0 <ℤ (pos 0 -ℤ x)
  less x below = omega (arith, ints, below)

  upto : pos 0 <ℤ turn a b → pos 0 ≤ℤ turn a b
  upto above = omega (arith, ints, above)

  from : turn a b ≤ℤ pos 0 → pos 0 ≤ℤ turn b a
  from below = let is = turn-back a b in omega (arith, ints, below, is)

  back : (one other : Direction) → turn one other <ℤ pos 0 → pos 0 <ℤ turn other one
  back one other below = let is = turn-back one other in omega (arith, ints, below, is)

  -- a way on the other side, no further than a half turn back, lies before one beside that is back
  beyond : AreBeside a b → AreOpposite a e → pos 0 <ℤ turn a b → pos 0 ≤ℤ turn a e → turn e b <ℤ pos 0
  beyond (inl (al, bl)) (inl (al_too, er)) above not_below =
      below-others (pos 0 -ℤ a.x) (pos 0 -ℤ b.x) e.x (turn e b) (turn a e) (turn a b) (less a.x al) (less b.x bl) er
      (identity (plus (plus (times (neg a.x) eb) (times (neg b.x) ae)) (times (number e.x) ab)) (n_of 0) (omega arith)) not_below above
  beyond (inr (ar, br)) (inr (ar_too, el)) above not_below =
      below-others a.x b.x (pos 0 -ℤ e.x) (turn e b) (turn a e) (turn a b) ar br (less e.x el)
      (identity (plus (plus (times (number a.x) eb) (times (number b.x) ae)) (times (neg e.x) ab)) (n_of 0) (omega arith)) not_below above
  beyond (inl (al, bl)) (inr (ar, el)) above not_below = absurd (omega (arith, ints, al, ar))
  beyond (inr (ar, br)) (inl (al, er)) above not_below = absurd (omega (arith, ints, al, ar))

  -- of two on one side and a third one on the other
  behind : AreBeside a e → AreOpposite a b → turn a e <ℤ pos 0 → turn a b ≤ℤ pos 0 → turn e b <ℤ pos 0
  behind (inl (al, el)) (inl (al_too, br)) below not_above =
      below-others (pos 0 -ℤ a.x) (pos 0 -ℤ e.x) b.x (turn e b) (turn b a) (turn e a) (less a.x al) (less e.x el) br
      (identity (plus (plus (times (neg a.x) eb) (times (neg e.x) ba)) (times (number b.x) ea)) (n_of 0) (omega arith)) (from not_above) (back a e below)
  behind (inr (ar, er)) (inr (ar_too, bl)) below not_above =
      below-others a.x e.x (pos 0 -ℤ b.x) (turn e b) (turn b a) (turn e a) ar er (less b.x bl)
      (identity (plus (plus (times (number a.x) eb) (times (number e.x) ba)) (times (neg b.x) ea)) (n_of 0) (omega arith)) (from not_above) (back a e below)
  behind (inl (al, el)) (inr (ar, bl)) below not_above = absurd (omega (arith, ints, al, ar))
  behind (inr (ar, er)) (inl (al, br)) below not_above = absurd (omega (arith, ints, al, ar))

  -- of one on one side and two on the other
  before : AreOpposite a e → AreBeside e b → turn e b <ℤ pos 0 → turn a b ≤ℤ pos 0 → turn a e <ℤ pos 0
  before (inl (al, er)) (inr (er_too, br)) below not_above =
      below-others b.x e.x (pos 0 -ℤ a.x) (turn a e) (turn b a) (turn b e) br er (less a.x al)
      (identity (plus (plus (times (number b.x) ae) (times (number e.x) ba)) (times (neg a.x) be)) (n_of 0) (omega arith)) (from not_above) (back e b below)
  before (inr (ar, el)) (inl (el_too, bl)) below not_above =
      below-others (pos 0 -ℤ b.x) (pos 0 -ℤ e.x) a.x (turn a e) (turn b a) (turn b e) (less b.x bl) (less e.x el) ar
      (identity (plus (plus (times (neg b.x) ae) (times (neg e.x) ba)) (times (number a.x) be)) (n_of 0) (omega arith)) (from not_above) (back e b below)
  before (inl (al, er)) (inl (el, bl)) below not_above = absurd (omega (arith, ints, er, el))
  before (inr (ar, el)) (inr (er, br)) below not_above = absurd (omega (arith, ints, er, el))

  -- of three on one side
  beside : AreBeside a e → AreBeside a b → turn e b <ℤ pos 0 → pos 0 <ℤ turn a b → turn e a <ℤ pos 0
  beside (inl (al, el)) (inl (al_too, bl)) below above =
      below-others (pos 0 -ℤ b.x) (pos 0 -ℤ e.x) (pos 0 -ℤ a.x) (turn e a) (turn a b) (turn b e) (less b.x bl) (less e.x el) (less a.x al)
      (identity (plus (plus (times (neg b.x) ea) (times (neg e.x) ab)) (times (neg a.x) be)) (n_of 0) (omega arith)) (upto above) (back e b below)
  beside (inr (ar, er)) (inr (ar_too, br)) below above =
      below-others b.x e.x a.x (turn e a) (turn a b) (turn b e) br er ar
      (identity (plus (plus (times (number b.x) ea) (times (number e.x) ab)) (times (number a.x) be)) (n_of 0) (omega arith)) (upto above) (back e b below)
  beside (inl (al, el)) (inr (ar, br)) below above = absurd (omega (arith, ints, al, ar))
  beside (inr (ar, er)) (inl (al, bl)) below above = absurd (omega (arith, ints, al, ar))

  -- ---- what comes first

  not-left : pos 0 <ℤ turn a b → ¬ (IsLeft a b)
  not-left above (inl below) = omega (arith, ints, above, below)
  not-left above (inr (none, ahead)) = omega (arith, ints, above, none)

  -- what lies between the two
  pub between-first : turn a e <ℤ pos 0 → turn a b <ℤ pos 0 → turn e b <ℤ pos 0 → ComesBefore a e b
  between-first one both other = inr (inl (inl one, inl both), other)

  -- where b lies on a's side, back from it: what lies clockwise from a on that side, what lies on the other, and what lies back
  -- from b
  pub onwards-first : pos 0 <ℤ turn a b → turn a e <ℤ pos 0 → ComesBefore a e b
  onwards-first above below = inl (inl below, not-left above)

  pub beyond-first : AreBeside a b → AreOpposite a e → pos 0 <ℤ turn a b → ComesBefore a e b
  beyond-first sides others above =
      elim (left-or a e) [
        | inl is ↦ inl (is, not-left above)
        | inr isnt ↦ inr (inr (isnt, not-left above), beyond sides others above (right_signs a e isnt).0)
      ]

  pub back-first : AreBeside a e → AreBeside a b → pos 0 <ℤ turn a b → turn e b <ℤ pos 0 → ComesBefore a e b
  back-first sides others above below = inr (inr (isnt (beside sides others below above), not-left above), below)
    where
      isnt : turn e a <ℤ pos 0 → ¬ (IsLeft a e)
      isnt less (inl is) = let same = turn-back a e in omega (arith, ints, less, is, same)
      isnt less (inr (none, ahead)) = let same = turn-back a e in omega (arith, ints, less, none, same)

  -- where b lies on the other side: what lies clockwise from a on a's side, and what lies back from b on b's
  pub behind-first : AreBeside a e → AreOpposite a b → turn a e <ℤ pos 0 → ComesBefore a e b
  behind-first sides others below =
      elim (left-or a b) [
        | inl is ↦ inr (inl (inl below, is), behind sides others below (left_signs a b is).0)
        | inr isnt ↦ inl (inl below, isnt)
      ]

  pub before-first : AreOpposite a e → AreBeside e b → turn e b <ℤ pos 0 → ComesBefore a e b
  before-first others sides below =
      elim (left-or a b) [
        | inl is ↦ inr (inl (inl (before others sides below (left_signs a b is).0), is), below)
        | inr isnt ↦ elim (left-or a e) [ inl is_too ↦ inl (is_too, isnt) | inr isnt_too ↦ inr (inr (isnt_too, isnt), below) ]
      ]

-- ---- ways that go against each other

-- where e goes straight against a, another way lies clockwise from one of them, by less than a half turn, and not from the other
module _ (a e : Direction) (opposite : AreOpposite a e) (level : turn a e ≡ pos 0) where
  none_of : (x : ℤ) → (x *ℤ turn a e) ≡ pos 0
  none_of x = ap (λ (z : ℤ). x *ℤ z) level ∙ identity (times (number x) (n_of 0)) (n_of 0) (omega arith)

  against-back : (b : Direction) → pos 0 <ℤ turn a b → turn e b <ℤ pos 0
  against-back b above = by opposite
    where
      by : AreOpposite a e → turn e b <ℤ pos 0
      by (inl (left, right)) =
          below-others (pos 0 -ℤ a.x) (pos 1) e.x (turn e b) (pos 0) (turn a b) (omega (arith, ints, left)) (omega (arith, ints)) right
          (identity (plus (plus (times (neg a.x) (across e.x e.y b.x b.y)) (times (n_of 1) (n_of 0))) (times (number e.x) (across a.x a.y b.x b.y))) (times (number b.x) (across a.x a.y e.x e.y)) (omega arith) ∙ none_of b.x)
          (omega (arith, ints)) above
      by (inr (right, left)) =
          below-others a.x (pos 1) (pos 0 -ℤ e.x) (turn e b) (pos 0) (turn a b) right (omega (arith, ints)) (omega (arith, ints, left))
          (identity (plus (plus (times (number a.x) (across e.x e.y b.x b.y)) (times (n_of 1) (n_of 0))) (times (neg e.x) (across a.x a.y b.x b.y))) (times (neg b.x) (across a.x a.y e.x e.y)) (omega arith) ∙ none_of (pos 0 -ℤ b.x))
          (omega (arith, ints)) above

  against-on : (b : Direction) → turn a b <ℤ pos 0 → pos 0 <ℤ turn e b
  against-on b below =
      let here = turn-reversed a b in
      let there = turn-reversed e b in
      let less = against-back (reversed_way b) (omega (arith, ints, below, here)) in
      omega (arith, ints, less, there)

-- ---- the order of ways

-- The two go to different sides, or to one side in different directions.
abbrev pub AreApart : Direction → Direction → Type 0
AreApart one other = AreOpposite one other ⊎ (AreBeside one other × ((turn one other <ℤ pos 0) ⊎ (pos 0 <ℤ turn one other)))

not-left-above : (back way : Direction) → pos 0 <ℤ turn back way → ¬ (IsLeft back way)
not-left-above back way above (inl below) = omega (arith, ints, above, below)
not-left-above back way above (inr (none, ahead)) = omega (arith, ints, above, none)

-- of ways that aren't apart in their turns, both go to different sides
pub level-opposite : (one other : Direction) → AreApart one other → turn one other ≡ pos 0 → AreOpposite one other
level-opposite one other (inl opposite) level = opposite
level-opposite one other (inr (beside, inl less)) level = absurd (omega (arith, ints, less, level))
level-opposite one other (inr (beside, inr more)) level = absurd (omega (arith, ints, more, level))

-- a third way goes to the side of one of them
one-beside : (a e f : Direction) → AreOpposite e f → AreOpposite a e → ¬ (AreOpposite a f)
one-beside a e f (inl (el, fr)) (inl (al, er)) third = omega (arith, ints, el, er)
one-beside a e f (inl (el, fr)) (inr (ar, el_too)) (inl (al, fr_too)) = omega (arith, ints, ar, al)
one-beside a e f (inl (el, fr)) (inr (ar, el_too)) (inr (ar_too, fl)) = omega (arith, ints, fr, fl)
one-beside a e f (inr (er, fl)) (inr (ar, el)) third = omega (arith, ints, el, er)
one-beside a e f (inr (er, fl)) (inl (al, er_too)) (inr (ar, fl_too)) = omega (arith, ints, ar, al)
one-beside a e f (inr (er, fl)) (inl (al, er_too)) (inl (al_too, fr)) = omega (arith, ints, fr, fl)

pub opposite-back : (one other : Direction) → AreOpposite one other → AreOpposite other one
opposite-back one other (inl (left, right)) = inr (right, left)
opposite-back one other (inr (right, left)) = inl (left, right)

level-back : (one other : Direction) → turn one other ≡ pos 0 → turn other one ≡ pos 0
level-back one other level = let is = turn-back other one in omega (arith, ints, level, is)

-- of two that go straight against each other one alone lies within a half turn clockwise from a third one
alone-left : (a e f : Direction) → AreOpposite e f → turn e f ≡ pos 0 → (turn a e <ℤ pos 0) ⊎ (pos 0 <ℤ turn a e) → ¬ (AreAlike a e f)
alone-left a e f opposite level (inl below) = by
  where
    more : pos 0 <ℤ turn a f
    more = let here = turn-back a e in let there = turn-back a f in let less = against-back e f opposite level a (omega (arith, ints, below, here)) in omega (arith, ints, less, there)

    by : ¬ (AreAlike a e f)
    by (inl (is, is_too)) = not-left-above a f more is_too
    by (inr (isnt, isnt_too)) = isnt (inl below)
alone-left a e f opposite level (inr above) = by
  where
    less : turn a f <ℤ pos 0
    less = let here = turn-back a e in let there = turn-back a f in let more = against-on e f opposite level a (omega (arith, ints, above, here)) in omega (arith, ints, more, there)

    by : ¬ (AreAlike a e f)
    by (inl (is, is_too)) = not-left-above a e above is
    by (inr (isnt, isnt_too)) = isnt_too (inl less)

alike-back : (a e f : Direction) → AreAlike a e f → AreAlike a f e
alike-back a e f (inl (is, is_too)) = inl (is_too, is)
alike-back a e f (inr (isnt, isnt_too)) = inr (isnt_too, isnt)

-- Of two ways one comes first, clockwise from a third one.
pub comes-first : (a e f : Direction) → AreApart a e → AreApart a f → AreApart e f → ComesBefore a e f ⊎ ComesBefore a f e
comes-first a e f one other both = by (left-or a e) (left-or a f)
  where
    never : turn e f ≡ pos 0 → ¬ (AreAlike a e f)
    never level = go one other
      where
        opposite : AreOpposite e f
        opposite = level-opposite e f both level

        go : AreApart a e → AreApart a f → ¬ (AreAlike a e f)
        go (inr (beside, turns)) second = alone-left a e f opposite level turns
        go (inl first) (inr (beside, turns)) = λ alike. alone-left a f e (opposite-back e f opposite) (level-back e f level) turns (alike-back a e f alike)
        go (inl first) (inl second) = absurd (one-beside a e f opposite first second)

    alike : AreAlike a e f → ComesBefore a e f ⊎ ComesBefore a f e
    alike is =
        by_lt_z (turn e f) (pos 0) (λ less. inl (inr (is, less)))
        (λ from. by_lt_z (pos 0) (turn e f) (λ more. inr (inr (alike-back a e f is, (let back = turn-back e f in omega (arith, ints, more, back)))))
        (λ upto. absurd (never (omega (arith, ints, from, upto)) is)))

    by : IsLeft a e ⊎ (¬ (IsLeft a e)) → IsLeft a f ⊎ (¬ (IsLeft a f)) → ComesBefore a e f ⊎ ComesBefore a f e
    by (inl is) (inr isnt) = inl (inl (is, isnt))
    by (inr isnt) (inl is) = inr (inl (is, isnt))
    by (inl is) (inl is_too) = alike (inl (is, is_too))
    by (inr isnt) (inr isnt_too) = alike (inr (isnt, isnt_too))

-- whether the one comes first
pub comes-or : (a e f : Direction) → ComesBefore a e f ⊎ (¬ (ComesBefore a e f))
comes-or a e f = by (left-or a e) (left-or a f)
  where
    alike : AreAlike a e f → ComesBefore a e f ⊎ (¬ (ComesBefore a e f))
    alike is = by_lt_z (turn e f) (pos 0) (λ less. inl (inr (is, less))) (λ from. inr (no is from))
      where
        no : AreAlike a e f → pos 0 ≤ℤ turn e f → ¬ (ComesBefore a e f)
        no (inl (first, second)) from (inl (left, right)) = right second
        no (inr (first, second)) from (inl (left, right)) = first left
        no is from (inr (same, less)) = omega (arith, ints, from, less)

    apart : ¬ (IsLeft a e) → IsLeft a f → ¬ (ComesBefore a e f)
    apart isnt is (inl (left, right)) = isnt left
    apart isnt is (inr (inl (left, left_too), less)) = isnt left
    apart isnt is (inr (inr (right, right_too), less)) = right_too is

    by : IsLeft a e ⊎ (¬ (IsLeft a e)) → IsLeft a f ⊎ (¬ (IsLeft a f)) → ComesBefore a e f ⊎ (¬ (ComesBefore a e f))
    by (inl is) (inr isnt) = inl (inl (is, isnt))
    by (inr isnt) (inl is) = inr (apart isnt is)
    by (inl is) (inl is_too) = alike (inl (is, is_too))
    by (inr isnt) (inr isnt_too) = alike (inr (isnt, isnt_too))

-- No way comes before each of two, clockwise from the other one of these.
pub comes-once : (a c b : Direction) → AreApart a c → AreApart a b → AreApart c b → ComesBefore a b c → ¬ (ComesBefore c b a)
comes-once a c b both one other first second = by first second
  where
    -- the two go straight against each other
    level : ¬ (IsLeft a c) → ¬ (IsLeft c a) → turn a c ≡ pos 0
    level isnt isnt_too = let from = (right_signs a c isnt).0 in let from_too = (right_signs c a isnt_too).0 in let back = turn-back a c in omega (arith, ints, from, from_too, back)

    within : IsLeft a b → IsLeft c b → ¬ (IsLeft a c) → ¬ (IsLeft c a) → ⊥
    within is is_too isnt isnt_too = go one other
      where
        none : turn a c ≡ pos 0
        none = level isnt isnt_too

        opposite : AreOpposite a c
        opposite = level-opposite a c both none

        upto : turn a b ≤ℤ pos 0
        upto = (left_signs a b is).0

        upto_too : turn c b ≤ℤ pos 0
        upto_too = (left_signs c b is_too).0

        go : AreApart a b → AreApart c b → ⊥
        go (inr (beside, inl less)) third = let more = against-on a c opposite none b less in let h = upto_too in omega (arith, ints, more, h)
        go (inr (beside, inr more)) third = let h = upto in omega (arith, ints, more, h)
        go (inl apart) (inr (beside, inl less)) = let more = against-on c a (opposite-back a c opposite) (level-back a c none) b less in let h = upto in omega (arith, ints, more, h)
        go (inl apart) (inr (beside, inr more)) = let h = upto_too in omega (arith, ints, more, h)
        go (inl apart) (inl apart_too) = one-beside b a c opposite (opposite-back a b apart) (opposite-back c b apart_too)

    back : (way : Direction) → turn b way <ℤ pos 0 → pos 0 <ℤ turn way b
    back way less = let is = turn-back b way in omega (arith, ints, less, is)

    by : ComesBefore a b c → ComesBefore c b a → ⊥
    by (inl (is, isnt)) (inl (is_too, isnt_too)) = within is is_too isnt isnt_too
    by (inl (is, isnt)) (inr (alike, less)) = not-left-above a b (back a less) is
    by (inr (alike, less)) (inl (is_too, isnt_too)) = not-left-above c b (back c less) is_too
    by (inr (inl (is, is_too), less)) (inr (alike, less_too)) = not-left-above a b (back a less_too) is
    by (inr (inr (isnt, isnt_too), less)) (inr (inl (is, is_too), less_too)) = not-left-above c b (back c less) is
    by (inr (inr (isnt, isnt_far), less)) (inr (inr (isnt_too, isnt_back), less_too)) =
        let none = level isnt_far isnt_back in
        let far = against-back a c (level-opposite a c both none) none b (back a less_too) in
        let near = back c less in
        omega (arith, ints, far, near)
