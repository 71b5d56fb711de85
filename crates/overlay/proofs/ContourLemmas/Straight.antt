-- A point at which it goes straight on: without it, as much is under each point.
use Rattle.std.proofs.Common.{◌≡◌, ℕ, ◌*◌, ℤ, pos, ◌+ℤ◌, ◌-ℤ◌, ◌*ℤ◌, ◌≤ℤ◌, ◌<ℤ◌, sym, ap, ◌∙◌, subst, arith}
use Rattle.std.specs.Prelude.{int_le}
use Rattle.std.proofs.lemmas.Int.{by_lt_z, ints}
use Rattle.plane.specs.Meet.Crosses.{cross}
use Rattle.plane.specs.Meet.Edges.{RationalPoint}
use Rattle.plane.specs.declared.point.Point.{Point}
use Rattle.plane.proofs.MeetLemmas.Identities.{Term, identity, minus, number, plus, same_of, scaled, times}
use Rattle.overlay.specs.Contours.Outlines.{IsStraight}
use Rattle.overlay.specs.Contours.Turns.{dot}
use Rattle.plane.specs.Ends.{edge_between}
use Rattle.noding.specs.Windings.{count}
use Rattle.overlay.proofs.ContourLemmas.Ways.{GoesAlong, GoesAlong-both, GoesAlong-sym, GoesAlong-trans, crosses-test, rises-alike}
use Rattle.noding.proofs.SnapLemmas.Counted.{counted, is_low, is_low-left, under}
use Rattle.noding.proofs.SnapLemmas.Numbers.{n_of}
use Rattle.noding.proofs.SnapLemmas.Windings.{after, back, before, within}

-- ---- the ways between points

-- the two ways go along each other
pub ways : (before at after : Point) → IsStraight before at after → GoesAlong (at.x -ℤ before.x) (at.y -ℤ before.y) (after.x -ℤ at.x) (after.y -ℤ at.y)
ways before at after is = (is.along, is.ahead)

straight : (before at after : Point) → GoesAlong (at.x -ℤ before.x) (at.y -ℤ before.y) (after.x -ℤ at.x) (after.y -ℤ at.y) → IsStraight before at after
straight before at after is = record { along = is.0; ahead = is.1 }

-- one way after the other
joined_ways : (a b c : ℤ) → ((b -ℤ a) +ℤ (c -ℤ b)) ≡ (c -ℤ a)
joined_ways a b c = identity (plus (minus (number b) (number a)) (minus (number c) (number b))) (minus (number c) (number a)) (omega arith)

-- so the whole way goes along the second one
pub whole : (before at after : Point) → IsStraight before at after → GoesAlong (after.x -ℤ before.x) (after.y -ℤ before.y) (after.x -ℤ at.x) (after.y -ℤ at.y)
whole before at after is =
    let both = GoesAlong-both (at.x -ℤ before.x) (at.y -ℤ before.y) (after.x -ℤ at.x) (after.y -ℤ at.y) (ways before at after is) in
    subst (λ (y : ℤ). GoesAlong (after.x -ℤ before.x) y (after.x -ℤ at.x) (after.y -ℤ at.y)) (joined_ways before.y at.y after.y)
    (subst (λ (x : ℤ). GoesAlong x ((at.y -ℤ before.y) +ℤ (after.y -ℤ at.y)) (after.x -ℤ at.x) (after.y -ℤ at.y)) (joined_ways before.x at.x after.x) both)

-- and along the first one
pub whole-first : (before at after : Point) → IsStraight before at after → GoesAlong (after.x -ℤ before.x) (after.y -ℤ before.y) (at.x -ℤ before.x) (at.y -ℤ before.y)
whole-first before at after is =
    GoesAlong-trans (after.x -ℤ before.x) (after.y -ℤ before.y) (after.x -ℤ at.x) (after.y -ℤ at.y) (whole before at after is) (at.x -ℤ before.x) (at.y -ℤ before.y)
    (GoesAlong-sym (at.x -ℤ before.x) (at.y -ℤ before.y) (after.x -ℤ at.x) (after.y -ℤ at.y) (ways before at after is))

-- it goes straight on from further back, too
pub straight-longer : (first before at after : Point) → IsStraight first before at → IsStraight before at after → IsStraight first at after
straight-longer first before at after one other =
    straight first at after (GoesAlong-trans (at.x -ℤ first.x) (at.y -ℤ first.y) (at.x -ℤ before.x) (at.y -ℤ before.y) (whole first before at one) (after.x -ℤ at.x) (after.y -ℤ at.y) (ways before at after other))

-- and to further on
pub straight-further : (before at after last : Point) → IsStraight before at after → IsStraight at after last → IsStraight before at last
straight-further before at after last one other =
    straight before at last (GoesAlong-trans (at.x -ℤ before.x) (at.y -ℤ before.y) (after.x -ℤ at.x) (after.y -ℤ at.y) (ways before at after one) (last.x -ℤ at.x) (last.y -ℤ at.y)
    (GoesAlong-sym (last.x -ℤ at.x) (last.y -ℤ at.y) (after.x -ℤ at.x) (after.y -ℤ at.y) (whole-first at after last other)))

-- the other way round it goes straight on, too
pub straight-back : (before at after : Point) → IsStraight before at after → IsStraight after at before
straight-back before at after is =
    let none = is.along in
    record {
      along = omega (arith, ints, turn, none);
      ahead = subst (λ (z : ℤ). pos 0 <ℤ z) (sym ahead) is.ahead;
    }
  where
    turn : cross (at.x -ℤ after.x) (at.y -ℤ after.y) (before.x -ℤ at.x) (before.y -ℤ at.y) ≡ (pos 0 -ℤ cross (at.x -ℤ before.x) (at.y -ℤ before.y) (after.x -ℤ at.x) (after.y -ℤ at.y))
    turn =
        identity (minus (times (minus (number at.x) (number after.x)) (minus (number before.y) (number at.y))) (times (minus (number at.y) (number after.y)) (minus (number before.x) (number at.x))))
        (minus (n_of 0) (minus (times (minus (number at.x) (number before.x)) (minus (number after.y) (number at.y))) (times (minus (number at.y) (number before.y)) (minus (number after.x) (number at.x)))))
        (omega arith)

    ahead : dot (at.x -ℤ after.x) (at.y -ℤ after.y) (before.x -ℤ at.x) (before.y -ℤ at.y) ≡ dot (at.x -ℤ before.x) (at.y -ℤ before.y) (after.x -ℤ at.x) (after.y -ℤ at.y)
    ahead =
        identity (plus (times (minus (number at.x) (number after.x)) (minus (number before.x) (number at.x))) (times (minus (number at.y) (number after.y)) (minus (number before.y) (number at.y))))
        (plus (times (minus (number at.x) (number before.x)) (minus (number after.x) (number at.x))) (times (minus (number at.y) (number before.y)) (minus (number after.y) (number at.y))))
        (omega arith)

-- where it goes straight on to a first point, and over a later one to a last one, it does so over the first one
pub straight-early : (before first at last : Point) → IsStraight before first at → IsStraight before at last → IsStraight before first last
straight-early before first at last one other =
    let back = straight-back before first at one in
    let late = straight-back before at last other in
    let later = straight last at first (GoesAlong-trans (at.x -ℤ last.x) (at.y -ℤ last.y) (before.x -ℤ at.x) (before.y -ℤ at.y) (ways last at before late) (first.x -ℤ at.x) (first.y -ℤ at.y) (whole-first at first before back)) in
    straight-back last first before (straight-longer last at first before later back)

-- but not from a point to itself
pub straight-nowhere : (before at : Point) → ¬ (IsStraight before at at)
straight-nowhere before at is =
    let none : dot (at.x -ℤ before.x) (at.y -ℤ before.y) (at.x -ℤ at.x) (at.y -ℤ at.y) ≡ pos 0 =
    identity (plus (times (minus (number at.x) (number before.x)) (minus (number at.x) (number at.x))) (times (minus (number at.y) (number before.y)) (minus (number at.y) (number at.y)))) (n_of 0) (omega arith) in
    let ahead = is.ahead in
    omega (arith, ints, none, ahead)

-- nor back to where it came from
pub straight-home : (at between : Point) → ¬ (IsStraight at between at)
straight-home at between is =
    let none : dot (at.x -ℤ at.x) (at.y -ℤ at.y) (at.x -ℤ between.x) (at.y -ℤ between.y) ≡ pos 0 =
    identity (plus (times (minus (number at.x) (number at.x)) (minus (number at.x) (number between.x))) (times (minus (number at.y) (number at.y)) (minus (number at.y) (number between.y)))) (n_of 0) (omega arith) in
    let ahead = (whole at between at is).1 in
    omega (arith, ints, none, ahead)

-- ---- what is under a point

module _ (a b c : Point) (is : IsStraight a b c) (point : RationalPoint) where
  -- the first part is on the whole's side of the point
  low-first : is_low (edge_between a b) point ≡ is_low (edge_between a c) point
  low-first =
      sym (is_low-left (edge_between a b) point)
      ∙ sym (crosses-test (c.x -ℤ a.x) (c.y -ℤ a.y) (b.x -ℤ a.x) (b.y -ℤ a.y) (whole-first a b c is) (point.x -ℤ (pos point.n *ℤ a.x)) (point.y -ℤ (pos point.n *ℤ a.y)))
      ∙ is_low-left (edge_between a c) point

  -- and so is the second
  from_between : cross (c.x -ℤ a.x) (c.y -ℤ a.y) (point.x -ℤ (pos point.n *ℤ b.x)) (point.y -ℤ (pos point.n *ℤ b.y)) ≡ cross (c.x -ℤ a.x) (c.y -ℤ a.y) (point.x -ℤ (pos point.n *ℤ a.x)) (point.y -ℤ (pos point.n *ℤ a.y))
  from_between =
      let way : ℤ → ℤ → Term = λ from to. minus (number to) (number from) in
      let from : ℤ → ℤ → Term = λ at z. minus (number z) (times (n_of point.n) (number at)) in
      let turn : Term → Term → Term → Term → Term = λ x y other_x other_y. minus (times x other_y) (times y other_x) in
      let none = same_of (turn (way a.x b.x) (way a.y b.y) (way b.x c.x) (way b.y c.y)) (n_of 0) is.along in
      identity (turn (way a.x c.x) (way a.y c.y) (from b.x point.x) (from b.y point.y)) (turn (way a.x c.x) (way a.y c.y) (from a.x point.x) (from a.y point.y))
      (omega (arith, ap (λ (k : ℕ). point.n * k) none))

  low-second : is_low (edge_between b c) point ≡ is_low (edge_between a c) point
  low-second =
      sym (is_low-left (edge_between b c) point)
      ∙ sym (crosses-test (c.x -ℤ a.x) (c.y -ℤ a.y) (c.x -ℤ b.x) (c.y -ℤ b.y) (whole a b c is) (point.x -ℤ (pos point.n *ℤ b.x)) (point.y -ℤ (pos point.n *ℤ b.y)))
      ∙ ap (λ (z : ℤ). int_le (pos 0) z) from_between
      ∙ is_low-left (edge_between a c) point

  -- rightwards, the part that covers the point counts what the whole does
  counted-right : a.x <ℤ b.x → b.x <ℤ c.x → (counted (edge_between a b) point +ℤ counted (edge_between b c) point) ≡ counted (edge_between a c) point
  counted-right first second =
      let first_there = scaled point.n a.x b.x (omega (arith, ints, first)) in
      let second_there = scaled point.n b.x c.x (omega (arith, ints, second)) in
      by_lt_z point.x (pos point.n *ℤ a.x)
      (λ early.
      let one = before (edge_between a b) point early in
      let other = before (edge_between b c) point (omega (arith, ints, early, first_there)) in
      let all = before (edge_between a c) point early in
      omega (arith, ints, one, other, all))
      (λ from. by_lt_z point.x (pos point.n *ℤ b.x)
      (λ inside.
      let one = within (edge_between a b) point (record { from = from; before = inside }) in
      let other = before (edge_between b c) point inside in
      let all = within (edge_between a c) point (record { from = from; before = omega (arith, ints, inside, second_there) }) in
      let same = ap count low-first in
      omega (arith, ints, one, other, all, same))
      (λ past. by_lt_z point.x (pos point.n *ℤ c.x)
      (λ inside.
      let one = after (edge_between a b) point past in
      let other = within (edge_between b c) point (record { from = past; before = inside }) in
      let all = within (edge_between a c) point (record { from = from; before = inside }) in
      let same = ap count low-second in
      omega (arith, ints, one, other, all, same))
      (λ late.
      let one = after (edge_between a b) point past in
      let other = after (edge_between b c) point late in
      let all = after (edge_between a c) point late in
      omega (arith, ints, one, other, all))))

  -- and else nothing counts
  counted-straight : (counted (edge_between a b) point +ℤ counted (edge_between b c) point) ≡ counted (edge_between a c) point
  counted-straight =
      let alike = rises-alike (b.x -ℤ a.x) (b.y -ℤ a.y) (c.x -ℤ b.x) (c.y -ℤ b.y) (ways a b c is) in
      by_lt_z b.x c.x
      (λ second.
      let first = alike.positive (omega (arith, ints, second)) in
      counted-right (omega (arith, ints, first)) second)
      (λ upto.
      let first : b.x ≤ℤ a.x = by_lt_z c.x b.x
      (λ below. let under = alike.negative (omega (arith, ints, below)) in omega (arith, ints, under))
      (λ from. let none = alike.zero (omega (arith, ints, upto, from)) in omega (arith, ints, none)) in
      let one = back (edge_between a b) point first in
      let other = back (edge_between b c) point upto in
      let all = back (edge_between a c) point (omega (arith, ints, first, upto)) in
      omega (arith, ints, one, other, all))

-- so as much is under the point without the one between
pub under-straight : (a b c : Point) → IsStraight a b c → (point : RationalPoint) → (under (edge_between a b) point +ℤ under (edge_between b c) point) ≡ under (edge_between a c) point
under-straight a b c is point =
    let there = counted-straight a b c is point in
    let back = counted-straight c b a (straight-back a b c is) point in
    omega (arith, ints, there, back)

-- and nothing is, of an edge from a point to itself
pub under-nowhere : (a : Point) (point : RationalPoint) → under (edge_between a a) point ≡ pos 0
under-nowhere a point = omega (arith, ints)
