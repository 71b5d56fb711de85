-- Directions at a point: of an edge that ends there, of the one that follows it, of the way on, and of a side of the shape.
use Rattle.std.proofs.Common.{ap, arith, inl, inr, negsuc, pos, ℤ, ◌*ℤ◌, ◌+ℤ◌, ◌-ℤ◌, ◌<ℤ◌, ◌≡◌, ◌≤ℤ◌}
use Rattle.std.proofs.lemmas.Int.{by_lt_z, ints}
use Rattle.plane.specs.declared.point.Point.{Point}
use Rattle.plane.proofs.MeetLemmas.Identities.{Term, identity, minus, number, plus, times}
use Rattle.offset.proofs.CoverLemmas.Numbers.{above-product, none, positive-product}
use Rattle.offset.proofs.CoverLemmas.Sides.{IsBetween}
use Rattle.offset.proofs.CoverLemmas.Vectors.{Terms, crossed, crossing, plucker, term, turn_back}

-- The scalar product of two vectors.
abbrev pub dot : Point → Point → ℤ
dot a b = (a.x *ℤ b.x) +ℤ (a.y *ℤ b.y)

abbrev dotting : Terms → Terms → Term
dotting a b = plus (times a.x b.x) (times a.y b.y)

square : (z : ℤ) → pos 0 ≤ℤ (z *ℤ z)
square (pos k) = omega (arith, ints)
square (negsuc k) = omega (arith, ints)

dot-same : (a : Point) → pos 0 ≤ℤ dot a a
dot-same a =
    let first = square a.x in
    let second = square a.y in
    omega (arith, ints, first, second)

-- a vector by its parts along another one and across it
by_parts : (d other f : Point) → (dot other other *ℤ crossed d f) ≡ ((dot d other *ℤ crossed other f) +ℤ (crossed d other *ℤ dot other f))
by_parts d other f =
    identity
    (times (dotting (term other) (term other)) (crossing (term d) (term f)))
    (plus (times (dotting (term d) (term other)) (crossing (term other) (term f))) (times (crossing (term d) (term other)) (dotting (term other) (term f))))
    (omega arith)

-- Two directions that aren't on one side of a third, which the last one is on: if the other isn't passed before the last, it
-- isn't counterclockwise of the one.
pub not-after : (one other last f : Point) → crossed one f ≤ℤ pos 0 → crossed other f ≤ℤ pos 0 → pos 0 <ℤ crossed last f → ¬ (IsBetween one other last) → crossed one other ≤ℤ pos 0
not-after one other last f one_below other_below last_above not_between = by_lt_z (pos 0) (crossed one other)
    (λ above. by_lt_z (pos 0) (crossed other last)
    (λ also. absurd (not_between (inl (above, also))))
    (λ first. by_lt_z (pos 0) (crossed last one)
    (λ also. absurd (not_between (inr (inl (above, also)))))
    (λ second.
    let same = plucker one other last f in
    let back = turn_back one last in
    let left = positive-product (crossed one other) (crossed last f) above last_above in
    let more = above-product (pos 0 -ℤ crossed other last) (pos 0 -ℤ crossed one f) (omega (arith, ints, first)) (omega (arith, ints, one_below)) in
    let less = above-product (pos 0 -ℤ crossed last one) (pos 0 -ℤ crossed other f) (omega (arith, ints, second)) (omega (arith, ints, other_below)) in
    let n = λ (z : ℤ). number z in
    let first_is = identity (times (minus none (n (crossed other last))) (minus none (n (crossed one f)))) (times (n (crossed other last)) (n (crossed one f))) (omega arith) in
    let second_is = identity (times (minus none (n (crossed last one))) (minus none (n (crossed other f)))) (minus none (times (minus none (n (crossed last one))) (n (crossed other f)))) (omega arith) in
    let swap = ap (λ z. z *ℤ crossed other f) back in
    absurd (omega (arith, ints, same, left, more, less, first_is, second_is, swap)))))
    (λ upto. upto)

-- An edge and the next one, which doesn't turn back. If the next one goes away from the side, the edge comes from there or along
-- the side, and it doesn't turn right, it turns left.
pub turns-left : (d next f : Point) → pos 0 ≤ℤ crossed d f → crossed next f <ℤ pos 0 → pos 0 ≤ℤ crossed d next → (crossed d next ≡ pos 0 → pos 0 <ℤ dot d next) → pos 0 <ℤ crossed d next
turns-left d next f from below upto ahead = by_lt_z (pos 0) (crossed d next)
    (λ left. left)
    (λ right.
    let straight : crossed d next ≡ pos 0 = omega (arith, ints, upto, right) in
    let way = ahead straight in
    let parts = by_parts d next f in
    let gone = ap (λ z. z *ℤ dot next f) straight in
    let none_is = identity (times none (number (dot next f))) none (omega arith) in
    let above = above-product (dot next next) (crossed d f) (dot-same next) from in
    let product = positive-product (dot d next) (pos 0 -ℤ crossed next f) way (omega (arith, ints, below)) in
    let turned = identity (times (number (dot d next)) (minus none (number (crossed next f)))) (minus none (times (number (dot d next)) (number (crossed next f)))) (omega arith) in
    absurd (omega (arith, ints, parts, gone, none_is, above, product, turned)))

-- Where the next one goes along the side, it goes so that the last direction isn't left of it.
pub goes-along : (one d next last f : Point) → ((v : Point) → crossed one v ≡ (pos 0 -ℤ crossed d v)) → crossed one f ≤ℤ pos 0 → crossed next f ≡ pos 0 → pos 0 <ℤ crossed last f → ¬ (IsBetween one next last) → crossed one next ≤ℤ pos 0 → (crossed d next ≡ pos 0 → pos 0 <ℤ dot d next) → crossed next last ≤ℤ pos 0
goes-along one d next last f back one_below next_none last_above not_between upto ahead = by_lt_z (pos 0) (crossed next last)
    (λ left. by_lt_z (pos 0) (crossed last one)
    (λ also. absurd (not_between (inr (inr (left, also)))))
    (λ right.
    let same = plucker one next last f in
    let gone = ap (λ z. crossed one last *ℤ z) next_none in
    let none_is = identity (times (number (crossed one last)) none) none (omega arith) in
    let first = above-product (pos 0 -ℤ crossed one next) (crossed last f) (omega (arith, ints, upto)) (omega (arith, ints, last_above)) in
    let first_is = identity (times (minus none (number (crossed one next))) (number (crossed last f))) (minus none (times (number (crossed one next)) (number (crossed last f)))) (omega arith) in
    let second = above-product (crossed next last) (pos 0 -ℤ crossed one f) (omega (arith, ints, left)) (omega (arith, ints, one_below)) in
    let second_is = identity (times (number (crossed next last)) (minus none (number (crossed one f)))) (minus none (times (number (crossed next last)) (number (crossed one f)))) (omega arith) in
    let straight_one : crossed one next ≡ pos 0 = by_lt_z (crossed one next) (pos 0)
    (λ less.
    let more = positive-product (pos 0 -ℤ crossed one next) (crossed last f) (omega (arith, ints, less)) last_above in
    absurd (omega (arith, ints, same, gone, none_is, more, first_is, second, second_is)))
    (λ from. omega (arith, ints, from, upto)) in
    let at_next = back next in
    let straight : crossed d next ≡ pos 0 = omega (arith, ints, straight_one, at_next) in
    let way = ahead straight in
    let parts = by_parts d next last in
    let none_more = ap (λ z. z *ℤ dot next last) straight in
    let none_also = identity (times none (number (dot next last))) none (omega arith) in
    let product = positive-product (dot d next) (crossed next last) way left in
    let at_last = back last in
    let last_back = turn_back last one in
    let below = above-product (dot next next) (pos 0 -ℤ crossed d last) (dot-same next) (omega (arith, ints, right, at_last, last_back)) in
    let below_is = identity (times (number (dot next next)) (minus none (number (crossed d last)))) (minus none (times (number (dot next next)) (number (crossed d last)))) (omega arith) in
    absurd (omega (arith, ints, parts, none_more, none_also, product, below, below_is))))
    (λ right. right)
