-- Shapes: of which side a vector reaches furthest, and which corner lies furthest to the right of a direction.
use Rattle.std.proofs.Common.{List, ap, arith, pos, subst, sym, ℤ, ◌*ℤ◌, ◌+ℤ◌, ◌-ℤ◌, ◌<ℤ◌, ◌≡◌, ◌≢◌, ◌≤ℤ◌, ◌∙◌}
use Rattle.std.specs.Prelude.{Contains}
use Rattle.std.proofs.lemmas.Int.{by_lt_z, ints}
use Rattle.plane.specs.declared.edge.Edge.{Edge}
use Rattle.plane.specs.declared.point.Point.{Point}
use Rattle.plane.specs.Ends.{edge_between, end_of, start_of}
use Rattle.plane.proofs.MeetLemmas.Identities.{Term, identity, minus, number, plus, times}
use Rattle.offset.proofs.CoverLemmas.Least.{HasLeast, Measure, has-least}
use Rattle.offset.proofs.CoverLemmas.Numbers.{above-factor, above-product, none, positive-factor, positive-product, scaled-most}
use Rattle.offset.proofs.CoverLemmas.Vectors.{crossed, crossing, less_terms, reach, reach-next, term, way, wide}

-- Two sides of which the other begins where the one ends, and turns left.
pub record IsCorner (sides : List Edge) (one other : Edge) : Type 0 where
  pub before : Contains sides one
  pub after : Contains sides other
  pub joined : end_of one ≡ start_of other
  pub left : pos 0 <ℤ crossed (way one) (way other)

-- The sides of a convex polygon around the origin, and the pairs of those that follow each other.
pub record IsShape (sides : List Edge) (pairs : List (Edge × Edge)) : Type 0 where
  pub some : (side : Edge) × Contains sides side
  pub around : (side : Edge) → Contains sides side → pos 0 <ℤ wide side
  pub convex : (side other : Edge) → Contains sides side → Contains sides other → reach side (start_of other) ≤ℤ wide side
  pub corner : (one other : Edge) → Contains pairs (one, other) → IsCorner sides one other
  pub next : (side : Edge) → Contains sides side → (other : Edge) × Contains pairs (side, other)
  pub previous : (side : Edge) → Contains sides side → (other : Edge) × Contains pairs (other, side)

-- The vector reaches this side furthest, in parts of how far the side is.
pub record IsTop (sides : List Edge) (vector : Point) (side : Edge) : Type 0 where
  pub of : Contains sides side
  pub most : (other : Edge) → Contains sides other → (reach other vector *ℤ wide side) ≤ℤ (reach side vector *ℤ wide other)

-- Each vector reaches some side furthest.
pub top : (sides : List Edge) (pairs : List (Edge × Edge)) → IsShape sides pairs → (vector : Point) → (side : Edge) × IsTop sides vector side
top sides pairs shape vector =
    let (some, among) = shape.some in
    let found = has-least Edge (Contains sides) measure sides (λ side of. of) some among in (
      found.item,
      record {
        of = found.among;
        most = λ other of. least found other of;
      },
    )
  where
    measure : Measure Edge (Contains sides)
    measure = record {
      over = λ side of. pos 0 -ℤ reach side vector;
      under = λ side of. wide side;
      positive = λ side of. shape.around side of;
    }

    back : (a b c d : ℤ) → ((pos 0 -ℤ a) *ℤ d) ≤ℤ ((pos 0 -ℤ c) *ℤ b) → (c *ℤ b) ≤ℤ (a *ℤ d)
    back a b c d below =
        let first = identity (times (minus none (number a)) (number d)) (minus none (times (number a) (number d))) (omega arith) in
        let second = identity (times (minus none (number c)) (number b)) (minus none (times (number c) (number b))) (omega arith) in
        omega (arith, ints, below, first, second)

    least : (found : HasLeast Edge (Contains sides) measure sides) (other : Edge) → Contains sides other → (reach other vector *ℤ wide found.item) ≤ℤ (reach found.item vector *ℤ wide other)
    least found other of =
        let (q, most) = found.least other of in
        back (reach found.item vector) (wide found.item) (reach other vector) (wide other) most

-- two sides at a corner, as edges between points
next-reach : (one other : Edge) (v : Point) → end_of one ≡ start_of other → ((reach one v *ℤ wide other) -ℤ (reach other v *ℤ wide one)) ≡ (crossed (way one) (way other) *ℤ crossed v (start_of other))
next-reach one other v joined =
    let is = λ (corner : Point). ((reach (edge_between (start_of one) corner) v *ℤ wide other) -ℤ (reach other v *ℤ wide (edge_between (start_of one) corner))) ≡ (crossed (way (edge_between (start_of one) corner)) (way other) *ℤ crossed v (start_of other)) in
    subst is (sym joined) (reach-next (start_of one) (start_of other) (end_of other) v)

-- Where a vector reaches a side furthest, it lies between the side's ends.
pub top-before : (sides : List Edge) (pairs : List (Edge × Edge)) → IsShape sides pairs → (vector : Point) (side : Edge) → IsTop sides vector side → pos 0 ≤ℤ crossed vector (end_of side)
top-before sides pairs shape vector side is =
    let (other, pair) = shape.next side is.of in
    let corner = shape.corner side other pair in
    let same = next-reach side other vector corner.joined in
    let most = is.most other corner.after in
    let above = above-factor (crossed (way side) (way other)) (crossed vector (start_of other)) corner.left (omega (arith, ints, same, most)) in
    subst (λ (point : Point). pos 0 ≤ℤ crossed vector point) (sym corner.joined) above

pub top-after : (sides : List Edge) (pairs : List (Edge × Edge)) → IsShape sides pairs → (vector : Point) (side : Edge) → IsTop sides vector side → crossed vector (start_of side) ≤ℤ pos 0
top-after sides pairs shape vector side is =
    let (other, pair) = shape.previous side is.of in
    let corner = shape.corner other side pair in
    let same = next-reach other side vector corner.joined in
    let most = is.most other corner.before in
    let turn = crossed (way other) (way side) in
    let to = crossed vector (start_of side) in
    let back = identity (times (number turn) (minus none (number to))) (minus none (times (number turn) (number to))) (omega arith) in
    let above = above-factor turn (pos 0 -ℤ to) corner.left (omega (arith, ints, same, most, back)) in
    omega (arith, ints, above)

-- ---- a vector between a side's ends

-- a vector by the two ends of a side
pub by_ends : (a b v f : Point) → (crossed a b *ℤ crossed v f) ≡ ((crossed v b *ℤ crossed a f) +ℤ ((pos 0 -ℤ crossed v a) *ℤ crossed b f))
by_ends a b v f =
    identity
    (times (crossing (term a) (term b)) (crossing (term v) (term f)))
    (plus (times (crossing (term v) (term b)) (crossing (term a) (term f))) (times (minus none (crossing (term v) (term a))) (crossing (term b) (term f))))
    (omega arith)

-- how far a side is reached, by its ends
pub reach-ends : (side : Edge) (v : Point) → reach side v ≡ (crossed v (end_of side) -ℤ crossed v (start_of side))
reach-ends side v =
    identity (crossing (term v) (less_terms (term (end_of side)) (term (start_of side)))) (minus (crossing (term v) (term (end_of side))) (crossing (term v) (term (start_of side)))) (omega arith)

cone : (wide_one wide_other reach_one reach_other p q a b : ℤ) → pos 0 ≤ℤ p → pos 0 ≤ℤ q → a ≤ℤ wide_other → b ≤ℤ wide_other → reach_one ≡ (p +ℤ q) → (wide_one *ℤ reach_other) ≡ ((p *ℤ a) +ℤ (q *ℤ b)) → (reach_other *ℤ wide_one) ≤ℤ (reach_one *ℤ wide_other)
cone wide_one wide_other reach_one reach_other p q a b p_above q_above a_most b_most sum by =
    let first = scaled-most p a wide_other p_above a_most in
    let second = scaled-most q b wide_other q_above b_most in
    let turn = identity (times (number reach_other) (number wide_one)) (times (number wide_one) (number reach_other)) (omega arith) in
    let split = identity (times (plus (number p) (number q)) (number wide_other)) (plus (times (number p) (number wide_other)) (times (number q) (number wide_other))) (omega arith) in
    let goal : (reach_other *ℤ wide_one) ≤ℤ ((p +ℤ q) *ℤ wide_other) = omega (arith, ints, first, second, turn, split, by) in
    subst (λ (z : ℤ). (reach_other *ℤ wide_one) ≤ℤ (z *ℤ wide_other)) (sym sum) goal

-- no end of a side is beyond another one
pub convex-end : (sides : List Edge) (pairs : List (Edge × Edge)) → IsShape sides pairs → (side other : Edge) → Contains sides side → Contains sides other → reach side (end_of other) ≤ℤ wide side
convex-end sides pairs shape side other of of_other =
    let (next, pair) = shape.next other of_other in
    let corner = shape.corner other next pair in
    subst (λ (point : Point). reach side point ≤ℤ wide side) (sym corner.joined) (shape.convex side next of corner.after)

-- A vector between a side's ends reaches that side furthest.
pub between-top : (sides : List Edge) (pairs : List (Edge × Edge)) → IsShape sides pairs → (vector : Point) (side : Edge) → Contains sides side → crossed vector (start_of side) ≤ℤ pos 0 → pos 0 ≤ℤ crossed vector (end_of side) → IsTop sides vector side
between-top sides pairs shape vector side of after before = record {
  of = of;
  most = λ other of_other.
      cone (wide side) (wide other) (reach side vector) (reach other vector) (crossed vector (end_of side)) (pos 0 -ℤ crossed vector (start_of side)) (reach other (start_of side)) (reach other (end_of side)) before (omega (arith, ints, after)) (shape.convex other side of_other of) (convex-end sides pairs shape other side of_other of)
      (let sum = reach-ends side vector in omega (arith, ints, sum))
      (by_ends (start_of side) (end_of side) vector (way other));
}

-- ---- the corner furthest to the right

-- The corner between the two sides is the first of those that lie furthest to the right of the direction.
pub record IsFurthest (pairs : List (Edge × Edge)) (direction : Point) (one other : Edge) : Type 0 where
  pub pair : Contains pairs (one, other)
  pub before : crossed direction (way one) <ℤ pos 0
  pub after : pos 0 ≤ℤ crossed direction (way other)

-- the directions of two sides, and two vectors
pub by_sides : (f h d v : Point) → (crossed f h *ℤ crossed d v) ≡ ((crossed d f *ℤ crossed v h) -ℤ (crossed d h *ℤ crossed v f))
by_sides f h d v =
    identity
    (times (crossing (term f) (term h)) (crossing (term d) (term v)))
    (minus (times (crossing (term d) (term f)) (crossing (term v) (term h))) (times (crossing (term d) (term h)) (crossing (term v) (term f))))
    (omega arith)

pub start-wide : (side : Edge) → reach side (start_of side) ≡ wide side
start-wide side =
    identity (crossing (term (start_of side)) (less_terms (term (end_of side)) (term (start_of side)))) (crossing (term (start_of side)) (term (end_of side))) (omega arith)

end-wide : (side : Edge) → reach side (end_of side) ≡ wide side
end-wide side =
    identity (crossing (term (end_of side)) (less_terms (term (end_of side)) (term (start_of side)))) (crossing (term (start_of side)) (term (end_of side))) (omega arith)

-- the corner itself
at_corner : (one other : Edge) (d : Point) → end_of one ≡ start_of other → (crossed (way one) (way other) *ℤ crossed d (start_of other)) ≡ ((crossed d (way one) *ℤ wide other) -ℤ (crossed d (way other) *ℤ wide one))
at_corner one other d joined =
    by_sides (way one) (way other) d (start_of other)
    ∙ ap (λ z. (crossed d (way one) *ℤ z) -ℤ (crossed d (way other) *ℤ reach one (start_of other))) (start-wide other)
    ∙ ap (λ z. (crossed d (way one) *ℤ wide other) -ℤ (crossed d (way other) *ℤ z)) (ap (λ (point : Point). reach one point) (sym joined) ∙ end-wide one)

-- That corner does lie to the right of it.
pub furthest-right : (sides : List Edge) (pairs : List (Edge × Edge)) → IsShape sides pairs → (direction : Point) (one other : Edge) → IsFurthest pairs direction one other → crossed direction (start_of other) <ℤ pos 0
furthest-right sides pairs shape d one other is =
    let corner = shape.corner one other is.pair in
    let turn = crossed (way one) (way other) in
    let at = crossed d (start_of other) in
    let same = at_corner one other d corner.joined in
    let first = positive-product (pos 0 -ℤ crossed d (way one)) (wide other) (let before = is.before in omega (arith, ints, before)) (shape.around other corner.after) in
    let second = above-product (crossed d (way other)) (wide one) is.after (let some = shape.around one corner.before in omega (arith, ints, some)) in
    let back = identity (times (minus none (number (crossed d (way one)))) (number (wide other))) (minus none (times (number (crossed d (way one))) (number (wide other)))) (omega arith) in
    let turned = identity (times (number turn) (minus none (number at))) (minus none (times (number turn) (number at))) (omega arith) in
    let above = positive-factor turn (pos 0 -ℤ at) corner.left (omega (arith, ints, same, first, second, back, turned)) in
    omega (arith, ints, above)

support : (g dc dv p1 p2 rt wt w1 w2 v1 v2 : ℤ) → pos 0 <ℤ g → p2 ≤ℤ pos 0 → pos 0 ≤ℤ p1 → (g *ℤ dc) ≡ ((p2 *ℤ w2) -ℤ (p1 *ℤ w1)) → (g *ℤ dv) ≡ ((p2 *ℤ v2) -ℤ (p1 *ℤ v1)) → (v1 *ℤ wt) ≤ℤ (rt *ℤ w1) → (v2 *ℤ wt) ≤ℤ (rt *ℤ w2) → ((pos 0 -ℤ dv) *ℤ wt) ≤ℤ (rt *ℤ (pos 0 -ℤ dc))
support g dc dv p1 p2 rt wt w1 w2 v1 v2 some below above is_c is_v most1 most2 =
    let n = λ (z : ℤ). number z in
    let by = λ (s t : Term). times s t in
    let one = above-product p1 ((rt *ℤ w1) -ℤ (v1 *ℤ wt)) above (omega (arith, ints, most1)) in
    let two = above-product (pos 0 -ℤ p2) ((rt *ℤ w2) -ℤ (v2 *ℤ wt)) (omega (arith, ints, below)) (omega (arith, ints, most2)) in
    let apart = identity
    (by (n g) (plus (by (n rt) (minus none (n dc))) (by (n dv) (n wt))))
    (minus (by (n wt) (by (n g) (n dv))) (by (n rt) (by (n g) (n dc))))
    (omega arith) in
    let first = ap (λ z. wt *ℤ z) is_v in
    let second = ap (λ z. rt *ℤ z) is_c in
    let together = identity
    (minus (by (n wt) (minus (by (n p2) (n v2)) (by (n p1) (n v1)))) (by (n rt) (minus (by (n p2) (n w2)) (by (n p1) (n w1)))))
    (plus (by (n p1) (minus (by (n rt) (n w1)) (by (n v1) (n wt)))) (by (minus none (n p2)) (minus (by (n rt) (n w2)) (by (n v2) (n wt)))))
    (omega arith) in
    let found = above-factor g ((rt *ℤ (pos 0 -ℤ dc)) +ℤ (dv *ℤ wt)) some (omega (arith, ints, one, two, apart, first, second, together)) in
    let back = identity (by (minus none (n dv)) (n wt)) (minus none (by (n dv) (n wt))) (omega arith) in
    omega (arith, ints, found, back)

-- No vector that reaches so far lies further to the right than that corner does, in parts of how far the shape goes.
pub furthest-most : (sides : List Edge) (pairs : List (Edge × Edge)) → IsShape sides pairs → (direction : Point) (one other : Edge) → IsFurthest pairs direction one other → (vector : Point) (side : Edge) → IsTop sides vector side → ((pos 0 -ℤ crossed direction vector) *ℤ wide side) ≤ℤ (reach side vector *ℤ (pos 0 -ℤ crossed direction (start_of other)))
furthest-most sides pairs shape d one other is vector side is_top =
    let corner = shape.corner one other is.pair in
    support (crossed (way one) (way other)) (crossed d (start_of other)) (crossed d vector) (crossed d (way other)) (crossed d (way one)) (reach side vector) (wide side) (wide one) (wide other) (reach one vector) (reach other vector) corner.left
    (let before = is.before in omega (arith, ints, before))
    is.after
    (at_corner one other d corner.joined)
    (by_sides (way one) (way other) d vector)
    (is_top.most one corner.before)
    (is_top.most other corner.after)

-- ---- there is such a corner

-- how a direction crosses a side, by the side's ends
pub side-ends : (side : Edge) (d : Point) → crossed d (way side) ≡ (crossed d (end_of side) -ℤ crossed d (start_of side))
side-ends side d = reach-ends side d

-- a direction crosses two sides at a corner only if it is none
not-along : (sides : List Edge) (one other : Edge) (d v : Point) → IsCorner sides one other → crossed d (way one) ≡ pos 0 → crossed d (way other) ≡ pos 0 → crossed d v ≢ pos 0 → ⊥
not-along sides one other d v corner first second some =
    let turn = crossed (way one) (way other) in
    let same = by_sides (way one) (way other) d v
    ∙ ap (λ z. (z *ℤ crossed v (way other)) -ℤ (crossed d (way other) *ℤ crossed v (way one))) first
    ∙ ap (λ z. (pos 0 *ℤ crossed v (way other)) -ℤ (z *ℤ crossed v (way one))) second
    ∙ identity (minus (times none (number (crossed v (way other)))) (times none (number (crossed v (way one))))) none (omega arith) in
    some (by_lt_z (pos 0) (crossed d v)
    (λ above.
    let product = positive-product turn (crossed d v) corner.left above in absurd (omega (arith, ints, product, same)))
    (λ upto. by_lt_z (crossed d v) (pos 0)
    (λ below.
    let product = positive-product turn (pos 0 -ℤ crossed d v) corner.left (omega (arith, ints, below)) in
    let back = identity (times (number turn) (minus none (number (crossed d v)))) (minus none (times (number turn) (number (crossed d v)))) (omega arith) in
    absurd (omega (arith, ints, product, back, same)))
    (λ from. omega (arith, ints, upto, from))))

-- Some corner lies furthest to the right of a direction that isn't none.
pub has-furthest : (sides : List Edge) (pairs : List (Edge × Edge)) → IsShape sides pairs → (direction vector : Point) → crossed direction vector ≢ pos 0 → (one : Edge) × (other : Edge) × IsFurthest pairs direction one other
has-furthest sides pairs shape d v some =
    let (first, among) = shape.some in
    let found = has-least Edge (Contains sides) measure sides (λ side of. of) first among in
    from found
  where
    measure : Measure Edge (Contains sides)
    measure = record {
      over = λ side of. crossed d (start_of side);
      under = λ side of. pos 1;
      positive = λ side of. omega (arith, ints);
    }

    once : (a b : ℤ) → (a *ℤ pos 1) ≤ℤ (b *ℤ pos 1) → a ≤ℤ b
    once a b below =
        let first = identity (times (number a) (number (pos 1))) (number a) (omega arith) in
        let second = identity (times (number b) (number (pos 1))) (number b) (omega arith) in
        omega (arith, ints, below, first, second)

    from : HasLeast Edge (Contains sides) measure sides → (one : Edge) × (other : Edge) × IsFurthest pairs d one other
    from found =
        let side = found.item in
        let least : (other : Edge) → Contains sides other → crossed d (start_of side) ≤ℤ crossed d (start_of other) = λ other of. once (crossed d (start_of side)) (crossed d (start_of other)) (found.least other of).1 in
        let (next, next_pair) = shape.next side found.among in
        let (one, pair) = shape.previous side found.among in
        let (two, two_pair) = shape.previous one (shape.corner one side pair).before in
        let after = shape.corner side next next_pair in
        let here = shape.corner one side pair in
        let before = shape.corner two one two_pair in
        let least_next = least next after.after in
        let least_one = least one here.before in
        let least_two = least two before.before in
        let along_side = side-ends side d in
        let along_one = side-ends one d in
        let along_two = side-ends two d in
        let join_next = ap (λ (point : Point). crossed d point) after.joined in
        let join_one = ap (λ (point : Point). crossed d point) here.joined in
        let join_two = ap (λ (point : Point). crossed d point) before.joined in
        by_lt_z (crossed d (way one)) (pos 0)
        (λ below. (
          one,
          side,
          record {
            pair = pair;
            before = below;
            after = omega (arith, ints, least_next, along_side, join_next);
          },
        ))
        (λ upto. by_lt_z (crossed d (way two)) (pos 0)
        (λ below. (
          two,
          one,
          record {
            pair = two_pair;
            before = below;
            after = upto;
          },
        ))
        (λ also. absurd (not-along sides two one d v before
        (omega (arith, ints, also, upto, least_one, least_two, along_one, along_two, join_one, join_two))
        (omega (arith, ints, upto, least_one, along_one, join_one))
        some)))
