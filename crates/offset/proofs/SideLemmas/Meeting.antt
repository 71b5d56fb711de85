-- When two edges have a common point, told by the sides on which the ends of each lie of the other.
use Rattle.std.proofs.Common.{◌≡◌, ◌⊎◌, inl, ℤ, pos, ◌+ℤ◌, ◌-ℤ◌, ◌*ℤ◌, ◌<ℤ◌, ◌≤ℤ◌, arith, subst}
use Rattle.std.proofs.lemmas.Int.{by_lt_z, clamps, ints}
use Rattle.plane.specs.declared.edge.Edge.{Edge}
use Rattle.plane.specs.Meet.Crosses.{cross}
use Rattle.plane.specs.Meet.Edges.{Meet}
use Rattle.plane.proofs.MeetLemmas.Along.{lies, starts, whole_point}
use Rattle.plane.proofs.MeetLemmas.Boxes.{meet_comm}
use Rattle.plane.proofs.MeetLemmas.Identities.{Term, identity, minus, number, plus, times}
use Rattle.plane.proofs.MeetLemmas.Shares.{meet-of_parts, part_of_one, part_of_other, whole}
use Rattle.plane.proofs.SweepLineLemmas.Gaps.{product_above, quotient_above}
use Rattle.noding.proofs.SnapLemmas.Numbers.{n_of}

-- How far the point (x, y) lies to the left of the edge's line, times the edge's length; below 0 where it lies to the right.
abbrev pub leftness : Edge → ℤ → ℤ → ℤ
leftness edge x y = cross (edge.x1 -ℤ edge.x0) (edge.y1 -ℤ edge.y0) (x -ℤ edge.x0) (y -ℤ edge.y0)

-- One of the numbers isn't above 0, and the other isn't below it.
abbrev pub AreOpposite : ℤ → ℤ → Type 0
AreOpposite one other = ((one ≤ℤ pos 0) × (pos 0 ≤ℤ other)) ⊎ ((pos 0 ≤ℤ one) × (other ≤ℤ pos 0))

-- an edge's x, y and their differences, as expressions
abbrev crossing : Term → Term → Term → Term → Term
crossing x y other_x other_y = minus (times x other_y) (times y other_x)

abbrev from : ℤ → ℤ → Term
from low high = minus (number high) (number low)

abbrev left_of : Edge → ℤ → ℤ → Term
left_of edge x y = crossing (from edge.x0 edge.x1) (from edge.y0 edge.y1) (from edge.x0 x) (from edge.y0 y)

-- ---- from the sides to a common point

module _ (one other : Edge) where
  -- the parts, by the sides
  part-start : part_of_one one other ≡ leftness other one.x0 one.y0
  part-start =
      identity (crossing (from one.x0 other.x0) (from one.y0 other.y0) (from other.x0 other.x1) (from other.y0 other.y1)) (left_of other one.x0 one.y0) (omega arith)

  part-rest : whole one other ≡ (leftness other one.x0 one.y0 -ℤ leftness other one.x1 one.y1)
  part-rest =
      identity (crossing (from one.x0 one.x1) (from one.y0 one.y1) (from other.x0 other.x1) (from other.y0 other.y1)) (minus (left_of other one.x0 one.y0) (left_of other one.x1 one.y1)) (omega arith)

  part-other : part_of_other one other ≡ (pos 0 -ℤ leftness one other.x0 other.y0)
  part-other =
      identity (crossing (from one.x0 other.x0) (from one.y0 other.y0) (from one.x0 one.x1) (from one.y0 one.y1)) (minus (n_of 0) (left_of one other.x0 other.y0)) (omega arith)

  whole-rest : whole one other ≡ (leftness one other.x1 other.y1 -ℤ leftness one other.x0 other.y0)
  whole-rest =
      identity (crossing (from one.x0 one.x1) (from one.y0 one.y1) (from other.x0 other.x1) (from other.y0 other.y1)) (minus (left_of one other.x1 other.y1) (left_of one other.x0 other.y0)) (omega arith)

  -- where each edge's ends lie on different sides of the other, and the ways aren't parallel, they meet
  pub meet-up : pos 0 <ℤ whole one other → leftness one other.x0 other.y0 ≤ℤ pos 0 → pos 0 ≤ℤ leftness one other.x1 other.y1
      → pos 0 ≤ℤ leftness other one.x0 one.y0 → leftness other one.x1 one.y1 ≤ℤ pos 0 → Meet one other
  meet-up turned right left start_left end_right =
      let a = part-start in
      let b = part-rest in
      let c = part-other in
      let d = whole-rest in
      meet-of_parts one other (λ none. omega (arith, ints, turned, none))
      (inl (omega (arith, ints, a, start_left), omega (arith, ints, a, b, end_right)))
      (inl (omega (arith, ints, c, right), omega (arith, ints, c, d, left)))

-- ---- edges that both go rightwards

-- How far the other edge is above the one at x, times the runs of both.
abbrev pub height_over : Edge → Edge → ℤ → ℤ
height_over one other x =
    ((one.x1 -ℤ one.x0) *ℤ ((other.y0 *ℤ (other.x1 -ℤ x)) +ℤ (other.y1 *ℤ (x -ℤ other.x0))))
    -ℤ ((other.x1 -ℤ other.x0) *ℤ ((one.y0 *ℤ (one.x1 -ℤ x)) +ℤ (one.y1 *ℤ (x -ℤ one.x0))))

abbrev over_term : Edge → Edge → Term → Term
over_term one other x =
    minus (times (from one.x0 one.x1) (plus (times (number other.y0) (minus (number other.x1) x)) (times (number other.y1) (minus x (number other.x0)))))
    (times (from other.x0 other.x1) (plus (times (number one.y0) (minus (number one.x1) x)) (times (number one.y1) (minus x (number one.x0)))))

module _ (one other : Edge) where
  -- at the ends of the other, by the sides on which these lie
  pub over-start : height_over one other other.x0 ≡ ((other.x1 -ℤ other.x0) *ℤ leftness one other.x0 other.y0)
  over-start = identity (over_term one other (number other.x0)) (times (from other.x0 other.x1) (left_of one other.x0 other.y0)) (omega arith)

  pub over-end : height_over one other other.x1 ≡ ((other.x1 -ℤ other.x0) *ℤ leftness one other.x1 other.y1)
  over-end = identity (over_term one other (number other.x1)) (times (from other.x0 other.x1) (left_of one other.x1 other.y1)) (omega arith)

  -- at the ends of the one
  pub under-start : height_over one other one.x0 ≡ (pos 0 -ℤ ((one.x1 -ℤ one.x0) *ℤ leftness other one.x0 one.y0))
  under-start = identity (over_term one other (number one.x0)) (minus (n_of 0) (times (from one.x0 one.x1) (left_of other one.x0 one.y0))) (omega arith)

  pub under-end : height_over one other one.x1 ≡ (pos 0 -ℤ ((one.x1 -ℤ one.x0) *ℤ leftness other one.x1 one.y1))
  under-end = identity (over_term one other (number one.x1)) (minus (n_of 0) (times (from one.x0 one.x1) (left_of other one.x1 one.y1))) (omega arith)

  -- from one x to another it changes by the cross product of the ways
  over-more : (l x : ℤ) → height_over one other x ≡ (height_over one other l +ℤ ((x -ℤ l) *ℤ whole one other))
  over-more l x =
      identity (over_term one other (number x)) (plus (over_term one other (number l)) (times (from l x) (crossing (from one.x0 one.x1) (from one.y0 one.y1) (from other.x0 other.x1) (from other.y0 other.y1)))) (omega arith)

  over-less : (l x : ℤ) → height_over one other x ≡ (height_over one other l -ℤ ((l -ℤ x) *ℤ whole one other))
  over-less l x =
      identity (over_term one other (number x)) (minus (over_term one other (number l)) (times (from x l) (crossing (from one.x0 one.x1) (from one.y0 one.y1) (from other.x0 other.x1) (from other.y0 other.y1)))) (omega arith)

  over-back : (x : ℤ) → height_over other one x ≡ (pos 0 -ℤ height_over one other x)
  over-back x = identity (over_term other one (number x)) (minus (n_of 0) (over_term one other (number x))) (omega arith)

  whole-back : whole other one ≡ (pos 0 -ℤ whole one other)
  whole-back =
      identity (crossing (from other.x0 other.x1) (from other.y0 other.y1) (from one.x0 one.x1) (from one.y0 one.y1)) (minus (n_of 0) (crossing (from one.x0 one.x1) (from one.y0 one.y1) (from other.x0 other.x1) (from other.y0 other.y1))) (omega arith)

-- a number of which a positive multiple isn't above 0 isn't, and one of which it is 0 is 0
quotient_below : (k z : ℤ) → pos 0 <ℤ k → (k *ℤ z) ≤ℤ pos 0 → z ≤ℤ pos 0
quotient_below k z some below =
    let turned = identity (times (number k) (minus (n_of 0) (number z))) (minus (n_of 0) (times (number k) (number z))) (omega arith) in
    let above = quotient_above k (pos 0 -ℤ z) some (omega (arith, ints, turned, below)) in
    omega (arith, ints, above)

quotient_none : (k z : ℤ) → pos 0 <ℤ k → (k *ℤ z) ≡ pos 0 → z ≡ pos 0
quotient_none k z some none =
    let above = quotient_above k z some (omega (arith, ints, none)) in
    let below = quotient_below k z some (omega (arith, ints, none)) in
    omega (arith, ints, above, below)

-- Both go rightwards, and l and r are x of both, l not to the right of r.
pub record Spans (one other : Edge) (l r : ℤ) : Type 0 where
  pub onwards : one.x0 <ℤ one.x1
  pub other_onwards : other.x0 <ℤ other.x1
  pub from : one.x0 ≤ℤ l
  pub other_from : other.x0 ≤ℤ l
  pub order : l ≤ℤ r
  pub upto : r ≤ℤ one.x1
  pub other_upto : r ≤ℤ other.x1

-- where the other one crosses upwards
meet-rising : (one other : Edge) (l r : ℤ) → Spans one other l r → pos 0 <ℤ whole one other → height_over one other l ≤ℤ pos 0 → pos 0 ≤ℤ height_over one other r → Meet one other
meet-rising one other l r is turned low high =
    let onwards = is.onwards in
    let other_onwards = is.other_onwards in
    let from_l = is.from in
    let other_from = is.other_from in
    let upto = is.upto in
    let other_upto = is.other_upto in
    let d = whole one other in
    let wide : pos 0 <ℤ (one.x1 -ℤ one.x0) = omega (arith, ints, onwards) in
    let other_wide : pos 0 <ℤ (other.x1 -ℤ other.x0) = omega (arith, ints, other_onwards) in
    let a = product_above (l -ℤ one.x0) d (omega (arith, ints, from_l)) (omega (arith, ints, turned)) in
    let b = product_above (l -ℤ other.x0) d (omega (arith, ints, other_from)) (omega (arith, ints, turned)) in
    let c = product_above (one.x1 -ℤ r) d (omega (arith, ints, upto)) (omega (arith, ints, turned)) in
    let e = product_above (other.x1 -ℤ r) d (omega (arith, ints, other_upto)) (omega (arith, ints, turned)) in
    let a_is = over-less one other l one.x0 in
    let b_is = over-less one other l other.x0 in
    let c_is = over-more one other r one.x1 in
    let e_is = over-more one other r other.x1 in
    let at_start = under-start one other in
    let at_other_start = over-start one other in
    let at_end = under-end one other in
    let at_other_end = over-end one other in
    meet-up one other turned
    (quotient_below (other.x1 -ℤ other.x0) (leftness one other.x0 other.y0) other_wide (omega (arith, ints, low, b, b_is, at_other_start)))
    (quotient_above (other.x1 -ℤ other.x0) (leftness one other.x1 other.y1) other_wide (omega (arith, ints, high, e, e_is, at_other_end)))
    (quotient_above (one.x1 -ℤ one.x0) (leftness other one.x0 one.y0) wide (omega (arith, ints, low, a, a_is, at_start)))
    (quotient_below (one.x1 -ℤ one.x0) (leftness other one.x1 one.y1) wide (omega (arith, ints, high, c, c_is, at_end)))

-- a point on the line of an edge that goes rightwards
on_line : (edge : Edge) (x y : ℤ) → leftness edge x y ≡ pos 0 → ((x -ℤ edge.x0) *ℤ (edge.y1 -ℤ edge.y0)) ≡ ((y -ℤ edge.y0) *ℤ (edge.x1 -ℤ edge.x0))
on_line edge x y none =
    let split = identity (left_of edge x y) (minus (times (from edge.y0 y) (from edge.x0 edge.x1)) (times (from edge.x0 x) (from edge.y0 edge.y1))) (omega arith) in
    omega (arith, ints, split, none)

-- a start of the one that lies on the other
meet-start : (one other : Edge) → other.x0 <ℤ other.x1 → other.x0 ≤ℤ one.x0 → one.x0 ≤ℤ other.x1 → leftness other one.x0 one.y0 ≡ pos 0 → Meet other one
meet-start one other onwards after before none =
    let found = lies other one.x0 one.y0 (λ same. omega (arith, ints, same, onwards)) (omega (arith, ints, clamps, onwards, after)) (omega (arith, ints, clamps, onwards, before)) (on_line other one.x0 one.y0 none) in
    (whole_point found.n found.some one.x0 one.y0, found.of_edge, starts one found.n found.some)

-- Two edges that go rightwards meet where at two x of both the one isn't above the other, and then not below it, or the other
-- way.
pub meet-between : (one other : Edge) (l r : ℤ) → Spans one other l r → AreOpposite (height_over one other l) (height_over one other r) → Meet one other
meet-between one other l r is opposite =
    by_lt_z (pos 0) (whole one other) rising
    (λ not_rising. by_lt_z (whole one other) (pos 0) falling (λ not_falling. level (omega (arith, ints, not_rising, not_falling))))
  where
    order : l ≤ℤ r
    order = is.order

    rising : pos 0 <ℤ whole one other → Meet one other
    rising turned =
        let more = product_above (r -ℤ l) (whole one other) (omega (arith, ints)) (omega (arith, ints)) in
        let more_is = over-more one other l r in
        meet-rising one other l r is turned (omega (arith, ints, opposite, more, more_is)) (omega (arith, ints, opposite, more, more_is))

    falling : whole one other <ℤ pos 0 → Meet one other
    falling turned =
        let back = whole-back one other in
        let more = product_above (r -ℤ l) (whole other one) (omega (arith, ints)) (omega (arith, ints, back)) in
        let more_is = over-more other one l r in
        let at_l = over-back one other l in
        let at_r = over-back one other r in
        let spans : Spans other one l r = record { onwards = is.other_onwards; other_onwards = is.onwards; from = is.other_from; other_from = is.from; order = is.order; upto = is.other_upto; other_upto = is.upto } in
        meet_comm other one (meet-rising other one l r spans (omega (arith, ints, back, turned)) (omega (arith, ints, opposite, more, more_is, at_l, at_r)) (omega (arith, ints, opposite, more, more_is, at_l, at_r)))

    nothing : (z : ℤ) → (z *ℤ pos 0) ≡ pos 0
    nothing z = identity (times (number z) (n_of 0)) (n_of 0) (omega arith)

    level : whole one other ≡ pos 0 → Meet one other
    level none =
        let flat : (x : ℤ) → height_over one other x ≡ height_over one other l = λ x.
        let more = over-more one other l x in
        let no = nothing (x -ℤ l) in
        let gone : ((x -ℤ l) *ℤ whole one other) ≡ pos 0 = rw none no in
        omega (arith, ints, more, gone) in
        let at_r = flat r in
        let zero_l : height_over one other l ≡ pos 0 = omega (arith, ints, at_r, opposite) in
        let onwards = is.onwards in
        let other_onwards = is.other_onwards in
        let from_l = is.from in
        let other_from = is.other_from in
        let upto = is.upto in
        let other_upto = is.other_upto in
        by_lt_z one.x0 other.x0
        (λ later.
        let at = flat other.x0 in
        let is_at = over-start one other in
        let zero = quotient_none (other.x1 -ℤ other.x0) (leftness one other.x0 other.y0) (omega (arith, ints, other_onwards)) (omega (arith, ints, at, is_at, zero_l)) in
        meet-start other one onwards (omega (arith, ints, later)) (omega (arith, ints, other_from, order, upto)) zero)
        (λ sooner.
        let at = flat one.x0 in
        let is_at = under-start one other in
        let zero = quotient_none (one.x1 -ℤ one.x0) (leftness other one.x0 one.y0) (omega (arith, ints, onwards)) (omega (arith, ints, at, is_at, zero_l)) in
        meet_comm other one (meet-start one other other_onwards sooner (omega (arith, ints, from_l, order, other_upto)) zero))

-- ---- an upright edge and one that goes rightwards

-- An edge that goes rightwards and an upright one at an x of it meet where the ends of this lie on different sides of it.
pub meet-upright : (one upright : Edge) → one.x0 <ℤ one.x1 → upright.x0 ≡ upright.x1 → one.x0 ≤ℤ upright.x0 → upright.x0 ≤ℤ one.x1
    → AreOpposite (leftness one upright.x0 upright.y0) (leftness one upright.x1 upright.y1) → Meet one upright
meet-upright one upright onwards straight after before opposite =
    by_lt_z (pos 0) (whole one upright)
    (λ rising.
    meet-up one upright rising (omega (arith, ints, opposite, sum, rising)) (omega (arith, ints, opposite, sum, rising)) (start_left rising) (end_right rising))
    (λ not_rising. by_lt_z (whole one upright) (pos 0)
    (λ falling.
    let back = whole-back one upright in
    meet_comm upright one (meet-up upright one (omega (arith, ints, back, falling)) (start_right falling) (end_left falling) (omega (arith, ints, opposite, sum, falling)) (omega (arith, ints, opposite, sum, falling))))
    (λ not_falling. meet-start upright one onwards after before (omega (arith, ints, opposite, sum, not_rising, not_falling))))
  where
    sum : whole one upright ≡ (leftness one upright.x1 upright.y1 -ℤ leftness one upright.x0 upright.y0)
    sum = whole-rest one upright

    -- how far up it goes
    rise : ℤ
    rise = upright.y1 -ℤ upright.y0

    whole-is : whole one upright ≡ ((one.x1 -ℤ one.x0) *ℤ rise)
    whole-is =
        subst (λ (z : ℤ). cross (one.x1 -ℤ one.x0) (one.y1 -ℤ one.y0) (z -ℤ upright.x0) (upright.y1 -ℤ upright.y0) ≡ ((one.x1 -ℤ one.x0) *ℤ (upright.y1 -ℤ upright.y0))) straight
        (identity (crossing (from one.x0 one.x1) (from one.y0 one.y1) (from upright.x0 upright.x0) (from upright.y0 upright.y1)) (times (from one.x0 one.x1) (from upright.y0 upright.y1)) (omega arith))

    beside : (x y : ℤ) → leftness upright x y ≡ (rise *ℤ (upright.x0 -ℤ x))
    beside x y =
        subst (λ (z : ℤ). cross (z -ℤ upright.x0) (upright.y1 -ℤ upright.y0) (x -ℤ upright.x0) (y -ℤ upright.y0) ≡ ((upright.y1 -ℤ upright.y0) *ℤ (upright.x0 -ℤ x))) straight
        (identity (crossing (from upright.x0 upright.x0) (from upright.y0 upright.y1) (from upright.x0 x) (from upright.y0 y)) (times (from upright.y0 upright.y1) (from x upright.x0)) (omega arith))

    rises : pos 0 <ℤ whole one upright → pos 0 ≤ℤ rise
    rises up = quotient_above (one.x1 -ℤ one.x0) rise (omega (arith, ints, onwards)) (omega (arith, ints, up, whole-is))

    falls : whole one upright <ℤ pos 0 → rise ≤ℤ pos 0
    falls down = quotient_below (one.x1 -ℤ one.x0) rise (omega (arith, ints, onwards)) (omega (arith, ints, down, whole-is))

    start_left : pos 0 <ℤ whole one upright → pos 0 ≤ℤ leftness upright one.x0 one.y0
    start_left up = let at = beside one.x0 one.y0 in let some = product_above rise (upright.x0 -ℤ one.x0) (rises up) (omega (arith, ints, after)) in omega (arith, ints, at, some)

    turned : (a b c : ℤ) → (a *ℤ (b -ℤ c)) ≡ (pos 0 -ℤ (a *ℤ (c -ℤ b)))
    turned a b c = identity (times (number a) (from c b)) (minus (n_of 0) (times (number a) (from b c))) (omega arith)

    less : (a b c : ℤ) → (a *ℤ (b -ℤ c)) ≡ (pos 0 -ℤ ((pos 0 -ℤ a) *ℤ (b -ℤ c)))
    less a b c = identity (times (number a) (from c b)) (minus (n_of 0) (times (minus (n_of 0) (number a)) (from c b))) (omega arith)

    end_right : pos 0 <ℤ whole one upright → leftness upright one.x1 one.y1 ≤ℤ pos 0
    end_right up =
        let at = beside one.x1 one.y1 in
        let some = product_above rise (one.x1 -ℤ upright.x0) (rises up) (omega (arith, ints, before)) in
        let same = turned rise upright.x0 one.x1 in
        omega (arith, ints, at, some, same)

    start_right : whole one upright <ℤ pos 0 → leftness upright one.x0 one.y0 ≤ℤ pos 0
    start_right down =
        let at = beside one.x0 one.y0 in
        let low = falls down in
        let some = product_above (pos 0 -ℤ rise) (upright.x0 -ℤ one.x0) (omega (arith, ints, low)) (omega (arith, ints, after)) in
        let same = less rise upright.x0 one.x0 in
        omega (arith, ints, at, some, same)

    end_left : whole one upright <ℤ pos 0 → pos 0 ≤ℤ leftness upright one.x1 one.y1
    end_left down =
        let at = beside one.x1 one.y1 in
        let low = falls down in
        let some = product_above (pos 0 -ℤ rise) (one.x1 -ℤ upright.x0) (omega (arith, ints, low)) (omega (arith, ints, before)) in
        let same = turned rise upright.x0 one.x1 in
        let other = less rise one.x1 upright.x0 in
        omega (arith, ints, at, some, same, other)
