-- Edges whose ways are parallel: where both lie along one line and their boxes meet, an end of one is of the other.
use Rattle.std.proofs.Common.{◌≡◌, ◌≢◌, ℕ, ◌+◌, ◌<◌, ◌≤◌, ℤ, pos, negsuc, ◌+ℤ◌, ◌-ℤ◌, ◌*ℤ◌, ◌≤ℤ◌, ◌<ℤ◌, ◌⊎◌, ◌∙◌, arith, refl, inl, inr}
use Rattle.std.specs.Int.{int_min, int_max}
use Rattle.std.proofs.lemmas.Int.{ints, clamps, by_lt_z}
use Rattle.plane.specs.declared.edge.Edge.{Edge}
use Rattle.plane.specs.Meet.Boxes.{RangesMeet, BoxesMeet}
use Rattle.plane.specs.Meet.Edges.{RationalPoint, IsOf, Meet}
use Rattle.plane.specs.Meet.Kinds.{IsEnd}
use Rattle.plane.proofs.MeetLemmas.Boxes.{meet_comm}
use Rattle.plane.proofs.MeetLemmas.Identities.{Term, number, plus, minus, times, value, identity, same_of, more, less}
use Rattle.plane.proofs.MeetLemmas.Shares.{whole, part_of_one, part_of_other}

-- A whole point, as one of n parts.
abbrev pub whole_point : (n : ℕ) → 0 < n → ℤ → ℤ → RationalPoint
whole_point n some x y = record { n = n; x = pos n *ℤ x; y = pos n *ℤ y; positive = some }

-- A whole point of an edge: of how many parts it is one, and its share.
pub record Lies (edge : Edge) (x y : ℤ) : Type 0 where
  pub n : ℕ
  pub some : 0 < n
  pub of_edge : IsOf edge (whole_point n some x y)

-- no part of a way leads to its start, and all of it to its end
at_start : (n : ℕ) (start end : ℤ) → (pos n *ℤ start) ≡ ((pos n *ℤ start) +ℤ (pos 0 *ℤ (end -ℤ start)))
at_start n start end =
    identity (times (number (pos n)) (number start)) (plus (times (number (pos n)) (number start)) (times (number (pos 0)) (minus (number end) (number start)))) (omega arith)

at_end : (n : ℕ) (start end : ℤ) → (pos n *ℤ end) ≡ ((pos n *ℤ start) +ℤ (pos n *ℤ (end -ℤ start)))
at_end n start end =
    identity (times (number (pos n)) (number end)) (plus (times (number (pos n)) (number start)) (times (number (pos n)) (minus (number end) (number start)))) (omega arith)

-- an end of an edge is of it
pub is_of-end : (edge : Edge) (point : RationalPoint) → IsEnd edge point → IsOf edge point
is_of-end edge point (inl at) = (
  0,
  record { share = omega arith; x = at.x_is ∙ at_start point.n edge.x0 edge.x1; y = at.y_is ∙ at_start point.n edge.y0 edge.y1 },
)
is_of-end edge point (inr at) = (
  point.n,
  record { share = omega arith; x = at.x_is ∙ at_end point.n edge.x0 edge.x1; y = at.y_is ∙ at_end point.n edge.y0 edge.y1 },
)

-- so both ends are, whatever the parts are
pub starts : (edge : Edge) (n : ℕ) (some : 0 < n) → IsOf edge (whole_point n some edge.x0 edge.y0)
starts edge n some = is_of-end edge (whole_point n some edge.x0 edge.y0) (inl (record { x_is = refl; y_is = refl }))

pub ends : (edge : Edge) (n : ℕ) (some : 0 < n) → IsOf edge (whole_point n some edge.x1 edge.y1)
ends edge n some = is_of-end edge (whole_point n some edge.x1 edge.y1) (inr (record { x_is = refl; y_is = refl }))

-- a number that isn't negative is a natural one
natural : (z : ℤ) → pos 0 ≤ℤ z → (n : ℕ) × (pos n ≡ z)
natural (pos n) above = (n, refl)
natural (negsuc n) above = absurd (omega (arith, ints))

-- the same of differences
rise : (low high : ℤ) → low ≤ℤ high → pos 0 ≤ℤ (high -ℤ low)
rise low high upwards = omega (arith, ints)

some_way : (low high : ℤ) (n : ℕ) → low <ℤ high → pos n ≡ (high -ℤ low) → 0 < n
some_way low high n upwards same = omega (arith, ints)

shorter : (low z high : ℤ) (a n : ℕ) → z ≤ℤ high → pos a ≡ (z -ℤ low) → pos n ≡ (high -ℤ low) → a ≤ n
shorter low z high a n upto part way = omega (arith, ints)

shorter_down : (low z high : ℤ) (a n : ℕ) → low ≤ℤ z → pos a ≡ (high -ℤ z) → pos n ≡ (high -ℤ low) → a ≤ n
shorter_down low z high a n above part way = omega (arith, ints)

-- the lesser and the greater of two numbers whose order is known
bounds_up : (start end z : ℤ) → start <ℤ end → int_min start end ≤ℤ z → z ≤ℤ int_max start end → (start ≤ℤ z) × (z ≤ℤ end)
bounds_up start end z upwards above upto = omega (arith, ints, clamps)

bounds_down : (start end z : ℤ) → end ≤ℤ start → int_min start end ≤ℤ z → z ≤ℤ int_max start end → (end ≤ℤ z) × (z ≤ℤ start)
bounds_down start end z downwards above upto = omega (arith, ints, clamps)

strictly : (a b : ℤ) → a ≢ b → b ≤ℤ a → b <ℤ a
strictly a b apart downwards = omega (arith, ints)

-- two whole numbers are the same or not
pub same_or_apart : (a b : ℤ) → (a ≡ b) ⊎ (a ≢ b)
same_or_apart a b =
    by_lt_z a b (λ less. inr (omega (arith, ints))) (λ least. by_lt_z b a (λ more. inr (omega (arith, ints))) (λ most. inl (omega (arith, ints))))

-- two ranges of one number each that meet
one_place : (start end other_start other_end : ℤ) → start ≡ end → other_start ≡ other_end → RangesMeet start end other_start other_end → start ≡ other_start
one_place start end other_start other_end first second meet = omega (arith, ints, clamps)

-- a point at a share that is said by differences
at_share : (edge : Edge) (x y way part : ℤ) (n a : ℕ) → pos n ≡ way → pos a ≡ part → 0 < n → a ≤ n → (way *ℤ x) ≡ ((way *ℤ edge.x0) +ℤ (part *ℤ (edge.x1 -ℤ edge.x0))) → (way *ℤ y) ≡ ((way *ℤ edge.y0) +ℤ (part *ℤ (edge.y1 -ℤ edge.y0))) → Lies edge x y
at_share edge x y way part n a n_is a_is some share x_is y_is = record {
  n = n;
  some = some;
  of_edge = (a, record { share = share; x = rw (n_is, a_is) x_is; y = rw (n_is, a_is) y_is });
}

-- differences and cross products, as expressions
abbrev from : ℤ → ℤ → Term
from low high = minus (number high) (number low)

abbrev crossing : Term → Term → Term → Term → Term
crossing x y other_x other_y = minus (times x other_y) (times y other_x)

-- a point on the line of an edge that isn't vertical, between its ends along x, is of it
lies_up : (edge : Edge) (x y : ℤ) → edge.x0 <ℤ edge.x1 → edge.x0 ≤ℤ x → x ≤ℤ edge.x1 → ((x -ℤ edge.x0) *ℤ (edge.y1 -ℤ edge.y0)) ≡ ((y -ℤ edge.y0) *ℤ (edge.x1 -ℤ edge.x0)) → Lies edge x y
lies_up edge x y upwards above upto line =
    let way = natural (edge.x1 -ℤ edge.x0) (rise edge.x0 edge.x1 (omega (arith, ints))) in
    let part = natural (x -ℤ edge.x0) (rise edge.x0 x above) in
    let fact = same_of (times (from edge.x0 x) (from edge.y0 edge.y1)) (times (from edge.y0 y) (from edge.x0 edge.x1)) line in
    at_share edge x y (edge.x1 -ℤ edge.x0) (x -ℤ edge.x0) way.0 part.0 way.1 part.1 (some_way edge.x0 edge.x1 way.0 upwards way.1) (shorter edge.x0 x edge.x1 part.0 way.0 upto part.1 way.1)
    (identity (times (from edge.x0 edge.x1) (number x)) (plus (times (from edge.x0 edge.x1) (number edge.x0)) (times (from edge.x0 x) (from edge.x0 edge.x1))) (omega arith))
    (identity (times (from edge.x0 edge.x1) (number y)) (plus (times (from edge.x0 edge.x1) (number edge.y0)) (times (from edge.x0 x) (from edge.y0 edge.y1))) (omega (arith, fact)))

lies_down : (edge : Edge) (x y : ℤ) → edge.x1 <ℤ edge.x0 → edge.x1 ≤ℤ x → x ≤ℤ edge.x0 → ((x -ℤ edge.x0) *ℤ (edge.y1 -ℤ edge.y0)) ≡ ((y -ℤ edge.y0) *ℤ (edge.x1 -ℤ edge.x0)) → Lies edge x y
lies_down edge x y downwards above upto line =
    let way = natural (edge.x0 -ℤ edge.x1) (rise edge.x1 edge.x0 (omega (arith, ints))) in
    let part = natural (edge.x0 -ℤ x) (rise x edge.x0 upto) in
    let fact = same_of (times (from edge.x0 x) (from edge.y0 edge.y1)) (times (from edge.y0 y) (from edge.x0 edge.x1)) line in
    at_share edge x y (edge.x0 -ℤ edge.x1) (edge.x0 -ℤ x) way.0 part.0 way.1 part.1 (some_way edge.x1 edge.x0 way.0 downwards way.1) (shorter_down edge.x1 x edge.x0 part.0 way.0 above part.1 way.1)
    (identity (times (from edge.x1 edge.x0) (number x)) (plus (times (from edge.x1 edge.x0) (number edge.x0)) (times (from x edge.x0) (from edge.x0 edge.x1))) (omega arith))
    (identity (times (from edge.x1 edge.x0) (number y)) (plus (times (from edge.x1 edge.x0) (number edge.y0)) (times (from x edge.x0) (from edge.y0 edge.y1))) (omega (arith, fact)))

pub lies : (edge : Edge) (x y : ℤ) → edge.x0 ≢ edge.x1 → int_min edge.x0 edge.x1 ≤ℤ x → x ≤ℤ int_max edge.x0 edge.x1 → ((x -ℤ edge.x0) *ℤ (edge.y1 -ℤ edge.y0)) ≡ ((y -ℤ edge.y0) *ℤ (edge.x1 -ℤ edge.x0)) → Lies edge x y
lies edge x y apart above upto line =
    by_lt_z edge.x0 edge.x1
    (λ upwards. let bounds = bounds_up edge.x0 edge.x1 x upwards above upto in lies_up edge x y upwards bounds.0 bounds.1 line)
    (λ downwards. let bounds = bounds_down edge.x0 edge.x1 x downwards above upto in lies_down edge x y (strictly edge.x0 edge.x1 apart downwards) bounds.0 bounds.1 line)

-- a point of the one that is of the other too
common : (one other : Edge) (x y : ℤ) → Lies one x y → ((n : ℕ) (some : 0 < n) → IsOf other (whole_point n some x y)) → Meet one other
common one other x y lies of_other = (whole_point lies.n lies.some x y, lies.of_edge, of_other lies.n lies.some)

-- What holds of parallel edges on one line whose boxes meet.
pub record Along (one other : Edge) : Type 0 where
  pub parallel : whole one other ≡ pos 0
  pub of_one : part_of_one one other ≡ pos 0
  pub of_other : part_of_other one other ≡ pos 0
  pub boxes : BoxesMeet one other

-- what is none, turned round is none
none_back : (s t : Term) → value s ≡ pos 0 → more s + more t ≡ less s + less t → value t ≡ pos 0
none_back s t none round = let fact = same_of s (number (pos 0)) none in identity t (number (pos 0)) (omega (arith, fact))

abbrev cross_back : (a b c d e f g h : ℤ) → Term
cross_back a b c d e f g h = minus (times (minus (number a) (number b)) (minus (number c) (number d))) (times (minus (number e) (number f)) (minus (number g) (number h)))

pub along_comm : (one other : Edge) → Along one other → Along other one
along_comm one other along = record {
  parallel = none_back (cross_back one.x1 one.x0 other.y1 other.y0 one.y1 one.y0 other.x1 other.x0) (cross_back other.x1 other.x0 one.y1 one.y0 other.y1 other.y0 one.x1 one.x0) along.parallel (omega arith);
  of_one = none_back (cross_back other.x0 one.x0 one.y1 one.y0 other.y0 one.y0 one.x1 one.x0) (cross_back one.x0 other.x0 one.y1 one.y0 one.y0 other.y0 one.x1 one.x0) along.of_other (omega arith);
  of_other = none_back (cross_back other.x0 one.x0 other.y1 other.y0 other.y0 one.y0 other.x1 other.x0) (cross_back one.x0 other.x0 other.y1 other.y0 one.y0 other.y0 other.x1 other.x0) along.of_one (omega arith);
  boxes = record {
    x = record { first = along.boxes.x.second; second = along.boxes.x.first };
    y = record { first = along.boxes.y.second; second = along.boxes.y.first };
  };
}

-- an end of the one lies on the line of the other
pub start_on_line : (one other : Edge) → Along one other → ((one.x0 -ℤ other.x0) *ℤ (other.y1 -ℤ other.y0)) ≡ ((one.y0 -ℤ other.y0) *ℤ (other.x1 -ℤ other.x0))
start_on_line one other along =
    let of_one = same_of (crossing (from one.x0 other.x0) (from one.y0 other.y0) (from other.x0 other.x1) (from other.y0 other.y1)) (number (pos 0)) along.of_one in
    identity (times (from other.x0 one.x0) (from other.y0 other.y1)) (times (from other.y0 one.y0) (from other.x0 other.x1)) (omega (arith, of_one))

pub end_on_line : (one other : Edge) → Along one other → ((one.x1 -ℤ other.x0) *ℤ (other.y1 -ℤ other.y0)) ≡ ((one.y1 -ℤ other.y0) *ℤ (other.x1 -ℤ other.x0))
end_on_line one other along =
    let parallel = same_of (crossing (from one.x0 one.x1) (from one.y0 one.y1) (from other.x0 other.x1) (from other.y0 other.y1)) (number (pos 0)) along.parallel in
    let of_one = same_of (crossing (from one.x0 other.x0) (from one.y0 other.y0) (from other.x0 other.x1) (from other.y0 other.y1)) (number (pos 0)) along.of_one in
    identity (times (from other.x0 one.x1) (from other.y0 other.y1)) (times (from other.y0 one.y1) (from other.x0 other.x1)) (omega (arith, of_one, parallel))

-- where a number lies to a range
pub place : (z low high : ℤ) → ((low ≤ℤ z) × (z ≤ℤ high)) ⊎ ((z <ℤ low) ⊎ (high <ℤ z))
place z low high = by_lt_z z low (λ below. inr (inl below)) (λ above. by_lt_z high z (λ beyond. inr (inr beyond)) (λ upto. inl (above, upto)))

-- where both ends of a range lie outside another that it meets, it surrounds that
pub surrounded : (start end other_start other_end : ℤ) → (other_start <ℤ int_min start end) ⊎ (int_max start end <ℤ other_start) → (other_end <ℤ int_min start end) ⊎ (int_max start end <ℤ other_end) → RangesMeet start end other_start other_end → (other_start ≢ other_end) × (int_min other_start other_end ≤ℤ start) × (start ≤ℤ int_max other_start other_end)
surrounded start end other_start other_end first second meet = omega (arith, ints, clamps)

-- edges on one line whose boxes meet, the one of which isn't vertical, meet
meets_along_x : (one other : Edge) → one.x0 ≢ one.x1 → Along one other → Meet one other
meets_along_x one other apart along =
    let back = along_comm one other along in
    elim (place other.x0 (int_min one.x0 one.x1) (int_max one.x0 one.x1)) [
      | inl within ↦ common one other other.x0 other.y0 (lies one other.x0 other.y0 apart within.0 within.1 (start_on_line other one back)) (starts other)
      | inr outside ↦ elim (place other.x1 (int_min one.x0 one.x1) (int_max one.x0 one.x1)) [
        | inl within ↦ common one other other.x1 other.y1 (lies one other.x1 other.y1 apart within.0 within.1 (end_on_line other one back)) (ends other)
        | inr other_outside ↦
            let around = surrounded one.x0 one.x1 other.x0 other.x1 outside other_outside along.boxes.x in
            meet_comm other one (common other one one.x0 one.y0 (lies other one.x0 one.y0 around.0 around.1 around.2 (start_on_line one other along)) (starts one))
      ]
    ]

-- ---- the same where the one is vertical or a point: by turning the plane over, or by the other edge

-- the edge in a plane whose x and y have changed places
abbrev pub flipped : Edge → Edge
flipped edge = record { x0 = edge.y0; y0 = edge.x0; x1 = edge.y1; y1 = edge.x1 }

-- and a point there
abbrev pub over : RationalPoint → RationalPoint
over point = record { n = point.n; x = point.y; y = point.x; positive = point.positive }

pub of-flipped : (edge : Edge) (point : RationalPoint) → IsOf (flipped edge) point → IsOf edge (over point)
of-flipped edge point (a, at) = (a, record { share = at.share; x = at.y; y = at.x })

meet-flipped : (one other : Edge) → Meet (flipped one) (flipped other) → Meet one other
meet-flipped one other (point, of_one, of_other) = (over point, of-flipped one point of_one, of-flipped other point of_other)

pub along-flipped : (one other : Edge) → Along one other → Along (flipped one) (flipped other)
along-flipped one other along = record {
  parallel = none_back (cross_back one.x1 one.x0 other.y1 other.y0 one.y1 one.y0 other.x1 other.x0) (cross_back one.y1 one.y0 other.x1 other.x0 one.x1 one.x0 other.y1 other.y0) along.parallel (omega arith);
  of_one = none_back (cross_back other.x0 one.x0 other.y1 other.y0 other.y0 one.y0 other.x1 other.x0) (cross_back other.y0 one.y0 other.x1 other.x0 other.x0 one.x0 other.y1 other.y0) along.of_one (omega arith);
  of_other = none_back (cross_back other.x0 one.x0 one.y1 one.y0 other.y0 one.y0 one.x1 one.x0) (cross_back other.y0 one.y0 one.x1 one.x0 other.x0 one.x0 one.y1 one.y0) along.of_other (omega arith);
  boxes = record { x = along.boxes.y; y = along.boxes.x };
}

-- an edge that goes somewhere, along an edge that its box meets, meets it
meets_along_way : (one other : Edge) → (one.x0 ≢ one.x1) ⊎ (one.y0 ≢ one.y1) → Along one other → Meet one other
meets_along_way one other (inl apart) along = meets_along_x one other apart along
meets_along_way one other (inr apart) along = meet-flipped one other (meets_along_x (flipped one) (flipped other) apart (along-flipped one other along))

-- an edge goes somewhere, or it is a point
pub goes : (edge : Edge) → ((edge.x0 ≢ edge.x1) ⊎ (edge.y0 ≢ edge.y1)) ⊎ ((edge.x0 ≡ edge.x1) × (edge.y0 ≡ edge.y1))
goes edge = elim (same_or_apart edge.x0 edge.x1) [
  | inl same ↦ elim (same_or_apart edge.y0 edge.y1) [
    | inl level ↦ inr (same, level)
    | inr apart ↦ inl (inr apart)
  ]
  | inr apart ↦ inl (inl apart)
]

-- points whose boxes meet are one point
meets_points : (one other : Edge) → (one.x0 ≡ one.x1) × (one.y0 ≡ one.y1) → (other.x0 ≡ other.x1) × (other.y0 ≡ other.y1) → BoxesMeet one other → Meet one other
meets_points one other first second boxes =
    let of_one = starts one 1 (omega arith) in
    let of_other = starts other 1 (omega arith) in
    let x : one.x0 ≡ other.x0 = one_place one.x0 one.x1 other.x0 other.x1 first.0 second.0 boxes.x in
    let y : one.y0 ≡ other.y0 = one_place one.y0 one.y1 other.y0 other.y1 first.1 second.1 boxes.y in
    (whole_point 1 (omega arith) one.x0 one.y0, of_one, rw (x, y) of_other)

-- edges on one line whose boxes meet, meet
pub meet-of_along : (one other : Edge) → Along one other → Meet one other
meet-of_along one other along = elim (goes one) [
  | inl way ↦ meets_along_way one other way along
  | inr point ↦ elim (goes other) [
    | inl way ↦ meet_comm other one (meets_along_way other one way (along_comm one other along))
    | inr other_point ↦ meets_points one other point other_point along.boxes
  ]
]
