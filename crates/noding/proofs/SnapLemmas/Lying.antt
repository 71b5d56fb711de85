-- A whole point lies on an edge, or it doesn't.
use Rattle.std.proofs.Common.{arith, inl, inr, pos, ℤ, ◌*ℤ◌, ◌-ℤ◌, ◌≡◌, ◌≤ℤ◌, ◌⊎◌}
use Rattle.std.proofs.lemmas.Int.{by_lt_z, ints}
use Rattle.std.specs.Int.{int_max, int_min}
use Rattle.plane.specs.declared.edge.Edge.{Edge}
use Rattle.plane.specs.Meet.Boxes.{BoxesMeet, RangesMeet}
use Rattle.plane.specs.Meet.Crosses.{cross}
use Rattle.plane.specs.Meet.Edges.{RationalPoint}
use Rattle.plane.specs.Meet.Kinds.{HasPoint, IsAt}
use Rattle.plane.proofs.MeetLemmas.Along.{meet-of_along, same_or_apart}
use Rattle.plane.proofs.MeetLemmas.Boxes.{meet-boxes}
use Rattle.plane.proofs.MeetLemmas.Identities.{identity, minus, number, times}
use Rattle.plane.proofs.MeetLemmas.Kinds.{dot, has_point-of_meet, meet-of_has_point}
use Rattle.plane.proofs.MeetLemmas.Shares.{part_of_other, parts_of_meet, whole}
use Rattle.plane.proofs.MeetLemmas.Tests.{part_of_none}

upto_or_not : (a b : ℤ) → (a ≤ℤ b) ⊎ (¬ (a ≤ℤ b))
upto_or_not a b = by_lt_z b a (λ less. inr (λ upto. omega (arith, ints))) (λ upto. inl upto)

ranges_or_not : (start end other_start other_end : ℤ) → RangesMeet start end other_start other_end ⊎ (¬ (RangesMeet start end other_start other_end))
ranges_or_not start end other_start other_end =
    elim (upto_or_not (int_min start end) (int_max other_start other_end)) [
      | inr none ↦ inr (λ meet. none meet.first)
      | inl first ↦ elim (upto_or_not (int_min other_start other_end) (int_max start end)) [
        | inr none ↦ inr (λ meet. none meet.second)
        | inl second ↦ inl (record { first = first; second = second })
      ]
    ]

boxes_or_not : (one other : Edge) → BoxesMeet one other ⊎ (¬ (BoxesMeet one other))
boxes_or_not one other =
    elim (ranges_or_not one.x0 one.x1 other.x0 other.x1) [
      | inr none ↦ inr (λ meet. none meet.x)
      | inl x ↦ elim (ranges_or_not one.y0 one.y1 other.y0 other.y1) [
        | inr none ↦ inr (λ meet. none meet.y)
        | inl y ↦ inl (record { x = x; y = y })
      ]
    ]

-- a point is parallel to each edge
whole_of_dot : (ux uy x y : ℤ) → cross ux uy (x -ℤ x) (y -ℤ y) ≡ pos 0
whole_of_dot ux uy x y =
    identity (minus (times (number ux) (minus (number y) (number y))) (times (number uy) (minus (number x) (number x)))) (number (pos 0)) (omega arith)

pub has_point-or_not : (edge : Edge) (x y : ℤ) → HasPoint edge x y ⊎ (¬ (HasPoint edge x y))
has_point-or_not edge x y =
    let parallel : whole edge (dot x y) ≡ pos 0 = whole_of_dot (edge.x1 -ℤ edge.x0) (edge.y1 -ℤ edge.y0) x y in
    elim (same_or_apart (part_of_other edge (dot x y)) (pos 0)) [
      | inr apart ↦ inr (λ has. apart (part_of_none (part_of_other edge (dot x y)) (whole edge (dot x y)) parallel (parts_of_meet edge (dot x y) (meet-of_has_point edge x y has)).1))
      | inl none ↦ elim (boxes_or_not edge (dot x y)) [
        | inr far ↦ inr (λ has. far (meet-boxes edge (dot x y) (meet-of_has_point edge x y has)))
        | inl boxes ↦ inl (has_point-of_meet edge x y (meet-of_along edge (dot x y) (record {
          parallel = parallel;
          of_one = whole_of_dot (x -ℤ edge.x0) (y -ℤ edge.y0) x y;
          of_other = none;
          boxes = boxes;
        })))
      ]
    ]

-- a point is this whole one, or it isn't
pub at_or_not : (point : RationalPoint) (x y : ℤ) → IsAt point x y ⊎ (¬ (IsAt point x y))
at_or_not point x y =
    elim (same_or_apart point.x (pos point.n *ℤ x)) [
      | inr apart ↦ inr (λ at. apart at.x_is)
      | inl same_x ↦ elim (same_or_apart point.y (pos point.n *ℤ y)) [
        | inr apart ↦ inr (λ at. apart at.y_is)
        | inl same_y ↦ inl (record { x_is = same_x; y_is = same_y })
      ]
    ]
