-- Edges that don't cross, and of which no end is inside the other, meet only at common ends, or are the same.
use Rattle.std.proofs.Common.{ap, arith, inl, inr, pos, refl, subst, sym, ℕ, ℤ, ◌*ℤ◌, ◌+ℤ◌, ◌+◌, ◌-ℤ◌, ◌-◌, ◌<ℤ◌, ◌<◌, ◌∙◌, ◌≡◌, ◌≤◌, ◌⊎◌}
use Rattle.std.proofs.lemmas.Int.{by_lt_z, ints}
use Rattle.plane.specs.declared.edge.Edge.{Edge}
use Rattle.plane.specs.Meet.Crosses.{cross}
use Rattle.plane.specs.Meet.Edges.{IsAtShare, IsOf, RationalPoint}
use Rattle.plane.specs.Meet.Kinds.{HasPoint, IsAt, IsEnd as IsEndPoint}
use Rattle.noding.specs.Chains.{IsEnd, Passes}
use Rattle.noding.specs.Meeting.{MeetAtEnds}
use Rattle.plane.specs.Ends.{reversed}
use Rattle.noding.proofs.SnapLemmas.Hobby.Lines.{Common, Weights}
use Rattle.noding.proofs.SnapLemmas.Hobby.Moved.{mean_of}
use Rattle.noding.proofs.SnapLemmas.Hobby.Touches.{Flat, Lies, Touch, by_p1, by_p2, by_s1, by_s2, flat_back, touch_line}
use Rattle.noding.proofs.SnapLemmas.Hobby.Turns.{four}
use Rattle.noding.proofs.SnapLemmas.Hobby.Uncrossed.{piece-clear, pieces-uncrossed}
use Rattle.noding.proofs.SnapLemmas.Numbers.{double, n_of, negate, negate_back, negate_both, negate_times, negative, positive_by, side, way_from, way_to, zero_by, cross-exchanged}
use Rattle.noding.proofs.SnapLemmas.Pieces.{CrossProperly, CrossesLeft, HasCrossings, IsPiece, Share, left_of}
use Rattle.noding.proofs.SnapLemmas.Reversed.{left-reversed, reverse_along, IsOf-reversed}
use Rattle.plane.proofs.MeetLemmas.Identities.{Term, identity, minus, number, plus, same_of, times}

-- The ends of the other that are on the one are its ends.
pub record EndsOnly (one other : Edge) : Type 0 where
  pub from : HasPoint one other.x0 other.y0 → IsEnd one other.x0 other.y0
  pub to : HasPoint one other.x1 other.y1 → IsEnd one other.x1 other.y1

-- ---- reversed

-- the premises and the conclusion hold of reversed edges
pub reversed-on : (edge : Edge) (x y : ℤ) → HasPoint (reversed edge) x y → HasPoint edge x y
reversed-on edge x y (point, of, is) = (point, IsOf-reversed (reversed edge) point of, is)

reversed-end : (edge : Edge) (x y : ℤ) → IsEnd edge x y → IsEnd (reversed edge) x y
reversed-end edge x y (inl from) = inr from
reversed-end edge x y (inr to) = inl to

reversed-one : (one other : Edge) → EndsOnly one other → EndsOnly (reversed one) other
reversed-one one other only = record {
  from = λ on. reversed-end one other.x0 other.y0 (only.from (reversed-on one other.x0 other.y0 on));
  to = λ on. reversed-end one other.x1 other.y1 (only.to (reversed-on one other.x1 other.y1 on));
}

reversed-other : (one other : Edge) → EndsOnly one other → EndsOnly one (reversed other)
reversed-other one other only = record {
  from = only.to;
  to = only.from;
}

reversed-end_point : (edge : Edge) (point : RationalPoint) → IsEndPoint (reversed edge) point → IsEndPoint edge point
reversed-end_point edge point (inl from) = inr from
reversed-end_point edge point (inr to) = inl to

-- MeetAtEnds, with an edge reversed, and with the two exchanged
pub reverse_meet_one : (one other : Edge) (point : RationalPoint) → MeetAtEnds (reversed one) other point → MeetAtEnds one other point
reverse_meet_one one other point (inl (first, second)) = inl (reversed-end_point one point first, second)
reverse_meet_one one other point (inr (inl same)) = inr (inr (ap reversed same))
reverse_meet_one one other point (inr (inr same)) = inr (inl (ap reversed same))

pub reverse_meet_other : (one other : Edge) (point : RationalPoint) → MeetAtEnds one (reversed other) point → MeetAtEnds one other point
reverse_meet_other one other point (inl (first, second)) = inl (first, reversed-end_point other point second)
reverse_meet_other one other point (inr (inl same)) = inr (inr same)
reverse_meet_other one other point (inr (inr same)) = inr (inl same)

pub exchange_meet : (one other : Edge) (point : RationalPoint) → MeetAtEnds other one point → MeetAtEnds one other point
exchange_meet one other point (inl (first, second)) = inl (second, first)
exchange_meet one other point (inr (inl same)) = inr (inl (sym same))
exchange_meet one other point (inr (inr same)) = inr (inr (ap reversed (sym same)))

-- ---- a point that is an end of one of them

-- a point that is whole, where the whole point is an end
end_there : (edge : Edge) (point : RationalPoint) (x y : ℤ) → IsAt point x y → IsEnd edge x y → IsEndPoint edge point
end_there edge point x y whole (inl (is_x, is_y)) = inl (record {
  x_is = whole.x_is ∙ ap (λ z. pos point.n *ℤ z) is_x;
  y_is = whole.y_is ∙ ap (λ z. pos point.n *ℤ z) is_y;
})
end_there edge point x y whole (inr (is_x, is_y)) = inr (record {
  x_is = whole.x_is ∙ ap (λ z. pos point.n *ℤ z) is_x;
  y_is = whole.y_is ∙ ap (λ z. pos point.n *ℤ z) is_y;
})

-- an end of the other that is of the one is an end of it
end_of_other : (one other : Edge) (point : RationalPoint) → EndsOnly one other → IsOf one point → IsEndPoint other point → MeetAtEnds one other point
end_of_other one other point only of (inl whole) =
    inl (end_there one point other.x0 other.y0 whole (only.from (point, of, whole)), inl whole)
end_of_other one other point only of (inr whole) =
    inl (end_there one point other.x1 other.y1 whole (only.to (point, of, whole)), inr whole)

-- an edge whose ends are the same, at any share
point_along : (n a : ℕ) (p start end : ℤ) → p ≡ ((pos n *ℤ start) +ℤ (pos a *ℤ (end -ℤ start))) → start ≡ end → p ≡ (pos n *ℤ start)
point_along n a p start end is same =
    let there : p ≡ ((pos n *ℤ start) +ℤ (pos a *ℤ (start -ℤ start))) = is ∙ ap (λ z. (pos n *ℤ start) +ℤ (pos a *ℤ (z -ℤ start))) (sym same) in
    there ∙ identity (plus (times (n_of n) (number start)) (times (n_of a) (minus (number start) (number start)))) (times (n_of n) (number start)) (omega arith)

-- a point at the share 0, and at the whole share
start_along : (n a : ℕ) (p start end : ℤ) → p ≡ ((pos n *ℤ start) +ℤ (pos a *ℤ (end -ℤ start))) → a ≡ 0 → p ≡ (pos n *ℤ start)
start_along n a p start end is none =
    let there : p ≡ ((pos n *ℤ start) +ℤ (pos 0 *ℤ (end -ℤ start))) = is ∙ ap (λ z. (pos n *ℤ start) +ℤ (pos z *ℤ (end -ℤ start))) none in
    there ∙ identity (plus (times (n_of n) (number start)) (times (n_of 0) (minus (number end) (number start)))) (times (n_of n) (number start)) (omega arith)

end_along : (n a : ℕ) (p start end : ℤ) → p ≡ ((pos n *ℤ start) +ℤ (pos a *ℤ (end -ℤ start))) → a ≡ n → p ≡ (pos n *ℤ end)
end_along n a p start end is all =
    let there : p ≡ ((pos n *ℤ start) +ℤ (pos n *ℤ (end -ℤ start))) = is ∙ ap (λ z. (pos n *ℤ start) +ℤ (pos z *ℤ (end -ℤ start))) all in
    there ∙ identity (plus (times (n_of n) (number start)) (times (n_of n) (minus (number end) (number start)))) (times (n_of n) (number end)) (omega arith)

-- ---- both go on from a common end, through the point

-- the one's way is b of a parts of the other's
reach : (n a b : ℕ) (p start end other_end : ℤ) → p ≡ ((pos n *ℤ start) +ℤ (pos a *ℤ (end -ℤ start))) → p ≡ ((pos n *ℤ start) +ℤ (pos b *ℤ (other_end -ℤ start))) → (pos a *ℤ end) ≡ ((pos a *ℤ start) +ℤ (pos b *ℤ (other_end -ℤ start)))
reach n a b p start end other_end first second =
    let at : ℕ → ℤ → Term = λ k e. plus (times (n_of n) (number start)) (times (n_of k) (minus (number e) (number start))) in
    let fact = same_of (at a end) (at b other_end) (sym first ∙ second) in
    identity (times (n_of a) (number end)) (plus (times (n_of a) (number start)) (times (n_of b) (minus (number other_end) (number start)))) (omega (arith, fact))

-- edges with the same coordinates are one
pub edges-same : (one other : Edge) → one.x0 ≡ other.x0 → one.y0 ≡ other.y0 → one.x1 ≡ other.x1 → one.y1 ≡ other.y1 → one ≡ other
edges-same one other x0 y0 x1 y1 =
    let edge : ℤ → ℤ → ℤ → ℤ → Edge = λ a b c d. record {
      x0 = a;
      y0 = b;
      x1 = c;
      y1 = d;
    } in
    ap (λ a. edge a one.y0 one.x1 one.y1) x0 ∙ ap (λ b. edge other.x0 b one.x1 one.y1) y0 ∙ ap (λ c. edge other.x0 other.y0 c one.y1) x1 ∙ ap (λ d. edge other.x0 other.y0 other.x1 d) y1

-- where the one isn't longer, and the other starts where it starts
from_common_shorter : (one other : Edge) (point : RationalPoint) (a b : ℕ) → EndsOnly one other → EndsOnly other one → other.x0 ≡ one.x0 → other.y0 ≡ one.y0 → IsAtShare one point a → IsAtShare other point b → 0 < a → b ≤ a → MeetAtEnds one other point
from_common_shorter one other point a b only only_back same_x same_y first second some shorter =
    let second_x : point.x ≡ ((pos point.n *ℤ one.x0) +ℤ (pos b *ℤ (other.x1 -ℤ one.x0))) = subst (λ (z : ℤ). point.x ≡ ((pos point.n *ℤ z) +ℤ (pos b *ℤ (other.x1 -ℤ z)))) same_x second.x in
    let second_y : point.y ≡ ((pos point.n *ℤ one.y0) +ℤ (pos b *ℤ (other.y1 -ℤ one.y0))) = subst (λ (z : ℤ). point.y ≡ ((pos point.n *ℤ z) +ℤ (pos b *ℤ (other.y1 -ℤ z)))) same_y second.y in
    let x = reach point.n a b point.x one.x0 one.x1 other.x1 first.x second_x in
    let y = reach point.n a b point.y one.y0 one.y1 other.y1 first.y second_y in
    let there : RationalPoint = record {
      n = a;
      x = pos a *ℤ one.x1;
      y = pos a *ℤ one.y1;
      positive = some;
    } in
    let of_other : IsOf other there = (
      b,
      record {
        share = shorter;
        x = subst (λ (z : ℤ). (pos a *ℤ one.x1) ≡ ((pos a *ℤ z) +ℤ (pos b *ℤ (other.x1 -ℤ z)))) (sym same_x) x;
        y = subst (λ (z : ℤ). (pos a *ℤ one.y1) ≡ ((pos a *ℤ z) +ℤ (pos b *ℤ (other.y1 -ℤ z)))) (sym same_y) y;
      },
    ) in
    let whole : IsAt there one.x1 one.y1 = record {
      x_is = refl;
      y_is = refl;
    } in
    elim (only_back.to (there, of_other, whole)) [
      | inl (is_x, is_y) ↦ exchange_meet one other point (end_of_other other one point only_back (b, second) (inl (record {
        x_is = point_along point.n a point.x one.x0 one.x1 first.x (sym (is_x ∙ same_x));
        y_is = point_along point.n a point.y one.y0 one.y1 first.y (sym (is_y ∙ same_y));
      })))
      | inr (is_x, is_y) ↦ inr (inl (edges-same one other (sym same_x) (sym same_y) is_x is_y))
    ]

-- whichever is shorter
from_common : (one other : Edge) (point : RationalPoint) (a b : ℕ) → EndsOnly one other → EndsOnly other one → other.x0 ≡ one.x0 → other.y0 ≡ one.y0 → IsAtShare one point a → IsAtShare other point b → 0 < a → 0 < b → MeetAtEnds one other point
from_common one other point a b only only_back same_x same_y first second some other_some =
    by_lt_z (pos a) (pos b)
    (λ shorter. exchange_meet one other point (from_common_shorter other one point b a only_back only (sym same_x) (sym same_y) second first other_some (omega (arith, ints, shorter))))
    (λ longer. from_common_shorter one other point a b only only_back same_x same_y first second some (omega (arith, ints, longer)))

-- ---- the point is inside both

-- It is of the edge, and neither end.
record Inside (edge : Edge) (point : RationalPoint) : Type 0 where
  a : ℕ
  at : IsAtShare edge point a
  from : 0 < a
  upto : a < point.n

reversed-inside : (edge : Edge) (point : RationalPoint) → Inside edge point → Inside (reversed edge) point
reversed-inside edge point inside =
    let some = inside.from in
    let less = inside.upto in record {
      a = point.n - inside.a;
      at = record {
        share = omega arith;
        x = reverse_along point.n inside.a (point.n - inside.a) point.x edge.x0 edge.x1 (omega arith) inside.at.x;
        y = reverse_along point.n inside.a (point.n - inside.a) point.y edge.y0 edge.y1 (omega arith) inside.at.y;
      };
      from = omega arith;
      upto = omega arith;
    }

-- where an end of the other is one of the one, both go on from it
from_end : (one other : Edge) (point : RationalPoint) → EndsOnly one other → EndsOnly other one → Inside one point → Inside other point → IsEnd one other.x0 other.y0 → MeetAtEnds one other point
from_end one other point only only_back first second (inl (is_x, is_y)) =
    from_common one other point first.a second.a only only_back is_x is_y first.at second.at first.from second.from
from_end one other point only only_back first second (inr (is_x, is_y)) =
    let back = reversed-inside one point first in
    reverse_meet_one one other point (from_common (reversed one) other point back.a second.a (reversed-one one other only) (reversed-other other one only_back) is_x is_y back.at second.at back.from second.from)

on_along : (b a : ℕ) (c start end : ℤ) → (pos (b + a) *ℤ c) ≡ ((pos b *ℤ start) +ℤ (pos a *ℤ end)) → (pos (b + a) *ℤ c) ≡ ((pos (b + a) *ℤ start) +ℤ (pos a *ℤ (end -ℤ start)))
on_along b a c start end is =
    is ∙ identity (plus (times (n_of b) (number start)) (times (n_of a) (number end))) (plus (times (n_of (b + a)) (number start)) (times (n_of a) (minus (number end) (number start)))) (omega arith)

-- a touch, as a point of an edge
on_lies : (edge : Edge) (x y : ℤ) → Lies edge.x0 edge.y0 edge.x1 edge.y1 x y → HasPoint edge x y
on_lies edge x y lies =
    let mean = mean_of edge.x0 edge.y0 edge.x1 edge.y1 x y lies in
    let point : RationalPoint = record {
      n = mean.b + mean.a;
      x = pos (mean.b + mean.a) *ℤ x;
      y = pos (mean.b + mean.a) *ℤ y;
      positive = mean.some;
    } in (
      point,
      (
        mean.a,
        record {
          share = omega arith;
          x = on_along mean.b mean.a x edge.x0 edge.x1 mean.along_x;
          y = on_along mean.b mean.a y edge.y0 edge.y1 mean.along_y;
        },
      ),
      record {
        x_is = refl;
        y_is = refl;
      },
    )

-- a touch makes a common end
from_touch : (one other : Edge) (point : RationalPoint) → EndsOnly one other → EndsOnly other one → Inside one point → Inside other point → Touch (four one.x0 one.x1 other.x0 other.x1) (four one.y0 one.y1 other.y0 other.y1) → MeetAtEnds one other point
from_touch one other point only only_back first second (by_s1 lies) =
    from_end one other point only only_back first second (only.from (on_lies one other.x0 other.y0 lies))
from_touch one other point only only_back first second (by_s2 lies) =
    reverse_meet_other one other point (from_end one (reversed other) point (reversed-other one other only) (reversed-one other one only_back) first (reversed-inside other point second) (only.to (on_lies one other.x1 other.y1 lies)))
from_touch one other point only only_back first second (by_p1 lies) =
    exchange_meet one other point (from_end other one point only_back only second first (only_back.from (on_lies other one.x0 one.y0 lies)))
from_touch one other point only only_back first second (by_p2 lies) =
    exchange_meet one other point (reverse_meet_other other one point (from_end other (reversed one) point (reversed-other other one only_back) (reversed-one one other only) second (reversed-inside one point first) (only_back.to (on_lies other one.x1 one.y1 lies))))

-- ---- the sides of the ends, by the shares

-- the cross product of the edges' ways
abbrev apart : Edge → Edge → ℤ
apart one other = cross (one.x1 -ℤ one.x0) (one.y1 -ℤ one.y0) (other.x1 -ℤ other.x0) (other.y1 -ℤ other.y0)

-- which side of the one the other's ends are on, by the shares
side_from : (one other : Edge) (point : RationalPoint) (first : Inside one point) (second : Inside other point) → (pos point.n *ℤ left_of one other.x0 other.y0) ≡ ((pos 0 -ℤ pos second.a) *ℤ apart one other)
side_from one other point first second =
    side point.n (pos first.a) (pos 0 -ℤ pos second.a) (one.x1 -ℤ one.x0) (one.y1 -ℤ one.y0) (other.x1 -ℤ other.x0) (other.y1 -ℤ other.y0) (other.x0 -ℤ one.x0) (other.y0 -ℤ one.y0)
    (way_from point.n first.a second.a point.x one.x0 one.x1 other.x0 other.x1 first.at.x second.at.x)
    (way_from point.n first.a second.a point.y one.y0 one.y1 other.y0 other.y1 first.at.y second.at.y)

side_to : (one other : Edge) (point : RationalPoint) (first : Inside one point) (second : Inside other point) → (pos point.n *ℤ left_of one other.x1 other.y1) ≡ ((pos point.n -ℤ pos second.a) *ℤ apart one other)
side_to one other point first second =
    side point.n (pos first.a) (pos point.n -ℤ pos second.a) (one.x1 -ℤ one.x0) (one.y1 -ℤ one.y0) (other.x1 -ℤ other.x0) (other.y1 -ℤ other.y0) (other.x1 -ℤ one.x0) (other.y1 -ℤ one.y0)
    (way_to point.n first.a second.a point.x one.x0 one.x1 other.x0 other.x1 first.at.x second.at.x)
    (way_to point.n first.a second.a point.y one.y0 one.y1 other.y0 other.y1 first.at.y second.at.y)

apart_back : (one other : Edge) → apart other one ≡ (pos 0 -ℤ apart one other)
apart_back one other = cross-exchanged (one.x1 -ℤ one.x0) (one.y1 -ℤ one.y0) (other.x1 -ℤ other.x0) (other.y1 -ℤ other.y0)

-- What the shares say of the four sides, times n: each is a positive part of d.
record Parts (one other : Edge) (n : ℕ) (d : ℤ) : Type 0 where
  ka : ℤ
  kb : ℤ
  kc : ℤ
  kd : ℤ
  some_a : pos 0 <ℤ ka
  some_b : pos 0 <ℤ kb
  some_c : pos 0 <ℤ kc
  some_d : pos 0 <ℤ kd
  from : (pos n *ℤ (pos 0 -ℤ left_of one other.x0 other.y0)) ≡ (ka *ℤ d)
  to : (pos n *ℤ left_of one other.x1 other.y1) ≡ (kb *ℤ d)
  back_from : (pos n *ℤ left_of other one.x0 one.y0) ≡ (kc *ℤ d)
  back_to : (pos n *ℤ (pos 0 -ℤ left_of other one.x1 one.y1)) ≡ (kd *ℤ d)

-- by the shares of the common point
parts : (one other : Edge) (point : RationalPoint) (first : Inside one point) (second : Inside other point) → Parts one other point.n (apart one other)
parts one other point first second =
    let d = apart one other in
    let a_from = first.from in
    let a_upto = first.upto in
    let b_from = second.from in
    let b_upto = second.upto in
    let turned = apart_back one other in record {
      ka = pos second.a;
      kb = pos point.n -ℤ pos second.a;
      kc = pos first.a;
      kd = pos point.n -ℤ pos first.a;
      some_a = omega (arith, ints, b_from);
      some_b = omega (arith, ints, b_upto);
      some_c = omega (arith, ints, a_from);
      some_d = omega (arith, ints, a_upto);
      from = negate_times point.n (left_of one other.x0 other.y0) (pos second.a) d (side_from one other point first second);
      to = side_to one other point first second;
      back_from = negate_both point.n (left_of other one.x0 one.y0) (pos first.a) d (side_from other one point second first ∙ ap (λ z. (pos 0 -ℤ pos first.a) *ℤ z) turned);
      back_to = negate_back point.n (left_of other one.x1 one.y1) (pos point.n -ℤ pos first.a) d (side_to other one point second first ∙ ap (λ z. (pos point.n -ℤ pos first.a) *ℤ z) turned);
    }

-- where the ways aren't parallel they cross properly
crosses_left : (one other : Edge) (n : ℕ) (d : ℤ) → pos 0 <ℤ d → Parts one other n d → CrossesLeft one other
crosses_left one other n d some by = record {
  from = negative (left_of one other.x0 other.y0) (positive_by n (pos 0 -ℤ left_of one other.x0 other.y0) by.ka d by.from by.some_a some);
  to = positive_by n (left_of one other.x1 other.y1) by.kb d by.to by.some_b some;
  back_from = positive_by n (left_of other one.x0 one.y0) by.kc d by.back_from by.some_c some;
  back_to = negative (left_of other one.x1 one.y1) (positive_by n (pos 0 -ℤ left_of other one.x1 one.y1) by.kd d by.back_to by.some_d some);
}

crosses_right : (one other : Edge) (n : ℕ) (d : ℤ) → d <ℤ pos 0 → Parts one other n d → CrossesLeft one (reversed other)
crosses_right one other n d below by =
    let back : ℤ = pos 0 -ℤ d in
    let some : pos 0 <ℤ (pos 0 -ℤ d) = omega (arith, ints) in
    let l1 = left_of one other.x0 other.y0 in
    let l2 = left_of one other.x1 other.y1 in
    let l3 = left_of other one.x0 one.y0 in
    let l4 = left_of other one.x1 one.y1 in
    let above1 = double l1 (positive_by n (pos 0 -ℤ (pos 0 -ℤ l1)) by.ka (pos 0 -ℤ d) (negate n (pos 0 -ℤ l1) by.ka d by.from) by.some_a some) in
    let below2 = negative l2 (positive_by n (pos 0 -ℤ l2) by.kb (pos 0 -ℤ d) (negate n l2 by.kb d by.to) by.some_b some) in
    let below3 = positive_by n (pos 0 -ℤ l3) by.kc (pos 0 -ℤ d) (negate n l3 by.kc d by.back_from) by.some_c some in
    let above4 = positive_by n (pos 0 -ℤ (pos 0 -ℤ l4)) by.kd (pos 0 -ℤ d) (negate n (pos 0 -ℤ l4) by.kd d by.back_to) by.some_d some in record {
      from = below2;
      to = above1;
      back_from = rw (left-reversed other one.x0 one.y0) below3;
      back_to = negative (left_of (reversed other) one.x1 one.y1) (rw (left-reversed other one.x1 one.y1) above4);
    }

-- where they are, all ends are along one line
flat_by : (one other : Edge) (n : ℕ) (d : ℤ) → 0 < n → d ≡ pos 0 → Parts one other n d → Flat (four one.x0 one.x1 other.x0 other.x1) (four one.y0 one.y1 other.y0 other.y1)
flat_by one other n d some none by =
    let l1 = left_of one other.x0 other.y0 in
    let l2 = left_of one other.x1 other.y1 in
    let l3 = left_of other one.x0 one.y0 in
    let l4 = left_of other one.x1 one.y1 in
    let z1 = zero_by n (pos 0 -ℤ l1) by.ka d some by.from none in
    let z4 = zero_by n (pos 0 -ℤ l4) by.kd d some by.back_to none in
    let f1 : l1 ≡ pos 0 = omega (arith, ints, z1) in
    let f4 : l4 ≡ pos 0 = omega (arith, ints, z4) in record {
      flat1 = flat_back (one.x1 -ℤ one.x0) (one.y1 -ℤ one.y0) (other.x0 -ℤ one.x0) (other.y0 -ℤ one.y0) f1;
      flat2 = zero_by n l2 by.kb d some by.to none;
      flat3 = zero_by n l3 by.kc d some by.back_from none;
      flat4 = flat_back (other.x1 -ℤ other.x0) (other.y1 -ℤ other.y0) (one.x1 -ℤ other.x0) (one.y1 -ℤ other.y0) f4;
    }

-- the common point, as a mean of each edge's ends
common_along : (n a b : ℕ) (p c0 c1 d0 d1 : ℤ) → p ≡ ((pos n *ℤ c0) +ℤ (pos a *ℤ (c1 -ℤ c0))) → p ≡ ((pos n *ℤ d0) +ℤ (pos b *ℤ (d1 -ℤ d0))) → Common (pos b) (pos n -ℤ pos b) (pos a) (pos n -ℤ pos a) c0 c1 d0 d1
common_along n a b p c0 c1 d0 d1 first second =
    let at : ℕ → ℤ → ℤ → Term = λ s z0 z1. plus (times (n_of n) (number z0)) (times (n_of s) (minus (number z1) (number z0))) in
    let fact = same_of (at a c0 c1) (at b d0 d1) (sym first ∙ second) in
    record {
      same =
          identity (plus (times (minus (n_of n) (n_of a)) (number c0)) (times (n_of a) (number c1)))
          (plus (times (minus (n_of n) (n_of b)) (number d0)) (times (n_of b) (number d1)))
          (omega (arith, fact));
    }

weights_by : (n a b : ℕ) → 0 < a → a < n → 0 < b → b < n → Weights (pos b) (pos n -ℤ pos b) (pos a) (pos n -ℤ pos a)
weights_by n a b a_from a_upto b_from b_upto = record {
  some1 = omega (arith, ints);
  some2 = omega (arith, ints);
  some3 = omega (arith, ints);
  some4 = omega (arith, ints);
  whole = omega (arith, ints);
}

-- a point inside both, of edges that don't cross properly
inside_both : (one other : Edge) (point : RationalPoint) → EndsOnly one other → EndsOnly other one → (CrossProperly one other → ⊥) → Inside one point → Inside other point → MeetAtEnds one other point
inside_both one other point only only_back uncrossed first second =
    let d = apart one other in
    let by = parts one other point first second in
    by_lt_z (pos 0) d
    (λ up. absurd (uncrossed (inl (crosses_left one other point.n d up by))))
    (λ upto. by_lt_z d (pos 0)
    (λ down. absurd (uncrossed (inr (crosses_right one other point.n d down by))))
    (λ from.
    let flat = flat_by one other point.n d point.positive (omega (arith, ints)) by in
    let weights = weights_by point.n first.a second.a first.from first.upto second.from second.upto in
    from_touch one other point only only_back first second (touch_line (pos second.a) (pos point.n -ℤ pos second.a) (pos first.a) (pos point.n -ℤ pos first.a) (four one.x0 one.x1 other.x0 other.x1) (four one.y0 one.y1 other.y0 other.y1) weights
    (common_along point.n first.a second.a point.x one.x0 one.x1 other.x0 other.x1 first.at.x second.at.x)
    (common_along point.n first.a second.a point.y one.y0 one.y1 other.y0 other.y1 first.at.y second.at.y)
    flat)))

-- ---- any common point

-- a point of an edge is an end or inside
end_or : (edge : Edge) (point : RationalPoint) → IsOf edge point → IsEndPoint edge point ⊎ Inside edge point
end_or edge point (a, at) =
    by_lt_z (pos 0) (pos a)
    (λ some. by_lt_z (pos a) (pos point.n)
    (λ less. inr (record {
      a = a;
      at = at;
      from = omega (arith, ints, some);
      upto = omega (arith, ints, less);
    }))
    (λ whole.
    let share = at.share in
    let is : a ≡ point.n = omega (arith, ints, whole) in inl (inr (record {
      x_is = end_along point.n a point.x edge.x0 edge.x1 at.x is;
      y_is = end_along point.n a point.y edge.y0 edge.y1 at.y is;
    }))))
    (λ none.
    let is : a ≡ 0 = omega (arith, ints, none) in inl (inl (record {
      x_is = start_along point.n a point.x edge.x0 edge.x1 at.x is;
      y_is = start_along point.n a point.y edge.y0 edge.y1 at.y is;
    })))

-- any common point
pub meet-at_ends : (one other : Edge) (point : RationalPoint) → EndsOnly one other → EndsOnly other one → (CrossProperly one other → ⊥) → IsOf one point → IsOf other point → MeetAtEnds one other point
meet-at_ends one other point only only_back uncrossed of_one of_other =
    elim (end_or one point of_one) [
      | inl end ↦ exchange_meet one other point (end_of_other other one point only_back of_other end)
      | inr first ↦ elim (end_or other point of_other) [
        | inl end ↦ end_of_other one other point only of_one end
        | inr second ↦ inside_both one other point only only_back uncrossed first second
      ]
    ]

-- ---- pieces

-- a hot point on a piece is an end of it, so each end of another piece
pieces_ends : (hot other_hot : ℤ → ℤ → Type 0) (edge other piece other_piece : Edge) → IsPiece hot edge piece → IsPiece other_hot other other_piece → ((x y : ℤ) → other_hot x y → Passes edge x y → hot x y) → EndsOnly piece other_piece
pieces_ends hot other_hot edge other piece other_piece first second here = record {
  from = λ on. piece-clear hot edge piece other_piece.x0 other_piece.y0 first (here other_piece.x0 other_piece.y0 second.from_hot) on;
  to = λ on. piece-clear hot edge piece other_piece.x1 other_piece.y1 first (here other_piece.x1 other_piece.y1 second.to_hot) on;
}

-- the theorem: two pieces meet only at common ends, or are the same
pub pieces-meet : (hot other_hot : ℤ → ℤ → Type 0) (edge other piece other_piece : Edge) (point : RationalPoint) → IsPiece hot edge piece → IsPiece other_hot other other_piece → HasCrossings hot edge other → Share hot other_hot edge other → IsOf piece point → IsOf other_piece point → MeetAtEnds piece other_piece point
pieces-meet hot other_hot edge other piece other_piece point first second crossings share of_one of_other =
    meet-at_ends piece other_piece point (pieces_ends hot other_hot edge other piece other_piece first second share.here) (pieces_ends other_hot hot other edge other_piece piece second first share.there)
    (pieces-uncrossed hot other_hot edge other piece other_piece first second crossings share)
    of_one of_other
