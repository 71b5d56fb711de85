-- Edges at twice their places: they meet as the edges do.
use Rattle.std.proofs.Common.{◌≡◌, inl, inr, ◌*◌, [], ◌∷◌, ℕ, suc, zero, ℤ, pos, ◌+ℤ◌, ◌-ℤ◌, ◌*ℤ◌, List, Some, map, ap, subst, ◌∙◌, arith}
use Rattle.std.specs.List.{Contains, slice_get}
use Rattle.i_tree.proofs.RootLemmas.Lists.{Contains-here, Contains-there}
use Rattle.plane.specs.declared.edge.Edge.{Edge}
use Rattle.plane.specs.Meet.Edges.{RationalPoint, IsOf}
use Rattle.plane.specs.Meet.Kinds.{IsEnd}
use Rattle.plane.specs.SweepLine.Crossings.{Cross, IsCrossing}
use Rattle.plane.proofs.MeetLemmas.Identities.{identity, minus, number, plus, times}
use Rattle.overlay.specs.Fill.Filled.{AreNoded}
use Rattle.noding.specs.Meeting.{MeetAtEnds}
use Rattle.overlay.proofs.FillLemmas.Level.{MeetOnly}
use Rattle.overlay.proofs.FillLemmas.Uncrossed.{uncrossed}
use Rattle.noding.proofs.SnapLemmas.Numbers.{n_of}
use Rattle.uses.specs.Roads.{double}

-- the point at half its place
abbrev half : RationalPoint → RationalPoint
half point = record {
  n = point.n * 2;
  x = point.x;
  y = point.y;
  positive = let some = point.positive in omega (arith, some);
}

-- a share of the doubled edge on one axis, and of the edge
halved : (n a : ℕ) (p start end : ℤ) → p ≡ ((pos n *ℤ (start +ℤ start)) +ℤ (pos a *ℤ ((end +ℤ end) -ℤ (start +ℤ start)))) → p ≡ ((pos (n * 2) *ℤ start) +ℤ (pos (a * 2) *ℤ (end -ℤ start)))
halved n a p start end is =
    is
    ∙ identity (plus (times (n_of n) (plus (number start) (number start))) (times (n_of a) (minus (plus (number end) (number end)) (plus (number start) (number start)))))
    (plus (times (n_of (n * 2)) (number start)) (times (n_of (a * 2)) (minus (number end) (number start)))) (omega arith)

IsOf-half : (edge : Edge) (point : RationalPoint) → IsOf (double edge) point → IsOf edge (half point)
IsOf-half edge point (a, at) =
    let share = at.share in (
      a * 2,
      record { share = omega (arith, share); x = halved point.n a point.x edge.x0 edge.x1 at.x; y = halved point.n a point.y edge.y0 edge.y1 at.y },
    )

-- an end on one axis
whole : (n : ℕ) (p z : ℤ) → p ≡ (pos (n * 2) *ℤ z) → p ≡ (pos n *ℤ (z +ℤ z))
whole n p z is = is ∙ identity (times (n_of (n * 2)) (number z)) (times (n_of n) (plus (number z) (number z))) (omega arith)

IsEnd-double : (edge : Edge) (point : RationalPoint) → IsEnd edge (half point) → IsEnd (double edge) point
IsEnd-double edge point (inl at) = inl (record { x_is = whole point.n point.x edge.x0 at.x_is; y_is = whole point.n point.y edge.y0 at.y_is })
IsEnd-double edge point (inr at) = inr (record { x_is = whole point.n point.x edge.x1 at.x_is; y_is = whole point.n point.y edge.y1 at.y_is })

MeetAtEnds-double : (one other : Edge) (point : RationalPoint) → MeetAtEnds one other (half point) → MeetAtEnds (double one) (double other) point
MeetAtEnds-double one other point (inl (end, end_too)) = inl (IsEnd-double one point end, IsEnd-double other point end_too)
MeetAtEnds-double one other point (inr (inl same)) = inr (inl (ap double same))
MeetAtEnds-double one other point (inr (inr back)) = inr (inr (ap double back))

-- the edge at a place of the doubled ones
doubled-at : (edges : List Edge) (i : ℕ) (one : Edge) → slice_get (map double edges) i ≡ Some one → (edge : Edge) × Contains edges edge × (double edge ≡ one)
doubled-at [] i one is = absurd (let none : ⊥ = cc in none)
doubled-at (edge ∷ edges) zero one is = (edge, Contains-here edge edges, cc)
doubled-at (edge ∷ edges) (suc i) one is = let (found, among, same) = doubled-at edges i one is in (found, Contains-there edge edges found among, same)

-- Where edges meet only at common ends, no two of them cross at twice their places.
pub none-crosses : (edges : List Edge) → AreNoded edges → (i j : ℕ) → IsCrossing (map double edges) i j → ⊥
none-crosses edges noded i j crossing =
    let (one, first, is) = doubled-at edges i crossing.one crossing.first in
    let (other, second, is_too) = doubled-at edges j crossing.other crossing.second in
    let cross : Cross crossing.one crossing.other = crossing.cross in
    uncrossed crossing.one crossing.other
    (subst (λ (e : Edge). MeetOnly e crossing.other) is (subst (λ (e : Edge). MeetOnly (double one) e) is_too
    (λ point of of_other. MeetAtEnds-double one other point (noded one other (half point) first second (IsOf-half one point of) (IsOf-half other point of_other)))))
    cross
