-- Edges that meet only at common ends, and of which no two have the same ends, touch wherever they meet.
use Rattle.std.proofs.Common.{◌≡◌, inl, inr, ℕ, ℤ, pos, ◌*ℤ◌, false, List, Some, ap, ap₂, sym, subst₂, ◌∙◌}
use Rattle.std.specs.List.{Contains, slice_get}
use Rattle.std.proofs.lemmas.Option.{get_or_from_slice_get, slice_get_within}
use Rattle.plane.specs.declared.edge.Edge.{Edge}
use Rattle.plane.specs.declared.meet.kinds.Meeting.TheVariants.{Touch}
use Rattle.plane.specs.Ends.{edge_between, end_of, start_of}
use Rattle.plane.specs.Meet.Edges.{IsOf, Meet, RationalPoint}
use Rattle.plane.specs.Meet.Kinds.{AreSame, IsAt, IsEnd, MeetSo}
use Rattle.noding.specs.Meeting.{MeetAtEnds}
use Rattle.overlay.specs.Fill.Filled.{AreDistinct, AreNoded, HaveSameEnds}
use Rattle.overlay.proofs.UncrossedLemmas.Finer.{one-point}
use Rattle.validity.specs.Meeting.{AllMayMeet}
use Rattle.validity.proofs.Meetings.{swapped}

-- one whole point at two places is one point
same-whole : (first second : RationalPoint) (x y : ℤ) → IsAt first x y → IsAt second x y → AreSame first second
same-whole first second x y at there = record {
  x = ap (λ (z : ℤ). pos second.n *ℤ z) at.x_is ∙ swapped second.n first.n x ∙ ap (λ (z : ℤ). pos first.n *ℤ z) (sym there.x_is);
  y = ap (λ (z : ℤ). pos second.n *ℤ z) at.y_is ∙ swapped second.n first.n y ∙ ap (λ (z : ℤ). pos first.n *ℤ z) (sym there.y_is);
}

module _ (one other : Edge) (apart : ¬ (HaveSameEnds one other)) where
  -- where the one starts and where it ends aren't both ends of the other
  across : {P : Type 0} (first second : RationalPoint) → (IsAt first other.x0 other.y0 → IsAt second other.x0 other.y0 → P) → (IsAt first other.x1 other.y1 → IsAt second other.x1 other.y1 → P)
      → IsAt first one.x0 one.y0 → IsAt second one.x1 one.y1 → IsEnd other first → IsEnd other second → P
  across first second starts ends start end (inl a) (inl b) = starts a b
  across first second starts ends start end (inr a) (inr b) = ends a b
  across first second starts ends start end (inl a) (inr b) =
      absurd (apart (inl (ap₂ edge_between (one-point first (start_of one) (start_of other) start a) (one-point second (end_of one) (end_of other) end b))))
  across first second starts ends start end (inr a) (inl b) =
      absurd (apart (inr (ap₂ edge_between (one-point first (start_of one) (end_of other) start a) (one-point second (end_of one) (start_of other) end b))))

  -- so two common ends are one
  same-ends : (first second : RationalPoint) → IsEnd one first × IsEnd other first → IsEnd one second × IsEnd other second → AreSame first second
  same-ends first second (inl a, at) (inl b, there) = same-whole first second one.x0 one.y0 a b
  same-ends first second (inr a, at) (inr b, there) = same-whole first second one.x1 one.y1 a b
  same-ends first second (inl a, at) (inr b, there) =
      across {P = AreSame first second} first second (λ c d. same-whole first second other.x0 other.y0 c d) (λ c d. same-whole first second other.x1 other.y1 c d) a b at there
  same-ends first second (inr a, at) (inl b, there) =
      across {P = AreSame first second} second first (λ c d. same-whole first second other.x0 other.y0 d c) (λ c d. same-whole first second other.x1 other.y1 d c) b a there at

  common : (point : RationalPoint) → MeetAtEnds one other point → IsEnd one point × IsEnd other point
  common point (inl ends) = ends
  common point (inr same) = absurd (apart same)

  pub touch-made : ((point : RationalPoint) → IsOf one point → IsOf other point → MeetAtEnds one other point) → Meet one other → MeetSo one other Touch
  touch-made noded (point, of_one, of_other) = (
    point,
    (of_one, of_other),
    λ first second (a, b) (c, d). same-ends first second (common first (noded first a b)) (common second (noded second c d)),
    inl (common point (noded point of_one of_other)).0,
  )

-- ---- edges at two places

held-at : (edges : List Edge) (k : ℕ) (edge : Edge) → slice_get edges k ≡ Some edge → Contains edges edge
held-at edges k edge is = (k, slice_get_within edges k edge is, get_or_from_slice_get edges k edge edge is)

pub all-touch : (edges : List Edge) → AreNoded edges → AreDistinct edges → AllMayMeet false edges
all-touch edges noded distinct i j pair = record {
  one = pair.one;
  other = pair.other;
  rising = pair.rising;
  first = pair.first;
  second = pair.second;
  meet = touch-made pair.one pair.other apart (λ point of_one of_other. noded pair.one pair.other point (held-at edges i pair.one pair.first) (held-at edges j pair.other pair.second) of_one of_other) pair.meet;
}
  where
    apart : ¬ (HaveSameEnds pair.one pair.other)
    apart same =
        distinct i j pair.one pair.rising (slice_get_within edges j pair.other pair.second)
        (subst₂ HaveSameEnds (sym (get_or_from_slice_get edges i pair.one pair.one pair.first)) (sym (get_or_from_slice_get edges j pair.other pair.one pair.second)) same)
