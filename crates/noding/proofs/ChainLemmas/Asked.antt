-- The stops of all edges at few crossings, each edge asked about each of them.
use Rattle.std.proofs.Common.{◌≡◌, ◌⊎◌, inl, inr, ℕ, ◌+◌, ◌≤◌, List, Some, length, refl, sym, ap, ◌∙◌, subst, ⊎_elim, arith}
use Rattle.std.specs.List.{slice_get}
use Rattle.std.proofs.lemmas.Bool.{cases_lt}
use Rattle.std.proofs.lemmas.Option.{same_Some, slice_get_within}
use Rattle.plane.specs.declared.edge.Edge.{Edge}
use Rattle.plane.specs.declared.point.Point.{Point}
use Rattle.plane.specs.Gains.{GainsThese, IsOfSome}
use Rattle.noding.specs.Chains.{IsEnd}
use Rattle.noding.specs.Close.{PassesInside}
use Rattle.noding.specs.Crossings.{AreCrossed, CrossInside, IsCrossed, IsPointInside}
use Rattle.noding.specs.Stops.{IsStopAlong, IsStopCrossed, IsStopOn, IsStopThere, IsStopUpto, PassedByBoth}
use Rattle.noding.specs.declared.crossings.Crossing.{Crossing}
use Rattle.noding.specs.declared.stops.Stop.{Stop}
use Rattle.noding.proofs.ChainLemmas.Crossed.{passes-first, passes-second}
use Rattle.noding.proofs.ChainLemmas.Crossings.{crossed-at, paired_point, point_paired}
use Rattle.plane.proofs.GainsLemmas.{gains-join, gains-none, gains-same}

-- ---- edge by edge

module _ (edges : List Edge) (point : Point) (before : List Stop) where
  -- none so far
  pub asked-first : GainsThese (IsStopUpto edges point 0) before before
  asked-first = gains-none (IsStopUpto edges point 0) before (λ stop (place, below, at). absurd (omega (arith, below)))

  -- one more edge
  pub asked-next : (k : ℕ) (edge : Edge) (now after : List Stop) → slice_get edges k ≡ Some edge → GainsThese (IsStopUpto edges point k) before now → GainsThese (IsStopAlong k edge point.x point.y) now after
      → GainsThese (IsStopUpto edges point (k + 1)) before after
  asked-next k edge now after stands gained more =
      gains-same (λ stop. IsStopUpto edges point k stop ⊎ IsStopAlong k edge point.x point.y stop) (IsStopUpto edges point (k + 1)) before after to from
      (gains-join (IsStopUpto edges point k) (IsStopAlong k edge point.x point.y) before now after gained more)
    where
      to : (stop : Stop) → IsStopUpto edges point k stop ⊎ IsStopAlong k edge point.x point.y stop → IsStopUpto edges point (k + 1) stop
      to stop (inl (place, below, at)) = (place, omega (arith, below), at)
      to stop (inr along) = (k, omega arith, record { edge = edge; stands = stands; along = along })

      last : (stop : Stop) (place : ℕ) → place ≡ k → IsStopOn edges point place stop → IsStopAlong k edge point.x point.y stop
      last stop place is at =
          let edge_is : at.edge ≡ edge = same_Some _ _ (sym at.stands ∙ ap (slice_get edges) is ∙ stands) in
          subst (λ (e : Edge). IsStopAlong k e point.x point.y stop) edge_is (subst (λ (i : ℕ). IsStopAlong i at.edge point.x point.y stop) is at.along)

      from : (stop : Stop) → IsStopUpto edges point (k + 1) stop → IsStopUpto edges point k stop ⊎ IsStopAlong k edge point.x point.y stop
      from stop (place, below, at) = elim (cases_lt place k) [
        | inl earlier ↦ inl (place, earlier, at)
        | inr upto ↦ inr (last stop place (omega (arith, below, upto)) at)
      ]

  -- all of them
  pub asked-all : (k : ℕ) (now : List Stop) → length edges ≤ k → GainsThese (IsStopUpto edges point k) before now → GainsThese (IsStopUpto edges point (length edges)) before now
  asked-all k now all =
      gains-same (IsStopUpto edges point k) (IsStopUpto edges point (length edges)) before now
      (λ stop (place, below, at). (place, slice_get_within edges place at.edge at.stands, at))
      (λ stop (place, below, at). (place, omega (arith, below, all), at))

-- ---- crossing by crossing

module _ (edges : List Edge) (crossing : Crossing) (one other : Edge) (first : slice_get edges crossing.one ≡ Some one) (second : slice_get edges crossing.other ≡ Some other) where
  -- where its point is an end of one of its edges it has none
  pub there-none : (before : List Stop) → IsEnd one crossing.point.x crossing.point.y ⊎ IsEnd other crossing.point.x crossing.point.y → GainsThese (IsStopThere edges crossing) before before
  there-none before end = gains-none (IsStopThere edges crossing) before (λ stop (inside, at). none inside)
    where
      none : ¬ (IsPointInside edges crossing crossing.point)
      none inside =
          let one_is : one ≡ inside.one = same_Some _ _ (sym first ∙ inside.first) in
          let other_is : other ≡ inside.other = same_Some _ _ (sym second ∙ inside.second) in
          inside.none (subst (λ (e : Edge). IsEnd e crossing.point.x crossing.point.y ⊎ IsEnd inside.other crossing.point.x crossing.point.y) one_is (subst (λ (e : Edge). IsEnd one crossing.point.x crossing.point.y ⊎ IsEnd e crossing.point.x crossing.point.y) other_is end))

  module _ (none : ¬ (IsEnd one crossing.point.x crossing.point.y ⊎ IsEnd other crossing.point.x crossing.point.y)) where
    -- else all stops at its point are some
    pub there-all : (before after : List Stop) → GainsThese (IsStopUpto edges crossing.point (length edges)) before after → GainsThese (IsStopThere edges crossing) before after
    there-all before after =
        gains-same (IsStopUpto edges crossing.point (length edges)) (IsStopThere edges crossing) before after
        (λ stop at. (record { one = one; other = other; first = first; second = second; none = none; is = refl }, at)) (λ stop at. at.1)

    -- and its two edges pass it
    pub passed-by_both : IsCrossed edges crossing → PassedByBoth edges crossing
    passed-by_both is place edge stands of = ⊎_elim (λ at. own one first at passes_one) (λ at. own other second at passes_other) of
      where
        cross : CrossInside one other crossing.point
        cross = (crossed-at edges crossing one other first second is, none)

        passes_one : PassesInside one crossing.point.x crossing.point.y
        passes_one = passes-first one other crossing.point cross

        passes_other : PassesInside other crossing.point.x crossing.point.y
        passes_other = passes-second one other crossing.point cross

        own : (e : Edge) {k : ℕ} → slice_get edges k ≡ Some e → place ≡ k → PassesInside e crossing.point.x crossing.point.y → PassesInside edge crossing.point.x crossing.point.y
        own e at is = subst (λ (e : Edge). PassesInside e crossing.point.x crossing.point.y) (same_Some _ _ (sym at ∙ sym (ap (slice_get edges) is) ∙ stands))

-- the stops at the points of the crossings are those where the edges at the pairs cross
pub gains-there : (edges : List Edge) (pairs : List (ℕ × ℕ)) (crossings : List Crossing) (before after : List Stop) → AreCrossed edges pairs crossings
    → GainsThese (IsOfSome (IsStopThere edges) crossings) before after → GainsThese (IsStopCrossed edges pairs) before after
gains-there edges pairs crossings before after crossed = gains-same (IsOfSome (IsStopThere edges) crossings) (IsStopCrossed edges pairs) before after to from
  where
    to : (stop : Stop) → IsOfSome (IsStopThere edges) crossings stop → IsStopCrossed edges pairs stop
    to stop (crossing, held, (inside, (place, below, at))) = record {
      place = place;
      edge = at.edge;
      point = crossing.point;
      stands = at.stands;
      crossed = point_paired edges pairs crossings crossed crossing.point (crossing, held, inside);
      along = at.along;
    }

    from : (stop : Stop) → IsStopCrossed edges pairs stop → IsOfSome (IsStopThere edges) crossings stop
    from stop at =
        let (crossing, held, inside) = paired_point edges pairs crossings crossed at.point at.crossed in (
          crossing,
          held,
          subst (λ (p : Point). IsPointInside edges crossing p × IsStopUpto edges p (length edges) stop) inside.is
              (inside, (at.place, slice_get_within edges at.place at.edge at.stands, record { edge = at.edge; stands = at.stands; along = at.along })),
        )
