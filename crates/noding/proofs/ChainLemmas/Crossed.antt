-- The stops where edges at a pair cross: at the points to which the crossings round, and where all edges run along the axes at each pair by itself.
use Rattle.std.proofs.Common.{◌≡◌, ◌⊎◌, ◌++◌, ◌∷◌, [], inl, inr, ℕ, List, Some, refl, sym, ap, ◌∙◌, subst, ⊎_elim, arith}
use Rattle.std.specs.List.{All, slice_get}
use Rattle.std.proofs.lemmas.Bool.{cases_eq, cases_lt}
use Rattle.std.proofs.lemmas.List.Elements.{All-contains}
use Rattle.std.proofs.lemmas.Option.{same_Some}
use Rattle.plane.specs.declared.edge.Edge.{Edge}
use Rattle.plane.specs.Pairs.Pairs.{ArePairs}
use Rattle.noding.specs.Chains.{CrossAt, IsEnd}
use Rattle.noding.specs.Close.{ComeClose, PassesInside}
use Rattle.noding.specs.Crossings.{AreCrossed, AreCrossings, CrossInside, IsCrossingOf}
use Rattle.plane.specs.Gains.{GainsThese, IsOfSome}
use Rattle.noding.specs.Stops.{IsStopAmong, IsStopAtCrossing, IsStopCrossed, IsStopOfBoth, IsStopOfCrossing, stop_of}
use Rattle.plane.specs.Lines.{IsAlongAxis}
use Rattle.plane.specs.declared.point.Point.{Point}
use Rattle.noding.specs.declared.crossings.Crossing.{Crossing}
use Rattle.noding.specs.declared.stops.Stop.{Stop}
use Rattle.noding.proofs.ChainLemmas.Crossings.{CrossInside-exchanged, crossed-at, crossed-pair, crossing-pair, pair-crossed}
use Rattle.plane.proofs.GainsLemmas.{gains-join, gains-one, gains-same, held-at}
use Rattle.noding.proofs.SnapLemmas.Crossing.{CrossAt-itself}
use Rattle.noding.proofs.SnapLemmas.Axes.{CrossAt-axes}

-- stops at all crossings
pub gains-at_crossings : (edges : List Edge) (pairs : List (ℕ × ℕ)) (points : List Point) (before after : List Stop) → AreCrossings edges pairs points → GainsThese (IsStopAmong edges points) before after → GainsThese (IsStopCrossed edges pairs) before after
gains-at_crossings edges pairs points before after crossings =
    gains-same (IsStopAmong edges points) (IsStopCrossed edges pairs) before after
    (λ stop at. record { place = at.place; edge = at.edge; point = at.point; stands = at.stands; crossed = (crossings at.point).0 at.held; along = at.along })
    (λ stop at. record { place = at.place; edge = at.edge; point = at.point; stands = at.stands; held = (crossings at.point).1 at.crossed; along = at.along })

-- two edges that cross pass the crossing
pub passes-first : (one other : Edge) (point : Point) → CrossInside one other point → PassesInside one point.x point.y
passes-first one other point ((slanted, (at, of_one, of_other, rounds)), none) = ((at, of_one, rounds), λ end. none (inl end))

pub passes-second : (one other : Edge) (point : Point) → CrossInside one other point → PassesInside other point.x point.y
passes-second one other point ((slanted, (at, of_one, of_other, rounds)), none) = ((at, of_other, rounds), λ end. none (inr end))

-- the stops of both, where the point is no end
pub gains-both : (crossing : Crossing) (one other : Edge) (before now after : List Stop) → ¬ (IsEnd one crossing.point.x crossing.point.y ⊎ IsEnd other crossing.point.x crossing.point.y)
    → now ≡ before ++ stop_of crossing.one one crossing.point.x crossing.point.y ∷ [] → after ≡ now ++ stop_of crossing.other other crossing.point.x crossing.point.y ∷ [] → GainsThese (IsStopOfBoth crossing one other) before after
gains-both crossing one other before now after none first second =
    let stop = stop_of crossing.one one crossing.point.x crossing.point.y in
    let other_stop = stop_of crossing.other other crossing.point.x crossing.point.y in
    gains-same (λ s. (s ≡ stop) ⊎ (s ≡ other_stop)) (IsStopOfBoth crossing one other) before after (λ s is. (none, is)) (λ s at. at.1)
    (gains-join (λ s. s ≡ stop) (λ s. s ≡ other_stop) before now after
    (subst (λ (items : List Stop). GainsThese (λ s. s ≡ stop) before items) (sym first) (gains-one before stop))
    (subst (λ (items : List Stop). GainsThese (λ s. s ≡ other_stop) now items) (sym second) (gains-one now other_stop)))

-- the same of the edges at a crossing's places
pub gains-of_both : (edges : List Edge) (crossing : Crossing) (one other : Edge) (before after : List Stop) → slice_get edges crossing.one ≡ Some one → slice_get edges crossing.other ≡ Some other
    → GainsThese (IsStopOfBoth crossing one other) before after → GainsThese (IsStopAtCrossing edges crossing) before after
gains-of_both edges crossing one other before after first second =
    gains-same (IsStopOfBoth crossing one other) (IsStopAtCrossing edges crossing) before after
    (λ stop at. record { one = one; other = other; first = first; second = second; at = at })
    (λ stop is.
    let one_is : is.one ≡ one = same_Some _ _ (sym is.first ∙ first) in
    let other_is : is.other ≡ other = same_Some _ _ (sym is.second ∙ second) in
    subst (λ (e : Edge). IsStopOfBoth crossing e other stop) one_is (subst (λ (e : Edge). IsStopOfBoth crossing is.one e stop) other_is is.at))

-- a stop at a crossing is one at some pair
pub gains-paired : (edges : List Edge) (pairs : List (ℕ × ℕ)) (crossings : List Crossing) (before after : List Stop) → AreCrossed edges pairs crossings
    → GainsThese (IsOfSome (IsStopAtCrossing edges) crossings) before after → GainsThese (IsOfSome (IsStopOfCrossing edges) pairs) before after
gains-paired edges pairs crossings before after crossed = gains-same (IsOfSome (IsStopAtCrossing edges) crossings) (IsOfSome (IsStopOfCrossing edges) pairs) before after to from
  where
    to : (stop : Stop) → IsOfSome (IsStopAtCrossing edges) crossings stop → IsOfSome (IsStopOfCrossing edges) pairs stop
    to stop (crossing, held, is) =
        let (among, cross) = crossed-pair edges pairs crossings crossed crossing held in
        let (none, at) = is.at in (
          (crossing.one, crossing.other),
          among,
          record { one = is.one; other = is.other; point = crossing.point; first = is.first; second = is.second; cross = (crossed-at edges crossing is.one is.other is.first is.second cross, none); is = at },
        )

    from : (stop : Stop) → IsOfSome (IsStopOfCrossing edges) pairs stop → IsOfSome (IsStopAtCrossing edges) crossings stop
    from stop (pair, held, at) = (
      record { one = pair.0; other = pair.1; point = at.point },
      pair-crossed edges pairs crossings crossed pair at.one at.other at.point held at.first at.second at.cross.0,
      record { one = at.one; other = at.other; first = at.first; second = at.second; at = (at.cross.1, at.is) },
    )

module _ (edges : List Edge) (pairs : List (ℕ × ℕ)) (close : ArePairs ComeClose edges pairs) where
  -- a stop at a pair is one of an edge where edges cross
  crossed_stop : (stop : Stop) → IsOfSome (IsStopOfCrossing edges) pairs stop → IsStopCrossed edges pairs stop
  crossed_stop stop (pair, held, at) =
      let crossing : IsOfSome (IsCrossingOf edges) pairs at.point = (pair, held, record { one = at.one; other = at.other; first = at.first; second = at.second; cross = at.cross }) in
      elim at.is [
        | inl is ↦ record { place = pair.0; edge = at.one; point = at.point; stands = at.first; crossed = crossing; along = (passes-first at.one at.other at.point at.cross, is) }
        | inr is ↦ record { place = pair.1; edge = at.other; point = at.point; stands = at.second; crossed = crossing; along = (passes-second at.one at.other at.point at.cross, is) }
      ]

  -- the stop of an edge that crosses another one
  told-of : (place i : ℕ) (edge other : Edge) (point : Point) → slice_get edges place ≡ Some edge → slice_get edges i ≡ Some other → CrossInside edge other point → IsOfSome (IsStopOfCrossing edges) pairs (stop_of place edge point.x point.y)
  told-of place i edge other point stands second cross =
      elim (cases_lt place i) [
        | inl below ↦ (
          (place, i),
          crossing-pair edges pairs close place i edge other point below stands second cross,
          record { one = edge; other = other; point = point; first = stands; second = second; cross = cross; is = inl refl },
        )
        | inr upto ↦ elim (cases_eq place i) [
          | inl same ↦
              let edge_is : edge ≡ other = same_Some _ _ (sym stands ∙ ap (slice_get edges) same ∙ second) in
              absurd (CrossAt-itself other point.x point.y (subst (λ (e : Edge). CrossAt e other point.x point.y) edge_is cross.0))
          | inr differs ↦
              let back : CrossInside other edge point = CrossInside-exchanged edge other point cross in (
                (i, place),
                crossing-pair edges pairs close i place other edge point (omega (arith, upto, differs)) second stands back,
                record { one = other; other = edge; point = point; first = second; second = stands; cross = back; is = inr refl },
              )
        ]
      ]

  module _ (axes : All IsAlongAxis edges) where
    at-crossed : (stop : Stop) → IsStopCrossed edges pairs stop → IsOfSome (IsStopOfCrossing edges) pairs stop
    at-crossed stop at =
        let (pair, held, crossing) = at.crossed in
        let one = crossing.one in
        let other = crossing.other in
        let (along, is) = at.along in
        let first = passes-first one other at.point crossing.cross in
        let second = passes-second one other at.point crossing.cross in
        subst (IsOfSome (IsStopOfCrossing edges) pairs) (sym is)
        (⊎_elim
        (λ cross. told-of at.place pair.0 at.edge one at.point at.stands crossing.first (cross, ⊎_elim along.1 first.1))
        (λ cross. told-of at.place pair.1 at.edge other at.point at.stands crossing.second (cross, ⊎_elim along.1 second.1))
        (CrossAt-axes at.edge one other at.point.x at.point.y (at_axis at.place at.edge at.stands) (at_axis pair.0 one crossing.first) (at_axis pair.1 other crossing.second) crossing.cross.0.0 along first second))
      where
        at_axis : (i : ℕ) (edge : Edge) → slice_get edges i ≡ Some edge → IsAlongAxis edge
        at_axis i edge stands = All-contains IsAlongAxis edges edge axes (held-at edges i edge stands)

    -- so they are the same stops
    pub gains-along_axes : (before after : List Stop) → GainsThese (IsOfSome (IsStopOfCrossing edges) pairs) before after → GainsThese (IsStopCrossed edges pairs) before after
    gains-along_axes before after = gains-same (IsOfSome (IsStopOfCrossing edges) pairs) (IsStopCrossed edges pairs) before after crossed_stop at-crossed
