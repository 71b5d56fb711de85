-- Hot points are the ends of edges and the points of all crossings, and of what passes them the stops are made.
use Rattle.std.proofs.Common.{◌≡◌, ◌⊎◌, inl, inr, refl, sym, subst, ⊎_elim, ap, ◌∙◌, ℤ, List, [], ◌∷◌, ◌++◌, get_or}
use Rattle.plane.specs.declared.edge.Edge.{Edge}
use Rattle.plane.specs.declared.point.Point.{Point}
use Rattle.plane.specs.Ends.{end_of, start_of}
use Rattle.plane.proofs.PointLemmas.{whole_point}
use Rattle.noding.specs.Chains.{CrossAt, IsEnd, IsHot}
use Rattle.noding.specs.Crossings.{AreAllCrossed, AreHot, CrossBetweenEnds, IsEndOf, IsPointOf}
use Rattle.plane.specs.Gains.{GainsThese, HaveSame, IsOfSome}
use Rattle.noding.specs.declared.crossings.Crossing.{Crossing}
use Rattle.noding.proofs.ChainLemmas.Between.{end-rounded, end_point-or_not}
use Rattle.plane.proofs.GainsLemmas.{gained-all, gains-join, gains-one, gains-same, held-at, place-of}

-- what two edges round to that aren't parallel is an end of one of them, or they cross between their ends
end_or_between : (one other : Edge) (x y : ℤ) → CrossAt one other x y → (IsEnd one x y ⊎ IsEnd other x y) ⊎ CrossBetweenEnds one other x y
end_or_between one other x y (slanted, (point, of_one, of_other, rounds)) =
    elim (end_point-or_not one point) [
      | inl end ↦ inl (inl (end-rounded one point x y rounds end))
      | inr none ↦ elim (end_point-or_not other point) [
        | inl end ↦ inl (inr (end-rounded other point x y rounds end))
        | inr no_end ↦ inr (slanted, (point, of_one, of_other, rounds, ⊎_elim none no_end))
      ]
    ]

module _ (edges : List Edge) (crossings : List Crossing) (crossed : AreAllCrossed edges crossings) where
  -- a hot point is an end of an edge, or the point of a crossing
  pub from_hot : (point : Point) → IsHot edges point.x point.y → IsOfSome IsEndOf edges point ⊎ IsOfSome IsPointOf crossings point
  from_hot point (inl end) = inl end
  from_hot point (inr (one, other, of_one, of_other, cross)) =
      elim (end_or_between one other point.x point.y cross) [
        | inl (inl end) ↦ inl (one, of_one, end)
        | inl (inr end) ↦ inl (other, of_other, end)
        | inr between ↦
            let (i, first) = place-of edges one of_one in
            let (j, second) = place-of edges other of_other in
            inr (⊎_elim (λ held. (record { one = i; other = j; point = point }, held, refl)) (λ held. (record { one = j; other = i; point = point }, held, refl)) (crossed.all i j one other point first second between))
      ]

  -- and the other way round
  to_hot : (point : Point) → IsOfSome IsEndOf edges point ⊎ IsOfSome IsPointOf crossings point → IsHot edges point.x point.y
  to_hot point (inl end) = inl end
  to_hot point (inr (crossing, (at, inside, stands), is)) =
      let found = crossed.each at crossing inside in
      let cross_there : IsHot edges (get_or crossings at crossing).point.x (get_or crossings at crossing).point.y =
      inr (found.one, found.other, held-at edges (get_or crossings at crossing).one found.one found.first, held-at edges (get_or crossings at crossing).other found.other found.second, found.cross) in
      subst (λ (p : Point). IsHot edges p.x p.y) (ap (λ (c : Crossing). c.point) stands ∙ sym is) cross_there

  -- so these are the hot points, once they are in order and each is left once
  pub AreHot-sorted : (ended found sorted : List Point) → GainsThese (IsOfSome IsEndOf edges) [] ended → GainsThese (IsOfSome IsPointOf crossings) ended found → HaveSame found sorted → AreHot edges sorted
  AreHot-sorted ended found sorted ends points same point =
      let all = gained-all (λ one. IsOfSome IsEndOf edges one ⊎ IsOfSome IsPointOf crossings one) found (gains-join (IsOfSome IsEndOf edges) (IsOfSome IsPointOf crossings) [] ended found ends points) point in
      (λ held. to_hot point (all.0 ((same point).0 held)), λ hot. (same point).1 (all.1 (from_hot point hot)))

-- the two ends of an edge
pub gains-ends : (edge : Edge) (before now after : List Point) → now ≡ before ++ start_of edge ∷ [] → after ≡ now ++ end_of edge ∷ [] → GainsThese (IsEndOf edge) before after
gains-ends edge before now after first second =
    gains-same (λ point. (point ≡ start_of edge) ⊎ (point ≡ end_of edge)) (IsEndOf edge) before after to from
    (gains-join (λ point. point ≡ start_of edge) (λ point. point ≡ end_of edge) before now after
    (subst (GainsThese (λ point. point ≡ start_of edge) before) (sym first) (gains-one before (start_of edge)))
    (subst (GainsThese (λ point. point ≡ end_of edge) now) (sym second) (gains-one now (end_of edge))))
  where
    to : (point : Point) → (point ≡ start_of edge) ⊎ (point ≡ end_of edge) → IsEndOf edge point
    to point (inl is) = inl (ap (λ (p : Point). p.x) is, ap (λ (p : Point). p.y) is)
    to point (inr is) = inr (ap (λ (p : Point). p.x) is, ap (λ (p : Point). p.y) is)

    from : (point : Point) → IsEndOf edge point → (point ≡ start_of edge) ⊎ (point ≡ end_of edge)
    from point (inl (same_x, same_y)) = inl (ap (λ (a : ℤ). whole_point a point.y) same_x ∙ ap (whole_point edge.x0) same_y)
    from point (inr (same_x, same_y)) = inr (ap (λ (a : ℤ). whole_point a point.y) same_x ∙ ap (whole_point edge.x1) same_y)
