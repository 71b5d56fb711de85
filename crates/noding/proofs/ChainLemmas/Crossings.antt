-- Which points are hot: ends of edges, and crossings of edges that come close.
use Rattle.std.proofs.Common.{◌≡◌, ◌⊎◌, inl, inr, ℕ, ◌<◌, ℤ, List, [], ◌∷◌, ◌++◌, Some, get_or, length, refl, sym, ap, ◌∙◌, subst, ⊎_elim, arith}
use Rattle.std.specs.List.{All, Contains, slice_get}
use Rattle.std.proofs.lemmas.Bool.{cases_eq, cases_lt}
use Rattle.std.proofs.lemmas.List.Elements.{Contains-get_or}
use Rattle.std.proofs.lemmas.Option.{same_Some, slice_get_within}
use Rattle.plane.specs.declared.edge.Edge.{Edge}
use Rattle.plane.specs.Meet.Edges.{IsOf, Meet}
use Rattle.plane.specs.Pairs.Pairs.{ArePairs}
use Rattle.noding.specs.Chains.{AreNotParallel, CrossAt, IsEnd, IsHot}
use Rattle.noding.specs.Close.{ComeClose, ShareEnd}
use Rattle.noding.specs.Crossings.{AreCrossed, AreCrossings, ArePointsInside, CrossInside, IsCrossed, IsCrossedAt, IsCrossingOf, IsPointInside}
use Rattle.plane.specs.Gains.{GainsThese, HaveSame, IsOfSome}
use Rattle.plane.specs.declared.point.Point.{Point}
use Rattle.noding.specs.declared.crossings.Crossing.{Crossing}
use Rattle.plane.proofs.PointLemmas.{whole_point}
use Rattle.noding.proofs.ChainLemmas.Ends.{end_or_not}
use Rattle.plane.proofs.GainsLemmas.{gained-all, gains-none, gains-only, held-at, place-of}
use Rattle.noding.proofs.SnapLemmas.Along.{from_at, to_at}
use Rattle.noding.proofs.SnapLemmas.Apart.{near-passed}
use Rattle.noding.proofs.SnapLemmas.Crossing.{CrossAt-exchanged, CrossAt-itself, CrossAt-unique}
use Rattle.noding.proofs.SnapLemmas.Rounding.{RoundsTo-itself, whole}

-- an end of an edge is a point of it
pub end-of_edge : (edge : Edge) (x y : ℤ) → IsEnd edge x y → IsOf edge (whole x y)
end-of_edge edge x y (inl (same_x, same_y)) =
    subst (λ (a : ℤ). IsOf edge (whole a y)) (sym same_x) (subst (λ (b : ℤ). IsOf edge (whole edge.x0 b)) (sym same_y) (0, from_at edge))
end-of_edge edge x y (inr (same_x, same_y)) =
    subst (λ (a : ℤ). IsOf edge (whole a y)) (sym same_x) (subst (λ (b : ℤ). IsOf edge (whole edge.x1 b)) (sym same_y) (1, to_at edge))

-- edges that share an end cross there, if they do
pub CrossAt-end : (one other : Edge) (x y : ℤ) → ShareEnd one other → CrossAt one other x y → IsEnd one x y
CrossAt-end one other x y (end_x, end_y, of_one, of_other) cross =
    let there : CrossAt one other end_x end_y = (cross.0, (whole end_x end_y, end-of_edge one end_x end_y of_one, end-of_edge other end_x end_y of_other, RoundsTo-itself end_x end_y)) in
    let (same_x, same_y) = CrossAt-unique one other end_x end_y x y there cross in
    subst (λ (a : ℤ). IsEnd one a y) same_x (subst (λ (b : ℤ). IsEnd one end_x b) same_y of_one)

-- ---- crossings with the places of their edges

abbrev crossing_of : ℕ → ℕ → Point → Crossing
crossing_of one other point = record { one = one; other = other; point = point }

-- the edges at its places cross at a crossing's point
pub crossed-at : (edges : List Edge) (crossing : Crossing) (one other : Edge) → slice_get edges crossing.one ≡ Some one → slice_get edges crossing.other ≡ Some other → IsCrossed edges crossing → CrossAt one other crossing.point.x crossing.point.y
crossed-at edges crossing one other first second is =
    let one_is : is.one ≡ one = same_Some _ _ (sym is.first ∙ first) in
    let other_is : is.other ≡ other = same_Some _ _ (sym is.second ∙ second) in
    subst (λ (e : Edge). CrossAt e other crossing.point.x crossing.point.y) one_is (subst (λ (e : Edge). CrossAt is.one e crossing.point.x crossing.point.y) other_is is.cross)

module _ (edges : List Edge) (pair : ℕ × ℕ) (one other : Edge) (first : slice_get edges pair.0 ≡ Some one) (second : slice_get edges pair.1 ≡ Some other) where
  cross_there : (crossing : Crossing) → IsCrossedAt edges pair crossing → CrossAt one other crossing.point.x crossing.point.y
  cross_there crossing (same, is) =
      crossed-at edges crossing one other (ap (λ (p : ℕ × ℕ). slice_get edges p.0) (sym same) ∙ first) (ap (λ (p : ℕ × ℕ). slice_get edges p.1) (sym same) ∙ second) is

  -- edges at a pair cross once
  pub gains-crossed : (point : Point) (before after : List Crossing) → CrossAt one other point.x point.y → after ≡ before ++ record { one = pair.0; other = pair.1; point = point } ∷ [] → GainsThese (IsCrossedAt edges pair) before after
  gains-crossed point before after cross =
      gains-only (IsCrossedAt edges pair) before after (record { one = pair.0; other = pair.1; point = point })
      (refl, record { one = one; other = other; first = first; second = second; cross = cross })
      (λ found is.
      let (same_x, same_y) = CrossAt-unique one other found.point.x found.point.y point.x point.y (cross_there found is) cross in
      let same_one : found.one ≡ pair.0 = ap (λ (p : ℕ × ℕ). p.0) (sym is.0) in
      let same_other : found.other ≡ pair.1 = ap (λ (p : ℕ × ℕ). p.1) (sym is.0) in
      let same_point : found.point ≡ point = ap (λ (a : ℤ). whole_point a found.point.y) same_x ∙ ap (λ (b : ℤ). whole_point point.x b) same_y in
      ap (λ (place : ℕ). crossing_of place found.other found.point) same_one ∙ ap (λ (place : ℕ). crossing_of pair.0 place found.point) same_other ∙ ap (λ (p : Point). crossing_of pair.0 pair.1 p) same_point)

  -- or not at all
  pub gains-uncrossed : (before : List Crossing) → ¬ (AreNotParallel one other × Meet one other) → GainsThese (IsCrossedAt edges pair) before before
  gains-uncrossed before none =
      gains-none (IsCrossedAt edges pair) before
      (λ crossing is. let (slanted, (at, of_one, of_other, rounds)) = cross_there crossing is in none (slanted, (at, of_one, of_other)))

module _ (edges : List Edge) (pairs : List (ℕ × ℕ)) (crossings : List Crossing) (crossed : AreCrossed edges pairs crossings) where
  pub each-crossed : All (IsCrossed edges) crossings
  each-crossed k d within = let (pair, held, (same, is)) = (crossed (get_or crossings k d)).0 (Contains-get_or crossings k d within) in is

  pub within-crossed : All (λ crossing. (crossing.one < length edges) × (crossing.other < length edges)) crossings
  within-crossed k d within = let is = each-crossed k d within in (slice_get_within edges _ is.one is.first, slice_get_within edges _ is.other is.second)

  -- a crossing of the list is that of the edges at some pair
  pub crossed-pair : (crossing : Crossing) → Contains crossings crossing → Contains pairs (crossing.one, crossing.other) × IsCrossed edges crossing
  crossed-pair crossing held = let (pair, among, (same, is)) = (crossed crossing).0 held in (subst (Contains pairs) same among, is)

  -- and the other way round
  pub pair-crossed : (pair : ℕ × ℕ) (one other : Edge) (point : Point) → Contains pairs pair → slice_get edges pair.0 ≡ Some one → slice_get edges pair.1 ≡ Some other → CrossAt one other point.x point.y
      → Contains crossings (record { one = pair.0; other = pair.1; point = point })
  pair-crossed pair one other point held first second cross =
      (crossed (record { one = pair.0; other = pair.1; point = point })).1 (pair, held, (refl, record { one = one; other = other; first = first; second = second; cross = cross }))

  -- a crossing's point inside is where the edges at some pair cross
  pub point_paired : (point : Point) → IsOfSome (IsPointInside edges) crossings point → IsOfSome (IsCrossingOf edges) pairs point
  point_paired point (crossing, held, at) =
      let (among, is) = crossed-pair crossing held in
      let cross : CrossInside at.one at.other crossing.point = (crossed-at edges crossing at.one at.other at.first at.second is, at.none) in (
        (crossing.one, crossing.other),
        among,
        record { one = at.one; other = at.other; first = at.first; second = at.second; cross = subst (CrossInside at.one at.other) (sym at.is) cross },
      )

  -- and the other way round
  pub paired_point : (point : Point) → IsOfSome (IsCrossingOf edges) pairs point → IsOfSome (IsPointInside edges) crossings point
  paired_point point (pair, held, at) = (
    record { one = pair.0; other = pair.1; point = point },
    pair-crossed pair at.one at.other point held at.first at.second at.cross.0,
    record { one = at.one; other = at.other; first = at.first; second = at.second; none = at.cross.1; is = refl },
  )

  -- so the points of crossings are those at which the edges at the pairs cross
  pub AreCrossings-inside : (points : List Point) → ArePointsInside edges crossings points → AreCrossings edges pairs points
  AreCrossings-inside points inside point = (λ held. point_paired point ((inside point).0 held), λ is. (inside point).1 (paired_point point is))

-- ---- points of crossings

module _ (edges : List Edge) (crossing : Crossing) (one other : Edge) (first : slice_get edges crossing.one ≡ Some one) (second : slice_get edges crossing.other ≡ Some other) where
  -- a point that is no end
  pub gains-inside : (before after : List Point) → ¬ (IsEnd one crossing.point.x crossing.point.y ⊎ IsEnd other crossing.point.x crossing.point.y) → after ≡ before ++ crossing.point ∷ [] → GainsThese (IsPointInside edges crossing) before after
  gains-inside before after none =
      gains-only (IsPointInside edges crossing) before after crossing.point (record { one = one; other = other; first = first; second = second; none = none; is = refl }) (λ point at. at.is)

  -- one that is
  pub gains-at_end : (before : List Point) → IsEnd one crossing.point.x crossing.point.y ⊎ IsEnd other crossing.point.x crossing.point.y → GainsThese (IsPointInside edges crossing) before before
  gains-at_end before end =
      gains-none (IsPointInside edges crossing) before
      (λ point at.
      let one_is : one ≡ at.one = same_Some _ _ (sym first ∙ at.first) in
      let other_is : other ≡ at.other = same_Some _ _ (sym second ∙ at.second) in
      at.none (subst (λ (e : Edge). IsEnd e crossing.point.x crossing.point.y ⊎ IsEnd at.other crossing.point.x crossing.point.y) one_is (subst (λ (e : Edge). IsEnd one crossing.point.x crossing.point.y ⊎ IsEnd e crossing.point.x crossing.point.y) other_is end)))

-- the points that are found, in order and each once
pub ArePointsInside-sorted : (edges : List Edge) (crossings : List Crossing) (found sorted : List Point) → GainsThese (IsOfSome (IsPointInside edges) crossings) [] found → HaveSame found sorted → ArePointsInside edges crossings sorted
ArePointsInside-sorted edges crossings found sorted gains same point =
    let kept = same point in
    let all = gained-all (IsOfSome (IsPointInside edges) crossings) found gains point in (λ held. all.0 (kept.0 held), λ is. kept.1 (all.1 is))

-- ---- which edges cross

pub CrossInside-exchanged : (one other : Edge) (point : Point) → CrossInside one other point → CrossInside other one point
CrossInside-exchanged one other point (cross, none) = (CrossAt-exchanged one other point.x point.y cross, ⊎_elim (λ end. none (inr end)) (λ end. none (inl end)))

module _ (edges : List Edge) (pairs : List (ℕ × ℕ)) (close : ArePairs ComeClose edges pairs) where
  -- two edges that cross, and not at their ends, are at a pair that comes close
  pub crossing-pair : (i j : ℕ) (one other : Edge) (point : Point) → i < j → slice_get edges i ≡ Some one → slice_get edges j ≡ Some other → CrossInside one other point → Contains pairs (i, j)
  crossing-pair i j one other point below first second cross =
      let ((apart, (at, of_one, of_other, rounds)), none) = cross in
      let no_shared : ¬ (ShareEnd one other) = λ shared. none (inl (CrossAt-end one other point.x point.y shared cross.0)) in
      (close.exact i j).1 (record {
        one = one;
        other = other;
        rising = below;
        first = first;
        second = second;
        meet = inl (no_shared, near-passed one other point.x point.y (at, of_one, rounds) (at, of_other, rounds));
      })

  paired : (i j : ℕ) (one other : Edge) (point : Point) → i < j → slice_get edges i ≡ Some one → slice_get edges j ≡ Some other → CrossInside one other point → IsOfSome (IsCrossingOf edges) pairs point
  paired i j one other point below first second cross = (
    (i, j),
    crossing-pair i j one other point below first second cross,
    record {
      one = one;
      other = other;
      first = first;
      second = second;
      cross = cross;
    },
  )

  crossing-paired : (one other : Edge) (point : Point) → Contains edges one → Contains edges other → CrossInside one other point → IsOfSome (IsCrossingOf edges) pairs point
  crossing-paired one other point of_one of_other cross =
      let (i, first) = place-of edges one of_one in
      let (j, second) = place-of edges other of_other in
      elim (cases_lt i j) [
        | inl below ↦ paired i j one other point below first second cross
        | inr upto ↦ elim (cases_eq i j) [
          | inl same ↦
              let one_is : one ≡ other = same_Some _ _ (sym first ∙ ap (slice_get edges) same ∙ second) in
              absurd (CrossAt-itself other point.x point.y (subst (λ (e : Edge). CrossAt e other point.x point.y) one_is cross.0))
          | inr differs ↦ paired j i other one point (omega (arith, upto, differs)) second first (CrossInside-exchanged one other point cross)
        ]
      ]

  -- what is hot is an end of some edge, or a crossing at one of the pairs
  pub hot_cases : (x y : ℤ) → IsHot edges x y → ((edge : Edge) × Contains edges edge × IsEnd edge x y) ⊎ IsOfSome (IsCrossingOf edges) pairs (whole_point x y)
  hot_cases x y (inl end) = inl end
  hot_cases x y (inr (one, other, of_one, of_other, cross)) =
      elim (end_or_not one x y) [
        | inl end ↦ inl (one, of_one, end)
        | inr none ↦ elim (end_or_not other x y) [
          | inl end ↦ inl (other, of_other, end)
          | inr no_end ↦ inr (crossing-paired one other (whole_point x y) of_one of_other (cross, ⊎_elim none no_end))
        ]
      ]

  -- and the other way round
  pub crossing-hot : (point : Point) → IsOfSome (IsCrossingOf edges) pairs point → IsHot edges point.x point.y
  crossing-hot point ((i, j), held, is) = inr (is.one, is.other, held-at edges i is.one is.first, held-at edges j is.other is.second, is.cross.0)
