-- Edges that cross between their ends: pairs of places that have all of them, their crossings, and those that cross at points
-- with fractions.
use Rattle.std.proofs.Common.{arith, ap, inl, inr, refl, sym, subst, ◌∙◌, ℕ, ℤ, ◌<◌, ◌≡◌, ◌≢◌, ◌⊎◌, ◌↔◌, List, Some, length, ⊎_elim}
use Rattle.std.specs.List.{All, Contains, slice_get}
use Rattle.std.proofs.lemmas.Bool.{cases_lt}
use Rattle.std.proofs.lemmas.Option.{same_Some, slice_get_within}
use Rattle.plane.specs.declared.edge.Edge.{Edge}
use Rattle.plane.specs.declared.point.Point.{Point}
use Rattle.plane.specs.Meet.Edges.{RationalPoint}
use Rattle.plane.specs.Meet.Kinds.{IsAt, IsEnd as IsEndPoint}
use Rattle.plane.specs.Pairs.Pairs.{ArePairs}
use Rattle.noding.specs.Chains.{CrossAt, IsEnd}
use Rattle.noding.specs.Close.{ComeClose, ShareEnd}
use Rattle.noding.specs.Crossings.{AreAllCrossed, AreCrossed, CrossBetweenEnds, HaveAllCrossed}
use Rattle.plane.specs.Gains.{IsOfSome}
use Rattle.noding.specs.Local.{AreFirst, CrossBeside, IsPointBeside, MovesInRound}
use Rattle.noding.specs.Rounding.{RoundsOn, RoundsTo}
use Rattle.noding.specs.declared.crossings.Crossing.{Crossing}
use Rattle.noding.proofs.ChainLemmas.Crossings.{each-crossed, pair-crossed}
use Rattle.plane.proofs.GainsLemmas.{held-at, place-of}
use Rattle.noding.proofs.ChainLemmas.Local.{CrossBeside-exchanged, has_end}
use Rattle.noding.proofs.SnapLemmas.Apart.{near-passed}
use Rattle.noding.proofs.SnapLemmas.Crossing.{CrossAt-exchanged, CrossAt-itself}
use Rattle.noding.proofs.SnapLemmas.Local.{common_whole}
use Rattle.noding.proofs.SnapLemmas.Lying.{at_or_not}
use Rattle.noding.proofs.SnapLemmas.Rounding.{RoundsOn-whole, RoundsTo-unique}

-- edges that cross between their ends cross
pub CrossAt-between_ends : (one other : Edge) (x y : ℤ) → CrossBetweenEnds one other x y → CrossAt one other x y
CrossAt-between_ends one other x y (slanted, (point, of_one, of_other, rounds, none)) = (slanted, (point, of_one, of_other, rounds))

-- whichever is named first
pub CrossBetweenEnds-exchanged : (one other : Edge) (x y : ℤ) → CrossBetweenEnds one other x y → CrossBetweenEnds other one x y
CrossBetweenEnds-exchanged one other x y (slanted, (point, of_one, of_other, rounds, none)) =
    ((CrossAt-exchanged one other x y (slanted, (point, of_one, of_other, rounds))).0, (point, of_other, of_one, rounds, ⊎_elim (λ end. none (inr end)) (λ end. none (inl end))))

-- and they aren't one edge
pub at_two_places : (edges : List Edge) (i j : ℕ) (one other : Edge) (x y : ℤ) → slice_get edges i ≡ Some one → slice_get edges j ≡ Some other → CrossBetweenEnds one other x y → i ≢ j
at_two_places edges i j one other x y first second between same =
    let one_is : one ≡ other = same_Some _ _ (sym first ∙ ap (slice_get edges) same ∙ second) in
    CrossAt-itself other x y (subst (λ (e : Edge). CrossAt e other x y) one_is (CrossAt-between_ends one other x y between))

-- what is told of edges of which the first is before the second is told of all
HaveAllCrossed-rising : (edges : List Edge) (pairs : List (ℕ × ℕ))
    → ((i j : ℕ) (one other : Edge) (x y : ℤ) → i < j → slice_get edges i ≡ Some one → slice_get edges j ≡ Some other → CrossBetweenEnds one other x y → Contains pairs (i, j))
    → (i j : ℕ) (one other : Edge) (x y : ℤ) → slice_get edges i ≡ Some one → slice_get edges j ≡ Some other → CrossBetweenEnds one other x y → Contains pairs (i, j) ⊎ Contains pairs (j, i)
HaveAllCrossed-rising edges pairs told i j one other x y first second between =
    elim (cases_lt i j) [
      | inl below ↦ inl (told i j one other x y below first second between)
      | inr upto ↦
          let apart = at_two_places edges i j one other x y first second between in
          inr (told j i other one x y (omega (arith, upto, apart)) second first (CrossBetweenEnds-exchanged one other x y between))
    ]

-- the crossings of such pairs
pub AreAllCrossed-paired : (edges : List Edge) (pairs : List (ℕ × ℕ)) (crossings : List Crossing) → HaveAllCrossed edges pairs → AreCrossed edges pairs crossings → AreAllCrossed edges crossings
AreAllCrossed-paired edges pairs crossings all crossed = record {
  each = each-crossed edges pairs crossings crossed;
  all = λ i j one other point first second between.
      let there = CrossAt-between_ends one other point.x point.y between in
      ⊎_elim (λ held. inl (pair-crossed edges pairs crossings crossed (i, j) one other point held first second there))
      (λ held. inr (pair-crossed edges pairs crossings crossed (j, i) other one point held second first (CrossAt-exchanged one other point.x point.y there)))
      (all i j one other point.x point.y first second between);
}

-- their places are those of edges
pub within-all_crossed : (edges : List Edge) (crossings : List Crossing) → AreAllCrossed edges crossings → All (λ crossing. (crossing.one < length edges) × (crossing.other < length edges)) crossings
within-all_crossed edges crossings crossed k d below =
    let is = crossed.each k d below in
    (slice_get_within edges _ is.one is.first, slice_get_within edges _ is.other is.second)

-- ---- of edges that come close

-- edges that share an end have no other common point
no_shared : (one other : Edge) (x y : ℤ) → CrossBetweenEnds one other x y → ¬ (ShareEnd one other)
no_shared one other x y (slanted, (point, of_one, of_other, rounds, none)) (end_x, end_y, end, other_end) =
    let at = common_whole one other point end_x end_y slanted of_one of_other (has_end one end_x end_y end) (has_end other end_x end_y other_end) in
    none (inl (end_point end at))
  where
    end_point : IsEnd one end_x end_y → IsAt point end_x end_y → IsEndPoint one point
    end_point (inl (same_x, same_y)) at = inl (subst (λ (a : ℤ). IsAt point a one.y0) same_x (subst (λ (b : ℤ). IsAt point end_x b) same_y at))
    end_point (inr (same_x, same_y)) at = inr (subst (λ (a : ℤ). IsAt point a one.y1) same_x (subst (λ (b : ℤ). IsAt point end_x b) same_y at))

-- so those that cross between their ends come close
pub HaveAllCrossed-close : (edges : List Edge) (pairs : List (ℕ × ℕ)) → ArePairs ComeClose edges pairs → HaveAllCrossed edges pairs
HaveAllCrossed-close edges pairs close =
    HaveAllCrossed-rising edges pairs
    (λ i j one other x y below first second between.
    let (slanted, (point, of_one, of_other, rounds, none)) = between in
    (close.exact i j).1 (record { one = one; other = other; rising = below; first = first; second = second; meet = inl (no_shared one other x y between, near-passed one other x y (point, of_one, rounds) (point, of_other, rounds)) }))

-- ---- ends

-- a point that is whole rounds to itself
pub RoundsTo-at : (point : RationalPoint) (x y : ℤ) → IsAt point x y → RoundsTo point x y
RoundsTo-at point x y at = record {
  along_x = subst (λ (p : ℤ). RoundsOn point.n p x) (sym at.x_is) (RoundsOn-whole point.n x point.positive);
  along_y = subst (λ (p : ℤ). RoundsOn point.n p y) (sym at.y_is) (RoundsOn-whole point.n y point.positive);
}

-- so an end rounds to itself
pub end-rounded : (edge : Edge) (point : RationalPoint) (x y : ℤ) → RoundsTo point x y → IsEndPoint edge point → IsEnd edge x y
end-rounded edge point x y rounds (inl at) = inl (RoundsTo-unique point x y edge.x0 edge.y0 rounds (RoundsTo-at point edge.x0 edge.y0 at))
end-rounded edge point x y rounds (inr at) = inr (RoundsTo-unique point x y edge.x1 edge.y1 rounds (RoundsTo-at point edge.x1 edge.y1 at))

-- a point is an end of the edge or not
pub end_point-or_not : (edge : Edge) (point : RationalPoint) → IsEndPoint edge point ⊎ (¬ (IsEndPoint edge point))
end_point-or_not edge point =
    elim (at_or_not point edge.x0 edge.y0) [
      | inl start ↦ inl (inl start)
      | inr no_start ↦ elim (at_or_not point edge.x1 edge.y1) [
        | inl end ↦ inl (inr end)
        | inr no_end ↦ inr (⊎_elim no_start no_end)
      ]
    ]

-- ---- which edges cross at points with fractions

whole_end : (edge : Edge) (point : RationalPoint) (x y : ℤ) → RoundsTo point x y → IsEndPoint edge point → IsAt point x y
whole_end edge point x y rounds (inl at) =
    let (same_x, same_y) = RoundsTo-unique point edge.x0 edge.y0 x y (RoundsTo-at point edge.x0 edge.y0 at) rounds in
    subst (λ (a : ℤ). IsAt point a y) same_x (subst (λ (b : ℤ). IsAt point edge.x0 b) same_y at)
whole_end edge point x y rounds (inr at) =
    let (same_x, same_y) = RoundsTo-unique point edge.x1 edge.y1 x y (RoundsTo-at point edge.x1 edge.y1 at) rounds in
    subst (λ (a : ℤ). IsAt point a y) same_x (subst (λ (b : ℤ). IsAt point edge.x1 b) same_y at)

-- they cross between their ends
between-beside : (one other : Edge) (x y : ℤ) → CrossBeside one other x y → CrossBetweenEnds one other x y
between-beside one other x y (slanted, (point, of_one, of_other, rounds, beside)) =
    (slanted, (point, of_one, of_other, rounds, ⊎_elim (λ end. beside (whole_end one point x y rounds end)) (λ end. beside (whole_end other point x y rounds end))))

module _ (edges : List Edge) (crossings : List Crossing) (crossed : AreAllCrossed edges crossings) where
  beside_point : (point : Point) → MovesInRound edges 0 point.x point.y → IsOfSome (IsPointBeside edges) crossings point
  beside_point point (one, other, of_one, of_other, cross) =
      let (i, first) = place-of edges one of_one in
      let (j, second) = place-of edges other of_other in
      ⊎_elim
      (λ held. (record { one = i; other = j; point = point }, held, record { one = one; other = other; first = first; second = second; cross = cross; is = refl }))
      (λ held. (
        record { one = j; other = i; point = point },
        held,
        record { one = other; other = one; first = second; second = first; cross = CrossBeside-exchanged one other point.x point.y cross; is = refl },
      ))
      (crossed.all i j one other point first second (between-beside one other point.x point.y cross))

  point_beside : (point : Point) → IsOfSome (IsPointBeside edges) crossings point → MovesInRound edges 0 point.x point.y
  point_beside point (crossing, held, at) =
      (at.one, at.other, held-at edges crossing.one at.one at.first, held-at edges crossing.other at.other at.second, subst (λ (p : Point). CrossBeside at.one at.other p.x p.y) (sym at.is) at.cross)

  -- so the points of crossings that are beside them move edges in the first round
  pub AreFirst-crossed : (points : List Point) → ((point : Point) → Contains points point ↔ IsOfSome (IsPointBeside edges) crossings point) → AreFirst edges points
  AreFirst-crossed points told point = (λ held. point_beside point ((told point).0 held), λ moves. (told point).1 (beside_point point moves))
