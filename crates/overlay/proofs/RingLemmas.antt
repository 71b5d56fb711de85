-- The edges of rings.
use Rattle.std.proofs.Common.{◌≡◌, ◌≢◌, ◌+◌, ◌∷◌, ◌-◌, [], ℕ, ℤ, Bool, true, false, cond, List, length, get_or, refl, ap, ap₂, sym, ◌∙◌, arith}
use Rattle.std.specs.List.{sum_by}
use Rattle.std.proofs.lemmas.Int.{ints}
use Rattle.std.proofs.lemmas.List.Sums.{sum_by-cons}
use Rattle.plane.specs.declared.edge.Edge.{Edge}
use Rattle.plane.specs.declared.point.Point.{Point}
use Rattle.plane.specs.Meet.Edges.{RationalPoint}
use Rattle.overlay.specs.Fill.Pieces.{total}
use Rattle.plane.specs.Ends.{edge_between, end_of, reversed, start_of}
use Rattle.noding.specs.Windings.{pieces, winding, IsClosed}
use Rattle.overlay.proofs.ContourLemmas.RealEdges.{closing, points-same}
use Rattle.noding.proofs.SnapLemmas.Counted.{added}
use Rattle.noding.proofs.SnapLemmas.Windings.{back, winding-added}
use Rattle.overlay.proofs.FillLemmas.Totals.{total-append}
use Rattle.overlay.specs.Areas.{swept, twice_area}
use Rattle.overlay.specs.Rings.{has_two_ends, real_edges}

-- what the edge from the last point to the first sweeps, and then those along the ring, is twice the area
pub area-begins : (ring : List Point) (last d : Point) → ring ≢ [] → last ≡ get_or ring (length ring - 1) d → total swept (pieces (last ∷ ring)) ≡ twice_area ring
area-begins [] last d some is = absurd (some refl)
area-begins (point ∷ others) last d some is =
    let closed = ap (λ (edges : List Edge). total swept edges) (closing (point ∷ others) last point d some is refl) in
    let sum = total-append swept (pieces (point ∷ others)) (edge_between last point ∷ []) in
    omega (arith, ints, closed, sum)

-- an edge without two ends counts for no point
added-real : (edges : List Edge) (point : RationalPoint) → added (real_edges edges) point ≡ added edges point
added-real [] point = refl
added-real (edge ∷ edges) point = by (has_two_ends edge) refl (added-real edges point)
  where
    by : (t : Bool) → has_two_ends edge ≡ t → added (real_edges edges) point ≡ added edges point → added (cond t (edge ∷ real_edges edges) (real_edges edges)) point ≡ added (edge ∷ edges) point
    by true is rest = omega (arith, ints, rest)
    by false isnt rest =
        let (level, _) = points-same edge isnt in
        let none = back edge point (omega (arith, ints, level)) in
        let none_back = back (reversed edge) point (omega (arith, ints, level)) in
        omega (arith, ints, none, none_back, rest)

-- edges wind as those of them do that have two ends
pub winding-real : (edges : List Edge) (point : RationalPoint) → winding (real_edges edges) point ≡ winding edges point
winding-real edges point = winding-added (real_edges edges) point ∙ added-real edges point ∙ sym (winding-added edges point)

-- what weighs points alike is left alike where they are left out
sums-real : (f g : Edge → ℕ) → ((edge : Edge) → has_two_ends edge ≡ false → f edge ≡ g edge) → (edges : List Edge) → sum_by f (real_edges edges) + sum_by g edges ≡ sum_by g (real_edges edges) + sum_by f edges
sums-real f g same [] = refl
sums-real f g same (edge ∷ edges) = by (has_two_ends edge) refl (sums-real f g same edges)
  where
    by : (t : Bool) → has_two_ends edge ≡ t → sum_by f (real_edges edges) + sum_by g edges ≡ sum_by g (real_edges edges) + sum_by f edges
        → sum_by f (cond t (edge ∷ real_edges edges) (real_edges edges)) + sum_by g (edge ∷ edges) ≡ sum_by g (cond t (edge ∷ real_edges edges) (real_edges edges)) + sum_by f (edge ∷ edges)
    by true is rest = omega (arith, rest, sum_by-cons f edge edges, sum_by-cons g edge edges, sum_by-cons f edge (real_edges edges), sum_by-cons g edge (real_edges edges))
    by false isnt rest = omega (arith, rest, same edge isnt, sum_by-cons f edge edges, sum_by-cons g edge edges)

-- of closed edges those that have two ends are closed
pub closed-real : (edges : List Edge) → IsClosed edges → IsClosed (real_edges edges)
closed-real edges closed test =
    let unit : Point → ℕ = λ point. cond (test point) 1 0 in
    let alike : (edge : Edge) → has_two_ends edge ≡ false → unit (start_of edge) ≡ unit (end_of edge) =
    λ edge isnt. ap₂ (λ (x y : ℤ). unit (record { x = x; y = y })) (points-same edge isnt).0 (points-same edge isnt).1 in
    let sums = sums-real (λ edge. unit (start_of edge)) (λ edge. unit (end_of edge)) alike edges in
    let all = closed test in
    omega (arith, sums, all)
