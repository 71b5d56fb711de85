-- A raw curve within rings that bound a region, cut where that is safe, winds -1 times around each point from which the shape lies
-- inside, and 0 times or more often around any other.
use Rattle.std.proofs.Common.{◌≡◌, ◌≢◌, ◌⊎◌, inl, inr, ⊎_elim, ℕ, ◌*◌, ℤ, pos, negsuc, ◌+ℤ◌, ◌-ℤ◌, ◌*ℤ◌, ◌≤ℤ◌, ◌<ℤ◌, List, map, refl, ap, subst, sym, ◌∙◌, arith}
use Rattle.std.specs.List.{All, flat_map}
use Rattle.std.proofs.lemmas.Int.{ints}
use Rattle.plane.specs.declared.edge.Edge.{Edge}
use Rattle.plane.specs.declared.point.Point.{Point}
use Rattle.plane.specs.Ends.{end_of, start_of}
use Rattle.plane.specs.Meet.Edges.{RationalPoint}
use Rattle.plane.proofs.MeetLemmas.Identities.{identity, minus, number, plus, times}
use Rattle.noding.specs.Windings.{IsClosed, winding}
use Rattle.noding.proofs.SnapLemmas.Numbers.{n_of}
use Rattle.overlay.specs.Contours.Rings.{ring_edges}
use Rattle.offset.specs.Cuts.{IsCurve}
use Rattle.offset.specs.Raw.{GoesThrough, backwards}
use Rattle.offset.specs.Shape.{IsConvexAroundOrigin, IsIn, opposite_shape}
use Rattle.offset.specs.Sum.{IsMovedBy, IsOfErosion, IsOfSumBeyond}
use Rattle.offset.proofs.BackLemmas.{back_edges, bound-back, outer-back, two-back, winding-back}
use Rattle.offset.proofs.CutLemmas.Curves.{curve-closed}
use Rattle.offset.proofs.CutLemmas.Sums.{curve-sum}
use Rattle.offset.proofs.OppositeLemmas.{convex-opposite, of-opposite, opposite-of, opposite_point}
use Rattle.offset.proofs.SideLemmas.Inner.{BoundOnce}

-- a sum, told from one of the two: one axis
moved-back : (n m r : ℕ) (p q k : ℤ) → (pos (r * m) *ℤ p) ≡ (pos n *ℤ ((q *ℤ pos m) +ℤ (k *ℤ pos r))) → (pos (n * m) *ℤ q) ≡ (pos r *ℤ ((p *ℤ pos m) +ℤ ((pos 0 -ℤ k) *ℤ pos n)))
moved-back n m r p q k is =
    let one = identity (times (n_of (r * m)) (number p)) (times (n_of r) (times (number p) (n_of m))) (omega arith) in
    let two = identity (times (n_of n) (plus (times (number q) (n_of m)) (times (number k) (n_of r)))) (plus (times (n_of (n * m)) (number q)) (times (n_of r) (times (number k) (n_of n)))) (omega arith) in
    let three = identity (times (n_of r) (plus (times (number p) (n_of m)) (times (minus (n_of 0) (number k)) (n_of n)))) (minus (times (n_of r) (times (number p) (n_of m))) (times (n_of r) (times (number k) (n_of n)))) (omega arith) in
    omega (arith, ints, is, one, two, three)

-- and put together again
moved-on : (n m r : ℕ) (p q k : ℤ) → (pos (n * m) *ℤ q) ≡ (pos r *ℤ ((p *ℤ pos m) +ℤ (k *ℤ pos n))) → (pos (r * m) *ℤ p) ≡ (pos n *ℤ ((q *ℤ pos m) +ℤ ((pos 0 -ℤ k) *ℤ pos r)))
moved-on n m r p q k is = moved-back r m n q p k is

-- A raw curve within rings is closed.
pub inside-closed : (corners : List Point) → IsConvexAroundOrigin corners → (rings : List (List Point)) (raw : List Edge) → IsCurve (opposite_shape corners) (map backwards rings) raw → All (λ edge. start_of edge ≢ end_of edge) (flat_map ring_edges rings) → IsClosed raw
inside-closed corners convex rings raw is proper = curve-closed (opposite_shape corners) (convex-opposite corners convex) (map backwards rings) raw is (two-back rings proper)

module _ (corners : List Point) (convex : IsConvexAroundOrigin corners) (rings : List (List Point)) (bounds : BoundOnce (flat_map ring_edges rings)) (outside : bounds.outer ≡ pos 0) (raw : List Edge) (curve : IsCurve (opposite_shape corners) (map backwards rings) raw) where
  abbrev edges : List Edge
  edges = flat_map ring_edges rings

  -- how often the rings wind the other way round around points inside
  abbrev outer : ℤ
  outer = pos 0 -ℤ (bounds.outer +ℤ pos 1)

  module _ (point : RationalPoint) where
    -- no point moved by one of the shape is outside, if none is the sum of one outside and an opposite
    is-left : ¬ (IsOfSumBeyond outer (back_edges rings) (opposite_shape corners) point) → IsOfErosion edges corners point
    is-left never by to of moved none =
        never (record {
          from = to;
          by = opposite_point by;
          inside = λ same. outside-not (winding edges to) (winding (back_edges rings) to) (winding-back rings to) none same;
          of_shape = opposite-of corners by of;
          x = moved-on point.n by.n to.n point.x to.x by.x moved.x;
          y = moved-on point.n by.n to.n point.y to.y by.y moved.y;
        })
      where
        outside-not : (w z : ℤ) → z ≡ (pos 0 -ℤ w) → w ≡ pos 0 → z ≡ (pos 0 -ℤ (bounds.outer +ℤ pos 1)) → ⊥
        outside-not w z is zero same = let none = outside in omega (arith, ints, is, zero, same, none)

    -- and some is, if it is such a sum
    isnt-left : IsOfSumBeyond outer (back_edges rings) (opposite_shape corners) point → ¬ (IsOfErosion edges corners point)
    isnt-left sum erosion =
        erosion (opposite_point sum.by) sum.from (of-opposite corners sum.by sum.of_shape)
        (record { x = moved-back point.n sum.by.n sum.from.n point.x sum.from.x sum.by.x sum.x; y = moved-back point.n sum.by.n sum.from.n point.y sum.from.y sum.by.y sum.y })
        (is-outside (winding edges sum.from) (winding (back_edges rings) sum.from) (winding-back rings sum.from) (bounds.once sum.from) sum.inside)
      where
        is-outside : (w z : ℤ) → z ≡ (pos 0 -ℤ w) → (w ≡ bounds.outer) ⊎ (w ≡ (bounds.outer +ℤ pos 1)) → z ≢ (pos 0 -ℤ (bounds.outer +ℤ pos 1)) → w ≡ pos 0
        is-outside w z is (inl out) differ = out ∙ outside
        is-outside w z is (inr in_it) differ = absurd (differ (omega (arith, ints, is, in_it)))

    -- Around a point that isn't of it, it winds -1 times where the shape lies inside from there, and else 0 times or more.
    pub winds-erosion : All (λ edge. ¬ (GoesThrough edge point)) raw
        → (IsOfErosion edges corners point × (winding raw point ≡ negsuc 0)) ⊎ ((¬ (IsOfErosion edges corners point)) × (pos 0 ≤ℤ winding raw point))
    winds-erosion off =
        by (subst (λ (out : ℤ). (IsOfSumBeyond out (back_edges rings) (opposite_shape corners) point × (out <ℤ winding raw point)) ⊎ ((¬ (IsOfSumBeyond out (back_edges rings) (opposite_shape corners) point)) × (winding raw point ≡ out)))
        (outer-back rings bounds) (curve-sum (opposite_shape corners) (convex-opposite corners convex) (map backwards rings) (bound-back rings bounds) raw curve point off))
      where
        by : (IsOfSumBeyond outer (back_edges rings) (opposite_shape corners) point × (outer <ℤ winding raw point)) ⊎ ((¬ (IsOfSumBeyond outer (back_edges rings) (opposite_shape corners) point)) × (winding raw point ≡ outer))
            → (IsOfErosion edges corners point × (winding raw point ≡ negsuc 0)) ⊎ ((¬ (IsOfErosion edges corners point)) × (pos 0 ≤ℤ winding raw point))
        by (inl (sum, above)) = inr (isnt-left sum, (let none = outside in omega (arith, ints, none, above)))
        by (inr (never, same)) = inl (is-left never, (let none = outside in omega (arith, ints, none, same)))
