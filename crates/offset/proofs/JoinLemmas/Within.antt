-- What bevels leave of the Minkowski sum lies in it.
use Rattle.std.proofs.Common.{◌≡◌, ◌≢◌, inl, inr, ℤ, pos, ◌<ℤ◌, Bool, true, false, cond, List, [], ◌∷◌, map, refl, subst, sym, arith}
use Rattle.std.specs.List.{All, Contains, flat_map}
use Rattle.std.specs.Prelude.{int_lt}
use Rattle.std.proofs.lemmas.Int.{ints}
use Rattle.std.proofs.lemmas.List.Elements.{All-contains}
use Rattle.i_tree.proofs.RootLemmas.Lists.{Contains-here, Contains-there}
use Rattle.plane.specs.declared.edge.Edge.{Edge}
use Rattle.plane.specs.declared.point.Point.{Point}
use Rattle.plane.specs.Ends.{end_of, start_of}
use Rattle.plane.specs.Meet.Edges.{RationalPoint}
use Rattle.plane.proofs.PairsLemmas.Bags.{Contains-map}
use Rattle.overlay.specs.Areas.{swept}
use Rattle.overlay.specs.Contours.Rings.{ring_edges}
use Rattle.overlay.proofs.GroupingLemmas.Bags.{Contains-flat_map, Contains-in_flat_map}
use Rattle.offset.specs.declared.joins.Join.TheVariants.{Bevel}
use Rattle.offset.specs.Joins.{IsOfBevelled, bevel, bevelled_joint, chord, corners_of, joined_edges, joined_of_ring, joined_of_two}
use Rattle.offset.specs.Raw.{GoesThrough, fan, furthest, moved_edge, ways}
use Rattle.offset.specs.Shape.{IsConvexAroundOrigin, neighbours, turn}
use Rattle.offset.specs.Sum.{IsOfSum}
use Rattle.offset.proofs.JoinLemmas.Bevels.{All-one, bevel-left, origin}
use Rattle.offset.proofs.JoinLemmas.Pairs.{corner-of}
use Rattle.offset.proofs.OffsetLemmas.{has-near}
use Rattle.offset.proofs.PieceLemmas.Bands.{part-winds}
use Rattle.offset.proofs.PieceLemmas.Parts.{edge-band-winds, fan-held, furthest-beside}
use Rattle.offset.proofs.PieceLemmas.Rounds.{start-held}
use Rattle.offset.proofs.PieceLemmas.Sums.{HaveNear, end-held, furthest-held, sum-itself, sum-of_band, sum-of_part}
use Rattle.offset.proofs.SideLemmas.Inner.{BoundOnce}

module _ (corners : List Point) (convex : IsConvexAroundOrigin corners) where
  -- What a bevel takes goes from a corner to a corner.
  bevel-ends : (edge next side : Edge) → start_of edge ≢ end_of edge → start_of next ≢ end_of next → Contains (bevel corners edge next) side → Contains corners (start_of side) × Contains corners (end_of side)
  bevel-ends edge next side proper next_proper held = by (int_lt (pos 0) (swept (chord corners edge next))) held
    where
      Ends : Edge → Type 0
      Ends e = Contains corners (start_of e) × Contains corners (end_of e)

      by : (t : Bool) → Contains (cond t (chord corners edge next ∷ []) (fan corners edge next)) side → Ends side
      by true among = All-contains Ends (chord corners edge next ∷ []) side (All-one Ends (chord corners edge next) (furthest-held corners convex edge proper, furthest-held corners convex next next_proper)) among
      by false among =
          let is = fan-held corners convex origin edge next side among in
          (start-held corners side is, end-held corners convex side is)

  module _ (rings : List (List Point)) (bounds : BoundOnce (flat_map ring_edges rings)) (outside : bounds.outer ≡ pos 0) (point : RationalPoint)
      (off : All (λ edge. ¬ (GoesThrough edge point)) (joined_edges Bevel corners rings)) where
    near : HaveNear (pos 0) (flat_map ring_edges rings)
    near = subst (λ (outer : ℤ). HaveNear outer (flat_map ring_edges rings)) outside (has-near corners convex rings bounds)

    -- the point isn't on what is made of a corner
    off-made : (two : Edge × Edge) → Contains (corners_of rings) two → (edge : Edge) → Contains (joined_of_two Bevel corners two) edge → ¬ (GoesThrough edge point)
    off-made two held edge inside =
        let (ring, among, pair) = Contains-flat_map (λ (ring : List Point). neighbours (ring_edges ring)) rings two held in
        All-contains (λ (e : Edge). ¬ (GoesThrough e point)) (joined_edges Bevel corners rings) edge off
        (Contains-in_flat_map (joined_of_ring Bevel corners) rings ring edge among
        (Contains-in_flat_map (joined_of_two Bevel corners) (neighbours (ring_edges ring)) two edge pair inside))

    off-side : (two : Edge × Edge) → Contains (corners_of rings) two → pos 0 <ℤ turn two.0 two.1 → (side : Edge) → Contains (bevel corners two.0 two.1) side → ¬ (GoesThrough (moved_edge (end_of two.0) side) point)
    off-side two held left side among =
        off-made two held (moved_edge (end_of two.0) side)
        (Contains-there (moved_edge (furthest corners two.0) two.0) (bevelled_joint corners two.0 two.1) (moved_edge (end_of two.0) side) (by (int_lt (pos 0) (turn two.0 two.1)) refl))
      where
        by : (t : Bool) → int_lt (pos 0) (turn two.0 two.1) ≡ t
            → Contains (cond t (map (moved_edge (end_of two.0)) (bevel corners two.0 two.1)) (ways corners two.0 two.1)) (moved_edge (end_of two.0) side)
        by true is = Contains-map (moved_edge (end_of two.0)) (bevel corners two.0 two.1) side among
        by false is = absurd (omega (arith, ints, is, left))

    -- A point that bevels leave, and that isn't on the curve, is of the sum.
    pub bevelled-within : IsOfBevelled corners rings point → IsOfSum (flat_map ring_edges rings) corners point
    bevelled-within (inl inside) = sum-itself (pos 0) (flat_map ring_edges rings) corners convex point inside
    bevelled-within (inr (two, held, inl in_band)) =
        let pair = corner-of rings bounds.two_ends two held in
        let (first, second, third, fourth) = (edge-band-winds corners convex point two.0 pair.proper).closed in_band in
        sum-of_band (pos 0) (flat_map ring_edges rings) corners convex near point two.0 pair.held (furthest corners two.0) (furthest-held corners convex two.0 pair.proper) (furthest-beside corners convex two.0 pair.proper)
        first second third fourth
        (off-made two held (moved_edge (furthest corners two.0) two.0) (Contains-here (moved_edge (furthest corners two.0) two.0) (bevelled_joint corners two.0 two.1)))
    bevelled-within (inr (two, held, inr (left, side, among, winds))) =
        let pair = corner-of rings bounds.two_ends two held in
        let left_of = bevel-left corners convex two.0 two.1 side among in
        let (first, second, third) = (part-winds (end_of two.0) side point left_of).closed winds in
        let (starts, ends) = bevel-ends two.0 two.1 side pair.proper pair.next_proper among in
        sum-of_part (pos 0) (flat_map ring_edges rings) corners convex near point two.0 pair.held side left_of starts ends first second third (off-side two held left side among)
