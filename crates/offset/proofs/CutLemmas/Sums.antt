-- A curve with cuts winds around the points of the sum, and around no others.
use Rattle.std.proofs.Common.{◌≡◌, ◌≢◌, ◌⊎◌, inl, inr, ⊎_elim, ℤ, pos, ◌+ℤ◌, ◌≤ℤ◌, ◌<ℤ◌, List, refl, subst, sym, ◌∙◌, arith}
use Rattle.std.specs.List.{All, Contains, flat_map}
use Rattle.std.proofs.lemmas.Int.{by_lt_z, ints}
use Rattle.std.proofs.lemmas.List.Elements.{All-contains}
use Rattle.i_tree.proofs.RootLemmas.Lists.{Contains-there}
use Rattle.plane.specs.declared.edge.Edge.{Edge}
use Rattle.plane.specs.declared.point.Point.{Point}
use Rattle.plane.specs.Ends.{end_of, start_of}
use Rattle.plane.specs.Meet.Edges.{RationalPoint}
use Rattle.plane.proofs.MeetLemmas.Along.{same_or_apart}
use Rattle.noding.specs.Windings.{winding}
use Rattle.overlay.specs.Contours.Rings.{ring_edges}
use Rattle.overlay.specs.Fill.Pieces.{total}
use Rattle.overlay.proofs.FillLemmas.Premises.{All-among}
use Rattle.overlay.proofs.GroupingLemmas.Bags.{Contains-in_flat_map}
use Rattle.offset.specs.Cuts.{IsCurve, IsCurveOfRing, cut}
use Rattle.offset.specs.Raw.{GoesThrough, furthest, moved_edge, raw_edges}
use Rattle.offset.specs.Shape.{IsConvexAroundOrigin, neighbours, sides}
use Rattle.offset.specs.Sum.{IsOfSum, IsOfSumBeyond}
use Rattle.offset.proofs.CoverLemmas.Lines.{generic-off, lines, lines_of, lines_of_two}
use Rattle.offset.proofs.CoverLemmas.Sides.{ahead, side_of}
use Rattle.offset.proofs.CoverLemmas.Vectors.{crossed, turn_back}
use Rattle.offset.proofs.CutLemmas.Curves.{curve-bounds, curve-cut-held, curve-differs, curve-moved-held, curve-side-held, cut_winds, joint-told}
use Rattle.offset.proofs.CutLemmas.Fewer.{fewer-cuts}
use Rattle.offset.proofs.CutLemmas.Triangles.{cut-winds, sum-of_cut}
use Rattle.offset.proofs.CutLemmas.Walks.{IsOffEdge}
use Rattle.offset.proofs.OffsetLemmas.{has-near, lines-proper, not-too-little}
use Rattle.offset.proofs.PieceLemmas.Convex.{furthest-is, furthest-pair}
use Rattle.offset.proofs.PieceLemmas.Parts.{parts_wind, raw-natural}
use Rattle.offset.proofs.PieceLemmas.Rounds.{neighbours-held}
use Rattle.offset.proofs.PieceLemmas.Shifts.{from-generic, somewhere-generic}
use Rattle.offset.proofs.PieceLemmas.Sides.{left_by}
use Rattle.offset.proofs.PieceLemmas.Sums.{furthest-held, not-too-much-off}
use Rattle.offset.proofs.SideLemmas.Inner.{BoundOnce}

module _ (corners : List Point) (convex : IsConvexAroundOrigin corners) (rings : List (List Point)) (bounds : BoundOnce (flat_map ring_edges rings)) (raw : List Edge) (is : IsCurve corners rings raw) where
  abbrev edges : List Edge
  edges = flat_map ring_edges rings

  abbrev IsProper : Edge → Type 0
  IsProper edge = start_of edge ≢ end_of edge

  proper-edge : (edge : Edge) → Contains edges edge → IsProper edge
  proper-edge edge held = All-contains IsProper edges edge bounds.two_ends held

  -- ---- points off the lines

  module _ (point : RationalPoint) (off : All (λ line. left_by line point ≢ pos 0) (lines (sides corners) edges)) where
    -- a point off all lines is off those of each edge and its furthest corner
    off-edge : (edge : Edge) → Contains edges edge → IsOffEdge corners edge point
    off-edge edge held =
        let (two, pair, tells) = furthest-pair corners convex edge (proper-edge edge held) in
        let corner = furthest-is corners convex edge two pair tells in
        let of_sides = (neighbours-held (sides corners) two.0 two.1 pair).1 in
        let off_lines = (generic-off (sides corners) edges point off).off edge held in
        let band = moved_edge (start_of two.1) edge in
        record {
          off = off_lines.off;
          start = subst (λ (c : Point). crossed c (ahead point (start_of edge)) ≢ pos 0) corner (λ none. off_lines.start two.1 of_sides (let same = turn_back (ahead point (start_of edge)) (start_of two.1) in omega (arith, ints, none, same)));
          end = subst (λ (c : Point). crossed c (ahead point (end_of edge)) ≢ pos 0) corner (λ none. off_lines.end two.1 of_sides (let same = turn_back (ahead point (end_of edge)) (start_of two.1) in omega (arith, ints, none, same)));
          band = subst (λ (c : Point). side_of (moved_edge c edge) point ≢ pos 0) corner
              (All-contains (λ (line : Edge). side_of line point ≢ pos 0) (lines (sides corners) edges) band off
              (Contains-in_flat_map (lines_of (sides corners)) edges edge band held
              (Contains-there edge (flat_map (lines_of_two edge) (sides corners)) band (Contains-in_flat_map (lines_of_two edge) (sides corners) two.1 band of_sides (2, omega arith, refl)))));
        }

    -- so fewer cuts of a ring wind around it than bands
    fewer : (ring : List Point) (curve : List Edge) (of : IsCurveOfRing corners ring curve) → Contains rings ring
        → (total (cut_winds corners point) of.joints ≡ pos 0) ⊎ (total (cut_winds corners point) of.joints <ℤ total (parts_wind corners convex point) (neighbours (ring_edges ring)))
    fewer ring curve of among =
        fewer-cuts corners convex ring curve of
        (All-among IsProper (ring_edges ring) (λ edge held. proper-edge edge (Contains-in_flat_map ring_edges rings ring edge among held)))
        point
        (λ edge held. off-edge edge (Contains-in_flat_map ring_edges rings ring edge among held))

    -- and the curve winds as the raw curve does, or more often than the edges
    bounded : (winding raw point ≡ winding (raw_edges corners rings) point) ⊎ (winding edges point <ℤ winding raw point)
    bounded = curve-bounds corners convex point rings raw is bounds.two_ends fewer

    -- so no less often than around the points outside
    natural-generic : bounds.outer ≤ℤ winding raw point
    natural-generic = from (winding edges point) (winding (raw_edges corners rings) point) (winding raw point) (bounds.once point) (raw-natural corners convex rings bounds.two_ends point) bounded
      where
        from : (e r c : ℤ) → (e ≡ bounds.outer) ⊎ (e ≡ (bounds.outer +ℤ pos 1)) → e ≤ℤ r → (c ≡ r) ⊎ (e <ℤ c) → bounds.outer ≤ℤ c
        from e r c (inl none) natural (inl same) = omega (arith, ints, none, natural, same)
        from e r c (inl none) natural (inr above) = omega (arith, ints, none, above)
        from e r c (inr one) natural (inl same) = omega (arith, ints, one, natural, same)
        from e r c (inr one) natural (inr above) = omega (arith, ints, one, above)

    -- and not just so often if the point is of the sum
    winds-generic : IsOfSumBeyond bounds.outer edges corners point → winding raw point ≢ bounds.outer
    winds-generic sum none =
        ⊎_elim
        (λ same. not-too-little corners convex rings bounds point sum (sym same ∙ none))
        (λ above. never (winding edges point) (winding raw point) (bounds.once point) above none)
        bounded
      where
        never : (e c : ℤ) → (e ≡ bounds.outer) ⊎ (e ≡ (bounds.outer +ℤ pos 1)) → e <ℤ c → c ≢ bounds.outer
        never e c (inl outside) above none = omega (arith, ints, outside, above, none)
        never e c (inr inside) above none = omega (arith, ints, inside, above, none)

  -- ---- all points

  -- the curve winds around no point less often than around those outside
  natural-all : (point : RationalPoint) → bounds.outer ≤ℤ winding raw point
  natural-all point =
      let (other, off, same) = somewhere-generic raw (lines (sides corners) edges) (lines-proper corners convex rings bounds) point in
      let natural = natural-generic other off in
      omega (arith, ints, natural, same)

  -- around each point of the sum it winds unlike around those
  winds-all : (point : RationalPoint) → IsOfSumBeyond bounds.outer edges corners point → winding raw point ≢ bounds.outer
  winds-all point sum = from-generic bounds.outer edges raw (lines (sides corners) edges) corners (lines-proper corners convex rings bounds) winds-generic point sum

  module _ (point : RationalPoint) (off : All (λ edge. ¬ (GoesThrough edge point)) raw) where
    off-of : (edge : Edge) → Contains raw edge → ¬ (GoesThrough edge point)
    off-of edge held = All-contains (λ (e : Edge). ¬ (GoesThrough e point)) raw edge off held

    -- where it winds unlike the raw curve, the point is cut off somewhere, and of the sum
    of-cut : winding raw point ≢ winding (raw_edges corners rings) point → IsOfSumBeyond bounds.outer edges corners point
    of-cut differs =
        let (ring, curve, among, of, inside, joint, held, marked, winds) = curve-differs corners convex point rings raw is bounds.two_ends differs in
        let (pair, told) = joint-told corners ring curve of joint held in
        let (right, turned) = told marked in
        let (first, second) = neighbours-held (ring_edges ring) joint.0.0 joint.0.1 pair in
        let edge_held = Contains-in_flat_map ring_edges rings ring joint.0.0 among first in
        let next_held = Contains-in_flat_map ring_edges rings ring joint.0.1 among second in
        sum-of_cut bounds.outer edges corners convex (has-near corners convex rings bounds) point joint.0.0 edge_held
        (furthest corners joint.0.0) (furthest corners joint.0.1) (furthest-held corners convex joint.0.0 (proper-edge joint.0.0 edge_held)) (furthest-held corners convex joint.0.1 (proper-edge joint.0.1 next_held))
        ((cut-winds (end_of joint.0.0) (furthest corners joint.0.0) (furthest corners joint.0.1) turned point).1 winds)
        (off-of (cut corners joint.0) (inside (cut corners joint.0) (curve-cut-held corners ring curve of joint held marked)))

    -- where the raw curve winds unlike around the points outside, it is of the sum, too
    of-raw : winding (raw_edges corners rings) point ≢ bounds.outer → IsOfSumBeyond bounds.outer edges corners point
    of-raw =
        not-too-much-off corners convex bounds.outer rings bounds.two_ends (has-near corners convex rings bounds) point
        (λ edge next follows. off-of (moved_edge (furthest corners edge) edge) (curve-moved-held corners rings raw is edge next follows))
        (λ edge next side follows left among. off-of (moved_edge (end_of edge) side) (curve-side-held corners rings raw is edge next side follows left among))

    of-sum : winding raw point ≢ bounds.outer → IsOfSumBeyond bounds.outer edges corners point
    of-sum winds = ⊎_elim (λ same. of-raw (λ none. winds (same ∙ none))) of-cut (same_or_apart (winding raw point) (winding (raw_edges corners rings) point))

    -- Around a point that isn't of it, the curve winds more often than around those outside where this is of the sum, and else just
    -- so often.
    pub curve-sum : (IsOfSumBeyond bounds.outer edges corners point × (bounds.outer <ℤ winding raw point)) ⊎ ((¬ (IsOfSumBeyond bounds.outer edges corners point)) × (winding raw point ≡ bounds.outer))
    curve-sum =
        by_lt_z bounds.outer (winding raw point)
        (λ above. inl (of-sum (λ none. omega (arith, ints, above, none)), above))
        (λ upto.
        let natural = natural-all point in
        let none : winding raw point ≡ bounds.outer = omega (arith, ints, natural, upto) in
        inr ((λ sum. winds-all point sum none), none))

-- Where the rings wind around nothing outside, it winds around the points of the sum, and around no others.
pub curve-only : (corners : List Point) → IsConvexAroundOrigin corners → (rings : List (List Point)) (bounds : BoundOnce (flat_map ring_edges rings)) → bounds.outer ≡ pos 0 → (raw : List Edge) → IsCurve corners rings raw → (point : RationalPoint)
    → All (λ edge. ¬ (GoesThrough edge point)) raw
    → (IsOfSum (flat_map ring_edges rings) corners point × (pos 0 <ℤ winding raw point)) ⊎ ((¬ (IsOfSum (flat_map ring_edges rings) corners point)) × (winding raw point ≡ pos 0))
curve-only corners convex rings bounds outside raw is point off =
    subst (λ (outer : ℤ). (IsOfSumBeyond outer (flat_map ring_edges rings) corners point × (outer <ℤ winding raw point)) ⊎ ((¬ (IsOfSumBeyond outer (flat_map ring_edges rings) corners point)) × (winding raw point ≡ outer)))
    outside (curve-sum corners convex rings bounds raw is point off)
