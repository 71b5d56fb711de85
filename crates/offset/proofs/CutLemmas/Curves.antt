-- How a curve with cuts winds: as the raw curve does without them, less the triangles that are cut off. And it is closed.
use Rattle.std.proofs.Common.{◌≡◌, ◌≢◌, ◌⊎◌, inl, inr, ⊎_elim, ℕ, ◌+◌, ◌<◌, ℤ, pos, ◌+ℤ◌, ◌-ℤ◌, ◌≤ℤ◌, ◌<ℤ◌, Bool, true, false, cond, nat_eq, List, [], ◌∷◌, get_or, length, map, refl, ap, subst, sym, ◌∙◌, arith}
use Rattle.std.specs.List.{All, AllZip, Contains, flat_map}
use Rattle.std.specs.Prelude.{int_lt}
use Rattle.std.proofs.lemmas.Bool.{eqb-true}
use Rattle.std.proofs.lemmas.Int.{by_lt_z, ints}
use Rattle.std.proofs.lemmas.List.{get_or-map}
use Rattle.std.proofs.lemmas.List.Elements.{All-append, All-contains, All-nil, Contains-get_or}
use Rattle.plane.specs.declared.edge.Edge.{Edge}
use Rattle.plane.specs.declared.point.Point.{Point}
use Rattle.plane.specs.Ends.{edge_between, end_of, start_of}
use Rattle.plane.specs.Meet.Edges.{RationalPoint}
use Rattle.noding.specs.Windings.{IsClosed, count, winding}
use Rattle.overlay.specs.Contours.Rings.{ring_edges}
use Rattle.overlay.specs.Fill.Pieces.{total}
use Rattle.offset.specs.Cuts.{IsCurve, IsCurveOfRing, IsSafe, curve_of_two, cut, edge_at}
use Rattle.offset.specs.Pieces.{part_of_fan}
use Rattle.offset.specs.Raw.{fan, furthest, joint, moved, moved_edge, nowhere, raw_edges, raw_of_ring, raw_of_two, ways}
use Rattle.offset.specs.Shape.{IsConvexAroundOrigin, neighbours, turn}
use Rattle.plane.proofs.MeetLemmas.Identities.{Term, identity, minus, number, plus, times}
use Rattle.plane.proofs.PairsLemmas.Bags.{Contains-from_map, Contains-map}
use Rattle.noding.proofs.ChainLemmas.Zips.{AllZip-at, AllZip-length}
use Rattle.overlay.proofs.FillLemmas.Premises.{All-among}
use Rattle.overlay.proofs.FillLemmas.Totals.{total-append, total-difference, total-none, total-same}
use Rattle.overlay.proofs.GroupingLemmas.Bags.{Contains-in_flat_map}
use Rattle.i_tree.proofs.RootLemmas.Joined.{All-behind, All-front}
use Rattle.i_tree.proofs.RootLemmas.Lists.{Contains-here, Contains-there}
use Rattle.offset.proofs.ShapeLemmas.{neighbour-at}
pub use Rattle.offset.proofs.ShapeLemmas.{length-neighbours as pairs-length}
use Rattle.offset.proofs.CoverLemmas.Vectors.{crossed, turn_back}
use Rattle.offset.proofs.PieceLemmas.Closed.{counted, joint-gains, raw-gains}
use Rattle.offset.proofs.PieceLemmas.Parts.{Follows, all_parts_wind, fan_winds, joint-counts, moved-exchanged, parts_wind, raw-natural, raw-winds, total-flat, total-map, total-some}
use Rattle.offset.proofs.PieceLemmas.Rounds.{neighbours-held}
use Rattle.offset.proofs.PieceLemmas.Sides.{all_passed, passed_by, winding-passed}
use Rattle.offset.proofs.CutLemmas.Triangles.{cut-counts, cut_off}

-- What is cut off at a joint winds so often.
abbrev pub cut_winds : List Point → RationalPoint → (Edge × Edge) × Bool → ℤ
cut_winds corners point joint = cond joint.1 (winding (cut_off (end_of joint.0.0) (furthest corners joint.0.0) (furthest corners joint.0.1)) point) (pos 0)

-- ---- joints

-- The pair at each place but the last is the edge there and the next one.
pub pair-at : (edges : List Edge) (index : ℕ) (d : Edge × Edge) → index + 1 < length edges → get_or (neighbours edges) index d ≡ (edge_at edges index, edge_at edges (index + 1))
pair-at edges index d inside =
    neighbour-at edges index nowhere d (omega (arith, inside)) ∙ ap (λ (place : ℕ). (edge_at edges index, edge_at edges place)) (by (nat_eq (index + 1) (length edges)) refl)
  where
    by : (t : Bool) → nat_eq (index + 1) (length edges) ≡ t → cond t 0 (index + 1) ≡ index + 1
    by true is = absurd (let same = eqb-true (index + 1) (length edges) is in omega (arith, inside, same))
    by false is = refl

-- Ways from points to where corners move them turn as the corners do.
spokes-turn : (one other from to : Point) → turn (edge_between one (moved from one)) (edge_between other (moved to other)) ≡ crossed from to
spokes-turn one other from to =
    identity (minus (times (along from.x one.x) (along to.y other.y)) (times (along from.y one.y) (along to.x other.x)))
    (minus (times (number from.x) (number to.y)) (times (number from.y) (number to.x))) (omega arith)
  where
    along : ℤ → ℤ → Term
    along by at = minus (plus (number by) (number at)) (number at)

module _ (corners ring : List Point) (curve : List Edge) (is : IsCurveOfRing corners ring curve) where
  -- Each joint is of two edges that follow each other. Where it is cut, they don't turn left, and the corner of the edge lies to
  -- the left of that of the next one.
  pub joint-told : (joint : (Edge × Edge) × Bool) → Contains is.joints joint
      → Contains (neighbours (ring_edges ring)) joint.0
      × (joint.1 ≡ true → (turn joint.0.0 joint.0.1 ≤ℤ pos 0) × (pos 0 <ℤ crossed (furthest corners joint.0.1) (furthest corners joint.0.0)))
  joint-told joint (k, within, at) = (
    subst (λ (pairs : List (Edge × Edge)). Contains pairs joint.0) is.pairs (Contains-map (λ (j : (Edge × Edge) × Bool). j.0) is.joints joint (k, within, at)),
    λ marked. told (is.safe k joint within (ap (λ (j : (Edge × Edge) × Bool). j.1) at ∙ marked)),
  )
    where
      edges : List Edge
      edges = ring_edges ring

      here : joint.0 ≡ (edge_at edges k, edge_at edges (k + 1)) → IsSafe corners edges k → (turn joint.0.0 joint.0.1 ≤ℤ pos 0) × (pos 0 <ℤ crossed (furthest corners joint.0.1) (furthest corners joint.0.0))
      here same safe = subst (λ (two : Edge × Edge). (turn two.0 two.1 ≤ℤ pos 0) × (pos 0 <ℤ crossed (furthest corners two.1) (furthest corners two.0))) (sym same) (safe.right, clockwise)
        where
          clockwise : pos 0 <ℤ crossed (furthest corners (edge_at edges (k + 1))) (furthest corners (edge_at edges k))
          clockwise =
              let apart = safe.apart in
              let turned = spokes-turn (end_of (edge_at edges k)) (start_of (edge_at edges (k + 1))) (furthest corners (edge_at edges k)) (furthest corners (edge_at edges (k + 1))) in
              let back = turn_back (furthest corners (edge_at edges (k + 1))) (furthest corners (edge_at edges k)) in
              omega (arith, ints, apart, turned, back)

      told : IsSafe corners edges k → (turn joint.0.0 joint.0.1 ≤ℤ pos 0) × (pos 0 <ℤ crossed (furthest corners joint.0.1) (furthest corners joint.0.0))
      told safe =
          here
          (ap (λ (j : (Edge × Edge) × Bool). j.0) (sym at)
          ∙ sym (get_or-map (λ (j : (Edge × Edge) × Bool). j.0) is.joints k joint joint.0 within)
          ∙ ap (λ (pairs : List (Edge × Edge)). get_or pairs k joint.0) is.pairs
          ∙ pair-at edges k joint.0 safe.inside)
          safe

  -- What is cut is an edge of the curve.
  pub curve-cut-held : (joint : (Edge × Edge) × Bool) → Contains is.joints joint → joint.1 ≡ true → Contains curve (cut corners joint.0)
  curve-cut-held joint held marked =
      subst (λ (edges : List Edge). Contains edges (cut corners joint.0)) (sym is.edges)
      (Contains-in_flat_map (curve_of_two corners) is.joints joint (cut corners joint.0) held
      (subst (λ (t : Bool). Contains (curve_of_two corners (joint.0, t)) (cut corners joint.0)) (sym marked)
      (Contains-there (moved_edge (furthest corners joint.0.0) joint.0.0) (cut corners joint.0 ∷ []) (cut corners joint.0) (Contains-here (cut corners joint.0) []))))

-- ---- sums over curves

module _ (corners : List Point) (give : Edge → ℤ) (less : (Edge × Edge) × Bool → ℤ) where
  -- the curve of a joint gives so much less than without a cut
  abbrev Gives : (Edge × Edge) × Bool → Type 0
  Gives joint = total give (curve_of_two corners joint) ≡ (total give (raw_of_two corners joint.0) -ℤ less joint)

  -- So the curve of a ring gives that much less, over all joints, and that of rings.
  ring-less : (ring : List Point) (curve : List Edge) (is : IsCurveOfRing corners ring curve) → ((joint : (Edge × Edge) × Bool) → Contains is.joints joint → Gives joint)
      → total give curve ≡ (total give (raw_of_ring corners ring) -ℤ total less is.joints)
  ring-less ring curve is each =
      ap (total give) is.edges
      ∙ total-flat give (curve_of_two corners) is.joints
      ∙ total-same (λ (j : (Edge × Edge) × Bool). total give (curve_of_two corners j)) (λ (j : (Edge × Edge) × Bool). total give (raw_of_two corners j.0) -ℤ less j) is.joints (All-among Gives is.joints each)
      ∙ total-difference (λ (j : (Edge × Edge) × Bool). total give (raw_of_two corners j.0)) less is.joints
      ∙ ap (λ (z : ℤ). z -ℤ total less is.joints)
      (sym (total-map (λ (two : Edge × Edge). total give (raw_of_two corners two)) (λ (j : (Edge × Edge) × Bool). j.0) is.joints)
      ∙ ap (total (λ (two : Edge × Edge). total give (raw_of_two corners two))) is.pairs
      ∙ sym (total-flat give (raw_of_two corners) (neighbours (ring_edges ring))))

  -- what all cuts give less
  abbrev lessened : (rings : List (List Point)) (curves : List (List Edge)) → AllZip (IsCurveOfRing corners) rings curves → ℤ
  lessened [] [] are = pos 0
  lessened [] (curve ∷ curves) are = absurd are
  lessened (ring ∷ rings) [] are = absurd are
  lessened (ring ∷ rings) (curve ∷ curves) (is, are) = total less is.joints +ℤ lessened rings curves are

  rings-less : (rings : List (List Point)) (curves : List (List Edge)) (are : AllZip (IsCurveOfRing corners) rings curves)
      → ((ring : List Point) (curve : List Edge) (is : IsCurveOfRing corners ring curve) → Contains rings ring → (joint : (Edge × Edge) × Bool) → Contains is.joints joint → Gives joint)
      → total give (flat_map (λ curve. curve) curves) ≡ (total give (raw_edges corners rings) -ℤ lessened rings curves are)
  rings-less [] [] are each = refl
  rings-less [] (curve ∷ curves) are each = absurd are
  rings-less (ring ∷ rings) [] are each = absurd are
  rings-less (ring ∷ rings) (curve ∷ curves) (is, are) each =
      let first = ring-less ring curve is (each ring curve is (Contains-here ring rings)) in
      let rest = rings-less rings curves are (λ other its_curve of held. each other its_curve of (Contains-there ring rings other held)) in
      let all = total-append give curve (flat_map (λ (c : List Edge). c) curves) in
      let raw = total-append give (raw_of_ring corners ring) (raw_edges corners rings) in
      omega (arith, ints, first, rest, all, raw)

-- Of an edge of rings and the next one neither is a point.
module _ (corners : List Point) (rings : List (List Point)) (proper : All (λ edge. start_of edge ≢ end_of edge) (flat_map ring_edges rings)) (ring : List Point) (held : Contains rings ring) where
  two-proper : (one other : Edge) → Contains (neighbours (ring_edges ring)) (one, other) → (start_of one ≢ end_of one) × (start_of other ≢ end_of other)
  two-proper one other pair = (
    All-contains (λ (e : Edge). start_of e ≢ end_of e) (flat_map ring_edges rings) one proper (Contains-in_flat_map ring_edges rings ring one held (neighbours-held (ring_edges ring) one other pair).0),
    All-contains (λ (e : Edge). start_of e ≢ end_of e) (flat_map ring_edges rings) other proper (Contains-in_flat_map ring_edges rings ring other held (neighbours-held (ring_edges ring) one other pair).1),
  )

-- ---- how a curve winds

-- what all cuts wind
abbrev all_cuts : (corners : List Point) (point : RationalPoint) (rings : List (List Point)) (curves : List (List Edge)) → AllZip (IsCurveOfRing corners) rings curves → ℤ
all_cuts corners point rings curves are = lessened corners (λ edge. passed_by edge point) (cut_winds corners point) rings curves are

-- a number is 0 or it isn't
none-or : (z : ℤ) → (z ≡ pos 0) ⊎ (z ≢ pos 0)
none-or z =
    by_lt_z (pos 0) z
    (λ above. inr (λ none. omega (arith, ints, none, above)))
    (λ upto. by_lt_z z (pos 0)
    (λ below. inr (λ none. omega (arith, ints, none, below)))
    (λ from. inl (omega (arith, ints, upto, from))))

module _ (corners : List Point) (convex : IsConvexAroundOrigin corners) (point : RationalPoint) where
  -- Edges that don't turn left have no fan.
  no-fan : (edge next : Edge) → turn edge next ≤ℤ pos 0 → fan_winds corners convex point edge next ≡ pos 0
  no-fan edge next right = by (int_lt (pos 0) (turn edge next)) refl
    where
      by : (t : Bool) → int_lt (pos 0) (turn edge next) ≡ t → cond t (total (λ side. winding (part_of_fan (end_of edge) side) point) (fan corners edge next)) (pos 0) ≡ pos 0
      by true is = absurd (omega (arith, ints, is, right))
      by false is = refl

  -- What is cut counts the less by what is cut off.
  two-less : (two : Edge × Edge) (mark : Bool) → start_of two.0 ≢ end_of two.0 → start_of two.1 ≢ end_of two.1 → (mark ≡ true → turn two.0 two.1 ≤ℤ pos 0)
      → all_passed (curve_of_two corners (two, mark)) point ≡ (all_passed (raw_of_two corners two) point -ℤ cut_winds corners point (two, mark))
  two-less two false proper next_proper right = omega (arith, ints)
  two-less two true proper next_proper right =
      let ways = joint-counts corners convex point two.0 two.1 proper next_proper in
      let across = cut-counts (end_of two.0) (furthest corners two.0) (furthest corners two.1) point in
      let none = no-fan two.0 two.1 (right refl) in
      let there = spoke-exchanged (furthest corners two.1) in
      let back = spoke-exchanged (furthest corners two.0) in
      omega (arith, ints, ways, across, none, there, back)
    where
      spoke-exchanged : (corner : Point) → passed_by (edge_between (end_of two.0) (moved corner (end_of two.0))) point ≡ passed_by (edge_between (end_of two.0) (moved (end_of two.0) corner)) point
      spoke-exchanged corner = ap (λ (end : Point). passed_by (edge_between (end_of two.0) end) point) (moved-exchanged corner (end_of two.0))

module _ (corners : List Point) (convex : IsConvexAroundOrigin corners) (point : RationalPoint) where
  -- what the parts of a ring wind
  abbrev parts_of : List Point → ℤ
  parts_of ring = total (parts_wind corners convex point) (neighbours (ring_edges ring))

  -- which is not less than not at all
  all-natural : (rings : List (List Point)) → All (λ edge. start_of edge ≢ end_of edge) (flat_map ring_edges rings) → pos 0 ≤ℤ all_parts_wind corners convex point rings
  all-natural rings proper =
      let sum = raw-winds corners convex point rings proper in
      let more = raw-natural corners convex rings proper point in
      omega (arith, ints, sum, more)

  parts-natural : (ring : List Point) → All (λ edge. start_of edge ≢ end_of edge) (ring_edges ring) → pos 0 ≤ℤ parts_of ring
  parts-natural ring proper =
      let alone = all-natural (ring ∷ []) (All-append (λ (e : Edge). start_of e ≢ end_of e) (ring_edges ring) [] proper (All-nil (λ (e : Edge). start_of e ≢ end_of e))) in
      omega (arith, ints, alone)

  -- No cut of the ring winds around the point, or fewer do than parts.
  abbrev pub HasFewerCuts : (ring : List Point) (curve : List Edge) → IsCurveOfRing corners ring curve → Type 0
  HasFewerCuts ring curve is = (total (cut_winds corners point) is.joints ≡ pos 0) ⊎ (total (cut_winds corners point) is.joints <ℤ parts_of ring)

  -- Then it is so of all rings together.
  fewer-all : (rings : List (List Point)) (curves : List (List Edge)) (are : AllZip (IsCurveOfRing corners) rings curves) → All (λ edge. start_of edge ≢ end_of edge) (flat_map ring_edges rings)
      → ((ring : List Point) (curve : List Edge) (is : IsCurveOfRing corners ring curve) → Contains rings ring → HasFewerCuts ring curve is)
      → (all_cuts corners point rings curves are ≡ pos 0) ⊎ (all_cuts corners point rings curves are <ℤ all_parts_wind corners convex point rings)
  fewer-all [] [] are proper fewer = inl refl
  fewer-all [] (curve ∷ curves) are proper fewer = absurd are
  fewer-all (ring ∷ rings) [] are proper fewer = absurd are
  fewer-all (ring ∷ rings) (curve ∷ curves) (is, are) proper fewer =
      by (total (cut_winds corners point) is.joints) (parts_of ring) (all_cuts corners point rings curves are) (all_parts_wind corners convex point rings)
      (fewer ring curve is (Contains-here ring rings))
      (fewer-all rings curves are others (λ other its_curve of held. fewer other its_curve of (Contains-there ring rings other held)))
      (parts-natural ring (All-front (λ (e : Edge). start_of e ≢ end_of e) (ring_edges ring) (flat_map ring_edges rings) proper)) (all-natural rings others)
    where
      others : All (λ edge. start_of edge ≢ end_of edge) (flat_map ring_edges rings)
      others = All-behind (λ (e : Edge). start_of e ≢ end_of e) (ring_edges ring) (flat_map ring_edges rings) proper

      by : (a b c d : ℤ) → (a ≡ pos 0) ⊎ (a <ℤ b) → (c ≡ pos 0) ⊎ (c <ℤ d) → pos 0 ≤ℤ b → pos 0 ≤ℤ d → ((a +ℤ c) ≡ pos 0) ⊎ ((a +ℤ c) <ℤ (b +ℤ d))
      by a b c d (inl none) (inl nothing) first second = inl (omega (arith, ints, none, nothing))
      by a b c d (inl none) (inr less) first second = inr (omega (arith, ints, none, less, first))
      by a b c d (inr less) (inl none) first second = inr (omega (arith, ints, none, less, second))
      by a b c d (inr less) (inr fewer) first second = inr (omega (arith, ints, less, fewer))

  module _ (rings : List (List Point)) (raw : List Edge) (is : IsCurve corners rings raw) (proper : All (λ edge. start_of edge ≢ end_of edge) (flat_map ring_edges rings)) where
    -- The curve winds as the raw curve without cuts does, less the cuts.
    curve-winds : winding raw point ≡ (winding (raw_edges corners rings) point -ℤ all_cuts corners point rings is.curves is.each)
    curve-winds =
        winding-passed raw point
        ∙ ap (λ (edges : List Edge). all_passed edges point) is.edges
        ∙ rings-less corners (λ (e : Edge). passed_by e point) (cut_winds corners point) rings is.curves is.each each
        ∙ ap (λ (z : ℤ). z -ℤ all_cuts corners point rings is.curves is.each) (sym (winding-passed (raw_edges corners rings) point))
      where
        each : (ring : List Point) (curve : List Edge) (of : IsCurveOfRing corners ring curve) → Contains rings ring → (joint : (Edge × Edge) × Bool) → Contains of.joints joint
            → all_passed (curve_of_two corners joint) point ≡ (all_passed (raw_of_two corners joint.0) point -ℤ cut_winds corners point joint)
        each ring curve of held joint among =
            let (pair, told) = joint-told corners ring curve of joint among in
            let (first, second) = two-proper corners rings proper ring held joint.0.0 joint.0.1 pair in
            two-less corners convex point joint.0 joint.1 first second (λ marked. (told marked).0)

    -- Where of each ring fewer cuts wind around the point than parts, if any, the curve winds around it as the raw curve without
    -- cuts does, or more often than the edges do.
    pub curve-bounds : ((ring : List Point) (curve : List Edge) (of : IsCurveOfRing corners ring curve) → Contains rings ring → HasFewerCuts ring curve of)
        → (winding raw point ≡ winding (raw_edges corners rings) point) ⊎ (winding (flat_map ring_edges rings) point <ℤ winding raw point)
    curve-bounds fewer =
        let sum = raw-winds corners convex point rings proper in
        let less = curve-winds in
        ⊎_elim
        (λ none. inl (omega (arith, ints, less, none)))
        (λ some. inr (omega (arith, ints, sum, less, some)))
        (fewer-all rings is.curves is.each proper fewer)

    -- Where it winds unlike the raw curve without cuts, some triangle that is cut off winds around the point.
    pub curve-differs : winding raw point ≢ winding (raw_edges corners rings) point
        → (ring : List Point) × (curve : List Edge) × Contains rings ring × (of : IsCurveOfRing corners ring curve) × ((edge : Edge) → Contains curve edge → Contains raw edge)
        × (joint : (Edge × Edge) × Bool) × Contains of.joints joint × (joint.1 ≡ true) × (winding (cut_off (end_of joint.0.0) (furthest corners joint.0.0) (furthest corners joint.0.1)) point ≢ pos 0)
    curve-differs differs =
        let less = curve-winds in
        let (ring, curve, held, among, of, some) = some-cuts rings is.curves is.each (λ none. differs (omega (arith, ints, less, none))) in
        let (joint, inside, winds) = total-some (cut_winds corners point) of.joints some in
        let (marked, cuts) = is-cut joint.0 joint.1 winds in
        (ring, curve, held, of, λ edge on. subst (λ (edges : List Edge). Contains edges edge) (sym is.edges) (Contains-in_flat_map (λ (c : List Edge). c) is.curves curve edge among on), joint, inside, marked, cuts)
      where
        is-cut : (two : Edge × Edge) (mark : Bool) → cut_winds corners point (two, mark) ≢ pos 0 → (mark ≡ true) × (winding (cut_off (end_of two.0) (furthest corners two.0) (furthest corners two.1)) point ≢ pos 0)
        is-cut two true winds = (refl, winds)
        is-cut two false winds = absurd (winds refl)

        some-cuts : (rings : List (List Point)) (curves : List (List Edge)) (are : AllZip (IsCurveOfRing corners) rings curves) → all_cuts corners point rings curves are ≢ pos 0
            → (ring : List Point) × (curve : List Edge) × Contains rings ring × Contains curves curve × (of : IsCurveOfRing corners ring curve) × (total (cut_winds corners point) of.joints ≢ pos 0)
        some-cuts [] [] are some = absurd (some refl)
        some-cuts [] (curve ∷ curves) are some = absurd are
        some-cuts (ring ∷ rings) [] are some = absurd are
        some-cuts (ring ∷ rings) (curve ∷ curves) (of, are) some =
            ⊎_elim
            (λ none. later (some-cuts rings curves are (λ nothing. some (omega (arith, ints, none, nothing)))))
            (λ wound. (ring, curve, Contains-here ring rings, Contains-here curve curves, of, wound))
            (none-or (total (cut_winds corners point) of.joints))
          where
            later : (one : List Point) × (its : List Edge) × Contains rings one × Contains curves its × (of : IsCurveOfRing corners one its) × (total (cut_winds corners point) of.joints ≢ pos 0)
                → (one : List Point) × (its : List Edge) × Contains (ring ∷ rings) one × Contains (curve ∷ curves) its × (of : IsCurveOfRing corners one its) × (total (cut_winds corners point) of.joints ≢ pos 0)
            later (one, its, held, among, its_of, wound) = (one, its, Contains-there ring rings one held, Contains-there curve curves its among, its_of, wound)

-- ---- which edges are of a curve

module _ (corners : List Point) (rings : List (List Point)) (raw : List Edge) (is : IsCurve corners rings raw) where
  -- What two edges that follow each other give, cut or not, is of the curve.
  of-two : (edge next one : Edge) → Follows rings edge next → ((mark : Bool) → (mark ≡ true → turn edge next ≤ℤ pos 0) → Contains (curve_of_two corners ((edge, next), mark)) one) → Contains raw one
  of-two edge next one (ring, (k, within, at), pair) each =
      let size = AllZip-length (IsCurveOfRing corners) rings is.curves is.each in
      let curve = get_or is.curves k [] in
      let of : IsCurveOfRing corners ring curve = subst (λ (r : List Point). IsCurveOfRing corners r curve) at (AllZip-at (IsCurveOfRing corners) rings is.curves ring [] k is.each within) in
      let (joint, among, same) = Contains-from_map (λ (j : (Edge × Edge) × Bool). j.0) of.joints (edge, next) (subst (λ (pairs : List (Edge × Edge)). Contains pairs (edge, next)) (sym of.pairs) pair) in
      let told = (joint-told corners ring curve of joint among).1 in
      let here : Contains (curve_of_two corners joint) one = subst (λ (two : Edge × Edge). Contains (curve_of_two corners (two, joint.1)) one) (sym same) (each joint.1 (λ marked. subst (λ (two : Edge × Edge). turn two.0 two.1 ≤ℤ pos 0) same (told marked).0)) in
      subst (λ (edges : List Edge). Contains edges one) (sym is.edges)
      (Contains-in_flat_map (λ (c : List Edge). c) is.curves curve one (Contains-get_or is.curves k [] (omega (arith, within, size)))
      (subst (λ (edges : List Edge). Contains edges one) (sym of.edges) (Contains-in_flat_map (curve_of_two corners) of.joints joint one among here)))

  -- Each edge moved is, and where two edges turn left, the moved sides of the fan are.
  pub curve-moved-held : (edge next : Edge) → Follows rings edge next → Contains raw (moved_edge (furthest corners edge) edge)
  curve-moved-held edge next follows = of-two edge next (moved_edge (furthest corners edge) edge) follows by
    where
      by : (mark : Bool) → (mark ≡ true → turn edge next ≤ℤ pos 0) → Contains (curve_of_two corners ((edge, next), mark)) (moved_edge (furthest corners edge) edge)
      by true right = Contains-here (moved_edge (furthest corners edge) edge) (cut corners (edge, next) ∷ [])
      by false right = Contains-here (moved_edge (furthest corners edge) edge) (joint corners edge next)

  pub curve-side-held : (edge next side : Edge) → Follows rings edge next → pos 0 <ℤ turn edge next → Contains (fan corners edge next) side → Contains raw (moved_edge (end_of edge) side)
  curve-side-held edge next side follows left among = of-two edge next (moved_edge (end_of edge) side) follows by
    where
      by : (mark : Bool) → (mark ≡ true → turn edge next ≤ℤ pos 0) → Contains (curve_of_two corners ((edge, next), mark)) (moved_edge (end_of edge) side)
      by true right = absurd (let none = right refl in omega (arith, ints, none, left))
      by false right = Contains-there (moved_edge (furthest corners edge) edge) (joint corners edge next) (moved_edge (end_of edge) side) (fanned (int_lt (pos 0) (turn edge next)) refl)
        where
          fanned : (t : Bool) → int_lt (pos 0) (turn edge next) ≡ t → Contains (cond t (map (moved_edge (end_of edge)) (fan corners edge next)) (ways corners edge next)) (moved_edge (end_of edge) side)
          fanned true before = Contains-map (moved_edge (end_of edge)) (fan corners edge next) side among
          fanned false before = absurd (omega (arith, ints, before, left))

-- ---- it is closed

-- A curve of rings is closed.
pub curve-closed : (corners : List Point) → IsConvexAroundOrigin corners → (rings : List (List Point)) (raw : List Edge) → IsCurve corners rings raw → All (λ edge. start_of edge ≢ end_of edge) (flat_map ring_edges rings) → IsClosed raw
curve-closed corners convex rings raw is proper test =
    let none = raw-gains corners convex give rings proper in
    let same = rings-less corners gain (λ joint. pos 0) rings is.curves is.each each in
    let no_less = nothing-less rings is.curves is.each in
    let edges = ap (total gain) is.edges in
    let difference = total-difference (λ (edge : Edge). count (test (end_of edge))) (λ (edge : Edge). count (test (start_of edge))) raw in
    let starts = counted (λ (edge : Edge). test (start_of edge)) raw in
    let ends = counted (λ (edge : Edge). test (end_of edge)) raw in
    omega (arith, ints, none, same, no_less, edges, difference, starts, ends)
  where
    give : Point → ℤ
    give point = count (test point)

    gain : Edge → ℤ
    gain edge = count (test (end_of edge)) -ℤ count (test (start_of edge))

    nothing-less : (rings : List (List Point)) (curves : List (List Edge)) (are : AllZip (IsCurveOfRing corners) rings curves) → lessened corners gain (λ joint. pos 0) rings curves are ≡ pos 0
    nothing-less [] [] are = refl
    nothing-less [] (curve ∷ curves) are = absurd are
    nothing-less (ring ∷ rings) [] are = absurd are
    nothing-less (ring ∷ rings) (curve ∷ curves) (of, are) =
        let first = total-none (λ (j : (Edge × Edge) × Bool). pos 0) of.joints (All-among (λ (j : (Edge × Edge) × Bool). pos 0 ≡ pos 0) of.joints (λ j among. refl)) in
        let rest = nothing-less rings curves are in
        omega (arith, ints, first, rest)

    two-gains : (two : Edge × Edge) (mark : Bool) → start_of two.0 ≢ end_of two.0 → start_of two.1 ≢ end_of two.1 → total gain (curve_of_two corners (two, mark)) ≡ (total gain (raw_of_two corners two) -ℤ pos 0)
    two-gains two false first second = omega (arith, ints)
    two-gains two true first second = let ways = joint-gains corners convex give two.0 two.1 first second in omega (arith, ints, ways)

    each : (ring : List Point) (curve : List Edge) (of : IsCurveOfRing corners ring curve) → Contains rings ring → (joint : (Edge × Edge) × Bool) → Contains of.joints joint
        → total gain (curve_of_two corners joint) ≡ (total gain (raw_of_two corners joint.0) -ℤ pos 0)
    each ring curve of held joint among =
        let (first, second) = two-proper corners rings proper ring held joint.0.0 joint.0.1 (joint-told corners ring curve of joint among).0 in
        two-gains joint.0 joint.1 first second
