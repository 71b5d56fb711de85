-- What the curve with bevels winds around.
use Rattle.std.proofs.Common.{◌≡◌, ◌≢◌, ◌⊎◌, inl, inr, ⊎_elim, ℤ, pos, ◌+ℤ◌, ◌-ℤ◌, ◌≤ℤ◌, ◌<ℤ◌, Bool, true, false, cond, List, [], ◌∷◌, map, refl, ap, ap₂, subst, sym, ◌∙◌, arith}
use Rattle.std.specs.List.{All, Contains, flat_map}
use Rattle.std.specs.Prelude.{int_lt}
use Rattle.std.proofs.lemmas.Int.{by_lt_z, ints}
use Rattle.std.proofs.lemmas.List.Elements.{All-cons, All-contains, All-nil}
use Rattle.plane.specs.declared.edge.Edge.{Edge}
use Rattle.plane.specs.declared.point.Point.{Point}
use Rattle.plane.specs.Ends.{end_of, start_of}
use Rattle.plane.specs.Meet.Edges.{RationalPoint}
use Rattle.noding.specs.Windings.{IsClosed, winding}
use Rattle.overlay.specs.Areas.{swept}
use Rattle.overlay.specs.Contours.Rings.{ring_edges}
use Rattle.overlay.specs.Fill.Pieces.{total}
use Rattle.overlay.proofs.FillLemmas.Premises.{All-among}
use Rattle.overlay.proofs.GroupingLemmas.Bags.{Contains-flat_map, Contains-in_flat_map}
use Rattle.offset.specs.declared.joins.Join.TheVariants.{Bevel}
use Rattle.offset.specs.Joins.{IsOfBevelled, bevel, bevelled_joint, chord, corners_of, joined_edges, joined_of_two}
use Rattle.offset.specs.Pieces.{band, part_of_fan}
use Rattle.offset.specs.Raw.{fan, furthest, moved, moved_edge, ways}
use Rattle.offset.specs.Shape.{IsConvexAroundOrigin, neighbours, sides, turn}
use Rattle.offset.proofs.JoinLemmas.Pairs.{AreFollowing, corner-of, total-joined}
use Rattle.offset.proofs.LineLemmas.Round.{closed-of, gain}
use Rattle.offset.proofs.PieceLemmas.Bands.{WindsSome, part-winds}
use Rattle.offset.proofs.PieceLemmas.Closed.{joint-gains}
use Rattle.offset.proofs.PieceLemmas.Parts.{edge-band-winds, fan-held, joint-counts, moved-counts, moved-exchanged, side-counts, spoke, total-from, total-natural, total-some}
use Rattle.offset.proofs.PieceLemmas.Rounds.{IsJoined}
use Rattle.offset.proofs.PieceLemmas.Sides.{all_passed, left_by, passed_by, winding-passed}
use Rattle.offset.proofs.PieceLemmas.Triangles.{WindsOnce}
use Rattle.offset.proofs.SideLemmas.Inner.{BoundOnce}

-- Of one alone.
pub All-one : {X : Type 0} (P : X → Type 0) (x : X) → P x → All P (x ∷ [])
All-one P x is = All-cons P x [] is (All-nil P)

-- any point
pub origin : RationalPoint
origin = record { n = 1; x = pos 0; y = pos 0; positive = omega arith }

module _ (corners : List Point) (convex : IsConvexAroundOrigin corners) where
  -- ---- one corner

  -- The origin lies left of what a bevel takes.
  pub bevel-left : (edge next side : Edge) → Contains (bevel corners edge next) side → pos 0 <ℤ swept side
  bevel-left edge next side held = by (int_lt (pos 0) (swept (chord corners edge next))) refl held
    where
      by : (t : Bool) → int_lt (pos 0) (swept (chord corners edge next)) ≡ t → Contains (cond t (chord corners edge next ∷ []) (fan corners edge next)) side → pos 0 <ℤ swept side
      by true is among = All-contains (λ (e : Edge). pos 0 <ℤ swept e) (chord corners edge next ∷ []) side (All-one (λ (e : Edge). pos 0 <ℤ swept e) (chord corners edge next) (omega (arith, ints, is))) among
      by false is among = All-contains (λ (e : Edge). pos 0 <ℤ swept e) (sides corners) side convex.left (fan-held corners convex origin edge next side among)

  -- the joint goes from where the edge ends that was moved, to where the next one begins
  bevel-gains : (give : Point → ℤ) (edge next : Edge) → start_of edge ≢ end_of edge → start_of next ≢ end_of next
      → total (gain give) (bevelled_joint corners edge next) ≡ (give (moved (furthest corners next) (end_of edge)) -ℤ give (moved (furthest corners edge) (end_of edge)))
  bevel-gains give edge next proper next_proper = by (int_lt (pos 0) (turn edge next)) refl
    where
      at : Point
      at = end_of edge

      from : Point
      from = furthest corners edge

      to : Point
      to = furthest corners next

      Gains : List Edge → Type 0
      Gains edges = total (gain give) edges ≡ (give (moved to at) -ℤ give (moved from at))

      round : (t : Bool) → int_lt (pos 0) (turn edge next) ≡ t → Gains (cond t (map (moved_edge at) (fan corners edge next)) (ways corners edge next))
      round t is = subst (λ (u : Bool). Gains (cond u (map (moved_edge at) (fan corners edge next)) (ways corners edge next))) is (joint-gains corners convex give edge next proper next_proper)

      chosen : int_lt (pos 0) (turn edge next) ≡ true → (u : Bool) → Gains (map (moved_edge at) (cond u (chord corners edge next ∷ []) (fan corners edge next)))
      chosen left true =
          let end = ap give (moved-exchanged at to) in
          let start = ap give (moved-exchanged at from) in
          omega (arith, ints, end, start)
      chosen left false = round true left

      by : (t : Bool) → int_lt (pos 0) (turn edge next) ≡ t → Gains (cond t (map (moved_edge at) (bevel corners edge next)) (ways corners edge next))
      by true is = chosen is (int_lt (pos 0) (swept (chord corners edge next)))
      by false is = round false is

  module _ (point : RationalPoint) where
    -- what the triangles of it wind
    abbrev parts_of : Edge → List Edge → ℤ
    parts_of edge some = total (λ side. winding (part_of_fan (end_of edge) side) point) some

    abbrev bevel_winds : Edge → Edge → ℤ
    bevel_winds edge next = cond (int_lt (pos 0) (turn edge next)) (parts_of edge (bevel corners edge next)) (pos 0)

    abbrev corner_winds : Edge × Edge → ℤ
    corner_winds two = winding (band two.0 (furthest corners two.0)) point +ℤ bevel_winds two.0 two.1

    abbrev begun : Edge → ℤ
    begun edge = spoke corners convex point (start_of edge) (furthest corners edge)

    -- what the joint counts: its triangles, and the ways to its ends
    bevel-counts : (edge next : Edge) → start_of edge ≢ end_of edge → start_of next ≢ end_of next
        → all_passed (bevelled_joint corners edge next) point ≡ (bevel_winds edge next +ℤ (spoke corners convex point (end_of edge) (furthest corners next) -ℤ spoke corners convex point (end_of edge) (furthest corners edge)))
    bevel-counts edge next proper next_proper = by (int_lt (pos 0) (turn edge next)) refl
      where
        at : Point
        at = end_of edge

        rest : ℤ
        rest = spoke corners convex point at (furthest corners next) -ℤ spoke corners convex point at (furthest corners edge)

        round : (t : Bool) → int_lt (pos 0) (turn edge next) ≡ t
            → all_passed (cond t (map (moved_edge at) (fan corners edge next)) (ways corners edge next)) point ≡ (cond t (parts_of edge (fan corners edge next)) (pos 0) +ℤ rest)
        round t is =
            subst (λ (u : Bool). all_passed (cond u (map (moved_edge at) (fan corners edge next)) (ways corners edge next)) point ≡ (cond u (parts_of edge (fan corners edge next)) (pos 0) +ℤ rest)) is
            (joint-counts corners convex point edge next proper next_proper)

        chosen : int_lt (pos 0) (turn edge next) ≡ true → (u : Bool)
            → all_passed (map (moved_edge at) (cond u (chord corners edge next ∷ []) (fan corners edge next))) point ≡ (parts_of edge (cond u (chord corners edge next ∷ []) (fan corners edge next)) +ℤ rest)
        chosen left true = let one = side-counts corners convex point at (chord corners edge next) in omega (arith, ints, one)
        chosen left false = round true left

        by : (t : Bool) → int_lt (pos 0) (turn edge next) ≡ t
            → all_passed (cond t (map (moved_edge at) (bevel corners edge next)) (ways corners edge next)) point ≡ (cond t (parts_of edge (bevel corners edge next)) (pos 0) +ℤ rest)
        by true is = chosen is (int_lt (pos 0) (swept (chord corners edge next)))
        by false is = round false is

    two-counts : (two : Edge × Edge) → start_of two.0 ≢ end_of two.0 → start_of two.1 ≢ end_of two.1 → IsJoined two
        → all_passed (joined_of_two Bevel corners two) point ≡ ((passed_by two.0 point +ℤ corner_winds two) +ℤ (begun two.1 -ℤ begun two.0))
    two-counts two proper next_proper joined =
        let first = moved-counts corners convex point two.0 (furthest corners two.0) in
        let second = bevel-counts two.0 two.1 proper next_proper in
        let same = ap (λ (at : Point). spoke corners convex point at (furthest corners two.1)) joined in
        omega (arith, ints, first, second, same)

    -- ---- no part winds less than not at all

    side-winds : (edge next side : Edge) → Contains (bevel corners edge next) side → pos 0 ≤ℤ winding (part_of_fan (end_of edge) side) point
    side-winds edge next side held =
        ⊎_elim (λ none. omega (arith, ints, none)) (λ once. omega (arith, ints, once)) (part-winds (end_of edge) side point (bevel-left edge next side held)).once

    sides-natural : (edge next : Edge) → All (λ side. pos 0 ≤ℤ winding (part_of_fan (end_of edge) side) point) (bevel corners edge next)
    sides-natural edge next = All-among (λ (side : Edge). pos 0 ≤ℤ winding (part_of_fan (end_of edge) side) point) (bevel corners edge next) (side-winds edge next)

    bevel-natural : (edge next : Edge) → pos 0 ≤ℤ bevel_winds edge next
    bevel-natural edge next = by (int_lt (pos 0) (turn edge next))
      where
        by : (t : Bool) → pos 0 ≤ℤ cond t (parts_of edge (bevel corners edge next)) (pos 0)
        by true = total-natural (λ side. winding (part_of_fan (end_of edge) side) point) (bevel corners edge next) (sides-natural edge next)
        by false = omega (arith, ints)

    band-natural : (edge : Edge) → start_of edge ≢ end_of edge → pos 0 ≤ℤ winding (band edge (furthest corners edge)) point
    band-natural edge proper = (edge-band-winds corners convex point edge proper).natural

  -- ---- all of them

  module _ (rings : List (List Point)) (proper : All (λ edge. start_of edge ≢ end_of edge) (flat_map ring_edges rings)) where
    abbrev curve : List Edge
    curve = joined_edges Bevel corners rings

    follows : (two : Edge × Edge) → Contains (corners_of rings) two → AreFollowing rings two
    follows two held = corner-of rings proper two held

    -- The curve with bevels is closed.
    pub bevelled-closed : IsClosed curve
    bevelled-closed = closed-of curve nothing
      where
        nothing : (give : Point → ℤ) → total (gain give) curve ≡ pos 0
        nothing give =
            let sum : total (gain give) curve ≡ (total (λ edge. pos 0) (flat_map ring_edges rings) +ℤ total (λ two. pos 0) (corners_of rings)) = total-joined (gain give) (joined_of_two Bevel corners) (λ (edge : Edge). pos 0) (λ (two : Edge × Edge). pos 0) (λ (edge : Edge). give (moved (furthest corners edge) (start_of edge))) rings each in
            let first : total (λ edge. pos 0) (flat_map ring_edges rings) ≡ pos 0 = total-nothing (flat_map ring_edges rings) in
            let second : total (λ two. pos 0) (corners_of rings) ≡ pos 0 = total-nothing (corners_of rings) in
            omega (arith, ints, sum, first, second)
          where
            total-nothing : {X : Type 0} (xs : List X) → total (λ x. pos 0) xs ≡ pos 0
            total-nothing [] = refl
            total-nothing (x ∷ xs) = let rest = total-nothing xs in omega (arith, ints, rest)

            each : (two : Edge × Edge) → Contains (corners_of rings) two
                → total (gain give) (joined_of_two Bevel corners two) ≡ ((pos 0 +ℤ pos 0) +ℤ (give (moved (furthest corners two.1) (start_of two.1)) -ℤ give (moved (furthest corners two.0) (start_of two.0))))
            each two held =
                let pair = follows two held in
                let rest = bevel-gains give two.0 two.1 pair.proper pair.next_proper in
                let same = ap (λ (at : Point). give (moved (furthest corners two.1) at)) pair.joined in
                omega (arith, ints, rest, same)

    module _ (point : RationalPoint) where
      -- It winds around a point as the rings do, and all bands and triangles together.
      curve-winds : winding curve point ≡ (winding (flat_map ring_edges rings) point +ℤ total (corner_winds point) (corners_of rings))
      curve-winds =
          let sum : all_passed curve point ≡ (all_passed (flat_map ring_edges rings) point +ℤ total (corner_winds point) (corners_of rings)) = total-joined (λ (edge : Edge). passed_by edge point) (joined_of_two Bevel corners) (λ (edge : Edge). passed_by edge point) (corner_winds point) (begun point) rings
          (λ two held. let pair = follows two held in two-counts point two pair.proper pair.next_proper pair.joined) in
          let all = winding-passed curve point in
          let own = winding-passed (flat_map ring_edges rings) point in
          omega (arith, ints, sum, all, own)

      corner-natural : (two : Edge × Edge) → Contains (corners_of rings) two → pos 0 ≤ℤ corner_winds point two
      corner-natural two held =
          let one = band-natural point two.0 (follows two held).proper in
          let other = bevel-natural point two.0 two.1 in
          omega (arith, ints, one, other)

      corners-natural : All (λ two. pos 0 ≤ℤ corner_winds point two) (corners_of rings)
      corners-natural = All-among (λ (two : Edge × Edge). pos 0 ≤ℤ corner_winds point two) (corners_of rings) corner-natural

      equal-or : (z : ℤ) → (z ≡ pos 0) ⊎ (z ≢ pos 0)
      equal-or z =
          by_lt_z (pos 0) z
          (λ above. inr (λ none. omega (arith, ints, none, above)))
          (λ upto. by_lt_z z (pos 0)
          (λ below. inr (λ none. omega (arith, ints, none, below)))
          (λ from. inl (omega (arith, ints, upto, from))))

      -- where a corner winds, the band does or a triangle
      corner-some : (two : Edge × Edge) → corner_winds point two ≢ pos 0
          → (winding (band two.0 (furthest corners two.0)) point ≢ pos 0)
          ⊎ ((pos 0 <ℤ turn two.0 two.1) × (side : Edge) × Contains (bevel corners two.0 two.1) side × (winding (part_of_fan (end_of two.0) side) point ≢ pos 0))
      corner-some two some =
          ⊎_elim
          (λ none. inr (by (int_lt (pos 0) (turn two.0 two.1)) refl (λ nothing. some (omega (arith, ints, none, nothing)))))
          (λ in_band. inl in_band)
          (equal-or (winding (band two.0 (furthest corners two.0)) point))
        where
          by : (t : Bool) → int_lt (pos 0) (turn two.0 two.1) ≡ t → cond t (parts_of point two.0 (bevel corners two.0 two.1)) (pos 0) ≢ pos 0
              → (pos 0 <ℤ turn two.0 two.1) × (side : Edge) × Contains (bevel corners two.0 two.1) side × (winding (part_of_fan (end_of two.0) side) point ≢ pos 0)
          by true is winds =
              let (side, among, some_winds) = total-some (λ side. winding (part_of_fan (end_of two.0) side) point) (bevel corners two.0 two.1) winds in
              (omega (arith, ints, is), side, among, some_winds)
          by false is winds = absurd (winds refl)

      -- and the other way round
      corner-of_side : (two : Edge × Edge) → Contains (corners_of rings) two → pos 0 <ℤ turn two.0 two.1 → (side : Edge) → Contains (bevel corners two.0 two.1) side
          → winding (part_of_fan (end_of two.0) side) point ≢ pos 0 → pos 0 <ℤ corner_winds point two
      corner-of_side two held left side among winds =
          let one = band-natural point two.0 (follows two held).proper in
          let here = side-winds point two.0 two.1 side among in
          let all = total-from (λ s. winding (part_of_fan (end_of two.0) s) point) (bevel corners two.0 two.1) (sides-natural point two.0 two.1) side among in
          let some = above (winding (part_of_fan (end_of two.0) side) point) here winds in
          by (int_lt (pos 0) (turn two.0 two.1)) refl one all some
        where
          above : (z : ℤ) → pos 0 ≤ℤ z → z ≢ pos 0 → pos 0 <ℤ z
          above z from isnt = by_lt_z (pos 0) z (λ is. is) (λ upto. absurd (isnt (omega (arith, ints, from, upto))))

          by : (t : Bool) → int_lt (pos 0) (turn two.0 two.1) ≡ t → pos 0 ≤ℤ winding (band two.0 (furthest corners two.0)) point
              → winding (part_of_fan (end_of two.0) side) point ≤ℤ parts_of point two.0 (bevel corners two.0 two.1) → pos 0 <ℤ winding (part_of_fan (end_of two.0) side) point
              → pos 0 <ℤ (winding (band two.0 (furthest corners two.0)) point +ℤ cond t (parts_of point two.0 (bevel corners two.0 two.1)) (pos 0))
          by true is one all some = omega (arith, ints, one, all, some)
          by false is one all some = absurd (omega (arith, ints, is, left))

      -- The curve winds around the points that bevels leave of the sum, and around no others.
      pub winds-bevelled : (bounds : BoundOnce (flat_map ring_edges rings)) → bounds.outer ≡ pos 0
          → (IsOfBevelled corners rings point × (pos 0 <ℤ winding curve point)) ⊎ ((¬ (IsOfBevelled corners rings point)) × (winding curve point ≡ pos 0))
      winds-bevelled bounds outside =
          let is = curve-winds in
          let from = rings-from (bounds.once point) in
          let more = total-natural (corner_winds point) (corners_of rings) corners-natural in
          ⊎_elim
          (λ none. ⊎_elim
          (λ nothing. inr (left none nothing, omega (arith, ints, is, none, nothing)))
          (λ some.
          let (two, held, winds) = total-some (corner_winds point) (corners_of rings) some in
          inl (inr (two, held, corner-some two winds), positive (total (corner_winds point) (corners_of rings)) more some is none))
          (equal-or (total (corner_winds point) (corners_of rings))))
          (λ inside. inl (inl inside, within is from more inside))
          (equal-or (winding (flat_map ring_edges rings) point))
        where
          rings-from : (winding (flat_map ring_edges rings) point ≡ bounds.outer) ⊎ (winding (flat_map ring_edges rings) point ≡ (bounds.outer +ℤ pos 1)) → pos 0 ≤ℤ winding (flat_map ring_edges rings) point
          rings-from (inl none) = omega (arith, ints, none, outside)
          rings-from (inr one) = omega (arith, ints, one, outside)

          positive : (z : ℤ) → pos 0 ≤ℤ z → z ≢ pos 0 → winding curve point ≡ (winding (flat_map ring_edges rings) point +ℤ z) → winding (flat_map ring_edges rings) point ≡ pos 0 → pos 0 <ℤ winding curve point
          positive z least isnt is none = by_lt_z (pos 0) z (λ above. omega (arith, ints, is, none, above)) (λ upto. absurd (isnt (omega (arith, ints, least, upto))))

          within : winding curve point ≡ (winding (flat_map ring_edges rings) point +ℤ total (corner_winds point) (corners_of rings)) → pos 0 ≤ℤ winding (flat_map ring_edges rings) point
              → pos 0 ≤ℤ total (corner_winds point) (corners_of rings) → winding (flat_map ring_edges rings) point ≢ pos 0 → pos 0 <ℤ winding curve point
          within is from more inside = by_lt_z (pos 0) (winding (flat_map ring_edges rings) point) (λ above. omega (arith, ints, is, more, above)) (λ upto. absurd (inside (omega (arith, ints, from, upto))))

          left : winding (flat_map ring_edges rings) point ≡ pos 0 → total (corner_winds point) (corners_of rings) ≡ pos 0 → IsOfBevelled corners rings point → ⊥
          left none nothing (inl inside) = inside none
          left none nothing (inr (two, held, inl in_band)) =
              let all = total-from (corner_winds point) (corners_of rings) corners-natural two held in
              let one = band-natural point two.0 (follows two held).proper in
              let other = bevel-natural point two.0 two.1 in
              in_band (omega (arith, ints, all, nothing, one, other))
          left none nothing (inr (two, held, inr (turns, side, among, winds))) =
              let all = total-from (corner_winds point) (corners_of rings) corners-natural two held in
              let some = corner-of_side two held turns side among winds in
              absurd (omega (arith, ints, all, nothing, some))
