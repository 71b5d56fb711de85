-- The raw curve winds around a point as the edges do, and the bands along them and the parts of fans at left turns, together.
use Rattle.std.proofs.Common.{◌≡◌, ◌≢◌, ◌⊎◌, inl, inr, ⊎_elim, suc, zero, ℤ, pos, ◌+ℤ◌, ◌-ℤ◌, ◌≤ℤ◌, ◌<ℤ◌, Bool, true, false, cond, List, [], ◌∷◌, map, refl, ap, ap₂, subst, sym, ◌∙◌, arith}
use Rattle.std.specs.List.{All, Contains, flat_map}
use Rattle.std.specs.Prelude.{int_lt}
use Rattle.std.proofs.lemmas.Int.{by_lt_z, ints}
use Rattle.std.proofs.lemmas.List.Elements.{All-contains, All-contains_itself, All-filter, All-head, All-tail}
use Rattle.plane.specs.declared.edge.Edge.{Edge}
use Rattle.plane.specs.declared.point.Point.{Point}
use Rattle.plane.specs.Ends.{edge_between, end_of, reversed, start_of}
use Rattle.plane.specs.Meet.Crosses.{cross}
use Rattle.plane.specs.Meet.Edges.{RationalPoint}
use Rattle.overlay.specs.Areas.{swept}
use Rattle.overlay.specs.Contours.Rings.{has_two_ends, ring_edges}
use Rattle.overlay.proofs.ContourLemmas.RealEdges.{points-same}
use Rattle.overlay.specs.Fill.Pieces.{total}
use Rattle.noding.specs.Windings.{winding}
use Rattle.offset.specs.Shape.{IsConvexAroundOrigin, neighbours, sides, turn}
use Rattle.offset.specs.Pieces.{band, part_of_fan}
use Rattle.offset.specs.Raw.{fan, furthest, is_of_fan, joint, moved, moved_edge, raw_edges, raw_of_ring, raw_of_two, ways}
use Rattle.plane.proofs.MeetLemmas.Identities.{identity, minus, number, times}
use Rattle.overlay.proofs.FillLemmas.Premises.{All-among}
use Rattle.overlay.proofs.FillLemmas.Totals.{total-append, total-difference, total-same, total-sum}
use Rattle.noding.proofs.SnapLemmas.Numbers.{n_of}
use Rattle.offset.proofs.CoverLemmas.Shapes.{furthest-right}
use Rattle.offset.proofs.CoverLemmas.Vectors.{way}
use Rattle.overlay.proofs.GroupingLemmas.Bags.{Contains-in_flat_map}
use Rattle.plane.proofs.PairsLemmas.Bags.{Contains-map}
use Rattle.i_tree.proofs.RootLemmas.Joined.{All-behind, All-front}
use Rattle.i_tree.proofs.RootLemmas.Lists.{Contains-here, Contains-there}
use Rattle.offset.proofs.PieceLemmas.Bands.{WindsSome, back_and_forth, band-winds, part-winds}
use Rattle.offset.proofs.PieceLemmas.Convex.{fan-gains, furthest-is, furthest-pair, furthest-told, shape-of}
use Rattle.offset.proofs.PieceLemmas.Rounds.{IsJoined, neighbours-held, ring-joined, total-firsts, total-seconds}
use Rattle.offset.proofs.PieceLemmas.Sides.{all_passed, left_by, left_by-reversed, passed, passed_by, right_by, winding-passed}
use Rattle.offset.proofs.PieceLemmas.Triangles.{WindsOnce}

-- ---- sums

module _ {X : Type 0} (f : X → ℤ) where
  -- a sum of numbers that aren't negative isn't
  pub total-natural : (xs : List X) → All (λ x. pos 0 ≤ℤ f x) xs → pos 0 ≤ℤ total f xs
  total-natural [] all = omega (arith, ints)
  total-natural (x ∷ xs) all =
      let here = All-head (λ (y : X). pos 0 ≤ℤ f y) x xs all in
      let rest = total-natural xs (All-tail (λ (y : X). pos 0 ≤ℤ f y) x xs all) in
      omega (arith, ints, here, rest)

  -- and is no less than each
  pub total-from : (xs : List X) → All (λ x. pos 0 ≤ℤ f x) xs → (x : X) → Contains xs x → f x ≤ℤ total f xs
  total-from [] all x (k, within, is) = absurd (omega (arith, within))
  total-from (y ∷ ys) all x (zero, within, is) =
      let rest = total-natural ys (All-tail (λ (z : X). pos 0 ≤ℤ f z) y ys all) in
      let same = ap f is in
      omega (arith, ints, rest, same)
  total-from (y ∷ ys) all x (suc k, within, is) =
      let here = All-head (λ (z : X). pos 0 ≤ℤ f z) y ys all in
      let rest = total-from ys (All-tail (λ (z : X). pos 0 ≤ℤ f z) y ys all) x (k, omega (arith, within), is) in
      omega (arith, ints, here, rest)

  -- where a sum isn't 0, some number isn't
  pub total-some : (xs : List X) → total f xs ≢ pos 0 → (x : X) × Contains xs x × (f x ≢ pos 0)
  total-some [] some = absurd (some refl)
  total-some (x ∷ xs) some =
      by_lt_z (pos 0) (f x)
      (λ above. (x, Contains-here x xs, λ none. omega (arith, ints, none, above)))
      (λ upto. by_lt_z (f x) (pos 0)
      (λ below. (x, Contains-here x xs, λ none. omega (arith, ints, none, below)))
      (λ from.
      let (y, held, is) = total-some xs (λ none. some (omega (arith, ints, none, upto, from))) in
      (y, Contains-there x xs y held, is)))

-- what lists of lists give
pub total-flat : {X Y : Type 0} (f : Y → ℤ) (g : X → List Y) (xs : List X) → total f (flat_map g xs) ≡ total (λ x. total f (g x)) xs
total-flat f g [] = refl
total-flat f g (x ∷ xs) = total-append f (g x) (flat_map g xs) ∙ ap (λ z. total f (g x) +ℤ z) (total-flat f g xs)

-- what is made of a list gives
pub total-map : {X Y : Type 0} (f : Y → ℤ) (g : X → Y) (xs : List X) → total f (map g xs) ≡ total (λ x. f (g x)) xs
total-map f g [] = refl
total-map f g (x ∷ xs) = ap (λ z. f (g x) +ℤ z) (total-map f g xs)

-- ---- edges

-- an edge counts the less the other way round
pub passed_by-reversed : (edge : Edge) (point : RationalPoint) → passed_by (reversed edge) point ≡ (pos 0 -ℤ passed_by edge point)
passed_by-reversed edge point =
    let same = ap (λ z. passed (right_by edge.x1 point) (right_by edge.x0 point) z) (left_by-reversed edge point) in
    let none = back_and_forth (right_by edge.x1 point) (right_by edge.x0 point) (left_by edge point) in
    omega (arith, ints, same, none)

-- a point moved by another is this moved by it
pub moved-exchanged : (by point : Point) → moved by point ≡ moved point by
moved-exchanged by point = ap₂ (λ (a b : ℤ). at a b) (commutes by.x point.x) (commutes by.y point.y)
  where
    at : ℤ → ℤ → Point
    at a b = record { x = a; y = b }

    commutes : (a b : ℤ) → (a +ℤ b) ≡ (b +ℤ a)
    commutes a b = omega (arith, ints)

-- Points between which no edge has two ends are one.
pub one-corner : (one other : Point) → has_two_ends (edge_between one other) ≡ false → one ≡ other
one-corner one other none =
    let (x, y) = points-same (edge_between one other) none in
    ap₂ (λ (a b : ℤ). at a b) x y
  where
    at : ℤ → ℤ → Point
    at a b = record { x = a; y = b }

module _ (corners : List Point) (convex : IsConvexAroundOrigin corners) where
  -- The corner furthest to the right of an edge does lie to the right of it.
  pub furthest-beside : (edge : Edge) → start_of edge ≢ end_of edge → pos 0 <ℤ cross (furthest corners edge).x (furthest corners edge).y (edge.x1 -ℤ edge.x0) (edge.y1 -ℤ edge.y0)
  furthest-beside edge proper =
      let (two, held, is) = furthest-pair corners convex edge proper in
      let (before, after) = furthest-told edge two is in
      let right = furthest-right (sides corners) (neighbours (sides corners)) (shape-of corners convex) (way edge) two.0 two.1 (record { pair = held; before = before; after = after }) in
      subst (λ (c : Point). pos 0 <ℤ cross c.x c.y (edge.x1 -ℤ edge.x0) (edge.y1 -ℤ edge.y0)) (furthest-is corners convex edge two held is)
      (let same = exchanged (start_of two.1) (way edge) in omega (arith, ints, right, same))
    where
      exchanged : (c d : Point) → cross c.x c.y d.x d.y ≡ (pos 0 -ℤ cross d.x d.y c.x c.y)
      exchanged c d =
          let times_of = λ (a b : ℤ). times (number a) (number b) in
          identity (minus (times_of c.x d.y) (times_of c.y d.x)) (minus (n_of 0) (minus (times_of d.x c.y) (times_of d.y c.x))) (omega arith)

  module _ (point : RationalPoint) where
    -- what the way from a point to it and a corner counts
    abbrev pub spoke : Point → Point → ℤ
    spoke at corner = passed_by (edge_between at (moved at corner)) point

    -- What the parts of the fan wind between an edge and the next one, if they turn left.
    abbrev pub fan_winds : Edge → Edge → ℤ
    fan_winds edge next = cond (int_lt (pos 0) (turn edge next)) (total (λ side. winding (part_of_fan (end_of edge) side) point) (fan corners edge next)) (pos 0)

    -- What the band of an edge and the parts of the fan behind it wind.
    abbrev pub parts_wind : Edge × Edge → ℤ
    parts_wind two = winding (band two.0 (furthest corners two.0)) point +ℤ fan_winds two.0 two.1

    pub moved-counts : (edge : Edge) (corner : Point)
        → passed_by (moved_edge corner edge) point ≡ ((winding (band edge corner) point +ℤ passed_by edge point) +ℤ (spoke (end_of edge) corner -ℤ spoke (start_of edge) corner))
    moved-counts edge corner =
        let all = winding-passed (band edge corner) point in
        let back = passed_by-reversed edge point in
        let end = ap (λ (at : Point). passed_by (edge_between at (end_of edge)) point) (moved-exchanged corner (end_of edge)) ∙ passed_by-reversed (edge_between (end_of edge) (moved (end_of edge) corner)) point in
        let start = ap (λ (at : Point). passed_by (edge_between (start_of edge) at) point) (moved-exchanged corner (start_of edge)) in
        omega (arith, ints, all, back, end, start)

    -- What a moved side counts: its triangle, and the ways to its ends.
    pub side-counts : (at : Point) (side : Edge) → passed_by (moved_edge at side) point ≡ (winding (part_of_fan at side) point +ℤ (spoke at (end_of side) -ℤ spoke at (start_of side)))
    side-counts at side =
        let all = winding-passed (part_of_fan at side) point in
        let back = passed_by-reversed (edge_between at (moved at (end_of side))) point in
        omega (arith, ints, all, back)

    pub joint-counts : (edge next : Edge) → start_of edge ≢ end_of edge → start_of next ≢ end_of next
        → all_passed (joint corners edge next) point ≡ (fan_winds edge next +ℤ (spoke (end_of edge) (furthest corners next) -ℤ spoke (end_of edge) (furthest corners edge)))
    joint-counts edge next proper next_proper = by (int_lt (pos 0) (turn edge next)) refl
      where
        at : Point
        at = end_of edge

        fan-counts : pos 0 <ℤ turn edge next → all_passed (map (moved_edge at) (fan corners edge next)) point
            ≡ (total (λ side. winding (part_of_fan at side) point) (fan corners edge next) +ℤ (spoke at (furthest corners next) -ℤ spoke at (furthest corners edge)))
        fan-counts left =
            total-map (λ e. passed_by e point) (moved_edge at) (fan corners edge next)
            ∙ total-same (λ side. passed_by (moved_edge at side) point) (λ side. winding (part_of_fan at side) point +ℤ (spoke at (end_of side) -ℤ spoke at (start_of side))) (fan corners edge next)
            (All-among (λ (side : Edge). passed_by (moved_edge at side) point ≡ (winding (part_of_fan at side) point +ℤ (spoke at (end_of side) -ℤ spoke at (start_of side)))) (fan corners edge next) (λ side held. side-counts at side))
            ∙ total-sum (λ side. winding (part_of_fan at side) point) (λ side. spoke at (end_of side) -ℤ spoke at (start_of side)) (fan corners edge next)
            ∙ ap (λ z. total (λ side. winding (part_of_fan at side) point) (fan corners edge next) +ℤ z) (fan-gains corners convex (spoke at) edge next proper next_proper left)

        there_and_back : all_passed (edge_between (moved (furthest corners edge) at) at ∷ edge_between at (moved (furthest corners next) at) ∷ []) point
            ≡ (pos 0 +ℤ (spoke at (furthest corners next) -ℤ spoke at (furthest corners edge)))
        there_and_back =
            let back = ap (λ (c : Point). passed_by (edge_between c at) point) (moved-exchanged (furthest corners edge) at) ∙ passed_by-reversed (edge_between at (moved at (furthest corners edge))) point in
            let there = ap (λ (c : Point). passed_by (edge_between at c) point) (moved-exchanged (furthest corners next) at) in
            omega (arith, ints, back, there)

        -- where they are one corner it is neither there nor back
        around : (u : Bool) → has_two_ends (edge_between (furthest corners edge) (furthest corners next)) ≡ u
            → all_passed (cond u (edge_between (moved (furthest corners edge) at) at ∷ edge_between at (moved (furthest corners next) at) ∷ []) []) point
            ≡ (pos 0 +ℤ (spoke at (furthest corners next) -ℤ spoke at (furthest corners edge)))
        around true apart = there_and_back
        around false one =
            let same = ap (λ (c : Point). spoke at c) (one-corner (furthest corners edge) (furthest corners next) one) in
            omega (arith, ints, same)

        by : (t : Bool) → int_lt (pos 0) (turn edge next) ≡ t
            → all_passed (cond t (map (moved_edge at) (fan corners edge next)) (ways corners edge next)) point
            ≡ (cond t (total (λ side. winding (part_of_fan at side) point) (fan corners edge next)) (pos 0) +ℤ (spoke at (furthest corners next) -ℤ spoke at (furthest corners edge)))
        by true is = fan-counts (omega (arith, ints, is))
        by false is = around (has_two_ends (edge_between (furthest corners edge) (furthest corners next))) refl

    two-count : (two : Edge × Edge) → start_of two.0 ≢ end_of two.0 → start_of two.1 ≢ end_of two.1 → IsJoined two
        → all_passed (raw_of_two corners two) point ≡ ((passed_by two.0 point +ℤ parts_wind two) +ℤ (spoke (start_of two.1) (furthest corners two.1) -ℤ spoke (start_of two.0) (furthest corners two.0)))
    two-count two proper next_proper joined =
        let first = moved-counts two.0 (furthest corners two.0) in
        let second = joint-counts two.0 two.1 proper next_proper in
        let same = ap (λ (at : Point). spoke at (furthest corners two.1)) joined in
        omega (arith, ints, first, second, same)

    -- The raw curve of a ring winds as its edges do, and all of their parts.
    pub ring-counts : (ring : List Point) → All (λ edge. start_of edge ≢ end_of edge) (ring_edges ring)
        → all_passed (raw_of_ring corners ring) point ≡ (all_passed (ring_edges ring) point +ℤ total parts_wind (neighbours (ring_edges ring)))
    ring-counts ring proper =
        total-flat (λ (e : Edge). passed_by e point) (raw_of_two corners) pairs
        ∙ total-same (λ (two : Edge × Edge). all_passed (raw_of_two corners two) point) (λ (two : Edge × Edge). (passed_by two.0 point +ℤ parts_wind two) +ℤ (begun two.1 -ℤ begun two.0)) pairs
        (All-among (λ (two : Edge × Edge). all_passed (raw_of_two corners two) point ≡ ((passed_by two.0 point +ℤ parts_wind two) +ℤ (begun two.1 -ℤ begun two.0))) pairs each)
        ∙ total-sum (λ (two : Edge × Edge). passed_by two.0 point +ℤ parts_wind two) (λ (two : Edge × Edge). begun two.1 -ℤ begun two.0) pairs
        ∙ ap₂ (λ (u v : ℤ). u +ℤ v)
        (total-sum (λ (two : Edge × Edge). passed_by two.0 point) parts_wind pairs ∙ ap (λ z. z +ℤ total parts_wind pairs) (total-firsts (λ (e : Edge). passed_by e point) (ring_edges ring)))
        (total-difference (λ (two : Edge × Edge). begun two.1) (λ (two : Edge × Edge). begun two.0) pairs ∙ nothing (total (λ (two : Edge × Edge). begun two.1) pairs) (total (λ (two : Edge × Edge). begun two.0) pairs) (total-seconds begun (ring_edges ring) ∙ sym (total-firsts begun (ring_edges ring))))
        ∙ last (all_passed (ring_edges ring) point +ℤ total parts_wind pairs)
      where
        pairs : List (Edge × Edge)
        pairs = neighbours (ring_edges ring)

        begun : Edge → ℤ
        begun edge = spoke (start_of edge) (furthest corners edge)

        each : (two : Edge × Edge) → Contains pairs two → all_passed (raw_of_two corners two) point ≡ ((passed_by two.0 point +ℤ parts_wind two) +ℤ (begun two.1 -ℤ begun two.0))
        each two held =
            let (first, second) = neighbours-held (ring_edges ring) two.0 two.1 held in
            two-count two
            (All-contains (λ (e : Edge). start_of e ≢ end_of e) (ring_edges ring) two.0 proper first)
            (All-contains (λ (e : Edge). start_of e ≢ end_of e) (ring_edges ring) two.1 proper second)
            (All-contains IsJoined pairs two (ring-joined ring) held)

        nothing : (u v : ℤ) → u ≡ v → (u -ℤ v) ≡ pos 0
        nothing u v same = omega (arith, ints, same)

        last : (z : ℤ) → (z +ℤ pos 0) ≡ z
        last z = omega (arith, ints)

    -- What all parts of rings wind.
    abbrev pub all_parts_wind : List (List Point) → ℤ
    all_parts_wind rings = total (λ ring. total parts_wind (neighbours (ring_edges ring))) rings

    -- So does that of rings: it winds around the point as often as their edges and all of their parts together.
    pub raw-winds : (rings : List (List Point)) → All (λ edge. start_of edge ≢ end_of edge) (flat_map ring_edges rings)
        → winding (raw_edges corners rings) point ≡ (winding (flat_map ring_edges rings) point +ℤ all_parts_wind rings)
    raw-winds rings proper =
        winding-passed (raw_edges corners rings) point ∙ each rings proper ∙ ap (λ z. z +ℤ all_parts_wind rings) (sym (winding-passed (flat_map ring_edges rings) point))
      where
        IsProper : Edge → Type 0
        IsProper edge = start_of edge ≢ end_of edge

        each : (rings : List (List Point)) → All (λ edge. start_of edge ≢ end_of edge) (flat_map ring_edges rings) → all_passed (raw_edges corners rings) point ≡ (all_passed (flat_map ring_edges rings) point +ℤ all_parts_wind rings)
        each [] proper = refl
        each (ring ∷ rings) proper =
            let first = ring-counts ring (All-front IsProper (ring_edges ring) (flat_map ring_edges rings) proper) in
            let rest = each rings (All-behind IsProper (ring_edges ring) (flat_map ring_edges rings) proper) in
            let raw = total-append (λ (e : Edge). passed_by e point) (raw_of_ring corners ring) (raw_edges corners rings) in
            let own = total-append (λ (e : Edge). passed_by e point) (ring_edges ring) (flat_map ring_edges rings) in
            omega (arith, ints, first, rest, raw, own)

    -- ---- no part winds less than not at all

    -- The band of an edge winds so.
    pub edge-band-winds : (edge : Edge) → start_of edge ≢ end_of edge
        → WindsSome (winding (band edge (furthest corners edge)) point) (left_by (reversed edge) point) (left_by (edge_between (start_of edge) (moved (furthest corners edge) (start_of edge))) point)
        (left_by (moved_edge (furthest corners edge) edge) point) (left_by (edge_between (moved (furthest corners edge) (end_of edge)) (end_of edge)) point)
    edge-band-winds edge proper = band-winds edge (furthest corners edge) (furthest-beside edge proper) point

    -- A part of a fan winds so.
    pub side-part-winds : (at : Point) (side : Edge) → Contains (sides corners) side
        → WindsOnce (winding (part_of_fan at side) point) (left_by (edge_between at (moved at (start_of side))) point) (left_by (moved_edge at side) point) (left_by (edge_between (moved at (end_of side)) at) point)
    side-part-winds at side held = part-winds at side point (All-contains (λ (e : Edge). pos 0 <ℤ swept e) (sides corners) side convex.left held)

    -- A side of a fan is a side.
    pub fan-held : (edge next side : Edge) → Contains (fan corners edge next) side → Contains (sides corners) side
    fan-held edge next side held =
        All-contains (Contains (sides corners)) (fan corners edge next) side (All-filter (is_of_fan edge next) (Contains (sides corners)) (sides corners) (All-contains_itself (sides corners))) held

    part-natural : (edge next side : Edge) → Contains (fan corners edge next) side → pos 0 ≤ℤ winding (part_of_fan (end_of edge) side) point
    part-natural edge next side held =
        ⊎_elim (λ none. omega (arith, ints, none)) (λ once. omega (arith, ints, once)) (side-part-winds (end_of edge) side (fan-held edge next side held)).once

    fan-natural : (edge next : Edge) → All (λ side. pos 0 ≤ℤ winding (part_of_fan (end_of edge) side) point) (fan corners edge next)
    fan-natural edge next = All-among (λ (side : Edge). pos 0 ≤ℤ winding (part_of_fan (end_of edge) side) point) (fan corners edge next) (part-natural edge next)

    pub fan_winds-natural : (edge next : Edge) → pos 0 ≤ℤ fan_winds edge next
    fan_winds-natural edge next = by (int_lt (pos 0) (turn edge next))
      where
        by : (t : Bool) → pos 0 ≤ℤ cond t (total (λ side. winding (part_of_fan (end_of edge) side) point) (fan corners edge next)) (pos 0)
        by true = total-natural (λ side. winding (part_of_fan (end_of edge) side) point) (fan corners edge next) (fan-natural edge next)
        by false = omega (arith, ints)

    pub parts-natural : (two : Edge × Edge) → start_of two.0 ≢ end_of two.0 → pos 0 ≤ℤ parts_wind two
    parts-natural two proper =
        let one = (edge-band-winds two.0 proper).natural in
        let other = fan_winds-natural two.0 two.1 in
        omega (arith, ints, one, other)

-- One edge of rings follows another one in its ring.
abbrev pub Follows : List (List Point) → Edge → Edge → Type 0
Follows rings edge next = (ring : List Point) × Contains rings ring × Contains (neighbours (ring_edges ring)) (edge, next)

module _ (corners : List Point) (convex : IsConvexAroundOrigin corners) (rings : List (List Point)) (proper : All (λ edge. start_of edge ≢ end_of edge) (flat_map ring_edges rings)) where
  -- Both are edges of the rings.
  pub follows-held : (edge next : Edge) → Follows rings edge next → Contains (flat_map ring_edges rings) edge × Contains (flat_map ring_edges rings) next
  follows-held edge next (ring, held, pair) =
      let (first, second) = neighbours-held (ring_edges ring) edge next pair in
      (Contains-in_flat_map ring_edges rings ring edge held first, Contains-in_flat_map ring_edges rings ring next held second)

  is-proper : (edge next : Edge) → Follows rings edge next → start_of edge ≢ end_of edge
  is-proper edge next follows = All-contains (λ (e : Edge). start_of e ≢ end_of e) (flat_map ring_edges rings) edge proper (follows-held edge next follows).0

  -- The edge moved is of the raw curve, and so are the moved sides of the fan.
  pub moved-held : (edge next : Edge) → Follows rings edge next → Contains (raw_edges corners rings) (moved_edge (furthest corners edge) edge)
  moved-held edge next (ring, held, pair) =
      Contains-in_flat_map (raw_of_ring corners) rings ring (moved_edge (furthest corners edge) edge) held
      (Contains-in_flat_map (raw_of_two corners) (neighbours (ring_edges ring)) (edge, next) (moved_edge (furthest corners edge) edge) pair
      (Contains-here (moved_edge (furthest corners edge) edge) (joint corners edge next)))

  pub side-held : (edge next side : Edge) → Follows rings edge next → pos 0 <ℤ turn edge next → Contains (fan corners edge next) side → Contains (raw_edges corners rings) (moved_edge (end_of edge) side)
  side-held edge next side (ring, held, pair) left among =
      Contains-in_flat_map (raw_of_ring corners) rings ring (moved_edge (end_of edge) side) held
      (Contains-in_flat_map (raw_of_two corners) (neighbours (ring_edges ring)) (edge, next) (moved_edge (end_of edge) side) pair
      (Contains-there (moved_edge (furthest corners edge) edge) (joint corners edge next) (moved_edge (end_of edge) side)
      (by (int_lt (pos 0) (turn edge next)) refl)))
    where
      by : (t : Bool) → int_lt (pos 0) (turn edge next) ≡ t
          → Contains (cond t (map (moved_edge (end_of edge)) (fan corners edge next)) (ways corners edge next))
          (moved_edge (end_of edge) side)
      by true is = Contains-map (moved_edge (end_of edge)) (fan corners edge next) side among
      by false is = absurd (omega (arith, ints, is, left))

  module _ (point : RationalPoint) where
    abbrev parts_of : List Point → ℤ
    parts_of ring = total (parts_wind corners convex point) (neighbours (ring_edges ring))

    pair-natural : (ring : List Point) → Contains rings ring → (two : Edge × Edge) → Contains (neighbours (ring_edges ring)) two → pos 0 ≤ℤ parts_wind corners convex point two
    pair-natural ring held two pair = parts-natural corners convex point two (is-proper two.0 two.1 (ring, held, pair))

    pairs-natural : (ring : List Point) → Contains rings ring → All (λ two. pos 0 ≤ℤ parts_wind corners convex point two) (neighbours (ring_edges ring))
    pairs-natural ring held = All-among (λ (two : Edge × Edge). pos 0 ≤ℤ parts_wind corners convex point two) (neighbours (ring_edges ring)) (pair-natural ring held)

    rings-natural : All (λ ring. pos 0 ≤ℤ parts_of ring) rings
    rings-natural = All-among (λ (ring : List Point). pos 0 ≤ℤ parts_of ring) rings (λ ring held. total-natural (parts_wind corners convex point) (neighbours (ring_edges ring)) (pairs-natural ring held))

    -- The raw curve winds around no point less often than the edges do.
    pub raw-natural : winding (flat_map ring_edges rings) point ≤ℤ winding (raw_edges corners rings) point
    raw-natural =
        let sum = raw-winds corners convex point rings proper in
        let more = total-natural parts_of rings rings-natural in
        omega (arith, ints, sum, more)

    -- and more often where some part winds
    raw-more : (outer : ℤ) (edge next : Edge) → Follows rings edge next → outer ≤ℤ winding (flat_map ring_edges rings) point → pos 0 <ℤ parts_wind corners convex point (edge, next) → outer <ℤ winding (raw_edges corners rings) point
    raw-more outer edge next (ring, held, pair) natural some =
        let sum = raw-winds corners convex point rings proper in
        let one = total-from (parts_wind corners convex point) (neighbours (ring_edges ring)) (pairs-natural ring held) (edge, next) pair in
        let all = total-from parts_of rings rings-natural ring held in
        omega (arith, ints, sum, one, all, natural, some)

    -- It winds more often than around the points outside around each point strictly inside the band of an edge.
    pub raw-of_band : (outer : ℤ) (edge next : Edge) → Follows rings edge next → outer ≤ℤ winding (flat_map ring_edges rings) point
        → pos 0 <ℤ left_by (reversed edge) point → pos 0 <ℤ left_by (edge_between (start_of edge) (moved (furthest corners edge) (start_of edge))) point
        → pos 0 <ℤ left_by (moved_edge (furthest corners edge) edge) point → pos 0 <ℤ left_by (edge_between (moved (furthest corners edge) (end_of edge)) (end_of edge)) point
        → outer <ℤ winding (raw_edges corners rings) point
    raw-of_band outer edge next follows natural first second third fourth =
        let one = (edge-band-winds corners convex point edge (is-proper edge next follows)).inside first second third fourth in
        let other = fan_winds-natural corners convex point edge next in
        raw-more outer edge next follows natural (omega (arith, ints, one, other))

    -- And around each one strictly inside a part of a fan where two edges turn left.
    pub raw-of_part : (outer : ℤ) (edge next side : Edge) → Follows rings edge next → pos 0 <ℤ turn edge next → Contains (fan corners edge next) side → outer ≤ℤ winding (flat_map ring_edges rings) point
        → pos 0 <ℤ left_by (edge_between (end_of edge) (moved (end_of edge) (start_of side))) point → pos 0 <ℤ left_by (moved_edge (end_of edge) side) point
        → pos 0 <ℤ left_by (edge_between (moved (end_of edge) (end_of side)) (end_of edge)) point
        → outer <ℤ winding (raw_edges corners rings) point
    raw-of_part outer edge next side follows left among natural first second third =
        let one = (edge-band-winds corners convex point edge (is-proper edge next follows)).natural in
        let here = (side-part-winds corners convex point (end_of edge) side (fan-held corners convex point edge next side among)).inside first second third in
        let all = total-from (λ s. winding (part_of_fan (end_of edge) s) point) (fan corners edge next) (fan-natural corners convex point edge next) side among in
        raw-more outer edge next follows natural (by (int_lt (pos 0) (turn edge next)) refl (omega (arith, ints, here, all)) one)
      where
        by : (t : Bool) → int_lt (pos 0) (turn edge next) ≡ t → pos 0 <ℤ total (λ s. winding (part_of_fan (end_of edge) s) point) (fan corners edge next) → pos 0 ≤ℤ winding (band edge (furthest corners edge)) point
            → pos 0 <ℤ (winding (band edge (furthest corners edge)) point +ℤ cond t (total (λ s. winding (part_of_fan (end_of edge) s) point) (fan corners edge next)) (pos 0))
        by true is some more = omega (arith, ints, some, more)
        by false is some more = absurd (omega (arith, ints, is, left))

-- ---- points around which the raw curve winds

-- The point lies in the band of an edge of rings, or on its border.
pub record IsInBand (corners : List Point) (rings : List (List Point)) (point : RationalPoint) : Type 0 where
  pub edge : Edge
  pub next : Edge
  pub follows : Follows rings edge next
  pub behind : pos 0 ≤ℤ left_by (reversed edge) point
  pub from : pos 0 ≤ℤ left_by (edge_between (start_of edge) (moved (furthest corners edge) (start_of edge))) point
  pub before : pos 0 ≤ℤ left_by (moved_edge (furthest corners edge) edge) point
  pub upto : pos 0 ≤ℤ left_by (edge_between (moved (furthest corners edge) (end_of edge)) (end_of edge)) point

-- It lies in a part of a fan where two edges turn left, or on its border.
pub record IsInPart (corners : List Point) (rings : List (List Point)) (point : RationalPoint) : Type 0 where
  pub edge : Edge
  pub next : Edge
  pub side : Edge
  pub follows : Follows rings edge next
  pub left : pos 0 <ℤ turn edge next
  pub among : Contains (fan corners edge next) side
  pub from : pos 0 ≤ℤ left_by (edge_between (end_of edge) (moved (end_of edge) (start_of side))) point
  pub before : pos 0 ≤ℤ left_by (moved_edge (end_of edge) side) point
  pub upto : pos 0 ≤ℤ left_by (edge_between (moved (end_of edge) (end_of side)) (end_of edge)) point

module _ (corners : List Point) (convex : IsConvexAroundOrigin corners) (rings : List (List Point)) (proper : All (λ edge. start_of edge ≢ end_of edge) (flat_map ring_edges rings)) (point : RationalPoint) where
  equal-or : (y z : ℤ) → (z ≡ y) ⊎ (z ≢ y)
  equal-or y z =
      by_lt_z y z
      (λ above. inr (λ none. omega (arith, ints, none, above)))
      (λ upto. by_lt_z z y
      (λ below. inr (λ none. omega (arith, ints, none, below)))
      (λ from. inl (omega (arith, ints, upto, from))))

  in-part : (edge next : Edge) → Follows rings edge next → fan_winds corners convex point edge next ≢ pos 0 → IsInPart corners rings point
  in-part edge next follows some = by (int_lt (pos 0) (turn edge next)) refl some
    where
      found : pos 0 <ℤ turn edge next → total (λ side. winding (part_of_fan (end_of edge) side) point) (fan corners edge next) ≢ pos 0 → IsInPart corners rings point
      found left wound =
          let (side, among, winds) = total-some (λ side. winding (part_of_fan (end_of edge) side) point) (fan corners edge next) wound in
          let (first, second, third) = (side-part-winds corners convex point (end_of edge) side (fan-held corners convex point edge next side among)).closed winds in
          record { edge = edge; next = next; side = side; follows = follows; left = left; among = among; from = first; before = second; upto = third }

      by : (t : Bool) → int_lt (pos 0) (turn edge next) ≡ t → cond t (total (λ side. winding (part_of_fan (end_of edge) side) point) (fan corners edge next)) (pos 0) ≢ pos 0 → IsInPart corners rings point
      by true is wound = found (omega (arith, ints, is)) wound
      by false is wound = absurd (wound refl)

  -- Where the raw curve winds around a point unlike around those outside, the edges do, or the point lies in a band or in a part
  -- of a fan.
  pub raw-some : (outer : ℤ) → winding (raw_edges corners rings) point ≢ outer → (winding (flat_map ring_edges rings) point ≢ outer) ⊎ (IsInBand corners rings point ⊎ IsInPart corners rings point)
  raw-some outer some =
      let sum = raw-winds corners convex point rings proper in
      ⊎_elim
      (λ none.
      let (ring, held, winds) = total-some (parts_of corners convex rings proper point) rings (λ nothing. some (omega (arith, ints, sum, none, nothing))) in
      let (two, pair, wound) = total-some (parts_wind corners convex point) (neighbours (ring_edges ring)) winds in
      let follows : Follows rings two.0 two.1 = (ring, held, pair) in
      ⊎_elim
      (λ no_band. inr (inr (in-part two.0 two.1 follows (λ no_fan. wound (omega (arith, ints, no_band, no_fan))))))
      (λ in_band.
      let (first, second, third, fourth) = (edge-band-winds corners convex point two.0 (is-proper corners convex rings proper two.0 two.1 follows)).closed in_band in
      inr (inl (record { edge = two.0; next = two.1; follows = follows; behind = first; from = second; before = third; upto = fourth })))
      (equal-or (pos 0) (winding (band two.0 (furthest corners two.0)) point)))
      (λ wound. inl wound)
      (equal-or outer (winding (flat_map ring_edges rings) point))
