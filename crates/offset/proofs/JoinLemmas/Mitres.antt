-- What the raw curve winds around together with mitres.
use Rattle.std.proofs.Common.{◌≡◌, ◌≢◌, ◌⊎◌, inl, inr, ⊎_elim, ℕ, ℤ, pos, ◌+ℤ◌, ◌-ℤ◌, ◌*ℤ◌, ◌≤ℤ◌, ◌<ℤ◌, ◌&&◌, Bool, true, false, cond, List, [], ◌∷◌, ◌++◌, refl, ap, sym, ◌∙◌, arith}
use Rattle.std.specs.List.{All, Contains, flat_map, list_all}
use Rattle.std.specs.Prelude.{int_lt}
use Rattle.std.proofs.lemmas.Bool.{and_parts}
use Rattle.std.proofs.lemmas.Int.{by_lt_z, ints}
use Rattle.std.proofs.lemmas.List.Elements.{All-contains, Contains-append_left}
use Rattle.plane.specs.declared.edge.Edge.{Edge}
use Rattle.plane.specs.declared.point.Point.{Point}
use Rattle.plane.specs.Ends.{end_of, start_of}
use Rattle.plane.specs.Meet.Crosses.{cross}
use Rattle.plane.specs.Meet.Edges.{RationalPoint}
use Rattle.plane.proofs.MeetLemmas.Identities.{Term, identity, minus, number, plus, times}
use Rattle.noding.specs.Windings.{IsClosed, winding}
use Rattle.noding.proofs.SnapLemmas.Numbers.{n_of}
use Rattle.overlay.specs.Contours.Rings.{ring_edges}
use Rattle.overlay.specs.Fill.Pieces.{total}
use Rattle.overlay.proofs.FillLemmas.Premises.{All-among}
use Rattle.overlay.proofs.FillLemmas.Totals.{total-append, total-none, total-same, total-sum}
use Rattle.overlay.proofs.GroupingLemmas.Bags.{Contains-flat_map, Contains-in_flat_map}
use Rattle.offset.specs.declared.joins.Join.TheVariants.{Mitre}
use Rattle.offset.specs.Joins.{IsOfMitred, corners_of, has_tip, is_near, is_within_limit, joined_edges, joined_of_ring, joined_of_two, mitre, mitre_by, way_to_tip}
use Rattle.offset.specs.Raw.{GoesThrough, furthest, moved, raw_edges, raw_of_ring, raw_of_two}
use Rattle.offset.specs.Shape.{IsConvexAroundOrigin, neighbours, sides, turn}
use Rattle.offset.specs.Sum.{IsOfSum}
use Rattle.offset.proofs.JoinLemmas.Pairs.{total-corners}
use Rattle.offset.proofs.LineLemmas.Round.{closed-of, gain}
use Rattle.offset.proofs.OffsetLemmas.{winds-only}
use Rattle.offset.proofs.PieceLemmas.Closed.{raw-gains}
use Rattle.offset.proofs.PieceLemmas.Parts.{total-from, total-natural, total-some}
use Rattle.offset.proofs.PieceLemmas.Sides.{all_passed, passed_by, winding-passed}
use Rattle.offset.proofs.PieceLemmas.Triangles.{triangle-winds, turn_at}
use Rattle.offset.proofs.SideLemmas.Inner.{BoundOnce}

-- ---- one mitre

-- the corners and the tip stand counterclockwise, wherever they are moved to
tip-turns : (limit : ℕ) (corners : List Point) (at from to way : Point) → has_tip limit corners from to way ≡ true → pos 0 <ℤ turn_at (moved at from) (moved at (moved from way)) (moved at to)
tip-turns limit corners at from to way has =
    let right = int_lt (cross (to.x -ℤ from.x) (to.y -ℤ from.y) way.x way.y) (pos 0) in
    let within = list_all (is_within_limit limit (moved from way)) (sides corners) in
    let (near, rest) = and_parts (is_near way) (right && within) has in
    let (is, _) = and_parts right within rest in
    let same = area at.x at.y from.x from.y to.x to.y way.x way.y in
    omega (arith, ints, is, same)
  where
    area : (x y fx fy tx ty wx wy : ℤ)
        → cross ((x +ℤ (fx +ℤ wx)) -ℤ (x +ℤ fx)) ((y +ℤ (fy +ℤ wy)) -ℤ (y +ℤ fy)) ((x +ℤ tx) -ℤ (x +ℤ fx)) ((y +ℤ ty) -ℤ (y +ℤ fy)) ≡ (pos 0 -ℤ cross (tx -ℤ fx) (ty -ℤ fy) wx wy)
    area x y fx fy tx ty wx wy =
        let two = λ (a b : ℤ). plus (number a) (number b) in
        let three = λ (a b c : ℤ). plus (number a) (plus (number b) (number c)) in
        identity (minus (times (minus (three x fx wx) (two x fx)) (minus (two y ty) (two y fy))) (times (minus (three y fy wy) (two y fy)) (minus (two x tx) (two x fx))))
        (minus (n_of 0) (minus (times (minus (number tx) (number fx)) (number wy)) (times (minus (number ty) (number fy)) (number wx)))) (omega arith)

module _ (limit : ℕ) (corners : List Point) where
  abbrev way_of : Edge → Edge → Point
  way_of edge next = way_to_tip (furthest corners edge) (furthest corners next) edge next

  abbrev is_mitred : Edge → Edge → Bool
  is_mitred edge next = int_lt (pos 0) (turn edge next) && has_tip limit corners (furthest corners edge) (furthest corners next) (way_of edge next)

  abbrev mitre_of : Edge × Edge → List Edge
  mitre_of two = mitre limit corners two.0 two.1

  -- A mitre winds around no point less than not at all.
  pub mitre-natural : (edge next : Edge) (point : RationalPoint) → pos 0 ≤ℤ winding (mitre limit corners edge next) point
  mitre-natural edge next point = by (is_mitred edge next) refl
    where
      a : Point
      a = furthest corners edge

      b : Point
      b = furthest corners next

      at : Point
      at = end_of edge

      by : (t : Bool) → is_mitred edge next ≡ t → pos 0 ≤ℤ winding (cond t (mitre_by at a b (way_of edge next)) []) point
      by true is =
          let (_, has) = and_parts (int_lt (pos 0) (turn edge next)) (has_tip limit corners a b (way_of edge next)) is in
          ⊎_elim (λ none. omega (arith, ints, none)) (λ once. omega (arith, ints, once))
          (triangle-winds (moved at a) (moved at (moved a (way_of edge next))) (moved at b) (tip-turns limit corners at a b (way_of edge next) has) point).once
      by false is = omega (arith, ints)

  -- It goes round.
  pub mitre-gain : (edge next : Edge) (give : Point → ℤ) → total (gain give) (mitre limit corners edge next) ≡ pos 0
  mitre-gain edge next give = by (is_mitred edge next)
    where
      by : (t : Bool) → total (gain give) (cond t (mitre_by (end_of edge) (furthest corners edge) (furthest corners next) (way_of edge next)) []) ≡ pos 0
      by true = omega (arith, ints)
      by false = refl

  -- ---- all of them

  abbrev curve : List (List Point) → List Edge
  curve rings = joined_edges (Mitre limit) corners rings

  -- what the curve gives, edge by edge
  curve-gives : (give : Edge → ℤ) (rings : List (List Point)) → total give (curve rings) ≡ (total give (raw_edges corners rings) +ℤ total (λ two. total give (mitre_of two)) (corners_of rings))
  curve-gives give rings =
      total-corners give (joined_of_two (Mitre limit) corners) rings
      ∙ total-same (λ (two : Edge × Edge). total give (joined_of_two (Mitre limit) corners two)) (λ (two : Edge × Edge). total give (raw_of_two corners two) +ℤ total give (mitre_of two)) (corners_of rings)
      (All-among (λ (two : Edge × Edge). total give (joined_of_two (Mitre limit) corners two) ≡ (total give (raw_of_two corners two) +ℤ total give (mitre_of two))) (corners_of rings)
      (λ two held. total-append give (raw_of_two corners two) (mitre_of two)))
      ∙ total-sum (λ (two : Edge × Edge). total give (raw_of_two corners two)) (λ (two : Edge × Edge). total give (mitre_of two)) (corners_of rings)
      ∙ ap (λ z. z +ℤ total (λ two. total give (mitre_of two)) (corners_of rings)) (sym (total-corners give (raw_of_two corners) rings))

  -- The curve with mitres is closed.
  pub mitred-closed : IsConvexAroundOrigin corners → (rings : List (List Point)) → All (λ edge. start_of edge ≢ end_of edge) (flat_map ring_edges rings) → IsClosed (curve rings)
  mitred-closed convex rings proper = closed-of (curve rings) nothing
    where
      nothing : (give : Point → ℤ) → total (gain give) (curve rings) ≡ pos 0
      nothing give =
          let sum = curve-gives (gain give) rings in
          let raw = raw-gains corners convex give rings proper in
          let rest = total-none (λ (two : Edge × Edge). total (gain give) (mitre_of two)) (corners_of rings)
          (All-among (λ (two : Edge × Edge). total (gain give) (mitre_of two) ≡ pos 0) (corners_of rings) (λ two held. mitre-gain two.0 two.1 give)) in
          omega (arith, ints, sum, raw, rest)

  module _ (rings : List (List Point)) (point : RationalPoint) where
    abbrev winds_of : Edge × Edge → ℤ
    winds_of two = winding (mitre_of two) point

    -- It winds around a point as the raw curve does, and all mitres together.
    curve-winds : winding (curve rings) point ≡ (winding (raw_edges corners rings) point +ℤ total winds_of (corners_of rings))
    curve-winds =
        let sum : all_passed (curve rings) point ≡ (all_passed (raw_edges corners rings) point +ℤ total (λ two. all_passed (mitre_of two) point) (corners_of rings)) = curve-gives (λ (edge : Edge). passed_by edge point) rings in
        let all = winding-passed (curve rings) point in
        let raw = winding-passed (raw_edges corners rings) point in
        let each : total winds_of (corners_of rings) ≡ total (λ two. all_passed (mitre_of two) point) (corners_of rings) = total-same winds_of (λ (two : Edge × Edge). all_passed (mitre_of two) point) (corners_of rings)
        (All-among (λ (two : Edge × Edge). winds_of two ≡ all_passed (mitre_of two) point) (corners_of rings) (λ two held. winding-passed (mitre_of two) point)) in
        omega (arith, ints, sum, all, raw, each)

    all-natural : All (λ two. pos 0 ≤ℤ winds_of two) (corners_of rings)
    all-natural = All-among (λ (two : Edge × Edge). pos 0 ≤ℤ winds_of two) (corners_of rings) (λ two held. mitre-natural two.0 two.1 point)

    -- an edge of the raw curve is one of it
    raw-held : (edge : Edge) → Contains (raw_edges corners rings) edge → Contains (curve rings) edge
    raw-held edge held =
        let (ring, among, inside) = Contains-flat_map (raw_of_ring corners) rings edge held in
        let (two, pair, there) = Contains-flat_map (raw_of_two corners) (neighbours (ring_edges ring)) edge inside in
        Contains-in_flat_map (joined_of_ring (Mitre limit) corners) rings ring edge among
        (Contains-in_flat_map (joined_of_two (Mitre limit) corners) (neighbours (ring_edges ring)) two edge pair
        (Contains-append_left (raw_of_two corners two) (mitre_of two) edge there))

    off-raw : All (λ edge. ¬ (GoesThrough edge point)) (curve rings) → All (λ edge. ¬ (GoesThrough edge point)) (raw_edges corners rings)
    off-raw off = All-among (λ (edge : Edge). ¬ (GoesThrough edge point)) (raw_edges corners rings) (λ edge held. All-contains (λ (e : Edge). ¬ (GoesThrough e point)) (curve rings) edge off (raw-held edge held))

    -- where the raw curve winds around a point of the sum, and around no other
    mitred-of : (IsOfSum (flat_map ring_edges rings) corners point × (pos 0 <ℤ winding (raw_edges corners rings) point))
        ⊎ ((¬ (IsOfSum (flat_map ring_edges rings) corners point)) × (winding (raw_edges corners rings) point ≡ pos 0))
        → (IsOfMitred limit corners rings point × (pos 0 <ℤ winding (curve rings) point)) ⊎ ((¬ (IsOfMitred limit corners rings point)) × (winding (curve rings) point ≡ pos 0))
    mitred-of (inl (sum, above)) =
        let is = curve-winds in
        let more = total-natural winds_of (corners_of rings) all-natural in
        inl (inl sum, omega (arith, ints, is, more, above))
    mitred-of (inr (none, nothing)) =
        let is = curve-winds in
        let more = total-natural winds_of (corners_of rings) all-natural in
        by_lt_z (pos 0) (total winds_of (corners_of rings))
        (λ above. inl (inr (total-some winds_of (corners_of rings) (λ zero. omega (arith, ints, above, zero))), omega (arith, ints, is, nothing, above)))
        (λ upto. inr (outside upto, omega (arith, ints, is, nothing, more, upto)))
      where
        outside : total winds_of (corners_of rings) ≤ℤ pos 0 → IsOfMitred limit corners rings point → ⊥
        outside upto (inl sum) = none sum
        outside upto (inr (two, held, winds)) =
            let one = total-from winds_of (corners_of rings) all-natural two held in
            let from = mitre-natural two.0 two.1 point in
            winds (omega (arith, ints, one, from, upto))

    -- The curve winds around the points of the sum and of mitres, and around no others.
    pub winds-mitred : IsConvexAroundOrigin corners → (bounds : BoundOnce (flat_map ring_edges rings)) → bounds.outer ≡ pos 0 → All (λ edge. ¬ (GoesThrough edge point)) (curve rings)
        → (IsOfMitred limit corners rings point × (pos 0 <ℤ winding (curve rings) point)) ⊎ ((¬ (IsOfMitred limit corners rings point)) × (winding (curve rings) point ≡ pos 0))
    winds-mitred convex bounds outside off =
        mitred-of (winds-only corners convex rings bounds outside point (off-raw off))
