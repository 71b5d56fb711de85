-- A ring that visits no point twice, and whose edges meet only at common ends, runs counterclockwise exactly where its area is
-- above 0.
use Rattle.std.proofs.Common.{◌≡◌, ◌≢◌, ◌+◌, ◌<◌, suc, ℕ, ℤ, pos, ◌*ℤ◌, ◌<ℤ◌, true, false, List, Option, Some, None, map, sym, subst, ◌∙◌, arith}
use Rattle.std.specs.Int.Signed.{lt_z}
use Rattle.std.specs.List.{All, Contains}
use Rattle.std.proofs.lemmas.Int.{by_lt_z, ints}
use Rattle.plane.specs.declared.edge.Edge.{Edge}
use Rattle.plane.specs.declared.point.Point.{Point}
use Rattle.plane.specs.Ends.{end_of, start_of}
use Rattle.plane.proofs.MeetLemmas.Identities.{identity, scaled, times}
use Rattle.plane.proofs.PairsLemmas.Bags.{Contains-map}
use Rattle.noding.specs.Windings.{IsClosed}
use Rattle.noding.proofs.SnapLemmas.Numbers.{n_of}
use Rattle.overlay.specs.Areas.{twice_area}
use Rattle.overlay.specs.Contours.Rings.{IsRing, ring_edges}
use Rattle.overlay.specs.Fill.Filled.{AreDistinct, AreNoded}
use Rattle.overlay.specs.Polygons.{first_sloped, is_counterclockwise}
use Rattle.overlay.proofs.AreaLemmas.Around.{one-left}
use Rattle.overlay.proofs.AreaLemmas.First.{left-leftwards, left-rightwards}
use Rattle.overlay.specs.Sides.{HaveOnLeft, IsLow, on_left, sheared, sheared_edge}
use Rattle.overlay.proofs.AreaLemmas.Sheared.{AreDistinct-sheared, AreNoded-sheared, IsRing-sheared, ring_edges-sheared, total-sheared}
use Rattle.overlay.proofs.AreaLemmas.Slanted.{slanted-runs, slanted-sloped}
use Rattle.overlay.proofs.AreaLemmas.Slices.{area-above, area-below}
use Rattle.overlay.proofs.AreaLemmas.Wide.{all-low}
use Rattle.overlay.proofs.ContourLemmas.Counts.{ring-closed}
use Rattle.overlay.proofs.FillLemmas.Premises.{All-among}
use Rattle.overlay.proofs.GroupingLemmas.Begins.{IsFirst, Told, has-edge, told-all}

-- ---- numbers

-- a number is above 0 where its natural multiple is
above-of : (n : ℕ) (z : ℤ) → pos 0 <ℤ (pos n *ℤ z) → pos 0 <ℤ z
above-of n z above =
    let none = identity (times (n_of n) (n_of 0)) (n_of 0) (omega arith) in
    by_lt_z (pos 0) z (λ is. is) (λ upto. let most = scaled n z (pos 0) upto in absurd (omega (arith, ints, above, most, none)))

-- the same below 0
below-of : (n : ℕ) (z : ℤ) → (pos n *ℤ z) <ℤ pos 0 → z <ℤ pos 0
below-of n z below =
    let none = identity (times (n_of n) (n_of 0)) (n_of 0) (omega arith) in
    by_lt_z z (pos 0) (λ is. is) (λ from. let least = scaled n (pos 0) z from in absurd (omega (arith, ints, below, least, none)))

-- ---- the first edge

-- where no edge is vertical, and there are some, one begins first
first-of : (edges : List Edge) → ((edge : Edge) → Contains edges edge → edge.x0 ≢ edge.x1) → (some : Edge) → Contains edges some → (first : Edge) × IsFirst edges first
first-of edges sloped some among = by (first_sloped None edges) (told-all edges)
  where
    by : (best : Option Edge) → Told edges best → (first : Edge) × IsFirst edges first
    by None told = absurd (told some among (λ same. sloped some among (sym same)))
    by (Some first) told = (first, told)

-- ---- a ring that is sheared widely

module _ (ring : List Point) (is : IsRing ring) (noded : AreNoded (ring_edges ring)) (distinct : AreDistinct (ring_edges ring)) (two_ends : All (λ edge. start_of edge ≢ end_of edge) (ring_edges ring))
    (n b : ℕ) (wide : b + b < n) (some : 0 < n) (low : All (IsLow b) (ring_edges ring)) where
  abbrev edges : List Edge
  edges = ring_edges ring

  abbrev slanted : List Edge
  slanted = map (sheared_edge n) edges

  -- its edges are the sheared ones
  are : ring_edges (map (sheared n) ring) ≡ slanted
  are = ring_edges-sheared n ring

  -- they are closed
  closed : IsClosed slanted
  closed = subst IsClosed are (λ test. ring-closed test (map (sheared n) ring))

  -- they meet only at common ends still
  noded-too : AreNoded slanted
  noded-too = AreNoded-sheared n some edges noded

  -- and no two have the same ends
  distinct-too : AreDistinct slanted
  distinct-too = AreDistinct-sheared n some edges distinct

  -- none is vertical
  sloped : (edge : Edge) → Contains slanted edge → edge.x0 ≢ edge.x1
  sloped = slanted-sloped edges two_ends n b wide low

  -- so all are sloped
  all-sloped : All (λ edge. edge.x0 ≢ edge.x1) slanted
  all-sloped = All-among (λ (edge : Edge). edge.x0 ≢ edge.x1) slanted sloped

  -- all have the same number on their left
  alike-left : (one other : Edge) → Contains slanted one → Contains slanted other → on_left slanted one ≡ on_left slanted other
  alike-left =
      subst (λ (list : List Edge). (one other : Edge) → Contains list one → Contains list other → on_left list one ≡ on_left list other) are
      (one-left (map (sheared n) ring) (IsRing-sheared n some ring is) (subst AreNoded (sym are) noded-too) (subst AreDistinct (sym are) distinct-too)
      (subst (λ (list : List Edge). All (λ edge. edge.x0 ≢ edge.x1) list) (sym are) all-sloped))

  -- that of the first one
  all-left : (z : ℤ) (first : Edge) → Contains slanted first → on_left slanted first ≡ z → All (λ edge. on_left slanted edge ≡ z) slanted
  all-left z first among here = All-among (λ (edge : Edge). on_left slanted edge ≡ z) slanted (λ edge inside. alike-left edge first inside among ∙ here)

  -- the one that begins first
  begins : (first : Edge) × IsFirst slanted first
  begins = let (edge, inside) = has-edge ring is.some in first-of slanted sloped (sheared_edge n edge) (Contains-map (sheared_edge n) edges edge inside)

  -- goes rightwards where the ring runs counterclockwise
  runs : is_counterclockwise ring ≡ lt_z begins.0.x0 begins.0.x1
  runs = slanted-runs edges two_ends n b wide low some noded distinct closed begins.0 begins.1

  -- that number is 1 where the ring runs counterclockwise
  pub left-once : is_counterclockwise ring ≡ true → HaveOnLeft (pos 1) (map (sheared_edge n) (ring_edges ring))
  left-once counterclockwise =
      let first = begins.0 in record {
        closed = closed;
        noded = noded-too;
        distinct = distinct-too;
        sloped = all-sloped;
        left = all-left (pos 1) first begins.1.among (left-rightwards slanted noded-too sloped first begins.1 (sym runs ∙ counterclockwise));
      }

  -- and else 0
  pub left-none : is_counterclockwise ring ≡ false → HaveOnLeft (pos 0) (map (sheared_edge n) (ring_edges ring))
  left-none clockwise =
      let first = begins.0 in record {
        closed = closed;
        noded = noded-too;
        distinct = distinct-too;
        sloped = all-sloped;
        left = all-left (pos 0) first begins.1.among (left-leftwards slanted noded-too sloped first begins.1 (sym runs ∙ clockwise));
      }

  -- so the area is above 0 there
  above-where : is_counterclockwise ring ≡ true → pos 0 <ℤ twice_area ring
  above-where counterclockwise =
      above-of n (twice_area ring)
      (subst (λ z. pos 0 <ℤ z) (total-sheared n edges)
      (area-above slanted closed noded-too distinct-too all-sloped begins.0 begins.1.among (let have = left-once counterclockwise in have.left)))

  -- and below 0 where it doesn't
  below-where : is_counterclockwise ring ≡ false → twice_area ring <ℤ pos 0
  below-where clockwise =
      below-of n (twice_area ring)
      (subst (λ z. z <ℤ pos 0) (total-sheared n edges)
      (area-below slanted closed noded-too distinct-too all-sloped begins.0 begins.1.among (let have = left-none clockwise in have.left)))

-- The area of a ring is above 0 where it runs counterclockwise, and else below 0.
pub area-directed : (ring : List Point) → IsRing ring → AreNoded (ring_edges ring) → AreDistinct (ring_edges ring) → All (λ edge. start_of edge ≢ end_of edge) (ring_edges ring)
    → (is_counterclockwise ring ≡ true → pos 0 <ℤ twice_area ring) × (is_counterclockwise ring ≡ false → twice_area ring <ℤ pos 0)
area-directed ring is noded distinct two_ends =
    let (b, low) = all-low (ring_edges ring) in
    let wide : b + b < suc (b + b) = omega arith in
    let some : 0 < suc (b + b) = omega arith in (
      above-where ring is noded distinct two_ends (suc (b + b)) b wide some low,
      below-where ring is noded distinct two_ends (suc (b + b)) b wide some low,
    )
