-- A ring that visits no point twice, and whose edges meet only at common ends, winds around each point once or not at all.
use Rattle.std.proofs.Common.{◌≡◌, ◌≢◌, ◌⊎◌, inl, inr, ℕ, suc, ◌+◌, ◌<◌, ℤ, pos, negsuc, ◌-ℤ◌, ◌*ℤ◌, List, map, refl, ◌∙◌, arith}
use Rattle.std.specs.List.{All, Contains}
use Rattle.std.proofs.lemmas.Int.{ints}
use Rattle.std.proofs.lemmas.List.Elements.{All-contains}
use Rattle.plane.specs.declared.edge.Edge.{Edge}
use Rattle.plane.specs.declared.point.Point.{Point}
use Rattle.plane.specs.Ends.{end_of, reversed, start_of}
use Rattle.plane.specs.Meet.Crosses.{IsWithin}
use Rattle.plane.specs.Meet.Edges.{RationalPoint}
use Rattle.plane.proofs.MeetLemmas.Identities.{identity, minus, number, times}
use Rattle.noding.specs.Windings.{is_under, winding}
use Rattle.noding.proofs.SnapLemmas.Numbers.{n_of}
use Rattle.overlay.specs.Contours.Rings.{IsRing, ring_edges}
use Rattle.overlay.specs.Fill.Filled.{AreDistinct, AreNoded}
use Rattle.overlay.specs.Polygons.{WindsOnce}
use Rattle.overlay.proofs.AreaLemmas.Directed.{left-none, left-once}
use Rattle.overlay.specs.Sides.{HaveOnLeft, IsLow, sheared_edge}
use Rattle.overlay.proofs.AreaLemmas.Wide.{all-low, wider}
use Rattle.overlay.proofs.FillLemmas.Premises.{All-among}
use Rattle.overlay.proofs.WindsLemmas.Left.{IsUpto, winds-left}
use Rattle.overlay.proofs.WindsLemmas.Moved.{all-within, moved, moved-apart, sheared_point, under-moved, under-sheared, winding-map}

-- ---- from a point to a sheared one

-- A sheared point around which the sheared edges wind as the edges do around the point; all edges are low for how much they are
-- sheared.
pub record Slanted (all edges : List Edge) (point : RationalPoint) : Type 0 where
  pub n : ℕ
  pub b : ℕ
  pub wide : b + b < n
  pub low : All (IsLow b) all
  pub other : RationalPoint
  pub alike : winding (map (sheared_edge n) edges) other ≡ winding edges point

module _ (edges : List Edge) (point : RationalPoint) (m : ℕ) (steep : All (λ edge. IsWithin m (edge.y1 -ℤ edge.y0)) edges) (l : ℕ) (short : All (λ edge. IsWithin l (((edge.x1 -ℤ edge.x0) *ℤ pos m) -ℤ (edge.y1 -ℤ edge.y0))) edges) where
  abbrev k : ℕ
  k = suc (suc l)

  some : 1 < k
  some = omega arith

  -- the point moved a little
  abbrev there : RationalPoint
  there = moved k m some point

  -- an edge is under both, or under neither
  under-there : (edge : Edge) → Contains edges edge → is_under edge there ≡ is_under edge point
  under-there edge among =
      let up = All-contains (λ (e : Edge). IsWithin m (e.y1 -ℤ e.y0)) edges edge steep among in
      let right = All-contains (λ (e : Edge). IsWithin l (((e.x1 -ℤ e.x0) *ℤ pos m) -ℤ (e.y1 -ℤ e.y0))) edges edge short among in
      let most = right.upto in
      under-moved k m some edge up.upto (omega (arith, ints, most)) point

  under-back : (edge : Edge) → Contains edges edge → is_under (reversed edge) there ≡ is_under (reversed edge) point
  under-back edge among =
      let up = All-contains (λ (e : Edge). IsWithin m (e.y1 -ℤ e.y0)) edges edge steep among in
      let right = All-contains (λ (e : Edge). IsWithin l (((e.x1 -ℤ e.x0) *ℤ pos m) -ℤ (e.y1 -ℤ e.y0))) edges edge short among in
      let least = up.from in
      let most = right.from in
      let turned = identity (minus (times (minus (number edge.x0) (number edge.x1)) (n_of m)) (minus (number edge.y0) (number edge.y1)))
      (minus (n_of 0) (minus (times (minus (number edge.x1) (number edge.x0)) (n_of m)) (minus (number edge.y1) (number edge.y0)))) (omega arith) in
      under-moved k m some (reversed edge) (omega (arith, ints, least)) (omega (arith, ints, most, turned)) point

  module _ (s : ℕ) (starts : All (λ edge. IsWithin s (there.y -ℤ (pos there.n *ℤ edge.y0))) edges) (e : ℕ) (ends : All (λ edge. IsWithin e (there.y -ℤ (pos there.n *ℤ edge.y1))) edges) (b : ℕ) where
    abbrev n : ℕ
    n = suc ((b + b) + (s + e))

    wide : s + e < n
    wide = omega arith

    apart : (z : ℤ) → (pos there.n *ℤ z) ≢ there.x
    apart = moved-apart k m some point

    start : (edge : Edge) → Contains edges edge → IsWithin (s + e) (there.y -ℤ (pos there.n *ℤ edge.y0))
    start edge among = wider s (s + e) (there.y -ℤ (pos there.n *ℤ edge.y0)) (omega arith) (All-contains (λ (f : Edge). IsWithin s (there.y -ℤ (pos there.n *ℤ f.y0))) edges edge starts among)

    end : (edge : Edge) → Contains edges edge → IsWithin (s + e) (there.y -ℤ (pos there.n *ℤ edge.y1))
    end edge among = wider e (s + e) (there.y -ℤ (pos there.n *ℤ edge.y1)) (omega arith) (All-contains (λ (f : Edge). IsWithin e (there.y -ℤ (pos there.n *ℤ f.y1))) edges edge ends among)

    -- once they are sheared too
    alike-there : winding (map (sheared_edge n) edges) (sheared_point n there) ≡ winding edges point
    alike-there =
        winding-map (sheared_edge n) point (sheared_point n there) edges
        (All-among (λ edge. is_under (sheared_edge n edge) (sheared_point n there) ≡ is_under edge point) edges
        (λ edge among. under-sheared n (s + e) wide there apart edge (start edge among) (end edge among) ∙ under-there edge among))
        (All-among (λ edge. is_under (reversed (sheared_edge n edge)) (sheared_point n there) ≡ is_under (reversed edge) point) edges
        (λ edge among. under-sheared n (s + e) wide there apart (reversed edge) (end edge among) (start edge among) ∙ under-back edge among))

-- each point has one
pub slanted : (all edges : List Edge) (point : RationalPoint) → Slanted all edges point
slanted all edges point =
    let (m, steep) = all-within (λ edge. edge.y1 -ℤ edge.y0) edges in
    let (l, short) = all-within (λ edge. ((edge.x1 -ℤ edge.x0) *ℤ pos m) -ℤ (edge.y1 -ℤ edge.y0)) edges in
    let place = there edges point m steep l short in
    let (s, starts) = all-within (λ edge. place.y -ℤ (pos place.n *ℤ edge.y0)) edges in
    let (e, ends) = all-within (λ edge. place.y -ℤ (pos place.n *ℤ edge.y1)) edges in
    let (b, low) = all-low all in record {
      n = n edges point m steep l short s starts e ends b;
      b = b;
      wide = omega arith;
      low = low;
      other = sheared_point (n edges point m steep l short s starts e ends b) place;
      alike = alike-there edges point m steep l short s starts e ends b;
    }

-- ---- the theorem

-- A ring that visits no point twice, whose edges meet only at common ends, are distinct and no points, winds once around each point
-- or not at all, the way that it runs.
pub winds-directed : (ring : List Point) → IsRing ring → AreNoded (ring_edges ring) → AreDistinct (ring_edges ring) → All (λ edge. start_of edge ≢ end_of edge) (ring_edges ring) → WindsOnce ring
winds-directed ring is noded distinct two_ends point =
    let is_slanted = slanted (ring_edges ring) (ring_edges ring) point in
    let n = is_slanted.n in
    let b = is_slanted.b in
    let wide = is_slanted.wide in
    let some : 0 < n = omega (arith, wide) in
    let other = is_slanted.other in
    let alike = is_slanted.alike in (
      λ counterclockwise. once n other alike (left-once ring is noded distinct two_ends n b wide some is_slanted.low counterclockwise),
      λ clockwise. back n other alike (left-none ring is noded distinct two_ends n b wide some is_slanted.low clockwise),
    )
  where
    once : (n : ℕ) (other : RationalPoint) → winding (map (sheared_edge n) (ring_edges ring)) other ≡ winding (ring_edges ring) point → HaveOnLeft (pos 1) (map (sheared_edge n) (ring_edges ring))
        → (winding (ring_edges ring) point ≡ pos 0) ⊎ (winding (ring_edges ring) point ≡ pos 1)
    once n other alike have = by (winding (map (sheared_edge n) (ring_edges ring)) other) (winding (ring_edges ring) point) alike (winds-left (map (sheared_edge n) (ring_edges ring)) have.closed have.noded have.distinct have.sloped (pos 1) (inr refl) have.left other)
      where
        by : (v w : ℤ) → v ≡ w → IsUpto (pos 1) v → (w ≡ pos 0) ⊎ (w ≡ pos 1)
        by v w same (inl one) = inr (omega (arith, ints, same, one))
        by v w same (inr none) = inl (omega (arith, ints, same, none))

    back : (n : ℕ) (other : RationalPoint) → winding (map (sheared_edge n) (ring_edges ring)) other ≡ winding (ring_edges ring) point → HaveOnLeft (pos 0) (map (sheared_edge n) (ring_edges ring))
        → (winding (ring_edges ring) point ≡ pos 0) ⊎ (winding (ring_edges ring) point ≡ negsuc 0)
    back n other alike have = by (winding (map (sheared_edge n) (ring_edges ring)) other) (winding (ring_edges ring) point) alike (winds-left (map (sheared_edge n) (ring_edges ring)) have.closed have.noded have.distinct have.sloped (pos 0) (inl refl) have.left other)
      where
        by : (v w : ℤ) → v ≡ w → IsUpto (pos 0) v → (w ≡ pos 0) ⊎ (w ≡ negsuc 0)
        by v w same (inl none) = inl (omega (arith, ints, same, none))
        by v w same (inr less) = inr (omega (arith, ints, same, less))
