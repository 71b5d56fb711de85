-- One step along a ring, as seen from a point beside it.
use Rattle.std.proofs.Common.{List, arith, pos, subst, sym, ℤ, ◌*ℤ◌, ◌+ℤ◌, ◌-ℤ◌, ◌<ℤ◌, ◌≡◌, ◌≢◌, ◌≤ℤ◌, ◌⊎◌, ◌∙◌, ⊎_elim}
use Rattle.std.specs.Prelude.{Contains}
use Rattle.std.proofs.lemmas.Int.{by_lt_z, ints}
use Rattle.plane.specs.declared.edge.Edge.{Edge}
use Rattle.plane.specs.declared.point.Point.{Point}
use Rattle.plane.specs.Ends.{edge_between, end_of, start_of}
use Rattle.plane.specs.Meet.Edges.{RationalPoint}
use Rattle.plane.proofs.MeetLemmas.Identities.{identity, minus, number, plus, times}
use Rattle.offset.specs.Cuts.{IsGentle, end_spoke, start_spoke}
use Rattle.offset.specs.Raw.{furthest, moved, moved_edge}
use Rattle.offset.specs.Shape.{IsConvexAroundOrigin, sides, turn}
use Rattle.offset.proofs.CoverLemmas.Lines.{IsLeftOfBand, moved-other, side-in, side-out, side-side}
use Rattle.offset.proofs.CoverLemmas.Near.{reversed-side}
use Rattle.offset.proofs.CoverLemmas.Numbers.{above-factor, above-product, none, scaled-most, unscaled-most}
use Rattle.offset.proofs.CoverLemmas.Sides.{ahead, ahead-end, ahead_term, side_of, way_term}
use Rattle.offset.proofs.CoverLemmas.Vectors.{Terms, crossed, crossing, less_terms, reach, term, turn_back, way, wide}
use Rattle.offset.proofs.PieceLemmas.Convex.{furthest-is, furthest-pair, furthest-told, shape-of}
use Rattle.offset.proofs.PieceLemmas.Parts.{furthest-beside}

-- ---- numbers alone

-- A product of a number that isn't negative and one that isn't positive isn't positive.
falls : (a b : ℤ) → pos 0 ≤ℤ a → b ≤ℤ pos 0 → (a *ℤ b) ≤ℤ pos 0
falls a b first second =
    let most = scaled-most a b (pos 0) first second in
    let flat = identity (times (number a) none) none (omega arith) in
    omega (arith, ints, most, flat)

falls_too : (a b : ℤ) → a ≤ℤ pos 0 → pos 0 ≤ℤ b → (a *ℤ b) ≤ℤ pos 0
falls_too a b first second =
    let most = falls b a second first in
    let same = identity (times (number a) (number b)) (times (number b) (number a)) (omega arith) in
    omega (arith, ints, most, same)

rises : (a b : ℤ) → a ≤ℤ pos 0 → b ≤ℤ pos 0 → pos 0 ≤ℤ (a *ℤ b)
rises a b first second =
    let more = above-product (pos 0 -ℤ a) (pos 0 -ℤ b) (omega (arith, ints, first)) (omega (arith, ints, second)) in
    let same = identity (times (minus none (number a)) (minus none (number b))) (times (number a) (number b)) (omega arith) in
    omega (arith, ints, more, same)

-- a number has the sign of two products that add up to its product with a positive number
module _ (k z a b c d : ℤ) (some : pos 0 <ℤ k) (is : (k *ℤ z) ≡ ((a *ℤ b) +ℤ (c *ℤ d))) where
  sum-above : pos 0 ≤ℤ (a *ℤ b) → pos 0 ≤ℤ (c *ℤ d) → pos 0 ≤ℤ z
  sum-above first second = above-factor k z some (omega (arith, ints, is, first, second))

  sum-below : (a *ℤ b) ≤ℤ pos 0 → (c *ℤ d) ≤ℤ pos 0 → z ≤ℤ pos 0
  sum-below first second =
      let same = identity (times (number k) (minus none (number z))) (minus none (times (number k) (number z))) (omega arith) in
      let above = above-factor k (pos 0 -ℤ z) some (omega (arith, ints, is, first, second, same)) in
      omega (arith, ints, above)

-- a bound of a number, where its product with a positive one is the sum of two products that are bounded
reach-most : (k n w z a b c d : ℤ) → pos 0 <ℤ k → (k *ℤ z) ≡ ((a *ℤ b) +ℤ (c *ℤ d)) → (a *ℤ b) ≤ℤ pos 0 → pos 0 ≤ℤ c → c ≤ℤ (n *ℤ k) → d ≤ℤ w → pos 0 ≤ℤ w → z ≤ℤ (n *ℤ w)
reach-most k n w z a b c d some is below from upto most around =
    let first = scaled-most c d w from most in
    let second = scaled-most w c (n *ℤ k) around upto in
    let turn = identity (times (number c) (number w)) (times (number w) (number c)) (omega arith) in
    let whole = identity (times (number k) (times (number n) (number w))) (times (number w) (times (number n) (number k))) (omega arith) in
    unscaled-most k z (n *ℤ w) some (omega (arith, ints, is, below, first, second, turn, whole))

-- ---- vectors

-- of four vectors: the other ways to pair them
by_other : (a b d v : Point) → (crossed a d *ℤ crossed b v) ≡ ((crossed a b *ℤ crossed d v) +ℤ (crossed b d *ℤ crossed a v))
by_other a b d v =
    identity
    (times (crossing (term a) (term d)) (crossing (term b) (term v)))
    (plus (times (crossing (term a) (term b)) (crossing (term d) (term v))) (times (crossing (term b) (term d)) (crossing (term a) (term v))))
    (omega arith)

-- what lies left of two directions lies left of one between them
left-of_both : (f h d v : Point) → pos 0 <ℤ crossed f h → crossed d f <ℤ pos 0 → pos 0 ≤ℤ crossed d h → pos 0 ≤ℤ crossed f v → pos 0 ≤ℤ crossed h v → pos 0 ≤ℤ crossed d v
left-of_both f h d v left before after first second =
    sum-above (crossed f h) (crossed d v) (crossed f d) (crossed h v) (crossed d h) (crossed f v) left (by_other f d h v)
    (above-product (crossed f d) (crossed h v) (let same = turn_back f d in omega (arith, ints, same, before)) second)
    (above-product (crossed d h) (crossed f v) after first)

-- ---- points beside edges

abbrev moved_term : Point → Point → Terms
moved_term by point = record {
  x = plus (number by.x) (number point.x);
  y = plus (number by.y) (number point.y);
}

abbrev from_term : RationalPoint → Terms → Terms
from_term point from = record {
  x = minus (number point.x) (times (number (pos point.n)) from.x);
  y = minus (number point.y) (times (number (pos point.n)) from.y);
}

-- on which side of a moved edge, by either end of it
side-start : (by : Point) (edge : Edge) (point : RationalPoint) → side_of (moved_edge by edge) point ≡ crossed (way edge) (ahead point (moved by (start_of edge)))
side-start by edge point =
    identity
    (crossing (less_terms (moved_term by (end_of edge)) (moved_term by (start_of edge))) (from_term point (moved_term by (start_of edge))))
    (crossing (way_term edge) (from_term point (moved_term by (start_of edge))))
    (omega arith)

side-end : (by : Point) (edge : Edge) (point : RationalPoint) → side_of (moved_edge by edge) point ≡ crossed (way edge) (ahead point (moved by (end_of edge)))
side-end by edge point =
    identity
    (crossing (less_terms (moved_term by (end_of edge)) (moved_term by (start_of edge))) (from_term point (moved_term by (start_of edge))))
    (crossing (way_term edge) (from_term point (moved_term by (end_of edge))))
    (omega arith)

-- from a point that is moved
ahead-moved : (by at d : Point) (point : RationalPoint) → crossed d (ahead point (moved by at)) ≡ ((pos point.n *ℤ crossed by d) -ℤ crossed (ahead point at) d)
ahead-moved by at d point =
    identity
    (crossing (term d) (from_term point (moved_term by at)))
    (minus (times (number (pos point.n)) (crossing (term by) (term d))) (crossing (ahead_term point at) (term d)))
    (omega arith)

-- the other way round, from either end of the edge
past-start : (edge : Edge) (point : RationalPoint) → crossed (ahead point (start_of edge)) (way edge) ≡ (pos 0 -ℤ side_of edge point)
past-start edge point = turn_back (ahead point (start_of edge)) (way edge)

past-end : (edge : Edge) (point : RationalPoint) → crossed (ahead point (end_of edge)) (way edge) ≡ (pos 0 -ℤ side_of edge point)
past-end edge point =
    identity
    (crossing (ahead_term point (end_of edge)) (way_term edge))
    (minus none (crossing (way_term edge) (ahead_term point (start_of edge))))
    (omega arith)

-- ---- spokes

spoke-side : (by from : Point) (point : RationalPoint) → side_of (edge_between from (moved by from)) point ≡ crossed by (ahead point from)
spoke-side by from point = side-out by from point ∙ sym (turn_back by (ahead point from))

-- On which side of a spoke a point is, by how far it lies ahead of where the spoke begins.
pub spoke-ahead : (corners : List Point) (edge : Edge) (point : RationalPoint) → side_of (start_spoke corners edge) point ≡ crossed (furthest corners edge) (ahead point (start_of edge))
spoke-ahead corners edge point = spoke-side (furthest corners edge) (start_of edge) point

pub spoke-behind : (corners : List Point) (edge : Edge) (point : RationalPoint) → side_of (end_spoke corners edge) point ≡ crossed (furthest corners edge) (ahead point (end_of edge))
spoke-behind corners edge point = spoke-side (furthest corners edge) (end_of edge) point

-- how another edge turns from one
spoke-turn : (by from : Point) (other : Edge) → turn (edge_between from (moved by from)) other ≡ crossed by (way other)
spoke-turn by from other =
    identity
    (crossing (less_terms (moved_term by from) (term from)) (way_term other))
    (crossing (term by) (way_term other))
    (omega arith)

spokes-turn : (by from to at : Point) → turn (edge_between from (moved by from)) (edge_between at (moved to at)) ≡ crossed by to
spokes-turn by from to at =
    identity
    (crossing (less_terms (moved_term by from) (term from)) (less_terms (moved_term to at) (term at)))
    (crossing (term by) (term to))
    (omega arith)

-- ---- along an edge

-- The point is within the shape, moved to v.
abbrev pub IsWithin : List Edge → Point → RationalPoint → Type 0
IsWithin sides v point = (side : Edge) → Contains sides side → pos 0 ≤ℤ side_of (moved_edge v side) point

module _ (corners : List Point) (convex : IsConvexAroundOrigin corners) where
  -- what is within the shape moved to a point lies left of the edge's direction at its furthest corner there
  beyond : (edge : Edge) → start_of edge ≢ end_of edge → (point : RationalPoint) (at : Point) → IsWithin (sides corners) at point → pos 0 ≤ℤ crossed (way edge) (ahead point (moved at (furthest corners edge)))
  beyond edge proper point at within =
      let (two, held, is) = furthest-pair corners convex edge proper in
      let (before, after) = furthest-told edge two is in
      let corner = (shape-of corners convex).corner two.0 two.1 held in
      let first = within two.0 corner.before in
      let second = within two.1 corner.after in
      let first_is = side-end at two.0 point in
      let second_is = side-start at two.1 point in
      let beside : pos 0 ≤ℤ crossed (way two.0) (ahead point (moved at (end_of two.0))) = omega (arith, ints, first, first_is) in
      subst (λ (c : Point). pos 0 ≤ℤ crossed (way edge) (ahead point (moved at c))) (furthest-is corners convex edge two held is)
      (left-of_both (way two.0) (way two.1) (way edge) (ahead point (moved at (start_of two.1))) corner.left before after
      (subst (λ (c : Point). pos 0 ≤ℤ crossed (way two.0) (ahead point (moved at c))) corner.joined beside)
      (omega (arith, ints, second, second_is)))

  room : (edge : Edge) → start_of edge ≢ end_of edge → (point : RationalPoint) (at : Point) → IsWithin (sides corners) at point → crossed (ahead point at) (way edge) ≤ℤ (pos point.n *ℤ crossed (furthest corners edge) (way edge))
  room edge proper point at within =
      let left = subst (λ (c : Point). pos 0 ≤ℤ crossed (way edge) (ahead point c)) (moved-other at (furthest corners edge)) (beyond edge proper point at within) in
      let same = ahead-moved (furthest corners edge) at (way edge) point in
      omega (arith, ints, left, same)

  -- What is within the shape moved to an end of an edge doesn't lie right of the edge moved by its furthest corner.
  pub left-of_moved : (edge : Edge) → start_of edge ≢ end_of edge → (point : RationalPoint) → IsWithin (sides corners) (end_of edge) point ⊎ IsWithin (sides corners) (start_of edge) point
      → pos 0 ≤ℤ side_of (moved_edge (furthest corners edge) edge) point
  left-of_moved edge proper point within =
      let same = side-start (furthest corners edge) edge point in
      let ahead_is = ahead-moved (furthest corners edge) (start_of edge) (way edge) point in
      let start_is = past-start edge point in
      let end_is = past-end edge point in
      ⊎_elim
      (λ at_end. let upto = room edge proper point (end_of edge) at_end in omega (arith, ints, same, ahead_is, start_is, end_is, upto))
      (λ at_start. let upto = room edge proper point (start_of edge) at_start in omega (arith, ints, same, ahead_is, upto))
      within

  -- how far a side is reached from a point, where it isn't from another one along the edge
  carried : (edge : Edge) → start_of edge ≢ end_of edge → (point : RationalPoint) (at to : Point) → IsWithin (sides corners) at point → side_of edge point ≤ℤ pos 0
      → crossed (ahead point at) (way edge) ≡ (pos 0 -ℤ side_of edge point) → crossed (ahead point to) (way edge) ≡ (pos 0 -ℤ side_of edge point)
      → (side : Edge) → Contains (sides corners) side → (crossed (furthest corners edge) (ahead point to) *ℤ reach side (way edge)) ≤ℤ pos 0
      → reach side (ahead point to) ≤ℤ (pos point.n *ℤ wide side)
  carried edge proper point at to within right at_is to_is side held below =
      let corner = furthest corners edge in
      let some = furthest-beside corners convex edge proper in
      let upto = room edge proper point at within in
      let around = (shape-of corners convex).around side held in
      reach-most (crossed corner (way edge)) (pos point.n) (wide side) (reach side (ahead point to)) (crossed corner (ahead point to)) (reach side (way edge)) (crossed (ahead point to) (way edge)) (reach side corner) some
      (by_other corner (ahead point to) (way edge) (way side))
      below
      (omega (arith, ints, right, to_is))
      (omega (arith, ints, upto, at_is, to_is))
      (corner-most edge proper side held)
      (omega (arith, ints, around))
    where
      corner-most : (edge : Edge) → start_of edge ≢ end_of edge → (side : Edge) → Contains (sides corners) side → reach side (furthest corners edge) ≤ℤ wide side
      corner-most edge proper side held =
          let (two, pair, is) = furthest-pair corners convex edge proper in
          subst (λ (c : Point). reach side c ≤ℤ wide side) (furthest-is corners convex edge two pair is)
          ((shape-of corners convex).convex side two.1 held ((shape-of corners convex).corner two.0 two.1 pair).after)

  -- From the end of an edge to its start one comes nearer to a point that lies behind the start.
  pub nearer : (edge : Edge) → start_of edge ≢ end_of edge → (point : RationalPoint) → IsWithin (sides corners) (end_of edge) point → side_of edge point ≤ℤ pos 0
      → crossed (furthest corners edge) (ahead point (start_of edge)) ≤ℤ pos 0 → IsWithin (sides corners) (start_of edge) point
  nearer edge proper point within right behind side held =
      let is = side-side (start_of edge) side point in
      by_lt_z (pos 0) (reach side (way edge))
      (λ along.
      let most = carried edge proper point (end_of edge) (start_of edge) within right (past-end edge point) (past-start edge point) side held
      (falls_too (crossed (furthest corners edge) (ahead point (start_of edge))) (reach side (way edge)) behind (omega (arith, ints, along))) in
      omega (arith, ints, is, most))
      (λ against.
      let from = within side held in
      let from_is = side-side (end_of edge) side point in
      let end_is = ahead-end edge point (way side) in
      let less = falls (pos point.n) (reach side (way edge)) (omega (arith, ints)) against in
      omega (arith, ints, is, from, from_is, end_is, less))

  -- From its start to its end one comes nearer to a point that lies ahead of the end.
  pub farther : (edge : Edge) → start_of edge ≢ end_of edge → (point : RationalPoint) → IsWithin (sides corners) (start_of edge) point → side_of edge point ≤ℤ pos 0
      → pos 0 ≤ℤ crossed (furthest corners edge) (ahead point (end_of edge)) → IsWithin (sides corners) (end_of edge) point
  farther edge proper point within right before side held =
      let is = side-side (end_of edge) side point in
      by_lt_z (reach side (way edge)) (pos 0)
      (λ against.
      let most = carried edge proper point (start_of edge) (end_of edge) within right (past-start edge point) (past-end edge point) side held
      (falls (crossed (furthest corners edge) (ahead point (end_of edge))) (reach side (way edge)) before (omega (arith, ints, against))) in
      omega (arith, ints, is, most))
      (λ along.
      let from = within side held in
      let from_is = side-side (start_of edge) side point in
      let end_is = ahead-end edge point (way side) in
      let less = above-product (pos point.n) (reach side (way edge)) (omega (arith, ints)) along in
      omega (arith, ints, is, from, from_is, end_is, less))

  -- What is within the shape moved to an end of an edge, right of it, ahead of its start and behind its end is in its band.
  pub in-band : (edge : Edge) → start_of edge ≢ end_of edge → (point : RationalPoint) → IsWithin (sides corners) (end_of edge) point ⊎ IsWithin (sides corners) (start_of edge) point
      → side_of edge point <ℤ pos 0 → pos 0 <ℤ crossed (furthest corners edge) (ahead point (start_of edge)) → crossed (furthest corners edge) (ahead point (end_of edge)) <ℤ pos 0
      → side_of (moved_edge (furthest corners edge) edge) point ≢ pos 0 → IsLeftOfBand edge (furthest corners edge) point
  in-band edge proper point within right after before off =
      let corner = furthest corners edge in
      let behind_is = reversed-side edge point in
      let from_is = spoke-side corner (start_of edge) point in
      let left = left-of_moved edge proper point within in
      let upto_is = side-in corner (end_of edge) point in
      let turned = turn_back corner (ahead point (end_of edge)) in
      record {
        behind = omega (arith, ints, right, behind_is);
        from = omega (arith, ints, after, from_is);
        before = by_lt_z (pos 0) (side_of (moved_edge corner edge) point) (λ above. above) (λ upto. absurd (off (omega (arith, ints, left, upto))));
        upto = omega (arith, ints, before, upto_is, turned);
      }

  -- ---- over a gentle corner

  -- What lies right of the next edge and behind its start lies behind the end of the edge before.
  pub gentle-back : (edge next : Edge) → end_of edge ≡ start_of next → IsGentle corners edge next → start_of edge ≢ end_of edge → start_of next ≢ end_of next
      → (point : RationalPoint) → side_of next point ≤ℤ pos 0 → crossed (furthest corners next) (ahead point (start_of next)) ≤ℤ pos 0 → crossed (furthest corners edge) (ahead point (end_of edge)) ≤ℤ pos 0
  gentle-back edge next joined gentle _ next_proper point right behind =
      let from = furthest corners edge in
      let to = furthest corners next in
      let corner = gentle.corner in
      let after = gentle.after in
      let corner_is = spokes-turn from (end_of edge) to (start_of next) in
      let after_is = spoke-turn from (end_of edge) next in
      let turned = turn_back to from in
      subst (λ (c : Point). crossed from (ahead point c) ≤ℤ pos 0) (sym joined)
      (sum-below (crossed to (way next)) (crossed from (ahead point (start_of next))) (crossed to from) (side_of next point) (crossed from (way next)) (crossed to (ahead point (start_of next)))
      (furthest-beside corners convex next next_proper)
      (by_other to from (way next) (ahead point (start_of next)))
      (falls (crossed to from) (side_of next point) (omega (arith, ints, corner, corner_is, turned)) right)
      (falls (crossed from (way next)) (crossed to (ahead point (start_of next))) (omega (arith, ints, after, after_is)) behind))

  -- What lies right of the edge and ahead of its end lies ahead of the start of the next one.
  pub gentle-on : (edge next : Edge) → end_of edge ≡ start_of next → IsGentle corners edge next → start_of edge ≢ end_of edge → start_of next ≢ end_of next
      → (point : RationalPoint) → side_of edge point ≤ℤ pos 0 → pos 0 ≤ℤ crossed (furthest corners edge) (ahead point (end_of edge)) → pos 0 ≤ℤ crossed (furthest corners next) (ahead point (start_of next))
  gentle-on edge next joined gentle proper _ point right before_end =
      let from = furthest corners edge in
      let to = furthest corners next in
      let corner = gentle.corner in
      let before = gentle.before in
      let corner_is = spokes-turn from (end_of edge) to (start_of next) in
      let before_is = spoke-turn to (start_of next) edge in
      let end_is = past-end edge point in
      let turned = turn_back (way edge) (ahead point (end_of edge)) in
      subst (λ (c : Point). pos 0 ≤ℤ crossed to (ahead point c)) joined
      (sum-above (crossed from (way edge)) (crossed to (ahead point (end_of edge))) (crossed from to) (crossed (way edge) (ahead point (end_of edge))) (crossed to (way edge)) (crossed from (ahead point (end_of edge)))
      (furthest-beside corners convex edge proper)
      (by_other from to (way edge) (ahead point (end_of edge)))
      (rises (crossed from to) (crossed (way edge) (ahead point (end_of edge))) (omega (arith, ints, corner, corner_is)) (omega (arith, ints, right, end_is, turned)))
      (above-product (crossed to (way edge)) (crossed from (ahead point (end_of edge))) (omega (arith, ints, before, before_is)) before_end))
