-- A point between a stretch and its chord, and one on the chord or below it by less than half a unit, for which the chord counts what the stretch counts for the first.
use Rattle.std.proofs.Common.{◌≡◌, ◌≢◌, Bool, true, false, ℕ, suc, ◌+◌, ◌*◌, ◌<◌, ◌≤◌, ℤ, pos, negsuc, ◌+ℤ◌, ◌-ℤ◌, ◌*ℤ◌, ◌≤ℤ◌, List, [], ◌∷◌, length, arith, ap, refl, sym, ◌∙◌}
use Rattle.std.specs.Int.RustNames.{unsigned_abs}
use Rattle.std.specs.List.{Contains}
use Rattle.std.proofs.lemmas.Int.{by_lt_z, ints}
use Rattle.std.proofs.Math.Nat.{mul-le-mul_left, mul-pos}
use Rattle.plane.specs.declared.edge.Edge.{Edge}
use Rattle.plane.specs.declared.point.Point.{Point}
use Rattle.plane.specs.Meet.Edges.{RationalPoint}
use Rattle.plane.specs.SweepLine.Heights.{run}
use Rattle.plane.proofs.MeetLemmas.Identities.{Term, at_most, at_most_of, identity, minus, number, plus, scaled, times}
use Rattle.plane.proofs.SweepLineLemmas.Gaps.{product_above}
use Rattle.plane.specs.Ends.{end_of, start_of}
use Rattle.noding.specs.Windings.{pieces, winding, further}
use Rattle.monotone_chains.specs.Stretches.{Rises, chord}
use Rattle.overlay.proofs.FillLemmas.Under.{le_is, le_true}
use Rattle.noding.proofs.SnapLemmas.Counted.{height_at, is_low}
use Rattle.noding.proofs.SnapLemmas.Heights.{Covering, onwards}
use Rattle.noding.proofs.SnapLemmas.Numbers.{n_of, natural}
use Rattle.monotone_chains.proofs.StretchLemmas.Columns.{IsMoved, rising-early, rising-inside, rising-late}
use Rattle.monotone_chains.proofs.StretchLemmas.Rising.{Crossed, rising-crossed}
use Rattle.monotone_chains.proofs.StretchLemmas.Sides.{along, between-upto, le_false, upto-at}

-- how far the point may lie beyond twice the line, by half a unit on both axes
abbrev pub half_more : ℤ → ℤ → ℤ → ℤ
half_more u v k = (k +ℤ k) +ℤ pos (unsigned_abs u + unsigned_abs v)

-- ---- numbers

double_upto : (n w : ℕ) (u v k x y : ℤ) → along u v x y ≤ℤ (pos n *ℤ k) → along (u +ℤ u) (v +ℤ v) x y ≤ℤ (pos n *ℤ ((k +ℤ k) +ℤ pos w))
double_upto n w u v k x y upto =
    let there = at_most_of (plus (times (number u) (number x)) (times (number v) (number y))) (times (n_of n) (number k)) upto in
    at_most (plus (times (plus (number u) (number u)) (number x)) (times (plus (number v) (number v)) (number y))) (times (n_of n) (plus (plus (number k) (number k)) (n_of w))) (omega (arith, there))

-- 1 or 0 below
below_upto : (v : ℤ) (j : ℕ) → j ≤ 1 → (pos 0 -ℤ (v *ℤ pos j)) ≤ℤ pos (unsigned_abs v)
below_upto (pos a) j upto = let some = product_above (pos a) (pos j) (omega (arith, ints)) (omega (arith, ints)) in omega (arith, ints, some)
below_upto (negsuc a) j upto =
    let most = scaled (suc a) (pos j) (pos 1) (omega (arith, ints, upto)) in
    let same = identity (minus (n_of 0) (times (number (negsuc a)) (n_of j))) (times (n_of (suc a)) (n_of j)) (omega arith) in
    let one = identity (times (n_of (suc a)) (n_of 1)) (n_of (suc a)) (omega arith) in
    omega (arith, ints, most, same, one)

lowered_upto : (n r j : ℕ) (u v k x h w : ℤ) → 0 < n → 0 < r → j ≤ 1 → w ≡ pos r → (((u *ℤ x) *ℤ w) +ℤ (v *ℤ h)) ≤ℤ ((pos n *ℤ k) *ℤ w)
    → along (u +ℤ u) (v +ℤ v) (pos (2 * r) *ℤ x) ((pos 2 *ℤ h) -ℤ pos j) ≤ℤ (pos ((2 * r) * n) *ℤ half_more u v k)
lowered_upto n r j u v k x h w some wide least is upto =
    let there : (((u *ℤ x) *ℤ pos r) +ℤ (v *ℤ h)) ≤ℤ ((pos n *ℤ k) *ℤ pos r) = rw (← is) upto in
    let one = at_most_of (plus (times (times (number u) (number x)) (n_of r)) (times (number v) (number h))) (times (times (n_of n) (number k)) (n_of r)) there in
    let two = at_most_of (minus (n_of 0) (times (number v) (n_of j))) (n_of (unsigned_abs v)) (below_upto v j least) in
    let three = mul-le-mul_left (unsigned_abs u + unsigned_abs v) (mul-pos {m = r} {n = n} wide some) in
    at_most (plus (times (plus (number u) (number u)) (times (n_of (2 * r)) (number x))) (times (plus (number v) (number v)) (minus (times (n_of 2) (number h)) (n_of j))))
    (times (n_of ((2 * r) * n)) (plus (plus (number k) (number k)) (n_of (unsigned_abs u + unsigned_abs v))))
    (omega (arith, one, two, three))

-- ---- on an edge, in a point's column, or a little below

module _ (edge : Edge) (point : RationalPoint) (r j : ℕ) (wide : 0 < r) where
  abbrev lowered : RationalPoint
  lowered = record {
    n = (2 * r) * point.n;
    x = pos (2 * r) *ℤ point.x;
    y = (pos 2 *ℤ height_at edge point) -ℤ pos j;
    positive = mul-pos (omega (arith, wide)) point.positive;
  }

  moved-lowered : IsMoved point lowered
  moved-lowered = record { m = 2 * r; some = omega (arith, wide); n = refl; x = refl }

  -- the edge's height there, and that of the point
  height-lowered : height_at edge lowered ≡ (pos (2 * r) *ℤ height_at edge point)
  height-lowered =
      let side : ℤ → ℤ → ℤ → ℤ → Term = λ y0 y1 x0 x1. plus (times (number y0) (minus (times (n_of point.n) (number x1)) (number point.x))) (times (number y1) (minus (number point.x) (times (n_of point.n) (number x0)))) in
      identity (plus (times (number edge.y0) (minus (times (n_of ((2 * r) * point.n)) (number edge.x1)) (times (n_of (2 * r)) (number point.x)))) (times (number edge.y1) (minus (times (n_of (2 * r)) (number point.x)) (times (n_of ((2 * r) * point.n)) (number edge.x0)))))
      (times (n_of (2 * r)) (side edge.y0 edge.y1 edge.x0 edge.x1)) (omega arith)

  own-lowered : run edge ≡ pos r → (lowered.y *ℤ run edge) ≡ ((pos (2 * r) *ℤ height_at edge point) -ℤ pos (j * r))
  own-lowered is =
      ap (λ (w : ℤ). lowered.y *ℤ w) is
      ∙ identity (times (minus (times (n_of 2) (number (height_at edge point))) (n_of j)) (n_of r)) (minus (times (n_of (2 * r)) (number (height_at edge point))) (n_of (j * r))) (omega arith)

  low-on : run edge ≡ pos r → j ≡ 0 → is_low edge lowered ≡ true
  low-on is none =
      let own = own-lowered is in
      let height = height-lowered in
      let product : j * r ≡ 0 = ap (λ (i : ℕ). i * r) none ∙ (let nothing : 0 * r ≡ 0 = omega arith in nothing) in
      le_true (height_at edge lowered) (lowered.y *ℤ run edge) (omega (arith, ints, own, height, product))

  high-below : run edge ≡ pos r → j ≡ 1 → is_low edge lowered ≡ false
  high-below is one =
      let own = own-lowered is in
      let height = height-lowered in
      let product : j * r ≡ r = ap (λ (i : ℕ). i * r) one ∙ (let same : 1 * r ≡ r = omega arith in same) in
      le_false (height_at edge lowered) (lowered.y *ℤ run edge) (omega (arith, ints, own, height, product, wide))

-- ---- a stretch that counts something else than its chord

-- The other point stands for the point where points that rise are replaced by their chord: the chord counts for it what they count for the
-- point, and both points are within half a unit of what is between one of their pieces and the chord.
pub record IsShiftOf (points : List Point) (point other : RationalPoint) : Type 0 where
  pub moved : IsMoved point other
  pub covers : Covering (chord points) point
  pub piece : Edge
  pub from : Contains points (start_of piece)
  pub to : Contains points (end_of piece)
  pub same : winding (pieces points) point ≡ winding (chord points ∷ []) other
  pub at_point : (u v k : ℤ) → further u v (start_of piece) ≤ℤ k → further u v (end_of piece) ≤ℤ k → further u v (start_of (chord points)) ≤ℤ k → further u v (end_of (chord points)) ≤ℤ k
      → along (u +ℤ u) (v +ℤ v) point.x point.y ≤ℤ (pos point.n *ℤ half_more u v k)
  pub at_other : (u v k : ℤ) → further u v (start_of piece) ≤ℤ k → further u v (end_of piece) ≤ℤ k → further u v (start_of (chord points)) ≤ℤ k → further u v (end_of (chord points)) ≤ℤ k
      → along (u +ℤ u) (v +ℤ v) other.x other.y ≤ℤ (pos other.n *ℤ half_more u v k)

-- each point is in its own column
pub moved-itself : (point : RationalPoint) → IsMoved point point
moved-itself point = record {
  m = 1;
  some = omega arith;
  n = omega arith;
  x = identity (number point.x) (times (n_of 1) (number point.x)) (omega arith);
}

module _ (points : List Point) (rises : Rises points) (some : 0 < length points) (point : RationalPoint) where
  abbrev Shift : Type 0
  Shift = (other : RationalPoint) × IsShiftOf points point other

  module _ (c : Covering (chord points) point) (crossed : Crossed points point) (r : ℕ) (wide : 0 < r) (is : run (chord points) ≡ pos r) where
    upto : (j : ℕ) → j ≤ 1 → (u v k : ℤ) → further u v (start_of (chord points)) ≤ℤ k → further u v (end_of (chord points)) ≤ℤ k
        → along (u +ℤ u) (v +ℤ v) (lowered (chord points) point r j wide).x (lowered (chord points) point r j wide).y ≤ℤ (pos (lowered (chord points) point r j wide).n *ℤ half_more u v k)
    upto j least u v k from to =
        lowered_upto point.n r j u v k point.x (height_at (chord points) point) (run (chord points)) point.positive wide least is (upto-at (chord points) point c u v k from to)

    -- under the chord
    under : is_low crossed.piece point ≡ true → is_low (chord points) point ≡ false → Shift
    under low high =
        let below = le_is (height_at crossed.piece point) (point.y *ℤ run crossed.piece) low in (
          lowered (chord points) point r 0 wide,
          record {
            moved = moved-lowered (chord points) point r 0 wide;
            covers = c;
            piece = crossed.piece;
            from = crossed.from;
            to = crossed.to;
            same = rising-inside points rises point (lowered (chord points) point r 0 wide) (moved-lowered (chord points) point r 0 wide) c crossed (low ∙ sym (low-on (chord points) point r 0 wide is refl));
            at_point = λ u v k piece_from piece_to from to.
                double_upto point.n (unsigned_abs u + unsigned_abs v) u v k point.x point.y
                (between-upto crossed.piece (chord points) point crossed.covers c below (omega (arith, ints, high)) u v k piece_from piece_to from to);
            at_other = λ u v k piece_from piece_to from to. upto 0 (omega arith) u v k from to;
          },
        )

    -- above it
    over : is_low crossed.piece point ≡ false → is_low (chord points) point ≡ true → Shift
    over high low =
        let below = le_is (height_at (chord points) point) (point.y *ℤ run (chord points)) low in (
          lowered (chord points) point r 1 wide,
          record {
            moved = moved-lowered (chord points) point r 1 wide;
            covers = c;
            piece = crossed.piece;
            from = crossed.from;
            to = crossed.to;
            same = rising-inside points rises point (lowered (chord points) point r 1 wide) (moved-lowered (chord points) point r 1 wide) c crossed (high ∙ sym (high-below (chord points) point r 1 wide is refl));
            at_point = λ u v k piece_from piece_to from to.
                double_upto point.n (unsigned_abs u + unsigned_abs v) u v k point.x point.y
                (between-upto (chord points) crossed.piece point c crossed.covers below (omega (arith, ints, high)) u v k from to piece_from piece_to);
            at_other = λ u v k piece_from piece_to from to. upto 1 (omega arith) u v k from to;
          },
        )

    by_sides : (s t : Bool) → is_low crossed.piece point ≡ s → is_low (chord points) point ≡ t → winding (pieces points) point ≢ winding (chord points ∷ []) point → Shift
    by_sides true false low high differ = under low high
    by_sides false true high low differ = over high low
    by_sides true true one other differ = absurd (differ (rising-inside points rises point point (moved-itself point) c crossed (one ∙ sym other)))
    by_sides false false one other differ = absurd (differ (rising-inside points rises point point (moved-itself point) c crossed (one ∙ sym other)))

  -- there is such a point
  pub shift-rising : winding (pieces points) point ≢ winding (chord points ∷ []) point → Shift
  shift-rising differ =
      by_lt_z point.x (pos point.n *ℤ (chord points).x0)
      (λ early. absurd (differ (rising-early points rises point point (moved-itself point) early)))
      (λ late. by_lt_z point.x (pos point.n *ℤ (chord points).x1)
      (λ inside.
      let c : Covering (chord points) point = record { from = late; before = inside } in
      let onwards_is = onwards (chord points) point c in
      let width = natural (run (chord points)) (omega (arith, ints, onwards_is)) in
      let is = width.is in
      let crossed = rising-crossed point points rises some c in
      by_sides c crossed width.k (omega (arith, ints, onwards_is, is)) is (is_low crossed.piece point) (is_low (chord points) point) refl refl differ)
      (λ past. absurd (differ (rising-late points rises point point (moved-itself point) past))))
