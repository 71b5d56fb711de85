-- Edges that wind around nothing outside of a window lie in it or on its sides.
use Rattle.std.proofs.Common.{◌≡◌, ◌≢◌, inl, inr, ℕ, ◌+◌, Bool, true, false, ℤ, pos, ◌+ℤ◌, ◌-ℤ◌, ◌*ℤ◌, ◌≤ℤ◌, ◌<ℤ◌, List, refl, sym, subst, ◌∙◌, arith}
use Rattle.std.specs.Int.Signed.{lt_z}
use Rattle.std.specs.List.{All, Contains}
use Rattle.std.proofs.lemmas.Int.{by_lt_z, ints}
use Rattle.std.proofs.lemmas.List.Elements.{All-weaker}
use borrow.Author.Differences.{up, down}
use Rattle.plane.specs.declared.edge.Edge.{Edge}
use Rattle.plane.specs.declared.point.Point.{Point}
use Rattle.plane.specs.Meet.Edges.{RationalPoint}
use Rattle.plane.specs.SweepLine.Heights.{rightwards, rise, run}
use Rattle.plane.proofs.MeetLemmas.Identities.{identity, minus, number, plus, scaled, times}
use Rattle.plane.proofs.SweepLineLemmas.Gaps.{product_above}
use Rattle.plane.proofs.SweepLineLemmas.Rightwards.{rightwards-left, rightwards-right}
use Rattle.noding.specs.Chains.{IsEnd}
use Rattle.noding.specs.Windings.{winding}
use Rattle.noding.proofs.SnapLemmas.Counted.{height_at}
use Rattle.noding.proofs.SnapLemmas.Numbers.{n_of}
use Rattle.overlay.specs.Fill.Filled.{AreDistinct, AreNoded, IsEndOfSloped}
use Rattle.overlay.specs.Overlay.{polygon_edges}
use Rattle.overlay.specs.Polygons.{rings_of}
use Rattle.overlay.proofs.Callers.{WindApart, winds-apart}
use Rattle.overlay.proofs.PieceLemmas.Made.{rightwards-onwards}
use Rattle.tiles.specs.Tile.{HasSlopedEnds}
use Rattle.tiles.specs.Window.{InWindow, IsWithin}
use Rattle.tiles.specs.declared.window.Window.{Window}

-- ---- numbers

-- w times a number, and less than w, is before w times a greater number
far_below : (w y z t : ℤ) → pos 0 ≤ℤ w → t <ℤ w → y <ℤ z → ((w *ℤ y) +ℤ t) <ℤ (w *ℤ z)
far_below w y z t some less apart =
    let above = product_above w ((z -ℤ y) -ℤ pos 1) some (omega (arith, ints, apart)) in
    let split = identity (times (number w) (minus (minus (number z) (number y)) (n_of 1))) (minus (minus (times (number w) (number z)) (times (number w) (number y))) (number w)) (omega arith) in
    omega (arith, ints, above, split, less)

-- and behind w times a lesser one, where not more than w is taken from it
far_above : (w y z t : ℤ) → pos 0 ≤ℤ w → (pos 0 -ℤ t) <ℤ w → z <ℤ y → (w *ℤ z) <ℤ ((w *ℤ y) +ℤ t)
far_above w y z t some less apart =
    let above = product_above w ((y -ℤ z) -ℤ pos 1) some (omega (arith, ints, apart)) in
    let split = identity (times (number w) (minus (minus (number y) (number z)) (n_of 1))) (minus (minus (times (number w) (number y)) (times (number w) (number z))) (number w)) (omega arith) in
    omega (arith, ints, above, split, less)

-- a multiple of a number and one
next_times : (n : ℕ) (z : ℤ) → (pos n *ℤ (z +ℤ pos 1)) ≡ ((pos n *ℤ z) +ℤ pos n)
next_times n z = identity (times (n_of n) (plus (number z) (n_of 1))) (plus (times (n_of n) (number z)) (n_of n)) (omega arith)

-- ---- heights next to the ends of an edge

height_behind : (n : ℕ) (x0 x1 y0 y1 : ℤ) → ((y0 *ℤ ((pos n *ℤ x1) -ℤ ((pos n *ℤ x0) +ℤ pos 1))) +ℤ (y1 *ℤ (((pos n *ℤ x0) +ℤ pos 1) -ℤ (pos n *ℤ x0)))) ≡ (((pos n *ℤ (x1 -ℤ x0)) *ℤ y0) +ℤ (y1 -ℤ y0))
height_behind n x0 x1 y0 y1 =
    let next = plus (times (n_of n) (number x0)) (n_of 1) in
    identity (plus (times (number y0) (minus (times (n_of n) (number x1)) next)) (times (number y1) (minus next (times (n_of n) (number x0)))))
    (plus (times (times (n_of n) (minus (number x1) (number x0))) (number y0)) (minus (number y1) (number y0))) (omega arith)

height_before : (n : ℕ) (x0 x1 y0 y1 : ℤ) → ((y0 *ℤ ((pos n *ℤ x1) -ℤ ((pos n *ℤ x1) -ℤ pos 1))) +ℤ (y1 *ℤ (((pos n *ℤ x1) -ℤ pos 1) -ℤ (pos n *ℤ x0)))) ≡ (((pos n *ℤ (x1 -ℤ x0)) *ℤ y1) +ℤ (pos 0 -ℤ (y1 -ℤ y0)))
height_before n x0 x1 y0 y1 =
    let last = minus (times (n_of n) (number x1)) (n_of 1) in
    identity (plus (times (number y0) (minus (times (n_of n) (number x1)) last)) (times (number y1) (minus last (times (n_of n) (number x0)))))
    (plus (times (times (n_of n) (minus (number x1) (number x0))) (number y1)) (minus (n_of 0) (minus (number y1) (number y0)))) (omega arith)

-- ---- edges that wind around nothing outside

abbrev at_point : ℤ → ℤ → Point
at_point x y = record { x = x; y = y }

module _ (window : Window) (edges : List Edge) (noded : AreNoded edges) (distinct : AreDistinct edges) (none : (point : RationalPoint) → ¬ (InWindow window point) → winding edges point ≡ pos 0) where
  module _ (edge : Edge) (among : Contains edges edge) (sloped : edge.x0 ≢ edge.x1) where
    abbrev r : Edge
    r = rightwards edge

    -- more than the edge rises
    abbrev n : ℕ
    n = 2 + (up (rise r) + down (rise r))

    abbrev w : ℤ
    w = pos n *ℤ run r

    onwards : r.x0 <ℤ r.x1
    onwards = rightwards-onwards edge sloped

    wide : pos n ≤ℤ w
    wide =
        let over = onwards in
        let more = scaled n (pos 1) (run r) (omega (arith, ints, over)) in
        let once = identity (times (n_of n) (n_of 1)) (n_of n) (omega arith) in
        omega (arith, ints, more, once)

    abbrev column : ℤ → RationalPoint
    column x = record {
      n = n;
      x = x;
      y = pos 0;
      positive = omega arith;
    }

    -- next to an end of the edge two points stand that one of them at least is wound around, so not both lie outside
    clash : (at : RationalPoint) (apart : WindApart edges r at) → ¬ (InWindow window apart.one) → ¬ (InWindow window apart.other) → ⊥
    clash at apart first second = apart.differ (none apart.one first ∙ sym (none apart.other second))

    -- so the end lies in the window or on its sides
    module _ (x y p t : ℤ) (behind : (pos n *ℤ r.x0) <ℤ p) (before : p <ℤ (pos n *ℤ r.x1)) (from : ((pos n *ℤ x) -ℤ pos 1) ≤ℤ p) (upto : p ≤ℤ ((pos n *ℤ x) +ℤ pos 1))
        (height : height_at r (column p) ≡ ((w *ℤ y) +ℤ t)) (falls : (pos 0 -ℤ t) <ℤ w) (rises : t <ℤ w) where
      apart : WindApart edges r (column p)
      apart = winds-apart edges noded distinct edge among sloped (column p) behind before

      level : (z : ℤ) → ((pos n *ℤ z) *ℤ run r) ≡ (w *ℤ z)
      level z = identity (times (times (n_of n) (number z)) (minus (number r.x1) (number r.x0))) (times (times (n_of n) (minus (number r.x1) (number r.x0))) (number z)) (omega arith)

      not_left : ¬ (x <ℤ window.left)
      not_left beyond =
          let more = scaled n (x +ℤ pos 1) window.left (omega (arith, ints, beyond)) in
          let next = next_times n x in
          let (first, second) = apart.left window.left (omega (arith, ints, upto, more, next)) in
          clash (column p) apart (λ inside. let is = inside.from_left in omega (arith, ints, is, first)) (λ inside. let is = inside.from_left in omega (arith, ints, is, second))

      not_right : ¬ (window.right <ℤ x)
      not_right beyond =
          let more = scaled n (window.right +ℤ pos 1) x (omega (arith, ints, beyond)) in
          let next = next_times n window.right in
          let (first, second) = apart.right window.right (omega (arith, ints, from, more, next)) in
          clash (column p) apart (λ inside. let is = inside.before_right in omega (arith, ints, is, first)) (λ inside. let is = inside.before_right in omega (arith, ints, is, second))

      not_low : ¬ (y <ℤ window.low)
      not_low beyond =
          let big = wide in
          let less = far_below w y window.low t (omega (arith, ints, big)) rises beyond in
          let is = level window.low in
          let (first, second) = apart.low window.low (omega (arith, ints, less, height, is)) in
          clash (column p) apart (λ inside. let told = inside.from_low in omega (arith, ints, told, first)) (λ inside. let told = inside.from_low in omega (arith, ints, told, second))

      not_high : ¬ (window.high <ℤ y)
      not_high beyond =
          let big = wide in
          let less = far_above w y window.high t (omega (arith, ints, big)) falls beyond in
          let is = level window.high in
          let (first, second) = apart.high window.high (omega (arith, ints, less, height, is)) in
          clash (column p) apart (λ inside. let told = inside.below_high in omega (arith, ints, told, first)) (λ inside. let told = inside.below_high in omega (arith, ints, told, second))

      end-within : IsWithin window (at_point x y)
      end-within = record {
        from_left = by_lt_z x window.left (λ less. absurd (not_left less)) (λ is. is);
        upto_right = by_lt_z window.right x (λ less. absurd (not_right less)) (λ is. is);
        from_low = by_lt_z y window.low (λ less. absurd (not_low less)) (λ is. is);
        upto_high = by_lt_z window.high y (λ less. absurd (not_high less)) (λ is. is);
      }

    -- there is room for such columns
    room : ((pos n *ℤ r.x0) +ℤ pos n) ≤ℤ (pos n *ℤ r.x1)
    room =
        let over = onwards in
        let more = scaled n (r.x0 +ℤ pos 1) r.x1 (omega (arith, ints, over)) in
        let next = next_times n r.x0 in
        omega (arith, ints, more, next)

    left-within : IsWithin window (at_point r.x0 r.y0)
    left-within =
        let big = wide in
        let some = room in
        end-within r.x0 r.y0 ((pos n *ℤ r.x0) +ℤ pos 1) (rise r) (omega (arith, ints)) (omega (arith, ints, some)) (omega (arith, ints)) (omega (arith, ints))
        (height_behind n r.x0 r.x1 r.y0 r.y1) (omega (arith, ints, big)) (omega (arith, ints, big))

    right-within : IsWithin window (at_point r.x1 r.y1)
    right-within =
        let big = wide in
        let some = room in
        end-within r.x1 r.y1 ((pos n *ℤ r.x1) -ℤ pos 1) (pos 0 -ℤ rise r) (omega (arith, ints, some)) (omega (arith, ints)) (omega (arith, ints)) (omega (arith, ints))
        (height_before n r.x0 r.x1 r.y0 r.y1) (omega (arith, ints, big)) (omega (arith, ints, big))

    -- both ends of the edge itself
    ends-within : IsWithin window (at_point edge.x0 edge.y0) × IsWithin window (at_point edge.x1 edge.y1)
    ends-within = by (lt_z edge.x1 edge.x0) refl
      where
        by : (t : Bool) → lt_z edge.x1 edge.x0 ≡ t → IsWithin window (at_point edge.x0 edge.y0) × IsWithin window (at_point edge.x1 edge.y1)
        by true back =
            let same = rightwards-left edge back in (
              subst (λ (e : Edge). IsWithin window (at_point e.x1 e.y1)) same right-within,
              subst (λ (e : Edge). IsWithin window (at_point e.x0 e.y0)) same left-within,
            )
        by false on =
            let same = rightwards-right edge on in (
              subst (λ (e : Edge). IsWithin window (at_point e.x0 e.y0)) same left-within,
              subst (λ (e : Edge). IsWithin window (at_point e.x1 e.y1)) same right-within,
            )

  -- a point that is an end of such an edge
  sloped-within : (p : Point) → IsEndOfSloped edges p.x p.y → IsWithin window p
  sloped-within p (edge, among, sloped, end) = by end (ends-within edge among (λ same. sloped (sym same)))
    where
      by : IsEnd edge p.x p.y → IsWithin window (at_point edge.x0 edge.y0) × IsWithin window (at_point edge.x1 edge.y1) → IsWithin window p
      by (inl (at_x, at_y)) both = subst (λ (x : ℤ). IsWithin window (at_point x p.y)) (sym at_x) (subst (λ (y : ℤ). IsWithin window (at_point edge.x0 y)) (sym at_y) both.0)
      by (inr (at_x, at_y)) both = subst (λ (x : ℤ). IsWithin window (at_point x p.y)) (sym at_x) (subst (λ (y : ℤ). IsWithin window (at_point edge.x1 y)) (sym at_y) both.1)

-- Polygons that wind around nothing outside of the window, and whose points are ends of such edges, have all points within it.
pub polygons-within : (window : Window) (edges : List Edge) (polygons : List (List (List Point))) → HasSlopedEnds edges polygons → ((point : RationalPoint) → ¬ (InWindow window point) → winding (polygon_edges polygons) point ≡ pos 0)
    → All (λ ring. All (IsWithin window) ring) (rings_of polygons)
polygons-within window edges polygons has none =
    All-weaker (λ ring. All (λ p. IsEndOfSloped edges p.x p.y) ring) (λ ring. All (IsWithin window) ring)
    (λ ring. All-weaker (λ p. IsEndOfSloped edges p.x p.y) (IsWithin window) (sloped-within window edges has.noded has.distinct (λ point out. sym (has.winds point) ∙ none point out)) ring)
    (rings_of polygons) has.ends
