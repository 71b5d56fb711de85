-- The border of a window: around which points it winds, and where it runs.
use Rattle.std.proofs.Common.{true, false, ◌≡◌, ◌≢◌, ◌⊎◌, inl, inr, zero, suc, ℤ, pos, ◌+ℤ◌, ◌-ℤ◌, ◌*ℤ◌, ◌<ℤ◌, ◌≤ℤ◌, refl, ap, arith}
use Rattle.std.specs.List.{Contains}
use Rattle.std.proofs.lemmas.Int.{by_lt_z, ints}
use Rattle.plane.specs.declared.edge.Edge.{Edge}
use Rattle.plane.specs.declared.point.Point.{Point}
use Rattle.plane.specs.Ends.{end_of, reversed, start_of}
use Rattle.plane.specs.Lines.{IsAlongAxis}
use Rattle.plane.specs.Meet.Edges.{RationalPoint}
use Rattle.plane.specs.SweepLine.Heights.{run}
use Rattle.plane.proofs.MeetLemmas.Identities.{identity, minus, number, plus, scaled, times}
use Rattle.plane.proofs.SweepLineLemmas.Gaps.{product_above}
use Rattle.noding.specs.Windings.{count, winding}
use Rattle.noding.proofs.SnapLemmas.Counted.{height_at, is_low, under}
use Rattle.noding.proofs.SnapLemmas.Heights.{Covering}
use Rattle.noding.proofs.SnapLemmas.Numbers.{n_of, product_positive}
use Rattle.noding.proofs.SnapLemmas.Windings.{back, under-left as under-leftwards, under-right as under-rightwards, winding-added, within}
use Rattle.overlay.specs.Contours.Rings.{ring_edges}
use Rattle.tiles.specs.Tile.{border, turned_border}
use Rattle.tiles.specs.Window.{HasPoints, InWindow}
use Rattle.tiles.specs.declared.window.Window.{Window}
use Rattle.tiles.proofs.Sides.{le-false, le-true, under-left, under-right}

-- ---- level edges

-- the edge from the one x to the other, at this height
abbrev level : ℤ → ℤ → ℤ → Edge
level from to height = record { x0 = from; y0 = height; x1 = to; y1 = height }

module _ (from to height : ℤ) (point : RationalPoint) (onwards : from <ℤ to) where
  -- how far the point is above it, times its run
  rise : ((point.y *ℤ run (level from to height)) -ℤ height_at (level from to height) point) ≡ ((to -ℤ from) *ℤ (point.y -ℤ (pos point.n *ℤ height)))
  rise =
      let x0 = number from in
      let x1 = number to in
      let m = number height in
      let n = n_of point.n in
      let x = number point.x in
      let y = number point.y in
      identity (minus (times y (minus x1 x0)) (plus (times m (minus (times n x1) x)) (times m (minus x (times n x0))))) (times (minus x1 x0) (minus y (times n m))) (omega arith)

  -- from it on upwards it is low
  level-low : (pos point.n *ℤ height) ≤ℤ point.y → is_low (level from to height) point ≡ true
  level-low upto =
      let above = product_above (to -ℤ from) (point.y -ℤ (pos point.n *ℤ height)) (omega (arith, ints, onwards)) (omega (arith, ints, upto)) in
      le-true (height_at (level from to height) point) (point.y *ℤ run (level from to height)) (omega (arith, ints, above, rise))

  -- and not below it
  level-high : point.y <ℤ (pos point.n *ℤ height) → is_low (level from to height) point ≡ false
  level-high less =
      let above = product_positive (to -ℤ from) ((pos point.n *ℤ height) -ℤ point.y) (omega (arith, ints, onwards)) (omega (arith, ints, less)) in
      let turned = identity (times (minus (number to) (number from)) (minus (number point.y) (times (n_of point.n) (number height))))
      (minus (number (pos 0)) (times (minus (number to) (number from)) (minus (times (n_of point.n) (number height)) (number point.y)))) (omega arith) in
      le-false (height_at (level from to height) point) (point.y *ℤ run (level from to height)) (omega (arith, ints, above, turned, rise))

-- an upright edge counts nothing
upright : (edge : Edge) (point : RationalPoint) → edge.x0 ≡ edge.x1 → under edge point ≡ pos 0
upright edge point same =
    let on = back edge point (omega (arith, ints, same)) in
    let back_too = back (reversed edge) point (omega (arith, ints, same)) in
    omega (arith, ints, on, back_too)

-- ---- around which points it winds

module _ (window : Window) (some : HasPoints window) (point : RationalPoint) where
  abbrev low : Edge
  low = level window.left window.right window.low

  abbrev right : Edge
  right = record { x0 = window.right; y0 = window.low; x1 = window.right; y1 = window.high }

  abbrev high : Edge
  high = level window.right window.left window.high

  abbrev left : Edge
  left = record { x0 = window.left; y0 = window.high; x1 = window.left; y1 = window.low }

  -- it counts as its four edges do
  four : winding (ring_edges (border window)) point ≡ (under low point +ℤ (under right point +ℤ (under high point +ℤ (under left point +ℤ pos 0))))
  four = winding-added (ring_edges (border window)) point

  -- beside the window nothing
  beside : under low point ≡ pos 0 → under right point ≡ pos 0 → under high point ≡ pos 0 → under left point ≡ pos 0 → winding (ring_edges (border window)) point ≡ pos 0
  beside a b c d = let sum = four in omega (arith, ints, sum, a, b, c, d)

  -- between its left and its right side
  module _ (from : (pos point.n *ℤ window.left) ≤ℤ point.x) (before : point.x <ℤ (pos point.n *ℤ window.right)) where
    across : Covering (level window.left window.right window.low) point
    across = record { from = from; before = before }

    across_high : Covering (level window.left window.right window.high) point
    across_high = record { from = from; before = before }

    two : winding (ring_edges (border window)) point ≡ (count (is_low (level window.left window.right window.low) point) -ℤ count (is_low (level window.left window.right window.high) point))
    two =
        let wide = some.wide in
        let sum = four in
        let a = under-rightwards low point (omega (arith, ints, wide)) in
        let b = upright right point refl in
        let c = under-leftwards high point (omega (arith, ints, wide)) in
        let d = upright left point refl in
        let first = within (level window.left window.right window.low) point across in
        let second = within (level window.left window.right window.high) point across_high in
        omega (arith, ints, sum, a, b, c, d, first, second)

    between : (InWindow window point × (winding (ring_edges (border window)) point ≡ pos 1)) ⊎ ((¬ (InWindow window point)) × (winding (ring_edges (border window)) point ≡ pos 0))
    between =
        let wide = some.wide in
        let tall = some.tall in
        let heights = scaled point.n window.low window.high (omega (arith, ints, tall)) in
        let both = two in
        by_lt_z point.y (pos point.n *ℤ window.low)
        (λ below.
        let first = ap count (level-high window.left window.right window.low point wide below) in
        let second = ap count (level-high window.left window.right window.high point wide (omega (arith, ints, below, heights))) in
        inr ((λ is. let over = is.from_low in absurd (omega (arith, ints, over, below))), omega (arith, ints, both, first, second)))
        (λ over. by_lt_z point.y (pos point.n *ℤ window.high)
        (λ below.
        let first = ap count (level-low window.left window.right window.low point wide over) in
        let second = ap count (level-high window.left window.right window.high point wide below) in
        inl (record { from_left = from; before_right = before; from_low = over; below_high = below }, omega (arith, ints, both, first, second)))
        (λ above.
        let first = ap count (level-low window.left window.right window.low point wide over) in
        let second = ap count (level-low window.left window.right window.high point wide above) in
        inr ((λ is. let below = is.below_high in absurd (omega (arith, ints, above, below))), omega (arith, ints, both, first, second))))

  -- once around each point of the window, and around no other
  pub border-winds : (InWindow window point × (winding (ring_edges (border window)) point ≡ pos 1)) ⊎ ((¬ (InWindow window point)) × (winding (ring_edges (border window)) point ≡ pos 0))
  border-winds =
      let wide = some.wide in
      let widths = scaled point.n window.left window.right (omega (arith, ints, wide)) in
      by_lt_z point.x (pos point.n *ℤ window.left)
      (λ before.
      let far : point.x <ℤ (pos point.n *ℤ window.right) = omega (arith, ints, before, widths) in
      inr (
        (λ is. let from = is.from_left in absurd (omega (arith, ints, from, before))),
        beside (under-right low point before far) (under-right right point far far) (under-right high point far before) (under-right left point before before),
      ))
      (λ from. by_lt_z point.x (pos point.n *ℤ window.right)
      (λ before. between from before)
      (λ past.
      inr (
        (λ is. let before = is.before_right in absurd (omega (arith, ints, past, before))),
        beside (under-left low point from past) (under-left right point past past) (under-left high point past from) (under-left left point from from),
      )))

-- the border and the border turned round wind around nothing
pub borders-nothing : (window : Window) (point : RationalPoint) → (winding (ring_edges (border window)) point +ℤ winding (ring_edges (turned_border window)) point) ≡ pos 0
borders-nothing window point =
    let one = winding-added (ring_edges (border window)) point in
    let other = winding-added (ring_edges (turned_border window)) point in
    omega (arith, ints, one, other)

-- ---- where it runs

module _ (window : Window) (edge : Edge) where
  -- along an axis
  pub border-along : Contains (ring_edges (border window)) edge → IsAlongAxis edge
  border-along (zero, _, is) = inr (let a = ap (λ (e : Edge). e.y0) is in let b = ap (λ (e : Edge). e.y1) is in omega (arith, ints, a, b))
  border-along (suc zero, _, is) = inl (let a = ap (λ (e : Edge). e.x0) is in let b = ap (λ (e : Edge). e.x1) is in omega (arith, ints, a, b))
  border-along (suc (suc zero), _, is) = inr (let a = ap (λ (e : Edge). e.y0) is in let b = ap (λ (e : Edge). e.y1) is in omega (arith, ints, a, b))
  border-along (suc (suc (suc zero)), _, is) = inl (let a = ap (λ (e : Edge). e.x0) is in let b = ap (λ (e : Edge). e.x1) is in omega (arith, ints, a, b))
  border-along (suc (suc (suc (suc k))), within, is) = absurd (omega (arith, within))

  -- so does what is turned round
  pub turned-along : Contains (ring_edges (turned_border window)) edge → IsAlongAxis edge
  turned-along (zero, _, is) = inl (let a = ap (λ (e : Edge). e.x0) is in let b = ap (λ (e : Edge). e.x1) is in omega (arith, ints, a, b))
  turned-along (suc zero, _, is) = inr (let a = ap (λ (e : Edge). e.y0) is in let b = ap (λ (e : Edge). e.y1) is in omega (arith, ints, a, b))
  turned-along (suc (suc zero), _, is) = inl (let a = ap (λ (e : Edge). e.x0) is in let b = ap (λ (e : Edge). e.x1) is in omega (arith, ints, a, b))
  turned-along (suc (suc (suc zero)), _, is) = inr (let a = ap (λ (e : Edge). e.y0) is in let b = ap (λ (e : Edge). e.y1) is in omega (arith, ints, a, b))
  turned-along (suc (suc (suc (suc k))), within, is) = absurd (omega (arith, within))

  -- each of its edges has two ends
  pub border-ends : HasPoints window → Contains (ring_edges (border window)) edge → start_of edge ≢ end_of edge
  border-ends some (zero, _, is) same = let wide = some.wide in let a = ap (λ (e : Edge). e.x0) is in let b = ap (λ (e : Edge). e.x1) is in let x = ap (λ (p : Point). p.x) same in absurd (omega (arith, ints, wide, a, b, x))
  border-ends some (suc zero, _, is) same = let tall = some.tall in let a = ap (λ (e : Edge). e.y0) is in let b = ap (λ (e : Edge). e.y1) is in let y = ap (λ (p : Point). p.y) same in absurd (omega (arith, ints, tall, a, b, y))
  border-ends some (suc (suc zero), _, is) same = let wide = some.wide in let a = ap (λ (e : Edge). e.x0) is in let b = ap (λ (e : Edge). e.x1) is in let x = ap (λ (p : Point). p.x) same in absurd (omega (arith, ints, wide, a, b, x))
  border-ends some (suc (suc (suc zero)), _, is) same = let tall = some.tall in let a = ap (λ (e : Edge). e.y0) is in let b = ap (λ (e : Edge). e.y1) is in let y = ap (λ (p : Point). p.y) same in absurd (omega (arith, ints, tall, a, b, y))
  border-ends some (suc (suc (suc (suc k))), within, is) same = absurd (omega (arith, within))
