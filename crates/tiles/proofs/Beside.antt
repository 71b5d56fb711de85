-- What edges count beside the sides of a window, for a point in it.
use Rattle.std.proofs.Common.{◌≡◌, ◌≢◌, ◌⊎◌, inl, inr, ℕ, ◌*◌, ℤ, pos, ◌+ℤ◌, ◌-ℤ◌, ◌*ℤ◌, ◌<ℤ◌, ◌≤ℤ◌, ap, ap₂, sym, ◌∙◌, arith, subst}
use Rattle.std.proofs.lemmas.Int.{by_lt_z, clamps, ints}
use Rattle.std.specs.Int.{int_max, int_min}
use Rattle.plane.specs.declared.point.Point.{Point}
use Rattle.plane.specs.Ends.{edge_between, reversed}
use Rattle.plane.specs.Meet.Edges.{RationalPoint}
use Rattle.plane.proofs.MeetLemmas.Identities.{identity, minus, number, plus, scaled, times}
use Rattle.noding.specs.Windings.{count}
use Rattle.noding.proofs.SnapLemmas.Counted.{under}
use Rattle.noding.proofs.SnapLemmas.Numbers.{n_of}
use Rattle.noding.proofs.SnapLemmas.Windings.{back}
use Rattle.tiles.specs.Pushing.{AreAlongSide, GoesTo, HasSides, clamped}
use Rattle.tiles.specs.Window.{AreBeyond, InWindow, IsWithin, widened}
use Rattle.tiles.specs.declared.window.Window.{Window}
use Rattle.tiles.proofs.Sides.{le-false, le-true, step, under-above, under-below, under-left, under-right}

-- The point lies in the window, and on none of its sides.
pub record IsInside (window : Window) (point : RationalPoint) : Type 0 where
  pub right_of : (pos point.n *ℤ window.left) <ℤ point.x
  pub left_of : point.x <ℤ (pos point.n *ℤ window.right)
  pub above : (pos point.n *ℤ window.low) <ℤ point.y
  pub below : point.y <ℤ (pos point.n *ℤ window.high)

-- Both points lie on one side of the window or beyond it.
abbrev pub AreAside : Window → Point → Point → Type 0
AreAside window one other =
    ((one.x ≤ℤ window.left) × (other.x ≤ℤ window.left)) ⊎ ((window.right ≤ℤ one.x) × (window.right ≤ℤ other.x))
    ⊎ ((one.y ≤ℤ window.low) × (other.y ≤ℤ window.low)) ⊎ ((window.high ≤ℤ one.y) × (window.high ≤ℤ other.y))

-- The point is the other one, or this clamped.
abbrev pub IsAt : Window → Point → Point → Type 0
IsAt window at point = (point ≡ at) ⊎ (point ≡ clamped window at)

less_two : (n : ℕ) (z : ℤ) → (pos n *ℤ (z -ℤ pos 2)) ≡ ((pos n *ℤ z) -ℤ pos (2 * n))
less_two n z = identity (times (n_of n) (minus (number z) (n_of 2))) (minus (times (n_of n) (number z)) (n_of (2 * n))) (omega arith)

more_two : (n : ℕ) (z : ℤ) → (pos n *ℤ (z +ℤ pos 2)) ≡ ((pos n *ℤ z) +ℤ pos (2 * n))
more_two n z = identity (times (n_of n) (plus (number z) (n_of 2))) (plus (times (n_of n) (number z)) (n_of (2 * n))) (omega arith)

-- a point of the window is inside of the widened one
pub inside-widened : (window : Window) (point : RationalPoint) → InWindow window point → IsInside (widened window) point
inside-widened window point is =
    let some = point.positive in
    let from_left = is.from_left in
    let before_right = is.before_right in
    let from_low = is.from_low in
    let below_high = is.below_high in
    let left = less_two point.n window.left in
    let right = more_two point.n window.right in
    let low = less_two point.n window.low in
    let high = more_two point.n window.high in record {
      right_of = omega (arith, ints, from_left, left, some);
      left_of = omega (arith, ints, before_right, right, some);
      above = omega (arith, ints, from_low, low, some);
      below = omega (arith, ints, below_high, high, some);
    }

module _ (window : Window) (point : RationalPoint) (inside : IsInside window point) where
  -- ---- beside each side

  left_too : (z : ℤ) → z ≤ℤ window.left → (pos point.n *ℤ z) ≤ℤ point.x
  left_too z upto = let there = scaled point.n z window.left upto in let right_of = inside.right_of in omega (arith, ints, there, right_of)

  right_too : (z : ℤ) → window.right ≤ℤ z → point.x <ℤ (pos point.n *ℤ z)
  right_too z from = let there = scaled point.n window.right z from in let left_of = inside.left_of in omega (arith, ints, there, left_of)

  pub left-nothing : (one other : Point) → one.x ≤ℤ window.left → other.x ≤ℤ window.left → under (edge_between one other) point ≡ pos 0
  left-nothing one other first second = under-left (edge_between one other) point (left_too one.x first) (left_too other.x second)

  pub right-nothing : (one other : Point) → window.right ≤ℤ one.x → window.right ≤ℤ other.x → under (edge_between one other) point ≡ pos 0
  right-nothing one other first second = under-right (edge_between one other) point (right_too one.x first) (right_too other.x second)

  pub high-nothing : (one other : Point) → window.high ≤ℤ one.y → window.high ≤ℤ other.y → under (edge_between one other) point ≡ pos 0
  high-nothing one other first second = under-above (edge_between one other) point window.high first second inside.below

  pub low-steps : (one other : Point) → one.y ≤ℤ window.low → other.y ≤ℤ window.low → under (edge_between one other) point ≡ (step one.x point -ℤ step other.x point)
  low-steps one other first second = under-below (edge_between one other) point window.low first second (let above = inside.above in omega (arith, ints, above))

  -- an upright edge counts nothing
  pub upright-nothing : (one other : Point) → one.x ≡ other.x → under (edge_between one other) point ≡ pos 0
  upright-nothing one other same =
      let on = back (edge_between one other) point (omega (arith, ints, same)) in
      let back_too = back (reversed (edge_between one other)) point (omega (arith, ints, same)) in
      omega (arith, ints, on, back_too)

  -- no step lies beyond a side
  pub step-clamped : (x : ℤ) → step (int_min (int_max x window.left) window.right) point ≡ step x point
  step-clamped x =
      by_lt_z window.left x
      (λ after. by_lt_z x window.right
      (λ between. ap (λ z. step z point) (let same : int_min (int_max x window.left) window.right ≡ x = omega (arith, ints, clamps, after, between) in same))
      (λ past.
      let there : int_min (int_max x window.left) window.right ≡ window.right = omega (arith, ints, clamps, after, past) in
      ap count (le-false (pos point.n *ℤ int_min (int_max x window.left) window.right) point.x (right_too _ (omega (arith, ints, there))) ∙ sym (le-false (pos point.n *ℤ x) point.x (right_too x past)))))
      (λ upto.
      let there : int_min (int_max x window.left) window.right ≤ℤ window.left = omega (arith, ints, clamps, upto) in
      ap count (le-true (pos point.n *ℤ int_min (int_max x window.left) window.right) point.x (left_too _ there) ∙ sym (le-true (pos point.n *ℤ x) point.x (left_too x upto))))

  -- over a point on the way along a side it counts as much as without it
  pub along-side : (one other third : Point) → AreAlongSide window one other third → (under (edge_between one other) point +ℤ under (edge_between other third) point) ≡ under (edge_between one third) point
  along-side one other third (inl (first, second, last)) =
      let a = left-nothing one other (omega (arith, ints, first)) (omega (arith, ints, second)) in
      let b = left-nothing other third (omega (arith, ints, second)) (omega (arith, ints, last)) in
      let c = left-nothing one third (omega (arith, ints, first)) (omega (arith, ints, last)) in
      omega (arith, ints, a, b, c)
  along-side one other third (inr (inl (first, second, last))) =
      let a = right-nothing one other (omega (arith, ints, first)) (omega (arith, ints, second)) in
      let b = right-nothing other third (omega (arith, ints, second)) (omega (arith, ints, last)) in
      let c = right-nothing one third (omega (arith, ints, first)) (omega (arith, ints, last)) in
      omega (arith, ints, a, b, c)
  along-side one other third (inr (inr (inl (first, second, last)))) =
      let a = low-steps one other (omega (arith, ints, first)) (omega (arith, ints, second)) in
      let b = low-steps other third (omega (arith, ints, second)) (omega (arith, ints, last)) in
      let c = low-steps one third (omega (arith, ints, first)) (omega (arith, ints, last)) in
      omega (arith, ints, a, b, c)
  along-side one other third (inr (inr (inr (first, second, last)))) =
      let a = high-nothing one other (omega (arith, ints, first)) (omega (arith, ints, second)) in
      let b = high-nothing other third (omega (arith, ints, second)) (omega (arith, ints, last)) in
      let c = high-nothing one third (omega (arith, ints, first)) (omega (arith, ints, last)) in
      omega (arith, ints, a, b, c)

  -- an edge that lies beyond a side counts as the clamped one
  pub beyond-same : (from to : Point) → AreBeyond window from to → under (edge_between (clamped window from) (clamped window to)) point ≡ under (edge_between from to) point
  beyond-same from to (inl (first, second)) =
      let a = left-nothing from to (omega (arith, ints, first)) (omega (arith, ints, second)) in
      let b = left-nothing (clamped window from) (clamped window to) (omega (arith, ints, clamps, first)) (omega (arith, ints, clamps, second)) in
      omega (arith, ints, a, b)
  beyond-same from to (inr (inl (first, second))) =
      let a = right-nothing from to (omega (arith, ints, first)) (omega (arith, ints, second)) in
      let b = right-nothing (clamped window from) (clamped window to) (omega (arith, ints, clamps, first)) (omega (arith, ints, clamps, second)) in
      omega (arith, ints, a, b)
  beyond-same from to (inr (inr (inl (first, second)))) =
      let a = low-steps from to (omega (arith, ints, first)) (omega (arith, ints, second)) in
      let b = low-steps (clamped window from) (clamped window to) (omega (arith, ints, clamps, first)) (omega (arith, ints, clamps, second)) in
      let c = step-clamped from.x in
      let d = step-clamped to.x in
      omega (arith, ints, a, b, c, d)
  beyond-same from to (inr (inr (inr (first, second)))) =
      let a = high-nothing from to (omega (arith, ints, first)) (omega (arith, ints, second)) in
      let b = high-nothing (clamped window from) (clamped window to) (omega (arith, ints, clamps, first)) (omega (arith, ints, clamps, second)) in
      omega (arith, ints, a, b)

  pub goes-same : (from to start end : Point) → GoesTo window from to start end → under (edge_between start end) point ≡ under (edge_between from to) point
  goes-same from to start end (inl (beyond, first, second)) = ap₂ (λ (a b : Point). under (edge_between a b) point) first second ∙ beyond-same from to beyond
  goes-same from to start end (inr (kept, first, second)) = ap₂ (λ (a b : Point). under (edge_between a b) point) first second

-- ---- a point and the same point clamped

module _ (window : Window) (at : Point) where
  at-left : (one : Point) → IsAt window at one → at.x ≤ℤ window.left → one.x ≤ℤ window.left
  at-left one (inl same) upto = let is = ap (λ (p : Point). p.x) same in omega (arith, ints, is, upto)
  at-left one (inr same) upto = let is = ap (λ (p : Point). p.x) same in omega (arith, ints, clamps, is, upto)

  at-right : (one : Point) → IsAt window at one → window.right ≤ℤ at.x → window.right ≤ℤ one.x
  at-right one (inl same) from = let is = ap (λ (p : Point). p.x) same in omega (arith, ints, is, from)
  at-right one (inr same) from = let is = ap (λ (p : Point). p.x) same in omega (arith, ints, clamps, is, from)

  at-column : (one : Point) → IsAt window at one → window.left ≤ℤ at.x → at.x ≤ℤ window.right → one.x ≡ at.x
  at-column one (inl same) from upto = ap (λ (p : Point). p.x) same
  at-column one (inr same) from upto = let is = ap (λ (p : Point). p.x) same in omega (arith, ints, clamps, is, from, upto)

  at-low : (one : Point) → IsAt window at one → at.y ≤ℤ window.low → one.y ≤ℤ window.low
  at-low one (inl same) upto = let is = ap (λ (p : Point). p.y) same in omega (arith, ints, is, upto)
  at-low one (inr same) upto = let is = ap (λ (p : Point). p.y) same in omega (arith, ints, clamps, is, upto)

  at-high : (one : Point) → IsAt window at one → window.high ≤ℤ at.y → window.high ≤ℤ one.y
  at-high one (inl same) from = let is = ap (λ (p : Point). p.y) same in omega (arith, ints, is, from)
  at-high one (inr same) from = let is = ap (λ (p : Point). p.y) same in omega (arith, ints, clamps, is, from)

  at-level : (one : Point) → IsAt window at one → window.low ≤ℤ at.y → at.y ≤ℤ window.high → one.y ≡ at.y
  at-level one (inl same) from upto = ap (λ (p : Point). p.y) same
  at-level one (inr same) from upto = let is = ap (λ (p : Point). p.y) same in omega (arith, ints, clamps, is, from, upto)

  module _ (one other : Point) (first : IsAt window at one) (second : IsAt window at other) where
    -- the edge between them counts nothing for a point in the window
    pub joined-nothing : (point : RationalPoint) → IsInside window point → under (edge_between one other) point ≡ pos 0
    joined-nothing point inside =
        by_lt_z at.x window.left
        (λ left. left-nothing window point inside one other (at-left one first (omega (arith, ints, left))) (at-left other second (omega (arith, ints, left))))
        (λ from. by_lt_z window.right at.x
        (λ right. right-nothing window point inside one other (at-right one first (omega (arith, ints, right))) (at-right other second (omega (arith, ints, right))))
        (λ upto. upright-nothing window point inside one other (at-column one first from upto ∙ sym (at-column other second from upto))))

    -- and lies aside, if they are two
    pub joined-aside : one ≢ other → AreAside window one other
    joined-aside differ =
        by_lt_z at.x window.left
        (λ left. inl (at-left one first (omega (arith, ints, left)), at-left other second (omega (arith, ints, left))))
        (λ from. by_lt_z window.right at.x
        (λ right. inr (inl (at-right one first (omega (arith, ints, right)), at-right other second (omega (arith, ints, right)))))
        (λ upto. by_lt_z at.y window.low
        (λ low. inr (inr (inl (at-low one first (omega (arith, ints, low)), at-low other second (omega (arith, ints, low))))))
        (λ over. by_lt_z window.high at.y
        (λ high. inr (inr (inr (at-high one first (omega (arith, ints, high)), at-high other second (omega (arith, ints, high))))))
        (λ below. absurd (differ (same_point (at-column one first from upto ∙ sym (at-column other second from upto)) (at-level one first over below ∙ sym (at-level other second over below))))))))
      where
        same_point : one.x ≡ other.x → one.y ≡ other.y → one ≡ other
        same_point same_x same_y = ap₂ (λ (x y : ℤ). (let p : Point = record { x = x; y = y } in p)) same_x same_y

-- what begins or ends with a clamped point doesn't lie beyond a side
clamped-first : (window : Window) (at one other : Point) → HasSides window → one ≡ clamped window at → ¬ (AreBeyond window one other)
clamped-first window at one other sides same (inl (left, _)) = let x = ap (λ (p : Point). p.x) same in let across = sides.across in omega (arith, ints, clamps, x, across, left)
clamped-first window at one other sides same (inr (inl (right, _))) = let x = ap (λ (p : Point). p.x) same in let across = sides.across in omega (arith, ints, clamps, x, across, right)
clamped-first window at one other sides same (inr (inr (inl (low, _)))) = let y = ap (λ (p : Point). p.y) same in let up = sides.up in omega (arith, ints, clamps, y, up, low)
clamped-first window at one other sides same (inr (inr (inr (high, _)))) = let y = ap (λ (p : Point). p.y) same in let up = sides.up in omega (arith, ints, clamps, y, up, high)

turned : (window : Window) (one other : Point) → AreBeyond window one other → AreBeyond window other one
turned window one other (inl (first, second)) = inl (second, first)
turned window one other (inr (inl (first, second))) = inr (inl (second, first))
turned window one other (inr (inr (inl (first, second)))) = inr (inr (inl (second, first)))
turned window one other (inr (inr (inr (first, second)))) = inr (inr (inr (second, first)))

-- so doesn't what joins a point and this clamped
pub joined-kept : (window : Window) (at one other : Point) → HasSides window → IsAt window at one → IsAt window at other → one ≢ other → ¬ (AreBeyond window one other)
joined-kept window at one other sides (inl first) (inl second) differ beyond = differ (first ∙ sym second)
joined-kept window at one other sides (inr first) second differ beyond = clamped-first window at one other sides first beyond
joined-kept window at one other sides (inl first) (inr second) differ beyond = clamped-first window at other one sides second (turned window one other beyond)

-- nor what an edge goes to
pub goes-kept : (window : Window) (from to start end : Point) → HasSides window → GoesTo window from to start end → ¬ (AreBeyond window start end)
goes-kept window from to start end sides (inl (_, first, second)) beyond = clamped-first window from start end sides first beyond
goes-kept window from to start end sides (inr (kept, first, second)) beyond =
    kept (subst (λ (p : Point). AreBeyond window p to) first (subst (λ (p : Point). AreBeyond window start p) second beyond))

-- ---- what edges go to

module _ (window : Window) (from to start end : Point) (goes : GoesTo window from to start end) where
  pub goes-start : IsAt window from start
  goes-start = elim goes [
    | inl (beyond, first, second) ↦ inr first
    | inr (kept, first, second) ↦ inl first
  ]

  pub goes-end : IsAt window to end
  goes-end = elim goes [
    | inl (beyond, first, second) ↦ inr second
    | inr (kept, first, second) ↦ inl second
  ]

  -- it stays as it is, or lies aside
  pub goes-aside : ((start ≡ from) × (end ≡ to)) ⊎ AreAside window start end
  goes-aside = elim goes [
    | inl (beyond, first, second) ↦ inr (aside beyond first second)
    | inr (kept, first, second) ↦ inl (first, second)
  ]
    where
      aside : AreBeyond window from to → start ≡ clamped window from → end ≡ clamped window to → AreAside window start end
      aside (inl (one, other)) first second = inl (at-left window from start (inr first) (omega (arith, ints, one)), at-left window to end (inr second) (omega (arith, ints, other)))
      aside (inr (inl (one, other))) first second = inr (inl (at-right window from start (inr first) (omega (arith, ints, one)), at-right window to end (inr second) (omega (arith, ints, other))))
      aside (inr (inr (inl (low, low_too)))) first second = inr (inr (inl (at-low window from start (inr first) (omega (arith, ints, low)), at-low window to end (inr second) (omega (arith, ints, low_too)))))
      aside (inr (inr (inr (high, high_too)))) first second = inr (inr (inr (at-high window from start (inr first) (omega (arith, ints, high)), at-high window to end (inr second) (omega (arith, ints, high_too)))))

-- a point along a side lies aside
pub along-aside : (window : Window) (one other third : Point) → AreAlongSide window one other third → AreAside window one third
along-aside window one other third (inl (first, second, last)) = inl (omega (arith, ints, first), omega (arith, ints, last))
along-aside window one other third (inr (inl (first, second, last))) = inr (inl (omega (arith, ints, first), omega (arith, ints, last)))
along-aside window one other third (inr (inr (inl (first, second, last)))) = inr (inr (inl (omega (arith, ints, first), omega (arith, ints, last))))
along-aside window one other third (inr (inr (inr (first, second, last)))) = inr (inr (inr (omega (arith, ints, first), omega (arith, ints, last))))

-- a point that is clamped lies in the window or on its sides
pub clamped-within : (window : Window) (at point : Point) → HasSides window → IsAt window at point → (point ≡ at) ⊎ IsWithin window point
clamped-within window at point sides (inl same) = inl same
clamped-within window at point sides (inr same) =
    let x = ap (λ (p : Point). p.x) same in
    let y = ap (λ (p : Point). p.y) same in
    let across = sides.across in
    let up = sides.up in
    inr (record {
      from_left = omega (arith, ints, clamps, x, across);
      upto_right = omega (arith, ints, clamps, x, across);
      from_low = omega (arith, ints, clamps, y, up);
      upto_high = omega (arith, ints, clamps, y, up);
    })
