-- Edges in windows side by side: their common points are whole, or they run along one line.
use Rattle.std.proofs.Common.{◌≡◌, ◌⊎◌, inl, inr, ℕ, zero, suc, ◌+◌, ◌-◌, ◌≤◌, ℤ, pos, ◌+ℤ◌, ◌-ℤ◌, ◌*ℤ◌, ◌<ℤ◌, ◌≤ℤ◌, List, [], ◌∷◌, get_or, refl, ap, sym, subst, ◌∙◌, arith}
use Rattle.std.proofs.lemmas.Int.{by_lt_z, clamps, ints}
use Rattle.std.specs.Int.{int_max}
use Rattle.std.specs.List.{All, AllPairs, Contains}
use Rattle.std.proofs.lemmas.List.Elements.{All-contains, All-contains_itself, All-head, All-tail, All-weaker}
use Rattle.std.proofs.lemmas.List.Kept.{AllPairs-cons}
use Rattle.i_tree.proofs.RootLemmas.Lists.{AllPairs-head, AllPairs-tail}
use Rattle.plane.specs.declared.edge.Edge.{Edge}
use Rattle.plane.specs.Ends.{end_of, start_of}
use Rattle.plane.specs.Meet.Edges.{IsAtShare, IsOf, RationalPoint}
use Rattle.plane.specs.Meet.Kinds.{IsAt}
use Rattle.plane.proofs.MeetLemmas.Identities.{identity, minus, number, plus, scaled, times}
use Rattle.plane.proofs.SweepLineLemmas.Gaps.{product_above}
use Rattle.noding.specs.Local.{CrossBeside}
use Rattle.noding.specs.Rounding.{RoundsOn, RoundsTo}
use Rattle.noding.proofs.SnapLemmas.Numbers.{n_of, product_positive}
use Rattle.noding.proofs.SnapLemmas.Rounding.{RoundsOn-whole, RoundsTo-unique}
use Rattle.overlay.proofs.UncrossedLemmas.Axes.{level-parallel, upright-parallel}
use Rattle.overlay.proofs.UncrossedLemmas.Finer.{AreParallel, IsWhole, parallel-exchanged}
use Rattle.tiles.specs.Join.{AreApart, AreBeside}
use Rattle.tiles.specs.Window.{HasPoints, InWindow, IsWithin}
use Rattle.tiles.specs.declared.window.Window.{Window}

-- ---- a share of a way

module _ (n a : ℕ) (p from to : ℤ) (share : a ≤ n) (is : p ≡ ((pos n *ℤ from) +ℤ (pos a *ℤ (to -ℤ from)))) where
  abbrev rest : ℕ
  rest = n - a

  parts : a + rest ≡ n
  parts = omega (arith, share)

  -- how far it is below c, by how far the ends are
  below-sum : (c : ℤ) → ((pos rest *ℤ (c -ℤ from)) +ℤ (pos a *ℤ (c -ℤ to))) ≡ ((pos n *ℤ c) -ℤ p)
  below-sum c =
      subst (λ (m : ℕ). ((pos rest *ℤ (c -ℤ from)) +ℤ (pos a *ℤ (c -ℤ to))) ≡ ((pos m *ℤ c) -ℤ ((pos m *ℤ from) +ℤ (pos a *ℤ (to -ℤ from))))) parts (told rest)
      ∙ ap (λ (z : ℤ). (pos n *ℤ c) -ℤ z) (sym is)
    where
      told : (b : ℕ) → ((pos b *ℤ (c -ℤ from)) +ℤ (pos a *ℤ (c -ℤ to))) ≡ ((pos (a + b) *ℤ c) -ℤ ((pos (a + b) *ℤ from) +ℤ (pos a *ℤ (to -ℤ from))))
      told b =
          identity (plus (times (n_of b) (minus (number c) (number from))) (times (n_of a) (minus (number c) (number to))))
          (minus (times (n_of (a + b)) (number c)) (plus (times (n_of (a + b)) (number from)) (times (n_of a) (minus (number to) (number from))))) (omega arith)

  -- and above it
  above-sum : (c : ℤ) → ((pos rest *ℤ (from -ℤ c)) +ℤ (pos a *ℤ (to -ℤ c))) ≡ (p -ℤ (pos n *ℤ c))
  above-sum c =
      subst (λ (m : ℕ). ((pos rest *ℤ (from -ℤ c)) +ℤ (pos a *ℤ (to -ℤ c))) ≡ (((pos m *ℤ from) +ℤ (pos a *ℤ (to -ℤ from))) -ℤ (pos m *ℤ c))) parts (told rest)
      ∙ ap (λ (z : ℤ). z -ℤ (pos n *ℤ c)) (sym is)
    where
      told : (b : ℕ) → ((pos b *ℤ (from -ℤ c)) +ℤ (pos a *ℤ (to -ℤ c))) ≡ (((pos (a + b) *ℤ from) +ℤ (pos a *ℤ (to -ℤ from))) -ℤ (pos (a + b) *ℤ c))
      told b =
          identity (plus (times (n_of b) (minus (number from) (number c))) (times (n_of a) (minus (number to) (number c))))
          (minus (plus (times (n_of (a + b)) (number from)) (times (n_of a) (minus (number to) (number from)))) (times (n_of (a + b)) (number c))) (omega arith)

  -- it isn't above what both ends aren't above
  share-upto : (c : ℤ) → from ≤ℤ c → to ≤ℤ c → p ≤ℤ (pos n *ℤ c)
  share-upto c first second =
      let sum = below-sum c in
      let one = product_above (pos rest) (c -ℤ from) (omega (arith, ints)) (omega (arith, ints, first)) in
      let other = product_above (pos a) (c -ℤ to) (omega (arith, ints)) (omega (arith, ints, second)) in
      told (pos rest *ℤ (c -ℤ from)) (pos a *ℤ (c -ℤ to)) (pos n *ℤ c) sum one other
    where
      told : (x y z : ℤ) → (x +ℤ y) ≡ (z -ℤ p) → pos 0 ≤ℤ x → pos 0 ≤ℤ y → p ≤ℤ z
      told x y z sum one other = omega (arith, ints, sum, one, other)

  share-from : (c : ℤ) → c ≤ℤ from → c ≤ℤ to → (pos n *ℤ c) ≤ℤ p
  share-from c first second =
      let sum = above-sum c in
      let one = product_above (pos rest) (from -ℤ c) (omega (arith, ints)) (omega (arith, ints, first)) in
      let other = product_above (pos a) (to -ℤ c) (omega (arith, ints)) (omega (arith, ints, second)) in
      told (pos rest *ℤ (from -ℤ c)) (pos a *ℤ (to -ℤ c)) (pos n *ℤ c) sum one other
    where
      told : (x y z : ℤ) → (x +ℤ y) ≡ (p -ℤ z) → pos 0 ≤ℤ x → pos 0 ≤ℤ y → z ≤ℤ p
      told x y z sum one other = omega (arith, ints, sum, one, other)

  at-start : a ≡ 0 → p ≡ (pos n *ℤ from)
  at-start none =
      is ∙ ap (λ (m : ℕ). (pos n *ℤ from) +ℤ (pos m *ℤ (to -ℤ from))) none
      ∙ identity (plus (times (n_of n) (number from)) (times (n_of 0) (minus (number to) (number from)))) (times (n_of n) (number from)) (omega arith)

  at-end : a ≡ n → p ≡ (pos n *ℤ to)
  at-end all =
      is ∙ ap (λ (m : ℕ). (pos n *ℤ from) +ℤ (pos m *ℤ (to -ℤ from))) all
      ∙ identity (plus (times (n_of n) (number from)) (times (n_of n) (minus (number to) (number from)))) (times (n_of n) (number to)) (omega arith)

-- of two products that are nothing together, of what isn't below 0, each is nothing
half : (b a : ℕ) (u v : ℤ) → pos 0 ≤ℤ u → pos 0 ≤ℤ v → ((pos b *ℤ u) +ℤ (pos a *ℤ v)) ≡ pos 0 → (b ≡ 0) ⊎ (u ≡ pos 0)
half zero a u v low low_too none = inl refl
half (suc b) a u v low low_too none =
    by_lt_z (pos 0) u
    (λ some. absurd (never (pos (suc b) *ℤ u) (pos a *ℤ v) (product_positive (pos (suc b)) u (omega (arith, ints)) some) (product_above (pos a) v (omega (arith, ints)) low_too) none))
    (λ upto. inr (omega (arith, ints, low, upto)))
  where
    never : (x y : ℤ) → pos 0 <ℤ x → pos 0 ≤ℤ y → (x +ℤ y) ≡ pos 0 → ⊥
    never x y more from none = omega (arith, ints, more, from, none)

-- What lies on one side of c, and comes to c between its ends, stays at c.
stays : (n a : ℕ) (p c from to : ℤ) → a ≤ n → p ≡ ((pos n *ℤ from) +ℤ (pos a *ℤ (to -ℤ from))) → p ≡ (pos n *ℤ c) → ((from ≤ℤ c) × (to ≤ℤ c)) ⊎ ((c ≤ℤ from) × (c ≤ℤ to))
    → (a ≡ 0) ⊎ ((a ≡ n) ⊎ (to ≡ from))
stays n a p c from to share is at (inl (first, second)) =
    let none = below-sum n a p from to share is c ∙ nothing (pos n *ℤ c) at in
    ends (half (n - a) a (c -ℤ from) (c -ℤ to) (omega (arith, ints, first)) (omega (arith, ints, second)) none)
    (half a (n - a) (c -ℤ to) (c -ℤ from) (omega (arith, ints, second)) (omega (arith, ints, first)) (swapped (pos (n - a) *ℤ (c -ℤ from)) (pos a *ℤ (c -ℤ to)) none))
  where
    nothing : (z : ℤ) → p ≡ z → (z -ℤ p) ≡ pos 0
    nothing z same = omega (arith, ints, same)

    swapped : (x y : ℤ) → (x +ℤ y) ≡ pos 0 → (y +ℤ x) ≡ pos 0
    swapped x y none = omega (arith, ints, none)

    ends : ((n - a) ≡ 0) ⊎ ((c -ℤ from) ≡ pos 0) → (a ≡ 0) ⊎ ((c -ℤ to) ≡ pos 0) → (a ≡ 0) ⊎ ((a ≡ n) ⊎ (to ≡ from))
    ends (inl all) other = inr (inl (omega (arith, all, share)))
    ends (inr here) (inl none) = inl none
    ends (inr here) (inr there) = inr (inr (omega (arith, ints, here, there)))
stays n a p c from to share is at (inr (first, second)) =
    let none = above-sum n a p from to share is c ∙ nothing (pos n *ℤ c) at in
    ends (half (n - a) a (from -ℤ c) (to -ℤ c) (omega (arith, ints, first)) (omega (arith, ints, second)) none)
    (half a (n - a) (to -ℤ c) (from -ℤ c) (omega (arith, ints, second)) (omega (arith, ints, first)) (swapped (pos (n - a) *ℤ (from -ℤ c)) (pos a *ℤ (to -ℤ c)) none))
  where
    nothing : (z : ℤ) → p ≡ z → (p -ℤ z) ≡ pos 0
    nothing z same = omega (arith, ints, same)

    swapped : (x y : ℤ) → (x +ℤ y) ≡ pos 0 → (y +ℤ x) ≡ pos 0
    swapped x y none = omega (arith, ints, none)

    ends : ((n - a) ≡ 0) ⊎ ((from -ℤ c) ≡ pos 0) → (a ≡ 0) ⊎ ((to -ℤ c) ≡ pos 0) → (a ≡ 0) ⊎ ((a ≡ n) ⊎ (to ≡ from))
    ends (inl all) other = inr (inl (omega (arith, all, share)))
    ends (inr here) (inl none) = inl none
    ends (inr here) (inr there) = inr (inr (omega (arith, ints, here, there)))

-- ---- an edge that comes to a line along an axis from one side

-- Both numbers lie on one side of c, or at it.
abbrev OnSide : ℤ → ℤ → ℤ → Type 0
OnSide c from to = ((from ≤ℤ c) × (to ≤ℤ c)) ⊎ ((c ≤ℤ from) × (c ≤ℤ to))

-- a point at an end is whole
end-whole : (edge : Edge) (point : RationalPoint) (a : ℕ) → IsAtShare edge point a → (a ≡ 0) ⊎ (a ≡ point.n) → IsWhole point
end-whole edge point a at (inl none) =
    (edge.x0, edge.y0, record { x_is = at-start point.n a point.x edge.x0 edge.x1 at.share at.x none; y_is = at-start point.n a point.y edge.y0 edge.y1 at.share at.y none })
end-whole edge point a at (inr all) =
    (edge.x1, edge.y1, record { x_is = at-end point.n a point.x edge.x0 edge.x1 at.share at.x all; y_is = at-end point.n a point.y edge.y0 edge.y1 at.share at.y all })

comes-upright : (edge : Edge) (point : RationalPoint) (c : ℤ) → IsOf edge point → point.x ≡ (pos point.n *ℤ c) → OnSide c edge.x0 edge.x1 → IsWhole point ⊎ (edge.x1 ≡ edge.x0)
comes-upright edge point c (a, at) on side =
    elim (stays point.n a point.x c edge.x0 edge.x1 at.share at.x on side) [
      | inl none ↦ inl (end-whole edge point a at (inl none))
      | inr (inl all) ↦ inl (end-whole edge point a at (inr all))
      | inr (inr same) ↦ inr same
    ]

comes-level : (edge : Edge) (point : RationalPoint) (c : ℤ) → IsOf edge point → point.y ≡ (pos point.n *ℤ c) → OnSide c edge.y0 edge.y1 → IsWhole point ⊎ (edge.y1 ≡ edge.y0)
comes-level edge point c (a, at) on side =
    elim (stays point.n a point.y c edge.y0 edge.y1 at.share at.y on side) [
      | inl none ↦ inl (end-whole edge point a at (inl none))
      | inr (inl all) ↦ inl (end-whole edge point a at (inr all))
      | inr (inr same) ↦ inr same
    ]

module _ (one other : Edge) (point : RationalPoint) (of_one : IsOf one point) (of_other : IsOf other point) where
  meet-upright : (c : ℤ) → point.x ≡ (pos point.n *ℤ c) → OnSide c one.x0 one.x1 → OnSide c other.x0 other.x1 → IsWhole point ⊎ AreParallel one other
  meet-upright c on side side_too =
      elim (comes-upright one point c of_one on side) [
        | inl is ↦ inl is
        | inr upright ↦
            elim (comes-upright other point c of_other on side_too) [
              | inl is ↦ inl is
              | inr upright_too ↦ inr (upright-parallel one other upright upright_too)
            ]
      ]

  meet-level : (c : ℤ) → point.y ≡ (pos point.n *ℤ c) → OnSide c one.y0 one.y1 → OnSide c other.y0 other.y1 → IsWhole point ⊎ AreParallel one other
  meet-level c on side side_too =
      elim (comes-level one point c of_one on side) [
        | inl is ↦ inl is
        | inr level ↦
            elim (comes-level other point c of_other on side_too) [
              | inl is ↦ inl is
              | inr level_too ↦ inr (level-parallel one other level level_too)
            ]
      ]

-- ---- windows side by side

-- Both ends of the edge lie in the window or on its sides.
pub record EdgeWithin (window : Window) (edge : Edge) : Type 0 where
  pub start : IsWithin window (start_of edge)
  pub end : IsWithin window (end_of edge)

-- what lies between two bounds that are the same or crossed
squeezed : (n : ℕ) (p low high : ℤ) → high ≤ℤ low → p ≤ℤ (pos n *ℤ high) → (pos n *ℤ low) ≤ℤ p → p ≡ (pos n *ℤ high)
squeezed n p low high beside upto from = told (pos n *ℤ low) (pos n *ℤ high) (scaled n high low beside) upto from
  where
    told : (x y : ℤ) → y ≤ℤ x → p ≤ℤ y → x ≤ℤ p → p ≡ y
    told x y order upto from = omega (arith, ints, order, upto, from)

upto-chain : (a b c : ℤ) → a ≤ℤ b → b ≤ℤ c → a ≤ℤ c
upto-chain a b c first second = omega (arith, ints, first, second)

meet-across : (first second : Window) (one other : Edge) (point : RationalPoint) → first.right ≤ℤ second.left → EdgeWithin first one → EdgeWithin second other → IsOf one point → IsOf other point
    → IsWhole point ⊎ AreParallel one other
meet-across first second one other point beside in_one in_other (a, at) (b, other_at) =
    let upto = share-upto point.n a point.x one.x0 one.x1 at.share at.x first.right in_one.start.upto_right in_one.end.upto_right in
    let from = share-from point.n b point.x other.x0 other.x1 other_at.share other_at.x second.left in_other.start.from_left in_other.end.from_left in
    meet-upright one other point (a, at) (b, other_at) first.right (squeezed point.n point.x second.left first.right beside upto from)
    (inl (in_one.start.upto_right, in_one.end.upto_right))
    (inr (upto-chain first.right second.left other.x0 beside in_other.start.from_left, upto-chain first.right second.left other.x1 beside in_other.end.from_left))

meet-above : (first second : Window) (one other : Edge) (point : RationalPoint) → first.high ≤ℤ second.low → EdgeWithin first one → EdgeWithin second other → IsOf one point → IsOf other point
    → IsWhole point ⊎ AreParallel one other
meet-above first second one other point beside in_one in_other (a, at) (b, other_at) =
    let upto = share-upto point.n a point.y one.y0 one.y1 at.share at.y first.high in_one.start.upto_high in_one.end.upto_high in
    let from = share-from point.n b point.y other.y0 other.y1 other_at.share other_at.y second.low in_other.start.from_low in_other.end.from_low in
    meet-level one other point (a, at) (b, other_at) first.high (squeezed point.n point.y second.low first.high beside upto from)
    (inl (in_one.start.upto_high, in_one.end.upto_high))
    (inr (upto-chain first.high second.low other.y0 beside in_other.start.from_low, upto-chain first.high second.low other.y1 beside in_other.end.from_low))

-- what holds of two edges holds of them named the other way round
exchanged : (one other : Edge) (point : RationalPoint) → IsWhole point ⊎ AreParallel one other → IsWhole point ⊎ AreParallel other one
exchanged one other point (inl is) = inl is
exchanged one other point (inr parallel) = inr (parallel-exchanged one other parallel)

-- Of edges in windows side by side common points are whole, or they are parallel.
meet-beside : (first second : Window) (one other : Edge) (point : RationalPoint) → AreBeside first second → EdgeWithin first one → EdgeWithin second other → IsOf one point → IsOf other point
    → IsWhole point ⊎ AreParallel one other
meet-beside first second one other point (inl beside) in_one in_other of_one of_other = meet-across first second one other point beside in_one in_other of_one of_other
meet-beside first second one other point (inr (inl beside)) in_one in_other of_one of_other = exchanged other one point (meet-across second first other one point beside in_other in_one of_other of_one)
meet-beside first second one other point (inr (inr (inl beside))) in_one in_other of_one of_other = meet-above first second one other point beside in_one in_other of_one of_other
meet-beside first second one other point (inr (inr (inr beside))) in_one in_other of_one of_other = exchanged other one point (meet-above second first other one point beside in_other in_one of_other of_one)

-- ---- edges that don't cross beside a whole point

-- where common points are whole, or the edges parallel, they don't
pub never-beside : (one other : Edge) (x y : ℤ) → ((point : RationalPoint) → IsOf one point → IsOf other point → IsWhole point ⊎ AreParallel one other) → ¬ (CrossBeside one other x y)
never-beside one other x y meet (slanted, (point, of_one, of_other, rounds, beside)) =
    elim (meet point of_one of_other) [
      | inr parallel ↦ slanted parallel
      | inl (a, b, at) ↦
          let whole : RoundsTo point a b = record {
            along_x = subst (λ (z : ℤ). RoundsOn point.n z a) (sym at.x_is) (RoundsOn-whole point.n a point.positive);
            along_y = subst (λ (z : ℤ). RoundsOn point.n z b) (sym at.y_is) (RoundsOn-whole point.n b point.positive);
          } in
          let (same_x, same_y) = RoundsTo-unique point a b x y whole rounds in
          beside (subst (λ (q : ℤ). IsAt point x q) same_y (subst (λ (p : ℤ). IsAt point p b) same_x at))
    ]

pub beside-uncrossed : (first second : Window) (one other : Edge) (x y : ℤ) → AreBeside first second → EdgeWithin first one → EdgeWithin second other → ¬ (CrossBeside one other x y)
beside-uncrossed first second one other x y beside in_one in_other = never-beside one other x y (λ point of_one of_other. meet-beside first second one other point beside in_one in_other of_one of_other)

pub uncrossed-exchanged : (first second : Window) (one other : Edge) (x y : ℤ) → AreBeside first second → EdgeWithin first one → EdgeWithin second other → ¬ (CrossBeside other one x y)
uncrossed-exchanged first second one other x y beside in_one in_other =
    never-beside other one x y (λ point of_other of_one. exchanged one other point (meet-beside first second one other point beside in_one in_other of_one of_other))

-- ---- windows with no common point

-- a window that lies beyond a side of another one has no point of it
pub beside-apart : (one other : Window) → AreBeside one other → AreApart one other
beside-apart one other beside point in_one in_other = by beside
  where
    never : (a b p : ℤ) → a ≤ℤ b → p <ℤ (pos point.n *ℤ a) → (pos point.n *ℤ b) ≤ℤ p → ⊥
    never a b p order before from = told (pos point.n *ℤ a) (pos point.n *ℤ b) (scaled point.n a b order) before from
      where
        told : (s t : ℤ) → s ≤ℤ t → p <ℤ s → t ≤ℤ p → ⊥
        told s t order before from = omega (arith, ints, order, before, from)

    by : AreBeside one other → ⊥
    by (inl order) = never one.right other.left point.x order in_one.before_right in_other.from_left
    by (inr (inl order)) = never other.right one.left point.x order in_other.before_right in_one.from_left
    by (inr (inr (inl order))) = never one.high other.low point.y order in_one.below_high in_other.from_low
    by (inr (inr (inr order))) = never other.high one.low point.y order in_other.below_high in_one.from_low

-- and windows with points that have none in common are beside each other
pub apart-beside : (one other : Window) → HasPoints one → HasPoints other → AreApart one other → AreBeside one other
apart-beside one other some some_too apart =
    by_lt_z other.left one.right
    (λ left. by_lt_z one.left other.right
    (λ right. by_lt_z other.low one.high
    (λ low. by_lt_z one.low other.high
    (λ high. absurd (apart common (in_one left low) (in_other right high)))
    (λ upto. inr (inr (inr upto))))
    (λ upto. inr (inr (inl upto))))
    (λ upto. inr (inl upto)))
    (λ upto. inl upto)
  where
    common : RationalPoint
    common = record { n = 1; x = int_max one.left other.left; y = int_max one.low other.low; positive = omega arith }

    once : (z : ℤ) → (pos 1 *ℤ z) ≡ z
    once z = identity (times (n_of 1) (number z)) (number z) (omega arith)

    from_first : (a b : ℤ) → (pos 1 *ℤ a) ≤ℤ int_max a b
    from_first a b = let is = once a in omega (arith, ints, clamps, is)

    from_second : (a b : ℤ) → (pos 1 *ℤ b) ≤ℤ int_max a b
    from_second a b = let is = once b in omega (arith, ints, clamps, is)

    before : (a b c : ℤ) → a <ℤ c → b <ℤ c → int_max a b <ℤ (pos 1 *ℤ c)
    before a b c first second = let is = once c in omega (arith, ints, clamps, is, first, second)

    in_one : other.left <ℤ one.right → other.low <ℤ one.high → InWindow one common
    in_one left low = record {
      from_left = from_first one.left other.left;
      before_right = before one.left other.left one.right some.wide left;
      from_low = from_first one.low other.low;
      below_high = before one.low other.low one.high some.tall low;
    }

    in_other : one.left <ℤ other.right → one.low <ℤ other.high → InWindow other common
    in_other right high = record {
      from_left = from_second one.left other.left;
      before_right = before one.left other.left other.right right some_too.wide;
      from_low = from_second one.low other.low;
      below_high = before one.low other.low other.high high some_too.tall;
    }

-- windows with points of which no two have a common one are beside each other
pub all-beside : (windows : List Window) → All HasPoints windows → AllPairs AreApart windows → AllPairs AreBeside windows
all-beside [] some apart = λ i j d order within. absurd (omega (arith, within))
all-beside (window ∷ windows) some apart =
    let rest = All-tail HasPoints window windows some in
    let from = AllPairs-head AreApart window windows apart in
    AllPairs-cons AreBeside window windows
    (All-weaker (Contains windows) (AreBeside window)
    (λ other among. apart-beside window other (All-head HasPoints window windows some) (All-contains HasPoints windows other rest among) (All-contains (AreApart window) windows other from among))
    windows (All-contains_itself windows))
    (all-beside windows rest (AllPairs-tail AreApart window windows apart))

-- and those that are have none
pub all-apart : (windows : List Window) → AllPairs AreBeside windows → AllPairs AreApart windows
all-apart windows beside = λ i j d order within. beside-apart (get_or windows i d) (get_or windows j d) (beside i j d order within)
