-- The point of an edge that is nearest to a point, by how far the way between them reaches in a shape.
use Rattle.std.proofs.Common.{List, ap, arith, inl, inr, pos, refl, subst, sym, ℕ, ℤ, ◌*ℤ◌, ◌*◌, ◌+ℤ◌, ◌-ℤ◌, ◌<ℤ◌, ◌<◌, ◌≡◌, ◌≢◌, ◌≤ℤ◌, ◌⊎◌, ◌∙◌}
use Rattle.std.specs.Prelude.{Contains}
use Rattle.std.proofs.Math.Nat.{mul-pos}
use Rattle.std.proofs.lemmas.Int.{by_lt_z, ints}
use Rattle.plane.specs.declared.edge.Edge.{Edge}
use Rattle.plane.specs.declared.point.Point.{Point}
use Rattle.plane.specs.Ends.{end_of, reversed, start_of}
use Rattle.noding.proofs.SnapLemmas.Reversed.{IsOf-reversed}
use Rattle.plane.specs.Meet.Edges.{IsAtShare, IsOf, RationalPoint}
use Rattle.plane.specs.Meet.Kinds.{IsEnd}
use Rattle.plane.proofs.MeetLemmas.Identities.{Term, identity, minus, number, plus, times}
use Rattle.noding.proofs.SnapLemmas.Numbers.{Natural, natural}
use Rattle.offset.proofs.CoverLemmas.Least.{HasLeast, Measure, has-least}
use Rattle.offset.proofs.CoverLemmas.Numbers.{above-factor, above-product, fractions-most, none, positive-product, scaled-most}
use Rattle.offset.proofs.CoverLemmas.Shapes.{IsFurthest, IsShape, IsTop, furthest-most, furthest-right, has-furthest, start-wide, top}
use Rattle.offset.proofs.CoverLemmas.Sides.{ahead, ahead-end, apart, apart-at, apart-whole, side_of, whole}
use Rattle.offset.proofs.CoverLemmas.Vectors.{crossed, crossing, reach, term, turn_back, way, wide}

-- The first point, seen from which the way reaches that side furthest, is at least as near as the other one.
abbrev pub IsAsNear : RationalPoint → RationalPoint → Edge → RationalPoint → Edge → Type 0
IsAsNear point from side other other_side = (reach side (apart point from) *ℤ (pos other.n *ℤ wide other_side)) ≤ℤ (reach other_side (apart point other) *ℤ (pos from.n *ℤ wide side))

-- The point lies behind a point inside the edge, seen along the corner that is furthest to the right.
pub record IsFoot (pairs : List (Edge × Edge)) (edge : Edge) (point from : RationalPoint) (side : Edge) : Type 0 where
  pub one : Edge
  pub other : Edge
  pub furthest : IsFurthest pairs (way edge) one other
  pub after : crossed (ahead point (start_of edge)) (start_of other) <ℤ pos 0
  pub before : pos 0 <ℤ crossed (ahead point (end_of edge)) (start_of other)
  pub far : (reach side (apart point from) *ℤ (pos 0 -ℤ crossed (way edge) (start_of other))) ≡ ((pos 0 -ℤ side_of edge point) *ℤ (pos from.n *ℤ wide side))

-- The nearest point of an edge: one of its ends, or one inside, and then such a foot where the point is right of the edge.
abbrev pub IsKind : List (Edge × Edge) → Edge → RationalPoint → RationalPoint → Edge → Type 0
IsKind pairs edge point from side =
    (from ≡ whole (start_of edge)) ⊎ ((from ≡ whole (end_of edge)) ⊎ (¬ (IsEnd edge from)) × (side_of edge point <ℤ pos 0 → IsFoot pairs edge point from side))

pub record Nearest (sides : List Edge) (pairs : List (Edge × Edge)) (point : RationalPoint) (edge : Edge) : Type 0 where
  pub from : RationalPoint
  pub of : IsOf edge from
  pub side : Edge
  pub is_top : IsTop sides (apart point from) side
  pub least : (other : RationalPoint) (other_side : Edge) → IsOf edge other → IsTop sides (apart point other) other_side → IsAsNear point from side other other_side
  pub kind : IsKind pairs edge point from side

-- ---- on numbers

near : (x y n m delta q t h k w w' g : ℤ) → y ≡ ((n *ℤ x) +ℤ (m *ℤ delta)) → ((q *ℤ x) -ℤ (t *ℤ delta)) ≡ (h *ℤ k) → k ≤ℤ w → (y *ℤ w') ≤ℤ (g *ℤ w) → ((n *ℤ h) *ℤ w') ≤ℤ (g *ℤ q) → pos 0 ≤ℤ h → pos 0 ≤ℤ m → pos 0 <ℤ t → pos 0 ≤ℤ q → pos 0 <ℤ n → pos 0 <ℤ w' → pos 0 ≤ℤ w → (x *ℤ (n *ℤ w')) ≤ℤ (g *ℤ w)
near x y n m delta q t h k w w' g first second k_most y_most h_most h_above m_above t_some q_above n_some w'_some w_above =
    let v = λ (z : ℤ). number z in
    let by = λ (s r : Term). times s r in
    let sum = plus (by (v n) (v x)) (by (v m) (v delta)) in
    let lack = minus (by (v h) (v k)) (minus (by (v q) (v x)) (by (v t) (v delta))) in
    let one = above-product (n *ℤ t) ((g *ℤ w) -ℤ (y *ℤ w')) (above-product n t (omega (arith, ints, n_some)) (omega (arith, ints, t_some))) (omega (arith, ints, y_most)) in
    let two = above-product (m *ℤ ((n *ℤ h) *ℤ w')) (w -ℤ k) (above-product m ((n *ℤ h) *ℤ w') m_above (above-product (n *ℤ h) w' (above-product n h (omega (arith, ints, n_some)) h_above) (omega (arith, ints, w'_some)))) (omega (arith, ints, k_most)) in
    let three = above-product (m *ℤ w) ((g *ℤ q) -ℤ ((n *ℤ h) *ℤ w')) (above-product m w m_above w_above) (omega (arith, ints, h_most)) in
    let part = positive-product t n t_some n_some in
    let other = above-product m q m_above q_above in
    let same = identity
    (by (plus (by (v t) (v n)) (by (v m) (v q))) (minus (by (v g) (v w)) (by (v x) (by (v n) (v w')))))
    (plus (plus (plus (by (by (v n) (v t)) (minus (by (v g) (v w)) (by sum (v w')))) (by (by (v m) (by (by (v n) (v h)) (v w'))) (minus (v w) (v k)))) (by (by (v m) (v w)) (minus (by (v g) (v q)) (by (by (v n) (v h)) (v w'))))) (by (by (v m) (by (v n) (v w'))) lack))
    (omega arith) in
    let swap = ap (λ z. (n *ℤ t) *ℤ ((g *ℤ w) -ℤ (z *ℤ w'))) first in
    let gone : ((h *ℤ k) -ℤ ((q *ℤ x) -ℤ (t *ℤ delta))) ≡ pos 0 = omega (arith, ints, second) in
    let none_left = ap (λ z. (m *ℤ (n *ℤ w')) *ℤ z) gone ∙ identity (by (by (v m) (by (v n) (v w'))) none) none (omega arith) in
    let found = above-factor ((t *ℤ n) +ℤ (m *ℤ q)) ((g *ℤ w) -ℤ (x *ℤ (n *ℤ w'))) (omega (arith, ints, part, other)) (omega (arith, ints, one, two, three, same, swap, none_left)) in
    omega (arith, ints, found)

scale : (k m a a0 b b0 w1 w2 : ℤ) → pos 0 <ℤ k → pos 0 ≤ℤ m → (k *ℤ a) ≡ (m *ℤ a0) → (k *ℤ b) ≡ (m *ℤ b0) → (a0 *ℤ w1) ≤ℤ (b0 *ℤ w2) → (a *ℤ w1) ≤ℤ (b *ℤ w2)
scale k m a a0 b b0 w1 w2 some above first second most =
    let v = λ (z : ℤ). number z in
    let by = λ (s r : Term). times s r in
    let found = above-product m ((b0 *ℤ w2) -ℤ (a0 *ℤ w1)) above (omega (arith, ints, most)) in
    let here = identity (by (v k) (minus (by (v b) (v w2)) (by (v a) (v w1)))) (minus (by (by (v k) (v b)) (v w2)) (by (by (v k) (v a)) (v w1))) (omega arith) in
    let there = identity (by (v m) (minus (by (v b0) (v w2)) (by (v a0) (v w1)))) (minus (by (by (v m) (v b0)) (v w2)) (by (by (v m) (v a0)) (v w1))) (omega arith) in
    let one = ap (λ z. z *ℤ w1) first in
    let two = ap (λ z. z *ℤ w2) second in
    let result = above-factor k ((b *ℤ w2) -ℤ (a *ℤ w1)) some (omega (arith, ints, found, here, there, one, two)) in
    omega (arith, ints, result)

pub one_times : (z : ℤ) → (pos 1 *ℤ z) ≡ z
one_times z = identity (times (number (pos 1)) (number z)) (number z) (omega arith)

-- ---- vectors of one direction

-- The multiple of a vector reaches the same side furthest.
pub top-scaled : (sides : List Edge) (vector other : Point) (side : Edge) (k m : ℤ) → pos 0 <ℤ k → pos 0 ≤ℤ m → ((f : Point) → (k *ℤ crossed vector f) ≡ (m *ℤ crossed other f)) → IsTop sides other side → IsTop sides vector side
top-scaled sides vector other side k m some above same is = record {
  of = is.of;
  most = λ one of. scale k m (reach one vector) (reach one other) (reach side vector) (reach side other) (wide side) (wide one) some above (same (way one)) (same (way side)) (is.most one of);
}

-- a corner reaches the side that begins at it
corner-top : (sides : List Edge) (pairs : List (Edge × Edge)) → IsShape sides pairs → (side : Edge) → Contains sides side → IsTop sides (start_of side) side
corner-top sides pairs shape side of = record {
  of = of;
  most = λ other of_other.
      let some = shape.around side of in
      let most = scaled-most (wide side) (reach other (start_of side)) (wide other) (omega (arith, ints, some)) (shape.convex other side of_other of) in
      let turn = identity (times (number (reach other (start_of side))) (number (wide side))) (times (number (wide side)) (number (reach other (start_of side)))) (omega arith) in
      let goal : (reach other (start_of side) *ℤ wide side) ≤ℤ (wide side *ℤ wide other) = omega (arith, ints, most, turn) in
      subst (λ (z : ℤ). (reach other (start_of side) *ℤ wide side) ≤ℤ (z *ℤ wide other)) (sym (start-wide side)) goal;
}

-- ---- points of the edge's line

-- a corner as a sum of the way from the edge's line and of the edge's way
by_foot : (d x c f : Point) → (((pos 0 -ℤ crossed d c) *ℤ crossed x f) -ℤ ((pos 0 -ℤ crossed x c) *ℤ crossed d f)) ≡ ((pos 0 -ℤ crossed d x) *ℤ crossed c f)
by_foot d x c f =
    identity
    (minus (times (minus none (crossing (term d) (term c))) (crossing (term x) (term f))) (times (minus none (crossing (term x) (term c))) (crossing (term d) (term f))))
    (times (minus none (crossing (term d) (term x))) (crossing (term c) (term f)))
    (omega arith)

turn_none : (a : Point) → crossed a a ≡ pos 0
turn_none a = identity (crossing (term a) (term a)) none (omega arith)

-- each point of the edge is as far from the point, across the edge
pub along : (edge : Edge) (point from : RationalPoint) (a : ℕ) → IsAtShare edge from a → (pos 0 -ℤ crossed (way edge) (apart point from)) ≡ (pos from.n *ℤ (pos 0 -ℤ side_of edge point))
along edge point from a at =
    let d = way edge in
    let x = ahead point (start_of edge) in
    let is = apart-at edge point from a d at in
    let first = turn_back d (apart point from) in
    let second = turn_back d x in
    let gone = ap (λ z. (pos point.n *ℤ pos a) *ℤ z) (turn_none d) ∙ identity (times (times (number (pos point.n)) (number (pos a))) none) none (omega arith) in
    let again = ap (λ z. pos from.n *ℤ (pos 0 -ℤ z)) second in
    let double = identity (times (number (pos from.n)) (minus none (minus none (number (crossed x d))))) (times (number (pos from.n)) (number (crossed x d))) (omega arith) in
    omega (arith, ints, is, first, gone, again, double)

-- how far the edge's line is, in parts of how far the furthest corner is, is at most how far a side is reached from the edge
line-most : (sides : List Edge) (pairs : List (Edge × Edge)) → IsShape sides pairs → (edge : Edge) (point : RationalPoint) (one corner : Edge) → IsFurthest pairs (way edge) one corner → (other : RationalPoint) (other_side : Edge) → IsOf edge other → IsTop sides (apart point other) other_side → ((pos other.n *ℤ (pos 0 -ℤ side_of edge point)) *ℤ wide other_side) ≤ℤ (reach other_side (apart point other) *ℤ (pos 0 -ℤ crossed (way edge) (start_of corner)))
line-most sides pairs shape edge point one corner furthest other other_side (a, at) is =
    let most = furthest-most sides pairs shape (way edge) one corner furthest (apart point other) other_side is in
    subst (λ (z : ℤ). (z *ℤ wide other_side) ≤ℤ (reach other_side (apart point other) *ℤ (pos 0 -ℤ crossed (way edge) (start_of corner)))) (along edge point other a at) most

-- ---- the nearest point is an end

-- the ends, as points of the edge
start-of : (edge : Edge) → IsOf edge (whole (start_of edge))
start-of edge = (
  0,
  record {
    share = omega arith;
    x = identity (number edge.x0) (plus (times (number (pos 1)) (number edge.x0)) (times none (minus (number edge.x1) (number edge.x0)))) (omega arith);
    y = identity (number edge.y0) (plus (times (number (pos 1)) (number edge.y0)) (times none (minus (number edge.y1) (number edge.y0)))) (omega arith);
  },
)

end-of : (edge : Edge) → IsOf edge (whole (end_of edge))
end-of edge = (
  1,
  record {
    share = omega arith;
    x = identity (number edge.x1) (plus (times (number (pos 1)) (number edge.x0)) (times (number (pos 1)) (minus (number edge.x1) (number edge.x0)))) (omega arith);
    y = identity (number edge.y1) (plus (times (number (pos 1)) (number edge.y0)) (times (number (pos 1)) (minus (number edge.y1) (number edge.y0)))) (omega arith);
  },
)

-- where the foot is at the start or before it
at-start : (sides : List Edge) (pairs : List (Edge × Edge)) → IsShape sides pairs → (point : RationalPoint) (edge one corner : Edge) → IsFurthest pairs (way edge) one corner → side_of edge point <ℤ pos 0 → pos 0 <ℤ crossed (ahead point (start_of edge)) (start_of corner) → Nearest sides pairs point edge
at-start sides pairs shape point edge one corner furthest right before =
    let (side, is_top) = top sides pairs shape (apart point (whole (start_of edge))) in record {
      from = whole (start_of edge);
      of = start-of edge;
      side = side;
      is_top = is_top;
      least = λ other other_side of is. by side is_top.of other other_side of is;
      kind = inl refl;
    }
  where
    by : (side : Edge) → Contains sides side → (other : RationalPoint) (other_side : Edge) → IsOf edge other → IsTop sides (apart point other) other_side → IsAsNear point (whole (start_of edge)) side other other_side
    by side of_side other other_side (a, at) is =
        let d = way edge in
        let x = ahead point (start_of edge) in
        let c = start_of corner in
        let f = way side in
        let to_corner = (shape.corner one corner furthest.pair).after in
        let is_right = furthest-right sides pairs shape d one corner furthest in
        let far = line-most sides pairs shape edge point one corner furthest other other_side (a, at) is in
        let place = apart-at edge point other a f at in
        let twist = identity
        (minus (times (number (pos other.n)) (number (crossed x f))) (times (times (number (pos point.n)) (number (pos a))) (number (crossed d f))))
        (plus (times (number (pos other.n)) (number (crossed x f))) (times (times (number (pos point.n)) (number (pos a))) (minus none (number (crossed d f)))))
        (omega arith) in
        let foot = by_foot d x c f in
        let twisted = identity (times (minus none (number (crossed x c))) (number (crossed d f))) (times (number (crossed x c)) (minus none (number (crossed d f)))) (omega arith) in
        let some_side = shape.around side of_side in
        let n_some = other.positive in
        let found = near (crossed x f) (crossed (apart point other) f) (pos other.n) (pos point.n *ℤ pos a) (pos 0 -ℤ crossed d f) (pos 0 -ℤ crossed d c) (crossed x c) (pos 0 -ℤ crossed d x) (crossed c f) (wide side) (wide other_side) (reach other_side (apart point other))
        (place ∙ twist)
        (omega (arith, ints, foot, twisted))
        (shape.convex side corner of_side to_corner)
        (is.most side of_side)
        far
        (omega (arith, ints, right))
        (above-product (pos point.n) (pos a) (omega (arith, ints)) (omega (arith, ints)))
        before
        (omega (arith, ints, is_right))
        (omega (arith, ints, n_some))
        (shape.around other_side is.of)
        (omega (arith, ints, some_side)) in
        let at_whole = ap (λ z. z *ℤ (pos other.n *ℤ wide other_side)) (apart-whole point (start_of edge) f) in
        let once = ap (λ z. reach other_side (apart point other) *ℤ z) (one_times (wide side)) in
        omega (arith, ints, found, at_whole, once)

-- where it is at the end or behind it
at-end : (sides : List Edge) (pairs : List (Edge × Edge)) → IsShape sides pairs → (point : RationalPoint) (edge one corner : Edge) → IsFurthest pairs (way edge) one corner → side_of edge point <ℤ pos 0 → crossed (ahead point (end_of edge)) (start_of corner) <ℤ pos 0 → Nearest sides pairs point edge
at-end sides pairs shape point edge one corner furthest right before =
    let (side, is_top) = top sides pairs shape (apart point (whole (end_of edge))) in record {
      from = whole (end_of edge);
      of = end-of edge;
      side = side;
      is_top = is_top;
      least = λ other other_side of is. by side is_top.of other other_side of is;
      kind = inr (inl refl);
    }
  where
    by : (side : Edge) → Contains sides side → (other : RationalPoint) (other_side : Edge) → IsOf edge other → IsTop sides (apart point other) other_side → IsAsNear point (whole (end_of edge)) side other other_side
    by side of_side other other_side (a, at) is =
        let d = way edge in
        let x = ahead point (start_of edge) in
        let z = ahead point (end_of edge) in
        let c = start_of corner in
        let f = way side in
        let n = number (pos point.n) in
        let m = number (pos other.n) in
        let part = number (pos a) in
        let to_corner = (shape.corner one corner furthest.pair).after in
        let is_right = furthest-right sides pairs shape d one corner furthest in
        let far = line-most sides pairs shape edge point one corner furthest other other_side (a, at) is in
        let place = apart-at edge point other a f at in
        let from_end = ahead-end edge point f in
        let twist = identity
        (minus (times m (number (crossed x f))) (times (times n part) (number (crossed d f))))
        (plus (times m (minus (number (crossed x f)) (times n (number (crossed d f))))) (times (times n (minus m part)) (number (crossed d f))))
        (omega arith) in
        let swap = ap (λ w. pos other.n *ℤ w) from_end in
        let foot = by_foot d z c f in
        let same_side : crossed d z ≡ crossed d x = turn_back d z ∙ ap (λ w. pos 0 -ℤ w) (ahead-end edge point d ∙ ap (λ w. crossed x d -ℤ (pos point.n *ℤ w)) (turn_none d))
        ∙ identity (minus none (minus (crossing (term x) (term d)) (times n none))) (crossing (term d) (term x)) (omega arith) in
        let some_side = shape.around side of_side in
        let n_some = other.positive in
        let within = at.share in
        let foot_here = foot ∙ ap (λ w. (pos 0 -ℤ w) *ℤ crossed c f) same_side in
        let found = near (crossed z f) (crossed (apart point other) f) (pos other.n) (pos point.n *ℤ (pos other.n -ℤ pos a)) (crossed d f) (pos 0 -ℤ crossed d c) (pos 0 -ℤ crossed z c) (pos 0 -ℤ crossed d x) (crossed c f) (wide side) (wide other_side) (reach other_side (apart point other))
        (omega (arith, ints, place, twist, swap))
        foot_here
        (shape.convex side corner of_side to_corner)
        (is.most side of_side)
        far
        (omega (arith, ints, right))
        (above-product (pos point.n) (pos other.n -ℤ pos a) (omega (arith, ints)) (omega (arith, ints, within)))
        (omega (arith, ints, before))
        (omega (arith, ints, is_right))
        (omega (arith, ints, n_some))
        (shape.around other_side is.of)
        (omega (arith, ints, some_side)) in
        let at_whole = ap (λ w. w *ℤ (pos other.n *ℤ wide other_side)) (apart-whole point (end_of edge) f) in
        let once = ap (λ w. reach other_side (apart point other) *ℤ w) (one_times (wide side)) in
        omega (arith, ints, found, at_whole, once)

-- ---- the nearest point is inside

-- a number that isn't 0 has a product that isn't
no_factor : (k z : ℤ) → pos 0 <ℤ k → z <ℤ pos 0 → (k *ℤ z) ≡ pos 0 → ⊥
no_factor k z some below none_is =
    let product = positive-product k (pos 0 -ℤ z) some (omega (arith, ints, below)) in
    let turned = identity (times (number k) (minus none (number z))) (minus none (times (number k) (number z))) (omega arith) in
    absurd (omega (arith, ints, product, turned, none_is))

-- a point at a share that is neither nothing nor all
not-start : (edge : Edge) (point from : RationalPoint) (a : ℕ) → IsAtShare edge from a → side_of edge point <ℤ pos 0 → 0 < a → (from.x ≡ (pos from.n *ℤ edge.x0)) → (from.y ≡ (pos from.n *ℤ edge.y0)) → ⊥
not-start edge point from a at right some is_x is_y =
    let x = ahead point (start_of edge) in
    let d = way edge in
    let at_x = at.x in
    let at_y = at.y in
    let gone_x : (pos a *ℤ d.x) ≡ pos 0 = omega (arith, ints, at_x, is_x) in
    let gone_y : (pos a *ℤ d.y) ≡ pos 0 = omega (arith, ints, at_y, is_y) in
    let split = identity (times (number (pos a)) (crossing (term d) (term x))) (minus (times (times (number (pos a)) (number d.x)) (number x.y)) (times (times (number (pos a)) (number d.y)) (number x.x))) (omega arith) in
    let first = ap (λ z. z *ℤ x.y) gone_x ∙ identity (times none (number x.y)) none (omega arith) in
    let second = ap (λ z. z *ℤ x.x) gone_y ∙ identity (times none (number x.x)) none (omega arith) in
    no_factor (pos a) (side_of edge point) (omega (arith, ints, some)) right (omega (arith, ints, split, first, second))

rest-gone : (n a : ℕ) (z0 z1 z : ℤ) → z ≡ ((pos n *ℤ z0) +ℤ (pos a *ℤ (z1 -ℤ z0))) → z ≡ (pos n *ℤ z1) → ((pos n -ℤ pos a) *ℤ (z1 -ℤ z0)) ≡ pos 0
rest-gone n a z0 z1 z at is =
    let split = identity (times (minus (number (pos n)) (number (pos a))) (minus (number z1) (number z0))) (minus (times (number (pos n)) (number z1)) (plus (times (number (pos n)) (number z0)) (times (number (pos a)) (minus (number z1) (number z0))))) (omega arith) in
    omega (arith, ints, at, is, split)

not-end : (edge : Edge) (point from : RationalPoint) (a : ℕ) → IsAtShare edge from a → side_of edge point <ℤ pos 0 → a < from.n → (from.x ≡ (pos from.n *ℤ edge.x1)) → (from.y ≡ (pos from.n *ℤ edge.y1)) → ⊥
not-end edge point from a at right some is_x is_y =
    let x = ahead point (start_of edge) in
    let d = way edge in
    let k = pos from.n -ℤ pos a in
    let gone_x = rest-gone from.n a edge.x0 edge.x1 from.x at.x is_x in
    let gone_y = rest-gone from.n a edge.y0 edge.y1 from.y at.y is_y in
    let split = identity (times (number k) (crossing (term d) (term x))) (minus (times (times (number k) (number d.x)) (number x.y)) (times (times (number k) (number d.y)) (number x.x))) (omega arith) in
    let first = ap (λ z. z *ℤ x.y) gone_x ∙ identity (times none (number x.y)) none (omega arith) in
    let second = ap (λ z. z *ℤ x.x) gone_y ∙ identity (times none (number x.x)) none (omega arith) in
    no_factor k (side_of edge point) (omega (arith, ints, some)) right (omega (arith, ints, split, first, second))

-- the foot, as it is made: t of n q parts of the way
foot-vector : (edge : Edge) (point from : RationalPoint) (t q : ℕ) (c f : Point) → from.n ≡ point.n * q → IsAtShare edge from t → (pos 0 -ℤ crossed (ahead point (start_of edge)) c) ≡ pos t → (pos 0 -ℤ crossed (way edge) c) ≡ pos q → (pos 1 *ℤ crossed (apart point from) f) ≡ ((pos point.n *ℤ (pos 0 -ℤ side_of edge point)) *ℤ crossed c f)
foot-vector edge point from t q c f over at is_t is_q =
    let d = way edge in
    let x = ahead point (start_of edge) in
    let n = number (pos point.n) in
    let over_z : pos from.n ≡ pos point.n *ℤ pos q = ap pos over in
    one_times (crossed (apart point from) f)
    ∙ apart-at edge point from t f at
    ∙ ap (λ z. (z *ℤ crossed x f) -ℤ ((pos point.n *ℤ pos t) *ℤ crossed d f)) over_z
    ∙ ap (λ z. ((pos point.n *ℤ z) *ℤ crossed x f) -ℤ ((pos point.n *ℤ pos t) *ℤ crossed d f)) (sym is_q)
    ∙ ap (λ z. ((pos point.n *ℤ (pos 0 -ℤ crossed d c)) *ℤ crossed x f) -ℤ ((pos point.n *ℤ z) *ℤ crossed d f)) (sym is_t)
    ∙ identity
    (minus (times (times n (minus none (number (crossed d c)))) (number (crossed x f))) (times (times n (minus none (number (crossed x c)))) (number (crossed d f))))
    (times n (minus (times (minus none (number (crossed d c))) (number (crossed x f))) (times (minus none (number (crossed x c))) (number (crossed d f)))))
    (omega arith)
    ∙ ap (λ z. pos point.n *ℤ z) (by_foot d x c f)
    ∙ identity (times n (times (minus none (number (side_of edge point))) (number (crossed c f)))) (times (times n (minus none (number (side_of edge point)))) (number (crossed c f))) (omega arith)

foot-least : (n h w n' w' r q r' nq : ℤ) → nq ≡ (n *ℤ q) → pos 0 ≤ℤ n → pos 0 ≤ℤ w → (pos 1 *ℤ r) ≡ ((n *ℤ h) *ℤ w) → ((n' *ℤ h) *ℤ w') ≤ℤ (r' *ℤ q) → (r *ℤ (n' *ℤ w')) ≤ℤ (r' *ℤ (nq *ℤ w))
foot-least n h w n' w' r q r' nq over n_above w_above is most =
    let v = λ (z : ℤ). number z in
    let by = λ (s t : Term). times s t in
    let found = above-product (n *ℤ w) ((r' *ℤ q) -ℤ ((n' *ℤ h) *ℤ w')) (above-product n w n_above w_above) (omega (arith, ints, most)) in
    let same = identity
    (by (by (v n) (v w)) (minus (by (v r') (v q)) (by (by (v n') (v h)) (v w'))))
    (minus (by (v r') (by (by (v n) (v q)) (v w))) (by (by (by (v n) (v h)) (v w)) (by (v n') (v w'))))
    (omega arith) in
    let first = ap (λ z. z *ℤ (n' *ℤ w')) (sym (one_times r) ∙ is) in
    let second = ap (λ z. r' *ℤ (z *ℤ w)) over in
    omega (arith, ints, found, same, first, second)

foot-far : (n h w r q nq : ℤ) → nq ≡ (n *ℤ q) → (pos 1 *ℤ r) ≡ ((n *ℤ h) *ℤ w) → (r *ℤ q) ≡ (h *ℤ (nq *ℤ w))
foot-far n h w r q nq over is =
    let v = λ (z : ℤ). number z in
    let by = λ (s t : Term). times s t in
    ap (λ z. z *ℤ q) (sym (one_times r) ∙ is)
    ∙ identity (by (by (by (v n) (v h)) (v w)) (v q)) (by (v h) (by (by (v n) (v q)) (v w))) (omega arith)
    ∙ ap (λ z. h *ℤ (z *ℤ w)) (sym over)

-- where the foot lies between the ends
at-foot : (sides : List Edge) (pairs : List (Edge × Edge)) → IsShape sides pairs → (point : RationalPoint) (edge one corner : Edge) → IsFurthest pairs (way edge) one corner → side_of edge point <ℤ pos 0 → crossed (ahead point (start_of edge)) (start_of corner) <ℤ pos 0 → pos 0 <ℤ crossed (ahead point (end_of edge)) (start_of corner) → Nearest sides pairs point edge
at-foot sides pairs shape point edge one corner furthest right after before =
    let is_right = furthest-right sides pairs shape (way edge) one corner furthest in
    of (natural (pos 0 -ℤ crossed (ahead point (start_of edge)) (start_of corner)) (omega (arith, ints, after))) (natural (pos 0 -ℤ crossed (way edge) (start_of corner)) (omega (arith, ints, is_right)))
  where
    of : Natural (pos 0 -ℤ crossed (ahead point (start_of edge)) (start_of corner)) → Natural (pos 0 -ℤ crossed (way edge) (start_of corner)) → Nearest sides pairs point edge
    of t q =
        let d = way edge in
        let x = ahead point (start_of edge) in
        let c = start_of corner in
        let n = number (pos point.n) in
        let t_is = t.is in
        let q_is = q.is in
        let n_some = point.positive in
        let is_right = furthest-right sides pairs shape d one corner furthest in
        let q_some : 0 < q.k = omega (arith, ints, is_right, q_is) in
        let t_some : 0 < t.k = omega (arith, ints, after, t_is) in
        let at_end = ahead-end edge point c in
        let over : pos (point.n * q.k) ≡ (pos point.n *ℤ (pos 0 -ℤ crossed d c)) = ap (λ z. pos point.n *ℤ z) (sym q_is) in
        let turned = identity (times n (minus none (number (crossed d c)))) (minus none (times n (number (crossed d c)))) (omega arith) in
        let less : t.k < point.n * q.k = omega (arith, ints, before, at_end, over, turned, t_is) in
        let from : RationalPoint = record {
          n = point.n * q.k;
          x = (pos (point.n * q.k) *ℤ edge.x0) +ℤ (pos t.k *ℤ (edge.x1 -ℤ edge.x0));
          y = (pos (point.n * q.k) *ℤ edge.y0) +ℤ (pos t.k *ℤ (edge.y1 -ℤ edge.y0));
          positive = mul-pos {m = point.n} {n = q.k} n_some q_some;
        } in
        let at : IsAtShare edge from t.k = record {
          share = omega (arith, less);
          x = refl;
          y = refl;
        } in
        let to_corner = (shape.corner one corner furthest.pair).after in
        let some_side = shape.around corner to_corner in
        let is : (f : Point) → (pos 1 *ℤ crossed (apart point from) f) ≡ ((pos point.n *ℤ (pos 0 -ℤ side_of edge point)) *ℤ crossed c f) = λ f. foot-vector edge point from t.k q.k c f refl at t_is q_is in
        let far : (pos 1 *ℤ reach corner (apart point from)) ≡ ((pos point.n *ℤ (pos 0 -ℤ side_of edge point)) *ℤ wide corner) = is (way corner) ∙ ap (λ z. (pos point.n *ℤ (pos 0 -ℤ side_of edge point)) *ℤ z) (start-wide corner) in
        record {
          from = from;
          of = (t.k, at);
          side = corner;
          is_top = top-scaled sides (apart point from) c corner (pos 1) (pos point.n *ℤ (pos 0 -ℤ side_of edge point)) (omega (arith, ints)) (above-product (pos point.n) (pos 0 -ℤ side_of edge point) (omega (arith, ints)) (omega (arith, ints, right))) is (corner-top sides pairs shape corner to_corner);
          least = λ other other_side of_edge is_other.
              foot-least (pos point.n) (pos 0 -ℤ side_of edge point) (wide corner) (pos other.n) (wide other_side) (reach corner (apart point from)) (pos 0 -ℤ crossed d c) (reach other_side (apart point other)) (pos from.n) over (omega (arith, ints)) (omega (arith, ints, some_side)) far
              (line-most sides pairs shape edge point one corner furthest other other_side of_edge is_other);
          kind = inr (inr (
            not_an_end from t.k at t_some less,
            λ _. record {
              one = one;
              other = corner;
              furthest = furthest;
              after = after;
              before = before;
              far = foot-far (pos point.n) (pos 0 -ℤ side_of edge point) (wide corner) (reach corner (apart point from)) (pos 0 -ℤ crossed d c) (pos from.n) over far;
            },
          ));
        }
      where
        not_an_end : (from : RationalPoint) (a : ℕ) → IsAtShare edge from a → 0 < a → a < from.n → ¬ (IsEnd edge from)
        not_an_end from a at some less (inl whole_start) = not-start edge point from a at right some whole_start.x_is whole_start.y_is
        not_an_end from a at some less (inr whole_end) = not-end edge point from a at right less whole_end.x_is whole_end.y_is

-- ---- the nearest point of each edge

-- No line that the point is on goes along an edge, or from an end of one along a corner.
pub record IsOffLines (sides : List Edge) (point : RationalPoint) (edge : Edge) : Type 0 where
  pub off : side_of edge point ≢ pos 0
  pub start : (side : Edge) → Contains sides side → crossed (ahead point (start_of edge)) (start_of side) ≢ pos 0
  pub end : (side : Edge) → Contains sides side → crossed (ahead point (end_of edge)) (start_of side) ≢ pos 0

-- of an edge that the point is right of
nearest-right : (sides : List Edge) (pairs : List (Edge × Edge)) → IsShape sides pairs → (point : RationalPoint) (edge : Edge) → IsOffLines sides point edge → side_of edge point <ℤ pos 0 → Nearest sides pairs point edge
nearest-right sides pairs shape point edge off right =
    let (one, corner, furthest) = has-furthest sides pairs shape (way edge) (ahead point (start_of edge)) off.off in
    let of = (shape.corner one corner furthest.pair).after in
    let not_start = off.start corner of in
    let not_end = off.end corner of in
    by_lt_z (crossed (ahead point (start_of edge)) (start_of corner)) (pos 0)
    (λ after. by_lt_z (pos 0) (crossed (ahead point (end_of edge)) (start_of corner))
    (λ before. at-foot sides pairs shape point edge one corner furthest right after before)
    (λ upto. at-end sides pairs shape point edge one corner furthest right (below (crossed (ahead point (end_of edge)) (start_of corner)) not_end upto)))
    (λ from. at-start sides pairs shape point edge one corner furthest right (above (crossed (ahead point (start_of edge)) (start_of corner)) not_start from))
  where
    below : (z : ℤ) → z ≢ pos 0 → z ≤ℤ pos 0 → z <ℤ pos 0
    below z isnt upto = by_lt_z z (pos 0) (λ less. less) (λ from. absurd (isnt (omega (arith, ints, upto, from))))

    above : (z : ℤ) → z ≢ pos 0 → pos 0 ≤ℤ z → pos 0 <ℤ z
    above z isnt from = by_lt_z (pos 0) z (λ less. less) (λ upto. absurd (isnt (omega (arith, ints, upto, from))))

pub reversed-side : (edge : Edge) (point : RationalPoint) → side_of (reversed edge) point ≡ (pos 0 -ℤ side_of edge point)
reversed-side edge point =
    let n = number (pos point.n) in
    let cut = λ (a b : Term). minus a b in
    identity
    (minus (times (cut (number edge.x0) (number edge.x1)) (cut (number point.y) (times n (number edge.y1)))) (times (cut (number edge.y0) (number edge.y1)) (cut (number point.x) (times n (number edge.x1)))))
    (minus none (minus (times (cut (number edge.x1) (number edge.x0)) (cut (number point.y) (times n (number edge.y0)))) (times (cut (number edge.y1) (number edge.y0)) (cut (number point.x) (times n (number edge.x0))))))
    (omega arith)

reversed-off : (sides : List Edge) (point : RationalPoint) (edge : Edge) → IsOffLines sides point edge → IsOffLines sides point (reversed edge)
reversed-off sides point edge off = record {
  off = λ none_is. off.off (let turned = reversed-side edge point in omega (arith, ints, none_is, turned));
  start = off.end;
  end = off.start;
}

reversed-kind : (pairs : List (Edge × Edge)) (edge : Edge) (point from : RationalPoint) (side : Edge) → pos 0 ≤ℤ side_of edge point → IsKind pairs (reversed edge) point from side → IsKind pairs edge point from side
reversed-kind pairs edge point from side left (inl at_end) = inr (inl at_end)
reversed-kind pairs edge point from side left (inr (inl at_start)) = inl at_start
reversed-kind pairs edge point from side left (inr (inr (inside, foot))) = inr (inr (not_end, λ right. absurd (omega (arith, ints, left, right))))
  where
    not_end : ¬ (IsEnd edge from)
    not_end (inl start) = inside (inr start)
    not_end (inr end) = inside (inl end)

nearest-reversed : (sides : List Edge) (pairs : List (Edge × Edge)) (point : RationalPoint) (edge : Edge) → pos 0 ≤ℤ side_of edge point → Nearest sides pairs point (reversed edge) → Nearest sides pairs point edge
nearest-reversed sides pairs point edge left near = record {
  from = near.from;
  of = IsOf-reversed (reversed edge) near.from near.of;
  side = near.side;
  is_top = near.is_top;
  least = λ other other_side of is. near.least other other_side (IsOf-reversed edge other of) is;
  kind = reversed-kind pairs edge point near.from near.side left near.kind;
}

-- Each edge has a nearest point.
pub nearest : (sides : List Edge) (pairs : List (Edge × Edge)) → IsShape sides pairs → (point : RationalPoint) (edge : Edge) → IsOffLines sides point edge → Nearest sides pairs point edge
nearest sides pairs shape point edge off = by_lt_z (side_of edge point) (pos 0)
    (λ right. nearest-right sides pairs shape point edge off right)
    (λ left. nearest-reversed sides pairs point edge left
    (nearest-right sides pairs shape point (reversed edge) (reversed-off sides point edge off)
    (by_lt_z (side_of (reversed edge) point) (pos 0) (λ right. right)
    (λ from.
    let turned = reversed-side edge point in
    absurd (off.off (omega (arith, ints, left, from, turned)))))))

-- ---- the nearest point of all edges

-- A point of one of the edges, and no point of any is nearer.
pub record NearestOfAll (sides : List Edge) (pairs : List (Edge × Edge)) (point : RationalPoint) (edges : List Edge) : Type 0 where
  pub edge : Edge
  pub among : Contains edges edge
  pub near : Nearest sides pairs point edge
  pub least : (one : Edge) (other : RationalPoint) (other_side : Edge) → Contains edges one → IsOf one other → IsTop sides (apart point other) other_side → IsAsNear point near.from near.side other other_side

-- Of edges there is a nearest point.
pub nearest-of_all : (sides : List Edge) (pairs : List (Edge × Edge)) → IsShape sides pairs → (point : RationalPoint) (edges : List Edge) → ((edge : Edge) → Contains edges edge → IsOffLines sides point edge) → (some : Edge) → Contains edges some → NearestOfAll sides pairs point edges
nearest-of_all sides pairs shape point edges off some among =
    from (has-least Edge (Nearest sides pairs point) measure edges (λ edge of. nearest sides pairs shape point edge (off edge of)) some among)
  where
    under : (from : RationalPoint) (side : Edge) → Contains sides side → pos 0 <ℤ (pos from.n *ℤ wide side)
    under from side of = let some = from.positive in positive-product (pos from.n) (wide side) (omega (arith, ints, some)) (shape.around side of)

    measure : Measure Edge (Nearest sides pairs point)
    measure = record {
      over = λ edge near. reach near.side (apart point near.from);
      under = λ edge near. pos near.from.n *ℤ wide near.side;
      positive = λ edge near. under near.from near.side near.is_top.of;
    }

    from : HasLeast Edge (Nearest sides pairs point) measure edges → NearestOfAll sides pairs point edges
    from found = record {
      edge = found.item;
      among = found.among;
      near = found.evidence;
      least = λ one other other_side of_edges of is.
          let (near, most) = found.least one of_edges in
          let first = found.evidence in
          fractions-most (reach first.side (apart point first.from)) (pos first.from.n *ℤ wide first.side) (reach near.side (apart point near.from)) (pos near.from.n *ℤ wide near.side) (reach other_side (apart point other)) (pos other.n *ℤ wide other_side) (under first.from first.side first.is_top.of) (under near.from near.side near.is_top.of) (under other other_side is.of) most (near.least other other_side of is);
    }
