-- A point of a straight way over a point between lies on its one part or on its other.
use Rattle.std.proofs.Common.{◌≡◌, ◌≢◌, inl, inr, ℕ, ◌+◌, ◌-◌, ◌<◌, ℤ, pos, ◌+ℤ◌, ◌-ℤ◌, ◌*ℤ◌, ◌<ℤ◌, ◌≤ℤ◌, ◌⊎◌, ap, ap₂, sym, subst, ◌∙◌, arith}
use Rattle.std.proofs.lemmas.Int.{by_lt_z, ints}
use Rattle.plane.specs.declared.point.Point.{Point}
use Rattle.plane.specs.Ends.{edge_between}
use Rattle.plane.specs.Meet.Crosses.{cross}
use Rattle.plane.specs.Meet.Edges.{IsAtShare, IsOf, RationalPoint}
use Rattle.plane.proofs.MeetLemmas.Identities.{Term, identity, minus, number, plus, scaled, times}
use Rattle.noding.proofs.SnapLemmas.Numbers.{n_of}
use Rattle.noding.proofs.SnapLemmas.Reversed.{IsOf-reversed, reverse_along}
use Rattle.overlay.specs.Contours.Outlines.{IsStraight}
use Rattle.overlay.specs.Contours.Turns.{dot}
use Rattle.overlay.proofs.ContourLemmas.Straight.{straight-back, straight-nowhere, ways, whole-first}
use Rattle.overlay.proofs.ContourLemmas.Turns.{across, along}
use Rattle.overlay.proofs.ContourLemmas.Ways.{GoesAlong, GoesAlong-sym, GoesAlong-trans}
use Rattle.overlay.proofs.GroupingLemmas.Corners.{lies-before}
use Rattle.overlay.proofs.UncrossedLemmas.Finer.{HasFinely, lies-finely, times-same}

-- the point over n times the plane
abbrev scaled_point : ℕ → Point → Point
scaled_point n point = record { x = pos n *ℤ point.x; y = pos n *ℤ point.y }

-- points with the same coordinates are one
same-point : (p q : Point) → p.x ≡ q.x → p.y ≡ q.y → p ≡ q
same-point p q level even = ap₂ (λ (x y : ℤ). made x y) level even
  where
    made : ℤ → ℤ → Point
    made x y = record { x = x; y = y }

-- over n times the plane two points are two
scaled-apart : (n : ℕ) → 0 < n → (p q : Point) → p ≢ q → scaled_point n p ≢ scaled_point n q
scaled-apart n some p q apart same =
    apart (same-point p q (times-same n p.x q.x some (ap (λ (r : Point). r.x) same)) (times-same n p.y q.y some (ap (λ (r : Point). r.y) same)))

-- a straight way goes somewhere up to the point between
pub first-apart : (a b c : Point) → IsStraight a b c → a ≢ b
first-apart a b c is same = straight-nowhere c b (subst (λ (p : Point). IsStraight c b p) same (straight-back a b c is))

-- ---- how a point at a share of the whole way lies to the first part

-- the way from one number to another, as an expression
abbrev way : ℤ → ℤ → Term
way from to = minus (number to) (number from)

-- the way to it, from the start
from_start : (n s : ℕ) (p from to : ℤ) → p ≡ ((pos n *ℤ from) +ℤ (pos s *ℤ (to -ℤ from))) → (p -ℤ (pos n *ℤ from)) ≡ (pos s *ℤ (to -ℤ from))
from_start n s p from to is =
    ap (λ (z : ℤ). z -ℤ (pos n *ℤ from)) is
    ∙ identity (minus (plus (times (n_of n) (number from)) (times (n_of s) (way from to))) (times (n_of n) (number from))) (times (n_of s) (way from to)) (omega arith)

-- multiples of two ways that are parallel are parallel
cross_share : (n s : ℕ) (ux uy wx wy a b c d : ℤ) → a ≡ (pos n *ℤ ux) → b ≡ (pos n *ℤ uy) → c ≡ (pos s *ℤ wx) → d ≡ (pos s *ℤ wy) → cross ux uy wx wy ≡ pos 0 → cross a b c d ≡ pos 0
cross_share n s ux uy wx wy a b c d first second third fourth none =
    ap (λ (z : ℤ). cross z b c d) first ∙ ap (λ (z : ℤ). cross (pos n *ℤ ux) z c d) second ∙ ap (λ (z : ℤ). cross (pos n *ℤ ux) (pos n *ℤ uy) z d) third
    ∙ ap (λ (z : ℤ). cross (pos n *ℤ ux) (pos n *ℤ uy) (pos s *ℤ wx) z) fourth
    ∙ identity (minus (times (times (n_of n) (number ux)) (times (n_of s) (number wy))) (times (times (n_of n) (number uy)) (times (n_of s) (number wx)))) (times (times (n_of n) (n_of s)) (across ux uy wx wy)) (omega arith)
    ∙ ap (λ (z : ℤ). (pos n *ℤ pos s) *ℤ z) none ∙ identity (times (times (n_of n) (n_of s)) (n_of 0)) (n_of 0) (omega arith)

-- and their scalar product is that multiple
dot_share : (n s : ℕ) (ux uy wx wy a b c d : ℤ) → a ≡ (pos n *ℤ ux) → b ≡ (pos n *ℤ uy) → c ≡ (pos s *ℤ wx) → d ≡ (pos s *ℤ wy) → dot a b c d ≡ (pos n *ℤ (pos s *ℤ dot ux uy wx wy))
dot_share n s ux uy wx wy a b c d first second third fourth =
    ap (λ (z : ℤ). dot z b c d) first ∙ ap (λ (z : ℤ). dot (pos n *ℤ ux) z c d) second ∙ ap (λ (z : ℤ). dot (pos n *ℤ ux) (pos n *ℤ uy) z d) third
    ∙ ap (λ (z : ℤ). dot (pos n *ℤ ux) (pos n *ℤ uy) (pos s *ℤ wx) z) fourth
    ∙ identity (plus (times (times (n_of n) (number ux)) (times (n_of s) (number wx))) (times (times (n_of n) (number uy)) (times (n_of s) (number wy)))) (times (n_of n) (times (n_of s) (along ux uy wx wy))) (omega arith)

-- the way between multiples
scaled_way : (n : ℕ) (from to : ℤ) → ((pos n *ℤ to) -ℤ (pos n *ℤ from)) ≡ (pos n *ℤ (to -ℤ from))
scaled_way n from to = identity (minus (times (n_of n) (number to)) (times (n_of n) (number from))) (times (n_of n) (way from to)) (omega arith)

-- multiples of a number that isn't negative aren't
above_zero : (k : ℕ) (z : ℤ) → pos 0 ≤ℤ z → pos 0 ≤ℤ (pos k *ℤ z)
above_zero k z above =
    let times_none = identity (times (n_of k) (n_of 0)) (n_of 0) (omega arith) in
    let upto = scaled k (pos 0) z above in
    omega (arith, ints, times_none, upto)

-- a number above 0 isn't negative
weak : (z : ℤ) → pos 0 <ℤ z → pos 0 ≤ℤ z
weak z some = omega (arith, ints, some)

-- A point at a share of the way from a to c is of the edge from a to b, where that goes along the whole way and is at
-- least as long.
first-part : (a b c : Point) (point : RationalPoint) (s : ℕ) → a ≢ b → GoesAlong (b.x -ℤ a.x) (b.y -ℤ a.y) (c.x -ℤ a.x) (c.y -ℤ a.y) → IsAtShare (edge_between a c) point s
    → (pos s *ℤ dot (b.x -ℤ a.x) (b.y -ℤ a.y) (c.x -ℤ a.x) (c.y -ℤ a.y)) ≤ℤ (pos point.n *ℤ dot (b.x -ℤ a.x) (b.y -ℤ a.y) (b.x -ℤ a.x) (b.y -ℤ a.y))
    → HasFinely (edge_between a b) point
first-part a b c point s apart goes at short =
    let n = point.n in
    let ux = b.x -ℤ a.x in
    let uy = b.y -ℤ a.y in
    let wx = c.x -ℤ a.x in
    let wy = c.y -ℤ a.y in
    let one = scaled_way n a.x b.x in
    let two = scaled_way n a.y b.y in
    let three = from_start n s point.x a.x c.x at.x in
    let four = from_start n s point.y a.y c.y at.y in
    let product = dot_share n s ux uy wx wy ((pos n *ℤ b.x) -ℤ (pos n *ℤ a.x)) ((pos n *ℤ b.y) -ℤ (pos n *ℤ a.y)) (point.x -ℤ (pos n *ℤ a.x)) (point.y -ℤ (pos n *ℤ a.y)) one two three four in
    let square = dot_share n n ux uy ux uy ((pos n *ℤ b.x) -ℤ (pos n *ℤ a.x)) ((pos n *ℤ b.y) -ℤ (pos n *ℤ a.y)) ((pos n *ℤ b.x) -ℤ (pos n *ℤ a.x)) ((pos n *ℤ b.y) -ℤ (pos n *ℤ a.y)) one two one two in
    let above = above_zero n (pos s *ℤ dot ux uy wx wy) (above_zero s (dot ux uy wx wy) (weak (dot ux uy wx wy) goes.1)) in
    let upto = scaled n (pos s *ℤ dot ux uy wx wy) (pos n *ℤ dot ux uy ux uy) short in
    lies-finely (edge_between a b) point
    (lies-before (scaled_point n a) (scaled_point n b) (record { x = point.x; y = point.y }) (scaled-apart n point.positive a b apart)
    (cross_share n s ux uy wx wy ((pos n *ℤ b.x) -ℤ (pos n *ℤ a.x)) ((pos n *ℤ b.y) -ℤ (pos n *ℤ a.y)) (point.x -ℤ (pos n *ℤ a.x)) (point.y -ℤ (pos n *ℤ a.y)) one two three four goes.0)
    (subst (λ (z : ℤ). pos 0 ≤ℤ z) (sym product) above)
    (subst (λ (z : ℤ). z ≤ℤ dot ((pos n *ℤ b.x) -ℤ (pos n *ℤ a.x)) ((pos n *ℤ b.y) -ℤ (pos n *ℤ a.y)) ((pos n *ℤ b.x) -ℤ (pos n *ℤ a.x)) ((pos n *ℤ b.y) -ℤ (pos n *ℤ a.y))) (sym product)
    (subst (λ (z : ℤ). (pos n *ℤ (pos s *ℤ dot ux uy wx wy)) ≤ℤ z) (sym square) upto)))

-- ---- which part it lies on

-- from the other end the rest of the way is at most the second part, where from the start it is more than the first one
rest-short : (n s t : ℕ) (ux uy vx vy : ℤ) → t + s ≡ n → GoesAlong ux uy vx vy → (pos n *ℤ dot ux uy ux uy) <ℤ (pos s *ℤ dot ux uy (ux +ℤ vx) (uy +ℤ vy))
    → (pos t *ℤ dot vx vy (ux +ℤ vx) (uy +ℤ vy)) ≤ℤ (pos n *ℤ dot vx vy vx vy)
rest-short n s t ux uy vx vy sum goes long =
    let zx : ℤ = (pos s *ℤ (ux +ℤ vx)) -ℤ (pos n *ℤ ux) in
    let zy : ℤ = (pos s *ℤ (uy +ℤ vy)) -ℤ (pos n *ℤ uy) in
    let ahead_way : ℤ → ℤ → Term = λ u v. minus (times (n_of s) (plus (number u) (number v))) (times (n_of n) (number u)) in
    let turned : cross ux uy zx zy ≡ (pos s *ℤ cross ux uy vx vy) =
    identity (minus (times (number ux) (ahead_way uy vy)) (times (number uy) (ahead_way ux vx))) (times (n_of s) (across ux uy vx vy)) (omega arith) in
    let none : cross ux uy zx zy ≡ pos 0 = turned ∙ ap (λ (z : ℤ). pos s *ℤ z) goes.0 ∙ identity (times (n_of s) (n_of 0)) (n_of 0) (omega arith) in
    let ahead : dot ux uy zx zy ≡ ((pos s *ℤ dot ux uy (ux +ℤ vx) (uy +ℤ vy)) -ℤ (pos n *ℤ dot ux uy ux uy)) =
    identity (plus (times (number ux) (ahead_way ux vx)) (times (number uy) (ahead_way uy vy)))
    (minus (times (n_of s) (plus (times (number ux) (plus (number ux) (number vx))) (times (number uy) (plus (number uy) (number vy))))) (times (n_of n) (along ux uy ux uy))) (omega arith) in
    let on : GoesAlong ux uy zx zy = (none, omega (arith, ints, ahead, long)) in
    let found = (GoesAlong-trans vx vy ux uy (GoesAlong-sym ux uy vx vy goes) zx zy on).1 in
    let behind : dot vx vy ((pos s *ℤ (ux +ℤ vx)) -ℤ (pos (t + s) *ℤ ux)) ((pos s *ℤ (uy +ℤ vy)) -ℤ (pos (t + s) *ℤ uy)) ≡ ((pos (t + s) *ℤ dot vx vy vx vy) -ℤ (pos t *ℤ dot vx vy (ux +ℤ vx) (uy +ℤ vy))) =
    let sum_way : ℤ → ℤ → Term = λ u v. minus (times (n_of s) (plus (number u) (number v))) (times (n_of (t + s)) (number u)) in
    identity (plus (times (number vx) (sum_way ux vx)) (times (number vy) (sum_way uy vy)))
    (minus (times (n_of (t + s)) (along vx vy vx vy)) (times (n_of t) (plus (times (number vx) (plus (number ux) (number vx))) (times (number vy) (plus (number uy) (number vy)))))) (omega arith) in
    let there : dot vx vy zx zy ≡ ((pos n *ℤ dot vx vy vx vy) -ℤ (pos t *ℤ dot vx vy (ux +ℤ vx) (uy +ℤ vy))) =
    subst (λ (m : ℕ). dot vx vy ((pos s *ℤ (ux +ℤ vx)) -ℤ (pos m *ℤ ux)) ((pos s *ℤ (uy +ℤ vy)) -ℤ (pos m *ℤ uy)) ≡ ((pos m *ℤ dot vx vy vx vy) -ℤ (pos t *ℤ dot vx vy (ux +ℤ vx) (uy +ℤ vy)))) sum behind in
    omega (arith, ints, found, there)

-- one way after the other
joined_ways : (a b c : ℤ) → ((b -ℤ a) +ℤ (c -ℤ b)) ≡ (c -ℤ a)
joined_ways a b c = omega (arith, ints)

-- two ways back
dot_back : (ax ay bx by cx cy dx dy : ℤ) → dot (ax -ℤ bx) (ay -ℤ by) (cx -ℤ dx) (cy -ℤ dy) ≡ dot (bx -ℤ ax) (by -ℤ ay) (dx -ℤ cx) (dy -ℤ cy)
dot_back ax ay bx by cx cy dx dy =
    identity (plus (times (way bx ax) (way dx cx)) (times (way by ay) (way dy cy))) (plus (times (way ax bx) (way cx dx)) (times (way ay by) (way cy dy))) (omega arith)

-- A point of the straight way is of the first part or of the second.
pub split-straight : (a b c : Point) → IsStraight a b c → (point : RationalPoint) → IsOf (edge_between a c) point → HasFinely (edge_between a b) point ⊎ HasFinely (edge_between b c) point
split-straight a b c is point (s, at) =
    let n = point.n in
    let ux = b.x -ℤ a.x in
    let uy = b.y -ℤ a.y in
    let wx = c.x -ℤ a.x in
    let wy = c.y -ℤ a.y in
    let back = straight-back a b c is in
    by_lt_z (pos n *ℤ dot ux uy ux uy) (pos s *ℤ dot ux uy wx wy)
    (λ long. inr (turn_round (first-part c b a point (there long).0 (first-apart c b a back) (GoesAlong-sym (a.x -ℤ c.x) (a.y -ℤ c.y) (b.x -ℤ c.x) (b.y -ℤ c.y) (whole-first c b a back)) (there long).1 (there long).2)))
    (λ short. inl (first-part a b c point s (first-apart a b c is) (GoesAlong-sym wx wy ux uy (whole-first a b c is)) at short))
  where
    turn_round : HasFinely (edge_between c b) point → HasFinely (edge_between b c) point
    turn_round has = record { k = has.k; finer = has.finer; is = has.is; of = IsOf-reversed (edge_between c b) has.finer has.of }

    there : (pos point.n *ℤ dot (b.x -ℤ a.x) (b.y -ℤ a.y) (b.x -ℤ a.x) (b.y -ℤ a.y)) <ℤ (pos s *ℤ dot (b.x -ℤ a.x) (b.y -ℤ a.y) (c.x -ℤ a.x) (c.y -ℤ a.y))
        → (t : ℕ) × IsAtShare (edge_between c a) point t × ((pos t *ℤ dot (b.x -ℤ c.x) (b.y -ℤ c.y) (a.x -ℤ c.x) (a.y -ℤ c.y)) ≤ℤ (pos point.n *ℤ dot (b.x -ℤ c.x) (b.y -ℤ c.y) (b.x -ℤ c.x) (b.y -ℤ c.y)))
    there long =
        let share = at.share in
        let sum : (point.n - s) + s ≡ point.n = omega (arith, share) in
        let whole_parts : s + (point.n - s) ≡ point.n = omega (arith, share) in
        let ux = b.x -ℤ a.x in
        let uy = b.y -ℤ a.y in
        let vx = c.x -ℤ b.x in
        let vy = c.y -ℤ b.y in
        let whole_x : (ux +ℤ vx) ≡ (c.x -ℤ a.x) = joined_ways a.x b.x c.x in
        let whole_y : (uy +ℤ vy) ≡ (c.y -ℤ a.y) = joined_ways a.y b.y c.y in
        let far : (pos point.n *ℤ dot ux uy ux uy) <ℤ (pos s *ℤ dot ux uy (ux +ℤ vx) (uy +ℤ vy)) =
        subst (λ (z : ℤ). (pos point.n *ℤ dot ux uy ux uy) <ℤ (pos s *ℤ z)) (sym (ap₂ (λ (x y : ℤ). dot ux uy x y) whole_x whole_y)) long in
        let near = rest-short point.n s (point.n - s) ux uy vx vy sum (ways a b c is) far in
        let one = dot_back b.x b.y c.x c.y a.x a.y c.x c.y in
        let two = dot_back b.x b.y c.x c.y b.x b.y c.x c.y in (
          point.n - s,
          record {
            share = omega (arith, share);
            x = reverse_along point.n s (point.n - s) point.x a.x c.x whole_parts at.x;
            y = reverse_along point.n s (point.n - s) point.y a.y c.y whole_parts at.y;
          },
          subst (λ (z : ℤ). (pos (point.n - s) *ℤ z) ≤ℤ (pos point.n *ℤ dot (b.x -ℤ c.x) (b.y -ℤ c.y) (b.x -ℤ c.x) (b.y -ℤ c.y))) (ap₂ (λ (x y : ℤ). dot vx vy x y) whole_x whole_y ∙ sym one)
              (subst (λ (z : ℤ). (pos (point.n - s) *ℤ dot vx vy (ux +ℤ vx) (uy +ℤ vy)) ≤ℤ (pos point.n *ℤ z)) (sym two) near),
        )
