-- Edges that bound a region: what they wind on each side of an edge, near a point inside of it.
use Rattle.std.proofs.Common.{◌≡◌, ◌≢◌, ◌⊎◌, inl, inr, ℕ, zero, suc, ◌+◌, ◌-◌, ◌*◌, ◌<◌, ◌≤◌, ℤ, pos, ◌+ℤ◌, ◌-ℤ◌, ◌*ℤ◌, ◌<ℤ◌, ◌≤ℤ◌, List, [], ◌∷◌, refl, ap, ap₂, sym, subst, ◌∙◌, arith}
use Rattle.std.specs.List.{All, Contains}
use Rattle.std.proofs.Math.Nat.{mul-pos}
use Rattle.std.proofs.lemmas.Int.{by_lt_z, ints}
use Rattle.std.proofs.lemmas.List.Elements.{All-contains}
use Rattle.plane.specs.declared.edge.Edge.{Edge}
use Rattle.plane.specs.declared.point.Point.{Point}
use Rattle.plane.specs.Ends.{end_of, reversed, start_of}
use Rattle.plane.specs.Meet.Crosses.{cross}
use Rattle.plane.specs.Meet.Edges.{IsAtShare, IsOf, Meet, RationalPoint}
use Rattle.plane.specs.Meet.Kinds.{IsAt, IsEnd}
use Rattle.plane.proofs.MeetLemmas.Identities.{Term, identity, minus, number, plus, scaled, times}
use Rattle.noding.specs.Meeting.{MeetAtEnds}
use Rattle.noding.specs.Windings.{IsClosed, winding}
use Rattle.noding.proofs.SnapLemmas.Local.{IsFiner, IsOf-finer}
use Rattle.noding.proofs.SnapLemmas.Reversed.{IsOf-reversed}
use Rattle.noding.proofs.SnapLemmas.Numbers.{n_of, product_positive}
use Rattle.overlay.specs.Fill.Filled.{AreDistinct, AreNoded, HaveSameEnds}
use Rattle.overlay.proofs.KeptLemmas.First.{total-one}
use Rattle.overlay.proofs.UncrossedLemmas.Finer.{HasFinely, finer-some, scaled_edge, times-same}
use Rattle.offset.proofs.CoverLemmas.Sides.{IsOnWay}
use Rattle.offset.proofs.CoverLemmas.Vectors.{crossed, way}
use Rattle.offset.proofs.SideLemmas.Aside.{IsAside, IsClear, clear-from, clear-misses, enough, has-or_aside, near, on-near}
use Rattle.offset.proofs.SideLemmas.Crossing.{CrossesLeft, CrossesRight, jump}
use Rattle.offset.proofs.SideLemmas.Jumps.{jumps}
use Rattle.offset.proofs.SideLemmas.Meeting.{leftness}
use Rattle.offset.specs.Shape.{opposite}
use Rattle.offset.proofs.SideLemmas.Ways.{met, way_between, winding-between}

-- Closed edges that meet only at common ends, no two of them with the same ends and none a point, which wind around all points
-- outside of what they bound equally often, and around those inside once more.
pub record BoundOnce (edges : List Edge) : Type 0 where
  pub closed : IsClosed edges
  pub noded : AreNoded edges
  pub distinct : AreDistinct edges
  pub two_ends : All (λ edge. start_of edge ≢ end_of edge) edges
  -- how often they wind around the points outside
  pub outer : ℤ
  pub once : (point : RationalPoint) → (winding edges point ≡ outer) ⊎ (winding edges point ≡ (outer +ℤ pos 1))

-- ---- ends

end_finer : (k : ℕ) (point finer : RationalPoint) (x y : ℤ) → 0 < k → IsFiner k point finer → IsAt finer x y → IsAt point x y
end_finer k point finer x y some is at = record { x_is = on point.x finer.x x is.x at.x_is; y_is = on point.y finer.y y is.y at.y_is }
  where
    on : (p q z : ℤ) → q ≡ (pos k *ℤ p) → q ≡ (pos finer.n *ℤ z) → p ≡ (pos point.n *ℤ z)
    on p q z first second =
        times-same k p (pos point.n *ℤ z) some
        (sym first ∙ second ∙ ap (λ (n : ℕ). pos n *ℤ z) is.n ∙ identity (times (n_of (k * point.n)) (number z)) (times (n_of k) (times (n_of point.n) (number z))) (omega arith))

-- where a finer point is an end so is the point
pub is_end-finer : (edge : Edge) (k : ℕ) (point finer : RationalPoint) → IsFiner k point finer → IsEnd edge finer → IsEnd edge point
is_end-finer edge k point finer is (inl at) = inl (end_finer k point finer edge.x0 edge.y0 (finer-some k point finer is) is at)
is_end-finer edge k point finer is (inr at) = inr (end_finer k point finer edge.x1 edge.y1 (finer-some k point finer is) is at)

-- a point of an edge that is no end of it lies strictly between
pub inner-start : (edge : Edge) (point : RationalPoint) (a : ℕ) → IsAtShare edge point a → ¬ (IsEnd edge point) → 0 < a
inner-start edge point zero at inner = absurd (inner (inl (record { x_is = at.x ∙ none edge.x0 (edge.x1 -ℤ edge.x0); y_is = at.y ∙ none edge.y0 (edge.y1 -ℤ edge.y0) })))
  where
    none : (c d : ℤ) → ((pos point.n *ℤ c) +ℤ (pos 0 *ℤ d)) ≡ (pos point.n *ℤ c)
    none c d = identity (plus (times (n_of point.n) (number c)) (times (n_of 0) (number d))) (times (n_of point.n) (number c)) (omega arith)
inner-start edge point (suc a) at inner = omega arith

pub inner-end : (edge : Edge) (point : RationalPoint) (a : ℕ) → IsAtShare edge point a → ¬ (IsEnd edge point) → a < point.n
inner-end edge point a at inner = by (point.n - a) refl
  where
    all : (m : ℕ) (c d : ℤ) → ((pos m *ℤ c) +ℤ (pos m *ℤ (d -ℤ c))) ≡ (pos m *ℤ d)
    all m c d = identity (plus (times (n_of m) (number c)) (times (n_of m) (minus (number d) (number c)))) (times (n_of m) (number d)) (omega arith)

    by : (rest : ℕ) → point.n - a ≡ rest → a < point.n
    by zero is =
        let upto = at.share in
        let same : a ≡ point.n = omega (arith, is, upto) in
        absurd (inner (inr (record {
          x_is = at.x ∙ ap (λ (m : ℕ). (pos point.n *ℤ edge.x0) +ℤ (pos m *ℤ (edge.x1 -ℤ edge.x0))) same ∙ all point.n edge.x0 edge.x1;
          y_is = at.y ∙ ap (λ (m : ℕ). (pos point.n *ℤ edge.y0) +ℤ (pos m *ℤ (edge.y1 -ℤ edge.y0))) same ∙ all point.n edge.y0 edge.y1;
        })))
    by (suc rest) is = omega (arith, is)

-- ---- the way across an edge

-- cross products of vectors that are multiples, or sums
abbrev cross_term : Term → Term → Term → Term → Term
cross_term x y other_x other_y = minus (times x other_y) (times y other_x)

-- of a vector, and of it with a multiple of the other one
turn-of : (q k : ℕ) (dx dy vx vy : ℤ) → cross (pos (q * q) *ℤ dx) (pos (q * q) *ℤ dy) (pos q *ℤ ((pos k *ℤ dx) +ℤ vx)) (pos q *ℤ ((pos k *ℤ dy) +ℤ vy)) ≡ (pos (q * (q * q)) *ℤ cross dx dy vx vy)
turn-of q k dx dy vx vy =
    let sum : ℤ → ℤ → Term = λ d v. times (n_of q) (plus (times (n_of k) (number d)) (number v)) in
    identity (cross_term (times (n_of (q * q)) (number dx)) (times (n_of (q * q)) (number dy)) (sum dx vx) (sum dy vy)) (times (n_of (q * (q * q))) (cross_term (number dx) (number dy) (number vx) (number vy))) (omega arith)

turn-back : (q k : ℕ) (dx dy vx vy : ℤ) → cross (pos (q * q) *ℤ dx) (pos (q * q) *ℤ dy) (pos q *ℤ ((pos k *ℤ dx) +ℤ (pos 0 -ℤ vx))) (pos q *ℤ ((pos k *ℤ dy) +ℤ (pos 0 -ℤ vy))) ≡ (pos 0 -ℤ (pos (q * (q * q)) *ℤ cross dx dy vx vy))
turn-back q k dx dy vx vy =
    let sum : ℤ → ℤ → Term = λ d v. times (n_of q) (plus (times (n_of k) (number d)) (minus (n_of 0) (number v))) in
    identity (cross_term (times (n_of (q * q)) (number dx)) (times (n_of (q * q)) (number dy)) (sum dx vx) (sum dy vy)) (minus (n_of 0) (times (n_of (q * (q * q))) (cross_term (number dx) (number dy) (number vx) (number vy)))) (omega arith)

-- from the start of a way along twice the vector
turn-start : (q k : ℕ) (dx dy vx vy : ℤ) → cross (pos (2 * q) *ℤ vx) (pos (2 * q) *ℤ vy) (pos 0 -ℤ (pos q *ℤ ((pos k *ℤ dx) +ℤ (pos 0 -ℤ vx)))) (pos 0 -ℤ (pos q *ℤ ((pos k *ℤ dy) +ℤ (pos 0 -ℤ vy)))) ≡ (pos ((2 * k) * (q * q)) *ℤ cross dx dy vx vy)
turn-start q k dx dy vx vy =
    let sum : ℤ → ℤ → Term = λ d v. minus (n_of 0) (times (n_of q) (plus (times (n_of k) (number d)) (minus (n_of 0) (number v)))) in
    identity (cross_term (times (n_of (2 * q)) (number vx)) (times (n_of (2 * q)) (number vy)) (sum dx vx) (sum dy vy)) (times (n_of ((2 * k) * (q * q))) (cross_term (number dx) (number dy) (number vx) (number vy))) (omega arith)

turn-end : (q : ℕ) (k dx dy vx vy : ℤ) → cross (pos (2 * q) *ℤ vx) (pos (2 * q) *ℤ vy) (pos q *ℤ ((k *ℤ dx) +ℤ vx)) (pos q *ℤ ((k *ℤ dy) +ℤ vy)) ≡ (pos 0 -ℤ ((k *ℤ pos (2 * (q * q))) *ℤ cross dx dy vx vy))
turn-end q k dx dy vx vy =
    let sum : ℤ → ℤ → Term = λ d v. times (n_of q) (plus (times (number k) (number d)) (number v)) in
    identity (cross_term (times (n_of (2 * q)) (number vx)) (times (n_of (2 * q)) (number vy)) (sum dx vx) (sum dy vy)) (minus (n_of 0) (times (times (number k) (n_of (2 * (q * q)))) (cross_term (number dx) (number dy) (number vx) (number vy)))) (omega arith)

-- a multiple of a difference
apart_times : (q : ℕ) (c d : ℤ) → ((pos q *ℤ d) -ℤ (pos q *ℤ c)) ≡ (pos q *ℤ (d -ℤ c))
apart_times q c d = identity (minus (times (n_of q) (number d)) (times (n_of q) (number c))) (times (n_of q) (minus (number d) (number c))) (omega arith)

-- from an edge's start to a point near one of it
from_start : (n parts a : ℕ) (b c d v : ℤ) → b ≡ ((pos n *ℤ c) +ℤ (pos a *ℤ d)) → ((pos (n * parts) *ℤ ((pos parts *ℤ b) +ℤ v)) -ℤ (pos ((n * parts) * (n * parts)) *ℤ c)) ≡ (pos (n * parts) *ℤ ((pos (parts * a) *ℤ d) +ℤ v))
from_start n parts a b c d v is =
    ap (λ (z : ℤ). (pos (n * parts) *ℤ ((pos parts *ℤ z) +ℤ v)) -ℤ (pos ((n * parts) * (n * parts)) *ℤ c)) is
    ∙ identity (minus (times (n_of (n * parts)) (plus (times (n_of parts) (plus (times (n_of n) (number c)) (times (n_of a) (number d)))) (number v))) (times (n_of ((n * parts) * (n * parts))) (number c)))
    (times (n_of (n * parts)) (plus (times (n_of (parts * a)) (number d)) (number v))) (omega arith)

-- to its end
to_end : (n parts a : ℕ) (b c e v : ℤ) → b ≡ ((pos n *ℤ c) +ℤ (pos a *ℤ (e -ℤ c))) → ((pos ((n * parts) * (n * parts)) *ℤ e) -ℤ (pos (n * parts) *ℤ ((pos parts *ℤ b) +ℤ (pos 0 -ℤ v)))) ≡ (pos (n * parts) *ℤ (((pos parts *ℤ (pos n -ℤ pos a)) *ℤ (e -ℤ c)) +ℤ v))
to_end n parts a b c e v is =
    ap (λ (z : ℤ). (pos ((n * parts) * (n * parts)) *ℤ e) -ℤ (pos (n * parts) *ℤ ((pos parts *ℤ z) +ℤ (pos 0 -ℤ v)))) is
    ∙ identity (minus (times (n_of ((n * parts) * (n * parts))) (number e)) (times (n_of (n * parts)) (plus (times (n_of parts) (plus (times (n_of n) (number c)) (times (n_of a) (minus (number e) (number c))))) (minus (n_of 0) (number v)))))
    (times (n_of (n * parts)) (plus (times (times (n_of parts) (minus (n_of n) (n_of a))) (minus (number e) (number c))) (number v))) (omega arith)

-- along the way
along : (q parts : ℕ) (b v : ℤ) → ((pos q *ℤ ((pos parts *ℤ b) +ℤ v)) -ℤ (pos q *ℤ ((pos parts *ℤ b) +ℤ (pos 0 -ℤ v)))) ≡ (pos (2 * q) *ℤ v)
along q parts b v =
    identity (minus (times (n_of q) (plus (times (n_of parts) (number b)) (number v))) (times (n_of q) (plus (times (n_of parts) (number b)) (minus (n_of 0) (number v))))) (times (n_of (2 * q)) (number v)) (omega arith)

less_back : (a b c : ℤ) → (a -ℤ b) ≡ c → (b -ℤ a) ≡ (pos 0 -ℤ c)
less_back a b c is = omega (arith, ints, is)

-- cross products of the same vectors
same_cross : (a b c d e f g h : ℤ) → a ≡ e → b ≡ f → c ≡ g → d ≡ h → cross a b c d ≡ cross e f g h
same_cross a b c d e f g h first second third fourth = ap₂ (λ (x y : ℤ). cross x y c d) first second ∙ ap₂ (λ (x y : ℤ). cross e f x y) third fourth

-- a short way across an edge, from its right to its left
module _ (edge : Edge) (base : RationalPoint) (a : ℕ) (at : IsAtShare edge base a) (after : 0 < a) (before : a < base.n) (vector : Point) (left : pos 0 <ℤ crossed (way edge) vector)
    (parts : ℕ) (some : 0 < parts) where
  abbrev all : ℕ
  all = base.n * parts

  abbrev from : RationalPoint
  from = near base parts some (opposite vector)

  abbrev to : RationalPoint
  to = near base parts some vector

  abbrev turn : ℤ
  turn = crossed (way edge) vector

  abbrev dx : ℤ
  dx = edge.x1 -ℤ edge.x0

  abbrev dy : ℤ
  dy = edge.y1 -ℤ edge.y0

  abbrev big : Edge
  big = scaled_edge (all * all) edge

  abbrev over_it : Edge
  over_it = way_between from to

  start-is : leftness big over_it.x0 over_it.y0 ≡ (pos 0 -ℤ (pos (all * (all * all)) *ℤ turn))
  start-is =
      same_cross (big.x1 -ℤ big.x0) (big.y1 -ℤ big.y0) (over_it.x0 -ℤ big.x0) (over_it.y0 -ℤ big.y0)
      (pos (all * all) *ℤ dx) (pos (all * all) *ℤ dy) (pos all *ℤ ((pos (parts * a) *ℤ dx) +ℤ (pos 0 -ℤ vector.x))) (pos all *ℤ ((pos (parts * a) *ℤ dy) +ℤ (pos 0 -ℤ vector.y)))
      (apart_times (all * all) edge.x0 edge.x1) (apart_times (all * all) edge.y0 edge.y1)
      (from_start base.n parts a base.x edge.x0 dx (pos 0 -ℤ vector.x) at.x) (from_start base.n parts a base.y edge.y0 dy (pos 0 -ℤ vector.y) at.y)
      ∙ turn-back all (parts * a) dx dy vector.x vector.y

  end-is : leftness big over_it.x1 over_it.y1 ≡ (pos (all * (all * all)) *ℤ turn)
  end-is =
      same_cross (big.x1 -ℤ big.x0) (big.y1 -ℤ big.y0) (over_it.x1 -ℤ big.x0) (over_it.y1 -ℤ big.y0)
      (pos (all * all) *ℤ dx) (pos (all * all) *ℤ dy) (pos all *ℤ ((pos (parts * a) *ℤ dx) +ℤ vector.x)) (pos all *ℤ ((pos (parts * a) *ℤ dy) +ℤ vector.y))
      (apart_times (all * all) edge.x0 edge.x1) (apart_times (all * all) edge.y0 edge.y1)
      (from_start base.n parts a base.x edge.x0 dx vector.x at.x) (from_start base.n parts a base.y edge.y0 dy vector.y at.y)
      ∙ turn-of all (parts * a) dx dy vector.x vector.y

  edge_start-is : leftness over_it big.x0 big.y0 ≡ (pos ((2 * (parts * a)) * (all * all)) *ℤ turn)
  edge_start-is =
      same_cross (over_it.x1 -ℤ over_it.x0) (over_it.y1 -ℤ over_it.y0) (big.x0 -ℤ over_it.x0) (big.y0 -ℤ over_it.y0)
      (pos (2 * all) *ℤ vector.x) (pos (2 * all) *ℤ vector.y) (pos 0 -ℤ (pos all *ℤ ((pos (parts * a) *ℤ dx) +ℤ (pos 0 -ℤ vector.x)))) (pos 0 -ℤ (pos all *ℤ ((pos (parts * a) *ℤ dy) +ℤ (pos 0 -ℤ vector.y))))
      (along all parts base.x vector.x) (along all parts base.y vector.y)
      (less_back over_it.x0 big.x0 (pos all *ℤ ((pos (parts * a) *ℤ dx) +ℤ (pos 0 -ℤ vector.x))) (from_start base.n parts a base.x edge.x0 dx (pos 0 -ℤ vector.x) at.x))
      (less_back over_it.y0 big.y0 (pos all *ℤ ((pos (parts * a) *ℤ dy) +ℤ (pos 0 -ℤ vector.y))) (from_start base.n parts a base.y edge.y0 dy (pos 0 -ℤ vector.y) at.y))
      ∙ turn-start all (parts * a) dx dy vector.x vector.y

  abbrev rest : ℤ
  rest = pos parts *ℤ (pos base.n -ℤ pos a)

  edge_end-is : leftness over_it big.x1 big.y1 ≡ (pos 0 -ℤ ((rest *ℤ pos (2 * (all * all))) *ℤ turn))
  edge_end-is =
      same_cross (over_it.x1 -ℤ over_it.x0) (over_it.y1 -ℤ over_it.y0) (big.x1 -ℤ over_it.x0) (big.y1 -ℤ over_it.y0)
      (pos (2 * all) *ℤ vector.x) (pos (2 * all) *ℤ vector.y) (pos all *ℤ ((rest *ℤ dx) +ℤ vector.x)) (pos all *ℤ ((rest *ℤ dy) +ℤ vector.y))
      (along all parts base.x vector.x) (along all parts base.y vector.y)
      (to_end base.n parts a base.x edge.x0 edge.x1 vector.x at.x) (to_end base.n parts a base.y edge.y0 edge.y1 vector.y at.y)
      ∙ turn-end all rest dx dy vector.x vector.y

  crosses : CrossesLeft big over_it
  crosses =
      let size = mul-pos base.positive some in
      let square = mul-pos size size in
      let cube = mul-pos size square in
      let first = product_positive (pos (all * (all * all))) turn (omega (arith, ints, cube)) left in
      let product = mul-pos some after in
      let twice : 0 < 2 * (parts * a) = omega (arith, product) in
      let large = mul-pos twice square in
      let second = product_positive (pos ((2 * (parts * a)) * (all * all))) turn (omega (arith, ints, large)) left in
      let double : 0 < 2 * (all * all) = omega (arith, square) in
      let remains = product_positive (pos parts) (pos base.n -ℤ pos a) (omega (arith, ints, some)) (omega (arith, ints, before)) in
      let more = product_positive rest (pos (2 * (all * all))) remains (omega (arith, ints, double)) in
      let third = product_positive (rest *ℤ pos (2 * (all * all))) turn more left in
      let is_start = start-is in
      let is_end = end-is in
      let is_edge_start = edge_start-is in
      let is_edge_end = edge_end-is in
      record { start = omega (arith, ints, is_start, first); end = omega (arith, ints, is_end, first); edge_start = omega (arith, ints, is_edge_start, second); edge_end = omega (arith, ints, is_edge_end, third) }

-- ---- near a point inside an edge

module _ (edges : List Edge) (bounds : BoundOnce edges) (edge : Edge) (among : Contains edges edge) (base : RationalPoint) (of : IsOf edge base) (inner : ¬ (IsEnd edge base)) where
  -- another edge that has the point has the same ends
  has-same : (other : Edge) → Contains edges other → HasFinely other base → HaveSameEnds other edge
  has-same other held has = by (bounds.noded other edge has.finer held among has.of (IsOf-finer edge has.k base has.finer has.is of))
    where
      by : MeetAtEnds other edge has.finer → HaveSameEnds other edge
      by (inl (_, end)) = absurd (inner (is_end-finer edge has.k base has.finer has.is end))
      by (inr (inl same)) = inl same
      by (inr (inr back)) = inr back

  abbrev Beyond : Point → Point → Edge → ℕ → Type 0
  Beyond first second other parts = HaveSameEnds other edge ⊎ IsClear base first second parts other

  -- all others are clear of what is near enough
  all-clear : (first second : Point) → (least : ℕ) × ((parts : ℕ) → least ≤ parts → (other : Edge) → Contains edges other → Beyond first second other parts)
  all-clear first second = enough (Beyond first second) edges (λ other held. by other held (has-or_aside other base (All-contains (λ (e : Edge). start_of e ≢ end_of e) edges other bounds.two_ends held)))
    where
      by : (other : Edge) → Contains edges other → HasFinely other base ⊎ IsAside other base → (least : ℕ) × ((parts : ℕ) → least ≤ parts → Beyond first second other parts)
      by other held (inl has) = (0, λ parts more. inl (has-same other held has))
      by other held (inr aside) = let (least, clear) = clear-from base first second other aside in (least, λ parts more. inr (clear parts more))

  -- so the edge alone counts on a short way across it
  alone : (first second : Point) (parts : ℕ) (some : 0 < parts) → ((other : Edge) → Contains edges other → Beyond first second other parts)
      → (pos (near base parts some second).n *ℤ (near base parts some first).x) ≤ℤ (pos (near base parts some first).n *ℤ (near base parts some second).x)
      → winding edges (near base parts some second) ≡ (winding edges (near base parts some first) +ℤ jump (scaled_edge ((base.n * parts) * (base.n * parts)) edge) (way_between (near base parts some first) (near base parts some second)))
  alone first second parts some clear order =
      winding-between (near base parts some first) (near base parts some second) edges bounds.closed
      ∙ ap (λ (z : ℤ). winding edges (near base parts some first) +ℤ z)
      (total-one (λ (e : Edge). jump (scaled_edge ((base.n * parts) * (base.n * parts)) e) (way_between (near base parts some first) (near base parts some second))) edge edges among bounds.distinct
      (λ other held differ. nothing other held differ (clear other held) (jumps (scaled_edge ((base.n * parts) * (base.n * parts)) other) (way_between (near base parts some first) (near base parts some second)) order).none))
    where
      nothing : (other : Edge) → Contains edges other → ¬ (HaveSameEnds other edge) → Beyond first second other parts
          → (jump (scaled_edge ((base.n * parts) * (base.n * parts)) other) (way_between (near base parts some first) (near base parts some second)) ≡ pos 0)
          ⊎ Meet (scaled_edge ((base.n * parts) * (base.n * parts)) other) (way_between (near base parts some first) (near base parts some second))
          → jump (scaled_edge ((base.n * parts) * (base.n * parts)) other) (way_between (near base parts some first) (near base parts some second)) ≡ pos 0
      nothing other held differ clear (inl none) = none
      nothing other held differ (inl same) (inr meet) = absurd (differ same)
      nothing other held differ (inr clear) (inr meet) =
          let found = met (other ∷ []) other (near base parts some first) (near base parts some second) (0, omega arith, refl) meet in
          absurd (misses (found.edge) found.among found.point found.of found.a found.m found.on)
        where
          misses : (e : Edge) → Contains (other ∷ []) e → (point : RationalPoint) → IsOf e point → (a m : ℕ) → ¬ (IsOnWay (near base parts some first) (near base parts some second) point a m)
          misses e (zero, within, is) point of a m on =
              clear-misses base first second parts other some clear point a m on.some on.share (subst (λ (f : Edge). IsOf f point) (sym is) of) (on-near base parts some first second point a m on)
          misses e (suc k, within, is) point of a m on = absurd (omega (arith, within))

  -- a vector to the left of the edge
  module _ (vector : Point) (left : pos 0 <ℤ crossed (way edge) vector) where
    left-more : (parts : ℕ) (some : 0 < parts) → ((other : Edge) → Contains edges other → Beyond vector (opposite vector) other parts) → ((other : Edge) → Contains edges other → Beyond (opposite vector) vector other parts)
        → winding edges (near base parts some vector) ≡ (winding edges (near base parts some (opposite vector)) +ℤ pos 1)
    left-more parts some clear clear_back =
        by_lt_z vector.x (pos 0)
        (λ leftwards.
        let order = scaled (base.n * parts) ((pos parts *ℤ base.x) +ℤ vector.x) ((pos parts *ℤ base.x) +ℤ (pos 0 -ℤ vector.x)) (omega (arith, ints, leftwards)) in
        let counts = alone vector (opposite vector) parts some clear order in
        let back = (jumps (scaled_edge ((base.n * parts) * (base.n * parts)) edge) (way_between (near base parts some vector) (near base parts some (opposite vector))) order).right turned in
        omega (arith, ints, counts, back))
        (λ rightwards.
        let order = scaled (base.n * parts) ((pos parts *ℤ base.x) +ℤ (pos 0 -ℤ vector.x)) ((pos parts *ℤ base.x) +ℤ vector.x) (omega (arith, ints, rightwards)) in
        let counts = alone (opposite vector) vector parts some clear_back order in
        let more = (jumps (scaled_edge ((base.n * parts) * (base.n * parts)) edge) (way_between (near base parts some (opposite vector)) (near base parts some vector)) order).left
        (crosses edge base of.0 of.1 (inner-start edge base of.0 of.1 inner) (inner-end edge base of.0 of.1 inner) vector left parts some) in
        omega (arith, ints, counts, more))
      where
        -- the edge the other way round
        there : IsOf (reversed edge) base
        there = IsOf-reversed edge base of

        back_left : pos 0 <ℤ crossed (way (reversed edge)) (opposite vector)
        back_left =
            let same = identity
            (minus (times (minus (number edge.x0) (number edge.x1)) (minus (n_of 0) (number vector.y))) (times (minus (number edge.y0) (number edge.y1)) (minus (n_of 0) (number vector.x))))
            (minus (times (minus (number edge.x1) (number edge.x0)) (number vector.y)) (times (minus (number edge.y1) (number edge.y0)) (number vector.x))) (omega arith) in
            omega (arith, ints, same, left)

        double : opposite (opposite vector) ≡ vector
        double = ap₂ (λ (x y : ℤ). (let p : Point = record { x = x; y = y } in p)) (twice vector.x) (twice vector.y)
          where
            twice : (z : ℤ) → (pos 0 -ℤ (pos 0 -ℤ z)) ≡ z
            twice z = omega (arith, ints)

        no_end : ¬ (IsEnd (reversed edge) base)
        no_end (inl at) = inner (inr at)
        no_end (inr at) = inner (inl at)

        turned : CrossesRight (scaled_edge ((base.n * parts) * (base.n * parts)) edge) (way_between (near base parts some vector) (near base parts some (opposite vector)))
        turned =
            subst (λ (w : Point). CrossesLeft (scaled_edge ((base.n * parts) * (base.n * parts)) (reversed edge)) (way_between (near base parts some w) (near base parts some (opposite vector)))) double
            (crosses (reversed edge) base there.0 there.1 (inner-start (reversed edge) base there.0 there.1 no_end) (inner-end (reversed edge) base there.0 there.1 no_end) (opposite vector) back_left parts some)

    -- Just to the left of the edge they wind as around the points inside.
    pub left-once : (least : ℕ) × ((parts : ℕ) (some : 0 < parts) → least ≤ parts → winding edges (near base parts some vector) ≡ (bounds.outer +ℤ pos 1))
    left-once =
        let (least, clear) = all-clear vector (opposite vector) in
        let (least_back, clear_back) = all-clear (opposite vector) vector in (
          least + least_back,
          λ parts some more. by (winding edges (near base parts some vector)) (winding edges (near base parts some (opposite vector)))
              (left-more parts some (clear parts (omega (arith, more))) (clear_back parts (omega (arith, more)))) (bounds.once (near base parts some vector)) (bounds.once (near base parts some (opposite vector))),
        )
      where
        by : (p q : ℤ) → p ≡ (q +ℤ pos 1) → (p ≡ bounds.outer) ⊎ (p ≡ (bounds.outer +ℤ pos 1)) → (q ≡ bounds.outer) ⊎ (q ≡ (bounds.outer +ℤ pos 1)) → p ≡ (bounds.outer +ℤ pos 1)
        by p q is (inr one) other = one
        by p q is (inl none) (inl other) = omega (arith, ints, is, other)
        by p q is (inl none) (inr other) = absurd (omega (arith, ints, is, none, other))
