-- Where the raw curve winds around a point that isn't of it unlike around those outside, this point is of the sum.
use Rattle.std.proofs.Common.{◌≡◌, ◌≢◌, ⊎_elim, ℕ, suc, zero, ◌+◌, ◌*◌, ◌<◌, ◌≤◌, ℤ, pos, ◌+ℤ◌, ◌-ℤ◌, ◌*ℤ◌, ◌≤ℤ◌, ◌<ℤ◌, List, [], ◌∷◌, refl, ap, ap₂, subst, sym, ◌∙◌, arith}
use Rattle.std.specs.List.{All, Contains, flat_map}
use Rattle.std.specs.Int.RustNames.{unsigned_abs}
use Rattle.std.proofs.Math.Nat.{mul-pos}
use Rattle.std.proofs.lemmas.Int.{by_lt_z, ints}
use Rattle.std.proofs.lemmas.List.Elements.{All-contains}
use Rattle.std.proofs.lemmas.Nat.{mul-le}
use Rattle.plane.specs.declared.edge.Edge.{Edge}
use Rattle.plane.specs.declared.point.Point.{Point}
use Rattle.plane.specs.Ends.{edge_between, end_of, reversed, start_of}
use Rattle.plane.specs.Lines.{height_over}
use Rattle.plane.specs.Meet.Crosses.{IsWithin, cross}
use Rattle.plane.specs.Meet.Edges.{IsOf, RationalPoint}
use Rattle.overlay.specs.Areas.{swept}
use Rattle.overlay.specs.Contours.Rings.{ring_edges}
use Rattle.noding.specs.Windings.{winding}
use Rattle.offset.specs.Shape.{IsConvexAroundOrigin, IsLeftOf, neighbours, sides, turn}
use Rattle.offset.specs.Raw.{GoesThrough, fan, furthest, moved, moved_edge, raw_edges}
use Rattle.offset.specs.Sum.{IsOfSumBeyond}
use Rattle.plane.proofs.MeetLemmas.Identities.{IsWithin-product, Term, identity, minus, number, plus, scaled, times, unscaled}
use Rattle.noding.proofs.SnapLemmas.Numbers.{Natural, n_of, natural}
use Rattle.overlay.proofs.FillLemmas.Premises.{All-among}
use Rattle.offset.proofs.CoverLemmas.Numbers.{above-product, positive-factor, positive-product}
use Rattle.offset.proofs.CoverLemmas.Sides.{apart, whole}
use Rattle.offset.proofs.CoverLemmas.Vectors.{crossed, crossing, less_terms, term, way}
use Rattle.offset.proofs.PieceLemmas.Parts.{Follows, IsInBand, IsInPart, fan-held, follows-held, furthest-beside, moved-held, raw-some, side-held}
use Rattle.offset.proofs.PieceLemmas.Convex.{furthest-is, furthest-pair}
use Rattle.offset.proofs.PieceLemmas.Rounds.{IsJoined, neighbours-held, next-held, ring-joined, start-held}
use Rattle.offset.proofs.PieceLemmas.Shifts.{from-abs, upto-abs}
use Rattle.offset.proofs.PieceLemmas.Sides.{left_by}

-- ---- points near others

-- Two fractions are at most 1 / k apart.
abbrev pub AreClose : ℕ → ℕ → ℤ → ℕ → ℤ → Type 0
AreClose k n x m y = ((pos k *ℤ ((pos n *ℤ y) -ℤ (pos m *ℤ x))) ≤ℤ pos (n * m)) × ((pos 0 -ℤ pos (n * m)) ≤ℤ (pos k *ℤ ((pos n *ℤ y) -ℤ (pos m *ℤ x))))

-- Two points are at most 1 / k apart, on both axes.
abbrev pub IsNearBy : ℕ → RationalPoint → RationalPoint → Type 0
IsNearBy k point other = AreClose k point.n point.x other.n other.x × AreClose k point.n point.y other.n other.y

-- As near to each point of the edges as you like there are points around which they wind unlike around those outside.
abbrev pub HaveNear : ℤ → List Edge → Type 0
HaveNear outer edges = (edge : Edge) (base : RationalPoint) (k : ℕ) → Contains edges edge → IsOf edge base → (other : RationalPoint) × IsNearBy k base other × (winding edges other ≢ outer)

-- ---- what lies strictly inside

-- How far the point, less another one, lies to the left of a side, times what both are over and the side's length.
abbrev pub margin : RationalPoint → RationalPoint → Edge → ℤ
margin point base side =
    cross (way side).x (way side).y ((apart point base).x -ℤ (pos (point.n * base.n) *ℤ side.x0)) ((apart point base).y -ℤ (pos (point.n * base.n) *ℤ side.y0))

-- as far as a side goes on both axes
abbrev span : Edge → ℕ
span side = unsigned_abs (side.x1 -ℤ side.x0) + unsigned_abs (side.y1 -ℤ side.y0)

abbrev spans : List Edge → ℕ
spans [] = 0
spans (side ∷ others) = span side + spans others

span-within : (some : List Edge) (side : Edge) → Contains some side → span side ≤ spans some
span-within [] side (k, within, is) = absurd (omega (arith, within))
span-within (first ∷ others) side (zero, within, is) = let same = ap span is in omega (arith, same)
span-within (first ∷ others) side (suc k, within, is) = let rest = span-within others side (k, omega (arith, within), is) in omega (arith, rest)

within-abs : (z : ℤ) → IsWithin (unsigned_abs z) z
within-abs z = record { from = from-abs z; upto = upto-abs z }

-- the numbers of it: n and m are what the point and its base are over, r what the near one is
abbrev left_from : (n r : ℕ) (wx wy px py qx qy sx sy : ℤ) → ℤ
left_from n r wx wy px py qx qy sx sy = cross wx wy (((pos r *ℤ px) -ℤ (pos n *ℤ qx)) -ℤ (pos (n * r) *ℤ sx)) (((pos r *ℤ py) -ℤ (pos n *ℤ qy)) -ℤ (pos (n * r) *ℤ sy))

left_moved : (k n m r : ℕ) (wx wy px py bx by qx qy sx sy : ℤ)
    → (pos (k * m) *ℤ left_from n r wx wy px py qx qy sx sy)
    ≡ ((pos r *ℤ (pos k *ℤ left_from n m wx wy px py bx by sx sy)) -ℤ (pos n *ℤ ((wx *ℤ (pos k *ℤ ((pos m *ℤ qy) -ℤ (pos r *ℤ by)))) -ℤ (wy *ℤ (pos k *ℤ ((pos m *ℤ qx) -ℤ (pos r *ℤ bx)))))))
left_moved k n m r wx wy px py bx by qx qy sx sy =
    let at = λ (t : ℕ) (p q z : ℤ). minus (minus (times (n_of t) (number p)) (times (n_of n) (number q))) (times (n_of (n * t)) (number z)) in
    let turned = λ (x y : Term). minus (times (number wx) y) (times (number wy) x) in
    let off = λ (q b : ℤ). times (n_of k) (minus (times (n_of m) (number q)) (times (n_of r) (number b))) in
    identity (times (n_of (k * m)) (turned (at r px qx sx) (at r py qy sy)))
    (minus (times (n_of r) (times (n_of k) (turned (at m px bx sx) (at m py by sy)))) (times (n_of n) (turned (off qx bx) (off qy by)))) (omega arith)

still_left : (k n m r : ℕ) (wx wy px py bx by qx qy sx sy : ℤ) → 0 < k → 0 < m → (n * m) * (unsigned_abs wx + unsigned_abs wy) ≤ k → pos 0 <ℤ left_from n m wx wy px py bx by sx sy
    → AreClose k m bx r qx → AreClose k m by r qy → pos 0 ≤ℤ left_from n r wx wy px py qx qy sx sy
still_left k n m r wx wy px py bx by qx qy sx sy some over wide inside (x_upto, x_from) (y_upto, y_from) =
    let ex = pos k *ℤ ((pos m *ℤ qx) -ℤ (pos r *ℤ bx)) in
    let ey = pos k *ℤ ((pos m *ℤ qy) -ℤ (pos r *ℤ by)) in
    let one = IsWithin-product wx ey (unsigned_abs wx) (m * r) (within-abs wx) (record { from = y_from; upto = y_upto }) in
    let other = IsWithin-product wy ex (unsigned_abs wy) (m * r) (within-abs wy) (record { from = x_from; upto = x_upto }) in
    let one_upto = one.upto in
    let other_from = other.from in
    let spread = scaled n ((wx *ℤ ey) -ℤ (wy *ℤ ex)) (pos (unsigned_abs wx * (m * r) + unsigned_abs wy * (m * r))) (omega (arith, ints, one_upto, other_from)) in
    let spread_is = identity (times (n_of n) (n_of (unsigned_abs wx * (m * r) + unsigned_abs wy * (m * r)))) (n_of (n * (unsigned_abs wx * (m * r) + unsigned_abs wy * (m * r)))) (omega arith) in
    let most = mul-le r ((n * m) * (unsigned_abs wx + unsigned_abs wy)) r k (omega arith) wide in
    let same : n * (unsigned_abs wx * (m * r) + unsigned_abs wy * (m * r)) ≡ r * ((n * m) * (unsigned_abs wx + unsigned_abs wy)) = omega arith in
    let unit = scaled k (pos 1) (left_from n m wx wy px py bx by sx sy) (omega (arith, ints, inside)) in
    let more = scaled r (pos k *ℤ pos 1) (pos k *ℤ left_from n m wx wy px py bx by sx sy) unit in
    let more_is = identity (times (n_of r) (times (n_of k) (n_of 1))) (n_of (r * k)) (omega arith) in
    let sum = left_moved k n m r wx wy px py bx by qx qy sx sy in
    let none = identity (times (n_of (k * m)) (n_of 0)) (n_of 0) (omega arith) in
    unscaled (k * m) (pos 0) (left_from n r wx wy px py qx qy sx sy) (mul-pos some over) (omega (arith, ints, spread, spread_is, most, same, more, more_is, sum, none))

-- A point that lies strictly inside the shape, from a point of an edge, is of the sum.
pub sum-near : (outer : ℤ) (edges : List Edge) (corners : List Point) → HaveNear outer edges → (point base : RationalPoint) (edge : Edge) → Contains edges edge → IsOf edge base
    → ((side : Edge) → Contains (sides corners) side → pos 0 <ℤ margin point base side) → IsOfSumBeyond outer edges corners point
sum-near outer edges corners near point base edge among of inside = found (near edge base k among of)
  where
    k : ℕ
    k = 1 + (point.n * base.n) * spans (sides corners)

    less : (q : RationalPoint) → RationalPoint
    less q = record {
      n = point.n * q.n;
      x = (pos q.n *ℤ point.x) -ℤ (pos point.n *ℤ q.x);
      y = (pos q.n *ℤ point.y) -ℤ (pos point.n *ℤ q.y);
      positive = mul-pos point.positive q.positive;
    }

    wide : (side : Edge) → Contains (sides corners) side → (point.n * base.n) * span side ≤ k
    wide side held = let most = mul-le (point.n * base.n) (span side) (point.n * base.n) (spans (sides corners)) (omega arith) (span-within (sides corners) side held) in omega (arith, most)

    adds : (n r : ℕ) (p q : ℤ) → (pos (r * (n * r)) *ℤ p) ≡ (pos n *ℤ ((q *ℤ pos (n * r)) +ℤ (((pos r *ℤ p) -ℤ (pos n *ℤ q)) *ℤ pos r)))
    adds n r p q =
        identity (times (n_of (r * (n * r))) (number p)) (times (n_of n) (plus (times (number q) (n_of (n * r))) (times (minus (times (n_of r) (number p)) (times (n_of n) (number q))) (n_of r)))) (omega arith)

    found : (q : RationalPoint) × IsNearBy k base q × (winding edges q ≢ outer) → IsOfSumBeyond outer edges corners point
    found (q, (close_x, close_y), winds) = record {
      from = q;
      by = less q;
      inside = winds;
      of_shape = All-among (λ (side : Edge). IsLeftOf side (less q)) (sides corners)
          (λ side held. still_left k point.n base.n q.n (way side).x (way side).y point.x point.y base.x base.y q.x q.y side.x0 side.y0 (omega arith) base.positive (wide side held) (inside side held) close_x close_y);
      x = adds point.n q.n point.x q.x;
      y = adds point.n q.n point.y q.y;
    }

-- A point inside is, as the origin is of the shape.
pub sum-itself : (outer : ℤ) (edges : List Edge) (corners : List Point) → IsConvexAroundOrigin corners → (point : RationalPoint) → winding edges point ≢ outer → IsOfSumBeyond outer edges corners point
sum-itself outer edges corners convex point winds = record {
  from = point;
  by = record { n = 1; x = pos 0; y = pos 0; positive = omega arith };
  inside = winds;
  of_shape = All-among (λ (side : Edge). IsLeftOf side (record { n = 1; x = pos 0; y = pos 0; positive = omega arith })) (sides corners)
      (λ side held.
      let some = All-contains (λ (e : Edge). pos 0 <ℤ swept e) (sides corners) side convex.left held in
      let same = from_origin side in
      omega (arith, ints, some, same));
  x = adds point.n point.x;
  y = adds point.n point.y;
}
  where
    adds : (n : ℕ) (p : ℤ) → (pos (n * 1) *ℤ p) ≡ (pos n *ℤ ((p *ℤ pos 1) +ℤ (pos 0 *ℤ pos n)))
    adds n p = identity (times (n_of (n * 1)) (number p)) (times (n_of n) (plus (times (number p) (n_of 1)) (times (n_of 0) (n_of n)))) (omega arith)

    from_origin : (side : Edge) → cross (way side).x (way side).y (pos 0 -ℤ (pos 1 *ℤ side.x0)) (pos 0 -ℤ (pos 1 *ℤ side.y0)) ≡ swept side
    from_origin side =
        let start = term (start_of side) in
        let end = term (end_of side) in
        let back = λ (z : ℤ). minus (n_of 0) (times (n_of 1) (number z)) in
        identity (minus (times (minus end.x start.x) (back side.y0)) (times (minus end.y start.y) (back side.x0))) (crossing start end) (omega arith)

-- ---- bands

-- a vector by its parts along two others
cramer_x : (c d p : Point) → (crossed c d *ℤ p.x) ≡ ((crossed p d *ℤ c.x) +ℤ (crossed c p *ℤ d.x))
cramer_x c d p =
    identity (times (crossing (term c) (term d)) (number p.x)) (plus (times (crossing (term p) (term d)) (number c.x)) (times (crossing (term c) (term p)) (number d.x))) (omega arith)

cramer_y : (c d p : Point) → (crossed c d *ℤ p.y) ≡ ((crossed p d *ℤ c.y) +ℤ (crossed c p *ℤ d.y))
cramer_y c d p =
    identity (times (crossing (term c) (term d)) (number p.y)) (plus (times (crossing (term p) (term d)) (number c.y)) (times (crossing (term c) (term p)) (number d.y))) (omega arith)

-- what the point sees from an edge's start
abbrev seen : RationalPoint → Point → Point
seen point from = record { x = point.x -ℤ (pos point.n *ℤ from.x); y = point.y -ℤ (pos point.n *ℤ from.y) }

module _ (n : ℕ) (x y ux uy vx vy cx cy : ℤ) where
  behind_is : cross (ux -ℤ vx) (uy -ℤ vy) (x -ℤ (pos n *ℤ vx)) (y -ℤ (pos n *ℤ vy)) ≡ cross (x -ℤ (pos n *ℤ ux)) (y -ℤ (pos n *ℤ uy)) (vx -ℤ ux) (vy -ℤ uy)
  behind_is =
      let out = λ (z at : ℤ). minus (number z) (times (n_of n) (number at)) in
      let run = λ (a b : ℤ). minus (number b) (number a) in
      identity (minus (times (run vx ux) (out y vy)) (times (run vy uy) (out x vx))) (minus (times (out x ux) (run uy vy)) (times (out y uy) (run ux vx))) (omega arith)

  from_is : cross ((cx +ℤ ux) -ℤ ux) ((cy +ℤ uy) -ℤ uy) (x -ℤ (pos n *ℤ ux)) (y -ℤ (pos n *ℤ uy)) ≡ cross cx cy (x -ℤ (pos n *ℤ ux)) (y -ℤ (pos n *ℤ uy))
  from_is =
      let out = λ (z at : ℤ). minus (number z) (times (n_of n) (number at)) in
      let step = λ (c a : ℤ). minus (plus (number c) (number a)) (number a) in
      identity (minus (times (step cx ux) (out y uy)) (times (step cy uy) (out x ux))) (minus (times (number cx) (out y uy)) (times (number cy) (out x ux))) (omega arith)

  before_is : cross ((cx +ℤ vx) -ℤ (cx +ℤ ux)) ((cy +ℤ vy) -ℤ (cy +ℤ uy)) (x -ℤ (pos n *ℤ (cx +ℤ ux))) (y -ℤ (pos n *ℤ (cy +ℤ uy)))
      ≡ ((pos n *ℤ cross cx cy (vx -ℤ ux) (vy -ℤ uy)) -ℤ cross (x -ℤ (pos n *ℤ ux)) (y -ℤ (pos n *ℤ uy)) (vx -ℤ ux) (vy -ℤ uy))
  before_is =
      let out = λ (z : ℤ) (t : Term). minus (number z) (times (n_of n) t) in
      let at = λ (a b : ℤ). plus (number a) (number b) in
      let run = λ (a b : ℤ). minus (number b) (number a) in
      identity (minus (times (minus (at cx vx) (at cx ux)) (out y (at cy uy))) (times (minus (at cy vy) (at cy uy)) (out x (at cx ux))))
      (minus (times (n_of n) (minus (times (number cx) (run uy vy)) (times (number cy) (run ux vx)))) (minus (times (out x (number ux)) (run uy vy)) (times (out y (number uy)) (run ux vx)))) (omega arith)

  upto_is : cross (vx -ℤ (cx +ℤ vx)) (vy -ℤ (cy +ℤ vy)) (x -ℤ (pos n *ℤ (cx +ℤ vx))) (y -ℤ (pos n *ℤ (cy +ℤ vy)))
      ≡ ((pos n *ℤ cross cx cy (vx -ℤ ux) (vy -ℤ uy)) -ℤ cross cx cy (x -ℤ (pos n *ℤ ux)) (y -ℤ (pos n *ℤ uy)))
  upto_is =
      let out = λ (z : ℤ) (t : Term). minus (number z) (times (n_of n) t) in
      let at = λ (a b : ℤ). plus (number a) (number b) in
      let run = λ (a b : ℤ). minus (number b) (number a) in
      identity (minus (times (minus (number vx) (at cx vx)) (out y (at cy vy))) (times (minus (number vy) (at cy vy)) (out x (at cx vx))))
      (minus (times (n_of n) (minus (times (number cx) (run uy vy)) (times (number cy) (run ux vx)))) (minus (times (number cx) (out y (number uy))) (times (number cy) (out x (number ux))))) (omega arith)

-- one axis of how far a point is from one of an edge, less a side's start
off_base : (n w a : ℕ) (p u d s : ℤ) → (((pos (n * w) *ℤ p) -ℤ (pos n *ℤ ((pos (n * w) *ℤ u) +ℤ (pos a *ℤ d)))) -ℤ (pos (n * (n * w)) *ℤ s)) ≡ (pos n *ℤ (((pos w *ℤ (p -ℤ (pos n *ℤ u))) -ℤ (pos a *ℤ d)) -ℤ ((pos n *ℤ pos w) *ℤ s)))
off_base n w a p u d s =
    identity (minus (minus (times (n_of (n * w)) (number p)) (times (n_of n) (plus (times (n_of (n * w)) (number u)) (times (n_of a) (number d))))) (times (n_of (n * (n * w))) (number s)))
    (times (n_of n) (minus (minus (times (n_of w) (minus (number p) (times (n_of n) (number u)))) (times (n_of a) (number d))) (times (times (n_of n) (n_of w)) (number s)))) (omega arith)

-- how much of a side is left of it
parts_left : (n : ℕ) (t k : ℤ) (side : Edge) (c : Point)
    → cross (way side).x (way side).y (pos n *ℤ ((t *ℤ c.x) -ℤ (k *ℤ side.x0))) (pos n *ℤ ((t *ℤ c.y) -ℤ (k *ℤ side.y0)))
    ≡ (pos n *ℤ ((t *ℤ height_over side c) +ℤ ((k -ℤ t) *ℤ swept side)))
parts_left n t k side c =
    let start = term (start_of side) in
    let end = term (end_of side) in
    let run = less_terms end start in
    let off = λ (z s : ℤ). times (n_of n) (minus (times (number t) (number z)) (times (number k) (number s))) in
    identity (minus (times run.x (off c.y side.y0)) (times run.y (off c.x side.x0)))
    (times (n_of n) (plus (times (number t) (crossing run (less_terms (term c) start))) (times (minus (number k) (number t)) (crossing start end)))) (omega arith)

module _ (point : RationalPoint) (edge : Edge) (c : Point) (w a : ℕ) (wide : crossed c (way edge) ≡ pos w) (some : 0 < w) (share : crossed c (seen point (start_of edge)) ≡ pos a) where
  abbrev out : Point
  out = seen point (start_of edge)

  abbrev over : ℤ
  over = crossed out (way edge)

  -- the point of the edge from which the corner's way leads to the point
  abbrev base : RationalPoint
  base = record {
    n = point.n * w;
    x = (pos (point.n * w) *ℤ edge.x0) +ℤ (pos a *ℤ (edge.x1 -ℤ edge.x0));
    y = (pos (point.n * w) *ℤ edge.y0) +ℤ (pos a *ℤ (edge.y1 -ℤ edge.y0));
    positive = mul-pos point.positive some;
  }

  along_x : ((pos w *ℤ out.x) -ℤ (pos a *ℤ (edge.x1 -ℤ edge.x0))) ≡ (over *ℤ c.x)
  along_x =
      let sum = cramer_x c (way edge) out in
      let first = ap (λ z. z *ℤ out.x) wide in
      let second = ap (λ z. z *ℤ (edge.x1 -ℤ edge.x0)) share in
      omega (arith, ints, sum, first, second)

  along_y : ((pos w *ℤ out.y) -ℤ (pos a *ℤ (edge.y1 -ℤ edge.y0))) ≡ (over *ℤ c.y)
  along_y =
      let sum = cramer_y c (way edge) out in
      let first = ap (λ z. z *ℤ out.y) wide in
      let second = ap (λ z. z *ℤ (edge.y1 -ℤ edge.y0)) share in
      omega (arith, ints, sum, first, second)

  margin-is : (side : Edge) → margin point base side ≡ (pos point.n *ℤ ((over *ℤ height_over side c) +ℤ (((pos point.n *ℤ pos w) -ℤ over) *ℤ swept side)))
  margin-is side =
      ap₂ (λ (u v : ℤ). cross (way side).x (way side).y u v)
      (off_base point.n w a point.x edge.x0 (edge.x1 -ℤ edge.x0) side.x0 ∙ ap (λ z. pos point.n *ℤ (z -ℤ ((pos point.n *ℤ pos w) *ℤ side.x0))) along_x)
      (off_base point.n w a point.y edge.y0 (edge.y1 -ℤ edge.y0) side.y0 ∙ ap (λ z. pos point.n *ℤ (z -ℤ ((pos point.n *ℤ pos w) *ℤ side.y0))) along_y)
      ∙ parts_left point.n over (pos point.n *ℤ pos w) side c

  -- what lies on the moved edge
  on-moved : a ≤ point.n * w → over ≡ (pos point.n *ℤ pos w) → GoesThrough (moved_edge c edge) point
  on-moved upto level = (
    record {
      n = point.n * w;
      x = (pos (point.n * w) *ℤ (c.x +ℤ edge.x0)) +ℤ (pos a *ℤ ((c.x +ℤ edge.x1) -ℤ (c.x +ℤ edge.x0)));
      y = (pos (point.n * w) *ℤ (c.y +ℤ edge.y0)) +ℤ (pos a *ℤ ((c.y +ℤ edge.y1) -ℤ (c.y +ℤ edge.y0)));
      positive = mul-pos point.positive some;
    },
    (a, record { share = upto; x = refl; y = refl }),
    record {
      x = same point.n w a point.x edge.x0 edge.x1 c.x (along_x ∙ ap (λ z. z *ℤ c.x) level);
      y = same point.n w a point.y edge.y0 edge.y1 c.y (along_y ∙ ap (λ z. z *ℤ c.y) level);
    },
  )
    where
      same : (n w a : ℕ) (p u v c : ℤ) → ((pos w *ℤ (p -ℤ (pos n *ℤ u))) -ℤ (pos a *ℤ (v -ℤ u))) ≡ ((pos n *ℤ pos w) *ℤ c) → (pos n *ℤ ((pos (n * w) *ℤ (c +ℤ u)) +ℤ (pos a *ℤ ((c +ℤ v) -ℤ (c +ℤ u))))) ≡ (pos (n * w) *ℤ p)
      same n w a p u v c is =
          let at = λ (z : ℤ). plus (number c) (number z) in
          identity (times (n_of n) (plus (times (n_of (n * w)) (at u)) (times (n_of a) (minus (at v) (at u)))))
          (plus (times (n_of n) (minus (times (times (n_of n) (n_of w)) (number c)) (minus (times (n_of w) (minus (number p) (times (n_of n) (number u)))) (times (n_of a) (minus (number v) (number u)))))) (times (n_of (n * w)) (number p))) (omega arith)
          ∙ ap (λ z. (pos n *ℤ (((pos n *ℤ pos w) *ℤ c) -ℤ z)) +ℤ (pos (n * w) *ℤ p)) is
          ∙ identity (plus (times (n_of n) (minus (times (times (n_of n) (n_of w)) (number c)) (times (times (n_of n) (n_of w)) (number c)))) (times (n_of (n * w)) (number p))) (times (n_of (n * w)) (number p)) (omega arith)

-- A point of a band that isn't on the moved edge is of the sum.
pub sum-of_band : (outer : ℤ) (edges : List Edge) (corners : List Point) → IsConvexAroundOrigin corners → HaveNear outer edges → (point : RationalPoint) (edge : Edge) → Contains edges edge
    → (c : Point) → Contains corners c → pos 0 <ℤ cross c.x c.y (edge.x1 -ℤ edge.x0) (edge.y1 -ℤ edge.y0)
    → pos 0 ≤ℤ left_by (reversed edge) point → pos 0 ≤ℤ left_by (edge_between (start_of edge) (moved c (start_of edge))) point
    → pos 0 ≤ℤ left_by (moved_edge c edge) point → pos 0 ≤ℤ left_by (edge_between (moved c (end_of edge)) (end_of edge)) point
    → ¬ (GoesThrough (moved_edge c edge) point) → IsOfSumBeyond outer edges corners point
sum-of_band outer edges corners convex near point edge among c held some behind from before upto off =
    found (natural (crossed c (way edge)) (omega (arith, ints, some))) (natural (crossed c (seen point (start_of edge))) (let is = from_is point.n point.x point.y edge.x0 edge.y0 edge.x1 edge.y1 c.x c.y in omega (arith, ints, is, from)))
  where
    p : Point
    p = seen point (start_of edge)

    found : Natural (crossed c (way edge)) → Natural (crossed c p) → IsOfSumBeyond outer edges corners point
    found width share =
        let is = width.is in
        let share_is = share.is in
        let wide : 0 < width.k = omega (arith, ints, is, some) in
        let behind_at = behind_is point.n point.x point.y edge.x0 edge.y0 edge.x1 edge.y1 c.x c.y in
        let before_at = before_is point.n point.x point.y edge.x0 edge.y0 edge.x1 edge.y1 c.x c.y in
        let upto_at = upto_is point.n point.x point.y edge.x0 edge.y0 edge.x1 edge.y1 c.x c.y in
        let all = ap (λ z. pos point.n *ℤ z) is in
        let product = identity (times (n_of point.n) (n_of width.k)) (n_of (point.n * width.k)) (omega arith) in
        let within : share.k ≤ point.n * width.k = omega (arith, ints, upto, upto_at, all, product, share_is) in
        let less : crossed p (way edge) <ℤ (pos point.n *ℤ pos width.k) =
        by_lt_z (crossed p (way edge)) (pos point.n *ℤ pos width.k) (λ below. below)
        (λ back. absurd (off (on-moved point edge c width.k share.k is wide share_is within (omega (arith, ints, back, before, before_at, all))))) in
        sum-near outer edges corners near point (base point edge c width.k share.k is wide share_is) edge among (share.k, record { share = within; x = refl; y = refl })
        (λ side side_held.
        let height = All-contains (λ (d : Point). pos 0 ≤ℤ height_over side d) corners c (All-contains (λ (e : Edge). All (λ (d : Point). pos 0 ≤ℤ height_over e d) corners) (sides corners) side convex.convex side_held) held in
        let sweeps = All-contains (λ (e : Edge). pos 0 <ℤ swept e) (sides corners) side convex.left side_held in
        let one = above-product (crossed p (way edge)) (height_over side c) (omega (arith, ints, behind, behind_at)) height in
        let other = positive-product ((pos point.n *ℤ pos width.k) -ℤ crossed p (way edge)) (swept side) (omega (arith, ints, less)) sweeps in
        let margin_at = margin-is point edge c width.k share.k is wide share_is side in
        let positive = point.positive in
        let more = positive-product (pos point.n) ((crossed p (way edge) *ℤ height_over side c) +ℤ (((pos point.n *ℤ pos width.k) -ℤ crossed p (way edge)) *ℤ swept side)) (omega (arith, ints, positive)) (omega (arith, ints, one, other)) in
        omega (arith, ints, margin_at, more))

-- ---- parts of fans

module _ (n : ℕ) (x y vx vy ax ay bx by : ℤ) where
  from_corner : cross ((vx +ℤ ax) -ℤ vx) ((vy +ℤ ay) -ℤ vy) (x -ℤ (pos n *ℤ vx)) (y -ℤ (pos n *ℤ vy)) ≡ cross ax ay (x -ℤ (pos n *ℤ vx)) (y -ℤ (pos n *ℤ vy))
  from_corner =
      let out = λ (z at : ℤ). minus (number z) (times (n_of n) (number at)) in
      let step = λ (v c : ℤ). minus (plus (number v) (number c)) (number v) in
      identity (minus (times (step vx ax) (out y vy)) (times (step vy ay) (out x vx))) (minus (times (number ax) (out y vy)) (times (number ay) (out x vx))) (omega arith)

  upto_corner : cross (vx -ℤ (vx +ℤ bx)) (vy -ℤ (vy +ℤ by)) (x -ℤ (pos n *ℤ (vx +ℤ bx))) (y -ℤ (pos n *ℤ (vy +ℤ by))) ≡ cross (x -ℤ (pos n *ℤ vx)) (y -ℤ (pos n *ℤ vy)) bx by
  upto_corner =
      let out = λ (z : ℤ) (t : Term). minus (number z) (times (n_of n) t) in
      let at = λ (v c : ℤ). plus (number v) (number c) in
      identity (minus (times (minus (number vx) (at vx bx)) (out y (at vy by))) (times (minus (number vy) (at vy by)) (out x (at vx bx))))
      (minus (times (out x (number vx)) (number by)) (times (out y (number vy)) (number bx))) (omega arith)

  before_side : cross ((vx +ℤ bx) -ℤ (vx +ℤ ax)) ((vy +ℤ by) -ℤ (vy +ℤ ay)) (x -ℤ (pos n *ℤ (vx +ℤ ax))) (y -ℤ (pos n *ℤ (vy +ℤ ay)))
      ≡ (((pos n *ℤ cross ax ay bx by) -ℤ cross ax ay (x -ℤ (pos n *ℤ vx)) (y -ℤ (pos n *ℤ vy))) -ℤ cross (x -ℤ (pos n *ℤ vx)) (y -ℤ (pos n *ℤ vy)) bx by)
  before_side =
      let out = λ (z : ℤ) (t : Term). minus (number z) (times (n_of n) t) in
      let at = λ (v c : ℤ). plus (number v) (number c) in
      identity (minus (times (minus (at vx bx) (at vx ax)) (out y (at vy ay))) (times (minus (at vy by) (at vy ay)) (out x (at vx ax))))
      (minus (minus (times (n_of n) (minus (times (number ax) (number by)) (times (number ay) (number bx)))) (minus (times (number ax) (out y (number vy))) (times (number ay) (out x (number vx)))))
      (minus (times (out x (number vx)) (number by)) (times (out y (number vy)) (number bx)))) (omega arith)

-- how much of a side is left of a sum of parts of two corners
two_left : (d k t l : ℤ) (side : Edge) (p a b : Point) → (d *ℤ p.x) ≡ ((t *ℤ a.x) +ℤ (l *ℤ b.x)) → (d *ℤ p.y) ≡ ((t *ℤ a.y) +ℤ (l *ℤ b.y))
    → (d *ℤ cross (way side).x (way side).y (p.x -ℤ (k *ℤ side.x0)) (p.y -ℤ (k *ℤ side.y0))) ≡ (((t *ℤ height_over side a) +ℤ (l *ℤ height_over side b)) +ℤ ((((k *ℤ d) -ℤ t) -ℤ l) *ℤ swept side))
two_left d k t l side p a b along_x along_y =
    let start = term (start_of side) in
    let end = term (end_of side) in
    let run = less_terms end start in
    let off = λ (z : ℤ) (s : ℤ). minus (number z) (times (number k) (number s)) in
    let at = λ (u v s : ℤ). minus (plus (times (number t) (number u)) (times (number l) (number v))) (times (times (number k) (number d)) (number s)) in
    identity (times (number d) (minus (times run.x (off p.y side.y0)) (times run.y (off p.x side.x0))))
    (minus (times run.x (minus (times (number d) (number p.y)) (times (times (number k) (number d)) (number side.y0)))) (times run.y (minus (times (number d) (number p.x)) (times (times (number k) (number d)) (number side.x0))))) (omega arith)
    ∙ ap₂ (λ (u v : ℤ). ((side.x1 -ℤ side.x0) *ℤ (u -ℤ ((k *ℤ d) *ℤ side.y0))) -ℤ ((side.y1 -ℤ side.y0) *ℤ (v -ℤ ((k *ℤ d) *ℤ side.x0)))) along_y along_x
    ∙ identity (minus (times run.x (at a.y b.y side.y0)) (times run.y (at a.x b.x side.x0)))
    (plus (plus (times (number t) (crossing run (less_terms (term a) start))) (times (number l) (crossing run (less_terms (term b) start)))) (times (minus (minus (times (number k) (number d)) (number t)) (number l)) (crossing start end))) (omega arith)

end-of : (edge : Edge) → IsOf edge (whole (end_of edge))
end-of edge = (1, record { share = omega arith; x = last edge.x0 edge.x1; y = last edge.y0 edge.y1 })
  where
    last : (u v : ℤ) → v ≡ ((pos 1 *ℤ u) +ℤ (pos 1 *ℤ (v -ℤ u)))
    last u v = identity (number v) (plus (times (n_of 1) (number u)) (times (n_of 1) (minus (number v) (number u)))) (omega arith)

-- A point of the triangle between a point and a way from corner to corner, left of which the origin lies, is of the sum where it
-- isn't on the moved way.
pub sum-of_part : (outer : ℤ) (edges : List Edge) (corners : List Point) → IsConvexAroundOrigin corners → HaveNear outer edges → (point : RationalPoint) (edge : Edge) → Contains edges edge
    → (side : Edge) → pos 0 <ℤ swept side → Contains corners (start_of side) → Contains corners (end_of side)
    → pos 0 ≤ℤ left_by (edge_between (end_of edge) (moved (end_of edge) (start_of side))) point → pos 0 ≤ℤ left_by (moved_edge (end_of edge) side) point
    → pos 0 ≤ℤ left_by (edge_between (moved (end_of edge) (end_of side)) (end_of edge)) point
    → ¬ (GoesThrough (moved_edge (end_of edge) side) point) → IsOfSumBeyond outer edges corners point
sum-of_part outer edges corners convex near point edge among side some start_held end_held from before upto off =
    found (natural (swept side) (omega (arith, ints, some))) (natural (cross a.x a.y p.x p.y) (let is = from_corner point.n point.x point.y v.x v.y a.x a.y b.x b.y in omega (arith, ints, is, from)))
  where
    v : Point
    v = end_of edge

    a : Point
    a = start_of side

    b : Point
    b = end_of side

    p : Point
    p = seen point v

    corner-left : (other : Edge) → Contains (sides corners) other → (c : Point) → Contains corners c → pos 0 ≤ℤ height_over other c
    corner-left other other_held c c_held = All-contains (λ (d : Point). pos 0 ≤ℤ height_over other d) corners c (All-contains (λ (e : Edge). All (λ (d : Point). pos 0 ≤ℤ height_over e d) corners) (sides corners) other convex.convex other_held) c_held

    found : Natural (swept side) → Natural (cross a.x a.y p.x p.y) → IsOfSumBeyond outer edges corners point
    found width share =
        let is = width.is in
        let share_is = share.is in
        let wide : 0 < width.k = (let above = some in omega (arith, ints, is, above)) in
        let upto_at = upto_corner point.n point.x point.y v.x v.y a.x a.y b.x b.y in
        let before_at = before_side point.n point.x point.y v.x v.y a.x a.y b.x b.y in
        let less : pos 0 <ℤ left_by (moved_edge v side) point =
        by_lt_z (pos 0) (left_by (moved_edge v side) point) (λ above. above)
        (λ back. absurd (off (on-side width.k share.k is share_is wide (omega (arith, ints, before, back))))) in
        sum-near outer edges corners near point (whole v) edge among (end-of edge)
        (λ other other_held.
        let sweeps = All-contains (λ (e : Edge). pos 0 <ℤ swept e) (sides corners) other convex.left other_held in
        let above = some in
        let one = above-product (crossed p b) (height_over other a) (omega (arith, ints, upto, upto_at)) (corner-left other other_held a start_held) in
        let two = above-product (crossed a p) (height_over other b) (omega (arith, ints, share_is)) (corner-left other other_held b end_held) in
        let three = positive-product (((pos point.n *ℤ swept side) -ℤ crossed p b) -ℤ crossed a p) (swept other) (omega (arith, ints, less, before_at)) sweeps in
        let sum = two_left (swept side) (pos point.n) (crossed p b) (crossed a p) other p a b (cramer_x a b p) (cramer_y a b p) in
        let strict = positive-factor (swept side) (cross (way other).x (way other).y (p.x -ℤ (pos point.n *ℤ other.x0)) (p.y -ℤ (pos point.n *ℤ other.y0))) above (omega (arith, ints, one, two, three, sum)) in
        subst (λ (z : ℤ). pos 0 <ℤ z) (sym (margin-whole other)) strict)
      where
        margin-whole : (other : Edge) → margin point (whole v) other ≡ cross (way other).x (way other).y (p.x -ℤ (pos point.n *ℤ other.x0)) (p.y -ℤ (pos point.n *ℤ other.y0))
        margin-whole other = ap₂ (λ (s t : ℤ). cross (way other).x (way other).y s t) (once point.n point.x v.x other.x0) (once point.n point.y v.y other.y0)
          where
            once : (n : ℕ) (z u s : ℤ) → (((pos 1 *ℤ z) -ℤ (pos n *ℤ u)) -ℤ (pos (n * 1) *ℤ s)) ≡ ((z -ℤ (pos n *ℤ u)) -ℤ (pos n *ℤ s))
            once n z u s =
                identity (minus (minus (times (n_of 1) (number z)) (times (n_of n) (number u))) (times (n_of (n * 1)) (number s))) (minus (minus (number z) (times (n_of n) (number u))) (times (n_of n) (number s))) (omega arith)

        on-side : (w k : ℕ) → swept side ≡ pos w → cross a.x a.y p.x p.y ≡ pos k → 0 < w → left_by (moved_edge v side) point ≡ pos 0 → GoesThrough (moved_edge v side) point
        on-side w k w_is k_is wide level =
            let before_at = before_side point.n point.x point.y v.x v.y a.x a.y b.x b.y in
            let upto_at = upto_corner point.n point.x point.y v.x v.y a.x a.y b.x b.y in
            let all = ap (λ z. pos point.n *ℤ z) w_is in
            let product = identity (times (n_of point.n) (n_of w)) (n_of (point.n * w)) (omega arith) in
            let rest : crossed p b ≡ ((pos point.n *ℤ pos w) -ℤ pos k) = omega (arith, ints, level, before_at, all, k_is) in (
              record {
                n = point.n * w;
                x = (pos (point.n * w) *ℤ (v.x +ℤ a.x)) +ℤ (pos k *ℤ ((v.x +ℤ b.x) -ℤ (v.x +ℤ a.x)));
                y = (pos (point.n * w) *ℤ (v.y +ℤ a.y)) +ℤ (pos k *ℤ ((v.y +ℤ b.y) -ℤ (v.y +ℤ a.y)));
                positive = mul-pos point.positive wide;
              },
              (k, record { share = omega (arith, ints, rest, product, upto, upto_at); x = refl; y = refl }),
              record {
                x = same point.n w k point.x v.x a.x b.x (sym (ap (λ z. z *ℤ p.x) w_is) ∙ cramer_x a b p ∙ ap₂ (λ (s t : ℤ). (s *ℤ a.x) +ℤ (t *ℤ b.x)) rest k_is);
                y = same point.n w k point.y v.y a.y b.y (sym (ap (λ z. z *ℤ p.y) w_is) ∙ cramer_y a b p ∙ ap₂ (λ (s t : ℤ). (s *ℤ a.y) +ℤ (t *ℤ b.y)) rest k_is);
              },
            )
          where
            same : (n w k : ℕ) (z u c d : ℤ) → (pos w *ℤ (z -ℤ (pos n *ℤ u))) ≡ ((((pos n *ℤ pos w) -ℤ pos k) *ℤ c) +ℤ (pos k *ℤ d)) → (pos n *ℤ ((pos (n * w) *ℤ (u +ℤ c)) +ℤ (pos k *ℤ ((u +ℤ d) -ℤ (u +ℤ c))))) ≡ (pos (n * w) *ℤ z)
            same n w k z u c d is =
                let at = λ (t : ℤ). plus (number u) (number t) in
                identity (times (n_of n) (plus (times (n_of (n * w)) (at c)) (times (n_of k) (minus (at d) (at c)))))
                (plus (times (n_of n) (minus (plus (times (minus (times (n_of n) (n_of w)) (n_of k)) (number c)) (times (n_of k) (number d))) (times (n_of w) (minus (number z) (times (n_of n) (number u)))))) (times (n_of (n * w)) (number z))) (omega arith)
                ∙ ap (λ t. (pos n *ℤ (((((pos n *ℤ pos w) -ℤ pos k) *ℤ c) +ℤ (pos k *ℤ d)) -ℤ t)) +ℤ (pos (n * w) *ℤ z)) is
                ∙ identity (plus (times (n_of n) (minus (plus (times (minus (times (n_of n) (n_of w)) (n_of k)) (number c)) (times (n_of k) (number d))) (plus (times (minus (times (n_of n) (n_of w)) (n_of k)) (number c)) (times (n_of k) (number d))))) (times (n_of (n * w)) (number z)))
                (times (n_of (n * w)) (number z)) (omega arith)

-- ---- all together

module _ (corners : List Point) (convex : IsConvexAroundOrigin corners) where
  -- A side goes from a corner to a corner.
  pub end-held : (side : Edge) → Contains (sides corners) side → Contains corners (end_of side)
  end-held side held =
      let (next, pair) = next-held (sides corners) side held in
      subst (λ (c : Point). Contains corners c) (sym (All-contains IsJoined (neighbours (sides corners)) (side, next) (ring-joined corners) pair))
      (start-held corners next (neighbours-held (sides corners) side next pair).1)

  -- The corner furthest to the right of an edge is one of them.
  pub furthest-held : (edge : Edge) → start_of edge ≢ end_of edge → Contains corners (furthest corners edge)
  furthest-held edge proper =
      let (two, pair, is) = furthest-pair corners convex edge proper in
      subst (λ (c : Point). Contains corners c) (furthest-is corners convex edge two pair is) (start-held corners two.1 (neighbours-held (sides corners) two.0 two.1 pair).1)

  module _ (outer : ℤ) (rings : List (List Point)) (proper : All (λ edge. start_of edge ≢ end_of edge) (flat_map ring_edges rings)) (near : HaveNear outer (flat_map ring_edges rings)) (point : RationalPoint) where
    module _ (off_moved : (edge next : Edge) → Follows rings edge next → ¬ (GoesThrough (moved_edge (furthest corners edge) edge) point))
        (off_side : (edge next side : Edge) → Follows rings edge next → pos 0 <ℤ turn edge next → Contains (fan corners edge next) side → ¬ (GoesThrough (moved_edge (end_of edge) side) point)) where
      of-band : IsInBand corners rings point → IsOfSumBeyond outer (flat_map ring_edges rings) corners point
      of-band is =
          let held = (follows-held corners convex rings proper is.edge is.next is.follows).0 in
          let real = All-contains (λ (e : Edge). start_of e ≢ end_of e) (flat_map ring_edges rings) is.edge proper held in
          sum-of_band outer (flat_map ring_edges rings) corners convex near point is.edge held (furthest corners is.edge) (furthest-held is.edge real) (furthest-beside corners convex is.edge real)
          is.behind is.from is.before is.upto
          (off_moved is.edge is.next is.follows)

      of-part : IsInPart corners rings point → IsOfSumBeyond outer (flat_map ring_edges rings) corners point
      of-part is =
          let held = (follows-held corners convex rings proper is.edge is.next is.follows).0 in
          let side_held = fan-held corners convex point is.edge is.next is.side is.among in
          sum-of_part outer (flat_map ring_edges rings) corners convex near point is.edge held is.side (All-contains (λ (e : Edge). pos 0 <ℤ swept e) (sides corners) is.side convex.left side_held) (start-held corners is.side side_held) (end-held is.side side_held)
          is.from is.before is.upto
          (off_side is.edge is.next is.side is.follows is.left is.among)

      -- Where the raw curve winds so around a point that is on no edge moved, and on no side of a fan, this is of the sum.
      pub not-too-much-off : winding (raw_edges corners rings) point ≢ outer → IsOfSumBeyond outer (flat_map ring_edges rings) corners point
      not-too-much-off winds =
          ⊎_elim (λ wound. sum-itself outer (flat_map ring_edges rings) corners convex point wound) (λ parts. ⊎_elim of-band of-part parts) (raw-some corners convex rings proper point outer winds)

    -- So it is where the raw curve winds so around a point that isn't of it.
    pub not-too-much : All (λ edge. ¬ (GoesThrough edge point)) (raw_edges corners rings) → winding (raw_edges corners rings) point ≢ outer → IsOfSumBeyond outer (flat_map ring_edges rings) corners point
    not-too-much off =
        not-too-much-off
        (λ edge next follows. All-contains (λ (e : Edge). ¬ (GoesThrough e point)) (raw_edges corners rings) (moved_edge (furthest corners edge) edge) off (moved-held corners convex rings proper edge next follows))
        (λ edge next side follows left among. All-contains (λ (e : Edge). ¬ (GoesThrough e point)) (raw_edges corners rings) (moved_edge (end_of edge) side) off (side-held corners convex rings proper edge next side follows left among))
