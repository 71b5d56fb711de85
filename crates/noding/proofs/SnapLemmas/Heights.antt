-- A piece and its edge are on the same side of a point that isn't near the edge.
use Rattle.std.proofs.Common.{ap, arith, pos, sym, ℕ, ℤ, ◌*ℤ◌, ◌*◌, ◌+ℤ◌, ◌-ℤ◌, ◌<ℤ◌, ◌<◌, ◌∙◌, ◌≡◌, ◌≤ℤ◌, ◌≤◌}
use Rattle.std.proofs.Math.Nat.{mul-le-mul_left, mul-pos}
use Rattle.std.proofs.lemmas.Int.{by_lt_z, ints}
use Rattle.plane.specs.declared.edge.Edge.{Edge}
use Rattle.plane.specs.Meet.Edges.{IsOf, RationalPoint}
use Rattle.plane.specs.SweepLine.Heights.{run}
use Rattle.noding.specs.Chains.{Passes}
use Rattle.noding.specs.Near.{IsNear}
use Rattle.noding.proofs.SnapLemmas.Near.{IsNear-piece, IsNear-itself, IsNear-upright}
use Rattle.noding.proofs.SnapLemmas.Numbers.{below, below_of, n_of, natural, same_test}
use Rattle.noding.proofs.SnapLemmas.Counted.{height_at, is_low}
use Rattle.plane.proofs.MeetLemmas.Identities.{at_most, at_most_of, identity, minus, number, plus, same_of, times}

-- it goes rightwards and covers the point's x
pub record Covering (edge : Edge) (point : RationalPoint) : Type 0 where
  pub from : (pos point.n *ℤ edge.x0) ≤ℤ point.x
  pub before : point.x <ℤ (pos point.n *ℤ edge.x1)

-- only an edge that goes rightwards covers a point
pub onwards : (edge : Edge) (point : RationalPoint) → Covering edge point → edge.x0 <ℤ edge.x1
onwards edge point c =
    by_lt_z edge.x0 edge.x1 (λ some. some)
    (λ back.
    let scaled = mul-le-mul_left point.n (at_most_of (number edge.x1) (number edge.x0) back) in
    let upto = at_most (times (n_of point.n) (number edge.x1)) (times (n_of point.n) (number edge.x0)) (omega (arith, scaled)) in
    let from = c.from in
    let before = c.before in
    absurd (omega (arith, ints, upto, from, before)))

-- the edge's point at the point's x, by the edge's run
abbrev at_x : (edge : Edge) (point : RationalPoint) (r : ℕ) → 0 < r → RationalPoint
at_x edge point r some = record {
  n = r * point.n;
  x = pos r *ℤ point.x;
  y = height_at edge point;
  positive = mul-pos some point.positive;
}

-- the share of the edge's point at the point's x is how far it is from the start
pub share_x : (n r a : ℕ) (p x0 w : ℤ) → w ≡ pos r → (p -ℤ (pos n *ℤ x0)) ≡ pos a → (pos r *ℤ p) ≡ ((pos (r * n) *ℤ x0) +ℤ (pos a *ℤ w))
share_x n r a p x0 w is_run is_share =
    let one = ap (λ k. a * k) (same_of (number w) (n_of r) is_run) in
    let two = ap (λ k. r * k) (same_of (minus (number p) (times (n_of n) (number x0))) (n_of a) is_share) in
    identity (times (n_of r) (number p)) (plus (times (n_of (r * n)) (number x0)) (times (n_of a) (number w))) (omega (arith, one, two))

pub share_y : (n r a : ℕ) (p x0 x1 y0 y1 : ℤ) → (x1 -ℤ x0) ≡ pos r → (p -ℤ (pos n *ℤ x0)) ≡ pos a → ((y0 *ℤ ((pos n *ℤ x1) -ℤ p)) +ℤ (y1 *ℤ (p -ℤ (pos n *ℤ x0)))) ≡ ((pos (r * n) *ℤ y0) +ℤ (pos a *ℤ (y1 -ℤ y0)))
share_y n r a p x0 x1 y0 y1 is_run is_share =
    let share = minus (number p) (times (n_of n) (number x0)) in
    let width = minus (number x1) (number x0) in
    let height = plus (times (number y0) (minus (times (n_of n) (number x1)) (number p))) (times (number y1) share) in
    identity height (plus (times (times width (n_of n)) (number y0)) (times share (minus (number y1) (number y0)))) (omega arith)
    ∙ ap (λ w. ((w *ℤ pos n) *ℤ y0) +ℤ ((p -ℤ (pos n *ℤ x0)) *ℤ (y1 -ℤ y0))) is_run
    ∙ ap (λ s. ((pos r *ℤ pos n) *ℤ y0) +ℤ (s *ℤ (y1 -ℤ y0))) is_share
    ∙ identity (plus (times (times (n_of r) (n_of n)) (number y0)) (times (n_of a) (minus (number y1) (number y0)))) (plus (times (n_of (r * n)) (number y0)) (times (n_of a) (minus (number y1) (number y0)))) (omega arith)

-- it is a share
share_upto : (n r a : ℕ) (p x0 x1 : ℤ) → (x1 -ℤ x0) ≡ pos r → (p -ℤ (pos n *ℤ x0)) ≡ pos a → p <ℤ (pos n *ℤ x1) → a ≤ r * n
share_upto n r a p x0 x1 is_run is_share before =
    let one = ap (λ k. n * k) (same_of (minus (number x1) (number x0)) (n_of r) is_run) in
    let two = same_of (minus (number p) (times (n_of n) (number x0))) (n_of a) is_share in
    let three = below_of (number p) (times (n_of n) (number x1)) before in
    omega (arith, one, two, three)

of-at_x : (edge : Edge) (point : RationalPoint) (r : ℕ) (some : 0 < r) → run edge ≡ pos r → Covering edge point → IsOf edge (at_x edge point r some)
of-at_x edge point r some is_run c =
    let from = c.from in
    let share = natural (point.x -ℤ (pos point.n *ℤ edge.x0)) (omega (arith, ints, from)) in (
      share.k,
      record {
        share = share_upto point.n r share.k point.x edge.x0 edge.x1 is_run share.is c.before;
        x = share_x point.n r share.k point.x edge.x0 (edge.x1 -ℤ edge.x0) is_run share.is;
        y = share_y point.n r share.k point.x edge.x0 edge.x1 edge.y0 edge.y1 is_run share.is;
      },
    )

-- the edge's point at the point's x
pub record Height (edge : Edge) (point : RationalPoint) : Type 0 where
  pub other : RationalPoint
  pub of : IsOf edge other
  pub upright : (pos point.n *ℤ other.x) ≡ (pos other.n *ℤ point.x)
  pub low : height_at edge point ≤ℤ (point.y *ℤ run edge) → (pos point.n *ℤ other.y) ≤ℤ (pos other.n *ℤ point.y)
  pub high : (point.y *ℤ run edge) <ℤ height_at edge point → (pos other.n *ℤ point.y) <ℤ (pos point.n *ℤ other.y)

-- the tests of heights, as numbers over n
low_out : (n r : ℕ) (h p w : ℤ) → w ≡ pos r → h ≤ℤ (p *ℤ w) → (pos n *ℤ h) ≤ℤ (pos (r * n) *ℤ p)
low_out n r h p w is_run low =
    let there : h ≤ℤ (p *ℤ pos r) = rw (sym is_run) low in
    let scaled = mul-le-mul_left n (at_most_of (number h) (times (number p) (n_of r)) there) in
    at_most (times (n_of n) (number h)) (times (n_of (r * n)) (number p)) (omega (arith, scaled))

high_out : (n r : ℕ) (h p w : ℤ) → 0 < n → w ≡ pos r → (p *ℤ w) <ℤ h → (pos (r * n) *ℤ p) <ℤ (pos n *ℤ h)
high_out n r h p w some is_run high =
    let there : (p *ℤ pos r) <ℤ h = rw (sym is_run) high in
    let scaled = mul-le-mul_left n (below_of (times (number p) (n_of r)) (number h) there) in
    below (times (n_of (r * n)) (number p)) (times (n_of n) (number h)) (omega (arith, scaled, some))

-- an edge that covers a point has one
pub height_of : (edge : Edge) (point : RationalPoint) → Covering edge point → Height edge point
height_of edge point c =
    let some = onwards edge point c in
    let width = natural (run edge) (omega (arith, ints, some)) in
    let is = width.is in
    let wide : 0 < width.k = omega (arith, ints, some, is) in record {
      other = at_x edge point width.k wide;
      of = of-at_x edge point width.k wide width.is c;
      upright = identity (times (n_of point.n) (times (n_of width.k) (number point.x))) (times (n_of (width.k * point.n)) (number point.x)) (omega arith);
      low = low_out point.n width.k (height_at edge point) point.y (run edge) width.is;
      high = high_out point.n width.k (height_at edge point) point.y (run edge) point.positive width.is;
    }

-- at a point that isn't near the edge
pub same_side : (edge piece : Edge) (point : RationalPoint) → ¬ (IsNear edge point) → Passes edge piece.x0 piece.y0 → Passes edge piece.x1 piece.y1 → Covering edge point → Covering piece point → is_low piece point ≡ is_low edge point
same_side edge piece point far from_passes to_passes c d =
    let one = height_of edge point c in
    let other = height_of piece point d in
    let near = IsNear-itself edge one.other one.of in
    let near_too = IsNear-piece edge piece other.other from_passes to_passes other.of in
    same_test (height_at piece point) (point.y *ℤ run piece) (height_at edge point) (point.y *ℤ run edge)
    (λ low high. far (IsNear-upright edge other.other one.other point other.upright one.upright (other.low low) (one.high high) near_too near))
    (λ low high. far (IsNear-upright edge one.other other.other point one.upright other.upright (one.low low) (other.high high) near near_too))
