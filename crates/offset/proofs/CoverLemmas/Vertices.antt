-- The nearest point of edges, where it is an end of them.
use Rattle.std.proofs.Common.{List, ap, arith, pos, refl, subst, ℕ, ℤ, ◌*ℤ◌, ◌+ℤ◌, ◌+◌, ◌-ℤ◌, ◌<ℤ◌, ◌<◌, ◌≡◌, ◌≤ℤ◌, ◌∙◌}
use Rattle.std.specs.Prelude.{Contains}
use Rattle.std.proofs.lemmas.Int.{ints}
use borrow.Author.Differences.{down, up}
use Rattle.plane.specs.declared.edge.Edge.{Edge}
use Rattle.plane.specs.declared.point.Point.{Point}
use Rattle.plane.specs.Ends.{end_of, start_of}
use Rattle.plane.specs.Meet.Edges.{IsAtShare, IsOf, RationalPoint}
use Rattle.plane.proofs.MeetLemmas.Identities.{Term, identity, minus, number, plus, times}
use Rattle.offset.proofs.CoverLemmas.Meets.{meets-at_start}
use Rattle.offset.proofs.CoverLemmas.Near.{one_times}
use Rattle.offset.proofs.CoverLemmas.Numbers.{above-factor, none, positive-product, scaled-most}
use Rattle.offset.proofs.CoverLemmas.Shapes.{IsShape, IsTop, between-top, reach-ends}
use Rattle.offset.proofs.CoverLemmas.Sides.{MeetsAtStart, ahead, ahead-end, apart, apart-at, apart-whole, whole}
use Rattle.offset.proofs.CoverLemmas.Vectors.{crossed, crossing, reach, term, way, wide}

-- From here the way to the point goes through the inside of this side, if it goes so far, and no point of the edges is nearer.
pub record IsVertex (sides edges : List Edge) (point : RationalPoint) (vertex : Point) (side : Edge) : Type 0 where
  pub of : Contains sides side
  pub after : crossed (ahead point vertex) (start_of side) <ℤ pos 0
  pub before : pos 0 <ℤ crossed (ahead point vertex) (end_of side)
  pub least : (edge : Edge) (other : RationalPoint) (other_side : Edge) → Contains edges edge → IsOf edge other → IsTop sides (apart point other) other_side → (reach side (ahead point vertex) *ℤ (pos other.n *ℤ wide other_side)) ≤ℤ (reach other_side (apart point other) *ℤ wide side)
  pub within : reach side (ahead point vertex) ≤ℤ (pos point.n *ℤ wide side)

-- it does reach that side
pub vertex-reach : (sides edges : List Edge) (point : RationalPoint) (vertex : Point) (side : Edge) → IsVertex sides edges point vertex side → pos 0 <ℤ reach side (ahead point vertex)
vertex-reach sides edges point vertex side is =
    let after = is.after in
    let before = is.before in
    let sum = reach-ends side (ahead point vertex) in
    omega (arith, ints, after, before, sum)

-- The way on from there meets no edge.
pub vertex-meets : (sides : List Edge) (pairs : List (Edge × Edge)) → IsShape sides pairs → (edges : List Edge) (point : RationalPoint) (vertex : Point) (side : Edge) → IsVertex sides edges point vertex side → MeetsAtStart edges (whole vertex) point
vertex-meets sides pairs shape edges point vertex side is =
    let after = is.after in
    let before = is.before in
    let to_start = apart-whole point vertex (start_of side) in
    let to_end = apart-whole point vertex (end_of side) in
    let to_side = apart-whole point vertex (way side) in
    let far = vertex-reach sides edges point vertex side is in
    meets-at_start sides edges point (whole vertex) side
    (between-top sides pairs shape (apart point (whole vertex)) side is.of (omega (arith, ints, after, to_start)) (omega (arith, ints, before, to_end)))
    (shape.around side is.of)
    (omega (arith, ints, far, to_side))
    (λ edge other other_side of_edges of is_other.
    let least = is.least edge other other_side of_edges of is_other in
    let first = ap (λ z. z *ℤ (pos other.n *ℤ wide other_side)) to_side in
    let second = ap (λ z. reach other_side (apart point other) *ℤ z) (one_times (wide side)) in
    omega (arith, ints, least, first, second))

-- ---- edges at the vertex

-- a number below 0, times more than another number, and that
drowned : (k : ℕ) (z w : ℤ) → z <ℤ pos 0 → up w + down w < k → ((pos k *ℤ z) +ℤ w) ≤ℤ pos 0
drowned k z w below more =
    let most = scaled-most (pos k) z (pos 0 -ℤ pos 1) (omega (arith, ints)) (omega (arith, ints, below)) in
    let same = identity (times (number (pos k)) (minus none (number (pos 1)))) (minus none (number (pos k))) (omega arith) in
    omega (arith, ints, most, same, more)

drowned_above : (k : ℕ) (z w : ℤ) → pos 0 <ℤ z → up w + down w < k → pos 0 ≤ℤ ((pos k *ℤ z) +ℤ w)
drowned_above k z w above more =
    let most = scaled-most (pos k) (pos 1) z (omega (arith, ints)) (omega (arith, ints, above)) in
    let same = identity (times (number (pos k)) (number (pos 1))) (number (pos k)) (omega arith) in
    omega (arith, ints, most, same, more)

-- a point as near to the vertex as wanted, in a direction along an edge
abbrev IsMoved : Edge → RationalPoint → Point → Point → Type 0
IsMoved edge point vertex direction =
    (k : ℕ) → (other : RationalPoint) × IsOf edge other × (other.n ≡ k + 1) × ((f : Point) → crossed (apart point other) f ≡ ((pos (k + 1) *ℤ crossed (ahead point vertex) f) +ℤ (pos point.n *ℤ crossed direction f)))

less-near : (r m w n d : ℤ) → pos 0 <ℤ n → pos 0 <ℤ w → (r *ℤ (m *ℤ w)) ≤ℤ (((m *ℤ r) +ℤ (n *ℤ d)) *ℤ w) → pos 0 ≤ℤ d
less-near r m w n d n_some w_some most =
    let v = λ (z : ℤ). number z in
    let by = λ (s t : Term). times s t in
    let same = identity (minus (by (plus (by (v m) (v r)) (by (v n) (v d))) (v w)) (by (v r) (by (v m) (v w)))) (by (by (v n) (v w)) (v d)) (omega arith) in
    above-factor (n *ℤ w) d (positive-product n w n_some w_some) (omega (arith, ints, most, same))

not-nearer : (sides : List Edge) (pairs : List (Edge × Edge)) → IsShape sides pairs → (edges : List Edge) (point : RationalPoint) (vertex : Point) (side : Edge) → IsVertex sides edges point vertex side → (edge : Edge) (direction : Point) → Contains edges edge → IsMoved edge point vertex direction → pos 0 ≤ℤ crossed direction (way side)
not-nearer sides pairs shape edges point vertex side is edge direction of_edges moved =
    let x = ahead point vertex in
    let first = pos point.n *ℤ crossed direction (start_of side) in
    let second = pos point.n *ℤ crossed direction (end_of side) in
    let k = (up first + down first) + (up second + down second) in
    let (other, of, over, at) = moved k in
    let to_start = at (start_of side) in
    let to_end = at (end_of side) in
    let after = drowned (k + 1) (crossed x (start_of side)) first is.after (omega arith) in
    let before = drowned_above (k + 1) (crossed x (end_of side)) second is.before (omega arith) in
    let is_top = between-top sides pairs shape (apart point other) side is.of (omega (arith, ints, to_start, after)) (omega (arith, ints, to_end, before)) in
    let least = is.least edge other side of_edges of is_top in
    let at_side = at (way side) in
    let some = point.positive in
    let there : (reach side x *ℤ (pos (k + 1) *ℤ wide side)) ≤ℤ (reach side (apart point other) *ℤ wide side) = subst (λ (n : ℕ). (reach side x *ℤ (pos n *ℤ wide side)) ≤ℤ (reach side (apart point other) *ℤ wide side)) over least in
    less-near (reach side x) (pos (k + 1)) (wide side) (pos point.n) (crossed direction (way side)) (omega (arith, ints, some)) (shape.around side is.of)
    (subst (λ (z : ℤ). (reach side x *ℤ (pos (k + 1) *ℤ wide side)) ≤ℤ (z *ℤ wide side)) at_side there)

-- along an edge that starts there, and back along one that ends there
moved-forth : (edge : Edge) (point : RationalPoint) → IsMoved edge point (start_of edge) (record { x = pos 0 -ℤ (way edge).x; y = pos 0 -ℤ (way edge).y })
moved-forth edge point k =
    let other : RationalPoint = record {
      n = k + 1;
      x = (pos (k + 1) *ℤ edge.x0) +ℤ (pos 1 *ℤ (edge.x1 -ℤ edge.x0));
      y = (pos (k + 1) *ℤ edge.y0) +ℤ (pos 1 *ℤ (edge.y1 -ℤ edge.y0));
      positive = omega arith;
    } in
    let at : IsAtShare edge other 1 = record {
      share = omega arith;
      x = refl;
      y = refl;
    } in
    let d = way edge in
    let x = ahead point (start_of edge) in (
      other,
      (1, at),
      refl,
      λ f.
          apart-at edge point other 1 f at
          ∙ identity
          (minus (times (number (pos (k + 1))) (number (crossed x f))) (times (times (number (pos point.n)) (number (pos 1))) (crossing (term d) (term f))))
          (plus (times (number (pos (k + 1))) (number (crossed x f))) (times (number (pos point.n)) (minus (times (minus none (number d.x)) (number f.y)) (times (minus none (number d.y)) (number f.x)))))
          (omega arith),
    )

moved-back : (edge : Edge) (point : RationalPoint) → IsMoved edge point (end_of edge) (way edge)
moved-back edge point k =
    let other : RationalPoint = record {
      n = k + 1;
      x = (pos (k + 1) *ℤ edge.x0) +ℤ (pos k *ℤ (edge.x1 -ℤ edge.x0));
      y = (pos (k + 1) *ℤ edge.y0) +ℤ (pos k *ℤ (edge.y1 -ℤ edge.y0));
      positive = omega arith;
    } in
    let at : IsAtShare edge other k = record {
      share = omega arith;
      x = refl;
      y = refl;
    } in
    let d = way edge in
    let x = ahead point (start_of edge) in
    let more : pos (k + 1) ≡ (pos k +ℤ pos 1) = omega (arith, ints) in (
      other,
      (k, at),
      refl,
      λ f.
          let start = apart-at edge point other k f at in
          let swap = ap (λ z. pos (k + 1) *ℤ z) (ahead-end edge point f) in
          let one = ap (λ z. z *ℤ (pos point.n *ℤ crossed d f)) more in
          let split = identity (times (number (pos (k + 1))) (minus (number (crossed x f)) (times (number (pos point.n)) (number (crossed d f))))) (minus (times (number (pos (k + 1))) (number (crossed x f))) (times (number (pos (k + 1))) (times (number (pos point.n)) (number (crossed d f))))) (omega arith) in
          let apart_more = identity (times (plus (number (pos k)) (number (pos 1))) (times (number (pos point.n)) (number (crossed d f)))) (plus (times (times (number (pos point.n)) (number (pos k))) (number (crossed d f))) (times (number (pos point.n)) (number (crossed d f)))) (omega arith) in
          omega (arith, ints, start, swap, one, split, apart_more),
    )

-- Each edge that ends there goes away from the side, or along it.
pub ends-below : (sides : List Edge) (pairs : List (Edge × Edge)) → IsShape sides pairs → (edges : List Edge) (point : RationalPoint) (vertex : Point) (side : Edge) → IsVertex sides edges point vertex side → (edge : Edge) → Contains edges edge → end_of edge ≡ vertex → pos 0 ≤ℤ crossed (way edge) (way side)
ends-below sides pairs shape edges point vertex side is edge of_edges at =
    not-nearer sides pairs shape edges point vertex side is edge (way edge) of_edges (subst (λ (v : Point). IsMoved edge point v (way edge)) at (moved-back edge point))

-- So does each that starts there.
pub starts-below : (sides : List Edge) (pairs : List (Edge × Edge)) → IsShape sides pairs → (edges : List Edge) (point : RationalPoint) (vertex : Point) (side : Edge) → IsVertex sides edges point vertex side → (edge : Edge) → Contains edges edge → start_of edge ≡ vertex → crossed (way edge) (way side) ≤ℤ pos 0
starts-below sides pairs shape edges point vertex side is edge of_edges at =
    let d = way edge in
    let f = way side in
    let direction : Point = record { x = pos 0 -ℤ d.x; y = pos 0 -ℤ d.y } in
    let above = not-nearer sides pairs shape edges point vertex side is edge direction of_edges (subst (λ (v : Point). IsMoved edge point v direction) at (moved-forth edge point)) in
    let turned = identity (minus (times (minus none (number d.x)) (number f.y)) (times (minus none (number d.y)) (number f.x))) (minus none (crossing (term d) (term f))) (omega arith) in
    omega (arith, ints, above, turned)
