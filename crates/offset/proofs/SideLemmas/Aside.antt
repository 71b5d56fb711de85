-- What lies near a point: edges that don't have it are some way aside from it.
use Rattle.std.proofs.Common.{◌≡◌, ◌≢◌, ◌⊎◌, inl, inr, ℕ, zero, suc, ◌+◌, ◌*◌, ◌<◌, ◌≤◌, ℤ, pos, negsuc, ◌+ℤ◌, ◌-ℤ◌, ◌*ℤ◌, ◌<ℤ◌, ◌≤ℤ◌, List, [], ◌∷◌, ap, ap₂, sym, subst, ◌∙◌, arith}
use Rattle.std.specs.Int.{int_max, int_min}
use Rattle.std.specs.List.{Contains}
use Rattle.std.proofs.Math.Nat.{mul-pos}
use Rattle.std.proofs.lemmas.Int.{by_lt_z, clamps, ints}
use Rattle.i_tree.proofs.RootLemmas.Lists.{Contains-here, Contains-there}
use borrow.Author.Differences.{up}
use Rattle.plane.specs.declared.edge.Edge.{Edge}
use Rattle.plane.specs.declared.point.Point.{Point}
use Rattle.plane.specs.Ends.{end_of, start_of}
use Rattle.plane.specs.Meet.Edges.{IsOf, RationalPoint}
use Rattle.plane.proofs.MeetLemmas.Along.{flipped, goes, lies}
use Rattle.plane.proofs.MeetLemmas.Along.{over as exchanged}
use Rattle.plane.proofs.MeetLemmas.Boxes.{way_above, way_below}
use Rattle.plane.proofs.MeetLemmas.Identities.{Term, identity, minus, number, plus, scaled, times, unscaled}
use Rattle.noding.proofs.SnapLemmas.Numbers.{n_of}
use Rattle.overlay.proofs.UncrossedLemmas.Finer.{HasFinely, finely-flipped, lies-finely, scaled_edge, times-same}
use Rattle.offset.proofs.CoverLemmas.Sides.{IsOnWay, side_of}
use Rattle.offset.proofs.SideLemmas.Ways.{over}

-- How far (x, y) lies in the direction (u, v).
abbrev pub further : ℤ → ℤ → ℤ → ℤ → ℤ
further u v x y = (u *ℤ x) +ℤ (v *ℤ y)

-- Both ends of the edge lie further in some direction than the point.
pub record IsAside (edge : Edge) (point : RationalPoint) : Type 0 where
  pub u : ℤ
  pub v : ℤ
  pub start : further u v point.x point.y <ℤ (pos point.n *ℤ further u v edge.x0 edge.y0)
  pub end : further u v point.x point.y <ℤ (pos point.n *ℤ further u v edge.x1 edge.y1)

abbrev pub further_term : Term → Term → Term → Term → Term
further_term u v x y = plus (times u x) (times v y)

-- ---- each edge has a point, or is aside from it

module _ (edge : Edge) (point : RationalPoint) where
  abbrev side_term : Term
  side_term =
      minus (times (minus (number edge.x1) (number edge.x0)) (minus (number point.y) (times (n_of point.n) (number edge.y0))))
      (times (minus (number edge.y1) (number edge.y0)) (minus (number point.x) (times (n_of point.n) (number edge.x0))))

  abbrev gap_term : Term → Term → ℤ → ℤ → Term
  gap_term u v x y = minus (times (n_of point.n) (further_term u v (number x) (number y))) (further_term u v (number point.x) (number point.y))

  right-aside : side_of edge point <ℤ pos 0 → IsAside edge point
  right-aside right =
      let u = minus (number edge.y0) (number edge.y1) in
      let v = minus (number edge.x1) (number edge.x0) in
      let first = identity (gap_term u v edge.x0 edge.y0) (minus (n_of 0) side_term) (omega arith) in
      let second = identity (gap_term u v edge.x1 edge.y1) (minus (n_of 0) side_term) (omega arith) in
      record { u = edge.y0 -ℤ edge.y1; v = edge.x1 -ℤ edge.x0; start = omega (arith, ints, first, right); end = omega (arith, ints, second, right) }

  left-aside : pos 0 <ℤ side_of edge point → IsAside edge point
  left-aside left =
      let u = minus (number edge.y1) (number edge.y0) in
      let v = minus (number edge.x0) (number edge.x1) in
      let first = identity (gap_term u v edge.x0 edge.y0) side_term (omega arith) in
      let second = identity (gap_term u v edge.x1 edge.y1) side_term (omega arith) in
      record { u = edge.y1 -ℤ edge.y0; v = edge.x0 -ℤ edge.x1; start = omega (arith, ints, first, left); end = omega (arith, ints, second, left) }

  -- along x alone, or back
  onwards-is : (x y : ℤ) → further (pos 1) (pos 0) x y ≡ x
  onwards-is x y = identity (further_term (n_of 1) (n_of 0) (number x) (number y)) (number x) (omega arith)

  back-is : (x y : ℤ) → further (negsuc 0) (pos 0) x y ≡ (pos 0 -ℤ x)
  back-is x y = identity (further_term (number (negsuc 0)) (n_of 0) (number x) (number y)) (minus (n_of 0) (number x)) (omega arith)

  upwards-is : (x y : ℤ) → further (pos 0) (pos 1) x y ≡ y
  upwards-is x y = identity (further_term (n_of 0) (n_of 1) (number x) (number y)) (number y) (omega arith)

  down-is : (x y : ℤ) → further (pos 0) (negsuc 0) x y ≡ (pos 0 -ℤ y)
  down-is x y = identity (further_term (n_of 0) (number (negsuc 0)) (number x) (number y)) (minus (n_of 0) (number y)) (omega arith)

  turned : (z : ℤ) → (pos point.n *ℤ (pos 0 -ℤ z)) ≡ (pos 0 -ℤ (pos point.n *ℤ z))
  turned z = identity (times (n_of point.n) (minus (n_of 0) (number z))) (minus (n_of 0) (times (n_of point.n) (number z))) (omega arith)

  before-aside : point.x <ℤ (pos point.n *ℤ edge.x0) → point.x <ℤ (pos point.n *ℤ edge.x1) → IsAside edge point
  before-aside first second =
      let a = onwards-is point.x point.y in
      record {
        u = pos 1;
        v = pos 0;
        start = (let is = ap (λ (z : ℤ). pos point.n *ℤ z) (onwards-is edge.x0 edge.y0) in omega (arith, ints, a, is, first));
        end = (let is = ap (λ (z : ℤ). pos point.n *ℤ z) (onwards-is edge.x1 edge.y1) in omega (arith, ints, a, is, second));
      }

  behind-aside : (pos point.n *ℤ edge.x0) <ℤ point.x → (pos point.n *ℤ edge.x1) <ℤ point.x → IsAside edge point
  behind-aside first second =
      let a = back-is point.x point.y in
      record {
        u = negsuc 0;
        v = pos 0;
        start = (let is = ap (λ (z : ℤ). pos point.n *ℤ z) (back-is edge.x0 edge.y0) ∙ turned edge.x0 in omega (arith, ints, a, is, first));
        end = (let is = ap (λ (z : ℤ). pos point.n *ℤ z) (back-is edge.x1 edge.y1) ∙ turned edge.x1 in omega (arith, ints, a, is, second));
      }

  below-aside : point.y <ℤ (pos point.n *ℤ edge.y0) → point.y <ℤ (pos point.n *ℤ edge.y1) → IsAside edge point
  below-aside first second =
      let a = upwards-is point.x point.y in
      record {
        u = pos 0;
        v = pos 1;
        start = (let is = ap (λ (z : ℤ). pos point.n *ℤ z) (upwards-is edge.x0 edge.y0) in omega (arith, ints, a, is, first));
        end = (let is = ap (λ (z : ℤ). pos point.n *ℤ z) (upwards-is edge.x1 edge.y1) in omega (arith, ints, a, is, second));
      }

  above-aside : (pos point.n *ℤ edge.y0) <ℤ point.y → (pos point.n *ℤ edge.y1) <ℤ point.y → IsAside edge point
  above-aside first second =
      let a = down-is point.x point.y in
      record {
        u = pos 0;
        v = negsuc 0;
        start = (let is = ap (λ (z : ℤ). pos point.n *ℤ z) (down-is edge.x0 edge.y0) ∙ turned edge.y0 in omega (arith, ints, a, is, first));
        end = (let is = ap (λ (z : ℤ). pos point.n *ℤ z) (down-is edge.x1 edge.y1) ∙ turned edge.y1 in omega (arith, ints, a, is, second));
      }

  -- on its line: between its ends, or not
  line-is : side_of edge point ≡ pos 0 → ((point.x -ℤ (pos point.n *ℤ edge.x0)) *ℤ ((pos point.n *ℤ edge.y1) -ℤ (pos point.n *ℤ edge.y0))) ≡ ((point.y -ℤ (pos point.n *ℤ edge.y0)) *ℤ ((pos point.n *ℤ edge.x1) -ℤ (pos point.n *ℤ edge.x0)))
  line-is none =
      let gone = ap (λ (z : ℤ). pos point.n *ℤ z) none ∙ identity (times (n_of point.n) (n_of 0)) (n_of 0) (omega arith) in
      let n = n_of point.n in
      let split = identity (times n side_term)
      (minus (times (minus (number point.y) (times n (number edge.y0))) (minus (times n (number edge.x1)) (times n (number edge.x0)))) (times (minus (number point.x) (times n (number edge.x0))) (minus (times n (number edge.y1)) (times n (number edge.y0)))))
      (omega arith) in
      omega (arith, ints, gone, split)

  along-x : edge.x0 ≢ edge.x1 → side_of edge point ≡ pos 0 → HasFinely edge point ⊎ IsAside edge point
  along-x apart none =
      by_lt_z point.x (pos point.n *ℤ edge.x0)
      (λ first. by_lt_z point.x (pos point.n *ℤ edge.x1) (λ second. inr (before-aside first second)) (λ second. inl (on (omega (arith, ints, clamps, first, second)) (omega (arith, ints, clamps, first, second)))))
      (λ from. by_lt_z (pos point.n *ℤ edge.x0) point.x
      (λ first. by_lt_z (pos point.n *ℤ edge.x1) point.x (λ second. inr (behind-aside first second)) (λ second. inl (on (omega (arith, ints, clamps, first, second)) (omega (arith, ints, clamps, first, second)))))
      (λ upto. inl (on (omega (arith, ints, clamps, from, upto)) (omega (arith, ints, clamps, from, upto)))))
    where
      on : int_min (pos point.n *ℤ edge.x0) (pos point.n *ℤ edge.x1) ≤ℤ point.x → point.x ≤ℤ int_max (pos point.n *ℤ edge.x0) (pos point.n *ℤ edge.x1) → HasFinely edge point
      on low high = lies-finely edge point (lies (scaled_edge point.n edge) point.x point.y (λ same. apart (times-same point.n edge.x0 edge.x1 point.positive same)) low high (line-is none))

along-y : (edge : Edge) (point : RationalPoint) → edge.y0 ≢ edge.y1 → side_of edge point ≡ pos 0 → HasFinely edge point ⊎ IsAside edge point
along-y edge point apart none = by (along-x (flipped edge) (exchanged point) apart (other_way ∙ less))
  where
    other_way : side_of (flipped edge) (exchanged point) ≡ (pos 0 -ℤ side_of edge point)
    other_way = identity (side_term (flipped edge) (exchanged point)) (minus (n_of 0) (side_term edge point)) (omega arith)

    less : (pos 0 -ℤ side_of edge point) ≡ pos 0
    less = omega (arith, ints, none)

    swapped : (u v x y : ℤ) → further u v x y ≡ further v u y x
    swapped u v x y = identity (further_term (number u) (number v) (number x) (number y)) (further_term (number v) (number u) (number y) (number x)) (omega arith)

    by : HasFinely (flipped edge) (exchanged point) ⊎ IsAside (flipped edge) (exchanged point) → HasFinely edge point ⊎ IsAside edge point
    by (inl has) = inl (finely-flipped edge point has)
    by (inr aside) =
        let here = swapped aside.v aside.u point.x point.y in
        let first = aside.start in
        let second = aside.end in
        inr (record {
          u = aside.v;
          v = aside.u;
          start = (let at = ap (λ (z : ℤ). pos point.n *ℤ z) (swapped aside.v aside.u edge.x0 edge.y0) in omega (arith, ints, here, at, first));
          end = (let at = ap (λ (z : ℤ). pos point.n *ℤ z) (swapped aside.v aside.u edge.x1 edge.y1) in omega (arith, ints, here, at, second));
        })

-- An edge that is no point has a point, over some denominator, or it is aside from it.
pub has-or_aside : (edge : Edge) (point : RationalPoint) → start_of edge ≢ end_of edge → HasFinely edge point ⊎ IsAside edge point
has-or_aside edge point proper =
    by_lt_z (side_of edge point) (pos 0) (λ right. inr (right-aside edge point right))
    (λ not_right. by_lt_z (pos 0) (side_of edge point) (λ left. inr (left-aside edge point left)) (λ not_left. on_line (omega (arith, ints, not_right, not_left)) (goes edge)))
  where
    on_line : side_of edge point ≡ pos 0 → ((edge.x0 ≢ edge.x1) ⊎ (edge.y0 ≢ edge.y1)) ⊎ ((edge.x0 ≡ edge.x1) × (edge.y0 ≡ edge.y1)) → HasFinely edge point ⊎ IsAside edge point
    on_line none (inl (inl apart)) = along-x edge point apart none
    on_line none (inl (inr apart)) = along-y edge point apart none
    on_line none (inr (same_x, same_y)) = absurd (proper (ap₂ (λ (x y : ℤ). (let p : Point = record { x = x; y = y } in p)) same_x same_y))

-- ---- points near a point

-- The point that is one of so many parts of a vector from another, all over the other's denominator.
abbrev pub near : (base : RationalPoint) (parts : ℕ) → 0 < parts → Point → RationalPoint
near base parts some vector = over (base.n * parts) (mul-pos base.positive some) ((pos parts *ℤ base.x) +ℤ vector.x) ((pos parts *ℤ base.y) +ℤ vector.y)

-- The point lies one of m times so many parts of a vector from another.
pub record IsNearBy (base : RationalPoint) (parts m : ℕ) (vector : Point) (point : RationalPoint) : Type 0 where
  pub x : (pos (m * (base.n * parts)) *ℤ point.x) ≡ (pos point.n *ℤ ((pos (m * parts) *ℤ base.x) +ℤ vector.x))
  pub y : (pos (m * (base.n * parts)) *ℤ point.y) ≡ (pos point.n *ℤ ((pos (m * parts) *ℤ base.y) +ℤ vector.y))

-- A mean of two vectors, m times.
abbrev pub mean : ℕ → ℕ → Point → Point → Point
mean m a first second = record {
  x = ((pos m -ℤ pos a) *ℤ first.x) +ℤ (pos a *ℤ second.x);
  y = ((pos m -ℤ pos a) *ℤ first.y) +ℤ (pos a *ℤ second.y);
}

-- on the way between two such points is what is near by a mean
pub on-near : (base : RationalPoint) (parts : ℕ) (some : 0 < parts) (first second : Point) (point : RationalPoint) (a m : ℕ)
    → IsOnWay (near base parts some first) (near base parts some second) point a m → IsNearBy base parts m (mean m a first second) point
on-near base parts some first second point a m on = record {
  x = by point.x base.x first.x second.x on.x;
  y = by point.y base.y first.y second.y on.y;
}
  where
    by : (p b c d : ℤ)
        → ((pos m *ℤ (pos (base.n * parts) *ℤ pos (base.n * parts))) *ℤ p) ≡ (pos point.n *ℤ (((pos m -ℤ pos a) *ℤ (pos (base.n * parts) *ℤ ((pos parts *ℤ b) +ℤ c))) +ℤ (pos a *ℤ (pos (base.n * parts) *ℤ ((pos parts *ℤ b) +ℤ d)))))
        → (pos (m * (base.n * parts)) *ℤ p) ≡ (pos point.n *ℤ ((pos (m * parts) *ℤ b) +ℤ (((pos m -ℤ pos a) *ℤ c) +ℤ (pos a *ℤ d))))
    by p b c d is =
        let all = n_of (base.n * parts) in
        times-same (base.n * parts) (pos (m * (base.n * parts)) *ℤ p) (pos point.n *ℤ ((pos (m * parts) *ℤ b) +ℤ (((pos m -ℤ pos a) *ℤ c) +ℤ (pos a *ℤ d)))) (mul-pos base.positive some)
        (identity (times all (times (n_of (m * (base.n * parts))) (number p))) (times (times (n_of m) (times all all)) (number p)) (omega arith)
        ∙ is
        ∙ identity (times (n_of point.n) (plus (times (minus (n_of m) (n_of a)) (times all (plus (times (n_of parts) (number b)) (number c)))) (times (n_of a) (times all (plus (times (n_of parts) (number b)) (number d))))))
        (times all (times (n_of point.n) (plus (times (n_of (m * parts)) (number b)) (plus (times (minus (n_of m) (n_of a)) (number c)) (times (n_of a) (number d)))))) (omega arith))

-- ---- where an edge is clear of what is near

-- An edge is aside from a point, and further aside than the two vectors reach in so many parts.
pub record IsClear (base : RationalPoint) (first second : Point) (parts : ℕ) (edge : Edge) : Type 0 where
  pub aside : IsAside edge base
  pub upto_first : further aside.u aside.v first.x first.y <ℤ pos parts
  pub upto_second : further aside.u aside.v second.x second.y <ℤ pos parts

-- each edge that is aside is clear, for so many parts or more
pub clear-from : (base : RationalPoint) (first second : Point) (edge : Edge) → IsAside edge base → (least : ℕ) × ((parts : ℕ) → least ≤ parts → IsClear base first second parts edge)
clear-from base first second edge aside = (
  (up (further aside.u aside.v first.x first.y) + up (further aside.u aside.v second.x second.y)) + 1,
  λ parts more. record {
    aside = aside;
    upto_first = below (further aside.u aside.v first.x first.y) (up (further aside.u aside.v second.x second.y)) parts more;
    upto_second = below_too (further aside.u aside.v second.x second.y) (up (further aside.u aside.v first.x first.y)) parts more;
  },
)
  where
    below : (z : ℤ) (n parts : ℕ) → (up z + n) + 1 ≤ parts → z <ℤ pos parts
    below z n parts more = omega (arith, ints, more)

    below_too : (z : ℤ) (n parts : ℕ) → (n + up z) + 1 ≤ parts → z <ℤ pos parts
    below_too z n parts more = omega (arith, ints, more)

-- so many parts are enough for each edge of a list
pub enough : (Q : Edge → ℕ → Type 0) (edges : List Edge) → ((edge : Edge) → Contains edges edge → (least : ℕ) × ((parts : ℕ) → least ≤ parts → Q edge parts))
    → (least : ℕ) × ((parts : ℕ) → least ≤ parts → (edge : Edge) → Contains edges edge → Q edge parts)
enough Q [] each = (0, λ parts more edge (k, inside, is). absurd (omega (arith, inside)))
enough Q (edge ∷ edges) each =
    let (least, first) = each edge (Contains-here edge edges) in
    let (others, rest) = enough Q edges (λ other among. each other (Contains-there edge edges other among)) in (
      least + others,
      λ parts more other among. by parts (first parts (omega (arith, more))) (rest parts (omega (arith, more))) other among,
    )
  where
    by : (parts : ℕ) → Q edge parts → ((other : Edge) → Contains edges other → Q other parts) → (other : Edge) → Contains (edge ∷ edges) other → Q other parts
    by parts here there other (zero, inside, is) = subst (λ (e : Edge). Q e parts) is here
    by parts here there other (suc k, inside, is) = there other (k, omega (arith, inside), is)

-- an edge that is clear has no point that is near by a mean of the vectors
pub clear-misses : (base : RationalPoint) (first second : Point) (parts : ℕ) (edge : Edge) → 0 < parts → IsClear base first second parts edge
    → (point : RationalPoint) (a m : ℕ) → 0 < m → a ≤ m → IsOf edge point → ¬ (IsNearBy base parts m (mean m a first second) point)
clear-misses base first second parts edge some clear point a m many share (b, at) near_by =
    let f_point = further u v point.x point.y in
    let beyond = way_above point.n b (f_base +ℤ pos 1) (pos base.n *ℤ f_start) (pos base.n *ℤ f_end) at.share (let less = clear.aside.start in omega (arith, ints, less)) (let less = clear.aside.end in omega (arith, ints, less)) in
    let beyond_is : ((pos point.n *ℤ (pos base.n *ℤ f_start)) +ℤ (pos b *ℤ ((pos base.n *ℤ f_end) -ℤ (pos base.n *ℤ f_start)))) ≡ (pos base.n *ℤ f_point) = on_edge in
    let times_all = scaled (m * parts) (pos point.n *ℤ (f_base +ℤ pos 1)) (pos base.n *ℤ f_point) (omega (arith, ints, beyond, beyond_is)) in
    let split = identity (times (n_of (m * parts)) (times (n_of point.n) (plus (number f_base) (n_of 1)))) (times (n_of point.n) (plus (times (n_of (m * parts)) (number f_base)) (n_of (m * parts)))) (omega arith) in
    let there = near_all in
    let reach = unscaled point.n ((pos (m * parts) *ℤ f_base) +ℤ pos (m * parts)) ((pos (m * parts) *ℤ f_base) +ℤ f_mean) point.positive (omega (arith, ints, times_all, split, there)) in
    let most = way_below m a (pos parts -ℤ pos 1) f_first f_second share (let less = clear.upto_first in omega (arith, ints, less)) (let less = clear.upto_second in omega (arith, ints, less)) in
    let most_is : ((pos m *ℤ f_first) +ℤ (pos a *ℤ (f_second -ℤ f_first))) ≡ f_mean = in_mean in
    let less = identity (times (n_of m) (minus (n_of parts) (n_of 1))) (minus (n_of (m * parts)) (n_of m)) (omega arith) in
    omega (arith, ints, reach, most, most_is, less, many)
  where
    u : ℤ
    u = clear.aside.u

    v : ℤ
    v = clear.aside.v

    f_base : ℤ
    f_base = further clear.aside.u clear.aside.v base.x base.y

    f_start : ℤ
    f_start = further clear.aside.u clear.aside.v edge.x0 edge.y0

    f_end : ℤ
    f_end = further clear.aside.u clear.aside.v edge.x1 edge.y1

    f_first : ℤ
    f_first = further clear.aside.u clear.aside.v first.x first.y

    f_second : ℤ
    f_second = further clear.aside.u clear.aside.v second.x second.y

    f_mean : ℤ
    f_mean = further clear.aside.u clear.aside.v (mean m a first second).x (mean m a first second).y

    on_edge : ((pos point.n *ℤ (pos base.n *ℤ f_start)) +ℤ (pos b *ℤ ((pos base.n *ℤ f_end) -ℤ (pos base.n *ℤ f_start)))) ≡ (pos base.n *ℤ further clear.aside.u clear.aside.v point.x point.y)
    on_edge =
        let k = n_of base.n in
        let s = number clear.aside.u in
        let t = number clear.aside.v in
        let share = n_of b in
        identity
        (plus (times (n_of point.n) (times k (further_term s t (number edge.x0) (number edge.y0)))) (times share (minus (times k (further_term s t (number edge.x1) (number edge.y1))) (times k (further_term s t (number edge.x0) (number edge.y0))))))
        (times k (further_term s t (plus (times (n_of point.n) (number edge.x0)) (times share (minus (number edge.x1) (number edge.x0)))) (plus (times (n_of point.n) (number edge.y0)) (times share (minus (number edge.y1) (number edge.y0)))))) (omega arith)
        ∙ ap₂ (λ (x y : ℤ). pos base.n *ℤ further clear.aside.u clear.aside.v x y) (sym at.x) (sym at.y)

    near_all : (pos (m * parts) *ℤ (pos base.n *ℤ further clear.aside.u clear.aside.v point.x point.y)) ≡ (pos point.n *ℤ ((pos (m * parts) *ℤ f_base) +ℤ f_mean))
    near_all =
        let s = number clear.aside.u in
        let t = number clear.aside.v in
        identity (times (n_of (m * parts)) (times (n_of base.n) (further_term s t (number point.x) (number point.y)))) (further_term s t (times (n_of (m * (base.n * parts))) (number point.x)) (times (n_of (m * (base.n * parts))) (number point.y))) (omega arith)
        ∙ ap₂ (λ (x y : ℤ). further clear.aside.u clear.aside.v x y) near_by.x near_by.y
        ∙ identity
        (further_term s t (times (n_of point.n) (plus (times (n_of (m * parts)) (number base.x)) (number (mean m a first second).x))) (times (n_of point.n) (plus (times (n_of (m * parts)) (number base.y)) (number (mean m a first second).y))))
        (times (n_of point.n) (plus (times (n_of (m * parts)) (further_term s t (number base.x) (number base.y))) (further_term s t (number (mean m a first second).x) (number (mean m a first second).y)))) (omega arith)

    in_mean : ((pos m *ℤ f_first) +ℤ (pos a *ℤ (f_second -ℤ f_first))) ≡ f_mean
    in_mean =
        let s = number clear.aside.u in
        let t = number clear.aside.v in
        let part : ℤ → ℤ → Term = λ c d. plus (times (minus (n_of m) (n_of a)) (number c)) (times (n_of a) (number d)) in
        identity
        (plus (times (n_of m) (further_term s t (number first.x) (number first.y))) (times (n_of a) (minus (further_term s t (number second.x) (number second.y)) (further_term s t (number first.x) (number first.y)))))
        (further_term s t (part first.x second.x) (part first.y second.y)) (omega arith)
