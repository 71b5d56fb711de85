-- One point over several denominators, and the edges that go its way.
use Rattle.std.proofs.Common.{◌≡◌, ◌≢◌, ℕ, zero, suc, ◌*◌, ◌<◌, ℤ, pos, ◌+ℤ◌, ◌-ℤ◌, ◌*ℤ◌, ap, ap₂, sym, ◌∙◌, refl, arith}
use Rattle.std.proofs.Math.Nat.{mul-le-mul_left, mul-pos}
use Rattle.std.proofs.lemmas.Int.{ints}
use Rattle.plane.specs.declared.edge.Edge.{Edge}
use Rattle.plane.specs.declared.point.Point.{Point}
use Rattle.plane.specs.Ends.{end_of, reversed, start_of}
use Rattle.plane.specs.Meet.Crosses.{cross}
use Rattle.plane.specs.Meet.Edges.{IsOf, RationalPoint}
use Rattle.plane.specs.Meet.Kinds.{HasPoint, IsAt}
use Rattle.plane.proofs.MeetLemmas.Along.{Lies, flipped, of-flipped, whole_point}
use Rattle.plane.proofs.MeetLemmas.Along.{over as exchanged}
use Rattle.plane.proofs.MeetLemmas.Identities.{identity, minus, number, plus, times, unscaled}
use Rattle.noding.proofs.SnapLemmas.Local.{IsFiner, IsOf-finer}
use Rattle.noding.proofs.SnapLemmas.Numbers.{cross-exchanged, n_of, natural, zero_by}
use Rattle.overlay.specs.Contours.Turns.{dot}
use Rattle.overlay.proofs.ContourLemmas.Turns.{across, along, some_square}

-- ---- finer points

-- the point over k times its denominator
abbrev pub finer_than : (k : ℕ) → 0 < k → RationalPoint → RationalPoint
finer_than k some point = record {
  n = k * point.n;
  x = pos k *ℤ point.x;
  y = pos k *ℤ point.y;
  positive = mul-pos some point.positive;
}

-- it is finer
pub finer-is : (k : ℕ) (some : 0 < k) (point : RationalPoint) → IsFiner k point (finer_than k some point)
finer-is k some point = record { n = refl; x = refl; y = refl }

-- a multiple of a multiple
times-times : (j k : ℕ) (p q r : ℤ) → q ≡ (pos k *ℤ p) → r ≡ (pos j *ℤ q) → r ≡ (pos (j * k) *ℤ p)
times-times j k p q r first second =
    second ∙ ap (λ (z : ℤ). pos j *ℤ z) first ∙ identity (times (n_of j) (times (n_of k) (number p))) (times (n_of (j * k)) (number p)) (omega arith)

-- what is finer than a finer point
pub finer-twice : (j k : ℕ) (point between finer : RationalPoint) → IsFiner k point between → IsFiner j between finer → IsFiner (j * k) point finer
finer-twice j k point between finer first second = record {
  n = second.n ∙ ap (λ (m : ℕ). j * m) first.n ∙ nested j k point.n;
  x = times-times j k point.x between.x finer.x first.x second.x;
  y = times-times j k point.y between.y finer.y first.y second.y;
}
  where
    nested : (a b c : ℕ) → a * (b * c) ≡ (a * b) * c
    nested a b c = omega arith

-- numbers of which a positive multiple is the same
pub times-same : (n : ℕ) (a b : ℤ) → 0 < n → (pos n *ℤ a) ≡ (pos n *ℤ b) → a ≡ b
times-same n a b some is =
    let upto = unscaled n a b some (omega (arith, ints, is)) in
    let from = unscaled n b a some (omega (arith, ints, is)) in
    omega (arith, ints, upto, from)

-- a finer point has a multiple of the denominator, and so there is a multiple
some-multiple : (k n m : ℕ) → m ≡ k * n → 0 < m → 0 < k
some-multiple k n m is some = by k is
  where
    by : (j : ℕ) → m ≡ j * n → 0 < j
    by zero none = absurd (omega (arith, none, some))
    by (suc j) is = omega arith

-- so what a point is finer by is some number above 0
pub finer-some : (k : ℕ) (point finer : RationalPoint) → IsFiner k point finer → 0 < k
finer-some k point finer is = some-multiple k point.n finer.n is.n finer.positive

-- ---- whole points

-- The point is a whole one.
abbrev pub IsWhole : RationalPoint → Type 0
IsWhole point = (x : ℤ) × (y : ℤ) × IsAt point x y

-- the same on one axis, where the finer point is whole
whole_on : (k n m : ℕ) (p q a : ℤ) → 0 < k → m ≡ k * n → q ≡ (pos k *ℤ p) → q ≡ (pos m *ℤ a) → p ≡ (pos n *ℤ a)
whole_on k n m p q a some many is at =
    times-same k p (pos n *ℤ a) some
    (sym is ∙ at ∙ ap (λ (j : ℕ). pos j *ℤ a) many ∙ identity (times (n_of (k * n)) (number a)) (times (n_of k) (times (n_of n) (number a))) (omega arith))

-- where a finer point is whole the point is
pub whole-finer : (k : ℕ) (point finer : RationalPoint) → IsFiner k point finer → IsWhole finer → IsWhole point
whole-finer k point finer is (a, b, at) =
    let some = finer-some k point finer is in (
      a,
      b,
      record {
        x_is = whole_on k point.n finer.n point.x finer.x a some is.n is.x at.x_is;
        y_is = whole_on k point.n finer.n point.y finer.y b some is.n is.y at.y_is;
      },
    )

-- a multiple of a whole number of parts
multiple_on : (m n : ℕ) (z p : ℤ) → p ≡ (pos n *ℤ z) → (pos (m * n) *ℤ z) ≡ (pos m *ℤ p)
multiple_on m n z p is = identity (times (n_of (m * n)) (number z)) (times (n_of m) (times (n_of n) (number z))) (omega arith) ∙ ap (λ (q : ℤ). pos m *ℤ q) (sym is)

-- so a finer point is where the point is
pub at-finer : (k : ℕ) (point finer : RationalPoint) (x y : ℤ) → IsFiner k point finer → IsAt point x y → IsAt finer x y
at-finer k point finer x y is at = record {
  x_is = is.x ∙ sym (multiple_on k point.n x point.x at.x_is) ∙ ap (λ (m : ℕ). pos m *ℤ x) (sym is.n);
  y_is = is.y ∙ sym (multiple_on k point.n y point.y at.y_is) ∙ ap (λ (m : ℕ). pos m *ℤ y) (sym is.n);
}

-- and a point is at one whole point alone
pub one-point : (point : RationalPoint) (p q : Point) → IsAt point p.x p.y → IsAt point q.x q.y → p ≡ q
one-point point p q at there =
    ap₂ (λ (x y : ℤ). (let made : Point = record { x = x; y = y } in made))
    (times-same point.n p.x q.x point.positive (sym at.x_is ∙ there.x_is))
    (times-same point.n p.y q.y point.positive (sym at.y_is ∙ there.y_is))

-- a whole point that two edges have is of both over one denominator
pub common-whole : (one other : Edge) (x y : ℤ) → HasPoint one x y → HasPoint other x y → (n : ℕ) × (some : 0 < n) × IsOf one (whole_point n some x y) × IsOf other (whole_point n some x y)
common-whole one other x y (a, of_one, at) (b, of_other, there) =
    let some = mul-pos b.positive a.positive in (
      b.n * a.n,
      some,
      IsOf-finer one b.n a (whole_point (b.n * a.n) some x y) (record { n = refl; x = multiple_on b.n a.n x a.x at.x_is; y = multiple_on b.n a.n y a.y at.y_is }) of_one,
      IsOf-finer other a.n b (whole_point (b.n * a.n) some x y)
          (record { n = turned; x = ap (λ (n : ℕ). pos n *ℤ x) turned ∙ multiple_on a.n b.n x b.x there.x_is; y = ap (λ (n : ℕ). pos n *ℤ y) turned ∙ multiple_on a.n b.n y b.y there.y_is }) of_other,
    )
  where
    turned : b.n * a.n ≡ a.n * b.n
    turned = omega arith

-- ---- edges in the same way

-- The edges are parallel.
abbrev pub AreParallel : Edge → Edge → Type 0
AreParallel one other = cross (one.x1 -ℤ one.x0) (one.y1 -ℤ one.y0) (other.x1 -ℤ other.x0) (other.y1 -ℤ other.y0) ≡ pos 0

-- each edge is parallel to itself
pub parallel-itself : (one : Edge) → AreParallel one one
parallel-itself one = identity (across (one.x1 -ℤ one.x0) (one.y1 -ℤ one.y0) (one.x1 -ℤ one.x0) (one.y1 -ℤ one.y0)) (n_of 0) (omega arith)

-- whichever is named first
pub parallel-exchanged : (one other : Edge) → AreParallel one other → AreParallel other one
parallel-exchanged one other none =
    let turned = cross-exchanged (one.x1 -ℤ one.x0) (one.y1 -ℤ one.y0) (other.x1 -ℤ other.x0) (other.y1 -ℤ other.y0) in
    omega (arith, ints, turned, none)

-- and whichever way the one goes
pub parallel-reversed : (one other : Edge) → AreParallel (reversed one) other → AreParallel one other
parallel-reversed one other none =
    let turned : cross (one.x0 -ℤ one.x1) (one.y0 -ℤ one.y1) (other.x1 -ℤ other.x0) (other.y1 -ℤ other.y0) ≡ (pos 0 -ℤ cross (one.x1 -ℤ one.x0) (one.y1 -ℤ one.y0) (other.x1 -ℤ other.x0) (other.y1 -ℤ other.y0)) =
    identity
    (minus (times (minus (number one.x0) (number one.x1)) (minus (number other.y1) (number other.y0))) (times (minus (number one.y0) (number one.y1)) (minus (number other.x1) (number other.x0))))
    (minus (n_of 0) (minus (times (minus (number one.x1) (number one.x0)) (minus (number other.y1) (number other.y0))) (times (minus (number one.y1) (number one.y0)) (minus (number other.x1) (number other.x0)))))
    (omega arith) in
    omega (arith, ints, turned, none)

-- of three ways, by what the others are to the second
through : (ux uy vx vy wx wy : ℤ) → (dot vx vy vx vy *ℤ cross ux uy wx wy) ≡ ((dot ux uy vx vy *ℤ cross vx vy wx wy) +ℤ (cross ux uy vx vy *ℤ dot vx vy wx wy))
through ux uy vx vy wx wy =
    identity (times (along vx vy vx vy) (across ux uy wx wy)) (plus (times (along ux uy vx vy) (across vx vy wx wy)) (times (across ux uy vx vy) (along vx vy wx wy))) (omega arith)

-- what is parallel to an edge between, which is no point, is parallel
pub parallel-through : (one between other : Edge) → start_of between ≢ end_of between → AreParallel one between → AreParallel between other → AreParallel one other
parallel-through one between other proper first second =
    let ux = one.x1 -ℤ one.x0 in
    let uy = one.y1 -ℤ one.y0 in
    let vx = between.x1 -ℤ between.x0 in
    let vy = between.y1 -ℤ between.y0 in
    let wx = other.x1 -ℤ other.x0 in
    let wy = other.y1 -ℤ other.y0 in
    let square = some_square vx vy (λ (level, even). proper (ap₂ (λ (x y : ℤ). made x y) (same between.x0 between.x1 level) (same between.y0 between.y1 even))) in
    let size = natural (dot vx vy vx vy) (omega (arith, ints, square)) in
    let size_is = size.is in
    zero_by size.k (cross ux uy wx wy) (dot ux uy vx vy) (cross vx vy wx wy) (omega (arith, ints, size_is, square))
    (ap (λ (z : ℤ). z *ℤ cross ux uy wx wy) (sym size.is) ∙ through ux uy vx vy wx wy ∙ without (dot ux uy vx vy *ℤ cross vx vy wx wy) (cross ux uy vx vy) (dot vx vy wx wy) first)
    second
  where
    made : ℤ → ℤ → Point
    made x y = record { x = x; y = y }

    same : (a b : ℤ) → (b -ℤ a) ≡ pos 0 → a ≡ b
    same a b is = omega (arith, ints, is)

    without : (a b c : ℤ) → b ≡ pos 0 → (a +ℤ (b *ℤ c)) ≡ a
    without a b c none = ap (λ (z : ℤ). a +ℤ (z *ℤ c)) none ∙ identity (plus (number a) (times (n_of 0) (number c))) (number a) (omega arith)

-- ---- edges that a point is of, over some denominator

-- The edge has the point, over some multiple of its denominator.
pub record HasFinely (edge : Edge) (point : RationalPoint) : Type 0 where
  pub k : ℕ
  pub finer : RationalPoint
  pub is : IsFiner k point finer
  pub of : IsOf edge finer

-- the edge over n times the plane
abbrev pub scaled_edge : ℕ → Edge → Edge
scaled_edge n edge = record { x0 = pos n *ℤ edge.x0; y0 = pos n *ℤ edge.y0; x1 = pos n *ℤ edge.x1; y1 = pos n *ℤ edge.y1 }

-- a share of the way there, on one axis, is one of the way here
share_on : (m n a : ℕ) (p from to : ℤ) → (pos m *ℤ p) ≡ ((pos m *ℤ (pos n *ℤ from)) +ℤ (pos a *ℤ ((pos n *ℤ to) -ℤ (pos n *ℤ from))))
    → (pos m *ℤ p) ≡ ((pos (m * n) *ℤ from) +ℤ (pos (n * a) *ℤ (to -ℤ from)))
share_on m n a p from to at =
    at ∙ identity (plus (times (n_of m) (times (n_of n) (number from))) (times (n_of a) (minus (times (n_of n) (number to)) (times (n_of n) (number from)))))
    (plus (times (n_of (m * n)) (number from)) (times (n_of (n * a)) (minus (number to) (number from)))) (omega arith)

-- what lies there on it is of the edge here
pub lies-finely : (edge : Edge) (point : RationalPoint) → Lies (scaled_edge point.n edge) point.x point.y → HasFinely edge point
lies-finely edge point lies =
    let (a, at) = lies.of_edge in
    let upto = mul-le-mul_left point.n at.share in record {
      k = lies.n;
      finer = finer_than lies.n lies.some point;
      is = finer-is lies.n lies.some point;
      of = (
        point.n * a,
        record {
          share = omega (arith, upto);
          x = share_on lies.n point.n a point.x edge.x0 edge.x1 at.x;
          y = share_on lies.n point.n a point.y edge.y0 edge.y1 at.y;
        },
      );
    }

-- the same where x and y have changed places
pub finely-flipped : (edge : Edge) (point : RationalPoint) → HasFinely (flipped edge) (exchanged point) → HasFinely edge point
finely-flipped edge point has = record {
  k = has.k;
  finer = exchanged has.finer;
  is = record { n = has.is.n; x = has.is.y; y = has.is.x };
  of = of-flipped edge has.finer has.of;
}
