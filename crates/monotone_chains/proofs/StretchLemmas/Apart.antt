-- Hulls of points that some line keeps apart.
use Rattle.std.proofs.Common.{◌≡◌, ℕ, pos, ◌+◌, ◌*◌, ◌<◌, ℤ, ◌+ℤ◌, ◌-ℤ◌, ◌*ℤ◌, ◌≤ℤ◌, List, sym, ap, ◌∙◌, subst, arith}
use Rattle.std.specs.Int.RustNames.{unsigned_abs}
use Rattle.std.specs.List.{Contains}
use Rattle.std.proofs.lemmas.Int.{ints, unsigned_abs-mul}
use Rattle.std.proofs.Math.Nat.{mul-pos}
use Rattle.plane.specs.declared.point.Point.{Point}
use Rattle.plane.specs.Meet.Edges.{RationalPoint}
use Rattle.plane.specs.Meet.Kinds.{AreSame}
use Rattle.plane.proofs.MeetLemmas.Identities.{Term, at_most, at_most_of, identity, minus, number, plus, same_of, times}
use Rattle.noding.specs.Windings.{further}
use Rattle.monotone_chains.specs.Stretches.{AreApart}
use Rattle.noding.proofs.SnapLemmas.Numbers.{abs-negative, n_of}
use Rattle.noding.proofs.SnapLemmas.Hulls.{IsNearHull, IsWithinHull, reach}

-- ---- numbers

apart_upto : (n m i j w : ℕ) (p q : ℤ) → (pos 2 *ℤ (pos 0 -ℤ (pos (2 * n) *ℤ q))) ≤ℤ (pos m *ℤ ((pos 2 *ℤ (pos 0 -ℤ ((pos 2 *ℤ p) +ℤ (pos n *ℤ ((pos (2 * w) +ℤ pos 2) -ℤ pos (i * w)))))) +ℤ pos (j * (2 * n * w))))
    → ((pos 2 *ℤ (pos m *ℤ p)) +ℤ pos ((m * n) * (2 * w + 2))) ≤ℤ ((pos 2 *ℤ (pos n *ℤ q)) +ℤ pos ((m * n) * ((i + j) * w)))
apart_upto n m i j w p q upto =
    let K = plus (times (n_of 2) (number p)) (times (n_of n) (minus (plus (n_of (2 * w)) (n_of 2)) (n_of (i * w)))) in
    let found = at_most_of (times (n_of 2) (minus (n_of 0) (times (n_of (2 * n)) (number q)))) (times (n_of m) (plus (times (n_of 2) (minus (n_of 0) K)) (n_of (j * (2 * n * w))))) upto in
    at_most (plus (times (n_of 2) (times (n_of m) (number p))) (n_of ((m * n) * (2 * w + 2)))) (plus (times (n_of 2) (times (n_of n) (number q))) (n_of ((m * n) * ((i + j) * w)))) (omega (arith, found))

-- ---- hulls of points that are apart

-- the direction back, so many times as far
abbrev back_by : ℕ → ℤ → ℤ
back_by n u = (pos 0 -ℤ pos (2 * n)) *ℤ u

back-abs : (n : ℕ) (u : ℤ) → unsigned_abs (back_by n u) ≡ (2 * n) * unsigned_abs u
back-abs n u = unsigned_abs-mul (pos 0 -ℤ pos (2 * n)) u ∙ ap (λ (k : ℕ). k * unsigned_abs u) (abs-negative (pos (2 * n)))

back-further : (n : ℕ) (u v x y : ℤ) → ((back_by n u *ℤ x) +ℤ (back_by n v *ℤ y)) ≡ (pos 0 -ℤ (pos (2 * n) *ℤ ((u *ℤ x) +ℤ (v *ℤ y))))
back-further n u v x y =
    let way : Term = minus (n_of 0) (n_of (2 * n)) in
    identity (plus (times (times way (number u)) (number x)) (times (times way (number v)) (number y))) (minus (n_of 0) (times (n_of (2 * n)) (plus (times (number u) (number x)) (times (number v) (number y))))) (omega arith)

-- of points that are apart a point within so many halves of the first hull and one within so many of the second differ so far in that direction
pub hulls-apart : (halves other_halves : ℕ) (s t : List Point) (apart : AreApart s t) (p q : RationalPoint) → IsWithinHull halves s p → IsWithinHull other_halves t q
    → ((pos 2 *ℤ (pos q.n *ℤ reach apart.u apart.v p)) +ℤ pos ((q.n * p.n) * (2 * (unsigned_abs apart.u + unsigned_abs apart.v) + 2)))
    ≤ℤ ((pos 2 *ℤ (pos p.n *ℤ reach apart.u apart.v q)) +ℤ pos ((q.n * p.n) * ((halves + other_halves) * (unsigned_abs apart.u + unsigned_abs apart.v))))
hulls-apart halves other_halves s t apart p q first second =
    apart_upto p.n q.n halves other_halves w (reach u v p) (reach u v q)
    (subst (λ (z : ℤ). (pos 2 *ℤ z) ≤ℤ (pos q.n *ℤ ((pos 2 *ℤ (pos 0 -ℤ K)) +ℤ pos (other_halves * (2 * p.n * w))))) (back-further p.n u v q.x q.y)
    (subst (λ (k : ℕ). (pos 2 *ℤ reach (back_by p.n u) (back_by p.n v) q) ≤ℤ (pos q.n *ℤ ((pos 2 *ℤ (pos 0 -ℤ K)) +ℤ pos (other_halves * k)))) wide
    (second (back_by p.n u) (back_by p.n v) (pos 0 -ℤ K) below)))
  where
    u : ℤ
    u = apart.u

    v : ℤ
    v = apart.v

    w : ℕ
    w = unsigned_abs u + unsigned_abs v

    K : ℤ
    K = (pos 2 *ℤ reach u v p) +ℤ (pos p.n *ℤ ((pos (2 * w) +ℤ pos 2) -ℤ pos (halves * w)))

    wide : unsigned_abs (back_by p.n u) + unsigned_abs (back_by p.n v) ≡ 2 * p.n * w
    wide = let one = back-abs p.n u in let other = back-abs p.n v in omega (arith, one, other)

    numbers : (n w i : ℕ) (r f : ℤ) → (pos 2 *ℤ r) ≤ℤ (pos n *ℤ ((pos 2 *ℤ (f -ℤ pos (w + 1))) +ℤ pos (i * w))) → (pos 0 -ℤ (pos (2 * n) *ℤ f)) ≤ℤ (pos 0 -ℤ ((pos 2 *ℤ r) +ℤ (pos n *ℤ ((pos (2 * w) +ℤ pos 2) -ℤ pos (i * w)))))
    numbers n w i r f upto =
        let found = at_most_of (times (n_of 2) (number r)) (times (n_of n) (plus (times (n_of 2) (minus (number f) (n_of (w + 1)))) (n_of (i * w)))) upto in
        at_most (minus (n_of 0) (times (n_of (2 * n)) (number f))) (minus (n_of 0) (plus (times (n_of 2) (number r)) (times (n_of n) (minus (plus (n_of (2 * w)) (n_of 2)) (n_of (i * w)))))) (omega (arith, found))

    below : (c : Point) → Contains t c → further (back_by p.n u) (back_by p.n v) c ≤ℤ (pos 0 -ℤ K)
    below c held =
        subst (λ (z : ℤ). z ≤ℤ (pos 0 -ℤ K)) (sym (back-further p.n u v c.x c.y))
        (numbers p.n w halves (reach u v p) (further u v c) (first u v (further u v c -ℤ pos (w + 1)) (λ d held_too. (let less = apart.beyond d c held_too held in omega (arith, ints, less)))))

-- two such points are none where it is a unit at most
pub hulls-differ : (s t : List Point) → AreApart s t → (p q : RationalPoint) → IsNearHull s p → IsNearHull t q → ¬ (AreSame p q)
hulls-differ s t apart p q first second same =
    let far = hulls-apart 1 1 s t apart p q first second in
    let some = mul-pos {m = q.n} {n = p.n} q.positive p.positive in
    no_gap p.n q.n (unsigned_abs apart.u + unsigned_abs apart.v) apart.u apart.v p.x p.y q.x q.y same.x same.y some far
  where
    no_gap : (n m w : ℕ) (u v px py qx qy : ℤ) → (pos m *ℤ px) ≡ (pos n *ℤ qx) → (pos m *ℤ py) ≡ (pos n *ℤ qy) → 0 < m * n
        → ((pos 2 *ℤ (pos m *ℤ ((u *ℤ px) +ℤ (v *ℤ py)))) +ℤ pos ((m * n) * (2 * w + 2))) ≤ℤ ((pos 2 *ℤ (pos n *ℤ ((u *ℤ qx) +ℤ (v *ℤ qy)))) +ℤ pos ((m * n) * ((1 + 1) * w))) → ⊥
    no_gap n m w u v px py qx qy same_x same_y some far =
        let along : ℤ → ℤ → Term = λ x y. plus (times (number u) (number x)) (times (number v) (number y)) in
        let one = same_of (times (number u) (times (n_of m) (number px))) (times (number u) (times (n_of n) (number qx))) (ap (λ (z : ℤ). u *ℤ z) same_x) in
        let other = same_of (times (number v) (times (n_of m) (number py))) (times (number v) (times (n_of n) (number qy))) (ap (λ (z : ℤ). v *ℤ z) same_y) in
        let found = at_most_of (plus (times (n_of 2) (times (n_of m) (along px py))) (n_of ((m * n) * (2 * w + 2)))) (plus (times (n_of 2) (times (n_of n) (along qx qy))) (n_of ((m * n) * ((1 + 1) * w)))) far in
        omega (arith, one, other, found, some)

-- whichever is named first
pub AreApart-exchanged : (s t : List Point) → AreApart s t → AreApart t s
AreApart-exchanged s t apart = record {
  u = pos 0 -ℤ apart.u;
  v = pos 0 -ℤ apart.v;
  beyond = λ p q held held_too.
      let less = apart.beyond q p held_too held in
      let one = back apart.u apart.v p.x p.y in
      let other = back apart.u apart.v q.x q.y in
      let along = abs-negative apart.u in
      let across = abs-negative apart.v in
      omega (arith, ints, less, one, other, along, across);
}
  where
    back : (u v x y : ℤ) → (((pos 0 -ℤ u) *ℤ x) +ℤ ((pos 0 -ℤ v) *ℤ y)) ≡ (pos 0 -ℤ ((u *ℤ x) +ℤ (v *ℤ y)))
    back u v x y = identity (plus (times (minus (n_of 0) (number u)) (number x)) (times (minus (n_of 0) (number v)) (number y))) (minus (n_of 0) (plus (times (number u) (number x)) (times (number v) (number y)))) (omega arith)
