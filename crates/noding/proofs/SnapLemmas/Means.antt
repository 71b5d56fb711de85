-- Means of two points of an edge.
use Rattle.std.proofs.Common.{ap, arith, pos, sym, ℕ, ℤ, ◌*ℤ◌, ◌*◌, ◌+ℤ◌, ◌+◌, ◌-ℤ◌, ◌-◌, ◌<◌, ◌∙◌, ◌≡◌}
use Rattle.std.proofs.Math.Nat.{mul-le-mul_left, mul-pos}
use Rattle.plane.specs.declared.edge.Edge.{Edge}
use Rattle.plane.specs.Meet.Edges.{IsOf, RationalPoint}
use Rattle.plane.specs.Meet.Kinds.{HasPoint}
use Rattle.noding.specs.Chains.{Passes}
use Rattle.noding.specs.Rounding.{RoundsTo}
use Rattle.noding.proofs.SnapLemmas.Numbers.{n_of}
use Rattle.noding.proofs.SnapLemmas.Rounding.{RoundsOn-mean}
use Rattle.plane.proofs.MeetLemmas.Identities.{Term, identity, minus, number, plus, times}

-- b parts of the one and a parts of the other
abbrev pub mean_on : ℕ → ℕ → ℕ → ℕ → ℤ → ℤ → ℤ
mean_on b a n1 n2 p1 p2 = (pos b *ℤ (pos n2 *ℤ p1)) +ℤ (pos a *ℤ (pos n1 *ℤ p2))

-- the mean of two points, by these weights
abbrev pub between : (b a : ℕ) → 0 < b + a → RationalPoint → RationalPoint → RationalPoint
between b a some one other = record {
  n = (b + a) * (one.n * other.n);
  x = mean_on b a one.n other.n one.x other.x;
  y = mean_on b a one.n other.n one.y other.y;
  positive = mul-pos some (mul-pos one.positive other.positive);
}

abbrev share : ℕ → ℕ → ℕ → ℕ → ℕ → ℕ → ℕ
share b a n1 n2 s1 s2 = b * (n2 * s1) + a * (n1 * s2)

-- a mean of two numbers at shares of an edge is at a share
mean_at_share : (b a n1 n2 s1 s2 : ℕ) (p1 p2 x0 w : ℤ) → p1 ≡ ((pos n1 *ℤ x0) +ℤ (pos s1 *ℤ w)) → p2 ≡ ((pos n2 *ℤ x0) +ℤ (pos s2 *ℤ w)) → mean_on b a n1 n2 p1 p2 ≡ ((pos ((b + a) * (n1 * n2)) *ℤ x0) +ℤ (pos (share b a n1 n2 s1 s2) *ℤ w))
mean_at_share b a n1 n2 s1 s2 p1 p2 x0 w first second =
    let at : ℕ → ℕ → Term = λ n s. plus (times (n_of n) (number x0)) (times (n_of s) (number w)) in
    let mean : Term → Term → Term = λ s t. plus (times (n_of b) (times (n_of n2) s)) (times (n_of a) (times (n_of n1) t)) in
    ap (λ p. mean_on b a n1 n2 p p2) first
    ∙ ap (λ p. mean_on b a n1 n2 ((pos n1 *ℤ x0) +ℤ (pos s1 *ℤ w)) p) second
    ∙ identity (mean (at n1 s1) (at n2 s2)) (at ((b + a) * (n1 * n2)) (share b a n1 n2 s1 s2)) (omega arith)

-- it is of the edge too
pub IsOf-mean : (edge : Edge) (b a : ℕ) (some : 0 < b + a) (one other : RationalPoint) → IsOf edge one → IsOf edge other → IsOf edge (between b a some one other)
IsOf-mean edge b a some one other (s1, first) (s2, second) =
    let upto1 = mul-le-mul_left (b * other.n) first.share in
    let upto2 = mul-le-mul_left (a * one.n) second.share in (
      share b a one.n other.n s1 s2,
      record {
        share = omega (arith, upto1, upto2);
        x = mean_at_share b a one.n other.n s1 s2 one.x other.x edge.x0 (edge.x1 -ℤ edge.x0) first.x second.x;
        y = mean_at_share b a one.n other.n s1 s2 one.y other.y edge.y0 (edge.y1 -ℤ edge.y0) first.y second.y;
      },
    )

-- and it rounds to the same mean of what they round to
pub RoundsTo-mean : (b a : ℕ) (some : 0 < b + a) (one other : RationalPoint) (x0 y0 x1 y1 x y : ℤ) → (pos (b + a) *ℤ x) ≡ ((pos b *ℤ x0) +ℤ (pos a *ℤ x1)) → (pos (b + a) *ℤ y) ≡ ((pos b *ℤ y0) +ℤ (pos a *ℤ y1)) → RoundsTo one x0 y0 → RoundsTo other x1 y1 → RoundsTo (between b a some one other) x y
RoundsTo-mean b a some one other x0 y0 x1 y1 x y mean_x mean_y first second = record {
  along_x = RoundsOn-mean b a one.n other.n one.x other.x x0 x1 x some one.positive other.positive mean_x first.along_x second.along_x;
  along_y = RoundsOn-mean b a one.n other.n one.y other.y y0 y1 y some one.positive other.positive mean_y first.along_y second.along_y;
}

-- from a way to weights
weights : (b a : ℕ) (c c0 c1 : ℤ) → (pos (b + a) *ℤ c) ≡ ((pos (b + a) *ℤ c0) +ℤ (pos a *ℤ (c1 -ℤ c0))) → (pos (b + a) *ℤ c) ≡ ((pos b *ℤ c0) +ℤ (pos a *ℤ c1))
weights b a c c0 c1 same =
    same ∙ identity (plus (times (n_of (b + a)) (number c0)) (times (n_of a) (minus (number c1) (number c0)))) (plus (times (n_of b) (number c0)) (times (n_of a) (number c1))) (omega arith)

-- an edge that passes both ends of a piece passes each whole point of the piece
Passes-mean : (edge piece : Edge) (n a b : ℕ) (x y : ℤ) → b + a ≡ n → 0 < n → (pos n *ℤ x) ≡ ((pos n *ℤ piece.x0) +ℤ (pos a *ℤ (piece.x1 -ℤ piece.x0))) → (pos n *ℤ y) ≡ ((pos n *ℤ piece.y0) +ℤ (pos a *ℤ (piece.y1 -ℤ piece.y0))) → Passes edge piece.x0 piece.y0 → Passes edge piece.x1 piece.y1 → Passes edge x y
Passes-mean edge piece n a b x y parts some at_x at_y (one, one_of, one_rounds) (other, other_of, other_rounds) =
    let positive : 0 < b + a = omega arith in
    let weights_x = weights b a x piece.x0 piece.x1 (rw parts at_x) in
    let weights_y = weights b a y piece.y0 piece.y1 (rw parts at_y) in (
      between b a positive one other,
      IsOf-mean edge b a positive one other one_of other_of,
      RoundsTo-mean b a positive one other piece.x0 piece.y0 piece.x1 piece.y1 x y weights_x weights_y one_rounds other_rounds,
    )

-- so it passes each hot point on a piece whose ends it passes
pub Passes-on_piece : (edge piece : Edge) (x y : ℤ) → Passes edge piece.x0 piece.y0 → Passes edge piece.x1 piece.y1 → HasPoint piece x y → Passes edge x y
Passes-on_piece edge piece x y first second (point, (a, at), is) =
    let share = at.share in
    Passes-mean edge piece point.n a (point.n - a) x y (omega arith) point.positive (sym is.x_is ∙ at.x) (sym is.y_is ∙ at.y) first second
