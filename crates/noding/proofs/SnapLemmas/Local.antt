-- A noding that moves only what it must: pieces of its chains meet only at common ends, or are the same.
use Rattle.std.proofs.Common.{ap, arith, inl, inr, pos, refl, suc, sym, subst, zero, List, ℕ, ℤ, ◌*ℤ◌, ◌*◌, ◌+ℤ◌, ◌+◌, ◌-ℤ◌, ◌-◌, ◌<ℤ◌, ◌<◌, ◌∙◌, ◌≡◌, ◌⊎◌}
use Rattle.std.proofs.Math.Nat.{mul-le-mul_left, mul-pos}
use Rattle.std.proofs.lemmas.Int.{ints}
use Rattle.std.proofs.lemmas.List.Elements.{All-contains}
use Rattle.std.specs.List.{All, AllZip, Contains, flat_map}
use Rattle.plane.specs.declared.edge.Edge.{Edge}
use Rattle.plane.specs.declared.point.Point.{Point}
use Rattle.plane.specs.Meet.Crosses.{cross}
use Rattle.plane.specs.Meet.Edges.{IsOf, RationalPoint}
use Rattle.plane.specs.Meet.Kinds.{HasPoint, IsAt}
use Rattle.plane.proofs.MeetLemmas.Along.{ends, starts, whole_point}
use Rattle.plane.proofs.MeetLemmas.Identities.{Term, identity, minus, number, plus, same_of, times, unscaled}
use Rattle.plane.proofs.MeetLemmas.Kinds.{one-of_crossing}
use Rattle.noding.specs.Chains.{AreNotParallel, IsHot, Passes}
use Rattle.noding.specs.Local.{AreNodeChains, CrossBeside, IsExactAt, IsMoved, IsNode, IsNodeChain, Moves, MovesInRound, PassesBeside}
use Rattle.noding.specs.Meeting.{MeetAtEnds}
use Rattle.noding.specs.Rounding.{RoundsTo}
use Rattle.noding.specs.Windings.{IsClosed, pieces, winding}
use Rattle.noding.proofs.SnapLemmas.Along.{Passes-end, Passes-start}
use Rattle.noding.proofs.SnapLemmas.Hobby.Ends.{EndsOnly, meet-at_ends, pieces-meet}
use Rattle.noding.proofs.SnapLemmas.Hobby.Uncrossed.{common_end, piece-clear, pieces-uncrossed, sides}
use Rattle.noding.proofs.SnapLemmas.Lying.{at_or_not, has_point-or_not}
use Rattle.noding.proofs.SnapLemmas.Means.{IsOf-mean, between, mean_on}
use Rattle.noding.proofs.SnapLemmas.Noded.{piece_of}
use Rattle.noding.proofs.SnapLemmas.Numbers.{n_of, zero_by}
use Rattle.noding.proofs.SnapLemmas.Pieces.{CrossProperly, HasCrossings, IsPiece, Share}
use Rattle.noding.proofs.SnapLemmas.Paths.{AllZip-by, IsHot-from, IsHot-to, IsPath, IsPath-along}
use Rattle.noding.proofs.SnapLemmas.Resting.{chain-rests}
use Rattle.noding.proofs.SnapLemmas.Rounding.{RoundsOn-half}
use Rattle.noding.proofs.SnapLemmas.Sums.{CountsSame, chain-counts, paths-closed, sum-same}

-- ---- the same point over a finer denominator

-- It is, over k times the denominator.
pub record IsFiner (k : ℕ) (point finer : RationalPoint) : Type 0 where
  pub n : finer.n ≡ k * point.n
  pub x : finer.x ≡ (pos k *ℤ point.x)
  pub y : finer.y ≡ (pos k *ℤ point.y)

finer_along : (k n m a : ℕ) (p q start end : ℤ) → m ≡ k * n → q ≡ (pos k *ℤ p) → p ≡ ((pos n *ℤ start) +ℤ (pos a *ℤ (end -ℤ start))) → q ≡ ((pos m *ℤ start) +ℤ (pos (k * a) *ℤ (end -ℤ start)))
finer_along k n m a p q start end many is at =
    is ∙ ap (λ z. pos k *ℤ z) at
    ∙ identity (times (n_of k) (plus (times (n_of n) (number start)) (times (n_of a) (minus (number end) (number start))))) (plus (times (n_of (k * n)) (number start)) (times (n_of (k * a)) (minus (number end) (number start)))) (omega arith)
    ∙ ap (λ j. (pos j *ℤ start) +ℤ (pos (k * a) *ℤ (end -ℤ start))) (sym many)

-- it is of the edges that the point is of
pub IsOf-finer : (edge : Edge) (k : ℕ) (point finer : RationalPoint) → IsFiner k point finer → IsOf edge point → IsOf edge finer
IsOf-finer edge k point finer is (a, at) =
    let upto = mul-le-mul_left k at.share in
    let many = is.n in (
      k * a,
      record {
        share = omega (arith, upto, many);
        x = finer_along k point.n finer.n a point.x finer.x edge.x0 edge.x1 is.n is.x at.x;
        y = finer_along k point.n finer.n a point.y finer.y edge.y0 edge.y1 is.n is.y at.y;
      },
    )

-- ---- what lies on an edge between two of its whole points

-- Over denominators that are fine enough, by k times m, the point is of the edge.
record IsOfFinely (edge : Edge) (point : RationalPoint) : Type 0 where
  m : ℕ
  some : 0 < m
  of : (k : ℕ) (finer : RationalPoint) → IsFiner (k * m) point finer → IsOf edge finer

mean_is : (b a n n0 n1 : ℕ) (p p0 p1 c d : ℤ) → b + a ≡ n → p ≡ ((pos n *ℤ c) +ℤ (pos a *ℤ (d -ℤ c))) → p0 ≡ (pos n0 *ℤ c) → p1 ≡ (pos n1 *ℤ d) → mean_on b a n0 n1 p0 p1 ≡ (pos (n0 * n1) *ℤ p)
mean_is b a n n0 n1 p p0 p1 c d parts is first second =
    ap (λ z. mean_on b a n0 n1 z p1) first
    ∙ ap (λ z. mean_on b a n0 n1 (pos n0 *ℤ c) z) second
    ∙ identity (plus (times (n_of b) (times (n_of n1) (times (n_of n0) (number c)))) (times (n_of a) (times (n_of n0) (times (n_of n1) (number d)))))
    (times (n_of (n0 * n1)) (plus (times (n_of (b + a)) (number c)) (times (n_of a) (minus (number d) (number c))))) (omega arith)
    ∙ ap (λ j. pos (n0 * n1) *ℤ ((pos j *ℤ c) +ℤ (pos a *ℤ (d -ℤ c)))) parts
    ∙ ap (λ z. pos (n0 * n1) *ℤ z) (sym is)

finer_by : (k m : ℕ) (p q mean : ℤ) → q ≡ (pos (k * m) *ℤ p) → mean ≡ (pos m *ℤ p) → q ≡ (pos k *ℤ mean)
finer_by k m p q mean is same =
    is ∙ identity (times (n_of (k * m)) (number p)) (times (n_of k) (times (n_of m) (number p))) (omega arith) ∙ ap (λ z. pos k *ℤ z) (sym same)

-- a point of a piece whose ends lie on the edge
of_edge : (edge piece : Edge) (point : RationalPoint) → HasPoint edge piece.x0 piece.y0 → HasPoint edge piece.x1 piece.y1 → IsOf piece point → IsOfFinely edge point
of_edge edge piece point (one, one_of, one_at) (other, other_of, other_at) (a, at) =
    let b = point.n - a in
    let share = at.share in
    let parts : b + a ≡ point.n = omega (arith, share) in
    let positive = point.positive in
    let some : 0 < b + a = omega (arith, parts, positive) in
    let there = between b a some one other in
    let of = IsOf-mean edge b a some one other one_of other_of in record {
      m = one.n * other.n;
      some = mul-pos one.positive other.positive;
      of = λ k finer is. IsOf-finer edge k there finer (record {
        n = is.n ∙ (let same = ap (λ j. (k * (one.n * other.n)) * j) parts in omega (arith, same));
        x = finer_by k (one.n * other.n) point.x finer.x there.x is.x (mean_is b a point.n one.n other.n point.x one.x other.x piece.x0 piece.x1 parts at.x one_at.x_is other_at.x_is);
        y = finer_by k (one.n * other.n) point.y finer.y there.y is.y (mean_is b a point.n one.n other.n point.y one.y other.y piece.y0 piece.y1 parts at.y one_at.y_is other_at.y_is);
      }) of;
    }

-- the point over k times its denominator
abbrev finer_than : (k : ℕ) → 0 < k → RationalPoint → RationalPoint
finer_than k some point = record {
  n = k * point.n;
  x = pos k *ℤ point.x;
  y = pos k *ℤ point.y;
  positive = mul-pos some point.positive;
}

finer_at : (k n : ℕ) (p c : ℤ) → p ≡ (pos n *ℤ c) → (pos k *ℤ p) ≡ (pos (k * n) *ℤ c)
finer_at k n p c is = ap (λ z. pos k *ℤ z) is ∙ identity (times (n_of k) (times (n_of n) (number c))) (times (n_of (k * n)) (number c)) (omega arith)

-- so each whole point of such a piece lies on the edge
on_edge : (edge piece : Edge) (x y : ℤ) → HasPoint edge piece.x0 piece.y0 → HasPoint edge piece.x1 piece.y1 → HasPoint piece x y → HasPoint edge x y
on_edge edge piece x y first second (point, of, at) =
    let finely = of_edge edge piece point first second of in
    let finer = finer_than finely.m finely.some point in (
      finer,
      finely.of 1 finer (record {
        n = omega arith;
        x = ap (λ j. pos j *ℤ point.x) (omega arith);
        y = ap (λ j. pos j *ℤ point.y) (omega arith);
      }),
      record { x_is = finer_at finely.m point.n point.x x at.x_is; y_is = finer_at finely.m point.n point.y y at.y_is },
    )

-- ---- ways of pieces that lie on edges

-- such a piece goes a part of its edge's way
way_part : (n0 n1 s0 s1 : ℕ) (p0 p1 c0 c1 start end : ℤ) → p0 ≡ ((pos n0 *ℤ start) +ℤ (pos s0 *ℤ (end -ℤ start))) → p1 ≡ ((pos n1 *ℤ start) +ℤ (pos s1 *ℤ (end -ℤ start))) → p0 ≡ (pos n0 *ℤ c0) → p1 ≡ (pos n1 *ℤ c1)
    → (pos (n0 * n1) *ℤ (c1 -ℤ c0)) ≡ ((pos (n0 * s1) -ℤ pos (n1 * s0)) *ℤ (end -ℤ start))
way_part n0 n1 s0 s1 p0 p1 c0 c1 start end first second first_is second_is =
    let at : ℕ → ℕ → Term = λ n s. plus (times (n_of n) (number start)) (times (n_of s) (minus (number end) (number start))) in
    let one = same_of (times (n_of n0) (number c0)) (at n0 s0) (sym first_is ∙ first) in
    let other = same_of (times (n_of n1) (number c1)) (at n1 s1) (sym second_is ∙ second) in
    identity (times (n_of (n0 * n1)) (minus (number c1) (number c0))) (times (minus (n_of (n0 * s1)) (n_of (n1 * s0))) (minus (number end) (number start)))
    (omega (arith, ap (λ z. n1 * z) one, ap (λ z. n0 * z) other))

-- It goes so, on both axes.
record GoesPart (edge piece : Edge) : Type 0 where
  m : ℕ
  k : ℤ
  some : 0 < m
  x : (pos m *ℤ (piece.x1 -ℤ piece.x0)) ≡ (k *ℤ (edge.x1 -ℤ edge.x0))
  y : (pos m *ℤ (piece.y1 -ℤ piece.y0)) ≡ (k *ℤ (edge.y1 -ℤ edge.y0))

goes_part : (edge piece : Edge) → HasPoint edge piece.x0 piece.y0 → HasPoint edge piece.x1 piece.y1 → GoesPart edge piece
goes_part edge piece (one, (s0, first), one_at) (other, (s1, second), other_at) = record {
  m = one.n * other.n;
  k = pos (one.n * s1) -ℤ pos (other.n * s0);
  some = mul-pos one.positive other.positive;
  x = way_part one.n other.n s0 s1 one.x other.x piece.x0 piece.x1 edge.x0 edge.x1 first.x second.x one_at.x_is other_at.x_is;
  y = way_part one.n other.n s0 s1 one.y other.y piece.y0 piece.y1 edge.y0 edge.y1 first.y second.y one_at.y_is other_at.y_is;
}

cross_parts : (m n : ℕ) (j k ux uy vx vy wx wy zx zy : ℤ) → (pos m *ℤ wx) ≡ (j *ℤ ux) → (pos m *ℤ wy) ≡ (j *ℤ uy) → (pos n *ℤ zx) ≡ (k *ℤ vx) → (pos n *ℤ zy) ≡ (k *ℤ vy) → (pos (m * n) *ℤ cross wx wy zx zy) ≡ ((j *ℤ k) *ℤ cross ux uy vx vy)
cross_parts m n j k ux uy vx vy wx wy zx zy first_x first_y second_x second_y =
    let turn : Term → Term → Term → Term → Term = λ a b c d. minus (times a d) (times b c) in
    identity (times (n_of (m * n)) (turn (number wx) (number wy) (number zx) (number zy))) (turn (times (n_of m) (number wx)) (times (n_of m) (number wy)) (times (n_of n) (number zx)) (times (n_of n) (number zy))) (omega arith)
    ∙ ap (λ z. cross z (pos m *ℤ wy) (pos n *ℤ zx) (pos n *ℤ zy)) first_x
    ∙ ap (λ z. cross (j *ℤ ux) z (pos n *ℤ zx) (pos n *ℤ zy)) first_y
    ∙ ap (λ z. cross (j *ℤ ux) (j *ℤ uy) z (pos n *ℤ zy)) second_x
    ∙ ap (λ z. cross (j *ℤ ux) (j *ℤ uy) (k *ℤ vx) z) second_y
    ∙ identity (turn (times (number j) (number ux)) (times (number j) (number uy)) (times (number k) (number vx)) (times (number k) (number vy))) (times (times (number j) (number k)) (turn (number ux) (number uy) (number vx) (number vy))) (omega arith)

-- pieces of edges that are parallel are parallel
apart_edges : (edge other piece other_piece : Edge) → GoesPart edge piece → GoesPart other other_piece → AreNotParallel piece other_piece → AreNotParallel edge other
apart_edges edge other piece other_piece first second slanted none =
    slanted (zero_by (first.m * second.m) (cross (piece.x1 -ℤ piece.x0) (piece.y1 -ℤ piece.y0) (other_piece.x1 -ℤ other_piece.x0) (other_piece.y1 -ℤ other_piece.y0)) (first.k *ℤ second.k)
    (cross (edge.x1 -ℤ edge.x0) (edge.y1 -ℤ edge.y0) (other.x1 -ℤ other.x0) (other.y1 -ℤ other.y0)) (mul-pos first.some second.some)
    (cross_parts first.m second.m first.k second.k (edge.x1 -ℤ edge.x0) (edge.y1 -ℤ edge.y0) (other.x1 -ℤ other.x0) (other.y1 -ℤ other.y0) (piece.x1 -ℤ piece.x0) (piece.y1 -ℤ piece.y0) (other_piece.x1 -ℤ other_piece.x0) (other_piece.y1 -ℤ other_piece.y0) first.x first.y second.x second.y)
    none)

-- the other's way, by which side of the one its ends are on
way_across : (ux uy ax ay bx by cx cy : ℤ) → (cross ux uy (bx -ℤ cx) (by -ℤ cy) -ℤ cross ux uy (ax -ℤ cx) (ay -ℤ cy)) ≡ cross ux uy (bx -ℤ ax) (by -ℤ ay)
way_across ux uy ax ay bx by cx cy =
    let turn : Term → Term → Term = λ c d. minus (times (number ux) d) (times (number uy) c) in
    let way : ℤ → ℤ → Term = λ a b. minus (number a) (number b) in
    identity (minus (turn (way bx cx) (way by cy)) (turn (way ax cx) (way ay cy))) (turn (way bx ax) (way by ay)) (omega arith)

-- edges that cross properly aren't parallel
crosses-apart : (one other : Edge) → CrossProperly one other → AreNotParallel one other
crosses-apart one other (inl crosses) none =
    let from = crosses.from in
    let to = crosses.to in
    let way = way_across (one.x1 -ℤ one.x0) (one.y1 -ℤ one.y0) other.x0 other.y0 other.x1 other.y1 one.x0 one.y0 in
    omega (arith, ints, from, to, way, none)
crosses-apart one other (inr crosses) none =
    let from = crosses.from in
    let to = crosses.to in
    let way = way_across (one.x1 -ℤ one.x0) (one.y1 -ℤ one.y0) other.x0 other.y0 other.x1 other.y1 one.x0 one.y0 in
    omega (arith, ints, from, to, way, none)

-- ---- whole points

-- each point rounds to a whole one
rounded : (point : RationalPoint) → (x : ℤ) × (y : ℤ) × RoundsTo point x y
rounded point =
    let positive = point.positive in
    let some : pos 0 <ℤ pos point.n = omega (arith, ints, positive) in (
      _,
      _,
      record { along_x = RoundsOn-half point.x (pos point.n) some; along_y = RoundsOn-half point.y (pos point.n) some },
    )

-- the whole point, as one of n parts
abbrev whole_at : (n : ℕ) → 0 < n → ℤ → ℤ → RationalPoint
whole_at n some x y = record { n = n; x = pos n *ℤ x; y = pos n *ℤ y; positive = some }

-- it is of an edge that it lies on, over a denominator that is fine enough
whole-of : (edge : Edge) (x y : ℤ) (point : RationalPoint) (k n : ℕ) (some : 0 < n) → n ≡ k * point.n → IsOf edge point → IsAt point x y → IsOf edge (whole_at n some x y)
whole-of edge x y point k n some many of at =
    IsOf-finer edge k point (whole_at n some x y)
    (record {
      n = many;
      x = ap (λ j. pos j *ℤ x) many ∙ sym (finer_at k point.n point.x x at.x_is);
      y = ap (λ j. pos j *ℤ y) many ∙ sym (finer_at k point.n point.y y at.y_is);
    })
    of

cancelled : (m n : ℕ) (p c : ℤ) → 0 < m → (pos m *ℤ p) ≡ (pos n *ℤ (pos m *ℤ c)) → p ≡ (pos n *ℤ c)
cancelled m n p c some is =
    let same : (pos m *ℤ p) ≡ (pos m *ℤ (pos n *ℤ c)) = is ∙ identity (times (n_of n) (times (n_of m) (number c))) (times (n_of m) (times (n_of n) (number c))) (omega arith) in
    let upto = unscaled m p (pos n *ℤ c) some (omega (arith, ints, same)) in
    let back = unscaled m (pos n *ℤ c) p some (omega (arith, ints, same)) in
    omega (arith, ints, upto, back)

-- a whole point that lies on two edges is a common point of them
pub common-at : (one other : Edge) (x y : ℤ) → HasPoint one x y → HasPoint other x y → (point : RationalPoint) × IsOf one point × IsOf other point × IsAt point x y
common-at one other x y (first, first_of, first_at) (second, second_of, second_at) =
    let some = mul-pos first.positive second.positive in
    let n = first.n * second.n in
    (whole_at n some x y, whole-of one x y first second.n n some (omega arith) first_of first_at, whole-of other x y second first.n n some (omega arith) second_of second_at, record { x_is = refl; y_is = refl })

-- the common point of two edges that aren't parallel is a whole point that lies on both
pub common_whole : (one other : Edge) (point : RationalPoint) (x y : ℤ) → AreNotParallel one other → IsOf one point → IsOf other point → HasPoint one x y → HasPoint other x y → IsAt point x y
common_whole one other point x y apart of_one of_other (first, first_of, first_at) (second, second_of, second_at) =
    let some = mul-pos first.positive second.positive in
    let n = first.n * second.n in
    let same = one-of_crossing one other apart point (whole_at n some x y) (of_one, of_other) (
      whole-of one x y first second.n n some (omega arith) first_of first_at,
      whole-of other x y second first.n n some (omega arith) second_of second_at,
    ) in
    record { x_is = cancelled n point.n point.x x some same.x; y_is = cancelled n point.n point.y y some same.y }

-- ---- pieces

module _ (edges : List Edge) where
  -- a hot point that a moved edge passes moves edges
  pub heats : (edge : Edge) (x y : ℤ) → Contains edges edge → IsMoved edges edge → IsHot edges x y → Passes edge x y → Moves edges x y
  heats edge x y among (a, b, (round, moves), passes_there, beside) hot passes = (suc round, (hot, (edge, among, passes, (a, b, moves, passes_there, beside))))

  -- a point that moves edges lies on each that passes it, or moves it
  pub on_or_moved : (edge : Edge) (x y : ℤ) → Moves edges x y → Passes edge x y → HasPoint edge x y ⊎ IsMoved edges edge
  on_or_moved edge x y moves passes = elim (has_point-or_not edge x y) [
    | inl on ↦ inl on
    | inr beside ↦ inr (x, y, moves, passes, beside)
  ]

  module _ (edge other : Edge) (among : Contains edges edge) (other_among : Contains edges other) where
    -- Of two edges of which one is moved, what is a node of the one and is passed by the other is a node of the other.
    record Moved : Type 0 where
      share : Share (IsNode edges edge) (IsNode edges other) edge other
      crossings : HasCrossings (IsNode edges edge) edge other

    crossing_hot : (point : RationalPoint) (x y : ℤ) → AreNotParallel edge other → IsOf edge point → IsOf other point → RoundsTo point x y → IsHot edges x y
    crossing_hot point x y slanted of_one of_other rounds = inr (edge, other, among, other_among, (slanted, (point, of_one, of_other, rounds)))

    moved-by : IsMoved edges edge ⊎ IsMoved edges other → Moved
    moved-by (inl moved) = record {
      share = record {
        here = λ x y node passes. (node.0, passes, inr moved);
        there = λ x y node passes. (node.0, passes, on_or_moved other x y (heats edge x y among moved node.0 node.1) passes);
      };
      crossings = λ point x y slanted of_one of_other rounds. (crossing_hot point x y slanted of_one of_other rounds, (point, of_one, rounds), inr moved);
    }
    moved-by (inr moved) = record {
      share = record {
        here = λ x y node passes. (node.0, passes, on_or_moved edge x y (heats other x y other_among moved node.0 node.1) passes);
        there = λ x y node passes. (node.0, passes, inr moved);
      };
      crossings = λ point x y slanted of_one of_other rounds.
          let hot = crossing_hot point x y slanted of_one of_other rounds in
          (hot, (point, of_one, rounds), on_or_moved edge x y (heats other x y other_among moved hot (point, of_other, rounds)) (point, of_one, rounds));
    }

    module _ (piece other_piece : Edge) (first : IsPiece (IsNode edges edge) edge piece) (second : IsPiece (IsNode edges other) other other_piece)
        (from_on : HasPoint edge piece.x0 piece.y0) (to_on : HasPoint edge piece.x1 piece.y1) (other_from_on : HasPoint other other_piece.x0 other_piece.y0) (other_to_on : HasPoint other other_piece.x1 other_piece.y1) where
      -- where both pieces lie on their edges: an end of the other on the one is an end of it
      rest_ends : EndsOnly piece other_piece
      rest_ends = record {
        from = λ on. piece-clear (IsNode edges edge) edge piece other_piece.x0 other_piece.y0 first (λ passes. (second.from_hot.0, passes, inl (on_edge edge piece other_piece.x0 other_piece.y0 from_on to_on on))) on;
        to = λ on. piece-clear (IsNode edges edge) edge piece other_piece.x1 other_piece.y1 first (λ passes. (second.to_hot.0, passes, inl (on_edge edge piece other_piece.x1 other_piece.y1 from_on to_on on))) on;
      }

      rest_ends_back : EndsOnly other_piece piece
      rest_ends_back = record {
        from = λ on. piece-clear (IsNode edges other) other other_piece piece.x0 piece.y0 second (λ passes. (first.from_hot.0, passes, inl (on_edge other other_piece piece.x0 piece.y0 other_from_on other_to_on on))) on;
        to = λ on. piece-clear (IsNode edges other) other other_piece piece.x1 piece.y1 second (λ passes. (first.to_hot.0, passes, inl (on_edge other other_piece piece.x1 piece.y1 other_from_on other_to_on on))) on;
      }

      -- A common point of both pieces and both edges, and what it rounds to.
      record Common : Type 0 where
        point : RationalPoint
        of_piece : IsOf piece point
        of_other_piece : IsOf other_piece point
        of_one : IsOf edge point
        of_other : IsOf other point
        x : ℤ
        y : ℤ
        rounds : RoundsTo point x y

      common : (point : RationalPoint) → IsOf piece point → IsOf other_piece point → Common
      common point of_one of_other =
          let one = of_edge edge piece point from_on to_on of_one in
          let two = of_edge other other_piece point other_from_on other_to_on of_other in
          let finer = finer_than (one.m * two.m) (mul-pos one.some two.some) point in
          let plain : IsFiner (one.m * two.m) point finer = record { n = refl; x = refl; y = refl } in
          let turned : two.m * one.m ≡ one.m * two.m = omega arith in
          let (x, y, rounds) = rounded finer in record {
            point = finer;
            of_piece = IsOf-finer piece (one.m * two.m) point finer plain of_one;
            of_other_piece = IsOf-finer other_piece (one.m * two.m) point finer plain of_other;
            of_one = one.of two.m finer (subst (λ (k : ℕ). IsFiner k point finer) (sym turned) plain);
            of_other = two.of one.m finer plain;
            x = x;
            y = y;
            rounds = rounds;
          }

      -- pieces that cross at a whole point have it as a common end
      crossed_whole : CrossProperly piece other_piece → (at : Common) → AreNotParallel edge other → IsAt at.point at.x at.y → ⊥
      crossed_whole crosses at slanted whole =
          let hot = crossing_hot at.point at.x at.y slanted at.of_one at.of_other at.rounds in
          let end = piece-clear (IsNode edges edge) edge piece at.x at.y first (λ passes. (hot, passes, inl (at.point, at.of_one, whole))) (at.point, at.of_piece, whole) in
          let other_end = piece-clear (IsNode edges other) other other_piece at.x at.y second (λ passes. (hot, passes, inl (at.point, at.of_other, whole))) (at.point, at.of_other_piece, whole) in
          common_end piece other_piece at.x at.y (sides piece other_piece crosses) end other_end

      -- and those that cross beside one are of edges of which one is moved
      crossed_beside : (at : Common) → AreNotParallel edge other → ¬ (IsAt at.point at.x at.y) → IsMoved edges edge ⊎ IsMoved edges other
      crossed_beside at slanted beside =
          let moves : Moves edges at.x at.y = (0, (edge, other, among, other_among, (slanted, (at.point, at.of_one, at.of_other, at.rounds, beside)))) in
          elim (on_or_moved edge at.x at.y moves (at.point, at.of_one, at.rounds)) [
            | inr moved ↦ inl moved
            | inl on ↦ elim (on_or_moved other at.x at.y moves (at.point, at.of_other, at.rounds)) [
              | inr moved ↦ inr moved
              | inl other_on ↦ absurd (beside (common_whole edge other at.point at.x at.y slanted at.of_one at.of_other on other_on))
            ]
          ]

      -- so they don't cross
      rest-uncrossed : (point : RationalPoint) → IsOf piece point → IsOf other_piece point → CrossProperly piece other_piece → ⊥
      rest-uncrossed point of_one of_other crosses =
          let at = common point of_one of_other in
          let slanted = apart_edges edge other piece other_piece (goes_part edge piece from_on to_on) (goes_part other other_piece other_from_on other_to_on) (crosses-apart piece other_piece crosses) in
          elim (at_or_not at.point at.x at.y) [
            | inl whole ↦ crossed_whole crosses at slanted whole
            | inr beside ↦
                let by = moved-by (crossed_beside at slanted beside) in
                pieces-uncrossed (IsNode edges edge) (IsNode edges other) edge other piece other_piece first second by.crossings by.share crosses
          ]

      rest-meet : (point : RationalPoint) → IsOf piece point → IsOf other_piece point → MeetAtEnds piece other_piece point
      rest-meet point of_one of_other = meet-at_ends piece other_piece point rest_ends rest_ends_back (rest-uncrossed point of_one of_other) of_one of_other

    -- the theorem, of two pieces
    pub nodes-meet : (piece other_piece : Edge) (point : RationalPoint) → IsPiece (IsNode edges edge) edge piece → IsPiece (IsNode edges other) other other_piece → IsOf piece point → IsOf other_piece point → MeetAtEnds piece other_piece point
    nodes-meet piece other_piece point first second of_one of_other =
        elim first.from_hot.2 [
          | inr moved ↦ by_moved (inl moved)
          | inl from_on ↦ elim first.to_hot.2 [
            | inr moved ↦ by_moved (inl moved)
            | inl to_on ↦ elim second.from_hot.2 [
              | inr moved ↦ by_moved (inr moved)
              | inl other_from_on ↦ elim second.to_hot.2 [
                | inr moved ↦ by_moved (inr moved)
                | inl other_to_on ↦ rest-meet piece other_piece first second from_on to_on other_from_on other_to_on point of_one of_other
              ]
            ]
          ]
        ]
      where
        by_moved : IsMoved edges edge ⊎ IsMoved edges other → MeetAtEnds piece other_piece point
        by_moved moved =
            let by = moved-by moved in
            pieces-meet (IsNode edges edge) (IsNode edges other) edge other piece other_piece point first second by.crossings by.share of_one of_other

-- of the pieces of all chains
pub noded-meet : (edges : List Edge) (chains : List (List Point)) → AreNodeChains edges chains → (piece other_piece : Edge) (point : RationalPoint) → Contains (flat_map pieces chains) piece → Contains (flat_map pieces chains) other_piece → IsOf piece point → IsOf other_piece point
    → MeetAtEnds piece other_piece point
noded-meet edges chains are piece other_piece point first second of_one of_other =
    let one = piece_of (IsNode edges) (λ edge x y node. node.1) edges chains piece are first in
    let other = piece_of (IsNode edges) (λ edge x y node. node.1) edges chains other_piece are second in
    nodes-meet edges one.edge other.edge one.among other.among piece other_piece point one.is other.is of_one of_other

-- what moves edges is hot
pub moves-hot : (edges : List Edge) (round : ℕ) (x y : ℤ) → MovesInRound edges round x y → IsHot edges x y
moves-hot edges zero x y (one, other, first, second, (slanted, (point, of_one, of_other, rounds, beside))) = inr (one, other, first, second, (slanted, (point, of_one, of_other, rounds)))
moves-hot edges (suc round) x y (hot, moved) = hot

-- ---- the least set

-- what has the crossings beside whole points, and with a point that moves an edge each hot point that the edge passes, has all
-- points that move edges
pub moves-least : (edges : List Edge) (IsFound : ℤ → ℤ → Type 0) → ((one other : Edge) (x y : ℤ) → Contains edges one → Contains edges other → CrossBeside one other x y → IsFound x y)
    → ((edge : Edge) (x y : ℤ) → Contains edges edge → PassesBeside IsFound edge → IsHot edges x y → Passes edge x y → IsFound x y) → (x y : ℤ) → Moves edges x y → IsFound x y
moves-least edges IsFound begins spreads x y (round, moves) = in_round round x y moves
  where
    in_round : (round : ℕ) (x y : ℤ) → MovesInRound edges round x y → IsFound x y
    in_round zero x y (one, other, first, second, cross) = begins one other x y first second cross
    in_round (suc round) x y (hot, (edge, among, passes, (a, b, moves, passes_there, beside))) = spreads edge x y among (a, b, in_round round a b moves, passes_there, beside) hot passes

-- ---- what isn't moved

-- where no two edges cross beside a whole point nothing is moved
pub none-moved : (edges : List Edge) → ((one other : Edge) (x y : ℤ) → Contains edges one → Contains edges other → ¬ (CrossBeside one other x y)) → (edge : Edge) → ¬ (IsMoved edges edge)
none-moved edges none edge (x, y, (round, moves), passes, beside) = in_none round x y moves
  where
    in_none : (round : ℕ) (x y : ℤ) → ¬ (MovesInRound edges round x y)
    in_none zero x y (one, other, first, second, cross) = none one other x y first second cross
    in_none (suc round) x y (hot, (edge, among, passes, (a, b, moves, passes_there, beside))) = in_none round a b moves

-- an edge has its ends
pub ends_on : (edge : Edge) → HasPoint edge edge.x0 edge.y0 × HasPoint edge edge.x1 edge.y1
ends_on edge =
    let some : 0 < 1 = omega arith in (
      (whole_point 1 some edge.x0 edge.y0, starts edge 1 some, record { x_is = refl; y_is = refl }),
      (whole_point 1 some edge.x1 edge.y1, ends edge 1 some, record { x_is = refl; y_is = refl }),
    )

module _ (edges : List Edge) (edge : Edge) (chain : List Point) (along : IsNodeChain edges edge chain) where
  -- each node of an edge that isn't moved lies on it
  pub still-on : ¬ (IsMoved edges edge) → (c : Point) → Contains chain c → HasPoint edge c.x c.y
  still-on still c held = elim ((along.exact c).0 held).2 [
    | inl on ↦ on
    | inr moved ↦ absurd (still moved)
  ]

  -- a chain is a path of its edge
  pub IsPath-noded : Contains edges edge → IsPath edge chain
  IsPath-noded among =
      IsPath-along (IsNode edges edge) edge chain (λ x y node. node.1)
      (IsHot-from edges edge among, Passes-start edge, inl (ends_on edge).0)
      (IsHot-to edges edge among, Passes-end edge, inl (ends_on edge).1)
      along

-- it counts what its edge does where that is told
pub noded-told : (edges : List Edge) (edge : Edge) (chain : List Point) (point : RationalPoint) → Contains edges edge → IsNodeChain edges edge chain → IsExactAt edges point edge → CountsSame point edge chain
noded-told edges edge chain point among along (inl exactly) = chain-counts edge chain point (IsPath-noded edges edge chain along among) exactly
noded-told edges edge chain point among along (inr still) = chain-rests edge chain point (IsPath-noded edges edge chain along among) (still-on edges edge chain along still)

-- the chains of some edges among all
module _ (all some : List Edge) (chains : List (List Point)) (among : (edge : Edge) → Contains some edge → Contains all edge) (are : AllZip (IsNodeChain all) some chains) where
  -- their pieces count what these edges count, at a point that is told of each
  pub noded-winding : (point : RationalPoint) → All (IsExactAt all point) some → winding (flat_map pieces chains) point ≡ winding some point
  noded-winding point told =
      sum-same point some chains
      (AllZip-by (IsNodeChain all) (CountsSame point) some chains (λ edge chain held along. noded-told all edge chain point (among edge held) along (All-contains (IsExactAt all point) some edge told held)) are)

  -- they are paths of their edges
  pub IsPath-nodes : AllZip IsPath some chains
  IsPath-nodes = AllZip-by (IsNodeChain all) IsPath some chains (λ edge chain held along. IsPath-noded all edge chain along (among edge held)) are

  -- where these are closed so are their pieces
  pub noded-closed : IsClosed some → IsClosed (flat_map pieces chains)
  noded-closed closed = paths-closed some chains IsPath-nodes closed
