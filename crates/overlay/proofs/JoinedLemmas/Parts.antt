-- Parts of edges along an axis, and edges that are joined as they are: the points of the one and of the others.
use Rattle.std.proofs.Common.{◌≡◌, ◌⊎◌, inl, inr, Bool, true, false, ◌||◌, ◌&&◌, cond, ℕ, ◌*◌, ◌<◌, ◌≤◌, ℤ, pos, negsuc, ◌*ℤ◌, ◌+ℤ◌, ◌-ℤ◌, ◌≤ℤ◌, ◌<ℤ◌, ap, arith, refl, sym, subst, ◌∙◌}
use Rattle.std.proofs.lemmas.Bool.{and_parts, or_cases}
use Rattle.std.proofs.lemmas.Int.{ints}
use Rattle.std.specs.Int.Signed.{lt_z}
use Rattle.std.specs.Ordering.{int_eq}
use Rattle.std.specs.Prelude.{int_le}
use Rattle.plane.specs.declared.edge.Edge.{Edge}
use Rattle.plane.specs.Ends.{reversed}
use Rattle.plane.specs.Lines.{IsAlongAxis}
use Rattle.plane.specs.Meet.Crosses.{cross}
use Rattle.plane.specs.Meet.Edges.{IsOf, RationalPoint}
use Rattle.plane.specs.SweepLine.Heights.{rightwards}
use Rattle.plane.proofs.MeetLemmas.Along.{flipped, of-flipped, over, same_or_apart}
use Rattle.plane.proofs.MeetLemmas.Identities.{at_most, at_most_of, identity, minus, number, plus, times}
use Rattle.plane.proofs.SweepLineLemmas.Gaps.{product_above}
use Rattle.plane.proofs.SweepLineLemmas.Rightwards.{rightwards-left, rightwards-right}
use Rattle.noding.specs.Chains.{AreNotParallel}
use Rattle.noding.proofs.SnapLemmas.Numbers.{n_of, zero_by}
use Rattle.noding.proofs.SnapLemmas.Reversed.{IsOf-reversed}
use Rattle.overlay.specs.Joined.{has_part, is_level_part, is_same, is_upright_part, onwards}
use Rattle.overlay.proofs.FillLemmas.Under.{le_is}
use Rattle.overlay.proofs.PieceLemmas.Edges.{equal}
use Rattle.overlay.proofs.JoinedLemmas.Refined.{finer, finer-of}

-- ---- an edge along a level line

-- the number, which isn't negative
natural : (z : ℤ) → pos 0 ≤ℤ z → (n : ℕ) × (pos n ≡ z)
natural (pos n) above = (n, refl)
natural (negsuc n) above = absurd (omega (arith, ints, above))

-- The point lies on the line of a level edge, and not outside of it.
pub record OnLevel (edge : Edge) (point : RationalPoint) : Type 0 where
  pub height : point.y ≡ (pos point.n *ℤ edge.y0)
  pub from : (pos point.n *ℤ edge.x0) ≤ℤ point.x
  pub upto : point.x ≤ℤ (pos point.n *ℤ edge.x1)

from_share : (n a : ℕ) (p c d : ℤ) → c ≤ℤ d → p ≡ ((pos n *ℤ c) +ℤ (pos a *ℤ (d -ℤ c))) → (pos n *ℤ c) ≤ℤ p
from_share n a p c d up is = let part = product_above (pos a) (d -ℤ c) (omega (arith, ints)) (omega (arith, ints, up)) in omega (arith, ints, part, is)

upto_share : (n a : ℕ) (p c d : ℤ) → a ≤ n → c ≤ℤ d → p ≡ ((pos n *ℤ c) +ℤ (pos a *ℤ (d -ℤ c))) → p ≤ℤ (pos n *ℤ d)
upto_share n a p c d most up is =
    let wide = at_most_of (n_of 0) (times (minus (n_of n) (n_of a)) (minus (number d) (number c))) (product_above (pos n -ℤ pos a) (d -ℤ c) (omega (arith, ints, most)) (omega (arith, ints, up))) in
    subst (λ z. z ≤ℤ (pos n *ℤ d)) (sym is) (at_most (plus (times (n_of n) (number c)) (times (n_of a) (minus (number d) (number c)))) (times (n_of n) (number d)) (omega (arith, wide)))

level_share : (n a : ℕ) (p c d : ℤ) → d ≡ c → p ≡ ((pos n *ℤ c) +ℤ (pos a *ℤ (d -ℤ c))) → p ≡ (pos n *ℤ c)
level_share n a p c d level is =
    is ∙ ap (λ z. (pos n *ℤ c) +ℤ (pos a *ℤ (z -ℤ c))) level
    ∙ identity (plus (times (n_of n) (number c)) (times (n_of a) (minus (number c) (number c)))) (times (n_of n) (number c)) (omega arith)

pub on-level : (edge : Edge) (point : RationalPoint) → edge.x0 ≤ℤ edge.x1 → edge.y1 ≡ edge.y0 → IsOf edge point → OnLevel edge point
on-level edge point up level (a, at) = record {
  height = level_share point.n a point.y edge.y0 edge.y1 level at.y;
  from = from_share point.n a point.x edge.x0 edge.x1 up at.x;
  upto = upto_share point.n a point.x edge.x0 edge.x1 at.share up at.x;
}

-- The edge has the point, over a denominator that is fine enough.
pub record Finely (edge : Edge) (point : RationalPoint) : Type 0 where
  pub k : ℕ
  pub some : 0 < k
  pub of : IsOf edge (finer k some point)

pub finely : (edge : Edge) (point : RationalPoint) → IsOf edge point → Finely edge point
finely edge point of = record { k = 1; some = omega arith; of = finer-of edge 1 (omega arith) point of }

share_upto : (n a k : ℕ) (p c d : ℤ) → pos a ≡ (p -ℤ (pos n *ℤ c)) → pos k ≡ (d -ℤ c) → p ≤ℤ (pos n *ℤ d) → a ≤ k * n
share_upto n a k p c d part way upto =
    let whole : pos (k * n) ≡ (pos n *ℤ (d -ℤ c)) = identity (n_of (k * n)) (times (n_of n) (n_of k)) (omega arith) ∙ ap (λ z. pos n *ℤ z) way in
    let open_out : (pos n *ℤ (d -ℤ c)) ≡ ((pos n *ℤ d) -ℤ (pos n *ℤ c)) = identity (times (n_of n) (minus (number d) (number c))) (minus (times (n_of n) (number d)) (times (n_of n) (number c))) (omega arith) in
    omega (arith, ints, whole, open_out, part, upto)

share_at : (n a k : ℕ) (p c d : ℤ) → pos a ≡ (p -ℤ (pos n *ℤ c)) → pos k ≡ (d -ℤ c) → (pos k *ℤ p) ≡ ((pos (k * n) *ℤ c) +ℤ (pos a *ℤ (d -ℤ c)))
share_at n a k p c d part way =
    identity (times (n_of k) (number p)) (plus (times (n_of (k * n)) (number c)) (times (minus (number p) (times (n_of n) (number c))) (n_of k))) (omega arith)
    ∙ ap (λ z. (pos (k * n) *ℤ c) +ℤ (z *ℤ pos k)) (sym part)
    ∙ ap (λ z. (pos (k * n) *ℤ c) +ℤ (pos a *ℤ z)) way

share_level : (n a k : ℕ) (p c d : ℤ) → d ≡ c → p ≡ (pos n *ℤ c) → (pos k *ℤ p) ≡ ((pos (k * n) *ℤ c) +ℤ (pos a *ℤ (d -ℤ c)))
share_level n a k p c d level is =
    ap (λ z. pos k *ℤ z) is
    ∙ identity (times (n_of k) (times (n_of n) (number c))) (plus (times (n_of (k * n)) (number c)) (times (n_of a) (minus (number c) (number c)))) (omega arith)
    ∙ ap (λ z. (pos (k * n) *ℤ c) +ℤ (pos a *ℤ (z -ℤ c))) (sym level)

pub of-level : (edge : Edge) (point : RationalPoint) → edge.x0 <ℤ edge.x1 → edge.y1 ≡ edge.y0 → OnLevel edge point → Finely edge point
of-level edge point up level on =
    let (k, way) = natural (edge.x1 -ℤ edge.x0) (omega (arith, ints, up)) in
    let from = on.from in
    let (a, part) = natural (point.x -ℤ (pos point.n *ℤ edge.x0)) (omega (arith, ints, from)) in record {
      k = k;
      some = omega (arith, ints, way, up);
      of = (
        a,
        record {
          share = share_upto point.n a k point.x edge.x0 edge.x1 part way on.upto;
          x = share_at point.n a k point.x edge.x0 edge.x1 part way;
          y = share_level point.n a k point.y edge.y0 edge.y1 level on.height;
        },
      );
    }

-- ---- parts of a level edge

pub record IsLevelPart (edge part : Edge) : Type 0 where
  pub onwards : edge.x0 <ℤ edge.x1
  pub some : part.x0 <ℤ part.x1
  pub level : edge.y1 ≡ edge.y0
  pub part_level : part.y1 ≡ part.y0
  pub same : part.y0 ≡ edge.y0
  pub from : edge.x0 ≤ℤ part.x0
  pub upto : part.x1 ≤ℤ edge.x1

level-part : (edge part : Edge) → is_level_part edge part ≡ true → IsLevelPart edge part
level-part edge part told =
    let (ways, rest) = and_parts (lt_z edge.x0 edge.x1 && lt_z part.x0 part.x1) (levels && (same_level && (starts && ends))) told in
    let (way, part_way) = and_parts (lt_z edge.x0 edge.x1) (lt_z part.x0 part.x1) ways in
    let (both, others) = and_parts levels (same_level && (starts && ends)) rest in
    let (level, part_level) = and_parts (int_eq edge.y0 edge.y1) (int_eq part.y0 part.y1) both in
    let (same, inside) = and_parts same_level (starts && ends) others in
    let (from, upto) = and_parts starts ends inside in record {
      onwards = omega (arith, ints, way);
      some = omega (arith, ints, part_way);
      level = sym (equal edge.y0 edge.y1 level);
      part_level = sym (equal part.y0 part.y1 part_level);
      same = sym (equal edge.y0 part.y0 same);
      from = le_is edge.x0 part.x0 from;
      upto = le_is part.x1 edge.x1 upto;
    }
  where
    levels : Bool
    levels = int_eq edge.y0 edge.y1 && int_eq part.y0 part.y1

    same_level : Bool
    same_level = int_eq edge.y0 part.y0

    starts : Bool
    starts = int_le edge.x0 part.x0

    ends : Bool
    ends = int_le part.x1 edge.x1

-- The part is the edge, or of it along an axis.
abbrev pub IsPart : Edge → Edge → Type 0
IsPart edge part = (part ≡ edge) ⊎ (IsLevelPart edge part ⊎ IsLevelPart (flipped edge) (flipped part))

same-edge : (one other : Edge) → is_same one other ≡ true → other ≡ one
same-edge one other told =
    let (first, second) = and_parts (int_eq one.x0 other.x0 && int_eq one.y0 other.y0) (int_eq one.x1 other.x1 && int_eq one.y1 other.y1) told in
    let (a, b) = and_parts (int_eq one.x0 other.x0) (int_eq one.y0 other.y0) first in
    let (c, d) = and_parts (int_eq one.x1 other.x1) (int_eq one.y1 other.y1) second in
    ap (λ x. record { x0 = x; y0 = other.y0; x1 = other.x1; y1 = other.y1 }) (sym (equal one.x0 other.x0 a))
    ∙ ap (λ y. record { x0 = one.x0; y0 = y; x1 = other.x1; y1 = other.y1 }) (sym (equal one.y0 other.y0 b))
    ∙ ap (λ x. record { x0 = one.x0; y0 = one.y0; x1 = x; y1 = other.y1 }) (sym (equal one.x1 other.x1 c))
    ∙ ap (λ y. record { x0 = one.x0; y0 = one.y0; x1 = one.x1; y1 = y }) (sym (equal one.y1 other.y1 d))

pub is-part : (edge part : Edge) → has_part edge part ≡ true → IsPart (onwards edge) part
is-part edge part told =
    elim (or_cases (is_same (onwards edge) part) (is_level_part (onwards edge) part || is_upright_part (onwards edge) part) told) [
      | inl same ↦ inl (same-edge (onwards edge) part same)
      | inr along ↦ elim (or_cases (is_level_part (onwards edge) part) (is_upright_part (onwards edge) part) along) [
        | inl level ↦ inr (inl (level-part (onwards edge) part level))
        | inr upright ↦ inr (inr (level-part (flipped (onwards edge)) (flipped part) upright))
      ]
    ]

-- an edge turned onwards is itself, or goes the other way
pub onwards-is : (edge : Edge) → (onwards edge ≡ edge) ⊎ (onwards edge ≡ reversed edge)
onwards-is edge = by (int_eq edge.x0 edge.x1) (lt_z edge.y1 edge.y0) (lt_z edge.x1 edge.x0) refl
  where
    by : (s t u : Bool) → lt_z edge.x1 edge.x0 ≡ u → (cond s (cond t (reversed edge) edge) (rightwards edge) ≡ edge) ⊎ (cond s (cond t (reversed edge) edge) (rightwards edge) ≡ reversed edge)
    by true true u is = inr refl
    by true false u is = inl refl
    by false t true is = inr (rightwards-left edge is)
    by false t false is = inl (rightwards-right edge is)

pub of-onwards : (edge : Edge) (point : RationalPoint) → IsOf edge point → IsOf (onwards edge) point
of-onwards edge point of = elim (onwards-is edge) [
  | inl same ↦ subst (λ (e : Edge). IsOf e point) (sym same) of
  | inr back ↦ subst (λ (e : Edge). IsOf e point) (sym back) (IsOf-reversed edge point of)
]

pub of-turned : (edge : Edge) (point : RationalPoint) → IsOf (onwards edge) point → IsOf edge point
of-turned edge point of = elim (onwards-is edge) [
  | inl same ↦ subst (λ (e : Edge). IsOf e point) same of
  | inr back ↦ IsOf-reversed (reversed edge) point (subst (λ (e : Edge). IsOf e point) back of)
]

-- ---- points of parts

pub narrow : (n : ℕ) (c d : ℤ) → c ≤ℤ d → (pos n *ℤ c) ≤ℤ (pos n *ℤ d)
narrow n c d up =
    let wide = at_most_of (n_of 0) (times (n_of n) (minus (number d) (number c))) (product_above (pos n) (d -ℤ c) (omega (arith, ints)) (omega (arith, ints, up))) in
    at_most (times (n_of n) (number c)) (times (n_of n) (number d)) (omega (arith, wide))

level-up : (edge part : Edge) (point : RationalPoint) → IsLevelPart edge part → IsOf part point → Finely edge point
level-up edge part point is of =
    let some = is.some in
    let on = on-level part point (omega (arith, ints, some)) is.part_level of in
    let from = on.from in
    let upto = on.upto in
    let first = narrow point.n edge.x0 part.x0 is.from in
    let last = narrow point.n part.x1 edge.x1 is.upto in
    of-level edge point is.onwards is.level (record { height = on.height ∙ ap (λ z. pos point.n *ℤ z) is.same; from = omega (arith, ints, first, from); upto = omega (arith, ints, upto, last) })

pub finely-flipped : (edge : Edge) (point : RationalPoint) → Finely (flipped edge) (over point) → Finely edge point
finely-flipped edge point found = record { k = found.k; some = found.some; of = of-flipped edge (finer found.k found.some (over point)) found.of }

-- a point of a part is of the edge
pub part-up : (edge part : Edge) (point : RationalPoint) → IsPart edge part → IsOf part point → Finely edge point
part-up edge part point (inl same) of = finely edge point (subst (λ (e : Edge). IsOf e point) same of)
part-up edge part point (inr (inl level)) of = level-up edge part point level of
part-up edge part point (inr (inr upright)) of = finely-flipped edge point (level-up (flipped edge) (flipped part) (over point) upright (of-flipped (flipped part) point of))

-- the way of the one is along that of the other
pub record GoesAlong (one other : Edge) : Type 0 where
  pub m : ℕ
  pub k : ℤ
  pub some : 0 < m
  pub x : (pos m *ℤ (one.x1 -ℤ one.x0)) ≡ (k *ℤ (other.x1 -ℤ other.x0))
  pub y : (pos m *ℤ (one.y1 -ℤ one.y0)) ≡ (k *ℤ (other.y1 -ℤ other.y0))

pub along-apart : (one other third : Edge) → GoesAlong one other → AreNotParallel one third → AreNotParallel other third
along-apart one other third goes apart none = apart (zero_by goes.m (turn (one.x1 -ℤ one.x0) (one.y1 -ℤ one.y0)) goes.k (turn (other.x1 -ℤ other.x0) (other.y1 -ℤ other.y0)) goes.some moved none)
  where
    turn : ℤ → ℤ → ℤ
    turn ux uy = cross ux uy (third.x1 -ℤ third.x0) (third.y1 -ℤ third.y0)

    scaled : (k ux uy vx vy : ℤ) → (k *ℤ cross ux uy vx vy) ≡ cross (k *ℤ ux) (k *ℤ uy) vx vy
    scaled k ux uy vx vy = identity (times (number k) (minus (times (number ux) (number vy)) (times (number uy) (number vx)))) (minus (times (times (number k) (number ux)) (number vy)) (times (times (number k) (number uy)) (number vx))) (omega arith)

    moved : (pos goes.m *ℤ turn (one.x1 -ℤ one.x0) (one.y1 -ℤ one.y0)) ≡ (goes.k *ℤ turn (other.x1 -ℤ other.x0) (other.y1 -ℤ other.y0))
    moved =
        scaled (pos goes.m) (one.x1 -ℤ one.x0) (one.y1 -ℤ one.y0) (third.x1 -ℤ third.x0) (third.y1 -ℤ third.y0)
        ∙ ap (λ z. turn z (pos goes.m *ℤ (one.y1 -ℤ one.y0))) goes.x ∙ ap (λ z. turn (goes.k *ℤ (other.x1 -ℤ other.x0)) z) goes.y
        ∙ sym (scaled goes.k (other.x1 -ℤ other.x0) (other.y1 -ℤ other.y0) (third.x1 -ℤ third.x0) (third.y1 -ℤ third.y0))

along-itself : (edge : Edge) → GoesAlong edge edge
along-itself edge = record { m = 1; k = pos 1; some = omega arith; x = refl; y = refl }

along-reversed : (edge : Edge) → GoesAlong edge (reversed edge)
along-reversed edge = record { m = 1; k = negsuc 0; some = omega arith; x = omega (arith, ints); y = omega (arith, ints) }

along-level : (one other : Edge) → other.x0 <ℤ other.x1 → one.y1 ≡ one.y0 → other.y1 ≡ other.y0 → GoesAlong one other
along-level one other onwards level other_level =
    let (m, way) = natural (other.x1 -ℤ other.x0) (omega (arith, ints, onwards)) in record {
      m = m;
      k = one.x1 -ℤ one.x0;
      some = omega (arith, ints, way, onwards);
      x = ap (λ z. z *ℤ (one.x1 -ℤ one.x0)) way ∙ identity (times (minus (number other.x1) (number other.x0)) (minus (number one.x1) (number one.x0))) (times (minus (number one.x1) (number one.x0)) (minus (number other.x1) (number other.x0))) (omega arith);
      y = nowhere (pos m) one.y1 one.y0 level ∙ sym (nowhere (one.x1 -ℤ one.x0) other.y1 other.y0 other_level);
    }
  where
    nowhere : (k a b : ℤ) → a ≡ b → (k *ℤ (a -ℤ b)) ≡ pos 0
    nowhere k a b same = ap (λ z. k *ℤ (z -ℤ b)) same ∙ identity (times (number k) (minus (number b) (number b))) (n_of 0) (omega arith)

along-flipped : (one other : Edge) → GoesAlong (flipped one) (flipped other) → GoesAlong one other
along-flipped one other goes = record { m = goes.m; k = goes.k; some = goes.some; x = goes.y; y = goes.x }

pub along-part : (edge part : Edge) → IsPart edge part → GoesAlong edge part × GoesAlong part edge
along-part edge part (inl same) = (subst (λ (e : Edge). GoesAlong edge e) (sym same) (along-itself edge), subst (λ (e : Edge). GoesAlong e edge) (sym same) (along-itself edge))
along-part edge part (inr (inl is)) = (along-level edge part is.some is.level is.part_level, along-level part edge is.onwards is.part_level is.level)
along-part edge part (inr (inr is)) = (
  along-flipped edge part (along-level (flipped edge) (flipped part) is.some is.level is.part_level),
  along-flipped part edge (along-level (flipped part) (flipped edge) is.onwards is.part_level is.level),
)

pub apart-onwards : (edge third : Edge) → AreNotParallel edge third → AreNotParallel (onwards edge) third
apart-onwards edge third apart = elim (onwards-is edge) [
  | inl same ↦ subst (λ (e : Edge). AreNotParallel e third) (sym same) apart
  | inr back ↦ subst (λ (e : Edge). AreNotParallel e third) (sym back) (along-apart edge (reversed edge) third (along-reversed edge) apart)
]

pub apart-turned : (edge third : Edge) → AreNotParallel (onwards edge) third → AreNotParallel edge third
apart-turned edge third apart = elim (onwards-is edge) [
  | inl same ↦ subst (λ (e : Edge). AreNotParallel e third) same apart
  | inr back ↦ along-apart (reversed edge) edge third (along-reversed (reversed edge)) (subst (λ (e : Edge). AreNotParallel e third) back apart)
]

-- ---- edges along an axis

pub axis_or_not : (edge : Edge) → IsAlongAxis edge ⊎ (¬ (IsAlongAxis edge))
axis_or_not edge = elim (same_or_apart edge.x1 edge.x0) [
  | inl upright ↦ inl (inl upright)
  | inr apart ↦ elim (same_or_apart edge.y1 edge.y0) [
    | inl level ↦ inl (inr level)
    | inr slanted ↦ inr (λ axis. elim axis [ inl upright ↦ apart upright | inr level ↦ slanted level ])
  ]
]
