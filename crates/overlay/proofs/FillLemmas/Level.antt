-- Edges that meet only at common ends and are as high somewhere inside one of them are one edge.
use Rattle.std.proofs.Common.{◌≡◌, ℕ, ◌*◌, ◌<◌, ◌≤◌, ℤ, pos, ◌+ℤ◌, ◌-ℤ◌, ◌*ℤ◌, ◌≤ℤ◌, ◌<ℤ◌, ◌⊎◌, inl, inr, arith, ap, refl, sym, ◌∙◌}
use Rattle.std.proofs.lemmas.Int.{ints}
use Rattle.std.proofs.Math.Nat.{mul-le-mul_left, mul-pos}
use Rattle.plane.specs.declared.edge.Edge.{Edge}
use Rattle.plane.specs.SweepLine.Heights.{run, height_by_runs}
use Rattle.plane.specs.Meet.Edges.{RationalPoint, IsOf}
use Rattle.plane.specs.Meet.Kinds.{IsEnd}
use Rattle.plane.proofs.MeetLemmas.Identities.{number, plus, minus, times, at_most_of, same_of, identity, unscaled}
use Rattle.noding.specs.Meeting.{MeetAtEnds}
use Rattle.overlay.specs.Fill.Filled.{HaveSameEnds}
use Rattle.noding.proofs.SnapLemmas.Counted.{height_at}
use Rattle.noding.proofs.SnapLemmas.Heights.{share_x, share_y}
use Rattle.noding.proofs.SnapLemmas.Numbers.{n_of, natural}

-- Each point of both edges is an end of both, or they have the same ends.
abbrev pub MeetOnly : Edge → Edge → Type 0
MeetOnly one other = (point : RationalPoint) → IsOf one point → IsOf other point → MeetAtEnds one other point

-- ---- numbers

-- two numbers with the same positive multiple
cancel : (m : ℕ) (a b : ℤ) → 0 < m → (pos m *ℤ a) ≡ (pos m *ℤ b) → a ≡ b
cancel m a b some same =
    let upto = unscaled m a b some (omega (arith, ints, same)) in
    let from = unscaled m b a some (omega (arith, ints, same)) in
    omega (arith, ints, upto, from)

-- k times a number at a share is at k times the share
scaled_share : (k n a : ℕ) (p s w : ℤ) → p ≡ ((pos n *ℤ s) +ℤ (pos a *ℤ w)) → (pos k *ℤ p) ≡ ((pos (k * n) *ℤ s) +ℤ (pos (k * a) *ℤ w))
scaled_share k n a p s w is =
    ap (λ z. pos k *ℤ z) is
    ∙ identity (times (n_of k) (plus (times (n_of n) (number s)) (times (n_of a) (number w)))) (plus (times (n_of (k * n)) (number s)) (times (n_of (k * a)) (number w))) (omega arith)

-- how far an x of an edge is from its start is a share
share_within : (n r a : ℕ) (p x0 x1 : ℤ) → (x1 -ℤ x0) ≡ pos r → (p -ℤ (pos n *ℤ x0)) ≡ pos a → p ≤ℤ (pos n *ℤ x1) → a ≤ r * n
share_within n r a p x0 x1 is_run is_share upto =
    let one = ap (λ k. n * k) (same_of (minus (number x1) (number x0)) (n_of r) is_run) in
    let two = same_of (minus (number p) (times (n_of n) (number x0))) (n_of a) is_share in
    let three = at_most_of (number p) (times (n_of n) (number x1)) upto in
    omega (arith, one, two, three)

-- ---- the point of an edge at a rational x

-- The x is one of the edge's, both ends' among them.
pub record Within (edge : Edge) (at : RationalPoint) : Type 0 where
  pub from : (pos at.n *ℤ edge.x0) ≤ℤ at.x
  pub upto : at.x ≤ℤ (pos at.n *ℤ edge.x1)

-- the edge's point there, over k times its run
pub of_at : (edge : Edge) (at : RationalPoint) (r k : ℕ) (point : RationalPoint) → run edge ≡ pos r → Within edge at → point.n ≡ k * (r * at.n) → point.x ≡ (pos k *ℤ (pos r *ℤ at.x)) → point.y ≡ (pos k *ℤ height_at edge at) → IsOf edge point
of_at edge at r k point is_run within is_n is_x is_y =
    let from = within.from in
    let share = natural (at.x -ℤ (pos at.n *ℤ edge.x0)) (omega (arith, ints, from)) in
    let upto = mul-le-mul_left k (share_within at.n r share.k at.x edge.x0 edge.x1 is_run share.is within.upto) in (
      k * share.k,
      record {
        share = omega (arith, is_n, upto);
        x = is_x
            ∙ scaled_share k (r * at.n) share.k (pos r *ℤ at.x) edge.x0 (edge.x1 -ℤ edge.x0) (share_x at.n r share.k at.x edge.x0 (edge.x1 -ℤ edge.x0) is_run share.is)
            ∙ ap (λ (m : ℕ). (pos m *ℤ edge.x0) +ℤ (pos (k * share.k) *ℤ (edge.x1 -ℤ edge.x0))) (sym is_n);
        y = is_y
            ∙ scaled_share k (r * at.n) share.k (height_at edge at) edge.y0 (edge.y1 -ℤ edge.y0) (share_y at.n r share.k at.x edge.x0 edge.x1 edge.y0 edge.y1 is_run share.is)
            ∙ ap (λ (m : ℕ). (pos m *ℤ edge.y0) +ℤ (pos (k * share.k) *ℤ (edge.y1 -ℤ edge.y0))) (sym is_n);
      },
    )

-- ---- a point of both

record Shared (one other : Edge) (at : RationalPoint) : Type 0 where
  pub point : RationalPoint
  pub of_one : IsOf one point
  pub of_other : IsOf other point
  pub upright : (pos at.n *ℤ point.x) ≡ (pos point.n *ℤ at.x)

-- heights that are the same by cross-multiplying, over both runs
level_out : (r s : ℕ) (h k v w : ℤ) → v ≡ pos r → w ≡ pos s → (h *ℤ w) ≡ (k *ℤ v) → (pos s *ℤ h) ≡ (pos r *ℤ k)
level_out r s h k v w is_run is_other level =
    identity (times (n_of s) (number h)) (times (number h) (n_of s)) (omega arith)
    ∙ ap (λ z. h *ℤ z) (sym is_other)
    ∙ level
    ∙ ap (λ z. k *ℤ z) is_run
    ∙ identity (times (number k) (n_of r)) (times (n_of r) (number k)) (omega arith)

-- where two edges are as high they share a point
shared : (one other : Edge) (at : RationalPoint) → one.x0 <ℤ one.x1 → other.x0 <ℤ other.x1 → Within one at → Within other at → (height_at one at *ℤ run other) ≡ (height_at other at *ℤ run one) → Shared one other at
shared one other at some some_too within within_too level =
    let width = natural (run one) (omega (arith, ints, some)) in
    let width_too = natural (run other) (omega (arith, ints, some_too)) in
    let is = width.is in
    let is_too = width_too.is in
    let wide : 0 < width.k = omega (arith, ints, some, is) in
    let wide_too : 0 < width_too.k = omega (arith, ints, some_too, is_too) in
    let r = width.k in
    let s = width_too.k in
    let point : RationalPoint = record {
      n = s * (r * at.n);
      x = pos s *ℤ (pos r *ℤ at.x);
      y = pos s *ℤ height_at one at;
      positive = mul-pos wide_too (mul-pos wide at.positive);
    } in record {
      point = point;
      of_one = of_at one at r s point is within refl refl refl;
      of_other = of_at other at s r point is_too within_too (omega arith)
          (identity (times (n_of s) (times (n_of r) (number at.x))) (times (n_of r) (times (n_of s) (number at.x))) (omega arith))
          (level_out r s (height_at one at) (height_at other at) (run one) (run other) is is_too level);
      upright = identity (times (n_of at.n) (times (n_of s) (times (n_of r) (number at.x)))) (times (n_of (s * (r * at.n))) (number at.x)) (omega arith);
    }

-- a point above x / n that is whole there
whole_at : (n m : ℕ) (x px q : ℤ) → 0 < m → px ≡ (pos m *ℤ x) → (pos n *ℤ px) ≡ (pos m *ℤ q) → (pos n *ℤ x) ≡ q
whole_at n m x px q some whole upright =
    cancel m (pos n *ℤ x) q some
    (identity (times (n_of m) (times (n_of n) (number x))) (times (n_of n) (times (n_of m) (number x))) (omega arith)
    ∙ ap (λ z. pos n *ℤ z) (sym whole)
    ∙ upright)

-- an end of an edge is at its start's x or at its end's
pub end_at : (edge : Edge) (at point : RationalPoint) → (pos at.n *ℤ point.x) ≡ (pos point.n *ℤ at.x) → IsEnd edge point → ((pos at.n *ℤ edge.x0) ≡ at.x) ⊎ ((pos at.n *ℤ edge.x1) ≡ at.x)
end_at edge at point upright (inl from) = inl (whole_at at.n point.n edge.x0 point.x at.x point.positive from.x_is upright)
end_at edge at point upright (inr to) = inr (whole_at at.n point.n edge.x1 point.x at.x point.positive to.x_is upright)

-- edges with the same ends that both go rightwards are one
pub same-onwards : (one other : Edge) → one.x0 <ℤ one.x1 → other.x0 <ℤ other.x1 → HaveSameEnds one other → one ≡ other
same-onwards one other some some_too (inl same) = same
same-onwards one other some some_too (inr back) =
    let from = ap (λ (edge : Edge). edge.x0) back in
    let to = ap (λ (edge : Edge). edge.x1) back in
    absurd (omega (arith, ints, some, some_too, from, to))

-- so edges that are as high at an x strictly inside one of them are one
pub level-same : (one other : Edge) (at : RationalPoint) → MeetOnly one other → one.x0 <ℤ one.x1 → other.x0 <ℤ other.x1 → Within one at
    → (pos at.n *ℤ other.x0) <ℤ at.x → at.x <ℤ (pos at.n *ℤ other.x1) → (height_at one at *ℤ run other) ≡ (height_at other at *ℤ run one) → one ≡ other
level-same one other at meet some some_too within behind before level =
    let found = shared one other at some some_too within (record { from = omega (arith, ints, behind); upto = omega (arith, ints, before) }) level in
    elim (meet found.point found.of_one found.of_other) [
      | inl ends ↦ absurd (elim (end_at other at found.point found.upright ends.1) [
        | inl is ↦ omega (arith, ints, is, behind)
        | inr is ↦ omega (arith, ints, is, before)
      ])
      | inr same ↦ same-onwards one other some some_too same
    ]

-- ---- at a whole x, and in the middle of a stretch

-- a whole x as a rational one
abbrev pub whole_x : ℤ → RationalPoint
whole_x x = record {
  n = 1;
  x = x;
  y = pos 0;
  positive = omega arith;
}

-- the height there is the height at the whole x
pub height_whole : (x x0 x1 y0 y1 : ℤ) → ((y0 *ℤ ((pos 1 *ℤ x1) -ℤ x)) +ℤ (y1 *ℤ (x -ℤ (pos 1 *ℤ x0)))) ≡ ((y0 *ℤ (x1 -ℤ x)) +ℤ (y1 *ℤ (x -ℤ x0)))
height_whole x x0 x1 y0 y1 =
    identity (plus (times (number y0) (minus (times (n_of 1) (number x1)) (number x))) (times (number y1) (minus (number x) (times (n_of 1) (number x0)))))
    (plus (times (number y0) (minus (number x1) (number x))) (times (number y1) (minus (number x) (number x0)))) (omega arith)

-- the middle between x and x + 1
abbrev middle_x : ℤ → RationalPoint
middle_x x = record {
  n = 2;
  x = (x +ℤ x) +ℤ pos 1;
  y = pos 0;
  positive = omega arith;
}

-- twice the height there is the sum of the heights at both ends
height_middle : (x x0 x1 y0 y1 w : ℤ) → (((y0 *ℤ ((pos 2 *ℤ x1) -ℤ ((x +ℤ x) +ℤ pos 1))) +ℤ (y1 *ℤ (((x +ℤ x) +ℤ pos 1) -ℤ (pos 2 *ℤ x0)))) *ℤ w)
    ≡ ((((y0 *ℤ (x1 -ℤ x)) +ℤ (y1 *ℤ (x -ℤ x0))) *ℤ w) +ℤ (((y0 *ℤ (x1 -ℤ (x +ℤ pos 1))) +ℤ (y1 *ℤ ((x +ℤ pos 1) -ℤ x0))) *ℤ w))
height_middle x x0 x1 y0 y1 w =
    let twice = plus (plus (number x) (number x)) (n_of 1) in
    let next = plus (number x) (n_of 1) in
    identity (times (plus (times (number y0) (minus (times (n_of 2) (number x1)) twice)) (times (number y1) (minus twice (times (n_of 2) (number x0))))) (number w))
    (plus (times (plus (times (number y0) (minus (number x1) (number x))) (times (number y1) (minus (number x) (number x0)))) (number w)) (times (plus (times (number y0) (minus (number x1) next)) (times (number y1) (minus next (number x0)))) (number w)))
    (omega arith)

-- so two edges that are as high in the middle of a stretch are one
pub level-same_middle : (one other : Edge) (x : ℤ) → MeetOnly one other → one.x0 ≤ℤ x → x <ℤ one.x1 → other.x0 ≤ℤ x → x <ℤ other.x1
    → (height_by_runs one other x +ℤ height_by_runs one other (x +ℤ pos 1)) ≡ (height_by_runs other one x +ℤ height_by_runs other one (x +ℤ pos 1)) → one ≡ other
level-same_middle one other x meet from before from_too before_too level =
    level-same one other (middle_x x) meet (omega (arith, ints, from, before)) (omega (arith, ints, from_too, before_too))
    (record { from = omega (arith, ints, from); upto = omega (arith, ints, before) }) (omega (arith, ints, from_too)) (omega (arith, ints, before_too))
    (height_middle x one.x0 one.x1 one.y0 one.y1 (run other) ∙ level ∙ sym (height_middle x other.x0 other.x1 other.y0 other.y1 (run one)))
