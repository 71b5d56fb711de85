-- On which side of an edge a point lies outside of what the edges bound, where the way to it meets them only at its start.
use Rattle.std.proofs.Common.{◌≡◌, ◌≢◌, ℕ, zero, suc, ◌+◌, ◌-◌, ◌*◌, ◌<◌, ◌≤◌, ℤ, pos, ◌+ℤ◌, ◌-ℤ◌, ◌*ℤ◌, ◌<ℤ◌, List, ap, ap₂, sym, subst, ◌∙◌, arith}
use Rattle.std.specs.List.{Contains}
use Rattle.std.proofs.Math.Nat.{mul-pos}
use Rattle.std.proofs.lemmas.Int.{by_lt_z, ints}
use Rattle.plane.specs.declared.edge.Edge.{Edge}
use Rattle.plane.specs.Meet.Crosses.{cross}
use Rattle.plane.specs.Meet.Edges.{IsAtShare, IsOf, RationalPoint}
use Rattle.plane.specs.Meet.Kinds.{IsEnd}
use Rattle.plane.proofs.MeetLemmas.Identities.{identity, minus, number, plus, times}
use Rattle.noding.specs.Windings.{IsClosed, winding}
use Rattle.noding.proofs.SnapLemmas.Local.{IsOf-finer}
use Rattle.noding.proofs.SnapLemmas.Numbers.{n_of, product_positive}
use Rattle.overlay.proofs.UncrossedLemmas.Finer.{finer-is, finer_than, times-same}
use Rattle.offset.proofs.CoverLemmas.Sides.{IsOnWay, MeetsAtStart, apart, side_of}
use Rattle.offset.proofs.CoverLemmas.Vectors.{crossed, way}
use Rattle.offset.proofs.SideLemmas.Aside.{near}
use Rattle.offset.proofs.SideLemmas.Inner.{BoundOnce, is_end-finer, left-once}
use Rattle.offset.proofs.SideLemmas.Ways.{Crossed, winds-alike}

-- The point over the denominators of two points.
abbrev pub base_of : RationalPoint → RationalPoint → RationalPoint
base_of at to = finer_than to.n to.positive at

-- The point that is one of so many parts of the way from one point to another.
abbrev pub part_towards : RationalPoint → RationalPoint → (parts : ℕ) → 0 < parts → RationalPoint
part_towards at to parts some = near (base_of at to) parts some (apart to at)

-- a part of the rest of the way
module _ (at to : RationalPoint) (parts : ℕ) (some : 0 < parts) (point : RationalPoint) where
  rest-of : (j a : ℕ) (p c d : ℤ)
      → ((pos (j + a) *ℤ (pos ((to.n * at.n) * parts) *ℤ pos to.n)) *ℤ p) ≡ (pos point.n *ℤ (((pos (j + a) -ℤ pos a) *ℤ (pos to.n *ℤ ((pos parts *ℤ (pos to.n *ℤ c)) +ℤ ((pos at.n *ℤ d) -ℤ (pos to.n *ℤ c))))) +ℤ (pos a *ℤ (pos ((to.n * at.n) * parts) *ℤ d))))
      → ((pos ((j + a) * parts) *ℤ (pos at.n *ℤ pos to.n)) *ℤ p) ≡ (pos point.n *ℤ (((pos ((j + a) * parts) -ℤ pos (j + (a * parts))) *ℤ (pos to.n *ℤ c)) +ℤ (pos (j + (a * parts)) *ℤ (pos at.n *ℤ d))))
  rest-of j a p c d is =
      let m = n_of (j + a) in
      let t = n_of to.n in
      let s = n_of at.n in
      times-same to.n ((pos ((j + a) * parts) *ℤ (pos at.n *ℤ pos to.n)) *ℤ p) (pos point.n *ℤ (((pos ((j + a) * parts) -ℤ pos (j + (a * parts))) *ℤ (pos to.n *ℤ c)) +ℤ (pos (j + (a * parts)) *ℤ (pos at.n *ℤ d)))) to.positive
      (identity (times t (times (times (n_of ((j + a) * parts)) (times s t)) (number p))) (times (times m (times (n_of ((to.n * at.n) * parts)) t)) (number p)) (omega arith)
      ∙ is
      ∙ ap (λ (z : ℤ). pos point.n *ℤ (((pos (j + a) -ℤ pos a) *ℤ (pos to.n *ℤ ((pos parts *ℤ (pos to.n *ℤ c)) +ℤ ((pos at.n *ℤ d) -ℤ (pos to.n *ℤ c))))) +ℤ (pos a *ℤ z))) (identity (times (n_of ((to.n * at.n) * parts)) (number d)) (times (n_of (to.n * parts)) (times s (number d))) (omega arith))
      ∙ ap (λ (z : ℤ). pos point.n *ℤ z) (inner (pos to.n *ℤ c) (pos at.n *ℤ d))
      ∙ outer (((pos ((j + a) * parts) -ℤ pos (j + (a * parts))) *ℤ (pos to.n *ℤ c)) +ℤ (pos (j + (a * parts)) *ℤ (pos at.n *ℤ d))))
    where
      inner : (u v : ℤ) → (((pos (j + a) -ℤ pos a) *ℤ (pos to.n *ℤ ((pos parts *ℤ u) +ℤ (v -ℤ u)))) +ℤ (pos a *ℤ (pos (to.n * parts) *ℤ v))) ≡ (pos to.n *ℤ (((pos ((j + a) * parts) -ℤ pos (j + (a * parts))) *ℤ u) +ℤ (pos (j + (a * parts)) *ℤ v)))
      inner u v =
          identity (plus (times (minus (n_of (j + a)) (n_of a)) (times (n_of to.n) (plus (times (n_of parts) (number u)) (minus (number v) (number u))))) (times (n_of a) (times (n_of (to.n * parts)) (number v))))
          (times (n_of to.n) (plus (times (minus (n_of ((j + a) * parts)) (n_of (j + (a * parts)))) (number u)) (times (n_of (j + (a * parts))) (number v)))) (omega arith)

      outer : (z : ℤ) → (pos point.n *ℤ (pos to.n *ℤ z)) ≡ (pos to.n *ℤ (pos point.n *ℤ z))
      outer z = identity (times (n_of point.n) (times (n_of to.n) (number z))) (times (n_of to.n) (times (n_of point.n) (number z))) (omega arith)

  -- lies on the whole way, behind its start
  pub on-further : (a m : ℕ) → IsOnWay (part_towards at to parts some) to point a m → (b : ℕ) × (c : ℕ) × (0 < b) × IsOnWay at to point b c
  on-further a m on = (j + (a * parts), m * parts, behind, record { some = mul-pos on.some some; share = upto; x = by point.x at.x to.x on.x; y = by point.y at.y to.y on.y })
    where
      j : ℕ
      j = m - a

      whole : j + a ≡ m
      whole = let share = on.share in omega (arith, share)

      at_least : (k n : ℕ) → 0 < n → k ≤ k * n
      at_least k zero none = absurd (omega (arith, none))
      at_least k (suc n) positive = omega arith

      upto : j + (a * parts) ≤ m * parts
      upto =
          let more = at_least j parts some in
          let sum : (j + a) * parts ≡ j * parts + a * parts = omega arith in
          let is = ap (λ (n : ℕ). n * parts) whole in
          omega (arith, more, sum, is)

      behind : 0 < j + (a * parts)
      behind =
          let more = at_least a parts some in
          let is = whole in
          let positive = on.some in
          omega (arith, more, is, positive)

      by : (p c d : ℤ)
          → ((pos m *ℤ (pos ((to.n * at.n) * parts) *ℤ pos to.n)) *ℤ p) ≡ (pos point.n *ℤ (((pos m -ℤ pos a) *ℤ (pos to.n *ℤ ((pos parts *ℤ (pos to.n *ℤ c)) +ℤ ((pos at.n *ℤ d) -ℤ (pos to.n *ℤ c))))) +ℤ (pos a *ℤ (pos ((to.n * at.n) * parts) *ℤ d))))
          → ((pos (m * parts) *ℤ (pos at.n *ℤ pos to.n)) *ℤ p) ≡ (pos point.n *ℤ (((pos (m * parts) -ℤ pos (j + (a * parts))) *ℤ (pos to.n *ℤ c)) +ℤ (pos (j + (a * parts)) *ℤ (pos at.n *ℤ d))))
      by p c d is =
          subst (λ (n : ℕ). ((pos (n * parts) *ℤ (pos at.n *ℤ pos to.n)) *ℤ p) ≡ (pos point.n *ℤ (((pos (n * parts) -ℤ pos (j + (a * parts))) *ℤ (pos to.n *ℤ c)) +ℤ (pos (j + (a * parts)) *ℤ (pos at.n *ℤ d))))) whole
          (rest-of j a p c d (subst (λ (n : ℕ). ((pos n *ℤ (pos ((to.n * at.n) * parts) *ℤ pos to.n)) *ℤ p) ≡ (pos point.n *ℤ (((pos n -ℤ pos a) *ℤ (pos to.n *ℤ ((pos parts *ℤ (pos to.n *ℤ c)) +ℤ ((pos at.n *ℤ d) -ℤ (pos to.n *ℤ c))))) +ℤ (pos a *ℤ (pos ((to.n * at.n) * parts) *ℤ d))))) (sym whole) is))

-- where the way meets the edges only at its start, they wind around its parts as around its end
pub winding-towards : (edges : List Edge) → IsClosed edges → (at to : RationalPoint) → MeetsAtStart edges at to → (parts : ℕ) (some : 0 < parts) → winding edges (part_towards at to parts some) ≡ winding edges to
winding-towards edges closed at to only parts some = winds-alike edges closed (part_towards at to parts some) to never
  where
    never : ¬ (Crossed edges (part_towards at to parts some) to)
    never found =
        let (b, c, behind, on) = on-further at to parts some found.point found.a found.m found.on in
        let none = only found.edge found.point b c found.among found.of on in
        omega (arith, behind, none)

-- how far the way from a point of an edge goes to the left is how far its end lies to the left
turn-towards : (edge : Edge) (at to : RationalPoint) (a : ℕ) → IsAtShare edge at a → crossed (way edge) (apart to at) ≡ (pos at.n *ℤ side_of edge to)
turn-towards edge at to a share =
    let dx = minus (number edge.x1) (number edge.x0) in
    let dy = minus (number edge.y1) (number edge.y0) in
    let t = n_of to.n in
    let s = n_of at.n in
    ap₂ (λ (x y : ℤ). cross (edge.x1 -ℤ edge.x0) (edge.y1 -ℤ edge.y0) ((pos at.n *ℤ to.x) -ℤ (pos to.n *ℤ x)) ((pos at.n *ℤ to.y) -ℤ (pos to.n *ℤ y))) share.x share.y
    ∙ identity
    (minus (times dx (minus (times s (number to.y)) (times t (plus (times s (number edge.y0)) (times (n_of a) dy))))) (times dy (minus (times s (number to.x)) (times t (plus (times s (number edge.x0)) (times (n_of a) dx))))))
    (times s (minus (times dx (minus (number to.y) (times t (number edge.y0)))) (times dy (minus (number to.x) (times t (number edge.x0)))))) (omega arith)

-- From a point inside an edge a way that meets the edges no more, to a point outside, goes to the right of the edge.
pub goes-right : (edges : List Edge) (bounds : BoundOnce edges) (edge : Edge) (at to : RationalPoint) → Contains edges edge → IsOf edge at → ¬ (IsEnd edge at) → winding edges to ≡ bounds.outer → MeetsAtStart edges at to
    → side_of edge to ≢ pos 0 → side_of edge to <ℤ pos 0
goes-right edges bounds edge at to among of inner none only apart_from =
    by_lt_z (side_of edge to) (pos 0) (λ right. right)
    (λ not_right. absurd (not_left (let differ = apart_from in omega (arith, ints, not_right, differ))))
  where
    not_left : ¬ (pos 0 <ℤ side_of edge to)
    not_left left =
        let turn = turn-towards edge at to of.0 of.1 in
        let positive = at.positive in
        let more = product_positive (pos at.n) (side_of edge to) (omega (arith, ints, positive)) left in
        let (least, once) = left-once edges bounds edge among (base_of at to) (IsOf-finer edge to.n at (base_of at to) (finer-is to.n to.positive at) of)
        (λ end. inner (is_end-finer edge to.n at (base_of at to) (finer-is to.n to.positive at) end)) (apart to at) (omega (arith, ints, turn, more)) in
        let one = once (suc least) (omega arith) (omega arith) in
        let same = winding-towards edges bounds.closed at to only (suc least) (omega arith) in
        omega (arith, ints, one, same, none)
