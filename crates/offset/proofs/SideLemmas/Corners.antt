-- At an end of edges that bound a region: which edge comes next, clockwise from a way to a point around which they don't wind.
use Rattle.std.proofs.Common.{◌≡◌, ◌≢◌, ◌⊎◌, inl, inr, ℕ, zero, suc, ◌+◌, ◌*◌, ◌<◌, ◌≤◌, ℤ, pos, ◌+ℤ◌, ◌-ℤ◌, ◌*ℤ◌, ◌<ℤ◌, ◌≤ℤ◌, List, ◌++◌, map, refl, ap, ap₂, sym, subst, ◌∙◌, arith}
use Rattle.std.specs.List.{Contains}
use Rattle.std.proofs.lemmas.Int.{by_lt_z, ints}
use Rattle.std.proofs.lemmas.List.Elements.{All-contains, Contains-append_cases, Contains-append_left, Contains-append_right}
use Rattle.plane.specs.declared.edge.Edge.{Edge}
use Rattle.plane.specs.declared.point.Point.{Point}
use Rattle.plane.specs.Ends.{end_of, reversed, start_of}
use Rattle.plane.specs.Meet.Crosses.{cross}
use Rattle.plane.specs.Meet.Edges.{IsAtShare, IsOf, RationalPoint}
use Rattle.plane.specs.Meet.Kinds.{IsAt, IsEnd}
use Rattle.plane.proofs.MeetLemmas.Along.{is_of-end}
use Rattle.plane.proofs.MeetLemmas.Identities.{Term, identity, minus, number, plus, times}
use Rattle.plane.proofs.PairsLemmas.Bags.{Contains-from_map, Contains-map}
use Rattle.plane.proofs.SweepLineLemmas.Gaps.{product_above}
use Rattle.noding.specs.Meeting.{MeetAtEnds}
use Rattle.noding.specs.Windings.{winding}
use Rattle.noding.proofs.SnapLemmas.Local.{IsFiner}
use Rattle.noding.proofs.SnapLemmas.Numbers.{n_of, product_positive}
use Rattle.noding.proofs.SnapLemmas.Reversed.{IsOf-reversed}
use Rattle.overlay.proofs.UncrossedLemmas.Finer.{HasFinely, times-same}
use Rattle.offset.proofs.CoverLemmas.Numbers.{positive-factor}
use Rattle.offset.proofs.CoverLemmas.Sides.{IsBetween, IsOnWay, MeetsAtStart, ahead, apart, back, side_of, whole}
use Rattle.offset.proofs.CoverLemmas.Vectors.{crossed, turn_back, way}
use Rattle.offset.proofs.SideLemmas.Aside.{IsAside, IsClear, IsNearBy, clear-from, clear-misses, enough, has-or_aside, mean, near, on-near}
use Rattle.offset.proofs.SideLemmas.Close.{between-no_end}
use Rattle.offset.proofs.SideLemmas.Crossing.{less_times}
use Rattle.offset.specs.Shape.{opposite}
use Rattle.offset.proofs.SideLemmas.Inner.{BoundOnce}
use Rattle.offset.proofs.SideLemmas.Rays.{IsLastLeft, IsNext, IsNextRight, crossed-itself, next-right}
use Rattle.offset.proofs.SideLemmas.Right.{base_of, goes-right, winding-towards}
use Rattle.offset.proofs.SideLemmas.Ways.{winds-alike}

-- The edge begins or ends at the point.
abbrev pub HasEnd : Point → Edge → Type 0
HasEnd at edge = (start_of edge ≡ at) ⊎ (end_of edge ≡ at)

-- ---- numbers

-- where a natural multiple is above 0 so is the number, and the factor
factor_positive : (k : ℕ) (z : ℤ) → pos 0 <ℤ (pos k *ℤ z) → (0 < k) × (pos 0 <ℤ z)
factor_positive zero z more = let none = identity (times (n_of 0) (number z)) (n_of 0) (omega arith) in absurd (omega (arith, ints, more, none))
factor_positive (suc k) z more = (omega arith, positive-factor (pos (suc k)) z (omega (arith, ints)) more)

abbrev cross_term : Term → Term → Term → Term → Term
cross_term x y other_x other_y = minus (times x other_y) (times y other_x)

-- a mean of two vectors, by what these turn
mean-right : (m a : ℕ) (first second t : Point) → crossed (mean m a first second) t ≡ (((pos m -ℤ pos a) *ℤ crossed first t) +ℤ (pos a *ℤ crossed second t))
mean-right m a first second t =
    let part : ℤ → ℤ → Term = λ c d. plus (times (minus (n_of m) (n_of a)) (number c)) (times (n_of a) (number d)) in
    identity (cross_term (part first.x second.x) (part first.y second.y) (number t.x) (number t.y))
    (plus (times (minus (n_of m) (n_of a)) (cross_term (number first.x) (number first.y) (number t.x) (number t.y))) (times (n_of a) (cross_term (number second.x) (number second.y) (number t.x) (number t.y)))) (omega arith)

mean-left : (m a : ℕ) (t first second : Point) → crossed t (mean m a first second) ≡ (((pos m -ℤ pos a) *ℤ crossed t first) +ℤ (pos a *ℤ crossed t second))
mean-left m a t first second =
    let part : ℤ → ℤ → Term = λ c d. plus (times (minus (n_of m) (n_of a)) (number c)) (times (n_of a) (number d)) in
    identity (cross_term (number t.x) (number t.y) (part first.x second.x) (part first.y second.y))
    (plus (times (minus (n_of m) (n_of a)) (cross_term (number t.x) (number t.y) (number first.x) (number first.y))) (times (n_of a) (cross_term (number t.x) (number t.y) (number second.x) (number second.y)))) (omega arith)

none_times : (z : ℤ) → (z *ℤ pos 0) ≡ pos 0
none_times z = identity (times (number z) (n_of 0)) (n_of 0) (omega arith)

-- vectors of which a multiple is a multiple
same_right : (c n : ℕ) (d w t : Point) → (pos c *ℤ d.x) ≡ (pos n *ℤ w.x) → (pos c *ℤ d.y) ≡ (pos n *ℤ w.y) → (pos c *ℤ crossed d t) ≡ (pos n *ℤ crossed w t)
same_right c n d w t on_x on_y =
    identity (times (n_of c) (cross_term (number d.x) (number d.y) (number t.x) (number t.y))) (cross_term (times (n_of c) (number d.x)) (times (n_of c) (number d.y)) (number t.x) (number t.y)) (omega arith)
    ∙ ap₂ (λ (x y : ℤ). cross x y t.x t.y) on_x on_y
    ∙ identity (cross_term (times (n_of n) (number w.x)) (times (n_of n) (number w.y)) (number t.x) (number t.y)) (times (n_of n) (cross_term (number w.x) (number w.y) (number t.x) (number t.y))) (omega arith)

same_left : (c n : ℕ) (t d w : Point) → (pos c *ℤ d.x) ≡ (pos n *ℤ w.x) → (pos c *ℤ d.y) ≡ (pos n *ℤ w.y) → (pos c *ℤ crossed t d) ≡ (pos n *ℤ crossed t w)
same_left c n t d w on_x on_y =
    identity (times (n_of c) (cross_term (number t.x) (number t.y) (number d.x) (number d.y))) (cross_term (number t.x) (number t.y) (times (n_of c) (number d.x)) (times (n_of c) (number d.y))) (omega arith)
    ∙ ap₂ (λ (x y : ℤ). cross t.x t.y x y) on_x on_y
    ∙ identity (cross_term (number t.x) (number t.y) (times (n_of n) (number w.x)) (times (n_of n) (number w.y))) (times (n_of n) (cross_term (number t.x) (number t.y) (number w.x) (number w.y))) (omega arith)

-- ---- near a whole point

module _ (edges : List Edge) (at : Point) (to : RationalPoint) where
  abbrev pub base : RationalPoint
  base = base_of (whole at) to

  -- the way to the other point
  abbrev pub ray : Point
  ray = apart to (whole at)

  -- each edge, and each the other way round
  abbrev pub spokes : List Edge
  spokes = edges ++ map reversed edges

  -- a point of an edge from the whole point that is near by a vector lies along this
  module _ (edge : Edge) (starts : start_of edge ≡ at) (parts m : ℕ) (vector : Point) (point : RationalPoint) (s : ℕ) (share : IsAtShare edge point s) (near_by : IsNearBy base parts m vector point) where
    abbrev times_of : ℕ
    times_of = (m * (to.n * parts)) * s

    on_axis : (p c v d w : ℤ) → c ≡ v → p ≡ ((pos point.n *ℤ c) +ℤ (pos s *ℤ d)) → (pos (m * ((to.n * 1) * parts)) *ℤ p) ≡ (pos point.n *ℤ ((pos (m * parts) *ℤ (pos to.n *ℤ v)) +ℤ w)) → (pos times_of *ℤ d) ≡ (pos point.n *ℤ w)
    on_axis p c v d w same first second =
        let is : p ≡ ((pos point.n *ℤ v) +ℤ (pos s *ℤ d)) = first ∙ ap (λ (z : ℤ). (pos point.n *ℤ z) +ℤ (pos s *ℤ d)) same in
        let all = ap (λ (z : ℤ). pos (m * ((to.n * 1) * parts)) *ℤ z) is in
        let split = identity (times (n_of (m * ((to.n * 1) * parts))) (plus (times (n_of point.n) (number v)) (times (n_of s) (number d)))) (plus (times (n_of point.n) (times (n_of (m * parts)) (times (n_of to.n) (number v)))) (times (n_of times_of) (number d))) (omega arith) in
        let other = identity (times (n_of point.n) (plus (times (n_of (m * parts)) (times (n_of to.n) (number v))) (number w))) (plus (times (n_of point.n) (times (n_of (m * parts)) (times (n_of to.n) (number v)))) (times (n_of point.n) (number w))) (omega arith) in
        omega (arith, ints, all, split, other, second)

    on_x : (pos times_of *ℤ (way edge).x) ≡ (pos point.n *ℤ vector.x)
    on_x = on_axis point.x edge.x0 at.x (edge.x1 -ℤ edge.x0) vector.x (ap (λ (p : Point). p.x) starts) share.x near_by.x

    on_y : (pos times_of *ℤ (way edge).y) ≡ (pos point.n *ℤ vector.y)
    on_y = on_axis point.y edge.y0 at.y (edge.y1 -ℤ edge.y0) vector.y (ap (λ (p : Point). p.y) starts) share.y near_by.y

    turns-right : (t : Point) → (pos times_of *ℤ crossed (way edge) t) ≡ (pos point.n *ℤ crossed vector t)
    turns-right t = same_right times_of point.n (way edge) vector t on_x on_y

    turns-left : (t : Point) → (pos times_of *ℤ crossed t (way edge)) ≡ (pos point.n *ℤ crossed t vector)
    turns-left t = same_left times_of point.n t (way edge) vector on_x on_y

  -- on which side of an edge from it a point lies that is near by a vector
  side-near : (edge : Edge) → start_of edge ≡ at → (parts : ℕ) (some : 0 < parts) (vector : Point) → side_of edge (near base parts some vector) ≡ crossed (way edge) vector
  side-near edge starts parts some vector =
      ap (λ (p : Point). crossed (way edge) (ahead (near base parts some vector) p)) starts
      ∙ ap₂ (λ (x y : ℤ). cross (edge.x1 -ℤ edge.x0) (edge.y1 -ℤ edge.y0) x y) (on at.x vector.x) (on at.y vector.y)
    where
      on : (v w : ℤ) → (((pos parts *ℤ (pos to.n *ℤ v)) +ℤ w) -ℤ (pos ((to.n * 1) * parts) *ℤ v)) ≡ w
      on v w = identity (minus (plus (times (n_of parts) (times (n_of to.n) (number v))) (number w)) (times (n_of ((to.n * 1) * parts)) (number v))) (number w) (omega arith)

  side-ray : (edge : Edge) → start_of edge ≡ at → side_of edge to ≡ crossed (way edge) ray
  side-ray edge starts =
      ap (λ (p : Point). crossed (way edge) (ahead to p)) starts
      ∙ ap₂ (λ (x y : ℤ). cross (edge.x1 -ℤ edge.x0) (edge.y1 -ℤ edge.y0) x y) (on to.x at.x) (on to.y at.y)
    where
      on : (p v : ℤ) → (p -ℤ (pos to.n *ℤ v)) ≡ ((pos 1 *ℤ p) -ℤ (pos to.n *ℤ v))
      on p v = identity (minus (number p) (times (n_of to.n) (number v))) (minus (times (n_of 1) (number p)) (times (n_of to.n) (number v))) (omega arith)

  side-back : (edge : Edge) → side_of (reversed edge) to ≡ (pos 0 -ℤ side_of edge to)
  side-back edge =
      identity
      (cross_term (minus (number edge.x0) (number edge.x1)) (minus (number edge.y0) (number edge.y1)) (minus (number to.x) (times (n_of to.n) (number edge.x1))) (minus (number to.y) (times (n_of to.n) (number edge.y1))))
      (minus (n_of 0) (cross_term (minus (number edge.x1) (number edge.x0)) (minus (number edge.y1) (number edge.y0)) (minus (number to.x) (times (n_of to.n) (number edge.x0))) (minus (number to.y) (times (n_of to.n) (number edge.y0))))) (omega arith)

  pub spoke : (edge : Edge) → Contains edges edge → Contains spokes edge
  spoke edge among = Contains-append_left edges (map reversed edges) edge among

  pub spoke-back : (edge : Edge) → Contains edges edge → Contains spokes (reversed edge)
  spoke-back edge among = Contains-append_right edges (map reversed edges) (reversed edge) (Contains-map reversed edges edge among)

  module _ (off : (edge : Edge) → Contains edges edge → side_of edge to ≢ pos 0) where
    -- no edge from the point goes along the way to the other
    off-ray : (edge : Edge) → Contains spokes edge → start_of edge ≡ at → crossed (way edge) ray ≢ pos 0
    off-ray edge among starts none = by (Contains-append_cases edges (map reversed edges) edge among)
      where
        side : side_of edge to ≡ pos 0
        side = side-ray edge starts ∙ none

        by : Contains edges edge ⊎ Contains (map reversed edges) edge → ⊥
        by (inl here) = off edge here side
        by (inr there) =
            let (other, held, is) = Contains-from_map reversed edges edge there in
            let turned = side-back other in
            let same = ap (λ (e : Edge). side_of e to) is in
            let here = side in
            off other held (omega (arith, ints, turned, same, here))

-- ---- the edge that comes next

module _ (edges : List Edge) (bounds : BoundOnce edges) (at : Point) (to : RationalPoint) (none : winding edges to ≡ bounds.outer) (only : MeetsAtStart edges (whole at) to)
    (off : (edge : Edge) → Contains edges edge → side_of edge to ≢ pos 0) (some : Edge) (some_among : Contains edges some) (some_ends : end_of some ≡ at) where
  abbrev from : RationalPoint
  from = base edges at to

  abbrev x : Point
  x = ray edges at to

  abbrev all : List Edge
  all = spokes edges at to

  -- each edge has an end there, or is aside
  end-or_aside : (edge : Edge) → Contains edges edge → HasEnd at edge ⊎ IsAside edge from
  end-or_aside edge among = by (has-or_aside edge from (All-contains (λ (e : Edge). start_of e ≢ end_of e) edges edge bounds.two_ends among))
    where
      at_whole : (k m : ℕ) (v p q : ℤ) → m ≡ k * (to.n * 1) → p ≡ (pos to.n *ℤ v) → q ≡ (pos k *ℤ p) → q ≡ (pos m *ℤ v)
      at_whole k m v p q many first second =
          second ∙ ap (λ (z : ℤ). pos k *ℤ z) first ∙ identity (times (n_of k) (times (n_of to.n) (number v))) (times (n_of (k * (to.n * 1))) (number v)) (omega arith) ∙ ap (λ (n : ℕ). pos n *ℤ v) (sym many)

      is_at : (k : ℕ) (finer : RationalPoint) → IsFiner k from finer → IsAt finer at.x at.y
      is_at k finer is = record { x_is = at_whole k finer.n at.x from.x finer.x is.n refl is.x; y_is = at_whole k finer.n at.y from.y finer.y is.n refl is.y }

      same_at : (finer : RationalPoint) (a b : ℤ) → IsAt finer at.x at.y → IsAt finer a b → (let p : Point = record { x = a; y = b } in p) ≡ at
      same_at finer a b first second = ap₂ (λ (x y : ℤ). (let p : Point = record { x = x; y = y } in p)) (times-same finer.n a at.x finer.positive (sym second.x_is ∙ first.x_is)) (times-same finer.n b at.y finer.positive (sym second.y_is ∙ first.y_is))

      meets : (finer : RationalPoint) → IsAt finer at.x at.y → MeetAtEnds edge some finer → HasEnd at edge
      meets finer here (inl (inl start, _)) = inl (same_at finer edge.x0 edge.y0 here start)
      meets finer here (inl (inr end, _)) = inr (same_at finer edge.x1 edge.y1 here end)
      meets finer here (inr (inl same)) = inr (ap end_of same ∙ some_ends)
      meets finer here (inr (inr turned)) = inl (ap start_of turned ∙ some_ends)

      by : HasFinely edge from ⊎ IsAside edge from → HasEnd at edge ⊎ IsAside edge from
      by (inr aside) = inr aside
      by (inl has) =
          let here = is_at has.k has.finer has.is in
          let end : IsEnd some has.finer = inr (subst (λ (p : Point). IsAt has.finer p.x p.y) (sym some_ends) here) in
          inl (meets has.finer here (bounds.noded edge some has.finer among some_among has.of (is_of-end some has.finer end)))

  abbrev Far : Point → Point → Edge → ℕ → Type 0
  Far first second edge parts = HasEnd at edge ⊎ IsClear from first second parts edge

  all-far : (first second : Point) → (least : ℕ) × ((parts : ℕ) → least ≤ parts → (edge : Edge) → Contains edges edge → Far first second edge parts)
  all-far first second = enough (Far first second) edges (λ edge among. by edge (end-or_aside edge among))
    where
      by : (edge : Edge) → HasEnd at edge ⊎ IsAside edge from → (least : ℕ) × ((parts : ℕ) → least ≤ parts → Far first second edge parts)
      by edge (inl end) = (0, λ parts more. inl end)
      by edge (inr aside) = let (least, clear) = clear-from from first second edge aside in (least, λ parts more. inr (clear parts more))

  -- A point of an edge from there, that is near by a mean of two vectors.
  record Hit (first second : Point) (parts a m : ℕ) : Type 0 where
    edge : Edge
    among : Contains all edge
    starts : start_of edge ≡ at
    count : ℕ
    n : ℕ
    positive : 0 < n
    right : (t : Point) → (pos count *ℤ crossed (way edge) t) ≡ (pos n *ℤ crossed (mean m a first second) t)
    left : (t : Point) → (pos count *ℤ crossed t (way edge)) ≡ (pos n *ℤ crossed t (mean m a first second))

  -- what a short way meets is of an edge from there
  hit : (first second : Point) (parts : ℕ) (positive : 0 < parts) → ((edge : Edge) → Contains edges edge → Far first second edge parts)
      → (edge : Edge) (point : RationalPoint) (a m : ℕ) → Contains edges edge → IsOf edge point → IsOnWay (near from parts positive first) (near from parts positive second) point a m → Hit first second parts a m
  hit first second parts positive far edge point a m among of on = by (far edge among)
    where
      near_by : IsNearBy from parts m (mean m a first second) point
      near_by = on-near from parts positive first second point a m on

      found : (spoke_edge : Edge) → Contains all spoke_edge → start_of spoke_edge ≡ at → IsOf spoke_edge point → Hit first second parts a m
      found spoke_edge held starts (s, share) = record {
        edge = spoke_edge;
        among = held;
        starts = starts;
        count = (m * (to.n * parts)) * s;
        n = point.n;
        positive = point.positive;
        right = turns-right edges at to spoke_edge starts parts m (mean m a first second) point s share near_by;
        left = turns-left edges at to spoke_edge starts parts m (mean m a first second) point s share near_by;
      }

      by : Far first second edge parts → Hit first second parts a m
      by (inl (inl starts)) = found edge (spoke edges at to edge among) starts of
      by (inl (inr ends)) = found (reversed edge) (spoke-back edges at to edge among) ends (IsOf-reversed edge point of)
      by (inr clear) = absurd (clear-misses from first second parts edge positive clear point a m on.some on.share of near_by)

  -- an edge from there isn't the first thing that is met on a short way to its left, to a point outside
  never-left : (edge : Edge) → Contains edges edge → start_of edge ≡ at → (vector : Point) → pos 0 <ℤ crossed (way edge) vector → (parts : ℕ) (positive : 0 < parts) → 1 < parts
      → winding edges (near from parts positive vector) ≡ bounds.outer → ¬ (MeetsAtStart edges (near from parts positive (way edge)) (near from parts positive vector))
  never-left edge among starts vector left parts positive more outside meets =
      let side = side-near edges at to edge starts parts positive vector in
      let right = goes-right edges bounds edge (near from parts positive (way edge)) (near from parts positive vector) among (1, share) inner outside meets (λ is. omega (arith, ints, is, side, left)) in
      omega (arith, ints, right, side, left)
    where
      size : 1 < (to.n * 1) * parts
      size = by to.n to.positive
        where
          by : (n : ℕ) → 0 < n → 1 < (n * 1) * parts
          by zero some = absurd (omega (arith, some))
          by (suc n) some = omega (arith, more)

      on : (c d v : ℤ) → c ≡ v → ((pos parts *ℤ (pos to.n *ℤ v)) +ℤ (d -ℤ c)) ≡ ((pos ((to.n * 1) * parts) *ℤ c) +ℤ (pos 1 *ℤ (d -ℤ c)))
      on c d v same =
          ap (λ (z : ℤ). (pos parts *ℤ (pos to.n *ℤ z)) +ℤ (d -ℤ c)) (sym same)
          ∙ identity (plus (times (n_of parts) (times (n_of to.n) (number c))) (minus (number d) (number c))) (plus (times (n_of ((to.n * 1) * parts)) (number c)) (times (n_of 1) (minus (number d) (number c)))) (omega arith)

      share : IsAtShare edge (near from parts positive (way edge)) 1
      share =
          let large = size in
          record { share = omega (arith, large); x = on edge.x0 edge.x1 at.x (ap (λ (p : Point). p.x) starts); y = on edge.y0 edge.y1 at.y (ap (λ (p : Point). p.y) starts) }

      inner : ¬ (IsEnd edge (near from parts positive (way edge)))
      inner = between-no_end edge (near from parts positive (way edge)) 1 (All-contains (λ (e : Edge). start_of e ≢ end_of e) edges edge bounds.two_ends among) share (omega arith) size

  -- what is met on the way from a vector to one to its left
  turns-more : (first second : Point) (parts a m : ℕ) → 0 < a → pos 0 <ℤ crossed first second → (h : Hit first second parts a m) → (0 < h.count) × (pos 0 <ℤ crossed first (way h.edge))
  turns-more first second parts a m behind left h =
      let is = h.left first in
      let sum = mean-left m a first first second in
      let itself = ap (λ (z : ℤ). (pos m -ℤ pos a) *ℤ z) (crossed-itself first) ∙ none_times (pos m -ℤ pos a) in
      let part = product_positive (pos a) (crossed first second) (omega (arith, ints, behind)) left in
      let positive = h.positive in
      let more = product_positive (pos h.n) (crossed first (mean m a first second)) (omega (arith, ints, positive)) (omega (arith, ints, sum, itself, part)) in
      factor_positive h.count (crossed first (way h.edge)) (omega (arith, ints, is, more))

  turns-less : (first second : Point) (parts a m : ℕ) → a ≤ m → pos 0 <ℤ crossed first second → (h : Hit first second parts a m) → pos 0 ≤ℤ (pos h.count *ℤ crossed (way h.edge) second)
  turns-less first second parts a m upto left h =
      let is = h.right second in
      let sum = mean-right m a first second second in
      let itself = ap (λ (z : ℤ). pos a *ℤ z) (crossed-itself second) ∙ none_times (pos a) in
      let part = product_above (pos m -ℤ pos a) (crossed first second) (omega (arith, ints, upto)) (omega (arith, ints, left)) in
      let more = product_above (pos h.n) (crossed (mean m a first second) second) (omega (arith, ints)) (omega (arith, ints, sum, itself, part)) in
      omega (arith, ints, is, more)

  -- where an edge comes next, clockwise from the way, within a half turn, it doesn't begin there
  module _ (edge : Edge) (among : Contains edges edge) (starts : start_of edge ≡ at) where
    not-right : ¬ (IsNextRight all at x edge)
    not-right is =
        let (least, far) = all-far (way edge) x in
        let parts = suc (suc least) in
        never-left edge among starts x is.right parts (omega arith) (omega arith)
        (winding-towards edges bounds.closed (whole at) to only parts (omega arith) ∙ none)
        (λ other point a m held of on. by a m on.share (hit (way edge) x parts (omega arith) (far parts (omega arith)) other point a m held of on))
      where
        by : (a m : ℕ) → a ≤ m → {parts : ℕ} → Hit (way edge) x parts a m → a ≡ 0
        by zero m upto h = refl
        by (suc a) m upto {parts} h =
            let (some_times, left) = turns-more (way edge) x parts (suc a) m (omega arith) is.right h in
            let less = turns-less (way edge) x parts (suc a) m upto is.right h in
            let differ = off-ray edges at to off h.edge h.among h.starts in
            by_lt_z (crossed (way h.edge) x) (pos 0)
            (λ below. let down = less_times (pos h.count) (crossed (way h.edge) x) (omega (arith, ints, some_times)) below in absurd (omega (arith, ints, less, down)))
            (λ from_zero. absurd (is.none h.edge h.among h.starts left (omega (arith, ints, from_zero, differ))))

    -- nor where it comes next beyond
    abbrev beyond : Point
    beyond = opposite (record { x = (way edge).x +ℤ x.x; y = (way edge).y +ℤ x.y })

    from_edge : crossed (way edge) beyond ≡ (pos 0 -ℤ crossed (way edge) x)
    from_edge =
        let u = number (way edge).x in
        let v = number (way edge).y in
        identity (cross_term u v (minus (n_of 0) (plus u (number x.x))) (minus (n_of 0) (plus v (number x.y)))) (minus (n_of 0) (cross_term u v (number x.x) (number x.y))) (omega arith)

    to_ray : crossed beyond x ≡ (pos 0 -ℤ crossed (way edge) x)
    to_ray =
        let u = number (way edge).x in
        let v = number (way edge).y in
        identity (cross_term (minus (n_of 0) (plus u (number x.x))) (minus (n_of 0) (plus v (number x.y))) (number x.x) (number x.y)) (minus (n_of 0) (cross_term u v (number x.x) (number x.y))) (omega arith)

    not-left : Contains all edge → ¬ (IsLastLeft all at x edge)
    not-left held is =
        let (least, far) = all-far (way edge) beyond in
        let (other_least, other_far) = all-far beyond x in
        let parts = suc (suc (least + other_least)) in
        never-left edge among starts beyond left_of_edge parts (omega arith) (omega arith)
        (winds-alike edges bounds.closed (near from parts (omega arith) beyond) (near from parts (omega arith) x)
        (λ found. crosses found.a found.m found.on.share found.on.some (hit beyond x parts (omega arith) (other_far parts (omega arith)) found.edge found.point found.a found.m found.among found.of found.on))
        ∙ winding-towards edges bounds.closed (whole at) to only parts (omega arith) ∙ none)
        (λ other point a m inside of on. by a m on.share (hit (way edge) beyond parts (omega arith) (far parts (omega arith)) other point a m inside of on))
      where
        right_of_ray : crossed (way edge) x <ℤ pos 0
        right_of_ray = is.left edge held starts

        left_of_edge : pos 0 <ℤ crossed (way edge) beyond
        left_of_edge = let turned = from_edge in let less = right_of_ray in omega (arith, ints, turned, less)

        left_of_beyond : pos 0 <ℤ crossed beyond x
        left_of_beyond = let turned = to_ray in let less = right_of_ray in omega (arith, ints, turned, less)

        by : (a m : ℕ) → a ≤ m → {parts : ℕ} → Hit (way edge) beyond parts a m → a ≡ 0
        by zero m upto h = refl
        by (suc a) m upto {parts} h =
            let (some_times, left) = turns-more (way edge) beyond parts (suc a) m (omega arith) left_of_edge h in
            let last = is.last h.edge h.among h.starts in
            absurd (omega (arith, ints, left, last))

        crosses : (a m : ℕ) → a ≤ m → 0 < m → {parts : ℕ} → ¬ (Hit beyond x parts a m)
        crosses a m upto some_parts {parts} h = at_count h.count refl
          where
            less : pos 0 ≤ℤ (pos h.count *ℤ crossed (way h.edge) x)
            less = turns-less beyond x parts a m upto left_of_beyond h

            left_of_x : crossed (way h.edge) x <ℤ pos 0
            left_of_x = is.left h.edge h.among h.starts

            q : ℤ
            q = crossed beyond x

            -- the sum of both
            sum : (pos h.count *ℤ (crossed (way h.edge) x +ℤ crossed beyond (way h.edge))) ≡ (pos h.n *ℤ (pos m *ℤ crossed beyond x))
            sum =
                let first = h.right x in
                let second = h.left beyond in
                let one = mean-right m a beyond x x in
                let other = mean-left m a beyond beyond x in
                let itself = ap (λ (z : ℤ). pos a *ℤ z) (crossed-itself x) ∙ none_times (pos a) in
                let itself_too = ap (λ (z : ℤ). (pos m -ℤ pos a) *ℤ z) (crossed-itself beyond) ∙ none_times (pos m -ℤ pos a) in
                let split = identity (times (n_of h.count) (plus (number (crossed (way h.edge) x)) (number (crossed beyond (way h.edge))))) (plus (times (n_of h.count) (number (crossed (way h.edge) x))) (times (n_of h.count) (number (crossed beyond (way h.edge))))) (omega arith) in
                let joined = identity (plus (times (n_of h.n) (number (crossed (mean m a beyond x) x))) (times (n_of h.n) (number (crossed beyond (mean m a beyond x))))) (times (n_of h.n) (plus (number (crossed (mean m a beyond x) x)) (number (crossed beyond (mean m a beyond x))))) (omega arith) in
                let parts_are = identity (plus (times (minus (n_of m) (n_of a)) (number (crossed beyond x))) (times (n_of a) (number (crossed beyond x)))) (times (n_of m) (number (crossed beyond x))) (omega arith) in
                let means : (crossed (mean m a beyond x) x +ℤ crossed beyond (mean m a beyond x)) ≡ (pos m *ℤ crossed beyond x) = omega (arith, ints, one, other, itself, itself_too, parts_are) in
                let last = ap (λ (z : ℤ). pos h.n *ℤ z) means in
                omega (arith, ints, first, second, split, joined, last)

            at_count : (k : ℕ) → h.count ≡ k → ⊥
            at_count zero is_none =
                let gone : (pos h.count *ℤ (crossed (way h.edge) x +ℤ crossed beyond (way h.edge))) ≡ pos 0 =
                ap (λ (n : ℕ). pos n *ℤ (crossed (way h.edge) x +ℤ crossed beyond (way h.edge))) is_none ∙ identity (times (n_of 0) (number (crossed (way h.edge) x +ℤ crossed beyond (way h.edge)))) (n_of 0) (omega arith) in
                let inner = product_positive (pos m) (crossed beyond x) (omega (arith, ints, some_parts)) left_of_beyond in
                let positive = h.positive in
                let more = product_positive (pos h.n) (pos m *ℤ crossed beyond x) (omega (arith, ints, positive)) inner in
                let is_sum = sum in
                omega (arith, ints, gone, more, is_sum)
            at_count (suc k) is_some =
                let down = less_times (pos h.count) (crossed (way h.edge) x) (omega (arith, ints, is_some)) left_of_x in
                let from_zero = less in
                omega (arith, ints, down, from_zero)

  -- The edge that comes next, clockwise from the way, ends there.
  pub next-ends : (edge : Edge) × Contains edges edge × (end_of edge ≡ at) × (IsNextRight all at x (reversed edge) ⊎ IsLastLeft all at x (reversed edge))
  next-ends = by (next-right all at x (off-ray edges at to off) (reversed some) (spoke-back edges at to some some_among) some_ends)
    where
      by : IsNext all at x → (edge : Edge) × Contains edges edge × (end_of edge ≡ at) × (IsNextRight all at x (reversed edge) ⊎ IsLastLeft all at x (reversed edge))
      by next = cases (Contains-append_cases edges (map reversed edges) next.edge next.among)
        where
          cases : Contains edges next.edge ⊎ Contains (map reversed edges) next.edge → (edge : Edge) × Contains edges edge × (end_of edge ≡ at) × (IsNextRight all at x (reversed edge) ⊎ IsLastLeft all at x (reversed edge))
          cases (inl here) = absurd (never next.side)
            where
              never : IsNextRight all at x next.edge ⊎ IsLastLeft all at x next.edge → ⊥
              never (inl is) = not-right next.edge here next.starts is
              never (inr is) = not-left next.edge here next.starts next.among is
          cases (inr there) =
              let (edge, held, is) = Contains-from_map reversed edges next.edge there in
              (edge, held, ap start_of is ∙ next.starts, subst (λ (e : Edge). IsNextRight all at x e ⊎ IsLastLeft all at x e) (sym is) next.side)

-- ---- told by what is passed between

-- a vector and the way to a point, times one
ahead-ray : (at : Point) (to : RationalPoint) (vector : Point) → crossed vector (apart to (whole at)) ≡ crossed vector (ahead to at)
ahead-ray at to vector = ap₂ (λ (x y : ℤ). cross vector.x vector.y x y) (on to.x at.x) (on to.y at.y)
  where
    on : (p v : ℤ) → ((pos 1 *ℤ p) -ℤ (pos to.n *ℤ v)) ≡ (p -ℤ (pos to.n *ℤ v))
    on p v = identity (minus (times (n_of 1) (number p)) (times (n_of to.n) (number v))) (minus (number p) (times (n_of to.n) (number v))) (omega arith)

-- no edge that begins there is passed between the next one and the way
not-between : (edges : List Edge) (at : Point) (to : RationalPoint) (edge other : Edge) → Contains edges edge → start_of edge ≡ at → IsNextRight edges at (apart to (whole at)) edge ⊎ IsLastLeft edges at (apart to (whole at)) edge
    → Contains edges other → start_of other ≡ at → ¬ (IsBetween (way edge) (way other) (ahead to at))
not-between edges at to edge other held starts_too side among starts between = by side between
  where
    ray_turned : crossed (ahead to at) (way edge) ≡ (pos 0 -ℤ crossed (way edge) (apart to (whole at)))
    ray_turned = turn_back (ahead to at) (way edge) ∙ ap (λ (z : ℤ). pos 0 -ℤ z) (sym (ahead-ray at to (way edge)))

    same : crossed (way other) (apart to (whole at)) ≡ crossed (way other) (ahead to at)
    same = ahead-ray at to (way other)

    by : IsNextRight edges at (apart to (whole at)) edge ⊎ IsLastLeft edges at (apart to (whole at)) edge → IsBetween (way edge) (way other) (ahead to at) → ⊥
    by (inl is) (inl (after, before)) = is.none other among starts after (let is_same = same in omega (arith, ints, is_same, before))
    by (inl is) (inr (inl (after, turn))) = let right = is.right in let turned = ray_turned in omega (arith, ints, right, turned, turn)
    by (inl is) (inr (inr (before, turn))) = let right = is.right in let turned = ray_turned in omega (arith, ints, right, turned, turn)
    by (inr is) (inl (after, before)) = let last = is.last other among starts in omega (arith, ints, last, after)
    by (inr is) (inr (inl (after, turn))) = let last = is.last other among starts in omega (arith, ints, last, after)
    by (inr is) (inr (inr (before, turn))) = let left = is.left other among starts in let is_same = same in omega (arith, ints, left, is_same, before)

-- Where the way from an end to a point outside of what the edges bound meets them no more, an edge ends there from which, going
-- counterclockwise, none at that end is passed before the way.
pub ends-last : (edges : List Edge) (bounds : BoundOnce edges) (to : RationalPoint) → winding edges to ≡ bounds.outer → ((edge : Edge) → Contains edges edge → side_of edge to ≢ pos 0)
    → (at : Point) → (edge : Edge) × Contains edges edge × (end_of edge ≡ at) → MeetsAtStart edges (whole at) to
    → (edge : Edge) × Contains edges edge × (end_of edge ≡ at)
    × ((other : Edge) → Contains edges other → end_of other ≡ at → ¬ (IsBetween (back edge) (back other) (ahead to at)))
    × ((other : Edge) → Contains edges other → start_of other ≡ at → ¬ (IsBetween (back edge) (way other) (ahead to at)))
ends-last edges bounds to none off at (some, some_among, some_ends) only =
    let (edge, among, ends, side) = next-ends edges bounds at to none only off some some_among some_ends in (
      edge,
      among,
      ends,
      λ other held ends_too. not-between (spokes edges at to) at to (reversed edge) (reversed other) (spoke-back edges at to edge among) ends side (spoke-back edges at to other held) ends_too,
      λ other held starts. not-between (spokes edges at to) at to (reversed edge) other (spoke-back edges at to edge among) ends side (spoke edges at to other held) starts,
    )
