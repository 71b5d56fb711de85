-- Closed edges wind alike around the ends of a way that meets none of them.
use Rattle.std.proofs.Common.{◌≡◌, ◌≢◌, ◌⊎◌, inl, inr, ℕ, suc, ◌+◌, ◌-◌, ◌*◌, ◌<◌, ℤ, pos, ◌+ℤ◌, ◌-ℤ◌, ◌*ℤ◌, ◌≤ℤ◌, Bool, true, false, ◌&&◌, List, [], ◌∷◌, refl, ap, ap₂, sym, ◌∙◌, arith}
use Rattle.std.specs.List.{All, Contains}
use Rattle.std.specs.Prelude.{int_le, int_lt}
use Rattle.std.proofs.Math.Nat.{mul-le-mul_left, mul-pos}
use Rattle.std.proofs.lemmas.Int.{by_lt_z, ints}
use Rattle.std.proofs.lemmas.List.Elements.{All-nil, All-cons}
use Rattle.plane.specs.declared.edge.Edge.{Edge}
use Rattle.plane.specs.declared.point.Point.{Point}
use Rattle.plane.specs.Ends.{end_of, reversed, start_of}
use Rattle.plane.specs.Meet.Edges.{IsOf, Meet, RationalPoint}
use Rattle.plane.specs.SweepLine.Heights.{run}
use Rattle.plane.proofs.MeetLemmas.Along.{same_or_apart}
use Rattle.plane.proofs.MeetLemmas.Identities.{identity, minus, number, plus, scaled, times, unscaled}
use Rattle.plane.proofs.SweepLineLemmas.Gaps.{product_above}
use Rattle.noding.specs.Windings.{IsClosed, count, winding}
use Rattle.noding.proofs.SnapLemmas.Counted.{added, counted, covers, height_at, is_low, under}
use Rattle.noding.proofs.SnapLemmas.Local.{IsFiner}
use Rattle.noding.proofs.SnapLemmas.Numbers.{n_of, product_positive, same_test}
use Rattle.noding.proofs.SnapLemmas.Windings.{winding-added}
use Rattle.overlay.specs.Fill.Pieces.{total}
use Rattle.overlay.proofs.FillLemmas.Balance.{balanced, carried}
use Rattle.overlay.proofs.FillLemmas.Totals.{total-none}
use Rattle.overlay.proofs.UncrossedLemmas.Finer.{scaled_edge}
use Rattle.offset.proofs.CoverLemmas.Sides.{IsOnWay}
use Rattle.offset.proofs.SideLemmas.Crossing.{is_below, jump, lies_under}
use Rattle.offset.proofs.SideLemmas.Jumps.{jumps}
use Rattle.offset.proofs.SideLemmas.Meeting.{leftness}

-- ---- finer points

-- multiples by a number above 0 are in the order of the numbers
scaled_le : (k : ℕ) (a b : ℤ) → 0 < k → int_le (pos k *ℤ a) (pos k *ℤ b) ≡ int_le a b
scaled_le k a b some =
    same_test (pos k *ℤ a) (pos k *ℤ b) a b
    (λ upto less. let back = unscaled k a b some upto in omega (arith, ints, back, less))
    (λ upto less. let back = scaled k a b upto in omega (arith, ints, back, less))

-- the test of less is the opposite of at most
same_less : (a b c d : ℤ) → int_le b a ≡ int_le d c → int_lt a b ≡ int_lt c d
same_less a b c d same = by (int_lt a b) (int_lt c d) (int_le b a) (int_le d c) refl refl refl refl same
  where
    by : (s t u v : Bool) → int_lt a b ≡ s → int_lt c d ≡ t → int_le b a ≡ u → int_le d c ≡ v → u ≡ v → s ≡ t
    by true true u v e f g h is = refl
    by false false u v e f g h is = refl
    by true false true v e f g h is = absurd (omega (arith, ints, e, g))
    by true false false true e f g h is = cc
    by true false false false e f g h is = absurd (omega (arith, ints, f, h))
    by false true u true e f g h is = absurd (omega (arith, ints, f, h))
    by false true true false e f g h is = cc
    by false true false false e f g h is = absurd (omega (arith, ints, e, g))

multiple : (k n m : ℕ) (z : ℤ) → m ≡ k * n → (pos m *ℤ z) ≡ (pos k *ℤ (pos n *ℤ z))
multiple k n m z is = ap (λ (j : ℕ). pos j *ℤ z) is ∙ identity (times (n_of (k * n)) (number z)) (times (n_of k) (times (n_of n) (number z))) (omega arith)

module _ (k : ℕ) (some : 0 < k) (point finer : RationalPoint) (is : IsFiner k point finer) where
  finer-from : (z : ℤ) → int_le (pos finer.n *ℤ z) finer.x ≡ int_le (pos point.n *ℤ z) point.x
  finer-from z = ap₂ int_le (multiple k point.n finer.n z is.n) is.x ∙ scaled_le k (pos point.n *ℤ z) point.x some

  finer-before : (z : ℤ) → int_lt finer.x (pos finer.n *ℤ z) ≡ int_lt point.x (pos point.n *ℤ z)
  finer-before z = same_less finer.x (pos finer.n *ℤ z) point.x (pos point.n *ℤ z) (finer-from z)

  finer-low : (edge : Edge) → is_low edge finer ≡ is_low edge point
  finer-low edge =
      ap₂ int_le
      (ap₂ (λ (n x : ℤ). (edge.y0 *ℤ ((n *ℤ edge.x1) -ℤ x)) +ℤ (edge.y1 *ℤ (x -ℤ (n *ℤ edge.x0)))) over is.x
      ∙ identity (plus (times (number edge.y0) (minus (times (times (n_of k) (n_of point.n)) (number edge.x1)) (times (n_of k) (number point.x)))) (times (number edge.y1) (minus (times (n_of k) (number point.x)) (times (times (n_of k) (n_of point.n)) (number edge.x0)))))
      (times (n_of k) (plus (times (number edge.y0) (minus (times (n_of point.n) (number edge.x1)) (number point.x))) (times (number edge.y1) (minus (number point.x) (times (n_of point.n) (number edge.x0)))))) (omega arith))
      (ap (λ (y : ℤ). y *ℤ run edge) is.y ∙ identity (times (times (n_of k) (number point.y)) (number (run edge))) (times (n_of k) (times (number point.y) (number (run edge)))) (omega arith))
      ∙ scaled_le k (height_at edge point) (point.y *ℤ run edge) some
    where
      over : pos finer.n ≡ (pos k *ℤ pos point.n)
      over = ap pos is.n ∙ identity (n_of (k * point.n)) (times (n_of k) (n_of point.n)) (omega arith)

  finer-counted : (edge : Edge) → counted edge finer ≡ counted edge point
  finer-counted edge = ap₂ (λ (s t : Bool). count (s && t)) (ap₂ (λ (s t : Bool). s && t) (finer-from edge.x0) (finer-before edge.x1)) (finer-low edge)

  finer-added : (edges : List Edge) → added edges finer ≡ added edges point
  finer-added [] = refl
  finer-added (edge ∷ edges) = ap₂ (λ (a b : ℤ). a +ℤ b) (ap₂ (λ (a b : ℤ). a -ℤ b) (finer-counted edge) (finer-counted (reversed edge))) (finer-added edges)

  -- edges wind around a point as around the same point over a multiple of its denominator
  pub winding-finer : (edges : List Edge) → winding edges finer ≡ winding edges point
  winding-finer edges = winding-added edges finer ∙ finer-added edges ∙ sym (winding-added edges point)

-- ---- what edges count at the ends of a way

-- A point over n.
abbrev pub over : (n : ℕ) → 0 < n → ℤ → ℤ → RationalPoint
over n some x y = record { n = n; x = x; y = y; positive = some }

module _ (n : ℕ) (some : 0 < n) where
  -- what an edge counts, over n times the plane
  counts : (edge : Edge) (x y : ℤ) → counted edge (over n some x y) ≡ count (is_below (scaled_edge n edge) x y)
  counts edge x y = ap (λ (t : Bool). count (covers edge (over n some x y) && t)) low
    where
      apart : ℤ
      apart = (y *ℤ run edge) -ℤ height_at edge (over n some x y)

      is : leftness (scaled_edge n edge) x y ≡ (pos n *ℤ ((y *ℤ run edge) -ℤ height_at edge (over n some x y)))
      is =
          identity
          (minus (times (minus (times (n_of n) (number edge.x1)) (times (n_of n) (number edge.x0))) (minus (number y) (times (n_of n) (number edge.y0)))) (times (minus (times (n_of n) (number edge.y1)) (times (n_of n) (number edge.y0))) (minus (number x) (times (n_of n) (number edge.x0)))))
          (times (n_of n) (minus (times (number y) (minus (number edge.x1) (number edge.x0))) (plus (times (number edge.y0) (minus (times (n_of n) (number edge.x1)) (number x))) (times (number edge.y1) (minus (number x) (times (n_of n) (number edge.x0)))))))
          (omega arith)

      low : is_low edge (over n some x y) ≡ int_le (pos 0) (leftness (scaled_edge n edge) x y)
      low =
          same_test (height_at edge (over n some x y)) (y *ℤ run edge) (pos 0) (leftness (scaled_edge n edge) x y)
          (λ upto less. let sign = product_above (pos n) ((y *ℤ run edge) -ℤ height_at edge (over n some x y)) (omega (arith, ints)) (omega (arith, ints, upto)) in let same = is in omega (arith, ints, sign, same, less))
          (λ upto less.
          let sign = product_positive (pos n) (height_at edge (over n some x y) -ℤ (y *ℤ run edge)) (omega (arith, ints, some)) (omega (arith, ints, less)) in
          let turned = identity (times (n_of n) (minus (number (y *ℤ run edge)) (number (height_at edge (over n some x y))))) (minus (n_of 0) (times (n_of n) (minus (number (height_at edge (over n some x y))) (number (y *ℤ run edge))))) (omega arith) in
          let same = is in
          omega (arith, ints, sign, turned, same, upto))

  module _ (way : Edge) where
    abbrev start : RationalPoint
    start = over n some way.x0 way.y0

    abbrev end : RationalPoint
    end = over n some way.x1 way.y1

    -- whether a point lies under the way, there
    abbrev is_under_way : Point → Bool
    is_under_way point = lies_under way (record { x = pos n *ℤ point.x; y = pos n *ℤ point.y })

    abbrev change : Edge → ℤ
    change edge = jump (scaled_edge n edge) way

    one : (edge : Edge) → (under edge end -ℤ under edge start) ≡ (change edge -ℤ carried is_under_way edge)
    one edge =
        by (counted edge end) (counted (reversed edge) end) (counted edge start) (counted (reversed edge) start)
        (count (is_below (scaled_edge n edge) way.x1 way.y1)) (count (is_below (scaled_edge n (reversed edge)) way.x1 way.y1)) (count (is_below (scaled_edge n edge) way.x0 way.y0)) (count (is_below (scaled_edge n (reversed edge)) way.x0 way.y0))
        (count (is_under_way (start_of edge))) (count (is_under_way (end_of edge)))
        (counts edge way.x1 way.y1) (counts (reversed edge) way.x1 way.y1) (counts edge way.x0 way.y0) (counts (reversed edge) way.x0 way.y0)
      where
        by : (a b c d p q r s u v : ℤ) → a ≡ p → b ≡ q → c ≡ r → d ≡ s → ((a -ℤ b) -ℤ (c -ℤ d)) ≡ ((((p -ℤ r) -ℤ (q -ℤ s)) -ℤ (u -ℤ v)) -ℤ (v -ℤ u))
        by a b c d p q r s u v e f g h = omega (arith, ints, e, f, g, h)

    more : (a b c d e f g h : ℤ) → (a -ℤ b) ≡ (e -ℤ f) → (c -ℤ d) ≡ (g -ℤ h) → ((a +ℤ c) -ℤ (b +ℤ d)) ≡ ((e +ℤ g) -ℤ (f +ℤ h))
    more a b c d e f g h first second = omega (arith, ints, first, second)

    sum : (edges : List Edge) → (added edges end -ℤ added edges start) ≡ (total change edges -ℤ total (carried is_under_way) edges)
    sum [] = refl
    sum (edge ∷ edges) =
        more (under edge end) (under edge start) (added edges end) (added edges start) (change edge) (carried is_under_way edge) (total change edges) (total (carried is_under_way) edges) (one edge) (sum edges)

    -- closed edges wind around the way's end as around its start, but for where it meets them
    pub winding-changes : (edges : List Edge) → IsClosed edges → winding edges end ≡ (winding edges start +ℤ total (λ (edge : Edge). jump (scaled_edge n edge) way) edges)
    winding-changes edges closed =
        let a = winding-added edges end in
        let b = winding-added edges start in
        let c = sum edges in
        let d = balanced edges closed is_under_way in
        omega (arith, ints, a, b, c, d)

-- ---- a way from one rational point to another

-- The way, over both denominators.
abbrev pub way_between : RationalPoint → RationalPoint → Edge
way_between from to = record { x0 = pos to.n *ℤ from.x; y0 = pos to.n *ℤ from.y; x1 = pos from.n *ℤ to.x; y1 = pos from.n *ℤ to.y }

-- A common point of the way and of one of the edges.
pub record Crossed (edges : List Edge) (from to : RationalPoint) : Type 0 where
  pub edge : Edge
  pub point : RationalPoint
  pub a : ℕ
  pub m : ℕ
  pub among : Contains edges edge
  pub of : IsOf edge point
  pub on : IsOnWay from to point a m

-- a common point over both denominators is one
pub met : (edges : List Edge) (edge : Edge) (from to : RationalPoint) → Contains edges edge → Meet (scaled_edge (from.n * to.n) edge) (way_between from to) → Crossed edges from to
met edges edge from to among (point, (a, at), (b, on)) =
    let upto = mul-le-mul_left n at.share in record {
      edge = edge;
      point = record { n = k * n; x = point.x; y = point.y; positive = mul-pos point.positive (mul-pos from.positive to.positive) };
      a = b;
      m = k;
      among = among;
      of = (n * a, record { share = omega (arith, upto); x = share point.x edge.x0 edge.x1 at.x; y = share point.y edge.y0 edge.y1 at.y });
      on = record { some = point.positive; share = on.share; x = there point.x from.x to.x on.x; y = there point.y from.y to.y on.y };
    }
  where
    n : ℕ
    n = from.n * to.n

    k : ℕ
    k = point.n

    share : (p c d : ℤ) → p ≡ ((pos point.n *ℤ (pos (from.n * to.n) *ℤ c)) +ℤ (pos a *ℤ ((pos (from.n * to.n) *ℤ d) -ℤ (pos (from.n * to.n) *ℤ c)))) → p ≡ ((pos (point.n * (from.n * to.n)) *ℤ c) +ℤ (pos ((from.n * to.n) * a) *ℤ (d -ℤ c)))
    share p c d is =
        is ∙ identity (plus (times (n_of point.n) (times (n_of (from.n * to.n)) (number c))) (times (n_of a) (minus (times (n_of (from.n * to.n)) (number d)) (times (n_of (from.n * to.n)) (number c)))))
        (plus (times (n_of (point.n * (from.n * to.n))) (number c)) (times (n_of ((from.n * to.n) * a)) (minus (number d) (number c)))) (omega arith)

    there : (p c d : ℤ) → p ≡ ((pos point.n *ℤ (pos to.n *ℤ c)) +ℤ (pos b *ℤ ((pos from.n *ℤ d) -ℤ (pos to.n *ℤ c))))
        → ((pos point.n *ℤ (pos from.n *ℤ pos to.n)) *ℤ p) ≡ (pos (point.n * (from.n * to.n)) *ℤ (((pos point.n -ℤ pos b) *ℤ (pos to.n *ℤ c)) +ℤ (pos b *ℤ (pos from.n *ℤ d))))
    there p c d is =
        ap (λ (z : ℤ). (pos point.n *ℤ (pos from.n *ℤ pos to.n)) *ℤ z) is
        ∙ identity (times (times (n_of point.n) (times (n_of from.n) (n_of to.n))) (plus (times (n_of point.n) (times (n_of to.n) (number c))) (times (n_of b) (minus (times (n_of from.n) (number d)) (times (n_of to.n) (number c))))))
        (times (n_of (point.n * (from.n * to.n))) (plus (times (minus (n_of point.n) (n_of b)) (times (n_of to.n) (number c))) (times (n_of b) (times (n_of from.n) (number d))))) (omega arith)

-- the same way back
on-back : (from to point : RationalPoint) (a m : ℕ) → IsOnWay to from point a m → IsOnWay from to point (m - a) m
on-back from to point a m on = record { some = on.some; share = omega arith; x = turned point.x from.x to.x on.x; y = turned point.y from.y to.y on.y }
  where
    parts : (m - a) + a ≡ m
    parts = let upto = on.share in omega (arith, upto)

    rest : (pos m -ℤ pos (m - a)) ≡ pos a
    rest = let is = parts in omega (arith, ints, is)

    less : pos (m - a) ≡ (pos m -ℤ pos a)
    less = let is = parts in omega (arith, ints, is)

    turned : (p c d : ℤ) → ((pos m *ℤ (pos to.n *ℤ pos from.n)) *ℤ p) ≡ (pos point.n *ℤ (((pos m -ℤ pos a) *ℤ (pos from.n *ℤ d)) +ℤ (pos a *ℤ (pos to.n *ℤ c))))
        → ((pos m *ℤ (pos from.n *ℤ pos to.n)) *ℤ p) ≡ (pos point.n *ℤ (((pos m -ℤ pos (m - a)) *ℤ (pos to.n *ℤ c)) +ℤ (pos (m - a) *ℤ (pos from.n *ℤ d))))
    turned p c d is =
        identity (times (times (n_of m) (times (n_of from.n) (n_of to.n))) (number p)) (times (times (n_of m) (times (n_of to.n) (n_of from.n))) (number p)) (omega arith)
        ∙ is
        ∙ identity (times (n_of point.n) (plus (times (minus (n_of m) (n_of a)) (times (n_of from.n) (number d))) (times (n_of a) (times (n_of to.n) (number c))))) (times (n_of point.n) (plus (times (n_of a) (times (n_of to.n) (number c))) (times (minus (n_of m) (n_of a)) (times (n_of from.n) (number d))))) (omega arith)
        ∙ ap₂ (λ (u v : ℤ). pos point.n *ℤ ((u *ℤ (pos to.n *ℤ c)) +ℤ (v *ℤ (pos from.n *ℤ d)))) (sym rest) (sym less)

pub crossed-back : (edges : List Edge) (from to : RationalPoint) → Crossed edges to from → Crossed edges from to
crossed-back edges from to found = record { edge = found.edge; point = found.point; a = found.m - found.a; m = found.m; among = found.among; of = found.of; on = on-back from to found.point found.a found.m found.on }

-- of each element the one or the other
pub all_or_one : {X : Type 0} (P R : X → Type 0) (xs : List X) → ((x : X) → P x ⊎ R x) → All P xs ⊎ ((x : X) × Contains xs x × R x)
all_or_one P R [] each = inl (All-nil P)
all_or_one P R (x ∷ xs) each = by (each x) (all_or_one P R xs each)
  where
    by : P x ⊎ R x → All P xs ⊎ ((y : _) × Contains xs y × R y) → All P (x ∷ xs) ⊎ ((y : _) × Contains (x ∷ xs) y × R y)
    by (inr here) rest = inr (x, (0, omega arith, refl), here)
    by (inl here) (inl all) = inl (All-cons P x xs here all)
    by (inl here) (inr (y, (k, inside, is), there)) = inr (y, (suc k, omega (arith, inside), is), there)

-- the ends of a way, over both denominators
module _ (from to : RationalPoint) where
  pub some_both : 0 < from.n * to.n
  some_both = mul-pos from.positive to.positive

  pub from-finer : IsFiner to.n from (over (from.n * to.n) some_both (pos to.n *ℤ from.x) (pos to.n *ℤ from.y))
  from-finer = record { n = omega arith; x = refl; y = refl }

  pub to-finer : IsFiner from.n to (over (from.n * to.n) some_both (pos from.n *ℤ to.x) (pos from.n *ℤ to.y))
  to-finer = record { n = refl; x = refl; y = refl }

  -- closed edges wind around the one point as around the other, but for where the way between meets them
  pub winding-between : (edges : List Edge) → IsClosed edges → winding edges to ≡ (winding edges from +ℤ total (λ (edge : Edge). jump (scaled_edge (from.n * to.n) edge) (way_between from to)) edges)
  winding-between edges closed =
      let a = winding-finer to.n to.positive from (over (from.n * to.n) some_both (pos to.n *ℤ from.x) (pos to.n *ℤ from.y)) from-finer edges in
      let b = winding-finer from.n from.positive to (over (from.n * to.n) some_both (pos from.n *ℤ to.x) (pos from.n *ℤ to.y)) to-finer edges in
      let c = winding-changes (from.n * to.n) some_both (way_between from to) edges closed in
      omega (arith, ints, a, b, c)

onwards-crossed : (edges : List Edge) → IsClosed edges → (from to : RationalPoint) → (pos to.n *ℤ from.x) ≤ℤ (pos from.n *ℤ to.x) → winding edges from ≢ winding edges to → Crossed edges from to
onwards-crossed edges closed from to order differ =
    by (all_or_one (λ edge. jump (scaled_edge (from.n * to.n) edge) (way_between from to) ≡ pos 0) (λ edge. Meet (scaled_edge (from.n * to.n) edge) (way_between from to)) edges (λ edge. (jumps (scaled_edge (from.n * to.n) edge) (way_between from to) order).none))
  where
    by : All (λ edge. jump (scaled_edge (from.n * to.n) edge) (way_between from to) ≡ pos 0) edges ⊎ ((edge : Edge) × Contains edges edge × Meet (scaled_edge (from.n * to.n) edge) (way_between from to)) → Crossed edges from to
    by (inl none) =
        let sum = total-none (λ (edge : Edge). jump (scaled_edge (from.n * to.n) edge) (way_between from to)) edges none in
        let is = winding-between from to edges closed in
        absurd (differ (omega (arith, ints, sum, is)))
    by (inr (edge, among, meet)) = met edges edge from to among meet

-- Where closed edges don't wind alike around two points, one of the edges has a point of the way between these.
pub crossed-between : (edges : List Edge) → IsClosed edges → (from to : RationalPoint) → winding edges from ≢ winding edges to → Crossed edges from to
crossed-between edges closed from to differ =
    by_lt_z (pos from.n *ℤ to.x) (pos to.n *ℤ from.x)
    (λ back. crossed-back edges from to (onwards-crossed edges closed to from (omega (arith, ints, back)) (λ same. differ (sym same))))
    (λ order. onwards-crossed edges closed from to order differ)

-- So they wind alike where no edge has one.
pub winds-alike : (edges : List Edge) → IsClosed edges → (from to : RationalPoint) → ¬ (Crossed edges from to) → winding edges from ≡ winding edges to
winds-alike edges closed from to never = by (same_or_apart (winding edges from) (winding edges to))
  where
    by : (winding edges from ≡ winding edges to) ⊎ (winding edges from ≢ winding edges to) → winding edges from ≡ winding edges to
    by (inl same) = same
    by (inr differ) = absurd (never (crossed-between edges closed from to differ))
