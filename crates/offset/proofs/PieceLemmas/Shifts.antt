-- Small shifts to the right, and further up: no edge counts otherwise for the point shifted, and it lies on none of some lines.
use Rattle.std.proofs.Common.{◌≡◌, ◌≢◌, ℕ, ◌+◌, ◌*◌, ◌<◌, ◌≤◌, ℤ, pos, negsuc, ◌+ℤ◌, ◌-ℤ◌, ◌*ℤ◌, ◌≤ℤ◌, ◌<ℤ◌, List, [], ◌∷◌, ◌++◌, refl, ap, ap₂, subst, sym, ◌∙◌, arith}
use Rattle.std.specs.List.{All}
use Rattle.std.specs.Int.RustNames.{unsigned_abs}
use Rattle.std.proofs.Math.Nat.{mul-pos}
use Rattle.std.proofs.lemmas.Int.{by_lt_z, ints}
use Rattle.std.proofs.lemmas.Nat.{mul-le}
use Rattle.std.proofs.lemmas.List.Elements.{All-cons, All-head, All-nil, All-tail, All-weaker}
use Rattle.i_tree.proofs.RootLemmas.Joined.{All-behind, All-front}
use Rattle.plane.specs.declared.edge.Edge.{Edge}
use Rattle.plane.specs.declared.point.Point.{Point}
use Rattle.plane.specs.Ends.{end_of, start_of}
use Rattle.plane.specs.Meet.Edges.{RationalPoint}
use Rattle.noding.specs.Windings.{winding}
use Rattle.offset.specs.Sum.{IsOfSumBeyond}
use Rattle.plane.proofs.MeetLemmas.Identities.{identity, minus, number, plus, scaled, times}
use Rattle.noding.proofs.SnapLemmas.Numbers.{n_of}
use Rattle.offset.proofs.PieceLemmas.Sides.{all_passed, before-both, behind-both, left_by, leftwards-over, leftwards-under, passed, passed_by, right_by, rightwards-over, rightwards-under, winding-passed}
use Rattle.plane.proofs.SweepLineLemmas.Gaps.{product_above}

-- The point 1 / m further to the right and k / m further up.
abbrev pub shifted : (k m : ℕ) → 0 < m → RationalPoint → RationalPoint
shifted k m some point = record {
  n = m * point.n;
  x = (pos m *ℤ point.x) +ℤ pos point.n;
  y = (pos m *ℤ point.y) +ℤ pos (k * point.n);
  positive = mul-pos some point.positive;
}

-- How much more, times n and m, a point so shifted lies to the left of an edge.
abbrev pub gain : ℕ → Edge → ℤ
gain k edge = ((edge.x1 -ℤ edge.x0) *ℤ pos k) -ℤ (edge.y1 -ℤ edge.y0)

-- it is less than this
abbrev pub most_gain : ℕ → Edge → ℕ
most_gain k edge = unsigned_abs (edge.x1 -ℤ edge.x0) * k + unsigned_abs (edge.y1 -ℤ edge.y0)

-- The shift is small for the edge: it is steeper than this is, and shorter than the way from its line to a point beside it,
-- which is over n.
pub record IsSmall (k m n : ℕ) (edge : Edge) : Type 0 where
  pub steep : unsigned_abs (edge.y1 -ℤ edge.y0) < k
  pub short : n * most_gain k edge < m
  pub fine : n < m

-- ---- numbers alone

-- A number is at most its absolute value, and at least this less than 0.
pub upto-abs : (z : ℤ) → z ≤ℤ pos (unsigned_abs z)
upto-abs (pos n) = omega (arith, ints)
upto-abs (negsuc n) = omega (arith, ints)

pub from-abs : (z : ℤ) → (pos 0 -ℤ pos (unsigned_abs z)) ≤ℤ z
from-abs (pos n) = omega (arith, ints)
from-abs (negsuc n) = omega (arith, ints)

-- a product by a natural number, and absolute values
product_upto : (z : ℤ) (k : ℕ) → (z *ℤ pos k) ≤ℤ pos (unsigned_abs z * k)
product_upto z k =
    let most = scaled k z (pos (unsigned_abs z)) (upto-abs z) in
    let one = identity (times (n_of k) (number z)) (times (number z) (n_of k)) (omega arith) in
    let other = identity (times (n_of k) (n_of (unsigned_abs z))) (n_of (unsigned_abs z * k)) (omega arith) in
    omega (arith, ints, most, one, other)

product_from : (z : ℤ) (k : ℕ) → (pos 0 -ℤ pos (unsigned_abs z * k)) ≤ℤ (z *ℤ pos k)
product_from z k =
    let least = scaled k (pos 0 -ℤ pos (unsigned_abs z)) z (from-abs z) in
    let one = identity (times (n_of k) (number z)) (times (number z) (n_of k)) (omega arith) in
    let other = identity (times (n_of k) (minus (n_of 0) (n_of (unsigned_abs z)))) (minus (n_of 0) (n_of (unsigned_abs z * k))) (omega arith) in
    omega (arith, ints, least, one, other)

gain-upto : (k : ℕ) (edge : Edge) → gain k edge ≤ℤ pos (most_gain k edge)
gain-upto k edge = let one = product_upto (edge.x1 -ℤ edge.x0) k in let other = from-abs (edge.y1 -ℤ edge.y0) in omega (arith, ints, one, other)

gain-from : (k : ℕ) (edge : Edge) → (pos 0 -ℤ pos (most_gain k edge)) ≤ℤ gain k edge
gain-from k edge = let one = product_from (edge.x1 -ℤ edge.x0) k in let other = upto-abs (edge.y1 -ℤ edge.y0) in omega (arith, ints, one, other)

-- a part of an edge that goes rightwards gains, and one that goes leftwards loses
rightwards-gain : (k : ℕ) (x y : ℤ) → pos 0 <ℤ x → unsigned_abs y < k → pos 0 <ℤ ((x *ℤ pos k) -ℤ y)
rightwards-gain k x y some steep =
    let more = product_above (x -ℤ pos 1) (pos k) (omega (arith, ints, some)) (omega (arith, ints)) in
    let is = identity (times (minus (number x) (n_of 1)) (n_of k)) (minus (times (number x) (n_of k)) (n_of k)) (omega arith) in
    let upto = upto-abs y in
    omega (arith, ints, more, is, upto, steep)

leftwards-gain : (k : ℕ) (x y : ℤ) → x <ℤ pos 0 → unsigned_abs y < k → ((x *ℤ pos k) -ℤ y) <ℤ pos 0
leftwards-gain k x y some steep =
    let more = product_above (pos 0 -ℤ (x +ℤ pos 1)) (pos k) (omega (arith, ints, some)) (omega (arith, ints)) in
    let is = identity (times (minus (n_of 0) (plus (number x) (n_of 1))) (n_of k)) (minus (n_of 0) (plus (times (number x) (n_of k)) (n_of k))) (omega arith) in
    let from = from-abs y in
    omega (arith, ints, more, is, from, steep)

module _ (m n : ℕ) (fine : n < m) where
  -- a shift to the right changes no side
  behind-still : (z : ℤ) → z ≤ℤ pos 0 → ((pos m *ℤ z) -ℤ pos n) ≤ℤ pos 0
  behind-still z is =
      let down = scaled m z (pos 0) is in
      let none = identity (times (n_of m) (n_of 0)) (n_of 0) (omega arith) in
      omega (arith, ints, down, none)

  before-still : (z : ℤ) → pos 0 <ℤ z → pos 0 <ℤ ((pos m *ℤ z) -ℤ pos n)
  before-still z is =
      let up = scaled m (pos 1) z (omega (arith, ints, is)) in
      let one = identity (times (n_of m) (n_of 1)) (n_of m) (omega arith) in
      omega (arith, ints, up, one, fine)

  -- what is gained is less than what the point lies to a side, if it does
  module _ (l s : ℤ) (w : ℕ) (upto : s ≤ℤ pos w) (from : (pos 0 -ℤ pos w) ≤ℤ s) (short : n * w < m) where
    gained_upto : (pos n *ℤ s) <ℤ pos m
    gained_upto =
        let most = scaled n s (pos w) upto in
        let is = identity (times (n_of n) (n_of w)) (n_of (n * w)) (omega arith) in
        omega (arith, ints, most, is, short)

    gained_from : (pos 0 -ℤ pos m) <ℤ (pos n *ℤ s)
    gained_from =
        let least = scaled n (pos 0 -ℤ pos w) s from in
        let is = identity (times (n_of n) (minus (n_of 0) (n_of w))) (minus (n_of 0) (n_of (n * w))) (omega arith) in
        omega (arith, ints, least, is, short)

    left-still : pos 0 <ℤ l → pos 0 <ℤ ((pos m *ℤ l) +ℤ (pos n *ℤ s))
    left-still is =
        let up = scaled m (pos 1) l (omega (arith, ints, is)) in
        let one = identity (times (n_of m) (n_of 1)) (n_of m) (omega arith) in
        let some = gained_from in
        omega (arith, ints, up, one, some)

    right-still : l <ℤ pos 0 → ((pos m *ℤ l) +ℤ (pos n *ℤ s)) <ℤ pos 0
    right-still is =
        let down = scaled m l (negsuc 0) (omega (arith, ints, is)) in
        let one = identity (times (n_of m) (minus (n_of 0) (n_of 1))) (minus (n_of 0) (n_of m)) (omega arith) in
        let minus_one : ◌≡◌ {A = ℤ} (pos 0 -ℤ pos 1) (negsuc 0) = refl in
        let some = gained_upto in
        omega (arith, ints, down, one, minus_one, some)

    -- a line on which the point lies is left
    off-line : s ≢ pos 0 → 0 < n → ((pos m *ℤ l) +ℤ (pos n *ℤ s)) ≢ pos 0
    off-line moves some none =
        by_lt_z (pos 0) l
        (λ above. let still = left-still above in omega (arith, ints, still, none))
        (λ l_upto. by_lt_z l (pos 0)
        (λ below. let still = right-still below in omega (arith, ints, still, none))
        (λ l_from.
        let flat : l ≡ pos 0 = omega (arith, ints, l_upto, l_from) in
        let same = ap (λ z. pos m *ℤ z) flat ∙ identity (times (n_of m) (n_of 0)) (n_of 0) (omega arith) in
        by_lt_z (pos 0) s
        (λ more. let up = scaled n (pos 1) s (omega (arith, ints, more)) in let one = identity (times (n_of n) (n_of 1)) (n_of n) (omega arith) in omega (arith, ints, none, same, up, one, some))
        (λ s_upto. by_lt_z s (pos 0)
        (λ fewer. let down = scaled n (s +ℤ pos 1) (pos 0) (omega (arith, ints, fewer)) in
        let one = identity (times (n_of n) (plus (number s) (n_of 1))) (plus (times (n_of n) (number s)) (n_of n)) (omega arith) in
        let zero_is = identity (times (n_of n) (n_of 0)) (n_of 0) (omega arith) in
        omega (arith, ints, none, same, down, one, zero_is, some))
        (λ s_from. moves (omega (arith, ints, s_upto, s_from))))))

    -- an edge counts the same
    passed-shifted : (from_x to_x : ℤ) → (from_x ≤ℤ pos 0 → pos 0 <ℤ to_x → pos 0 ≤ℤ s) → (to_x ≤ℤ pos 0 → pos 0 <ℤ from_x → s ≤ℤ pos 0)
        → passed ((pos m *ℤ from_x) -ℤ pos n) ((pos m *ℤ to_x) -ℤ pos n) ((pos m *ℤ l) +ℤ (pos n *ℤ s)) ≡ passed from_x to_x l
    passed-shifted f t gains loses =
        by_lt_z (pos 0) f
        (λ f_right. by_lt_z (pos 0) t
        (λ t_right. before-both f' t' l' (before-still f f_right) (before-still t t_right) ∙ sym (before-both f t l f_right t_right))
        (λ t_left. by_lt_z (pos 0) l
        (λ above. leftwards-over f' t' l' (before-still f f_right) (behind-still t t_left) (left-still above) ∙ sym (leftwards-over f t l f_right t_left above))
        (λ upto_l.
        let down = scaled m l (pos 0) upto_l in
        let less = scaled n s (pos 0) (loses t_left f_right) in
        let one = identity (times (n_of m) (n_of 0)) (n_of 0) (omega arith) in
        let two = identity (times (n_of n) (n_of 0)) (n_of 0) (omega arith) in
        leftwards-under f' t' l' (before-still f f_right) (behind-still t t_left) (omega (arith, ints, down, less, one, two)) ∙ sym (leftwards-under f t l f_right t_left upto_l))))
        (λ f_left. by_lt_z (pos 0) t
        (λ t_right. by_lt_z l (pos 0)
        (λ below. rightwards-over f' t' l' (behind-still f f_left) (before-still t t_right) (right-still below) ∙ sym (rightwards-over f t l f_left t_right below))
        (λ from_l.
        let up = scaled m (pos 0) l from_l in
        let more = scaled n (pos 0) s (gains f_left t_right) in
        let one = identity (times (n_of m) (n_of 0)) (n_of 0) (omega arith) in
        let two = identity (times (n_of n) (n_of 0)) (n_of 0) (omega arith) in
        rightwards-under f' t' l' (behind-still f f_left) (before-still t t_right) (omega (arith, ints, up, more, one, two)) ∙ sym (rightwards-under f t l f_left t_right from_l)))
        (λ t_left. behind-both f' t' l' (behind-still f f_left) (behind-still t t_left) ∙ sym (behind-both f t l f_left t_left)))
      where
        f' : ℤ
        f' = (pos m *ℤ f) -ℤ pos n

        t' : ℤ
        t' = (pos m *ℤ t) -ℤ pos n

        l' : ℤ
        l' = (pos m *ℤ l) +ℤ (pos n *ℤ s)

-- ---- edges

-- a number times n is less than m only if it lies before it, whichever n it is
sloped : (n : ℕ) (x from to : ℤ) → ((pos n *ℤ from) -ℤ x) ≤ℤ pos 0 → pos 0 <ℤ ((pos n *ℤ to) -ℤ x) → from <ℤ to
sloped n x from to behind before =
    by_lt_z from to (λ is. is)
    (λ upto. let there = scaled n to from upto in absurd (omega (arith, ints, there, behind, before)))

module _ (k m : ℕ) (some : 0 < m) (point : RationalPoint) where
  right-shifted : (x : ℤ) → right_by x (shifted k m some point) ≡ ((pos m *ℤ right_by x point) -ℤ pos point.n)
  right-shifted x =
      identity (minus (times (n_of (m * point.n)) (number x)) (plus (times (n_of m) (number point.x)) (n_of point.n)))
      (minus (times (n_of m) (minus (times (n_of point.n) (number x)) (number point.x))) (n_of point.n)) (omega arith)

  left-shifted : (edge : Edge) → left_by edge (shifted k m some point) ≡ ((pos m *ℤ left_by edge point) +ℤ (pos point.n *ℤ gain k edge))
  left-shifted edge =
      let width = minus (number edge.x1) (number edge.x0) in
      let height = minus (number edge.y1) (number edge.y0) in
      identity
      (minus (times width (minus (plus (times (n_of m) (number point.y)) (n_of (k * point.n))) (times (n_of (m * point.n)) (number edge.y0))))
      (times height (minus (plus (times (n_of m) (number point.x)) (n_of point.n)) (times (n_of (m * point.n)) (number edge.x0)))))
      (plus (times (n_of m) (minus (times width (minus (number point.y) (times (n_of point.n) (number edge.y0)))) (times height (minus (number point.x) (times (n_of point.n) (number edge.x0))))))
      (times (n_of point.n) (minus (times width (n_of k)) height))) (omega arith)

  -- an edge for which the shift is small counts for the point shifted what it counts for the point
  passed_by-shifted : (edge : Edge) → IsSmall k m point.n edge → passed_by edge (shifted k m some point) ≡ passed_by edge point
  passed_by-shifted edge small =
      ap₂ (λ f t. passed f t (left_by edge (shifted k m some point))) (right-shifted edge.x0) (right-shifted edge.x1)
      ∙ ap (λ l. passed ((pos m *ℤ right_by edge.x0 point) -ℤ pos point.n) ((pos m *ℤ right_by edge.x1 point) -ℤ pos point.n) l) (left-shifted edge)
      ∙ passed-shifted m point.n small.fine (left_by edge point) (gain k edge) (most_gain k edge) (gain-upto k edge) (gain-from k edge) small.short (right_by edge.x0 point) (right_by edge.x1 point) gains loses
    where
      gains : right_by edge.x0 point ≤ℤ pos 0 → pos 0 <ℤ right_by edge.x1 point → pos 0 ≤ℤ gain k edge
      gains behind before =
          let wide = sloped point.n point.x edge.x0 edge.x1 behind before in
          let more = rightwards-gain k (edge.x1 -ℤ edge.x0) (edge.y1 -ℤ edge.y0) (omega (arith, ints, wide)) small.steep in
          omega (arith, ints, more)

      loses : right_by edge.x1 point ≤ℤ pos 0 → pos 0 <ℤ right_by edge.x0 point → gain k edge ≤ℤ pos 0
      loses behind before =
          let wide = sloped point.n point.x edge.x1 edge.x0 behind before in
          let less = leftwards-gain k (edge.x1 -ℤ edge.x0) (edge.y1 -ℤ edge.y0) (omega (arith, ints, wide)) small.steep in
          omega (arith, ints, less)

  -- so edges wind around both alike
  pub winding-shifted : (edges : List Edge) → All (IsSmall k m point.n) edges → winding edges (shifted k m some point) ≡ winding edges point
  winding-shifted edges small = winding-passed edges (shifted k m some point) ∙ each edges small ∙ sym (winding-passed edges point)
    where
      each : (edges : List Edge) → All (IsSmall k m point.n) edges → all_passed edges (shifted k m some point) ≡ all_passed edges point
      each [] small = refl
      each (edge ∷ edges) small =
          ap₂ (λ a b. a +ℤ b) (passed_by-shifted edge (All-head (IsSmall k m point.n) edge edges small)) (each edges (All-tail (IsSmall k m point.n) edge edges small))

  -- and the point shifted lies on no line for which the shift is small
  pub beside-line : (line : Edge) → start_of line ≢ end_of line → IsSmall k m point.n line → left_by line (shifted k m some point) ≢ pos 0
  beside-line line two small none =
      off-line m point.n small.fine (left_by line point) (gain k line) (most_gain k line) (gain-upto k line) (gain-from k line) small.short moves point.positive (sym (left-shifted line) ∙ none)
    where
      moves : gain k line ≢ pos 0
      moves still =
          by_lt_z line.x0 line.x1
          (λ right. let more = rightwards-gain k (line.x1 -ℤ line.x0) (line.y1 -ℤ line.y0) (omega (arith, ints, right)) small.steep in omega (arith, ints, more, still))
          (λ upto. by_lt_z line.x1 line.x0
          (λ left. let less = leftwards-gain k (line.x1 -ℤ line.x0) (line.y1 -ℤ line.y0) (omega (arith, ints, left)) small.steep in omega (arith, ints, less, still))
          (λ from.
          let upright : line.x0 ≡ line.x1 = omega (arith, ints, upto, from) in
          let none_x = ap (λ z. (z -ℤ line.x0) *ℤ pos k) (sym upright) ∙ identity (times (minus (number line.x0) (number line.x0)) (n_of k)) (n_of 0) (omega arith) in
          let level : line.y0 ≡ line.y1 = omega (arith, ints, still, none_x) in
          two (ap₂ (λ (a b : ℤ). the_point a b) upright level)))
        where
          the_point : ℤ → ℤ → Point
          the_point a b = record { x = a; y = b }

  beside-lines : (lines : List Edge) → All (λ line. start_of line ≢ end_of line) lines → All (IsSmall k m point.n) lines → All (λ line. left_by line (shifted k m some point) ≢ pos 0) lines
  beside-lines [] two small = All-nil (λ (line : Edge). left_by line (shifted k m some point) ≢ pos 0)
  beside-lines (line ∷ lines) two small =
      All-cons (λ (l : Edge). left_by l (shifted k m some point) ≢ pos 0) line lines
      (beside-line line (All-head (λ (l : Edge). start_of l ≢ end_of l) line lines two) (All-head (IsSmall k m point.n) line lines small))
      (beside-lines lines (All-tail (λ (l : Edge). start_of l ≢ end_of l) line lines two) (All-tail (IsSmall k m point.n) line lines small))

-- ---- a shift that is small for all

abbrev sum_of : (Edge → ℕ) → List Edge → ℕ
sum_of f [] = 0
sum_of f (edge ∷ edges) = f edge + sum_of f edges

within-sum : (f : Edge → ℕ) (edges : List Edge) → All (λ edge. f edge ≤ sum_of f edges) edges
within-sum f [] = All-nil (λ (edge : Edge). f edge ≤ 0)
within-sum f (edge ∷ edges) =
    All-cons (λ (e : Edge). f e ≤ f edge + sum_of f edges) edge edges (omega arith)
    (All-weaker (λ (e : Edge). f e ≤ sum_of f edges) (λ (e : Edge). f e ≤ f edge + sum_of f edges) (λ e upto. omega (arith, upto)) edges (within-sum f edges))

module _ (edges : List Edge) (most : ℕ) where
  abbrev height : Edge → ℕ
  height edge = unsigned_abs (edge.y1 -ℤ edge.y0)

  -- as steep as this, and as short
  pub steepness : ℕ
  steepness = 1 + sum_of height edges

  pub fineness : ℕ
  fineness = 1 + most * (1 + sum_of (most_gain steepness) edges)

  pub some-fineness : 0 < fineness
  unfolding fineness
  some-fineness = omega arith

  -- It is small for all edges, and points over at most this n.
  pub all-small : (n : ℕ) → n ≤ most → All (IsSmall steepness fineness n) edges
  unfolding steepness fineness
  all-small n upto =
      together edges (within-sum height edges) (within-sum (most_gain steepness) edges)
    where
      one : (edge : Edge) → height edge ≤ sum_of height edges → most_gain steepness edge ≤ sum_of (most_gain steepness) edges → IsSmall steepness fineness n edge
      one edge low short = record {
        steep = omega (arith, low);
        short = (let most_is = mul-le n (most_gain steepness edge) most (1 + sum_of (most_gain steepness) edges) upto (omega (arith, short)) in omega (arith, most_is));
        fine = (let most_is = mul-le n 1 most (1 + sum_of (most_gain steepness) edges) upto (omega arith) in omega (arith, most_is));
      }

      together : (some : List Edge) → All (λ edge. height edge ≤ sum_of height edges) some → All (λ edge. most_gain steepness edge ≤ sum_of (most_gain steepness) edges) some → All (IsSmall steepness fineness n) some
      together [] low short = All-nil (IsSmall steepness fineness n)
      together (edge ∷ some) low short =
          All-cons (IsSmall steepness fineness n) edge some
          (one edge (All-head (λ (e : Edge). height e ≤ sum_of height edges) edge some low) (All-head (λ (e : Edge). most_gain steepness e ≤ sum_of (most_gain steepness) edges) edge some short))
          (together some (All-tail (λ (e : Edge). height e ≤ sum_of height edges) edge some low) (All-tail (λ (e : Edge). most_gain steepness e ≤ sum_of (most_gain steepness) edges) edge some short))

-- ---- sums

-- one axis of a sum, shifted
sum-shifted : (m n b r s : ℕ) (x from by : ℤ) → (pos (n * b) *ℤ x) ≡ (pos r *ℤ ((from *ℤ pos b) +ℤ (by *ℤ pos n)))
    → (pos ((m * n) * b) *ℤ ((pos m *ℤ x) +ℤ pos (s * r))) ≡ (pos (m * r) *ℤ ((((pos m *ℤ from) +ℤ pos (s * n)) *ℤ pos b) +ℤ (by *ℤ pos (m * n))))
sum-shifted m n b r s x from by is =
    identity (times (n_of ((m * n) * b)) (plus (times (n_of m) (number x)) (n_of (s * r)))) (plus (times (times (n_of m) (n_of m)) (times (n_of (n * b)) (number x))) (n_of (((m * n) * b) * (s * r)))) (omega arith)
    ∙ ap (λ z. ((pos m *ℤ pos m) *ℤ z) +ℤ pos (((m * n) * b) * (s * r))) is
    ∙ identity (plus (times (times (n_of m) (n_of m)) (times (n_of r) (plus (times (number from) (n_of b)) (times (number by) (n_of n))))) (n_of (((m * n) * b) * (s * r))))
    (times (n_of (m * r)) (plus (times (plus (times (n_of m) (number from)) (n_of (s * n))) (n_of b)) (times (number by) (n_of (m * n))))) (omega arith)

-- A point of a sum is one still if it is shifted, where the edges wind around the other point as before if this is shifted alike.
pub of_sum-shifted : (outer : ℤ) (k m : ℕ) (some : 0 < m) (edges : List Edge) (corners : List Point) (point : RationalPoint) (is : IsOfSumBeyond outer edges corners point)
    → winding edges (shifted k m some is.from) ≡ winding edges is.from → IsOfSumBeyond outer edges corners (shifted k m some point)
of_sum-shifted outer k m some edges corners point is still = record {
  from = shifted k m some is.from;
  by = is.by;
  inside = λ none. is.inside (sym still ∙ none);
  of_shape = is.of_shape;
  x = once point.n is.from.n (sum-shifted m is.from.n is.by.n point.n 1 point.x is.from.x is.by.x is.x);
  y = sum-shifted m is.from.n is.by.n point.n k point.y is.from.y is.by.y is.y;
}
  where
    once : (r n : ℕ)
        → (pos ((m * n) * is.by.n) *ℤ ((pos m *ℤ point.x) +ℤ pos (1 * r))) ≡ (pos (m * r) *ℤ ((((pos m *ℤ is.from.x) +ℤ pos (1 * n)) *ℤ pos is.by.n) +ℤ (is.by.x *ℤ pos (m * n))))
        → (pos ((m * n) * is.by.n) *ℤ ((pos m *ℤ point.x) +ℤ pos r)) ≡ (pos (m * r) *ℤ ((((pos m *ℤ is.from.x) +ℤ pos n) *ℤ pos is.by.n) +ℤ (is.by.x *ℤ pos (m * n))))
    once r n found =
        let one : 1 * r ≡ r = omega arith in
        let other : 1 * n ≡ n = omega arith in
        subst (λ (u : ℕ). (pos ((m * n) * is.by.n) *ℤ ((pos m *ℤ point.x) +ℤ pos u)) ≡ (pos (m * r) *ℤ ((((pos m *ℤ is.from.x) +ℤ pos n) *ℤ pos is.by.n) +ℤ (is.by.x *ℤ pos (m * n))))) one
        (subst (λ (u : ℕ). (pos ((m * n) * is.by.n) *ℤ ((pos m *ℤ point.x) +ℤ pos (1 * r))) ≡ (pos (m * r) *ℤ ((((pos m *ℤ is.from.x) +ℤ pos u) *ℤ pos is.by.n) +ℤ (is.by.x *ℤ pos (m * n))))) other found)

-- So what some edges wind around each point of a sum that lies on none of some lines, they wind around each point of it.
pub from-generic : (outer : ℤ) (edges raw lines : List Edge) (corners : List Point) → All (λ line. start_of line ≢ end_of line) lines
    → ((point : RationalPoint) → All (λ line. left_by line point ≢ pos 0) lines → IsOfSumBeyond outer edges corners point → winding raw point ≢ outer)
    → (point : RationalPoint) → IsOfSumBeyond outer edges corners point → winding raw point ≢ outer
from-generic outer edges raw lines corners two generic point is none =
    generic (shifted k m some point) (beside-lines k m some point lines two (third point.n (omega arith)))
    (of_sum-shifted outer k m some edges corners point is (winding-shifted k m some is.from edges (first is.from.n (omega arith))))
    (winding-shifted k m some point raw (second point.n (omega arith)) ∙ none)
  where
    all : List Edge
    all = edges ++ (raw ++ lines)

    most : ℕ
    most = is.from.n + point.n

    k : ℕ
    k = steepness all most

    m : ℕ
    m = fineness all most

    some : 0 < m
    some = some-fineness all most

    small : (n : ℕ) → n ≤ most → All (IsSmall k m n) all
    small = all-small all most

    first : (n : ℕ) → n ≤ most → All (IsSmall k m n) edges
    first n upto = All-front (IsSmall k m n) edges (raw ++ lines) (small n upto)

    second : (n : ℕ) → n ≤ most → All (IsSmall k m n) raw
    second n upto = All-front (IsSmall k m n) raw lines (All-behind (IsSmall k m n) edges (raw ++ lines) (small n upto))

    third : (n : ℕ) → n ≤ most → All (IsSmall k m n) lines
    third n upto = All-behind (IsSmall k m n) raw lines (All-behind (IsSmall k m n) edges (raw ++ lines) (small n upto))

-- Around some point that lies on none of some lines, too, edges wind as often as around a point.
pub somewhere-generic : (raw lines : List Edge) → All (λ line. start_of line ≢ end_of line) lines → (point : RationalPoint)
    → (other : RationalPoint) × All (λ line. left_by line other ≢ pos 0) lines × (winding raw other ≡ winding raw point)
somewhere-generic raw lines two point = (
  shifted k m some point,
  beside-lines k m some point lines two (All-behind (IsSmall k m point.n) raw lines small),
  winding-shifted k m some point raw (All-front (IsSmall k m point.n) raw lines small),
)
  where
    k : ℕ
    k = steepness (raw ++ lines) point.n

    m : ℕ
    m = fineness (raw ++ lines) point.n

    some : 0 < m
    some = some-fineness (raw ++ lines) point.n

    small : All (IsSmall k m point.n) (raw ++ lines)
    small = all-small (raw ++ lines) point.n point.n (omega arith)
