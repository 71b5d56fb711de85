-- What ends upto a point of a column, less what starts, by the winding numbers left and right of it.
use Rattle.std.proofs.Common.{Bool, List, [], ◌∷◌, true, false, ℕ, ℤ, pos, negsuc, ◌+◌, ◌*◌, ◌<◌, ◌≤◌, ◌+ℤ◌, ◌-ℤ◌, ◌*ℤ◌, ◌<ℤ◌, ◌≤ℤ◌, ◌≡◌, ◌≢◌, refl, sym, ap, ap₂, ◌∙◌, arith}
use Rattle.std.proofs.Math.Nat.{mul-pos}
use Rattle.std.proofs.lemmas.Int.{by_lt_z, ints}
use Rattle.std.specs.Prelude.{int_le}
use borrow.Author.Differences.{down, up}
use Rattle.plane.specs.declared.edge.Edge.{Edge}
use Rattle.plane.specs.Meet.Edges.{RationalPoint}
use Rattle.plane.specs.SweepLine.Heights.{run, rise, height_by_run}
use Rattle.plane.proofs.MeetLemmas.Identities.{identity, minus, number, plus, scaled, times, unscaled}
use Rattle.plane.specs.Ends.{end_of, reversed, start_of}
use Rattle.noding.specs.Windings.{winding, count}
use Rattle.noding.proofs.SnapLemmas.Numbers.{n_of, natural, same_test}
use Rattle.overlay.proofs.VerticalLemmas.Flows.{Every, flow, is_upto, upto-at, upto-before, upto-behind}
use Rattle.overlay.proofs.FillLemmas.Balance.{carried}
use Rattle.noding.proofs.SnapLemmas.Counted.{added, counted, height_at, is_low, under}
use Rattle.noding.proofs.SnapLemmas.Windings.{after, before, under-left, under-right, within, winding-added}

-- ---- how large edges are

-- at least the edge's run, its rise, and its ends' heights, whatever their signs
abbrev pub size_of : ℤ → ℕ
size_of z = up z + down z

abbrev pub size : Edge → ℕ
size edge = (size_of (run edge) + size_of (rise edge)) + (size_of edge.y0 + size_of edge.y1)

abbrev pub sizes : List Edge → ℕ
sizes [] = 0
sizes (edge ∷ edges) = size edge + sizes edges

pub upto_size : (z : ℤ) → z ≤ℤ pos (size_of z)
upto_size (pos n) = omega (arith, ints)
upto_size (negsuc n) = omega (arith, ints)

pub from_size : (z : ℤ) → (pos 0 -ℤ pos (size_of z)) ≤ℤ z
from_size (pos n) = omega (arith, ints)
from_size (negsuc n) = omega (arith, ints)

turned_size : (a b : ℤ) → size_of (a -ℤ b) ≡ size_of (b -ℤ a)
turned_size a b = go (a -ℤ b) (b -ℤ a) (omega (arith, ints))
  where
    go : (y z : ℤ) → y ≡ (pos 0 -ℤ z) → size_of y ≡ size_of z
    go (pos m) (pos n) is = omega (arith, ints, is)
    go (pos m) (negsuc n) is = omega (arith, ints, is)
    go (negsuc m) (pos n) is = omega (arith, ints, is)
    go (negsuc m) (negsuc n) is = omega (arith, ints, is)

pub size-reversed : (edge : Edge) → size (reversed edge) ≡ size edge
size-reversed edge =
    let width = turned_size edge.x0 edge.x1 in
    let height = turned_size edge.y0 edge.y1 in
    omega (arith, width, height)

-- ---- the points just right of the column, and just left of it, at a height

abbrev pub right_of : ℤ → (n : ℕ) → ℤ → 0 < n → RationalPoint
right_of x n y some = record { n = n; x = pos n *ℤ x; y = y; positive = some }

-- so many parts are enough for edges of the size
abbrev pub parts : ℕ → ℕ
parts k = (k * k + k) + 1

pub one_some : 0 < 1
one_some = omega arith

pub parts_some : (k : ℕ) → 0 < parts k
parts_some k = omega arith

abbrev pub left_of : ℕ → ℤ → (n : ℕ) → ℤ → 0 < n → RationalPoint
left_of k x n y some = record {
  n = n * parts k;
  x = (pos (n * parts k) *ℤ x) -ℤ pos 1;
  y = (pos (parts k) *ℤ y) +ℤ pos k;
  positive = mul-pos {m = n} {n = parts k} some (parts_some k);
}

-- the edge isn't above the height at the column
abbrev pub is_lower : Edge → ℤ → ℕ → ℤ → Bool
is_lower edge x n y = int_le (pos n *ℤ height_by_run edge x) (y *ℤ run edge)

height-right : (n : ℕ) (x x0 x1 y0 y1 : ℤ) → ((y0 *ℤ ((pos n *ℤ x1) -ℤ (pos n *ℤ x))) +ℤ (y1 *ℤ ((pos n *ℤ x) -ℤ (pos n *ℤ x0)))) ≡ (pos n *ℤ ((y0 *ℤ (x1 -ℤ x)) +ℤ (y1 *ℤ (x -ℤ x0))))
height-right n x x0 x1 y0 y1 =
    identity (plus (times (number y0) (minus (times (n_of n) (number x1)) (times (n_of n) (number x)))) (times (number y1) (minus (times (n_of n) (number x)) (times (n_of n) (number x0)))))
    (times (n_of n) (plus (times (number y0) (minus (number x1) (number x))) (times (number y1) (minus (number x) (number x0)))))
    (omega arith)

height-left : (n m : ℕ) (x x0 x1 y0 y1 : ℤ) → ((y0 *ℤ ((pos (n * m) *ℤ x1) -ℤ ((pos (n * m) *ℤ x) -ℤ pos 1))) +ℤ (y1 *ℤ (((pos (n * m) *ℤ x) -ℤ pos 1) -ℤ (pos (n * m) *ℤ x0))))
    ≡ ((pos m *ℤ (pos n *ℤ ((y0 *ℤ (x1 -ℤ x)) +ℤ (y1 *ℤ (x -ℤ x0))))) -ℤ (y1 -ℤ y0))
height-left n m x x0 x1 y0 y1 =
    let at = minus (times (n_of (n * m)) (number x)) (n_of 1) in
    identity (plus (times (number y0) (minus (times (n_of (n * m)) (number x1)) at)) (times (number y1) (minus at (times (n_of (n * m)) (number x0)))))
    (minus (times (n_of m) (times (n_of n) (plus (times (number y0) (minus (number x1) (number x))) (times (number y1) (minus (number x) (number x0)))))) (minus (number y1) (number y0)))
    (omega arith)

width-left : (m k : ℕ) (y r : ℤ) → (((pos m *ℤ y) +ℤ pos k) *ℤ r) ≡ ((pos m *ℤ (y *ℤ r)) +ℤ (pos k *ℤ r))
width-left m k y r =
    identity (times (plus (times (n_of m) (number y)) (n_of k)) (number r)) (plus (times (n_of m) (times (number y) (number r))) (times (n_of k) (number r))) (omega arith)

pub next_times : (m : ℕ) (q : ℤ) → (pos m *ℤ (q +ℤ pos 1)) ≡ ((pos m *ℤ q) +ℤ pos m)
next_times m q = identity (times (n_of m) (plus (number q) (n_of 1))) (plus (times (n_of m) (number q)) (n_of m)) (omega arith)

-- where p is above q, it is by so much that a little way to the left doesn't matter
stays_above : (k m : ℕ) (p q d r : ℤ) → m ≡ (k * k + k) + 1 → d ≤ℤ pos k → r ≤ℤ pos k → q <ℤ p → ((pos m *ℤ p) -ℤ d) ≤ℤ ((pos m *ℤ q) +ℤ (pos k *ℤ r)) → ⊥
stays_above k m p q d r is rises wide above low =
    let more = scaled m (q +ℤ pos 1) p (omega (arith, ints, above)) in
    let next = next_times m q in
    let most = scaled k r (pos k) wide in
    let square : (pos k *ℤ pos k) ≡ pos (k * k) = identity (times (n_of k) (n_of k)) (n_of (k * k)) (omega arith) in
    omega (arith, ints, more, next, most, square, is, rises, low)

stays_below : (k m : ℕ) (p q d r : ℤ) → (pos 0 -ℤ pos k) ≤ℤ d → pos 1 ≤ℤ r → p ≤ℤ q → ((pos m *ℤ q) +ℤ (pos k *ℤ r)) <ℤ ((pos m *ℤ p) -ℤ d) → ⊥
stays_below k m p q d r falls wide below high =
    let less = scaled m p q below in
    let least = scaled k (pos 1) r wide in
    let one : (pos k *ℤ pos 1) ≡ pos k = identity (times (n_of k) (n_of 1)) (n_of k) (omega arith) in
    omega (arith, ints, less, least, one, falls, high)

same_le : (a b c d : ℤ) → a ≡ c → b ≡ d → int_le a b ≡ int_le c d
same_le a b c d first second = ap₂ int_le first second

test-right : (edge : Edge) (x : ℤ) (n : ℕ) (y : ℤ) (some : 0 < n) → is_low edge (right_of x n y some) ≡ is_lower edge x n y
test-right edge x n y some = ap (λ h. int_le h (y *ℤ run edge)) (height-right n x edge.x0 edge.x1 edge.y0 edge.y1)

test-left : (k : ℕ) (edge : Edge) (x : ℤ) (n : ℕ) (y : ℤ) (some : 0 < n) → size edge ≤ k → edge.x0 <ℤ edge.x1 → is_low edge (left_of k x n y some) ≡ is_lower edge x n y
test-left k edge x n y some small onwards =
    let p = pos n *ℤ height_by_run edge x in
    let q = y *ℤ run edge in
    let rises = upto_size (rise edge) in
    let falls = from_size (rise edge) in
    let wide = upto_size (run edge) in
    same_le (height_at edge (left_of k x n y some)) ((left_of k x n y some).y *ℤ run edge) ((pos (parts k) *ℤ p) -ℤ rise edge) ((pos (parts k) *ℤ q) +ℤ (pos k *ℤ run edge))
    (height-left n (parts k) x edge.x0 edge.x1 edge.y0 edge.y1)
    (width-left (parts k) k y (run edge))
    ∙ same_test ((pos (parts k) *ℤ p) -ℤ rise edge) ((pos (parts k) *ℤ q) +ℤ (pos k *ℤ run edge)) p q
    (λ low above. stays_above k (parts k) p q (rise edge) (run edge) refl (omega (arith, ints, rises, small)) (omega (arith, ints, wide, small)) above low)
    (λ below high. stays_below k (parts k) p q (rise edge) (run edge) (omega (arith, ints, falls, small)) (omega (arith, ints, onwards)) below high)

-- ---- one edge that goes rightwards

-- the height at its ends
height-start : (x0 x1 y0 y1 : ℤ) → ((y0 *ℤ (x1 -ℤ x0)) +ℤ (y1 *ℤ (x0 -ℤ x0))) ≡ (y0 *ℤ (x1 -ℤ x0))
height-start x0 x1 y0 y1 =
    identity (plus (times (number y0) (minus (number x1) (number x0))) (times (number y1) (minus (number x0) (number x0)))) (times (number y0) (minus (number x1) (number x0))) (omega arith)

height-end : (x0 x1 y0 y1 : ℤ) → ((y0 *ℤ (x1 -ℤ x1)) +ℤ (y1 *ℤ (x1 -ℤ x0))) ≡ (y1 *ℤ (x1 -ℤ x0))
height-end x0 x1 y0 y1 =
    identity (plus (times (number y0) (minus (number x1) (number x1))) (times (number y1) (minus (number x1) (number x0)))) (times (number y1) (minus (number x1) (number x0))) (omega arith)

-- a run may be left out of both sides
without_run : (n : ℕ) (h y r : ℤ) → pos 0 <ℤ r → int_le (pos n *ℤ (h *ℤ r)) (y *ℤ r) ≡ int_le (pos n *ℤ h) y
without_run n h y r some =
    let width = natural r (omega (arith, ints, some)) in
    let is = width.is in
    let wide : 0 < width.k = omega (arith, ints, some, is) in
    let left : (pos n *ℤ (h *ℤ r)) ≡ (pos width.k *ℤ (pos n *ℤ h)) =
    identity (times (n_of n) (times (number h) (number r))) (times (number r) (times (n_of n) (number h))) (omega arith) ∙ ap (λ z. z *ℤ (pos n *ℤ h)) is in
    let right : (y *ℤ r) ≡ (pos width.k *ℤ y) = identity (times (number y) (number r)) (times (number r) (number y)) (omega arith) ∙ ap (λ z. z *ℤ y) is in
    same_le (pos n *ℤ (h *ℤ r)) (y *ℤ r) (pos width.k *ℤ (pos n *ℤ h)) (pos width.k *ℤ y) left right
    ∙ same_test (pos width.k *ℤ (pos n *ℤ h)) (pos width.k *ℤ y) (pos n *ℤ h) y
    (λ low above. let upto = unscaled width.k (pos n *ℤ h) y wide low in omega (arith, ints, upto, above))
    (λ below high. let upto = scaled width.k (pos n *ℤ h) y below in omega (arith, ints, upto, high))

lower-start : (edge : Edge) (n : ℕ) (y : ℤ) → edge.x0 <ℤ edge.x1 → is_lower edge edge.x0 n y ≡ int_le (pos n *ℤ edge.y0) y
lower-start edge n y onwards =
    ap (λ h. int_le (pos n *ℤ h) (y *ℤ run edge)) (height-start edge.x0 edge.x1 edge.y0 edge.y1) ∙ without_run n edge.y0 y (run edge) (omega (arith, ints, onwards))

lower-end : (edge : Edge) (n : ℕ) (y : ℤ) → edge.x0 <ℤ edge.x1 → is_lower edge edge.x1 n y ≡ int_le (pos n *ℤ edge.y1) y
lower-end edge n y onwards =
    ap (λ h. int_le (pos n *ℤ h) (y *ℤ run edge)) (height-end edge.x0 edge.x1 edge.y0 edge.y1) ∙ without_run n edge.y1 y (run edge) (omega (arith, ints, onwards))

-- what it counts right of a column, and left of it
pub right-none : (edge : Edge) (x : ℤ) (n : ℕ) (y : ℤ) (some : 0 < n) → (x <ℤ edge.x0) → counted edge (right_of x n y some) ≡ pos 0
right-none edge x n y some early =
    before edge (right_of x n y some) (let more = scaled n (x +ℤ pos 1) edge.x0 (omega (arith, ints, early)) in let next = next_times n x in omega (arith, ints, more, next, some))

pub right-over : (edge : Edge) (x : ℤ) (n : ℕ) (y : ℤ) (some : 0 < n) → edge.x1 ≤ℤ x → counted edge (right_of x n y some) ≡ pos 0
right-over edge x n y some late = after edge (right_of x n y some) (scaled n edge.x1 x late)

pub right-within : (edge : Edge) (x : ℤ) (n : ℕ) (y : ℤ) (some : 0 < n) → edge.x0 ≤ℤ x → x <ℤ edge.x1 → counted edge (right_of x n y some) ≡ count (is_lower edge x n y)
right-within edge x n y some from upto =
    within edge (right_of x n y some)
    (record {
      from = scaled n edge.x0 x from;
      before = (let more = scaled n (x +ℤ pos 1) edge.x1 (omega (arith, ints, upto)) in let next = next_times n x in omega (arith, ints, more, next, some));
    })
    ∙ ap count (test-right edge x n y some)

module _ (k : ℕ) (edge : Edge) (x : ℤ) (n : ℕ) (y : ℤ) (some : 0 < n) (small : size edge ≤ k) (onwards : edge.x0 <ℤ edge.x1) where
  abbrev m : ℕ
  m = n * parts k

  many : 0 < m
  many = mul-pos {m = n} {n = parts k} some (parts_some k)

  left-none : x ≤ℤ edge.x0 → counted edge (left_of k x n y some) ≡ pos 0
  left-none early = before edge (left_of k x n y some) (let more = scaled m x edge.x0 early in omega (arith, ints, more))

  left-over : edge.x1 <ℤ x → counted edge (left_of k x n y some) ≡ pos 0
  left-over late =
      after edge (left_of k x n y some)
      (let more = scaled m (edge.x1 +ℤ pos 1) x (omega (arith, ints, late)) in let next = next_times m edge.x1 in let some_too = many in omega (arith, ints, more, next, some_too))

  left-within : edge.x0 <ℤ x → x ≤ℤ edge.x1 → counted edge (left_of k x n y some) ≡ count (is_lower edge x n y)
  left-within from upto =
      within edge (left_of k x n y some)
      (record {
        from = (let more = scaled m (edge.x0 +ℤ pos 1) x (omega (arith, ints, from)) in let next = next_times m edge.x0 in let some_too = many in omega (arith, ints, more, next, some_too));
        before = (let more = scaled m x edge.x1 upto in omega (arith, ints, more));
      })
      ∙ ap count (test-left k edge x n y some small onwards)

-- at the height k all are low
all_low : (k : ℕ) (edge : Edge) (x : ℤ) → size edge ≤ k → edge.x0 <ℤ edge.x1 → edge.x0 ≤ℤ x → x ≤ℤ edge.x1 → is_lower edge x 1 (pos k) ≡ true
all_low k edge x small onwards from upto = by (is_lower edge x 1 (pos k)) refl
  where
    first : (edge.y0 *ℤ (edge.x1 -ℤ x)) ≤ℤ (pos k *ℤ (edge.x1 -ℤ x))
    first =
        let way = natural (edge.x1 -ℤ x) (omega (arith, ints, upto)) in
        let is = way.is in
        let low = upto_size edge.y0 in
        let more = scaled way.k edge.y0 (pos k) (omega (arith, ints, low, small)) in
        let left : (edge.y0 *ℤ (edge.x1 -ℤ x)) ≡ (pos way.k *ℤ edge.y0) = ap (λ z. edge.y0 *ℤ z) is ∙ identity (times (number edge.y0) (n_of way.k)) (times (n_of way.k) (number edge.y0)) (omega arith) in
        let right : (pos k *ℤ (edge.x1 -ℤ x)) ≡ (pos way.k *ℤ pos k) = ap (λ z. pos k *ℤ z) is ∙ identity (times (n_of k) (n_of way.k)) (times (n_of way.k) (n_of k)) (omega arith) in
        omega (arith, ints, more, left, right)

    second : (edge.y1 *ℤ (x -ℤ edge.x0)) ≤ℤ (pos k *ℤ (x -ℤ edge.x0))
    second =
        let way = natural (x -ℤ edge.x0) (omega (arith, ints, from)) in
        let is = way.is in
        let low = upto_size edge.y1 in
        let more = scaled way.k edge.y1 (pos k) (omega (arith, ints, low, small)) in
        let left : (edge.y1 *ℤ (x -ℤ edge.x0)) ≡ (pos way.k *ℤ edge.y1) = ap (λ z. edge.y1 *ℤ z) is ∙ identity (times (number edge.y1) (n_of way.k)) (times (n_of way.k) (number edge.y1)) (omega arith) in
        let right : (pos k *ℤ (x -ℤ edge.x0)) ≡ (pos way.k *ℤ pos k) = ap (λ z. pos k *ℤ z) is ∙ identity (times (n_of k) (n_of way.k)) (times (n_of way.k) (n_of k)) (omega arith) in
        omega (arith, ints, more, left, right)

    all : ((pos k *ℤ (edge.x1 -ℤ x)) +ℤ (pos k *ℤ (x -ℤ edge.x0))) ≡ (pos k *ℤ (edge.x1 -ℤ edge.x0))
    all = identity (plus (times (n_of k) (minus (number edge.x1) (number x))) (times (n_of k) (minus (number x) (number edge.x0)))) (times (n_of k) (minus (number edge.x1) (number edge.x0))) (omega arith)

    once : (pos 1 *ℤ height_by_run edge x) ≡ height_by_run edge x
    once = identity (times (n_of 1) (number (height_by_run edge x))) (number (height_by_run edge x)) (omega arith)

    by : (t : Bool) → is_lower edge x 1 (pos k) ≡ t → is_lower edge x 1 (pos k) ≡ true
    by true e = e
    by false e =
        let above : (pos k *ℤ run edge) <ℤ (pos 1 *ℤ height_by_run edge x) = omega (arith, ints, e) in
        let a = first in
        let b = second in
        let c = all in
        let d = once in
        absurd (omega (arith, ints, above, a, b, c, d))

-- The edge carries into what is upto the height what it counts left of the column, less right of it, and less left of it at a
-- great height.
abbrev pub Balances : (k : ℕ) → Edge → ℤ → (n : ℕ) → ℤ → 0 < n → Type 0
Balances k edge x n y some =
    carried (is_upto x n y) edge ≡ ((counted edge (left_of k x n y some) -ℤ counted edge (right_of x n y some)) -ℤ counted edge (left_of k x 1 (pos k) one_some))

module _ (k : ℕ) (edge : Edge) (x : ℤ) (n : ℕ) (y : ℤ) (some : 0 < n) (small : size edge ≤ k) (onwards : edge.x0 <ℤ edge.x1) where
  behind_all : x <ℤ edge.x0 → Balances k edge x n y some
  behind_all early =
      let ends = ap count (upto-behind x n y (end_of edge) (omega (arith, ints, early, onwards))) in
      let starts = ap count (upto-behind x n y (start_of edge) early) in
      let left = left-none k edge x n y some small onwards (omega (arith, ints, early)) in
      let right = right-none edge x n y some early in
      let high = left-none k edge x 1 (pos k) one_some small onwards (omega (arith, ints, early)) in
      omega (arith, ints, ends, starts, left, right, high)

  at_start : x ≡ edge.x0 → Balances k edge x n y some
  at_start is =
      let ends = ap count (upto-behind x n y (end_of edge) (omega (arith, ints, is, onwards))) in
      let starts = ap count (upto-at x n y (start_of edge) (sym is)) in
      let left = left-none k edge x n y some small onwards (omega (arith, ints, is)) in
      let right = right-within edge x n y some (omega (arith, ints, is)) (omega (arith, ints, is, onwards)) in
      let high = left-none k edge x 1 (pos k) one_some small onwards (omega (arith, ints, is)) in
      let level = ap count (ap (λ z. is_lower edge z n y) is ∙ lower-start edge n y onwards) in
      omega (arith, ints, ends, starts, left, right, high, level)

  inside : edge.x0 <ℤ x → x <ℤ edge.x1 → Balances k edge x n y some
  inside from upto =
      let ends = ap count (upto-behind x n y (end_of edge) upto) in
      let starts = ap count (upto-before x n y (start_of edge) from) in
      let left = left-within k edge x n y some small onwards from (omega (arith, ints, upto)) in
      let right = right-within edge x n y some (omega (arith, ints, from)) upto in
      let high = left-within k edge x 1 (pos k) one_some small onwards from (omega (arith, ints, upto)) in
      let level = ap count (all_low k edge x small onwards (omega (arith, ints, from)) (omega (arith, ints, upto))) in
      omega (arith, ints, ends, starts, left, right, high, level)

  at_end : x ≡ edge.x1 → Balances k edge x n y some
  at_end is =
      let ends = ap count (upto-at x n y (end_of edge) (sym is)) in
      let starts = ap count (upto-before x n y (start_of edge) (omega (arith, ints, is, onwards))) in
      let left = left-within k edge x n y some small onwards (omega (arith, ints, is, onwards)) (omega (arith, ints, is)) in
      let right = right-over edge x n y some (omega (arith, ints, is)) in
      let high = left-within k edge x 1 (pos k) one_some small onwards (omega (arith, ints, is, onwards)) (omega (arith, ints, is)) in
      let low = ap count (all_low k edge x small onwards (omega (arith, ints, is, onwards)) (omega (arith, ints, is))) in
      let level = ap count (ap (λ z. is_lower edge z n y) is ∙ lower-end edge n y onwards) in
      omega (arith, ints, ends, starts, left, right, high, low, level)

  before_all : edge.x1 <ℤ x → Balances k edge x n y some
  before_all late =
      let ends = ap count (upto-before x n y (end_of edge) late) in
      let starts = ap count (upto-before x n y (start_of edge) (omega (arith, ints, late, onwards))) in
      let left = left-over k edge x n y some small onwards late in
      let right = right-over edge x n y some (omega (arith, ints, late)) in
      let high = left-over k edge x 1 (pos k) one_some small onwards late in
      omega (arith, ints, ends, starts, left, right, high)

  pub balances : Balances k edge x n y some
  balances =
      by_lt_z x edge.x0 behind_all
      (λ from. by_lt_z edge.x0 x
      (λ behind. by_lt_z x edge.x1 (λ upto. inside behind upto) (λ end. by_lt_z edge.x1 x before_all (λ upto. at_end (omega (arith, ints, end, upto)))))
      (λ upto. at_start (omega (arith, ints, from, upto))))

-- ---- edges that aren't vertical

-- the points right and left of the column, and far up on the left
abbrev pub Flows : (k : ℕ) → (RationalPoint → ℤ) → ℤ → (n : ℕ) → ℤ → 0 < n → ℤ → Type 0
Flows k wind x n y some sum = sum ≡ ((wind (left_of k x n y some) -ℤ wind (right_of x n y some)) -ℤ wind (left_of k x 1 (pos k) one_some))

edge-flow : (k : ℕ) (edge : Edge) (x : ℤ) (n : ℕ) (y : ℤ) (some : 0 < n) → size edge ≤ k → edge.x1 ≢ edge.x0 → Flows k (under edge) x n y some (carried (is_upto x n y) edge)
edge-flow k edge x n y some small slanted =
    by_lt_z edge.x0 edge.x1
    (λ onwards.
    let is = balances k edge x n y some small onwards in
    let at : edge.x0 ≤ℤ edge.x1 = omega (arith, ints, onwards) in
    let left = under-right edge (left_of k x n y some) at in
    let right = under-right edge (right_of x n y some) at in
    let high = under-right edge (left_of k x 1 (pos k) one_some) at in
    omega (arith, ints, is, left, right, high))
    (λ upto.
    let back : edge.x1 <ℤ edge.x0 = by_lt_z edge.x1 edge.x0 (λ less. less) (λ from. absurd (slanted (omega (arith, ints, from, upto)))) in
    let turned = size-reversed edge in
    let is = balances k (reversed edge) x n y some (omega (arith, turned, small)) back in
    let left = under-left edge (left_of k x n y some) upto in
    let right = under-left edge (right_of x n y some) upto in
    let high = under-left edge (left_of k x 1 (pos k) one_some) upto in
    omega (arith, ints, is, left, right, high))

flow-added : (k : ℕ) (edges : List Edge) (x : ℤ) (n : ℕ) (y : ℤ) (some : 0 < n) → sizes edges ≤ k → Every (λ edge. edge.x1 ≢ edge.x0) edges → Flows k (added edges) x n y some (flow (is_upto x n y) edges)
flow-added k [] x n y some small slanted = omega (arith, ints)
flow-added k (edge ∷ edges) x n y some small (slant, slanted) =
    let first = edge-flow k edge x n y some (omega (arith, small)) slant in
    let rest = flow-added k edges x n y some (omega (arith, small)) slanted in
    omega (arith, ints, first, rest)

pub flow-windings : (k : ℕ) (edges : List Edge) (x : ℤ) (n : ℕ) (y : ℤ) (some : 0 < n) → sizes edges ≤ k → Every (λ edge. edge.x1 ≢ edge.x0) edges → Flows k (winding edges) x n y some (flow (is_upto x n y) edges)
flow-windings k edges x n y some small slanted =
    let sum = flow-added k edges x n y some small slanted in
    let left = winding-added edges (left_of k x n y some) in
    let right = winding-added edges (right_of x n y some) in
    let high = winding-added edges (left_of k x 1 (pos k) one_some) in
    omega (arith, ints, sum, left, right, high)
