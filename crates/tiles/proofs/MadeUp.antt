-- Windows beside each other make up one where they have as many unit squares as it.
use Rattle.std.proofs.Common.{◌≡◌, ◌≢◌, ◌⊎◌, inl, inr, ℕ, ◌+◌, ◌*◌, ◌<◌, ◌≤◌, ℤ, pos, negsuc, ◌+ℤ◌, ◌-ℤ◌, ◌*ℤ◌, ◌<ℤ◌, ◌≤ℤ◌, List, [], ◌∷◌, get_or, refl, ap, ap₂, sym, ◌∙◌, subst, arith}
use Rattle.std.proofs.lemmas.Int.{by_lt_z, ints}
use Rattle.std.proofs.lemmas.List.{get_or_default}
use Rattle.std.proofs.lemmas.List.Elements.{All-cons, All-head, All-nil, All-tail}
use Rattle.std.proofs.lemmas.List.Sums.{sum_by-cons}
use Rattle.std.specs.Int.{int_div_euclid}
use Rattle.std.specs.List.{All, AllPairs, Any, sum_by}
use Rattle.std.specs.Prelude.{unsigned_abs}
use Rattle.i_tree.proofs.RootLemmas.Joined.{Any-here, Any-there}
use Rattle.i_tree.proofs.RootLemmas.Lists.{AllPairs-head, AllPairs-tail}
use Rattle.plane.specs.Meet.Edges.{RationalPoint}
use Rattle.plane.proofs.MeetLemmas.Identities.{identity, number, scaled, times}
use Rattle.noding.proofs.SnapLemmas.Numbers.{n_of}
use Rattle.noding.proofs.SnapLemmas.Rounding.{floor_is}
use Rattle.tiles.specs.Join.{AreBeside, IsIn}
use Rattle.tiles.specs.Whole.{IsWhole, area}
use Rattle.tiles.specs.Window.{HasPoints, InWindow}
use Rattle.tiles.specs.declared.window.Window.{Window}
use Rattle.tiles.proofs.Squares.{IsFrom, spans, spans-cases, spans-total, squares-all, squares-full, total, total-add, total-none, total-product, total-same}

-- ---- numbers

-- from the one number to the other
abbrev gap : ℤ → ℤ → ℕ
gap a b = unsigned_abs (b -ℤ a)

abs-is : (z : ℤ) → pos 0 ≤ℤ z → pos (unsigned_abs z) ≡ z
abs-is (pos n) some = refl
abs-is (negsuc n) some = absurd (omega (arith, ints, some))

gap-is : (a b : ℤ) → a ≤ℤ b → (a +ℤ pos (gap a b)) ≡ b
gap-is a b order = let is = abs-is (b -ℤ a) (omega (arith, ints, order)) in omega (arith, ints, is)

one_times : (z : ℤ) → (pos 1 *ℤ z) ≡ z
one_times z = identity (times (n_of 1) (number z)) (number z) (omega arith)

-- no number is before one and from another on that isn't less
apart : (base a b c : ℤ) (i : ℕ) → base ≤ℤ a → a <ℤ b → base ≤ℤ c → b ≤ℤ c → i < gap base b → gap base c ≤ i → ⊥
apart base a b c i from some from_too order before past =
    let first = gap-is base b (omega (arith, ints, from, some)) in
    let second = gap-is base c from_too in
    omega (arith, ints, order, before, past, first, second)

-- ---- unit squares

-- The unit square so far from the lower left corner of the whole lies in the window.
record Has (whole window : Window) (i j : ℕ) : Type 0 where
  pub across : IsFrom (gap whole.left window.left) (gap whole.left window.right) i
  pub up : IsFrom (gap whole.low window.low) (gap whole.low window.high) j

-- 1 where it does, else 0
abbrev square : Window → Window → ℕ → ℕ → ℕ
square whole window i j = spans (gap whole.left window.left) (gap whole.left window.right) i * spans (gap whole.low window.low) (gap whole.low window.high) j

square-cases : (whole window : Window) (i j : ℕ) → (Has whole window i j × (square whole window i j ≡ 1)) ⊎ ((¬ (Has whole window i j)) × (square whole window i j ≡ 0))
square-cases whole window i j = by (spans-cases (gap whole.left window.left) (gap whole.left window.right) i) (spans-cases (gap whole.low window.low) (gap whole.low window.high) j)
  where
    one : ℕ
    one = spans (gap whole.left window.left) (gap whole.left window.right) i

    other : ℕ
    other = spans (gap whole.low window.low) (gap whole.low window.high) j

    by : (IsFrom (gap whole.left window.left) (gap whole.left window.right) i × (one ≡ 1)) ⊎ ((¬ (IsFrom (gap whole.left window.left) (gap whole.left window.right) i)) × (one ≡ 0))
        → (IsFrom (gap whole.low window.low) (gap whole.low window.high) j × (other ≡ 1)) ⊎ ((¬ (IsFrom (gap whole.low window.low) (gap whole.low window.high) j)) × (other ≡ 0))
        → (Has whole window i j × (square whole window i j ≡ 1)) ⊎ ((¬ (Has whole window i j)) × (square whole window i j ≡ 0))
    by (inl (across, a)) (inl (up, b)) = inl (record { across = across; up = up }, ap₂ (λ (m n : ℕ). m * n) a b)
    by (inr (out, a)) second = inr ((λ has. out has.across), ap (λ (m : ℕ). m * other) a ∙ (omega arith))
    by first (inr (out, b)) = inr ((λ has. out has.up), ap (λ (n : ℕ). one * n) b ∙ (omega arith))

module _ (whole : Window) where
  -- in how many windows the unit square lies
  abbrev counts : List Window → ℕ → ℕ → ℕ
  counts [] i j = 0
  counts (window ∷ windows) i j = square whole window i j + counts windows i j

  abbrev m : ℕ
  m = gap whole.left whole.right

  abbrev n : ℕ
  n = gap whole.low whole.high

  -- a window in it has its unit squares
  area-total : (window : Window) → IsIn whole window → HasPoints window → area window ≡ total m (λ i. total n (λ j. square whole window i j))
  area-total window is some =
      let p = gap whole.left window.left in
      let q = gap whole.left window.right in
      let r = gap whole.low window.low in
      let s = gap whole.low window.high in
      let left = is.left in
      let right = is.right in
      let low = is.low in
      let high = is.high in
      let wide = some.wide in
      let tall = some.tall in
      let p_is = gap-is whole.left window.left left in
      let q_is = gap-is whole.left window.right (omega (arith, ints, left, wide)) in
      let r_is = gap-is whole.low window.low low in
      let s_is = gap-is whole.low window.high (omega (arith, ints, low, tall)) in
      let m_is = gap-is whole.left whole.right (omega (arith, ints, left, wide, right)) in
      let n_is = gap-is whole.low whole.high (omega (arith, ints, low, tall, high)) in
      let width = gap-is window.left window.right (omega (arith, ints, wide)) in
      let height = gap-is window.low window.high (omega (arith, ints, tall)) in
      let across = spans-total p q m (omega (arith, ints, p_is, q_is, wide)) (omega (arith, ints, q_is, m_is, right)) in
      let up = spans-total r s n (omega (arith, ints, r_is, s_is, tall)) (omega (arith, ints, s_is, n_is, high)) in
      let a : gap window.left window.right ≡ total m (λ i. spans p q i) = omega (arith, ints, across, p_is, q_is, width) in
      let b : gap window.low window.high ≡ total n (λ j. spans r s j) = omega (arith, ints, up, r_is, s_is, height) in
      ap₂ (λ (x y : ℕ). x * y) a b ∙ sym (total-product m n (λ i. spans p q i) (λ j. spans r s j))

  -- all windows have the squares that lie in one, each as often as it does
  areas-total : (windows : List Window) → All (IsIn whole) windows → All HasPoints windows → sum_by area windows ≡ total m (λ i. total n (λ j. counts windows i j))
  areas-total [] all some = sym (total-same m (λ i. total n (λ j. 0)) (λ i. 0) (λ i _. total-none n) ∙ total-none m)
  areas-total (window ∷ windows) all some =
      let first = area-total window (All-head (IsIn whole) window windows all) (All-head HasPoints window windows some) in
      let rest = areas-total windows (All-tail (IsIn whole) window windows all) (All-tail HasPoints window windows some) in
      sum_by-cons area window windows
      ∙ ap₂ (λ (x y : ℕ). x + y) first rest
      ∙ sym (total-add m (λ i. total n (λ j. square whole window i j)) (λ i. total n (λ j. counts windows i j)))
      ∙ sym (total-same m (λ i. total n (λ j. square whole window i j + counts windows i j)) (λ i. total n (λ j. square whole window i j) + total n (λ j. counts windows i j))
      (λ i _. total-add n (λ j. square whole window i j) (λ j. counts windows i j)))

  -- no square lies in two windows beside each other
  beside-not : (one other : Window) (i j : ℕ) → IsIn whole one → IsIn whole other → HasPoints one → HasPoints other → AreBeside one other → Has whole one i j → ¬ (Has whole other i j)
  beside-not one other i j in_one in_other some_one some_other (inl is) first second =
      apart whole.left one.left one.right other.left i in_one.left some_one.wide in_other.left is first.across.before second.across.from
  beside-not one other i j in_one in_other some_one some_other (inr (inl is)) first second =
      apart whole.left other.left other.right one.left i in_other.left some_other.wide in_one.left is second.across.before first.across.from
  beside-not one other i j in_one in_other some_one some_other (inr (inr (inl is))) first second =
      apart whole.low one.low one.high other.low j in_one.low some_one.tall in_other.low is first.up.before second.up.from
  beside-not one other i j in_one in_other some_one some_other (inr (inr (inr is))) first second =
      apart whole.low other.low other.high one.low j in_other.low some_other.tall in_one.low is second.up.before first.up.from

  module _ (i j : ℕ) where
    counts-none : (window : Window) (windows : List Window) → IsIn whole window → HasPoints window → Has whole window i j → All (IsIn whole) windows → All HasPoints windows → All (AreBeside window) windows → counts windows i j ≡ 0
    counts-none window [] is points has all some beside = refl
    counts-none window (next ∷ windows) is points has all some beside =
        let rest = counts-none window windows is points has (All-tail (IsIn whole) next windows all) (All-tail HasPoints next windows some) (All-tail (AreBeside window) next windows beside) in
        elim (square-cases whole next i j) [
          | inl (too, _) ↦ absurd (beside-not window next i j is (All-head (IsIn whole) next windows all) points (All-head HasPoints next windows some) (All-head (AreBeside window) next windows beside) has too)
          | inr (_, none) ↦ ap₂ (λ (x y : ℕ). x + y) none rest
        ]

    counts-once : (windows : List Window) → All (IsIn whole) windows → All HasPoints windows → AllPairs AreBeside windows → counts windows i j ≤ 1
    counts-once [] all some beside = omega arith
    counts-once (window ∷ windows) all some beside =
        let all_rest = All-tail (IsIn whole) window windows all in
        let some_rest = All-tail HasPoints window windows some in
        elim (square-cases whole window i j) [
          | inl (has, one) ↦ (
              let none = counts-none window windows (All-head (IsIn whole) window windows all) (All-head HasPoints window windows some) has all_rest some_rest (AllPairs-head AreBeside window windows beside) in
              let is : counts (window ∷ windows) i j ≡ 1 = ap₂ (λ (x y : ℕ). x + y) one none in
              omega (arith, is))
          | inr (_, none) ↦ (
              let rest = counts-once windows all_rest some_rest (AllPairs-tail AreBeside window windows beside) in
              let is : counts (window ∷ windows) i j ≡ 0 + counts windows i j = ap (λ (x : ℕ). x + counts windows i j) none in
              omega (arith, is, rest))
        ]

    -- a square that counts lies in some window
    counts-some : (windows : List Window) → counts windows i j ≢ 0 → Any (λ window. Has whole window i j) windows
    counts-some [] some = absurd (some refl)
    counts-some (window ∷ windows) some = elim (square-cases whole window i j) [
      | inl (has, _) ↦ Any-here (λ (w : Window). Has whole w i j) window windows has
      | inr (_, none) ↦ Any-there (λ (w : Window). Has whole w i j) window windows (counts-some windows (λ zero. some (ap₂ (λ (x y : ℕ). x + y) none zero)))
    ]

    -- and one that doesn't lies in none
    counts-not : (windows : List Window) → counts windows i j ≡ 0 → All (λ window. ¬ (Has whole window i j)) windows
    counts-not [] none = All-nil (λ (w : Window). ¬ (Has whole w i j))
    counts-not (window ∷ windows) none = elim (square-cases whole window i j) [
      | inl (_, one) ↦ (
          let is : counts (window ∷ windows) i j ≡ 1 + counts windows i j = ap (λ (x : ℕ). x + counts windows i j) one in
          absurd (omega (arith, is, none)))
      | inr (out, zeros) ↦ (
          let is : counts (window ∷ windows) i j ≡ 0 + counts windows i j = ap (λ (x : ℕ). x + counts windows i j) zeros in
          All-cons (λ (w : Window). ¬ (Has whole w i j)) window windows out (counts-not windows (omega (arith, is, none))))
    ]

-- ---- points and squares

-- a point of the whole lies in a square, and in each window that has this
record InSquare (whole : Window) (point : RationalPoint) (i j : ℕ) : Type 0 where
  pub from_left : (pos point.n *ℤ (whole.left +ℤ pos i)) ≤ℤ point.x
  pub before_right : point.x <ℤ (pos point.n *ℤ ((whole.left +ℤ pos i) +ℤ pos 1))
  pub from_low : (pos point.n *ℤ (whole.low +ℤ pos j)) ≤ℤ point.y
  pub below_high : point.y <ℤ (pos point.n *ℤ ((whole.low +ℤ pos j) +ℤ pos 1))

-- a number between two whole ones, rounded down
floor-within : (k : ℕ) (low high z : ℤ) → 0 < k → (pos k *ℤ low) ≤ℤ z → z <ℤ (pos k *ℤ high)
    → (i : ℕ) × (i < gap low high) × ((pos k *ℤ (low +ℤ pos i)) ≤ℤ z) × (z <ℤ (pos k *ℤ ((low +ℤ pos i) +ℤ pos 1)))
floor-within k low high z some from before =
    let q = int_div_euclid z (pos k) in
    let floor = floor_is k z some in
    let below = floor.below in
    let above = floor.from in
    let over : low ≤ℤ q = by_lt_z q low (λ less. (let more = scaled k (q +ℤ pos 1) low (omega (arith, ints, less)) in absurd (omega (arith, ints, below, more, from)))) (λ is. is) in
    let under : q <ℤ high = by_lt_z q high (λ is. is) (λ upto. (let more = scaled k high q upto in absurd (omega (arith, ints, above, more, before)))) in
    let is = gap-is low q over in
    let size = gap-is low high (omega (arith, ints, over, under)) in (
      gap low q,
      omega (arith, ints, is, size, under),
      subst (λ (w : ℤ). (pos k *ℤ w) ≤ℤ z) (sym is) above,
      subst (λ (w : ℤ). z <ℤ (pos k *ℤ (w +ℤ pos 1))) (sym is) below,
    )

module _ (whole : Window) where
  in-square : (point : RationalPoint) → InWindow whole point → (i : ℕ) × (j : ℕ) × (i < gap whole.left whole.right) × (j < gap whole.low whole.high) × InSquare whole point i j
  in-square point inside =
      let (i, across, first, second) = floor-within point.n whole.left whole.right point.x point.positive inside.from_left inside.before_right in
      let (j, up, third, fourth) = floor-within point.n whole.low whole.high point.y point.positive inside.from_low inside.below_high in
      (i, j, across, up, record { from_left = first; before_right = second; from_low = third; below_high = fourth })

  square-in : (window : Window) (point : RationalPoint) (i j : ℕ) → IsIn whole window → HasPoints window → InSquare whole point i j → Has whole window i j → InWindow window point
  square-in window point i j is some at has =
      let left = is.left in
      let low = is.low in
      let wide = some.wide in
      let tall = some.tall in
      let p = gap-is whole.left window.left left in
      let q = gap-is whole.left window.right (omega (arith, ints, left, wide)) in
      let r = gap-is whole.low window.low low in
      let s = gap-is whole.low window.high (omega (arith, ints, low, tall)) in
      let a = has.across.from in
      let b = has.across.before in
      let c = has.up.from in
      let d = has.up.before in
      let first = scaled point.n window.left (whole.left +ℤ pos i) (omega (arith, ints, p, a)) in
      let second = scaled point.n ((whole.left +ℤ pos i) +ℤ pos 1) window.right (omega (arith, ints, q, b)) in
      let third = scaled point.n window.low (whole.low +ℤ pos j) (omega (arith, ints, r, c)) in
      let fourth = scaled point.n ((whole.low +ℤ pos j) +ℤ pos 1) window.high (omega (arith, ints, s, d)) in
      let e = at.from_left in
      let f = at.before_right in
      let g = at.from_low in
      let h = at.below_high in record {
        from_left = omega (arith, ints, first, e);
        before_right = omega (arith, ints, second, f);
        from_low = omega (arith, ints, third, g);
        below_high = omega (arith, ints, fourth, h);
      }

-- a whole point
abbrev corner : ℤ → ℤ → RationalPoint
corner x y = record { n = 1; x = x; y = y; positive = omega arith }

-- lies in a window as its numbers do
corner-in : (window : Window) (x y : ℤ) → window.left ≤ℤ x → x <ℤ window.right → window.low ≤ℤ y → y <ℤ window.high → InWindow window (corner x y)
corner-in window x y left right low high =
    let a = one_times window.left in
    let b = one_times window.right in
    let c = one_times window.low in
    let d = one_times window.high in record {
      from_left = omega (arith, ints, a, left);
      before_right = omega (arith, ints, b, right);
      from_low = omega (arith, ints, c, low);
      below_high = omega (arith, ints, d, high);
    }

record HasCorner (window : Window) (x y : ℤ) : Type 0 where
  pub left : window.left ≤ℤ x
  pub right : x <ℤ window.right
  pub low : window.low ≤ℤ y
  pub high : y <ℤ window.high

corner-of : (window : Window) (x y : ℤ) → InWindow window (corner x y) → HasCorner window x y
corner-of window x y inside =
    let a = one_times window.left in
    let b = one_times window.right in
    let c = one_times window.low in
    let d = one_times window.high in
    let e = inside.from_left in
    let f = inside.before_right in
    let g = inside.from_low in
    let h = inside.below_high in record {
      left = omega (arith, ints, a, e);
      right = omega (arith, ints, b, f);
      low = omega (arith, ints, c, g);
      high = omega (arith, ints, d, h);
    }

-- the lower left corner of a square lies in no window that hasn't the square
corner-has : (whole window : Window) (i j : ℕ) → IsIn whole window → HasPoints window → InWindow window (corner (whole.left +ℤ pos i) (whole.low +ℤ pos j)) → Has whole window i j
corner-has whole window i j is some inside =
    let at = corner-of window (whole.left +ℤ pos i) (whole.low +ℤ pos j) inside in
    let left = is.left in
    let low = is.low in
    let wide = some.wide in
    let tall = some.tall in
    let p = gap-is whole.left window.left left in
    let q = gap-is whole.left window.right (omega (arith, ints, left, wide)) in
    let r = gap-is whole.low window.low low in
    let s = gap-is whole.low window.high (omega (arith, ints, low, tall)) in
    let a = at.left in
    let b = at.right in
    let c = at.low in
    let d = at.high in record {
      across = record { from = omega (arith, ints, p, a); before = omega (arith, ints, q, b) };
      up = record { from = omega (arith, ints, r, c); before = omega (arith, ints, s, d) };
    }

-- what has all points of a window has it in it
points-in : (outer window : Window) → HasPoints window → ((point : RationalPoint) → InWindow window point → InWindow outer point) → IsIn outer window
points-in outer window some has =
    let wide = some.wide in
    let tall = some.tall in
    let first = corner-of outer window.left window.low (has (corner window.left window.low) (corner-in window window.left window.low (omega (arith, ints)) wide (omega (arith, ints)) tall)) in
    let last = corner-of outer (window.right -ℤ pos 1) (window.high -ℤ pos 1) (has (corner (window.right -ℤ pos 1) (window.high -ℤ pos 1))
    (corner-in window (window.right -ℤ pos 1) (window.high -ℤ pos 1) (omega (arith, ints, wide)) (omega (arith, ints)) (omega (arith, ints, tall)) (omega (arith, ints)))) in
    let right = last.right in
    let high = last.high in
    record { left = first.left; low = first.low; right = omega (arith, ints, right); high = omega (arith, ints, high) }

in-outer : (outer inner : Window) (point : RationalPoint) → IsIn outer inner → InWindow inner point → InWindow outer point
in-outer outer inner point inside is =
    let left = scaled point.n outer.left inner.left inside.left in
    let right = scaled point.n inner.right outer.right inside.right in
    let low = scaled point.n outer.low inner.low inside.low in
    let high = scaled point.n inner.high outer.high inside.high in
    let a = is.from_left in
    let b = is.before_right in
    let c = is.from_low in
    let d = is.below_high in record {
      from_left = omega (arith, ints, left, a);
      before_right = omega (arith, ints, right, b);
      from_low = omega (arith, ints, low, c);
      below_high = omega (arith, ints, high, d);
    }

-- ---- what windows make up

module _ (windows : List Window) (whole : Window) (points : HasPoints whole) (all : All (IsIn whole) windows) (some : All HasPoints windows) (beside : AllPairs AreBeside windows) where
  -- as many squares as the whole has: each of its points lies in one
  pub whole-made : sum_by area windows ≡ area whole → IsWhole whole windows
  whole-made same = record { some = points; same = λ point. (there point, back point) }
    where
      there : (point : RationalPoint) → InWindow whole point → Any (λ window. InWindow window point) windows
      there point inside =
          let (i, j, across, up, at) = in-square whole point inside in
          let one = squares-full (gap whole.left whole.right) (gap whole.low whole.high) (counts whole windows) (λ i' j' _ _. counts-once whole i' j' windows all some beside)
          (sym (areas-total whole windows all some) ∙ same) i j across up in
          let (k, window, within, is, has) = counts-some whole i j windows (λ none. (omega (arith, one, none))) in (
            k,
            window,
            within,
            is,
            square-in whole window point i j (subst (IsIn whole) is (all k window within)) (subst HasPoints is (some k window within)) at has,
          )

      back : (point : RationalPoint) → Any (λ window. InWindow window point) windows → InWindow whole point
      back point (k, window, within, is, inside) = in-outer whole window point (subst (IsIn whole) is (all k window within)) inside

  -- fewer, or more: there is no such window
  pub whole-none : ((outer : Window) → All (IsIn outer) windows → IsIn outer whole) → sum_by area windows ≢ area whole → (outer : Window) → ¬ (IsWhole outer windows)
  whole-none least differs outer is =
      differs (areas-total whole windows all some ∙ squares-all (gap whole.left whole.right) (gap whole.low whole.high) (counts whole windows) each)
    where
      contains : All (IsIn outer) windows
      contains k window within = points-in outer (get_or windows k window) (some k window within) (λ point inside. (is.same point).1 (k, get_or windows k window, within, get_or_default windows k (get_or windows k window) window within, inside))

      each : (i j : ℕ) → i < gap whole.left whole.right → j < gap whole.low whole.high → counts whole windows i j ≡ 1
      each i j across up =
          let wide = points.wide in
          let tall = points.tall in
          let m_is = gap-is whole.left whole.right (omega (arith, ints, wide)) in
          let n_is = gap-is whole.low whole.high (omega (arith, ints, tall)) in
          let at = corner (whole.left +ℤ pos i) (whole.low +ℤ pos j) in
          let inside = corner-in whole (whole.left +ℤ pos i) (whole.low +ℤ pos j) (omega (arith, ints)) (omega (arith, ints, across, m_is)) (omega (arith, ints)) (omega (arith, ints, up, n_is)) in
          let (k, window, within, same, has) = (is.same at).0 (in-outer outer whole at (least outer contains) inside) in
          let square = corner-has whole window i j (subst (IsIn whole) same (all k window within)) (subst HasPoints same (some k window within)) has in
          let once = counts-once whole i j windows all some beside in
          let one : counts whole windows i j ≢ 0 = λ none. counts-not whole i j windows none k window within (subst (λ (w : Window). Has whole w i j) (sym same) square) in
          omega (arith, once, one)

-- none make up nothing
pub none-whole : (outer : Window) → ¬ (IsWhole outer [])
none-whole outer is =
    let wide = is.some.wide in
    let tall = is.some.tall in
    let (k, window, within, _, _) = (is.same (corner outer.left outer.low)).0 (corner-in outer outer.left outer.low (omega (arith, ints)) wide (omega (arith, ints)) tall) in
    omega (arith, within)
