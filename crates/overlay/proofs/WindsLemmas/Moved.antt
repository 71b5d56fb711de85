-- A point that is moved a little up and less to the right has the same edges under it, and so has it, sheared widely, of sheared
-- edges.
use Rattle.std.proofs.Common.{◌≡◌, ◌≢◌, ℕ, ◌+◌, ◌*◌, ◌<◌, ℤ, pos, negsuc, ◌+ℤ◌, ◌-ℤ◌, ◌*ℤ◌, ◌≤ℤ◌, ◌<ℤ◌, Bool, true, false, ◌&&◌, cond, List, [], ◌∷◌, map, refl, ap₂, sym, ◌∙◌, arith}
use Rattle.std.specs.List.{All, count_by}
use Rattle.std.specs.Prelude.{int_le, int_lt}
use Rattle.std.proofs.Math.Nat.{mul-pos}
use Rattle.std.proofs.lemmas.Bool.{and_parts}
use Rattle.std.proofs.lemmas.Int.{by_lt_z, ints}
use Rattle.std.proofs.lemmas.List.Elements.{All-cons, All-head, All-nil, All-tail, All-weaker}
use Rattle.std.proofs.lemmas.List.Sums.{sum_by-cons}
use Rattle.plane.specs.declared.edge.Edge.{Edge}
use Rattle.plane.specs.Ends.{end_of, reversed, start_of}
use Rattle.plane.specs.Meet.Crosses.{IsWithin, cross}
use Rattle.plane.specs.Meet.Edges.{RationalPoint}
use Rattle.plane.proofs.MeetLemmas.Identities.{identity, minus, number, plus, scaled, times}
use Rattle.noding.specs.Windings.{IsClosed, is_under, winding}
use Rattle.noding.proofs.SnapLemmas.Numbers.{n_of, same_test}
use Rattle.overlay.specs.Sides.{sheared, sheared_edge}
use Rattle.overlay.proofs.AreaLemmas.Wide.{bound, wider}
use Rattle.overlay.proofs.FillLemmas.Premises.{All-among}

-- ---- tests

same_less : (a b c d : ℤ) → (a <ℤ b → d ≤ℤ c → ⊥) → (c <ℤ d → b ≤ℤ a → ⊥) → int_lt a b ≡ int_lt c d
same_less a b c d first second = by (int_lt a b) (int_lt c d) refl refl
  where
    by : (s t : Bool) → int_lt a b ≡ s → int_lt c d ≡ t → s ≡ t
    by true true e f = refl
    by false false e f = refl
    by true false e f = absurd (first (omega (arith, ints, e)) (omega (arith, ints, f)))
    by false true e f = absurd (second (omega (arith, ints, f)) (omega (arith, ints, e)))

and-same : (s t a b : Bool) → s ≡ t → (t ≡ true → a ≡ b) → (s && a) ≡ (t && b)
and-same true true a b is same = same refl
and-same false false a b is same = refl
and-same true false a b is same = cc
and-same false true a b is same = cc

-- ---- numbers of all edges within one bound

pub all-within : (f : Edge → ℤ) (edges : List Edge) → (b : ℕ) × All (λ edge. IsWithin b (f edge)) edges
all-within f [] = (0, All-nil (λ (edge : Edge). IsWithin 0 (f edge)))
all-within f (edge ∷ edges) =
    let (b, rest) = all-within f edges in
    let (m, first) = bound (f edge) in (
      b + m,
      All-cons (λ (e : Edge). IsWithin (b + m) (f e)) edge edges (wider m (b + m) (f edge) (omega arith) first)
          (All-weaker (λ (e : Edge). IsWithin b (f e)) (λ (e : Edge). IsWithin (b + m) (f e)) (λ e is. wider b (b + m) (f e) (omega arith) is) edges rest),
    )

-- ---- a point moved by (1, m), each over k times the denominator

module _ (k m : ℕ) (some : 1 < k) where
  pub large : 0 < k
  large = omega (arith, some)

  abbrev pub moved : RationalPoint → RationalPoint
  moved point = record {
    n = point.n * k;
    x = (pos k *ℤ point.x) +ℤ pos 1;
    y = (pos k *ℤ point.y) +ℤ pos m;
    positive = (let first = point.positive in mul-pos {m = point.n} {n = k} first large);
  }

  -- its x is no whole number
  pub moved-apart : (point : RationalPoint) (z : ℤ) → (pos (moved point).n *ℤ z) ≢ (moved point).x
  moved-apart point z same =
      let is = identity (times (n_of (point.n * k)) (number z)) (times (n_of k) (times (n_of point.n) (number z))) (omega arith) in
      by_lt_z point.x (pos point.n *ℤ z)
      (λ before. let more = scaled k (point.x +ℤ pos 1) (pos point.n *ℤ z) (omega (arith, ints, before)) in let sum = split point.x in omega (arith, ints, is, same, more, sum, some))
      (λ upto. let less = scaled k (pos point.n *ℤ z) point.x upto in omega (arith, ints, is, same, less))
    where
      split : (a : ℤ) → (pos k *ℤ (a +ℤ pos 1)) ≡ ((pos k *ℤ a) +ℤ pos k)
      split a = identity (times (n_of k) (plus (number a) (n_of 1))) (plus (times (n_of k) (number a)) (n_of k)) (omega arith)

  module _ (edge : Edge) (steep : (edge.y1 -ℤ edge.y0) ≤ℤ pos m) (short : (((edge.x1 -ℤ edge.x0) *ℤ pos m) -ℤ (edge.y1 -ℤ edge.y0)) <ℤ pos k) (point : RationalPoint) where
    n : ℕ
    n = point.n

    split : (a : ℤ) → (pos k *ℤ (a +ℤ pos 1)) ≡ ((pos k *ℤ a) +ℤ pos k)
    split a = identity (times (n_of k) (plus (number a) (n_of 1))) (plus (times (n_of k) (number a)) (n_of k)) (omega arith)

    over : (z : ℤ) → (pos (point.n * k) *ℤ z) ≡ (pos k *ℤ (pos point.n *ℤ z))
    over z = identity (times (n_of (point.n * k)) (number z)) (times (n_of k) (times (n_of point.n) (number z))) (omega arith)

    from : (z : ℤ) → int_le (pos (point.n * k) *ℤ z) ((pos k *ℤ point.x) +ℤ pos 1) ≡ int_le (pos point.n *ℤ z) point.x
    from z =
        let is = over z in
        same_test (pos (point.n * k) *ℤ z) ((pos k *ℤ point.x) +ℤ pos 1) (pos point.n *ℤ z) point.x
        (λ upto less. let more = scaled k (point.x +ℤ pos 1) (pos point.n *ℤ z) (omega (arith, ints, less)) in let sum = split point.x in omega (arith, ints, is, upto, more, sum, some))
        (λ upto less. let more = scaled k (pos point.n *ℤ z) point.x upto in omega (arith, ints, is, less, more))

    before : (z : ℤ) → int_lt ((pos k *ℤ point.x) +ℤ pos 1) (pos (point.n * k) *ℤ z) ≡ int_lt point.x (pos point.n *ℤ z)
    before z =
        let is = over z in
        same_less ((pos k *ℤ point.x) +ℤ pos 1) (pos (point.n * k) *ℤ z) point.x (pos point.n *ℤ z)
        (λ less upto. let more = scaled k (pos point.n *ℤ z) point.x upto in omega (arith, ints, is, less, more))
        (λ less upto. let more = scaled k (point.x +ℤ pos 1) (pos point.n *ℤ z) (omega (arith, ints, less)) in let sum = split point.x in omega (arith, ints, is, upto, more, sum, some))

    abbrev side : ℤ
    side = cross (edge.x1 -ℤ edge.x0) (edge.y1 -ℤ edge.y0) (point.x -ℤ (pos point.n *ℤ edge.x0)) (point.y -ℤ (pos point.n *ℤ edge.y0))

    abbrev side_moved : ℤ
    side_moved = cross (edge.x1 -ℤ edge.x0) (edge.y1 -ℤ edge.y0) (((pos k *ℤ point.x) +ℤ pos 1) -ℤ (pos (point.n * k) *ℤ edge.x0)) (((pos k *ℤ point.y) +ℤ pos m) -ℤ (pos (point.n * k) *ℤ edge.y0))

    side-is : side_moved ≡ ((pos k *ℤ side) +ℤ (((edge.x1 -ℤ edge.x0) *ℤ pos m) -ℤ (edge.y1 -ℤ edge.y0)))
    side-is =
        let dx = minus (number edge.x1) (number edge.x0) in
        let dy = minus (number edge.y1) (number edge.y0) in
        identity
        (minus (times dx (minus (plus (times (n_of k) (number point.y)) (n_of m)) (times (n_of (point.n * k)) (number edge.y0)))) (times dy (minus (plus (times (n_of k) (number point.x)) (n_of 1)) (times (n_of (point.n * k)) (number edge.x0)))))
        (plus (times (n_of k) (minus (times dx (minus (number point.y) (times (n_of point.n) (number edge.y0)))) (times dy (minus (number point.x) (times (n_of point.n) (number edge.x0)))))) (minus (times dx (n_of m)) dy))
        (omega arith)

    -- where it goes rightwards the point is on the same side
    beside : edge.x0 <ℤ edge.x1 → int_le (pos 0) side_moved ≡ int_le (pos 0) side
    beside onwards =
        let is = side-is in
        let none = identity (times (n_of k) (n_of 0)) (n_of 0) (omega arith) in
        same_test (pos 0) side_moved (pos 0) side
        (λ upto less.
        let more = scaled k side (negsuc 0) (omega (arith, ints, less)) in
        let back = identity (times (n_of k) (number (negsuc 0))) (minus (n_of 0) (n_of k)) (omega arith) in
        omega (arith, ints, is, upto, more, back, short))
        (λ upto less.
        let more = scaled k (pos 0) side upto in
        let wide = scaled m (pos 1) (edge.x1 -ℤ edge.x0) (omega (arith, ints, onwards)) in
        let one = identity (times (n_of m) (n_of 1)) (n_of m) (omega arith) in
        let turned = identity (times (n_of m) (number (edge.x1 -ℤ edge.x0))) (times (number (edge.x1 -ℤ edge.x0)) (n_of m)) (omega arith) in
        omega (arith, ints, is, less, more, none, wide, one, turned, steep))

    covers-onwards : (int_le (pos point.n *ℤ edge.x0) point.x && int_lt point.x (pos point.n *ℤ edge.x1)) ≡ true → edge.x0 <ℤ edge.x1
    covers-onwards both =
        let (first, second) = and_parts (int_le (pos point.n *ℤ edge.x0) point.x) (int_lt point.x (pos point.n *ℤ edge.x1)) both in
        by_lt_z edge.x0 edge.x1 (λ is. is) (λ upto. let back = scaled point.n edge.x1 edge.x0 upto in absurd (omega (arith, ints, first, second, back)))

    pub under-moved : is_under edge (moved point) ≡ is_under edge point
    under-moved =
        and-same (int_le (pos (point.n * k) *ℤ edge.x0) ((pos k *ℤ point.x) +ℤ pos 1) && int_lt ((pos k *ℤ point.x) +ℤ pos 1) (pos (point.n * k) *ℤ edge.x1))
        (int_le (pos point.n *ℤ edge.x0) point.x && int_lt point.x (pos point.n *ℤ edge.x1))
        (int_le (pos 0) side_moved) (int_le (pos 0) side)
        (ap₂ (λ (s t : Bool). s && t) (from edge.x0) (before edge.x1)) (λ both. beside (covers-onwards both))

-- ---- a sheared point

-- The point further along x by its y, where x is stretched n times.
abbrev pub sheared_point : ℕ → RationalPoint → RationalPoint
sheared_point n point = record { n = point.n; x = (pos n *ℤ point.x) +ℤ point.y; y = point.y; positive = point.positive }

module _ (n b : ℕ) (wide : b < n) (point : RationalPoint) (apart : (z : ℤ) → (pos point.n *ℤ z) ≢ point.x) where
  -- how far it is to the right of a point with (x, y)
  spread : (x y : ℤ) → (((pos n *ℤ point.x) +ℤ point.y) -ℤ (pos point.n *ℤ ((pos n *ℤ x) +ℤ y))) ≡ ((pos n *ℤ (point.x -ℤ (pos point.n *ℤ x))) +ℤ (point.y -ℤ (pos point.n *ℤ y)))
  spread x y =
      identity (minus (plus (times (n_of n) (number point.x)) (number point.y)) (times (n_of point.n) (plus (times (n_of n) (number x)) (number y))))
      (plus (times (n_of n) (minus (number point.x) (times (n_of point.n) (number x)))) (minus (number point.y) (times (n_of point.n) (number y))))
      (omega arith)

  module _ (x y : ℤ) (near : IsWithin b (point.y -ℤ (pos point.n *ℤ y))) where
    abbrev here : ℤ
    here = (pos n *ℤ point.x) +ℤ point.y

    abbrev there : ℤ
    there = pos point.n *ℤ ((pos n *ℤ x) +ℤ y)

    -- left of it stays left, and right of it right
    left : (pos point.n *ℤ x) ≤ℤ point.x → there <ℤ here
    left upto =
        let strict : (pos point.n *ℤ x) <ℤ point.x = by_lt_z (pos point.n *ℤ x) point.x (λ is. is) (λ back. absurd (apart x (omega (arith, ints, upto, back)))) in
        let more = scaled n (pos 1) (point.x -ℤ (pos point.n *ℤ x)) (omega (arith, ints, strict)) in
        let one = identity (times (n_of n) (n_of 1)) (n_of n) (omega arith) in
        let is = spread x y in
        let low = near.from in
        omega (arith, ints, more, one, is, low, wide)

    right : point.x <ℤ (pos point.n *ℤ x) → here <ℤ there
    right less =
        let more = scaled n (point.x -ℤ (pos point.n *ℤ x)) (negsuc 0) (omega (arith, ints, less)) in
        let one = identity (times (n_of n) (number (negsuc 0))) (minus (n_of 0) (n_of n)) (omega arith) in
        let is = spread x y in
        let high = near.upto in
        omega (arith, ints, more, one, is, high, wide)

    from-sheared : int_le there here ≡ int_le (pos point.n *ℤ x) point.x
    from-sheared =
        same_test there here (pos point.n *ℤ x) point.x
        (λ upto less. let back = right less in omega (arith, ints, upto, back))
        (λ upto less. let back = left upto in omega (arith, ints, less, back))

    before-sheared : int_lt here there ≡ int_lt point.x (pos point.n *ℤ x)
    before-sheared =
        same_less here there point.x (pos point.n *ℤ x)
        (λ less upto. let back = left upto in omega (arith, ints, less, back))
        (λ less upto. let back = right less in omega (arith, ints, upto, back))

  module _ (edge : Edge) (start : IsWithin b (point.y -ℤ (pos point.n *ℤ edge.y0))) (end : IsWithin b (point.y -ℤ (pos point.n *ℤ edge.y1))) where
    abbrev side_of : ℤ
    side_of = cross (edge.x1 -ℤ edge.x0) (edge.y1 -ℤ edge.y0) (point.x -ℤ (pos point.n *ℤ edge.x0)) (point.y -ℤ (pos point.n *ℤ edge.y0))

    abbrev side_sheared : ℤ
    side_sheared =
        cross (((pos n *ℤ edge.x1) +ℤ edge.y1) -ℤ ((pos n *ℤ edge.x0) +ℤ edge.y0)) (edge.y1 -ℤ edge.y0) (((pos n *ℤ point.x) +ℤ point.y) -ℤ (pos point.n *ℤ ((pos n *ℤ edge.x0) +ℤ edge.y0))) (point.y -ℤ (pos point.n *ℤ edge.y0))

    sheared-is : side_sheared ≡ (pos n *ℤ side_of)
    sheared-is =
        let dy = minus (number edge.y1) (number edge.y0) in
        let up = minus (number point.y) (times (n_of point.n) (number edge.y0)) in
        identity
        (minus (times (minus (plus (times (n_of n) (number edge.x1)) (number edge.y1)) (plus (times (n_of n) (number edge.x0)) (number edge.y0))) up)
        (times dy (minus (plus (times (n_of n) (number point.x)) (number point.y)) (times (n_of point.n) (plus (times (n_of n) (number edge.x0)) (number edge.y0))))))
        (times (n_of n) (minus (times (minus (number edge.x1) (number edge.x0)) up) (times dy (minus (number point.x) (times (n_of point.n) (number edge.x0))))))
        (omega arith)

    beside-sheared : int_le (pos 0) side_sheared ≡ int_le (pos 0) side_of
    beside-sheared =
        let is = sheared-is in
        same_test (pos 0) side_sheared (pos 0) side_of
        (λ upto less.
        let more = scaled n side_of (negsuc 0) (omega (arith, ints, less)) in
        let back = identity (times (n_of n) (number (negsuc 0))) (minus (n_of 0) (n_of n)) (omega arith) in
        omega (arith, ints, is, upto, more, back, wide))
        (λ upto less.
        let more = scaled n (pos 0) side_of upto in
        let none = identity (times (n_of n) (n_of 0)) (n_of 0) (omega arith) in
        omega (arith, ints, is, less, more, none))

    pub under-sheared : is_under (sheared_edge n edge) (sheared_point n point) ≡ is_under edge point
    under-sheared =
        ap₂ (λ (s t : Bool). s && t) (ap₂ (λ (s t : Bool). s && t) (from-sheared edge.x0 edge.y0 start) (before-sheared edge.x1 edge.y1 end)) beside-sheared

-- ---- so they wind alike

-- the same tests count as many
pub count_by-map : {X Y : Type 0} (f : X → Y) (passes : Y → Bool) (test : X → Bool) (xs : List X) → All (λ x. passes (f x) ≡ test x) xs → count_by passes (map f xs) ≡ count_by test xs
count_by-map f passes test [] all = refl
count_by-map f passes test (x ∷ xs) all =
    sum_by-cons (λ y. cond (passes y) 1 0) (f x) (map f xs)
    ∙ ap₂ (λ (t : Bool) (rest : ℕ). cond t 1 0 + rest) (All-head (λ x. passes (f x) ≡ test x) x xs all) (count_by-map f passes test xs (All-tail (λ x. passes (f x) ≡ test x) x xs all))
    ∙ sym (sum_by-cons (λ x. cond (test x) 1 0) x xs)

-- Where each edge, either way, is under a point as another one is under another point, they wind alike.
pub winding-map : (f : Edge → Edge) (point other : RationalPoint) (edges : List Edge) → All (λ edge. is_under (f edge) other ≡ is_under edge point) edges
    → All (λ edge. is_under (reversed (f edge)) other ≡ is_under (reversed edge) point) edges → winding (map f edges) other ≡ winding edges point
winding-map f point other edges first second =
    ap₂ (λ (m n : ℕ). pos m -ℤ pos n) (count_by-map f (λ edge. is_under edge other) (λ edge. is_under edge point) edges first)
    (count_by-map f (λ edge. is_under (reversed edge) other) (λ edge. is_under (reversed edge) point) edges second)

-- ---- closed edges

-- Closed edges are closed once they are sheared.
pub IsClosed-sheared : (n : ℕ) (edges : List Edge) → IsClosed edges → IsClosed (map (sheared_edge n) edges)
IsClosed-sheared n edges closed test =
    count_by-map (sheared_edge n) (λ edge. test (start_of edge)) (λ edge. test (sheared n (start_of edge))) edges (All-among (λ edge. test (sheared n (start_of edge)) ≡ test (sheared n (start_of edge))) edges (λ edge held. refl))
    ∙ closed (λ point. test (sheared n point))
    ∙ sym (count_by-map (sheared_edge n) (λ edge. test (end_of edge)) (λ edge. test (sheared n (end_of edge))) edges (All-among (λ edge. test (sheared n (end_of edge)) ≡ test (sheared n (end_of edge))) edges (λ edge held. refl)))
