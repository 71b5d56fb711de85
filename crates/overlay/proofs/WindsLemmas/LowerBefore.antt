-- Of two edges the one that is lower over a stretch, once both are sheared widely, was lower before, if that isn't above the point
-- which is sheared to the stretch's begin.
use Rattle.std.proofs.Common.{◌≡◌, inl, inr, ℕ, ◌+◌, ◌*◌, ◌<◌, ℤ, pos, ◌+ℤ◌, ◌-ℤ◌, ◌*ℤ◌, ◌≤ℤ◌, ◌<ℤ◌, true, false, ap, sym, subst, ◌∙◌, arith}
use Rattle.std.proofs.Math.Nat.{mul-pos}
use Rattle.std.proofs.lemmas.Int.{by_lt_z, ints}
use Rattle.plane.specs.declared.edge.Edge.{Edge}
use Rattle.plane.specs.Meet.Crosses.{IsWithin}
use Rattle.plane.specs.Meet.Edges.{RationalPoint}
use Rattle.plane.specs.SweepLine.Heights.{run}
use Rattle.plane.proofs.MeetLemmas.Identities.{identity, minus, number, plus, scaled, times}
use Rattle.plane.proofs.SweepLineLemmas.Gaps.{product_above}
use Rattle.noding.proofs.SnapLemmas.Counted.{height_at, is_counted}
use Rattle.noding.proofs.SnapLemmas.Numbers.{n_of}
use Rattle.noding.proofs.SnapLemmas.Rounding.{Floor}
use Rattle.overlay.specs.Fill.Counts.{is_lower_on, is_over}
use Rattle.overlay.specs.Sides.{IsLow, sheared_edge}
use Rattle.overlay.proofs.AreaLemmas.Wide.{not-left}
use Rattle.overlay.proofs.FillLemmas.Level.{MeetOnly}
use Rattle.overlay.proofs.FillLemmas.Order.{lower-apart, lower-irrefl, lower_out, middle}
use Rattle.overlay.proofs.FillLemmas.Tests.{over_is, over_true}
use Rattle.overlay.proofs.FillLemmas.Uncrossed.{MeetOnly-exchanged, uncrossed}
use Rattle.overlay.proofs.FillLemmas.Under.{is_counted-from, lower_under, under_is}

never : true ≡ false → ⊥
never h = cc

-- ---- the point of an edge at which the sheared one is half way along a stretch

module _ (n : ℕ) (some : 0 < n) (x : ℤ) (edge : Edge) (k : ℕ) (width : run (sheared_edge n edge) ≡ pos k) (wide : 0 < k) where
  abbrev half_way : RationalPoint
  half_way = record {
    n = (2 * k) * n;
    x = (pos k *ℤ (x +ℤ (x +ℤ pos 1))) -ℤ middle x (sheared_edge n edge);
    y = pos n *ℤ middle x (sheared_edge n edge);
    positive = mul-pos {m = 2 * k} {n = n} (omega (arith, wide)) some;
  }

  -- it is as far above another edge as the middle is above that one sheared
  above-other : (other : Edge) → ((half_way.y *ℤ run other) -ℤ height_at other half_way) ≡ ((middle x (sheared_edge n edge) *ℤ run (sheared_edge n other)) -ℤ (middle x (sheared_edge n other) *ℤ pos k))
  above-other other =
      let m = number (middle x (sheared_edge n edge)) in
      let next = plus (number x) (n_of 1) in
      let at = minus (times (n_of k) (plus (number x) next)) m in
      let all = n_of ((2 * k) * n) in
      let left = plus (times (n_of n) (number other.x0)) (number other.y0) in
      let right = plus (times (n_of n) (number other.x1)) (number other.y1) in
      identity
      (minus (times (times (n_of n) m) (minus (number other.x1) (number other.x0))) (plus (times (number other.y0) (minus (times all (number other.x1)) at)) (times (number other.y1) (minus at (times all (number other.x0))))))
      (minus (times m (minus right left))
      (times (plus (plus (times (number other.y0) (minus right (number x))) (times (number other.y1) (minus (number x) left))) (plus (times (number other.y0) (minus right next)) (times (number other.y1) (minus next left)))) (n_of k)))
      (omega arith)

  -- and on the edge
  on-it : height_at edge half_way ≡ (half_way.y *ℤ run edge)
  on-it = level (half_way.y *ℤ run edge) (height_at edge half_way) (middle x (sheared_edge n edge) *ℤ run (sheared_edge n edge)) (middle x (sheared_edge n edge) *ℤ pos k) (above-other edge) (ap (λ (z : ℤ). middle x (sheared_edge n edge) *ℤ z) width)
    where
      level : (a b c d : ℤ) → (a -ℤ b) ≡ (c -ℤ d) → c ≡ d → b ≡ a
      level a b c d is same = omega (arith, ints, is, same)

-- ---- along the column that is sheared to x

module _ (n b : ℕ) (wide : b + b < n) (x0 y0 : ℤ) (near : IsWithin b y0) where
  some : 0 < n
  some = omega (arith, wide)

  -- the sheared point
  abbrev x : ℤ
  x = (pos n *ℤ x0) +ℤ y0

  -- twice the height of the column's point at x, and one
  abbrev pub top : ℤ
  top = (y0 +ℤ y0) +ℤ pos 1

  module _ (edge : Edge) (is_low : IsLow b edge) where
    abbrev slanted : Edge
    slanted = sheared_edge n edge

    -- an edge that ends at x0 isn't below the column's point there
    at-end : middle ((pos n *ℤ edge.x1) +ℤ y0) slanted
        ≡ ((run slanted *ℤ top) +ℤ (((slanted.x1 +ℤ slanted.x1) -ℤ (((pos n *ℤ edge.x1) +ℤ y0) +ℤ (((pos n *ℤ edge.x1) +ℤ y0) +ℤ pos 1))) *ℤ (pos n *ℤ run edge)))
    at-end =
        let left = plus (times (n_of n) (number edge.x0)) (number edge.y0) in
        let right = plus (times (n_of n) (number edge.x1)) (number edge.y1) in
        let here = plus (times (n_of n) (number edge.x1)) (number y0) in
        let next = plus here (n_of 1) in
        identity
        (plus (plus (times (number edge.y0) (minus right here)) (times (number edge.y1) (minus here left))) (plus (times (number edge.y0) (minus right next)) (times (number edge.y1) (minus next left))))
        (plus (times (minus right left) (plus (plus (number y0) (number y0)) (n_of 1))) (times (minus (plus right right) (plus here next)) (times (n_of n) (minus (number edge.x1) (number edge.x0)))))
        (omega arith)

    module _ (over : is_over x slanted ≡ true) where
      from : slanted.x0 ≤ℤ x
      from = (over_is x slanted over).0

      before : x <ℤ slanted.x1
      before = (over_is x slanted over).1

      -- one that is lower in the middle of the stretch was over the one from x0 on
      pub over-before : middle x slanted <ℤ (run slanted *ℤ top) → is_over x0 edge ≡ true
      over-before under =
          let start = from in
          let end = before in
          let left = not-left n b wide edge.x0 edge.y0 x0 y0 is_low.start near start in
          let right = not-left n b wide x0 y0 edge.x1 edge.y1 near is_low.end (omega (arith, ints, end)) in
          by_lt_z x0 edge.x1 (λ less. over_true x0 edge left less) (λ upto. absurd (never_end (omega (arith, ints, right, upto)) left start end under))
        where
          never_end : x0 ≡ edge.x1 → edge.x0 ≤ℤ x0 → slanted.x0 ≤ℤ x → x <ℤ slanted.x1 → middle x slanted <ℤ (run slanted *ℤ top) → ⊥
          never_end same left start end under =
              let there : x ≡ ((pos n *ℤ edge.x1) +ℤ y0) = ap (λ (z : ℤ). (pos n *ℤ z) +ℤ y0) same in
              let is : middle ((pos n *ℤ edge.x1) +ℤ y0) slanted <ℤ (run slanted *ℤ top) = subst (λ (z : ℤ). middle z slanted <ℤ (run slanted *ℤ top)) there under in
              let width = product_above (pos n) (run edge) (omega (arith, ints)) (omega (arith, ints, same, left)) in
              let more = product_above ((slanted.x1 +ℤ slanted.x1) -ℤ (((pos n *ℤ edge.x1) +ℤ y0) +ℤ (((pos n *ℤ edge.x1) +ℤ y0) +ℤ pos 1))) (pos n *ℤ run edge) (omega (arith, ints, there, end)) width in
              let level = at-end in
              omega (arith, ints, is, more, level)

      -- and so was the point in the middle
      module _ (k : ℕ) (width : run slanted ≡ pos k) (some_wide : 0 < k) (under : middle x slanted <ℤ (run slanted *ℤ top)) where
        abbrev point : RationalPoint
        point = half_way n some x edge k width some_wide

        -- the middle isn't lower than all edges
        deep : pos 0 ≤ℤ (middle x slanted +ℤ (pos (b + b) *ℤ pos k))
        deep =
            let start = from in
            let end = before in
            let low = is_low.start in
            let low_too = is_low.end in
            let least = low.from in
            let least_too = low_too.from in
            let first = product_above (edge.y0 +ℤ pos b) ((slanted.x1 -ℤ x) +ℤ (slanted.x1 -ℤ (x +ℤ pos 1))) (omega (arith, ints, least)) (omega (arith, ints, end)) in
            let second = product_above (edge.y1 +ℤ pos b) ((x -ℤ slanted.x0) +ℤ ((x +ℤ pos 1) -ℤ slanted.x0)) (omega (arith, ints, least_too)) (omega (arith, ints, start)) in
            let left = number slanted.x0 in
            let right = number slanted.x1 in
            let here = number x in
            let next = plus here (n_of 1) in
            let is = identity
            (plus (plus (plus (times (number edge.y0) (minus right here)) (times (number edge.y1) (minus here left))) (plus (times (number edge.y0) (minus right next)) (times (number edge.y1) (minus next left)))) (times (n_of (b + b)) (minus right left)))
            (plus (times (plus (number edge.y0) (n_of b)) (plus (minus right here) (minus right next))) (times (plus (number edge.y1) (n_of b)) (plus (minus here left) (minus next left))))
            (omega arith) in
            let same = ap (λ (z : ℤ). pos (b + b) *ℤ z) width in
            omega (arith, ints, first, second, is, same)

        floor : Floor point.n point.x x0
        floor =
            let split = identity (times (n_of k) (plus (plus (times (n_of n) (number x0)) (number y0)) (plus (plus (times (n_of n) (number x0)) (number y0)) (n_of 1))))
            (plus (times (n_of ((2 * k) * n)) (number x0)) (times (n_of k) (plus (plus (number y0) (number y0)) (n_of 1)))) (omega arith) in
            let next = identity (times (n_of ((2 * k) * n)) (plus (number x0) (n_of 1))) (plus (times (n_of ((2 * k) * n)) (number x0)) (times (n_of k) (n_of (2 * n)))) (omega arith) in
            let same = ap (λ (z : ℤ). z *ℤ top) width in
            let least = deep in
            let high = near.upto in
            let most = scaled k ((top +ℤ pos (b + b)) +ℤ pos 1) (pos (2 * n)) (omega (arith, ints, high, wide)) in
            let parts = identity (times (n_of k) (plus (plus (plus (plus (number y0) (number y0)) (n_of 1)) (n_of (b + b))) (n_of 1)))
            (plus (plus (times (n_of k) (plus (plus (number y0) (number y0)) (n_of 1))) (times (n_of (b + b)) (n_of k))) (n_of k)) (omega arith) in
            record {
              from = omega (arith, ints, split, same, under);
              below = omega (arith, ints, split, next, least, most, parts, some_wide);
            }

        counted : is_over x0 edge ≡ true → is_counted edge point ≡ true
        counted over_it =
            let (start, end) = over_is x0 edge over_it in
            let low = scaled point.n edge.x0 x0 start in
            let high = scaled point.n (x0 +ℤ pos 1) edge.x1 (omega (arith, ints, end)) in
            let first = floor.from in
            let last = floor.below in
            let level = on-it n some x edge k width some_wide in
            is_counted-from edge point (record {
              from = omega (arith, ints, low, first);
              before = omega (arith, ints, high, last);
              upto = omega (arith, ints, level);
            })

        -- so of two edges the one that is lower, once sheared, was lower
        pub lower-before : (other : Edge) → MeetOnly edge other → is_over x0 edge ≡ true → is_over x0 other ≡ true → is_lower_on x slanted (sheared_edge n other) ≡ true → is_lower_on x0 edge other ≡ true
        lower-before other meet over_it over_other less =
            elim (lower-apart edge other x0 meet (λ same. never (sym less ∙ ap (λ (e : Edge). is_lower_on x slanted (sheared_edge n e)) (sym same) ∙ lower-irrefl x slanted)) over_it over_other) [
              | inl lower ↦ lower
              | inr higher ↦ absurd (above (lower_under point x0 floor other edge (onwards other over_other) (onwards edge over_it) (uncrossed other edge (MeetOnly-exchanged edge other meet)) over_other (counted over_it) higher))
            ]
          where
            onwards : (e : Edge) → is_over x0 e ≡ true → e.x0 <ℤ e.x1
            onwards e over_e = let (start, end) = over_is x0 e over_e in omega (arith, ints, start, end)

            above : is_counted other point ≡ true → ⊥
            above told =
                let upto = (under_is other point told).upto in
                let is = above-other n some x edge k width some_wide other in
                let strict = lower_out x slanted (sheared_edge n other) less in
                let same = ap (λ (z : ℤ). middle x (sheared_edge n other) *ℤ z) width in
                omega (arith, ints, upto, is, strict, same)
