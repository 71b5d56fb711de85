-- An edge and a half point in its box: how often it winds around, and whether it goes through, by the side on which the point lies.
use Rattle.std.proofs.Common.{Bool, true, false, cond, ◌&&◌, ◌≡◌, ◌∙◌, inl, inr, [], ◌∷◌, ℕ, ◌*◌, ℤ, pos, ◌+ℤ◌, ◌-ℤ◌, ◌*ℤ◌, ◌<ℤ◌, ◌≤ℤ◌, refl, sym, ap, arith}
use Rattle.std.specs.Prelude.{int_le, int_lt}
use Rattle.std.specs.Int.{int_max, int_min}
use Rattle.std.proofs.lemmas.Int.{by_lt_z, clamps, ints}
use Rattle.plane.specs.declared.edge.Edge.{Edge}
use Rattle.plane.specs.declared.pairs.items.Bounds.{Bounds}
use Rattle.plane.specs.declared.point.Point.{Point}
use Rattle.plane.specs.Meet.Crosses.{cross}
use Rattle.plane.specs.Meet.Edges.{RationalPoint}
use Rattle.plane.specs.Meet.Kinds.{HasPoint}
use Rattle.plane.proofs.MeetLemmas.Along.{meet-of_along}
use Rattle.plane.proofs.MeetLemmas.Identities.{Term, identity, minus, number, plus, scaled, times}
use Rattle.plane.proofs.MeetLemmas.Kinds.{dot, has_point-of_meet}
use Rattle.plane.specs.Ends.{edge_between, reversed}
use Rattle.noding.specs.Windings.{count}
use Rattle.noding.proofs.SnapLemmas.Counted.{counted, covers, is_low, is_low-left, under}
use Rattle.noding.proofs.SnapLemmas.Numbers.{n_of}
use Rattle.noding.proofs.SnapLemmas.Windings.{back, winding-added}
use Rattle.layers.specs.Around.{IsOn, halved}
use Rattle.layers.specs.Boxed.{box_at, grown}
use Rattle.layers.specs.Boxes.{IsInBounds}
use Rattle.layers.specs.Chains.{IsAround, extent_at, is_above, is_apart, is_under_side, side_of, steps_over}
use Rattle.layers.specs.declared.around.half_point.HalfPoint.{HalfPoint}
use Rattle.layers.proofs.BoxLemmas.{IsInBounds-grown, IsInBounds-itself}
use Rattle.layers.proofs.AroundLemmas.Apart.{IsInExtent-itself, above-off, above-turns, apart-off, apart-turns, low-in, not_above, not_apart}
use Rattle.layers.proofs.AroundLemmas.Lists.{Any-cons_cases, Any-head, Any-none}
use Rattle.layers.proofs.AroundLemmas.Sides.{covers-steps, le-false, le-true, on-line}

-- ---- sides

-- the cross product of the edge's way and that from its start to the point
abbrev turn : Edge → RationalPoint → ℤ
turn edge point = cross (edge.x1 -ℤ edge.x0) (edge.y1 -ℤ edge.y0) (point.x -ℤ (pos point.n *ℤ edge.x0)) (point.y -ℤ (pos point.n *ℤ edge.y0))

abbrev turn_term : Edge → ℕ → ℤ → ℤ → Term
turn_term edge n x y =
    minus (times (minus (number edge.x1) (number edge.x0)) (minus (number y) (times (n_of n) (number edge.y0)))) (times (minus (number edge.y1) (number edge.y0)) (minus (number x) (times (n_of n) (number edge.x0))))

-- that of the edge the other way round
turn-reversed : (edge : Edge) (point : RationalPoint) → turn (reversed edge) point ≡ (pos 0 -ℤ turn edge point)
turn-reversed edge point = identity (turn_term (reversed edge) point.n point.x point.y) (minus (n_of 0) (turn_term edge point.n point.x point.y)) (omega arith)

-- the side is twice that
side-turn : (from to : Point) (point : HalfPoint) → side_of from to point ≡ (pos 2 *ℤ turn (edge_between from to) (halved point))
side-turn from to point =
    let two : ℤ → Term = λ z. times (n_of 2) (number z) in
    identity (minus (times (minus (two to.x) (two from.x)) (minus (number point.twice_y) (two from.y))) (times (minus (two to.y) (two from.y)) (minus (number point.twice_x) (two from.x))))
    (times (n_of 2) (turn_term (edge_between from to) 2 point.twice_x point.twice_y)) (omega arith)

module _ (from to : Point) (point : HalfPoint) where
  abbrev edge : Edge
  edge = edge_between from to

  abbrev at : RationalPoint
  at = halved point

  -- ---- how often

  -- what doesn't go rightwards covers nothing
  covers-back : (e : Edge) → e.x1 ≤ℤ e.x0 → covers e at ≡ false
  covers-back e onwards =
      let further = scaled 2 e.x1 e.x0 onwards in
      by_lt_z point.twice_x (pos 2 *ℤ e.x0)
      (λ early. first (int_lt point.twice_x (pos 2 *ℤ e.x1)) (le-false (pos 2 *ℤ e.x0) point.twice_x early))
      (λ late. second (int_le (pos 2 *ℤ e.x0) point.twice_x) (grind (arith, ints, further, late)))
    where
      first : (t : Bool) → int_le (pos 2 *ℤ e.x0) point.twice_x ≡ false → (int_le (pos 2 *ℤ e.x0) point.twice_x && t) ≡ false
      first t is = ap (λ s. s && t) is

      second : (s : Bool) → int_lt point.twice_x (pos 2 *ℤ e.x1) ≡ false → (s && int_lt point.twice_x (pos 2 *ℤ e.x1)) ≡ false
      second true is = is
      second false is = refl

  -- where the edge is low, it is counted by what it covers
  counted-low : (e : Edge) → pos 0 ≤ℤ turn e at → counted e at ≡ count (covers e at)
  counted-low e low = by (covers e at) (is_low e at) (sym (is_low-left e at) ∙ le-true (pos 0) (turn e at) low)
    where
      by : (s t : Bool) → t ≡ true → count (s && t) ≡ count s
      by true true is = refl
      by false t is = refl
      by true false is = cc

  -- where it isn't, it isn't
  counted-high : (e : Edge) → turn e at <ℤ pos 0 → counted e at ≡ pos 0
  counted-high e high = by (covers e at) (is_low e at) (sym (is_low-left e at) ∙ le-false (pos 0) (turn e at) high)
    where
      by : (s t : Bool) → t ≡ false → count (s && t) ≡ pos 0
      by true false is = refl
      by false t is = refl
      by true true is = cc

  pub under-side : is_under_side from to (side_of from to point) ≡ true → under edge at ≡ steps_over from to point
  under-side is =
      let twice = side-turn from to point in
      let steps = covers-steps edge at in
      by_lt_z from.x to.x
      (λ right.
      let low : pos 0 ≤ℤ turn edge at = by-right right is twice in
      let one = counted-low edge low in
      let none = back (reversed edge) at (omega (arith, ints, right)) in
      let nothing = ap count (covers-back (reversed edge) (omega (arith, ints, right))) in
      omega (arith, ints, steps, one, none, nothing))
      (λ left.
      let low : pos 0 ≤ℤ turn (reversed edge) at = by-left left is twice in
      let other = counted-low (reversed edge) low in
      let none = back edge at left in
      let nothing = ap count (covers-back edge left) in
      omega (arith, ints, steps, other, none, nothing))
    where
      by-right : from.x <ℤ to.x → is_under_side from to (side_of from to point) ≡ true → side_of from to point ≡ (pos 2 *ℤ turn edge at) → pos 0 ≤ℤ turn edge at
      by-right right is twice =
          let there : int_le (pos 0) (side_of from to point) ≡ true = test (int_lt from.x to.x) (grind (arith, ints, right)) is in
          omega (arith, ints, there, twice)
        where
          test : (t : Bool) → t ≡ true → cond t (int_le (pos 0) (side_of from to point)) (int_le (side_of from to point) (pos 0)) ≡ true → int_le (pos 0) (side_of from to point) ≡ true
          test true e f = f
          test false e f = cc

      by-left : to.x ≤ℤ from.x → is_under_side from to (side_of from to point) ≡ true → side_of from to point ≡ (pos 2 *ℤ turn edge at) → pos 0 ≤ℤ turn (reversed edge) at
      by-left left is twice =
          let there : int_le (side_of from to point) (pos 0) ≡ true = test (int_lt from.x to.x) (grind (arith, ints, left)) is in
          let turned = turn-reversed edge at in
          omega (arith, ints, there, twice, turned)
        where
          test : (t : Bool) → t ≡ false → cond t (int_le (pos 0) (side_of from to point)) (int_le (side_of from to point) (pos 0)) ≡ true → int_le (side_of from to point) (pos 0) ≡ true
          test false e f = f
          test true e f = cc

  pub over-side : is_under_side from to (side_of from to point) ≡ false → under edge at ≡ pos 0
  over-side is =
      let twice = side-turn from to point in
      by_lt_z from.x to.x
      (λ right.
      let high : turn edge at <ℤ pos 0 = by-right right is twice in
      let one = counted-high edge high in
      let none = back (reversed edge) at (omega (arith, ints, right)) in
      omega (arith, ints, one, none))
      (λ left.
      let high : turn (reversed edge) at <ℤ pos 0 = by-left left is twice in
      let other = counted-high (reversed edge) high in
      let none = back edge at left in
      omega (arith, ints, other, none))
    where
      by-right : from.x <ℤ to.x → is_under_side from to (side_of from to point) ≡ false → side_of from to point ≡ (pos 2 *ℤ turn edge at) → turn edge at <ℤ pos 0
      by-right right is twice =
          let there : int_le (pos 0) (side_of from to point) ≡ false = test (int_lt from.x to.x) (grind (arith, ints, right)) is in
          omega (arith, ints, there, twice)
        where
          test : (t : Bool) → t ≡ true → cond t (int_le (pos 0) (side_of from to point)) (int_le (side_of from to point) (pos 0)) ≡ false → int_le (pos 0) (side_of from to point) ≡ false
          test true e f = f
          test false e f = cc

      by-left : to.x ≤ℤ from.x → is_under_side from to (side_of from to point) ≡ false → side_of from to point ≡ (pos 2 *ℤ turn edge at) → turn (reversed edge) at <ℤ pos 0
      by-left left is twice =
          let there : int_le (side_of from to point) (pos 0) ≡ false = test (int_lt from.x to.x) (grind (arith, ints, left)) is in
          let turned = turn-reversed edge at in
          omega (arith, ints, there, twice, turned)
        where
          test : (t : Bool) → t ≡ false → cond t (int_le (pos 0) (side_of from to point)) (int_le (side_of from to point) (pos 0)) ≡ false → int_le (side_of from to point) (pos 0) ≡ false
          test false e f = f
          test true e f = cc

  -- ---- whether it goes through

  -- what the edge goes through lies on neither side
  pub side-none : IsOn edge at → side_of from to point ≡ pos 0
  side-none on =
      let none = on-line edge at on in
      let twice = side-turn from to point in
      omega (arith, ints, none, twice)

  -- the edge with twice the coordinates
  abbrev doubled : Edge
  doubled = record { x0 = pos 2 *ℤ from.x; y0 = pos 2 *ℤ from.y; x1 = pos 2 *ℤ to.x; y1 = pos 2 *ℤ to.y }

  -- a point of that edge, by half its coordinates
  half_share : (n a : ℕ) (w start end : ℤ) → w ≡ ((pos n *ℤ (pos 2 *ℤ start)) +ℤ (pos a *ℤ ((pos 2 *ℤ end) -ℤ (pos 2 *ℤ start)))) → w ≡ ((pos (2 * n) *ℤ start) +ℤ (pos (2 * a) *ℤ (end -ℤ start)))
  half_share n a w start end is = is ∙ identity
      (plus (times (n_of n) (times (n_of 2) (number start))) (times (n_of a) (minus (times (n_of 2) (number end)) (times (n_of 2) (number start)))))
      (plus (times (n_of (2 * n)) (number start)) (times (n_of (2 * a)) (minus (number end) (number start)))) (omega arith)

  half_same : (n : ℕ) (w z : ℤ) → w ≡ (pos n *ℤ z) → (pos (2 * n) *ℤ z) ≡ (pos 2 *ℤ w)
  half_same n w z is = identity (times (n_of (2 * n)) (number z)) (times (n_of 2) (times (n_of n) (number z))) (omega arith) ∙ sym (ap (λ k. pos 2 *ℤ k) is)

  on-half : HasPoint doubled point.twice_x point.twice_y → IsOn edge at
  on-half (whole, (a, share), is) = (
    record { n = 2 * whole.n; x = whole.x; y = whole.y; positive = let some = whole.positive in omega (arith, some) },
    (
      2 * a,
      record {
        share = let upto = share.share in omega (arith, upto);
        x = half_share whole.n a whole.x from.x to.x share.x;
        y = half_share whole.n a whole.y from.y to.y share.y;
      },
    ),
    record { x = half_same whole.n whole.x point.twice_x is.x_is; y = half_same whole.n whole.y point.twice_y is.y_is },
  )

  -- a point in the box of the edge, on neither side
  pub on-side : side_of from to point ≡ pos 0
      → int_min (pos 2 *ℤ from.x) (pos 2 *ℤ to.x) ≤ℤ point.twice_x → point.twice_x ≤ℤ int_max (pos 2 *ℤ from.x) (pos 2 *ℤ to.x)
      → int_min (pos 2 *ℤ from.y) (pos 2 *ℤ to.y) ≤ℤ point.twice_y → point.twice_y ≤ℤ int_max (pos 2 *ℤ from.y) (pos 2 *ℤ to.y) → IsOn edge at
  on-side none left right low high =
      on-half (has_point-of_meet doubled point.twice_x point.twice_y (meet-of_along doubled (dot point.twice_x point.twice_y) (record {
        parallel = still doubled;
        of_one = still_too doubled;
        of_other = turned;
        boxes = record {
          x = record { first = omega (arith, ints, clamps, left, right); second = omega (arith, ints, clamps, left, right) };
          y = record { first = omega (arith, ints, clamps, low, high); second = omega (arith, ints, clamps, low, high) };
        };
      })))
    where
      way : ℤ → ℤ → Term
      way start end = minus (number end) (number start)

      still : (e : Edge) → cross (e.x1 -ℤ e.x0) (e.y1 -ℤ e.y0) (point.twice_x -ℤ point.twice_x) (point.twice_y -ℤ point.twice_y) ≡ pos 0
      still e = identity (minus (times (minus (number e.x1) (number e.x0)) (minus (number point.twice_y) (number point.twice_y))) (times (minus (number e.y1) (number e.y0)) (minus (number point.twice_x) (number point.twice_x)))) (n_of 0) (omega arith)

      still_too : (e : Edge) → cross (point.twice_x -ℤ e.x0) (point.twice_y -ℤ e.y0) (point.twice_x -ℤ point.twice_x) (point.twice_y -ℤ point.twice_y) ≡ pos 0
      still_too e = identity (minus (times (minus (number point.twice_x) (number e.x0)) (minus (number point.twice_y) (number point.twice_y))) (times (minus (number point.twice_y) (number e.y0)) (minus (number point.twice_x) (number point.twice_x)))) (n_of 0) (omega arith)

      turned : cross (point.twice_x -ℤ doubled.x0) (point.twice_y -ℤ doubled.y0) (doubled.x1 -ℤ doubled.x0) (doubled.y1 -ℤ doubled.y0) ≡ pos 0
      turned =
          let two : ℤ → Term = λ z. times (n_of 2) (number z) in
          let back_again = identity
          (minus (times (minus (number point.twice_x) (two from.x)) (minus (two to.y) (two from.y))) (times (minus (number point.twice_y) (two from.y)) (minus (two to.x) (two from.x))))
          (minus (n_of 0) (minus (times (minus (two to.x) (two from.x)) (minus (number point.twice_y) (two from.y))) (times (minus (two to.y) (two from.y)) (minus (number point.twice_x) (two from.x)))))
          (omega arith) in
          omega (arith, ints, none, back_again)

  -- ---- what a function tells of an edge

  -- so often it winds around, and it goes through it where the test is true
  IsAround-edge : (turns : ℤ) (touches : Bool) → under edge at ≡ turns → (touches ≡ true → IsOn edge at) → (IsOn edge at → touches ≡ true) → IsAround at (edge ∷ []) (record { turns = turns; touches = touches })
  IsAround-edge turns touches is on back_on = record {
    turns = (let sum = winding-added (edge ∷ []) at in omega (arith, ints, sum, is));
    touches = (
      λ test. Any-head (λ e. IsOn e at) edge [] (on test),
      λ some. elim (Any-cons_cases (λ e. IsOn e at) edge [] some) [
        | inl here ↦ back_on here
        | inr there ↦ absurd (Any-none (λ e. IsOn e at) there)
      ],
    );
  }

  abbrev bounds : Bounds
  bounds = grown (box_at from) to

  starts-in : IsInBounds bounds from
  starts-in = IsInBounds-grown (box_at from) to from (record { left = omega (arith, ints); right = omega (arith, ints); low = omega (arith, ints); high = omega (arith, ints) })

  ends-in : IsInBounds bounds to
  ends-in = IsInBounds-itself (box_at from) to

  pub IsAround-apart : is_apart (extent_at point) bounds ≡ true → IsAround at (edge ∷ []) (record { turns = pos 0; touches = false })
  IsAround-apart apart =
      IsAround-edge (pos 0) false (apart-turns (extent_at point) bounds edge starts-in ends-in point (IsInExtent-itself point) apart)
      (λ none. cc)
      (λ on. absurd (apart-off (extent_at point) bounds edge starts-in ends-in point (IsInExtent-itself point) apart on))

  pub IsAround-above : is_above (extent_at point) bounds ≡ true → IsAround at (edge ∷ []) (record { turns = steps_over from to point; touches = false })
  IsAround-above above =
      IsAround-edge (steps_over from to point) false (above-turns (extent_at point) edge (low-in (extent_at point) bounds from above starts-in) (low-in (extent_at point) bounds to above ends-in) point (IsInExtent-itself point))
      (λ none. cc)
      (λ on. absurd (above-off (extent_at point) edge (low-in (extent_at point) bounds from above starts-in) (low-in (extent_at point) bounds to above ends-in) point (IsInExtent-itself point) on))

  module _ (near : is_apart (extent_at point) bounds ≡ false) (upto : is_above (extent_at point) bounds ≡ false) where
    on-near : side_of from to point ≡ pos 0 → IsOn edge at
    on-near none =
        let (left, right, low) = not_apart (extent_at point) bounds near in
        let high = not_above (extent_at point) bounds upto in
        on-side none
        (omega (arith, ints, clamps, right)) (omega (arith, ints, clamps, left))
        (omega (arith, ints, clamps, low)) (omega (arith, ints, clamps, high))

    pub IsAround-under : (touches : Bool) → is_under_side from to (side_of from to point) ≡ true → (touches ≡ true → side_of from to point ≡ pos 0) → (side_of from to point ≡ pos 0 → touches ≡ true)
        → IsAround at (edge ∷ []) (record { turns = steps_over from to point; touches = touches })
    IsAround-under touches under_it zero_side none =
        IsAround-edge (steps_over from to point) touches (under-side under_it) (λ test. on-near (zero_side test)) (λ on. none (side-none on))

    pub IsAround-over : is_under_side from to (side_of from to point) ≡ false → IsAround at (edge ∷ []) (record { turns = pos 0; touches = false })
    IsAround-over over = IsAround-edge (pos 0) false (over-side over) (λ none. cc) (λ on. absurd (not_none (side-none on)))
      where
        not_none : side_of from to point ≡ pos 0 → ⊥
        not_none none = by (int_lt from.x to.x) over
          where
            by : (t : Bool) → cond t (int_le (pos 0) (side_of from to point)) (int_le (side_of from to point) (pos 0)) ≡ false → ⊥
            by true is = omega (arith, ints, is, none)
            by false is = omega (arith, ints, is, none)
