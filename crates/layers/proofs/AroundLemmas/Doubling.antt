-- Whole points, and the same ones by twice their coordinates.
use Rattle.std.proofs.Common.{Bool, true, false, ◌≡◌, ◌∙◌, ℕ, ◌+◌, ◌<◌, ◌&&◌, List, [], ◌∷◌, Some, length, get_or, map, ℤ, pos, ◌-ℤ◌, ◌*ℤ◌, ◌≤ℤ◌, ◌<ℤ◌, inl, inr, ⊎_elim, cond, refl, sym, ap, ap₂, subst, arith}
use Rattle.std.specs.Bool.{IsTrue}
use Rattle.std.specs.Prelude.{◌↔◌, int_le, int_lt, slice_get, option_map}
use Rattle.std.specs.List.{AllZip, count_by}
use Rattle.std.proofs.lemmas.Int.{ints}
use Rattle.std.proofs.lemmas.List.Sums.{sum_by-cons}
use Rattle.std.proofs.lemmas.Option.{get_or_from_slice_get, slice_get_cases, slice_get_within, slice_get-map}
use Rattle.plane.specs.declared.edge.Edge.{Edge}
use Rattle.plane.specs.declared.point.Point.{Point}
use Rattle.plane.specs.Meet.Crosses.{cross}
use Rattle.plane.specs.Meet.Edges.{RationalPoint}
use Rattle.plane.specs.Pairs.Pairs.{PairBetween}
use Rattle.plane.proofs.MeetLemmas.Identities.{Term, identity, minus, number, times}
use Rattle.overlay.specs.declared.fill.rules.FillRule.{FillRule}
use Rattle.overlay.specs.Fill.Rules.{is_inside}
use Rattle.plane.specs.Ends.{reversed}
use Rattle.noding.specs.Windings.{is_under, winding}
use Rattle.noding.proofs.ChainLemmas.Zips.{AllZip-at, AllZip-length}
use Rattle.noding.proofs.SnapLemmas.Numbers.{n_of}
use Rattle.layers.specs.declared.around.half_point.HalfPoint.{HalfPoint}
use Rattle.layers.specs.declared.points.Border.{Border}
use Rattle.layers.specs.declared.points.Border.TheVariants.{Closed, Open, HalfOpen}
use Rattle.layers.specs.Around.{ArePairsIn, IsOn, IsOnAny, LiesIn, halved, whole}
use Rattle.layers.proofs.AroundLemmas.AllPoints.{from_map}

-- The half point has twice the point's coordinates.
abbrev pub IsTwice : Point → HalfPoint → Type 0
IsTwice point half = (half.twice_x ≡ pos 2 *ℤ point.x) × (half.twice_y ≡ pos 2 *ℤ point.y)

same_le : (a b c d : ℤ) → (a ≤ℤ b → c ≤ℤ d) → (c ≤ℤ d → a ≤ℤ b) → int_le a b ≡ int_le c d
same_le a b c d there back = by (int_le a b) (int_le c d) refl refl
  where
    by : (s t : Bool) → int_le a b ≡ s → int_le c d ≡ t → s ≡ t
    by true true e f = refl
    by false false e f = refl
    by true false e f = absurd (let upto = there (omega (arith, ints, e)) in omega (arith, ints, f, upto))
    by false true e f = absurd (let upto = back (omega (arith, ints, f)) in omega (arith, ints, e, upto))

same_lt : (a b c d : ℤ) → (a <ℤ b → c <ℤ d) → (c <ℤ d → a <ℤ b) → int_lt a b ≡ int_lt c d
same_lt a b c d there back = by (int_lt a b) (int_lt c d) refl refl
  where
    by : (s t : Bool) → int_lt a b ≡ s → int_lt c d ≡ t → s ≡ t
    by true true e f = refl
    by false false e f = refl
    by true false e f = absurd (let upto = there (omega (arith, ints, e)) in omega (arith, ints, f, upto))
    by false true e f = absurd (let upto = back (omega (arith, ints, f)) in omega (arith, ints, e, upto))

-- twice as far away the cross product is twice as large
cross-doubled : (dx dy x y x0 y0 : ℤ) → cross dx dy ((pos 2 *ℤ x) -ℤ (pos 2 *ℤ x0)) ((pos 2 *ℤ y) -ℤ (pos 2 *ℤ y0)) ≡ pos 2 *ℤ cross dx dy (x -ℤ (pos 1 *ℤ x0)) (y -ℤ (pos 1 *ℤ y0))
cross-doubled dx dy x y x0 y0 =
    let twice : ℤ → ℤ → Term = λ z z0. minus (times (n_of 2) (number z)) (times (n_of 2) (number z0)) in
    let one : ℤ → ℤ → Term = λ z z0. minus (number z) (times (n_of 1) (number z0)) in
    identity (minus (times (number dx) (twice y y0)) (times (number dy) (twice x x0)))
    (times (n_of 2) (minus (times (number dx) (one y y0)) (times (number dy) (one x x0)))) (omega arith)

count-same : (p q : Edge → Bool) (edges : List Edge) → ((edge : Edge) → p edge ≡ q edge) → count_by p edges ≡ count_by q edges
count-same p q [] same = refl
count-same p q (edge ∷ edges) same =
    let first : count_by p (edge ∷ edges) ≡ cond (p edge) 1 0 + count_by p edges = sum_by-cons (λ (e : Edge). cond (p e) 1 0) edge edges in
    let second : count_by q (edge ∷ edges) ≡ cond (q edge) 1 0 + count_by q edges = sum_by-cons (λ (e : Edge). cond (q e) 1 0) edge edges in
    first ∙ ap₂ (λ (test : Bool) (n : ℕ). cond test 1 0 + n) (same edge) (count-same p q edges same) ∙ sym second

-- one of the two equations of fractions, from the other
doubled : (n : ℕ) (z twice w : ℤ) → twice ≡ pos 2 *ℤ z → (pos n *ℤ z) ≡ (pos 1 *ℤ w) → (pos n *ℤ twice) ≡ (pos 2 *ℤ w)
doubled n z twice w double same =
    let there = identity (times (n_of n) (times (n_of 2) (number z))) (times (n_of 2) (times (n_of n) (number z))) (omega arith) in
    ap (λ (t : ℤ). pos n *ℤ t) double ∙ there ∙ omega (arith, ints, same)

halving : (n : ℕ) (z twice w : ℤ) → twice ≡ pos 2 *ℤ z → (pos n *ℤ twice) ≡ (pos 2 *ℤ w) → (pos n *ℤ z) ≡ (pos 1 *ℤ w)
halving n z twice w double same =
    let there = identity (times (n_of n) (times (n_of 2) (number z))) (times (n_of 2) (times (n_of n) (number z))) (omega arith) in
    let here = sym there ∙ ap (λ (t : ℤ). pos n *ℤ t) (sym double) ∙ same in
    omega (arith, ints, here)

module _ (point : Point) (half : HalfPoint) (is : IsTwice point half) where
  is_under-doubled : (edge : Edge) → is_under edge (whole point) ≡ is_under edge (halved half)
  is_under-doubled edge =
      let x = is.0 in
      let dx = edge.x1 -ℤ edge.x0 in
      let dy = edge.y1 -ℤ edge.y0 in
      let side = cross dx dy (point.x -ℤ (pos 1 *ℤ edge.x0)) (point.y -ℤ (pos 1 *ℤ edge.y0)) in
      let other = cross dx dy (half.twice_x -ℤ (pos 2 *ℤ edge.x0)) (half.twice_y -ℤ (pos 2 *ℤ edge.y0)) in
      let twice : other ≡ pos 2 *ℤ side = ap₂ (λ (a b : ℤ). cross dx dy (a -ℤ (pos 2 *ℤ edge.x0)) (b -ℤ (pos 2 *ℤ edge.y0))) is.0 is.1 ∙ cross-doubled dx dy point.x point.y edge.x0 edge.y0 in
      ap₂ (λ (s t : Bool). s && t)
      (ap₂ (λ (s t : Bool). s && t)
      (same_le (pos 1 *ℤ edge.x0) point.x (pos 2 *ℤ edge.x0) half.twice_x (λ upto. omega (arith, ints, upto, x)) (λ upto. omega (arith, ints, upto, x)))
      (same_lt point.x (pos 1 *ℤ edge.x1) half.twice_x (pos 2 *ℤ edge.x1) (λ less. omega (arith, ints, less, x)) (λ less. omega (arith, ints, less, x))))
      (by_side side other twice)
    where
      by_side : (s t : ℤ) → t ≡ pos 2 *ℤ s → int_le (pos 0) s ≡ int_le (pos 0) t
      by_side s t same = same_le (pos 0) s (pos 0) t (λ upto. omega (arith, ints, upto, same)) (λ upto. omega (arith, ints, upto, same))

  winding-doubled : (edges : List Edge) → winding edges (whole point) ≡ winding edges (halved half)
  winding-doubled edges =
      ap₂ (λ (m n : ℕ). pos m -ℤ pos n)
      (count-same (λ edge. is_under edge (whole point)) (λ edge. is_under edge (halved half)) edges is_under-doubled)
      (count-same (λ edge. is_under (reversed edge) (whole point)) (λ edge. is_under (reversed edge) (halved half)) edges (λ edge. is_under-doubled (reversed edge)))

  IsOn-doubled : (edge : Edge) → IsOn edge (whole point) ↔ IsOn edge (halved half)
  IsOn-doubled edge = (
    λ (written, of, same). (
      written,
      of,
      record {
        x = doubled written.n point.x half.twice_x written.x is.0 same.x;
        y = doubled written.n point.y half.twice_y written.y is.1 same.y;
      },
    ),
    λ (written, of, same). (
      written,
      of,
      record {
        x = halving written.n point.x half.twice_x written.x is.0 same.x;
        y = halving written.n point.y half.twice_y written.y is.1 same.y;
      },
    ),
  )

  IsOnAny-doubled : (edges : List Edge) → IsOnAny edges (whole point) ↔ IsOnAny edges (halved half)
  IsOnAny-doubled edges = (
    λ (k, edge, within, at, on). (k, edge, within, at, (IsOn-doubled edge).0 on),
    λ (k, edge, within, at, on). (k, edge, within, at, (IsOn-doubled edge).1 on),
  )

  -- it lies in the same shapes
  pub LiesIn-doubled : (rule : FillRule) (border : Border) (edges : List Edge) → LiesIn rule border (whole point) edges ↔ LiesIn rule border (halved half) edges
  LiesIn-doubled rule border edges = by border
    where
      turns : IsTrue (is_inside rule (winding edges (whole point))) → IsTrue (is_inside rule (winding edges (halved half)))
      turns = subst (λ (w : ℤ). IsTrue (is_inside rule w)) (winding-doubled edges)

      back : IsTrue (is_inside rule (winding edges (halved half))) → IsTrue (is_inside rule (winding edges (whole point)))
      back = subst (λ (w : ℤ). IsTrue (is_inside rule w)) (sym (winding-doubled edges))

      on : IsOnAny edges (whole point) ↔ IsOnAny edges (halved half)
      on = IsOnAny-doubled edges

      by : (one : Border) → LiesIn rule one (whole point) edges ↔ LiesIn rule one (halved half) edges
      by Closed = (⊎_elim (λ inside. inl (turns inside)) (λ touches. inr (on.0 touches)), ⊎_elim (λ inside. inl (back inside)) (λ touches. inr (on.1 touches)))
      by Open = (λ (inside, off). (turns inside, λ touches. off (on.1 touches)), λ (inside, off). (back inside, λ touches. off (on.0 touches)))
      by HalfOpen = (turns, back)

-- ---- many points

module _ (points : List Point) (halves : List HalfPoint) (are : AllZip IsTwice points halves) where
  half-at : (k : ℕ) (half : HalfPoint) → slice_get halves k ≡ Some half → (point : Point) × (slice_get points k ≡ Some point) × IsTwice point half
  half-at k half is =
      let within = slice_get_within halves k half is in
      let size = AllZip-length IsTwice points halves are in
      let inside : k < length points = omega (arith, within, size) in
      ⊎_elim (λ (point, there, stands, same). (
        point,
        stands,
        subst (λ (one : HalfPoint). IsTwice point one) (get_or_from_slice_get halves k half half is) (subst (λ (one : Point). IsTwice one (get_or halves k half)) same (AllZip-at IsTwice points halves point half k are inside)),
      )) (λ (past, none). absurd (omega (arith, past, inside))) (slice_get_cases points k).1

  point-at : (k : ℕ) (point : Point) → slice_get points k ≡ Some point → (half : HalfPoint) × (slice_get halves k ≡ Some half) × IsTwice point half
  point-at k point is =
      let within = slice_get_within points k point is in
      let size = AllZip-length IsTwice points halves are in
      let inside : k < length halves = omega (arith, within, size) in
      ⊎_elim (λ (half, there, stands, same). (
        half,
        stands,
        subst (λ (one : HalfPoint). IsTwice point one) same (subst (λ (one : Point). IsTwice one (get_or halves k half)) (get_or_from_slice_get points k point point is) (AllZip-at IsTwice points halves point half k are within)),
      )) (λ (past, none). absurd (omega (arith, past, inside))) (slice_get_cases halves k).1

  -- they lie in the same shapes
  pub ArePairsIn-doubled : (rule : FillRule) (border : Border) (shapes : List (List Edge)) (pairs : List (ℕ × ℕ)) → ArePairsIn rule border (map halved halves) shapes pairs → ArePairsIn rule border (map whole points) shapes pairs
  ArePairsIn-doubled rule border shapes pairs found = record {
    all = record {
      once = found.all.once;
      exact = λ i j. (λ within. there i j ((found.all.exact i j).0 within), λ between. (found.all.exact i j).1 (back i j between));
    };
    ordered = found.ordered;
  }
    where
      there : (i j : ℕ) → PairBetween (LiesIn rule border) (map halved halves) shapes i j → PairBetween (LiesIn rule border) (map whole points) shapes i j
      there i j between =
          let (half, stands, same) = from_map halved halves i between.one between.first in
          let (point, at, twice) = half-at i half stands in
          record {
            one = whole point;
            other = between.other;
            first = slice_get-map whole points i ∙ ap (option_map whole) at;
            second = between.second;
            meet = (LiesIn-doubled point half twice rule border between.other).1 (subst (λ (one : RationalPoint). LiesIn rule border one between.other) (sym same) between.meet);
          }

      back : (i j : ℕ) → PairBetween (LiesIn rule border) (map whole points) shapes i j → PairBetween (LiesIn rule border) (map halved halves) shapes i j
      back i j between =
          let (point, stands, same) = from_map whole points i between.one between.first in
          let (half, at, twice) = point-at i point stands in
          record {
            one = halved half;
            other = between.other;
            first = slice_get-map halved halves i ∙ ap (option_map halved) at;
            second = between.second;
            meet = (LiesIn-doubled point half twice rule border between.other).0 (subst (λ (one : RationalPoint). LiesIn rule border one between.other) (sym same) between.meet);
          }
