-- What is clear of a long stretch is aside of a point between the stretch and its chord, and of the point that stands for it.
use Rattle.std.proofs.Common.{◌≡◌, inl, inr, ⊎_elim, ℕ, ◌+◌, ◌*◌, ◌<◌, ◌-◌, ℤ, pos, ◌+ℤ◌, ◌-ℤ◌, ◌*ℤ◌, ◌<ℤ◌, ◌≤ℤ◌, List, [], length, arith, ap, ap₂}
use Rattle.std.specs.Int.{int_max}
use Rattle.std.specs.Int.RustNames.{unsigned_abs}
use Rattle.std.specs.List.{Contains}
use Rattle.std.proofs.lemmas.Int.{clamps, ints}
use Rattle.std.proofs.lemmas.List.Elements.{Contains-get_or}
use Rattle.plane.specs.declared.edge.Edge.{Edge}
use Rattle.plane.specs.declared.point.Point.{Point}
use Rattle.plane.specs.Meet.Edges.{RationalPoint}
use Rattle.plane.proofs.MeetLemmas.Identities.{identity, minus, number, plus, scaled, times}
use Rattle.overlay.specs.Contours.Outlines.{ring_point}
use Rattle.noding.specs.Chains.{Passes}
use Rattle.plane.specs.Ends.{end_of, start_of}
use Rattle.noding.specs.Windings.{further}
use Rattle.monotone_chains.specs.Stretches.{AreApart, AreClear, GoesOn, IsStretch, chord}
use Rattle.noding.proofs.SnapLemmas.Numbers.{n_of}
use Rattle.monotone_chains.proofs.StretchLemmas.Adjoin.{lies-left, lies-right}
use Rattle.noding.proofs.SnapLemmas.Numbers.{abs-negative}
use Rattle.monotone_chains.proofs.StretchLemmas.Boxes.{passed-near}
use Rattle.monotone_chains.proofs.StretchLemmas.Columns.{AreAside, AreTold, IsAside, IsTold}
use Rattle.monotone_chains.proofs.StretchLemmas.Lowered.{IsShiftOf, half_more}
use Rattle.monotone_chains.proofs.StretchLemmas.Placed.{LiesIn}
use Rattle.monotone_chains.proofs.StretchLemmas.Sides.{along}

-- ---- numbers

twice : (u v x y : ℤ) → along (u +ℤ u) (v +ℤ v) x y ≡ (along u v x y +ℤ along u v x y)
twice u v x y =
    let once = plus (times (number u) (number x)) (times (number v) (number y)) in
    identity (plus (times (plus (number u) (number u)) (number x)) (times (plus (number v) (number v)) (number y))) (plus once once) (omega arith)

back : (u v x y : ℤ) → along (pos 0 -ℤ u) (pos 0 -ℤ v) x y ≡ (pos 0 -ℤ along u v x y)
back u v x y = identity (plus (times (minus (n_of 0) (number u)) (number x)) (times (minus (n_of 0) (number v)) (number y))) (minus (n_of 0) (plus (times (number u) (number x)) (times (number v) (number y)))) (omega arith)

-- what is near points that all lie far beyond a line lies beyond it, still by half as far
near_beyond : (u v k x y : ℤ) (w other : ℕ) → other ≡ w → (pos 2 *ℤ along (pos 0 -ℤ u) (pos 0 -ℤ v) x y) ≤ℤ (pos 1 *ℤ ((pos 2 *ℤ (pos 0 -ℤ ((k +ℤ pos w) +ℤ pos 1))) +ℤ pos (1 * other)))
    → ((k +ℤ k) +ℤ pos w) <ℤ along (u +ℤ u) (v +ℤ v) x y
near_beyond u v k x y w other same upto =
    let once = plus (times (number u) (number x)) (times (number v) (number y)) in
    let left = identity (times (n_of 2) (plus (times (minus (n_of 0) (number u)) (number x)) (times (minus (n_of 0) (number v)) (number y)))) (minus (n_of 0) (plus once once)) (omega arith) in
    let line = minus (n_of 0) (plus (plus (number k) (n_of w)) (n_of 1)) in
    let right = identity (times (n_of 1) (plus (times (n_of 2) line) (n_of (1 * other)))) (plus (plus line line) (n_of other)) (omega arith) in
    let own = twice u v x y in
    omega (arith, ints, upto, left, right, own, same)

-- the greatest of four
abbrev most : ℤ → ℤ → ℤ → ℤ → ℤ
most a b c d = int_max (int_max a b) (int_max c d)

-- ---- a stretch s, and its points r in the order along which x rises

module _ (s r : List Point) (of : (p : Point) → Contains r p → Contains s p) (some : 0 < length r) (point other : RationalPoint) (shift : IsShiftOf r point other) where
  first : Contains s (start_of (chord r))
  first = of (start_of (chord r)) (Contains-get_or r 0 (ring_point [] 0) some)

  last : Contains s (end_of (chord r))
  last = of (end_of (chord r)) (Contains-get_or r (length r - 1) (ring_point [] 0) (omega (arith, some)))

  module _ (t : List Point) where
    -- ---- where it adjoins, by columns

    left_at : (goes : GoesOn t s) (x : ℤ) → x ≤ℤ goes.at.x → (pos point.n *ℤ x) ≤ℤ point.x
    left_at goes x upto =
        let start : goes.at.x ≤ℤ (chord r).x0 = ⊎_elim (λ same. let e = ap (λ (p : Point). p.x) same in omega (arith, ints, e)) (λ less. omega (arith, ints, less)) (goes.right (start_of (chord r)) first) in
        let there = scaled point.n x (chord r).x0 (omega (arith, ints, upto, start)) in
        let from = shift.covers.from in
        omega (arith, ints, there, from)

    right_at : (goes : GoesOn s t) (x : ℤ) → goes.at.x ≤ℤ x → point.x <ℤ (pos point.n *ℤ x)
    right_at goes x from =
        let end : (chord r).x1 ≤ℤ goes.at.x = ⊎_elim (λ same. let e = ap (λ (p : Point). p.x) same in omega (arith, ints, e)) (λ less. omega (arith, ints, less)) (goes.left (end_of (chord r)) last) in
        let there = scaled point.n (chord r).x1 x (omega (arith, ints, from, end)) in
        let before = shift.covers.before in
        omega (arith, ints, there, before)

    -- ---- where some line keeps them apart

    module _ (apart : AreApart s t) where
      abbrev u : ℤ
      u = apart.u

      abbrev v : ℤ
      v = apart.v

      abbrev w : ℕ
      w = unsigned_abs apart.u + unsigned_abs apart.v

      -- the line, over the piece and the chord
      abbrev k : ℤ
      k = most (further apart.u apart.v (start_of shift.piece)) (further apart.u apart.v (end_of shift.piece)) (further apart.u apart.v (start_of (chord r))) (further apart.u apart.v (end_of (chord r)))

      beyond : (q : Point) → Contains t q → (k +ℤ pos w) <ℤ further u v q
      beyond q held =
          let one = apart.beyond (start_of shift.piece) q (of (start_of shift.piece) shift.from) held in
          let two = apart.beyond (end_of shift.piece) q (of (end_of shift.piece) shift.to) held in
          let three = apart.beyond (start_of (chord r)) q first held in
          let four = apart.beyond (end_of (chord r)) q last held in
          omega (arith, ints, clamps, one, two, three, four)

      here : along (u +ℤ u) (v +ℤ v) point.x point.y ≤ℤ (pos point.n *ℤ half_more u v k)
      here = shift.at_point u v k (omega (arith, ints, clamps)) (omega (arith, ints, clamps)) (omega (arith, ints, clamps)) (omega (arith, ints, clamps))

      there : along (u +ℤ u) (v +ℤ v) other.x other.y ≤ℤ (pos other.n *ℤ half_more u v k)
      there = shift.at_other u v k (omega (arith, ints, clamps)) (omega (arith, ints, clamps)) (omega (arith, ints, clamps)) (omega (arith, ints, clamps))

      told-points : AreTold t point other
      told-points = record {
        u = u +ℤ u;
        v = v +ℤ v;
        k = half_more u v k;
        beyond = λ q held. let less = beyond q held in let own = twice u v q.x q.y in omega (arith, ints, less, own);
        at_point = here;
        at_other = there;
      }

      -- what t passes is near it
      passed_beyond : IsStretch t → (x y : ℤ) → Passes (chord t) x y → half_more u v k <ℤ along (u +ℤ u) (v +ℤ v) x y
      passed_beyond is x y passes =
          near_beyond u v k x y w (unsigned_abs (pos 0 -ℤ u) + unsigned_abs (pos 0 -ℤ v)) (ap₂ (λ (i j : ℕ). i + j) (abs-negative u) (abs-negative v))
          (passed-near t is x y passes (pos 0 -ℤ u) (pos 0 -ℤ v) (pos 0 -ℤ ((k +ℤ pos w) +ℤ pos 1)) (λ q held. let less = beyond q held in let turned = back u v q.x q.y in omega (arith, ints, less, turned)))

      told-edge : IsStretch t → (edge : Edge) → LiesIn t edge → IsTold edge point other
      told-edge is edge (from, to) = record {
        u = u +ℤ u;
        v = v +ℤ v;
        k = half_more u v k;
        from = passed_beyond is edge.x0 edge.y0 from;
        to = passed_beyond is edge.x1 edge.y1 to;
        at_point = here;
        at_other = there;
      }

    -- ---- where it is clear

    pub points-aside : AreClear s t → AreAside t point other
    points-aside (inl apart) = inr (told-points apart)
    points-aside (inr (inl goes)) = inl (inr (λ q held. right_at goes q.x (⊎_elim (λ same. let e = ap (λ (p : Point). p.x) same in omega (arith, ints, e)) (λ less. omega (arith, ints, less)) (goes.right q held))))
    points-aside (inr (inr goes)) = inl (inl (λ q held. left_at goes q.x (⊎_elim (λ same. let e = ap (λ (p : Point). p.x) same in omega (arith, ints, e)) (λ less. omega (arith, ints, less)) (goes.left q held))))

    pub edge-aside : IsStretch t → AreClear s t → (edge : Edge) → LiesIn t edge → IsAside edge point other
    edge-aside is (inl apart) edge lies = inr (told-edge apart is edge lies)
    edge-aside is (inr (inl goes)) edge lies =
        let (from, to) = lies-right s t is goes edge lies in
        inl (inr (right_at goes edge.x0 from, right_at goes edge.x1 to))
    edge-aside is (inr (inr goes)) edge lies =
        let (from, to) = lies-left t s is goes edge lies in
        inl (inl (left_at goes edge.x0 from, left_at goes edge.x1 to))
