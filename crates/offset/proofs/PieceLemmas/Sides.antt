-- What edges count for a point, by which of their ends lie to the right of it and by how far it lies to the left of them.
use Rattle.std.proofs.Common.{Bool, List, [], ap, ap₂, arith, false, negsuc, pos, refl, sym, true, ℤ, ◌&&◌, ◌*ℤ◌, ◌+ℤ◌, ◌-ℤ◌, ◌<ℤ◌, ◌∙◌, ◌∷◌, ◌≡◌, ◌≤ℤ◌}
use Rattle.std.proofs.lemmas.Int.{ints}
use Rattle.std.specs.Prelude.{int_le, int_lt}
use Rattle.plane.specs.declared.edge.Edge.{Edge}
use Rattle.plane.specs.Meet.Crosses.{cross}
use Rattle.plane.specs.Meet.Edges.{RationalPoint}
use Rattle.plane.specs.Ends.{reversed}
use Rattle.noding.specs.Windings.{count, winding}
use Rattle.overlay.specs.Fill.Pieces.{total}
use Rattle.plane.proofs.MeetLemmas.Identities.{identity, minus, number, times}
use Rattle.noding.proofs.SnapLemmas.Counted.{added, counted, covers, is_low-left, under}
use Rattle.noding.proofs.SnapLemmas.Numbers.{n_of, same_test}
use Rattle.noding.proofs.SnapLemmas.Windings.{winding-added}

-- How far the point lies to the left of the edge, times the edge's length and the point's n.
abbrev pub left_by : Edge → RationalPoint → ℤ
left_by edge point = cross (edge.x1 -ℤ edge.x0) (edge.y1 -ℤ edge.y0) (point.x -ℤ (pos point.n *ℤ edge.x0)) (point.y -ℤ (pos point.n *ℤ edge.y0))

-- How far x lies to the right of the point, times the point's n.
abbrev pub right_by : ℤ → RationalPoint → ℤ
right_by x point = (pos point.n *ℤ x) -ℤ point.x

-- ---- numbers alone

-- Of an edge whose ends lie so far to the right, and that has the point so far to its left: it is under the point.
abbrev pub is_passed : ℤ → ℤ → ℤ → Bool
is_passed from to left = (int_le from (pos 0) && int_lt (pos 0) to) && int_le (pos 0) left

-- What it counts: 1 if it goes rightwards under the point, -1 if it goes leftwards under it.
abbrev pub passed : ℤ → ℤ → ℤ → ℤ
passed from to left = count (is_passed from to left) -ℤ count (is_passed to from (pos 0 -ℤ left))

module _ (from to left : ℤ) where
  is : from ≤ℤ pos 0 → pos 0 <ℤ to → pos 0 ≤ℤ left → count (is_passed from to left) ≡ pos 1
  is behind before above = by (int_le from (pos 0)) (int_lt (pos 0) to) (int_le (pos 0) left) refl refl refl
    where
      by : (r s t : Bool) → int_le from (pos 0) ≡ r → int_lt (pos 0) to ≡ s → int_le (pos 0) left ≡ t → count ((r && s) && t) ≡ pos 1
      by true true true e f g = refl
      by false s t e f g = absurd (omega (arith, ints, e, behind))
      by true false t e f g = absurd (omega (arith, ints, f, before))
      by true true false e f g = absurd (omega (arith, ints, g, above))

  isnt : (from ≤ℤ pos 0 → pos 0 <ℤ to → pos 0 ≤ℤ left → ⊥) → count (is_passed from to left) ≡ pos 0
  isnt none = by (int_le from (pos 0)) (int_lt (pos 0) to) (int_le (pos 0) left) refl refl refl
    where
      by : (r s t : Bool) → int_le from (pos 0) ≡ r → int_lt (pos 0) to ≡ s → int_le (pos 0) left ≡ t → count ((r && s) && t) ≡ pos 0
      by true true true e f g = absurd (none (omega (arith, ints, e)) (omega (arith, ints, f)) (omega (arith, ints, g)))
      by false s t e f g = refl
      by true false t e f g = refl
      by true true false e f g = refl

module _ (from to left : ℤ) where
  -- rightwards, under the point or over it
  pub rightwards-under : from ≤ℤ pos 0 → pos 0 <ℤ to → pos 0 ≤ℤ left → passed from to left ≡ pos 1
  rightwards-under behind before above =
      let one = is from to left behind before above in
      let other = isnt to from (pos 0 -ℤ left) (λ a b c. omega (arith, ints, a, before)) in
      omega (arith, ints, one, other)

  pub rightwards-over : from ≤ℤ pos 0 → pos 0 <ℤ to → left <ℤ pos 0 → passed from to left ≡ pos 0
  rightwards-over behind before below =
      let one = isnt from to left (λ a b c. omega (arith, ints, c, below)) in
      let other = isnt to from (pos 0 -ℤ left) (λ a b c. omega (arith, ints, a, before)) in
      omega (arith, ints, one, other)

  -- leftwards, over it or under it
  pub leftwards-over : pos 0 <ℤ from → to ≤ℤ pos 0 → pos 0 <ℤ left → passed from to left ≡ pos 0
  leftwards-over before behind above =
      let one = isnt from to left (λ a b c. omega (arith, ints, a, before)) in
      let other = isnt to from (pos 0 -ℤ left) (λ a b c. omega (arith, ints, c, above)) in
      omega (arith, ints, one, other)

  pub leftwards-under : pos 0 <ℤ from → to ≤ℤ pos 0 → left ≤ℤ pos 0 → passed from to left ≡ negsuc 0
  leftwards-under before behind below =
      let one = isnt from to left (λ a b c. omega (arith, ints, a, before)) in
      let other = is to from (pos 0 -ℤ left) behind before (omega (arith, ints, below)) in
      omega (arith, ints, one, other)

  -- both ends to one side
  pub behind-both : from ≤ℤ pos 0 → to ≤ℤ pos 0 → passed from to left ≡ pos 0
  behind-both first second =
      let one = isnt from to left (λ a b c. omega (arith, ints, b, second)) in
      let other = isnt to from (pos 0 -ℤ left) (λ a b c. omega (arith, ints, b, first)) in
      omega (arith, ints, one, other)

  pub before-both : pos 0 <ℤ from → pos 0 <ℤ to → passed from to left ≡ pos 0
  before-both first second =
      let one = isnt from to left (λ a b c. omega (arith, ints, a, first)) in
      let other = isnt to from (pos 0 -ℤ left) (λ a b c. omega (arith, ints, a, second)) in
      omega (arith, ints, one, other)

-- ---- edges

-- What an edge counts for a point.
abbrev pub passed_by : Edge → RationalPoint → ℤ
passed_by edge point = passed (right_by edge.x0 point) (right_by edge.x1 point) (left_by edge point)

-- What edges count, one after another.
abbrev pub all_passed : List Edge → RationalPoint → ℤ
all_passed edges point = total (λ edge. passed_by edge point) edges

-- a point lies as far to the right of the reversed edge
pub left_by-reversed : (edge : Edge) (point : RationalPoint) → left_by (reversed edge) point ≡ (pos 0 -ℤ left_by edge point)
left_by-reversed edge point =
    let way = λ (a b : ℤ). minus (number b) (number a) in
    let out = λ (a z : ℤ). minus (number z) (times (n_of point.n) (number a)) in
    identity (minus (times (way edge.x1 edge.x0) (out edge.y1 point.y)) (times (way edge.y1 edge.y0) (out edge.x1 point.x)))
    (minus (n_of 0) (minus (times (way edge.x0 edge.x1) (out edge.y0 point.y)) (times (way edge.y0 edge.y1) (out edge.x0 point.x)))) (omega arith)

counted-passed : (edge : Edge) (point : RationalPoint) → counted edge point ≡ count (is_passed (right_by edge.x0 point) (right_by edge.x1 point) (left_by edge point))
counted-passed edge point =
    sym (ap (λ low. count (covers edge point && low)) (is_low-left edge point))
    ∙ ap₂ (λ r s. count ((r && s) && int_le (pos 0) (left_by edge point))) (first (pos point.n *ℤ edge.x0) point.x) (second (pos point.n *ℤ edge.x1) point.x)
  where
    first : (a b : ℤ) → int_le a b ≡ int_le (a -ℤ b) (pos 0)
    first a b = same_test a b (a -ℤ b) (pos 0) (λ upto above. omega (arith, ints, upto, above)) (λ upto above. omega (arith, ints, upto, above))

    second : (a b : ℤ) → int_lt b a ≡ int_lt (pos 0) (a -ℤ b)
    second a b = by (int_lt b a) (int_lt (pos 0) (a -ℤ b)) refl refl
      where
        by : (s t : Bool) → int_lt b a ≡ s → int_lt (pos 0) (a -ℤ b) ≡ t → s ≡ t
        by true true e f = refl
        by false false e f = refl
        by true false e f = absurd (omega (arith, ints, e, f))
        by false true e f = absurd (omega (arith, ints, e, f))

-- an edge counts so
pub under-passed : (edge : Edge) (point : RationalPoint) → under edge point ≡ passed_by edge point
under-passed edge point =
    ap₂ (λ a b. a -ℤ b) (counted-passed edge point)
    (counted-passed (reversed edge) point ∙ ap (λ z. count (is_passed (right_by edge.x1 point) (right_by edge.x0 point) z)) (left_by-reversed edge point))

-- a winding number is what the edges count, one after another
pub winding-passed : (edges : List Edge) (point : RationalPoint) → winding edges point ≡ all_passed edges point
winding-passed edges point = winding-added edges point ∙ each edges
  where
    each : (edges : List Edge) → added edges point ≡ all_passed edges point
    each [] = refl
    each (edge ∷ edges) = ap₂ (λ a b. a +ℤ b) (under-passed edge point) (each edges)
