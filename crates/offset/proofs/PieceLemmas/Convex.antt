-- Convex shapes: the one corner that lies furthest to the right of an edge, and the sides between two such corners.
use Rattle.std.proofs.Common.{◌≡◌, ◌≢◌, ℤ, pos, negsuc, ◌+ℤ◌, ◌-ℤ◌, ◌*ℤ◌, ◌≤ℤ◌, ◌<ℤ◌, Bool, true, false, not, cond, ◌&&◌, List, [], ◌∷◌, get_or, refl, ap, ap₂, subst, sym, ◌∙◌, arith}
use Rattle.std.specs.List.{All, Contains}
use Rattle.std.specs.Prelude.{int_le, int_lt}
use Rattle.std.proofs.lemmas.Int.{by_lt_z, ints}
use Rattle.std.proofs.lemmas.List.Elements.{All-contains}
use Rattle.plane.specs.declared.edge.Edge.{Edge}
use Rattle.plane.specs.declared.point.Point.{Point}
use Rattle.plane.specs.Ends.{edge_between, end_of, start_of}
use Rattle.plane.specs.Lines.{height_over}
use Rattle.plane.specs.Meet.Crosses.{cross}
use Rattle.overlay.specs.Areas.{swept}
use Rattle.overlay.specs.Fill.Pieces.{total}
use Rattle.offset.specs.Shape.{IsConvexAroundOrigin, neighbours, sides, turn}
use Rattle.offset.specs.Raw.{fan, furthest, is_furthest, is_of_fan, nowhere, sides_at_furthest}
use Rattle.plane.proofs.MeetLemmas.Identities.{identity, minus, number, plus, times}
use Rattle.overlay.proofs.FillLemmas.Premises.{All-among}
use Rattle.overlay.proofs.FillLemmas.Totals.{total-difference, total-filter, total-same}
use Rattle.noding.proofs.SnapLemmas.Numbers.{n_of}
use Rattle.offset.proofs.CoverLemmas.Directions.{dot}
use Rattle.offset.proofs.CoverLemmas.Numbers.{above-factor, above-product, positive-product}
use Rattle.offset.proofs.CoverLemmas.Shapes.{IsShape, has-furthest}
use Rattle.offset.proofs.CoverLemmas.Vectors.{crossed, crossing, less_terms, plucker, reach, term, way, wide}
use Rattle.i_tree.proofs.RootLemmas.Lists.{All-filter_passing, Contains-filter, Contains-here}
use Rattle.offset.proofs.PieceLemmas.Rounds.{IsJoined, neighbours-held, next-held, previous-held, ring-joined, second-starts-differ, start-held, total-firsts, total-once, total-seconds}

-- ---- the shape of corners

reach-height : (side : Edge) (corner : Point) → height_over side corner ≡ (wide side -ℤ reach side corner)
reach-height side corner =
    let start = term (start_of side) in
    let end = term (end_of side) in
    identity (crossing (less_terms end start) (less_terms (term corner) start)) (minus (crossing start end) (crossing (term corner) (less_terms end start))) (omega arith)

-- The sides of such corners, and the pairs of those that follow each other.
pub shape-of : (corners : List Point) → IsConvexAroundOrigin corners → IsShape (sides corners) (neighbours (sides corners))
shape-of corners is = record {
  some = first corners is.ring.some;
  around = λ side held. All-contains (λ (e : Edge). pos 0 <ℤ swept e) (sides corners) side is.left held;
  convex = λ side other held other_held.
      (let from = All-contains (λ (corner : Point). pos 0 ≤ℤ height_over side corner) corners (start_of other) (All-contains (λ (e : Edge). All (λ (corner : Point). pos 0 ≤ℤ height_over e corner) corners) (sides corners) side is.convex held) (start-held corners other other_held) in
      let same = reach-height side (start_of other) in
      omega (arith, ints, from, same));
  corner = λ one other held.
      (let (first_held, second_held) = neighbours-held (sides corners) one other held in record {
        before = first_held;
        after = second_held;
        joined = All-contains IsJoined (neighbours (sides corners)) (one, other) (ring-joined corners) held;
        left = All-contains (λ (two : Edge × Edge). pos 0 <ℤ turn two.0 two.1) (neighbours (sides corners)) (one, other) is.turns held;
      });
  next = λ side held. next-held (sides corners) side held;
  previous = λ side held. previous-held (sides corners) side held;
}
  where
    first : (corners : List Point) → corners ≢ [] → (side : Edge) × Contains (sides corners) side
    first [] some = absurd (some refl)
    first (point ∷ []) some = (edge_between point point, Contains-here (edge_between point point) [])
    first (point ∷ next ∷ points) some = (edge_between point next, (0, omega arith, refl))

-- ---- tests

lt-not : (z : ℤ) → int_lt z (pos 0) ≡ not (int_le (pos 0) z)
lt-not z = by (int_lt z (pos 0)) (int_le (pos 0) z) refl refl
  where
    by : (s t : Bool) → int_lt z (pos 0) ≡ s → int_le (pos 0) z ≡ t → s ≡ not t
    by true false e f = refl
    by false true e f = refl
    by true true e f = absurd (omega (arith, ints, e, f))
    by false false e f = absurd (omega (arith, ints, e, f))

-- The pair of sides has the corner that lies furthest to the right.
pub furthest-told : (edge : Edge) (two : Edge × Edge) → is_furthest edge two ≡ true → (turn edge two.0 <ℤ pos 0) × (pos 0 ≤ℤ turn edge two.1)
furthest-told edge two is = by (int_lt (turn edge two.0) (pos 0)) (int_le (pos 0) (turn edge two.1)) refl refl is
  where
    by : (s t : Bool) → int_lt (turn edge two.0) (pos 0) ≡ s → int_le (pos 0) (turn edge two.1) ≡ t → (s && t) ≡ true → (turn edge two.0 <ℤ pos 0) × (pos 0 ≤ℤ turn edge two.1)
    by true true e f _ = (omega (arith, ints, e), omega (arith, ints, f))
    by true false e f h = cc
    by false t e f h = cc

pub furthest-tells : (edge : Edge) (two : Edge × Edge) → turn edge two.0 <ℤ pos 0 → pos 0 ≤ℤ turn edge two.1 → is_furthest edge two ≡ true
furthest-tells edge two before after = by (int_lt (turn edge two.0) (pos 0)) (int_le (pos 0) (turn edge two.1)) refl refl
  where
    by : (s t : Bool) → int_lt (turn edge two.0) (pos 0) ≡ s → int_le (pos 0) (turn edge two.1) ≡ t → (s && t) ≡ true
    by true true e f = refl
    by true false e f = absurd (omega (arith, ints, f, after))
    by false t e f = absurd (omega (arith, ints, e, before))

-- ---- the corner furthest to the right

square : (z : ℤ) → pos 0 ≤ℤ (z *ℤ z)
square (pos n) = above-product (pos n) (pos n) (omega (arith, ints)) (omega (arith, ints))
square (negsuc n) = omega (arith, ints)

module _ (f g d x : Point) where
  by_cross : (crossed f g *ℤ crossed d x) ≡ ((crossed f x *ℤ crossed d g) +ℤ (crossed g x *ℤ (pos 0 -ℤ crossed d f)))
  by_cross =
      identity (times (crossing (term f) (term g)) (crossing (term d) (term x)))
      (plus (times (crossing (term f) (term x)) (crossing (term d) (term g))) (times (crossing (term g) (term x)) (minus (n_of 0) (crossing (term d) (term f))))) (omega arith)

  by_dot : (crossed f g *ℤ dot d x) ≡ ((crossed f x *ℤ dot d g) -ℤ (crossed g x *ℤ dot d f))
  by_dot =
      let along = λ (a b : Point). plus (times (number a.x) (number b.x)) (times (number a.y) (number b.y)) in
      identity (times (crossing (term f) (term g)) (along d x))
      (minus (times (crossing (term f) (term x)) (along d g)) (times (crossing (term g) (term x)) (along d f))) (omega arith)

-- a product that isn't positive, of numbers of which neither is negative and one is positive
no-factor : (k z : ℤ) → pos 0 ≤ℤ k → pos 0 <ℤ z → (k *ℤ z) ≤ℤ pos 0 → k ≡ pos 0
no-factor k z from some upto =
    by_lt_z (pos 0) k
    (λ above. let more = positive-product k z above some in absurd (omega (arith, ints, more, upto)))
    (λ below. omega (arith, ints, from, below))

module _ (f g d x : Point) (left : pos 0 <ℤ crossed f g) (before : crossed d f <ℤ pos 0) (after : pos 0 ≤ℤ crossed d g) (beside_f : pos 0 ≤ℤ crossed f x) (beside_g : pos 0 ≤ℤ crossed g x) where
  one_part : pos 0 ≤ℤ (crossed f x *ℤ crossed d g)
  one_part = above-product (crossed f x) (crossed d g) beside_f after

  other_part : pos 0 ≤ℤ (crossed g x *ℤ (pos 0 -ℤ crossed d f))
  other_part = above-product (crossed g x) (pos 0 -ℤ crossed d f) beside_g (omega (arith, ints, before))

  -- what lies left of both sides at that corner lies no further to the right
  not-further : pos 0 ≤ℤ crossed d x
  not-further =
      let one = one_part in
      let other = other_part in
      let sum = by_cross f g d x in
      above-factor (crossed f g) (crossed d x) left (omega (arith, ints, one, other, sum))

  -- and where it lies as far, no further back
  not-behind : crossed d x ≡ pos 0 → pos 0 ≤ℤ dot d x
  not-behind level =
      let one = one_part in
      let other = other_part in
      let sum : ((crossed f x *ℤ crossed d g) +ℤ (crossed g x *ℤ (pos 0 -ℤ crossed d f))) ≡ pos 0 =
      sym (by_cross f g d x) ∙ ap (λ z. crossed f g *ℤ z) level ∙ identity (times (number (crossed f g)) (n_of 0)) (n_of 0) (omega arith) in
      let on_g = no-factor (crossed g x) (pos 0 -ℤ crossed d f) beside_g (omega (arith, ints, before)) (omega (arith, ints, one, sum)) in
      let dots : (crossed f g *ℤ dot d x) ≡ (crossed f x *ℤ dot d g) =
      by_dot f g d x ∙ ap (λ z. (crossed f x *ℤ dot d g) -ℤ (z *ℤ dot d f)) on_g
      ∙ identity (minus (times (number (crossed f x)) (number (dot d g))) (times (n_of 0) (number (dot d f)))) (times (number (crossed f x)) (number (dot d g))) (omega arith) in
      by_lt_z (pos 0) (crossed d g)
      (λ above.
      let on_f = no-factor (crossed f x) (crossed d g) beside_f above (omega (arith, ints, other, sum)) in
      let flat = dots ∙ ap (λ z. z *ℤ dot d g) on_f ∙ identity (times (n_of 0) (number (dot d g))) (n_of 0) (omega arith) in
      above-factor (crossed f g) (dot d x) left (omega (arith, ints, flat)))
      (λ upto.
      let along : crossed d g ≡ pos 0 = omega (arith, ints, upto, after) in
      let own : (crossed f g *ℤ dot d d) ≡ ((pos 0 -ℤ crossed d f) *ℤ dot d g) =
      by_dot f g d d
      ∙ identity (minus (times (crossing (term f) (term d)) (number (dot d g))) (times (crossing (term g) (term d)) (number (dot d f))))
      (plus (times (minus (n_of 0) (crossing (term d) (term f))) (number (dot d g))) (times (crossing (term d) (term g)) (number (dot d f)))) (omega arith)
      ∙ ap (λ z. ((pos 0 -ℤ crossed d f) *ℤ dot d g) +ℤ (z *ℤ dot d f)) along
      ∙ identity (plus (times (number (pos 0 -ℤ crossed d f)) (number (dot d g))) (times (n_of 0) (number (dot d f)))) (times (number (pos 0 -ℤ crossed d f)) (number (dot d g))) (omega arith) in
      let squares = above-product (crossed f g) (dot d d) (omega (arith, ints, left)) (let first = square d.x in let second = square d.y in omega (arith, ints, first, second)) in
      let forth = above-factor (pos 0 -ℤ crossed d f) (dot d g) (omega (arith, ints, before)) (omega (arith, ints, squares, own)) in
      let found = above-product (crossed f x) (dot d g) beside_f forth in
      above-factor (crossed f g) (dot d x) left (omega (arith, ints, found, dots)))

-- ---- no vector but one neither crosses nor goes along another

some-length : (d f : Point) → crossed d f ≢ pos 0 → pos 0 <ℤ dot d d
some-length d f some =
    let x_x = square d.x in
    let y_y = square d.y in
    by_lt_z (pos 0) (dot d d) (λ is. is)
    (λ upto. absurd (some (ap₂ (λ (a b : ℤ). cross a b f.x f.y) (root d.x (omega (arith, ints, x_x, y_y, upto))) (root d.y (omega (arith, ints, x_x, y_y, upto)))
    ∙ identity (minus (times (n_of 0) (number f.y)) (times (n_of 0) (number f.x))) (n_of 0) (omega arith))))
  where
    root : (z : ℤ) → (z *ℤ z) ≤ℤ pos 0 → z ≡ pos 0
    root z none =
        by_lt_z (pos 0) z
        (λ above. let more = positive-product z z above above in absurd (omega (arith, ints, more, none)))
        (λ upto. by_lt_z z (pos 0)
        (λ below.
        let more = positive-product (pos 0 -ℤ z) (pos 0 -ℤ z) (omega (arith, ints, below)) (omega (arith, ints, below)) in
        let same = identity (times (minus (n_of 0) (number z)) (minus (n_of 0) (number z))) (times (number z) (number z)) (omega arith) in
        absurd (omega (arith, ints, more, same, none)))
        (λ from. omega (arith, ints, upto, from)))

no-way : (d x : Point) → pos 0 <ℤ dot d d → crossed d x ≡ pos 0 → dot d x ≡ pos 0 → (x.x ≡ pos 0) × (x.y ≡ pos 0)
no-way d x some level flat =
    let along = λ (a b : Point). plus (times (number a.x) (number b.x)) (times (number a.y) (number b.y)) in (
      none x.x (identity (times (along d d) (number x.x)) (minus (times (along d x) (number d.x)) (times (crossing (term d) (term x)) (number d.y))) (omega arith)
          ∙ ap₂ (λ (a b : ℤ). (a *ℤ d.x) -ℤ (b *ℤ d.y)) flat level
          ∙ identity (minus (times (n_of 0) (number d.x)) (times (n_of 0) (number d.y))) (n_of 0) (omega arith)),
      none x.y (identity (times (along d d) (number x.y)) (plus (times (along d x) (number d.y)) (times (crossing (term d) (term x)) (number d.x))) (omega arith)
          ∙ ap₂ (λ (a b : ℤ). (a *ℤ d.y) +ℤ (b *ℤ d.x)) flat level
          ∙ identity (plus (times (n_of 0) (number d.y)) (times (n_of 0) (number d.x))) (n_of 0) (omega arith)),
    )
  where
    none : (z : ℤ) → (dot d d *ℤ z) ≡ pos 0 → z ≡ pos 0
    none z is =
        let from = above-factor (dot d d) z some (omega (arith, ints, is)) in
        let same = identity (times (number (dot d d)) (minus (n_of 0) (number z))) (minus (n_of 0) (times (number (dot d d)) (number z))) (omega arith) in
        let upto = above-factor (dot d d) (pos 0 -ℤ z) some (omega (arith, ints, is, same)) in
        omega (arith, ints, from, upto)

-- ---- there is one

module _ (corners : List Point) (convex : IsConvexAroundOrigin corners) (edge : Edge) where
  abbrev pairs : List (Edge × Edge)
  pairs = neighbours (sides corners)

  beside : (side : Edge) (corner : Point) → Contains (sides corners) side → Contains corners corner → pos 0 ≤ℤ height_over side corner
  beside side corner held held_corner =
      All-contains (λ (c : Point). pos 0 ≤ℤ height_over side c) corners corner (All-contains (λ (e : Edge). All (λ (c : Point). pos 0 ≤ℤ height_over e c) corners) (sides corners) side convex.convex held) held_corner

  module _ (two other : Edge × Edge) (held : Contains pairs two) (other_held : Contains pairs other) where
    -- the way from the one corner to the other
    abbrev between : Point
    between = record { x = (start_of other.1).x -ℤ (start_of two.1).x; y = (start_of other.1).y -ℤ (start_of two.1).y }

    corner-here : Contains corners (start_of other.1)
    corner-here = start-held corners other.1 (neighbours-held (sides corners) other.0 other.1 other_held).1

    left_of_second : pos 0 ≤ℤ crossed (way two.1) between
    left_of_second = beside two.1 (start_of other.1) (neighbours-held (sides corners) two.0 two.1 held).1 corner-here

    left_of_first : pos 0 ≤ℤ crossed (way two.0) between
    left_of_first =
        let from = beside two.0 (start_of other.1) (neighbours-held (sides corners) two.0 two.1 held).0 corner-here in
        let joined = All-contains IsJoined pairs two (ring-joined corners) held in
        let same = end-height two.0 (start_of other.1) in
        subst (λ (c : Point). pos 0 ≤ℤ cross (way two.0).x (way two.0).y ((start_of other.1).x -ℤ c.x) ((start_of other.1).y -ℤ c.y)) joined (omega (arith, ints, from, same))
      where
        end-height : (side : Edge) (c : Point) → cross (way side).x (way side).y (c.x -ℤ side.x1) (c.y -ℤ side.y1) ≡ height_over side c
        end-height side c =
            let start = term (start_of side) in
            let end = term (end_of side) in
            identity (crossing (less_terms end start) (less_terms (term c) end)) (crossing (less_terms end start) (less_terms (term c) start)) (omega arith)

    turns_left : pos 0 <ℤ crossed (way two.0) (way two.1)
    turns_left = All-contains (λ (pair : Edge × Edge). pos 0 <ℤ turn pair.0 pair.1) pairs two convex.turns held

  -- so two such corners are one
  furthest-alike : (two other : Edge × Edge) → Contains pairs two → Contains pairs other → is_furthest edge two ≡ true → is_furthest edge other ≡ true → start_of two.1 ≡ start_of other.1
  furthest-alike two other held other_held first second =
      let (before, after) = furthest-told edge two first in
      let (other_before, other_after) = furthest-told edge other second in
      let x = between two other held other_held in
      let y = between other two other_held held in
      let one_x = not-further (way two.0) (way two.1) (way edge) x (turns_left two other held other_held) before after (left_of_first two other held other_held) (left_of_second two other held other_held) in
      let one_y = not-further (way other.0) (way other.1) (way edge) y (turns_left other two other_held held) other_before other_after (left_of_first other two other_held held) (left_of_second other two other_held held) in
      let turned = back-cross (way edge) (start_of two.1) (start_of other.1) in
      let level : crossed (way edge) x ≡ pos 0 = omega (arith, ints, one_x, one_y, turned) in
      let two_x = not-behind (way two.0) (way two.1) (way edge) x (turns_left two other held other_held) before after (left_of_first two other held other_held) (left_of_second two other held other_held) level in
      let two_y = not-behind (way other.0) (way other.1) (way edge) y (turns_left other two other_held held) other_before other_after (left_of_first other two other_held held) (left_of_second other two other_held held) (omega (arith, ints, level, turned)) in
      let back = back-dot (way edge) (start_of two.1) (start_of other.1) in
      let (same_x, same_y) = no-way (way edge) x (some-length (way edge) (way two.0) (λ flat. omega (arith, ints, flat, before))) level (omega (arith, ints, two_x, two_y, back)) in
      ap₂ (λ (a b : ℤ). point_at a b) (one (start_of two.1).x (start_of other.1).x same_x) (one (start_of two.1).y (start_of other.1).y same_y)
    where
      point_at : ℤ → ℤ → Point
      point_at a b = record { x = a; y = b }

      one : (a b : ℤ) → (b -ℤ a) ≡ pos 0 → a ≡ b
      one a b is = omega (arith, ints, is)

      back-cross : (d a b : Point) → cross d.x d.y (a.x -ℤ b.x) (a.y -ℤ b.y) ≡ (pos 0 -ℤ cross d.x d.y (b.x -ℤ a.x) (b.y -ℤ a.y))
      back-cross d a b = identity (crossing (term d) (less_terms (term a) (term b))) (minus (n_of 0) (crossing (term d) (less_terms (term b) (term a)))) (omega arith)

      back-dot : (d a b : Point) → ((d.x *ℤ (a.x -ℤ b.x)) +ℤ (d.y *ℤ (a.y -ℤ b.y))) ≡ (pos 0 -ℤ ((d.x *ℤ (b.x -ℤ a.x)) +ℤ (d.y *ℤ (b.y -ℤ a.y))))
      back-dot d a b =
          let way_x = λ (u v : Point). minus (number u.x) (number v.x) in
          let way_y = λ (u v : Point). minus (number u.y) (number v.y) in
          identity (plus (times (number d.x) (way_x a b)) (times (number d.y) (way_y a b))) (minus (n_of 0) (plus (times (number d.x) (way_x b a)) (times (number d.y) (way_y b a)))) (omega arith)

  -- The corner furthest to the right of an edge is where the pair of sides says it is.
  pub furthest-is : (two : Edge × Edge) → Contains pairs two → is_furthest edge two ≡ true → start_of two.1 ≡ furthest corners edge
  furthest-is two held is = by (sides_at_furthest corners edge) (Contains-filter (is_furthest edge) pairs two is held) (λ other among. furthest-alike two other held (kept other among).0 is (kept other among).1)
    where
      kept : (other : Edge × Edge) → Contains (sides_at_furthest corners edge) other → Contains pairs other × (is_furthest edge other ≡ true)
      kept other among =
          All-contains (λ (pair : Edge × Edge). Contains pairs pair × (is_furthest edge pair ≡ true)) (sides_at_furthest corners edge) other
          (All-filter_passing (is_furthest edge) (λ (pair : Edge × Edge). Contains pairs pair × (is_furthest edge pair ≡ true)) pairs
          (All-among (λ (pair : Edge × Edge). is_furthest edge pair ≡ true → Contains pairs pair × (is_furthest edge pair ≡ true)) pairs (λ pair inside passes. (inside, passes)))) among

      by : (some : List (Edge × Edge)) → Contains some two → ((other : Edge × Edge) → Contains some other → start_of two.1 ≡ start_of other.1) → start_of two.1 ≡ start_of (get_or some 0 (nowhere, nowhere)).1
      by [] (k, within, at) all = absurd (omega (arith, within))
      by (first ∷ others) among all = all first (Contains-here first others)

  -- An edge that isn't a point has such a pair.
  pub furthest-pair : start_of edge ≢ end_of edge → (two : Edge × Edge) × Contains pairs two × (is_furthest edge two ≡ true)
  furthest-pair proper =
      let (vector, crosses) = not-along edge proper in
      let (one, other, is) = has-furthest (sides corners) pairs (shape-of corners convex) (way edge) vector crosses in
      ((one, other), is.pair, furthest-tells edge (one, other) is.before is.after)
    where
      not-along : (edge : Edge) → start_of edge ≢ end_of edge → (vector : Point) × (crossed (way edge) vector ≢ pos 0)
      not-along edge proper =
          by_lt_z edge.x0 edge.x1
          (λ right. (record { x = pos 0; y = pos 1 }, λ none. let is = up (edge.x1 -ℤ edge.x0) (edge.y1 -ℤ edge.y0) in omega (arith, ints, none, is, right)))
          (λ upto. by_lt_z edge.x1 edge.x0
          (λ left. (record { x = pos 0; y = pos 1 }, λ none. let is = up (edge.x1 -ℤ edge.x0) (edge.y1 -ℤ edge.y0) in omega (arith, ints, none, is, left)))
          (λ from. (
            record { x = pos 1; y = pos 0 },
            λ none. let is = across (edge.x1 -ℤ edge.x0) (edge.y1 -ℤ edge.y0) in
                proper (ap₂ (λ (a b : ℤ). point_at a b) (omega (arith, ints, upto, from)) (omega (arith, ints, none, is))),
          )))
        where
          point_at : ℤ → ℤ → Point
          point_at a b = record { x = a; y = b }

          up : (x y : ℤ) → cross x y (pos 0) (pos 1) ≡ x
          up x y = identity (minus (times (number x) (n_of 1)) (times (number y) (n_of 0))) (number x) (omega arith)

          across : (x y : ℤ) → cross x y (pos 1) (pos 0) ≡ (pos 0 -ℤ y)
          across x y = identity (minus (times (number x) (n_of 0)) (times (number y) (n_of 1))) (minus (n_of 0) (number y)) (omega arith)

-- ---- the sides between two such corners

-- a number, or 0
abbrev pick : Bool → ℤ → ℤ
pick test z = cond test z (pos 0)

-- the four cases that can't be
module _ (a a' b b' k t : ℤ) (some : pos 0 <ℤ k) (turns : pos 0 <ℤ t) (is : (k *ℤ t) ≡ ((a *ℤ b') -ℤ (a' *ℤ b))) where
  signs : (a *ℤ b') ≤ℤ pos 0 → pos 0 ≤ℤ (a' *ℤ b) → ⊥
  signs down up = let product = positive-product k t some turns in omega (arith, ints, is, down, up, product)

  falls : (u v : ℤ) → pos 0 ≤ℤ u → v ≤ℤ pos 0 → (u *ℤ v) ≤ℤ pos 0
  falls u v first second = let more = above-product u (pos 0 -ℤ v) first (omega (arith, ints, second)) in let same = identity (times (number u) (minus (n_of 0) (number v))) (minus (n_of 0) (times (number u) (number v))) (omega arith) in omega (arith, ints, more, same)

  falls_too : (u v : ℤ) → u ≤ℤ pos 0 → pos 0 ≤ℤ v → (u *ℤ v) ≤ℤ pos 0
  falls_too u v first second = let more = falls v u second first in let same = identity (times (number u) (number v)) (times (number v) (number u)) (omega arith) in omega (arith, ints, more, same)

  rises : (u v : ℤ) → u ≤ℤ pos 0 → v ≤ℤ pos 0 → pos 0 ≤ℤ (u *ℤ v)
  rises u v first second = let more = above-product (pos 0 -ℤ u) (pos 0 -ℤ v) (omega (arith, ints, first)) (omega (arith, ints, second)) in let same = identity (times (minus (n_of 0) (number u)) (minus (n_of 0) (number v))) (times (number u) (number v)) (omega arith) in omega (arith, ints, more, same)

  picks : (z : ℤ) → (pick (int_le (pos 0) a && int_lt b (pos 0)) z -ℤ pick (int_le (pos 0) a' && int_lt b' (pos 0)) z) ≡ (pick (int_lt b (pos 0) && int_le (pos 0) b') z -ℤ pick (int_lt a (pos 0) && int_le (pos 0) a') z)
  picks z = rw (lt-not a, lt-not b, lt-not b') (by (int_le (pos 0) a) (int_le (pos 0) a') (int_le (pos 0) b) (int_le (pos 0) b') refl refl refl refl)
    where
      by : (r s t' u : Bool) → int_le (pos 0) a ≡ r → int_le (pos 0) a' ≡ s → int_le (pos 0) b ≡ t' → int_le (pos 0) b' ≡ u
          → (pick (r && not t') z -ℤ pick (s && not u) z) ≡ (pick (not t' && u) z -ℤ pick (not r && s) z)
      by true true true true e f g h = refl
      by true true true false e f g h = absurd (signs (falls a b' (omega (arith, ints, e)) (omega (arith, ints, h))) (above-product a' b (omega (arith, ints, f)) (omega (arith, ints, g))))
      by true true false true e f g h = refl
      by true true false false e f g h = omega (arith, ints)
      by true false true true e f g h = refl
      by true false true false e f g h = refl
      by true false false true e f g h = refl
      by true false false false e f g h = absurd (signs (falls a b' (omega (arith, ints, e)) (omega (arith, ints, h))) (rises a' b (omega (arith, ints, f)) (omega (arith, ints, g))))
      by false true true true e f g h = absurd (signs (falls_too a b' (omega (arith, ints, e)) (omega (arith, ints, h))) (above-product a' b (omega (arith, ints, f)) (omega (arith, ints, g))))
      by false true true false e f g h = refl
      by false true false true e f g h = omega (arith, ints)
      by false true false false e f g h = refl
      by false false true true e f g h = refl
      by false false true false e f g h = refl
      by false false false true e f g h = absurd (signs (falls_too a b' (omega (arith, ints, e)) (omega (arith, ints, h))) (rises a' b (omega (arith, ints, f)) (omega (arith, ints, g))))
      by false false false false e f g h = refl

module _ (corners : List Point) (convex : IsConvexAroundOrigin corners) (give : Point → ℤ) where
  -- what the furthest corner gives, told by all corners
  furthest-gives : (edge : Edge) → start_of edge ≢ end_of edge → total (λ two. pick (is_furthest edge two) (give (start_of two.1))) (neighbours (sides corners)) ≡ give (furthest corners edge)
  furthest-gives edge proper =
      let (two, held, is) = furthest-pair corners convex edge proper in
      total-once (is_furthest edge) (λ (pair : Edge × Edge). start_of pair.1) give (furthest corners edge) (neighbours (sides corners))
      (second-starts-differ corners convex.ring.once)
      (All-among (λ (pair : Edge × Edge). is_furthest edge pair ≡ true → start_of pair.1 ≡ furthest corners edge) (neighbours (sides corners)) (λ pair inside passes. furthest-is corners convex edge pair inside passes))
      two held is

  -- The sides between the furthest corners of an edge and the next one, where these turn left, go from one to the other.
  pub fan-gains : (edge next : Edge) → start_of edge ≢ end_of edge → start_of next ≢ end_of next → pos 0 <ℤ turn edge next
      → total (λ side. give (end_of side) -ℤ give (start_of side)) (fan corners edge next) ≡ (give (furthest corners next) -ℤ give (furthest corners edge))
  fan-gains edge next proper next_proper left =
      sym (total-filter passes (λ side. give (end_of side) -ℤ give (start_of side)) (sides corners))
      ∙ total-same (λ side. pick (passes side) (give (end_of side) -ℤ give (start_of side))) (λ side. to side -ℤ from side) (sides corners)
      (All-among (λ (side : Edge). pick (passes side) (give (end_of side) -ℤ give (start_of side)) ≡ (to side -ℤ from side)) (sides corners) (λ side held. split (passes side) (give (end_of side)) (give (start_of side))))
      ∙ total-difference to from (sides corners)
      ∙ ap₂ (λ (u v : ℤ). u -ℤ v) (sym (total-firsts to (sides corners))) (sym (total-seconds from (sides corners)))
      ∙ sym (total-difference (λ (two : Edge × Edge). to two.0) (λ (two : Edge × Edge). from two.1) (neighbours (sides corners)))
      ∙ total-same (λ (two : Edge × Edge). to two.0 -ℤ from two.1) (λ (two : Edge × Edge). pick (is_furthest next two) (give (start_of two.1)) -ℤ pick (is_furthest edge two) (give (start_of two.1))) (neighbours (sides corners))
      (All-among (λ (two : Edge × Edge). (to two.0 -ℤ from two.1) ≡ (pick (is_furthest next two) (give (start_of two.1)) -ℤ pick (is_furthest edge two) (give (start_of two.1)))) (neighbours (sides corners)) local)
      ∙ total-difference (λ (two : Edge × Edge). pick (is_furthest next two) (give (start_of two.1))) (λ (two : Edge × Edge). pick (is_furthest edge two) (give (start_of two.1))) (neighbours (sides corners))
      ∙ ap₂ (λ (u v : ℤ). u -ℤ v) (furthest-gives next next_proper) (furthest-gives edge proper)
    where
      passes : Edge → Bool
      passes side = is_of_fan edge next side

      to : Edge → ℤ
      to side = pick (passes side) (give (end_of side))

      from : Edge → ℤ
      from side = pick (passes side) (give (start_of side))

      split : (t : Bool) (u v : ℤ) → pick t (u -ℤ v) ≡ (pick t u -ℤ pick t v)
      split true u v = refl
      split false u v = omega (arith, ints)

      local : (two : Edge × Edge) → Contains (neighbours (sides corners)) two → (to two.0 -ℤ from two.1) ≡ (pick (is_furthest next two) (give (start_of two.1)) -ℤ pick (is_furthest edge two) (give (start_of two.1)))
      local two held =
          let joined = All-contains IsJoined (neighbours (sides corners)) two (ring-joined corners) held in
          let turns = All-contains (λ (pair : Edge × Edge). pos 0 <ℤ turn pair.0 pair.1) (neighbours (sides corners)) two convex.turns held in
          let four = plucker (way edge) (way next) (way two.0) (way two.1) in
          ap (λ (c : Point). pick (passes two.0) (give c) -ℤ from two.1) joined
          ∙ picks (turn edge two.0) (turn edge two.1) (turn next two.0) (turn next two.1) (turn edge next) (turn two.0 two.1) left turns
          (products (turn edge next *ℤ turn two.0 two.1) (turn next two.0) (turn edge two.1) (turn edge two.0 *ℤ turn next two.1) four)
          (give (start_of two.1))
        where
          products : (u x y v : ℤ) → (u +ℤ (x *ℤ y)) ≡ v → u ≡ (v -ℤ (y *ℤ x))
          products u x y v is = let same = identity (times (number x) (number y)) (times (number y) (number x)) (omega arith) in omega (arith, ints, is, same)
