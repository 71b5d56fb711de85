-- How the band between an edge and the edge moved winds.
use Rattle.std.proofs.Common.{◌≡◌, ◌≢◌, ◌⊎◌, inl, inr, ⊎_elim, ℕ, ℤ, pos, ◌+ℤ◌, ◌-ℤ◌, ◌*ℤ◌, ◌≤ℤ◌, ◌<ℤ◌, List, [], ◌∷◌, ap₂, subst, sym, ◌∙◌, arith}
use Rattle.std.proofs.lemmas.Int.{by_lt_z, ints}
use Rattle.plane.specs.declared.edge.Edge.{Edge}
use Rattle.plane.specs.declared.point.Point.{Point}
use Rattle.plane.specs.Ends.{edge_between, end_of, reversed, start_of}
use Rattle.plane.specs.Meet.Crosses.{cross}
use Rattle.plane.specs.Meet.Edges.{RationalPoint}
use Rattle.noding.specs.Windings.{count, winding}
use Rattle.offset.specs.Pieces.{band, part_of_fan}
use Rattle.offset.specs.Raw.{moved, moved_edge}
use Rattle.plane.proofs.MeetLemmas.Identities.{Term, identity, minus, number, plus, times}
use Rattle.noding.proofs.SnapLemmas.Numbers.{n_of, product_positive}
use Rattle.offset.proofs.PieceLemmas.Sides.{before-both, behind-both, is_passed, left_by, leftwards-over, passed, passed_by, right_by, rightwards-under, winding-passed}
use Rattle.offset.proofs.PieceLemmas.Triangles.{IsTriangle, WindsOnce, is-triangle, triangle-winds, winds, winds-once}

-- ---- numbers alone

-- What winds so around a point, which lies so far to the left of four sides.
pub record WindsSome (winds a b c d : ℤ) : Type 0 where
  pub natural : pos 0 ≤ℤ winds
  pub closed : winds ≢ pos 0 → (pos 0 ≤ℤ a) × (pos 0 ≤ℤ b) × (pos 0 ≤ℤ c) × (pos 0 ≤ℤ d)
  pub inside : pos 0 <ℤ a → pos 0 <ℤ b → pos 0 <ℤ c → pos 0 <ℤ d → pos 0 <ℤ winds

-- what an edge counts, and what it counts the other way round
pub back_and_forth : (p r c : ℤ) → (passed r p c +ℤ passed p r (pos 0 -ℤ c)) ≡ pos 0
back_and_forth p r c = let twice : (pos 0 -ℤ (pos 0 -ℤ c)) ≡ c = omega (arith, ints) in rw twice (none (count (is_passed r p c)) (count (is_passed p r (pos 0 -ℤ c))))
  where
    none : (u v : ℤ) → ((u -ℤ v) +ℤ (v -ℤ u)) ≡ pos 0
    none u v = omega (arith, ints)

-- A parallelogram is made of two triangles: that of the corners that lie p, q and r to the right of the point, and that of
-- those at p, r and p + r - q.
abbrev four : ℤ → ℤ → ℤ → ℤ → ℤ → ℤ → ℤ
four p q r a b c = passed p q a +ℤ (passed q r b +ℤ (passed r ((p +ℤ r) -ℤ q) (b +ℤ c) +ℤ passed ((p +ℤ r) -ℤ q) p (a +ℤ c)))

module _ (p q r a b c : ℤ) (is : IsTriangle p q r a b c) where
  abbrev s : ℤ
  s = (p +ℤ r) -ℤ q

  other : IsTriangle p r s (pos 0 -ℤ c) (b +ℤ c) (a +ℤ c)
  other = record {
    weighed = (let sum = is.weighed in
        let same = identity (plus (plus (times (plus (number b) (number c)) (number p)) (times (plus (number a) (number c)) (number r))) (times (minus (n_of 0) (number c)) (minus (plus (number p) (number r)) (number q))))
        (plus (plus (times (number b) (number p)) (times (number c) (number q))) (times (number a) (number r))) (omega arith) in
        same ∙ sum);
    area = (let area = is.area in omega (arith, ints, area));
    wide = λ x y z. is.wide x (omega (arith, ints, x, y, z)) y;
  }

  first : WindsOnce (winds p q r a b c) a b c
  first = winds-once p q r a b c is

  second : WindsOnce (winds p r s (pos 0 -ℤ c) (b +ℤ c) (a +ℤ c)) (pos 0 -ℤ c) (b +ℤ c) (a +ℤ c)
  second = winds-once p r s (pos 0 -ℤ c) (b +ℤ c) (a +ℤ c) other

  parted : four p q r a b c ≡ (winds p q r a b c +ℤ winds p r s (pos 0 -ℤ c) (b +ℤ c) (a +ℤ c))
  parted = let none = back_and_forth p r c in omega (arith, ints, none)

  natural-of : (w x y z : ℤ) → WindsOnce w x y z → pos 0 ≤ℤ w
  natural-of w x y z found = ⊎_elim (λ none. omega (arith, ints, none)) (λ once. omega (arith, ints, once)) found.once

  -- a point of the common side is wound around by one of the triangles
  between : c ≡ pos 0 → pos 0 <ℤ a → pos 0 <ℤ b → (winds p q r a b c ≡ pos 1) ⊎ (winds p r s (pos 0 -ℤ c) (b +ℤ c) (a +ℤ c) ≡ pos 1)
  between flat over_a over_b =
      by_lt_z p (pos 0)
      (λ p_left. by_lt_z (pos 0) r
      (λ r_right. inr (across p_left r_right))
      (λ r_left.
      let sum = is.weighed in
      let one = product_positive (pos 0 -ℤ p) b (omega (arith, ints, p_left)) over_b in
      let one_is = identity (times (minus (n_of 0) (number p)) (number b)) (minus (n_of 0) (times (number b) (number p))) (omega arith) in
      absurd (omega (arith, ints, sum, one, one_is, product_q, low_r r_left))))
      (λ p_from. by_lt_z (pos 0) p
      (λ p_right. by_lt_z (pos 0) r
      (λ r_right.
      let sum = is.weighed in
      let one = product_positive b p over_b p_right in
      let two = product_positive a r over_a r_right in
      absurd (omega (arith, ints, sum, one, two, product_q)))
      (λ r_left. inl (back p_right r_left)))
      (λ p_upto. upright (omega (arith, ints, p_from, p_upto))))
    where
      product_q : (c *ℤ q) ≡ pos 0
      product_q = rw flat (identity (times (n_of 0) (number q)) (n_of 0) (omega arith))

      low_r : r ≤ℤ pos 0 → (a *ℤ r) ≤ℤ pos 0
      low_r left =
          by_lt_z r (pos 0)
          (λ less.
          let some = product_positive a (pos 0 -ℤ r) over_a (omega (arith, ints, less)) in
          let same = identity (times (number a) (minus (n_of 0) (number r))) (minus (n_of 0) (times (number a) (number r))) (omega arith) in
          omega (arith, ints, some, same))
          (λ from.
          let none : r ≡ pos 0 = omega (arith, ints, left, from) in
          let same = identity (times (number a) (n_of 0)) (n_of 0) (omega arith) in
          rw none (omega (arith, ints, same)))

      across : p <ℤ pos 0 → pos 0 <ℤ r → winds p r s (pos 0 -ℤ c) (b +ℤ c) (a +ℤ c) ≡ pos 1
      across left right =
          let one = rightwards-under p r (pos 0 -ℤ c) (omega (arith, ints, left)) right (omega (arith, ints, flat)) in
          by_lt_z (pos 0) s
          (λ s_right.
          let two = before-both r s (b +ℤ c) right s_right in
          let three = leftwards-over s p (a +ℤ c) s_right (omega (arith, ints, left)) (omega (arith, ints, flat, over_a)) in
          omega (arith, ints, one, two, three))
          (λ s_left.
          let two = leftwards-over r s (b +ℤ c) right s_left (omega (arith, ints, flat, over_b)) in
          let three = behind-both s p (a +ℤ c) s_left (omega (arith, ints, left)) in
          omega (arith, ints, one, two, three))

      back : pos 0 <ℤ p → r ≤ℤ pos 0 → winds p q r a b c ≡ pos 1
      back right left =
          let three = rightwards-under r p c left right (omega (arith, ints, flat)) in
          by_lt_z (pos 0) q
          (λ q_right.
          let one = before-both p q a right q_right in
          let two = leftwards-over q r b q_right left over_b in
          omega (arith, ints, one, two, three))
          (λ q_left.
          let one = leftwards-over p q a right q_left over_a in
          let two = behind-both q r b q_left left in
          omega (arith, ints, one, two, three))

      upright : p ≡ pos 0 → (winds p q r a b c ≡ pos 1) ⊎ (winds p r s (pos 0 -ℤ c) (b +ℤ c) (a +ℤ c) ≡ pos 1)
      upright none =
          let sum = is.weighed in
          let b_p : (b *ℤ p) ≡ pos 0 = rw none (identity (times (number b) (n_of 0)) (n_of 0) (omega arith)) in
          by_lt_z (pos 0) r
          (λ right. let some = product_positive a r over_a right in absurd (omega (arith, ints, sum, b_p, some, product_q)))
          (λ r_upto. by_lt_z r (pos 0)
          (λ less.
          let some = product_positive a (pos 0 -ℤ r) over_a (omega (arith, ints, less)) in
          let same = identity (times (number a) (minus (n_of 0) (number r))) (minus (n_of 0) (times (number a) (number r))) (omega arith) in
          absurd (omega (arith, ints, sum, b_p, some, same, product_q)))
          (λ r_from.
          let flat_r : r ≡ pos 0 = omega (arith, ints, r_upto, r_from) in
          by_lt_z (pos 0) q
          (λ q_right.
          let one = rightwards-under p q a (omega (arith, ints, none)) q_right (omega (arith, ints, over_a)) in
          let two = leftwards-over q r b q_right r_upto over_b in
          let three = behind-both r p c r_upto (omega (arith, ints, none)) in
          inl (omega (arith, ints, one, two, three)))
          (λ q_upto. by_lt_z q (pos 0)
          (λ q_left.
          let s_right : pos 0 <ℤ s = omega (arith, ints, none, flat_r, q_left) in
          let one = behind-both p r (pos 0 -ℤ c) (omega (arith, ints, none)) r_upto in
          let two = rightwards-under r s (b +ℤ c) r_upto s_right (omega (arith, ints, flat, over_b)) in
          let three = leftwards-over s p (a +ℤ c) s_right (omega (arith, ints, none)) (omega (arith, ints, flat, over_a)) in
          inr (omega (arith, ints, one, two, three)))
          (λ q_from. absurd (is.wide none (omega (arith, ints, q_upto, q_from)) flat_r)))))

  -- So it winds around no point less than not at all, around what lies strictly to the left of each side, and around nothing to
  -- the right of one.
  pub four-winds : WindsSome (four p q r a b c) a b (b +ℤ c) (a +ℤ c)
  four-winds = record {
    natural =
        (let one = natural-of (winds p q r a b c) a b c first in
        let two = natural-of (winds p r s (pos 0 -ℤ c) (b +ℤ c) (a +ℤ c)) (pos 0 -ℤ c) (b +ℤ c) (a +ℤ c) second in
        let sum = parted in
        omega (arith, ints, one, two, sum));
    closed = closed;
    inside = inside;
  }
    where
      closed : four p q r a b c ≢ pos 0 → (pos 0 ≤ℤ a) × (pos 0 ≤ℤ b) × (pos 0 ≤ℤ (b +ℤ c)) × (pos 0 ≤ℤ (a +ℤ c))
      closed some =
          let sum = parted in
          elim first.once [
            | inl none ↦
                let (x, y, z) = second.closed (λ too. some (omega (arith, ints, sum, none, too))) in
                (omega (arith, ints, x, z), omega (arith, ints, x, y), y, z)
            | inr once ↦
                let (x, y, z) = first.closed (λ too. absurd (omega (arith, ints, once, too))) in
                (x, y, omega (arith, ints, y, z), omega (arith, ints, x, z))
          ]

      inside : pos 0 <ℤ a → pos 0 <ℤ b → pos 0 <ℤ (b +ℤ c) → pos 0 <ℤ (a +ℤ c) → pos 0 <ℤ four p q r a b c
      inside over_a over_b over_c over_d =
          let sum = parted in
          let one = natural-of (winds p q r a b c) a b c first in
          let two = natural-of (winds p r s (pos 0 -ℤ c) (b +ℤ c) (a +ℤ c)) (pos 0 -ℤ c) (b +ℤ c) (a +ℤ c) second in
          by_lt_z (pos 0) c
          (λ above. let once = first.inside over_a over_b above in omega (arith, ints, sum, once, two))
          (λ upto. by_lt_z c (pos 0)
          (λ below. let once = second.inside (omega (arith, ints, below)) over_c over_d in omega (arith, ints, sum, once, one))
          (λ from. ⊎_elim (λ once. omega (arith, ints, sum, once, two)) (λ once. omega (arith, ints, sum, once, one)) (between (omega (arith, ints, upto, from)) over_a over_b)))

-- ---- bands and fans

abbrev way : ℤ → ℤ → Term
way from to = minus (number to) (number from)

abbrev crossed : Term → Term → Term → Term → Term
crossed x y other_x other_y = minus (times x other_y) (times y other_x)

-- what lies to the left of a moved edge, by the others' sides
left_of_moved : (n : ℕ) (x y ux uy vx vy cx cy : ℤ)
    → cross ((cx +ℤ vx) -ℤ (cx +ℤ ux)) ((cy +ℤ vy) -ℤ (cy +ℤ uy)) (x -ℤ (pos n *ℤ (cx +ℤ ux))) (y -ℤ (pos n *ℤ (cy +ℤ uy)))
    ≡ (cross ((cx +ℤ ux) -ℤ ux) ((cy +ℤ uy) -ℤ uy) (x -ℤ (pos n *ℤ ux)) (y -ℤ (pos n *ℤ uy)) +ℤ cross (vx -ℤ (cx +ℤ ux)) (vy -ℤ (cy +ℤ uy)) (x -ℤ (pos n *ℤ (cx +ℤ ux))) (y -ℤ (pos n *ℤ (cy +ℤ uy))))
left_of_moved n x y ux uy vx vy cx cy =
    let at = λ (a b : ℤ). plus (number a) (number b) in
    let out = λ (z : ℤ) (t : Term). minus (number z) (times (n_of n) t) in
    identity (crossed (minus (at cx vx) (at cx ux)) (minus (at cy vy) (at cy uy)) (out x (at cx ux)) (out y (at cy uy)))
    (plus (crossed (minus (at cx ux) (number ux)) (minus (at cy uy) (number uy)) (out x (number ux)) (out y (number uy))) (crossed (minus (number vx) (at cx ux)) (minus (number vy) (at cy uy)) (out x (at cx ux)) (out y (at cy uy))))
    (omega arith)

left_of_last : (n : ℕ) (x y ux uy vx vy cx cy : ℤ)
    → cross (vx -ℤ (cx +ℤ vx)) (vy -ℤ (cy +ℤ vy)) (x -ℤ (pos n *ℤ (cx +ℤ vx))) (y -ℤ (pos n *ℤ (cy +ℤ vy)))
    ≡ (cross (ux -ℤ vx) (uy -ℤ vy) (x -ℤ (pos n *ℤ vx)) (y -ℤ (pos n *ℤ vy)) +ℤ cross (vx -ℤ (cx +ℤ ux)) (vy -ℤ (cy +ℤ uy)) (x -ℤ (pos n *ℤ (cx +ℤ ux))) (y -ℤ (pos n *ℤ (cy +ℤ uy))))
left_of_last n x y ux uy vx vy cx cy =
    let at = λ (a b : ℤ). plus (number a) (number b) in
    let out = λ (z : ℤ) (t : Term). minus (number z) (times (n_of n) t) in
    identity (crossed (minus (number vx) (at cx vx)) (minus (number vy) (at cy vy)) (out x (at cx vx)) (out y (at cy vy)))
    (plus (crossed (minus (number ux) (number vx)) (minus (number uy) (number vy)) (out x (number vx)) (out y (number vy))) (crossed (minus (number vx) (at cx ux)) (minus (number vy) (at cy uy)) (out x (at cx ux)) (out y (at cy uy))))
    (omega arith)

right_of_last : (n : ℕ) (x ux vx cx : ℤ) → ((pos n *ℤ (cx +ℤ vx)) -ℤ x) ≡ ((((pos n *ℤ vx) -ℤ x) +ℤ ((pos n *ℤ (cx +ℤ ux)) -ℤ x)) -ℤ ((pos n *ℤ ux) -ℤ x))
right_of_last n x ux vx cx =
    let seen = λ (t : Term). minus (times (n_of n) t) (number x) in
    identity (seen (plus (number cx) (number vx))) (minus (plus (seen (number vx)) (seen (plus (number cx) (number ux)))) (seen (number ux))) (omega arith)

-- the area of half of it
half_area : (ux uy vx vy cx cy : ℤ) → cross (ux -ℤ vx) (uy -ℤ vy) ((cx +ℤ ux) -ℤ vx) ((cy +ℤ uy) -ℤ vy) ≡ cross cx cy (vx -ℤ ux) (vy -ℤ uy)
half_area ux uy vx vy cx cy =
    identity (crossed (way vx ux) (way vy uy) (minus (plus (number cx) (number ux)) (number vx)) (minus (plus (number cy) (number uy)) (number vy))) (crossed (number cx) (number cy) (way ux vx) (way uy vy)) (omega arith)

same-winds : (w v a b c d e f : ℤ) → w ≡ v → c ≡ e → d ≡ f → WindsSome v a b e f → WindsSome w a b c d
same-winds w v a b c d e f first second third is =
    subst (λ (z : ℤ). WindsSome z a b c d) (sym first) (subst (λ (z : ℤ). WindsSome v a b z d) (sym second) (subst (λ (z : ℤ). WindsSome v a b e z) (sym third) is))

module _ (edge : Edge) (by : Point) (some : pos 0 <ℤ cross by.x by.y (edge.x1 -ℤ edge.x0) (edge.y1 -ℤ edge.y0)) (point : RationalPoint) where
  -- the corners of half of it
  abbrev v : Point
  v = end_of edge

  abbrev u : Point
  u = start_of edge

  abbrev w : Point
  w = moved by u

  -- It winds around no point less than not at all, around each point strictly to the left of its four sides, and around none
  -- to the right of one of them.
  pub band-winds : WindsSome (winding (band edge by) point) (left_by (reversed edge) point) (left_by (edge_between u (moved by u)) point) (left_by (moved_edge by edge) point) (left_by (edge_between (moved by v) v) point)
  band-winds =
      let p = right_by v.x point in
      let q = right_by u.x point in
      let r = right_by w.x point in
      let a = left_by (reversed edge) point in
      let b = left_by (edge_between u w) point in
      let c = left_by (edge_between w v) point in
      let moved_is = left_of_moved point.n point.x point.y edge.x0 edge.y0 edge.x1 edge.y1 by.x by.y in
      let last_is = left_of_last point.n point.x point.y edge.x0 edge.y0 edge.x1 edge.y1 by.x by.y in
      let right_is = right_of_last point.n point.x edge.x0 edge.x1 by.x in
      let moved_counts = ap₂ (λ (s l : ℤ). passed r s l) right_is moved_is in
      let last_counts = ap₂ (λ (s l : ℤ). passed s p l) right_is last_is in
      same-winds (winding (band edge by) point) (four p q r a b c) a b (left_by (moved_edge by edge) point) (left_by (edge_between (moved by v) v) point) (b +ℤ c) (a +ℤ c)
      (winding-passed (band edge by) point
      ∙ order (passed_by (moved_edge by edge) point) (passed_by (edge_between (moved by v) v) point) (passed p q a) (passed q r b)
      ∙ ap₂ (λ (y z : ℤ). passed p q a +ℤ (passed q r b +ℤ (y +ℤ z))) moved_counts last_counts)
      moved_is last_is
      (four-winds p q r a b c (is-triangle v u w (let same = half_area edge.x0 edge.y0 edge.x1 edge.y1 by.x by.y in omega (arith, ints, some, same)) point))
    where
      order : (k l m n : ℤ) → (k +ℤ (l +ℤ (m +ℤ (n +ℤ pos 0)))) ≡ (m +ℤ (n +ℤ (k +ℤ l)))
      order k l m n = omega (arith, ints)

-- It winds so where the origin lies strictly to the left of the side.
pub part-winds : (at : Point) (side : Edge) (point : RationalPoint) → pos 0 <ℤ cross side.x0 side.y0 side.x1 side.y1
    → WindsOnce (winding (part_of_fan at side) point) (left_by (edge_between at (moved at (start_of side))) point) (left_by (moved_edge at side) point) (left_by (edge_between (moved at (end_of side)) at) point)
part-winds at side point some =
    triangle-winds at (moved at (start_of side)) (moved at (end_of side))
    (let same = area at.x at.y side.x0 side.y0 side.x1 side.y1 in omega (arith, ints, some, same)) point
  where
    area : (x y ax ay bx by : ℤ) → cross ((x +ℤ ax) -ℤ x) ((y +ℤ ay) -ℤ y) ((x +ℤ bx) -ℤ x) ((y +ℤ by) -ℤ y) ≡ cross ax ay bx by
    area x y ax ay bx by =
        let step = λ (a b : ℤ). minus (plus (number a) (number b)) (number a) in
        identity (crossed (step x ax) (step y ay) (step x bx) (step y by)) (crossed (number ax) (number ay) (number bx) (number by)) (omega arith)
