-- How a triangle winds: once or not at all, once around each point strictly inside it, and around none outside it.
use Rattle.std.proofs.Common.{◌≡◌, ◌≢◌, ◌⊎◌, inl, inr, ⊎_elim, ℕ, ℤ, pos, ◌+ℤ◌, ◌-ℤ◌, ◌*ℤ◌, ◌≤ℤ◌, ◌<ℤ◌, List, [], ◌∷◌, ap, ap₂, refl, subst, sym, ◌∙◌, arith}
use Rattle.std.proofs.lemmas.Int.{by_lt_z, ints}
use Rattle.plane.specs.declared.edge.Edge.{Edge}
use Rattle.plane.specs.declared.point.Point.{Point}
use Rattle.plane.specs.Ends.{edge_between}
use Rattle.plane.specs.Meet.Crosses.{cross}
use Rattle.plane.specs.Meet.Edges.{RationalPoint}
use Rattle.noding.specs.Windings.{winding}
use Rattle.offset.specs.Pieces.{triangle}
use Rattle.plane.proofs.MeetLemmas.Identities.{Term, identity, minus, number, plus, times}
use Rattle.plane.proofs.SweepLineLemmas.Gaps.{product_above}
use Rattle.noding.proofs.SnapLemmas.Numbers.{n_of, product_positive, zero_by}
use Rattle.offset.proofs.PieceLemmas.Sides.{before-both, behind-both, left_by, leftwards-over, leftwards-under, passed, passed_by, right_by, rightwards-over, rightwards-under, winding-passed}

-- ---- signs of products

-- with one sign turned, or both
turned-second : (a b : ℤ) → (a *ℤ (pos 0 -ℤ b)) ≡ (pos 0 -ℤ (a *ℤ b))
turned-second a b = identity (times (number a) (minus (n_of 0) (number b))) (minus (n_of 0) (times (number a) (number b))) (omega arith)

turned-first : (a b : ℤ) → ((pos 0 -ℤ a) *ℤ b) ≡ (pos 0 -ℤ (a *ℤ b))
turned-first a b = identity (times (minus (n_of 0) (number a)) (number b)) (minus (n_of 0) (times (number a) (number b))) (omega arith)

turned-both : (a b : ℤ) → ((pos 0 -ℤ a) *ℤ (pos 0 -ℤ b)) ≡ (a *ℤ b)
turned-both a b = identity (times (minus (n_of 0) (number a)) (minus (n_of 0) (number b))) (times (number a) (number b)) (omega arith)

module _ (a b : ℤ) where
  up_down : pos 0 ≤ℤ a → b ≤ℤ pos 0 → (a *ℤ b) ≤ℤ pos 0
  up_down first second = let found = product_above a (pos 0 -ℤ b) first (omega (arith, ints, second)) in let is = turned-second a b in omega (arith, ints, found, is)

  down_up : a ≤ℤ pos 0 → pos 0 ≤ℤ b → (a *ℤ b) ≤ℤ pos 0
  down_up first second = let found = product_above (pos 0 -ℤ a) b (omega (arith, ints, first)) second in let is = turned-first a b in omega (arith, ints, found, is)

  down_down : a ≤ℤ pos 0 → b ≤ℤ pos 0 → pos 0 ≤ℤ (a *ℤ b)
  down_down first second = let found = product_above (pos 0 -ℤ a) (pos 0 -ℤ b) (omega (arith, ints, first)) (omega (arith, ints, second)) in let is = turned-both a b in omega (arith, ints, found, is)

  below_above : a <ℤ pos 0 → pos 0 <ℤ b → (a *ℤ b) <ℤ pos 0
  below_above first second = let found = product_positive (pos 0 -ℤ a) b (omega (arith, ints, first)) second in let is = turned-first a b in omega (arith, ints, found, is)

exchanged : (a b : ℤ) → (a *ℤ b) ≡ (b *ℤ a)
exchanged a b = identity (times (number a) (number b)) (times (number b) (number a)) (omega arith)

-- ---- three sides, by numbers alone

-- What winds so around a point, which lies so far to the left of three sides.
pub record WindsOnce (winds a b c : ℤ) : Type 0 where
  pub once : (winds ≡ pos 0) ⊎ (winds ≡ pos 1)
  pub closed : winds ≢ pos 0 → (pos 0 ≤ℤ a) × (pos 0 ≤ℤ b) × (pos 0 ≤ℤ c)
  pub inside : pos 0 <ℤ a → pos 0 <ℤ b → pos 0 <ℤ c → winds ≡ pos 1

none-of : (winds a b c : ℤ) → winds ≡ pos 0 → (pos 0 <ℤ a → pos 0 <ℤ b → pos 0 <ℤ c → ⊥) → WindsOnce winds a b c
none-of winds a b c is out = record { once = inl is; closed = λ some. absurd (some is); inside = λ x y z. absurd (out x y z) }

one-of : (winds a b c : ℤ) → winds ≡ pos 1 → pos 0 ≤ℤ a → pos 0 ≤ℤ b → pos 0 ≤ℤ c → WindsOnce winds a b c
one-of winds a b c is x y z = record { once = inr is; closed = λ _. (x, y, z); inside = λ _ _ _. is }

-- The corners lie so far to the right of the point, and it lies so far to the left of the side that begins at each.
pub record IsTriangle (p q r a b c : ℤ) : Type 0 where
  pub weighed : ((b *ℤ p) +ℤ (c *ℤ q)) +ℤ (a *ℤ r) ≡ pos 0
  pub area : pos 0 <ℤ ((a +ℤ b) +ℤ c)
  pub wide : p ≡ pos 0 → q ≡ pos 0 → r ≡ pos 0 → ⊥

-- What the three sides count.
abbrev pub winds : ℤ → ℤ → ℤ → ℤ → ℤ → ℤ → ℤ
winds p q r a b c = passed p q a +ℤ (passed q r b +ℤ passed r p c)

module _ (p q r a b c : ℤ) (is : IsTriangle p q r a b c) where
  -- the second corner alone lies to the right
  second-right : p ≤ℤ pos 0 → pos 0 <ℤ q → r ≤ℤ pos 0 → WindsOnce (winds p q r a b c) a b c
  second-right left right behind =
      let third = behind-both r p c behind left in
      let sum = is.weighed in
      let area = is.area in
      by_lt_z a (pos 0)
      (λ over.
      let first = rightwards-over p q a left right over in
      by_lt_z (pos 0) b
      (λ above.
      let second = leftwards-over q r b right behind above in
      none-of (winds p q r a b c) a b c (omega (arith, ints, first, second, third)) (λ x y z. omega (arith, ints, x, over)))
      (λ upto.
      let one = down_down b p upto left in
      let two = product_positive c q (omega (arith, ints, area, over, upto)) right in
      let three = down_down a r (omega (arith, ints, over)) behind in
      absurd (omega (arith, ints, sum, one, two, three))))
      (λ under.
      let first = rightwards-under p q a left right under in
      by_lt_z (pos 0) b
      (λ above.
      let second = leftwards-over q r b right behind above in
      one-of (winds p q r a b c) a b c (omega (arith, ints, first, second, third)) under (omega (arith, ints, above))
      (by_lt_z c (pos 0)
      (λ below.
      let one = up_down b p (omega (arith, ints, above)) left in
      let two = below_above c q below right in
      let three = up_down a r under behind in
      absurd (omega (arith, ints, sum, one, two, three)))
      (λ from. from)))
      (λ upto.
      let second = leftwards-under q r b right behind upto in
      none-of (winds p q r a b c) a b c (omega (arith, ints, first, second, third)) (λ x y z. omega (arith, ints, y, upto))))

  -- the first one alone lies to the left
  first-left : p ≤ℤ pos 0 → pos 0 <ℤ q → pos 0 <ℤ r → WindsOnce (winds p q r a b c) a b c
  first-left left right before =
      let second = before-both q r b right before in
      let sum = is.weighed in
      let area = is.area in
      by_lt_z a (pos 0)
      (λ over.
      let first = rightwards-over p q a left right over in
      by_lt_z (pos 0) c
      (λ above.
      let third = leftwards-over r p c before left above in
      none-of (winds p q r a b c) a b c (omega (arith, ints, first, second, third)) (λ x y z. omega (arith, ints, x, over)))
      (λ upto.
      let one = up_down b p (omega (arith, ints, area, over, upto)) left in
      let two = down_up c q upto (omega (arith, ints, right)) in
      let three = below_above a r over before in
      absurd (omega (arith, ints, sum, one, two, three))))
      (λ under.
      let first = rightwards-under p q a left right under in
      by_lt_z (pos 0) c
      (λ above.
      let third = leftwards-over r p c before left above in
      one-of (winds p q r a b c) a b c (omega (arith, ints, first, second, third)) under
      (by_lt_z b (pos 0)
      (λ below.
      let one = down_down b p (omega (arith, ints, below)) left in
      let two = product_positive c q above right in
      let three = product_above a r under (omega (arith, ints, before)) in
      absurd (omega (arith, ints, sum, one, two, three)))
      (λ from. from))
      (omega (arith, ints, above)))
      (λ upto.
      let third = leftwards-under r p c before left upto in
      none-of (winds p q r a b c) a b c (omega (arith, ints, first, second, third)) (λ x y z. omega (arith, ints, z, upto))))

  -- all lie to the right, or none
  all-right : pos 0 <ℤ p → pos 0 <ℤ q → pos 0 <ℤ r → WindsOnce (winds p q r a b c) a b c
  all-right first second third =
      let one = before-both p q a first second in
      let two = before-both q r b second third in
      let three = before-both r p c third first in
      let sum = is.weighed in
      none-of (winds p q r a b c) a b c (omega (arith, ints, one, two, three))
      (λ x y z.
      let a_r = product_positive a r x third in
      let b_p = product_positive b p y first in
      let c_q = product_positive c q z second in
      omega (arith, ints, sum, a_r, b_p, c_q))

  all-left : p ≤ℤ pos 0 → q ≤ℤ pos 0 → r ≤ℤ pos 0 → WindsOnce (winds p q r a b c) a b c
  all-left first second third =
      let one = behind-both p q a first second in
      let two = behind-both q r b second third in
      let three = behind-both r p c third first in
      none-of (winds p q r a b c) a b c (omega (arith, ints, one, two, three)) flat
    where
      flat : pos 0 <ℤ a → pos 0 <ℤ b → pos 0 <ℤ c → ⊥
      flat x y z =
          let sum = is.weighed in
          let a_r = up_down a r (omega (arith, ints, x)) third in
          let b_p = up_down b p (omega (arith, ints, y)) first in
          let c_q = up_down c q (omega (arith, ints, z)) second in
          by_lt_z p (pos 0)
          (λ less. let some = below_above p b less y in let same = exchanged p b in omega (arith, ints, sum, a_r, c_q, some, same))
          (λ p_from. by_lt_z q (pos 0)
          (λ less. let some = below_above q c less z in let same = exchanged q c in omega (arith, ints, sum, a_r, b_p, some, same))
          (λ q_from. by_lt_z r (pos 0)
          (λ less. let some = below_above r a less x in let same = exchanged r a in omega (arith, ints, sum, b_p, c_q, some, same))
          (λ r_from. is.wide (omega (arith, ints, first, p_from)) (omega (arith, ints, second, q_from)) (omega (arith, ints, third, r_from)))))

-- it may begin at any corner
turned : (p q r a b c : ℤ) → IsTriangle p q r a b c → IsTriangle q r p b c a
turned p q r a b c is =
    let sum = is.weighed in
    let area = is.area in record {
      weighed = omega (arith, ints, sum);
      area = omega (arith, ints, area);
      wide = λ x y z. is.wide z x y;
    }

back : (p q r a b c : ℤ) → WindsOnce (winds q r p b c a) b c a → WindsOnce (winds p q r a b c) a b c
back p q r a b c is = record {
  once = ⊎_elim (λ none. inl (same ∙ none)) (λ one. inr (same ∙ one)) is.once;
  closed = λ some. let (y, z, x) = is.closed (λ none. some (same ∙ none)) in (x, y, z);
  inside = λ x y z. same ∙ is.inside y z x;
}
  where
    same : winds p q r a b c ≡ winds q r p b c a
    same = omega (arith, ints)

-- So it winds once or not at all, once around what lies strictly to the left of each side, and around nothing else.
pub winds-once : (p q r a b c : ℤ) → IsTriangle p q r a b c → WindsOnce (winds p q r a b c) a b c
winds-once p q r a b c is =
    by_lt_z (pos 0) p
    (λ p_right. by_lt_z (pos 0) q
    (λ q_right. by_lt_z (pos 0) r
    (λ r_right. all-right p q r a b c is p_right q_right r_right)
    (λ r_left. second_turn (first-left r p q c a b twice r_left p_right q_right)))
    (λ q_left. by_lt_z (pos 0) r
    (λ r_right. first_turn (first-left q r p b c a once q_left r_right p_right))
    (λ r_left. second_turn (second-right r p q c a b twice r_left p_right q_left))))
    (λ p_left. by_lt_z (pos 0) q
    (λ q_right. by_lt_z (pos 0) r
    (λ r_right. first-left p q r a b c is p_left q_right r_right)
    (λ r_left. second-right p q r a b c is p_left q_right r_left))
    (λ q_left. by_lt_z (pos 0) r
    (λ r_right. first_turn (second-right q r p b c a once q_left r_right p_left))
    (λ r_left. all-left p q r a b c is p_left q_left r_left)))
  where
    once : IsTriangle q r p b c a
    once = turned p q r a b c is

    twice : IsTriangle r p q c a b
    twice = turned q r p b c a once

    first_turn : WindsOnce (winds q r p b c a) b c a → WindsOnce (winds p q r a b c) a b c
    first_turn = back p q r a b c

    second_turn : WindsOnce (winds r p q c a b) c a b → WindsOnce (winds p q r a b c) a b c
    second_turn found = first_turn (back q r p b c a found)

-- ---- triangles

-- Twice its area, above 0 if the corners stand counterclockwise.
abbrev pub turn_at : Point → Point → Point → ℤ
turn_at a b c = cross (b.x -ℤ a.x) (b.y -ℤ a.y) (c.x -ℤ a.x) (c.y -ℤ a.y)

abbrev way : ℤ → ℤ → Term
way from to = minus (number to) (number from)

abbrev crossed : Term → Term → Term → Term → Term
crossed x y other_x other_y = minus (times x other_y) (times y other_x)

-- how far a point lies to the left of an edge, by where it sees the ends
pub left_seen : (n : ℕ) (x y x0 y0 x1 y1 : ℤ) → (pos n *ℤ cross (x1 -ℤ x0) (y1 -ℤ y0) (x -ℤ (pos n *ℤ x0)) (y -ℤ (pos n *ℤ y0))) ≡ cross ((pos n *ℤ x0) -ℤ x) ((pos n *ℤ y0) -ℤ y) ((pos n *ℤ x1) -ℤ x) ((pos n *ℤ y1) -ℤ y)
left_seen n x y x0 y0 x1 y1 =
    let out = λ (z at : ℤ). minus (number z) (times (n_of n) (number at)) in
    let seen = λ (at z : ℤ). minus (times (n_of n) (number at)) (number z) in
    identity (times (n_of n) (crossed (way x0 x1) (way y0 y1) (out x x0) (out y y0))) (crossed (seen x0 x) (seen y0 y) (seen x1 x) (seen y1 y)) (omega arith)

seen_sum : (px py qx qy rx ry : ℤ) → (((cross qx qy rx ry *ℤ px) +ℤ (cross rx ry px py *ℤ qx)) +ℤ (cross px py qx qy *ℤ rx)) ≡ pos 0
seen_sum px py qx qy rx ry =
    identity (plus (plus (times (crossed (number qx) (number qy) (number rx) (number ry)) (number px)) (times (crossed (number rx) (number ry) (number px) (number py)) (number qx))) (times (crossed (number px) (number py) (number qx) (number qy)) (number rx)))
    (n_of 0) (omega arith)

weighed_sum : (n : ℕ) (a b c p q r : ℤ) → (pos n *ℤ (((b *ℤ p) +ℤ (c *ℤ q)) +ℤ (a *ℤ r))) ≡ ((((pos n *ℤ b) *ℤ p) +ℤ ((pos n *ℤ c) *ℤ q)) +ℤ ((pos n *ℤ a) *ℤ r))
weighed_sum n a b c p q r =
    let product = λ (k z : ℤ). times (number k) (number z) in
    let multiple = λ (k z : ℤ). times (times (n_of n) (number k)) (number z) in
    identity (times (n_of n) (plus (plus (product b p) (product c q)) (product a r))) (plus (plus (multiple b p) (multiple c q)) (multiple a r)) (omega arith)

area_sum : (n : ℕ) (x y ax ay bx by cx cy : ℤ)
    → ((cross (bx -ℤ ax) (by -ℤ ay) (x -ℤ (pos n *ℤ ax)) (y -ℤ (pos n *ℤ ay)) +ℤ cross (cx -ℤ bx) (cy -ℤ by) (x -ℤ (pos n *ℤ bx)) (y -ℤ (pos n *ℤ by))) +ℤ cross (ax -ℤ cx) (ay -ℤ cy) (x -ℤ (pos n *ℤ cx)) (y -ℤ (pos n *ℤ cy)))
    ≡ (pos n *ℤ cross (bx -ℤ ax) (by -ℤ ay) (cx -ℤ ax) (cy -ℤ ay))
area_sum n x y ax ay bx by cx cy =
    let out = λ (z at : ℤ). minus (number z) (times (n_of n) (number at)) in
    identity (plus (plus (crossed (way ax bx) (way ay by) (out x ax) (out y ay)) (crossed (way bx cx) (way by cy) (out x bx) (out y by))) (crossed (way cx ax) (way cy ay) (out x cx) (out y cy)))
    (times (n_of n) (crossed (way ax bx) (way ay by) (way ax cx) (way ay cy))) (omega arith)

wide_sum : (n : ℕ) (x ax ay bx by cx cy : ℤ) → (pos n *ℤ cross (bx -ℤ ax) (by -ℤ ay) (cx -ℤ ax) (cy -ℤ ay)) ≡ cross (((pos n *ℤ bx) -ℤ x) -ℤ ((pos n *ℤ ax) -ℤ x)) (by -ℤ ay) (((pos n *ℤ cx) -ℤ x) -ℤ ((pos n *ℤ ax) -ℤ x)) (cy -ℤ ay)
wide_sum n x ax ay bx by cx cy =
    let seen = λ (at : ℤ). minus (times (n_of n) (number at)) (number x) in
    identity (times (n_of n) (crossed (way ax bx) (way ay by) (way ax cx) (way ay cy))) (crossed (minus (seen bx) (seen ax)) (way ay by) (minus (seen cx) (seen ax)) (way ay cy)) (omega arith)

no_way : (u v : ℤ) → cross (pos 0) u (pos 0) v ≡ pos 0
no_way u v = identity (crossed (n_of 0) (number u) (n_of 0) (number v)) (n_of 0) (omega arith)

-- A triangle whose corners stand counterclockwise.
module _ (a b c : Point) (some : pos 0 <ℤ turn_at a b c) (point : RationalPoint) where
  -- Its corners and sides are those of a triangle.
  pub is-triangle : IsTriangle (right_by a.x point) (right_by b.x point) (right_by c.x point) (left_by (edge_between a b) point) (left_by (edge_between b c) point) (left_by (edge_between c a) point)
  is-triangle = record {
    weighed =
        zero_by point.n (((bc *ℤ right_by a.x point) +ℤ (ca *ℤ right_by b.x point)) +ℤ (ab *ℤ right_by c.x point)) (pos 0) (pos 0) point.positive
        (weighed_sum point.n ab bc ca (right_by a.x point) (right_by b.x point) (right_by c.x point)
        ∙ ap (λ z. ((z *ℤ right_by a.x point) +ℤ ((pos point.n *ℤ ca) *ℤ right_by b.x point)) +ℤ ((pos point.n *ℤ ab) *ℤ right_by c.x point)) (left_seen point.n point.x point.y b.x b.y c.x c.y)
        ∙ ap (λ z. ((cross (right_by b.x point) (up_by b.y) (right_by c.x point) (up_by c.y) *ℤ right_by a.x point) +ℤ (z *ℤ right_by b.x point)) +ℤ ((pos point.n *ℤ ab) *ℤ right_by c.x point)) (left_seen point.n point.x point.y c.x c.y a.x a.y)
        ∙ ap (λ z. ((cross (right_by b.x point) (up_by b.y) (right_by c.x point) (up_by c.y) *ℤ right_by a.x point) +ℤ (cross (right_by c.x point) (up_by c.y) (right_by a.x point) (up_by a.y) *ℤ right_by b.x point)) +ℤ (z *ℤ right_by c.x point)) (left_seen point.n point.x point.y a.x a.y b.x b.y)
        ∙ seen_sum (right_by a.x point) (up_by a.y) (right_by b.x point) (up_by b.y) (right_by c.x point) (up_by c.y))
        refl;
    area =
        let product = product_positive (pos point.n) (turn_at a b c) (let n = point.positive in omega (arith, ints, n)) some in
        let sum = area_sum point.n point.x point.y a.x a.y b.x b.y c.x c.y in
        omega (arith, ints, product, sum);
    wide = λ first second third.
        let product = product_positive (pos point.n) (turn_at a b c) (let n = point.positive in omega (arith, ints, n)) some in
        let run : (right_by b.x point -ℤ right_by a.x point) ≡ pos 0 = omega (arith, ints, first, second) in
        let other_run : (right_by c.x point -ℤ right_by a.x point) ≡ pos 0 = omega (arith, ints, first, third) in
        let none = wide_sum point.n point.x a.x a.y b.x b.y c.x c.y
        ∙ ap₂ (λ u v. cross u (b.y -ℤ a.y) v (c.y -ℤ a.y)) run other_run
        ∙ no_way (b.y -ℤ a.y) (c.y -ℤ a.y) in
        omega (arith, ints, product, none);
  }
    where
      ab : ℤ
      ab = left_by (edge_between a b) point

      bc : ℤ
      bc = left_by (edge_between b c) point

      ca : ℤ
      ca = left_by (edge_between c a) point

      up_by : ℤ → ℤ
      up_by y = (pos point.n *ℤ y) -ℤ point.y

  -- It winds once or not at all: once around each point strictly to the left of its three sides, and not around one to the
  -- right of a side.
  pub triangle-winds : WindsOnce (winding (triangle a b c) point) (left_by (edge_between a b) point) (left_by (edge_between b c) point) (left_by (edge_between c a) point)
  triangle-winds =
      subst (λ (z : ℤ). WindsOnce z (left_by (edge_between a b) point) (left_by (edge_between b c) point) (left_by (edge_between c a) point)) (sym sum)
      (winds-once (right_by a.x point) (right_by b.x point) (right_by c.x point) (left_by (edge_between a b) point) (left_by (edge_between b c) point) (left_by (edge_between c a) point) is-triangle)
    where
      last : (u v w : ℤ) → (u +ℤ (v +ℤ (w +ℤ pos 0))) ≡ (u +ℤ (v +ℤ w))
      last u v w = omega (arith, ints)

      sum : winding (triangle a b c) point
          ≡ winds (right_by a.x point) (right_by b.x point) (right_by c.x point) (left_by (edge_between a b) point) (left_by (edge_between b c) point) (left_by (edge_between c a) point)
      sum = winding-passed (triangle a b c) point ∙ last (passed_by (edge_between a b) point) (passed_by (edge_between b c) point) (passed_by (edge_between c a) point)
