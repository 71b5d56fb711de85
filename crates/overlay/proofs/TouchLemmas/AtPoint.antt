-- Around a point: edges away from it wind alike on the left of all edges that have it as an end, and a ring that goes straight on
-- there winds otherwise on the left of what comes from one side of it than of what goes on to the other.
use Rattle.std.proofs.Common.{◌≡◌, ◌≢◌, ◌⊎◌, inl, inr, ℕ, zero, suc, ◌<◌, ℤ, pos, ◌+ℤ◌, ◌-ℤ◌, ◌*ℤ◌, ◌<ℤ◌, Bool, true, false, cond, List, ◌∷◌, refl, ap, ap₂, sym, subst, ◌∙◌, arith}
use Rattle.std.specs.Int.Signed.{lt_z}
use Rattle.std.specs.List.{All, Contains, count_by}
use Rattle.std.proofs.lemmas.Int.{ints}
use Rattle.std.proofs.lemmas.List.Elements.{All-contains}
use Rattle.i_tree.proofs.RootLemmas.Lists.{Contains-here, Contains-there}
use Rattle.plane.specs.declared.edge.Edge.{Edge}
use Rattle.plane.specs.declared.point.Point.{Point}
use Rattle.plane.specs.Ends.{end_of, start_of}
use Rattle.plane.specs.SweepLine.Heights.{rightwards}
use Rattle.plane.proofs.MeetLemmas.Identities.{identity, minus, number, plus, times}
use Rattle.noding.proofs.SnapLemmas.Numbers.{n_of, product_positive}
use Rattle.overlay.specs.Contours.Outlines.{IsStraight}
use Rattle.overlay.specs.Contours.Turns.{Direction, direction_between, dot}
use Rattle.overlay.specs.Fill.Counts.{below_on, is_lower_on, is_over}
use Rattle.overlay.specs.Fill.Filled.{AreDistinct, AreNoded}
use Rattle.overlay.specs.Fill.Pieces.{total}
use Rattle.overlay.specs.Joined.{is_same}
use Rattle.overlay.specs.Sides.{just_above, just_below, left_of}
use Rattle.overlay.proofs.AreaLemmas.Beneath.{beneath, not_above, same-beneath, same-not-above}
use Rattle.overlay.proofs.AreaLemmas.Fans.{here, highest, lowest}
use Rattle.overlay.proofs.AreaLemmas.Touching.{Away, Touches, below-off}
use Rattle.overlay.proofs.AreaLemmas.Wedges.{FromLeft, ToRight, lower-left, lower-right, sided, way-end, way-start, way_from}
use Rattle.overlay.proofs.ContourLemmas.Clockwise.{turn, turn-back}
use Rattle.overlay.proofs.ContourLemmas.Counts.{counted}
use Rattle.overlay.proofs.ContourLemmas.Turns.{across, along, some_square}
use Rattle.overlay.proofs.FillLemmas.Balance.{AreBalanced}
use Rattle.overlay.proofs.FillLemmas.Order.{lower-apart, lower-asym, lower-irrefl}
use Rattle.overlay.proofs.FillLemmas.Premises.{All-among}
use Rattle.overlay.proofs.FillLemmas.Totals.{total-same}
use Rattle.overlay.proofs.GroupingLemmas.Outlined.{same-one}
use Rattle.overlay.proofs.KeptLemmas.First.{turned-meet, turned-same}
use Rattle.overlay.proofs.WindsLemmas.LeftRight.{left-counted, left-right}
use Rattle.overlay.proofs.WindsLemmas.Polygons.{is-same}

never : true ≡ false → ⊥
never h = cc

-- ---- some of the edges, around a point

module _ (edges : List Edge) (noded : AreNoded edges) (distinct : AreDistinct edges) (sloped : All (λ edge. edge.x0 ≢ edge.x1) edges) (mine : List Edge) (closed : AreBalanced mine)
    (into : (edge : Edge) → Contains mine edge → Contains edges edge) where
  has-slope : (edge : Edge) → Contains edges edge → edge.x0 ≢ edge.x1
  has-slope edge inside = All-contains (λ (e : Edge). e.x0 ≢ e.x1) edges edge sloped inside

  mine-sloped : All (λ edge. edge.x0 ≢ edge.x1) mine
  mine-sloped = All-among (λ edge. edge.x0 ≢ edge.x1) mine (λ edge held. has-slope edge (into edge held))

  -- beside an edge that isn't one of them, they wind on its left as below it and as above it
  left-below : (one : Edge) → Contains edges one → ¬ (Contains mine one) → left_of mine one ≡ just_below mine one
  left-below one among off = by (lt_z one.x0 one.x1) (left-right edges distinct one among (has-slope one among) mine into off)
    where
      by : (t : Bool) → cond t (just_above mine one) (just_below mine one) ≡ cond t (just_below mine one) (just_above mine one) → cond t (just_above mine one) (just_below mine one) ≡ just_below mine one
      by true same = same
      by false same = refl

  left-above : (one : Edge) → Contains edges one → ¬ (Contains mine one) → left_of mine one ≡ just_above mine one
  left-above one among off = by (lt_z one.x0 one.x1) (left-right edges distinct one among (has-slope one among) mine into off)
    where
      by : (t : Bool) → cond t (just_above mine one) (just_below mine one) ≡ cond t (just_below mine one) (just_above mine one) → cond t (just_above mine one) (just_below mine one) ≡ just_above mine one
      by true same = refl
      by false same = same

  module _ (at : Point) where
    -- the stretch before the point
    abbrev before : ℤ
    before = at.x -ℤ pos 1

    step : at.x ≡ (before +ℤ pos 1)
    step = omega (arith, ints)

    low : total (beneath at before) mine ≡ total (beneath at at.x) mine
    low = same-beneath at before step mine closed mine-sloped

    high : total (not_above at before) mine ≡ total (not_above at at.x) mine
    high = same-not-above at before step mine closed mine-sloped

    module _ (away : (e : Edge) → Contains mine e → Away at e) where
      -- where all of them are away from the point, those below an edge that has it as an end are those that pass below the point
      below-point : (x : ℤ) → (at.x ≡ x) ⊎ (at.x ≡ (x +ℤ pos 1)) → (one : Edge) → Contains edges one → Touches at one → is_over x (rightwards one) ≡ true → just_below mine one ≡ total (beneath at x) mine
      below-point x side one among touches over =
          here edges noded one among x over mine closed into
          ∙ total-same (below_on x (rightwards one)) (beneath at x) mine
          (All-among (λ edge. below_on x (rightwards one) edge ≡ beneath at x edge) mine
          (λ edge held. below-off edges noded sloped at one among touches x side over edge (into edge held) (away edge held)))

      not-away : (one : Edge) → Touches at one → ¬ (Contains mine one)
      not-away one (inl is) held = (away one held).0 is
      not-away one (inr is) held = (away one held).1 is

      left-point : (one : Edge) → Contains edges one → Touches at one → left_of mine one ≡ total (beneath at at.x) mine
      left-point one among touches =
          left-below one among (not-away one touches)
          ∙ elim (sided at one (has-slope one among) touches) [
            | inl left ↦ below-point before (inr step) one among touches left.over ∙ low
            | inr right ↦ below-point at.x (inl refl) one among touches right.over
          ]

-- Closed edges none of which has a point as an end wind alike on the left of all edges that have it as an end.
pub away-alike : (edges : List Edge) → AreNoded edges → AreDistinct edges → All (λ edge. edge.x0 ≢ edge.x1) edges → (mine : List Edge) → AreBalanced mine
    → ((e : Edge) → Contains mine e → Contains edges e) → (at : Point) → ((e : Edge) → Contains mine e → Away at e)
    → (one other : Edge) → Contains edges one → Contains edges other → Touches at one → Touches at other → left_of mine one ≡ left_of mine other
away-alike edges noded distinct sloped mine closed into at away one other among among_too touches touches_too =
    left-point edges noded distinct sloped mine closed into at away one among touches ∙ sym (left-point edges noded distinct sloped mine closed into at away other among_too touches_too)

-- ---- beside the only edge of a ring that touches the point over a stretch

module _ (edges : List Edge) (noded : AreNoded edges) (distinct : AreDistinct edges) (sloped : All (λ edge. edge.x0 ≢ edge.x1) edges) (ring : List Edge) (closed : AreBalanced ring)
    (into : (edge : Edge) → Contains ring edge → Contains edges edge) (at : Point) (x : ℤ) (side : (at.x ≡ x) ⊎ (at.x ≡ (x +ℤ pos 1))) (mid : Edge) (held : Contains ring mid) (touches : Touches at mid)
    (over : is_over x (rightwards mid) ≡ true) (alone : (e : Edge) → Contains ring e → Touches at e → is_over x (rightwards e) ≡ true → e ≡ mid) where
  ring-noded : AreNoded ring
  ring-noded one other point first second of_one of_other = noded one other point (into one first) (into other second) of_one of_other

  ring-sloped : All (λ edge. edge.x0 ≢ edge.x1) ring
  ring-sloped = mine-sloped edges noded distinct sloped ring closed into

  below-mid : just_below ring mid ≡ total (beneath at x) ring
  below-mid =
      lowest ring ring-noded ring-sloped ring closed (λ e inside. inside) at mid held touches x side over
      (λ e inside touching over_too lower.
      never (sym lower ∙ ap (λ (r : Edge). is_lower_on x (rightwards r) (rightwards mid)) (alone e inside touching over_too) ∙ lower-irrefl x (rightwards mid)))

  above-mid : just_above ring mid ≡ total (not_above at x) ring
  above-mid =
      highest ring ring-noded ring-sloped ring closed (λ e inside. inside) at mid held touches x side over
      (λ e inside touching over_too lower.
      never (sym lower ∙ ap (λ (r : Edge). is_lower_on x (rightwards mid) (rightwards r)) (alone e inside touching over_too) ∙ lower-irrefl x (rightwards mid)))

  -- what passes below the point isn't all that doesn't pass above it: the ring's edge is left
  apart : total (beneath at x) ring ≢ total (not_above at x) ring
  apart same =
      unlike (lt_z mid.x0 mid.x1) (just_above ring mid) (just_below ring mid) (count_by (is_same mid) ring) (below-mid ∙ same ∙ sym above-mid) some
      (left-counted edges distinct mid (into mid held) (has-slope edges noded distinct sloped ring closed into mid (into mid held)) ring into)
    where
      some : 0 < count_by (is_same mid) ring
      some = let (k, within, is) = held in counted (is_same mid) ring k mid within (ap (is_same mid) is ∙ is-same mid)

      unlike : (t : Bool) (a b : ℤ) (n : ℕ) → b ≡ a → 0 < n → cond t a b ≡ (cond t b a +ℤ pos n) → ⊥
      unlike true a b n level more is = omega (arith, ints, level, more, is)
      unlike false a b n level more is = omega (arith, ints, level, more, is)

  module _ (one : Edge) (among : Contains edges one) (off : ¬ (Contains ring one)) (touches_too : Touches at one) (over_one : is_over x (rightwards one) ≡ true) where
    -- the ring and that edge
    abbrev joint : List Edge
    joint = one ∷ ring

    of-both : (e : Edge) → Contains joint e → (e ≡ one) ⊎ Contains ring e
    of-both e (zero, within, is) = inl (sym is)
    of-both e (suc k, within, is) = inr (k, omega (arith, within), is)

    all-into : (e : Edge) → Contains joint e → Contains edges e
    all-into e inside = elim (of-both e inside) [ inl same ↦ subst (Contains edges) (sym same) among | inr its ↦ into e its ]

    joint-noded : AreNoded joint
    joint-noded first second point is_first is_second of_one of_other = noded first second point (all-into first is_first) (all-into second is_second) of_one of_other

    joint-sloped : All (λ edge. edge.x0 ≢ edge.x1) joint
    joint-sloped = All-among (λ edge. edge.x0 ≢ edge.x1) joint (λ edge inside. has-slope edges noded distinct sloped ring closed into edge (all-into edge inside))

    two : (e : Edge) → Contains joint e → Touches at e → is_over x (rightwards e) ≡ true → (e ≡ one) ⊎ (e ≡ mid)
    two e inside touching over_too = elim (of-both e inside) [ inl same ↦ inl same | inr its ↦ inr (alone e its touching over_too) ]

    -- below the ring's edge it has on its left what passes below the point
    left-lower : is_lower_on x (rightwards one) (rightwards mid) ≡ true → left_of ring one ≡ total (beneath at x) ring
    left-lower lower =
        left-below edges noded distinct sloped ring closed into one among off
        ∙ lowest joint joint-noded joint-sloped ring closed (λ e inside. Contains-there one ring e inside) at one (Contains-here one ring) touches_too x side over_one
        (λ e inside touching over_too less. elim (two e inside touching over_too) [
          | inl same ↦ never (sym less ∙ ap (λ (r : Edge). is_lower_on x (rightwards r) (rightwards one)) same ∙ lower-irrefl x (rightwards one))
          | inr same ↦ never (sym less ∙ ap (λ (r : Edge). is_lower_on x (rightwards r) (rightwards one)) same ∙ lower-asym x (rightwards one) (rightwards mid) lower)
        ])

    -- and above it what doesn't pass above the point
    left-higher : is_lower_on x (rightwards mid) (rightwards one) ≡ true → left_of ring one ≡ total (not_above at x) ring
    left-higher lower =
        left-above edges noded distinct sloped ring closed into one among off
        ∙ highest joint joint-noded joint-sloped ring closed (λ e inside. Contains-there one ring e inside) at one (Contains-here one ring) touches_too x side over_one
        (λ e inside touching over_too less. elim (two e inside touching over_too) [
          | inl same ↦ never (sym less ∙ ap (λ (r : Edge). is_lower_on x (rightwards one) (rightwards r)) same ∙ lower-irrefl x (rightwards one))
          | inr same ↦ never (sym less ∙ ap (λ (r : Edge). is_lower_on x (rightwards one) (rightwards r)) same ∙ lower-asym x (rightwards mid) (rightwards one) lower)
        ])

-- ---- ways straight on

zero-times : (z w : ℤ) → w ≡ pos 0 → (z *ℤ w) ≡ pos 0
zero-times z w is = ap (λ k. z *ℤ k) is ∙ identity (times (number z) (n_of 0)) (n_of 0) (omega arith)

-- two ways to the left, and straight on from them two ways to the right: these lie the other way round
turned-over : (p q u v : Direction) → p.x <ℤ pos 0 → q.x <ℤ pos 0 → pos 0 <ℤ u.x → pos 0 <ℤ v.x → turn p u ≡ pos 0 → turn q v ≡ pos 0 → turn q p <ℤ pos 0 → turn u v <ℤ pos 0 → ⊥
turned-over p q u v p_left q_left u_right v_right p_on q_on first second =
    let one = product_positive (u.x *ℤ v.x) (pos 0 -ℤ turn q p) (product_positive u.x v.x u_right v_right) (omega (arith, ints, first)) in
    let other = product_positive ((pos 0 -ℤ p.x) *ℤ (pos 0 -ℤ q.x)) (pos 0 -ℤ turn u v) (product_positive (pos 0 -ℤ p.x) (pos 0 -ℤ q.x) (omega (arith, ints, p_left)) (omega (arith, ints, q_left))) (omega (arith, ints, second)) in
    let none = zero-times (v.x *ℤ q.x) (turn p u) p_on in
    let none_too = zero-times (u.x *ℤ p.x) (turn q v) q_on in
    omega (arith, ints, one, other, none, none_too, sum)
  where
    sum : (((u.x *ℤ v.x) *ℤ (pos 0 -ℤ turn q p)) +ℤ (((pos 0 -ℤ p.x) *ℤ (pos 0 -ℤ q.x)) *ℤ (pos 0 -ℤ turn u v))) ≡ (((v.x *ℤ q.x) *ℤ turn p u) -ℤ ((u.x *ℤ p.x) *ℤ turn q v))
    sum =
        identity
        (plus (times (times (number u.x) (number v.x)) (minus (n_of 0) (across q.x q.y p.x p.y))) (times (times (minus (n_of 0) (number p.x)) (minus (n_of 0) (number q.x))) (minus (n_of 0) (across u.x u.y v.x v.y))))
        (minus (times (times (number v.x) (number q.x)) (across p.x p.y u.x u.y)) (times (times (number u.x) (number p.x)) (across q.x q.y v.x v.y)))
        (omega arith)

-- ways against each other don't go to the same side
not-beside : (p u : Direction) → pos 0 <ℤ (p.x *ℤ u.x) → turn p u ≡ pos 0 → dot p.x p.y u.x u.y <ℤ pos 0 → ⊥
not-beside p u beside on against =
    let one = product_positive (p.x *ℤ u.x) (pos 0 -ℤ dot p.x p.y u.x u.y) beside (omega (arith, ints, against)) in
    let square = some_square (p.x *ℤ u.x) (p.y *ℤ u.x) (λ (none, other). omega (arith, ints, beside, none)) in
    let none = zero-times (pos 0 -ℤ (p.y *ℤ u.x)) (turn p u) on in
    omega (arith, ints, one, square, none, sum)
  where
    sum : (((p.x *ℤ u.x) *ℤ (pos 0 -ℤ dot p.x p.y u.x u.y)) +ℤ dot (p.x *ℤ u.x) (p.y *ℤ u.x) (p.x *ℤ u.x) (p.y *ℤ u.x)) ≡ ((pos 0 -ℤ (p.y *ℤ u.x)) *ℤ turn p u)
    sum =
        let px = times (number p.x) (number u.x) in
        let py = times (number p.y) (number u.x) in
        identity (plus (times px (minus (n_of 0) (along p.x p.y u.x u.y))) (plus (times px px) (times py py))) (times (minus (n_of 0) py) (across p.x p.y u.x u.y)) (omega arith)

-- One edge lies to the left of the point and one to its right, along one line.
record IsThrough (at : Point) (one other : Edge) : Type 0 where
  left : FromLeft at one
  right : ToRight at other
  on : turn (way_from at one) (way_from at other) ≡ pos 0

turn-none : (p u : Direction) → turn p u ≡ pos 0 → turn u p ≡ pos 0
turn-none p u on = let back = turn-back u p in omega (arith, ints, on, back)

-- edges that go straight on there come from one side of it and go on to the other
through : (at : Point) (a b : Edge) → a.x0 ≢ a.x1 → b.x0 ≢ b.x1 → end_of a ≡ at → start_of b ≡ at → IsStraight (start_of a) at (end_of b) → IsThrough at a b ⊎ IsThrough at b a
through at a b a_sloped b_sloped ends starts straight =
    elim (sided at a a_sloped (inr ends)) [
      | inl left ↦ elim (sided at b b_sloped (inl starts)) [
        | inl left_too ↦ absurd (not-beside (way_from at a) (way_from at b) (both_left (way_from at a).x (way_from at b).x left.left left_too.left) on against)
        | inr right ↦ inl (record { left = left; right = right; on = on })
      ]
      | inr right ↦ elim (sided at b b_sloped (inl starts)) [
        | inl left ↦ inr (record { left = left; right = right; on = turn-none (way_from at a) (way_from at b) on })
        | inr right_too ↦ absurd (not-beside (way_from at a) (way_from at b) (product_positive (way_from at a).x (way_from at b).x right.right right_too.right) on against)
      ]
    ]
  where
    both_left : (m n : ℤ) → m <ℤ pos 0 → n <ℤ pos 0 → pos 0 <ℤ (m *ℤ n)
    both_left m n first second =
        let more = product_positive (pos 0 -ℤ m) (pos 0 -ℤ n) (omega (arith, ints, first)) (omega (arith, ints, second)) in
        let same = identity (times (minus (n_of 0) (number m)) (minus (n_of 0) (number n))) (times (number m) (number n)) (omega arith) in
        omega (arith, ints, more, same)

    ways : turn (way_from at a) (way_from at b) ≡ turn (direction_between at (start_of a)) (direction_between at (end_of b))
    ways = ap₂ (λ (d e : Direction). turn d e) (way-end at a ends) (way-start at b starts)

    dots : dot (way_from at a).x (way_from at a).y (way_from at b).x (way_from at b).y ≡ dot (a.x0 -ℤ at.x) (a.y0 -ℤ at.y) (b.x1 -ℤ at.x) (b.y1 -ℤ at.y)
    dots = ap₂ (λ (d e : Direction). dot d.x d.y e.x e.y) (way-end at a ends) (way-start at b starts)

    on : turn (way_from at a) (way_from at b) ≡ pos 0
    on =
        let is = straight.along in
        let back =
        identity (minus (times (minus (number a.x0) (number at.x)) (minus (number b.y1) (number at.y))) (times (minus (number a.y0) (number at.y)) (minus (number b.x1) (number at.x))))
        (minus (n_of 0) (minus (times (minus (number at.x) (number a.x0)) (minus (number b.y1) (number at.y))) (times (minus (number at.y) (number a.y0)) (minus (number b.x1) (number at.x)))))
        (omega arith) in
        omega (arith, ints, ways, is, back)

    against : dot (way_from at a).x (way_from at a).y (way_from at b).x (way_from at b).y <ℤ pos 0
    against =
        let is = straight.ahead in
        let back =
        identity (plus (times (minus (number a.x0) (number at.x)) (minus (number b.x1) (number at.x))) (times (minus (number a.y0) (number at.y)) (minus (number b.y1) (number at.y))))
        (minus (n_of 0) (plus (times (minus (number at.x) (number a.x0)) (minus (number b.x1) (number at.x))) (times (minus (number at.y) (number a.y0)) (minus (number b.y1) (number at.y)))))
        (omega arith) in
        omega (arith, ints, dots, is, back)

-- ---- two ways straight on

module _ (edges : List Edge) (noded : AreNoded edges) (distinct : AreDistinct edges) (sloped : All (λ edge. edge.x0 ≢ edge.x1) edges) (ring : List Edge) (closed : AreBalanced ring)
    (into : (edge : Edge) → Contains ring edge → Contains edges edge) (at : Point) where
  abbrev early : ℤ
  early = at.x -ℤ pos 1

  next : at.x ≡ (early +ℤ pos 1)
  next = omega (arith, ints)

  differ : (r s : Edge) → Contains ring r → Contains edges s → ¬ (Contains ring s) → rightwards r ≢ rightwards s
  differ r s held among off same = off (subst (Contains ring) (same-one edges r s distinct (into r held) among (turned-same r s same)) held)

  module _ (r u s v : Edge) (r_held : Contains ring r) (u_held : Contains ring u) (ring_through : IsThrough at r u) (r_touches : Touches at r) (u_touches : Touches at u)
      (only : (e : Edge) → Contains ring e → Touches at e → (e ≡ r) ⊎ (e ≡ u)) (s_among : Contains edges s) (v_among : Contains edges v) (s_off : ¬ (Contains ring s)) (v_off : ¬ (Contains ring v))
      (s_touches : Touches at s) (v_touches : Touches at v) (others_through : IsThrough at s v) where
    alone-left : (e : Edge) → Contains ring e → Touches at e → is_over early (rightwards e) ≡ true → e ≡ r
    alone-left e inside touching over = elim (only e inside touching) [
      | inl same ↦ same
      | inr same ↦ absurd (never (sym over ∙ ap (λ (f : Edge). is_over early (rightwards f)) same ∙ ring_through.right.ahead))
    ]

    alone-right : (e : Edge) → Contains ring e → Touches at e → is_over at.x (rightwards e) ≡ true → e ≡ u
    alone-right e inside touching over = elim (only e inside touching) [
      | inl same ↦ absurd (never (sym over ∙ ap (λ (f : Edge). is_over at.x (rightwards f)) same ∙ ring_through.left.done))
      | inr same ↦ same
    ]

    unlike : total (beneath at at.x) ring ≢ total (not_above at at.x) ring
    unlike = apart edges noded distinct sloped ring closed into at at.x (inl refl) u u_held u_touches ring_through.right.over alone-right

    -- they don't wind alike on the left of both
    crossing : left_of ring s ≡ left_of ring v → ⊥
    crossing same =
        elim (lower-apart (rightwards r) (rightwards s) early (turned-meet edges noded r s (into r r_held) s_among) (differ r s r_held s_among s_off) ring_through.left.over others_through.left.over) [
          | inl above ↦ elim right [
            | inl above_too ↦ turned-over (way_from at s) (way_from at r) (way_from at v) (way_from at u) others_through.left.left ring_through.left.left others_through.right.right ring_through.right.right
                others_through.on ring_through.on (lower-left at r s ring_through.left others_through.left above) (lower-right at u v ring_through.right others_through.right above_too)
            | inr below_too ↦ unlike (sym (v-lower below_too) ∙ sym same ∙ s-higher above ∙ high edges noded distinct sloped ring closed into at)
          ]
          | inr below ↦ elim right [
            | inl above_too ↦ unlike (sym (low edges noded distinct sloped ring closed into at) ∙ sym (s-lower below) ∙ same ∙ v-higher above_too)
            | inr below_too ↦ turned-over (way_from at r) (way_from at s) (way_from at u) (way_from at v) ring_through.left.left others_through.left.left ring_through.right.right others_through.right.right
                ring_through.on others_through.on (lower-left at s r others_through.left ring_through.left below) (lower-right at v u others_through.right ring_through.right below_too)
          ]
        ]
      where
        right : (is_lower_on at.x (rightwards u) (rightwards v) ≡ true) ⊎ (is_lower_on at.x (rightwards v) (rightwards u) ≡ true)
        right = lower-apart (rightwards u) (rightwards v) at.x (turned-meet edges noded u v (into u u_held) v_among) (differ u v u_held v_among v_off) ring_through.right.over others_through.right.over

        s-lower : is_lower_on early (rightwards s) (rightwards r) ≡ true → left_of ring s ≡ total (beneath at early) ring
        s-lower = left-lower edges noded distinct sloped ring closed into at early (inr next) r r_held r_touches ring_through.left.over alone-left s s_among s_off s_touches others_through.left.over

        s-higher : is_lower_on early (rightwards r) (rightwards s) ≡ true → left_of ring s ≡ total (not_above at early) ring
        s-higher = left-higher edges noded distinct sloped ring closed into at early (inr next) r r_held r_touches ring_through.left.over alone-left s s_among s_off s_touches others_through.left.over

        v-lower : is_lower_on at.x (rightwards v) (rightwards u) ≡ true → left_of ring v ≡ total (beneath at at.x) ring
        v-lower = left-lower edges noded distinct sloped ring closed into at at.x (inl refl) u u_held u_touches ring_through.right.over alone-right v v_among v_off v_touches others_through.right.over

        v-higher : is_lower_on at.x (rightwards u) (rightwards v) ≡ true → left_of ring v ≡ total (not_above at at.x) ring
        v-higher = left-higher edges noded distinct sloped ring closed into at at.x (inl refl) u u_held u_touches ring_through.right.over alone-right v v_among v_off v_touches others_through.right.over

-- A ring that goes straight on at a point, and has no other edges there, doesn't wind alike on the left of two edges of others that
-- go straight on there.
pub straight-apart : (edges : List Edge) → AreNoded edges → AreDistinct edges → All (λ edge. edge.x0 ≢ edge.x1) edges → (ring : List Edge) → AreBalanced ring
    → ((e : Edge) → Contains ring e → Contains edges e) → (at : Point) → (a b c d : Edge) → Contains ring a → Contains ring b → end_of a ≡ at → start_of b ≡ at
    → ((e : Edge) → Contains ring e → Touches at e → (e ≡ a) ⊎ (e ≡ b)) → IsStraight (start_of a) at (end_of b)
    → Contains edges c → Contains edges d → ¬ (Contains ring c) → ¬ (Contains ring d) → end_of c ≡ at → start_of d ≡ at → IsStraight (start_of c) at (end_of d) → left_of ring c ≡ left_of ring d → ⊥
straight-apart edges noded distinct sloped ring closed into at a b c d a_held b_held a_ends b_starts only straight c_among d_among c_off d_off c_ends d_starts straight_too same =
    elim (through at a b (slope a (into a a_held)) (slope b (into b b_held)) a_ends b_starts straight) [
      | inl on ↦ elim others [
        | inl on_too ↦ crossing edges noded distinct sloped ring closed into at a b c d a_held b_held on (inr a_ends) (inl b_starts) only c_among d_among c_off d_off (inr c_ends) (inl d_starts) on_too same
        | inr on_too ↦ crossing edges noded distinct sloped ring closed into at a b d c a_held b_held on (inr a_ends) (inl b_starts) only d_among c_among d_off c_off (inl d_starts) (inr c_ends) on_too (sym same)
      ]
      | inr on ↦ elim others [
        | inl on_too ↦ crossing edges noded distinct sloped ring closed into at b a c d b_held a_held on (inl b_starts) (inr a_ends) swapped c_among d_among c_off d_off (inr c_ends) (inl d_starts) on_too same
        | inr on_too ↦ crossing edges noded distinct sloped ring closed into at b a d c b_held a_held on (inl b_starts) (inr a_ends) swapped d_among c_among d_off c_off (inl d_starts) (inr c_ends) on_too (sym same)
      ]
    ]
  where
    slope : (edge : Edge) → Contains edges edge → edge.x0 ≢ edge.x1
    slope edge inside = All-contains (λ (e : Edge). e.x0 ≢ e.x1) edges edge sloped inside

    others : IsThrough at c d ⊎ IsThrough at d c
    others = through at c d (slope c c_among) (slope d d_among) c_ends d_starts straight_too

    swapped : (e : Edge) → Contains ring e → Touches at e → (e ≡ b) ⊎ (e ≡ a)
    swapped e inside touching = elim (only e inside touching) [ inl is ↦ inr is | inr is ↦ inl is ]
