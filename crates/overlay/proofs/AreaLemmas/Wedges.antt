-- Around a point nothing changes from one edge to the next: what some of the edges wind just clockwise of an edge they wind just
-- counterclockwise of the first one clockwise from it.
use Rattle.std.proofs.Common.{◌≡◌, ◌≢◌, ◌⊎◌, inl, inr, ℤ, pos, ◌+ℤ◌, ◌-ℤ◌, ◌<ℤ◌, ◌≤ℤ◌, Bool, true, false, cond, List, refl, ap, ap₂, sym, ◌∙◌, arith}
use Rattle.std.specs.Int.Signed.{lt_z}
use Rattle.std.specs.List.{All, Contains}
use Rattle.std.proofs.lemmas.Int.{by_lt_z, ints}
use Rattle.std.proofs.lemmas.List.Elements.{All-contains}
use Rattle.plane.specs.declared.edge.Edge.{Edge}
use Rattle.plane.specs.declared.point.Point.{Point}
use Rattle.plane.specs.Ends.{edge_between, end_of, start_of}
use Rattle.plane.specs.SweepLine.Heights.{height_by_runs, rightwards}
use Rattle.plane.proofs.MeetLemmas.Identities.{Term, identity, minus, number, plus, times}
use Rattle.plane.proofs.SweepLineLemmas.Rightwards.{rightwards-left, rightwards-right}
use Rattle.noding.proofs.SnapLemmas.Numbers.{n_of}
use Rattle.overlay.specs.Contours.Turns.{ComesBefore, Direction, direction_between}
use Rattle.overlay.specs.Fill.Counts.{is_lower_on, is_over}
use Rattle.overlay.specs.Fill.Filled.{AreDistinct, AreNoded}
use Rattle.overlay.specs.Fill.Pieces.{total}
use Rattle.overlay.proofs.AreaLemmas.Beneath.{beneath, not_above, same-beneath, same-not-above}
use Rattle.overlay.proofs.AreaLemmas.Fans.{empty, highest, lowest, next}
use Rattle.overlay.specs.Sides.{just_above, just_below, left_of, right_of}
use Rattle.overlay.proofs.AreaLemmas.Touching.{Touches, touches-turned}
use Rattle.overlay.proofs.ContourLemmas.Clockwise.{back-first, before-first, behind-first, between-first, beyond-first, onwards-first, turn, turn-back}
use Rattle.overlay.proofs.FillLemmas.Balance.{AreBalanced}
use Rattle.overlay.proofs.FillLemmas.Order.{lower-apart, lower-asym, lower-irrefl}
use Rattle.overlay.proofs.FillLemmas.Premises.{All-among}
use Rattle.overlay.proofs.FillLemmas.Tests.{lt_false, lt_is, lt_same, lt_true, over_early, over_late, over_true}
use Rattle.overlay.proofs.GroupingLemmas.Outlined.{same-one}
use Rattle.overlay.proofs.KeptLemmas.First.{turned-meet, turned-same}
use Rattle.overlay.proofs.PieceLemmas.Made.{rightwards-onwards}

-- The way that an edge goes from one of its ends to the other one.
abbrev pub way_from : Point → Edge → Direction
way_from at edge = record { x = ((edge.x0 +ℤ edge.x1) -ℤ at.x) -ℤ at.x; y = ((edge.y0 +ℤ edge.y1) -ℤ at.y) -ℤ at.y }

-- The other edge is the first one clockwise from the one of those that have the point as an end.
pub record IsNextAround (edges : List Edge) (at : Point) (one other : Edge) : Type 0 where
  pub among : Contains edges one
  pub among_too : Contains edges other
  pub touches : Touches at one
  pub touches_too : Touches at other
  pub apart : one ≢ other
  pub first : (edge : Edge) → Contains edges edge → Touches at edge → edge ≢ one → ¬ (ComesBefore (way_from at one) (way_from at edge) (way_from at other))

-- The winding number of edges just clockwise of an edge that has the point as an end, and just counterclockwise of it.
abbrev pub clockwise_of : List Edge → Point → Edge → ℤ
clockwise_of edges at edge = cond (lt_z (way_from at edge).x (pos 0)) (just_above edges edge) (just_below edges edge)

abbrev pub counter_of : List Edge → Point → Edge → ℤ
counter_of edges at edge = cond (lt_z (way_from at edge).x (pos 0)) (just_below edges edge) (just_above edges edge)

-- ---- from which side an edge comes

abbrev made : ℤ → ℤ → Direction
made x y = record { x = x; y = y }

-- the way is that of the edge turned rightwards
way-turned : (at : Point) (edge : Edge) → way_from at (rightwards edge) ≡ way_from at edge
way-turned at edge = by (lt_z edge.x1 edge.x0) refl
  where
    other : (a b c : ℤ) → (((b +ℤ a) -ℤ c) -ℤ c) ≡ (((a +ℤ b) -ℤ c) -ℤ c)
    other a b c = omega (arith, ints)

    by : (t : Bool) → lt_z edge.x1 edge.x0 ≡ t → way_from at (rightwards edge) ≡ way_from at edge
    by true is = ap (way_from at) (rightwards-left edge is) ∙ ap₂ (λ (x y : ℤ). made x y) (other edge.x0 edge.x1 at.x) (other edge.y0 edge.y1 at.y)
    by false is = ap (way_from at) (rightwards-right edge is)

-- the way from the end at which an edge starts or ends
pub way-start : (at : Point) (edge : Edge) → start_of edge ≡ at → way_from at edge ≡ direction_between at (end_of edge)
way-start at edge is = ap₂ (λ (x y : ℤ). made x y) (rest edge.x0 edge.x1 at.x (ap (λ (p : Point). p.x) is)) (rest edge.y0 edge.y1 at.y (ap (λ (p : Point). p.y) is))
  where
    rest : (a b c : ℤ) → a ≡ c → (((a +ℤ b) -ℤ c) -ℤ c) ≡ (b -ℤ c)
    rest a b c same = omega (arith, ints, same)

pub way-end : (at : Point) (edge : Edge) → end_of edge ≡ at → way_from at edge ≡ direction_between at (start_of edge)
way-end at edge is = ap₂ (λ (x y : ℤ). made x y) (rest edge.x0 edge.x1 at.x (ap (λ (p : Point). p.x) is)) (rest edge.y0 edge.y1 at.y (ap (λ (p : Point). p.y) is))
  where
    rest : (a b c : ℤ) → b ≡ c → (((a +ℤ b) -ℤ c) -ℤ c) ≡ (a -ℤ c)
    rest a b c same = omega (arith, ints, same)

-- The edge lies to the left of the point.
pub record FromLeft (at : Point) (edge : Edge) : Type 0 where
  pub ends : rightwards edge ≡ edge_between (start_of (rightwards edge)) at
  pub way : way_from at edge ≡ direction_between at (start_of (rightwards edge))
  pub left : (way_from at edge).x <ℤ pos 0
  pub over : is_over (at.x -ℤ pos 1) (rightwards edge) ≡ true
  pub done : is_over at.x (rightwards edge) ≡ false

-- It lies to the right.
pub record ToRight (at : Point) (edge : Edge) : Type 0 where
  pub begins : rightwards edge ≡ edge_between at (end_of (rightwards edge))
  pub way : way_from at edge ≡ direction_between at (end_of (rightwards edge))
  pub right : pos 0 <ℤ (way_from at edge).x
  pub over : is_over at.x (rightwards edge) ≡ true
  pub ahead : is_over (at.x -ℤ pos 1) (rightwards edge) ≡ false

pub sided : (at : Point) (edge : Edge) → edge.x0 ≢ edge.x1 → Touches at edge → FromLeft at edge ⊎ ToRight at edge
sided at edge sloped touches = by (touches-turned at edge touches) (rightwards-onwards edge sloped)
  where
    by : Touches at (rightwards edge) → (rightwards edge).x0 <ℤ (rightwards edge).x1 → FromLeft at edge ⊎ ToRight at edge
    by (inr is) onwards =
        let r = rightwards edge in
        let level : r.x1 ≡ at.x = ap (λ (p : Point). p.x) is in
        let goes = sym (way-turned at edge) ∙ way-end at r is in inl (record {
          ends = ap (λ (p : Point). edge_between (start_of r) p) is;
          way = goes;
          left = (let along = ap (λ (d : Direction). d.x) goes in omega (arith, ints, along, level, onwards));
          over = over_true (at.x -ℤ pos 1) r (omega (arith, ints, level, onwards)) (omega (arith, ints, level));
          done = over_late at.x r (omega (arith, ints, level));
        })
    by (inl is) onwards =
        let r = rightwards edge in
        let level : r.x0 ≡ at.x = ap (λ (p : Point). p.x) is in
        let goes = sym (way-turned at edge) ∙ way-start at r is in inr (record {
          begins = ap (λ (p : Point). edge_between p (end_of r)) is;
          way = goes;
          right = (let along = ap (λ (d : Direction). d.x) goes in omega (arith, ints, along, level, onwards));
          over = over_true at.x r (omega (arith, ints, level)) (omega (arith, ints, level, onwards));
          ahead = over_early (at.x -ℤ pos 1) r (omega (arith, ints, level));
        })

-- ---- which edge is lower, by the ways

abbrev height : Term → Term → Term → Term → Term → Term
height x0 y0 x1 y1 x = plus (times y0 (minus x1 x)) (times y1 (minus x x0))

-- how much lower the one is than the other, of edges that end at the point, and of edges that start there
ends-apart : (at p q : Point) →
    (((height_by_runs (edge_between q at) (edge_between p at) (at.x -ℤ pos 1) +ℤ height_by_runs (edge_between q at) (edge_between p at) ((at.x -ℤ pos 1) +ℤ pos 1))
    -ℤ (height_by_runs (edge_between p at) (edge_between q at) (at.x -ℤ pos 1) +ℤ height_by_runs (edge_between p at) (edge_between q at) ((at.x -ℤ pos 1) +ℤ pos 1)))
    ≡ (pos 0 -ℤ turn (direction_between at p) (direction_between at q)))
ends-apart at p q =
    let x = minus (number at.x) (n_of 1) in
    let of_p = height (number p.x) (number p.y) (number at.x) (number at.y) in
    let of_q = height (number q.x) (number q.y) (number at.x) (number at.y) in
    let run_p = minus (number at.x) (number p.x) in
    let run_q = minus (number at.x) (number q.x) in
    identity
    (minus (plus (times (of_q x) run_p) (times (of_q (plus x (n_of 1))) run_p)) (plus (times (of_p x) run_q) (times (of_p (plus x (n_of 1))) run_q)))
    (minus (n_of 0) (minus (times (minus (number p.x) (number at.x)) (minus (number q.y) (number at.y))) (times (minus (number p.y) (number at.y)) (minus (number q.x) (number at.x)))))
    (omega arith)

starts-apart : (at p q : Point) →
    (((height_by_runs (edge_between at q) (edge_between at p) at.x +ℤ height_by_runs (edge_between at q) (edge_between at p) (at.x +ℤ pos 1))
    -ℤ (height_by_runs (edge_between at p) (edge_between at q) at.x +ℤ height_by_runs (edge_between at p) (edge_between at q) (at.x +ℤ pos 1)))
    ≡ turn (direction_between at p) (direction_between at q))
starts-apart at p q =
    let x = number at.x in
    let of_p = height (number at.x) (number at.y) (number p.x) (number p.y) in
    let of_q = height (number at.x) (number at.y) (number q.x) (number q.y) in
    let run_p = minus (number p.x) (number at.x) in
    let run_q = minus (number q.x) (number at.x) in
    identity
    (minus (plus (times (of_q x) run_p) (times (of_q (plus x (n_of 1))) run_p)) (plus (times (of_p x) run_q) (times (of_p (plus x (n_of 1))) run_q)))
    (minus (times (minus (number p.x) (number at.x)) (minus (number q.y) (number at.y))) (times (minus (number p.y) (number at.y)) (minus (number q.x) (number at.x))))
    (omega arith)

-- to the left of the point the higher one lies clockwise from the lower one, and to the right the lower one from the higher one
pub lower-left : (at : Point) (one other : Edge) → FromLeft at one → FromLeft at other → is_lower_on (at.x -ℤ pos 1) (rightwards one) (rightwards other) ≡ true → turn (way_from at one) (way_from at other) <ℤ pos 0
lower-left at one other is is_too lower =
    let p = start_of (rightwards one) in
    let q = start_of (rightwards other) in
    let less = lt_is
    (height_by_runs (edge_between p at) (edge_between q at) (at.x -ℤ pos 1) +ℤ height_by_runs (edge_between p at) (edge_between q at) ((at.x -ℤ pos 1) +ℤ pos 1))
    (height_by_runs (edge_between q at) (edge_between p at) (at.x -ℤ pos 1) +ℤ height_by_runs (edge_between q at) (edge_between p at) ((at.x -ℤ pos 1) +ℤ pos 1))
    (sym (ap₂ (λ (r s : Edge). is_lower_on (at.x -ℤ pos 1) r s) is.ends is_too.ends) ∙ lower) in
    let gap = ends-apart at p q in
    let same = ap₂ (λ (d e : Direction). turn d e) is.way is_too.way in
    omega (arith, ints, less, gap, same)

pub lower-right : (at : Point) (one other : Edge) → ToRight at one → ToRight at other → is_lower_on at.x (rightwards one) (rightwards other) ≡ true → turn (way_from at other) (way_from at one) <ℤ pos 0
lower-right at one other is is_too lower =
    let p = end_of (rightwards one) in
    let q = end_of (rightwards other) in
    let less = lt_is
    (height_by_runs (edge_between at p) (edge_between at q) at.x +ℤ height_by_runs (edge_between at p) (edge_between at q) (at.x +ℤ pos 1))
    (height_by_runs (edge_between at q) (edge_between at p) at.x +ℤ height_by_runs (edge_between at q) (edge_between at p) (at.x +ℤ pos 1))
    (sym (ap₂ (λ (r s : Edge). is_lower_on at.x r s) is.begins is_too.begins) ∙ lower) in
    let gap = starts-apart at p q in
    let same = ap₂ (λ (d e : Direction). turn d e) is.way is_too.way in
    let back = turn-back (way_from at other) (way_from at one) in
    omega (arith, ints, less, gap, same, back)

-- ---- from one edge to the next

never : true ≡ false → ⊥
never h = cc

module _ (edges : List Edge) (noded : AreNoded edges) (distinct : AreDistinct edges) (sloped : All (λ edge. edge.x0 ≢ edge.x1) edges) (mine : List Edge) (closed : AreBalanced mine)
    (into : (edge : Edge) → Contains mine edge → Contains edges edge) (at : Point) (one other : Edge) (is : IsNextAround edges at one other) where
  -- the stretch before the point
  abbrev before : ℤ
  before = at.x -ℤ pos 1

  step : at.x ≡ (before +ℤ pos 1)
  step = omega (arith, ints)

  has-slope : (edge : Edge) → Contains edges edge → edge.x0 ≢ edge.x1
  has-slope edge inside = All-contains (λ (e : Edge). e.x0 ≢ e.x1) edges edge sloped inside

  mine-sloped : All (λ edge. edge.x0 ≢ edge.x1) mine
  mine-sloped = All-among (λ edge. edge.x0 ≢ edge.x1) mine (λ edge held. has-slope edge (into edge held))

  low : total (beneath at before) mine ≡ total (beneath at at.x) mine
  low = same-beneath at before step mine closed mine-sloped

  high : total (not_above at before) mine ≡ total (not_above at at.x) mine
  high = same-not-above at before step mine closed mine-sloped

  differ : rightwards one ≢ rightwards other
  differ same = is.apart (same-one edges one other distinct is.among is.among_too (turned-same one other same))

  -- an edge over the stretch before the point is to its left, and one over the stretch behind it to its right
  from-left : (edge : Edge) → Contains edges edge → Touches at edge → is_over before (rightwards edge) ≡ true → FromLeft at edge
  from-left edge inside touching over = elim (sided at edge (has-slope edge inside) touching) [ inl left ↦ left | inr right ↦ absurd (never (sym over ∙ right.ahead)) ]

  to-right : (edge : Edge) → Contains edges edge → Touches at edge → is_over at.x (rightwards edge) ≡ true → ToRight at edge
  to-right edge inside touching over = elim (sided at edge (has-slope edge inside) touching) [ inl left ↦ absurd (never (sym over ∙ left.done)) | inr right ↦ right ]

  -- what is lower or higher than the one isn't the one
  not-above-it : (x : ℤ) (edge : Edge) → is_lower_on x (rightwards one) (rightwards edge) ≡ true → edge ≢ one
  not-above-it x edge lower same = never (sym lower ∙ ap (λ (e : Edge). is_lower_on x (rightwards one) (rightwards e)) same ∙ lower-irrefl x (rightwards one))

  not-below-it : (x : ℤ) (edge : Edge) → is_lower_on x (rightwards edge) (rightwards one) ≡ true → edge ≢ one
  not-below-it x edge lower same = never (sym lower ∙ ap (λ (e : Edge). is_lower_on x (rightwards e) (rightwards one)) same ∙ lower-irrefl x (rightwards one))

  -- nor is what is lower than an edge that is lower than the one, and so on
  not-below : (x : ℤ) (edge : Edge) → is_lower_on x (rightwards edge) (rightwards other) ≡ true → is_lower_on x (rightwards other) (rightwards one) ≡ true → edge ≢ one
  not-below x edge lower less same = never (sym lower ∙ ap (λ (e : Edge). is_lower_on x (rightwards e) (rightwards other)) same ∙ lower-asym x (rightwards other) (rightwards one) less)

  not-above : (x : ℤ) (edge : Edge) → is_lower_on x (rightwards other) (rightwards edge) ≡ true → is_lower_on x (rightwards one) (rightwards other) ≡ true → edge ≢ one
  not-above x edge lower less same = never (sym lower ∙ ap (λ (e : Edge). is_lower_on x (rightwards other) (rightwards e)) same ∙ lower-asym x (rightwards one) (rightwards other) less)

  -- nor is what lies on the other side
  right-apart : FromLeft at one → (edge : Edge) → ToRight at edge → edge ≢ one
  right-apart left edge right same = never (sym right.over ∙ ap (λ (e : Edge). is_over at.x (rightwards e)) same ∙ left.done)

  left-apart : ToRight at one → (edge : Edge) → FromLeft at edge → edge ≢ one
  left-apart right edge left same = never (sym left.over ∙ ap (λ (e : Edge). is_over before (rightwards e)) same ∙ right.ahead)

  abbrev a : Direction
  a = way_from at one

  abbrev b : Direction
  b = way_from at other

  abbrev way : Edge → Direction
  way edge = way_from at edge

  back : turn b a <ℤ pos 0 → pos 0 <ℤ turn a b
  back below = let same = turn-back b a in omega (arith, ints, below, same)

  -- both to the left
  left-left : FromLeft at one → FromLeft at other → just_above mine one ≡ just_below mine other
  left-left left left_too =
      elim (lower-apart (rightwards one) (rightwards other) before (turned-meet edges noded one other is.among is.among_too) differ left.over left_too.over) [
        | inl less ↦ next edges noded sloped mine closed into at one other is.among is.among_too is.touches is.touches_too before (inr step) left.over left_too.over less
            (λ edge inside touching over above_one below_other.
            let is_left = from-left edge inside touching over in
            is.first edge inside touching (not-above-it before edge above_one)
            (between-first a (way edge) b (lower-left at one edge left is_left above_one) (lower-left at one other left left_too less) (lower-left at edge other is_left left_too below_other)))
        | inr more ↦ round (back (lower-left at other one left_too left more)) more
      ]
    where
      round : pos 0 <ℤ turn a b → is_lower_on before (rightwards other) (rightwards one) ≡ true → just_above mine one ≡ just_below mine other
      round above more =
          highest edges noded sloped mine closed into at one is.among is.touches before (inr step) left.over
          (λ edge inside touching over above_one.
          is.first edge inside touching (not-above-it before edge above_one) (onwards-first a (way edge) b above (lower-left at one edge left (from-left edge inside touching over) above_one)))
          ∙ high
          ∙ empty edges noded sloped mine closed into at one is.among is.touches at.x (inl refl)
          (λ edge inside touching. elim (sided at edge (has-slope edge inside) touching) [
            | inl is_left ↦ is_left.done
            | inr is_right ↦ absurd (is.first edge inside touching (right-apart left edge is_right) (beyond-first a (way edge) b (inl (left.left, left_too.left)) (inl (left.left, is_right.right)) above))
          ])
          ∙ sym low
          ∙ sym (lowest edges noded sloped mine closed into at other is.among_too is.touches_too before (inr step) left_too.over
          (λ edge inside touching over below_other.
          let is_left = from-left edge inside touching over in
          is.first edge inside touching (not-below before edge below_other more)
          (back-first a (way edge) b (inl (left.left, is_left.left)) (inl (left.left, left_too.left)) above (lower-left at edge other is_left left_too below_other))))

  -- both to the right
  right-right : ToRight at one → ToRight at other → just_below mine one ≡ just_above mine other
  right-right right right_too =
      elim (lower-apart (rightwards one) (rightwards other) at.x (turned-meet edges noded one other is.among is.among_too) differ right.over right_too.over) [
        | inl less ↦ round (back (lower-right at one other right right_too less)) less
        | inr more ↦ sym (next edges noded sloped mine closed into at other one is.among_too is.among is.touches_too is.touches at.x (inl refl) right_too.over right.over more
            (λ edge inside touching over above_other below_one.
            let is_right = to-right edge inside touching over in
            is.first edge inside touching (not-below-it at.x edge below_one)
            (between-first a (way edge) b (lower-right at edge one is_right right below_one) (lower-right at other one right_too right more) (lower-right at other edge right_too is_right above_other))))
      ]
    where
      round : pos 0 <ℤ turn a b → is_lower_on at.x (rightwards one) (rightwards other) ≡ true → just_below mine one ≡ just_above mine other
      round above less =
          lowest edges noded sloped mine closed into at one is.among is.touches at.x (inl refl) right.over
          (λ edge inside touching over below_one.
          is.first edge inside touching (not-below-it at.x edge below_one) (onwards-first a (way edge) b above (lower-right at edge one (to-right edge inside touching over) right below_one)))
          ∙ sym low
          ∙ sym (empty edges noded sloped mine closed into at one is.among is.touches before (inr step)
          (λ edge inside touching. elim (sided at edge (has-slope edge inside) touching) [
            | inl is_left ↦ absurd (is.first edge inside touching (left-apart right edge is_left) (beyond-first a (way edge) b (inr (right.right, right_too.right)) (inr (right.right, is_left.left)) above))
            | inr is_right ↦ is_right.ahead
          ]))
          ∙ high
          ∙ sym (highest edges noded sloped mine closed into at other is.among_too is.touches_too at.x (inl refl) right_too.over
          (λ edge inside touching over above_other.
          let is_right = to-right edge inside touching over in
          is.first edge inside touching (not-above at.x edge above_other less)
          (back-first a (way edge) b (inr (right.right, is_right.right)) (inr (right.right, right_too.right)) above (lower-right at other edge right_too is_right above_other))))

  -- from the left to the right, over the top
  left-right : FromLeft at one → ToRight at other → just_above mine one ≡ just_above mine other
  left-right left right =
      highest edges noded sloped mine closed into at one is.among is.touches before (inr step) left.over
      (λ edge inside touching over above_one.
      let is_left = from-left edge inside touching over in
      is.first edge inside touching (not-above-it before edge above_one)
      (behind-first a (way edge) b (inl (left.left, is_left.left)) (inl (left.left, right.right)) (lower-left at one edge left is_left above_one)))
      ∙ high
      ∙ sym (highest edges noded sloped mine closed into at other is.among_too is.touches_too at.x (inl refl) right.over
      (λ edge inside touching over above_other.
      let is_right = to-right edge inside touching over in
      is.first edge inside touching (right-apart left edge is_right)
      (before-first a (way edge) b (inl (left.left, is_right.right)) (inr (is_right.right, right.right)) (lower-right at other edge right is_right above_other))))

  -- from the right to the left, below the point
  right-left : ToRight at one → FromLeft at other → just_below mine one ≡ just_below mine other
  right-left right left =
      lowest edges noded sloped mine closed into at one is.among is.touches at.x (inl refl) right.over
      (λ edge inside touching over below_one.
      let is_right = to-right edge inside touching over in
      is.first edge inside touching (not-below-it at.x edge below_one)
      (behind-first a (way edge) b (inr (right.right, is_right.right)) (inr (right.right, left.left)) (lower-right at edge one is_right right below_one)))
      ∙ sym low
      ∙ sym (lowest edges noded sloped mine closed into at other is.among_too is.touches_too before (inr step) left.over
      (λ edge inside touching over below_other.
      let is_left = from-left edge inside touching over in
      is.first edge inside touching (left-apart right edge is_left)
      (before-first a (way edge) b (inr (right.right, is_left.left)) (inl (is_left.left, left.left)) (lower-left at edge other is_left left below_other))))

  -- Just clockwise of the one they wind as just counterclockwise of the other.
  pub same-between : clockwise_of mine at one ≡ counter_of mine at other
  same-between =
      elim (sided at one (has-slope one is.among) is.touches) [
        | inl left ↦ on_true (lt_z a.x (pos 0)) (just_above mine one) (just_below mine one) (lt_true a.x (pos 0) left.left)
            ∙ elim (sided at other (has-slope other is.among_too) is.touches_too) [
              | inl left_too ↦ left-left left left_too ∙ sym (on_true (lt_z b.x (pos 0)) (just_below mine other) (just_above mine other) (lt_true b.x (pos 0) left_too.left))
              | inr right ↦ left-right left right ∙ sym (on_false (lt_z b.x (pos 0)) (just_below mine other) (just_above mine other) (lt_false b.x (pos 0) (from b.x right.right)))
            ]
        | inr right ↦ on_false (lt_z a.x (pos 0)) (just_above mine one) (just_below mine one) (lt_false a.x (pos 0) (from a.x right.right))
            ∙ elim (sided at other (has-slope other is.among_too) is.touches_too) [
              | inl left ↦ right-left right left ∙ sym (on_true (lt_z b.x (pos 0)) (just_below mine other) (just_above mine other) (lt_true b.x (pos 0) left.left))
              | inr right_too ↦ right-right right right_too ∙ sym (on_false (lt_z b.x (pos 0)) (just_below mine other) (just_above mine other) (lt_false b.x (pos 0) (from b.x right_too.right)))
            ]
      ]
    where
      on_true : (t : Bool) (m n : ℤ) → t ≡ true → cond t m n ≡ m
      on_true t m n told = ap (λ s. cond s m n) told

      on_false : (t : Bool) (m n : ℤ) → t ≡ false → cond t m n ≡ n
      on_false t m n told = ap (λ s. cond s m n) told

      from : (z : ℤ) → pos 0 <ℤ z → pos 0 ≤ℤ z
      from z above = omega (arith, ints, above)

-- ---- on the left and on the right

ends-lesser : (at : Point) (edge : Edge) → end_of edge ≡ at → lt_z edge.x0 edge.x1 ≡ lt_z (way_from at edge).x (pos 0)
ends-lesser at edge is = alike edge.x0 edge.x1 at.x (ap (λ (p : Point). p.x) is)
  where
    alike : (p q r : ℤ) → q ≡ r → lt_z p q ≡ lt_z (((p +ℤ q) -ℤ r) -ℤ r) (pos 0)
    alike p q r same = lt_same p q (((p +ℤ q) -ℤ r) -ℤ r) (pos 0) (λ less. omega (arith, ints, same, less)) (λ less. omega (arith, ints, same, less))

starts-cond : (at : Point) (edge : Edge) → edge.x0 ≢ edge.x1 → start_of edge ≡ at → (m n : ℤ) → cond (lt_z edge.x0 edge.x1) m n ≡ cond (lt_z (way_from at edge).x (pos 0)) n m
starts-cond at edge sloped is m n = by edge.x0 edge.x1 at.x (ap (λ (p : Point). p.x) is) sloped
  where
    by : (p q r : ℤ) → p ≡ r → p ≢ q → cond (lt_z p q) m n ≡ cond (lt_z (((p +ℤ q) -ℤ r) -ℤ r) (pos 0)) n m
    by p q r same differ =
        by_lt_z p q
        (λ less. ap (λ t. cond t m n) (lt_true p q less) ∙ sym (ap (λ t. cond t n m) (lt_false (((p +ℤ q) -ℤ r) -ℤ r) (pos 0) (omega (arith, ints, same, less)))))
        (λ upto.
        ap (λ t. cond t m n) (lt_false p q upto)
        ∙ sym (ap (λ t. cond t n m) (lt_true (((p +ℤ q) -ℤ r) -ℤ r) (pos 0) (by_lt_z q p (λ less. omega (arith, ints, same, less)) (λ from. absurd (differ (omega (arith, ints, upto, from))))))))

-- clockwise of an edge that ends at the point is its left, and counterclockwise of one that starts there
pub left-ending : (mine : List Edge) (at : Point) (edge : Edge) → end_of edge ≡ at → left_of mine edge ≡ clockwise_of mine at edge
left-ending mine at edge is = ap (λ t. cond t (just_above mine edge) (just_below mine edge)) (ends-lesser at edge is)

pub right-ending : (mine : List Edge) (at : Point) (edge : Edge) → end_of edge ≡ at → right_of mine edge ≡ counter_of mine at edge
right-ending mine at edge is = ap (λ t. cond t (just_below mine edge) (just_above mine edge)) (ends-lesser at edge is)

pub left-starting : (mine : List Edge) (at : Point) (edge : Edge) → edge.x0 ≢ edge.x1 → start_of edge ≡ at → left_of mine edge ≡ counter_of mine at edge
left-starting mine at edge sloped is = starts-cond at edge sloped is (just_above mine edge) (just_below mine edge)

pub right-starting : (mine : List Edge) (at : Point) (edge : Edge) → edge.x0 ≢ edge.x1 → start_of edge ≡ at → right_of mine edge ≡ clockwise_of mine at edge
right-starting mine at edge sloped is = starts-cond at edge sloped is (just_below mine edge) (just_above mine edge)
