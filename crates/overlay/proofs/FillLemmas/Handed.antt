-- What is below the lowest of the pieces that begin at a point is what was below the lowest of those that end there, but for what
-- has ended and what has begun below the point in its column.
use Rattle.std.proofs.Common.{◌≡◌, ◌⊎◌, inl, inr, ℤ, pos, ◌+ℤ◌, ◌-ℤ◌, ◌*ℤ◌, ◌≤ℤ◌, ◌<ℤ◌, Bool, true, false, ◌&&◌, List, refl, ap, arith, sym, subst, ◌∙◌}
use Rattle.std.specs.Int.Signed.{lt_z}
use Rattle.std.specs.List.{All, Contains}
use Rattle.std.specs.Ordering.{int_eq}
use Rattle.std.proofs.lemmas.Bool.{and_left}
use Rattle.std.proofs.lemmas.Int.{ints, by_lt_z}
use Rattle.plane.specs.declared.edge.Edge.{Edge}
use Rattle.plane.specs.declared.point.Point.{Point}
use Rattle.plane.specs.Ends.{start_of}
use Rattle.plane.specs.SweepLine.Heights.{run, rise, height_by_run, height_by_runs}
use Rattle.plane.proofs.MeetLemmas.Identities.{Term, number, plus, minus, times, identity}
use Rattle.plane.proofs.SweepLineLemmas.Comparisons.{at_begin}
use Rattle.plane.proofs.SweepLineLemmas.Gaps.{gap}
use Rattle.overlay.specs.declared.fill.pieces.Piece.{Piece}
use Rattle.overlay.specs.Fill.Counts.{is_over, is_lower_on}
use Rattle.overlay.specs.Fill.Handed.{begins_below, ends_below}
use Rattle.overlay.specs.Fill.Pieces.{AreJoined, total}
use Rattle.overlay.specs.Fill.Sweep.{AreFillPieces, is_below_on}
use Rattle.overlay.specs.Fill.Turned.{asked}
use Rattle.overlay.proofs.FillLemmas.Along.{count-along}
use Rattle.overlay.proofs.FillLemmas.Aside.{IsAside, aside}
use Rattle.overlay.proofs.FillLemmas.Balance.{balanced}
use Rattle.overlay.proofs.FillLemmas.Columns.{Moves, moves-weighed}
use Rattle.overlay.proofs.FillLemmas.Level.{MeetOnly}
use Rattle.overlay.proofs.FillLemmas.Order.{lower_out, middle}
use Rattle.overlay.proofs.FillLemmas.Premises.{All-among, clip-aside, subject-aside}
use Rattle.overlay.proofs.FillLemmas.Tests.{int_eq-false, int_eq-true, lt_false, lt_true, over_early, over_late, over_true}
use Rattle.overlay.proofs.FillLemmas.Totals.{total-difference, total-same}
use Rattle.overlay.proofs.FillLemmas.Uncrossed.{MeetOnly-exchanged, Uncrossed, uncrossed, uncrossed_onwards}
use Rattle.noding.specs.Windings.{IsClosed}
use Rattle.noding.proofs.SnapLemmas.Numbers.{product_positive}

-- ---- on which side of an edge another one is, by one height

-- a greater height is greater by any run
pub by_run : (k a b : ℤ) → pos 0 <ℤ k → a <ℤ b → (a *ℤ k) <ℤ (b *ℤ k)
by_run k a b some less =
    let above = product_positive k (b -ℤ a) some (omega (arith, ints, less)) in
    let apart : (k *ℤ (b -ℤ a)) ≡ ((b *ℤ k) -ℤ (a *ℤ k)) = identity (times (number k) (minus (number b) (number a))) (minus (times (number b) (number k)) (times (number a) (number k))) (omega arith) in
    omega (arith, ints, above, apart)

exchanged : (y m n : ℤ) → ((y *ℤ m) *ℤ n) ≡ ((y *ℤ n) *ℤ m)
exchanged y m n = identity (times (times (number y) (number m)) (number n)) (times (times (number y) (number n)) (number m)) (omega arith)

pub at_end : (edge : Edge) → height_by_run edge edge.x1 ≡ (edge.y1 *ℤ run edge)
at_end edge =
    identity (plus (times (number edge.y0) (minus (number edge.x1) (number edge.x1))) (times (number edge.y1) (minus (number edge.x1) (number edge.x0))))
    (times (number edge.y1) (minus (number edge.x1) (number edge.x0)))
    (omega arith)

-- Both edges are over the stretch from x to x + 1, and at one of its ends, z, the second is at the height y.
module _ (e h : Edge) (uncrossed : Uncrossed e h) (some : e.x0 <ℤ e.x1) (some_too : h.x0 <ℤ h.x1) (x z y : ℤ) (from : e.x0 ≤ℤ x) (before : x <ℤ e.x1) (from_too : h.x0 ≤ℤ x) (before_too : x <ℤ h.x1)
    (at : (z ≡ x) ⊎ (z ≡ (x +ℤ pos 1))) (level : height_by_run h z ≡ (y *ℤ run h)) where
  -- how far the second is above the first there
  gap_at : gap e h z ≡ (((y *ℤ run e) *ℤ run h) -ℤ (height_by_run e z *ℤ run h))
  gap_at = ap (λ (a : ℤ). (a *ℤ run e) -ℤ (height_by_run e z *ℤ run h)) level ∙ ap (λ (a : ℤ). a -ℤ (height_by_run e z *ℤ run h)) (exchanged y (run h) (run e))

  -- where it isn't crossed
  on : (a b : ℤ) → x ≤ℤ a → a ≤ℤ (x +ℤ pos 1) → x ≤ℤ b → b ≤ℤ (x +ℤ pos 1) → gap e h a <ℤ pos 0 → gap e h b ≤ℤ pos 0
  on a b a_from a_upto b_from b_upto = uncrossed a b (omega (arith, ints)) (omega (arith, ints)) (omega (arith, ints)) (omega (arith, ints)) (omega (arith, ints)) (omega (arith, ints)) (omega (arith, ints)) (omega (arith, ints))

  z_from : x ≤ℤ z
  z_from = elim at [ inl is ↦ omega (arith, ints, is) | inr is ↦ omega (arith, ints, is) ]

  z_upto : z ≤ℤ (x +ℤ pos 1)
  z_upto = elim at [ inl is ↦ omega (arith, ints, is) | inr is ↦ omega (arith, ints, is) ]

  -- what is above the height y there isn't lower
  above-not_lower : (y *ℤ run e) <ℤ height_by_run e z → is_lower_on x e h ≡ false
  above-not_lower above =
      let more = by_run (run h) (y *ℤ run e) (height_by_run e z) (omega (arith, ints)) above in
      let is = gap_at in
      let less : gap e h z <ℤ pos 0 = omega (arith, ints, more, is) in
      let one = on z x z_from z_upto (omega (arith, ints)) (omega (arith, ints)) less in
      let two = on z (x +ℤ pos 1) z_from z_upto (omega (arith, ints)) (omega (arith, ints)) less in
      lt_false (height_by_runs e h x +ℤ height_by_runs e h (x +ℤ pos 1)) (height_by_runs h e x +ℤ height_by_runs h e (x +ℤ pos 1)) (omega (arith, ints, one, two))

  -- and what is below it is
  pub below-lower : height_by_run e z <ℤ (y *ℤ run e) → is_lower_on x e h ≡ true
  below-lower below =
      let more = by_run (run h) (height_by_run e z) (y *ℤ run e) (omega (arith, ints)) below in
      let is = gap_at in
      let some_gap : pos 0 <ℤ gap e h z = omega (arith, ints, more, is) in
      let back : (a : ℤ) → x ≤ℤ a → a ≤ℤ (x +ℤ pos 1) → pos 0 ≤ℤ gap e h a =
      (λ a a_from a_upto. by_lt_z (gap e h a) (pos 0) (λ less. let upto = on a z a_from a_upto z_from z_upto less in absurd (omega (arith, ints, upto, some_gap))) (λ not. not)) in
      let one = back x (omega (arith, ints)) (omega (arith, ints)) in
      let two = back (x +ℤ pos 1) (omega (arith, ints)) (omega (arith, ints)) in
      let sum : pos 0 <ℤ (gap e h x +ℤ gap e h (x +ℤ pos 1)) = elim at [
        | inl same ↦ let there : pos 0 <ℤ gap e h x = subst (λ (a : ℤ). pos 0 <ℤ gap e h a) same some_gap in omega (arith, ints, there, two)
        | inr same ↦ let there : pos 0 <ℤ gap e h (x +ℤ pos 1) = subst (λ (a : ℤ). pos 0 <ℤ gap e h a) same some_gap in omega (arith, ints, there, one)
      ] in
      lt_true (height_by_runs e h x +ℤ height_by_runs e h (x +ℤ pos 1)) (height_by_runs h e x +ℤ height_by_runs h e (x +ℤ pos 1)) (omega (arith, ints, sum))

  -- what is above it is higher
  pub above-higher : (y *ℤ run e) <ℤ height_by_run e z → is_lower_on x h e ≡ true
  above-higher above =
      let more = by_run (run h) (y *ℤ run e) (height_by_run e z) (omega (arith, ints)) above in
      let is = gap_at in
      let less : gap e h z <ℤ pos 0 = omega (arith, ints, more, is) in
      let one = on z x z_from z_upto (omega (arith, ints)) (omega (arith, ints)) less in
      let two = on z (x +ℤ pos 1) z_from z_upto (omega (arith, ints)) (omega (arith, ints)) less in
      let sum : (gap e h x +ℤ gap e h (x +ℤ pos 1)) <ℤ pos 0 = elim at [
        | inl same ↦ let there : gap e h x <ℤ pos 0 = subst (λ (a : ℤ). gap e h a <ℤ pos 0) same less in omega (arith, ints, there, two)
        | inr same ↦ let there : gap e h (x +ℤ pos 1) <ℤ pos 0 = subst (λ (a : ℤ). gap e h a <ℤ pos 0) same less in omega (arith, ints, there, one)
      ] in
      lt_true (height_by_runs h e x +ℤ height_by_runs h e (x +ℤ pos 1)) (height_by_runs e h x +ℤ height_by_runs e h (x +ℤ pos 1)) (omega (arith, ints, sum))

-- ---- of two that end at one point the steeper one is lower

-- twice the height half a step before the end, by the run
middle-end : (e : Edge) (w : ℤ) → (w +ℤ pos 1) ≡ e.x1 → middle w e ≡ (((e.y1 *ℤ run e) +ℤ (e.y1 *ℤ run e)) -ℤ rise e)
middle-end e w is =
    let back : w ≡ (e.x1 -ℤ pos 1) = omega (arith, ints, is) in
    ap (λ (z : ℤ). middle z e) back
    ∙ identity (plus (height (minus (number e.x1) (number (pos 1)))) (height (plus (minus (number e.x1) (number (pos 1))) (number (pos 1)))))
    (minus (plus (times (number e.y1) along) (times (number e.y1) along)) (minus (number e.y1) (number e.y0)))
    (omega arith)
  where
    height : Term → Term
    height z = plus (times (number e.y0) (minus (number e.x1) z)) (times (number e.y1) (minus z (number e.x0)))

    along : Term
    along = minus (number e.x1) (number e.x0)

pub steeper-not_lower : (q e : Edge) (w x y : ℤ) → (w +ℤ pos 1) ≡ x → q.x1 ≡ x → e.x1 ≡ x → q.y1 ≡ y → e.y1 ≡ y → (rise e *ℤ run q) ≤ℤ (rise q *ℤ run e) → is_lower_on w e q ≡ false
steeper-not_lower q e w x y next q_x e_x q_y e_y steep = by (is_lower_on w e q) refl
  where
    apart : (a m n r : ℤ) → (((a *ℤ m) +ℤ (a *ℤ m)) -ℤ r) *ℤ n ≡ ((((a *ℤ m) *ℤ n) +ℤ ((a *ℤ m) *ℤ n)) -ℤ (r *ℤ n))
    apart a m n r =
        identity (times (minus (plus (times (number a) (number m)) (times (number a) (number m))) (number r)) (number n))
        (minus (plus (times (times (number a) (number m)) (number n)) (times (times (number a) (number m)) (number n))) (times (number r) (number n)))
        (omega arith)

    by : (t : Bool) → is_lower_on w e q ≡ t → is_lower_on w e q ≡ false
    by false is = is
    by true is =
        let less = lower_out w e q is in
        let one : (middle w e *ℤ run q) ≡ ((((y *ℤ run e) *ℤ run q) +ℤ ((y *ℤ run e) *ℤ run q)) -ℤ (rise e *ℤ run q)) =
        ap (λ (z : ℤ). z *ℤ run q) (middle-end e w (next ∙ sym e_x)) ∙ ap (λ (z : ℤ). (((z *ℤ run e) +ℤ (z *ℤ run e)) -ℤ rise e) *ℤ run q) e_y ∙ apart y (run e) (run q) (rise e) in
        let two : (middle w q *ℤ run e) ≡ ((((y *ℤ run q) *ℤ run e) +ℤ ((y *ℤ run q) *ℤ run e)) -ℤ (rise q *ℤ run e)) =
        ap (λ (z : ℤ). z *ℤ run e) (middle-end q w (next ∙ sym q_x)) ∙ ap (λ (z : ℤ). (((z *ℤ run q) +ℤ (z *ℤ run q)) -ℤ rise q) *ℤ run e) q_y ∙ apart y (run q) (run e) (rise q) in
        let even = exchanged y (run e) (run q) in
        absurd (omega (arith, ints, less, one, two, even, steep))

-- ---- at a point where q ends and g begins

both_over : (s t u v : Bool) → s ≡ true → u ≡ true → t ≡ v → (s && t) ≡ (u && v)
both_over true t true v first second same = same
both_over true t false v first second same = cc
both_over false t u v first second same = cc

-- w is one before x
module _ (q g : Edge) (q_some : q.x0 <ℤ q.x1) (g_some : g.x0 <ℤ g.x1) (w x y : ℤ) (next : (w +ℤ pos 1) ≡ x) (q_x : q.x1 ≡ x) (q_y : q.y1 ≡ y) (g_x : g.x0 ≡ x) (g_y : g.y0 ≡ y) (e : Edge) (some : e.x0 <ℤ e.x1)
    (meet_q : MeetOnly e q) (meet_g : MeetOnly e g) (begins : e.x0 ≡ x → y ≤ℤ e.y0 → is_lower_on x e g ≡ false) (ends : e.x1 ≡ x → y ≤ℤ e.y1 → (y <ℤ e.y1) ⊎ (is_lower_on w e q ≡ false)) where
  q_level : height_by_run q x ≡ (y *ℤ run q)
  q_level = subst (λ (z : ℤ). height_by_run q z ≡ (y *ℤ run q)) q_x (at_end q ∙ ap (λ (z : ℤ). z *ℤ run q) q_y)

  g_level : height_by_run g x ≡ (y *ℤ run g)
  g_level = subst (λ (z : ℤ). height_by_run g z ≡ (y *ℤ run g)) g_x (at_begin g ∙ ap (λ (z : ℤ). z *ℤ run g) g_y)

  q_uncrossed : Uncrossed e q
  q_uncrossed = uncrossed_onwards e q some q_some (uncrossed e q meet_q)

  g_uncrossed : Uncrossed e g
  g_uncrossed = uncrossed_onwards e g some g_some (uncrossed e g meet_g)

  module _ (from : e.x0 ≤ℤ w) (before : w <ℤ e.x1) where
    left-above : (y *ℤ run e) <ℤ height_by_run e x → is_lower_on w e q ≡ false
    left-above = above-not_lower e q q_uncrossed some q_some w x y from before (omega (arith, ints, next, q_x)) (omega (arith, ints, next, q_x)) (inr (sym next)) q_level

    left-below : height_by_run e x <ℤ (y *ℤ run e) → is_lower_on w e q ≡ true
    left-below = below-lower e q q_uncrossed some q_some w x y from before (omega (arith, ints, next, q_x)) (omega (arith, ints, next, q_x)) (inr (sym next)) q_level

  module _ (from : e.x0 ≤ℤ x) (before : x <ℤ e.x1) where
    right-above : (y *ℤ run e) <ℤ height_by_run e x → is_lower_on x e g ≡ false
    right-above = above-not_lower e g g_uncrossed some g_some x x y from before (omega (arith, ints, g_x)) (omega (arith, ints, g_x)) (inl refl) g_level

    right-below : height_by_run e x <ℤ (y *ℤ run e) → is_lower_on x e g ≡ true
    right-below = below-lower e g g_uncrossed some g_some x x y from before (omega (arith, ints, g_x)) (omega (arith, ints, g_x)) (inl refl) g_level

  -- an edge that goes on through the column isn't at the point, and is on one side of both
  through : e.x0 <ℤ x → x <ℤ e.x1 → is_lower_on w e q ≡ is_lower_on x e g
  through earlier past =
      by_lt_z (height_by_run e x) (y *ℤ run e)
      (λ below. left-below (omega (arith, ints, next)) (omega (arith, ints, next)) below ∙ sym (right-below (omega (arith, ints)) past below))
      (λ upto. by_lt_z (y *ℤ run e) (height_by_run e x)
      (λ above. left-above (omega (arith, ints, next)) (omega (arith, ints, next)) above ∙ sym (right-above (omega (arith, ints)) past above))
      (λ back. absurd (off (omega (arith, ints, upto, back)))))
    where
      off : (y *ℤ run e) ≡ height_by_run e x → ⊥
      off level =
          (aside e g (MeetOnly-exchanged e g meet_g)).from.off (omega (arith, ints, g_x)) (omega (arith, ints, g_x))
          (ap (λ (z : ℤ). z *ℤ run e) g_y ∙ level ∙ ap (λ (z : ℤ). height_by_run e z) (sym g_x))

  -- one that ends there is lower than q where it ends lower
  ends-lower : e.x1 ≡ x → is_lower_on w e q ≡ lt_z e.y1 y
  ends-lower is =
      by_lt_z e.y1 y
      (λ below. left-below (omega (arith, ints, next, is)) (omega (arith, ints, next, is)) (subst (λ (h : ℤ). h <ℤ (y *ℤ run e)) (sym level) (by_run (run e) e.y1 y (omega (arith, ints)) below)) ∙ sym (lt_true e.y1 y below))
      (λ upto. elim (ends is upto) [
        | inr not ↦ not ∙ sym (lt_false e.y1 y upto)
        | inl above ↦
            left-above (omega (arith, ints, next, is)) (omega (arith, ints, next, is)) (subst (λ (h : ℤ). (y *ℤ run e) <ℤ h) (sym level) (by_run (run e) y e.y1 (omega (arith, ints)) above)) ∙ sym (lt_false e.y1 y upto)
      ])
    where
      level : height_by_run e x ≡ (e.y1 *ℤ run e)
      level = subst (λ (z : ℤ). height_by_run e z ≡ (e.y1 *ℤ run e)) is (at_end e)

  -- and one that begins there is lower than g where it begins lower
  begins-lower : e.x0 ≡ x → is_lower_on x e g ≡ lt_z e.y0 y
  begins-lower is =
      by_lt_z e.y0 y
      (λ below. right-below (omega (arith, ints, is)) (omega (arith, ints, is)) (subst (λ (h : ℤ). h <ℤ (y *ℤ run e)) (sym level) (by_run (run e) e.y0 y (omega (arith, ints)) below)) ∙ sym (lt_true e.y0 y below))
      (λ upto. begins is upto ∙ sym (lt_false e.y0 y upto))
    where
      level : height_by_run e x ≡ (e.y0 *ℤ run e)
      level = subst (λ (z : ℤ). height_by_run e z ≡ (e.y0 *ℤ run e)) is (at_begin e)

  abbrev point : Point
  point = record { x = x; y = y }

  no_end : (e.x1 ≡ x → ⊥) → ends_below point e ≡ false
  no_end differ = and_left (int_eq e.x1 x) (lt_z e.y1 y) (int_eq-false e.x1 x differ)

  no_begin : (e.x0 ≡ x → ⊥) → begins_below point e ≡ false
  no_begin differ = and_left (int_eq e.x0 x) (lt_z e.y0 y) (int_eq-false e.x0 x differ)

  -- So an edge is below q just before the point as it is below g just behind it, unless it ends or begins in the column, below the
  -- point: then it was below q, or is below g.
  pub below-moves : Moves (is_below_on w q e) (is_below_on x g e) (ends_below point e) (begins_below point e)
  below-moves =
      by_lt_z e.x1 x
      (λ early. inl (
        and_left (is_over w e) (is_lower_on w e q) (over_late w e (omega (arith, ints, next, early))) ∙ sym (no_end (λ is. omega (arith, ints, is, early))),
        and_left (is_over x e) (is_lower_on x e g) (over_late x e (omega (arith, ints, early))) ∙ sym (no_begin (λ is. omega (arith, ints, is, early))),
      ))
      (λ ends_from. by_lt_z x e.x0
      (λ late. inl (
        and_left (is_over w e) (is_lower_on w e q) (over_early w e (omega (arith, ints, next, late))) ∙ sym (no_end (λ is. omega (arith, ints, is, late))),
        and_left (is_over x e) (is_lower_on x e g) (over_early x e late) ∙ sym (no_begin (λ is. omega (arith, ints, is, late))),
      ))
      (λ upto. by_lt_z e.x0 x
      (λ earlier. by_lt_z x e.x1
      (λ past. inr (
        both_over (is_over w e) (is_lower_on w e q) (is_over x e) (is_lower_on x e g) (over_true w e (omega (arith, ints, next, earlier)) (omega (arith, ints, next, past))) (over_true x e upto past) (through earlier past),
        no_end (λ is. omega (arith, ints, is, past)) ∙ sym (no_begin (λ is. omega (arith, ints, is, earlier))),
      ))
      (λ over.
      let is : e.x1 ≡ x = omega (arith, ints, over, ends_from) in inl (
        ap (λ t. t && is_lower_on w e q) (over_true w e (omega (arith, ints, next, earlier)) (omega (arith, ints, next, is))) ∙ ends-lower is ∙ sym (ap (λ t. t && lt_z e.y1 y) (int_eq-true e.x1 x is)),
        and_left (is_over x e) (is_lower_on x e g) (over_late x e over) ∙ sym (no_begin (λ at. omega (arith, ints, at, earlier))),
      )))
      (λ behind.
      let is : e.x0 ≡ x = omega (arith, ints, upto, behind) in inl (
        and_left (is_over w e) (is_lower_on w e q) (over_early w e (omega (arith, ints, next, is))) ∙ sym (no_end (λ at. omega (arith, ints, at, is))),
        ap (λ t. t && is_lower_on x e g) (over_true x e upto (omega (arith, ints, is))) ∙ begins-lower is ∙ sym (ap (λ t. t && lt_z e.y0 y) (int_eq-true e.x0 x is)),
      ))))

-- ---- the counts

no_difference : (a b c d : ℤ) → (a -ℤ b) ≡ (c -ℤ d) → (b +ℤ c) ≡ (a +ℤ d)
no_difference a b c d is = omega (arith, ints, is)

-- what counts ahead, with what ended, weighs what counted behind, with what has begun
pub moved-totals : (pieces : List Piece) (behind ahead ended begun : Edge → Bool) (weigh : Piece → ℤ) → ((e : Piece) → Contains pieces e → Moves (behind e.edge) (ahead e.edge) (ended e.edge) (begun e.edge))
    → (total (asked ahead weigh) pieces +ℤ total (asked ended weigh) pieces) ≡ (total (asked behind weigh) pieces +ℤ total (asked begun weigh) pieces)
moved-totals pieces behind ahead ended begun weigh moves =
    no_difference (total (asked behind weigh) pieces) (total (asked ahead weigh) pieces) (total (asked ended weigh) pieces) (total (asked begun weigh) pieces)
    (sym (total-difference (asked behind weigh) (asked ahead weigh) pieces)
    ∙ total-same (λ p. asked behind weigh p -ℤ asked ahead weigh p) (λ p. asked ended weigh p -ℤ asked begun weigh p) pieces
    (All-among (λ (e : Piece). (asked behind weigh e -ℤ asked ahead weigh e) ≡ (asked ended weigh e -ℤ asked begun weigh e)) pieces
    (λ e among. moves-weighed (behind e.edge) (ahead e.edge) (ended e.edge) (begun e.edge) (weigh e) (moves e among)))
    ∙ total-difference (asked ended weigh) (asked begun weigh) pieces)

module _ (pieces : List Piece) (fill : AreFillPieces pieces) (q g : Piece) (w : ℤ) (q_in : Contains pieces q) (from : q.edge.x0 ≤ℤ w) (before : w <ℤ q.edge.x1)
    (moves : (e : Piece) → Contains pieces e → Moves (is_below_on w q.edge e.edge) (is_below_on g.edge.x0 g.edge e.edge) (ends_below (start_of g.edge) e.edge) (begins_below (start_of g.edge) e.edge)) where
  handed-on : (edges : List Edge) (weigh : Piece → ℤ) → IsClosed edges → All (IsAside q.edge) edges → AreJoined edges weigh pieces
      → (total (asked (is_below_on g.edge.x0 g.edge) weigh) pieces +ℤ total (asked (ends_below (start_of g.edge)) weigh) pieces)
      ≡ (total (asked (is_below_on q.edge.x0 q.edge) weigh) pieces +ℤ total (asked (begins_below (start_of g.edge)) weigh) pieces)
  handed-on edges weigh closed noded joined =
      moved-totals pieces (is_below_on w q.edge) (is_below_on g.edge.x0 g.edge) (ends_below (start_of g.edge)) (begins_below (start_of g.edge)) weigh moves
      ∙ ap (λ (z : ℤ). z +ℤ total (asked (begins_below (start_of g.edge)) weigh) pieces) along
    where
      along : total (asked (is_below_on w q.edge) weigh) pieces ≡ total (asked (is_below_on q.edge.x0 q.edge) weigh) pieces
      along = sym (joined (is_below_on w q.edge)) ∙ count-along q.edge w edges (balanced edges closed) noded from before ∙ joined (is_below_on q.edge.x0 q.edge)

  -- What is below g, with what has ended in the column below it, weighs what was below q, with what has begun there.
  pub subject-handed : (total (asked (is_below_on g.edge.x0 g.edge) (λ p. p.subject)) pieces +ℤ total (asked (ends_below (start_of g.edge)) (λ p. p.subject)) pieces)
      ≡ (total (asked (is_below_on q.edge.x0 q.edge) (λ p. p.subject)) pieces +ℤ total (asked (begins_below (start_of g.edge)) (λ p. p.subject)) pieces)
  subject-handed = handed-on fill.subject (λ p. p.subject) fill.closed (subject-aside fill.subject fill.clip fill.noded pieces fill.are q q_in) fill.are.joined

  pub clip-handed : (total (asked (is_below_on g.edge.x0 g.edge) (λ p. p.clip)) pieces +ℤ total (asked (ends_below (start_of g.edge)) (λ p. p.clip)) pieces)
      ≡ (total (asked (is_below_on q.edge.x0 q.edge) (λ p. p.clip)) pieces +ℤ total (asked (begins_below (start_of g.edge)) (λ p. p.clip)) pieces)
  clip-handed = handed-on fill.clip (λ p. p.clip) fill.clip_closed (clip-aside fill.subject fill.clip fill.noded pieces fill.are q q_in) fill.are.clip_joined
