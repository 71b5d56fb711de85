-- What is above the highest of the pieces that begin at a point is what was above the highest of those that end there, but for what
-- has ended and what has begun in its column below another point. So from one point of a column to the next the difference stays.
use Rattle.std.proofs.Common.{◌≡◌, ◌≢◌, ◌⊎◌, inl, inr, ℤ, pos, ◌+ℤ◌, ◌*ℤ◌, ◌≤ℤ◌, ◌<ℤ◌, Bool, true, false, not, ◌&&◌, cond, List, refl, ap, arith, sym, subst, ◌∙◌}
use Rattle.std.specs.Int.Signed.{lt_z}
use Rattle.std.specs.List.{All, Contains}
use Rattle.std.specs.Ordering.{int_eq}
use Rattle.std.proofs.lemmas.Bool.{and_left}
use Rattle.std.proofs.lemmas.Int.{ints, by_lt_z}
use Rattle.plane.specs.declared.edge.Edge.{Edge}
use Rattle.plane.specs.declared.point.Point.{Point}
use Rattle.plane.specs.SweepLine.Heights.{run, height_by_run}
use Rattle.plane.proofs.SweepLineLemmas.Comparisons.{at_begin}
use Rattle.overlay.specs.declared.fill.pieces.Piece.{Piece}
use Rattle.overlay.specs.Fill.Counts.{is_over, is_lower_on}
use Rattle.overlay.specs.Fill.Handed.{begins_below, ends_below}
use Rattle.overlay.specs.Fill.Pieces.{AreJoined, total}
use Rattle.overlay.specs.Fill.Sweep.{AreFillPieces, is_below_on}
use Rattle.overlay.specs.Fill.Turned.{asked}
use Rattle.overlay.proofs.FillLemmas.Along.{count-along}
use Rattle.overlay.proofs.FillLemmas.Aside.{IsAside, aside}
use Rattle.overlay.proofs.FillLemmas.Balance.{balanced}
use Rattle.overlay.proofs.FillLemmas.Columns.{Moves}
use Rattle.overlay.proofs.FillLemmas.Handed.{above-higher, at_end, below-lower, by_run, moved-totals}
use Rattle.overlay.proofs.FillLemmas.Level.{MeetOnly}
use Rattle.overlay.proofs.FillLemmas.Next.{total-but}
use Rattle.overlay.proofs.FillLemmas.Order.{lower-apart, lower-asym, lower-irrefl}
use Rattle.overlay.proofs.FillLemmas.Premises.{All-among, clip-aside, meet-pieces, subject-aside}
use Rattle.overlay.proofs.FillLemmas.Tests.{int_eq-false, int_eq-true, lt_false, lt_true, over_early, over_late, over_true}
use Rattle.overlay.proofs.FillLemmas.Uncrossed.{MeetOnly-exchanged, Uncrossed, uncrossed, uncrossed_onwards}
use Rattle.noding.specs.Windings.{IsClosed}

-- The edge covers the stretch from x on, and h isn't below it there.
abbrev pub is_upto_on : ℤ → Edge → Edge → Bool
is_upto_on x h edge = is_over x edge && not (is_lower_on x h edge)

both_over : (s t u v : Bool) → s ≡ true → u ≡ true → t ≡ v → (s && t) ≡ (u && v)
both_over true t true v first second same = same
both_over true t false v first second same = cc
both_over false t u v first second same = cc

-- q ends and g begins at the height low in the column x, and w is one before x; nothing that ends or begins in the column is
-- strictly between this height and y.
module _ (q g : Edge) (q_some : q.x0 <ℤ q.x1) (g_some : g.x0 <ℤ g.x1) (w x low y : ℤ) (next : (w +ℤ pos 1) ≡ x) (q_x : q.x1 ≡ x) (q_y : q.y1 ≡ low) (g_x : g.x0 ≡ x) (g_y : g.y0 ≡ low) (rising : low <ℤ y) (e : Edge) (some : e.x0 <ℤ e.x1)
    (meet_q : MeetOnly e q) (meet_g : MeetOnly e g)
    (begins : e.x0 ≡ x → ((e.y0 ≤ℤ low) × (is_lower_on x g e ≡ false)) ⊎ (y ≤ℤ e.y0))
    (ends : e.x1 ≡ x → (e.y1 <ℤ low) ⊎ ((e.y1 ≡ low) × (is_lower_on w q e ≡ false)) ⊎ (y ≤ℤ e.y1)) where
  q_level : height_by_run q x ≡ (low *ℤ run q)
  q_level = subst (λ (z : ℤ). height_by_run q z ≡ (low *ℤ run q)) q_x (at_end q ∙ ap (λ (z : ℤ). z *ℤ run q) q_y)

  g_level : height_by_run g x ≡ (low *ℤ run g)
  g_level = subst (λ (z : ℤ). height_by_run g z ≡ (low *ℤ run g)) g_x (at_begin g ∙ ap (λ (z : ℤ). z *ℤ run g) g_y)

  q_uncrossed : Uncrossed e q
  q_uncrossed = uncrossed_onwards e q some q_some (uncrossed e q meet_q)

  g_uncrossed : Uncrossed e g
  g_uncrossed = uncrossed_onwards e g some g_some (uncrossed e g meet_g)

  module _ (from : e.x0 ≤ℤ w) (before : w <ℤ e.x1) where
    left-above : (low *ℤ run e) <ℤ height_by_run e x → is_lower_on w q e ≡ true
    left-above = above-higher e q q_uncrossed some q_some w x low from before (omega (arith, ints, next, q_x)) (omega (arith, ints, next, q_x)) (inr (sym next)) q_level

    left-below : height_by_run e x <ℤ (low *ℤ run e) → is_lower_on w q e ≡ false
    left-below below = lower-asym w e q (below-lower e q q_uncrossed some q_some w x low from before (omega (arith, ints, next, q_x)) (omega (arith, ints, next, q_x)) (inr (sym next)) q_level below)

  module _ (from : e.x0 ≤ℤ x) (before : x <ℤ e.x1) where
    right-above : (low *ℤ run e) <ℤ height_by_run e x → is_lower_on x g e ≡ true
    right-above = above-higher e g g_uncrossed some g_some x x low from before (omega (arith, ints, g_x)) (omega (arith, ints, g_x)) (inl refl) g_level

    right-below : height_by_run e x <ℤ (low *ℤ run e) → is_lower_on x g e ≡ false
    right-below below = lower-asym x e g (below-lower e g g_uncrossed some g_some x x low from before (omega (arith, ints, g_x)) (omega (arith, ints, g_x)) (inl refl) g_level below)

  through : e.x0 <ℤ x → x <ℤ e.x1 → is_lower_on w q e ≡ is_lower_on x g e
  through earlier past =
      by_lt_z (height_by_run e x) (low *ℤ run e)
      (λ below. left-below (omega (arith, ints, next)) (omega (arith, ints, next)) below ∙ sym (right-below (omega (arith, ints)) past below))
      (λ upto. by_lt_z (low *ℤ run e) (height_by_run e x)
      (λ above. left-above (omega (arith, ints, next)) (omega (arith, ints, next)) above ∙ sym (right-above (omega (arith, ints)) past above))
      (λ back. absurd (off (omega (arith, ints, upto, back)))))
    where
      off : (low *ℤ run e) ≡ height_by_run e x → ⊥
      off level =
          (aside e g (MeetOnly-exchanged e g meet_g)).from.off (omega (arith, ints, g_x)) (omega (arith, ints, g_x))
          (ap (λ (z : ℤ). z *ℤ run e) g_y ∙ level ∙ ap (λ (z : ℤ). height_by_run e z) (sym g_x))

  ends-upto : e.x1 ≡ x → not (is_lower_on w q e) ≡ lt_z e.y1 y
  ends-upto is = elim (ends is) [
    | inl below ↦
        ap not (left-below (omega (arith, ints, next, is)) (omega (arith, ints, next, is)) (subst (λ (h : ℤ). h <ℤ (low *ℤ run e)) (sym level) (by_run (run e) e.y1 low (omega (arith, ints)) below)))
        ∙ sym (lt_true e.y1 y (omega (arith, ints, below, rising)))
    | inr (inl (here, lower)) ↦ ap not lower ∙ sym (lt_true e.y1 y (omega (arith, ints, here, rising)))
    | inr (inr above) ↦
        ap not (left-above (omega (arith, ints, next, is)) (omega (arith, ints, next, is)) (subst (λ (h : ℤ). (low *ℤ run e) <ℤ h) (sym level) (by_run (run e) low e.y1 (omega (arith, ints)) (omega (arith, ints, above, rising)))))
        ∙ sym (lt_false e.y1 y above)
  ]
    where
      level : height_by_run e x ≡ (e.y1 *ℤ run e)
      level = subst (λ (z : ℤ). height_by_run e z ≡ (e.y1 *ℤ run e)) is (at_end e)

  begins-upto : e.x0 ≡ x → not (is_lower_on x g e) ≡ lt_z e.y0 y
  begins-upto is = elim (begins is) [
    | inl (here, lower) ↦ ap not lower ∙ sym (lt_true e.y0 y (omega (arith, ints, here, rising)))
    | inr above ↦
        ap not (right-above (omega (arith, ints, is)) (omega (arith, ints, is)) (subst (λ (h : ℤ). (low *ℤ run e) <ℤ h) (sym level) (by_run (run e) low e.y0 (omega (arith, ints)) (omega (arith, ints, above, rising)))))
        ∙ sym (lt_false e.y0 y above)
  ]
    where
      level : height_by_run e x ≡ (e.y0 *ℤ run e)
      level = subst (λ (z : ℤ). height_by_run e z ≡ (e.y0 *ℤ run e)) is (at_begin e)

  abbrev point : Point
  point = record { x = x; y = y }

  no_end : (e.x1 ≡ x → ⊥) → ends_below point e ≡ false
  no_end differ = and_left (int_eq e.x1 x) (lt_z e.y1 y) (int_eq-false e.x1 x differ)

  no_begin : (e.x0 ≡ x → ⊥) → begins_below point e ≡ false
  no_begin differ = and_left (int_eq e.x0 x) (lt_z e.y0 y) (int_eq-false e.x0 x differ)

  -- An edge is upto q just before the column as it is upto g just behind it, unless it ends or begins in the column below y.
  pub upto-moves : Moves (is_upto_on w q e) (is_upto_on x g e) (ends_below point e) (begins_below point e)
  upto-moves =
      by_lt_z e.x1 x
      (λ early. inl (
        and_left (is_over w e) (not (is_lower_on w q e)) (over_late w e (omega (arith, ints, next, early))) ∙ sym (no_end (λ is. omega (arith, ints, is, early))),
        and_left (is_over x e) (not (is_lower_on x g e)) (over_late x e (omega (arith, ints, early))) ∙ sym (no_begin (λ is. omega (arith, ints, is, early))),
      ))
      (λ ends_from. by_lt_z x e.x0
      (λ late. inl (
        and_left (is_over w e) (not (is_lower_on w q e)) (over_early w e (omega (arith, ints, next, late))) ∙ sym (no_end (λ is. omega (arith, ints, is, late))),
        and_left (is_over x e) (not (is_lower_on x g e)) (over_early x e late) ∙ sym (no_begin (λ is. omega (arith, ints, is, late))),
      ))
      (λ upto. by_lt_z e.x0 x
      (λ earlier. by_lt_z x e.x1
      (λ past. inr (
        both_over (is_over w e) (not (is_lower_on w q e)) (is_over x e) (not (is_lower_on x g e)) (over_true w e (omega (arith, ints, next, earlier)) (omega (arith, ints, next, past))) (over_true x e upto past) (ap not (through earlier past)),
        no_end (λ is. omega (arith, ints, is, past)) ∙ sym (no_begin (λ is. omega (arith, ints, is, earlier))),
      ))
      (λ over.
      let is : e.x1 ≡ x = omega (arith, ints, over, ends_from) in inl (
        ap (λ t. t && not (is_lower_on w q e)) (over_true w e (omega (arith, ints, next, earlier)) (omega (arith, ints, next, is))) ∙ ends-upto is ∙ sym (ap (λ t. t && lt_z e.y1 y) (int_eq-true e.x1 x is)),
        and_left (is_over x e) (not (is_lower_on x g e)) (over_late x e over) ∙ sym (no_begin (λ at. omega (arith, ints, at, earlier))),
      )))
      (λ behind.
      let is : e.x0 ≡ x = omega (arith, ints, upto, behind) in inl (
        and_left (is_over w e) (not (is_lower_on w q e)) (over_early w e (omega (arith, ints, next, is))) ∙ sym (no_end (λ at. omega (arith, ints, at, is))),
        ap (λ t. t && not (is_lower_on x g e)) (over_true x e upto (omega (arith, ints, is))) ∙ begins-upto is ∙ sym (ap (λ t. t && lt_z e.y0 y) (int_eq-true e.x0 x is)),
      ))))

-- ---- the counts above

same_answer : (s t u : Bool) → (t ≡ true) ⊎ (u ≡ true) → (t ≡ true → u ≡ false) → (u ≡ true → t ≡ false) → (s && not u) ≡ (s && t)
same_answer false t u some one other = refl
same_answer true true u some one other = ap not (one refl)
same_answer true false true some one other = refl
same_answer true false false (inl is) one other = cc
same_answer true false false (inr is) one other = cc

module _ (pieces : List Piece) (fill : AreFillPieces pieces) where
  -- what is upto a piece on a stretch is what is below it there, and the piece
  upto-total : (x : ℤ) (h : Piece) (weigh : Piece → ℤ) → Contains pieces h → h.edge.x0 ≤ℤ x → x <ℤ h.edge.x1
      → total (asked (is_upto_on x h.edge) weigh) pieces ≡ (total (asked (is_below_on x h.edge) weigh) pieces +ℤ weigh h)
  upto-total x h weigh among from before =
      total-but (asked (is_upto_on x h.edge) weigh) (asked (is_below_on x h.edge) weigh) h (weigh h) itself pieces fill.are.distinct among
      (All-among (λ (p : Piece). p.edge ≢ h.edge → asked (is_upto_on x h.edge) weigh p ≡ asked (is_below_on x h.edge) weigh p) pieces
      (λ p inside differ. ap (λ t. cond t (weigh p) (pos 0)) (others p inside differ (is_over x p.edge) refl)))
    where
      here : is_over x h.edge ≡ true
      here = over_true x h.edge from before

      alone : (w : ℤ) → w ≡ (pos 0 +ℤ w)
      alone w = omega (arith, ints)

      itself : asked (is_upto_on x h.edge) weigh h ≡ (asked (is_below_on x h.edge) weigh h +ℤ weigh h)
      itself =
          ap (λ t. cond (t && not (is_lower_on x h.edge h.edge)) (weigh h) (pos 0)) here ∙ ap (λ t. cond (not t) (weigh h) (pos 0)) (lower-irrefl x h.edge)
          ∙ alone (weigh h)
          ∙ sym (ap (λ t. cond (t && is_lower_on x h.edge h.edge) (weigh h) (pos 0) +ℤ weigh h) here ∙ ap (λ t. cond t (weigh h) (pos 0) +ℤ weigh h) (lower-irrefl x h.edge))

      others : (p : Piece) → Contains pieces p → p.edge ≢ h.edge → (t : Bool) → is_over x p.edge ≡ t → is_upto_on x h.edge p.edge ≡ is_below_on x h.edge p.edge
      others p inside differ false is =
          and_left (is_over x p.edge) (not (is_lower_on x h.edge p.edge)) is ∙ sym (and_left (is_over x p.edge) (is_lower_on x p.edge h.edge) is)
      others p inside differ true is =
          same_answer (is_over x p.edge) (is_lower_on x p.edge h.edge) (is_lower_on x h.edge p.edge)
          (lower-apart p.edge h.edge x (meet-pieces fill.subject fill.clip fill.noded pieces fill.are p h inside among) differ is here)
          (lower-asym x p.edge h.edge) (lower-asym x h.edge p.edge)

  module _ (q g : Piece) (w : ℤ) (point : Point) (q_in : Contains pieces q) (g_in : Contains pieces g) (g_some : g.edge.x0 <ℤ g.edge.x1) (from : q.edge.x0 ≤ℤ w) (before : w <ℤ q.edge.x1)
      (moves : (e : Piece) → Contains pieces e → Moves (is_upto_on w q.edge e.edge) (is_upto_on g.edge.x0 g.edge e.edge) (ends_below point e.edge) (begins_below point e.edge)) where
    carried-on : (edges : List Edge) (weigh : Piece → ℤ) → IsClosed edges → All (IsAside q.edge) edges → AreJoined edges weigh pieces
        → ((total (asked (is_below_on g.edge.x0 g.edge) weigh) pieces +ℤ weigh g) +ℤ total (asked (ends_below point) weigh) pieces)
        ≡ ((total (asked (is_below_on q.edge.x0 q.edge) weigh) pieces +ℤ weigh q) +ℤ total (asked (begins_below point) weigh) pieces)
    carried-on edges weigh closed noded joined =
        ap (λ (z : ℤ). z +ℤ total (asked (ends_below point) weigh) pieces) (sym (upto-total g.edge.x0 g weigh g_in (omega (arith, ints)) g_some))
        ∙ moved-totals pieces (is_upto_on w q.edge) (is_upto_on g.edge.x0 g.edge) (ends_below point) (begins_below point) weigh moves
        ∙ ap (λ (z : ℤ). z +ℤ total (asked (begins_below point) weigh) pieces) (upto-total w q weigh q_in from before ∙ ap (λ (z : ℤ). z +ℤ weigh q) along)
      where
        along : total (asked (is_below_on w q.edge) weigh) pieces ≡ total (asked (is_below_on q.edge.x0 q.edge) weigh) pieces
        along = sym (joined (is_below_on w q.edge)) ∙ count-along q.edge w edges (balanced edges closed) noded from before ∙ joined (is_below_on q.edge.x0 q.edge)

    -- What is above g, with what has ended in the column below the point, weighs what was above q, with what has begun there.
    pub subject-carried : ((total (asked (is_below_on g.edge.x0 g.edge) (λ p. p.subject)) pieces +ℤ g.subject) +ℤ total (asked (ends_below point) (λ p. p.subject)) pieces)
        ≡ ((total (asked (is_below_on q.edge.x0 q.edge) (λ p. p.subject)) pieces +ℤ q.subject) +ℤ total (asked (begins_below point) (λ p. p.subject)) pieces)
    subject-carried = carried-on fill.subject (λ p. p.subject) fill.closed (subject-aside fill.subject fill.clip fill.noded pieces fill.are q q_in) fill.are.joined

    pub clip-carried : ((total (asked (is_below_on g.edge.x0 g.edge) (λ p. p.clip)) pieces +ℤ g.clip) +ℤ total (asked (ends_below point) (λ p. p.clip)) pieces)
        ≡ ((total (asked (is_below_on q.edge.x0 q.edge) (λ p. p.clip)) pieces +ℤ q.clip) +ℤ total (asked (begins_below point) (λ p. p.clip)) pieces)
    clip-carried = carried-on fill.clip (λ p. p.clip) fill.clip_closed (clip-aside fill.subject fill.clip fill.noded pieces fill.are q q_in) fill.are.clip_joined
