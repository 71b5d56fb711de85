-- The edge that begins first, among edges of which none is vertical.
use Rattle.std.proofs.Common.{◌≡◌, ◌≢◌, inl, inr, ◌<◌, ℕ, ℤ, pos, ◌+ℤ◌, ◌-ℤ◌, ◌*ℤ◌, ◌≤ℤ◌, ◌<ℤ◌, Bool, true, false, cond, ◌&&◌, List, length, get_or, refl, ap, sym, subst, ◌∙◌, arith}
use Rattle.std.specs.Int.Signed.{lt_z}
use Rattle.std.specs.List.{Contains}
use Rattle.std.proofs.lemmas.Bool.{and_parts}
use Rattle.std.proofs.lemmas.Int.{by_lt_z, ints}
use Rattle.std.proofs.lemmas.List.Elements.{Contains-get_or}
use Rattle.plane.specs.declared.edge.Edge.{Edge}
use Rattle.plane.specs.declared.point.Point.{Point}
use Rattle.plane.specs.Ends.{end_of, start_of}
use Rattle.plane.specs.SweepLine.Heights.{rightwards, rise, run}
use Rattle.plane.proofs.MeetLemmas.Identities.{identity, minus, number, times}
use Rattle.plane.proofs.SweepLineLemmas.Gaps.{product_above}
use Rattle.plane.proofs.SweepLineLemmas.Rightwards.{rightwards-left, rightwards-same}
use Rattle.noding.specs.Windings.{IsClosed}
use Rattle.overlay.specs.Fill.Begins.{BeginsUpto, steps}
use Rattle.overlay.specs.Fill.Counts.{below_on, is_lower_on, is_over}
use Rattle.overlay.specs.Fill.Filled.{AreDistinct, AreNoded}
use Rattle.overlay.specs.Fill.Pieces.{weight}
use Rattle.overlay.specs.Sides.{just_below, on_left}
use Rattle.overlay.proofs.ContourLemmas.Counts.{closed-starts, counted, found, is_at, is_at-itself, is_at-same}
use Rattle.overlay.proofs.FillLemmas.Order.{lower-asym, lower-irrefl}
use Rattle.overlay.proofs.FillLemmas.Premises.{All-among}
use Rattle.overlay.proofs.FillLemmas.Tests.{lt_true, over_is}
use Rattle.overlay.proofs.FillLemmas.Totals.{total-none}
use Rattle.overlay.proofs.GroupingLemmas.Begins.{IsFirst, Upto}
use Rattle.overlay.proofs.GroupingLemmas.Outlined.{same-one}
use Rattle.overlay.proofs.KeptLemmas.First.{turned-meet, turned-same}
use Rattle.overlay.proofs.PieceLemmas.Made.{alike, begins-lower, rightwards-onwards, steps-run}

-- one test hasn't both answers
never : true ≡ false → ⊥
never h = cc

-- ---- nothing is below it

-- what fails the test weighs nothing
none-weighs : (t : Bool) (w : ℤ) → ¬ (t ≡ true) → cond t w (pos 0) ≡ pos 0
none-weighs true w fails = absurd (fails refl)
none-weighs false w fails = refl

module _ (edges : List Edge) (noded : AreNoded edges) (sloped : (edge : Edge) → Contains edges edge → edge.x0 ≢ edge.x1) (first : Edge) (is : IsFirst edges first) where
  abbrev r : Edge
  r = rightwards first

  -- no edge that is over the stretch where it begins is lower there
  not-below : (edge : Edge) → Contains edges edge → ¬ ((is_over r.x0 (rightwards edge) && is_lower_on r.x0 (rightwards edge) r) ≡ true)
  not-below edge among below =
      let s = rightwards edge in
      let both = and_parts (is_over r.x0 s) (is_lower_on r.x0 s r) below in
      let span = over_is r.x0 s both.0 in
      let begins = is.begins edge among (λ same. sloped edge among (sym same)) in
      let apart : r ≢ s = λ same. never (sym both.1 ∙ subst (λ (e : Edge). is_lower_on r.x0 e r ≡ false) same (lower-irrefl r.x0 r)) in
      let lower = begins-lower r s (turned-meet edges noded first edge is.among among) apart (rightwards-onwards first (sloped first is.among)) (rightwards-onwards edge (sloped edge among)) (level s span.0 begins) begins in
      never (sym both.1 ∙ lower-asym r.x0 r s lower)
    where
      level : (s : Edge) → s.x0 ≤ℤ r.x0 → BeginsUpto r s → r.x0 ≡ s.x0
      level s from (inl less) = absurd (omega (arith, ints, from, less))
      level s from (inr (same, rest)) = same

  -- so they wind around nothing just below it
  pub none-below : just_below edges first ≡ pos 0
  none-below =
      total-none (below_on r.x0 r) edges
      (All-among (λ edge. below_on r.x0 r edge ≡ pos 0) edges
      (λ edge among. none-weighs (is_over r.x0 (rightwards edge) && is_lower_on r.x0 (rightwards edge) r) (weight edge) (not-below edge among)))

  -- and just to its left once, where it goes rightwards
  pub left-rightwards : lt_z first.x0 first.x1 ≡ true → on_left edges first ≡ pos 1
  left-rightwards runs =
      ap (λ (t : Bool). cond t (just_below edges first +ℤ pos 1) (just_below edges first)) runs
      ∙ ap (λ z. z +ℤ pos 1) none-below

  -- and not at all, where it goes leftwards
  pub left-leftwards : lt_z first.x0 first.x1 ≡ false → on_left edges first ≡ pos 0
  left-leftwards runs = ap (λ (t : Bool). cond t (just_below edges first +ℤ pos 1) (just_below edges first)) runs ∙ none-below

-- ---- another edge begins at its left end

-- at the start of one of closed edges another one ends
closed-ends : (edges : List Edge) (k : ℕ) (d : Edge) → IsClosed edges → k < length edges → (i : ℕ) × (i < length edges) × ((e : Edge) → end_of (get_or edges i e) ≡ start_of (get_or edges k d))
closed-ends edges k d closed within =
    let at = start_of (get_or edges k d) in
    let test = is_at at in
    let some = counted (λ (edge : Edge). test (start_of edge)) edges k d within (is_at-itself at) in
    let same = closed test in
    elim (found (λ (edge : Edge). test (end_of edge)) edges) [
      | inl (i, inside, is) ↦ (i, inside, λ e. is_at-same at (end_of (get_or edges i e)) (is e))
      | inr none ↦ absurd (omega (arith, some, same, none))
    ]

-- An edge of these other than the one begins at the same point, from the left.
record BeginsThere (edges : List Edge) (one : Edge) : Type 0 where
  other : Edge
  among : Contains edges other
  differs : one ≢ other
  level : (rightwards other).x0 ≡ (rightwards one).x0
  even : (rightwards other).y0 ≡ (rightwards one).y0

-- a multiple keeps an order
kept-upto : (k a b : ℤ) → pos 0 <ℤ k → a ≤ℤ b → (a *ℤ k) ≤ℤ (k *ℤ b)
kept-upto k a b some upto =
    let above = product_above k (b -ℤ a) (omega (arith, ints, some)) (omega (arith, ints, upto)) in
    let is = identity (times (number k) (minus (number b) (number a))) (minus (times (number k) (number b)) (times (number a) (number k))) (omega arith) in
    omega (arith, ints, above, is)

module _ (edges : List Edge) (closed : IsClosed edges) (sloped : (edge : Edge) → Contains edges edge → edge.x0 ≢ edge.x1) (first : Edge) (is : IsFirst edges first) where
  -- an end of an edge is no further left than where the first one begins
  no-sooner : (edge : Edge) → Contains edges edge → (rightwards first).x0 ≤ℤ (rightwards edge).x0
  no-sooner edge among = by (is.begins edge among (λ same. sloped edge among (sym same)))
    where
      by : Upto first edge → (rightwards first).x0 ≤ℤ (rightwards edge).x0
      by (inl less) = omega (arith, ints, less)
      by (inr (same, rest)) = omega (arith, ints, same)

  -- as the edges are closed, there is such an edge
  begins-there : BeginsThere edges first
  begins-there =
      by_lt_z first.x0 first.x1 from_start
      (λ upto. from_end (by_lt_z first.x1 first.x0 (λ h. h) (λ from. absurd (sloped first is.among (omega (arith, ints, upto, from))))))
    where
      -- one ends where it starts
      from_start : first.x0 <ℤ first.x1 → BeginsThere edges first
      from_start onwards =
          let (k, within, here) = is.among in
          let (i, inside, ends) = closed-ends edges k first closed within in
          let other = get_or edges i first in
          let among : Contains edges other = Contains-get_or edges i first inside in
          let joined : end_of other ≡ start_of first = ends first ∙ ap start_of here in
          let x = ap (λ (p : Point). p.x) joined in
          let y = ap (λ (p : Point). p.y) joined in
          let still = rightwards-same first onwards in
          let begins = ap (λ (e : Edge). e.x0) still in
          let back : other.x1 <ℤ other.x0 = by_lt_z other.x1 other.x0 (λ h. h) (λ upto. absurd (ahead other among upto x begins)) in
          let turned = rightwards-left other (lt_true other.x1 other.x0 back) in
          record {
            other = other;
            among = among;
            differs = λ same. sloped first is.among (sym x ∙ ap (λ (e : Edge). e.x1) (sym same));
            level = ap (λ (e : Edge). e.x0) turned ∙ x ∙ sym begins;
            even = ap (λ (e : Edge). e.y0) turned ∙ y ∙ sym (ap (λ (e : Edge). e.y0) still);
          }
        where
          ahead : (other : Edge) → Contains edges other → other.x0 ≤ℤ other.x1 → other.x1 ≡ first.x0 → (rightwards first).x0 ≡ first.x0 → ⊥
          ahead other among upto x begins =
              let less : other.x0 <ℤ other.x1 = by_lt_z other.x0 other.x1 (λ h. h) (λ from. absurd (sloped other among (omega (arith, ints, upto, from)))) in
              let sooner = no-sooner other among in
              let here = ap (λ (e : Edge). e.x0) (rightwards-same other less) in
              omega (arith, ints, less, sooner, here, x, begins)

      -- one starts where it ends
      from_end : first.x1 <ℤ first.x0 → BeginsThere edges first
      from_end leftwards =
          let (k, within, here) = is.among in
          let (i, inside, starts) = closed-starts edges k first closed within in
          let other = get_or edges i first in
          let among : Contains edges other = Contains-get_or edges i first inside in
          let joined : start_of other ≡ end_of first = starts first ∙ ap end_of here in
          let x = ap (λ (p : Point). p.x) joined in
          let y = ap (λ (p : Point). p.y) joined in
          let turned = rightwards-left first (lt_true first.x1 first.x0 leftwards) in
          let begins = ap (λ (e : Edge). e.x0) turned in
          let onwards : other.x0 <ℤ other.x1 = by_lt_z other.x0 other.x1 (λ h. h) (λ upto. absurd (ahead other among upto x begins)) in
          let still = rightwards-same other onwards in
          record {
            other = other;
            among = among;
            differs = λ same. sloped first is.among (ap (λ (e : Edge). e.x0) same ∙ x);
            level = ap (λ (e : Edge). e.x0) still ∙ x ∙ sym begins;
            even = ap (λ (e : Edge). e.y0) still ∙ y ∙ sym (ap (λ (e : Edge). e.y0) turned);
          }
        where
          ahead : (other : Edge) → Contains edges other → other.x1 ≤ℤ other.x0 → other.x0 ≡ first.x1 → (rightwards first).x0 ≡ first.x1 → ⊥
          ahead other among upto x begins =
              let less : other.x1 <ℤ other.x0 = by_lt_z other.x1 other.x0 (λ h. h) (λ from. absurd (sloped other among (omega (arith, ints, upto, from)))) in
              let sooner = no-sooner other among in
              let here = ap (λ (e : Edge). e.x0) (rightwards-left other (lt_true other.x1 other.x0 less)) in
              omega (arith, ints, less, sooner, here, x, begins)

  module _ (noded : AreNoded edges) (distinct : AreDistinct edges) (flat : (edge : Edge) → Contains edges edge → rise (rightwards edge) ≤ℤ run (rightwards edge)) where
    -- so the first one isn't as steep as the steepest
    pub not-steepest : rise (rightwards first) ≢ run (rightwards first)
    not-steepest steep =
        let there = begins-there in
        let r = rightwards first in
        let s = rightwards there.other in
        let onwards = rightwards-onwards first (sloped first is.among) in
        let onwards_other = rightwards-onwards there.other (sloped there.other there.among) in
        let upto = is.begins there.other there.among (λ same. sloped there.other there.among (sym same)) in
        let back : BeginsUpto s r = inr (there.level, inr (there.even, compared s r onwards_other onwards steep (flat there.other there.among))) in
        there.differs
        (same-one edges first there.other distinct is.among there.among
        (turned-same first there.other (alike r s (turned-meet edges noded first there.other is.among there.among) onwards onwards_other upto back)))
      where
        compared : (s r : Edge) → s.x0 <ℤ s.x1 → r.x0 <ℤ r.x1 → rise r ≡ run r → rise s ≤ℤ run s → (rise s *ℤ steps r) ≤ℤ (rise r *ℤ steps s)
        compared s r onwards onwards_too steep upto =
            subst (λ z. (rise s *ℤ z) ≤ℤ (rise r *ℤ steps s)) (sym (steps-run r onwards_too))
            (subst (λ z. (rise s *ℤ run r) ≤ℤ (z *ℤ steps s)) (sym steep)
            (subst (λ z. (rise s *ℤ run r) ≤ℤ (run r *ℤ z)) (sym (steps-run s onwards)) (kept-upto (run r) (rise s) (run s) (omega (arith, ints, onwards_too)) upto)))
