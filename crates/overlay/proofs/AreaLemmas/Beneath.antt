-- The edges that pass below a point weigh the same just before it as just behind it, and so do those that don't pass above it.
use Rattle.std.proofs.Common.{◌≡◌, ◌≢◌, ◌⊎◌, inl, inr, ℤ, pos, ◌+ℤ◌, ◌-ℤ◌, ◌*ℤ◌, ◌<ℤ◌, ◌≤ℤ◌, Bool, true, false, cond, not, ◌&&◌, List, ap, sym, ◌∙◌, arith}
use Rattle.std.specs.List.{All}
use Rattle.std.specs.Int.Signed.{lt_z}
use Rattle.std.specs.Ordering.{int_eq}
use Rattle.std.proofs.lemmas.Bool.{and_left}
use Rattle.std.proofs.lemmas.Int.{ints, by_lt_z}
use Rattle.std.proofs.lemmas.List.Elements.{All-weaker}
use Rattle.plane.specs.declared.edge.Edge.{Edge}
use Rattle.plane.specs.declared.point.Point.{Point}
use Rattle.plane.specs.Ends.{start_of, end_of}
use Rattle.plane.specs.SweepLine.Heights.{rightwards, run, height_by_run}
use Rattle.plane.proofs.MeetLemmas.Identities.{number, plus, minus, times, identity}
use Rattle.plane.proofs.SweepLineLemmas.Gaps.{product_above}
use Rattle.overlay.specs.Fill.Counts.{is_over}
use Rattle.overlay.specs.Fill.Pieces.{total, weight}
use Rattle.overlay.proofs.FillLemmas.Balance.{AreBalanced}
use Rattle.overlay.proofs.FillLemmas.Columns.{moves-weighed}
use Rattle.overlay.proofs.FillLemmas.Tests.{lt_true, lt_false, int_eq-true, int_eq-false, over_true, over_early, over_late}
use Rattle.overlay.proofs.FillLemmas.Totals.{total-difference, total-moved}
use Rattle.overlay.proofs.FillLemmas.Weights.{ending, starting, in_column, column-weights}
use Rattle.overlay.proofs.PieceLemmas.Made.{rightwards-onwards}
use Rattle.noding.proofs.SnapLemmas.Numbers.{product_positive}

-- The edge is strictly below the point, at the point's x.
abbrev pub is_below_point : Point → Edge → Bool
is_below_point at edge = lt_z (height_by_run edge at.x) (at.y *ℤ run edge)

-- It isn't above the point there.
abbrev pub is_upto_point : Point → Edge → Bool
is_upto_point at edge = not (lt_z (at.y *ℤ run edge) (height_by_run edge at.x))

-- The weight of an edge, if it covers the stretch from x on and passes the test.
abbrev pub passing : (Edge → Bool) → ℤ → Edge → ℤ
passing test x edge = cond (is_over x (rightwards edge) && test (rightwards edge)) (weight edge) (pos 0)

-- The weight of an edge, if it covers the stretch from x on and is below the point.
abbrev pub beneath : Point → ℤ → Edge → ℤ
beneath at = passing (is_below_point at)

-- The weight of an edge, if it covers the stretch from x on and isn't above the point.
abbrev pub not_above : Point → ℤ → Edge → ℤ
not_above at = passing (is_upto_point at)

-- ---- heights at ends

-- an edge is as high at its ends as these are
pub height-start : (edge : Edge) → height_by_run edge edge.x0 ≡ (edge.y0 *ℤ run edge)
height-start edge =
    identity (plus (times (number edge.y0) (minus (number edge.x1) (number edge.x0))) (times (number edge.y1) (minus (number edge.x0) (number edge.x0))))
    (times (number edge.y0) (minus (number edge.x1) (number edge.x0)))
    (omega arith)

pub height-end : (edge : Edge) → height_by_run edge edge.x1 ≡ (edge.y1 *ℤ run edge)
height-end edge =
    identity (plus (times (number edge.y0) (minus (number edge.x1) (number edge.x1))) (times (number edge.y1) (minus (number edge.x1) (number edge.x0))))
    (times (number edge.y1) (minus (number edge.x1) (number edge.x0)))
    (omega arith)

-- ---- multiples by one number above 0

module _ (k : ℤ) (some : pos 0 <ℤ k) where
  -- a multiple of a difference
  spread : (a b : ℤ) → (k *ℤ (b -ℤ a)) ≡ ((b *ℤ k) -ℤ (a *ℤ k))
  spread a b = identity (times (number k) (minus (number b) (number a))) (minus (times (number b) (number k)) (times (number a) (number k))) (omega arith)

  -- they are in the order of the numbers
  pub times-less : (a b : ℤ) → a <ℤ b → (a *ℤ k) <ℤ (b *ℤ k)
  times-less a b less =
      let more = product_positive k (b -ℤ a) some (omega (arith, ints, less)) in
      let is = spread a b in
      omega (arith, ints, more, is)

  times-upto : (a b : ℤ) → a ≤ℤ b → (a *ℤ k) ≤ℤ (b *ℤ k)
  times-upto a b upto =
      let more = product_above k (b -ℤ a) (omega (arith, ints, some)) (omega (arith, ints, upto)) in
      let is = spread a b in
      omega (arith, ints, more, is)

  times-lt : (a b : ℤ) → lt_z (a *ℤ k) (b *ℤ k) ≡ lt_z a b
  times-lt a b =
      by_lt_z a b
      (λ less. lt_true (a *ℤ k) (b *ℤ k) (times-less a b less) ∙ sym (lt_true a b less))
      (λ upto. lt_false (a *ℤ k) (b *ℤ k) (times-upto b a upto) ∙ sym (lt_false a b upto))

  -- so they are the same only of the same number
  pub times-same : (a b : ℤ) → (a *ℤ k) ≡ (b *ℤ k) → a ≡ b
  times-same a b same =
      by_lt_z a b
      (λ less. let more = times-less a b less in absurd (omega (arith, ints, more, same)))
      (λ upto. by_lt_z b a
      (λ less. let more = times-less b a less in absurd (omega (arith, ints, more, same)))
      (λ from. omega (arith, ints, upto, from)))

-- ---- one edge at the point's column

-- of a test that an edge passes at an end in the column by the end's y
module _ (at : Point) (x : ℤ) (next : at.x ≡ (x +ℤ pos 1)) (test : Edge → Bool) (low : ℤ → Bool)
    (ends : (r : Edge) → r.x0 <ℤ r.x1 → r.x1 ≡ at.x → test r ≡ low r.y1) (begins : (r : Edge) → r.x0 <ℤ r.x1 → r.x0 ≡ at.x → test r ≡ low r.y0) where
  -- the points of the column whose y passes
  abbrev column : Point → Bool
  column = in_column at.x low

  not_in : (p : Point) → (p.x ≡ at.x → ⊥) → column p ≡ false
  not_in p differ = and_left (int_eq p.x at.x) (low p.y) (int_eq-false p.x at.x differ)

  in_it : (p : Point) → p.x ≡ at.x → column p ≡ low p.y
  in_it p is = ap (λ t. t && low p.y) (int_eq-true p.x at.x is)

  -- whether an edge counts on a stretch
  out : (z : ℤ) (r : Edge) → is_over z r ≡ false → (is_over z r && test r) ≡ false
  out z r not_over = and_left (is_over z r) (test r) not_over

  over : (z : ℤ) (r : Edge) → is_over z r ≡ true → (is_over z r && test r) ≡ test r
  over z r is = ap (λ t. t && test r) is

  -- what is counted before and what behind change places with what ends and what begins
  abbrev Moves : Bool → Bool → Bool → Bool → Type 0
  Moves a b e s = (a ≡ e) × (b ≡ s) ⊎ (a ≡ b) × (e ≡ s)

  right-moves : (r : Edge) → r.x0 <ℤ r.x1 → Moves (is_over x r && test r) (is_over at.x r && test r) (column (end_of r)) (column (start_of r))
  right-moves r onwards =
      by_lt_z r.x1 at.x
      (λ early. inl (
        out x r (over_late x r (omega (arith, ints, early, next))) ∙ sym (not_in (end_of r) (λ e. omega (arith, ints, e, early))),
        out at.x r (over_late at.x r (omega (arith, ints, early))) ∙ sym (not_in (start_of r) (λ e. omega (arith, ints, e, early, onwards))),
      ))
      (λ some. by_lt_z at.x r.x1
      (λ past. by_lt_z at.x r.x0
      (λ late. inl (
        out x r (over_early x r (omega (arith, ints, late, next))) ∙ sym (not_in (end_of r) (λ e. omega (arith, ints, e, past))),
        out at.x r (over_early at.x r late) ∙ sym (not_in (start_of r) (λ e. omega (arith, ints, e, late))),
      ))
      (λ begun. by_lt_z r.x0 at.x
      (λ earlier. inr (
        over x r (over_true x r (omega (arith, ints, earlier, next)) (omega (arith, ints, past, next))) ∙ sym (over at.x r (over_true at.x r begun past)),
        not_in (end_of r) (λ e. omega (arith, ints, e, past)) ∙ sym (not_in (start_of r) (λ e. omega (arith, ints, e, earlier))),
      ))
      (λ now.
      let is : r.x0 ≡ at.x = omega (arith, ints, begun, now) in inl (
        out x r (over_early x r (omega (arith, ints, is, next))) ∙ sym (not_in (end_of r) (λ e. omega (arith, ints, e, past))),
        over at.x r (over_true at.x r begun past) ∙ begins r onwards is ∙ sym (in_it (start_of r) is),
      ))))
      (λ upto.
      let is : r.x1 ≡ at.x = omega (arith, ints, some, upto) in inl (
        over x r (over_true x r (omega (arith, ints, is, onwards, next)) (omega (arith, ints, is, next))) ∙ ends r onwards is ∙ sym (in_it (end_of r) is),
        out at.x r (over_late at.x r upto) ∙ sym (not_in (start_of r) (λ e. omega (arith, ints, e, is, onwards))),
      )))

  moves : (edge : Edge) → edge.x0 ≢ edge.x1 → (passing test x edge -ℤ passing test at.x edge) ≡ (ending column edge -ℤ starting column edge)
  moves edge sloped =
      let r = rightwards edge in
      moves-weighed (is_over x r && test r) (is_over at.x r && test r) (column (end_of r)) (column (start_of r)) (weight edge) (right-moves r (rightwards-onwards edge sloped))

  none : (a b : ℤ) → a ≡ b → (a -ℤ b) ≡ pos 0
  none a b same = omega (arith, ints, same)

  upright : (edge : Edge) → edge.x0 ≢ edge.x1 → edge.x0 ≡ at.x → edge.x1 ≡ at.x → low edge.y0 ≡ low edge.y1
  upright edge sloped first second = absurd (sloped (first ∙ sym second))

  -- what of balanced edges passes weighs the same before the point as behind it, where none is vertical
  same-passing : (edges : List Edge) → AreBalanced edges → All (λ edge. edge.x0 ≢ edge.x1) edges → total (passing test x) edges ≡ total (passing test at.x) edges
  same-passing edges closed sloped =
      total-moved (passing test x) (passing test at.x) (λ edge. ending column edge -ℤ starting column edge) edges
      (total-difference (ending column) (starting column) edges
      ∙ none (total (ending column) edges) (total (starting column) edges)
      (column-weights at.x low edges closed (All-weaker (λ (edge : Edge). edge.x0 ≢ edge.x1) (λ edge. edge.x0 ≡ at.x → edge.x1 ≡ at.x → low edge.y0 ≡ low edge.y1) upright edges sloped)))
      (All-weaker (λ (edge : Edge). edge.x0 ≢ edge.x1) (λ edge. (passing test x edge -ℤ passing test at.x edge) ≡ (ending column edge -ℤ starting column edge)) moves edges sloped)

-- ---- what passes the point's column

module _ (at : Point) where
  -- one that ends or starts there is below the point where its end is
  ends-below : (r : Edge) → r.x0 <ℤ r.x1 → r.x1 ≡ at.x → is_below_point at r ≡ lt_z r.y1 at.y
  ends-below r onwards is =
      ap (λ h. lt_z h (at.y *ℤ run r)) (ap (λ z. height_by_run r z) (sym is) ∙ height-end r) ∙ times-lt (run r) (omega (arith, ints, onwards)) r.y1 at.y

  begins-below : (r : Edge) → r.x0 <ℤ r.x1 → r.x0 ≡ at.x → is_below_point at r ≡ lt_z r.y0 at.y
  begins-below r onwards is =
      ap (λ h. lt_z h (at.y *ℤ run r)) (ap (λ z. height_by_run r z) (sym is) ∙ height-start r) ∙ times-lt (run r) (omega (arith, ints, onwards)) r.y0 at.y

  -- and isn't above it where that isn't
  ends-upto : (r : Edge) → r.x0 <ℤ r.x1 → r.x1 ≡ at.x → is_upto_point at r ≡ not (lt_z at.y r.y1)
  ends-upto r onwards is =
      ap not (ap (λ h. lt_z (at.y *ℤ run r) h) (ap (λ z. height_by_run r z) (sym is) ∙ height-end r) ∙ times-lt (run r) (omega (arith, ints, onwards)) at.y r.y1)

  begins-upto : (r : Edge) → r.x0 <ℤ r.x1 → r.x0 ≡ at.x → is_upto_point at r ≡ not (lt_z at.y r.y0)
  begins-upto r onwards is =
      ap not (ap (λ h. lt_z (at.y *ℤ run r) h) (ap (λ z. height_by_run r z) (sym is) ∙ height-start r) ∙ times-lt (run r) (omega (arith, ints, onwards)) at.y r.y0)

  module _ (x : ℤ) (next : at.x ≡ (x +ℤ pos 1)) (edges : List Edge) (closed : AreBalanced edges) (sloped : All (λ edge. edge.x0 ≢ edge.x1) edges) where
    -- What of balanced edges passes below the point weighs the same just before it as just behind it, where none is vertical.
    pub same-beneath : total (beneath at x) edges ≡ total (beneath at at.x) edges
    same-beneath = same-passing at x next (is_below_point at) (λ y. lt_z y at.y) ends-below begins-below edges closed sloped

    -- So does what doesn't pass above it.
    pub same-not-above : total (not_above at x) edges ≡ total (not_above at at.x) edges
    same-not-above = same-passing at x next (is_upto_point at) (λ y. not (lt_z at.y y)) ends-upto begins-upto edges closed sloped
