-- What stays as it is where edges are sheared by more than they go up: which end is the left one, and which edge begins first.
use Rattle.std.proofs.Common.{◌≡◌, ◌≢◌, inl, inr, ◌+◌, ◌<◌, ◌≤◌, suc, ℕ, ℤ, pos, negsuc, ◌+ℤ◌, ◌*ℤ◌, ◌≤ℤ◌, ◌<ℤ◌, Bool, true, false, List, [], ◌∷◌, refl, ap, ap₂, sym, subst, ◌∙◌, arith}
use Rattle.std.specs.Int.Signed.{lt_z}
use Rattle.std.specs.List.{All}
use Rattle.std.proofs.lemmas.Int.{by_lt_z, ints}
use Rattle.std.proofs.lemmas.List.Elements.{All-cons, All-nil, All-weaker}
use Rattle.plane.specs.declared.edge.Edge.{Edge}
use Rattle.plane.specs.Ends.{end_of, reversed, start_of}
use Rattle.plane.specs.Meet.Crosses.{IsWithin}
use Rattle.plane.specs.SweepLine.Heights.{rightwards, rise, run}
use Rattle.plane.proofs.MeetLemmas.Identities.{at_most, at_most_of, identity, minus, number, plus, scaled, times, unscaled}
use Rattle.plane.proofs.SweepLineLemmas.Rightwards.{rightwards-left, rightwards-right, rightwards-same}
use Rattle.noding.proofs.SnapLemmas.Numbers.{n_of}
use Rattle.overlay.specs.Fill.Begins.{BeginsUpto, steps}
use Rattle.overlay.specs.Sides.{IsLow, sheared_edge}
use Rattle.overlay.proofs.ContourLemmas.Order.{point}
use Rattle.overlay.proofs.FillLemmas.Tests.{lt_same, lt_true}
use Rattle.overlay.proofs.PieceLemmas.Made.{rightwards-onwards, steps-run}

-- ---- some b for all edges

-- a number lies within some bound
pub bound : (z : ℤ) → (m : ℕ) × IsWithin m z
bound (pos m) = (m, record { from = omega (arith, ints); upto = omega (arith, ints) })
bound (negsuc m) = (suc m, record { from = omega (arith, ints); upto = omega (arith, ints) })

-- and within a wider one
pub wider : (m k : ℕ) (z : ℤ) → m ≤ k → IsWithin m z → IsWithin k z
wider m k z more is =
    let from = is.from in
    let upto = is.upto in record {
      from = omega (arith, ints, from, more);
      upto = omega (arith, ints, upto, more);
    }

-- and so does an edge
lower : (m k : ℕ) → m ≤ k → (edge : Edge) → IsLow m edge → IsLow k edge
lower m k more edge is = record {
  start = wider m k edge.y0 more is.start;
  end = wider m k edge.y1 more is.end;
}

-- all edges are low by some b
pub all-low : (edges : List Edge) → (b : ℕ) × All (IsLow b) edges
all-low [] = (0, All-nil (IsLow 0))
all-low (edge ∷ edges) =
    let (b, low) = all-low edges in
    let (m, start) = bound edge.y0 in
    let (k, end) = bound edge.y1 in
    let all = (b + m) + k in (
      all,
      All-cons (IsLow all) edge edges (record { start = wider m all edge.y0 (omega arith) start; end = wider k all edge.y1 (omega arith) end })
          (All-weaker (IsLow b) (IsLow all) (lower b all (omega arith)) edges low),
    )

-- ---- either way of an edge

-- what holds of an edge and of the reversed one holds of it turned rightwards
pub by-turned : (P : Edge → Type 0) (edge : Edge) → P edge → P (reversed edge) → P (rightwards edge)
by-turned P edge same turned = by (lt_z edge.x1 edge.x0) refl
  where
    by : (t : Bool) → lt_z edge.x1 edge.x0 ≡ t → P (rightwards edge)
    by true e = subst P (sym (rightwards-left edge e)) turned
    by false e = subst P (sym (rightwards-right edge e)) same

-- an edge turned rightwards is as low
pub low-rightwards : (b : ℕ) (edge : Edge) → IsLow b edge → IsLow b (rightwards edge)
low-rightwards b edge low = by-turned (IsLow b) edge low (record { start = low.end; end = low.start })

-- how far a sheared edge goes along x
run-sheared : (n : ℕ) (edge : Edge) → run (sheared_edge n edge) ≡ ((pos n *ℤ run edge) +ℤ rise edge)
run-sheared n edge =
    identity (minus (plus (times (n_of n) (number edge.x1)) (number edge.y1)) (plus (times (n_of n) (number edge.x0)) (number edge.y0)))
    (plus (times (n_of n) (minus (number edge.x1) (number edge.x0))) (minus (number edge.y1) (number edge.y0)))
    (omega arith)

-- a vertical one goes as far as up
upright : (n : ℕ) (edge : Edge) → edge.x0 ≡ edge.x1 → rise (sheared_edge n edge) ≡ run (sheared_edge n edge)
upright n edge vertical =
    let none : run edge ≡ pos 0 = omega (arith, ints, vertical) in
    sym (run-sheared n edge ∙ ap (λ z. (pos n *ℤ z) +ℤ rise edge) none ∙ identity (plus (times (n_of n) (n_of 0)) (number (rise edge))) (number (rise edge)) (omega arith))

-- either way
pub upright-rightwards : (n : ℕ) (edge : Edge) → edge.x0 ≡ edge.x1 → rise (rightwards (sheared_edge n edge)) ≡ run (rightwards (sheared_edge n edge))
upright-rightwards n edge vertical =
    by-turned (λ (e : Edge). rise e ≡ run e) (sheared_edge n edge) (upright n edge vertical) (upright n (reversed edge) (sym vertical))

-- slopes of sheared edges, by cross-multiplying, compare as before
slopes : (n : ℕ) (a c k m : ℤ) → 0 < n → (a *ℤ ((pos n *ℤ m) +ℤ c)) ≤ℤ (c *ℤ ((pos n *ℤ k) +ℤ a)) → (a *ℤ m) ≤ℤ (c *ℤ k)
slopes n a c k m some upto =
    let fact = at_most_of (times (number a) (plus (times (n_of n) (number m)) (number c))) (times (number c) (plus (times (n_of n) (number k)) (number a))) upto in
    unscaled n (a *ℤ m) (c *ℤ k) some (at_most (times (n_of n) (times (number a) (number m))) (times (n_of n) (times (number c) (number k))) (omega (arith, fact)))

module _ (n b : ℕ) (wide : b + b < n) where
  -- what is further right stays so
  pub further-right : (x y x' y' : ℤ) → IsWithin b y → IsWithin b y' → x <ℤ x' → ((pos n *ℤ x) +ℤ y) <ℤ ((pos n *ℤ x') +ℤ y')
  further-right x y x' y' first second less =
      let more = scaled n (x +ℤ pos 1) x' (omega (arith, ints, less)) in
      let sum = identity (times (n_of n) (plus (number x) (n_of 1))) (plus (times (n_of n) (number x)) (n_of n)) (omega arith) in
      let upto = first.upto in
      let from = second.from in
      omega (arith, ints, more, sum, upto, from, wide)

  -- and what isn't further left wasn't
  pub not-left : (x y x' y' : ℤ) → IsWithin b y → IsWithin b y' → ((pos n *ℤ x) +ℤ y) ≤ℤ ((pos n *ℤ x') +ℤ y') → x ≤ℤ x'
  not-left x y x' y' first second upto =
      by_lt_z x' x
      (λ left. let less = further-right x' y' x y second first left in absurd (omega (arith, ints, less, upto)))
      (λ is. is)

  -- points with one x, once they are sheared, had one before
  level-same : (x y x' y' : ℤ) → IsWithin b y → IsWithin b y' → ((pos n *ℤ x) +ℤ y) ≡ ((pos n *ℤ x') +ℤ y') → x ≡ x'
  level-same x y x' y' first second same =
      let one = not-left x y x' y' first second (at_most_by ((pos n *ℤ x) +ℤ y) ((pos n *ℤ x') +ℤ y') same) in
      let other = not-left x' y' x y second first (at_most_by ((pos n *ℤ x') +ℤ y') ((pos n *ℤ x) +ℤ y) (sym same)) in
      omega (arith, ints, one, other)
    where
      at_most_by : (c d : ℤ) → c ≡ d → c ≤ℤ d
      at_most_by c d same = omega (arith, ints, same)

  -- and so one y
  even-same : (x y x' y' : ℤ) → x ≡ x' → ((pos n *ℤ x) +ℤ y) ≡ ((pos n *ℤ x') +ℤ y') → y ≡ y'
  even-same x y x' y' level same = without (pos n *ℤ x) (pos n *ℤ x') y y' (ap (λ z. pos n *ℤ z) level) same
    where
      without : (p q c d : ℤ) → p ≡ q → (p +ℤ c) ≡ (q +ℤ d) → c ≡ d
      without p q c d same sum = omega (arith, ints, sum, same)

  -- ---- an edge

  module _ (edge : Edge) (low : IsLow b edge) where
    -- with two ends it doesn't stay vertical
    pub sloped-sheared : start_of edge ≢ end_of edge → (sheared_edge n edge).x0 ≢ (sheared_edge n edge).x1
    sloped-sheared two_ends same =
        let level = level-same edge.x0 edge.y0 edge.x1 edge.y1 low.start low.end same in
        two_ends (ap₂ point level (even-same edge.x0 edge.y0 edge.x1 edge.y1 level same))

    -- it goes the same way
    pub runs-sheared : edge.x0 ≢ edge.x1 → lt_z (sheared_edge n edge).x0 (sheared_edge n edge).x1 ≡ lt_z edge.x0 edge.x1
    runs-sheared sloped =
        lt_same (sheared_edge n edge).x0 (sheared_edge n edge).x1 edge.x0 edge.x1
        (λ less.
        let upto = not-left edge.x0 edge.y0 edge.x1 edge.y1 low.start low.end (omega (arith, ints, less)) in
        by_lt_z edge.x0 edge.x1 (λ is. is) (λ from. absurd (sloped (omega (arith, ints, upto, from)))))
        (further-right edge.x0 edge.y0 edge.x1 edge.y1 low.start low.end)

    -- so it is turned rightwards as before
    pub rightwards-sheared : edge.x0 ≢ edge.x1 → rightwards (sheared_edge n edge) ≡ sheared_edge n (rightwards edge)
    rightwards-sheared sloped =
        by_lt_z edge.x0 edge.x1
        (λ onwards.
        rightwards-same (sheared_edge n edge) (further-right edge.x0 edge.y0 edge.x1 edge.y1 low.start low.end onwards)
        ∙ ap (sheared_edge n) (sym (rightwards-same edge onwards)))
        (λ upto.
        let back : edge.x1 <ℤ edge.x0 = by_lt_z edge.x1 edge.x0 (λ is. is) (λ from. absurd (sloped (omega (arith, ints, upto, from)))) in
        rightwards-left (sheared_edge n edge) (lt_true (sheared_edge n edge).x1 (sheared_edge n edge).x0 (further-right edge.x1 edge.y1 edge.x0 edge.y0 low.end low.start back))
        ∙ ap (sheared_edge n) (sym (rightwards-left edge (lt_true edge.x1 edge.x0 back))))

    -- one that goes rightwards rises by no more than it goes along x
    flat : (sheared_edge n edge).x0 <ℤ (sheared_edge n edge).x1 → rise (sheared_edge n edge) ≤ℤ run (sheared_edge n edge)
    flat onwards =
        let upto = not-left edge.x0 edge.y0 edge.x1 edge.y1 low.start low.end (omega (arith, ints, onwards)) in
        let above = scaled n (pos 0) (run edge) (omega (arith, ints, upto)) in
        let none = identity (times (n_of n) (n_of 0)) (n_of 0) (omega arith) in
        let is = run-sheared n edge in
        omega (arith, ints, above, none, is)

  -- so does any with two ends that is turned rightwards
  pub flat-rightwards : (edge : Edge) → IsLow b edge → start_of edge ≢ end_of edge → rise (rightwards (sheared_edge n edge)) ≤ℤ run (rightwards (sheared_edge n edge))
  flat-rightwards edge low two_ends =
      by-turned (λ (e : Edge). e.x0 <ℤ e.x1 → rise e ≤ℤ run e) (sheared_edge n edge) (flat edge low) (flat (reversed edge) (record { start = low.end; end = low.start }))
      (rightwards-onwards (sheared_edge n edge) (sloped-sheared edge low two_ends))

  -- ---- two edges

  -- of two that go rightwards the one that begins first began first
  begins-before : (one other : Edge) → IsLow b one → IsLow b other → one.x0 <ℤ one.x1 → other.x0 <ℤ other.x1 → BeginsUpto (sheared_edge n one) (sheared_edge n other) → BeginsUpto one other
  begins-before one other low low_other onwards onwards_other begins = by begins
    where
      steps-is : (edge : Edge) → IsLow b edge → edge.x0 <ℤ edge.x1 → steps (sheared_edge n edge) ≡ ((pos n *ℤ run edge) +ℤ rise edge)
      steps-is edge is more = steps-run (sheared_edge n edge) (further-right edge.x0 edge.y0 edge.x1 edge.y1 is.start is.end more) ∙ run-sheared n edge

      compared : (rise one *ℤ steps (sheared_edge n other)) ≤ℤ (rise other *ℤ steps (sheared_edge n one)) → (rise one *ℤ steps other) ≤ℤ (rise other *ℤ steps one)
      compared upto =
          subst (λ z. (rise one *ℤ z) ≤ℤ (rise other *ℤ steps one)) (sym (steps-run other onwards_other))
          (subst (λ z. (rise one *ℤ run other) ≤ℤ (rise other *ℤ z)) (sym (steps-run one onwards))
          (slopes n (rise one) (rise other) (run one) (run other) (omega (arith, wide))
          (subst (λ z. (rise one *ℤ z) ≤ℤ (rise other *ℤ ((pos n *ℤ run one) +ℤ rise one))) (steps-is other low_other onwards_other)
          (subst (λ z. (rise one *ℤ steps (sheared_edge n other)) ≤ℤ (rise other *ℤ z)) (steps-is one low onwards) upto))))

      below : (p q c d : ℤ) → p ≡ q → (p +ℤ c) <ℤ (q +ℤ d) → c <ℤ d
      below p q c d same less = omega (arith, ints, same, less)

      by : BeginsUpto (sheared_edge n one) (sheared_edge n other) → BeginsUpto one other
      by (inl less) =
          let upto = not-left one.x0 one.y0 other.x0 other.y0 low.start low_other.start (omega (arith, ints, less)) in
          by_lt_z one.x0 other.x0 (λ left. inl left)
          (λ from.
          let level : one.x0 ≡ other.x0 = omega (arith, ints, upto, from) in
          inr (level, inl (below (pos n *ℤ one.x0) (pos n *ℤ other.x0) one.y0 other.y0 (ap (λ z. pos n *ℤ z) level) less)))
      by (inr (same, inl less)) = inr (level-same one.x0 one.y0 other.x0 other.y0 low.start low_other.start same, inl less)
      by (inr (same, inr (even, upto))) = inr (level-same one.x0 one.y0 other.x0 other.y0 low.start low_other.start same, inr (even, compared upto))

  -- and so of any two that aren't vertical
  pub begins-sheared : (one other : Edge) → IsLow b one → IsLow b other → one.x0 ≢ one.x1 → other.x0 ≢ other.x1
      → BeginsUpto (rightwards (sheared_edge n one)) (rightwards (sheared_edge n other)) → BeginsUpto (rightwards one) (rightwards other)
  begins-sheared one other low low_other sloped sloped_other begins =
      begins-before (rightwards one) (rightwards other) (low-rightwards b one low) (low-rightwards b other low_other) (rightwards-onwards one sloped) (rightwards-onwards other sloped_other)
      (subst (λ (e : Edge). BeginsUpto e (sheared_edge n (rightwards other))) (rightwards-sheared one low sloped)
      (subst (λ (e : Edge). BeginsUpto (rightwards (sheared_edge n one)) e) (rightwards-sheared other low_other sloped_other) begins))
