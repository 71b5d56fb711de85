-- One edge at a column: what it weighs below g before the column and behind it, and what of it ends and starts there.
use Rattle.std.proofs.Common.{◌≡◌, ◌≢◌, ℤ, pos, ◌+ℤ◌, ◌-ℤ◌, ◌*ℤ◌, ◌<ℤ◌, ◌≤ℤ◌, ◌⊎◌, inl, inr, Bool, true, false, cond, ◌&&◌, ap, arith, sym, subst, ◌∙◌}
use Rattle.std.specs.Ordering.{int_eq}
use Rattle.std.proofs.lemmas.Bool.{and_left}
use Rattle.std.proofs.lemmas.Int.{ints, by_lt_z}
use Rattle.plane.specs.declared.edge.Edge.{Edge}
use Rattle.plane.specs.declared.point.Point.{Point}
use Rattle.plane.specs.SweepLine.Heights.{run, height_by_run, height_by_runs}
use Rattle.plane.proofs.MeetLemmas.Identities.{number, plus, minus, times, identity}
use Rattle.plane.proofs.SweepLineLemmas.Gaps.{gap, slope, start, gap-linear, product_above}
use Rattle.overlay.specs.Fill.Counts.{is_over, is_lower_on}
use Rattle.plane.specs.Ends.{start_of, end_of}
use Rattle.overlay.proofs.FillLemmas.Aside.{is_beneath, IsOff}
use Rattle.overlay.proofs.FillLemmas.Tests.{lt_same, int_eq-true, int_eq-false, over_true, over_early, over_late}
use Rattle.overlay.proofs.FillLemmas.Uncrossed.{Uncrossed}
use Rattle.overlay.proofs.FillLemmas.Weights.{in_column}
use Rattle.noding.proofs.SnapLemmas.Numbers.{product_positive}

-- ---- gaps: how far g is above r

-- a positive multiple of a number below 0
product_less : (k z : ℤ) → pos 0 <ℤ k → z <ℤ pos 0 → (k *ℤ z) <ℤ pos 0
product_less k z some below =
    let rest = product_above k ((pos 0 -ℤ z) -ℤ pos 1) (omega (arith, ints)) (omega (arith, ints)) in
    let is : (k *ℤ ((pos 0 -ℤ z) -ℤ pos 1)) ≡ ((pos 0 -ℤ (k *ℤ z)) -ℤ k) =
    identity (times (number k) (minus (minus (number (pos 0)) (number z)) (number (pos 1)))) (minus (minus (number (pos 0)) (times (number k) (number z))) (number k)) (omega arith) in
    omega (arith, ints, rest, is)

-- at an end of r
gap-end : (r g : Edge) → gap r g r.x1 ≡ (run r *ℤ (height_by_run g r.x1 -ℤ (r.y1 *ℤ run g)))
gap-end r g =
    identity (minus (times (number (height_by_run g r.x1)) (minus (number r.x1) (number r.x0))) (times (plus (times (number r.y0) (minus (number r.x1) (number r.x1))) (times (number r.y1) (minus (number r.x1) (number r.x0)))) (number (run g))))
    (times (minus (number r.x1) (number r.x0)) (minus (number (height_by_run g r.x1)) (times (number r.y1) (number (run g)))))
    (omega arith)

-- and at its start
gap-start : (r g : Edge) → gap r g r.x0 ≡ (run r *ℤ (height_by_run g r.x0 -ℤ (r.y0 *ℤ run g)))
gap-start r g =
    identity (minus (times (number (height_by_run g r.x0)) (minus (number r.x1) (number r.x0))) (times (plus (times (number r.y0) (minus (number r.x1) (number r.x0))) (times (number r.y1) (minus (number r.x0) (number r.x0)))) (number (run g))))
    (times (minus (number r.x1) (number r.x0)) (minus (number (height_by_run g r.x0)) (times (number r.y0) (number (run g)))))
    (omega arith)

-- a linear function at three x's in a row
evenly : (p q x : ℤ) → (((p *ℤ x) +ℤ q) +ℤ ((p *ℤ ((x +ℤ pos 1) +ℤ pos 1)) +ℤ q)) ≡ (((p *ℤ (x +ℤ pos 1)) +ℤ q) +ℤ ((p *ℤ (x +ℤ pos 1)) +ℤ q))
evenly p q x =
    identity (plus (plus (times (number p) (number x)) (number q)) (plus (times (number p) (plus (plus (number x) (number (pos 1))) (number (pos 1)))) (number q)))
    (plus (plus (times (number p) (plus (number x) (number (pos 1)))) (number q)) (plus (times (number p) (plus (number x) (number (pos 1)))) (number q)))
    (omega arith)

-- so the gap at the middle one is the mean of the other two
gap-evenly : (r g : Edge) (x : ℤ) → (gap r g x +ℤ gap r g ((x +ℤ pos 1) +ℤ pos 1)) ≡ (gap r g (x +ℤ pos 1) +ℤ gap r g (x +ℤ pos 1))
gap-evenly r g x =
    ap (λ a. a +ℤ gap r g ((x +ℤ pos 1) +ℤ pos 1)) (gap-linear r g x)
    ∙ ap (λ b. ((slope r g *ℤ x) +ℤ start r g) +ℤ b) (gap-linear r g ((x +ℤ pos 1) +ℤ pos 1))
    ∙ evenly (slope r g) (start r g) x
    ∙ sym (ap (λ c. c +ℤ c) (gap-linear r g (x +ℤ pos 1)))

-- ---- one edge at the column x + 1

-- What is counted behind and what before change places with what ends and what begins.
abbrev pub Moves : Bool → Bool → Bool → Bool → Type 0
Moves a b e s = (a ≡ e) × (b ≡ s) ⊎ (a ≡ b) × (e ≡ s)

-- a difference of what is the same is that of what is the same elsewhere
moved_apart : (z u v : ℤ) → u ≡ v → (z -ℤ z) ≡ (u -ℤ v)
moved_apart z u v same = omega (arith, ints, same)

-- so a weight that is counted behind and not before is one that ends and doesn't start
pub moves-weighed : (a b e s : Bool) (w : ℤ) → Moves a b e s → (cond a w (pos 0) -ℤ cond b w (pos 0)) ≡ (cond e w (pos 0) -ℤ cond s w (pos 0))
moves-weighed a b e s w (inl (first, second)) = ap (λ t. cond t w (pos 0) -ℤ cond b w (pos 0)) first ∙ ap (λ t. cond e w (pos 0) -ℤ cond t w (pos 0)) second
moves-weighed a b e s w (inr (first, second)) =
    ap (λ t. cond t w (pos 0) -ℤ cond b w (pos 0)) first
    ∙ moved_apart (cond b w (pos 0)) (cond e w (pos 0)) (cond s w (pos 0)) (ap (λ t. cond t w (pos 0)) second)

-- p, q and s are gaps at x, x + 1 and x + 2
through_there : (p q s : ℤ) → (p +ℤ s) ≡ (q +ℤ q) → (p <ℤ pos 0 → q ≤ℤ pos 0) → (q <ℤ pos 0 → p ≤ℤ pos 0) → (p <ℤ pos 0 → s ≤ℤ pos 0) → (s <ℤ pos 0 → p ≤ℤ pos 0) → (q <ℤ pos 0 → s ≤ℤ pos 0) → (s <ℤ pos 0 → q ≤ℤ pos 0)
    → pos 0 <ℤ (p +ℤ q) → pos 0 <ℤ (q +ℤ s)
through_there p q s even pq qp ps sp qs sq some =
    by_lt_z q (pos 0)
    (λ low. let also = qp low in absurd (omega (arith, ints, low, also, some)))
    (λ high. by_lt_z s (pos 0)
    (λ low. let one = sp low in let two = sq low in absurd (omega (arith, ints, one, two, some)))
    (λ above. omega (arith, ints, even, high, above, some)))

module _ (r g : Edge) (x : ℤ) (onwards : r.x0 <ℤ r.x1) (g_from : g.x0 ≤ℤ x) (g_upto : (x +ℤ pos 1) <ℤ g.x1) (uncrossed : Uncrossed r g) (off_from : IsOff g r.x0 r.y0) (off_to : IsOff g r.x1 r.y1) where
  -- the column is that of the next x: its points below g
  abbrev pub next : ℤ
  next = x +ℤ pos 1

  abbrev pub column : Point → Bool
  column = in_column next (is_beneath g next)

  -- whether r is below g on the stretch that ends there, and on the one that starts there
  abbrev pub behind : Bool
  behind = is_over x r && is_lower_on x r g

  abbrev pub before : Bool
  before = is_over next r && is_lower_on next r g

  -- whether an end of r is in the column
  not_in : (p : Point) → (p.x ≡ next → ⊥) → column p ≡ false
  not_in p differ = and_left (int_eq p.x next) (is_beneath g next p.y) (int_eq-false p.x next differ)

  in_it : (p : Point) → p.x ≡ next → column p ≡ is_beneath g next p.y
  in_it p is = ap (λ t. t && is_beneath g next p.y) (int_eq-true p.x next is)

  -- whether r counts on a stretch
  out : (z : ℤ) → is_over z r ≡ false → (is_over z r && is_lower_on z r g) ≡ false
  out z not_over = and_left (is_over z r) (is_lower_on z r g) not_over

  over : (z : ℤ) → is_over z r ≡ true → (is_over z r && is_lower_on z r g) ≡ is_lower_on z r g
  over z is = ap (λ t. t && is_lower_on z r g) is

  -- r ends at x + 1
  ends : r.x1 ≡ next → is_lower_on x r g ≡ is_beneath g next r.y1
  ends is =
      lt_same (height_by_runs r g x +ℤ height_by_runs r g next) (height_by_runs g r x +ℤ height_by_runs g r next) (r.y1 *ℤ run g) (height_by_run g next)
      (λ lower. by_lt_z (r.y1 *ℤ run g) (height_by_run g next) (λ h. h) (λ high. let less = low high in let also = uncrossed next x (omega (arith, ints)) (omega (arith, ints, is)) (omega (arith, ints)) (omega (arith, ints)) (omega (arith, ints, is)) (omega (arith, ints, is)) g_from (omega (arith, ints)) less in absurd (omega (arith, ints, less, also, lower))))
      (λ beneath. let some = high beneath in by_lt_z (gap r g x) (pos 0)
      (λ less. let upto = uncrossed x next (omega (arith, ints, is)) (omega (arith, ints, is)) g_from (omega (arith, ints)) (omega (arith, ints, is)) (omega (arith, ints, is)) (omega (arith, ints)) (omega (arith, ints)) less in absurd (omega (arith, ints, upto, some)))
      (λ above. omega (arith, ints, above, some)))
    where
      here : gap r g next ≡ (run r *ℤ (height_by_run g next -ℤ (r.y1 *ℤ run g)))
      here = subst (λ (z : ℤ). gap r g z ≡ (run r *ℤ (height_by_run g z -ℤ (r.y1 *ℤ run g)))) is (gap-end r g)

      clear : (r.y1 *ℤ run g) ≢ height_by_run g next
      clear = subst (λ (z : ℤ). (r.y1 *ℤ run g) ≢ height_by_run g z) is (off_to.off (omega (arith, ints, is)) (omega (arith, ints, is)))

      high : (r.y1 *ℤ run g) <ℤ height_by_run g next → pos 0 <ℤ gap r g next
      high beneath = let some = product_positive (run r) (height_by_run g next -ℤ (r.y1 *ℤ run g)) (omega (arith, ints)) (omega (arith, ints)) in omega (arith, ints, here, some)

      low : height_by_run g next ≤ℤ (r.y1 *ℤ run g) → gap r g next <ℤ pos 0
      low upto =
          by_lt_z (height_by_run g next) (r.y1 *ℤ run g)
          (λ less. let none = product_less (run r) (height_by_run g next -ℤ (r.y1 *ℤ run g)) (omega (arith, ints)) (omega (arith, ints)) in omega (arith, ints, here, none))
          (λ more. absurd (clear (omega (arith, ints))))

  -- r begins at x + 1
  begins : r.x0 ≡ next → is_lower_on next r g ≡ is_beneath g next r.y0
  begins is =
      lt_same (height_by_runs r g next +ℤ height_by_runs r g (next +ℤ pos 1)) (height_by_runs g r next +ℤ height_by_runs g r (next +ℤ pos 1)) (r.y0 *ℤ run g) (height_by_run g next)
      (λ lower. by_lt_z (r.y0 *ℤ run g) (height_by_run g next) (λ h. h) (λ high. let less = low high in let also = uncrossed next (next +ℤ pos 1) (omega (arith, ints, is)) (omega (arith, ints, is)) (omega (arith, ints)) (omega (arith, ints)) (omega (arith, ints, is)) (omega (arith, ints, is)) (omega (arith, ints)) (omega (arith, ints)) less in absurd (omega (arith, ints, less, also, lower))))
      (λ beneath. let some = high beneath in by_lt_z (gap r g (next +ℤ pos 1)) (pos 0)
      (λ less. let upto = uncrossed (next +ℤ pos 1) next (omega (arith, ints, is)) (omega (arith, ints, is)) (omega (arith, ints)) (omega (arith, ints)) (omega (arith, ints, is)) (omega (arith, ints, is)) (omega (arith, ints)) (omega (arith, ints)) less in absurd (omega (arith, ints, upto, some)))
      (λ above. omega (arith, ints, above, some)))
    where
      here : gap r g next ≡ (run r *ℤ (height_by_run g next -ℤ (r.y0 *ℤ run g)))
      here = subst (λ (z : ℤ). gap r g z ≡ (run r *ℤ (height_by_run g z -ℤ (r.y0 *ℤ run g)))) is (gap-start r g)

      clear : (r.y0 *ℤ run g) ≢ height_by_run g next
      clear = subst (λ (z : ℤ). (r.y0 *ℤ run g) ≢ height_by_run g z) is (off_from.off (omega (arith, ints, is)) (omega (arith, ints, is)))

      high : (r.y0 *ℤ run g) <ℤ height_by_run g next → pos 0 <ℤ gap r g next
      high beneath = let some = product_positive (run r) (height_by_run g next -ℤ (r.y0 *ℤ run g)) (omega (arith, ints)) (omega (arith, ints)) in omega (arith, ints, here, some)

      low : height_by_run g next ≤ℤ (r.y0 *ℤ run g) → gap r g next <ℤ pos 0
      low upto =
          by_lt_z (height_by_run g next) (r.y0 *ℤ run g)
          (λ less. let none = product_less (run r) (height_by_run g next -ℤ (r.y0 *ℤ run g)) (omega (arith, ints)) (omega (arith, ints)) in omega (arith, ints, here, none))
          (λ more. absurd (clear (omega (arith, ints))))

  -- r goes on through x + 1
  through : r.x0 ≤ℤ x → next <ℤ r.x1 → is_lower_on x r g ≡ is_lower_on next r g
  through from upto =
      lt_same (height_by_runs r g x +ℤ height_by_runs r g next) (height_by_runs g r x +ℤ height_by_runs g r next) (height_by_runs r g next +ℤ height_by_runs r g last) (height_by_runs g r next +ℤ height_by_runs g r last)
      (λ lower. let there = through_there p q s even pq qp ps sp qs sq (omega (arith, ints, lower)) in omega (arith, ints, there))
      (λ lower. let back = through_there s q p (omega (arith, ints, even)) sq qs sp ps qp pq (omega (arith, ints, lower)) in omega (arith, ints, back))
    where
      last : ℤ
      last = next +ℤ pos 1

      p : ℤ
      p = gap r g x

      q : ℤ
      q = gap r g next

      s : ℤ
      s = gap r g last

      even : (p +ℤ s) ≡ (q +ℤ q)
      even = gap-evenly r g x

      at : (a b : ℤ) → x ≤ℤ a → a ≤ℤ last → x ≤ℤ b → b ≤ℤ last → gap r g a <ℤ pos 0 → gap r g b ≤ℤ pos 0
      at a b a_from a_upto b_from b_upto = uncrossed a b (omega (arith, ints)) (omega (arith, ints)) (omega (arith, ints)) (omega (arith, ints)) (omega (arith, ints)) (omega (arith, ints)) (omega (arith, ints)) (omega (arith, ints))

      pq : p <ℤ pos 0 → q ≤ℤ pos 0
      pq = at x next (omega (arith, ints)) (omega (arith, ints)) (omega (arith, ints)) (omega (arith, ints))

      qp : q <ℤ pos 0 → p ≤ℤ pos 0
      qp = at next x (omega (arith, ints)) (omega (arith, ints)) (omega (arith, ints)) (omega (arith, ints))

      ps : p <ℤ pos 0 → s ≤ℤ pos 0
      ps = at x last (omega (arith, ints)) (omega (arith, ints)) (omega (arith, ints)) (omega (arith, ints))

      sp : s <ℤ pos 0 → p ≤ℤ pos 0
      sp = at last x (omega (arith, ints)) (omega (arith, ints)) (omega (arith, ints)) (omega (arith, ints))

      qs : q <ℤ pos 0 → s ≤ℤ pos 0
      qs = at next last (omega (arith, ints)) (omega (arith, ints)) (omega (arith, ints)) (omega (arith, ints))

      sq : s <ℤ pos 0 → q ≤ℤ pos 0
      sq = at last next (omega (arith, ints)) (omega (arith, ints)) (omega (arith, ints)) (omega (arith, ints))

  -- r moves as it ends and starts there: before it, from it on, through it, upto it, and behind it
  pub moves : Moves behind before (column (end_of r)) (column (start_of r))
  moves =
      by_lt_z r.x1 next
      (λ early. inl (
        out x (over_late x r (omega (arith, ints))) ∙ sym (not_in (end_of r) (λ e. omega (arith, ints, e, early))),
        out next (over_late next r (omega (arith, ints))) ∙ sym (not_in (start_of r) (λ e. omega (arith, ints, e, early))),
      ))
      (λ some. by_lt_z next r.x1
      (λ past. by_lt_z next r.x0
      (λ late. inl (
        out x (over_early x r (omega (arith, ints))) ∙ sym (not_in (end_of r) (λ e. omega (arith, ints, e, past))),
        out next (over_early next r late) ∙ sym (not_in (start_of r) (λ e. omega (arith, ints, e, late))),
      ))
      (λ begun. by_lt_z r.x0 next
      (λ earlier. inr (
        over x (over_true x r (omega (arith, ints)) (omega (arith, ints))) ∙ through (omega (arith, ints)) past ∙ sym (over next (over_true next r begun past)),
        not_in (end_of r) (λ e. omega (arith, ints, e, past)) ∙ sym (not_in (start_of r) (λ e. omega (arith, ints, e, earlier))),
      ))
      (λ now.
      let is : r.x0 ≡ next = omega (arith, ints) in inl (
        out x (over_early x r (omega (arith, ints))) ∙ sym (not_in (end_of r) (λ e. omega (arith, ints, e, past))),
        over next (over_true next r begun past) ∙ begins is ∙ sym (in_it (start_of r) is),
      ))))
      (λ upto.
      let is : r.x1 ≡ next = omega (arith, ints) in inl (
        over x (over_true x r (omega (arith, ints)) (omega (arith, ints))) ∙ ends is ∙ sym (in_it (end_of r) is),
        out next (over_late next r upto) ∙ sym (not_in (start_of r) (λ e. omega (arith, ints, e, is))),
      )))
