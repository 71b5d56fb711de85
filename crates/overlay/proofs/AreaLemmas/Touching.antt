-- Edges at a point that is an end of one of them: of those that haven't it as an end the same count below the edge as pass below
-- the point.
use Rattle.std.proofs.Common.{◌≡◌, ◌≢◌, ◌⊎◌, inl, inr, ℤ, pos, ◌+ℤ◌, ◌-ℤ◌, ◌*ℤ◌, ◌<ℤ◌, ◌≤ℤ◌, Bool, true, false, cond, not, ◌&&◌, List, refl, ap, ap₂, sym, subst, ◌∙◌, arith}
use Rattle.std.specs.List.{All, Contains}
use Rattle.std.specs.Int.Signed.{lt_z}
use Rattle.std.specs.Ordering.{int_eq}
use Rattle.std.proofs.lemmas.Int.{ints, by_lt_z}
use Rattle.std.proofs.lemmas.List.Elements.{All-contains}
use Rattle.plane.specs.declared.edge.Edge.{Edge}
use Rattle.plane.specs.declared.point.Point.{Point}
use Rattle.plane.specs.Ends.{start_of, end_of}
use Rattle.plane.specs.SweepLine.Heights.{rightwards, run, height_by_run, height_by_runs}
use Rattle.plane.proofs.MeetLemmas.Identities.{number, minus, times, identity}
use Rattle.plane.proofs.SweepLineLemmas.Gaps.{gap}
use Rattle.plane.proofs.SweepLineLemmas.Rightwards.{rightwards-left, rightwards-right}
use Rattle.overlay.specs.Fill.Counts.{is_over, is_lower_on, below_on}
use Rattle.overlay.specs.Fill.Filled.{AreNoded}
use Rattle.overlay.specs.Fill.Pieces.{weight}
use Rattle.overlay.proofs.AreaLemmas.Beneath.{is_below_point, is_upto_point, beneath, not_above, height-start, height-end, times-less, times-same}
use Rattle.overlay.specs.Sides.{upto_on}
use Rattle.overlay.proofs.FillLemmas.Aside.{IsAside, IsOff, aside}
use Rattle.overlay.proofs.FillLemmas.Level.{MeetOnly}
use Rattle.overlay.proofs.FillLemmas.Order.{lower-apart, lower-asym}
use Rattle.overlay.proofs.FillLemmas.Tests.{lt_false, lt_same, lt_true, over_is}
use Rattle.overlay.proofs.FillLemmas.Uncrossed.{MeetOnly-exchanged, MeetOnly-rightwards, Uncrossed, uncrossed, uncrossed_from}
use Rattle.overlay.proofs.KeptLemmas.First.{turned-meet}
use Rattle.overlay.proofs.PieceLemmas.Edges.{equal, unequal}
use Rattle.overlay.proofs.PieceLemmas.Made.{rightwards-onwards}

-- The point is one of the edge's ends.
abbrev pub Touches : Point → Edge → Type 0
Touches at edge = (start_of edge ≡ at) ⊎ (end_of edge ≡ at)

abbrev pub Away : Point → Edge → Type 0
Away at edge = (start_of edge ≢ at) × (end_of edge ≢ at)

-- ---- points

same-point : (p q : Point) → p.x ≡ q.x → p.y ≡ q.y → p ≡ q
same-point p q level even = ap₂ (λ (x y : ℤ). made x y) level even
  where
    made : ℤ → ℤ → Point
    made x y = record { x = x; y = y }

pub point-or : (p q : Point) → (p ≡ q) ⊎ (p ≢ q)
point-or p q = by (int_eq p.x q.x) (int_eq p.y q.y) refl refl
  where
    by : (s t : Bool) → int_eq p.x q.x ≡ s → int_eq p.y q.y ≡ t → (p ≡ q) ⊎ (p ≢ q)
    by true true e f = inl (same-point p q (equal p.x q.x e) (equal p.y q.y f))
    by false t e f = inr (λ same. unequal p.x q.x e (ap (λ (r : Point). r.x) same))
    by true false e f = inr (λ same. unequal p.y q.y f (ap (λ (r : Point). r.y) same))

pub touches-or : (at : Point) (edge : Edge) → Touches at edge ⊎ Away at edge
touches-or at edge = by (point-or (start_of edge) at) (point-or (end_of edge) at)
  where
    by : (start_of edge ≡ at) ⊎ (start_of edge ≢ at) → (end_of edge ≡ at) ⊎ (end_of edge ≢ at) → Touches at edge ⊎ Away at edge
    by (inl starts) ends = inl (inl starts)
    by (inr off) (inl ends) = inl (inr ends)
    by (inr off) (inr off_too) = inr (off, off_too)

-- an edge turned rightwards has the edge's ends, and no others
pub touches-turned : (at : Point) (edge : Edge) → Touches at edge → Touches at (rightwards edge)
touches-turned at edge touches = by (lt_z edge.x1 edge.x0) refl touches
  where
    by : (t : Bool) → lt_z edge.x1 edge.x0 ≡ t → Touches at edge → Touches at (rightwards edge)
    by true e (inl starts) = inr (ap (λ (r : Edge). end_of r) (rightwards-left edge e) ∙ starts)
    by true e (inr ends) = inl (ap (λ (r : Edge). start_of r) (rightwards-left edge e) ∙ ends)
    by false e (inl starts) = inl (ap (λ (r : Edge). start_of r) (rightwards-right edge e) ∙ starts)
    by false e (inr ends) = inr (ap (λ (r : Edge). end_of r) (rightwards-right edge e) ∙ ends)

off-turned : (at : Point) (edge : Edge) → start_of edge ≢ at → end_of edge ≢ at → (start_of (rightwards edge) ≢ at) × (end_of (rightwards edge) ≢ at)
off-turned at edge first second = by (lt_z edge.x1 edge.x0) refl
  where
    by : (t : Bool) → lt_z edge.x1 edge.x0 ≡ t → (start_of (rightwards edge) ≢ at) × (end_of (rightwards edge) ≢ at)
    by true e = (λ same. second (sym (ap (λ (r : Edge). start_of r) (rightwards-left edge e)) ∙ same), λ same. first (sym (ap (λ (r : Edge). end_of r) (rightwards-left edge e)) ∙ same))
    by false e = (λ same. first (sym (ap (λ (r : Edge). start_of r) (rightwards-right edge e)) ∙ same), λ same. second (sym (ap (λ (r : Edge). end_of r) (rightwards-right edge e)) ∙ same))

-- ---- heights

-- an edge is as high as the point that it touches
level-touching : (at : Point) (edge : Edge) → Touches at edge → height_by_run edge at.x ≡ (at.y *ℤ run edge)
level-touching at edge (inl is) = subst (λ (p : Point). height_by_run edge p.x ≡ (p.y *ℤ run edge)) is (height-start edge)
level-touching at edge (inr is) = subst (λ (p : Point). height_by_run edge p.x ≡ (p.y *ℤ run edge)) is (height-end edge)

-- one that doesn't touch it, nor has it inside, isn't
clear-of : (r : Edge) (at : Point) → r.x0 <ℤ r.x1 → r.x0 ≤ℤ at.x → at.x ≤ℤ r.x1 → IsOff r at.x at.y → start_of r ≢ at → end_of r ≢ at → (at.y *ℤ run r) ≢ height_by_run r at.x
clear-of r at onwards from upto off starts ends level =
    by_lt_z r.x0 at.x
    (λ behind. by_lt_z at.x r.x1
    (λ before. off.off behind before level)
    (λ past. let is : r.x1 ≡ at.x = omega (arith, ints, past, upto) in
    ends (same-point (end_of r) at is (times-same (run r) (omega (arith, ints, onwards)) r.y1 at.y (sym (height-end r) ∙ ap (λ z. height_by_run r z) is ∙ sym level)))))
    (λ early. let is : r.x0 ≡ at.x = omega (arith, ints, early, from) in
    starts (same-point (start_of r) at is (times-same (run r) (omega (arith, ints, onwards)) r.y0 at.y (sym (height-start r) ∙ ap (λ z. height_by_run r z) is ∙ sym level))))

-- ---- two edges over a stretch next to the point, one of which touches it

module _ (r g : Edge) (at : Point) (x : ℤ) (side : (at.x ≡ x) ⊎ (at.x ≡ (x +ℤ pos 1))) (r_over : is_over x r ≡ true) (g_over : is_over x g ≡ true) (apart : Uncrossed r g)
    (level : height_by_run g at.x ≡ (at.y *ℤ run g)) (clear : (at.y *ℤ run r) ≢ height_by_run r at.x) where
  -- the other end of the stretch
  abbrev far : ℤ
  far = (x +ℤ (x +ℤ pos 1)) -ℤ at.x

  from : x ≤ℤ at.x
  from = elim side [ inl is ↦ omega (arith, ints, is) | inr is ↦ omega (arith, ints, is) ]

  upto : at.x ≤ℤ (x +ℤ pos 1)
  upto = elim side [ inl is ↦ omega (arith, ints, is) | inr is ↦ omega (arith, ints, is) ]

  both_ends : (gap r g x +ℤ gap r g (x +ℤ pos 1)) ≡ (gap r g at.x +ℤ gap r g far)
  both_ends = elim side [
    | inl is ↦ let there : far ≡ (x +ℤ pos 1) = omega (arith, ints, is) in sym (ap₂ (λ a b. gap r g a +ℤ gap r g b) is there)
    | inr is ↦ let there : far ≡ x = omega (arith, ints, is) in turned (gap r g x) (gap r g (x +ℤ pos 1)) ∙ sym (ap₂ (λ a b. gap r g a +ℤ gap r g b) is there)
  ]
    where
      turned : (a b : ℤ) → (a +ℤ b) ≡ (b +ℤ a)
      turned a b = omega (arith, ints)

  -- how far g is above r at the point
  gap-here : gap r g at.x ≡ (((at.y *ℤ run r) *ℤ run g) -ℤ (height_by_run r at.x *ℤ run g))
  gap-here =
      ap (λ h. (h *ℤ run r) -ℤ (height_by_run r at.x *ℤ run g)) level
      ∙ identity (minus (times (times (number at.y) (number (run g))) (number (run r))) (times (number (height_by_run r at.x)) (number (run g))))
      (minus (times (times (number at.y) (number (run r))) (number (run g))) (times (number (height_by_run r at.x)) (number (run g))))
      (omega arith)

  some : pos 0 <ℤ run g
  some = let span = over_is x g g_over in let a = span.0 in let b = span.1 in omega (arith, ints, a, b)

  -- what isn't above at one end isn't at the other
  alike : (a b : ℤ) → x ≤ℤ a → a ≤ℤ (x +ℤ pos 1) → x ≤ℤ b → b ≤ℤ (x +ℤ pos 1) → gap r g a <ℤ pos 0 → gap r g b ≤ℤ pos 0
  alike a b a_from a_upto b_from b_upto =
      let span = over_is x r r_over in
      let span_too = over_is x g g_over in
      let p = span.0 in
      let q = span.1 in
      let s = span_too.0 in
      let t = span_too.1 in
      apart a b (omega (arith, ints, p, a_from)) (omega (arith, ints, q, a_upto)) (omega (arith, ints, s, a_from)) (omega (arith, ints, t, a_upto)) (omega (arith, ints, p, b_from)) (omega (arith, ints, q, b_upto)) (omega (arith, ints, s, b_from)) (omega (arith, ints, t, b_upto))

  -- r is lower than g there where it is below the point
  lower-beneath : is_lower_on x r g ≡ is_below_point at r
  lower-beneath =
      lt_same (height_by_runs r g x +ℤ height_by_runs r g (x +ℤ pos 1)) (height_by_runs g r x +ℤ height_by_runs g r (x +ℤ pos 1)) (height_by_run r at.x) (at.y *ℤ run r)
      (λ lower. by_lt_z (height_by_run r at.x) (at.y *ℤ run r) (λ h. h) (λ high. absurd (above lower high)))
      below
    where
      sums : (a b c d e f : ℤ) → (a +ℤ b) <ℤ (c +ℤ d) → ((c -ℤ a) +ℤ (d -ℤ b)) ≡ (e +ℤ f) → e <ℤ pos 0 → f ≤ℤ pos 0 → ⊥
      sums a b c d e f less same low low_too = omega (arith, ints, less, same, low, low_too)

      above : (height_by_runs r g x +ℤ height_by_runs r g (x +ℤ pos 1)) <ℤ (height_by_runs g r x +ℤ height_by_runs g r (x +ℤ pos 1)) → (at.y *ℤ run r) ≤ℤ height_by_run r at.x → ⊥
      above lower high =
          let strict : (at.y *ℤ run r) <ℤ height_by_run r at.x = by_lt_z (at.y *ℤ run r) (height_by_run r at.x) (λ h. h) (λ back. absurd (clear (omega (arith, ints, high, back)))) in
          let times = times-less (run g) some (at.y *ℤ run r) (height_by_run r at.x) strict in
          let is = gap-here in
          let low : gap r g at.x <ℤ pos 0 = omega (arith, ints, times, is) in
          sums (height_by_runs r g x) (height_by_runs r g (x +ℤ pos 1)) (height_by_runs g r x) (height_by_runs g r (x +ℤ pos 1)) (gap r g at.x) (gap r g far) lower both_ends low
          (alike at.x far from upto (let h = upto in omega (arith, ints, h)) (let h = from in omega (arith, ints, h)) low)

      more : (a b c d e f : ℤ) → ((c -ℤ a) +ℤ (d -ℤ b)) ≡ (e +ℤ f) → pos 0 <ℤ e → pos 0 ≤ℤ f → (a +ℤ b) <ℤ (c +ℤ d)
      more a b c d e f same high high_too = omega (arith, ints, same, high, high_too)

      below : height_by_run r at.x <ℤ (at.y *ℤ run r) → (height_by_runs r g x +ℤ height_by_runs r g (x +ℤ pos 1)) <ℤ (height_by_runs g r x +ℤ height_by_runs g r (x +ℤ pos 1))
      below less =
          let times = times-less (run g) some (height_by_run r at.x) (at.y *ℤ run r) less in
          let is = gap-here in
          let high : pos 0 <ℤ gap r g at.x = omega (arith, ints, times, is) in
          more (height_by_runs r g x) (height_by_runs r g (x +ℤ pos 1)) (height_by_runs g r x) (height_by_runs g r (x +ℤ pos 1)) (gap r g at.x) (gap r g far) both_ends high
          (by_lt_z (gap r g far) (pos 0)
          (λ low. let also = alike far at.x (let h = upto in omega (arith, ints, h)) (let h = from in omega (arith, ints, h)) from upto low in absurd (omega (arith, ints, also, high)))
          (λ h. h))

-- ---- tests

pub and-alike : (t a b : Bool) → (t ≡ true → a ≡ b) → (t && a) ≡ (t && b)
and-alike true a b same = same refl
and-alike false a b same = refl

and-false : (t a : Bool) → a ≡ false → (t && a) ≡ false
and-false true a is = is
and-false false a is = refl

-- a test that fails where the other one holds
pub and-never : (t a : Bool) → (t ≡ true → a ≡ false) → (t && a) ≡ false
and-never true a none = none refl
and-never false a none = refl

-- of two different numbers the one that isn't less is more
not-less : (a b : ℤ) → a ≢ b → not (lt_z a b) ≡ lt_z b a
not-less a b differ =
    by_lt_z a b
    (λ less. ap not (lt_true a b less) ∙ sym (lt_false b a (omega (arith, ints, less))))
    (λ upto. ap not (lt_false a b upto) ∙ sym (lt_true b a (by_lt_z b a (λ more. more) (λ from. absurd (differ (omega (arith, ints, upto, from)))))))

-- ---- edges that touch the point

-- one doesn't pass below it
pub no-beneath : (at : Point) (x : ℤ) (edge : Edge) → Touches at edge → beneath at x edge ≡ pos 0
no-beneath at x edge touching =
    let r = rightwards edge in
    let level = level-touching at r (touches-turned at edge touching) in
    ap (λ t. cond t (weight edge) (pos 0)) (and-false (is_over x r) (is_below_point at r) (lt_false (height_by_run r at.x) (at.y *ℤ run r) (omega (arith, ints, level))))

-- nor above it
pub upto-touching : (at : Point) (edge : Edge) → Touches at edge → is_upto_point at (rightwards edge) ≡ true
upto-touching at edge touching =
    let r = rightwards edge in
    let level = level-touching at r (touches-turned at edge touching) in
    ap not (lt_false (at.y *ℤ run r) (height_by_run r at.x) (omega (arith, ints, level)))

module _ (edges : List Edge) (noded : AreNoded edges) (sloped : All (λ edge. edge.x0 ≢ edge.x1) edges) (at : Point) (one : Edge) (among : Contains edges one) (touches : Touches at one) where
  abbrev g : Edge
  g = rightwards one

  meet : (first second : Edge) → Contains edges first → Contains edges second → MeetOnly first second
  meet first second is_first is_second point of_first of_second = noded first second point is_first is_second of_first of_second

  onwards : (edge : Edge) → Contains edges edge → (rightwards edge).x0 <ℤ (rightwards edge).x1
  onwards edge inside = rightwards-onwards edge (All-contains (λ (e : Edge). e.x0 ≢ e.x1) edges edge sloped inside)

  -- the edges meet g only at common ends
  meets_g : (edge : Edge) → Contains edges edge → MeetOnly edge g
  meets_g edge inside = MeetOnly-exchanged g edge (MeetOnly-rightwards one edge (meet one edge among inside))

  -- the point isn't inside any of them
  off : (edge : Edge) → Contains edges edge → IsOff (rightwards edge) at.x at.y
  off edge inside = by touches
    where
      is_aside : IsAside (rightwards edge) one
      is_aside = aside (rightwards edge) one (MeetOnly-exchanged (rightwards edge) one (MeetOnly-rightwards edge one (meet edge one inside among)))

      by : Touches at one → IsOff (rightwards edge) at.x at.y
      by (inl is) = subst (λ (p : Point). IsOff (rightwards edge) p.x p.y) is is_aside.from
      by (inr is) = subst (λ (p : Point). IsOff (rightwards edge) p.x p.y) is is_aside.to

  module _ (x : ℤ) (side : (at.x ≡ x) ⊎ (at.x ≡ (x +ℤ pos 1))) where
    first_end : (a : ℤ) → a ≤ℤ x → a ≤ℤ at.x
    first_end a h = elim side [ inl is ↦ omega (arith, ints, h, is) | inr is ↦ omega (arith, ints, h, is) ]

    last_end : (a : ℤ) → x <ℤ a → at.x ≤ℤ a
    last_end a h = elim side [ inl is ↦ omega (arith, ints, h, is) | inr is ↦ omega (arith, ints, h, is) ]

    -- one over the stretch that hasn't the point as an end isn't level with it
    clear : (edge : Edge) → Contains edges edge → Away at edge → is_over x (rightwards edge) ≡ true → (at.y *ℤ run (rightwards edge)) ≢ height_by_run (rightwards edge) at.x
    clear edge inside away over =
        let r = rightwards edge in
        let span = over_is x r over in
        let apart = off-turned at edge away.0 away.1 in
        clear-of r at (onwards edge inside) (first_end r.x0 span.0) (last_end r.x1 span.1) (off edge inside) apart.0 apart.1

    -- so it passes below the point where it doesn't pass above it
    pub not-above-off : (edge : Edge) → Contains edges edge → Away at edge → not_above at x edge ≡ beneath at x edge
    not-above-off edge inside away =
        let r = rightwards edge in
        ap (λ t. cond t (weight edge) (pos 0)) (and-alike (is_over x r) (is_upto_point at r) (is_below_point at r) (λ over. not-less (at.y *ℤ run r) (height_by_run r at.x) (clear edge inside away over)))

    module _ (over : is_over x g ≡ true) where
      -- it is below g where it passes below the point
      pub lower-off : (edge : Edge) → Contains edges edge → Away at edge → is_over x (rightwards edge) ≡ true → is_lower_on x (rightwards edge) g ≡ is_below_point at (rightwards edge)
      lower-off edge inside away is_over_too =
          lower-beneath (rightwards edge) g at x side is_over_too over (uncrossed_from edge g (onwards one among) (uncrossed edge g (meets_g edge inside))) (level-touching at g (touches-turned at one touches)) (clear edge inside away is_over_too)

      -- so it counts below g where it passes below the point
      pub below-off : (edge : Edge) → Contains edges edge → Away at edge → below_on x g edge ≡ beneath at x edge
      below-off edge inside away =
          let r = rightwards edge in
          ap (λ t. cond t (weight edge) (pos 0)) (and-alike (is_over x r) (is_lower_on x r g) (is_below_point at r) (lower-off edge inside away))

      -- and is above g where it isn't below it
      pub upto-off : (edge : Edge) → Contains edges edge → Away at edge → upto_on x g edge ≡ beneath at x edge
      upto-off edge inside away =
          let r = rightwards edge in
          ap (λ t. cond t (weight edge) (pos 0)) (and-alike (is_over x r) (not (is_lower_on x g r)) (is_below_point at r)
          (λ is_over_too. higher edge inside away is_over_too ∙ lower-off edge inside away is_over_too))
        where
          differ : (edge : Edge) → Away at edge → rightwards edge ≢ g
          differ edge away same = by (touches-turned at one touches)
            where
              apart : (start_of (rightwards edge) ≢ at) × (end_of (rightwards edge) ≢ at)
              apart = off-turned at edge away.0 away.1

              by : Touches at g → ⊥
              by (inl is) = apart.0 (ap (λ (e : Edge). start_of e) same ∙ is)
              by (inr is) = apart.1 (ap (λ (e : Edge). end_of e) same ∙ is)

          higher : (edge : Edge) → Contains edges edge → Away at edge → is_over x (rightwards edge) ≡ true → not (is_lower_on x g (rightwards edge)) ≡ is_lower_on x (rightwards edge) g
          higher edge inside away is_over_too =
              elim (lower-apart (rightwards edge) g x (turned-meet edges noded edge one inside among) (differ edge away) is_over_too over) [
                | inl lower ↦ ap not (lower-asym x (rightwards edge) g lower) ∙ sym lower
                | inr above ↦ ap not above ∙ sym (lower-asym x g (rightwards edge) above)
              ]
