-- On one stretch the edges of which each has the same number on its left open and close in turn.
use Rattle.std.proofs.Common.{◌≡◌, ◌≢◌, ◌⊎◌, inl, inr, ℕ, ◌<◌, ℤ, pos, negsuc, ◌+ℤ◌, ◌-ℤ◌, ◌*ℤ◌, ◌≤ℤ◌, ◌<ℤ◌, Bool, true, false, not, ◌&&◌, cond, List, [], ◌∷◌, get_or, refl, ap, ap₂, arith, sym, subst, ◌∙◌}
use Rattle.std.specs.Int.Signed.{lt_z}
use Rattle.std.specs.List.{All, AllPairs, Contains, filter}
use Rattle.std.proofs.lemmas.Int.{ints, by_lt_z}
use Rattle.std.proofs.lemmas.List.Elements.{All-contains, All-weaker}
use Rattle.std.proofs.lemmas.List.Kept.{AllPairs-filter}
use Rattle.i_tree.proofs.RootLemmas.Members.{Contains-from_filter}
use Rattle.plane.specs.declared.edge.Edge.{Edge}
use Rattle.plane.specs.declared.point.Point.{Point}
use Rattle.plane.specs.SweepLine.Heights.{rightwards, run}
use Rattle.plane.proofs.MeetLemmas.Identities.{number, plus, minus, times, identity}
use Rattle.plane.proofs.SweepLineLemmas.Rightwards.{rightwards-left, rightwards-right}
use Rattle.overlay.specs.Fill.Counts.{is_over, is_lower_on, below_on}
use Rattle.overlay.specs.Fill.Filled.{AreDistinct, AreNoded, HaveSameEnds}
use Rattle.overlay.specs.Fill.Pieces.{total, weight}
use Rattle.noding.specs.Windings.{count}
use Rattle.overlay.proofs.AreaLemmas.Alternating.{Turns, alternating}
use Rattle.overlay.specs.Sides.{just_below}
use Rattle.overlay.proofs.AreaLemmas.Multiple.{shared-order}
use Rattle.overlay.proofs.AreaLemmas.Trapezoids.{slice}
use Rattle.overlay.proofs.FillLemmas.Along.{count-along}
use Rattle.overlay.proofs.FillLemmas.Aside.{IsAside, aside}
use Rattle.overlay.proofs.FillLemmas.Balance.{carried, AreBalanced}
use Rattle.overlay.proofs.FillLemmas.Kept.{same-exchanged, same-rightwards, same-trans}
use Rattle.overlay.proofs.FillLemmas.Level.{MeetOnly}
use Rattle.overlay.proofs.FillLemmas.Order.{middle, lower_out, lower-irrefl, lower-asym, lower-trans, lower-apart}
use Rattle.overlay.proofs.FillLemmas.Premises.{All-among}
use Rattle.overlay.proofs.FillLemmas.Ranked.{Differ, sum_below}
use Rattle.overlay.proofs.FillLemmas.Tests.{lt_true, lt_false, lt_is, over_is}
use Rattle.overlay.proofs.FillLemmas.Totals.{total-same, total-filter}
use Rattle.overlay.proofs.FillLemmas.Uncrossed.{MeetOnly-exchanged, MeetOnly-rightwards}
use Rattle.overlay.proofs.FillLemmas.Weights.{weight-right, weight-left}
use Rattle.noding.proofs.SnapLemmas.Numbers.{n_of}

-- ---- sums of multiples

-- products by 0, and of sums
pub times_none : (s : ℤ) → (s *ℤ pos 0) ≡ pos 0
times_none s = identity (times (number s) (n_of 0)) (n_of 0) (omega arith)

times_sum : (s a b : ℤ) → (s *ℤ (a +ℤ b)) ≡ ((s *ℤ a) +ℤ (s *ℤ b))
times_sum s a b = identity (times (number s) (plus (number a) (number b))) (plus (times (number s) (number a)) (times (number s) (number b))) (omega arith)

-- a sum of multiples by one number
pub total-times : {X : Type 0} (s : ℤ) (f : X → ℤ) (xs : List X) → total (λ x. s *ℤ f x) xs ≡ (s *ℤ total f xs)
total-times s f [] = sym (times_none s)
total-times s f (x ∷ xs) = ap (λ z. (s *ℤ f x) +ℤ z) (total-times s f xs) ∙ sym (times_sum s (f x) (total f xs))

-- a multiple of what a test leaves
times_tested : (t : Bool) (s a : ℤ) → cond t (s *ℤ a) (pos 0) ≡ (s *ℤ cond t a (pos 0))
times_tested true s a = refl
times_tested false s a = sym (times_none s)

-- ---- what weighs on a stretch

-- tests of which the first implies the second
right_carried : (a b : Bool) → (a ≡ true → b ≡ true) → cond (not a && b) (pos 1) (pos 0) ≡ (count b -ℤ count a)
right_carried true true later = refl
right_carried true false later = let h = later refl in cc
right_carried false true later = refl
right_carried false false later = refl

left_carried : (a b : Bool) → (a ≡ true → b ≡ true) → cond (not a && b) (negsuc 0) (pos 0) ≡ (count a -ℤ count b)
left_carried true true later = refl
left_carried true false later = let h = later refl in cc
left_carried false true later = refl
left_carried false false later = refl

-- the points to the right of x
abbrev is_behind : ℤ → Point → Bool
is_behind x point = lt_z x point.x

-- what is further left is behind only with what is further right
later : (x a b : ℤ) → a <ℤ b → lt_z x a ≡ true → lt_z x b ≡ true
later x a b less e = let h = lt_is x a e in lt_true x b (omega (arith, ints, less, h))

-- an edge over the stretch from x on is carried to the right of x by its weight, and any other one isn't
over_carried : (x : ℤ) (edge : Edge) → edge.x0 ≢ edge.x1 → cond (is_over x (rightwards edge)) (weight edge) (pos 0) ≡ carried (is_behind x) edge
over_carried x edge sloped =
    by_lt_z edge.x0 edge.x1
    (λ onwards.
    ap₂ (λ (r : Edge) w. cond (is_over x r) w (pos 0)) (rightwards-right edge (lt_false edge.x1 edge.x0 (omega (arith, ints, onwards)))) (weight-right edge onwards)
    ∙ right_carried (lt_z x edge.x0) (lt_z x edge.x1) (later x edge.x0 edge.x1 onwards))
    (λ upto. by_lt_z edge.x1 edge.x0
    (λ back.
    ap₂ (λ (r : Edge) w. cond (is_over x r) w (pos 0)) (rightwards-left edge (lt_true edge.x1 edge.x0 back)) (weight-left edge back)
    ∙ left_carried (lt_z x edge.x1) (lt_z x edge.x0) (later x edge.x1 edge.x0 back))
    (λ from. absurd (sloped (omega (arith, ints, upto, from)))))

-- a test after another
nested : (a b : Bool) (w : ℤ) → cond (a && b) w (pos 0) ≡ cond a (cond b w (pos 0)) (pos 0)
nested true b w = refl
nested false b w = refl

-- The edge opens, or closes, what is counted s times.
abbrev pub Alternates : ℤ → List Edge → Edge → Type 0
Alternates s edges edge =
    ((s *ℤ just_below edges edge) ≡ pos 0) × ((s *ℤ weight edge) ≡ pos 1)
    ⊎ ((s *ℤ just_below edges edge) ≡ pos 1) × ((s *ℤ weight edge) ≡ negsuc 0)

module _ (edges : List Edge) (closed : AreBalanced edges) (noded : AreNoded edges) (distinct : AreDistinct edges) (sloped : All (λ edge. edge.x0 ≢ edge.x1) edges)
    (s : ℤ) (turns : All (Alternates s edges) edges) (share : Edge → ℤ) (d : ℕ) (some : 0 < d) (shares : (edge : Edge) → Contains edges edge → (share edge *ℤ run (rightwards edge)) ≡ pos d) (x : ℤ) where
  -- which edges are over the stretch, and which of them are lower than another
  abbrev over : Edge → Bool
  over edge = is_over x (rightwards edge)

  abbrev lower : Edge → Edge → Bool
  lower one other = is_lower_on x (rightwards one) (rightwards other)

  abbrev here : List Edge
  here = filter over edges

  abbrev Here : Edge → Type 0
  Here edge = Contains edges edge × (over edge ≡ true)

  all_here : All Here here
  all_here = All-among Here here (λ edge among. Contains-from_filter over edges edge among)

  -- what is counted of each, and how high it is
  abbrev weighed : Edge → ℤ
  weighed edge = s *ℤ weight edge

  abbrev below : Edge → ℤ
  below edge = s *ℤ just_below edges edge

  abbrev height : Edge → ℤ
  height edge = share edge *ℤ middle x (rightwards edge)

  abbrev part : Edge → ℤ
  part edge = slice (weighed edge) (share edge) (rightwards edge) x

  -- edges over the stretch go rightwards, once turned
  onwards : (edge : Edge) → Here edge → (rightwards edge).x0 <ℤ (rightwards edge).x1
  onwards edge (among, is_here) =
      let span = over_is x (rightwards edge) is_here in
      let from = span.0 in
      let upto = span.1 in
      omega (arith, ints, from, upto)

  -- they meet only at common ends
  meet : (one other : Edge) → Contains edges one → Contains edges other → MeetOnly one (rightwards other)
  meet one other first second =
      MeetOnly-exchanged (rightwards other) one (MeetOnly-rightwards other one (λ point of_one of_other. noded other one point second first of_one of_other))

  -- of two of them one is lower
  differ : (one other : Edge) → Here one → Here other → ¬ (HaveSameEnds one other) → Differ lower one other
  differ one other (first, is_here) (second, is_here_too) apart =
      lower-apart (rightwards one) (rightwards other) x (MeetOnly-rightwards one (rightwards other) (meet one other first second))
      (λ same. apart (same-trans one (rightwards one) other (same-exchanged (rightwards one) one (same-rightwards one)) (subst (λ (r : Edge). HaveSameEnds r other) (sym same) (same-rightwards other))))
      is_here is_here_too

  all_differ : AllPairs (Differ lower) here
  all_differ i j e before within =
      differ (get_or here i e) (get_or here j e) (all_here i e (omega (arith, before, within))) (all_here j e within)
      (AllPairs-filter (λ one other. ¬ (HaveSameEnds one other)) over edges distinct i j e before within)

  -- the lower one is less high
  higher : (one other : Edge) → Here one → Here other → lower one other ≡ true → height one <ℤ height other
  higher one other first second less =
      let one_some = onwards one first in
      let other_some = onwards other second in
      shared-order (middle x (rightwards one)) (middle x (rightwards other)) (run (rightwards one)) (run (rightwards other)) (share one) (share other) d some
      (omega (arith, ints, one_some)) (omega (arith, ints, other_some)) (shares one first.0) (shares other second.0) (lower_out x (rightwards one) (rightwards other) less)

  -- what is just below one of them, where it begins, is what of them is lower
  below_lower : (edge : Edge) → Here edge → just_below edges edge ≡ sum_below lower weight here edge
  below_lower edge (among, is_here) =
      let r = rightwards edge in
      let span = over_is x r is_here in
      sym (count-along r x edges closed (All-among (IsAside r) edges (λ other inside. aside r other (meet other edge inside among))) span.0 span.1)
      ∙ total-same (below_on x r) (λ other. cond (over other) (cond (lower other edge) (weight other) (pos 0)) (pos 0)) edges
      (All-among (λ other. below_on x r other ≡ cond (over other) (cond (lower other edge) (weight other) (pos 0)) (pos 0)) edges
      (λ other inside. nested (over other) (lower other edge) (weight other)))
      ∙ total-filter over (λ other. cond (lower other edge) (weight other) (pos 0)) edges

  below_counts : (edge : Edge) → Here edge → below edge ≡ sum_below lower weighed here edge
  below_counts edge is_here =
      ap (λ z. s *ℤ z) (below_lower edge is_here)
      ∙ sym (total-times s (λ other. cond (lower other edge) (weight other) (pos 0)) here)
      ∙ total-same (λ other. s *ℤ cond (lower other edge) (weight other) (pos 0)) (λ other. cond (lower other edge) (weighed other) (pos 0)) here
      (All-among (λ other. (s *ℤ cond (lower other edge) (weight other) (pos 0)) ≡ cond (lower other edge) (weighed other) (pos 0)) here
      (λ other inside. sym (times_tested (lower other edge) s (weight other))))

  -- all of them together weigh nothing
  total_none : total weighed here ≡ pos 0
  total_none =
      total-times s weight here
      ∙ ap (λ z. s *ℤ z) (sym (total-filter over weight edges)
      ∙ total-same (λ edge. cond (over edge) (weight edge) (pos 0)) (carried (is_behind x)) edges
      (All-weaker (λ edge. edge.x0 ≢ edge.x1) (λ edge. cond (over edge) (weight edge) (pos 0) ≡ carried (is_behind x) edge) (over_carried x) edges sloped)
      ∙ closed (is_behind x))
      ∙ times_none s

  -- each opens or closes
  opens_by : (w h : ℤ) → w ≡ pos 1 → (((w *ℤ h) +ℤ (w *ℤ h)) +ℤ pos 1) ≡ ((h +ℤ h) +ℤ pos 1)
  opens_by w h is = ap (λ z. ((z *ℤ h) +ℤ (z *ℤ h)) +ℤ pos 1) is ∙ identity (plus (plus (times (n_of 1) (number h)) (times (n_of 1) (number h))) (n_of 1)) (plus (plus (number h) (number h)) (n_of 1)) (omega arith)

  closes_by : (w h : ℤ) → w ≡ negsuc 0 → (((w *ℤ h) +ℤ (w *ℤ h)) +ℤ pos 1) ≡ (pos 1 -ℤ (h +ℤ h))
  closes_by w h is =
      ap (λ z. ((z *ℤ h) +ℤ (z *ℤ h)) +ℤ pos 1) is
      ∙ identity (plus (plus (times (number (negsuc 0)) (number h)) (times (number (negsuc 0)) (number h))) (n_of 1)) (minus (n_of 1) (plus (number h) (number h))) (omega arith)

  turn : (edge : Edge) → Here edge → Turns weighed below height part edge
  turn edge (among, is_here) =
      elim (All-contains (Alternates s edges) edges edge turns among) [
        | inl both ↦ inl (record { under = both.0; weighs = both.1; counts = opens_by (weighed edge) (height edge) both.1 })
        | inr both ↦ inr (record { under = both.0; weighs = both.1; counts = closes_by (weighed edge) (height edge) both.1 })
      ]

  -- So the edges over the stretch count at most 0.
  pub stretch-below : total (λ edge. cond (over edge) (part edge) (pos 0)) edges ≤ℤ pos 0
  stretch-below =
      let upto = alternating weighed below height part lower (λ one other. lower-asym x (rightwards one) (rightwards other)) (λ edge. lower-irrefl x (rightwards edge)) Here
      (λ one second third first_here second_here third_here. lower-trans x (rightwards one) (rightwards second) (rightwards third) (onwards one first_here) (onwards second second_here) (onwards third third_here))
      higher here all_here (All-weaker Here (Turns weighed below height part) turn here all_here) all_differ
      (All-weaker Here (λ edge. below edge ≡ sum_below lower weighed here edge) below_counts here all_here) total_none in
      subst (λ z. z ≤ℤ pos 0) (sym (total-filter over part edges)) upto
