-- Vertical edges meet pieces of long stretches only at common ends.
use Rattle.std.proofs.Common.{◌≡◌, ◌≢◌, ◌⊎◌, inl, inr, ℤ, pos, ◌*ℤ◌, ◌≤ℤ◌, ◌<ℤ◌, true, false, List, refl, sym, ap, ◌∙◌, subst, arith}
use Rattle.std.specs.Int.{int_max, int_min}
use Rattle.std.specs.List.{All, AllPairs, Contains}
use Rattle.std.proofs.lemmas.Int.{by_lt_z, clamps, ints}
use Rattle.std.proofs.lemmas.List.Elements.{All-contains}
use Rattle.plane.specs.declared.edge.Edge.{Edge}
use Rattle.plane.specs.declared.point.Point.{Point}
use Rattle.plane.specs.Meet.Edges.{IsOf, RationalPoint}
use Rattle.plane.specs.Meet.Kinds.{IsAt, IsEnd}
use Rattle.plane.specs.SweepLine.Heights.{height_by_run, run}
use Rattle.plane.proofs.MeetLemmas.Along.{is_of-end}
use Rattle.plane.proofs.MeetLemmas.Boxes.{way_above, way_below}
use Rattle.plane.proofs.MeetLemmas.Identities.{unscaled}
use Rattle.overlay.specs.Fill.Filled.{AreNoded, HaveSameEnds, IsNextInColumn}
use Rattle.noding.specs.Chains.{IsEnd as EndAt}
use Rattle.noding.specs.Meeting.{MeetAtEnds}
use Rattle.plane.specs.Ends.{end_of, reversed, start_of}
use Rattle.monotone_chains.specs.Stretches.{IsLong, IsStretch, chord}
use Rattle.overlay.proofs.FillLemmas.Aside.{aside}
use Rattle.overlay.proofs.FillLemmas.Kept.{same-exchanged}
use Rattle.overlay.proofs.FillLemmas.Level.{MeetOnly}
use Rattle.overlay.proofs.FillLemmas.Tests.{lt_false, lt_true}
use Rattle.overlay.proofs.FillLemmas.Uncrossed.{MeetOnly-exchanged, MeetOnly-reversed}
use Rattle.noding.proofs.SnapLemmas.Hobby.Ends.{reverse_meet_other}
use Rattle.monotone_chains.proofs.StretchLemmas.Boxes.{ClearIfLong, IsAmid, IsTip, chord-from, chord-to, tip-or_amid}
use Rattle.overlay.proofs.BoundaryLemmas.Corners.{end-sloped}
use Rattle.monotone_chains.proofs.StretchLemmas.Inner.{off-end}
use Rattle.monotone_chains.proofs.StretchLemmas.NodedNear.{HasEnds}
use Rattle.monotone_chains.proofs.StretchLemmas.NodedColumns.{IsOver, IsUnder, beyond-side, over-height, under-height}
use Rattle.monotone_chains.proofs.StretchLemmas.NodedKinds.{sloped-chord}
use Rattle.monotone_chains.proofs.StretchLemmas.Placed.{IsPlaced}
use Rattle.monotone_chains.proofs.StretchLemmas.NodedSides.{StaysLeft, StaysRight, end-column}
use Rattle.overlay.proofs.VerticalLemmas.Crossed.{IsOf-turned}

-- an edge meets another as it meets one with the same ends
meet-turned : (f e g : Edge) (point : RationalPoint) → HaveSameEnds e g → MeetAtEnds f e point → MeetAtEnds f g point
meet-turned f e g point (inl same) meet = subst (λ (h : Edge). MeetAtEnds f h point) same meet
meet-turned f e g point (inr same) meet = reverse_meet_other f g point (subst (λ (h : Edge). MeetAtEnds f h point) same meet)

-- a vertical edge whose ends are above another and below it, inside, crosses it
upright-crosses : (g f : Edge) → MeetOnly f g → f.x0 ≡ f.x1 → g.x0 <ℤ f.x0 → f.x0 <ℤ g.x1 → height_by_run g f.x0 <ℤ (f.y0 *ℤ run g) → (f.y1 *ℤ run g) <ℤ height_by_run g f.x0 → ⊥
upright-crosses g f meet same behind before over under =
    no (sym (lt_false (f.y0 *ℤ run g) (height_by_run g f.x0) (omega (arith, ints, over))) ∙ (aside g f meet).upright same behind before ∙ lt_true (f.y1 *ℤ run g) (height_by_run g f.x0) under)
  where
    no : ¬ (false ≡ true)
    no is = cc

-- ---- a vertical edge and a point of it

module _ (f : Edge) (point : RationalPoint) (upright : f.x1 ≡ f.x0) (of : IsOf f point) where
  upright-column : point.x ≡ (pos point.n *ℤ f.x0)
  upright-column =
      let share = of.1 in
      let from = way_above point.n of.0 f.x0 f.x0 f.x1 share.share (omega (arith, ints)) (omega (arith, ints, upright)) in
      let upto = way_below point.n of.0 f.x0 f.x0 f.x1 share.share (omega (arith, ints)) (omega (arith, ints, upright)) in
      let is = share.x in
      omega (arith, ints, from, upto, is)

  -- it isn't below both ends, nor above both
  not_below : point.y <ℤ (pos point.n *ℤ f.y0) → point.y <ℤ (pos point.n *ℤ f.y1) → ⊥
  not_below first second =
      let share = of.1 in
      let is = share.y in
      by_lt_z f.y0 f.y1
      (λ up. let from = way_above point.n of.0 f.y0 f.y0 f.y1 share.share (omega (arith, ints)) (omega (arith, ints, up)) in omega (arith, ints, from, is, first))
      (λ down. let from = way_above point.n of.0 f.y1 f.y0 f.y1 share.share (omega (arith, ints, down)) (omega (arith, ints)) in omega (arith, ints, from, is, second))

  not_above : (pos point.n *ℤ f.y0) <ℤ point.y → (pos point.n *ℤ f.y1) <ℤ point.y → ⊥
  not_above first second =
      let share = of.1 in
      let is = share.y in
      by_lt_z f.y0 f.y1
      (λ up. let upto = way_below point.n of.0 f.y1 f.y0 f.y1 share.share (omega (arith, ints, up)) (omega (arith, ints)) in omega (arith, ints, upto, is, second))
      (λ down. let upto = way_below point.n of.0 f.y0 f.y0 f.y1 share.share (omega (arith, ints)) (omega (arith, ints, down)) in omega (arith, ints, upto, is, first))

-- ---- the columns of a stretch

module _ (s : List Point) (is : IsStretch s) where
  abbrev least : ℤ
  least = int_min (chord s).x0 (chord s).x1

  abbrev most : ℤ
  most = int_max (chord s).x0 (chord s).x1

  held-columns : (p : Point) → Contains s p → (least ≤ℤ p.x) × (p.x ≤ℤ most)
  held-columns p held = go (tip-or_amid s is p held)
    where
      go : IsTip s p ⊎ IsAmid s p.x → (least ≤ℤ p.x) × (p.x ≤ℤ most)
      go (inl (inl same)) = let x = ap (λ (q : Point). q.x) same in (omega (arith, ints, clamps, x), omega (arith, ints, clamps, x))
      go (inl (inr same)) = let x = ap (λ (q : Point). q.x) same in (omega (arith, ints, clamps, x), omega (arith, ints, clamps, x))
      go (inr (inl (from, to))) = (omega (arith, ints, clamps, from, to), omega (arith, ints, clamps, from, to))
      go (inr (inr (from, to))) = (omega (arith, ints, clamps, from, to), omega (arith, ints, clamps, from, to))

  amid-columns : (x : ℤ) → least <ℤ x → x <ℤ most → IsAmid s x
  amid-columns x from to =
      by_lt_z (chord s).x0 (chord s).x1
      (λ up. inl (omega (arith, ints, clamps, from, up), omega (arith, ints, clamps, to, up)))
      (λ down. inr (omega (arith, ints, clamps, from, down), omega (arith, ints, clamps, to, down)))

  -- an end of an edge between its points, in an outmost column, is an end of the chord
  outer-end : (p : Edge) (point : RationalPoint) (x : ℤ) → HasEnds s p → ¬ (IsAmid s x) → point.x ≡ (pos point.n *ℤ x) → IsEnd p point → IsEnd (chord s) point
  outer-end p point x ends outer at end = go end
    where
      same_column : (z : ℤ) → (pos point.n *ℤ z) ≡ (pos point.n *ℤ x) → z ≡ x
      same_column z same =
          let upto = unscaled point.n z x point.positive (omega (arith, ints, same)) in
          let from = unscaled point.n x z point.positive (omega (arith, ints, same)) in
          omega (arith, ints, upto, from)

      tip : (q : Point) → Contains s q → IsAt point q.x q.y → IsEnd (chord s) point
      tip q held whole = elim (tip-or_amid s is q held) [
        | inl (inl same) ↦ inl (subst (λ (r : Point). IsAt point r.x r.y) same whole)
        | inl (inr same) ↦ inr (subst (λ (r : Point). IsAt point r.x r.y) same whole)
        | inr amid ↦ absurd (outer (subst (λ (z : ℤ). IsAmid s z) (same_column q.x (sym whole.x_is ∙ at)) amid))
      ]

      go : IsEnd p point → IsEnd (chord s) point
      go (inl whole) = tip (start_of p) ends.0 whole
      go (inr whole) = tip (end_of p) ends.1 whole

  -- a vertical edge with one end above all between its points and the other below crosses the chord
  across : (f : Edge) (x : ℤ) → MeetOnly f (chord s) → f.x0 ≡ x → f.x1 ≡ x → IsAmid s x → IsOver s x f.y0 → IsUnder s x f.y1 → ⊥
  across f x meet at at_too amid over under = go (subst (IsAmid s) (sym at) amid) (subst (λ (z : ℤ). IsOver s z f.y0) (sym at) over) (subst (λ (z : ℤ). IsUnder s z f.y1) (sym at) under)
    where
      go : IsAmid s f.x0 → IsOver s f.x0 f.y0 → IsUnder s f.x0 f.y1 → ⊥
      go (inl (from, to)) over under =
          upright-crosses (chord s) f meet (at ∙ sym at_too) from to
          (over-height s (chord s) f.x0 f.y0 (chord-from s is, chord-to s is) from to over) (under-height s (chord s) f.x0 f.y1 (chord-from s is, chord-to s is) from to under)
      go (inr (from, to)) over under =
          upright-crosses (reversed (chord s)) f (MeetOnly-exchanged (reversed (chord s)) f (MeetOnly-reversed (chord s) f (MeetOnly-exchanged f (chord s) meet))) (at ∙ sym at_too) from to
          (over-height s (reversed (chord s)) f.x0 f.y0 (chord-to s is, chord-from s is) from to over) (under-height s (reversed (chord s)) f.x0 f.y1 (chord-to s is, chord-from s is) from to under)

-- ---- a vertical edge among others, and a piece of a stretch whose chord is one of them

module _ (all : List (List Point)) (each : All IsStretch all) (clear : AllPairs ClearIfLong all) (edges : List Edge) (noded : AreNoded edges)
    (vertical : All (λ edge. edge.x1 ≡ edge.x0 → IsNextInColumn edges edge) edges) (placed : All (λ edge. edge.x1 ≢ edge.x0 → IsPlaced all edge) edges)
    (s : List Point) (of_all : Contains all s) (long : IsLong s) (e : Edge) (e_among : Contains edges e) (turned : HaveSameEnds e (chord s))
    (f : Edge) (f_among : Contains edges f) (upright : f.x1 ≡ f.x0) where
  is_stretch : IsStretch s
  is_stretch = All-contains IsStretch all s each of_all

  meets-chord : MeetOnly f (chord s)
  meets-chord point of of_chord = meet-turned f e (chord s) point turned (noded f e point f_among e_among of (IsOf-turned (chord s) e point (same-exchanged e (chord s) turned) of_chord))

  -- strictly inside the columns nothing between its points meets it
  off-amid : (p : Edge) (point : RationalPoint) → HasEnds s p → IsOf p point → IsOf f point → ¬ (IsAmid s f.x0)
  off-amid p point ends of_p of_f amid = go (side f.y0 (inl (refl, refl))) (side f.y1 (inr (sym upright, refl)))
    where
      side : (y : ℤ) → EndAt f f.x0 y → IsOver s f.x0 y ⊎ IsUnder s f.x0 y
      side y end = beyond-side s f.x0 y is_stretch (off-end all each clear edges placed f.x0 y (end-sloped edges vertical f f.x0 y f_among end) s of_all long amid) amid

      at : point.x ≡ (pos point.n *ℤ f.x0)
      at = upright-column f point upright of_f

      go : IsOver s f.x0 f.y0 ⊎ IsUnder s f.x0 f.y0 → IsOver s f.x0 f.y1 ⊎ IsUnder s f.x0 f.y1 → ⊥
      go (inl over) (inl over_too) = not_below f point upright of_f (over p point ends of_p at) (over_too p point ends of_p at)
      go (inl over) (inr under) = across s is_stretch f f.x0 meets-chord refl upright amid over under
      go (inr under) (inl over) = across s is_stretch (reversed f) f.x0 (MeetOnly-reversed f (chord s) meets-chord) upright refl amid over under
      go (inr under) (inr under_too) = not_above f point upright of_f (under p point ends of_p at) (under_too p point ends of_p at)

  -- they meet only at common ends
  pub upright-meets : (p : Edge) (point : RationalPoint) → HasEnds s p → p.x1 ≢ p.x0 → IsOf p point → IsOf f point → MeetAtEnds p f point
  upright-meets p point ends sloped of_p of_f =
      let (from, from_upto) = held-columns s is_stretch (start_of p) ends.0 in
      let (to, to_upto) = held-columns s is_stretch (end_of p) ends.1 in
      by_lt_z (least s is_stretch) f.x0
      (λ after. by_lt_z f.x0 (most s is_stretch)
      (λ before. absurd (off-amid p point ends of_p of_f (amid-columns s is_stretch f.x0 after before)))
      (λ late. outer (inl (omega (arith, ints, from_upto, late), omega (arith, ints, to_upto, late)))))
      (λ early. outer (inr (omega (arith, ints, from, early), omega (arith, ints, to, early))))
    where
      at : point.x ≡ (pos point.n *ℤ f.x0)
      at = upright-column f point upright of_f

      outer : StaysLeft p f.x0 ⊎ StaysRight p f.x0 → MeetAtEnds p f point
      outer side =
          let end = end-column p point f.x0 sloped side of_p at in
          let of_chord = is_of-end (chord s) point (outer-end s is_stretch p point f.x0 ends (off-amid p point ends of_p of_f) at end) in
          elim (meets-chord point of_f of_chord) [
            | inl both ↦ inl (end, both.0)
            | inr same ↦ absurd (sloped-chord s f is_stretch long same upright)
          ]
