-- No two of such edges have the same ends, with the points of stretches in place of their chords.
use Rattle.std.proofs.Common.{◌≡◌, ◌≢◌, ◌⊎◌, inl, inr, List, [], ◌∷◌, get_or, sym, ap, ◌∙◌, subst, arith}
use Rattle.std.specs.List.{All, AllPairs, AllZip, Contains, flat_map}
use Rattle.std.proofs.lemmas.List.Elements.{All-contains, All-head, All-tail, Contains-get_or}
use Rattle.i_tree.proofs.RootLemmas.Joined.{AllPairs-append, AllPairs-nil}
use Rattle.i_tree.proofs.RootLemmas.Lists.{AllPairs-head, AllPairs-tail}
use Rattle.plane.specs.declared.edge.Edge.{Edge}
use Rattle.plane.specs.declared.point.Point.{Point}
use Rattle.overlay.specs.Fill.Filled.{AreDistinct, HaveSameEnds}
use Rattle.noding.specs.Windings.{pieces}
use Rattle.monotone_chains.specs.Stretches.{GoesAlong, IsLong, IsStretch, chord}
use Rattle.overlay.proofs.FillLemmas.Kept.{same-exchanged}
use Rattle.monotone_chains.proofs.StretchLemmas.Boxes.{ClearIfLong, clear-any}
use Rattle.monotone_chains.proofs.StretchLemmas.NodedNear.{AreNear, near-ends, near-same, placed-near}
use Rattle.monotone_chains.proofs.StretchLemmas.Noded.{alone-piece, piece-of, same-both}
use Rattle.monotone_chains.proofs.StretchLemmas.NodedKinds.{GoesAlone, GoesLong, long-ends, long-rises, way-kind}
use Rattle.monotone_chains.proofs.StretchLemmas.NodedWays.{piece-sloped, way-distinct}
use Rattle.monotone_chains.proofs.StretchLemmas.Placed.{IsPlaced}
use Rattle.monotone_chains.proofs.StretchLemmas.NodedSides.{clear-upright}

-- an edge with the ends of one that isn't vertical isn't either
same-sloped : (one other : Edge) → HaveSameEnds one other → one.x1 ≢ one.x0 → other.x1 ≢ other.x0
same-sloped one other (inl same) sloped level = sloped (ap (λ (e : Edge). e.x1) same ∙ level ∙ sym (ap (λ (e : Edge). e.x0) same))
same-sloped one other (inr same) sloped level = sloped (ap (λ (e : Edge). e.x1) same ∙ sym level ∙ sym (ap (λ (e : Edge). e.x0) same))

module _ (all : List (List Point)) (each : All IsStretch all) (clear : AllPairs ClearIfLong all) where
  -- ---- two pieces, of different edges

  module _ (one other e : Edge) (way : List Point) (goes : GoesLong all e way) (is : Contains (pieces way) one) where
    one-sloped : one.x1 ≢ one.x0
    one-sloped = piece-sloped way (long-rises all each clear e way goes) one is

    -- the other is near some stretch, and its edge has the chord's ends where that is this one
    long-apart : (t : List Point) → Contains all t → AreNear t other → (f : Edge) → (goes.stretch ≡ t → HaveSameEnds f (chord t)) → ¬ (HaveSameEnds e f) → ¬ (HaveSameEnds one other)
    long-apart t of_all near f if_same differ same = elim (clear-any all clear goes.stretch t goes.among of_all) [
      | inl one_stretch ↦ differ (same-both e f (chord t) (subst (λ (s : List Point). HaveSameEnds e (chord s)) one_stretch goes.turned) (if_same one_stretch))
      | inr clear_if ↦ one-sloped (clear-upright goes.stretch t one (clear_if (inl goes.long)) (long-ends all each clear e way goes one is) (near-same t one other same near))
    ]

    -- of another way along a stretch
    both-long : (f : Edge) (other_way : List Point) → GoesLong all f other_way → Contains (pieces other_way) other → ¬ (HaveSameEnds e f) → ¬ (HaveSameEnds one other)
    both-long f other_way second is_too differ = long-apart second.stretch second.among (near-ends second.stretch other (long-ends all each clear f other_way second other is_too)) f (λ _. second.turned) differ

    -- an edge that is placed
    long-alone : (other.x1 ≢ other.x0 → IsPlaced all other) → ¬ (HaveSameEnds e other) → ¬ (HaveSameEnds one other)
    long-alone placed differ same =
        let (t, of_all, near, if_long) = placed-near all each other (placed (same-sloped one other same one-sloped)) in
        long-apart t of_all near other (λ one_stretch. if_long (subst IsLong one_stretch goes.long)) differ same

  pub pieces-apart : (one other e f : Edge) (way other_way : List Point) → GoesAlong all e way → GoesAlong all f other_way → Contains (pieces way) one → Contains (pieces other_way) other → (e.x1 ≢ e.x0 → IsPlaced all e) → (f.x1 ≢ f.x0 → IsPlaced all f)
      → ¬ (HaveSameEnds e f) → ¬ (HaveSameEnds one other)
  pieces-apart one other e f way other_way goes goes_too is is_too placed placed_too differ = go (way-kind all each clear e way goes) (way-kind all each clear f other_way goes_too)
    where
      Placed : Edge → Type 0
      Placed g = g.x1 ≢ g.x0 → IsPlaced all g

      go : GoesLong all e way ⊎ GoesAlone all e way → GoesLong all f other_way ⊎ GoesAlone all f other_way → ¬ (HaveSameEnds one other)
      go (inl first) (inl second) same = both-long one other e way first is f other_way second is_too differ same
      go (inl first) (inr alone) same =
          let at = alone-piece all f other_way other alone is_too in
          long-alone one other e way first is (subst Placed at placed_too) (subst (λ (g : Edge). ¬ (HaveSameEnds e g)) at differ) same
      go (inr alone) (inl second) same =
          let at = alone-piece all e way one alone is in
          long-alone other one f other_way second is_too (subst Placed at placed) (λ back. subst (λ (g : Edge). ¬ (HaveSameEnds g f)) at differ (same-exchanged f one back)) (same-exchanged one other same)
      go (inr alone) (inr alone_too) same =
          let at = alone-piece all e way one alone is in
          let at_too = alone-piece all f other_way other alone_too is_too in
          differ (subst (λ (g : Edge). HaveSameEnds g f) (sym at) (subst (λ (g : Edge). HaveSameEnds one g) (sym at_too) same))

  -- ---- all pieces

  pub way-once : (edge : Edge) (way : List Point) → GoesAlong all edge way → AreDistinct (pieces way)
  way-once edge way goes = elim (way-kind all each clear edge way goes) [
    | inl long ↦ way-distinct way (long-rises all each clear edge way long)
    | inr alone ↦ subst AreDistinct (sym alone.is) single
  ]
    where
      single : AreDistinct (edge ∷ [])
      single i j d before within = absurd (omega (arith, before, within))

  -- no two pieces of the ways of distinct edges have the same ends
  pub distinct-widened : (edges : List Edge) (ways : List (List Point)) → AllZip (GoesAlong all) edges ways → AreDistinct edges → All (λ edge. edge.x1 ≢ edge.x0 → IsPlaced all edge) edges → AreDistinct (flat_map pieces ways)
  distinct-widened [] [] are distinct placed = AllPairs-nil Differ
    where
      Differ : Edge → Edge → Type 0
      Differ one other = ¬ (HaveSameEnds one other)
  distinct-widened [] (way ∷ ways) are distinct placed = absurd are
  distinct-widened (edge ∷ edges) [] are distinct placed = absurd are
  distinct-widened (edge ∷ edges) (way ∷ ways) (goes, are) distinct placed =
      AllPairs-append Differ (pieces way) (flat_map pieces ways) (way-once edge way goes)
      (distinct-widened edges ways are (AllPairs-tail Differ edge edges distinct) (All-tail Placed edge edges placed)) across
    where
      Differ : Edge → Edge → Type 0
      Differ one other = ¬ (HaveSameEnds one other)

      Placed : Edge → Type 0
      Placed g = g.x1 ≢ g.x0 → IsPlaced all g

      apart : (one other : Edge) → Contains (pieces way) one → Contains (flat_map pieces ways) other → ¬ (HaveSameEnds one other)
      apart one other here there =
          let found = piece-of all edges ways other are there in
          pieces-apart one other edge found.edge way found.way goes found.goes here found.is (All-head Placed edge edges placed) (All-contains Placed edges found.edge (All-tail Placed edge edges placed) found.among)
          (All-contains (Differ edge) edges found.edge (AllPairs-head Differ edge edges distinct) found.among)

      across : All (λ one. All (Differ one) (flat_map pieces ways)) (pieces way)
      across i d within j d' within_too = apart (get_or (pieces way) i d) (get_or (flat_map pieces ways) j d') (Contains-get_or (pieces way) i d within) (Contains-get_or (flat_map pieces ways) j d' within_too)
