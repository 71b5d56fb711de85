-- Edges that are sheared widely: none is vertical, and the first of them goes the way of the first edge that wasn't vertical.
use Rattle.std.proofs.Common.{◌≡◌, ◌≢◌, ◌+◌, ◌<◌, ℕ, ◌≤ℤ◌, List, Option, Some, None, map, ap, sym, subst, ◌∙◌}
use Rattle.std.specs.Int.Signed.{lt_z}
use Rattle.std.specs.List.{All, Contains}
use Rattle.std.proofs.lemmas.List.Elements.{All-contains}
use Rattle.plane.specs.declared.edge.Edge.{Edge}
use Rattle.plane.specs.Ends.{end_of, start_of}
use Rattle.plane.specs.SweepLine.Heights.{rightwards, rise, run}
use Rattle.plane.proofs.PairsLemmas.Bags.{Contains-from_map, Contains-map}
use Rattle.noding.specs.Windings.{IsClosed}
use Rattle.overlay.specs.Fill.Begins.{BeginsUpto}
use Rattle.overlay.specs.Fill.Filled.{AreDistinct, AreNoded}
use Rattle.overlay.specs.Polygons.{first_sloped, runs_rightwards}
use Rattle.overlay.proofs.AreaLemmas.First.{not-steepest}
use Rattle.overlay.proofs.AreaLemmas.Sheared.{AreDistinct-sheared, AreNoded-sheared}
use Rattle.overlay.specs.Sides.{IsLow, sheared_edge}
use Rattle.overlay.proofs.AreaLemmas.Wide.{begins-sheared, flat-rightwards, runs-sheared, sloped-sheared, upright-rightwards}
use Rattle.overlay.proofs.GroupingLemmas.Begins.{IsFirst, Told, told-all}
use Rattle.overlay.proofs.GroupingLemmas.Outlined.{same-one}
use Rattle.overlay.proofs.KeptLemmas.First.{turned-meet, turned-same}
use Rattle.overlay.proofs.PieceLemmas.Made.{alike, rightwards-onwards}

module _ (edges : List Edge) (two_ends : All (λ edge. start_of edge ≢ end_of edge) edges) (n b : ℕ) (wide : b + b < n) (low : All (IsLow b) edges) where
  abbrev slanted : List Edge
  slanted = map (sheared_edge n) edges

  -- each of the edges is low
  is-low : (edge : Edge) → Contains edges edge → IsLow b edge
  is-low edge among = All-contains (IsLow b) edges edge low among

  -- and has two ends
  has-ends : (edge : Edge) → Contains edges edge → start_of edge ≢ end_of edge
  has-ends edge among = All-contains (λ (e : Edge). start_of e ≢ end_of e) edges edge two_ends among

  -- what holds of each sheared edge
  each : (P : Edge → Type 0) → ((edge : Edge) → Contains edges edge → P (sheared_edge n edge)) → (edge : Edge) → Contains slanted edge → P edge
  each P holds edge among = let (before, inside, is) = Contains-from_map (sheared_edge n) edges edge among in subst P is (holds before inside)

  -- none is vertical
  pub slanted-sloped : (edge : Edge) → Contains (map (sheared_edge n) edges) edge → edge.x0 ≢ edge.x1
  slanted-sloped = each (λ edge. edge.x0 ≢ edge.x1) (λ edge inside. sloped-sheared n b wide edge (is-low edge inside) (has-ends edge inside))

  -- and none is steeper than the way that is up and right alike
  slanted-flat : (edge : Edge) → Contains (map (sheared_edge n) edges) edge → rise (rightwards edge) ≤ℤ run (rightwards edge)
  slanted-flat = each (λ edge. rise (rightwards edge) ≤ℤ run (rightwards edge)) (λ edge inside. flat-rightwards n b wide edge (is-low edge inside) (has-ends edge inside))

  module _ (some : 0 < n) (noded : AreNoded edges) (distinct : AreDistinct edges) (closed : IsClosed (map (sheared_edge n) edges)) where
    -- the edge that is the first one, once it is sheared, wasn't vertical
    first-sloped : (edge : Edge) → IsFirst slanted (sheared_edge n edge) → edge.x0 ≢ edge.x1
    first-sloped edge is vertical =
        not-steepest slanted closed slanted-sloped (sheared_edge n edge) is (AreNoded-sheared n some edges noded) (AreDistinct-sheared n some edges distinct) slanted-flat
        (upright-rightwards n edge vertical)

    -- so it was the first one of those that aren't vertical
    same-first : (edge : Edge) → Contains edges edge → IsFirst slanted (sheared_edge n edge) → (best : Option Edge) → Told edges best → best ≡ Some edge
    same-first edge inside is None told = absurd (told edge inside (λ same. first-sloped edge is (sym same)))
    same-first edge inside is (Some best) told =
        let sloped = first-sloped edge is in
        let sloped_best : best.x0 ≢ best.x1 = λ same. told.sloped (sym same) in
        let among = Contains-map (sheared_edge n) edges best told.among in
        let upto : BeginsUpto (rightwards edge) (rightwards best) =
        begins-sheared n b wide edge best (is-low edge inside) (is-low best told.among) sloped sloped_best
        (is.begins (sheared_edge n best) among (λ same. slanted-sloped (sheared_edge n best) among (sym same))) in
        let back : BeginsUpto (rightwards best) (rightwards edge) = told.begins edge inside (λ same. sloped (sym same)) in
        ap (λ (e : Edge). Some e)
        (same-one edges best edge distinct told.among inside
        (turned-same best edge
        (alike (rightwards best) (rightwards edge) (turned-meet edges noded best edge told.among inside) (rightwards-onwards best sloped_best) (rightwards-onwards edge sloped) back upto)))

    -- The first of the sheared ones is the sheared edge by which a ring's direction is told, which isn't vertical.
    pub slanted-first : (first : Edge) → IsFirst (map (sheared_edge n) edges) first → (edge : Edge) × Contains edges edge × (first_sloped None edges ≡ Some edge) × (edge.x0 ≢ edge.x1) × (sheared_edge n edge ≡ first)
    slanted-first first is =
        let (edge, inside, at) = Contains-from_map (sheared_edge n) edges first is.among in
        let is_too = subst (λ (e : Edge). IsFirst slanted e) (sym at) is in
        (edge, inside, same-first edge inside is_too (first_sloped None edges) (told-all edges), first-sloped edge is_too, at)

    -- and goes the same way
    pub slanted-runs : (first : Edge) → IsFirst (map (sheared_edge n) edges) first → runs_rightwards (first_sloped None edges) ≡ lt_z first.x0 first.x1
    slanted-runs first is =
        let (edge, inside, best, sloped, at) = slanted-first first is in
        ap (λ (e : Option Edge). runs_rightwards e) best ∙ sym (runs-sheared n b wide edge (is-low edge inside) sloped) ∙ ap (λ (e : Edge). lt_z e.x0 e.x1) at
