-- Where edges along stretches begin that bound what is made of these: at hot points of the edges of subject and clip.
use Rattle.std.proofs.Common.{◌++◌, inl, inr, zero, suc, List, [], ◌∷◌, map, sym, ap, subst, arith}
use Rattle.std.specs.List.{All, AllPairs, AllZip, Contains, flat_map}
use Rattle.std.proofs.lemmas.List.{map-append}
use Rattle.std.proofs.lemmas.List.Elements.{All-contains, All-contains_itself, All-weaker}
use Rattle.i_tree.proofs.RootLemmas.Lists.{Contains-here, Contains-there}
use Rattle.plane.specs.declared.edge.Edge.{Edge}
use Rattle.plane.specs.declared.point.Point.{Point}
use Rattle.overlay.specs.declared.fill.rules.FillRule.{FillRule}
use Rattle.overlay.specs.declared.fill.rules.Operation.{Operation}
use Rattle.overlay.specs.Boundary.{AreBroken}
use Rattle.overlay.specs.Fill.Filled.{IsFilled}
use Rattle.overlay.proofs.BoundaryLemmas.Corners.{filled-corners}
use Rattle.overlay.proofs.GroupingLemmas.Bags.{Contains-in_flat_map}
use Rattle.noding.specs.Chains.{IsHot}
use Rattle.plane.specs.Ends.{edge_between, end_of, start_of}
use Rattle.noding.specs.Windings.{pieces}
use Rattle.noding.proofs.ChainLemmas.Zips.{AllZip-flat_map}
use Rattle.monotone_chains.specs.Stretches.{AreStretches, GoesAlong, IsStretch, chord}
use Rattle.monotone_chains.proofs.StretchLemmas.Boxes.{ClearIfLong}
use Rattle.monotone_chains.proofs.StretchLemmas.ChainsOf.{all-edges}
use Rattle.monotone_chains.proofs.StretchLemmas.Moved.{HasEndAmong, hot-among}
use Rattle.monotone_chains.proofs.StretchLemmas.NodedWays.{piece-points}
use Rattle.monotone_chains.proofs.StretchLemmas.Reverse.{Contains-reverse}

-- each of two points or more is an end of an edge along them
point_end : (from next : Point) (others : List Point) (p : Point) → Contains (from ∷ next ∷ others) p → HasEndAmong (pieces (from ∷ next ∷ others)) p.x p.y
point_end from next others p (zero, within, is) = (edge_between from next, Contains-here (edge_between from next) (pieces (next ∷ others)), inl (sym (ap (λ (q : Point). q.x) is), sym (ap (λ (q : Point). q.y) is)))
point_end from next others p (suc zero, within, is) = (edge_between from next, Contains-here (edge_between from next) (pieces (next ∷ others)), inr (sym (ap (λ (q : Point). q.x) is), sym (ap (λ (q : Point). q.y) is)))
point_end from next [] p (suc (suc k), within, is) = absurd (omega (arith, within))
point_end from next (third ∷ others) p (suc (suc k), within, is) =
    let (edge, held, end) = point_end next third others p (suc k, omega (arith, within), is) in
    (edge, Contains-there (edge_between from next) (pieces (next ∷ third ∷ others)) edge held, end)

stretch_end : (s : List Point) → IsStretch s → (p : Point) → Contains s p → HasEndAmong (pieces s) p.x p.y
stretch_end [] is p held = let some = is.some in absurd (omega (arith, some))
stretch_end (from ∷ []) is p held = let some = is.some in absurd (omega (arith, some))
stretch_end (from ∷ next ∷ others) is p held = point_end from next others p held

module _ (all : List (List Point)) (each : All IsStretch all) (clear : AllPairs ClearIfLong all) where
  abbrev edges : List Edge
  edges = flat_map pieces all

  -- so each point of a stretch is hot among all edges
  point_hot : (s : List Point) → Contains all s → (p : Point) → Contains s p → IsHot edges p.x p.y
  point_hot s among p held =
      let (edge, of_stretch, end) = stretch_end s (All-contains IsStretch all s each among) p held in
      inl (edge, Contains-in_flat_map pieces all s edge among of_stretch, end)

  -- and so is each start along the way of an edge that starts at a hot point
  way_hot : (edge : Edge) (way : List Point) → GoesAlong all edge way → IsHot edges edge.x0 edge.y0 → (piece : Edge) → Contains (pieces way) piece → IsHot edges piece.x0 piece.y0
  way_hot edge way (inl (is, inl among)) hot piece held = point_hot way among (start_of piece) (piece-points way piece held).0
  way_hot edge way (inl (is, inr among)) hot piece held = point_hot _ among (start_of piece) (Contains-reverse way (start_of piece) (piece-points way piece held).0)
  way_hot edge way (inr (is, none)) hot piece held = of_one (subst (λ (points : List Point). Contains (pieces points) piece) is held)
    where
      of_one : Contains (pieces (start_of edge ∷ end_of edge ∷ [])) piece → IsHot edges piece.x0 piece.y0
      of_one (zero, within, same) = subst (λ (e : Edge). IsHot edges e.x0 e.y0) same hot
      of_one (suc k, within, same) = absurd (omega (arith, within))

  -- so all edges along ways begin at hot points, where the chords' do
  ways_hot : (some : List Edge) (ways : List (List Point)) → AllZip (GoesAlong all) some ways → All (λ edge. IsHot (map chord all) edge.x0 edge.y0) some → All (λ edge. IsHot edges edge.x0 edge.y0) (flat_map pieces ways)
  ways_hot some ways go hot =
      All-weaker (Contains (flat_map pieces ways)) (λ edge. IsHot edges edge.x0 edge.y0) (λ piece held.
      let (edge, way, among, goes, inside) = AllZip-flat_map (GoesAlong all) pieces some ways piece go held in
      way_hot edge way goes (hot-among all each clear (start_of edge) (All-contains (λ (e : Edge). IsHot (map chord all) e.x0 e.y0) some edge hot among)) piece inside)
      (flat_map pieces ways) (All-contains_itself (flat_map pieces ways))

module _ (subject clip : List Edge) (stretches clip_stretches : List (List Point)) (cut : AreStretches subject clip stretches clip_stretches) (broken broken_clip : List Edge) (are : AreBroken (map chord stretches) (map chord clip_stretches) broken broken_clip) where
  pub widened-corners : (rule : FillRule) (operation : Operation) (edges : List Edge) → IsFilled rule operation broken broken_clip edges → (ways : List (List Point)) → AllZip (GoesAlong (stretches ++ clip_stretches)) edges ways
      → All (λ edge. IsHot (subject ++ clip) edge.x0 edge.y0) (flat_map pieces ways)
  widened-corners rule operation edges filled ways go =
      subst (λ (list : List Edge). All (λ edge. IsHot list edge.x0 edge.y0) (flat_map pieces ways)) (all-edges subject clip stretches clip_stretches cut)
      (ways_hot (stretches ++ clip_stretches) cut.each cut.clear edges ways go
      (subst (λ (list : List Edge). All (λ edge. IsHot list edge.x0 edge.y0) edges) (sym (map-append chord stretches clip_stretches))
      (filled-corners (map chord stretches) (map chord clip_stretches) broken broken_clip are rule operation edges filled)))
