-- Where edges that bound a result begin: at hot points of the edges given.
use Rattle.std.proofs.Common.{◌≡◌, ◌≢◌, ◌⊎◌, ◌++◌, inl, inr, ⊎_elim, ℤ, List, [], ◌∷◌, map, refl, sym, ◌∙◌, subst, arith}
use Rattle.std.specs.List.{All, AllZip, Contains, flat_map}
use Rattle.std.proofs.lemmas.Int.{by_lt_z, ints}
use Rattle.std.proofs.lemmas.List.Elements.{All-cons, All-contains, All-contains_itself, All-head, All-nil, All-tail, All-weaker, Contains-append_cases}
use Rattle.i_tree.proofs.RootLemmas.Joined.{All-behind, All-front}
use Rattle.plane.specs.declared.edge.Edge.{Edge}
use Rattle.plane.specs.declared.point.Point.{Point}
use Rattle.noding.specs.Chains.{IsEnd, IsHot}
use Rattle.noding.specs.Local.{IsNodeChain}
use Rattle.plane.specs.Ends.{end_of, reversed, start_of}
use Rattle.noding.specs.Windings.{pieces}
use Rattle.noding.proofs.ChainLemmas.Zips.{AllZip-flat_map}
use Rattle.noding.proofs.SnapLemmas.Noded.{ends-among}
use Rattle.overlay.specs.declared.fill.rules.FillRule.{FillRule}
use Rattle.overlay.specs.declared.fill.rules.Operation.{Operation}
use Rattle.overlay.specs.Boundary.{AreBroken}
use Rattle.overlay.specs.Contours.Outlines.{outline, ring_point}
use Rattle.overlay.specs.Contours.Rings.{ring_edges}
use Rattle.overlay.specs.Fill.Filled.{IsEndOfSloped, IsFilled, IsNextInColumn}
use Rattle.overlay.proofs.ContourLemmas.Bends.{All-bends}

-- ---- ends of edges

-- each end of an edge is one of an edge that isn't vertical
pub end-sloped : (edges : List Edge) → All (λ edge. edge.x1 ≡ edge.x0 → IsNextInColumn edges edge) edges → (edge : Edge) (x y : ℤ) → Contains edges edge → IsEnd edge x y → IsEndOfSloped edges x y
end-sloped edges vertical edge x y among end =
    by_lt_z edge.x0 edge.x1
    (λ less. (edge, among, (λ same. omega (arith, ints, less, same)), end))
    (λ upto. by_lt_z edge.x1 edge.x0
    (λ less. (edge, among, (λ same. omega (arith, ints, less, same)), end))
    (λ from. let same : edge.x1 ≡ edge.x0 = omega (arith, ints, upto, from) in stands (All-contains (λ e. e.x1 ≡ e.x0 → IsNextInColumn edges e) edges edge vertical among same) end))
  where
    stands : IsNextInColumn edges edge → IsEnd edge x y → IsEndOfSloped edges x y
    stands next (inl (at_x, at_y)) = subst (λ (a : ℤ). IsEndOfSloped edges a y) (sym at_x) (subst (λ (b : ℤ). IsEndOfSloped edges edge.x0 b) (sym at_y) next.from)
    stands next (inr (at_x, at_y)) = subst (λ (a : ℤ). IsEndOfSloped edges a y) (sym (at_x ∙ next.vertical)) (subst (λ (b : ℤ). IsEndOfSloped edges edge.x0 b) (sym at_y) next.to)

-- Both ends of the edge are hot.
abbrev HasHotEnds : List Edge → Edge → Type 0
HasHotEnds edges edge = IsHot edges edge.x0 edge.y0 × IsHot edges edge.x1 edge.y1

end_hot : (edges : List Edge) (edge : Edge) (x y : ℤ) → HasHotEnds edges edge → IsEnd edge x y → IsHot edges x y
end_hot edges edge x y hot (inl (at_x, at_y)) = subst (λ (a : ℤ). IsHot edges a y) (sym at_x) (subst (λ (b : ℤ). IsHot edges edge.x0 b) (sym at_y) hot.0)
end_hot edges edge x y hot (inr (at_x, at_y)) = subst (λ (a : ℤ). IsHot edges a y) (sym at_x) (subst (λ (b : ℤ). IsHot edges edge.x1 b) (sym at_y) hot.1)

-- ---- pieces, and what is filled of them

-- points of chains are hot
piece_hot : (all some : List Edge) (chains : List (List Point)) → AllZip (IsNodeChain all) some chains → (piece : Edge) → Contains (flat_map pieces chains) piece → HasHotEnds all piece
piece_hot all some chains are piece held =
    let (edge, chain, among, is, inside) = AllZip-flat_map (IsNodeChain all) pieces some chains piece are held in
    let (from, to) = ends-among chain piece inside in
    (((is.exact (start_of piece)).0 from).0, ((is.exact (end_of piece)).0 to).0)

module _ (subject clip broken broken_clip : List Edge) (are : AreBroken subject clip broken broken_clip) where
  abbrev all : List Edge
  all = subject ++ clip

  broken_hot : (piece : Edge) → Contains (broken ++ broken_clip) piece → HasHotEnds all piece
  broken_hot piece held = ⊎_elim
      (λ first. piece_hot all subject are.chains are.are piece (subst (λ (edges : List Edge). Contains edges piece) are.is first))
      (λ second. piece_hot all clip are.clip_chains are.clip_are piece (subst (λ (edges : List Edge). Contains edges piece) are.clip_is second))
      (Contains-append_cases broken broken_clip piece held)

  module _ (rule : FillRule) (operation : Operation) (edges : List Edge) (filled : IsFilled rule operation broken broken_clip edges) where
    -- an edge that isn't vertical is a piece, either way round
    sloped_hot : (edge : Edge) → Contains edges edge → edge.x1 ≢ edge.x0 → HasHotEnds all edge
    sloped_hot edge held sloped = ⊎_elim
        (λ piece. broken_hot edge piece)
        (λ back. (let (to, from) = broken_hot (reversed edge) back in (from, to)))
        (All-contains (λ e. e.x1 ≢ e.x0 → Contains (broken ++ broken_clip) e ⊎ Contains (broken ++ broken_clip) (reversed e)) edges edge filled.sloped held sloped)

    -- and a vertical one goes between ends of such edges
    pub filled-corners : All (λ edge. IsHot all edge.x0 edge.y0) edges
    filled-corners =
        All-weaker (Contains edges) (λ edge. IsHot all edge.x0 edge.y0) (λ edge held.
        let (other, among, sloped, end) = end-sloped edges filled.vertical edge edge.x0 edge.y0 held (inl (refl, refl)) in
        end_hot all other edge.x0 edge.y0 (sloped_hot other among sloped) end)
        edges (All-contains_itself edges)

-- ---- rings

-- what holds of the start of each edge along points holds of these
starts_hold : (P : Point → Type 0) (from : Point) (others : List Point) (to : Point) → All (λ edge. P (start_of edge)) (pieces (from ∷ (others ++ to ∷ []))) → All P (from ∷ others)
starts_hold P from [] to each = All-cons P from [] (All-head (λ (edge : Edge). P (start_of edge)) _ [] each) (All-nil P)
starts_hold P from (next ∷ others) to each =
    All-cons P from (next ∷ others)
    (All-head (λ (edge : Edge). P (start_of edge)) _ (pieces (next ∷ (others ++ to ∷ []))) each)
    (starts_hold P next others to (All-tail (λ (edge : Edge). P (start_of edge)) _ (pieces (next ∷ (others ++ to ∷ []))) each))

ring_holds : (P : Point → Type 0) (ring : List Point) → All (λ edge. P (start_of edge)) (ring_edges ring) → All P ring
ring_holds P [] each = All-nil P
ring_holds P (first ∷ others) each = starts_hold P first others first each

-- so what holds of the start of each edge of rings holds of the points of their outlines
pub outlines-hold : (P : Point → Type 0) (rings : List (List Point)) → All (λ edge. P (start_of edge)) (flat_map ring_edges rings) → All (All P) (map outline rings)
outlines-hold P [] each = All-nil (All P)
outlines-hold P (ring ∷ rings) each =
    All-cons (All P) (outline ring) (map outline rings)
    (All-bends P _ ring (ring_point ring 0) (ring_holds P ring (All-front (λ (edge : Edge). P (start_of edge)) (ring_edges ring) (flat_map ring_edges rings) each)))
    (outlines-hold P rings (All-behind (λ (edge : Edge). P (start_of edge)) (ring_edges ring) (flat_map ring_edges rings) each))

-- The points of outlines of edges that are filled are ends of such as aren't vertical.
pub outlines-sloped : (edges : List Edge) (rings : List (List Point)) → All (λ edge. edge.x1 ≡ edge.x0 → IsNextInColumn edges edge) edges → ((edge : Edge) → Contains (flat_map ring_edges rings) edge → Contains edges edge)
    → All (λ ring. All (λ p. IsEndOfSloped edges p.x p.y) ring) (map outline rings)
outlines-sloped edges rings vertical inside =
    outlines-hold (λ p. IsEndOfSloped edges p.x p.y) rings
    (All-weaker (Contains (flat_map ring_edges rings)) (λ edge. IsEndOfSloped edges edge.x0 edge.y0)
    (λ edge held. end-sloped edges vertical edge edge.x0 edge.y0 (inside edge held) (inl (refl, refl)))
    (flat_map ring_edges rings) (All-contains_itself (flat_map ring_edges rings)))
