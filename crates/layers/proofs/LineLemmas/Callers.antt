-- What a caller of clipped lines wants of the pieces, in a caller's words.
use Rattle.std.proofs.Common.{◌≡◌, ◌⊎◌, inl, inr, ◌++◌, [], ◌∷◌, List, refl, subst, sym}
use Rattle.std.specs.List.{All, AllZip, flat_map}
use Rattle.std.proofs.lemmas.List.Elements.{All-head, All-tail}
use Rattle.plane.specs.declared.edge.Edge.{Edge}
use Rattle.plane.specs.declared.point.Point.{Point}
use Rattle.overlay.specs.Contours.Rings.{real_edges}
use Rattle.noding.specs.Chains.{AreChains, IsChain}
use Rattle.noding.specs.Windings.{pieces}
use Rattle.overlay.proofs.BoundaryLemmas.Broken.{zip-append}
use Rattle.layers.specs.Lines.{AreBrokenTogether, AreRuns, all_edges, line_edges}

-- ---- all edges are broken together

-- The chains of the lines' edges and of the rings' are those of all edges: so what `noding::snap` tells of chains holds of them.
pub all-chains : (lines : List (List Point)) (rings : List Edge) (broken : List (List Edge)) (broken_rings : List Edge) (are : AreBrokenTogether lines rings broken broken_rings)
    → AreChains (all_edges lines rings) (flat_map (λ of_line. of_line) are.chains ++ are.ring_chains)
all-chains lines rings broken broken_rings are =
    zip-append Is (flat_map line_edges lines) (real_edges rings) (flat_map (λ of_line. of_line) are.chains) are.ring_chains (flat lines are.chains are.are) are.rings_are
  where
    Is : Edge → List Point → Type 0
    Is = IsChain (all_edges lines rings)

    flat : (some : List (List Point)) (chains : List (List (List Point))) → AllZip (λ line of_line. AllZip Is (line_edges line) of_line) some chains → AllZip Is (flat_map line_edges some) (flat_map (λ of_line. of_line) chains)
    flat [] [] zip = tt
    flat (line ∷ some) (of_line ∷ chains) zip = zip-append Is (line_edges line) (flat_map line_edges some) of_line (flat_map (λ one. one) chains) zip.0 (flat some chains zip.1)
    flat [] (of_line ∷ chains) zip = absurd zip
    flat (line ∷ some) [] zip = absurd zip

-- ---- the pieces have just the edges that are kept

-- Those of the edges that are kept, in order.
abbrev pub AreKept : (Edge → Type 0) → List Edge → List Edge → Type 0
AreKept Kept [] some = some ≡ []
AreKept Kept (edge ∷ edges) some = (¬ (Kept edge)) × AreKept Kept edges some ⊎ Kept edge × ((others : List Edge) × (some ≡ edge ∷ others) × AreKept Kept edges others)

module _ (Kept : Edge → Type 0) where
  behind-left : (before edges some : List Edge) → All (λ edge. ¬ (Kept edge)) before → AreKept Kept edges some → AreKept Kept (before ++ edges) some
  behind-left [] edges some left are = are
  behind-left (edge ∷ before) edges some left are =
      inl (All-head (λ e. ¬ (Kept e)) edge before left, behind-left before edges some (All-tail (λ e. ¬ (Kept e)) edge before left) are)

  behind-kept : (before edges some : List Edge) → All Kept before → AreKept Kept edges some → AreKept Kept (before ++ edges) (before ++ some)
  behind-kept [] edges some kept are = are
  behind-kept (edge ∷ before) edges some kept are =
      inr (All-head Kept edge before kept, (before ++ some, refl, behind-kept before edges some (All-tail Kept edge before kept) are))

  none-left : (edges : List Edge) → All (λ edge. ¬ (Kept edge)) edges → AreKept Kept edges []
  none-left [] left = refl
  none-left (edge ∷ edges) left = inl (All-head (λ e. ¬ (Kept e)) edge edges left, none-left edges (All-tail (λ e. ¬ (Kept e)) edge edges left))

  -- The edges of the runs, one run after another, are those that are kept.
  pub runs-kept : (edges : List Edge) (runs : List (List Point)) → AreRuns Kept edges runs → AreKept Kept edges (flat_map pieces runs)
  runs-kept edges [] left = none-left edges left
  runs-kept edges (run ∷ runs) (before, after, is, later) =
      subst (λ (list : List Edge). AreKept Kept list (pieces run ++ flat_map pieces runs)) (sym is.is)
      (behind-left before (pieces run ++ after) (pieces run ++ flat_map pieces runs) is.left_out
      (behind-kept (pieces run) after (flat_map pieces runs) is.kept (runs-kept after runs later)))
