-- Edges along stretches that bound what is made of these and aren't vertical: each is a piece of an edge of subject or clip, one
-- way or the other.
use Rattle.std.proofs.Common.{◌≡◌, ◌≢◌, ◌⊎◌, ◌++◌, inl, inr, ⊎_elim, zero, suc, List, [], ◌∷◌, length, map, reverse, sym, ap, ◌∙◌, subst, arith}
use Rattle.std.specs.List.{All, AllPairs, AllZip, Contains, flat_map}
use Rattle.std.proofs.lemmas.Bool.{cases_lt}
use Rattle.std.proofs.lemmas.List.{map-append}
use Rattle.std.proofs.lemmas.List.Elements.{All-contains, Contains-append_cases}
use Rattle.i_tree.proofs.RootLemmas.Lists.{Contains-here, Contains-there}
use Rattle.plane.specs.declared.edge.Edge.{Edge}
use Rattle.plane.specs.declared.point.Point.{Point}
use Rattle.plane.specs.Ends.{edge_between, reversed}
use Rattle.plane.proofs.PairsLemmas.Bags.{Contains-from_map}
use Rattle.noding.specs.Local.{IsNodeChain}
use Rattle.noding.specs.Windings.{pieces}
use Rattle.overlay.specs.declared.fill.rules.FillRule.{FillRule}
use Rattle.overlay.specs.declared.fill.rules.Operation.{Operation}
use Rattle.overlay.specs.Boundary.{AreBroken, IsPiece}
use Rattle.overlay.specs.Fill.Filled.{HaveSameEnds, IsFilled}
use Rattle.overlay.proofs.BoundaryLemmas.Made.{IsPiece-reversed, filled-made}
use Rattle.overlay.proofs.FillLemmas.Premises.{All-among}
use Rattle.overlay.proofs.GroupingLemmas.Bags.{Contains-in_flat_map}
use Rattle.monotone_chains.specs.Stretches.{AreStretches, GoesAlong, IsLong, IsStretch, chord}
use Rattle.monotone_chains.proofs.StretchLemmas.Boxes.{ClearIfLong}
use Rattle.monotone_chains.proofs.StretchLemmas.ChainsOf.{all-edges, ends_of, long-chain}
use Rattle.monotone_chains.proofs.StretchLemmas.Noded.{alone-piece, piece-of}
use Rattle.monotone_chains.proofs.StretchLemmas.NodedKinds.{way-kind}
use Rattle.monotone_chains.proofs.StretchLemmas.Nodes.{single-chain}
use Rattle.monotone_chains.proofs.StretchLemmas.Turned.{pieces-turned}
use Rattle.monotone_chains.proofs.StretchLemmas.Unbroken.{pieces-unbroken}
use Rattle.monotone_chains.proofs.StretchLemmas.Wound.{single-pieces}

-- what is among one edge alone is this edge
only : (one edge : Edge) → Contains (one ∷ []) edge → one ≡ edge
only one edge (zero, within, is) = is
only one edge (suc k, within, is) = absurd (omega (arith, within))

-- a piece of points that are turned is one of these, from its end to its start
piece-turned : (points : List Point) (piece : Edge) → Contains (pieces (reverse points)) piece → Contains (pieces points) (reversed piece)
piece-turned [] piece (k, within, is) = absurd (omega (arith, within))
piece-turned (from ∷ []) piece (k, within, is) = absurd (omega (arith, within))
piece-turned (from ∷ to ∷ others) piece held = ⊎_elim
    (λ first. Contains-there (edge_between from to) (pieces (to ∷ others)) (reversed piece) (piece-turned (to ∷ others) piece first))
    (λ last. subst (Contains (pieces (from ∷ to ∷ others))) (ap reversed (only (edge_between to from) piece last)) (Contains-here (edge_between from to) (pieces (to ∷ others))))
    (Contains-append_cases (pieces (reverse (to ∷ others))) (edge_between to from ∷ []) piece (subst (λ (edges : List Edge). Contains edges piece) (pieces-turned from to others) held))

module _ (all : List (List Point)) (each : All IsStretch all) (clear : AllPairs ClearIfLong all) where
  abbrev edges : List Edge
  edges = flat_map pieces all

  -- each edge of a long stretch is a piece of itself
  long-made : (s : List Point) → Contains all s → IsLong s → (edge : Edge) → Contains (pieces s) edge → IsPiece edges edge
  long-made s among long edge held = (edge, ends_of edge, Contains-in_flat_map pieces all s edge among held, long-chain all each clear s among long edge held, inl (Contains-here edge []))

  -- and a piece of a chord that has the ends of no long one is a piece of a single edge
  single-made : (edge : Edge) → ((t : List Point) → Contains all t → IsLong t → ¬ (HaveSameEnds edge (chord t))) → IsPiece (map chord all) edge → IsPiece edges edge
  single-made edge none (one, chain, among, is, of) =
      let (t, inside, same) = Contains-from_map chord all one among in
      let is_chain : IsNodeChain (map chord all) (chord t) chain = subst (λ (e : Edge). IsNodeChain (map chord all) e chain) (sym same) is in
      elim (cases_lt 2 (length t)) [
        | inl long ↦ absurd (none t inside long (of_chord t (pieces-unbroken all each clear t inside long chain is_chain) of))
        | inr upto ↦ let short : ¬ (IsLong t) = λ long. omega (arith, long, upto) in (chord t, chain, held t inside short, single-chain all each clear t inside short chain is_chain, of)
      ]
    where
      of_chord : (t : List Point) → pieces chain ≡ chord t ∷ [] → Contains (pieces chain) edge ⊎ Contains (pieces chain) (reversed edge) → HaveSameEnds edge (chord t)
      of_chord t alone (inl first) = inl (sym (only (chord t) edge (subst (λ (list : List Edge). Contains list edge) alone first)))
      of_chord t alone (inr back) = inr (ap reversed (sym (only (chord t) (reversed edge) (subst (λ (list : List Edge). Contains list (reversed edge)) alone back))))

      held : (t : List Point) → Contains all t → ¬ (IsLong t) → Contains edges (chord t)
      held t inside short =
          Contains-in_flat_map pieces all t (chord t) inside
          (subst (λ (list : List Edge). Contains list (chord t)) (sym (single-pieces t (All-contains IsStretch all t each inside) short)) (Contains-here (chord t) []))

  -- so the pieces of the way of an edge are, where the edge is a piece of a chord, unless it is vertical
  way-made : (edge : Edge) (way : List Point) → GoesAlong all edge way → (edge.x0 ≢ edge.x1 → IsPiece (map chord all) edge) → (piece : Edge) → Contains (pieces way) piece → piece.x0 ≢ piece.x1 → IsPiece edges piece
  way-made edge way goes made piece held sloped = elim (way-kind all each clear edge way goes) [
    | inl long ↦ ⊎_elim
        (λ same. long-made long.stretch long.among long.long piece (subst (λ (points : List Point). Contains (pieces points) piece) same held))
        (λ back. IsPiece-reversed edges piece (long-made long.stretch long.among long.long (reversed piece) (piece-turned long.stretch piece (subst (λ (points : List Point). Contains (pieces points) piece) back held))))
        long.along
    | inr alone ↦
        let same = alone-piece all edge way piece alone held in
        subst (IsPiece edges) same (single-made edge alone.other (made (λ level. sloped (sym (ap (λ (e : Edge). e.x0) same) ∙ level ∙ ap (λ (e : Edge). e.x1) same))))
  ]

  -- and those of the ways of edges
  ways-made : (some : List Edge) (ways : List (List Point)) → AllZip (GoesAlong all) some ways → All (λ edge. edge.x0 ≢ edge.x1 → IsPiece (map chord all) edge) some → All (λ edge. edge.x0 ≢ edge.x1 → IsPiece edges edge) (flat_map pieces ways)
  ways-made some ways go made =
      All-among (λ (piece : Edge). piece.x0 ≢ piece.x1 → IsPiece edges piece) (flat_map pieces ways)
      (λ piece among.
      let found = piece-of all some ways piece go among in
      way-made found.edge found.way found.goes (All-contains (λ (edge : Edge). edge.x0 ≢ edge.x1 → IsPiece (map chord all) edge) some found.edge made found.among) piece found.is)

module _ (subject clip : List Edge) (stretches clip_stretches : List (List Point)) (cut : AreStretches subject clip stretches clip_stretches) (broken broken_clip : List Edge) (are : AreBroken (map chord stretches) (map chord clip_stretches) broken broken_clip) where
  pub widened-made : (rule : FillRule) (operation : Operation) (edges : List Edge) → IsFilled rule operation broken broken_clip edges → (ways : List (List Point)) → AllZip (GoesAlong (stretches ++ clip_stretches)) edges ways
      → All (λ edge. edge.x0 ≢ edge.x1 → IsPiece (subject ++ clip) edge) (flat_map pieces ways)
  widened-made rule operation edges filled ways go =
      subst (λ (list : List Edge). All (λ edge. edge.x0 ≢ edge.x1 → IsPiece list edge) (flat_map pieces ways)) (all-edges subject clip stretches clip_stretches cut)
      (ways-made (stretches ++ clip_stretches) cut.each cut.clear edges ways go
      (subst (λ (list : List Edge). All (λ edge. edge.x0 ≢ edge.x1 → IsPiece list edge) edges) (sym (map-append chord stretches clip_stretches))
      (filled-made (map chord stretches) (map chord clip_stretches) broken broken_clip are rule operation edges filled)))
