-- Where the pieces of chords lie, and edges that are filled of them.
use Rattle.std.proofs.Common.{◌≡◌, ◌≢◌, ◌++◌, inl, inr, ⊎_elim, zero, suc, List, [], ◌∷◌, length, map, sym, ap, subst, arith}
use Rattle.std.specs.List.{All, AllPairs, AllZip, Contains, flat_map}
use Rattle.std.proofs.lemmas.Bool.{cases_lt}
use Rattle.std.proofs.lemmas.List.{map-append}
use Rattle.std.proofs.lemmas.List.Elements.{All-contains, Contains-append_cases, Contains-append_left, Contains-append_right, Contains-get_or}
use Rattle.i_tree.proofs.RootLemmas.Lists.{Contains-here, Contains-there}
use Rattle.plane.specs.declared.edge.Edge.{Edge}
use Rattle.plane.specs.declared.point.Point.{Point}
use Rattle.overlay.specs.Boundary.{AreBroken}
use Rattle.overlay.specs.declared.fill.rules.FillRule.{FillRule}
use Rattle.overlay.specs.declared.fill.rules.Operation.{Operation}
use Rattle.overlay.specs.Fill.Filled.{IsFilled}
use Rattle.noding.specs.Local.{IsNode, IsNodeChain}
use Rattle.plane.specs.Ends.{reversed}
use Rattle.noding.specs.Windings.{pieces}
use Rattle.monotone_chains.specs.Stretches.{IsLong, IsStretch, chord}
use Rattle.noding.proofs.ChainLemmas.Zips.{AllZip-flat_map}
use Rattle.noding.proofs.SnapLemmas.Noded.{IsPiece-along}
use Rattle.monotone_chains.proofs.StretchLemmas.Boxes.{ClearIfLong}
use Rattle.monotone_chains.proofs.StretchLemmas.Placed.{IsPlaced, LiesIn}
use Rattle.monotone_chains.proofs.StretchLemmas.Unbroken.{pieces-unbroken}

-- of a long stretch the one piece is its chord, of one of a single edge the pieces lie along it
abbrev pub ArePlaced : List Point → List Point → Type 0
ArePlaced s chain = (IsLong s → pieces chain ≡ chord s ∷ []) × ((¬ (IsLong s)) → All (LiesIn s) (pieces chain))

-- ---- the other way

pub LiesIn-reversed : (s : List Point) (edge : Edge) → LiesIn s (reversed edge) → LiesIn s edge
LiesIn-reversed s edge (from, to) = (to, from)

pub IsPlaced-reversed : (stretches : List (List Point)) (edge : Edge) → IsPlaced stretches (reversed edge) → IsPlaced stretches edge
IsPlaced-reversed stretches edge (inl (s, among, long, inl is)) = inl (s, among, long, inr (ap reversed is))
IsPlaced-reversed stretches edge (inl (s, among, long, inr is)) = inl (s, among, long, inl (ap reversed is))
IsPlaced-reversed stretches edge (inr (s, among, short, lies)) = inr (s, among, short, LiesIn-reversed s edge lies)

-- ---- chains

module _ (all : List (List Point)) (each : All IsStretch all) (clear : AllPairs ClearIfLong all) where
  pub pieces-lie : (t : List Point) → Contains all t → (chain : List Point) → IsNodeChain (map chord all) (chord t) chain → All (LiesIn t) (pieces chain)
  pieces-lie t among chain is k d within =
      let piece = IsPiece-along (IsNode (map chord all) (chord t)) (chord t) chain (λ x y node. node.1) is _ (Contains-get_or (pieces chain) k d within) in (
        piece.from_passes,
        piece.to_passes,
      )

  zip_placed : (some : List (List Point)) (chains : List (List Point)) → ((s : List Point) → Contains some s → Contains all s) → AllZip (IsNodeChain (map chord all)) (map chord some) chains → AllZip ArePlaced some chains
  zip_placed [] [] among are = tt
  zip_placed [] (chain ∷ chains) among are = absurd are
  zip_placed (s ∷ some) [] among are = absurd are
  zip_placed (s ∷ some) (chain ∷ chains) among (is, are) =
      let here = among s (Contains-here s some) in (
        (λ long. pieces-unbroken all each clear s here long chain is, λ short. pieces-lie s here chain is),
        zip_placed some chains (λ t later. among t (Contains-there s some t later)) are,
      )

  -- a piece of theirs is placed
  piece_placed : (some : List (List Point)) (chains : List (List Point)) → ((s : List Point) → Contains some s → Contains all s) → AllZip ArePlaced some chains → (edge : Edge) → Contains (flat_map pieces chains) edge → IsPlaced all edge
  piece_placed some chains among are edge held =
      let (s, chain, inside, (if_long, if_short), of) = AllZip-flat_map ArePlaced pieces some chains edge are held in
      ⊎_elim
      (λ long. inl (s, among s inside, long, inl (only (chord s) edge (subst (λ (edges : List Edge). Contains edges edge) (if_long long) of))))
      (λ upto. (let short : ¬ (IsLong s) = λ long. omega (arith, long, upto) in inr (s, among s inside, short, All-contains (LiesIn s) (pieces chain) edge (if_short short) of)))
      (cases_lt 2 (length s))
    where
      only : (one other : Edge) → Contains (one ∷ []) other → other ≡ one
      only one other (zero, within, is) = sym is
      only one other (suc k, within, is) = absurd (omega (arith, within))

-- ---- what the chords are broken into, and what is filled of it

module _ (stretches clip_stretches : List (List Point)) (each : All IsStretch (stretches ++ clip_stretches)) (clear : AllPairs ClearIfLong (stretches ++ clip_stretches)) (broken broken_clip : List Edge) (are : AreBroken (map chord stretches) (map chord clip_stretches) broken broken_clip) where
  one_map : map chord (stretches ++ clip_stretches) ≡ map chord stretches ++ map chord clip_stretches
  one_map = map-append chord stretches clip_stretches

  pub chains-placed : AllZip ArePlaced stretches are.chains
  chains-placed = zip_placed (stretches ++ clip_stretches) each clear stretches are.chains (Contains-append_left stretches clip_stretches)
      (subst (λ (edges : List Edge). AllZip (IsNodeChain edges) (map chord stretches) are.chains) (sym one_map) are.are)

  pub clip-placed : AllZip ArePlaced clip_stretches are.clip_chains
  clip-placed = zip_placed (stretches ++ clip_stretches) each clear clip_stretches are.clip_chains (Contains-append_right stretches clip_stretches)
      (subst (λ (edges : List Edge). AllZip (IsNodeChain edges) (map chord clip_stretches) are.clip_chains) (sym one_map) are.clip_are)

  pub broken-placed : (edge : Edge) → Contains (broken ++ broken_clip) edge → IsPlaced (stretches ++ clip_stretches) edge
  broken-placed edge held = ⊎_elim
      (λ first. piece_placed (stretches ++ clip_stretches) each clear stretches are.chains (Contains-append_left stretches clip_stretches) chains-placed edge (subst (λ (edges : List Edge). Contains edges edge) are.is first))
      (λ second. piece_placed (stretches ++ clip_stretches) each clear clip_stretches are.clip_chains (Contains-append_right stretches clip_stretches) clip-placed edge (subst (λ (edges : List Edge). Contains edges edge) are.clip_is second))
      (Contains-append_cases broken broken_clip edge held)

  -- each edge that is filled of it and isn't vertical
  pub filled-placed : (rule : FillRule) (operation : Operation) (edges : List Edge) → IsFilled rule operation broken broken_clip edges → All (λ edge. edge.x1 ≢ edge.x0 → IsPlaced (stretches ++ clip_stretches) edge) edges
  filled-placed rule operation edges filled k d within sloped =
      ⊎_elim (broken-placed _) (λ back. IsPlaced-reversed (stretches ++ clip_stretches) _ (broken-placed _ back)) (filled.sloped k d within sloped)
