-- Edges that bound a result and aren't vertical: each is a piece of an edge of subject or clip, one way or the other.
use Rattle.std.proofs.Common.{◌≢◌, ◌⊎◌, ◌++◌, inl, inr, ⊎_elim, List, sym, subst}
use Rattle.std.specs.List.{All, AllZip, Contains, flat_map}
use Rattle.std.proofs.lemmas.List.Elements.{All-contains, Contains-append_cases, Contains-append_left, Contains-append_right}
use Rattle.plane.specs.declared.edge.Edge.{Edge}
use Rattle.plane.specs.declared.point.Point.{Point}
use Rattle.plane.specs.Ends.{reversed}
use Rattle.noding.specs.Local.{IsNodeChain}
use Rattle.noding.specs.Windings.{pieces}
use Rattle.noding.proofs.ChainLemmas.Zips.{AllZip-flat_map}
use Rattle.overlay.specs.declared.fill.rules.FillRule.{FillRule}
use Rattle.overlay.specs.declared.fill.rules.Operation.{Operation}
use Rattle.overlay.specs.Boundary.{AreBroken, IsPiece}
use Rattle.overlay.specs.Fill.Filled.{IsFilled}
use Rattle.overlay.proofs.FillLemmas.Premises.{All-among}

-- what some of the edges are broken into are such pieces
pub chains-made : (all some : List Edge) (chains : List (List Point)) → ((edge : Edge) → Contains some edge → Contains all edge) → AllZip (IsNodeChain all) some chains → (piece : Edge) → Contains (flat_map pieces chains) piece → IsPiece all piece
chains-made all some chains among are piece held =
    let (edge, chain, inside, is, of) = AllZip-flat_map (IsNodeChain all) pieces some chains piece are held in (edge, chain, among edge inside, is, inl of)

-- and so is each from its end to its start
pub IsPiece-reversed : (all : List Edge) (edge : Edge) → IsPiece all (reversed edge) → IsPiece all edge
IsPiece-reversed all edge (one, chain, among, is, inl of) = (one, chain, among, is, inr of)
IsPiece-reversed all edge (one, chain, among, is, inr of) = (one, chain, among, is, inl of)

module _ (subject clip broken broken_clip : List Edge) (are : AreBroken subject clip broken broken_clip) where
  pub broken-made : (piece : Edge) → Contains (broken ++ broken_clip) piece → IsPiece (subject ++ clip) piece
  broken-made piece held = ⊎_elim
      (λ first. chains-made (subject ++ clip) subject are.chains (Contains-append_left subject clip) are.are piece (subst (λ (edges : List Edge). Contains edges piece) are.is first))
      (λ second. chains-made (subject ++ clip) clip are.clip_chains (Contains-append_right subject clip) are.clip_are piece (subst (λ (edges : List Edge). Contains edges piece) are.clip_is second))
      (Contains-append_cases broken broken_clip piece held)

  pub filled-made : (rule : FillRule) (operation : Operation) (edges : List Edge) → IsFilled rule operation broken broken_clip edges → All (λ edge. edge.x0 ≢ edge.x1 → IsPiece (subject ++ clip) edge) edges
  filled-made rule operation edges filled =
      All-among (λ (edge : Edge). edge.x0 ≢ edge.x1 → IsPiece (subject ++ clip) edge) edges
      (λ edge among sloped.
      ⊎_elim (broken-made edge) (λ back. IsPiece-reversed (subject ++ clip) edge (broken-made (reversed edge) back))
      (All-contains (λ (e : Edge). e.x1 ≢ e.x0 → Contains (broken ++ broken_clip) e ⊎ Contains (broken ++ broken_clip) (reversed e)) edges edge filled.sloped among (λ same. sloped (sym same))))
