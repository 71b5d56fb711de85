-- The edges kept bound a region, and with the vertical edges they are the fill.
use Rattle.std.proofs.Common.{◌≡◌, ◌≢◌, ◌⊎◌, ◌++◌, [], ◌∷◌, inl, inr, Bool, true, false, ℤ, pos, List, refl, ap, ap₂, sym, subst, ◌∙◌}
use Rattle.std.specs.List.{Contains}
use Rattle.std.proofs.lemmas.List.Elements.{All-append, All-weaker}
use Rattle.plane.specs.declared.edge.Edge.{Edge}
use Rattle.plane.specs.Meet.Edges.{RationalPoint}
use Rattle.overlay.specs.declared.fill.pieces.Piece.{Piece}
use Rattle.overlay.specs.declared.fill.rules.FillRule.{FillRule}
use Rattle.overlay.specs.declared.fill.rules.Operation.{Operation}
use Rattle.overlay.specs.Fill.Counts.{Counts, kept_edge, kept_edges}
use Rattle.overlay.specs.Fill.Filled.{IsFilled, IsNextInColumn}
use Rattle.overlay.specs.Fill.Rules.{is_result}
use Rattle.overlay.specs.Fill.Sweep.{AreFillPieces, kept_of}
use Rattle.overlay.specs.Fill.Turned.{AreSloped}
use Rattle.overlay.specs.Fill.Verticals.{AreVerticalsOf, BoundRegion}
use Rattle.plane.specs.Ends.{reversed}
use Rattle.noding.specs.Windings.{winding, count}
use Rattle.overlay.proofs.FillLemmas.Callers.{kept-distinct, kept-high, kept-noded, kept-of, kept-onwards, kept-winds}
use Rattle.overlay.proofs.FillLemmas.Premises.{All-among}
use Rattle.overlay.proofs.VerticalLemmas.Sloped.{result-alone}
use Rattle.overlay.proofs.KeptLemmas.Below.{above-edges, below-edges}

-- the edges kept by the counts over the pieces are those kept by the counts over the edges
kept-edges : (inside : Counts → Bool) (pieces : List Piece) (fill : AreFillPieces pieces) (some : List Piece) → kept_of inside pieces some ≡ kept_edges inside fill.subject fill.clip some
kept-edges inside pieces fill [] = refl
kept-edges inside pieces fill (piece ∷ some) =
    ap₂ (λ (below above : Counts). kept_edge (inside below) (inside above) piece.edge (kept_of inside pieces some)) (below-edges pieces fill piece) (above-edges pieces fill piece)
    ∙ ap (kept_edge _ _ piece.edge) (kept-edges inside pieces fill some)

none_or_one : (t : Bool) → (count t ≡ pos 0) ⊎ (count t ≡ pos 1)
none_or_one true = inr refl
none_or_one false = inl refl

module _ (rule : FillRule) (operation : Operation) (pieces : List Piece) (fill : AreFillPieces pieces) where
  abbrev inside : Counts → Bool
  inside counts = is_result rule operation counts.subject counts.clip

  abbrev subject : List Edge
  subject = fill.subject

  abbrev clip : List Edge
  clip = fill.clip

  abbrev kept : List Edge
  kept = kept_of inside pieces pieces

  are_edges : kept ≡ kept_edges inside subject clip pieces
  are_edges = kept-edges inside pieces fill pieces

  region : BoundRegion (kept_edges inside subject clip pieces)
  region =
      let high = kept-high subject clip fill.closed fill.clip_closed fill.noded pieces fill.are rule operation in record {
        slanted = All-among (λ edge. edge.x1 ≢ edge.x0) (kept_edges inside subject clip pieces) (kept-onwards subject clip fill.closed fill.clip_closed fill.noded pieces fill.are inside);
        noded = kept-noded subject clip fill.closed fill.clip_closed fill.noded pieces fill.are inside;
        distinct = kept-distinct subject clip fill.closed fill.clip_closed fill.noded pieces fill.are inside;
        winds = λ point. once point;
        bound = high.0;
        outside = high.1;
      }
    where
      once : (point : RationalPoint) → (winding (kept_edges inside subject clip pieces) point ≡ pos 0) ⊎ (winding (kept_edges inside subject clip pieces) point ≡ pos 1)
      once point =
          subst (λ (z : ℤ). (z ≡ pos 0) ⊎ (z ≡ pos 1)) (sym (kept-winds subject clip fill.closed fill.clip_closed fill.noded pieces fill.are rule operation point))
          (none_or_one (is_result rule operation (winding subject point) (winding clip point)))

  pub kept-region : BoundRegion kept
  kept-region = subst BoundRegion (sym are_edges) region

  -- they wind as the result
  pub kept-result : (point : RationalPoint) → winding kept point ≡ count (is_result rule operation (winding subject point) (winding clip point))
  kept-result point = ap (λ (edges : List Edge). winding edges point) are_edges ∙ kept-winds subject clip fill.closed fill.clip_closed fill.noded pieces fill.are rule operation point

  -- where no edge of subject and clip is vertical, they are closed
  pub kept-alone : AreSloped subject → AreSloped clip → AreVerticalsOf kept []
  kept-alone sloped clip_sloped = result-alone kept subject clip kept-region fill.closed fill.clip_closed sloped clip_sloped (λ (a b : ℤ). count (is_result rule operation a b)) kept-result

  pub kept-filled : (verticals : List Edge) → AreVerticalsOf kept verticals → IsFilled rule operation subject clip (kept ++ verticals)
  kept-filled verticals are = record {
    winds = λ point. are.winds point ∙ kept-result point;
    closed = are.closed;
    noded = are.noded;
    distinct = are.distinct;
    sloped = All-append IsOfEdges kept verticals
        (All-among IsOfEdges kept (λ edge held slanted. kept-of subject clip fill.closed fill.clip_closed fill.noded pieces fill.are inside edge (subst (λ (edges : List Edge). Contains edges edge) are_edges held)))
        (All-weaker (IsNextInColumn (kept ++ verticals)) IsOfEdges (λ edge next slanted. absurd (slanted next.vertical)) verticals are.next);
    vertical = All-append IsNext kept verticals
        (All-among IsNext kept (λ edge held vertical. absurd (kept-onwards subject clip fill.closed fill.clip_closed fill.noded pieces fill.are inside edge (subst (λ (edges : List Edge). Contains edges edge) are_edges held) vertical)))
        (All-weaker (IsNextInColumn (kept ++ verticals)) IsNext (λ edge next vertical. next) verticals are.next);
  }
    where
      IsOfEdges : Edge → Type 0
      IsOfEdges edge = edge.x1 ≢ edge.x0 → Contains (subject ++ clip) edge ⊎ Contains (subject ++ clip) (reversed edge)

      IsNext : Edge → Type 0
      IsNext edge = edge.x1 ≡ edge.x0 → IsNextInColumn (kept ++ verticals) edge
