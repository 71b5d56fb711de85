-- From the pieces of closed edges to the edges that bound the result, and to rings.
use Rattle.std.proofs.Common.{◌≡◌, ◌≢◌, ◌⊎◌, ◌++◌, inl, inr, Bool, true, false, ℤ, pos, List, ap, ap₂, sym, subst, ◌∙◌, refl}
use Rattle.std.specs.List.{All, Contains, flat_map}
use Rattle.std.proofs.lemmas.Grind.{flat_map-append}
use Rattle.std.proofs.lemmas.List.Elements.{All-contains, All-contains_itself, All-weaker, Contains-append_left, Contains-append_right}
use Rattle.std.proofs.lemmas.List.Sorted.{All-permutation, Contains-permutation, IsPermutation-sym}
use Rattle.i_tree.proofs.RootLemmas.Joined.{All-front, All-behind}
use Rattle.plane.specs.declared.edge.Edge.{Edge}
use Rattle.plane.specs.declared.point.Point.{Point}
use Rattle.plane.specs.Ends.{end_of, start_of}
use Rattle.plane.specs.Meet.Edges.{RationalPoint}
use Rattle.plane.proofs.PairsLemmas.Bags.{AllPairs-permutation}
use Rattle.overlay.specs.declared.fill.pieces.Piece.{Piece}
use Rattle.overlay.specs.declared.fill.rules.FillRule.{FillRule}
use Rattle.overlay.specs.declared.fill.rules.Operation.{Operation}
use Rattle.overlay.specs.Boundary.{AreBroken, BoundsResult, IsBoundary, IsPiece, WindsAsBroken, result_at}
use Rattle.overlay.specs.Contours.Rings.{AreContours, ring_edges}
use Rattle.overlay.specs.Fill.Filled.{AreNoded, HaveSameEnds, IsFilled}
use Rattle.overlay.specs.Fill.Rules.{is_result}
use Rattle.overlay.specs.Fill.Turned.{AreUnjoined, StandFor}
use Rattle.noding.specs.Chains.{IsHot}
use Rattle.noding.specs.Local.{IsExactAt}
use Rattle.noding.specs.Windings.{pieces, winding, IsClosed, count}
use Rattle.overlay.proofs.BoundaryLemmas.Broken.{all-chains}
use Rattle.overlay.proofs.BoundaryLemmas.Corners.{filled-corners}
use Rattle.overlay.proofs.BoundaryLemmas.Made.{filled-made}
use Rattle.overlay.proofs.BoundaryLemmas.TwoEnds.{filled-two_ends}
use Rattle.noding.proofs.Callers.{node-noded}
use Rattle.noding.proofs.SnapLemmas.Local.{noded-closed, noded-winding}
use Rattle.overlay.proofs.ContourLemmas.Callers.{winding-contours}
use Rattle.overlay.proofs.FillLemmas.Kept.{same-exchanged}

module _ (subject clip broken broken_clip : List Edge) (are : AreBroken subject clip broken broken_clip) where
  abbrev all : List Edge
  all = subject ++ clip

  -- the pieces of both meet only at common ends
  pub broken-noded : AreNoded (broken ++ broken_clip)
  broken-noded =
      subst AreNoded (sym (ap₂ (λ (one other : List Edge). one ++ other) are.is are.clip_is ∙ sym (flat_map-append pieces are.chains are.clip_chains)))
      (λ one other point first second of of_other. node-noded all (are.chains ++ are.clip_chains) (all-chains subject clip broken broken_clip are) one other point first second of of_other)

  -- the pieces of closed edges are closed
  pub broken-closed : IsClosed subject → IsClosed broken
  broken-closed closed = subst IsClosed (sym are.is) (noded-closed all subject are.chains (Contains-append_left subject clip) are.are closed)

  pub clip-closed : IsClosed clip → IsClosed broken_clip
  clip-closed closed = subst IsClosed (sym are.clip_is) (noded-closed all clip are.clip_chains (Contains-append_right subject clip) are.clip_are closed)

  -- so what stands for them can be filled
  pub broken-unjoined : IsClosed subject → IsClosed clip → (unjoined : List Piece) → StandFor broken broken_clip unjoined → AreUnjoined broken broken_clip unjoined
  broken-unjoined closed clip_too unjoined stand = record {
    closed = broken-closed closed;
    clip_closed = clip-closed clip_too;
    noded = broken-noded;
    stand = stand;
  }

  -- they wind as the edges do, where each edge isn't moved, or runs along an axis, or isn't near
  exact-subject : (point : RationalPoint) → All (IsExactAt all point) all → winding broken point ≡ winding subject point
  exact-subject point exactly =
      ap (λ (edges : List Edge). winding edges point) are.is
      ∙ noded-winding all subject are.chains (Contains-append_left subject clip) are.are point (All-front (IsExactAt all point) subject clip exactly)

  exact-clip : (point : RationalPoint) → All (IsExactAt all point) all → winding broken_clip point ≡ winding clip point
  exact-clip point exactly =
      ap (λ (edges : List Edge). winding edges point) are.clip_is
      ∙ noded-winding all clip are.clip_chains (Contains-append_right subject clip) are.clip_are point (All-behind (IsExactAt all point) subject clip exactly)

  -- what winds as their result does
  pub broken-exact : (rule : FillRule) (operation : Operation) (point : RationalPoint) → All (IsExactAt all point) all → result_at rule operation broken broken_clip point ≡ result_at rule operation subject clip point
  broken-exact rule operation point exactly = ap₂ (λ (a b : ℤ). count (is_result rule operation a b)) (exact-subject point exactly) (exact-clip point exactly)

  -- so what is filled of them bounds the result
  pub filled-bounds : (rule : FillRule) (operation : Operation) (edges : List Edge) → IsFilled rule operation broken broken_clip edges → BoundsResult rule operation subject clip edges
  filled-bounds rule operation edges filled = record {
    noded = filled.noded;
    distinct = filled.distinct;
    two_ends = filled-two_ends rule operation broken broken_clip edges filled;
    everywhere = (broken, broken_clip, are, filled.winds);
    corners = filled-corners subject clip broken broken_clip are rule operation edges filled;
    made = filled-made subject clip broken broken_clip are rule operation edges filled;
  }

-- ---- edges that bound a result

none_or_one : (t : Bool) → (count t ≡ pos 0) ⊎ (count t ≡ pos 1)
none_or_one true = inr refl
none_or_one false = inl refl

-- they wind once around a point, or not at all
pub winds-once : (rule : FillRule) (operation : Operation) (subject clip edges : List Edge) → WindsAsBroken rule operation subject clip edges → (point : RationalPoint) → (winding edges point ≡ pos 0) ⊎ (winding edges point ≡ pos 1)
winds-once rule operation subject clip edges (broken, broken_clip, are, winds) point =
    subst (λ (z : ℤ). (z ≡ pos 0) ⊎ (z ≡ pos 1)) (sym (winds point)) (none_or_one (is_result rule operation (winding broken point) (winding broken_clip point)))

-- and as the result, where each edge isn't moved, or runs along an axis, or isn't near
pub winds-exactly : (rule : FillRule) (operation : Operation) (subject clip edges : List Edge) → WindsAsBroken rule operation subject clip edges → (point : RationalPoint) → All (IsExactAt (subject ++ clip) point) (subject ++ clip)
    → winding edges point ≡ result_at rule operation subject clip point
winds-exactly rule operation subject clip edges (broken, broken_clip, are, winds) point exactly = winds point ∙ broken-exact subject clip broken broken_clip are rule operation point exactly

-- what winds as they do does so, too
pub winds-same : (rule : FillRule) (operation : Operation) (subject clip edges others : List Edge) → ((point : RationalPoint) → winding others point ≡ winding edges point) → WindsAsBroken rule operation subject clip edges
    → WindsAsBroken rule operation subject clip others
winds-same rule operation subject clip edges others same (broken, broken_clip, are, winds) = (broken, broken_clip, are, λ point. same point ∙ winds point)

-- the rings of edges that bound it do
pub rings-bound : (rule : FillRule) (operation : Operation) (subject clip edges : List Edge) (rings : List (List Point)) → BoundsResult rule operation subject clip edges → AreContours edges rings → IsBoundary rule operation subject clip rings
rings-bound rule operation subject clip edges rings bounds are = record {
  each = are.each;
  bounds = record {
    noded = λ one other point first second of of_other. bounds.noded one other point (inside one first) (inside other second) of of_other;
    distinct = AllPairs-permutation (λ one other. ¬ (HaveSameEnds one other)) (λ one other apart same. apart (same-exchanged other one same)) edges (flat_map ring_edges rings)
        (IsPermutation-sym (flat_map ring_edges rings) edges are.all) bounds.distinct;
    two_ends = All-permutation (λ edge. start_of edge ≢ end_of edge) edges (flat_map ring_edges rings) (IsPermutation-sym (flat_map ring_edges rings) edges are.all) bounds.two_ends;
    everywhere = winds-same rule operation subject clip edges (flat_map ring_edges rings) (λ point. winding-contours edges rings point are) bounds.everywhere;
    corners = All-weaker (Contains (flat_map ring_edges rings)) Begins (λ edge held. All-contains Begins edges edge bounds.corners (inside edge held)) (flat_map ring_edges rings) (All-contains_itself (flat_map ring_edges rings));
    made = All-weaker (Contains (flat_map ring_edges rings)) Made (λ edge held. All-contains Made edges edge bounds.made (inside edge held)) (flat_map ring_edges rings) (All-contains_itself (flat_map ring_edges rings));
  };
}
  where
    inside : (edge : Edge) → Contains (flat_map ring_edges rings) edge → Contains edges edge
    inside edge held = Contains-permutation (flat_map ring_edges rings) edges edge are.all held

    Begins : Edge → Type 0
    Begins edge = IsHot (subject ++ clip) edge.x0 edge.y0

    Made : Edge → Type 0
    Made edge = edge.x0 ≢ edge.x1 → IsPiece (subject ++ clip) edge
