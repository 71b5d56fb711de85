-- Polygons of the edges that bound what kept edges and the border of a window make.
use Rattle.std.proofs.Common.{◌≡◌, ◌≢◌, ◌∙◌, ◌++◌, ℕ, List, ap₂, drop, length, map, subst, sym, take}
use Rattle.std.proofs.Math.Seq.{drop-append_seam, take-append_seam}
use Rattle.std.specs.List.{All, Contains, flat_map}
use Rattle.std.proofs.lemmas.List.Elements.{All-contains_itself, All-weaker}
use Rattle.std.proofs.lemmas.List.Sorted.{Contains-permutation}
use Rattle.plane.specs.declared.edge.Edge.{Edge}
use Rattle.plane.specs.declared.point.Point.{Point}
use Rattle.plane.specs.Ends.{end_of, start_of}
use Rattle.overlay.specs.declared.fill.rules.FillRule.{FillRule}
use Rattle.overlay.specs.declared.fill.rules.Operation.{Operation}
use Rattle.overlay.specs.Boundary.{AreBroken, IsBoundary}
use Rattle.overlay.specs.Contours.Outlines.{AreOutlines, outline}
use Rattle.overlay.specs.Contours.Rings.{AreContours, ring_edges}
use Rattle.overlay.specs.Fill.Filled.{IsEndOfSloped, IsFilled}
use Rattle.overlay.specs.Nesting.{NestOnce, PolygonWindsOnce}
use Rattle.overlay.specs.OnePiece.{ShareAlongNoCircle}
use Rattle.overlay.specs.Overlay.{IsOverlay}
use Rattle.overlay.specs.Polygons.{BoundsSome, IsPolygon, rings_of}
use Rattle.overlay.specs.Rings.{real_edges}
use Rattle.overlay.specs.Sides.{AreBorders, KeepSides}
use Rattle.overlay.proofs.Callers.{HasSloped-next, HasSloped-permuted, bounds-nest, bounds-some, filled-bounds, map-joined, outlines-sloped, outlines-wind, polygons-overlay, real-all, rings-bound, winding-contours}
use Rattle.tiles.specs.Tile.{HasSlopedEnds, border}
use Rattle.tiles.specs.Window.{HasPoints}
use Rattle.tiles.specs.declared.window.Window.{Window}
use Rattle.tiles.proofs.Border.{border-ends}

-- ---- the kept edges, and the border behind them

module _ (window : Window) (some : HasPoints window) (kept both : List Edge) (count : ℕ) (count_is : count ≡ length kept) (both_is : both ≡ kept ++ ring_edges (border window)) where
  pub kept-first : take count both ≡ kept
  kept-first = ap₂ (λ (n : ℕ) (edges : List Edge). take n edges) count_is both_is ∙ take-append_seam kept (ring_edges (border window))

  pub border-behind : drop count both ≡ ring_edges (border window)
  border-behind = ap₂ (λ (n : ℕ) (edges : List Edge). drop n edges) count_is both_is ∙ drop-append_seam kept (ring_edges (border window))

  -- all of them are real ones
  pub kept-real : All (λ edge. start_of edge ≢ end_of edge) kept → take count both ≡ real_edges kept
  kept-real proper = kept-first ∙ sym (real-all kept proper)

  pub border-real : drop count both ≡ real_edges (ring_edges (border window))
  border-real =
      border-behind
      ∙ sym (real-all (ring_edges (border window)) (All-weaker (Contains (ring_edges (border window))) (λ edge. start_of edge ≢ end_of edge) (λ edge at. border-ends window edge some at) (ring_edges (border window)) (All-contains_itself (ring_edges (border window)))))

-- ---- polygons of what is made of them

module _ (rule : FillRule) (operation : Operation) (subject clip broken broken_clip edges : List Edge) (rings : List (List Point)) (are : AreBroken (real_edges subject) (real_edges clip) broken broken_clip)
    (filled : IsFilled rule operation broken broken_clip edges) (contours : AreContours edges rings) where
  -- the rings bound the result
  pub rings-boundary : IsBoundary rule operation (real_edges subject) (real_edges clip) rings
  rings-boundary = rings-bound rule operation (real_edges subject) (real_edges clip) edges rings (filled-bounds (real_edges subject) (real_edges clip) broken broken_clip are rule operation edges filled) contours

  -- and nest once, where they keep sides
  pub rings-nest : (AreBorders edges → KeepSides edges rings) → NestOnce rings
  rings-nest = bounds-nest rule operation (real_edges subject) (real_edges clip) edges (filled-bounds (real_edges subject) (real_edges clip) broken broken_clip are rule operation edges filled) rings contours

  -- so their edges bound something
  pub rings-some : BoundsSome (flat_map ring_edges rings)
  rings-some =
      bounds-some rule operation (real_edges subject) (real_edges clip) (flat_map ring_edges rings) rings-boundary.bounds
      (HasSloped-permuted (flat_map ring_edges rings) edges contours.all (HasSloped-next edges filled.vertical))

  module _ (whole : List (List (List Point))) (directed : All IsPolygon whole) (same : AreContours (flat_map ring_edges rings) (rings_of whole)) (each : All PolygonWindsOnce whole) (share : All ShareAlongNoCircle whole) where
    abbrev outlined : List (List (List Point))
    outlined = map (λ polygon. map outline polygon) whole

    -- polygons of them are an overlay
    pub cut-overlay : IsOverlay rule operation subject clip outlined
    cut-overlay = polygons-overlay rule operation subject clip (flat_map ring_edges rings) whole rings-boundary.bounds directed same each share

    -- each point of which is an end of an edge that isn't vertical
    pub cut-sloped : HasSlopedEnds edges outlined
    cut-sloped = record {
      noded = filled.noded;
      distinct = filled.distinct;
      winds = λ point. (outlines-here.winds point) ∙ winding-contours edges rings point contours;
      ends = subst (λ (all : List (List Point)). All (λ ring. All (λ p. IsEndOfSloped edges p.x p.y) ring) all) (sym (map-joined outline whole))
          (outlines-sloped edges (rings_of whole) filled.vertical
          (λ edge held. Contains-permutation (flat_map ring_edges rings) edges edge contours.all (Contains-permutation (flat_map ring_edges (rings_of whole)) (flat_map ring_edges rings) edge same.all held)));
    }
      where
        outlines-here : AreOutlines (flat_map ring_edges rings) (rings_of outlined)
        outlines-here = subst (AreOutlines (flat_map ring_edges rings)) (sym (map-joined outline whole)) (outlines-wind (flat_map ring_edges rings) (rings_of whole) same)
