-- What is made of edges that bound a result and are cut at the border of a window.
use Rattle.std.proofs.Common.{Bool, true, false, cond, ◌&&◌, ◌≡◌, ◌≢◌, ◌⊎◌, inl, inr, ⊎_elim, ℤ, pos, List, [], ◌∷◌, ◌++◌, filter, refl, ap, ap₂, subst, sym, ◌∙◌, arith}
use Rattle.std.specs.List.{All, Contains, flat_map}
use Rattle.std.proofs.lemmas.List.Concat.{flat_map-append}
use Rattle.std.proofs.lemmas.Int.{by_lt_z, ints}
use Rattle.std.proofs.lemmas.List.Elements.{All-contains, Contains-append_cases, Contains-append_left, Contains-append_right, Contains-get_or}
use Rattle.plane.specs.declared.edge.Edge.{Edge}
use Rattle.plane.specs.declared.point.Point.{Point}
use Rattle.plane.specs.Lines.{IsAlongAxis}
use Rattle.plane.specs.Meet.Edges.{RationalPoint}
use Rattle.noding.specs.Local.{CrossBeside, IsExactAt}
use Rattle.noding.specs.Near.{CountsExactly}
use Rattle.noding.specs.Windings.{count, winding}
use Rattle.overlay.specs.declared.fill.rules.FillRule.{FillRule}
use Rattle.overlay.specs.declared.fill.rules.FillRule.TheVariants.{NonZero}
use Rattle.overlay.specs.declared.fill.rules.Operation.{Operation}
use Rattle.overlay.specs.declared.fill.rules.Operation.TheVariants.{Intersection}
use Rattle.overlay.specs.Contours.Rings.{ring_edges}
use Rattle.overlay.specs.Fill.Rules.{is_inside, is_result}
use Rattle.overlay.specs.Overlay.{IsOverlay, polygon_edges}
use Rattle.overlay.specs.Polygons.{rings_of}
use Rattle.overlay.specs.Rings.{real_edges}
use Rattle.overlay.proofs.Callers.{bounds-cross, exact-everywhere, exact-real, none-cross, winds-once}
use Rattle.tiles.specs.Part.{comes_to_border}
use Rattle.tiles.specs.Tile.{AreInPlace, HasSlopedEnds, IsBordered, IsTile, border}
use Rattle.tiles.specs.Window.{HasPoints, InWindow}
use Rattle.tiles.specs.declared.window.Window.{Window}
use Rattle.tiles.proofs.Border.{border-along, border-ends, border-winds}
use Rattle.tiles.proofs.Within.{polygons-within}

-- ---- edges that count exactly

-- an edge runs along an axis or doesn't
along-or-not : (edge : Edge) → IsAlongAxis edge ⊎ ¬ (IsAlongAxis edge)
along-or-not edge =
    same_or_not edge.x1 edge.x0 (λ upright. inl (inl upright)) (λ sloped. same_or_not edge.y1 edge.y0 (λ flat. inl (inr flat)) (λ steep. inr (λ along. ⊎_elim sloped steep along)))
  where
    same_or_not : {X : Type 0} (a b : ℤ) → (a ≡ b → X) → (a ≢ b → X) → X
    same_or_not a b same other =
        by_lt_z a b
        (λ less. other (λ is. absurd (omega (arith, ints, less, is))))
        (λ upto. by_lt_z b a
        (λ more. other (λ is. absurd (omega (arith, ints, more, is))))
        (λ from. same (omega (arith, ints, upto, from))))

module _ (window : Window) (point : RationalPoint) (within : InWindow window point) where
  -- what is in the place of edges that count exactly does so, too
  counts-too : (edges instead : List Edge) (edge : Edge) → AreInPlace window edges instead → ((other : Edge) → Contains edges other → CountsExactly other point) → Contains instead edge → CountsExactly edge point
  counts-too edges instead edge is counts at =
      ⊎_elim
      (λ along. inl along)
      (λ sloped. inr (λ near. ⊎_elim
      (λ found. ⊎_elim (λ along. sloped along) (λ far. far near) (counts edge found))
      (λ along. sloped along)
      (is.near edge point at within near)))
      (along-or-not edge)

  -- so they are all exact there
  all-exact : (subject clip near near_clip : List Edge) → AreInPlace window subject near → AreInPlace window clip near_clip → All (λ edge. CountsExactly edge point) (subject ++ clip)
      → All (IsExactAt (near ++ near_clip) point) (near ++ near_clip)
  all-exact subject clip near near_clip one other counts k d inside = inl (⊎_elim
      (λ first. counts-too subject near _ one (λ edge at. All-contains (λ (e : Edge). CountsExactly e point) (subject ++ clip) edge counts (Contains-append_left subject clip edge at)) first)
      (λ second. counts-too clip near_clip _ other (λ edge at. All-contains (λ (e : Edge). CountsExactly e point) (subject ++ clip) edge counts (Contains-append_right subject clip edge at)) second)
      (Contains-append_cases near near_clip _ (Contains-get_or (near ++ near_clip) k d inside)))

-- ---- windings that are cut

-- what is around nothing cuts all
cut-nothing : (inside : ℤ) → count (is_result NonZero Intersection inside (pos 0)) ≡ pos 0
cut-nothing inside = by (is_inside NonZero inside)
  where
    by : (test : Bool) → count (test && false) ≡ pos 0
    by true = refl
    by false = refl

-- and what is around once leaves what winds once or not at all
cut-once : (inside : ℤ) → (inside ≡ pos 0) ⊎ (inside ≡ pos 1) → count (is_result NonZero Intersection inside (pos 1)) ≡ inside
cut-once inside (inl none) = ap (λ (z : ℤ). count (is_result NonZero Intersection z (pos 1))) none ∙ sym none
cut-once inside (inr once) = ap (λ (z : ℤ). count (is_result NonZero Intersection z (pos 1))) once ∙ sym once

-- ---- edges of some polygons

-- each edge of those polygons that pass a test is an edge of polygons
pub edges-passing : (test : List (List Point) → Bool) (polygons : List (List (List Point))) (edge : Edge) → Contains (polygon_edges (filter test polygons)) edge → Contains (polygon_edges polygons) edge
edges-passing test [] edge held = held
edges-passing test (polygon ∷ polygons) edge held = by (edges-passing test polygons edge) (test polygon) held
  where
    all : polygon_edges (polygon ∷ polygons) ≡ flat_map ring_edges polygon ++ polygon_edges polygons
    all = flat_map-append ring_edges polygon (rings_of polygons)

    later : Contains (polygon_edges polygons) edge → Contains (polygon_edges (polygon ∷ polygons)) edge
    later among = subst (λ (edges : List Edge). Contains edges edge) (sym all) (Contains-append_right (flat_map ring_edges polygon) (polygon_edges polygons) edge among)

    by : (Contains (polygon_edges (filter test polygons)) edge → Contains (polygon_edges polygons) edge) → (t : Bool) → Contains (polygon_edges (cond t (polygon ∷ filter test polygons) (filter test polygons))) edge
        → Contains (polygon_edges (polygon ∷ polygons)) edge
    by rest false among = later (rest among)
    by rest true among = ⊎_elim
        (λ here. subst (λ (edges : List Edge). Contains edges edge) (sym all) (Contains-append_left (flat_map ring_edges polygon) (polygon_edges polygons) edge here))
        (λ there. later (rest there))
        (Contains-append_cases (flat_map ring_edges polygon) (polygon_edges (filter test polygons)) edge
        (subst (λ (edges : List Edge). Contains edges edge) (flat_map-append ring_edges polygon (rings_of (filter test polygons))) among))

-- ---- the tile

module _ (window : Window) (rule : FillRule) (operation : Operation) (subject clip edges : List Edge) (tile : List (List (List Point))) (some : HasPoints window)
    (is : IsBordered window rule operation subject clip edges) (is_cut : IsOverlay NonZero Intersection edges (ring_edges (border window)) tile)
    (bounds : List Edge) (has : HasSlopedEnds bounds tile) where
  -- nothing that is cut crosses at a point with fractions
  uncrossed : (one other : Edge) (x y : ℤ) → Contains (edges ++ ring_edges (border window)) one → Contains (edges ++ ring_edges (border window)) other → ¬ (CrossBeside one other x y)
  uncrossed = bounds-cross rule operation is.near is.near_clip edges (ring_edges (border window)) is.bounds (λ edge at. (is.bordered edge at, border-along window edge at, border-ends window edge some at))

  -- so the tile winds as what is cut
  as-cut : (point : RationalPoint) → winding (polygon_edges tile) point ≡ count (is_result NonZero Intersection (winding edges point) (winding (ring_edges (border window)) point))
  as-cut = exact-everywhere NonZero Intersection edges (ring_edges (border window)) tile is_cut uncrossed

  -- around nothing outside of the window
  none-outside : (point : RationalPoint) → ¬ (InWindow window point) → winding (polygon_edges tile) point ≡ pos 0
  none-outside point out = ⊎_elim
      (λ inside. absurd (out inside.0))
      (λ beside. as-cut point ∙ ap (λ (z : ℤ). count (is_result NonZero Intersection (winding edges point) z)) beside.1 ∙ cut-nothing (winding edges point))
      (border-winds window some point)

  -- and within it as the edges that are cut
  same-within : (point : RationalPoint) → InWindow window point → winding (polygon_edges tile) point ≡ winding edges point
  same-within point within = ⊎_elim
      (λ inside. as-cut point ∙ ap (λ (z : ℤ). count (is_result NonZero Intersection (winding edges point) z)) inside.1
      ∙ cut-once (winding edges point) (winds-once rule operation (real_edges is.near) (real_edges is.near_clip) edges is.bounds.everywhere point))
      (λ beside. absurd (beside.0 within))
      (border-winds window some point)

  -- no two of its own edges cross at such a point
  none-crosses : (one other : Edge) (x y : ℤ) → Contains (polygon_edges tile) one → Contains (polygon_edges tile) other → ¬ (CrossBeside one other x y)
  none-crosses one other x y first second =
      none-cross NonZero Intersection edges (ring_edges (border window)) [] tile is_cut (λ edge (k, within, at). absurd (omega (arith, within)))
      one other x y (Contains-append_left (polygon_edges tile) [] one first) (Contains-append_left (polygon_edges tile) [] other second)

  -- so it is a tile
  pub tile-made : IsTile window rule operation subject clip tile
  tile-made = record {
    part = record {
      each = is_cut.each;
      three_points = is_cut.three_points;
      directed = is_cut.directed;
      areas = is_cut.areas;
      once = is_cut.once;
      outside = none-outside;
      uncrossed = λ one other x y first second. none-crosses one other x y (edges-passing (comes_to_border window) tile one first) (edges-passing (comes_to_border window) tile other second);
    };
    each_once = is_cut.each_once;
    each_area = is_cut.each_area;
    one_piece = is_cut.one_piece;
    within = polygons-within window bounds tile has none-outside;
    exact = λ point within counts.
        same-within point within
        ∙ exact-real is.near is.near_clip rule operation edges is.bounds.everywhere point (all-exact window point within subject clip is.near is.near_clip is.in_place is.clip_in_place counts)
        ∙ ap₂ (λ (a b : ℤ). count (is_result rule operation a b)) (is.in_place.winds point within) (is.clip_in_place.winds point within);
  }
