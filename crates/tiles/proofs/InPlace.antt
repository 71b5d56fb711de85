-- Edges that do for the points of a window in the place of others, and rings that are appended.
use Rattle.std.proofs.Common.{◌≡◌, inl, inr, ⊎_elim, ℕ, ◌+◌, ◌<◌, ◌+ℤ◌, List, [], ◌∷◌, ◌++◌, length, get_or, take, refl, ap, ap₂, sym, ◌∙◌, subst, append-nil, append_assoc, arith}
use Rattle.std.specs.List.{flat_map}
use Rattle.std.proofs.lemmas.List.{flat_map_more, length-append}
use Rattle.std.proofs.lemmas.List.Concat.{flat_map-append}
use Rattle.std.proofs.lemmas.List.Elements.{Contains-append_cases, Contains-append_left, Contains-append_right}
use Rattle.plane.specs.declared.edge.Edge.{Edge}
use Rattle.plane.specs.declared.point.Point.{Point}
use Rattle.noding.specs.Offsets.{AreJoined}
use Rattle.noding.specs.Windings.{IsClosed}
use Rattle.noding.proofs.ChainLemmas.Runs.{offsets-more}
use Rattle.noding.proofs.SnapLemmas.Windings.{winding-append}
use Rattle.overlay.specs.Boundary.{BoundsResult}
use Rattle.overlay.specs.Contours.Rings.{ring_edges}
use Rattle.overlay.specs.declared.fill.rules.FillRule.{FillRule}
use Rattle.overlay.specs.declared.fill.rules.Operation.{Operation}
use Rattle.overlay.specs.Rings.{HasEnds, edges_of, real_edges, rings_of}
use Rattle.overlay.specs.declared.rings.Rings.{Rings}
use Rattle.overlay.proofs.Callers.{AreEnds-joined, rings-joined}
use Rattle.overlay.proofs.EachRing.{edges_more}
use Rattle.tiles.specs.Crop.{IsCropped}
use Rattle.tiles.specs.Tile.{AreInPlace, IsBordered, border, turned_border}
use Rattle.tiles.specs.declared.window.Window.{Window}
use Rattle.tiles.proofs.Border.{border-along, borders-nothing, turned-along}

-- ---- rings that are appended

-- a ring is appended, and where it stops
pub AreJoined-more : (rings : List (List Point)) (ring points points' : List Point) (ends ends' : List ℕ) (end : ℕ) → points' ≡ points ++ ring → ends' ≡ ends ++ end ∷ [] → end ≡ length points' → AreJoined rings points ends
    → AreJoined (rings ++ ring ∷ []) points' ends'
AreJoined-more rings ring points points' ends ends' end points_are ends_are is (joined, stops) =
    let all = flat_map (λ (list : List Point). list) rings in
    let size : end ≡ (0 + length all) + length ring = is ∙ ap (λ (l : List Point). length l) (points_are ∙ ap (λ (l : List Point). l ++ ring) joined) ∙ length-append all ring ∙ (let same : length all + length ring ≡ (0 + length all) + length ring = omega arith in same) in (
      points_are ∙ ap (λ (l : List Point). l ++ ring) joined ∙ flat_map_more (λ (list : List Point). list) [] rings ring,
      ends_are ∙ ap₂ (λ (l : List ℕ) (n : ℕ). l ++ n ∷ []) stops size ∙ sym (offsets-more 0 rings ring),
    )

-- rings that are lent
pub HasEnds-joined : (rings : List (List Point)) (points : List Point) (ends : List ℕ) (lent : Rings) → lent.points.now ≡ points → lent.ends.now ≡ ends → AreJoined rings points ends → HasEnds lent × (edges_of lent ≡ flat_map ring_edges rings)
HasEnds-joined rings points ends lent points_are ends_are (items_are, stops_are) = (
  AreEnds-joined rings lent.points.now lent.ends.now (points_are ∙ items_are, ends_are ∙ stops_are),
  ap (λ (all : List (List Point)). flat_map ring_edges all) (rings-joined rings lent.points.now lent.ends.now (points_are ∙ items_are, ends_are ∙ stops_are)),
)

-- ---- edges in the place of others

module _ (window : Window) where
  pub AreInPlace-none : AreInPlace window [] []
  AreInPlace-none = record { winds = λ point within. refl; near = λ edge point at within is. inl at }

  -- those of a ring that is cropped
  pub AreInPlace-cropped : (ring cropped : List Point) → IsCropped window ring cropped → AreInPlace window (ring_edges ring) (ring_edges cropped)
  AreInPlace-cropped ring cropped is = record { winds = is.winds; near = λ edge point at within near. inl (is.near edge point at within near) }

  -- and others behind these
  pub AreInPlace-more : (edges instead others others' : List Edge) → AreInPlace window edges instead → AreInPlace window others others' → AreInPlace window (edges ++ others) (instead ++ others')
  AreInPlace-more edges instead others others' one other = record {
    winds = λ point within. winding-append instead others' point ∙ ap₂ (λ a b. a +ℤ b) (one.winds point within) (other.winds point within) ∙ sym (winding-append edges others point);
    near = λ edge point at within near. ⊎_elim
        (λ first. ⊎_elim (λ found. inl (Contains-append_left edges others edge found)) (λ along. inr along) (one.near edge point first within near))
        (λ second. ⊎_elim (λ found. inl (Contains-append_right edges others edge found)) (λ along. inr along) (other.near edge point second within near))
        (Contains-append_cases instead others' edge at);
  }

  -- the border and the border turned round are in the place of nothing
  pub AreInPlace-borders : AreInPlace window [] (ring_edges (border window) ++ ring_edges (turned_border window))
  AreInPlace-borders = record {
    winds = λ point within. winding-append (ring_edges (border window)) (ring_edges (turned_border window)) point ∙ borders-nothing window point;
    near = λ edge point at within near. inr (⊎_elim (border-along window edge) (turned-along window edge) (Contains-append_cases (ring_edges (border window)) (ring_edges (turned_border window)) edge at));
  }

  -- one ring more is cropped
  pub AreInPlace-ring : (points : List Point) (ends : List ℕ) (ring : ℕ) (cropped : List (List Point)) (next : List Point) → ring < length ends → IsCropped window (get_or (rings_of points 0 ends) ring []) next
      → AreInPlace window (flat_map ring_edges (take ring (rings_of points 0 ends))) (flat_map ring_edges cropped)
      → AreInPlace window (flat_map ring_edges (take (ring + 1) (rings_of points 0 ends))) (flat_map ring_edges (cropped ++ next ∷ []))
  AreInPlace-ring points ends ring cropped next inside is so_far =
      let one = get_or (rings_of points 0 ends) ring [] in
      let more = AreInPlace-more (flat_map ring_edges (take ring (rings_of points 0 ends))) (flat_map ring_edges cropped) (ring_edges one) (ring_edges next) so_far (AreInPlace-cropped one next is) in
      subst (λ (edges : List Edge). AreInPlace window edges (flat_map ring_edges (cropped ++ next ∷ []))) (sym (edges_more points ends ring inside))
      (subst (λ (edges : List Edge). AreInPlace window (flat_map ring_edges (take ring (rings_of points 0 ends)) ++ ring_edges one) edges)
      (ap (λ (edges : List Edge). flat_map ring_edges cropped ++ edges) (sym (append-nil (ring_edges next))) ∙ sym (flat_map-append ring_edges cropped (next ∷ []))) more)

  -- the rings with both borders behind them
  rings-bordered : (rings : List (List Point)) → flat_map ring_edges ((rings ++ border window ∷ []) ++ turned_border window ∷ []) ≡ flat_map ring_edges rings ++ (ring_edges (border window) ++ ring_edges (turned_border window))
  rings-bordered rings =
      ap (λ (all : List (List Point)). flat_map ring_edges all) (append_assoc rings (border window ∷ []) (turned_border window ∷ []))
      ∙ flat_map-append ring_edges rings (border window ∷ turned_border window ∷ [])
      ∙ ap (λ (edges : List Edge). flat_map ring_edges rings ++ (ring_edges (border window) ++ edges)) (append-nil (ring_edges (turned_border window)))

  -- what bounds their result has the border among the edges that it is made of
  pub IsBordered-made : (rule : FillRule) (operation : Operation) (subject clip : List Edge) (rings clip_rings : List (List Point)) (edges : List Edge) → AreInPlace window subject (flat_map ring_edges rings)
      → AreInPlace window clip (flat_map ring_edges clip_rings) → IsClosed edges
      → BoundsResult rule operation (real_edges (flat_map ring_edges ((rings ++ border window ∷ []) ++ turned_border window ∷ []))) (real_edges (flat_map ring_edges clip_rings)) edges
      → IsBordered window rule operation subject clip edges
  IsBordered-made rule operation subject clip rings clip_rings edges one other closed bounds =
      let sides = ring_edges (border window) ++ ring_edges (turned_border window) in
      let near = flat_map ring_edges rings ++ sides in
      record {
        near = near;
        near_clip = flat_map ring_edges clip_rings;
        bounds = subst (λ (given : List Edge). BoundsResult rule operation (real_edges given) (real_edges (flat_map ring_edges clip_rings)) edges) (rings-bordered rings) bounds;
        closed = closed;
        in_place = subst (λ (given : List Edge). AreInPlace window given near) (append-nil subject) (AreInPlace-more subject (flat_map ring_edges rings) [] sides one AreInPlace-borders);
        clip_in_place = other;
        bordered = λ edge at. Contains-append_left near (flat_map ring_edges clip_rings) edge
            (Contains-append_right (flat_map ring_edges rings) sides edge (Contains-append_left (ring_edges (border window)) (ring_edges (turned_border window)) edge at));
      }
