-- Polygons behind a handle, which C holds, of rings that C hands over.
use Rattle.std.specs.List.{flat_map}
use Rattle.std.specs.Prelude.{◌≡◌, ◌⊎◌, ◌↔◌, ◌∷◌, ℕ, ℤ, List, Option, Some, None, length}
use base.Fml.{Fml}
use denote.RawPtr.{Ptr}
use Rattle.std.specs.contracts.impls.GlobalAllocator.TheImpl.{ghosts}
use Rattle.overlay.specs.Contours.Rings.{ring_edges}
use Rattle.noding.specs.Offsets.{offsets}
use Rattle.overlay.specs.declared.fill.rules.FillRule.{FillRule}
use Rattle.overlay.specs.declared.fill.rules.Operation.{Operation}
use Rattle.plane.specs.declared.edge.Edge.{Edge}
use Rattle.plane.specs.declared.point.Point.{Point}
use Rattle.overlay.specs.Overlay.{IsOverlay}
use Rattle.overlay.specs.Polygons.{rings_of as rings_of_polygons}
use Rattle.overlay.specs.Rings.{AreEnds, rings_of}
use Rattle.itree_c.specs.Choices.{number_of_rule, number_of_operation, AreChoices}
use Rattle.itree_c.specs.Raw.{owns_at}
use Rattle.itree_c.specs.declared.polygon_lists.PolygonLists.{PolygonLists}
use Rattle.itree_c.specs.declared.status.TheConstants.{ANSWERED, REFUSED, LENGTHS, CHOICE}
use Rattle.itree_c.specs.contracts.polygon_lists.PolygonLists.{the_row}

-- polygons lie at the handle and are its own, with the right to free their memory; or there are none, and it is null
abbrev pub owns_polygons : Ptr → Option PolygonLists → Fml
owns_polygons = owns_at (ghosts.dealloc_token (record { memory = record { seal = tt } })) the_row

-- the points, ring by ring, and the offsets are 0 and where each ring stops among the points, and 0 and where each polygon
-- stops among the rings: those of polygons that an overlay of the edges makes
abbrev pub AreAllPolygons : FillRule → Operation → List Edge → List Edge → PolygonLists → Type 0
AreAllPolygons rule operation subject clip held =
    (polygons : List (List (List Point))) × IsOverlay rule operation subject clip polygons
    × (held.held_points.items ≡ flat_map (λ ring. ring) (rings_of_polygons polygons))
    × (held.held_ring_offsets.items ≡ 0 ∷ offsets 0 (rings_of_polygons polygons))
    × (held.held_polygon_offsets.items ≡ 0 ∷ offsets 0 polygons)

-- the edges of rings whose points stand in the one list, and that stop where the other says
abbrev pub edges_of : List Point → List ℕ → List Edge
edges_of points ends = flat_map ring_edges (rings_of points 0 ends)

-- at ANSWERED there are all polygons, by the rule and the operation of the numbers; at each other status there are none
abbrev pub HoldsOverlay : List Point → List ℕ → List Point → List ℕ → ℤ → ℤ → ℤ → Option PolygonLists → Type 0
HoldsOverlay subject subject_ends clip clip_ends rule operation status (Some held) =
    (status ≡ ANSWERED)
    × (named : FillRule) × (rule ≡ number_of_rule named) × (chosen : Operation) × (operation ≡ number_of_operation chosen)
    × AreAllPolygons named chosen (edges_of subject subject_ends) (edges_of clip clip_ends) held
HoldsOverlay subject subject_ends clip clip_ends rule operation status None =
    (status ≡ REFUSED) ⊎ (status ≡ LENGTHS) ⊎ (status ≡ CHOICE)

-- a call holds what its status says; that is CHOICE exactly where a number is none, and LENGTHS exactly where both are some, and a
-- ring stops before it begins or behind the points
abbrev pub AnswersOverlay : List Point → List ℕ → List Point → List ℕ → ℤ → ℤ → ℤ → Option PolygonLists → Type 0
AnswersOverlay subject subject_ends clip clip_ends rule operation status made =
    HoldsOverlay subject subject_ends clip clip_ends rule operation status made
    × ((status ≡ CHOICE) ↔ ¬ (AreChoices rule operation))
    × ((status ≡ LENGTHS) ↔ (AreChoices rule operation × ¬ (AreEnds 0 subject_ends (length subject) × AreEnds 0 clip_ends (length clip))))
