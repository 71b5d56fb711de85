-- Overlays within several windows, as one.
use Rattle.std.specs.Prelude.{◌≡◌, ◌⊎◌, ◌++◌, List, All, AllPairs, Contains, pos}
use Rattle.plane.specs.declared.edge.Edge.{Edge}
use Rattle.plane.specs.declared.point.Point.{Point}
use Rattle.plane.specs.Meet.Edges.{RationalPoint}
use Rattle.noding.specs.Near.{CountsExactly}
use Rattle.noding.specs.Windings.{winding}
use Rattle.overlay.specs.declared.fill.rules.FillRule.{FillRule}
use Rattle.overlay.specs.declared.fill.rules.Operation.{Operation}
use Rattle.overlay.specs.Boundary.{result_at}
use Rattle.overlay.specs.Overlay.{polygon_edges}
use Rattle.tiles.specs.Join.{AreApart, Tile}
use Rattle.tiles.specs.Tile.{IsTile}
use Rattle.tiles.specs.Window.{InWindow}

-- The polygons of each window are the overlay within it.
abbrev pub AreTiles : FillRule → Operation → List Edge → List Edge → List Tile → Type 0
AreTiles rule operation subject clip tiles = All (λ tile. IsTile tile.0 rule operation subject clip tile.1) tiles

-- No point lies in two of the windows.
abbrev pub AreAllApart : List Tile → Type 0
AreAllApart tiles = AllPairs (λ one other. AreApart one.0 other.0) tiles

-- The polygons are around the points of the result that lie in the windows.
pub record IsSeamless (rule : FillRule) (operation : Operation) (subject clip : List Edge) (tiles : List Tile) (polygons : List (List (List Point))) : Type 0 where
  -- in each window as the result, if each edge given runs along an axis or isn't near the point
  pub exact : (tile : Tile) (point : RationalPoint) → Contains tiles tile → InWindow tile.0 point → All (λ edge. CountsExactly edge point) (subject ++ clip)
      → winding (polygon_edges polygons) point ≡ result_at rule operation subject clip point
  -- around no point of none of the windows
  pub outside : (point : RationalPoint) → All (λ tile. ¬ (InWindow tile.0 point)) tiles → winding (polygon_edges polygons) point ≡ pos 0
  -- and around none twice
  pub once : (point : RationalPoint) → (winding (polygon_edges polygons) point ≡ pos 0) ⊎ (winding (polygon_edges polygons) point ≡ pos 1)
