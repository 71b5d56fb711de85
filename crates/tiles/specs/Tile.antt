-- What an overlay within a window is.
use Rattle.std.specs.Prelude.{◌≡◌, ◌⊎◌, ◌++◌, ◌∷◌, ◌<ℤ◌, [], ⊤, ℕ, pos, List, All, Contains, codes}
use Rattle.plane.specs.declared.edge.Edge.{Edge}
use Rattle.plane.specs.declared.point.Point.{Point}
use Rattle.plane.specs.Lines.{IsAlongAxis}
use Rattle.plane.specs.Meet.Edges.{RationalPoint}
use Rattle.noding.specs.Near.{CountsExactly, IsNear}
use Rattle.noding.specs.Windings.{IsClosed, winding}
use Rattle.overlay.specs.declared.fill.rules.FillRule.{FillRule}
use Rattle.overlay.specs.declared.fill.rules.Operation.{Operation}
use Rattle.overlay.specs.Areas.{twice_area_of}
use Rattle.overlay.specs.Boundary.{BoundsResult, result_at}
use Rattle.overlay.specs.Contours.Rings.{ring_edges}
use Rattle.overlay.specs.Fill.Filled.{AreDistinct, AreNoded, IsEndOfSloped}
use Rattle.overlay.specs.Nesting.{PolygonWindsOnce}
use Rattle.overlay.specs.OnePiece.{TouchAlongNoCircle}
use Rattle.overlay.specs.Overlay.{polygon_edges}
use Rattle.overlay.specs.Polygons.{rings_of}
use Rattle.overlay.specs.Rings.{real_edges}
use Rattle.tiles.specs.Part.{IsPart}
use Rattle.tiles.specs.Window.{CanCropTo, InWindow, IsFault, IsWithin}
use Rattle.tiles.specs.declared.fault.CropFault.{CropFault}
use Rattle.tiles.specs.declared.fault.CropFault.TheVariants.{Empty as CropEmpty, Margin as CropMargin, OutOfMemory as CropOutOfMemory}
use Rattle.tiles.specs.declared.tile_fault.TileFault.{TileFault}
use Rattle.tiles.specs.declared.tile_fault.TileFault.TheVariants.{Lengths, Empty, Margin, OutOfMemory}
use Rattle.tiles.specs.declared.window.Window.{Window}

-- The border of a window, counterclockwise.
abbrev pub border : Window → List Point
border window =
    record { x = window.left; y = window.low } ∷ record { x = window.right; y = window.low }
    ∷ record { x = window.right; y = window.high } ∷ record { x = window.left; y = window.high } ∷ []

-- The border the other way round.
abbrev pub turned_border : Window → List Point
turned_border window =
    record { x = window.left; y = window.low } ∷ record { x = window.left; y = window.high }
    ∷ record { x = window.right; y = window.high } ∷ record { x = window.right; y = window.low } ∷ []

-- Polygons in the window, around the points of the result that lie in it.
pub record IsTile (window : Window) (rule : FillRule) (operation : Operation) (subject clip : List Edge) (polygons : List (List (List Point))) : Type 0 where
  pub part : IsPart window polygons
  -- each polygon by itself winds once around a point or not at all, and has an area above 0
  pub each_once : All PolygonWindsOnce polygons
  pub each_area : All (λ polygon. pos 0 <ℤ twice_area_of polygon) polygons
  -- its rings touch along no circle: so the inside of each is one piece
  pub one_piece : All TouchAlongNoCircle polygons
  -- all points of the polygons lie in the window or on its sides
  pub within : All (λ ring. All (IsWithin window) ring) (rings_of polygons)
  -- in the window as the result, if each edge given runs along an axis or isn't near the point
  pub exact : (point : RationalPoint) → InWindow window point → All (λ edge. CountsExactly edge point) (subject ++ clip) → winding (polygon_edges polygons) point ≡ result_at rule operation subject clip point

-- Why a ring wasn't cropped, as a reason why there is no tile.
abbrev pub tile_fault : CropFault → TileFault
tile_fault CropEmpty = Empty
tile_fault CropMargin = Margin
tile_fault CropOutOfMemory = OutOfMemory

-- Why there is no tile of the window, where the ends of the rings are right: as `IsFault` tells it.
abbrev pub IsTileFault : Window → TileFault → Type 0
IsTileFault window Lengths = ⊤
IsTileFault window Empty = IsFault window CropEmpty
IsTileFault window Margin = IsFault window CropMargin
IsTileFault window OutOfMemory = CanCropTo window

-- what a fault prints
abbrev pub fault_text : TileFault → List ℕ
fault_text Lengths = codes "a ring stops before it begins, or behind the points"
fault_text Empty = codes "no point lies in the window"
fault_text Margin = codes "a side of the window is less than 2 away from what 32 bits hold"
fault_text OutOfMemory = codes "memory was refused"

-- ---- for private contracts

-- The edges do for the points of the window in the place of the others.
pub record AreInPlace (window : Window) (edges instead : List Edge) : Type 0 where
  -- they wind around each of them as the others do
  pub winds : (point : RationalPoint) → InWindow window point → winding instead point ≡ winding edges point
  -- and each that is near such a point is one of the others, or runs along an axis
  pub near : (edge : Edge) (point : RationalPoint) → Contains instead edge → InWindow window point → IsNear edge point → Contains edges edge ⊎ IsAlongAxis edge

-- Edges that bound the result of such as do in the place of subject and clip, with the border of the window among them.
pub record IsBordered (window : Window) (rule : FillRule) (operation : Operation) (subject clip edges : List Edge) : Type 0 where
  pub near : List Edge
  pub near_clip : List Edge
  pub bounds : BoundsResult rule operation (real_edges near) (real_edges near_clip) edges
  pub closed : IsClosed edges
  pub in_place : AreInPlace window subject near
  pub clip_in_place : AreInPlace window clip near_clip
  pub bordered : (edge : Edge) → Contains (ring_edges (border window)) edge → Contains (near ++ near_clip) edge

-- Such edges meet only at common ends, and the polygons wind as they do. Each point of the polygons is an end of one of them that
-- isn't vertical.
pub record HasSlopedEnds (edges : List Edge) (polygons : List (List (List Point))) : Type 0 where
  pub noded : AreNoded edges
  pub distinct : AreDistinct edges
  pub winds : (point : RationalPoint) → winding (polygon_edges polygons) point ≡ winding edges point
  pub ends : All (λ ring. All (λ p. IsEndOfSloped edges p.x p.y) ring) (rings_of polygons)
