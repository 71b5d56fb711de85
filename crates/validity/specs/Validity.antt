-- Polygons that are valid, and what is wrong with those that aren't.
use Rattle.std.specs.Prelude.{◌≡◌, ◌≢◌, ◌⊎◌, ◌<◌, ◌≤◌, ℕ, Bool, true, false, pos, List, [], All, AllPairs, codes, get_or, length, map}
use Rattle.std.specs.List.{flat_map}
use Rattle.plane.specs.declared.edge.Edge.{Edge}
use Rattle.plane.specs.declared.point.Point.{Point}
use Rattle.plane.specs.Ends.{start_of}
use Rattle.plane.specs.Meet.Edges.{RationalPoint}
use Rattle.plane.specs.Pairs.Pairs.{PairAt}
use Rattle.noding.specs.Windings.{winding}
use Rattle.overlay.specs.Contours.Rings.{real_edges, ring_edges}
use Rattle.overlay.specs.Fill.Filled.{AreNoded}
use Rattle.overlay.specs.Nesting.{PolygonWindsOnce}
use Rattle.overlay.specs.OnePiece.{ComesFree, TouchAlongNoCircle, TouchesIn}
use Rattle.overlay.specs.Overlay.{polygon_edges}
use Rattle.validity.specs.declared.fault.Fault.{Fault}
use Rattle.validity.specs.declared.fault.Fault.TheVariants.{FewPoints, MeetsItself, RingsCross, HolesOutside, PolygonsOverlap, Disconnected}
use Rattle.validity.specs.declared.unchecked.Unchecked.{Unchecked}
use Rattle.validity.specs.declared.unchecked.Unchecked.TheVariants.{Lengths, OutOfMemory}
use Rattle.validity.specs.Given.{directed}
use Rattle.validity.specs.Meeting.{AllMayMeet, MayNotMeet}

-- ---- valid polygons

-- The edges of a ring, those from a point to itself left out: three or more, no two of which start at one point, and they meet only
-- at common ends. So the ring visits no point twice, and neither crosses nor touches itself.
pub record IsSimple (ring : List Point) : Type 0 where
  pub three_points : 3 ≤ length (real_edges (ring_edges ring))
  pub once : AllPairs (λ one later. start_of one ≢ start_of later) (real_edges (ring_edges ring))
  pub noded : AreNoded (real_edges (ring_edges ring))

-- The edges wind once around each point or not at all.
abbrev pub WindOnce : List Edge → Type 0
WindOnce edges = (point : RationalPoint) → (winding edges point ≡ pos 0) ⊎ (winding edges point ≡ pos 1)

-- Rings, and the polygons that they make up, are valid: each ring is simple, two edges touch at an end of one of them if they meet,
-- and once outer rings run counterclockwise and holes clockwise, each polygon winds once around a point or not at all, and so do
-- all together. So holes lie in their outer ring, side by side, and no two polygons overlap. And rings of a polygon touch along no circle.
pub record IsValid (rings : List (List Point)) (polygons : List (List (List Point))) : Type 0 where
  pub simple : All IsSimple rings
  pub touch : AllMayMeet false (polygon_edges (map directed polygons))
  pub each_once : All (λ polygon. PolygonWindsOnce (directed polygon)) polygons
  pub once : WindOnce (polygon_edges (map directed polygons))
  pub one_piece : All (λ polygon. TouchAlongNoCircle (directed polygon)) polygons

-- ---- faults

-- Around some point the edges wind otherwise than once or not at all.
abbrev pub WindOtherwise : List Edge → Type 0
WindOtherwise edges = (point : RationalPoint) × (winding edges point ≢ pos 0) × (winding edges point ≢ pos 1)

-- These two stand among the edges, at two places, and meet as those of one ring, or any, may not.
abbrev pub HasWrongPair : Bool → List Edge → Edge → Edge → Type 0
HasWrongPair in_ring edges one other = (i : ℕ) × (j : ℕ) × PairAt (λ first second. (first ≡ one) × (second ≡ other) × MayNotMeet in_ring first second) edges i j

-- What is wrong with them, as the fault tells it.
abbrev pub IsFault : List (List Point) → List (List (List Point)) → Fault → Type 0
IsFault rings polygons (FewPoints ring) = (ring < length rings) × (length (real_edges (ring_edges (get_or rings ring []))) < 3)
IsFault rings polygons (MeetsItself ring one other) = (ring < length rings) × HasWrongPair true (real_edges (ring_edges (get_or rings ring []))) one other
IsFault rings polygons (RingsCross one other) = HasWrongPair false (polygon_edges (map directed polygons)) one other
IsFault rings polygons (HolesOutside polygon point) = (polygon < length polygons) × WindOtherwise (flat_map ring_edges (directed (get_or polygons polygon [])))
IsFault rings polygons (PolygonsOverlap point) = WindOtherwise (polygon_edges (map directed polygons))
IsFault rings polygons (Disconnected polygon ring point) =
    (polygon < length polygons) × TouchesIn (directed (get_or polygons polygon [])) ring point × (¬ (ComesFree (directed (get_or polygons polygon [])) ring point))

-- what an error prints
abbrev pub error_text : Unchecked → List ℕ
error_text Lengths = codes "rings or polygons don't stop where they can"
error_text OutOfMemory = codes "memory was refused"
