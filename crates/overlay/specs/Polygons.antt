-- Polygons: an outer ring that runs counterclockwise, and holes that run clockwise.
use Rattle.std.specs.Prelude.{ℕ, ◌≡◌, ◌≢◌, ◌⊎◌, Contains, pos, negsuc, ◌++◌, Bool, true, false, ◌&&◌, not, cond, List, [], ◌∷◌, All, Option, Some, None, length, ◌<ℤ◌}
use Rattle.std.specs.List.{flat_map}
use Rattle.std.specs.Int.Signed.{lt_z}
use Rattle.std.specs.Ordering.{int_eq, is_lt}
use Rattle.plane.specs.declared.edge.Edge.{Edge}
use Rattle.plane.specs.declared.point.Point.{Point}
use Rattle.plane.specs.SweepLine.Heights.{rightwards}
use Rattle.overlay.specs.Areas.{twice_area}
use Rattle.overlay.specs.Contours.Rings.{ring_edges}
use Rattle.plane.specs.Meet.Edges.{RationalPoint}
use Rattle.overlay.specs.Fill.Begins.{cmp_begins}
use Rattle.overlay.specs.Fill.Filled.{AreDistinct, AreNoded}
use Rattle.plane.specs.Lists.{Extends}
use Rattle.noding.specs.Offsets.{offsets}
use Rattle.noding.specs.Windings.{winding}
use Rattle.overlay.specs.declared.rings.Polygons.{Polygons}

-- The edge begins before the best one so far: further left, or there and lower, or at one point and flatter.
abbrev pub begins_before : Edge → Option Edge → Bool
begins_before edge None = true
begins_before edge (Some best) = is_lt (cmp_begins (rightwards edge) (rightwards best))

-- Of the best one so far and the edges that aren't vertical the one that begins first.
abbrev pub first_sloped : Option Edge → List Edge → Option Edge
first_sloped best [] = best
first_sloped best (edge ∷ edges) = first_sloped (cond (not (int_eq edge.x0 edge.x1) && begins_before edge best) (Some edge) best) edges

abbrev pub runs_rightwards : Option Edge → Bool
runs_rightwards None = false
runs_rightwards (Some edge) = lt_z edge.x0 edge.x1

-- A ring runs counterclockwise where the lowest of its leftmost edges runs rightwards.
abbrev pub is_counterclockwise : List Point → Bool
is_counterclockwise ring = runs_rightwards (first_sloped None (ring_edges ring))

-- The area of a ring, as `twice_area` tells it, is above 0 where it runs counterclockwise, and below 0 where it doesn't.
abbrev pub HasSignedArea : List Point → Type 0
HasSignedArea ring = (is_counterclockwise ring ≡ true → pos 0 <ℤ twice_area ring) × (is_counterclockwise ring ≡ false → twice_area ring <ℤ pos 0)

-- A ring winds around each point once or not at all: to the left where it runs counterclockwise, else to the right.
abbrev pub WindsOnce : List Point → Type 0
WindsOnce ring =
    (point : RationalPoint) → (is_counterclockwise ring ≡ true → (winding (ring_edges ring) point ≡ pos 0) ⊎ (winding (ring_edges ring) point ≡ pos 1))
    × (is_counterclockwise ring ≡ false → (winding (ring_edges ring) point ≡ pos 0) ⊎ (winding (ring_edges ring) point ≡ negsuc 0))

-- An outer ring that runs counterclockwise, and behind it its holes, which don't.
pub record IsPolygon (rings : List (List Point)) : Type 0 where
  pub outer : List Point
  pub holes : List (List Point)
  pub is : rings ≡ outer ∷ holes
  pub outwards : is_counterclockwise outer ≡ true
  pub inwards : All (λ hole. is_counterclockwise hole ≡ false) holes

-- The rings of all polygons, one polygon after another.
abbrev pub rings_of : List (List (List Point)) → List (List Point)
rings_of polygons = flat_map (λ polygon. polygon) polygons

-- Polygons stand behind what stood there: their points, where each ring stops among the points, and where each polygon stops among
-- the rings.
pub record AreAppended (polygons : List (List (List Point))) (points points' : List Point) (ring_ends ring_ends' polygon_ends polygon_ends' : List ℕ) : Type 0 where
  pub points_are : points' ≡ points ++ flat_map (λ ring. ring) (rings_of polygons)
  pub rings_are : ring_ends' ≡ ring_ends ++ offsets (length points) (rings_of polygons)
  pub polygons_are : polygon_ends' ≡ polygon_ends ++ offsets (length ring_ends) polygons

-- What is appended to polygons that stand there.
abbrev pub Appends : {A : Type 0} → List (List (List Point)) → Polygons A → Polygons A → Type 0
Appends polygons before after = AreAppended polygons before.points.items after.points.items before.ring_ends.items after.ring_ends.items before.polygon_ends.items after.polygon_ends.items

-- The polygons are as they were.
abbrev pub AreAsBefore : {A : Type 0} → Polygons A → Polygons A → Type 0
AreAsBefore before after = (after.points.items ≡ before.points.items) × (after.ring_ends.items ≡ before.ring_ends.items) × (after.polygon_ends.items ≡ before.polygon_ends.items)

-- Something may stand behind the polygons that were there.
abbrev pub AreExtended : {A : Type 0} → Polygons A → Polygons A → Type 0
AreExtended before after = Extends before.points.items after.points.items × Extends before.ring_ends.items after.ring_ends.items × Extends before.polygon_ends.items after.polygon_ends.items

-- Some edge isn't vertical, if there are any.
abbrev pub HasSloped : List Edge → Type 0
HasSloped edges = edges ≢ [] → (edge : Edge) × Contains edges edge × (edge.x0 ≢ edge.x1)

-- Edges that bound a region of the plane: they meet only at common ends, no two have the same, and they wind once around each
-- point of it, and around no others. One of them isn't vertical, if there are any.
pub record BoundsSome (edges : List Edge) : Type 0 where
  pub noded : AreNoded edges
  pub distinct : AreDistinct edges
  pub once : (point : RationalPoint) → (winding edges point ≡ pos 0) ⊎ (winding edges point ≡ pos 1)
  pub sloped : HasSloped edges
