-- What a caller of overlays wants of the rings that it gives, and of the polygons that it gets.
use Rattle.std.proofs.Common.{◌≡◌, ◌++◌, [], inr, ℕ, ℤ, List, length, ap, ap₂, refl, subst, sym, ◌∙◌, arith}
use Rattle.std.specs.List.{Contains}
use Rattle.plane.specs.declared.edge.Edge.{Edge}
use Rattle.plane.specs.declared.point.Point.{Point}
use Rattle.plane.specs.Meet.Edges.{RationalPoint}
use Rattle.noding.specs.Local.{CrossBeside}
use Rattle.noding.specs.Offsets.{AreJoined, offsets}
use Rattle.noding.specs.Windings.{IsClosed, winding}
use Rattle.noding.proofs.Callers.{none-moved}
use Rattle.noding.proofs.ChainLemmas.Offsets.{joined}
use Rattle.overlay.specs.Boundary.{result_at}
use Rattle.overlay.specs.Overlay.{IsOverlay, polygon_edges}
use Rattle.overlay.specs.Polygons.{AreAppended, rings_of as rings_in}
use Rattle.overlay.specs.Rings.{AreEnds, edges_of, real_edges, rings_of}
use Rattle.overlay.specs.declared.fill.rules.FillRule.{FillRule}
use Rattle.overlay.specs.declared.fill.rules.Operation.{Operation}
use Rattle.overlay.specs.declared.rings.Rings.{Rings}
-- A ring that visits no point twice and whose edges meet only at common ends, and each ring that bounds a result: its area is above
-- 0 where it runs counterclockwise, and else below 0.
pub use Rattle.overlay.proofs.AreaLemmas.Directed.{area-directed}
pub use Rattle.overlay.proofs.AreaLemmas.Rings.{boundary-signed}
-- It winds once around each point or not at all, to the left where it runs counterclockwise, else to the right.
pub use Rattle.overlay.proofs.WindsLemmas.Once.{winds-directed}
pub use Rattle.overlay.proofs.WindsLemmas.Rings.{boundary-once}
-- Closed edges that wind alike around every point bound the same area, whichever edges they are. So the areas of polygons add up to
-- that of the region around which they wind: to what any closed edges sweep that do so. Where no edge is moved, the areas of union
-- and intersection add up to those of subject and clip, which each wind once around a point or not at all, by any rule but that of
-- numbers below 0.
pub use Rattle.overlay.proofs.AreaLemmas.Alike.{same-area}
pub use Rattle.overlay.proofs.FillLemmas.Balance.{AreBalanced, balanced}
pub use Rattle.overlay.proofs.WindsLemmas.Regions.{area-of-region, areas-add, areas-of-both, swept-polygons}
-- Around a point nothing changes from one edge to the next: what some of the edges wind just clockwise of one they wind just
-- counterclockwise of the next. Where the edges wind once around a point or not at all, those that end there and those that start
-- there take turns. Each has one next edge, which is that of no other one; and along that edge a walk goes on, also
-- where all are sheared.
pub use Rattle.overlay.specs.Sides.{just_above, left_of, right_of}
pub use Rattle.overlay.proofs.AreaLemmas.Leant.{leftmost-sheared}
pub use Rattle.overlay.proofs.AreaLemmas.Nearest.{leftmost-next, next-alone, next-once, next-some}
pub use Rattle.overlay.proofs.AreaLemmas.Wedges.{IsNextAround, clockwise_of, counter_of, same-between}
pub use Rattle.overlay.proofs.WindsLemmas.Corners.{ends-next, left-alike, left-once, right-none, starts-next}
-- So a walk keeps to pairs: of the edges that end at a point each is walked exactly if the next one is.
pub use Rattle.overlay.proofs.WindsLemmas.Pairs.{ArePairsBut, HasCome, IsNextPlace, goes-next, goes-off, goes-on, pairs-back, pairs-begin, pairs-end, pairs-first}
-- Of polygons that wind once around a point or not at all each does by itself, where the edge just below a leftwards one is of the
-- same polygon.
pub use Rattle.overlay.proofs.WindsLemmas.Polygons.{KeepTogether, each-once}
-- So it is where the edges of each ring have the polygon as often on their left, and each hole is at home where the ring just below
-- its first edge is.
pub use Rattle.overlay.proofs.WindsLemmas.Homes.{AreAtHome, home-once, left-own}
-- So polygons of rings that keep sides wind once around a point or not at all, each by itself, and their rings share points along no
-- circle, where each hole is of the polygon just below it. Those of their outlines wind so, too, and touch along no circle.
pub use Rattle.overlay.proofs.NestedLemmas.{nest-once}
pub use Rattle.overlay.proofs.WindsLemmas.Nested.{outlined-once}
pub use Rattle.overlay.proofs.WindsLemmas.Pieced.{fewer-touches, pieces-each, pieces-outlined, touches-shared}
-- Where two edges of outlines meet they do in one point, an end of one of them: rings of polygons touch, and don't cross. The edges
-- of one outline meet only at common ends.
pub use Rattle.overlay.proofs.TouchLemmas.AllTouch.{all-touch}
pub use Rattle.overlay.proofs.TouchLemmas.OwnNoded.{outline-noded}
-- Of the polygons of an overlay and edges along an axis that were among those given, no two cross at a point with fractions: so an
-- overlay of these polygons with such edges is exact at every point, by `exact-everywhere`.
pub use Rattle.overlay.proofs.UncrossedLemmas.Crossing.{none-cross}
-- The same of edges that bound a result, before these are polygons. Edges of which none is a point are all real ones.
pub use Rattle.overlay.proofs.UncrossedLemmas.Crossing.{bounds-cross, real-all}
-- Edges that are kept of pieces bound a result, and so do the rings of them: they wind once around a point or not at all, and as
-- the result of all edges given where each of these counts exactly. Some edge isn't vertical. What bounds a result bounds
-- something, and polygons of it are an overlay. They wind as the edges, and their points are ends of such as aren't vertical. A
-- ring's edges are closed.
pub use Rattle.overlay.proofs.BoundaryLemmas.Bounding.{filled-bounds, rings-bound, winds-once}
pub use Rattle.overlay.proofs.BoundaryLemmas.Corners.{outlines-sloped}
pub use Rattle.overlay.proofs.BoundaryLemmas.Sloped.{HasSloped-next, HasSloped-permuted}
pub use Rattle.overlay.proofs.ContourLemmas.Callers.{IsClosed-ring, outlines-wind, winding-contours}
pub use Rattle.overlay.proofs.GroupingLemmas.Grouped.{map-joined}
pub use Rattle.overlay.proofs.OverlayLemmas.{bounds-borders, bounds-nest, bounds-some, exact-real, outlines-each, polygons-overlay}
-- Around a point of an edge that isn't vertical they wind otherwise than around a point just below it.
pub use Rattle.overlay.proofs.BoundaryLemmas.Apart.{WindApart, winds-apart}
use Rattle.overlay.proofs.ContourLemmas.Counts.{rings-closed}
use Rattle.overlay.proofs.RingLemmas.{closed-real}
use Rattle.overlay.proofs.GroupingLemmas.Placed.{ends-right, rings-back}

-- Rings that are appended to nothing are joined, and so is what is read of them.
pub AreJoined-first : (rings : List (List Point)) (old new points : List Point) (old_ends new_ends ends : List ℕ) → old ≡ [] → old_ends ≡ [] → new ≡ old ++ joined rings → new_ends ≡ old_ends ++ offsets (length old) rings → points ≡ new → ends ≡ new_ends
    → AreJoined rings points ends
AreJoined-first rings old new points old_ends new_ends ends none no_ends points_are ends_are is ends_is = (
  is ∙ points_are ∙ ap (λ (before : List Point). before ++ joined rings) none,
  ends_is ∙ ends_are ∙ ap₂ (λ (before : List ℕ) (all : List Point). before ++ offsets (length all) rings) no_ends none,
)

-- Rings that are joined stop where they begin or later, and none behind the points.
pub AreEnds-joined : (rings : List (List Point)) (points : List Point) (ends : List ℕ) → AreJoined rings points ends → AreEnds 0 ends (length points)
AreEnds-joined rings points ends (points_are, ends_are) =
    subst (λ (stops : List ℕ). AreEnds 0 stops (length points)) (sym ends_are) (ends-right 0 rings (length points) (omega (arith, ap (λ (all : List Point). length all) points_are)))

-- And they are the rings of what they are joined to.
pub rings-joined : (rings : List (List Point)) (points : List Point) (ends : List ℕ) → AreJoined rings points ends → rings_of points 0 ends ≡ rings
rings-joined rings points ends (points_are, ends_are) = ap₂ (λ (all : List Point) (stops : List ℕ). rings_of all 0 stops) points_are ends_are ∙ rings-back [] rings 0 refl

-- Polygons that are appended to nothing stand there alone.
pub AreAppended-first : (polygons : List (List (List Point))) (points points' : List Point) (ring_ends ring_ends' polygon_ends polygon_ends' : List ℕ) → AreAppended polygons points points' ring_ends ring_ends' polygon_ends polygon_ends'
    → points ≡ [] → ring_ends ≡ [] → polygon_ends ≡ [] → AreAppended polygons [] points' [] ring_ends' [] polygon_ends'
AreAppended-first polygons points points' ring_ends ring_ends' polygon_ends polygon_ends' are none no_rings no_polygons = record {
  points_are = are.points_are ∙ ap (λ (before : List Point). before ++ joined (rings_in polygons)) none;
  rings_are = are.rings_are ∙ ap₂ (λ (before : List ℕ) (all : List Point). before ++ offsets (length all) (rings_in polygons)) no_rings none;
  polygons_are = are.polygons_are ∙ ap₂ (λ (before rings : List ℕ). before ++ offsets (length rings) polygons) no_polygons no_rings;
}

-- Their rings are those of the points.
pub AreJoined-appended : (polygons : List (List (List Point))) (points : List Point) (ring_ends polygon_ends : List ℕ) → AreAppended polygons [] points [] ring_ends [] polygon_ends → AreJoined (rings_in polygons) points ring_ends
AreJoined-appended polygons points ring_ends polygon_ends are = (are.points_are, are.rings_are)

-- The real edges of rings are closed
pub edges-closed : (rings : Rings) → IsClosed (real_edges (edges_of rings))
edges-closed rings = closed-real (edges_of rings) (λ test. rings-closed test (rings_of rings.points.now 0 rings.ends.now))

-- Where no two of the edges given cross at a point with fractions, an overlay is exact at every point.
pub exact-everywhere : (rule : FillRule) (operation : Operation) (subject clip : List Edge) (polygons : List (List (List Point))) → IsOverlay rule operation subject clip polygons
    → ((one other : Edge) (x y : ℤ) → Contains (subject ++ clip) one → Contains (subject ++ clip) other → ¬ (CrossBeside one other x y)) → (point : RationalPoint) → winding (polygon_edges polygons) point ≡ result_at rule operation subject clip point
exact-everywhere rule operation subject clip polygons is none point = is.exact point (λ k d within. inr (none-moved (subject ++ clip) none _))
