-- Polygons around what curves with joined corners wind around.
use Rattle.std.proofs.Common.{◌≡◌, ◌≢◌, ◌⊎◌, ◌<ℤ◌, [], List, pos, append-nil, refl, subst, sym}
use Rattle.std.specs.List.{All, flat_map}
use Rattle.plane.specs.declared.edge.Edge.{Edge}
use Rattle.plane.specs.declared.point.Point.{Point}
use Rattle.plane.specs.Ends.{end_of, start_of}
use Rattle.plane.specs.Meet.Edges.{RationalPoint}
use Rattle.noding.specs.Local.{IsExactAt}
use Rattle.noding.specs.Windings.{IsClosed, winding}
use Rattle.overlay.specs.declared.fill.rules.FillRule.{FillRule}
use Rattle.overlay.specs.declared.fill.rules.FillRule.TheVariants.{NonZero}
use Rattle.overlay.specs.declared.fill.rules.Operation.TheVariants.{Union}
use Rattle.overlay.specs.Boundary.{IsBoundary}
use Rattle.overlay.specs.Contours.Rings.{real_edges, ring_edges}
use Rattle.overlay.proofs.OverlayLemmas.{exact-real}
use Rattle.offset.specs.declared.fault.MinkowskiFault.{MinkowskiFault}
use Rattle.offset.specs.declared.fault.MinkowskiFault.TheVariants.{Lengths, Shape, Range, OutOfMemory}
use Rattle.offset.specs.declared.joins.Join.{Join}
use Rattle.offset.specs.declared.joins.Join.TheVariants.{Round, Bevel, Mitre}
use Rattle.offset.specs.Faults.{IsRawFault}
use Rattle.offset.specs.Joins.{IsJoined, IsJoinedFault, IsOfJoined, joined_edges}
use Rattle.offset.specs.Minkowski.{IsWound}
use Rattle.offset.specs.Raw.{GoesThrough}
use Rattle.offset.specs.Shape.{IsConvexAroundOrigin}
use Rattle.offset.proofs.JoinLemmas.Bevels.{bevelled-closed, winds-bevelled}
use Rattle.offset.proofs.JoinLemmas.Mitres.{mitred-closed, winds-mitred}
use Rattle.offset.proofs.OffsetLemmas.{winds-only}
use Rattle.offset.proofs.PieceLemmas.Closed.{raw-closed}
use Rattle.offset.proofs.SideLemmas.Inner.{BoundOnce}
use Rattle.offset.proofs.WoundLemmas.{around-of, bound-once}

-- The curve is closed.
pub joined-closed : (join : Join) (corners : List Point) → IsConvexAroundOrigin corners → (rings : List (List Point)) → All (λ edge. start_of edge ≢ end_of edge) (flat_map ring_edges rings) → IsClosed (joined_edges join corners rings)
joined-closed Round corners convex rings proper = raw-closed corners convex rings proper
joined-closed Bevel corners convex rings proper = bevelled-closed corners convex rings proper
joined-closed (Mitre limit) corners convex rings proper = mitred-closed limit corners convex rings proper

-- It winds around the points of the region, and around no others.
joined-winds : (join : Join) (corners : List Point) → IsConvexAroundOrigin corners → (rings : List (List Point)) (bounds : BoundOnce (flat_map ring_edges rings)) → bounds.outer ≡ pos 0 → (point : RationalPoint)
    → All (λ edge. ¬ (GoesThrough edge point)) (joined_edges join corners rings)
    → (IsOfJoined join corners rings point × (pos 0 <ℤ winding (joined_edges join corners rings) point)) ⊎ ((¬ (IsOfJoined join corners rings point)) × (winding (joined_edges join corners rings) point ≡ pos 0))
joined-winds Round corners convex rings bounds outside point off = winds-only corners convex rings bounds outside point off
joined-winds Bevel corners convex rings bounds outside point off = winds-bevelled corners convex rings bounds.two_ends point bounds outside
joined-winds (Mitre limit) corners convex rings bounds outside point off = winds-mitred limit corners rings point convex bounds outside off

-- What the inside grows to, from the curve of rings that bound it.
pub joined : (join : Join) (rule : FillRule) (edges : List Edge) (corners : List Point) → IsConvexAroundOrigin corners → (rings : List (List Point)) (raw : List Edge) (polygons : List (List (List Point))) → IsBoundary rule Union (real_edges edges) [] rings
    → raw ≡ joined_edges join corners rings → IsWound NonZero raw polygons → IsJoined join rule edges corners polygons
joined join rule edges corners convex rings raw polygons bounds is wound = record {
  rings = rings;
  bounds = bounds;
  inside = λ point exactly. exact-real edges [] rule Union (flat_map ring_edges rings) bounds.bounds.everywhere point (subst (λ (all : List Edge). All (IsExactAt all point) all) (sym (append-nil edges)) exactly);
  wound = there;
  joined = around-of (λ (point : RationalPoint). IsOfJoined join corners rings point) (joined_edges join corners rings) polygons there
      (λ point off. joined-winds join corners convex rings (bound-once rule Union (real_edges edges) [] rings bounds) refl point off);
}
  where
    there : IsWound NonZero (joined_edges join corners rings) polygons
    there = subst (λ (all : List Edge). IsWound NonZero all polygons) is wound

-- The curve of rings that bound the inside wasn't made.
pub joined-fails : (join : Join) (rule : FillRule) (edges : List Edge) (corners : List Point) (rings : List (List Point)) → IsBoundary rule Union (real_edges edges) [] rings → (fault : MinkowskiFault) → IsRawFault (joined_edges join corners rings) fault → IsJoinedFault join rule edges corners fault
joined-fails join rule edges corners rings bounds Lengths is = is
joined-fails join rule edges corners rings bounds Shape is = is
joined-fails join rule edges corners rings bounds Range is = (rings, bounds, is)
joined-fails join rule edges corners rings bounds OutOfMemory is = is
