-- Which polygon lies in a hole of which.
use Rattle.std.proofs.Common.{lit<}
use Rattle.std.specs.List.{range_with_len}
use Rattle.std.specs.Prelude.{◌≡◌, ◌≢◌, ◌<◌, ◌≤◌, ◌⊎◌, ◌==◌, ◌&&◌, ◌^◌, ◌+ℤ◌, ℕ, pos, Bool, false, not, IsTrue, List, [], ◌∷◌, All, Contains, Option, Some, None, count_by, get_or, length, map}
use Rattle.overlay.specs.Contours.Outlines.{next_or}
use Rattle.overlay.specs.Contours.Rings.{ring_edges}
use Rattle.overlay.specs.Fill.Rules.{is_inside}
use Rattle.noding.specs.Offsets.{AreJoined, offsets}
use Rattle.noding.specs.Windings.{winding}
use Rattle.overlay.specs.declared.fill.rules.FillRule.TheVariants.{NonZero}
use Rattle.plane.specs.Meet.Edges.{RationalPoint}
use Rattle.plane.specs.declared.point.Point.{Point}
use Rattle.layers.specs.Around.{halved}
use Rattle.layers.specs.declared.around.half_point.HalfPoint.{HalfPoint}

-- The outer ring of a polygon, which is its first. That of one without rings has no points.
abbrev pub outer_of : List (List Point) → List Point
outer_of [] = []
outer_of (outer ∷ holes) = outer

-- The middle between two points.
abbrev pub middle_between : Point → Point → RationalPoint
middle_between one other = record { n = 2; x = one.x +ℤ other.x; y = one.y +ℤ other.y; positive = lit< tt }

-- To the right of all points with numbers of 32 bits.
abbrev pub far_right : RationalPoint
far_right = record { n = 2; x = pos (2 ^ 32); y = pos 0; positive = lit< tt }

-- Where a polygon with this outer ring is looked for: in the middle of the ring's first edge, or where there is none far to the right.
abbrev pub middle_of : List Point → RationalPoint
middle_of [] = far_right
middle_of (first ∷ others) = middle_between first (next_or others first)

-- The outer ring of the polygon at the second place winds around the middle of that at the first one, which is another.
abbrev pub goes_round : List (List (List Point)) → ℕ → ℕ → Bool
goes_round polygons place around =
    not (place == around)
    && is_inside NonZero (winding (ring_edges (outer_of (get_or polygons around []))) (middle_of (outer_of (get_or polygons place []))))

-- How many polygons go round it.
abbrev pub depth_of : List (List (List Point)) → ℕ → ℕ
depth_of polygons place = count_by (goes_round polygons place) (range_with_len 0 (length polygons))

-- The one polygon lies no deeper than the other; where it lies as deep, the other stands before it or is the same.
abbrev pub IsNoNearer : List (List (List Point)) → ℕ → ℕ → Type 0
IsNoNearer polygons one other =
    (depth_of polygons one < depth_of polygons other) ⊎ ((depth_of polygons one ≡ depth_of polygons other) × (other ≤ one))

-- Of the polygons that go round this one it is the deepest, and of several that are as deep the first; or none goes round it.
abbrev pub IsParent : List (List (List Point)) → ℕ → Option ℕ → Type 0
IsParent polygons place None = (around : ℕ) → around < length polygons → goes_round polygons place around ≡ false
IsParent polygons place (Some parent) =
    (parent < length polygons) × IsTrue (goes_round polygons place parent)
    × ((around : ℕ) → around < length polygons → IsTrue (goes_round polygons place around) → IsNoNearer polygons around parent)

-- The parent of each polygon, in their order.
pub record AreParents (polygons : List (List (List Point))) (parents : List (Option ℕ)) : Type 0 where
  pub size : length parents ≡ length polygons
  pub each : (place : ℕ) → place < length polygons → IsParent polygons place (get_or parents place None)

-- ---- for private contracts

-- The outer rings of polygons, one after another, where each stops among the points, and where each stops as a shape of its own; and
-- where each is looked for.
pub record AreOuters (polygons : List (List (List Point))) (points : List Point) (ring_ends shape_ends : List ℕ) (middles : List HalfPoint) : Type 0 where
  pub joined : AreJoined (map outer_of polygons) points ring_ends
  pub alone : shape_ends ≡ offsets 0 (map (λ polygon. outer_of polygon ∷ []) polygons)
  pub middles_are : map halved middles ≡ map (λ polygon. middle_of (outer_of polygon)) polygons

-- The pair is of the one at this place and another.
abbrev pub is_of : ℕ → ℕ × ℕ → Bool
is_of place pair = (pair.0 == place) && not (pair.0 == pair.1)

-- How many others each of so many stands in a pair with.
pub record AreDepths (count : ℕ) (pairs : List (ℕ × ℕ)) (depths : List ℕ) : Type 0 where
  pub size : length depths ≡ count
  pub each : (place : ℕ) → place < count → get_or depths place 0 ≡ count_by (is_of place) pairs

-- Of two places the first is no nearer: it has a lesser depth, or as great a one and doesn't stand before the other.
abbrev pub IsNoBetter : List ℕ → ℕ → ℕ → Type 0
IsNoBetter depths one other =
    (get_or depths one 0 < get_or depths other 0) ⊎ ((get_or depths one 0 ≡ get_or depths other 0) × (other ≤ one))

-- Of those that stand in a pair with the one at this place it is the deepest, and the first of such; or there is none.
abbrev pub IsBest : List ℕ → List (ℕ × ℕ) → ℕ → Option ℕ → Type 0
IsBest depths pairs place None = All (λ pair. is_of place pair ≡ false) pairs
IsBest depths pairs place (Some best) =
    Contains pairs (place, best) × (place ≢ best) × All (λ pair. IsTrue (is_of place pair) → IsNoBetter depths pair.1 best) pairs

pub record AreBest (depths : List ℕ) (pairs : List (ℕ × ℕ)) (found : List (Option ℕ)) : Type 0 where
  pub size : length found ≡ length depths
  pub each : (place : ℕ) → place < length depths → IsBest depths pairs place (get_or found place None)

-- Both places are of so many.
abbrev pub AreWithin : ℕ → List (ℕ × ℕ) → Type 0
AreWithin count pairs = All (λ pair. (pair.0 < count) × (pair.1 < count)) pairs
