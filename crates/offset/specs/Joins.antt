-- How a corner that turns left is joined where polygons grow: the curve, and what lies within it.
use Rattle.std.specs.Int.{int_div_euclid}
use Rattle.std.specs.List.{flat_map, list_all}
use Rattle.std.specs.Prelude.{ℕ, Bool, cond, ◌&&◌, ◌≡◌, ◌≢◌, ◌⊎◌, ⊤, ℤ, pos, ◌+ℤ◌, ◌-ℤ◌, ◌*ℤ◌, ◌<ℤ◌, ◌^◌, int_le, int_lt, List, [], ◌∷◌, ◌++◌, All, Contains, map}
use Rattle.plane.specs.declared.edge.Edge.{Edge}
use Rattle.plane.specs.declared.point.Point.{Point}
use Rattle.plane.specs.Ends.{edge_between, end_of, start_of}
use Rattle.plane.specs.Meet.Crosses.{cross}
use Rattle.plane.specs.Meet.Edges.{RationalPoint}
use Rattle.noding.specs.Windings.{winding}
use Rattle.overlay.specs.declared.fill.rules.FillRule.{FillRule}
use Rattle.overlay.specs.declared.fill.rules.FillRule.TheVariants.{NonZero}
use Rattle.overlay.specs.declared.fill.rules.Operation.TheVariants.{Union}
use Rattle.overlay.specs.Areas.{swept}
use Rattle.overlay.specs.Boundary.{IsBoundary, result_at}
use Rattle.overlay.specs.Contours.Rings.{real_edges, ring_edges}
use Rattle.noding.specs.Local.{IsExactAt}
use Rattle.offset.specs.declared.fault.MinkowskiFault.{MinkowskiFault}
use Rattle.offset.specs.declared.fault.MinkowskiFault.TheVariants.{Lengths, Shape, Range, OutOfMemory}
use Rattle.offset.specs.declared.joins.Join.{Join}
use Rattle.offset.specs.declared.joins.Join.TheVariants.{Round, Bevel, Mitre}
use Rattle.offset.specs.Minkowski.{IsAround, IsWound}
use Rattle.offset.specs.Pieces.{band, part_of_fan, triangle}
use Rattle.offset.specs.Raw.{GoesThrough, IsIn32Bits, fan, furthest, moved, moved_edge, raw_of_two, ways}
use Rattle.offset.specs.Shape.{neighbours, sides, turn}
use Rattle.offset.specs.Sum.{IsOfSum}

-- Each edge of rings with the next one of its ring.
abbrev pub corners_of : List (List Point) → List (Edge × Edge)
corners_of rings = flat_map (λ ring. neighbours (ring_edges ring)) rings

-- From the furthest corner of the edge to that of the next one.
abbrev pub chord : List Point → Edge → Edge → Edge
chord corners edge next = edge_between (furthest corners edge) (furthest corners next)

-- ---- bevels

-- What a bevel takes in place of the fan: the chord where the origin lies left of it, else the fan.
abbrev pub bevel : List Point → Edge → Edge → List Edge
bevel corners edge next = cond (int_lt (pos 0) (swept (chord corners edge next))) (chord corners edge next ∷ []) (fan corners edge next)

-- What joins an edge that was moved with the next one: where they turn left this, else the ways to the point and on.
abbrev pub bevelled_joint : List Point → Edge → Edge → List Edge
bevelled_joint corners edge next =
    cond (int_lt (pos 0) (turn edge next))
    (map (moved_edge (end_of edge)) (bevel corners edge next))
    (ways corners edge next)

-- ---- mitres

-- The whole number nearest to n / d, a half upwards.
abbrev pub nearest : ℤ → ℤ → ℤ
nearest n d = int_div_euclid ((n +ℤ n) +ℤ d) (d +ℤ d)

-- The point with these numbers.
abbrev pub point_at : ℤ → ℤ → Point
point_at x y = record { x = x; y = y }

-- Where the line of the edge, moved by its furthest corner, crosses that of the next one: so far it is from that corner along the
-- edge, in whole numbers.
abbrev pub way_to_tip : Point → Point → Edge → Edge → Point
way_to_tip from to edge next =
    point_at (nearest (turn (edge_between from to) next *ℤ (edge.x1 -ℤ edge.x0)) (turn edge next))
    (nearest (turn (edge_between from to) next *ℤ (edge.y1 -ℤ edge.y0)) (turn edge next))

-- It is less than 2^62 along an axis. What lies further away is beyond the limit in any case.
abbrev pub is_near_on : ℤ → Bool
is_near_on way = int_lt (pos 0 -ℤ pos (2 ^ 62)) way && int_lt way (pos (2 ^ 62))

-- It is so on both axes.
abbrev pub is_near : Point → Bool
is_near way = is_near_on way.x && is_near_on way.y

-- The tip lies no further out than the side would, were the shape limit / 100 times as large.
abbrev pub is_within_limit : ℕ → Point → Edge → Bool
is_within_limit limit tip side =
    int_le (pos 0) (cross (side.x1 -ℤ side.x0) (side.y1 -ℤ side.y0) ((pos 100 *ℤ tip.x) -ℤ (pos limit *ℤ side.x0)) ((pos 100 *ℤ tip.y) -ℤ (pos limit *ℤ side.y0)))

-- Between these corners there is a mitre with a tip so far from the first one: it lies to the right of the way from the one to the
-- other, and within the limit.
abbrev pub has_tip : ℕ → List Point → Point → Point → Point → Bool
has_tip limit corners from to way =
    is_near way
    && (int_lt (cross (to.x -ℤ from.x) (to.y -ℤ from.y) way.x way.y) (pos 0)
    && list_all (is_within_limit limit (moved from way)) (sides corners))

-- The mitre at a point: the triangle of the two corners and the tip, moved.
abbrev pub mitre_by : Point → Point → Point → Point → List Edge
mitre_by at from to way = triangle (moved at from) (moved at (moved from way)) (moved at to)

-- The mitre between an edge and the next one, where they turn left and there is one.
abbrev pub mitre : ℕ → List Point → Edge → Edge → List Edge
mitre limit corners edge next =
    cond (int_lt (pos 0) (turn edge next) && has_tip limit corners (furthest corners edge) (furthest corners next) (way_to_tip (furthest corners edge) (furthest corners next) edge next))
    (mitre_by (end_of edge) (furthest corners edge) (furthest corners next) (way_to_tip (furthest corners edge) (furthest corners next) edge next))
    []

-- ---- the curve

-- That of an edge and the next one: the edge moved, and what joins them; with mitres as further triangles.
abbrev pub joined_of_two : Join → List Point → Edge × Edge → List Edge
joined_of_two Round corners two = raw_of_two corners two
joined_of_two Bevel corners two = moved_edge (furthest corners two.0) two.0 ∷ bevelled_joint corners two.0 two.1
joined_of_two (Mitre limit) corners two = raw_of_two corners two ++ mitre limit corners two.0 two.1

-- That of a ring.
abbrev pub joined_of_ring : Join → List Point → List Point → List Edge
joined_of_ring join corners ring = flat_map (joined_of_two join corners) (neighbours (ring_edges ring))

-- That of rings, one ring after another.
abbrev pub joined_edges : Join → List Point → List (List Point) → List Edge
joined_edges join corners rings = flat_map (joined_of_ring join corners) rings

-- ---- what lies within it

-- What bevels leave of the sum: the point lies inside of the rings, or in the band of an edge, or, where one turns left, in a
-- triangle of the point between and of what the bevel takes.
abbrev pub IsOfBevelled : List Point → List (List Point) → RationalPoint → Type 0
IsOfBevelled corners rings point =
    (winding (flat_map ring_edges rings) point ≢ pos 0)
    ⊎ ((two : Edge × Edge) × Contains (corners_of rings) two
    × ((winding (band two.0 (furthest corners two.0)) point ≢ pos 0)
    ⊎ ((pos 0 <ℤ turn two.0 two.1) × (side : Edge) × Contains (bevel corners two.0 two.1) side × (winding (part_of_fan (end_of two.0) side) point ≢ pos 0))))

-- What mitres add to the sum: the point is of the sum, or in the mitre of a corner.
abbrev pub IsOfMitred : ℕ → List Point → List (List Point) → RationalPoint → Type 0
IsOfMitred limit corners rings point =
    IsOfSum (flat_map ring_edges rings) corners point
    ⊎ ((two : Edge × Edge) × Contains (corners_of rings) two × (winding (mitre limit corners two.0 two.1) point ≢ pos 0))

-- What polygons become with joins of this kind.
abbrev pub IsOfJoined : Join → List Point → List (List Point) → RationalPoint → Type 0
IsOfJoined Round corners rings point = IsOfSum (flat_map ring_edges rings) corners point
IsOfJoined Bevel corners rings point = IsOfBevelled corners rings point
IsOfJoined (Mitre limit) corners rings point = IsOfMitred limit corners rings point

-- The polygons are what the inside of edges, by the rule, becomes when it grows by the shape, with corners joined so.
pub record IsJoined (join : Join) (rule : FillRule) (edges : List Edge) (corners : List Point) (polygons : List (List (List Point))) : Type 0 where
  -- rings that bound the inside
  pub rings : List (List Point)
  pub bounds : IsBoundary rule Union (real_edges edges) [] rings
  -- they wind around the points of it, if each edge isn't moved among all, or runs along an axis, or isn't near the point
  pub inside : (point : RationalPoint) → All (IsExactAt edges point) edges → winding (flat_map ring_edges rings) point ≡ result_at rule Union edges [] point
  -- the polygons are around what the curve of these rings winds around, and that is the inside with what joins add to it
  pub wound : IsWound NonZero (joined_edges join corners rings) polygons
  pub joined : IsAround (λ point. IsOfJoined join corners rings point) (joined_edges join corners rings) polygons

-- Why the curve wasn't made: a corner of it is no point of 32 bits, or memory was refused.
abbrev pub IsJoinedFault : Join → FillRule → List Edge → List Point → MinkowskiFault → Type 0
IsJoinedFault join rule edges corners Lengths = ⊥
IsJoinedFault join rule edges corners Shape = ⊥
IsJoinedFault join rule edges corners Range = (rings : List (List Point)) × IsBoundary rule Union (real_edges edges) [] rings × (¬ (All IsIn32Bits (joined_edges join corners rings)))
IsJoinedFault join rule edges corners OutOfMemory = ⊤
