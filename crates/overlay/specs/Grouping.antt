-- Rings of closed edges as polygons. For private contracts.
use Rattle.std.specs.Prelude.{ℕ, ◌≡◌, ◌≢◌, ◌⊎◌, ◌+◌, ◌*◌, ◌<◌, ◌≤◌, ◌≤ℤ◌, ◌<ℤ◌, ⊤, Bool, true, false, not, cond, ◌&&◌, List, [], ◌∷◌, ◌++◌, All, AllPairs, Contains, IfSome, Option, Some, None, ℤ, get_or, length, map}
use Rattle.std.specs.List.{between, flat_map}
use Rattle.std.specs.List.Sorted.{IsPermutation}
use Rattle.std.specs.Ordering.{int_eq}
use Rattle.plane.specs.declared.edge.Edge.{Edge}
use Rattle.plane.specs.declared.point.Point.{Point}
use Rattle.overlay.specs.declared.fill.pieces.Piece.{Piece}
use Rattle.overlay.specs.declared.fill.pieces.Operand.TheVariants.{Subject}
use Rattle.overlay.specs.Contours.Outlines.{next_or}
use Rattle.overlay.specs.Contours.Rings.{ring_edges}
use Rattle.overlay.specs.Fill.Begins.{BeginInOrder}
use Rattle.overlay.specs.Fill.Counts.{is_lower_on, is_over}
use Rattle.overlay.specs.Fill.Sweep.{no_piece}
use Rattle.overlay.specs.Fill.Turned.{piece_of, turned}
use Rattle.overlay.specs.Nesting.{IsNextBelow}
use Rattle.plane.specs.Ends.{edge_between}
use Rattle.plane.specs.SweepLine.Active.{Entry}
use Rattle.plane.specs.SweepLine.Heights.{rightwards}
use Rattle.overlay.specs.declared.grouping.holes.Hole.{Hole}
use Rattle.overlay.specs.declared.grouping.order.PlacedRing.{PlacedRing}
use Rattle.overlay.specs.declared.grouping.sides.Side.{Side}
use Rattle.overlay.specs.Polygons.{begins_before, first_sloped, is_counterclockwise}

-- ---- edges of rings

-- The edges from each of the points to the next, and from the last one to the point behind them.
abbrev pub edges_from : List Point → Point → List Edge
edges_from [] behind = []
edges_from (at ∷ points) behind = edge_between at (next_or points behind) ∷ edges_from points behind

-- Of the best edge so far and this one, the one that begins first. A vertical one doesn't count.
abbrev pub sooner : Option Edge → Edge → Option Edge
sooner best edge = cond (not (int_eq edge.x0 edge.x1) && begins_before edge best) (Some edge) best

abbrev pub pieces_of : List Side → List Piece
pieces_of sides = map (λ side. side.piece) sides

-- It goes rightwards.
abbrev pub IsRightward : Side → Type 0
IsRightward side = side.piece.edge.x0 <ℤ side.piece.edge.x1

-- It is an edge of the ring of its number, turned rightwards, that isn't vertical.
pub record IsSideOf (rings : List (List Point)) (side : Side) : Type 0 where
  pub edge : Edge
  pub within : side.ring < length rings
  pub among : Contains (ring_edges (get_or rings side.ring [])) edge
  pub sloped : edge.x0 ≢ edge.x1
  pub is : side.piece ≡ piece_of Subject edge

-- The edges that aren't vertical, turned rightwards, in the order in which they begin, each with the number of its ring.
pub record AreSides (rings : List (List Point)) (sides : List Side) : Type 0 where
  pub pieces : IsPermutation (turned Subject (flat_map ring_edges rings)) (pieces_of sides)
  pub order : BeginInOrder (pieces_of sides)
  pub of : All (IsSideOf rings) sides

-- ---- holes

-- It is the side of the ring of its number that begins first, and this is a hole.
pub record IsFirstOf (rings : List (List Point)) (side : Side) : Type 0 where
  pub edge : Edge
  pub within : side.ring < length rings
  pub hole : is_counterclockwise (get_or rings side.ring []) ≡ false
  pub first : first_sloped None (ring_edges (get_or rings side.ring [])) ≡ Some edge
  pub is : side.piece ≡ piece_of Subject edge

-- The first sides of the rings of numbers below this one that are holes, each once.
pub record AreFirstsUpto (rings : List (List Point)) (count : ℕ) (sides : List Side) : Type 0 where
  pub of : All (IsFirstOf rings) sides
  pub below : All (λ side. side.ring < count) sides
  pub each : (ring : ℕ) (edge : Edge) → ring < count → is_counterclockwise (get_or rings ring []) ≡ false → first_sloped None (ring_edges (get_or rings ring [])) ≡ Some edge → Contains (map (λ side. side.ring) sides) ring
  pub apart : AllPairs (λ one later. one.ring ≢ later.ring) sides

-- Those of all rings, in the order in which they begin.
pub record AreFirsts (rings : List (List Point)) (sides : List Side) : Type 0 where
  pub all : AreFirstsUpto rings (length rings) sides
  pub order : BeginInOrder (pieces_of sides)

abbrev pub firsts_of : List Hole → List Side
firsts_of holes = map (λ hole. hole.first) holes

-- Nothing is found below it yet.
abbrev pub IsUntold : Hole → Type 0
IsUntold hole = hole.below ≡ None

-- The edge is over the stretch at which the first one begins, and below it there. Both go rightwards.
pub record IsBelow (first edge : Edge) : Type 0 where
  pub over : is_over first.x0 edge ≡ true
  pub lower : is_lower_on first.x0 edge first ≡ true

-- Its first side is one of the rings, and so is what is found below it, where there is something.
pub record IsHoleOf (rings : List (List Point)) (hole : Hole) : Type 0 where
  pub first : IsSideOf rings hole.first
  pub below : IfSome hole.below (λ side. IsSideOf rings side × IsBelow hole.first.piece.edge side.piece.edge)

-- Where one of the edges is below the hole's first side, another is found there that isn't lower.
abbrev pub IsTold : List Edge → Hole → Type 0
IsTold edges hole =
    (edge : Edge) → Contains edges edge → IsBelow hole.first.piece.edge (rightwards edge)
    → (side : Side) × (hole.below ≡ Some side) × (is_lower_on hole.first.piece.edge.x0 side.piece.edge (rightwards edge) ≡ false)

-- Just below each hole's first side is what is found there.
pub record AreTold (rings : List (List Point)) (firsts : List Side) (holes : List Hole) : Type 0 where
  pub same : firsts_of holes ≡ firsts
  pub of : All (IsHoleOf rings) holes
  pub told : All (IsTold (flat_map ring_edges rings)) holes

-- On this stretch the side is above the best one so far, or there is none.
abbrev pub is_first_or_above : ℤ → Side → Option Side → Bool
is_first_or_above x side None = true
is_first_or_above x side (Some best) = is_lower_on x best.piece.edge side.piece.edge

-- The side is below the hole's first one, where this begins, and above what is found there so far.
abbrev pub is_next_below : Side → Hole → Bool
is_next_below side hole =
    let first = hole.first.piece.edge in
    is_over first.x0 side.piece.edge && (is_lower_on first.x0 side.piece.edge first && is_first_or_above first.x0 side hole.below)

-- The hole, and what is found below it once the side has been compared too.
abbrev pub with_side : Side → Hole → Hole
with_side side hole = cond (is_next_below side hole) (record { first = hole.first; below = Some side }) hole

-- Both ends of the edge are above this height.
abbrev pub AreEndsAbove : ℤ → Edge → Type 0
AreEndsAbove height edge = (height <ℤ edge.y0) × (height <ℤ edge.y1)

-- No end of the one edge is above an end of the other.
pub record AreEndsUpto (one other : Edge) : Type 0 where
  pub start : (one.y0 ≤ℤ other.y0) × (one.y0 ≤ℤ other.y1)
  pub end : (one.y1 ≤ℤ other.y0) × (one.y1 ≤ℤ other.y1)

-- The x at which each begins.
abbrev pub begins_of : List Side → List ℤ
begins_of sides = map (λ side. side.piece.edge.x0) sides

-- No number is above a later one.
abbrev pub Rise : List ℤ → Type 0
Rise xs = AllPairs (λ one later. one ≤ℤ later) xs

-- So many of the numbers, which rise, are less than x.
pub record AreBefore (xs : List ℤ) (x : ℤ) (count : ℕ) : Type 0 where
  pub within : count ≤ length xs
  pub less : (k : ℕ) (d : ℤ) → k < count → get_or xs k d <ℤ x
  pub upto : (k : ℕ) (d : ℤ) → count ≤ k → k < length xs → x ≤ℤ get_or xs k d

-- a side in place of none
abbrev pub no_side : Side
no_side = record { piece = no_piece; ring = 0 }

-- The side of the entry that was found.
abbrev pub side_found : List Side → Option Entry → Option Side
side_found sides None = None
side_found sides (Some entry) = Some (get_or sides entry.0.place no_side)

-- The edge is over the stretches at which those of the sides begin that stand from the one place on and before the other, and over
-- no others of these.
pub record ArePassed (edge : Edge) (start end : ℕ) (sides : List Side) : Type 0 where
  pub over : (k : ℕ) (d : Side) → start ≤ k → k < end → is_over (get_or sides k d).piece.edge.x0 edge ≡ true
  pub past : (k : ℕ) (d : Side) → k < length sides → (k < start) ⊎ (end ≤ k) → is_over (get_or sides k d).piece.edge.x0 edge ≡ false

-- ---- homes

abbrev pub is_outer : List Bool → ℕ → Bool
is_outer are_outer ring = get_or are_outer ring false

-- No other ring is an outer one.
abbrev pub IsOnlyOuter : List Bool → ℕ → Type 0
IsOnlyOuter are_outer outer = (ring : ℕ) → is_outer are_outer ring ≡ true → ring ≡ outer

-- Each ring has one, which is an outer ring.
pub record AreHomes (are_outer : List Bool) (homes : List ℕ) : Type 0 where
  pub size : length homes ≡ length are_outer
  pub outer : All (λ home. is_outer are_outer home ≡ true) homes

-- That of an outer ring is itself.
abbrev pub home_of : List Bool → List ℕ → ℕ → ℕ
home_of are_outer homes ring = cond (is_outer are_outer ring) ring (get_or homes ring 0)

-- What is found below a hole is of no later one.
abbrev pub AreInTurn : List Hole → Type 0
AreInTurn holes = AllPairs (λ one later. (one.first.ring ≢ later.first.ring) × IfSome one.below (λ side. side.ring ≢ later.first.ring)) holes

-- The hole has the home of what is found below it.
abbrev pub IsSettled : List Bool → List ℕ → Hole → Type 0
IsSettled are_outer homes hole = IfSome hole.below (λ side. home_of are_outer homes hole.first.ring ≡ home_of are_outer homes side.ring)

-- Each hole has the home of a ring that has the edge just below the hole's first one.
abbrev pub ShareHomes : List (List Point) → List Bool → List ℕ → Type 0
ShareHomes rings are_outer homes =
    (hole : ℕ) (first below : Edge) → hole < length rings → is_counterclockwise (get_or rings hole []) ≡ false → first_sloped None (ring_edges (get_or rings hole [])) ≡ Some first
    → IsNextBelow (flat_map ring_edges rings) (rightwards first).x0 below first
    → (ring : ℕ) × (ring < length rings) × Contains (ring_edges (get_or rings ring [])) below × (home_of are_outer homes hole ≡ home_of are_outer homes ring)

-- ---- placed rings

-- Those that stop at these ends, from the one of this number on, which starts there.
abbrev pub placed_from : List Bool → List ℕ → ℕ → ℕ → List ℕ → List PlacedRing
placed_from are_outer homes number start [] = []
placed_from are_outer homes number start (end ∷ ends) =
    record { home = home_of are_outer homes number; is_hole = not (is_outer are_outer number); start = start; end = end }
    ∷ placed_from are_outer homes (number + 1) end ends

-- its points
abbrev pub ring_in : List Point → PlacedRing → List Point
ring_in points ring = between ring.start ring.end points

-- each starts before it ends, and none ends behind the points
abbrev pub AreWithin : List Point → List PlacedRing → Type 0
AreWithin points rings = All (λ ring. (ring.start ≤ ring.end) × (ring.end ≤ length points)) rings

abbrev pub rank : PlacedRing → ℕ
rank ring = ring.home * 2 + cond ring.is_hole 1 0

-- ---- polygons

-- Each ring that is no hole begins a polygon, behind one that has some rings already.
abbrev pub polygons_from : List PlacedRing → List PlacedRing → List (List PlacedRing)
polygons_from polygon [] = polygon ∷ []
polygons_from polygon (ring ∷ rings) = cond ring.is_hole (polygons_from (polygon ++ ring ∷ []) rings) (polygon ∷ polygons_from (ring ∷ []) rings)

abbrev pub polygons_of : List PlacedRing → List (List PlacedRing)
polygons_of [] = []
polygons_of (ring ∷ rings) = polygons_from (ring ∷ []) rings

-- The polygons of rings in order.
abbrev pub placed_polygons : List Point → List PlacedRing → List (List (List Point))
placed_polygons points order = map (λ polygon. map (ring_in points) polygon) (polygons_of order)

-- Where each of these polygons stops, if the first one has so many rings already, or stands behind some.
abbrev pub ends_from : ℕ → List PlacedRing → List ℕ
ends_from end [] = end ∷ []
ends_from end (ring ∷ rings) = cond ring.is_hole (ends_from (end + 1) rings) (end ∷ ends_from (end + 1) rings)

-- none of them, or the first is no hole
abbrev pub BeginOutside : List PlacedRing → Type 0
BeginOutside [] = ⊤
BeginOutside (ring ∷ rings) = ring.is_hole ≡ false
