-- The shape turned by half a turn: it is convex around the origin too, and has the opposite of each point.
use Rattle.std.proofs.Common.{◌≡◌, ◌≢◌, ℤ, pos, ◌+ℤ◌, ◌-ℤ◌, ◌*ℤ◌, ◌≤ℤ◌, ◌<ℤ◌, List, [], ◌∷◌, ◌++◌, map, refl, ap, ap₂, subst, sym, ◌∙◌, arith}
use Rattle.std.specs.List.{All, AllPairs, zip}
use Rattle.std.proofs.lemmas.Int.{ints}
use Rattle.std.proofs.lemmas.List.{map-append}
use Rattle.std.proofs.lemmas.List.Elements.{All-weaker}
use Rattle.i_tree.proofs.RootLemmas.Joined.{All-of_map, All-to_map, AllPairs-to_map}
use Rattle.plane.specs.declared.edge.Edge.{Edge}
use Rattle.plane.specs.declared.point.Point.{Point}
use Rattle.plane.specs.Ends.{edge_between, end_of, start_of}
use Rattle.plane.specs.Lines.{height_over}
use Rattle.plane.specs.Meet.Crosses.{cross}
use Rattle.plane.specs.Meet.Edges.{RationalPoint}
use Rattle.plane.proofs.MeetLemmas.Identities.{identity, minus, number, times}
use Rattle.noding.specs.Windings.{pieces}
use Rattle.noding.proofs.SnapLemmas.Numbers.{n_of}
use Rattle.overlay.specs.Areas.{swept}
use Rattle.overlay.specs.Contours.Rings.{IsRing, ring_edges}
use Rattle.offset.specs.Shape.{IsConvexAroundOrigin, IsIn, IsLeftOf, neighbours, opposite, opposite_shape, sides, turn}

-- ---- the sides

-- The side on the other side of the origin.
abbrev pub opposite_side : Edge → Edge
opposite_side side = edge_between (opposite (start_of side)) (opposite (end_of side))

pieces-opposite : (chain : List Point) → pieces (map opposite chain) ≡ map opposite_side (pieces chain)
pieces-opposite [] = refl
pieces-opposite (one ∷ []) = refl
pieces-opposite (one ∷ next ∷ others) = ap (λ (edges : List Edge). opposite_side (edge_between one next) ∷ edges) (pieces-opposite (next ∷ others))

sides-opposite : (corners : List Point) → sides (opposite_shape corners) ≡ map opposite_side (sides corners)
sides-opposite [] = refl
sides-opposite (first ∷ others) =
    ap (λ (points : List Point). pieces (opposite first ∷ points)) (sym (map-append opposite others (first ∷ [])))
    ∙ pieces-opposite (first ∷ (others ++ first ∷ []))

-- each with the next one
abbrev both : Edge × Edge → Edge × Edge
both two = (opposite_side two.0, opposite_side two.1)

zip-both : (xs ys : List Edge) → zip (map opposite_side xs) (map opposite_side ys) ≡ map both (zip xs ys)
zip-both [] ys = refl
zip-both (x ∷ xs) [] = refl
zip-both (x ∷ xs) (y ∷ ys) = ap (λ (pairs : List (Edge × Edge)). (opposite_side x, opposite_side y) ∷ pairs) (zip-both xs ys)

neighbours-both : (xs : List Edge) → neighbours (map opposite_side xs) ≡ map both (neighbours xs)
neighbours-both [] = refl
neighbours-both (x ∷ xs) =
    ap (λ (ys : List Edge). zip (opposite_side x ∷ map opposite_side xs) ys) (sym (map-append opposite_side xs (x ∷ [])))
    ∙ zip-both (x ∷ xs) (xs ++ x ∷ [])

-- ---- what their cross products are

same-swept : (side : Edge) → swept (opposite_side side) ≡ swept side
same-swept side =
    let less = λ (z : ℤ). minus (n_of 0) (number z) in
    identity (minus (times (less side.x0) (less side.y1)) (times (less side.y0) (less side.x1))) (minus (times (number side.x0) (number side.y1)) (times (number side.y0) (number side.x1))) (omega arith)

same-turn : (one other : Edge) → turn (opposite_side one) (opposite_side other) ≡ turn one other
same-turn one other =
    let back = λ (a b : ℤ). minus (minus (n_of 0) (number b)) (minus (n_of 0) (number a)) in
    let way = λ (a b : ℤ). minus (number b) (number a) in
    identity (minus (times (back one.x0 one.x1) (back other.y0 other.y1)) (times (back one.y0 one.y1) (back other.x0 other.x1)))
    (minus (times (way one.x0 one.x1) (way other.y0 other.y1)) (times (way one.y0 one.y1) (way other.x0 other.x1))) (omega arith)

same-height : (side : Edge) (corner : Point) → height_over (opposite_side side) (opposite corner) ≡ height_over side corner
same-height side corner =
    let back = λ (a b : ℤ). minus (minus (n_of 0) (number b)) (minus (n_of 0) (number a)) in
    let way = λ (a b : ℤ). minus (number b) (number a) in
    identity (minus (times (back side.x0 side.x1) (back side.y0 corner.y)) (times (back side.y0 side.y1) (back side.x0 corner.x)))
    (minus (times (way side.x0 side.x1) (way side.y0 corner.y)) (times (way side.y0 side.y1) (way side.x0 corner.x))) (omega arith)

-- The point on the other side of the origin.
abbrev pub opposite_point : RationalPoint → RationalPoint
opposite_point point = record { n = point.n; x = pos 0 -ℤ point.x; y = pos 0 -ℤ point.y; positive = point.positive }

-- how far it lies to the left of a side
abbrev left_of : Edge → RationalPoint → ℤ
left_of side point = cross (side.x1 -ℤ side.x0) (side.y1 -ℤ side.y0) (point.x -ℤ (pos point.n *ℤ side.x0)) (point.y -ℤ (pos point.n *ℤ side.y0))

same-left : (side : Edge) (point : RationalPoint) → left_of (opposite_side side) point ≡ left_of side (opposite_point point)
same-left side point =
    let back = λ (a b : ℤ). minus (minus (n_of 0) (number b)) (minus (n_of 0) (number a)) in
    let way = λ (a b : ℤ). minus (number b) (number a) in
    let from = λ (p a : ℤ). minus (number p) (times (n_of point.n) (minus (n_of 0) (number a))) in
    let other = λ (p a : ℤ). minus (minus (n_of 0) (number p)) (times (n_of point.n) (number a)) in
    identity (minus (times (back side.x0 side.x1) (from point.y side.y0)) (times (back side.y0 side.y1) (from point.x side.x0)))
    (minus (times (way side.x0 side.x1) (other point.y side.y0)) (times (way side.y0 side.y1) (other point.x side.x0))) (omega arith)

same-opposite : (side : Edge) (point : RationalPoint) → left_of (opposite_side side) (opposite_point point) ≡ left_of side point
same-opposite side point =
    let back = λ (a b : ℤ). minus (minus (n_of 0) (number b)) (minus (n_of 0) (number a)) in
    let way = λ (a b : ℤ). minus (number b) (number a) in
    let from = λ (p a : ℤ). minus (minus (n_of 0) (number p)) (times (n_of point.n) (minus (n_of 0) (number a))) in
    let other = λ (p a : ℤ). minus (number p) (times (n_of point.n) (number a)) in
    identity (minus (times (back side.x0 side.x1) (from point.y side.y0)) (times (back side.y0 side.y1) (from point.x side.x0)))
    (minus (times (way side.x0 side.x1) (other point.y side.y0)) (times (way side.y0 side.y1) (other point.x side.x0))) (omega arith)

-- ---- the shape

opposite-same : (one other : Point) → opposite one ≡ opposite other → one ≡ other
opposite-same one other same =
    let x = ap (λ (p : Point). p.x) same in
    let y = ap (λ (p : Point). p.y) same in
    ap₂ at (omega (arith, ints, x)) (omega (arith, ints, y))
  where
    at : ℤ → ℤ → Point
    at a b = record { x = a; y = b }

some-opposite : (corners : List Point) → corners ≢ [] → opposite_shape corners ≢ []
some-opposite [] some is = some refl
some-opposite (corner ∷ corners) some is = cc

-- It is convex around the origin.
pub convex-opposite : (corners : List Point) → IsConvexAroundOrigin corners → IsConvexAroundOrigin (opposite_shape corners)
convex-opposite corners convex = record {
  ring = record {
    some = some-opposite corners convex.ring.some;
    once = AllPairs-to_map (λ (point later : Point). point ≢ later) opposite corners (λ i j d below within same. convex.ring.once i j d below within (opposite-same _ _ same));
  };
  left = subst (λ (all : List Edge). All (λ side. pos 0 <ℤ swept side) all) (sym (sides-opposite corners))
      (All-to_map (λ (side : Edge). pos 0 <ℤ swept side) opposite_side (sides corners)
      (All-weaker (λ (side : Edge). pos 0 <ℤ swept side) (λ (side : Edge). pos 0 <ℤ swept (opposite_side side)) (λ side above. let same = same-swept side in omega (arith, ints, above, same)) (sides corners) convex.left));
  turns = subst (λ (all : List (Edge × Edge)). All (λ two. pos 0 <ℤ turn two.0 two.1) all) (sym (ap neighbours (sides-opposite corners) ∙ neighbours-both (sides corners)))
      (All-to_map (λ (two : Edge × Edge). pos 0 <ℤ turn two.0 two.1) both (neighbours (sides corners))
      (All-weaker (λ (two : Edge × Edge). pos 0 <ℤ turn two.0 two.1) (λ (two : Edge × Edge). pos 0 <ℤ turn (opposite_side two.0) (opposite_side two.1)) (λ two above. let same = same-turn two.0 two.1 in omega (arith, ints, above, same)) (neighbours (sides corners)) convex.turns));
  convex = subst (λ (all : List Edge). All (λ side. All (λ corner. pos 0 ≤ℤ height_over side corner) (opposite_shape corners)) all) (sym (sides-opposite corners))
      (All-to_map (λ (side : Edge). All (λ corner. pos 0 ≤ℤ height_over side corner) (opposite_shape corners)) opposite_side (sides corners)
      (All-weaker (λ (side : Edge). All (λ corner. pos 0 ≤ℤ height_over side corner) corners) (λ (side : Edge). All (λ corner. pos 0 ≤ℤ height_over (opposite_side side) corner) (opposite_shape corners)) each (sides corners) convex.convex));
}
  where
    each : (side : Edge) → All (λ corner. pos 0 ≤ℤ height_over side corner) corners → All (λ corner. pos 0 ≤ℤ height_over (opposite_side side) corner) (opposite_shape corners)
    each side all =
        All-to_map (λ (corner : Point). pos 0 ≤ℤ height_over (opposite_side side) corner) opposite corners
        (All-weaker (λ (corner : Point). pos 0 ≤ℤ height_over side corner) (λ (corner : Point). pos 0 ≤ℤ height_over (opposite_side side) (opposite corner)) (λ corner above. let same = same-height side corner in omega (arith, ints, above, same)) corners all)

-- A point is of it whose opposite is of the shape, and the opposite of each point of the shape is.
pub of-opposite : (corners : List Point) (point : RationalPoint) → IsIn (opposite_shape corners) point → IsIn corners (opposite_point point)
of-opposite corners point inside =
    All-weaker (λ (side : Edge). IsLeftOf (opposite_side side) point) (λ (side : Edge). IsLeftOf side (opposite_point point)) (λ side above. let same = same-left side point in omega (arith, ints, above, same)) (sides corners)
    (All-of_map (λ (side : Edge). IsLeftOf side point) opposite_side (sides corners) (subst (λ (all : List Edge). All (λ side. IsLeftOf side point) all) (sides-opposite corners) inside))

pub opposite-of : (corners : List Point) (point : RationalPoint) → IsIn corners point → IsIn (opposite_shape corners) (opposite_point point)
opposite-of corners point inside =
    subst (λ (all : List Edge). All (λ side. IsLeftOf side (opposite_point point)) all) (sym (sides-opposite corners))
    (All-to_map (λ (side : Edge). IsLeftOf side (opposite_point point)) opposite_side (sides corners)
    (All-weaker (λ (side : Edge). IsLeftOf side point) (λ (side : Edge). IsLeftOf (opposite_side side) (opposite_point point)) (λ side above. let same = same-opposite side point in omega (arith, ints, above, same)) (sides corners) inside))
