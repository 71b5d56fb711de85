-- A point that is near enough to edges lies in a band along one of them, or in a triangle at an end of one.
use Rattle.std.proofs.Common.{List, ap, arith, inl, inr, negsuc, pos, refl, subst, suc, sym, zero, ℕ, ℤ, ◌*ℤ◌, ◌+ℤ◌, ◌-ℤ◌, ◌<ℤ◌, ◌≡◌, ◌≢◌, ◌≤ℤ◌, ◌⊎◌, ◌∙◌}
use Rattle.std.specs.Prelude.{Contains}
use Rattle.std.proofs.lemmas.Int.{by_lt_z, ints}
use Rattle.plane.specs.declared.edge.Edge.{Edge}
use Rattle.plane.specs.declared.point.Point.{Point}
use Rattle.plane.specs.Ends.{end_of, start_of}
use Rattle.plane.specs.Meet.Crosses.{cross}
use Rattle.plane.specs.Meet.Edges.{IsOf, RationalPoint}
use Rattle.plane.specs.Meet.Kinds.{IsEnd}
use Rattle.plane.proofs.MeetLemmas.Identities.{Term, identity, minus, number, plus, times}
use Rattle.offset.proofs.CoverLemmas.Directions.{dot, goes-along, not-after, turns-left}
use Rattle.offset.proofs.CoverLemmas.Meets.{meets-at_start}
use Rattle.offset.proofs.CoverLemmas.Near.{IsAsNear, IsFoot, IsKind, IsOffLines, NearestOfAll, along, nearest-of_all, one_times}
use Rattle.offset.proofs.CoverLemmas.Numbers.{none, positive-factor, positive-product, scaled-most, unscaled-most}
use Rattle.offset.proofs.CoverLemmas.Shapes.{IsFurthest, IsShape, IsTop, between-top, by_ends, by_sides, furthest-most, furthest-right, reach-ends, side-ends, top, top-after, top-before}
use Rattle.offset.proofs.CoverLemmas.Sides.{IsBetween, MeetsAtStart, ahead, ahead-end, apart, apart-whole, back, side_of, whole}
use Rattle.offset.proofs.CoverLemmas.Vectors.{crossed, crossing, reach, term, way, wide}
use Rattle.offset.proofs.CoverLemmas.Vertices.{IsVertex, ends-below, starts-below, vertex-meets, vertex-reach}

-- Two edges of which the other begins where the one ends.
pub record IsJoint (edges : List Edge) (one other : Edge) : Type 0 where
  pub before : Contains edges one
  pub after : Contains edges other
  pub joined : end_of one ≡ start_of other

-- Edges that go round, and the pairs of those that follow each other.
pub record IsRound (edges : List Edge) (joints : List (Edge × Edge)) : Type 0 where
  pub joint : (one other : Edge) → Contains joints (one, other) → IsJoint edges one other
  pub next : (edge : Edge) → Contains edges edge → (other : Edge) × Contains joints (edge, other)
  pub previous : (edge : Edge) → Contains edges edge → (other : Edge) × Contains joints (other, edge)

-- The point is on no line along an edge, from an end of one along a corner, along an edge that is moved by a corner, or along a
-- side that is moved by an end.
pub record IsGeneric (sides edges : List Edge) (point : RationalPoint) : Type 0 where
  pub off : (edge : Edge) → Contains edges edge → IsOffLines sides point edge
  pub band : (edge side : Edge) → Contains edges edge → Contains sides side → (pos 0 -ℤ side_of edge point) ≢ (pos point.n *ℤ (pos 0 -ℤ crossed (way edge) (start_of side)))
  pub triangle : (edge side : Edge) → Contains edges edge → Contains sides side → reach side (ahead point (end_of edge)) ≢ (pos point.n *ℤ wide side)

-- Where the way from a point inside an edge meets no other one, the point is right of that edge.
abbrev pub RightOfInner : List Edge → RationalPoint → Type 0
RightOfInner edges point =
    (edge : Edge) (from : RationalPoint) → Contains edges edge → IsOf edge from → ¬ (IsEnd edge from) → MeetsAtStart edges from point → side_of edge point ≢ pos 0 → side_of edge point <ℤ pos 0

-- An edge that ends there, and going counterclockwise from it none at that point is passed before the way to the other point.
abbrev pub EndsLast : List Edge → RationalPoint → Point → Type 0
EndsLast edges point vertex =
    (edge : Edge) × Contains edges edge × (end_of edge ≡ vertex)
    × ((other : Edge) → Contains edges other → end_of other ≡ vertex → ¬ (IsBetween (back edge) (back other) (ahead point vertex)))
    × ((other : Edge) → Contains edges other → start_of other ≡ vertex → ¬ (IsBetween (back edge) (way other) (ahead point vertex)))

-- Where the way from an end meets no edge, and those at that end all go off to one side, there is such an edge.
abbrev pub LastOfSide : List Edge → RationalPoint → Type 0
LastOfSide edges point =
    (vertex : Point) (x y : ℤ) → (edge : Edge) × Contains edges edge × (end_of edge ≡ vertex) → MeetsAtStart edges (whole vertex) point
    → pos 0 <ℤ cross (ahead point vertex).x (ahead point vertex).y x y
    → ((edge : Edge) → Contains edges edge → end_of edge ≡ vertex → pos 0 ≤ℤ cross (way edge).x (way edge).y x y)
    → ((edge : Edge) → Contains edges edge → start_of edge ≡ vertex → cross (way edge).x (way edge).y x y ≤ℤ pos 0)
    → ((edge : Edge) → Contains edges edge → side_of edge point ≢ pos 0)
    → EndsLast edges point vertex

-- No edge turns back where another one ends.
abbrev pub NoneTurnsBack : List Edge → Type 0
NoneTurnsBack edges =
    (edge next : Edge) → Contains edges edge → Contains edges next → end_of edge ≡ start_of next → crossed (way edge) (way next) ≡ pos 0 → pos 0 <ℤ dot (way edge) (way next)

-- The point lies inside the parallelogram between an edge and the edge moved by the corner that is furthest to the right of it.
pub record IsInBand (edges : List Edge) (pairs : List (Edge × Edge)) (point : RationalPoint) : Type 0 where
  pub edge : Edge
  pub one : Edge
  pub corner : Edge
  pub among : Contains edges edge
  pub furthest : IsFurthest pairs (way edge) one corner
  pub right : side_of edge point <ℤ pos 0
  pub after : crossed (ahead point (start_of edge)) (start_of corner) <ℤ pos 0
  pub before : pos 0 <ℤ crossed (ahead point (end_of edge)) (start_of corner)
  pub within : (pos 0 -ℤ side_of edge point) <ℤ (pos point.n *ℤ (pos 0 -ℤ crossed (way edge) (start_of corner)))

-- The point lies inside the triangle of an end, where the edges turn left, and of a side between their furthest corners, moved by
-- that end.
pub record IsInTriangle (sides : List Edge) (joints : List (Edge × Edge)) (point : RationalPoint) : Type 0 where
  pub edge : Edge
  pub next : Edge
  pub side : Edge
  pub joint : Contains joints (edge, next)
  pub left : pos 0 <ℤ crossed (way edge) (way next)
  pub of : Contains sides side
  pub from : pos 0 ≤ℤ crossed (way edge) (way side)
  pub upto : crossed (way next) (way side) <ℤ pos 0
  pub after : crossed (ahead point (end_of edge)) (start_of side) <ℤ pos 0
  pub before : pos 0 <ℤ crossed (ahead point (end_of edge)) (end_of side)
  pub within : reach side (ahead point (end_of edge)) <ℤ (pos point.n *ℤ wide side)

abbrev pub IsCovered : List Edge → List (Edge × Edge) → List Edge → List (Edge × Edge) → RationalPoint → Type 0
IsCovered sides pairs edges joints point = IsInBand edges pairs point ⊎ IsInTriangle sides joints point

strictly : (a b : ℤ) → a ≤ℤ b → a ≢ b → a <ℤ b
strictly a b most isnt = by_lt_z a b (λ less. less) (λ from. absurd (isnt (omega (arith, ints, most, from))))

-- ---- sliding along an edge

-- how far across an edge a point is, where it isn't further than the shape
across : (n d h q r : ℤ) → pos 0 <ℤ d → pos 0 ≤ℤ q → (h *ℤ d) ≤ℤ (r *ℤ q) → r ≤ℤ (n *ℤ d) → h ≤ℤ (n *ℤ q)
across n d h q r some q_above first second =
    let most = scaled-most q r (n *ℤ d) q_above second in
    let turn = identity (times (number q) (number r)) (times (number r) (number q)) (omega arith) in
    let last = identity (times (number q) (times (number n) (number d))) (times (number d) (times (number n) (number q))) (omega arith) in
    let left = identity (times (number d) (number h)) (times (number h) (number d)) (omega arith) in
    unscaled-most d h (n *ℤ q) some (omega (arith, ints, first, most, turn, last, left))

-- an edge along a side: the side begins at the furthest corner of the edge
along-furthest : (sides : List Edge) (pairs : List (Edge × Edge)) → IsShape sides pairs → (d x : Point) (one side : Edge) → Contains pairs (one, side) → crossed d (way side) ≡ pos 0 → crossed d x <ℤ pos 0 → pos 0 <ℤ reach side x → IsFurthest pairs d one side
along-furthest sides pairs shape d x one side pair none_is right far =
    let corner = shape.corner one side pair in
    let turn = crossed (way one) (way side) in
    let same = by_sides (way one) (way side) d x in
    let gone = ap (λ z. z *ℤ crossed x (way one)) none_is in
    let none_more = identity (times none (number (crossed x (way one)))) none (omega arith) in
    let product = positive-product turn (pos 0 -ℤ crossed d x) corner.left (omega (arith, ints, right)) in
    let turned = identity (times (number turn) (minus none (number (crossed d x)))) (minus none (times (number turn) (number (crossed d x)))) (omega arith) in
    let swap = identity (times (number (reach side x)) (minus none (number (crossed d (way one))))) (minus none (times (number (crossed d (way one))) (number (reach side x)))) (omega arith) in
    let above = positive-factor (reach side x) (pos 0 -ℤ crossed d (way one)) far (omega (arith, ints, same, gone, none_more, product, turned, swap)) in
    record {
      pair = pair;
      before = omega (arith, ints, above);
      after = omega (arith, ints, none_is);
    }

-- the vertex at the end of such an edge, and nearer to the side's start
pub record IsNext (sides edges : List Edge) (point : RationalPoint) (edge side : Edge) : Type 0 where
  pub vertex : IsVertex sides edges point (end_of edge) side
  pub less : crossed (ahead point (start_of edge)) (start_of side) <ℤ crossed (ahead point (end_of edge)) (start_of side)

slide : (sides : List Edge) (pairs : List (Edge × Edge)) → IsShape sides pairs → (edges : List Edge) (point : RationalPoint) → IsGeneric sides edges point → (edge side : Edge) → Contains edges edge → IsVertex sides edges point (start_of edge) side → crossed (way edge) (way side) ≡ pos 0 → side_of edge point <ℤ pos 0 → IsInBand edges pairs point ⊎ IsNext sides edges point edge side
slide sides pairs shape edges point generic edge side of_edges is none_is right =
    let d = way edge in
    let x = ahead point (start_of edge) in
    let w = ahead point (end_of edge) in
    let far = vertex-reach sides edges point (start_of edge) side is in
    let after = is.after in
    let before = is.before in
    let (one, pair) = shape.previous side is.of in
    let furthest = along-furthest sides pairs shape d x one side pair none_is right far in
    let to_right = furthest-right sides pairs shape d one side furthest in
    let is_top = between-top sides pairs shape x side is.of (omega (arith, ints, after)) (omega (arith, ints, before)) in
    let most = furthest-most sides pairs shape d one side furthest x side is_top in
    let upto = across (pos point.n) (wide side) (pos 0 -ℤ crossed d x) (pos 0 -ℤ crossed d (start_of side)) (reach side x) (shape.around side is.of) (omega (arith, ints, to_right)) most is.within in
    let some = point.positive in
    let shorter = positive-product (pos point.n) (pos 0 -ℤ crossed d (start_of side)) (omega (arith, ints, some)) (omega (arith, ints, to_right)) in
    let turned = identity (times (number (pos point.n)) (minus none (number (crossed d (start_of side))))) (minus none (times (number (pos point.n)) (number (crossed d (start_of side))))) (omega arith) in
    let to_start = ahead-end edge point (start_of side) in
    let to_end = ahead-end edge point (end_of side) in
    let to_side = ahead-end edge point (way side) in
    let gone = ap (λ z. pos point.n *ℤ z) none_is in
    let none_more = identity (times (number (pos point.n)) none) none (omega arith) in
    let ends = side-ends side d in
    let same_end : crossed d (end_of side) ≡ crossed d (start_of side) = omega (arith, ints, ends, none_is) in
    let end_more = ap (λ z. pos point.n *ℤ z) same_end in
    let same_reach : reach side x ≡ reach side w = omega (arith, ints, to_side, gone, none_more) in
    let off = (generic.off edge of_edges).end side is.of in
    by_lt_z (pos 0) (crossed w (start_of side))
    (λ inside. inl (record {
      edge = edge;
      one = one;
      corner = side;
      among = of_edges;
      furthest = furthest;
      right = right;
      after = is.after;
      before = inside;
      within = strictly (pos 0 -ℤ side_of edge point) (pos point.n *ℤ (pos 0 -ℤ crossed d (start_of side))) upto (generic.band edge side of_edges is.of);
    }))
    (λ behind. inr (record {
      vertex = record {
        of = is.of;
        after = strictly (crossed w (start_of side)) (pos 0) behind off;
        before = omega (arith, ints, before, to_end, end_more, shorter, turned);
        least = λ other_edge other other_side of_other of is_other.
            subst (λ (z : ℤ). (z *ℤ (pos other.n *ℤ wide other_side)) ≤ℤ (reach other_side (apart point other) *ℤ wide side)) same_reach (is.least other_edge other other_side of_other of is_other);
        within = subst (λ (z : ℤ). z ≤ℤ (pos point.n *ℤ wide side)) same_reach is.within;
      };
      less = omega (arith, ints, to_start, shorter, turned);
    }))

-- ---- at a vertex

back_is : (edge : Edge) (v : Point) → crossed (back edge) v ≡ (pos 0 -ℤ crossed (way edge) v)
back_is edge v =
    let cut = λ (a b : ℤ). minus (number a) (number b) in
    identity
    (minus (times (cut edge.x0 edge.x1) (number v.y)) (times (cut edge.y0 edge.y1) (number v.x)))
    (minus none (minus (times (cut edge.x1 edge.x0) (number v.y)) (times (cut edge.y1 edge.y0) (number v.x))))
    (omega arith)

-- what is known of the edges and the point
pub record IsKnown (sides : List Edge) (pairs : List (Edge × Edge)) (edges : List Edge) (joints : List (Edge × Edge)) (point : RationalPoint) : Type 0 where
  pub shape : IsShape sides pairs
  pub round : IsRound edges joints
  pub generic : IsGeneric sides edges point
  pub last : LastOfSide edges point
  pub none_back : NoneTurnsBack edges

-- the edge and the next one, at the vertex between them
at_joint : (sides : List Edge) (pairs : List (Edge × Edge)) (edges : List Edge) (joints : List (Edge × Edge)) (point : RationalPoint) → IsKnown sides pairs edges joints point → (edge next side : Edge) → Contains joints (edge, next) → IsVertex sides edges point (end_of edge) side → ¬ (IsBetween (back edge) (way next) (ahead point (end_of edge))) → IsCovered sides pairs edges joints point ⊎ IsNext sides edges point next side
at_joint sides pairs edges joints point known edge next side pair is not_between =
    let joint = known.round.joint edge next pair in
    let f = way side in
    let x = ahead point (end_of edge) in
    let d = way edge in
    let e = way next in
    let from = ends-below sides pairs known.shape edges point (end_of edge) side is edge joint.before refl in
    let upto = starts-below sides pairs known.shape edges point (end_of edge) side is next joint.after (sym joint.joined) in
    let far = vertex-reach sides edges point (end_of edge) side is in
    let back_side = back_is edge f in
    let back_next = back_is edge e in
    let back_below : crossed (back edge) f ≤ℤ pos 0 = omega (arith, ints, back_side, from) in
    let back_upto = not-after (back edge) e x f back_below upto far not_between in
    let not_right : pos 0 ≤ℤ crossed d e = omega (arith, ints, back_next, back_upto) in
    let on = known.none_back edge next joint.before joint.after joint.joined in
    by_lt_z (crossed e f) (pos 0)
    (λ below. inl (inr (record {
      edge = edge;
      next = next;
      side = side;
      joint = pair;
      left = turns-left d e f from below not_right on;
      of = is.of;
      from = from;
      upto = below;
      after = is.after;
      before = is.before;
      within = strictly (reach side x) (pos point.n *ℤ wide side) is.within (known.generic.triangle edge side joint.before is.of);
    })))
    (λ above.
    let none_is : crossed e f ≡ pos 0 = omega (arith, ints, above, upto) in
    let right = goes-along (back edge) d e x f (back_is edge) back_below none_is far not_between back_upto on in
    let right_next : side_of next point ≤ℤ pos 0 = subst (λ (v : Point). crossed e (ahead point v) ≤ℤ pos 0) joint.joined right in
    let here = subst (λ (v : Point). IsVertex sides edges point v side) joint.joined is in
    elim (slide sides pairs known.shape edges point known.generic next side joint.after here none_is (strictly (side_of next point) (pos 0) right_next (known.generic.off next joint.after).off)) [
      | inl band ↦ inl (inl band)
      | inr more ↦ inr more
    ])

-- the edge that ends last at the vertex, and the next one
at_vertex : (sides : List Edge) (pairs : List (Edge × Edge)) (edges : List Edge) (joints : List (Edge × Edge)) (point : RationalPoint) → IsKnown sides pairs edges joints point → (side : Edge) (vertex : Point) → IsVertex sides edges point vertex side → (some : Edge) → Contains edges some → end_of some ≡ vertex → IsCovered sides pairs edges joints point ⊎ (next : Edge) × Contains edges next × (start_of next ≡ vertex) × IsNext sides edges point next side
at_vertex sides pairs edges joints point known side vertex is some of_some at_some =
    let f = way side in
    let (edge, of_edge, at_edge, not_ends, not_starts) = known.last vertex f.x f.y (some, of_some, at_some)
    (vertex-meets sides pairs known.shape edges point vertex side is)
    (vertex-reach sides edges point vertex side is)
    (ends-below sides pairs known.shape edges point vertex side is)
    (starts-below sides pairs known.shape edges point vertex side is)
    (λ one of. (known.generic.off one of).off) in
    let (next, pair) = known.round.next edge of_edge in
    let joint = known.round.joint edge next pair in
    let at_next : start_of next ≡ vertex = sym joint.joined ∙ at_edge in
    let here = subst (λ (v : Point). IsVertex sides edges point v side) (sym at_edge) is in
    let not_between = subst (λ (v : Point). ¬ (IsBetween (back edge) (way next) (ahead point v))) (sym at_edge) (not_starts next joint.after at_next) in
    elim (at_joint sides pairs edges joints point known edge next side pair here not_between) [
      | inl covered ↦ inl covered
      | inr more ↦ inr (next, joint.after, at_next, more)
    ]

-- Where the nearest point is an end, the point is covered: at that end, or at one that it slides on to. So many steps are enough.
at_vertices : (sides : List Edge) (pairs : List (Edge × Edge)) (edges : List Edge) (joints : List (Edge × Edge)) (point : RationalPoint) → IsKnown sides pairs edges joints point → (side : Edge) (k : ℕ) (vertex : Point) → IsVertex sides edges point vertex side → (some : Edge) → Contains edges some → end_of some ≡ vertex → (pos 0 -ℤ crossed (ahead point vertex) (start_of side)) ≤ℤ pos k → IsCovered sides pairs edges joints point
at_vertices sides pairs edges joints point known side zero vertex is some of_some at_some left =
    absurd (let after = is.after in omega (arith, ints, after, left))
at_vertices sides pairs edges joints point known side (suc k) vertex is some of_some at_some left =
    elim (at_vertex sides pairs edges joints point known side vertex is some of_some at_some) [
      | inl covered ↦ covered
      | inr more ↦
          let (next, of_next, at_next, on) = more in
          let less = subst (λ (v : Point). crossed (ahead point v) (start_of side) <ℤ crossed (ahead point (end_of next)) (start_of side)) at_next on.less in
          at_vertices sides pairs edges joints point known side k (end_of next) on.vertex next of_next refl (omega (arith, ints, left, less))
    ]

-- ---- the nearest point

-- the nearest point as a vertex
as_vertex : (sides : List Edge) (pairs : List (Edge × Edge)) → IsShape sides pairs → (edges : List Edge) (point : RationalPoint) (vertex : Point) (side : Edge) → ((corner : Edge) → Contains sides corner → crossed (ahead point vertex) (start_of corner) ≢ pos 0) → IsTop sides (apart point (whole vertex)) side → ((edge : Edge) (other : RationalPoint) (other_side : Edge) → Contains edges edge → IsOf edge other → IsTop sides (apart point other) other_side → IsAsNear point (whole vertex) side other other_side) → reach side (apart point (whole vertex)) ≤ℤ (pos point.n *ℤ (pos 1 *ℤ wide side)) → IsVertex sides edges point vertex side
as_vertex sides pairs shape edges point vertex side off is_top least within =
    let x = ahead point vertex in
    let (next, pair) = shape.next side is_top.of in
    let corner = shape.corner side next pair in
    let from = top-after sides pairs shape (apart point (whole vertex)) side is_top in
    let to = top-before sides pairs shape (apart point (whole vertex)) side is_top in
    let from_is = apart-whole point vertex (start_of side) in
    let to_is = apart-whole point vertex (end_of side) in
    let side_is = apart-whole point vertex (way side) in
    let not_start = off side is_top.of in
    let not_end = subst (λ (v : Point). crossed x v ≢ pos 0) (sym corner.joined) (off next corner.after) in
    let once = one_times (wide side) in
    let more = ap (λ z. pos point.n *ℤ z) once in
    record {
      of = is_top.of;
      after = strictly (crossed x (start_of side)) (pos 0) (omega (arith, ints, from, from_is)) not_start;
      before = strictly (pos 0) (crossed x (end_of side)) (omega (arith, ints, to, to_is)) (λ none_is. not_end (sym none_is));
      least = λ edge other other_side of_edges of is.
          let near = least edge other other_side of_edges of is in
          let first = ap (λ z. z *ℤ (pos other.n *ℤ wide other_side)) side_is in
          let second = ap (λ z. reach other_side (apart point other) *ℤ z) once in
          omega (arith, ints, near, first, second);
      within = omega (arith, ints, within, side_is, more);
    }

-- a vector that isn't along a direction reaches its side
reach-some : (sides : List Edge) (pairs : List (Edge × Edge)) → IsShape sides pairs → (x d : Point) (side : Edge) → IsTop sides x side → crossed x d ≢ pos 0 → pos 0 <ℤ reach side x
reach-some sides pairs shape x d side is_top isnt = by_lt_z (pos 0) (reach side x)
    (λ some. some)
    (λ upto.
    let from = top-after sides pairs shape x side is_top in
    let to = top-before sides pairs shape x side is_top in
    let sum = reach-ends side x in
    let no_start : crossed x (start_of side) ≡ pos 0 = omega (arith, ints, from, to, sum, upto) in
    let no_end : crossed x (end_of side) ≡ pos 0 = omega (arith, ints, from, to, sum, upto) in
    let a = crossed (start_of side) d in
    let b = crossed (end_of side) d in
    let same = by_ends (start_of side) (end_of side) x d
    ∙ ap (λ z. (z *ℤ a) +ℤ ((pos 0 -ℤ crossed x (start_of side)) *ℤ b)) no_end
    ∙ ap (λ z. (pos 0 *ℤ a) +ℤ ((pos 0 -ℤ z) *ℤ b)) no_start
    ∙ identity (plus (times none (number a)) (times (minus none none) (number b))) none (omega arith) in
    let around = shape.around side is_top.of in
    let value = crossed x d in
    let turned = identity (times (number (wide side)) (minus none (number value))) (minus none (times (number (wide side)) (number value))) (omega arith) in
    absurd (isnt (by_lt_z (pos 0) value
    (λ above.
    let product = positive-product (wide side) value around above in
    absurd (omega (arith, ints, product, same)))
    (λ most. by_lt_z value (pos 0)
    (λ below.
    let product = positive-product (wide side) (pos 0 -ℤ value) around (omega (arith, ints, below)) in
    absurd (omega (arith, ints, product, turned, same)))
    (λ least. omega (arith, ints, most, least))))))

-- The way from the one point to the other is a vector of the shape.
abbrev pub IsReached : List Edge → RationalPoint → RationalPoint → Type 0
IsReached sides point from = (side : Edge) → Contains sides side → reach side (apart point from) ≤ℤ ((pos from.n *ℤ pos point.n) *ℤ wide side)

-- a point that is as near as another one is reached, if that is
near-reached : (n r d r' n' d' m : ℤ) → pos 0 <ℤ n' → pos 0 <ℤ d' → pos 0 <ℤ m → pos 0 <ℤ d → (r *ℤ (n' *ℤ d')) ≤ℤ (r' *ℤ (m *ℤ d)) → r' ≤ℤ ((n' *ℤ n) *ℤ d') → r ≤ℤ (n *ℤ (m *ℤ d))
near-reached n r d r' n' d' m n'_some d'_some m_some d_some near upto =
    let v = λ (z : ℤ). number z in
    let by = λ (s t : Term). times s t in
    let part = positive-product m d m_some d_some in
    let most = scaled-most (m *ℤ d) r' ((n' *ℤ n) *ℤ d') (omega (arith, ints, part)) upto in
    let first = identity (by (by (v m) (v d)) (v r')) (by (v r') (by (v m) (v d))) (omega arith) in
    let second = identity (by (by (v m) (v d)) (by (by (v n') (v n)) (v d'))) (by (by (v n') (v d')) (by (v n) (by (v m) (v d)))) (omega arith) in
    let third = identity (by (by (v n') (v d')) (v r)) (by (v r) (by (v n') (v d'))) (omega arith) in
    unscaled-most (n' *ℤ d') r (n *ℤ (m *ℤ d)) (positive-product n' d' n'_some d'_some) (omega (arith, ints, near, most, first, second, third))

foot-within : (n r q h m d : ℤ) → pos 0 <ℤ m → pos 0 <ℤ d → pos 0 ≤ℤ q → (r *ℤ q) ≡ (h *ℤ (m *ℤ d)) → r ≤ℤ (n *ℤ (m *ℤ d)) → h ≤ℤ (n *ℤ q)
foot-within n r q h m d m_some d_some q_above far upto =
    let v = λ (z : ℤ). number z in
    let by = λ (s t : Term). times s t in
    let most = scaled-most q r (n *ℤ (m *ℤ d)) q_above upto in
    let first = identity (by (v q) (v r)) (by (v r) (v q)) (omega arith) in
    let second = identity (by (v q) (by (v n) (by (v m) (v d)))) (by (by (v m) (v d)) (by (v n) (v q))) (omega arith) in
    let third = identity (by (by (v m) (v d)) (v h)) (by (v h) (by (v m) (v d))) (omega arith) in
    unscaled-most (m *ℤ d) h (n *ℤ q) (positive-product m d m_some d_some) (omega (arith, ints, most, first, second, third, far))

-- the way from a nearest point inside an edge, whose band the point lies in
at_inner : (sides : List Edge) (pairs : List (Edge × Edge)) (edges : List Edge) (joints : List (Edge × Edge)) (point : RationalPoint) → IsKnown sides pairs edges joints point → RightOfInner edges point → (found : NearestOfAll sides pairs point edges) → reach found.near.side (apart point found.near.from) ≤ℤ (pos point.n *ℤ (pos found.near.from.n *ℤ wide found.near.side)) → ¬ (IsEnd found.edge found.near.from) → (side_of found.edge point <ℤ pos 0 → IsFoot pairs found.edge point found.near.from found.near.side) → IsInBand edges pairs point
at_inner sides pairs edges joints point known right_of found within not_end foot_of =
    let edge = found.edge in
    let near = found.near in
    let d = way edge in
    let y = apart point near.from in
    let off = (known.generic.off edge found.among).off in
    let around = known.shape.around near.side near.is_top.of in
    let some = near.from.positive in
    let right = right_of edge near.from found.among near.of not_end
    (meets-at_start sides edges point near.from near.side near.is_top around
    (reach-some sides pairs known.shape y d near.side near.is_top (not_along edge near.from near.of off))
    found.least)
    off in
    let foot = foot_of right in
    let to_right = furthest-right sides pairs known.shape d foot.one foot.other foot.furthest in
    let corner = known.shape.corner foot.one foot.other foot.furthest.pair in
    record {
      edge = edge;
      one = foot.one;
      corner = foot.other;
      among = found.among;
      furthest = foot.furthest;
      right = right;
      after = foot.after;
      before = foot.before;
      within = strictly (pos 0 -ℤ side_of edge point) (pos point.n *ℤ (pos 0 -ℤ crossed d (start_of foot.other)))
          (foot-within (pos point.n) (reach near.side y) (pos 0 -ℤ crossed d (start_of foot.other)) (pos 0 -ℤ side_of edge point) (pos near.from.n) (wide near.side) (omega (arith, ints, some)) around (omega (arith, ints, to_right)) foot.far within)
          (known.generic.band edge foot.other found.among corner.after);
    }
  where
    not_along : (edge : Edge) (from : RationalPoint) → IsOf edge from → side_of edge point ≢ pos 0 → crossed (apart point from) (way edge) ≢ pos 0
    not_along edge from (a, at) off none_is =
        let is = along edge point from a at in
        let turn = identity (crossing (term (way edge)) (term (apart point from))) (minus none (crossing (term (apart point from)) (term (way edge)))) (omega arith) in
        let some = from.positive in
        let side = side_of edge point in
        let product : (pos from.n *ℤ (pos 0 -ℤ side)) ≡ pos 0 = omega (arith, ints, is, turn, none_is) in
        let turned = identity (times (number (pos from.n)) (minus none (number side))) (minus none (times (number (pos from.n)) (number side))) (omega arith) in
        off (by_lt_z (pos 0) side
        (λ above.
        let more = positive-product (pos from.n) side (omega (arith, ints, some)) above in
        absurd (omega (arith, ints, more, product, turned)))
        (λ most. by_lt_z side (pos 0)
        (λ below.
        let more = positive-product (pos from.n) (pos 0 -ℤ side) (omega (arith, ints, some)) (omega (arith, ints, below)) in
        absurd (omega (arith, ints, more, product)))
        (λ least. omega (arith, ints, most, least))))

-- a natural number that bounds another one
up_bound : (z : ℤ) → z <ℤ pos 0 → (k : ℕ) × ((pos 0 -ℤ z) ≤ℤ pos k)
up_bound (pos k) below = absurd (omega (arith, ints, below))
up_bound (negsuc k) below = (suc k, omega (arith, ints))

from_vertex : (sides : List Edge) (pairs : List (Edge × Edge)) (edges : List Edge) (joints : List (Edge × Edge)) (point : RationalPoint) → IsKnown sides pairs edges joints point → (side : Edge) (vertex : Point) → IsVertex sides edges point vertex side → (some : Edge) → Contains edges some → end_of some ≡ vertex → IsCovered sides pairs edges joints point
from_vertex sides pairs edges joints point known side vertex is some of_some at_some =
    let (k, most) = up_bound (crossed (ahead point vertex) (start_of side)) is.after in
    at_vertices sides pairs edges joints point known side k vertex is some of_some at_some most

by_kind : (sides : List Edge) (pairs : List (Edge × Edge)) (edges : List Edge) (joints : List (Edge × Edge)) (point : RationalPoint) → IsKnown sides pairs edges joints point → RightOfInner edges point → (found : NearestOfAll sides pairs point edges) → reach found.near.side (apart point found.near.from) ≤ℤ (pos point.n *ℤ (pos found.near.from.n *ℤ wide found.near.side)) → IsKind pairs found.edge point found.near.from found.near.side → IsCovered sides pairs edges joints point
by_kind sides pairs edges joints point known right_of found within (inl at) =
    let (some, pair) = known.round.previous found.edge found.among in
    let joint = known.round.joint some found.edge pair in
    let side = found.near.side in
    let is = as_vertex sides pairs known.shape edges point (start_of found.edge) side (known.generic.off found.edge found.among).start
    (subst (λ (from : RationalPoint). IsTop sides (apart point from) side) at found.near.is_top)
    (subst (λ (from : RationalPoint). (edge : Edge) (other : RationalPoint) (other_side : Edge) → Contains edges edge → IsOf edge other → IsTop sides (apart point other) other_side → IsAsNear point from side other other_side) at found.least)
    (subst (λ (from : RationalPoint). reach side (apart point from) ≤ℤ (pos point.n *ℤ (pos from.n *ℤ wide side))) at within) in
    from_vertex sides pairs edges joints point known side (start_of found.edge) is some joint.before joint.joined
by_kind sides pairs edges joints point known right_of found within (inr (inl at)) =
    let side = found.near.side in
    let is = as_vertex sides pairs known.shape edges point (end_of found.edge) side (known.generic.off found.edge found.among).end
    (subst (λ (from : RationalPoint). IsTop sides (apart point from) side) at found.near.is_top)
    (subst (λ (from : RationalPoint). (edge : Edge) (other : RationalPoint) (other_side : Edge) → Contains edges edge → IsOf edge other → IsTop sides (apart point other) other_side → IsAsNear point from side other other_side) at found.least)
    (subst (λ (from : RationalPoint). reach side (apart point from) ≤ℤ (pos point.n *ℤ (pos from.n *ℤ wide side))) at within) in
    from_vertex sides pairs edges joints point known side (end_of found.edge) is found.edge found.among refl
by_kind sides pairs edges joints point known right_of found within (inr (inr (not_end, foot_of))) =
    inl (at_inner sides pairs edges joints point known right_of found within not_end foot_of)

-- A point that edges don't wind around, and that the shape reaches from a point of one of them, lies inside a band or a triangle.
pub covered : (sides : List Edge) (pairs : List (Edge × Edge)) (edges : List Edge) (joints : List (Edge × Edge)) (point : RationalPoint) → IsKnown sides pairs edges joints point → RightOfInner edges point → (edge : Edge) (from : RationalPoint) → Contains edges edge → IsOf edge from → IsReached sides point from → IsCovered sides pairs edges joints point
covered sides pairs edges joints point known right_of edge from of_edges of reached =
    let found = nearest-of_all sides pairs known.shape point edges known.generic.off edge of_edges in
    let near = found.near in
    let (side, is_top) = top sides pairs known.shape (apart point from) in
    let some = from.positive in
    let near_some = near.from.positive in
    let within = near-reached (pos point.n) (reach near.side (apart point near.from)) (wide near.side) (reach side (apart point from)) (pos from.n) (wide side) (pos near.from.n) (omega (arith, ints, some)) (known.shape.around side is_top.of) (omega (arith, ints, near_some)) (known.shape.around near.side near.is_top.of) (found.least edge from side of_edges of is_top) (reached side is_top.of) in
    by_kind sides pairs edges joints point known right_of found within near.kind
