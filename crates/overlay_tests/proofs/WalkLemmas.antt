-- Walks are closed once they are back, and edges that touch at a common end meet there alone.
use Rattle.std.proofs.Common.{◌≡◌, ◌++◌, ◌∷◌, ◌+◌, [], ap, arith, cond, inl, inr, sym, subst, pos, List, ℕ, ◌*ℤ◌}
use Rattle.std.proofs.lemmas.Int.{ints}
use Rattle.std.proofs.lemmas.List.Sums.{sum_by-append}
use Rattle.plane.specs.declared.edge.Edge.{Edge}
use Rattle.plane.specs.declared.point.Point.{Point}
use Rattle.plane.specs.Ends.{start_of, end_of, edge_between}
use Rattle.plane.specs.Meet.Edges.{RationalPoint, IsOf}
use Rattle.plane.specs.Meet.Kinds.{IsEnd, ShareAtMostOne}
use Rattle.noding.specs.Windings.{IsClosed}
use Rattle.overlay_tests.specs.Walks.{MeetAtEndsAlone, IsEndAt, one_if, IsOpenWalk}

-- Before the first step the walk is where it began.
pub open-none : (edges : List Edge) (first : Point) → IsClosed edges → IsOpenWalk edges first first
open-none edges first closed test = ap (λ (n : ℕ). n + one_if (test first)) (closed test)

-- One edge more goes from where the walk was to where it is.
pub open-more : (edges now : List Edge) (first last next : Point) → now ≡ edges ++ edge_between last next ∷ [] → IsOpenWalk edges first last → IsOpenWalk now first next
open-more edges now first last next is so_far = subst (λ (list : List Edge). IsOpenWalk list first next) (sym is) (λ test.
    let starts = sum_by-append (λ (edge : Edge). cond (test (start_of edge)) 1 0) edges (edge_between last next ∷ []) in
    let ends = sum_by-append (λ (edge : Edge). cond (test (end_of edge)) 1 0) edges (edge_between last next ∷ []) in
    let before = so_far test in
    omega (arith, starts, ends, before))

-- The edge back to the first point closes it.
pub open-back : (edges now : List Edge) (first last : Point) → now ≡ edges ++ edge_between last first ∷ [] → IsOpenWalk edges first last → IsClosed now
open-back edges now first last is so_far test =
    let back = open-more edges now first last first is so_far test in
    omega (arith, back)

-- a whole point as a rational one
abbrev pub whole_point : Point → RationalPoint
whole_point at = record { n = 1; x = at.x; y = at.y; positive = omega arith }

-- Both ends of an edge are of it.
pub end-of : (edge : Edge) (at : Point) → IsEndAt edge at → IsOf edge (whole_point at)
end-of edge at (inl is) = subst (λ (p : Point). IsOf edge (whole_point p)) (sym is) (0, record { share = omega arith; x = omega (arith, ints); y = omega (arith, ints) })
end-of edge at (inr is) = subst (λ (p : Point). IsOf edge (whole_point p)) (sym is) (1, record { share = omega arith; x = omega (arith, ints); y = omega (arith, ints) })

-- A rational point that is the whole one at an edge's end is the edge's end.
pub end-same : (edge : Edge) (at : Point) (point : RationalPoint) → IsEndAt edge at → point.x ≡ (pos point.n *ℤ at.x) → point.y ≡ (pos point.n *ℤ at.y) → IsEnd edge point
end-same edge at point (inl is) x y = inl (record { x_is = subst (λ (p : Point). point.x ≡ (pos point.n *ℤ p.x)) is x; y_is = subst (λ (p : Point). point.y ≡ (pos point.n *ℤ p.y)) is y })
end-same edge at point (inr is) x y = inr (record { x_is = subst (λ (p : Point). point.x ≡ (pos point.n *ℤ p.x)) is x; y_is = subst (λ (p : Point). point.y ≡ (pos point.n *ℤ p.y)) is y })

-- Edges that share one point at most, and have a common end, share that alone.
pub touch-at_end : (one other : Edge) (common : Point) → ShareAtMostOne one other → IsEndAt one common → IsEndAt other common → MeetAtEndsAlone one other
touch-at_end one other common single first second point of_one of_other =
    let same = single (whole_point common) point (end-of one common first, end-of other common second) (of_one, of_other) in
    let same_x = same.x in
    let same_y = same.y in
    let x : point.x ≡ (pos point.n *ℤ common.x) = omega (arith, ints, same_x) in
    let y : point.y ≡ (pos point.n *ℤ common.y) = omega (arith, ints, same_y) in
    inl (end-same one common point first x y, end-same other common point second x y)
