-- What stays the same from each edge of a ring to the next one, but at one point, is the same on both sides of that point, too.
use Rattle.std.proofs.Common.{◌≡◌, ◌≢◌, inl, inr, zero, suc, List, [], ◌∷◌, ◌++◌, refl, ap, sym, subst, ◌∙◌, arith}
use Rattle.std.specs.List.{All, AllPairs, Contains}
use Rattle.std.proofs.lemmas.List.Elements.{All-contains, All-head, All-tail, All-weaker, Contains-append_left, Contains-append_right}
use Rattle.i_tree.proofs.RootLemmas.Joined.{AllPairs-across, AllPairs-behind}
use Rattle.i_tree.proofs.RootLemmas.Lists.{AllPairs-head, Contains-here, Contains-there}
use Rattle.plane.specs.declared.edge.Edge.{Edge}
use Rattle.plane.specs.declared.point.Point.{Point}
use Rattle.plane.specs.Ends.{edge_between, end_of, start_of}
use Rattle.plane.proofs.PairsLemmas.Bags.{here_or_there}
use Rattle.overlay.specs.Contours.Outlines.{next_or}
use Rattle.overlay.specs.Contours.Rings.{IsRing, ring_edges}
use Rattle.overlay.specs.Grouping.{edges_from}
use Rattle.overlay.proofs.AreaLemmas.Around.{one-ends, starts-once}
use Rattle.overlay.proofs.ContourLemmas.Bends.{last_from}
use Rattle.overlay.proofs.FillLemmas.Premises.{All-among}
use Rattle.overlay.proofs.GroupingLemmas.Corners.{closing-among, way}
use Rattle.overlay.proofs.GroupingLemmas.Edges.{edges_from-first, ring-ends}

abbrev Apart : Point → Point → Type 0
Apart point later = point ≢ later

-- the way over a point is that to it and that from it on
way-parts : (before : Point) (front : List Point) (at : Point) (back : List Point) (behind : Point) → way before (front ++ at ∷ back) behind ≡ way before front at ++ way at back behind
way-parts before [] at back behind = refl
way-parts before (next ∷ front) at back behind = ap (λ (rest : List Edge). edge_between before next ∷ rest) (way-parts next front at back behind)

-- a list with an element is what stands before it, the element, and what stands behind it
parted : (points : List Point) (at : Point) → Contains points at → (front : List Point) × (back : List Point) × (points ≡ front ++ at ∷ back)
parted [] at (k, within, is) = absurd (omega (arith, within))
parted (point ∷ points) at (zero, within, is) = ([], points, ap (λ (p : Point). p ∷ points) is)
parted (point ∷ points) at (suc k, within, is) =
    let (front, back, same) = parted points at (k, omega (arith, within), is) in
    (point ∷ front, back, ap (λ (list : List Point). point ∷ list) same)

module _ {X : Type 0} (edges : List Edge) (f : Edge → X) (at : Point) (stays : (one other : Edge) → Contains edges one → Contains edges other → end_of one ≡ start_of other → end_of one ≢ at → f one ≡ f other) where
  -- it stays the same along a way that goes over other points
  along : (before : Point) (points : List Point) (behind : Point) → All (λ point. point ≢ at) points → ((edge : Edge) → Contains (way before points behind) edge → Contains edges edge)
      → f (edge_between (last_from before points) behind) ≡ f (edge_between before (next_or points behind))
  along before [] behind apart all = refl
  along before (next ∷ points) behind apart all =
      let first = edge_between before next in
      let second = edge_between next (next_or points behind) in
      let rest = way next points behind in
      along next points behind (All-tail (λ (p : Point). p ≢ at) next points apart) (λ edge held. all edge (Contains-there first rest edge held))
      ∙ sym (stays first second (all first (Contains-here first rest)) (all second (Contains-there first rest second (Contains-here second (edges_from points behind)))) refl (All-head (λ (p : Point). p ≢ at) next points apart))

module _ {X : Type 0} (first : Point) (others : List Point) (is : IsRing (first ∷ others)) (f : Edge → X) where
  abbrev all : List Edge
  all = ring_edges (first ∷ others)

  shape : all ≡ way first others first
  shape = edges_from-first (first ∷ others)

  into : (edge : Edge) → Contains all edge → Contains (way first others first) edge
  into edge held = subst (λ (list : List Edge). Contains list edge) shape held

  out : (edge : Edge) → Contains (way first others first) edge → Contains all edge
  out edge held = subst (λ (list : List Edge). Contains list edge) (sym shape) held

  -- an edge is the one of the ring that starts or ends where it does
  starts : (one other : Edge) → Contains all one → Contains all other → start_of one ≡ start_of other → one ≡ other
  starts one other held held_too same = starts-once (first ∷ others) first is.once one other (into one held) (into other held_too) same

  module _ (at : Point) (stays : (one other : Edge) → Contains (ring_edges (first ∷ others)) one → Contains (ring_edges (first ∷ others)) other → end_of one ≡ start_of other → end_of one ≢ at → f one ≡ f other)
      (c d : Edge) (held : Contains (ring_edges (first ∷ others)) c) (held_too : Contains (ring_edges (first ∷ others)) d) (ends : end_of c ≡ at) (begins : start_of d ≡ at) where
    -- c is the last edge before the point, and d the first one behind it
    closes : (from to : Point) → to ≡ at → Contains all (edge_between from to) → f c ≡ f (edge_between from to)
    closes from to same inside = ap f (one-ends (first ∷ others) is c (edge_between from to) held inside (ends ∙ sym same))

    opens : (from to : Point) → from ≡ at → Contains all (edge_between from to) → f (edge_between from to) ≡ f d
    opens from to same inside = ap f (starts (edge_between from to) d inside held_too (same ∙ sym begins))

    -- where the ring begins there, it stays the same from d on up to c
    at-first : first ≡ at → f c ≡ f d
    at-first same =
        let head = edge_between first (next_or others first) in
        let last = edge_between (last_from first others) first in
        let apart : All (λ point. point ≢ at) others = All-weaker (Apart first) (λ (p : Point). p ≢ at) (λ p differs level. differs (same ∙ sym level)) others (AllPairs-head Apart first others is.once) in
        closes (last_from first others) first same (out last (closing-among first others first))
        ∙ along all f at stays first others first apart out
        ∙ opens first (next_or others first) same (out head (Contains-here head (edges_from others first)))

    -- else from d on up to the ring's last edge, and from its first edge on up to c
    later : (front back : List Point) → others ≡ front ++ at ∷ back → f c ≡ f d
    later front back same =
        closes (last_from first front) at refl (before (edge_between (last_from first front) at) (closing-among first front at))
        ∙ along all f at stays first front at (All-among (λ (p : Point). p ≢ at) front (λ p inside. front-apart p (Contains-there first front p inside))) before
        ∙ sym (stays last head (behind last (closing-among at back first)) (before head (Contains-here head (edges_from front at))) refl (front-apart first (Contains-here first front)))
        ∙ along all f at stays at back first (All-among (λ (p : Point). p ≢ at) back back-apart) behind
        ∙ opens at (next_or back first) refl (behind next (Contains-here next (edges_from back first)))
      where
        head : Edge
        head = edge_between first (next_or front at)

        last : Edge
        last = edge_between (last_from at back) first

        next : Edge
        next = edge_between at (next_or back first)

        whole : way first others first ≡ way first front at ++ way at back first
        whole = ap (λ (list : List Point). way first list first) same ∙ way-parts first front at back first

        before : (edge : Edge) → Contains (way first front at) edge → Contains all edge
        before edge inside = out edge (subst (λ (list : List Edge). Contains list edge) (sym whole) (Contains-append_left (way first front at) (way at back first) edge inside))

        behind : (edge : Edge) → Contains (way at back first) edge → Contains all edge
        behind edge inside = out edge (subst (λ (list : List Edge). Contains list edge) (sym whole) (Contains-append_right (way first front at) (way at back first) edge inside))

        once : AllPairs Apart (first ∷ (front ++ at ∷ back))
        once = subst (λ (list : List Point). AllPairs Apart (first ∷ list)) same is.once

        front-apart : (point : Point) → Contains (first ∷ front) point → point ≢ at
        front-apart point inside =
            All-head (Apart point) at back (All-contains (λ (p : Point). All (Apart p) (at ∷ back)) (first ∷ front) point (AllPairs-across Apart (first ∷ front) (at ∷ back) once) inside)

        back-apart : (point : Point) → Contains back point → point ≢ at
        back-apart point inside level =
            All-contains (Apart at) back point (AllPairs-head Apart at back (AllPairs-behind Apart (first ∷ front) (at ∷ back) once)) inside (sym level)

-- What stays the same from each edge of a ring to the next one, but at one point, is the same on both sides of that point.
pub round-ring : {X : Type 0} (ring : List Point) → IsRing ring → (f : Edge → X) → (at : Point)
    → ((one other : Edge) → Contains (ring_edges ring) one → Contains (ring_edges ring) other → end_of one ≡ start_of other → end_of one ≢ at → f one ≡ f other)
    → (c d : Edge) → Contains (ring_edges ring) c → Contains (ring_edges ring) d → end_of c ≡ at → start_of d ≡ at → f c ≡ f d
round-ring [] is f at stays c d held held_too ends begins = absurd (is.some refl)
round-ring (first ∷ others) is f at stays c d held held_too ends begins =
    elim (here_or_there first others at (subst (λ (p : Point). Contains (first ∷ others) p) begins (ring-ends (first ∷ others) d held_too).0)) [
      | inl same ↦ at-first first others is f at stays c d held held_too ends begins same
      | inr inside ↦ let (front, back, shape) = parted others at inside in later first others is f at stays c d held held_too ends begins front back shape
    ]
