-- The edges of a ring, from one of its points on, and the sides among them.
use Rattle.std.proofs.Common.{◌≡◌, inl, inr, ◌<◌, ◌≤◌, ◌+◌, ◌++◌, [], ◌∷◌, ℕ, zero, suc, Bool, true, false, cond, List, drop, get_or, length, refl, ap, ap₂, sym, subst, take, ◌∙◌, append_assoc, arith}
use Rattle.std.specs.Cmp.{IsStrictWeakOrder}
use Rattle.std.specs.List.{All, Contains, between, flat_map}
use Rattle.std.specs.List.Sorted.{IsPermutation, IsSortedBy}
use Rattle.std.specs.Ordering.{int_eq}
use Rattle.std.proofs.lemmas.List.{at_drop_more, get_or-map, length-append, length-map}
use Rattle.std.proofs.lemmas.List.Edits.{length-between}
use Rattle.std.proofs.lemmas.List.Elements.{Contains-push_cases}
use Rattle.std.proofs.lemmas.List.Sorted.{All-permutation, IsPermutation-map}
use Rattle.i_tree.proofs.RootLemmas.Lists.{Contains-here, Contains-there}
use Rattle.plane.specs.declared.edge.Edge.{Edge}
use Rattle.plane.specs.declared.point.Point.{Point}
use Rattle.overlay.specs.declared.fill.pieces.Piece.{Piece}
use Rattle.overlay.specs.declared.fill.pieces.Operand.TheVariants.{Subject}
use Rattle.overlay.specs.Contours.Outlines.{next_or, ring_point}
use Rattle.overlay.specs.Contours.Rings.{ring_edges}
use Rattle.overlay.specs.Fill.Begins.{BeginInOrder}
use Rattle.overlay.specs.Fill.Turned.{piece_of, turned}
use Rattle.plane.specs.Ends.{edge_between, end_of, start_of}
use Rattle.noding.specs.Windings.{pieces}
use Rattle.noding.proofs.SnapLemmas.Noded.{ends-among}
use Rattle.overlay.proofs.PieceLemmas.Begins.{begins_before, weak_order}
use Rattle.overlay.proofs.PieceLemmas.Made.{sorted-order}
use Rattle.overlay.specs.Grouping.{AreSides, IsSideOf, edges_from, no_side, pieces_of}
use Rattle.overlay.specs.Rings.{AreEnds, edges_in, rings_of}
use Rattle.overlay.specs.declared.grouping.sides.Side.{Side}
use Rattle.overlay.proofs.EachRing.{edges_more}

along : (first : Point) (others : List Point) (behind : Point) → pieces (first ∷ (others ++ behind ∷ [])) ≡ edges_from (first ∷ others) behind
along first [] behind = refl
along first (next ∷ others) behind = ap (λ (edges : List Edge). edge_between first next ∷ edges) (along next others behind)

-- those from its first point on are all
pub edges_from-first : (ring : List Point) → ring_edges ring ≡ edges_from ring (ring_point ring 0)
edges_from-first [] = refl
edges_from-first (first ∷ others) = along first others first

-- the edge at a place, and those behind it
pub edges_from-more : (ring : List Point) (behind : Point) (place : ℕ) → place < length ring
    → edges_from (drop place ring) behind ≡ edge_between (ring_point ring place) (next_or (drop (place + 1) ring) behind) ∷ edges_from (drop (place + 1) ring) behind
edges_from-more ring behind place inside = at_drop_more (λ (points : List Point). edges_from points behind) ring place _ inside

-- each is one of them
edges_from-at : (points : List Point) (behind : Point) (place : ℕ) → place < length points → Contains (edges_from points behind) (edge_between (ring_point points place) (next_or (drop (place + 1) points) behind))
edges_from-at [] behind place within = absurd (omega (arith, within))
edges_from-at (at ∷ points) behind zero within = Contains-here (edge_between at (next_or points behind)) (edges_from points behind)
edges_from-at (at ∷ points) behind (suc place) within =
    subst (λ (n : ℕ). Contains (edges_from (at ∷ points) behind) (edge_between (ring_point points place) (next_or (drop n (at ∷ points)) behind))) (let same : suc (place + 1) ≡ suc place + 1 = omega arith in same)
    (Contains-there (edge_between at (next_or points behind)) (edges_from points behind) (edge_between (ring_point points place) (next_or (drop (place + 1) points) behind)) (edges_from-at points behind place (omega (arith, within))))

pub edge_at-of : (ring : List Point) (place : ℕ) → place < length ring → Contains (ring_edges ring) (edge_between (ring_point ring place) (next_or (drop (place + 1) ring) (ring_point ring 0)))
edge_at-of ring place within =
    subst (λ (edges : List Edge). Contains edges (edge_between (ring_point ring place) (next_or (drop (place + 1) ring) (ring_point ring 0)))) (sym (edges_from-first ring)) (edges_from-at ring (ring_point ring 0) place within)

-- each goes between points of the ring
pub ring-ends : (ring : List Point) (edge : Edge) → Contains (ring_edges ring) edge → Contains ring (start_of edge) × Contains ring (end_of edge)
ring-ends [] edge (k, within, is) = absurd (omega (arith, within))
ring-ends (first ∷ others) edge held =
    let (start, end) = ends-among (first ∷ (others ++ first ∷ [])) edge held in
    (closes (start_of edge) start, closes (end_of edge) end)
  where
    closes : (p : Point) → Contains (first ∷ (others ++ first ∷ [])) p → Contains (first ∷ others) p
    closes p among = elim (Contains-push_cases (first ∷ others) first p among) [
      | inl found ↦ found
      | inr same ↦ subst (λ (q : Point). Contains (first ∷ others) q) same (Contains-here first others)
    ]

-- ---- how many there are

length-edges_from : (points : List Point) (behind : Point) → length (edges_from points behind) ≡ length points
length-edges_from [] behind = refl
length-edges_from (at ∷ points) behind = ap (λ (n : ℕ). suc n) (length-edges_from points behind)

length-ring_edges : (ring : List Point) → length (ring_edges ring) ≡ length ring
length-ring_edges ring = ap (λ (edges : List Edge). length edges) (edges_from-first ring) ∙ length-edges_from ring (ring_point ring 0)

few-edges : (points : List Point) (start : ℕ) (ends : List ℕ) → AreEnds start ends (length points) → start ≤ length points → start + length (flat_map ring_edges (rings_of points start ends)) ≤ length points
few-edges points start [] right upto = omega (arith, upto)
few-edges points start (end ∷ ends) (rising, within, others) upto =
    let ring = between start end points in
    let rest = flat_map ring_edges (rings_of points end ends) in
    let later = few-edges points end ends others within in
    let sum = length-append (ring_edges ring) rest in
    let first = length-ring_edges ring in
    let size = length-between points start end within in
    omega (arith, rising, within, later, sum, first, size)

-- no more than points
pub length-edges_in : (points : List Point) (ends : List ℕ) → AreEnds 0 ends (length points) → length (edges_in points ends) ≤ length points
length-edges_in points ends right = let few = few-edges points 0 ends right (omega arith) in omega (arith, few)

-- ---- sides

by : (first : Edge) (all front back : List Piece) (t : Bool) → all ≡ front ++ back → cond t all (piece_of Subject first ∷ all) ≡ cond t front (piece_of Subject first ∷ front) ++ back
by first all front back true is = is
by first all front back false is = ap (λ (pieces : List Piece). piece_of Subject first ∷ pieces) is

pub turned-joined : (edges others : List Edge) → turned Subject (edges ++ others) ≡ turned Subject edges ++ turned Subject others
turned-joined [] others = refl
turned-joined (first ∷ edges) others = by first (turned Subject (edges ++ others)) (turned Subject edges) (turned Subject others) (int_eq first.x0 first.x1) (turned-joined edges others)

-- so many more of them
pub turned-more : (edge : Edge) (edges : List Edge) (now before all : List Piece) → now ++ turned Subject (edge ∷ edges) ≡ all → before ≡ now ++ turned Subject (edge ∷ []) → before ++ turned Subject edges ≡ all
turned-more edge edges now before all is more =
    ap (λ (list : List Piece). list ++ turned Subject edges) more ∙ append_assoc now (turned Subject (edge ∷ [])) (turned Subject edges)
    ∙ ap (λ (list : List Piece). now ++ list) (sym (turned-joined (edge ∷ []) edges)) ∙ is

-- those of one ring more
pub turned_ring : (points : List Point) (ends : List ℕ) (ring : ℕ) → ring < length ends
    → turned Subject (flat_map ring_edges (take (ring + 1) (rings_of points 0 ends))) ≡ turned Subject (flat_map ring_edges (take ring (rings_of points 0 ends))) ++ turned Subject (ring_edges (get_or (rings_of points 0 ends) ring []))
turned_ring points ends ring inside =
    ap (λ (edges : List Edge). turned Subject edges) (edges_more points ends ring inside) ∙ turned-joined (flat_map ring_edges (take ring (rings_of points 0 ends))) _

-- ---- sides in order

abbrev pub side_before : Side → Side → Bool
side_before one other = begins_before one.piece other.piece

pub side_order : IsStrictWeakOrder side_before
side_order = record {
  one_way = λ one other told. weak_order.one_way one.piece other.piece told;
  chain = λ one other third first second. weak_order.chain one.piece other.piece third.piece first second;
}

pub sides-begin : (sides : List Side) → IsSortedBy side_before sides → BeginInOrder (pieces_of sides)
sides-begin sides up =
    sorted-order (pieces_of sides) (λ k d from within.
    (let size = length-map sides (λ (side : Side). side.piece) in
    ap₂ (λ (one other : Piece). begins_before one other) (get_or-map (λ (side : Side). side.piece) sides (k + 1) no_side d (omega (arith, size, within))) (get_or-map (λ (side : Side). side.piece) sides k no_side d (omega (arith, size, within)))
    ∙ up k no_side from (omega (arith, size, within))))

pub AreSides-sorted : (rings : List (List Point)) (sides sorted : List Side) → pieces_of sides ≡ turned Subject (flat_map ring_edges rings) → All (IsSideOf rings) sides → IsPermutation sides sorted → BeginInOrder (pieces_of sorted)
    → AreSides rings sorted
AreSides-sorted rings sides sorted pieces of moved order = record {
  pieces = subst (λ (list : List Piece). IsPermutation list (pieces_of sorted)) pieces (IsPermutation-map (λ (side : Side). side.piece) sides sorted moved);
  order = order;
  of = All-permutation (IsSideOf rings) sides sorted moved of;
}
