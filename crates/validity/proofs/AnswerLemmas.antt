-- Rings that visit no point twice and turn as their areas tell are corners of their own, and directing leaves their polygons alone:
-- so an overlay's polygons are valid if the edges of each ring meet only at common ends, and any two edges touch if they meet.
use Rattle.std.proofs.Common.{◌≡◌, ◌≢◌, ◌<◌, ◌≤◌, ◌<ℤ◌, ℤ, Bool, true, false, cond, pos, List, [], ◌∷◌, ◌++◌, length, map, reverse, refl, ap, ap₂, sym, subst, ◌∙◌, arith}
use Rattle.std.specs.List.{All, AllPairs}
use Rattle.std.specs.Prelude.{int_lt}
use Rattle.std.proofs.lemmas.Int.{ints}
use Rattle.std.proofs.lemmas.List.{length-map}
use Rattle.std.proofs.lemmas.List.Elements.{All-cons, All-contains, All-head, All-nil, All-tail, All-weaker}
use Rattle.i_tree.proofs.RootLemmas.Joined.{All-behind, All-front, AllPairs-of_map}
use Rattle.i_tree.proofs.RootLemmas.Lists.{AllPairs-head, AllPairs-tail}
use Rattle.plane.specs.declared.edge.Edge.{Edge}
use Rattle.plane.specs.declared.point.Point.{Point}
use Rattle.plane.specs.Ends.{edge_between, end_of, start_of}
use Rattle.noding.specs.Windings.{pieces}
use Rattle.overlay.specs.Areas.{twice_area}
use Rattle.overlay.specs.Contours.Rings.{IsRing, real_edges, ring_edges}
use Rattle.overlay.specs.Fill.Filled.{AreNoded}
use Rattle.overlay.specs.Nesting.{PolygonWindsOnce}
use Rattle.overlay.specs.OnePiece.{TouchAlongNoCircle}
use Rattle.overlay.specs.Overlay.{IsOverlay, polygon_edges}
use Rattle.overlay.specs.Polygons.{HasSignedArea, IsPolygon, is_counterclockwise, rings_of}
use Rattle.overlay.specs.declared.fill.rules.FillRule.{FillRule}
use Rattle.overlay.specs.declared.fill.rules.Operation.{Operation}
use Rattle.overlay.proofs.FillLemmas.Premises.{All-among}
use Rattle.overlay.proofs.UncrossedLemmas.Crossing.{real-all}
use Rattle.validity.specs.Given.{corners_of, directed, turned}
use Rattle.validity.specs.Meeting.{AllMayMeet}
use Rattle.validity.specs.Validity.{IsSimple, IsValid, WindOnce}

-- ---- a ring's edges

-- the points at which pieces start
starts-along : (from : Point) (others : List Point) (last : Point) → map start_of (pieces (from ∷ (others ++ last ∷ []))) ≡ from ∷ others
starts-along from [] last = refl
starts-along from (next ∷ others) last = ap (λ (points : List Point). from ∷ points) (starts-along next others last)

-- A ring's edges start at its points.
pub ring-starts : (ring : List Point) → map start_of (ring_edges ring) ≡ ring
ring-starts [] = refl
ring-starts (first ∷ others) = starts-along first others first

-- none of the pieces is a point, where no point of them comes twice, nor the last one among them
pieces-real : (from : Point) (others : List Point) (last : Point) → AllPairs (λ point later. point ≢ later) (from ∷ others) → All (λ point. point ≢ last) (from ∷ others)
    → All (λ edge. start_of edge ≢ end_of edge) (pieces (from ∷ (others ++ last ∷ [])))
pieces-real from [] last once apart =
    All-cons (λ (edge : Edge). start_of edge ≢ end_of edge) (edge_between from last) [] (All-head (λ (point : Point). point ≢ last) from [] apart)
    (All-nil (λ (edge : Edge). start_of edge ≢ end_of edge))
pieces-real from (next ∷ others) last once apart =
    let Differ : Point → Point → Type 0 = λ point later. point ≢ later in
    All-cons (λ (edge : Edge). start_of edge ≢ end_of edge) (edge_between from next) (pieces (next ∷ (others ++ last ∷ [])))
    (All-head (Differ from) next others (AllPairs-head Differ from (next ∷ others) once))
    (pieces-real next others last (AllPairs-tail Differ from (next ∷ others) once) (All-tail (λ (point : Point). point ≢ last) from (next ∷ others) apart))

-- so none of a ring's edges is, where it has two points or more
ring-apart : (ring : List Point) → AllPairs (λ point later. point ≢ later) ring → 2 ≤ length ring → All (λ edge. start_of edge ≢ end_of edge) (ring_edges ring)
ring-apart [] once two = absurd (omega (arith, two))
ring-apart (first ∷ []) once two = absurd (omega (arith, two))
ring-apart (first ∷ next ∷ others) once two =
    let Differ : Point → Point → Type 0 = λ point later. point ≢ later in
    let later = AllPairs-head Differ first (next ∷ others) once in
    All-cons (λ (edge : Edge). start_of edge ≢ end_of edge) (edge_between first next) (pieces (next ∷ (others ++ first ∷ [])))
    (All-head (Differ first) next others later)
    (pieces-real next others first (AllPairs-tail Differ first (next ∷ others) once)
    (All-weaker (Differ first) (λ (point : Point). point ≢ first) (λ point differs same. differs (sym same)) (next ∷ others) later))

-- Each edge of a ring of two points or more has two ends.
pub real-ring : (ring : List Point) → IsRing ring → 2 ≤ length ring → real_edges (ring_edges ring) ≡ ring_edges ring
real-ring ring is two = real-all (ring_edges ring) (ring-apart ring is.once two)

-- Its corners are its points.
pub corners-ring-same : (ring : List Point) → IsRing ring → 2 ≤ length ring → corners_of ring ≡ ring
corners-ring-same ring is two = ap (λ (edges : List Edge). map start_of edges) (real-ring ring is two) ∙ ring-starts ring

-- And it has as many edges as points.
pub real-length : (ring : List Point) → IsRing ring → 2 ≤ length ring → length (real_edges (ring_edges ring)) ≡ length ring
real-length ring is two =
    sym (length-map (real_edges (ring_edges ring)) start_of) ∙ ap (λ (points : List Point). length points) (corners-ring-same ring is two)

-- ---- directing

-- an outer ring stays as it is where its area is above 0
outer-same : (ring : List Point) → corners_of ring ≡ ring → pos 0 <ℤ twice_area ring → turned true ring ≡ ring
outer-same ring corners above =
    ap (λ (points : List Point). cond (int_lt (twice_area points) (pos 0)) (reverse points) points) corners
    ∙ by (int_lt (twice_area ring) (pos 0)) refl
  where
    by : (t : Bool) → int_lt (twice_area ring) (pos 0) ≡ t → cond t (reverse ring) ring ≡ ring
    by false tests = refl
    by true tests = absurd (omega (arith, ints, above, tests))

-- and a hole where it is below
hole-same : (ring : List Point) → corners_of ring ≡ ring → twice_area ring <ℤ pos 0 → turned false ring ≡ ring
hole-same ring corners below =
    ap (λ (points : List Point). cond (int_lt (pos 0) (twice_area points)) (reverse points) points) corners
    ∙ by (int_lt (pos 0) (twice_area ring)) refl
  where
    by : (t : Bool) → int_lt (pos 0) (twice_area ring) ≡ t → cond t (reverse ring) ring ≡ ring
    by false tests = refl
    by true tests = absurd (omega (arith, ints, below, tests))

-- a ring stays as it is, as an outer one if it runs counterclockwise, else as a hole
abbrev Stays : List Point → Type 0
Stays ring = (is_counterclockwise ring ≡ true → turned true ring ≡ ring) × (is_counterclockwise ring ≡ false → turned false ring ≡ ring)

stays : (ring : List Point) → IsRing ring → 2 ≤ length ring → HasSignedArea ring → Stays ring
stays ring is two area =
    let corners = corners-ring-same ring is two in
    ((λ runs. outer-same ring corners (area.0 runs)), (λ runs. hole-same ring corners (area.1 runs)))

all-stay : (rings : List (List Point)) → All IsRing rings → All (λ ring. 3 ≤ length ring) rings → All HasSignedArea rings → All Stays rings
all-stay rings are three areas =
    All-among Stays rings
    (λ ring held.
    let enough = All-contains (λ (points : List Point). 3 ≤ length points) rings ring three held in
    stays ring (All-contains IsRing rings ring are held) (omega (arith, enough)) (All-contains HasSignedArea rings ring areas held))

holes-same : (holes : List (List Point)) → All Stays holes → All (λ hole. is_counterclockwise hole ≡ false) holes → map (turned false) holes ≡ holes
holes-same [] stay inwards = refl
holes-same (hole ∷ holes) stay inwards =
    let Inwards : List Point → Type 0 = λ ring. is_counterclockwise ring ≡ false in
    ap₂ (λ (first : List Point) (rest : List (List Point)). first ∷ rest)
    ((All-head Stays hole holes stay).1 (All-head Inwards hole holes inwards))
    (holes-same holes (All-tail Stays hole holes stay) (All-tail Inwards hole holes inwards))

-- so a polygon of such rings does
stay-same : (polygon : List (List Point)) → IsPolygon polygon → All Stays polygon → directed polygon ≡ polygon
stay-same polygon is stay =
    let here : All Stays (is.outer ∷ is.holes) = subst (All Stays) is.is stay in
    subst (λ (rings : List (List Point)). directed rings ≡ rings) (sym is.is)
    (ap₂ (λ (first : List Point) (rest : List (List Point)). first ∷ rest)
    ((All-head Stays is.outer is.holes here).0 is.outwards)
    (holes-same is.holes (All-tail Stays is.outer is.holes here) is.inwards))

-- A polygon is directed already where its rings visit no point twice and turn as their areas tell.
pub directed-same : (polygon : List (List Point)) → IsPolygon polygon → All IsRing polygon → All (λ ring. 3 ≤ length ring) polygon → All HasSignedArea polygon
    → directed polygon ≡ polygon
directed-same polygon is are three areas = stay-same polygon is (all-stay polygon are three areas)

-- the same of each polygon of many
each-same : (polygons : List (List (List Point))) → All IsPolygon polygons → All Stays (rings_of polygons) → All (λ polygon. directed polygon ≡ polygon) polygons
each-same [] are stay = All-nil (λ (polygon : List (List Point)). directed polygon ≡ polygon)
each-same (polygon ∷ polygons) are stay =
    All-cons (λ (one : List (List Point)). directed one ≡ one) polygon polygons
    (stay-same polygon (All-head IsPolygon polygon polygons are) (All-front Stays polygon (rings_of polygons) stay))
    (each-same polygons (All-tail IsPolygon polygon polygons are) (All-behind Stays polygon (rings_of polygons) stay))

map-same : (polygons : List (List (List Point))) → All (λ polygon. directed polygon ≡ polygon) polygons → map directed polygons ≡ polygons
map-same [] same = refl
map-same (polygon ∷ polygons) same =
    let Same : List (List Point) → Type 0 = λ one. directed one ≡ one in
    ap₂ (λ (first : List (List Point)) (rest : List (List (List Point))). first ∷ rest)
    (All-head Same polygon polygons same) (map-same polygons (All-tail Same polygon polygons same))

-- So many polygons are.
pub polygons-same : (polygons : List (List (List Point))) → All IsPolygon polygons → All IsRing (rings_of polygons) → All (λ ring. 3 ≤ length ring) (rings_of polygons) → All HasSignedArea (rings_of polygons)
    → map directed polygons ≡ polygons
polygons-same polygons directed_all are three areas = map-same polygons (each-same polygons directed_all (all-stay (rings_of polygons) are three areas))

-- ---- simple rings

-- A ring of three points or more has as many edges with two ends,
pub real-three : (ring : List Point) → IsRing ring → 3 ≤ length ring → 3 ≤ length (real_edges (ring_edges ring))
real-three ring is three =
    let size = real-length ring is (omega (arith, three)) in
    omega (arith, size, three)

-- and no two of them start at one point.
pub real-once : (ring : List Point) → IsRing ring → 2 ≤ length ring → AllPairs (λ one later. start_of one ≢ start_of later) (real_edges (ring_edges ring))
real-once ring is two =
    AllPairs-of_map (λ (point later : Point). point ≢ later) start_of (real_edges (ring_edges ring))
    (subst (λ (points : List Point). AllPairs (λ point later. point ≢ later) points) (sym (corners-ring-same ring is two)) is.once)

-- So it is simple if they meet only at common ends.
pub simple-ring : (ring : List Point) → IsRing ring → 3 ≤ length ring → AreNoded (real_edges (ring_edges ring)) → IsSimple ring
simple-ring ring is three noded = record {
  three_points = real-three ring is three;
  once = real-once ring is (omega (arith, three));
  noded = noded;
}

-- ---- an overlay's polygons

-- what holds of polygons holds of them directed, where that leaves them alone
all-kept : (P : List (List Point) → Type 0) (polygons : List (List (List Point))) → All (λ polygon. directed polygon ≡ polygon) polygons → All P polygons → All (λ polygon. P (directed polygon)) polygons
all-kept P polygons same all =
    All-among (λ (polygon : List (List Point)). P (directed polygon)) polygons
    (λ polygon held.
    subst P (sym (All-contains (λ (one : List (List Point)). directed one ≡ one) polygons polygon same held)) (All-contains P polygons polygon all held))

module _ (rule : FillRule) (operation : Operation) (subject clip : List Edge) (polygons : List (List (List Point))) (is : IsOverlay rule operation subject clip polygons) where
  -- directing leaves each of them alone
  own-same : All (λ polygon. directed polygon ≡ polygon) polygons
  own-same = each-same polygons is.directed (all-stay (rings_of polygons) is.each is.three_points is.areas)

  -- Polygons of an overlay are directed already.
  pub answer-same : map directed polygons ≡ polygons
  answer-same = map-same polygons own-same

  -- their rings are simple if the edges of each meet only at common ends
  all-simple : All (λ ring. AreNoded (real_edges (ring_edges ring))) (rings_of polygons) → All IsSimple (rings_of polygons)
  all-simple noded =
      All-among IsSimple (rings_of polygons)
      (λ ring held.
      simple-ring ring (All-contains IsRing (rings_of polygons) ring is.each held) (All-contains (λ (points : List Point). 3 ≤ length points) (rings_of polygons) ring is.three_points held)
      (All-contains (λ (points : List Point). AreNoded (real_edges (ring_edges points))) (rings_of polygons) ring noded held))

  -- So they are valid if, besides, two edges of all touch in one point, an end of one of them, wherever they meet.
  pub valid-but : All (λ ring. AreNoded (real_edges (ring_edges ring))) (rings_of polygons) → AllMayMeet false (polygon_edges polygons) → IsValid (rings_of polygons) polygons
  valid-but noded touch = record {
    simple = all-simple noded;
    touch = subst (λ (some : List (List (List Point))). AllMayMeet false (polygon_edges some)) (sym answer-same) touch;
    each_once = all-kept PolygonWindsOnce polygons own-same is.each_once;
    once = subst (λ (some : List (List (List Point))). WindOnce (polygon_edges some)) (sym answer-same) is.once;
    one_piece = all-kept TouchAlongNoCircle polygons own-same is.one_piece;
  }
