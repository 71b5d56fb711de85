-- The areas of polygons, for callers: they add up to that of the region around which they wind, whichever edges tell it.
use Rattle.std.proofs.Common.{◌≡◌, ◌≢◌, ◌⊎◌, inl, inr, [], ◌∷◌, ◌++◌, ℤ, pos, ◌+ℤ◌, Bool, true, false, ◌&&◌, ◌||◌, List, refl, ap, ap₂, sym, ◌∙◌}
use Rattle.std.specs.List.{All, flat_map}
use Rattle.std.proofs.lemmas.List.Concat.{flat_map-append}
use Rattle.plane.specs.declared.edge.Edge.{Edge}
use Rattle.plane.specs.declared.point.Point.{Point}
use Rattle.plane.specs.Meet.Edges.{RationalPoint}
use Rattle.noding.specs.Local.{IsExactAt}
use Rattle.noding.specs.Windings.{IsClosed, count, winding}
use Rattle.noding.proofs.SnapLemmas.Numbers.{both, both_zero}
use Rattle.noding.proofs.SnapLemmas.Windings.{winding-append}
use Rattle.overlay.specs.Areas.{swept, twice_area_of}
use Rattle.overlay.specs.Contours.Rings.{ring_edges}
use Rattle.overlay.specs.Fill.Pieces.{total}
use Rattle.overlay.specs.Fill.Rules.{is_inside}
use Rattle.overlay.specs.Overlay.{IsOverlay, polygon_edges}
use Rattle.overlay.specs.Polygons.{rings_of}
use Rattle.overlay.specs.declared.fill.rules.FillRule.{FillRule}
use Rattle.overlay.specs.declared.fill.rules.FillRule.TheVariants.{EvenOdd, Negative, NonZero, Positive}
use Rattle.overlay.specs.declared.fill.rules.Operation.TheVariants.{Intersection, Union}
use Rattle.overlay.proofs.AreaLemmas.Alike.{same-area}
use Rattle.overlay.proofs.ContourLemmas.Counts.{rings-closed}
use Rattle.overlay.proofs.FillLemmas.Balance.{AreBalanced, balanced, carried}
use Rattle.overlay.proofs.FillLemmas.Totals.{total-append}
use Rattle.overlay.proofs.WindsLemmas.Areas.{area-of}

-- ---- one region

-- what the edges of polygons sweep is their areas, added up
pub swept-polygons : (polygons : List (List (List Point))) → total swept (polygon_edges polygons) ≡ total twice_area_of polygons
swept-polygons [] = refl
swept-polygons (polygon ∷ others) =
    ap (λ (edges : List Edge). total swept edges) (flat_map-append ring_edges polygon (rings_of others))
    ∙ total-append swept (flat_map ring_edges polygon) (polygon_edges others)
    ∙ ap₂ (λ a b. a +ℤ b) (area-of polygon) (swept-polygons others)

-- the edges of polygons are closed
closed-polygons : (polygons : List (List (List Point))) → AreBalanced (polygon_edges polygons)
closed-polygons polygons = balanced (polygon_edges polygons) (λ test. rings-closed test (rings_of polygons))

-- The areas of polygons, of an overlay or any others, add up to what any closed edges sweep that wind around each point as they do.
pub area-of-region : (polygons : List (List (List Point))) (edges : List Edge) → IsClosed edges → ((point : RationalPoint) → winding edges point ≡ winding (polygon_edges polygons) point)
    → total swept edges ≡ total twice_area_of polygons
area-of-region polygons edges closed alike = same-area edges (polygon_edges polygons) (balanced edges closed) (closed-polygons polygons) alike ∙ swept-polygons polygons

-- ---- two regions

-- lists of closed edges are closed together
closed-both : (edges others : List Edge) → AreBalanced edges → AreBalanced others → AreBalanced (edges ++ others)
closed-both edges others closed closed_too test =
    total-append (carried test) edges others ∙ both_zero (total (carried test) edges) (total (carried test) others) (closed test) (closed_too test)

-- The areas of two lists of polygons add up to what two lists of closed edges sweep, where together they wind as these do.
pub areas-of-both : (polygons others : List (List (List Point))) (subject clip : List Edge) → IsClosed subject → IsClosed clip
    → ((point : RationalPoint) → (winding (polygon_edges polygons) point +ℤ winding (polygon_edges others) point) ≡ (winding subject point +ℤ winding clip point))
    → (total twice_area_of polygons +ℤ total twice_area_of others) ≡ (total swept subject +ℤ total swept clip)
areas-of-both polygons others subject clip closed closed_too alike =
    let mine = polygon_edges polygons in
    let theirs = polygon_edges others in
    sym (both (total swept mine) (total twice_area_of polygons) (total swept theirs) (total twice_area_of others) (swept-polygons polygons) (swept-polygons others))
    ∙ sym (total-append swept mine theirs)
    ∙ same-area (mine ++ theirs) (subject ++ clip) (closed-both mine theirs (closed-polygons polygons) (closed-polygons others)) (closed-both subject clip (balanced subject closed) (balanced clip closed_too))
    (λ point. winding-append mine theirs point ∙ alike point ∙ sym (winding-append subject clip point))
    ∙ total-append swept subject clip

-- what is of one or the other, and of both, counts as much as either
either_and_both : (a b : Bool) → (count (a || b) +ℤ count (a && b)) ≡ (count a +ℤ count b)
either_and_both true true = refl
either_and_both true false = refl
either_and_both false true = refl
either_and_both false false = refl

-- a winding number of 0 or 1 counts itself, by each rule but that of numbers below 0
counts_none : (rule : FillRule) → count (is_inside rule (pos 0)) ≡ pos 0
counts_none EvenOdd = refl
counts_none NonZero = refl
counts_none Positive = refl
counts_none Negative = refl

counts_once : (rule : FillRule) → rule ≢ Negative → count (is_inside rule (pos 1)) ≡ pos 1
counts_once EvenOdd usual = refl
counts_once NonZero usual = refl
counts_once Positive usual = refl
counts_once Negative usual = absurd (usual refl)

counts_itself : (rule : FillRule) (z : ℤ) → rule ≢ Negative → (z ≡ pos 0) ⊎ (z ≡ pos 1) → count (is_inside rule z) ≡ z
counts_itself rule z usual (inl none) = ap (λ w. count (is_inside rule w)) none ∙ counts_none rule ∙ sym none
counts_itself rule z usual (inr once) = ap (λ w. count (is_inside rule w)) once ∙ counts_once rule usual ∙ sym once

-- Where no edge is moved, and subject and clip each wind once around a point or not at all, the areas of their union and of their
-- intersection add up to theirs, by any rule but that of numbers below 0.
pub areas-add : (rule : FillRule) (subject clip : List Edge) (joined common : List (List (List Point))) → rule ≢ Negative → IsOverlay rule Union subject clip joined → IsOverlay rule Intersection subject clip common
    → ((point : RationalPoint) → All (IsExactAt (subject ++ clip) point) (subject ++ clip)) → IsClosed subject → IsClosed clip
    → ((point : RationalPoint) → (winding subject point ≡ pos 0) ⊎ (winding subject point ≡ pos 1)) → ((point : RationalPoint) → (winding clip point ≡ pos 0) ⊎ (winding clip point ≡ pos 1))
    → (total twice_area_of joined +ℤ total twice_area_of common) ≡ (total swept subject +ℤ total swept clip)
areas-add rule subject clip joined common usual is_joined is_common exact closed closed_too once once_too =
    areas-of-both joined common subject clip closed closed_too
    (λ point.
    let a = is_inside rule (winding subject point) in
    let b = is_inside rule (winding clip point) in
    both (winding (polygon_edges joined) point) (count (a || b)) (winding (polygon_edges common) point) (count (a && b)) (is_joined.exact point (exact point)) (is_common.exact point (exact point))
    ∙ either_and_both a b
    ∙ both (count a) (winding subject point) (count b) (winding clip point) (counts_itself rule (winding subject point) usual (once point)) (counts_itself rule (winding clip point) usual (once_too point)))
