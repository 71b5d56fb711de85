-- Around which points the rings of rectangles wind.
use Rattle.std.proofs.Common.{◌≡◌, ◌≤ℤ◌, ◌++◌, ◌+ℤ◌, ◌-ℤ◌, ◌*ℤ◌, ◌∷◌, [], ℕ, zero, suc, ℤ, pos, Bool, true, false, ◌&&◌, ◌||◌, not, cond, List, length, map, inl, inr, refl, ap, ap₂, subst, sym, ◌∙◌, arith}
use Rattle.std.specs.Int.{int_max}
use Rattle.std.specs.List.{All, flat_map, list_any}
use Rattle.std.specs.Prelude.{int_le, int_lt}
use Rattle.std.proofs.lemmas.Int.{ints}
use Rattle.std.proofs.lemmas.List.Elements.{All-append}
use Rattle.std.proofs.lemmas.List.Folds.{flat_map-map}
use Rattle.plane.specs.declared.edge.Edge.{Edge}
use Rattle.plane.specs.declared.point.Point.{Point}
use Rattle.plane.specs.Meet.Edges.{RationalPoint}
use Rattle.plane.proofs.MeetLemmas.Identities.{scaled}
use Rattle.overlay.specs.declared.fill.rules.FillRule.TheVariants.{NonZero}
use Rattle.overlay.specs.declared.fill.rules.Operation.TheVariants.{Difference}
use Rattle.overlay.specs.Boundary.{result_at}
use Rattle.overlay.specs.Contours.Rings.{ring_edges}
use Rattle.overlay.specs.Fill.Rules.{is_inside}
use Rattle.plane.specs.Lines.{IsAlongAxis}
use Rattle.noding.specs.Offsets.{AreJoined, offsets}
use Rattle.noding.specs.Windings.{winding, count}
use Rattle.noding.proofs.SnapLemmas.Counted.{counted, covers, is_low}
use Rattle.noding.proofs.SnapLemmas.Exact.{low_level}
use Rattle.noding.proofs.SnapLemmas.Windings.{back, under-left, under-right, winding-added, winding-append}
use Rattle.uses.specs.declared.free_of_masks.Rectangle.{Rectangle}
use Rattle.overlay.specs.Overlay.{IsOverlay}
use Rattle.overlay.specs.Rings.{AreEnds, rings_of}
use Rattle.overlay.proofs.Callers.{AreEnds-joined, rings-joined}
use Rattle.uses.specs.Masks.{AreFree, box, corners, is_free, is_of}

-- what a level edge counts: whether it covers the point, and isn't above it
level-counts : (edge : Edge) (point : RationalPoint) (h : ℤ) → edge.y0 ≡ h → edge.y1 ≡ h → counted edge point ≡ count (covers edge point && int_le (pos point.n *ℤ h) point.y)
level-counts edge point h first second = by (int_le (pos point.n *ℤ edge.x0) point.x) (int_lt point.x (pos point.n *ℤ edge.x1)) refl refl
  where
    by : (r s : Bool) → int_le (pos point.n *ℤ edge.x0) point.x ≡ r → int_lt point.x (pos point.n *ℤ edge.x1) ≡ s → count ((r && s) && is_low edge point) ≡ count ((r && s) && int_le (pos point.n *ℤ h) point.y)
    by false s from before = refl
    by true false from before = refl
    by true true from before = ap count (low_level edge point h first second (record { from = omega (arith, ints, from); before = omega (arith, ints, before) }))

-- a box counts what its low side counts, less what its high side does
box-counts : (left low right high : ℤ) (point : RationalPoint) → left ≤ℤ right
    → winding (ring_edges (box left low right high)) point ≡ (counted (record { x0 = left; y0 = low; x1 = right; y1 = low }) point -ℤ counted (record { x0 = left; y0 = high; x1 = right; y1 = high }) point)
box-counts left low right high point wide =
    let bottom : Edge = record { x0 = left; y0 = low; x1 = right; y1 = low } in
    let side : Edge = record { x0 = right; y0 = low; x1 = right; y1 = high } in
    let top : Edge = record { x0 = right; y0 = high; x1 = left; y1 = high } in
    let other_side : Edge = record { x0 = left; y0 = high; x1 = left; y1 = low } in
    let one = under-right bottom point wide in
    let two = under-right side point (omega (arith, ints)) in
    let two_none = back side point (omega (arith, ints)) in
    let three = under-left top point wide in
    let four = under-right other_side point (omega (arith, ints)) in
    let four_none = back other_side point (omega (arith, ints)) in
    let sum = winding-added (ring_edges (box left low right high)) point in
    omega (arith, ints, sum, one, two, two_none, three, four, four_none)

-- the least of a range isn't above the greater of its ends
upto-max : (from to : ℤ) → from ≤ℤ int_max from to
upto-max from to = by (int_lt to from) refl
  where
    by : (r : Bool) → int_lt to from ≡ r → from ≤ℤ cond r from to
    by true back = omega (arith, ints)
    by false onwards = omega (arith, ints, onwards)

-- a range that ends before it begins has nothing in it, and neither has one that ends there
range-max : (from to at : ℤ) (n : ℕ) → (int_le (pos n *ℤ from) at && int_lt at (pos n *ℤ int_max from to)) ≡ (int_le (pos n *ℤ from) at && int_lt at (pos n *ℤ to))
range-max from to at n = by (int_lt to from) refl
  where
    none : (end : ℤ) → end ≤ℤ from → (r s : Bool) → int_le (pos n *ℤ from) at ≡ r → int_lt at (pos n *ℤ end) ≡ s → (r && s) ≡ false
    none end back false s above before = refl
    none end back true false above before = refl
    none end back true true above before = let there = scaled n end from back in absurd (omega (arith, ints, there, above, before))

    by : (r : Bool) → int_lt to from ≡ r → (int_le (pos n *ℤ from) at && int_lt at (pos n *ℤ cond r from to)) ≡ (int_le (pos n *ℤ from) at && int_lt at (pos n *ℤ to))
    by false onwards = refl
    by true back = none from (omega (arith, ints)) _ _ refl refl ∙ sym (none to (omega (arith, ints, back)) _ _ refl refl)

-- what is from the low side on, less what is from the high side on, is between
less-high : (low high at : ℤ) → low ≤ℤ high → (wide : Bool) → (count (wide && int_le low at) -ℤ count (wide && int_le high at)) ≡ count (wide && (int_le low at && int_lt at high))
less-high low high at tall false = refl
less-high low high at tall true = by (int_le low at) (int_le high at) (int_lt at high) refl refl refl
  where
    by : (r s t : Bool) → int_le low at ≡ r → int_le high at ≡ s → int_lt at high ≡ t → (count r -ℤ count s) ≡ count (r && t)
    by false false t from upto before = refl
    by true false true from upto before = refl
    by true true false from upto before = refl
    by false true t from upto before = absurd (omega (arith, ints, tall, from, upto))
    by true false false from upto before = absurd (omega (arith, ints, upto, before))
    by true true true from upto before = absurd (omega (arith, ints, upto, before))

-- a rectangle's ring winds once around its points, and not at all around others
winding-rectangle : (it : Rectangle) (point : RationalPoint) → winding (ring_edges (corners it)) point ≡ count (is_of it point)
winding-rectangle it point =
    let right = int_max it.left it.right in
    let high = int_max it.low it.high in
    let wide = int_le (pos point.n *ℤ it.left) point.x && int_lt point.x (pos point.n *ℤ right) in
    box-counts it.left it.low right high point (upto-max it.left it.right)
    ∙ ap₂ (λ a b. a -ℤ b) (level-counts (record { x0 = it.left; y0 = it.low; x1 = right; y1 = it.low }) point it.low refl refl) (level-counts (record { x0 = it.left; y0 = high; x1 = right; y1 = high }) point high refl refl)
    ∙ less-high (pos point.n *ℤ it.low) (pos point.n *ℤ high) point.y (scaled point.n it.low high (upto-max it.low it.high)) wide
    ∙ ap₂ (λ a b. count (a && b)) (range-max it.left it.right point.x point.n) (range-max it.low it.high point.y point.n)

-- the edges of all their rings
abbrev edges_of : List Rectangle → List Edge
edges_of rectangles = flat_map ring_edges (map corners rectangles)

-- of a sum of numbers that are 0 or 1
counts-more : (t u : Bool) (w : ℤ) → pos 0 ≤ℤ w → int_lt (pos 0) w ≡ u → (pos 0 ≤ℤ (count t +ℤ w)) × (int_lt (pos 0) (count t +ℤ w) ≡ (t || u))
counts-more false u w above is = (omega (arith, ints, above), ap (λ z. int_lt (pos 0) z) (let same : (pos 0 +ℤ w) ≡ w = omega (arith, ints) in same) ∙ is)
counts-more true u w above is = (omega (arith, ints, above), by (int_lt (pos 0) (pos 1 +ℤ w)) refl)
  where
    by : (r : Bool) → int_lt (pos 0) (pos 1 +ℤ w) ≡ r → r ≡ true
    by true some = refl
    by false none = absurd (omega (arith, ints, above, none))

-- their rings wind around a point as often as it is of one
wound : (rectangles : List Rectangle) (point : RationalPoint) → (pos 0 ≤ℤ winding (edges_of rectangles) point) × (int_lt (pos 0) (winding (edges_of rectangles) point) ≡ list_any (λ it. is_of it point) rectangles)
wound [] point = (omega (arith, ints), refl)
wound (it ∷ rectangles) point =
    let (above, is) = wound rectangles point in
    let sum : winding (edges_of (it ∷ rectangles)) point ≡ (count (is_of it point) +ℤ winding (edges_of rectangles) point) =
    winding-append (ring_edges (corners it)) (edges_of rectangles) point ∙ ap (λ w. w +ℤ winding (edges_of rectangles) point) (winding-rectangle it point) in
    let (from, some) = counts-more (is_of it point) (list_any (λ it. is_of it point) rectangles) (winding (edges_of rectangles) point) above is in
    (subst (λ (w : ℤ). pos 0 ≤ℤ w) (sym sum) from, ap (λ w. int_lt (pos 0) w) sum ∙ some)

-- so a point is inside of the rings that is of a rectangle
inside-is : (w : ℤ) (t : Bool) → pos 0 ≤ℤ w → int_lt (pos 0) w ≡ t → is_inside NonZero w ≡ t
inside-is w true above some = ap (λ r. r || int_lt w (pos 0)) some
inside-is w false above none = ap (λ r. r || int_lt w (pos 0)) none ∙ by (int_lt w (pos 0)) refl
  where
    by : (r : Bool) → int_lt w (pos 0) ≡ r → r ≡ false
    by false upto = refl
    by true below = absurd (omega (arith, ints, above, below))

inside-rectangles : (rectangles : List Rectangle) (point : RationalPoint) → is_inside NonZero (winding (edges_of rectangles) point) ≡ list_any (λ it. is_of it point) rectangles
inside-rectangles rectangles point = let (above, is) = wound rectangles point in inside-is _ _ above is

-- what the rings of rectangles have around points outside of those of masks
free-result : (rectangles masks : List Rectangle) (point : RationalPoint) → result_at NonZero Difference (edges_of rectangles) (edges_of masks) point ≡ count (is_free rectangles masks point)
free-result rectangles masks point = ap₂ (λ a b. count (a && not b)) (inside-rectangles rectangles point) (inside-rectangles masks point)

-- all their edges run along the axes
axial-box : (left low right high : ℤ) → All IsAlongAxis (ring_edges (box left low right high))
axial-box left low right high zero d inside = inr refl
axial-box left low right high (suc zero) d inside = inl refl
axial-box left low right high (suc (suc zero)) d inside = inr refl
axial-box left low right high (suc (suc (suc zero))) d inside = inl refl
axial-box left low right high (suc (suc (suc (suc k)))) d inside = absurd (omega (arith, inside))

axial-rectangles : (rectangles : List Rectangle) → All IsAlongAxis (edges_of rectangles)
axial-rectangles [] = λ k d inside. absurd (omega (arith, inside))
axial-rectangles (it ∷ rectangles) =
    All-append IsAlongAxis (ring_edges (corners it)) (edges_of rectangles) (axial-box it.left it.low (int_max it.left it.right) (int_max it.low it.high)) (axial-rectangles rectangles)

-- what the overlay of their rings is
pub AreFree-overlay : (rectangles masks : List Rectangle) (subject clip : List Edge) (polygons : List (List (List Point))) → subject ≡ edges_of rectangles → clip ≡ edges_of masks → IsOverlay NonZero Difference subject clip polygons → AreFree rectangles masks polygons
AreFree-overlay rectangles masks subject clip polygons are mask_are is = λ point.
    let axial = subst (λ (edges : List Edge). All IsAlongAxis edges) (sym (ap₂ (λ (a b : List Edge). a ++ b) are mask_are)) (All-append IsAlongAxis (edges_of rectangles) (edges_of masks) (axial-rectangles rectangles) (axial-rectangles masks)) in
    is.exact point (λ k d within. inl (inl (axial k d within))) ∙ ap₂ (λ a b. result_at NonZero Difference a b point) are mask_are ∙ free-result rectangles masks point

-- the corners, one rectangle after another, are their rings
joined-corners : (rectangles : List Rectangle) (points : List Point) (ends : List ℕ) → points ≡ flat_map corners rectangles → ends ≡ offsets 0 (map corners rectangles) → AreJoined (map corners rectangles) points ends
joined-corners rectangles points ends points_are ends_are = (points_are ∙ sym (flat_map-map (λ (ring : List Point). ring) corners rectangles), ends_are)

pub rings-edges : (rectangles : List Rectangle) (points : List Point) (ends : List ℕ) → points ≡ flat_map corners rectangles → ends ≡ offsets 0 (map corners rectangles) → flat_map ring_edges (rings_of points 0 ends) ≡ edges_of rectangles
rings-edges rectangles points ends points_are ends_are =
    ap (λ (rings : List (List Point)). flat_map ring_edges rings) (rings-joined (map corners rectangles) points ends (joined-corners rectangles points ends points_are ends_are))

pub AreEnds-rings : (rectangles : List Rectangle) (points : List Point) (ends : List ℕ) → points ≡ flat_map corners rectangles → ends ≡ offsets 0 (map corners rectangles) → AreEnds 0 ends (length points)
AreEnds-rings rectangles points ends points_are ends_are = AreEnds-joined (map corners rectangles) points ends (joined-corners rectangles points ends points_are ends_are)
