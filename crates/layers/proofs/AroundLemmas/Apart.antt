-- Edges within bounds, and points of a box that lies beside the bounds or above them.
use Rattle.std.proofs.Common.{Bool, true, false, ◌||◌, ◌≡◌, ◌⊎◌, inl, inr, pos, ◌*ℤ◌, ◌-ℤ◌, ◌<ℤ◌, ◌≤ℤ◌, refl, ⊎_elim, arith}
use Rattle.std.specs.Prelude.{int_lt}
use Rattle.std.specs.Int.{int_max}
use Rattle.std.proofs.lemmas.Int.{clamps, ints}
use Rattle.plane.specs.declared.edge.Edge.{Edge}
use Rattle.plane.specs.declared.pairs.items.Bounds.{Bounds}
use Rattle.plane.specs.declared.point.Point.{Point}
use Rattle.plane.specs.Ends.{end_of, start_of}
use Rattle.noding.proofs.SnapLemmas.Counted.{under}
use Rattle.layers.specs.Around.{IsOn, halved}
use Rattle.layers.specs.Boxes.{IsInBounds}
use Rattle.layers.specs.Chains.{IsInExtent, extent_at, is_above, is_apart}
use Rattle.layers.specs.declared.around.extents.Extent.{Extent}
use Rattle.layers.specs.declared.around.half_point.HalfPoint.{HalfPoint}
use Rattle.layers.proofs.AroundLemmas.Sides.{on-high, on-left, on-low, on-right, step, under-above, under-below, under-left, under-right}

-- a point lies in its own box
pub IsInExtent-itself : (point : HalfPoint) → IsInExtent (extent_at point) point
IsInExtent-itself point = record { left = omega (arith, ints); right = omega (arith, ints); low = omega (arith, ints); high = omega (arith, ints) }

-- how a box lies apart
pub apart-cases : (extent : Extent) (bounds : Bounds) → is_apart extent bounds ≡ true → ((pos 2 *ℤ bounds.right) <ℤ extent.left) ⊎ ((extent.right <ℤ (pos 2 *ℤ bounds.left)) ⊎ (extent.high <ℤ (pos 2 *ℤ bounds.low)))
apart-cases extent bounds is = by (int_lt (pos 2 *ℤ bounds.right) extent.left) (int_lt extent.right (pos 2 *ℤ bounds.left)) (int_lt extent.high (pos 2 *ℤ bounds.low)) refl refl refl is
  where
    by : (q r s : Bool) → int_lt (pos 2 *ℤ bounds.right) extent.left ≡ q → int_lt extent.right (pos 2 *ℤ bounds.left) ≡ r → int_lt extent.high (pos 2 *ℤ bounds.low) ≡ s → ((q || r) || s) ≡ true
        → ((pos 2 *ℤ bounds.right) <ℤ extent.left) ⊎ ((extent.right <ℤ (pos 2 *ℤ bounds.left)) ⊎ (extent.high <ℤ (pos 2 *ℤ bounds.low)))
    by true r s e f g is = inl (omega (arith, ints, e))
    by false true s e f g is = inr (inl (omega (arith, ints, f)))
    by false false true e f g is = inr (inr (omega (arith, ints, g)))
    by false false false e f g is = cc

pub not_apart : (extent : Extent) (bounds : Bounds) → is_apart extent bounds ≡ false → (extent.left ≤ℤ (pos 2 *ℤ bounds.right)) × ((pos 2 *ℤ bounds.left) ≤ℤ extent.right) × ((pos 2 *ℤ bounds.low) ≤ℤ extent.high)
not_apart extent bounds is = by (int_lt (pos 2 *ℤ bounds.right) extent.left) (int_lt extent.right (pos 2 *ℤ bounds.left)) (int_lt extent.high (pos 2 *ℤ bounds.low)) refl refl refl is
  where
    by : (q r s : Bool) → int_lt (pos 2 *ℤ bounds.right) extent.left ≡ q → int_lt extent.right (pos 2 *ℤ bounds.left) ≡ r → int_lt extent.high (pos 2 *ℤ bounds.low) ≡ s → ((q || r) || s) ≡ false
        → (extent.left ≤ℤ (pos 2 *ℤ bounds.right)) × ((pos 2 *ℤ bounds.left) ≤ℤ extent.right) × ((pos 2 *ℤ bounds.low) ≤ℤ extent.high)
    by false false false e f g is = (omega (arith, ints, e), omega (arith, ints, f), omega (arith, ints, g))
    by true r s e f g is = cc
    by false true s e f g is = cc
    by false false true e f g is = cc

pub above-is : (extent : Extent) (bounds : Bounds) → is_above extent bounds ≡ true → (pos 2 *ℤ bounds.high) <ℤ extent.low
above-is extent bounds is = omega (arith, ints, is)

pub not_above : (extent : Extent) (bounds : Bounds) → is_above extent bounds ≡ false → extent.low ≤ℤ (pos 2 *ℤ bounds.high)
not_above extent bounds is = omega (arith, ints, is)

-- Of an edge whose ends lie within bounds, and a point of a box.
module _ (extent : Extent) (bounds : Bounds) (edge : Edge) (start : IsInBounds bounds (start_of edge)) (end : IsInBounds bounds (end_of edge)) (point : HalfPoint) (inside : IsInExtent extent point) where
  -- where the box lies apart, the edge doesn't wind around the point
  pub apart-turns : is_apart extent bounds ≡ true → under edge (halved point) ≡ pos 0
  apart-turns apart = ⊎_elim
      (λ left.
      let first = start.right in
      let second = end.right in
      let from = inside.left in
      under-left edge (halved point) (omega (arith, ints)) (omega (arith, ints)))
      (λ others. ⊎_elim
      (λ right.
      let first = start.left in
      let second = end.left in
      let upto = inside.right in
      under-right edge (halved point) (omega (arith, ints)) (omega (arith, ints)))
      (λ high.
      let upto = inside.high in
      under-above edge (halved point) bounds.low start.low end.low (omega (arith, ints)))
      others)
      (apart-cases extent bounds apart)

  -- nor does it go through it
  pub apart-off : is_apart extent bounds ≡ true → ¬ (IsOn edge (halved point))
  apart-off apart on = ⊎_elim
      (λ left.
      let from = inside.left in
      let upto = on-right edge (halved point) on bounds.right start.right end.right in
      omega (arith, ints))
      (λ others. ⊎_elim
      (λ right.
      let upto = inside.right in
      let from = on-left edge (halved point) on bounds.left start.left end.left in
      omega (arith, ints))
      (λ high.
      let upto = inside.high in
      let from = on-low edge (halved point) on bounds.low start.low end.low in
      omega (arith, ints))
      others)
      (apart-cases extent bounds apart)

-- Of an edge with both ends below a box, and a point of that.
module _ (extent : Extent) (edge : Edge) (start : (pos 2 *ℤ edge.y0) <ℤ extent.low) (end : (pos 2 *ℤ edge.y1) <ℤ extent.low) (point : HalfPoint) (inside : IsInExtent extent point) where
  -- the edge winds around the point by its steps
  pub above-turns : under edge (halved point) ≡ (step edge.x0 (halved point) -ℤ step edge.x1 (halved point))
  above-turns =
      let from = inside.low in
      under-below edge (halved point) (int_max edge.y0 edge.y1) (omega (arith, ints, clamps)) (omega (arith, ints, clamps)) (omega (arith, ints, clamps, from))

  -- and doesn't go through it
  pub above-off : ¬ (IsOn edge (halved point))
  above-off on =
      let from = inside.low in
      let upto = on-high edge (halved point) on (int_max edge.y0 edge.y1) (omega (arith, ints, clamps)) (omega (arith, ints, clamps)) in
      omega (arith, ints, clamps, from, upto)

-- what lies within bounds above which a box lies is below it
pub low-in : (extent : Extent) (bounds : Bounds) (point : Point) → is_above extent bounds ≡ true → IsInBounds bounds point → (pos 2 *ℤ point.y) <ℤ extent.low
low-in extent bounds point above within =
    let over = above-is extent bounds above in
    let upto = within.high in
    omega (arith, ints, over, upto)
