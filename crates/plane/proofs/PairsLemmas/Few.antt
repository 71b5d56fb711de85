-- Few strips are reached: by an item, as many as its height and the widths of strips say, and so by all.
use Rattle.std.proofs.Common.{inl, inr, ℕ, ◌+◌, ◌-◌, ◌*◌, ◌/◌, ◌^◌, ◌<◌, ◌≤◌, ℤ, ◌≤ℤ◌, List, [], ◌∷◌, length, sym, subst, arith}
use Rattle.std.specs.List.{All, sum_by}
use Rattle.std.proofs.lemmas.Int.{ints}
use Rattle.std.proofs.lemmas.List.Elements.{All-weaker}
use Rattle.std.proofs.lemmas.List.Sums.{sum_by-cons, sum_by-le}
use Rattle.std.proofs.lemmas.Nat.{pow_pos}
use Rattle.std.proofs.Math.Nat.{div-lt_iff_lt-mul, le-div_iff_mul-le, lt-div-mul-add}
use Rattle.i_tree.specs.Seg.Buckets.{distance}
use Rattle.plane.specs.Pairs.Bounds.{IsBox, IsPoint}
use Rattle.plane.specs.Pairs.Strips.{strip_at, width, reached_by, reached, ReachFew, IsWideEnough}
use Rattle.plane.specs.declared.pairs.items.Bounds.{Bounds}
use Rattle.plane.specs.declared.pairs.strips.Strips.{Strips}
use Rattle.plane.proofs.PairsLemmas.Told.{strip_at-mono}

-- a box lies between two heights
pub record IsBetween (base top : ℤ) (bounds : Bounds) : Type 0 where
  pub above : base ≤ℤ bounds.low
  pub below : bounds.high ≤ℤ top

-- how high a box is
abbrev pub height_of : Bounds → ℕ
height_of bounds = distance bounds.low bounds.high

-- quotients are at most one further apart than the numbers
quotient_near : (width low high apart : ℕ) → 0 < width → high ≤ low + apart → high / width ≤ low / width + apart / width + 1
quotient_near width low high apart some near =
    let first : low < low / width * width + width = lt-div-mul-add some in
    let second : apart < apart / width * width + width = lt-div-mul-add some in
    let below : high < (low / width + apart / width + 2) * width = omega (arith, first, second) in
    let less : high / width < low / width + apart / width + 2 = (div-lt_iff_lt-mul some).1 below in
    omega (arith, less)

-- the sum of quotients is at most the quotient of the sum
quotient-add : (width one other : ℕ) → 0 < width → one / width + other / width ≤ (one + other) / width
quotient-add width one other some =
    let first : one / width * width ≤ one = (le-div_iff_mul-le {k = width} some).0 (omega arith) in
    let second : other / width * width ≤ other = (le-div_iff_mul-le {k = width} some).0 (omega arith) in
    (le-div_iff_mul-le {k = width} some).1 (omega (arith, first, second))

module _ (strips : Strips) (bounds : Bounds) where
  -- a box reaches two strips more than its height fills, at most
  reached_by-height : reached_by strips bounds ≤ height_of bounds / width strips + 2
  reached_by-height =
      let near : distance strips.base bounds.high ≤ distance strips.base bounds.low + distance bounds.low bounds.high = omega (arith, ints) in
      let less = quotient_near (width strips) (distance strips.base bounds.low) (distance strips.base bounds.high) (height_of bounds) (pow_pos strips.bits) near in
      omega (arith, less)

  -- and one more than the span over the base fills
  reached_by-span : (top : ℤ) → IsBox bounds → IsBetween strips.base top bounds → reached_by strips bounds ≤ distance strips.base top / width strips + 1
  reached_by-span top box between =
      let above = between.above in
      let tall = box.tall in
      let rises = strip_at-mono strips bounds.high top (omega (arith, ints, above, tall)) between.below in
      omega (arith, rises)

module _ {X : Type 0} (bounds : X → Bounds) (strips : Strips) where
  -- all boxes reach as many more than their heights fill
  reached-heights : (items : List X) → reached bounds strips items ≤ sum_by (λ item. height_of (bounds item)) items / width strips + 2 * length items
  reached-heights [] = omega arith
  reached-heights (item ∷ items) =
      let first = sum_by-cons (λ item. reached_by strips (bounds item)) item items in
      let second = sum_by-cons (λ item. height_of (bounds item)) item items in
      let here = reached_by-height strips (bounds item) in
      let rest = reached-heights items in
      let both = quotient-add (width strips) (height_of (bounds item)) (sum_by (λ item. height_of (bounds item)) items) (pow_pos strips.bits) in
      rw (first, second) (omega (arith, here, rest, both))

  -- where a strip is as wide as it can be, or one is enough for all, each box reaches one or two
  reached-span : (items : List X) (top : ℤ) → ((item : X) → IsBox (bounds item)) → All (λ item. IsBetween strips.base top (bounds item)) items → distance strips.base top / width strips ≤ 1 → reached bounds strips items ≤ length items * 2
  reached-span items top proper between narrow =
      sum_by-le (λ item. reached_by strips (bounds item)) 2 items
      (All-weaker (λ item. IsBetween strips.base top (bounds item)) (λ item. reached_by strips (bounds item) ≤ 2)
      (λ item is. omega (arith, reached_by-span strips (bounds item) top (proper item) is, narrow)) items between)

  -- strips that are wide enough are few for each item
  pub ReachFew-wide : (items : List X) (top : ℤ) → ((item : X) → IsBox (bounds item)) → All (λ item. IsBetween strips.base top (bounds item)) items → distance strips.base top < 2 ^ 32
      → IsWideEnough (length items) (distance strips.base top) (sum_by (λ item. height_of (bounds item)) items) strips.bits → ReachFew bounds strips items
  ReachFew-wide items top proper between fits (inl most) =
      let below : distance strips.base top < 2 * width strips = subst (λ (bits : ℕ). distance strips.base top < 2 * 2 ^ bits) (sym most) fits in
      let narrow = (div-lt_iff_lt-mul {k = width strips} {x = distance strips.base top} {y = 2} (pow_pos strips.bits)).1 below in
      omega (arith, reached-span items top proper between (omega (arith, narrow)))
  ReachFew-wide items top proper between fits (inr (inl one)) = omega (arith, reached-span items top proper between (omega (arith, one)))
  ReachFew-wide items top proper between fits (inr (inr some)) = omega (arith, reached-heights items, some)

-- points reach one strip each
pub ReachFew-points : {X : Type 0} (bounds : X → Bounds) (strips : Strips) (items : List X) → All (λ item. IsPoint (bounds item)) items → ReachFew bounds strips items
ReachFew-points bounds strips items alone =
    let one = sum_by-le (λ item. reached_by strips (bounds item)) 1 items
    (All-weaker (λ item. IsPoint (bounds item)) (λ item. reached_by strips (bounds item) ≤ 1)
    (λ item is. subst (λ (high : ℤ). strip_at strips high + 1 - strip_at strips (bounds item).low ≤ 1) is.level (omega arith)) items alone) in
    omega (arith, one)
