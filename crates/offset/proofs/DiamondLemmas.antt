-- The diamond is convex around the origin, and within its circle.
use Rattle.std.proofs.Common.{◌≡◌, ◌≢◌, ◌<◌, ◌+◌, ℕ, zero, suc, ℤ, pos, ◌*ℤ◌, ◌≤ℤ◌, ◌<ℤ◌, List, [], ◌∷◌, get_or, length, ap, arith}
use Rattle.std.proofs.lemmas.Int.{ints}
use Rattle.std.proofs.lemmas.List.Elements.{All-cons, All-nil}
use Rattle.std.specs.List.{All}
use Rattle.plane.specs.declared.edge.Edge.{Edge}
use Rattle.plane.specs.declared.point.Point.{Point}
use Rattle.plane.specs.Ends.{edge_between}
use Rattle.plane.specs.Lines.{height_over}
use Rattle.plane.proofs.MeetLemmas.Identities.{Term, identity, less, minus, more, number, plus, times, value}
use Rattle.overlay.specs.Areas.{swept}
use Rattle.offset.specs.Circle.{IsWithinCircle, diamond}
use Rattle.offset.specs.Shape.{IsConvexAroundOrigin, neighbours, sides, turn}
use Rattle.offset.proofs.CoverLemmas.Numbers.{positive-product}
use Rattle.offset.proofs.CoverLemmas.Vectors.{Terms, crossing, less_terms}

module _ (r : ℤ) (some : pos 0 <ℤ r) where
  square : pos 0 <ℤ (r *ℤ r)
  square = positive-product r r some some

  -- what is once or twice the square of r, or 0
  once : (t : Term) → more t + less (times (number r) (number r)) ≡ more (times (number r) (number r)) + less t → pos 0 <ℤ value t
  once t same = let is = identity t (times (number r) (number r)) same in let above = square in omega (arith, ints, is, above)

  twice : (t : Term) → more t + less (plus (times (number r) (number r)) (times (number r) (number r))) ≡ more (plus (times (number r) (number r)) (times (number r) (number r))) + less t → pos 0 <ℤ value t
  twice t same = let is = identity t (plus (times (number r) (number r)) (times (number r) (number r))) same in let above = square in omega (arith, ints, is, above)

  flat : (t : Term) → more t + less (number (pos 0)) ≡ more (number (pos 0)) + less t → pos 0 ≤ℤ value t
  flat t same = let is = identity t (number (pos 0)) same in omega (arith, ints, is)

  high : (t : Term) → more t + less (plus (times (number r) (number r)) (times (number r) (number r))) ≡ more (plus (times (number r) (number r)) (times (number r) (number r))) + less t → pos 0 ≤ℤ value t
  high t same = let above = twice t same in omega (arith, ints, above)

  -- its corners, as expressions
  abbrev n : Term
  n = number r

  abbrev z : Term
  z = number (pos 0)

  abbrev m : Term
  m = minus z n

  abbrev right : Terms
  right = record { x = n; y = z }

  abbrev top : Terms
  top = record { x = z; y = n }

  abbrev left : Terms
  left = record { x = m; y = z }

  abbrev bottom : Terms
  bottom = record { x = z; y = m }

  abbrev at : Terms → Point
  at t = record { x = value t.x; y = value t.y }

  abbrev side : Terms → Terms → Edge
  side a b = edge_between (at a) (at b)

  abbrev tall : Terms → Terms → Terms → Term
  tall a b c = crossing (less_terms b a) (less_terms c a)

  abbrev Around : Edge → Type 0
  Around e = pos 0 <ℤ swept e

  around : All Around (sides (diamond r))
  around =
      All-cons Around (side right top) ((side top left) ∷ (side left bottom) ∷ (side bottom right) ∷ [])
      (once (crossing right top) (omega arith))
      (All-cons Around (side top left) ((side left bottom) ∷ (side bottom right) ∷ [])
      (once (crossing top left) (omega arith))
      (All-cons Around (side left bottom) ((side bottom right) ∷ [])
      (once (crossing left bottom) (omega arith))
      (All-cons Around (side bottom right) ([])
      (once (crossing bottom right) (omega arith))
      (All-nil Around))))

  abbrev Turns : Edge × Edge → Type 0
  Turns two = pos 0 <ℤ turn two.0 two.1

  turns : All Turns (neighbours (sides (diamond r)))
  turns =
      All-cons Turns ((side right top), (side top left)) (((side top left), (side left bottom)) ∷ ((side left bottom), (side bottom right)) ∷ ((side bottom right), (side right top)) ∷ [])
      (twice (crossing (less_terms top right) (less_terms left top)) (omega arith))
      (All-cons Turns ((side top left), (side left bottom)) (((side left bottom), (side bottom right)) ∷ ((side bottom right), (side right top)) ∷ [])
      (twice (crossing (less_terms left top) (less_terms bottom left)) (omega arith))
      (All-cons Turns ((side left bottom), (side bottom right)) (((side bottom right), (side right top)) ∷ [])
      (twice (crossing (less_terms bottom left) (less_terms right bottom)) (omega arith))
      (All-cons Turns ((side bottom right), (side right top)) ([])
      (twice (crossing (less_terms right bottom) (less_terms top right)) (omega arith))
      (All-nil Turns))))

  abbrev Beside : Edge → Point → Type 0
  Beside e c = pos 0 ≤ℤ height_over e c

  abbrev Inside : Edge → Type 0
  Inside e = All (Beside e) (diamond r)

  inside_right : Inside (side right top)
  inside_right =
      All-cons (Beside (side right top)) (at right) ((at top) ∷ (at left) ∷ (at bottom) ∷ [])
      (flat (tall right top right) (omega arith))
      (All-cons (Beside (side right top)) (at top) ((at left) ∷ (at bottom) ∷ [])
      (flat (tall right top top) (omega arith))
      (All-cons (Beside (side right top)) (at left) ((at bottom) ∷ [])
      (high (tall right top left) (omega arith))
      (All-cons (Beside (side right top)) (at bottom) ([])
      (high (tall right top bottom) (omega arith))
      (All-nil (Beside (side right top))))))

  inside_top : Inside (side top left)
  inside_top =
      All-cons (Beside (side top left)) (at right) ((at top) ∷ (at left) ∷ (at bottom) ∷ [])
      (high (tall top left right) (omega arith))
      (All-cons (Beside (side top left)) (at top) ((at left) ∷ (at bottom) ∷ [])
      (flat (tall top left top) (omega arith))
      (All-cons (Beside (side top left)) (at left) ((at bottom) ∷ [])
      (flat (tall top left left) (omega arith))
      (All-cons (Beside (side top left)) (at bottom) ([])
      (high (tall top left bottom) (omega arith))
      (All-nil (Beside (side top left))))))

  inside_left : Inside (side left bottom)
  inside_left =
      All-cons (Beside (side left bottom)) (at right) ((at top) ∷ (at left) ∷ (at bottom) ∷ [])
      (high (tall left bottom right) (omega arith))
      (All-cons (Beside (side left bottom)) (at top) ((at left) ∷ (at bottom) ∷ [])
      (high (tall left bottom top) (omega arith))
      (All-cons (Beside (side left bottom)) (at left) ((at bottom) ∷ [])
      (flat (tall left bottom left) (omega arith))
      (All-cons (Beside (side left bottom)) (at bottom) ([])
      (flat (tall left bottom bottom) (omega arith))
      (All-nil (Beside (side left bottom))))))

  inside_bottom : Inside (side bottom right)
  inside_bottom =
      All-cons (Beside (side bottom right)) (at right) ((at top) ∷ (at left) ∷ (at bottom) ∷ [])
      (flat (tall bottom right right) (omega arith))
      (All-cons (Beside (side bottom right)) (at top) ((at left) ∷ (at bottom) ∷ [])
      (high (tall bottom right top) (omega arith))
      (All-cons (Beside (side bottom right)) (at left) ((at bottom) ∷ [])
      (high (tall bottom right left) (omega arith))
      (All-cons (Beside (side bottom right)) (at bottom) ([])
      (flat (tall bottom right bottom) (omega arith))
      (All-nil (Beside (side bottom right))))))

  inside : All Inside (sides (diamond r))
  inside =
      All-cons Inside (side right top) ((side top left) ∷ (side left bottom) ∷ (side bottom right) ∷ [])
      (inside_right)
      (All-cons Inside (side top left) ((side left bottom) ∷ (side bottom right) ∷ [])
      (inside_top)
      (All-cons Inside (side left bottom) ((side bottom right) ∷ [])
      (inside_left)
      (All-cons Inside (side bottom right) ([])
      (inside_bottom)
      (All-nil Inside))))

  -- no two of its corners are one
  apart : (i j : ℕ) (d : Point) → i < j → j < 4 → get_or (diamond r) i d ≢ get_or (diamond r) j d
  apart zero (suc zero) d before within same = let x = ap (λ (p : Point). p.x) same in omega (arith, ints, some, x)
  apart zero (suc (suc zero)) d before within same = let x = ap (λ (p : Point). p.x) same in omega (arith, ints, some, x)
  apart zero (suc (suc (suc zero))) d before within same = let x = ap (λ (p : Point). p.x) same in omega (arith, ints, some, x)
  apart (suc zero) (suc (suc zero)) d before within same = let x = ap (λ (p : Point). p.x) same in omega (arith, ints, some, x)
  apart (suc zero) (suc (suc (suc zero))) d before within same = let y = ap (λ (p : Point). p.y) same in omega (arith, ints, some, y)
  apart (suc (suc zero)) (suc (suc (suc zero))) d before within same = let x = ap (λ (p : Point). p.x) same in omega (arith, ints, some, x)
  apart i zero d before within same = absurd (omega (arith, before))
  apart (suc i) (suc zero) d before within same = absurd (omega (arith, before))
  apart (suc (suc i)) (suc (suc zero)) d before within same = absurd (omega (arith, before))
  apart (suc (suc (suc i))) (suc (suc (suc zero))) d before within same = absurd (omega (arith, before))
  apart i (suc (suc (suc (suc j)))) d before within same = absurd (omega (arith, within))

  -- It is such a polygon.
  pub diamond-convex : IsConvexAroundOrigin (diamond r)
  diamond-convex = record {
    ring = record { some = λ none. absurd (omega (arith, ap (λ (l : List Point). length l) none)); once = λ i j d before within. apart i j d before within };
    left = around;
    turns = turns;
    convex = inside;
  }

  -- and its corners are as far from the origin as the radius
  pub diamond-within : All (IsWithinCircle r) (diamond r)
  diamond-within =
      All-cons (IsWithinCircle r) (at right) ((at top) ∷ (at left) ∷ (at bottom) ∷ [])
      (near (plus (times right.x right.x) (times right.y right.y)) (omega arith))
      (All-cons (IsWithinCircle r) (at top) ((at left) ∷ (at bottom) ∷ [])
      (near (plus (times top.x top.x) (times top.y top.y)) (omega arith))
      (All-cons (IsWithinCircle r) (at left) ((at bottom) ∷ [])
      (near (plus (times left.x left.x) (times left.y left.y)) (omega arith))
      (All-cons (IsWithinCircle r) (at bottom) ([])
      (near (plus (times bottom.x bottom.x) (times bottom.y bottom.y)) (omega arith))
      (All-nil (IsWithinCircle r)))))
    where
      near : (t : Term) → more t + less (times (number r) (number r)) ≡ more (times (number r) (number r)) + less t → value t ≤ℤ (r *ℤ r)
      near t same = let is = identity t (times (number r) (number r)) same in omega (arith, ints, is)
