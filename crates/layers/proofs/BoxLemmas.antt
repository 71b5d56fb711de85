-- The boxes of points.
use Rattle.std.proofs.Common.{◌≡◌, ◌≢◌, ◌⊎◌, ◌∷◌, [], ℕ, ℤ, ◌+◌, ◌<◌, List, length, get_or, take, refl, sym, subst, ap, arith, inl, inr, true, false, cond, int_lt}
use Rattle.std.specs.List.{All, Any}
use Rattle.std.specs.Int.{int_min, int_max}
use Rattle.std.proofs.lemmas.Int.{int_max_is, int_min_is, ints}
use Rattle.std.proofs.lemmas.List.{get_or_default, take_more}
use Rattle.std.proofs.lemmas.List.Elements.{All-append, All-cons, All-nil}
use Rattle.plane.specs.declared.pairs.items.Bounds.{Bounds}
use Rattle.plane.specs.declared.point.Point.{Point}
use Rattle.plane.specs.Pairs.Bounds.{IsBox}
use Rattle.layers.specs.Boxed.{box_at, grown}
use Rattle.layers.specs.Boxes.{IsBoxOf, IsInBounds}

-- The box has some of the points, and each side has one of all.
pub record IsBoxUpto (all some : List Point) (bounds : Bounds) : Type 0 where
  pub within : All (λ point. IsInBounds bounds point) some
  pub left : Any (λ point. point.x ≡ bounds.left) all
  pub right : Any (λ point. point.x ≡ bounds.right) all
  pub low : Any (λ point. point.y ≡ bounds.low) all
  pub high : Any (λ point. point.y ≡ bounds.high) all

min-either : (x y : ℤ) → (int_min x y ≡ x) ⊎ (int_min x y ≡ y)
min-either x y = elim (int_lt y x) as (λ t. (cond t y x ≡ x) ⊎ (cond t y x ≡ y)) [ true ↦ inr refl | false ↦ inl refl ]

max-either : (x y : ℤ) → (int_max x y ≡ x) ⊎ (int_max x y ≡ y)
max-either x y = elim (int_lt y x) as (λ t. (cond t x y ≡ x) ⊎ (cond t x y ≡ y)) [ true ↦ inl refl | false ↦ inr refl ]

pub IsInBounds-grown : (bounds : Bounds) (point other : Point) → IsInBounds bounds other → IsInBounds (grown bounds point) other
IsInBounds-grown bounds point other is = record {
  left = (let m = int_min_is bounds.left point.x in let h = is.left in omega (arith, ints));
  right = (let m = int_max_is bounds.right point.x in let h = is.right in omega (arith, ints));
  low = (let m = int_min_is bounds.low point.y in let h = is.low in omega (arith, ints));
  high = (let m = int_max_is bounds.high point.y in let h = is.high in omega (arith, ints));
}

pub IsInBounds-itself : (bounds : Bounds) (point : Point) → IsInBounds (grown bounds point) point
IsInBounds-itself bounds point = record {
  left = (let m = int_min_is bounds.left point.x in omega (arith, ints));
  right = (let m = int_max_is bounds.right point.x in omega (arith, ints));
  low = (let m = int_min_is bounds.low point.y in omega (arith, ints));
  high = (let m = int_max_is bounds.high point.y in omega (arith, ints));
}

-- a point of these
abbrev at : (points : List Point) (k : ℕ) (d : Point) → k < length points → (P : Point → Type 0) → P (get_or points k d) → Any P points
at points k d within P is = (k, get_or points k d, within, get_or_default points k (get_or points k d) d within, is)

-- one of two numbers is that of a point, where both are
either : (side : Point → ℤ) (points : List Point) (a b c : ℤ) → (c ≡ a) ⊎ (c ≡ b) → Any (λ point. side point ≡ a) points → Any (λ point. side point ≡ b) points → Any (λ point. side point ≡ c) points
either side points a b c (inl is) first second = subst (λ (z : ℤ). Any (λ point. side point ≡ z) points) (sym is) first
either side points a b c (inr is) first second = subst (λ (z : ℤ). Any (λ point. side point ≡ z) points) (sym is) second

module _ (points : List Point) (k : ℕ) (d : Point) (within : k < length points) where
  -- the box of one point has none of them yet
  pub IsBoxUpto-begins : IsBoxUpto points [] (box_at (get_or points k d))
  IsBoxUpto-begins = record {
    within = All-nil _;
    left = at points k d within (λ point. point.x ≡ (get_or points k d).x) refl;
    right = at points k d within (λ point. point.x ≡ (get_or points k d).x) refl;
    low = at points k d within (λ point. point.y ≡ (get_or points k d).y) refl;
    high = at points k d within (λ point. point.y ≡ (get_or points k d).y) refl;
  }

  -- and it grows by one of them
  pub IsBoxUpto-more : (bounds : Bounds) → IsBoxUpto points (take k points) bounds → IsBoxUpto points (take (k + 1) points) (grown bounds (get_or points k d))
  IsBoxUpto-more bounds is =
      let point = get_or points k d in
      let more = take_more points k d within in
      record {
        within = rw more
            (All-append (IsInBounds (grown bounds point)) (take k points) (point ∷ [])
            (λ i e inside. IsInBounds-grown bounds point (get_or (take k points) i e) (is.within i e inside))
            (All-cons (IsInBounds (grown bounds point)) point [] (IsInBounds-itself bounds point) (All-nil (IsInBounds (grown bounds point)))));
        left = either (λ p. p.x) points bounds.left point.x _ (min-either bounds.left point.x) is.left (at points k d within (λ p. p.x ≡ point.x) refl);
        right = either (λ p. p.x) points bounds.right point.x _ (max-either bounds.right point.x) is.right (at points k d within (λ p. p.x ≡ point.x) refl);
        low = either (λ p. p.y) points bounds.low point.y _ (min-either bounds.low point.y) is.low (at points k d within (λ p. p.y ≡ point.y) refl);
        high = either (λ p. p.y) points bounds.high point.y _ (max-either bounds.high point.y) is.high (at points k d within (λ p. p.y ≡ point.y) refl);
      }

-- once it has all, it is their box
pub IsBoxOf-all : (points some : List Point) (bounds : Bounds) → some ≡ points → IsBoxUpto points some bounds → IsBoxOf points bounds
IsBoxOf-all points some bounds all is = record {
  within = subst (All (IsInBounds bounds)) all is.within;
  left = is.left;
  right = is.right;
  low = is.low;
  high = is.high;
}

-- the box of points is one
pub IsBox-of : (points : List Point) (bounds : Bounds) → IsBoxOf points bounds → IsBox bounds
IsBox-of points bounds is =
    let (i, one, inside, one_is, left) = is.left in
    let (j, other, within, other_is, low) = is.low in
    let first = subst (IsInBounds bounds) one_is (is.within i one inside) in
    let second = subst (IsInBounds bounds) other_is (is.within j other within) in
    record {
      wide = (let right = first.right in omega (arith, ints, left, right));
      tall = (let high = second.high in omega (arith, ints, low, high));
    }

-- boxes with the same sides are the same
pub same-sides : (a a' b b' c c' d d' : ℤ) → a ≡ a' → b ≡ b' → c ≡ c' → d ≡ d' → let one : Bounds = record { left = a; right = b; low = c; high = d } in let other : Bounds = record { left = a'; right = b'; low = c'; high = d' } in one ≡ other
same-sides a a' b b' c c' d d' left right low high = cc

-- a point of which this holds lies in the bounds of all
within-bounds : (points : List Point) (bounds : Bounds) (P : Point → Type 0) → All (IsInBounds bounds) points → Any P points → (point : Point) × P point × IsInBounds bounds point
within-bounds points bounds P all (k, point, inside, is, holds) = (point, holds, subst (IsInBounds bounds) is (all k point inside))

-- points have one box alone
pub IsBoxOf-same : (points : List Point) (one other : Bounds) → IsBoxOf points one → IsBoxOf points other → one ≡ other
IsBoxOf-same points one other is other_is =
    same-sides one.left other.left one.right other.right one.low other.low one.high other.high
    (let (p, at, inside) = within-bounds points other _ other_is.within is.left in
    let (q, there, within) = within-bounds points one _ is.within other_is.left in
    let low = inside.left in
    let high = within.left in
    omega (arith, ints, at, there, low, high))
    (let (p, at, inside) = within-bounds points other _ other_is.within is.right in
    let (q, there, within) = within-bounds points one _ is.within other_is.right in
    let low = inside.right in
    let high = within.right in
    omega (arith, ints, at, there, low, high))
    (let (p, at, inside) = within-bounds points other _ other_is.within is.low in
    let (q, there, within) = within-bounds points one _ is.within other_is.low in
    let low = inside.low in
    let high = within.low in
    omega (arith, ints, at, there, low, high))
    (let (p, at, inside) = within-bounds points other _ other_is.within is.high in
    let (q, there, within) = within-bounds points one _ is.within other_is.high in
    let low = inside.high in
    let high = within.high in
    omega (arith, ints, at, there, low, high))

-- points with a box are some
pub IsBoxOf-some : (points : List Point) (bounds : Bounds) → IsBoxOf points bounds → points ≢ []
IsBoxOf-some points bounds is none =
    let (k, point, inside, at, side) = is.left in
    let size = ap (λ (list : List Point). length list) none in
    absurd (omega (arith, inside, size))
