-- Circles: corners within them, sides that are far enough from the origin, and the diamond.
use Rattle.std.proofs.Common.{◌≡◌, ◌<◌, ◌≤◌, min, ◌+◌, ◌-◌, ◌*◌, ◌/◌, ◌⊎◌, inl, inr, ℕ, zero, suc, ℤ, pos, negsuc, ◌+ℤ◌, ◌-ℤ◌, ◌*ℤ◌, ◌≤ℤ◌, ◌<ℤ◌, List, [], ◌∷◌, ◌++◌, get_or, length, refl, ap, sym, ◌∙◌, subst, arith}
use Rattle.std.proofs.lemmas.Bool.{cases_lt}
use Rattle.std.proofs.lemmas.Int.{by_lt_z, ints}
use Rattle.std.proofs.lemmas.List.Elements.{All-from_get_or, All-get_or}
use Rattle.std.proofs.lemmas.Nat.{div-add-mod'}
use Rattle.std.proofs.Math.ListN.{get_or-append}
use Rattle.std.proofs.Math.Nat.{div-le_of_le-mul, div-mul-le_self, mod-lt}
use Rattle.std.proofs.Math.Seq.{get_or-append_seam}
use Rattle.std.specs.List.{All}
use Rattle.plane.specs.declared.edge.Edge.{Edge}
use Rattle.plane.specs.declared.point.Point.{Point}
use Rattle.plane.proofs.MeetLemmas.Identities.{identity, minus, number, plus, scaled, times}
use Rattle.overlay.specs.Areas.{swept}
use Rattle.offset.proofs.CoverLemmas.Numbers.{above-product, positive-product}
use Rattle.offset.specs.Circle.{IsDistance, IsInner, IsOutsideCircle, IsRoot, IsWithinCircle, across, square_length, turned}
use Rattle.offset.specs.Raw.{nowhere}

-- Twice a product is at most the sum of the squares.
twice-most : (a b : ℕ) → 2 * (a * b) ≤ (b * b) + (a * a)
twice-most a b = by (cases_lt a b)
  where
    by : (a < b) ⊎ (b ≤ a) → 2 * (a * b) ≤ (b * b) + (a * a)
    by (inl below) = of a (b - a) b (omega arith)
      where
        of : (a e b : ℕ) → b ≡ a + e → 2 * (a * b) ≤ (b * b) + (a * a)
        of a e b is = subst (λ (c : ℕ). 2 * (a * c) ≤ (c * c) + (a * a)) (sym is) (omega arith)
    by (inr upto) = of b (a - b) a (omega arith)
      where
        of : (b e a : ℕ) → a ≡ b + e → 2 * (a * b) ≤ (b * b) + (a * a)
        of b e a is = subst (λ (c : ℕ). 2 * (c * b) ≤ (b * b) + (c * c)) (sym is) (omega arith)

-- A product by what is at most a number, over that number, is at most the other factor.
part-most : (r part whole : ℕ) → part ≤ whole → (r * part) / whole ≤ r
part-most r part whole upto = div-le_of_le-mul whole (of part (whole - part) whole (omega arith))
  where
    of : (part e whole : ℕ) → whole ≡ part + e → r * part ≤ whole * r
    of part e whole is = subst (λ (c : ℕ). r * part ≤ c * r) (sym is) (omega arith)

-- So the eighth keeps within the circle.
pub across-upto : (radius parts step : ℕ) → across radius parts step ≤ radius
across-upto radius parts step = part-most radius (2 * ((29 * step) * (70 * parts))) (((70 * parts) * (70 * parts)) + ((29 * step) * (29 * step))) (twice-most (29 * step) (70 * parts))

-- squares are in the order of their roots
pub square-most : (a b : ℕ) → a ≤ b → a * a ≤ b * b
square-most a b upto = of a (b - a) b (omega arith)
  where
    of : (a e b : ℕ) → b ≡ a + e → a * a ≤ b * b
    of a e b is = subst (λ (c : ℕ). a * a ≤ c * c) (sym is) (omega arith)

pub root-most : (a b : ℕ) → a * a ≤ b * b → a ≤ b
root-most a b upto = by (cases_lt b a)
  where
    by : (b < a) ⊎ (a ≤ b) → a ≤ b
    by (inl above) = absurd (of b (a - b) a (omega arith) (omega arith) upto)
      where
        of : (b e a : ℕ) → a ≡ b + e → 0 < e → a * a ≤ b * b → ⊥
        of b zero a is some least = absurd (omega (arith, some))
        of b (suc e) a is some least = (let at : (b + suc e) * (b + suc e) ≤ b * b = subst (λ (c : ℕ). c * c ≤ b * b) is least in omega (arith, at))
    by (inr below) = below

-- The last whole number along an axis within the circle.
pub along-within : (radius away along : ℕ) → away ≤ radius → IsRoot ((radius * radius) - (away * away)) along → (along * along) + (away * away) ≤ radius * radius
along-within radius away along upto root = let squares = square-most away radius upto in let from = root.from in omega (arith, squares, from)

pub along-upto : (radius away along : ℕ) → away ≤ radius → IsRoot ((radius * radius) - (away * away)) along → along ≤ radius
along-upto radius away along upto root = root-most along radius (let within = along-within radius away along upto root in omega (arith, within))

-- a point with such coordinates is within the circle
pub within-of : (radius x y : ℕ) → (x * x) + (y * y) ≤ radius * radius → (point : Point) → point.x ≡ pos x → point.y ≡ pos y → IsWithinCircle (pos radius) point
within-of radius x y upto point at_x at_y =
    subst (λ (a : ℤ). ((a *ℤ a) +ℤ (point.y *ℤ point.y)) ≤ℤ (pos radius *ℤ pos radius)) (sym at_x)
    (subst (λ (b : ℤ). ((pos x *ℤ pos x) +ℤ (b *ℤ b)) ≤ℤ (pos radius *ℤ pos radius)) (sym at_y) (omega (arith, ints, upto)))

-- A turned point is as far from the origin.
pub within-turned : (radius : ℤ) (quarters : ℕ) (point : Point) → IsWithinCircle radius point → IsWithinCircle radius (turned quarters point)
within-turned radius zero point within = within
within-turned radius (suc zero) point within =
    let same = identity (plus (times (minus (number (pos 0)) (number point.y)) (minus (number (pos 0)) (number point.y))) (times (number point.x) (number point.x))) (plus (times (number point.x) (number point.x)) (times (number point.y) (number point.y))) (omega arith) in
    omega (arith, ints, within, same)
within-turned radius (suc (suc zero)) point within =
    let less = λ (z : ℤ). minus (number (pos 0)) (number z) in
    let same = identity (plus (times (less point.x) (less point.x)) (times (less point.y) (less point.y))) (plus (times (number point.x) (number point.x)) (times (number point.y) (number point.y))) (omega arith) in
    omega (arith, ints, within, same)
within-turned radius (suc (suc (suc _))) point within =
    let less = λ (z : ℤ). minus (number (pos 0)) (number z) in
    let same = identity (plus (times (number point.y) (number point.y)) (times (less point.x) (less point.x))) (plus (times (number point.x) (number point.x)) (times (number point.y) (number point.y))) (omega arith) in
    omega (arith, ints, within, same)

-- ---- how far sides are from the origin

-- products by a number that isn't negative
scaled-of : (a b : ℕ) (l : ℤ) → a ≤ b → pos 0 ≤ℤ l → (pos a *ℤ l) ≤ℤ (pos b *ℤ l)
scaled-of a b l upto from =
    let more = scaled (b - a) (pos 0) l from in
    let sum : pos b ≡ (pos a +ℤ pos (b - a)) = omega (arith, ints, upto) in
    let split = ap (λ (z : ℤ). z *ℤ l) sum ∙ identity (times (plus (number (pos a)) (number (pos (b - a)))) (number l)) (plus (times (number (pos a)) (number l)) (times (number (pos (b - a))) (number l))) (omega arith) in
    let none = identity (times (number (pos (b - a))) (number (pos 0))) (number (pos 0)) (omega arith) in
    omega (arith, ints, more, split, none)

-- A root of what is at most the square of the distance is at most the distance.
pub outside-of : (side : Edge) (least square root : ℕ) → pos 0 ≤ℤ square_length side → IsDistance side square → least ≤ square → root * root ≤ least → IsOutsideCircle (pos root) side
outside-of side least square root from distance upto is =
    let low = scaled-of (root * root) square (square_length side) (omega (arith, upto, is)) from in
    let high = distance.from in
    omega (arith, ints, low, high)

-- and what is above its root isn't
pub not-outside : (side : Edge) (square root : ℕ) → pos 0 ≤ℤ square_length side → IsDistance side square → square < (root + 1) * (root + 1) → IsOutsideCircle (pos root +ℤ pos 1) side → ⊥
not-outside side square root from distance above outside =
    let high = scaled-of (square + 1) ((root + 1) * (root + 1)) (square_length side) (omega (arith, above)) from in
    let below = distance.below in
    let at : pos ((root + 1) * (root + 1)) ≡ ((pos root +ℤ pos 1) *ℤ (pos root +ℤ pos 1)) = refl in
    let same = ap (λ (z : ℤ). z *ℤ square_length side) at in
    omega (arith, ints, high, below, same, outside)

-- squares aren't negative, so neither is the square of a length
square-from : (z : ℤ) → pos 0 ≤ℤ (z *ℤ z)
square-from (pos n) = above-product (pos n) (pos n) (omega (arith, ints)) (omega (arith, ints))
square-from (negsuc n) = omega (arith, ints)

pub length-from : (side : Edge) → pos 0 ≤ℤ square_length side
length-from side =
    let x = square-from (side.x1 -ℤ side.x0) in
    let y = square-from (side.y1 -ℤ side.y0) in
    omega (arith, ints, x, y)

-- A side that the origin lies left of has a length: what it sweeps and how far it goes away from the origin, by squares, are its
-- length times how far its start is.
pub length-some : (side : Edge) → pos 0 <ℤ swept side → pos 0 <ℤ square_length side
length-some side left =
    by_lt_z (pos 0) (square_length side)
    (λ above. above)
    (λ upto.
    let none : square_length side ≡ pos 0 = (let from = length-from side in omega (arith, ints, upto, from)) in
    let x0 = number side.x0 in
    let y0 = number side.y0 in
    let x = minus (number side.x1) x0 in
    let y = minus (number side.y1) y0 in
    let sweep = minus (times x0 (number side.y1)) (times y0 (number side.x1)) in
    let forth = plus (times x0 x) (times y0 y) in
    let start = plus (times x0 x0) (times y0 y0) in
    let all = identity (plus (times sweep sweep) (times forth forth)) (times start (plus (times x x) (times y y))) (omega arith) in
    let zeroed = ap (λ (l : ℤ). ((side.x0 *ℤ side.x0) +ℤ (side.y0 *ℤ side.y0)) *ℤ l) none ∙ identity (times start (number (pos 0))) (number (pos 0)) (omega arith) in
    let sweeps = positive-product (swept side) (swept side) left left in
    let goes = square-from ((side.x0 *ℤ (side.x1 -ℤ side.x0)) +ℤ (side.y0 *ℤ (side.y1 -ℤ side.y0))) in
    absurd (omega (arith, ints, zeroed, sweeps, goes, all)))

-- The quotient is the square of the distance, rounded down.
pub distance-of : (side : Edge) (sweeps size : ℕ) → pos sweeps ≡ swept side → pos size ≡ square_length side → 0 < size → IsDistance side ((sweeps * sweeps) / size)
distance-of side sweeps size at_sweeps at_size some =
    let quotient = (sweeps * sweeps) / size in
    let low : quotient * size ≤ sweeps * sweeps = div-mul-le_self (sweeps * sweeps) size in
    let high : sweeps * sweeps < (quotient + 1) * size = over (sweeps * sweeps) in
    let squares : (swept side *ℤ swept side) ≡ pos (sweeps * sweeps) = ap (λ (z : ℤ). z *ℤ z) (sym at_sweeps) in
    let from_size : (pos quotient *ℤ square_length side) ≡ pos (quotient * size) = ap (λ (z : ℤ). pos quotient *ℤ z) (sym at_size) in
    let next_size : (pos (quotient + 1) *ℤ square_length side) ≡ pos ((quotient + 1) * size) = ap (λ (z : ℤ). pos (quotient + 1) *ℤ z) (sym at_size) in
    record { from = omega (arith, ints, low, squares, from_size); below = omega (arith, ints, high, squares, next_size) }
  where
    over : (n : ℕ) → n < ((n / size) + 1) * size
    over n = let all = div-add-mod' n size in let rest = mod-lt n some in omega (arith, all, rest)

-- ---- corners, one after another

-- What holds of each so far holds of one more.
pub corners-more : (P : ℕ → Point → Type 0) (xs : List Point) (x : Point) (index : ℕ) → length xs ≡ index → ((k : ℕ) (d : Point) → k < index → P k (get_or xs k d)) → P index x
    → (k : ℕ) (d : Point) → k < index + 1 → P k (get_or (xs ++ x ∷ []) k d)
corners-more P xs x index size before here k d within = by (cases_lt k index)
  where
    by : (k < index) ⊎ (index ≤ k) → P k (get_or (xs ++ x ∷ []) k d)
    by (inl earlier) = subst (P k) (sym (get_or-append xs (x ∷ []) d k (omega (arith, size, earlier)))) (before k d earlier)
    by (inr last) =
        let at : k ≡ index = omega (arith, last, within) in
        let same : get_or (xs ++ x ∷ []) k d ≡ x = ap (λ (n : ℕ). get_or (xs ++ x ∷ []) n d) (omega (arith, at, size)) ∙ get_or-append_seam xs x [] d in
        subst (P k) (sym same) (subst (λ (n : ℕ). P n x) (sym at) here)

-- ---- the least distance

-- The least square of a distance, of so many sides, or the square of the radius.
pub record IsLeast (at : ℕ → Edge) (most count least : ℕ) : Type 0 where
  pub upto : least ≤ most
  pub each : (k : ℕ) → k < count → (square : ℕ) × IsDistance (at k) square × (least ≤ square)
  pub told : (least ≡ most) ⊎ ((k : ℕ) × (k < count) × IsDistance (at k) least)

pub least-none : (at : ℕ → Edge) (most : ℕ) → IsLeast at most 0 most
least-none at most = record { upto = omega arith; each = λ k none. absurd (omega (arith, none)); told = inl refl }

pub least-more : (at : ℕ → Edge) (most count least square : ℕ) → IsLeast at most count least → IsDistance (at count) square → IsLeast at most (count + 1) (min least square)
least-more at most count least square before here = by (cases_lt square least)
  where
    at-each : (low : ℕ) → low ≤ least → low ≤ square → (k : ℕ) → k < count + 1 → (other : ℕ) × IsDistance (at k) other × (low ≤ other)
    at-each low below_least below_square k within = of (cases_lt k count)
      where
        of : (k < count) ⊎ (count ≤ k) → (other : ℕ) × IsDistance (at k) other × (low ≤ other)
        of (inl earlier) = let (other, distance, from) = before.each k earlier in (other, distance, omega (arith, below_least, from))
        of (inr last) = (square, subst (λ (n : ℕ). IsDistance (at n) square) (let same : count ≡ k = omega (arith, last, within) in same) here, below_square)

    by : (square < least) ⊎ (least ≤ square) → IsLeast at most (count + 1) (min least square)
    by (inl below) =
        let is : min least square ≡ square = omega (arith, below) in
        subst (λ (n : ℕ). IsLeast at most (count + 1) n) (sym is)
        (record {
          upto = let first = before.upto in omega (arith, below, first);
          each = at-each square (omega (arith, below)) (omega arith);
          told = inr (count, omega arith, here);
        })
    by (inr from) =
        let is : min least square ≡ least = omega (arith, from) in
        subst (λ (n : ℕ). IsLeast at most (count + 1) n) (sym is)
        (record {
          upto = before.upto;
          each = at-each least (omega arith) from;
          told = earlier before.told;
        })
      where
        earlier : (least ≡ most) ⊎ ((k : ℕ) × (k < count) × IsDistance (at k) least) → (least ≡ most) ⊎ ((k : ℕ) × (k < count + 1) × IsDistance (at k) least)
        earlier (inl whole) = inl whole
        earlier (inr (k, within, distance)) = inr (k, omega (arith, within), distance)

-- Its root is the inner radius.
pub inner-of : (edges : List Edge) (radius least root : ℕ) → IsLeast (λ k. get_or edges k nowhere) (radius * radius) (length edges) least → IsRoot least root → IsInner (pos radius) edges (pos root)
inner-of edges radius least root is found = record {
  outside = All-from_get_or (IsOutsideCircle (pos root)) edges nowhere
      (λ k within. let (square, distance, from) = is.each k within in outside-of (get_or edges k nowhere) least square root (length-from (get_or edges k nowhere)) distance from found.from);
  from = omega (arith, ints);
  upto = (let low = root-most root radius (let first = found.from in let second = is.upto in omega (arith, first, second)) in omega (arith, ints, low));
  most = λ below all. most below all is.told;
}
  where
    most : pos root <ℤ pos radius → All (IsOutsideCircle (pos root +ℤ pos 1)) edges → (least ≡ radius * radius) ⊎ ((k : ℕ) × (k < length edges) × IsDistance (get_or edges k nowhere) least) → ⊥
    most below all (inl whole) =
        let next = square-most (root + 1) radius (omega (arith, ints, below)) in
        let above = found.below in
        omega (arith, next, above, whole)
    most below all (inr (k, within, distance)) =
        not-outside (get_or edges k nowhere) least root (length-from (get_or edges k nowhere)) distance found.below (All-get_or (IsOutsideCircle (pos root +ℤ pos 1)) edges k nowhere within all)
