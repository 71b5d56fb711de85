-- What the cross products of two edges' ways say of a point that both have, and the point that they give where the ways
-- aren't parallel.
use Rattle.std.proofs.Common.{◌≡◌, ◌≢◌, ℕ, suc, ◌*◌, ◌<◌, ◌≤◌, ℤ, pos, negsuc, ◌+ℤ◌, ◌-ℤ◌, ◌*ℤ◌, ◌≤ℤ◌, ◌<ℤ◌, arith, ap, sym, refl, ◌∙◌, inl, inr}
use Rattle.std.proofs.lemmas.Int.{ints, by_lt_z}
use Rattle.std.proofs.Math.Nat.{mul-le-mul_right}
use Rattle.plane.specs.declared.edge.Edge.{Edge}
use Rattle.plane.specs.Meet.Crosses.{cross, IsPart}
use Rattle.plane.specs.Meet.Edges.{RationalPoint, IsAtShare, IsOf, Meet}
use Rattle.plane.proofs.MeetLemmas.Identities.{Term, number, plus, minus, times, identity, same_of, unscaled}

-- The cross product as an expression.
abbrev crossing : ℤ → ℤ → ℤ → ℤ → Term
crossing x y other_x other_y = minus (times (number x) (number other_y)) (times (number y) (number other_x))

-- The cross products of two edges: of their ways, and of the way between their starts with each.
abbrev pub whole : Edge → Edge → ℤ
whole one other = cross (one.x1 -ℤ one.x0) (one.y1 -ℤ one.y0) (other.x1 -ℤ other.x0) (other.y1 -ℤ other.y0)

abbrev pub part_of_one : Edge → Edge → ℤ
part_of_one one other = cross (other.x0 -ℤ one.x0) (other.y0 -ℤ one.y0) (other.x1 -ℤ other.x0) (other.y1 -ℤ other.y0)

abbrev pub part_of_other : Edge → Edge → ℤ
part_of_other one other = cross (other.x0 -ℤ one.x0) (other.y0 -ℤ one.y0) (one.x1 -ℤ one.x0) (one.y1 -ℤ one.y0)

-- ---- from a common point to the parts

-- a point that lies at two shares of two ways, by the way between their starts
between : (n a b : ℕ) (start way other_start other_way : ℤ) → ((pos n *ℤ start) +ℤ (pos a *ℤ way)) ≡ ((pos n *ℤ other_start) +ℤ (pos b *ℤ other_way)) → (pos n *ℤ (other_start -ℤ start)) ≡ ((pos a *ℤ way) -ℤ (pos b *ℤ other_way))
between n a b start way other_start other_way same =
    let count : ℕ → Term = λ k. number (pos k) in
    let fact = same_of (plus (times (count n) (number start)) (times (count a) (number way))) (plus (times (count n) (number other_start)) (times (count b) (number other_way))) same in
    identity (times (count n) (minus (number other_start) (number start))) (minus (times (count a) (number way)) (times (count b) (number other_way))) (omega (arith, fact))

-- the cross product of a sum of parts of two ways, with the other way
crossed : (a b wx wy ux uy vx vy : ℤ) → wx ≡ ((a *ℤ ux) -ℤ (b *ℤ vx)) → wy ≡ ((a *ℤ uy) -ℤ (b *ℤ vy)) → cross wx wy vx vy ≡ (a *ℤ cross ux uy vx vy)
crossed a b wx wy ux uy vx vy first second =
    let along : ℤ → ℤ → Term = λ u v. minus (times (number a) (number u)) (times (number b) (number v)) in
    ap (λ x. cross x wy vx vy) first
    ∙ ap (λ y. cross ((a *ℤ ux) -ℤ (b *ℤ vx)) y vx vy) second
    ∙ identity (minus (times (along ux vx) (number vy)) (times (along uy vy) (number vx))) (times (number a) (crossing ux uy vx vy)) (omega arith)

-- the same with the one way
crossed_back : (a b wx wy ux uy vx vy : ℤ) → wx ≡ ((a *ℤ ux) -ℤ (b *ℤ vx)) → wy ≡ ((a *ℤ uy) -ℤ (b *ℤ vy)) → cross wx wy ux uy ≡ (b *ℤ cross ux uy vx vy)
crossed_back a b wx wy ux uy vx vy first second =
    let along : ℤ → ℤ → Term = λ u v. minus (times (number a) (number u)) (times (number b) (number v)) in
    ap (λ x. cross x wy ux uy) first
    ∙ ap (λ y. cross ((a *ℤ ux) -ℤ (b *ℤ vx)) y ux uy) second
    ∙ identity (minus (times (along ux vx) (number uy)) (times (along uy vy) (number ux))) (times (number b) (crossing ux uy vx vy)) (omega arith)

-- a factor goes into a cross product
cross_scaled : (n wx wy x y : ℤ) → cross (n *ℤ wx) (n *ℤ wy) x y ≡ (n *ℤ cross wx wy x y)
cross_scaled n wx wy x y =
    identity (minus (times (times (number n) (number wx)) (number y)) (times (times (number n) (number wy)) (number x))) (times (number n) (crossing wx wy x y)) (omega arith)

-- what is a of n parts of a whole is a part of it
part_up : (n a d : ℕ) (part : ℤ) → 0 < n → a ≤ n → (pos n *ℤ part) ≡ (pos a *ℤ pos d) → IsPart part (pos d)
part_up n a d part some share same =
    let below : a * d ≤ n * d = mul-le-mul_right d share in
    inl (unscaled n (pos 0) part some (omega (arith, ints)), unscaled n part (pos d) some (omega (arith, ints)))

part_down : (n a d : ℕ) (part : ℤ) → 0 < n → a ≤ n → (pos n *ℤ part) ≡ (pos a *ℤ negsuc d) → IsPart part (negsuc d)
part_down n a d part some share same =
    let below : a * suc d ≤ n * suc d = mul-le-mul_right (suc d) share in
    inr (unscaled n (negsuc d) part some (omega (arith, ints)), unscaled n part (pos 0) some (omega (arith, ints)))

part : (n a : ℕ) (part whole : ℤ) → 0 < n → a ≤ n → (pos n *ℤ part) ≡ (pos a *ℤ whole) → IsPart part whole
part n a s (pos d) some share same = part_up n a d s some share same
part n a s (negsuc d) some share same = part_down n a d s some share same

-- the share of the one at which a common point lies, by the cross products
pub share_of_one : (one other : Edge) (point : RationalPoint) (a b : ℕ) → IsAtShare one point a → IsAtShare other point b → (pos point.n *ℤ part_of_one one other) ≡ (pos a *ℤ whole one other)
share_of_one one other point a b first second =
    let n = pos point.n in
    let wx = other.x0 -ℤ one.x0 in
    let wy = other.y0 -ℤ one.y0 in
    let ux = one.x1 -ℤ one.x0 in
    let uy = one.y1 -ℤ one.y0 in
    let vx = other.x1 -ℤ other.x0 in
    let vy = other.y1 -ℤ other.y0 in
    let x = between point.n a b one.x0 ux other.x0 vx (sym first.x ∙ second.x) in
    let y = between point.n a b one.y0 uy other.y0 vy (sym first.y ∙ second.y) in
    sym (cross_scaled n wx wy vx vy) ∙ crossed (pos a) (pos b) (n *ℤ wx) (n *ℤ wy) ux uy vx vy x y

-- edges that meet have parts
pub parts_of_meet : (one other : Edge) → Meet one other → IsPart (part_of_one one other) (whole one other) × IsPart (part_of_other one other) (whole one other)
parts_of_meet one other (point, (a, first), (b, second)) =
    let n = pos point.n in
    let wx = other.x0 -ℤ one.x0 in
    let wy = other.y0 -ℤ one.y0 in
    let ux = one.x1 -ℤ one.x0 in
    let uy = one.y1 -ℤ one.y0 in
    let vx = other.x1 -ℤ other.x0 in
    let vy = other.y1 -ℤ other.y0 in
    let x = between point.n a b one.x0 ux other.x0 vx (sym first.x ∙ second.x) in
    let y = between point.n a b one.y0 uy other.y0 vy (sym first.y ∙ second.y) in (
      part point.n a (cross wx wy vx vy) (cross ux uy vx vy) point.positive first.share (share_of_one one other point a b first second),
      part point.n b (cross wx wy ux uy) (cross ux uy vx vy) point.positive second.share (sym (cross_scaled n wx wy ux uy) ∙ crossed_back (pos a) (pos b) (n *ℤ wx) (n *ℤ wy) ux uy vx vy x y),
    )

-- ---- from the parts to a common point

-- Shares of two ways that lead to one point, n times each.
record Shares (wx wy ux uy vx vy : ℤ) : Type 0 where
  n : ℕ
  a : ℕ
  b : ℕ
  positive : 0 < n
  first : a ≤ n
  second : b ≤ n
  x : (pos n *ℤ wx) ≡ ((pos a *ℤ ux) -ℤ (pos b *ℤ vx))
  y : (pos n *ℤ wy) ≡ ((pos a *ℤ uy) -ℤ (pos b *ℤ vy))

-- the way between the starts, by the two ways: Cramer's rule
cramer : (wx wy ux uy vx vy : ℤ) → (cross ux uy vx vy *ℤ wx) ≡ ((cross wx wy vx vy *ℤ ux) -ℤ (cross wx wy ux uy *ℤ vx))
cramer wx wy ux uy vx vy =
    identity (times (crossing ux uy vx vy) (number wx)) (minus (times (crossing wx wy vx vy) (number ux)) (times (crossing wx wy ux uy) (number vx))) (omega arith)

cramer_y : (wx wy ux uy vx vy : ℤ) → (cross ux uy vx vy *ℤ wy) ≡ ((cross wx wy vx vy *ℤ uy) -ℤ (cross wx wy ux uy *ℤ vy))
cramer_y wx wy ux uy vx vy =
    identity (times (crossing ux uy vx vy) (number wy)) (minus (times (crossing wx wy vx vy) (number uy)) (times (crossing wx wy ux uy) (number vy))) (omega arith)

-- the same with all three turned round
negated : (d s t w u v : ℤ) → (d *ℤ w) ≡ ((s *ℤ u) -ℤ (t *ℤ v)) → ((pos 0 -ℤ d) *ℤ w) ≡ (((pos 0 -ℤ s) *ℤ u) -ℤ ((pos 0 -ℤ t) *ℤ v))
negated d s t w u v same =
    let fact = same_of (times (number d) (number w)) (minus (times (number s) (number u)) (times (number t) (number v))) same in
    let less_than_none : ℤ → Term = λ z. minus (number (pos 0)) (number z) in
    identity (times (less_than_none d) (number w)) (minus (times (less_than_none s) (number u)) (times (less_than_none t) (number v))) (omega (arith, fact))

shares_up : (d s t wx wy ux uy vx vy : ℤ) → pos 0 <ℤ d → pos 0 ≤ℤ s → s ≤ℤ d → pos 0 ≤ℤ t → t ≤ℤ d → (d *ℤ wx) ≡ ((s *ℤ ux) -ℤ (t *ℤ vx)) → (d *ℤ wy) ≡ ((s *ℤ uy) -ℤ (t *ℤ vy)) → Shares wx wy ux uy vx vy
shares_up (pos n) (pos a) (pos b) wx wy ux uy vx vy some above upto other_above other_upto x y = record {
  n = n;
  a = a;
  b = b;
  positive = omega (arith, ints);
  first = omega (arith, ints);
  second = omega (arith, ints);
  x = x;
  y = y;
}
shares_up (pos n) (pos a) (negsuc b) wx wy ux uy vx vy some above upto other_above other_upto x y = absurd (omega (arith, ints))
shares_up (pos n) (negsuc a) t wx wy ux uy vx vy some above upto other_above other_upto x y = absurd (omega (arith, ints))
shares_up (negsuc n) s t wx wy ux uy vx vy some above upto other_above other_upto x y = absurd (omega (arith, ints))

shares_of : (d s t wx wy ux uy vx vy : ℤ) → d ≢ pos 0 → IsPart s d → IsPart t d → (d *ℤ wx) ≡ ((s *ℤ ux) -ℤ (t *ℤ vx)) → (d *ℤ wy) ≡ ((s *ℤ uy) -ℤ (t *ℤ vy)) → Shares wx wy ux uy vx vy
shares_of d s t wx wy ux uy vx vy apart first second x y =
    by_lt_z (pos 0) d (λ upwards. shares_up d s t wx wy ux uy vx vy upwards (omega (arith, ints)) (omega (arith, ints)) (omega (arith, ints)) (omega (arith, ints)) x y)
    (λ downwards. shares_up (pos 0 -ℤ d) (pos 0 -ℤ s) (pos 0 -ℤ t) wx wy ux uy vx vy (omega (arith, ints)) (omega (arith, ints)) (omega (arith, ints)) (omega (arith, ints)) (omega (arith, ints)) (negated d s t wx ux vx x) (negated d s t wy uy vy y))

-- the point that lies a of n parts of the one way lies b of them of the other way
arrives : (n a b : ℕ) (start way other_start other_way : ℤ) → (pos n *ℤ (other_start -ℤ start)) ≡ ((pos a *ℤ way) -ℤ (pos b *ℤ other_way)) → ((pos n *ℤ start) +ℤ (pos a *ℤ way)) ≡ ((pos n *ℤ other_start) +ℤ (pos b *ℤ other_way))
arrives n a b start way other_start other_way same =
    let count : ℕ → Term = λ k. number (pos k) in
    let fact = same_of (times (count n) (minus (number other_start) (number start))) (minus (times (count a) (number way)) (times (count b) (number other_way))) same in
    identity (plus (times (count n) (number start)) (times (count a) (number way))) (plus (times (count n) (number other_start)) (times (count b) (number other_way))) (omega (arith, fact))

-- edges whose ways aren't parallel meet where both have parts
pub meet-of_parts : (one other : Edge) → whole one other ≢ pos 0 → IsPart (part_of_one one other) (whole one other) → IsPart (part_of_other one other) (whole one other) → Meet one other
meet-of_parts one other apart first second =
    let wx = other.x0 -ℤ one.x0 in
    let wy = other.y0 -ℤ one.y0 in
    let ux = one.x1 -ℤ one.x0 in
    let uy = one.y1 -ℤ one.y0 in
    let vx = other.x1 -ℤ other.x0 in
    let vy = other.y1 -ℤ other.y0 in
    let found = shares_of (cross ux uy vx vy) (cross wx wy vx vy) (cross wx wy ux uy) wx wy ux uy vx vy apart first second (cramer wx wy ux uy vx vy) (cramer_y wx wy ux uy vx vy) in
    let point : RationalPoint = record {
      n = found.n;
      x = (pos found.n *ℤ one.x0) +ℤ (pos found.a *ℤ ux);
      y = (pos found.n *ℤ one.y0) +ℤ (pos found.a *ℤ uy);
      positive = found.positive;
    } in
    let of_one : IsOf one point = (found.a, record { share = found.first; x = refl; y = refl }) in
    let of_other : IsOf other point = (
      found.b,
      record {
        share = found.second;
        x = arrives found.n found.a found.b one.x0 ux other.x0 vx found.x;
        y = arrives found.n found.a found.b one.y0 uy other.y0 vy found.y;
      },
    ) in
    (point, of_one, of_other)
