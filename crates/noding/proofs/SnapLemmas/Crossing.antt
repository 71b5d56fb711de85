-- The common point of two edges that aren't parallel: by Cramer's rule, rounded.
use Rattle.std.proofs.Common.{FitsSigned, MatchOption, None, Option, Some, ap, arith, inl, inr, negsuc, pos, refl, subst, sym, w32, ℕ, ℤ, ◌*ℤ◌, ◌+ℤ◌, ◌-ℤ◌, ◌<ℤ◌, ◌<◌, ◌∙◌, ◌≡◌, ◌≢◌, ◌≤ℤ◌, ◌≤◌, ◌⊎◌}
use Rattle.std.proofs.lemmas.Int.{by_lt_z, ints}
use Rattle.std.specs.Int.RustNames.{unsigned_abs}
use Rattle.plane.specs.declared.edge.Edge.{Edge}
use Rattle.plane.specs.declared.point.Point.{Point}
use Rattle.plane.specs.Meet.Crosses.{IsPart, cross}
use Rattle.plane.specs.Meet.Edges.{IsAtShare, IsOf, Meet, RationalPoint}
use Rattle.noding.specs.Chains.{AreNotParallel, CrossAt, Passes, UptoOn}
use Rattle.noding.specs.Crossing.{HasParts, RoundsPart}
use Rattle.noding.specs.Rounding.{RoundsOn, RoundsTo}
use Rattle.noding.proofs.SnapLemmas.Along.{Upto-to_end, same_on, Upto-from_start, Upto-by_shares}
use Rattle.noding.proofs.SnapLemmas.Numbers.{n_of, share_same, side, way_from, cross-exchanged}
use Rattle.noding.proofs.SnapLemmas.Pieces.{left_of}
use Rattle.noding.proofs.SnapLemmas.Rounding.{RoundsOn-same}
use Rattle.plane.proofs.MeetLemmas.Identities.{identity, minus, number, plus, same_of, times}
use Rattle.plane.proofs.MeetLemmas.Shares.{meet-of_parts, part_of_one, part_of_other, parts_of_meet, share_of_one, whole}

record Between (from to c : ℤ) : Type 0 where
  first : UptoOn from to from c
  second : UptoOn from to c to

-- a rounded mean of two numbers is between them
mean_between : (n a : ℕ) (from to c : ℤ) → 0 < n → a ≤ n → RoundsOn n ((pos n *ℤ from) +ℤ (pos a *ℤ (to -ℤ from))) c → Between from to c
mean_between n a from to c some share rounds =
    let edge : Edge = record {
      x0 = from;
      y0 = from;
      x1 = to;
      y1 = to;
    } in
    let point : RationalPoint = record {
      n = n;
      x = (pos n *ℤ from) +ℤ (pos a *ℤ (to -ℤ from));
      y = (pos n *ℤ from) +ℤ (pos a *ℤ (to -ℤ from));
      positive = some;
    } in
    let of : IsOf edge point = (
      a,
      record {
        share = share;
        x = refl;
        y = refl;
      },
    ) in
    let passes : Passes edge c c = (point, of, record { along_x = rounds; along_y = rounds }) in record {
      first = (Upto-from_start edge c c passes).along_x;
      second = (Upto-to_end edge c c passes).along_x;
    }

fits_between : (from to c : ℤ) → Between from to c → FitsSigned w32 from → FitsSigned w32 to → FitsSigned w32 c
fits_between from to c between first second =
    by_lt_z from to
    (λ upwards.
    let above = between.first.rising (omega (arith, ints)) in
    let under = between.second.rising (omega (arith, ints)) in
    omega (arith, ints, above, under))
    (λ downwards.
    let under = between.first.falling downwards in
    let above = between.second.falling downwards in
    omega (arith, ints, above, under))

-- so it fits where they fit
pub mean-fits : (all first from to c : ℤ) → pos 0 <ℤ all → pos 0 ≤ℤ first → first ≤ℤ all → RoundsOn (unsigned_abs all) ((all *ℤ from) +ℤ (first *ℤ (to -ℤ from))) c → FitsSigned w32 from → FitsSigned w32 to → FitsSigned w32 c
mean-fits (pos n) (pos a) from to c some first_from first_upto rounds =
    fits_between from to c (mean_between n a from to c (omega (arith, ints, some)) (omega (arith, ints, first_upto)) rounds)
mean-fits (pos n) (negsuc a) from to c some first_from first_upto rounds = absurd (omega (arith, ints, first_from))
mean-fits (negsuc n) first from to c some first_from first_upto rounds = absurd (omega (arith, ints, some))

-- the same share over two wholes makes one number
same_rational : (m n a : ℕ) (s start way : ℤ) → (pos n *ℤ s) ≡ (pos a *ℤ pos m) → (pos m *ℤ ((pos n *ℤ start) +ℤ (pos a *ℤ way))) ≡ (pos n *ℤ ((pos m *ℤ start) +ℤ (s *ℤ way)))
same_rational m n a s start way same =
    let fact = same_of (times (times (n_of n) (number s)) (number way)) (times (times (n_of a) (n_of m)) (number way)) (ap (λ z. z *ℤ way) same) in
    identity (times (n_of m) (plus (times (n_of n) (number start)) (times (n_of a) (number way)))) (times (n_of n) (plus (times (n_of m) (number start)) (times (number s) (number way)))) (omega (arith, fact))

-- so it rounds to one whole number
rounds_at : (m n a : ℕ) (s start way p c : ℤ) → 0 < m → 0 < n → (pos n *ℤ s) ≡ (pos a *ℤ pos m) → p ≡ ((pos n *ℤ start) +ℤ (pos a *ℤ way)) → RoundsOn m ((pos m *ℤ start) +ℤ (s *ℤ way)) c → RoundsOn n p c
rounds_at m n a s start way p c some many same is rounds =
    subst (λ (z : ℤ). RoundsOn n z c) (sym is) (RoundsOn-same m n ((pos m *ℤ start) +ℤ (s *ℤ way)) ((pos n *ℤ start) +ℤ (pos a *ℤ way)) c some many (same_rational m n a s start way same) rounds)

-- ---- the share of a common point

-- what the share on the other edge is
pub share_by : (one other : Edge) (point : RationalPoint) (a b : ℕ) → IsAtShare one point a → IsAtShare other point b → (pos point.n *ℤ left_of one other.x0 other.y0) ≡ ((pos 0 -ℤ pos b) *ℤ (((one.x1 -ℤ one.x0) *ℤ (other.y1 -ℤ other.y0)) -ℤ ((one.y1 -ℤ one.y0) *ℤ (other.x1 -ℤ other.x0))))
share_by one other point a b first second =
    side point.n (pos a) (pos 0 -ℤ pos b) (one.x1 -ℤ one.x0) (one.y1 -ℤ one.y0) (other.x1 -ℤ other.x0) (other.y1 -ℤ other.y0) (other.x0 -ℤ one.x0) (other.y0 -ℤ one.y0)
    (way_from point.n a b point.x one.x0 one.x1 other.x0 other.x1 first.x second.x)
    (way_from point.n a b point.y one.y0 one.y1 other.y0 other.y1 first.y second.y)

-- ---- three numbers are three others, or these with their signs turned

-- the first three are the other three, or those with their signs turned
abbrev pub AreSigned : ℤ → ℤ → ℤ → ℤ → ℤ → ℤ → Type 0
AreSigned d s t all first second =
    (d ≡ all) × (s ≡ first) × (t ≡ second)
    ⊎ (d ≡ (pos 0 -ℤ all)) × (s ≡ (pos 0 -ℤ first)) × (t ≡ (pos 0 -ℤ second))

-- what `HasParts` says of these, of the three cross products
some_there : (d s t all first second : ℤ) → AreSigned d s t all first second → HasParts d s t → all ≢ pos 0
some_there d s t all first second (inl (x, y, z)) parts none = let some = parts.some in omega (arith, ints, x, none, some)
some_there d s t all first second (inr (x, y, z)) parts none = let some = parts.some in omega (arith, ints, x, none, some)

first_there : (d s t all first second : ℤ) → AreSigned d s t all first second → HasParts d s t → IsPart first all
first_there d s t all first second (inl (x, y, z)) parts =
    let from = parts.first_from in
    let upto = parts.first_upto in
    inl (omega (arith, ints, x, y, from, upto), omega (arith, ints, x, y, from, upto))
first_there d s t all first second (inr (x, y, z)) parts =
    let from = parts.first_from in
    let upto = parts.first_upto in
    inr (omega (arith, ints, x, y, from, upto), omega (arith, ints, x, y, from, upto))

second_there : (d s t all first second : ℤ) → AreSigned d s t all first second → HasParts d s t → IsPart second all
second_there d s t all first second (inl (x, y, z)) parts =
    let from = parts.second_from in
    let upto = parts.second_upto in
    inl (omega (arith, ints, x, z, from, upto), omega (arith, ints, x, z, from, upto))
second_there d s t all first second (inr (x, y, z)) parts =
    let from = parts.second_from in
    let upto = parts.second_upto in
    inr (omega (arith, ints, x, z, from, upto), omega (arith, ints, x, z, from, upto))

-- and back
parts_there : (d s t all first second : ℤ) → pos 0 ≤ℤ d → AreSigned d s t all first second → all ≢ pos 0 → IsPart first all → IsPart second all → HasParts d s t
parts_there d s t all first second above (inl (x, y, z)) some one other = record {
  some = omega (arith, ints, above, x, some);
  first_from = omega (arith, ints, above, x, y, one);
  first_upto = omega (arith, ints, above, x, y, one);
  second_from = omega (arith, ints, above, x, z, other);
  second_upto = omega (arith, ints, above, x, z, other);
}
parts_there d s t all first second above (inr (x, y, z)) some one other = record {
  some = omega (arith, ints, above, x, some);
  first_from = omega (arith, ints, above, x, y, one);
  first_upto = omega (arith, ints, above, x, y, one);
  second_from = omega (arith, ints, above, x, z, other);
  second_upto = omega (arith, ints, above, x, z, other);
}

-- a share is the same with the signs turned
share_signed : (n a : ℕ) (d s t all first second : ℤ) → AreSigned d s t all first second → (pos n *ℤ first) ≡ (pos a *ℤ all) → (pos n *ℤ s) ≡ (pos a *ℤ d)
share_signed n a d s t all first second (inl (x, y, z)) same = ap (λ k. pos n *ℤ k) y ∙ same ∙ ap (λ k. pos a *ℤ k) (sym x)
share_signed n a d s t all first second (inr (x, y, z)) same =
    let fact = same_of (times (n_of n) (number first)) (times (n_of a) (number all)) same in
    ap (λ k. pos n *ℤ k) y
    ∙ identity (times (n_of n) (minus (n_of 0) (number first))) (times (n_of a) (minus (n_of 0) (number all))) (omega (arith, fact))
    ∙ ap (λ k. pos a *ℤ k) (sym x)

-- ---- together

-- each common point rounds as the part of the one edge does
rounds_there : (one other : Edge) (d s t x y : ℤ) → AreSigned d s t (whole one other) (part_of_one one other) (part_of_other one other) → RoundsPart one d s t x y → (point : RationalPoint) → IsOf one point → IsOf other point → RoundsTo point x y
rounds_there one other (pos m) s t x y signed rounds point (a, first) (b, second) =
    let some = rounds.parts.some in
    let same = share_signed point.n a (pos m) s t (whole one other) (part_of_one one other) (part_of_other one other) signed (share_of_one one other point a b first second) in record {
      along_x = rounds_at m point.n a s one.x0 (one.x1 -ℤ one.x0) point.x x (omega (arith, ints, some)) point.positive same first.x rounds.along_x;
      along_y = rounds_at m point.n a s one.y0 (one.y1 -ℤ one.y0) point.y y (omega (arith, ints, some)) point.positive same first.y rounds.along_y;
    }
rounds_there one other (negsuc m) s t x y signed rounds point first second = let some = rounds.parts.some in absurd (omega (arith, ints, some))

cross_there : (one other : Edge) (d s t x y : ℤ) → AreSigned d s t (whole one other) (part_of_one one other) (part_of_other one other) → RoundsPart one d s t x y → AreNotParallel one other → Meet one other → CrossAt one other x y
cross_there one other d s t x y signed rounds slanted (point, of_one, of_other) =
    (slanted, (point, of_one, of_other, rounds_there one other d s t x y signed rounds point of_one of_other))

-- what the parts say of the crossing, with d not below 0
pub crossing_tested : (one other : Edge) (d s t : ℤ) (r : Option Point) → pos 0 ≤ℤ d → AreSigned d s t (whole one other) (part_of_one one other) (part_of_other one other) → MatchOption r (¬ (HasParts d s t)) (λ c. RoundsPart one d s t c.x c.y) → MatchOption r (¬ (AreNotParallel one other × Meet one other)) (λ c. CrossAt one other c.x c.y)
crossing_tested one other d s t None above signed test = λ both.
    let parts = parts_of_meet one other both.1 in
    test (parts_there d s t (whole one other) (part_of_one one other) (part_of_other one other) above signed both.0 parts.0 parts.1)
crossing_tested one other d s t (Some c) above signed test =
    let slanted = some_there d s t (whole one other) (part_of_one one other) (part_of_other one other) signed test.parts in
    cross_there one other d s t c.x c.y signed test slanted
    (meet-of_parts one other slanted (first_there d s t (whole one other) (part_of_one one other) (part_of_other one other) signed test.parts) (second_there d s t (whole one other) (part_of_one one other) (part_of_other one other) signed test.parts))

-- ---- all common points round to one whole point

-- the share of a common point is one, so all of them are one point
pub crossing-rounds : (one other : Edge) (p q : RationalPoint) (x y other_x other_y : ℤ) → AreNotParallel one other → IsOf one p → IsOf other p → IsOf one q → IsOf other q → RoundsTo p x y → RoundsTo q other_x other_y → (x ≡ other_x) × (y ≡ other_y)
crossing-rounds one other p q x y other_x other_y apart (a, first) (b, second) (c, third) (d, fourth) rounds other_rounds =
    let cross = ((one.x1 -ℤ one.x0) *ℤ (other.y1 -ℤ other.y0)) -ℤ ((one.y1 -ℤ one.y0) *ℤ (other.x1 -ℤ other.x0)) in
    let same = share_same p.n q.n b d (left_of one other.x0 other.y0) cross (share_by one other p a b first second) (share_by one other q c d third fourth) apart in
    let there = Upto-by_shares other x y other_x other_y p q b d second fourth rounds other_rounds (omega (arith, same)) in
    let back = Upto-by_shares other other_x other_y x y q p d b fourth second other_rounds rounds (omega (arith, same)) in (
      same_on other.x0 other.x1 x other_x there.along_x back.along_x,
      same_on other.y0 other.y1 y other_y there.along_y back.along_y,
    )

-- two edges cross at one whole point
pub CrossAt-unique : (one other : Edge) (x y other_x other_y : ℤ) → CrossAt one other x y → CrossAt one other other_x other_y → (x ≡ other_x) × (y ≡ other_y)
CrossAt-unique one other x y other_x other_y (slanted, (p, of_one, of_other, rounds)) (_, (q, of_one_too, of_other_too, other_rounds)) =
    crossing-rounds one other p q x y other_x other_y slanted of_one of_other of_one_too of_other_too rounds other_rounds

-- ---- the other edge first, and an edge and itself

not_parallel_back : (ux uy vx vy : ℤ) → cross ux uy vx vy ≢ pos 0 → cross vx vy ux uy ≢ pos 0
not_parallel_back ux uy vx vy some none = let back = cross-exchanged ux uy vx vy in some (omega (arith, ints, back, none))

-- whichever is named first
pub CrossAt-exchanged : (one other : Edge) (x y : ℤ) → CrossAt one other x y → CrossAt other one x y
CrossAt-exchanged one other x y (slanted, (point, of_one, of_other, rounds)) = (
  not_parallel_back (one.x1 -ℤ one.x0) (one.y1 -ℤ one.y0) (other.x1 -ℤ other.x0) (other.y1 -ℤ other.y0) slanted,
  (point, of_other, of_one, rounds),
)

cross_itself : (ux uy : ℤ) → cross ux uy ux uy ≡ pos 0
cross_itself ux uy = identity (minus (times (number ux) (number uy)) (times (number uy) (number ux))) (n_of 0) (omega arith)

-- an edge is parallel to itself
pub CrossAt-itself : (edge : Edge) (x y : ℤ) → ¬ (CrossAt edge edge x y)
CrossAt-itself edge x y (slanted, crossing) = slanted (cross_itself (edge.x1 -ℤ edge.x0) (edge.y1 -ℤ edge.y0))
