-- What edges count for a point.
use Rattle.std.proofs.Common.{Bool, List, [], IsPermutation, ap, ap₂, arith, cond, false, pos, refl, true, ℤ, ◌&&◌, ◌*ℤ◌, ◌++◌, ◌+◌, ◌+ℤ◌, ◌-ℤ◌, ◌<ℤ◌, ◌∷◌, ◌≡◌, ◌≤ℤ◌}
use Rattle.std.proofs.lemmas.Int.{ints}
use Rattle.std.proofs.lemmas.List.Sums.{sum_by-append, sum_by-cons}
use Rattle.std.proofs.lemmas.List.Sorted.{sum_by-IsPermutation}
use Rattle.std.specs.List.{count_by}
use Rattle.std.specs.Prelude.{int_le, int_lt}
use Rattle.plane.specs.declared.edge.Edge.{Edge}
use Rattle.plane.specs.Meet.Edges.{RationalPoint}
use Rattle.plane.specs.Ends.{reversed}
use Rattle.noding.specs.Windings.{is_under, winding, count}
use Rattle.noding.proofs.SnapLemmas.Counted.{added, counted, covers, is_low, is_low-left, under}
use Rattle.noding.proofs.SnapLemmas.Heights.{Covering}
use Rattle.plane.proofs.MeetLemmas.Identities.{scaled}

-- 1 or 0, as a natural number
pub count-pos : (test : Bool) → count test ≡ pos (cond test 1 0)
count-pos true = refl
count-pos false = refl

-- what goes rightwards and is under the point is counted, by its height there
counted-is : (edge : Edge) (point : RationalPoint) → count (is_under edge point) ≡ counted edge point
counted-is edge point = ap (λ low. count (covers edge point && low)) (is_low-left edge point)

-- a winding number is what the edges count, one after another
pub winding-added : (edges : List Edge) (point : RationalPoint) → winding edges point ≡ added edges point
winding-added [] point = refl
winding-added (edge ∷ edges) point =
    let first : count_by (λ e. is_under e point) (edge ∷ edges) ≡ cond (is_under edge point) 1 0 + count_by (λ e. is_under e point) edges = sum_by-cons (λ (e : Edge). cond (is_under e point) 1 0) edge edges in
    let second : count_by (λ e. is_under (reversed e) point) (edge ∷ edges) ≡ cond (is_under (reversed edge) point) 1 0 + count_by (λ e. is_under (reversed e) point) edges =
    sum_by-cons (λ (e : Edge). cond (is_under (reversed e) point) 1 0) edge edges in
    let right = counted-is edge point in
    let left = counted-is (reversed edge) point in
    let one = count-pos (is_under edge point) in
    let other = count-pos (is_under (reversed edge) point) in
    let rest = winding-added edges point in
    omega (arith, ints, first, second, right, left, one, other, rest)

-- windings add up
pub winding-append : (xs ys : List Edge) (point : RationalPoint) → winding (xs ++ ys) point ≡ (winding xs point +ℤ winding ys point)
winding-append xs ys point =
    let first : count_by (λ e. is_under e point) (xs ++ ys) ≡ count_by (λ e. is_under e point) xs + count_by (λ e. is_under e point) ys = sum_by-append (λ (e : Edge). cond (is_under e point) 1 0) xs ys in
    let second : count_by (λ e. is_under (reversed e) point) (xs ++ ys) ≡ count_by (λ e. is_under (reversed e) point) xs + count_by (λ e. is_under (reversed e) point) ys =
    sum_by-append (λ (e : Edge). cond (is_under (reversed e) point) 1 0) xs ys in
    omega (arith, ints, first, second)

-- and stay, in whatever order
pub winding-permutation : (xs ys : List Edge) (point : RationalPoint) → IsPermutation xs ys → winding ys point ≡ winding xs point
winding-permutation xs ys point moved =
    let first : count_by (λ e. is_under e point) ys ≡ count_by (λ e. is_under e point) xs = sum_by-IsPermutation (λ (e : Edge). cond (is_under e point) 1 0) xs ys moved in
    let second : count_by (λ e. is_under (reversed e) point) ys ≡ count_by (λ e. is_under (reversed e) point) xs =
    sum_by-IsPermutation (λ (e : Edge). cond (is_under (reversed e) point) 1 0) xs ys moved in
    ap₂ (λ m n. pos m -ℤ pos n) first second

-- where the two tests can't both be true, nothing is counted
nothing : (a b c d : ℤ) (t : Bool) → (a ≤ℤ b → c <ℤ d → ⊥) → count ((int_le a b && int_lt c d) && t) ≡ pos 0
nothing a b c d t none = by (int_le a b) (int_lt c d) refl refl
  where
    by : (r s : Bool) → int_le a b ≡ r → int_lt c d ≡ s → count ((r && s) && t) ≡ pos 0
    by false s e f = refl
    by true false e f = refl
    by true true e f = absurd (none (omega (arith, ints, e)) (omega (arith, ints, f)))

-- where both are, the third one counts
something : (a b c d : ℤ) (t : Bool) → a ≤ℤ b → c <ℤ d → count ((int_le a b && int_lt c d) && t) ≡ count t
something a b c d t from before = by (int_le a b) (int_lt c d) refl refl
  where
    by : (r s : Bool) → int_le a b ≡ r → int_lt c d ≡ s → count ((r && s) && t) ≡ count t
    by true true e f = refl
    by false s e f = absurd (omega (arith, ints, e, from))
    by true false e f = absurd (omega (arith, ints, f, before))

-- an edge counts nothing for a point before it, behind it, or where it goes leftwards
pub before : (edge : Edge) (point : RationalPoint) → point.x <ℤ (pos point.n *ℤ edge.x0) → counted edge point ≡ pos 0
before edge point is = nothing (pos point.n *ℤ edge.x0) point.x point.x (pos point.n *ℤ edge.x1) (is_low edge point) (λ from upto. omega (arith, ints, is, from))

pub after : (edge : Edge) (point : RationalPoint) → (pos point.n *ℤ edge.x1) ≤ℤ point.x → counted edge point ≡ pos 0
after edge point is = nothing (pos point.n *ℤ edge.x0) point.x point.x (pos point.n *ℤ edge.x1) (is_low edge point) (λ from upto. omega (arith, ints, is, upto))

pub back : (edge : Edge) (point : RationalPoint) → edge.x1 ≤ℤ edge.x0 → counted edge point ≡ pos 0
back edge point is =
    let there = scaled point.n edge.x1 edge.x0 is in
    nothing (pos point.n *ℤ edge.x0) point.x point.x (pos point.n *ℤ edge.x1) (is_low edge point) (λ from upto. omega (arith, ints, there, from, upto))

-- and for one that it covers, by its height
pub within : (edge : Edge) (point : RationalPoint) → Covering edge point → counted edge point ≡ count (is_low edge point)
within edge point c = something (pos point.n *ℤ edge.x0) point.x point.x (pos point.n *ℤ edge.x1) (is_low edge point) c.from c.before

-- an edge that doesn't go leftwards counts as it is, one that doesn't go rightwards as the reversed one, less
pub under-right : (edge : Edge) (point : RationalPoint) → edge.x0 ≤ℤ edge.x1 → under edge point ≡ counted edge point
under-right edge point onwards = let none = back (reversed edge) point onwards in omega (arith, ints, none)

pub under-left : (edge : Edge) (point : RationalPoint) → edge.x1 ≤ℤ edge.x0 → under edge point ≡ (pos 0 -ℤ counted (reversed edge) point)
under-left edge point onwards = let none = back edge point onwards in omega (arith, ints, none)
