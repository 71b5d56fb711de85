use Rattle.std.proofs.Common.{◌≡◌, ◌+◌, ◌-◌, ◌*◌, ◌^◌, ◌<◌, ◌≤◌, ◌⊎◌, inl, inr, ℕ, arith, subst, sym}
use Rattle.std.proofs.lemmas.Bool.{cases_lt}
use Rattle.std.proofs.lemmas.Int.{ints}
use Rattle.offset.proofs.CircleLemmas.{root-most, square-most}
use Rattle.offset.proofs.angular.half_side.Goals as goal

-- the root isn't below the radius
from-radius : (radius root : ℕ) → 2 * (radius * radius) < (root + 1) * (root + 1) → radius ≤ root
from-radius radius root below = by (cases_lt root radius)
  where
    by : (root < radius) ⊎ (radius ≤ root) → radius ≤ root
    by (inl less) = absurd (let squares = square-most (root + 1) radius (omega (arith, less)) in omega (arith, squares, below))
    by (inr from) = from

pub returns : goal.returns
returns c =
    let radius = c.args.radius in
    let root = c.isqrt.result in
    let square_le = c.isqrt.ensures.square_le in
    let next_square_gt = c.isqrt.ensures.next_square_gt in
    let from : radius ≤ root = from-radius radius root next_square_gt in
    let twice : root ≤ 2 * radius = root-most root (2 * radius) (let four : 2 * (radius * radius) ≤ (2 * radius) * (2 * radius) = omega arith in omega (arith, square_le, four)) in
    let small : root - radius < 2 ^ 31 = (let bound = c.requires in omega (arith, twice, bound)) in
    let sum : radius + (root - radius) ≡ root = omega (arith, from) in (
      root - radius,
      record {
        from = subst (λ (n : ℕ). n * n ≤ 2 * (radius * radius)) (sym sum) square_le;
        below = subst (λ (n : ℕ). 2 * (radius * radius) < (n + 1) * (n + 1)) (sym sum) next_square_gt;
      },
      omega (arith, ints, small),
    )
