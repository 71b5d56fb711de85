-- Where positions lie.
use Rattle.std.proofs.Common.{ℕ, ◌+◌, ◌*◌, ◌≤◌, ◌<◌, arith}
use Rattle.std.proofs.Math.Nat.{mul-le-mul_right}

-- A position of a ring lies where the ring does.
pub lies : (start count stride index size : ℕ) → start + count * stride ≤ size → 16 ≤ stride → index < count → start + index * stride + 16 ≤ size
lies start count stride index size within wide below =
    let more : index + 1 ≤ count = omega arith in
    let product : (index + 1) * stride ≤ count * stride = mul-le-mul_right stride more in
    omega (arith, product)
