use Rattle.std.proofs.Common.{arith}
use Rattle.std.proofs.lemmas.Int.{ints, to_z-of_z}
use Rattle.layers.proofs.around.extents.grown.Goals as goal

pub returns-clause-point : goal.returns-clause-point
returns-clause-point c = record {
  left = grind (arith, ints, to_z-of_z);
  right = grind (arith, ints, to_z-of_z);
  low = grind (arith, ints, to_z-of_z);
  high = grind (arith, ints, to_z-of_z);
}
