use Rattle.std.proofs.Common.{arith}
use Rattle.std.proofs.lemmas.Int.{ints}
use Rattle.uses.proofs.points_in_rectangles.points_in_rectangles.Goals as goal

-- a point that lies in a rectangle is a box that meets it
pub pairs_between-requires : goal.pairs_between-requires
pairs_between-requires c = record {
  proper = λ it. record { wide = it.wide; tall = it.tall };
  other_proper = λ spot. record { wide = omega (arith, ints); tall = omega (arith, ints) };
  near = λ it spot inside. record { left = inside.0.above; right = inside.0.below; low = inside.1.above; high = inside.1.below };
}
