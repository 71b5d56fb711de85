use Rattle.std.proofs.Common.{◌≡◌, arith, w32, pos, ◌-ℤ◌, ◌+ℤ◌, to_z, of_z}
use Rattle.std.proofs.lemmas.Int.{ints}
use Rattle.tiles.proofs.window.Window.widened.Goals as goal

pub returns-clause-ok : goal.returns-clause-ok
returns-clause-ok c =
    let a : to_z w32 (of_z w32 (to_z w32 (of_z w32 c.args.self.left) -ℤ pos 2)) ≡ c.args.self.left -ℤ pos 2 = omega (arith, ints) in
    let b : to_z w32 (of_z w32 (to_z w32 (of_z w32 c.args.self.low) -ℤ pos 2)) ≡ c.args.self.low -ℤ pos 2 = omega (arith, ints) in
    let d : to_z w32 (of_z w32 (to_z w32 (of_z w32 c.args.self.right) +ℤ pos 2)) ≡ c.args.self.right +ℤ pos 2 = omega (arith, ints) in
    let e : to_z w32 (of_z w32 (to_z w32 (of_z w32 c.args.self.high) +ℤ pos 2)) ≡ c.args.self.high +ℤ pos 2 = omega (arith, ints) in (
      (cc),
      record {
        some = record { wide = omega (arith, ints); tall = omega (arith, ints) };
        margin = record { left = omega (arith, ints); low = omega (arith, ints); right = omega (arith, ints); high = omega (arith, ints) };
      },
    )
