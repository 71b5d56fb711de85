use Rattle.std.proofs.Common.{◌≡◌, ◌^◌, ◌+ℤ◌, ℕ, FitsSigned, w32, w64, to_z, of_z, arith, ap, sym, rules}
use Rattle.std.proofs.lemmas.Int.{ints}
use Rattle.grid.specs.Doubles.{in_leasts}
use Rattle.grid.specs.Grid.{unit_of}
use Rattle.grid.proofs.NearestLemmas.{IsNearest-same}
use Rattle.grid.proofs.units.nearest_point.Goals as goal

pub returns-in_default-nearest-clause-none : goal.returns-in_default-nearest-clause-none
returns-in_default-nearest-clause-none c = λ point fits near.
    let y = c.args.grid.now.y in
    let origin : point.y +ℤ y ≡ point.y +ℤ to_z w64 (of_z w64 y) = omega (arith, ints, c.requires.y) in
    c.in_default-nearest.ensures.none point.y fits.y
    (IsNearest-same (unit_of c.args.grid.now) (2 ^ c.scale_of-scale.result) (in_leasts c.args.position.y) (point.y +ℤ y) (point.y +ℤ to_z w64 (of_z w64 y)) (ap (λ (n : ℕ). 2 ^ n) (sym c.scale_of-scale.ensures.value)) origin near.y)

pub returns-clause-nearest : goal.returns-clause-nearest
returns-clause-nearest c =
    let x = c.in-Some.x in
    let y = c.in-Some-nearest.y in
    let x_fits : FitsSigned w32 x = search rules in
    let y_fits : FitsSigned w32 y = search rules in
    let x0 = c.args.grid.now.x in
    let y0 = c.args.grid.now.y in
    let x_same : x +ℤ to_z w64 (of_z w64 x0) ≡ to_z w32 (of_z w32 x) +ℤ x0 = omega (arith, ints, c.requires.x, x_fits) in
    let y_same : y +ℤ to_z w64 (of_z w64 y0) ≡ to_z w32 (of_z w32 y) +ℤ y0 = omega (arith, ints, c.requires.y, y_fits) in
    let unit = ap (λ (n : ℕ). 2 ^ n) c.scale_of-scale.ensures.value in
    record {
      x = IsNearest-same (2 ^ c.scale_of-scale.result) (unit_of c.args.grid.now) (in_leasts c.args.position.x) (x +ℤ to_z w64 (of_z w64 x0)) (to_z w32 (of_z w32 x) +ℤ x0) unit x_same c.in-Some.ensures.nearest;
      y = IsNearest-same (2 ^ c.scale_of-scale.result) (unit_of c.args.grid.now) (in_leasts c.args.position.y) (y +ℤ to_z w64 (of_z w64 y0)) (to_z w32 (of_z w32 y) +ℤ y0) unit y_same c.in-Some-nearest.ensures.nearest;
    }
