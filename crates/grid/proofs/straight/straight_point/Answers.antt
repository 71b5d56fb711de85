use Rattle.std.proofs.Common.{◌≡◌, ◌<◌, ◌^◌, ◌+ℤ◌, ℕ, w32, w64, to_z, of_z, arith, ap, FitsSigned}
use Rattle.std.proofs.lemmas.Int.{ints}
use Rattle.std.proofs.lemmas.Nat.{le_or_l, le_or_r}
use Rattle.grid.specs.Doubles.{in_leasts}
use Rattle.grid.specs.Grid.{unit_of}
use Rattle.grid.proofs.NearestLemmas.{IsNearest-same}
use Rattle.grid.proofs.straight.straight_point.Goals as goal

pub overflow_cast-result : goal.overflow_cast-result
overflow_cast-result c =
    let fits : FitsSigned w32 c.reach-x.result.units = c.reach-x.ensures.fits (omega (arith, le_or_l c.reach-x.result.beyond c.reach-y.result.beyond)) in
    omega (arith, ints, fits)

pub overflow_cast-result-2 : goal.overflow_cast-result-2
overflow_cast-result-2 c =
    let fits : FitsSigned w32 c.reach-y.result.units = c.reach-y.ensures.fits (omega (arith, le_or_r c.reach-x.result.beyond c.reach-y.result.beyond)) in
    omega (arith, ints, fits)

pub returns : goal.returns
returns c =
    let x_few : c.reach-x.result.beyond < 2 ^ 32 = omega (arith, le_or_l c.reach-x.result.beyond c.reach-y.result.beyond) in
    let y_few : c.reach-y.result.beyond < 2 ^ 32 = omega (arith, le_or_r c.reach-x.result.beyond c.reach-y.result.beyond) in
    let x = c.reach-x.result.units in
    let y = c.reach-y.result.units in
    let x_fits : FitsSigned w32 x = c.reach-x.ensures.fits x_few in
    let y_fits : FitsSigned w32 y = c.reach-y.ensures.fits y_few in
    let x0 = c.args.grid.now.x in
    let y0 = c.args.grid.now.y in
    let x_same : x +ℤ to_z w64 (of_z w64 x0) ≡ to_z w32 (of_z w32 (to_z w64 (of_z w64 x))) +ℤ x0 = omega (arith, ints, c.requires.x, x_fits) in
    let y_same : y +ℤ to_z w64 (of_z w64 y0) ≡ to_z w32 (of_z w32 (to_z w64 (of_z w64 y))) +ℤ y0 = omega (arith, ints, c.requires.y, y_fits) in
    let unit = ap (λ (n : ℕ). 2 ^ n) c.scale_of-scale.ensures.value in
    record {
      finite = record { x = c.reach-x.ensures.finite x_few; y = c.reach-y.ensures.finite y_few };
      nearest = record {
        x = IsNearest-same (2 ^ c.scale_of-scale.result) (unit_of c.args.grid.now) (in_leasts c.args.position.x) _ _ unit x_same (c.reach-x.ensures.nearest x_few);
        y = IsNearest-same (2 ^ c.scale_of-scale.result) (unit_of c.args.grid.now) (in_leasts c.args.position.y) _ _ unit y_same (c.reach-y.ensures.nearest y_few);
      };
    }
