use Rattle.std.proofs.Common.{◌≡◌, ◌∙◌, ◌+ℤ◌, ◌-ℤ◌, pos, unsigned_abs, FitsSigned, w32, w64, to_z, of_z, arith, rules}
use Rattle.std.proofs.lemmas.Int.{ints, to_z-of_z}
use Rattle.grid.proofs.fit.grid_of.Goals as goal

pub returns-clause-some : goal.returns-clause-some
returns-clause-some c =
    let x_fits : FitsSigned w64 c.in-Some.x = search rules in
    let y_fits : FitsSigned w64 c.in-Some-origin_of.y = search rules in
    let scale = c.args.scale in
    record {
      unit = let unit : unsigned_abs (to_z w32 (of_z w32 (to_z w32 scale -ℤ pos 1074)) +ℤ pos 1074) ≡ scale = omega (arith, ints, c.requires.normal, c.requires.upto) in unit;
      narrow_x = c.in-Some.ensures.narrow;
      narrow_y = c.in-Some-origin_of.ensures.narrow;
      x = λ a b least greatest. to_z-of_z w64 c.in-Some.x x_fits ∙ c.in-Some.ensures.middle a b least greatest;
      y = λ a b least greatest. to_z-of_z w64 c.in-Some-origin_of.y y_fits ∙ c.in-Some-origin_of.ensures.middle a b least greatest;
    }
