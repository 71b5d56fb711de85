use Rattle.std.proofs.Common.{◌≡◌, ◌^◌, ◌*ℤ◌, refl, arith, FitsSigned}
use Rattle.std.specs.Int.{w128}
use Rattle.std.proofs.lemmas.Int.{ints, to_z-of_z}
use Rattle.plane.specs.Meet.Crosses.{IsWithin}
use Rattle.plane.proofs.MeetLemmas.Identities.{IsWithin-product}
use Rattle.offset.proofs.mitres.product.Goals as goal

pub returns : goal.returns
returns c =
    let within : IsWithin (2 ^ 104) (c.args.one *ℤ c.args.other) = IsWithin-product c.args.one c.args.other (2 ^ 72) (2 ^ 32) c.requires.one c.requires.other in
    let from = within.from in
    let upto = within.upto in
    let one : FitsSigned w128 c.args.one = c.ranges.one in
    let other : FitsSigned w128 c.args.other = c.ranges.other in
    let wide : FitsSigned w128 (c.args.one *ℤ c.args.other) = omega (arith, ints, from, upto) in
    let is : (c.args.one *ℤ c.args.other) ≡ (c.args.one *ℤ c.args.other) = refl in record {
      value = simp to_z-of_z is;
      within = simp to_z-of_z within;
    }
