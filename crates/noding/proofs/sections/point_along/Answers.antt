use Rattle.std.proofs.Common.{◌<◌, ◌^◌, ℕ, rules, w32, to_z, ℤ, pos, ◌+ℤ◌, ◌-ℤ◌, ◌*ℤ◌, FitsSigned, subst, sym, arith}
use Rattle.std.specs.Int.{w128}
use Rattle.std.specs.Int.RustNames.{unsigned_abs}
use Rattle.std.proofs.lemmas.Int.{to_z-of_z, to_z_pos}
use Rattle.noding.specs.Rounding.{RoundsOn}
use Rattle.noding.proofs.sections.point_along.Goals as goal

-- the parts are numbers of 64 bits
part_on : (all part : ℕ) (from to r : ℤ) → all < 2 ^ 64 → part < 2 ^ 64 → RoundsOn (unsigned_abs (to_z w128 all)) ((to_z w128 all *ℤ from) +ℤ (to_z w128 part *ℤ (to -ℤ from))) r
    → RoundsOn all ((pos all *ℤ from) +ℤ (pos part *ℤ (to -ℤ from))) r
part_on all part from to r all_fits part_fits rounds =
    subst (λ (b : ℤ). RoundsOn all ((pos all *ℤ from) +ℤ (b *ℤ (to -ℤ from))) r) (to_z_pos w128 part (omega (arith, part_fits)))
    (subst (λ (a : ℤ). RoundsOn (unsigned_abs a) ((a *ℤ from) +ℤ (to_z w128 part *ℤ (to -ℤ from))) r) (to_z_pos w128 all (omega (arith, all_fits))) rounds)

pub returns : goal.returns
returns c =
    let edge = c.args.edge in
    let all = c.args.all in
    let part = c.args.part in
    let x0 : FitsSigned w32 c.args.edge.x0 = search rules in
    let y0 : FitsSigned w32 c.args.edge.y0 = search rules in
    let x1 : FitsSigned w32 c.args.edge.x1 = search rules in
    let y1 : FitsSigned w32 c.args.edge.y1 = search rules in
    let x : FitsSigned w32 c.round_mean.result = search rules in
    let y : FitsSigned w32 c.round_mean-2.result = search rules in
    let all_fits : all < 2 ^ 64 = search rules in
    let part_fits : part < 2 ^ 64 = search rules in
    let across = part_on all part edge.x0 edge.x1 c.round_mean.result all_fits part_fits (simp to_z-of_z at c.round_mean.ensures) in
    let up = part_on all part edge.y0 edge.y1 c.round_mean-2.result all_fits part_fits (simp to_z-of_z at c.round_mean-2.ensures) in
    record {
      along_x = subst (λ (z : ℤ). RoundsOn all ((pos all *ℤ edge.x0) +ℤ (pos part *ℤ (edge.x1 -ℤ edge.x0))) z) (sym (to_z-of_z w32 c.round_mean.result x)) across;
      along_y = subst (λ (z : ℤ). RoundsOn all ((pos all *ℤ edge.y0) +ℤ (pos part *ℤ (edge.y1 -ℤ edge.y0))) z) (sym (to_z-of_z w32 c.round_mean-2.result y)) up;
    }
