use Rattle.std.proofs.Common.{◌≡◌, ◌∙◌, ℤ, pos, ◌-ℤ◌, ap, ap₂, rules, to_z, of_z, w8}
use Rattle.overlay.specs.declared.boundary.lines.Place.{Place}
use Rattle.overlay.specs.Lines.{change_at}
use Rattle.overlay.proofs.boundary.lines.run_end.Goals as goal

pub returns : goal.returns
returns c =
    let run = c.args.run in
    let operand = c.args.operand in
    let small = c.requires in
    let a : to_z w8 (of_z w8 (pos 0 -ℤ to_z w8 (of_z w8 run.count))) ≡ (pos 0 -ℤ run.count) = search rules in
    let b : to_z w8 (of_z w8 (pos 0 -ℤ to_z w8 (of_z w8 run.weight))) ≡ (pos 0 -ℤ run.weight) = search rules in
    c.change_at.ensures
    ∙ ap₂ (λ (count weight : ℤ). change_at operand c.end_place.result count weight) a b
    ∙ ap (λ (place : Place). change_at operand place (pos 0 -ℤ run.count) (pos 0 -ℤ run.weight)) c.end_place.ensures
