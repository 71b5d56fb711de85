use Rattle.std.proofs.Common.{◌≡◌, ◌∙◌, ℤ, ap, ap₂, rules, to_z, of_z, w8}
use Rattle.overlay.specs.declared.boundary.lines.Place.{Place}
use Rattle.overlay.specs.Lines.{change_at}
use Rattle.overlay.proofs.boundary.lines.run_start.Goals as goal

pub returns : goal.returns
returns c =
    let run = c.args.run in
    let operand = c.args.operand in
    let a : to_z w8 (of_z w8 run.count) ≡ run.count = search rules in
    let b : to_z w8 (of_z w8 run.weight) ≡ run.weight = search rules in
    c.change_at.ensures
    ∙ ap₂ (λ (count weight : ℤ). change_at operand c.start_place.result count weight) a b
    ∙ ap (λ (place : Place). change_at operand place run.count run.weight) c.start_place.ensures
