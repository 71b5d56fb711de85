use Rattle.std.proofs.Common.{◌≡◌, ◌∙◌, ℤ, pos, ◌+ℤ◌, ◌<ℤ◌, FitsSigned, ap₂, arith, rules, sym, subst, to_z, of_z, w8, w64}
use Rattle.std.proofs.lemmas.Int.{ints, to_z-of_z}
use Rattle.plane.specs.declared.edge.Edge.{Edge}
use Rattle.overlay.specs.declared.boundary.lines.Run.{Run}
use Rattle.overlay.specs.Lines.{IsSmallRun}
use Rattle.overlay.specs.Fill.Pieces.{weight}
use Rattle.overlay.proofs.FillLemmas.Small.{unit_weight}
use Rattle.overlay.proofs.boundary.lines.longer.Goals as goal

-- a small run has room for the weight of one edge more
fits : (run : Run) (edge : Edge) → IsSmallRun run → run.count <ℤ pos 127 → FitsSigned w8 (run.weight +ℤ weight edge)
fits run edge small room =
    let unit = unit_weight edge in
    let from = unit.from in
    let upto = unit.upto in
    let least = small.weight_from in
    let most = small.weight_upto in
    omega (arith, ints, from, upto, least, most, room)

pub overflow_add-result-2 : goal.overflow_add-result-2
overflow_add-result-2 c =
    let a : to_z w8 (of_z w8 c.args.run.weight) ≡ c.args.run.weight = search rules in
    let b : to_z w8 (of_z w8 c.small.result) ≡ c.small.result = search rules in
    let d : to_z w64 (of_z w64 c.weight.result) ≡ c.weight.result = search rules in
    let added = ap₂ (λ (x y : ℤ). x +ℤ y) a (b ∙ c.small.ensures ∙ d ∙ c.weight.ensures) in
    subst (FitsSigned w8) (sym added) (fits c.args.run c.args.edge c.requires.small c.requires.room)

pub returns : goal.returns
returns c =
    let run = c.args.run in
    let edge = c.args.edge in
    let from = c.requires.small.from in
    let room = c.requires.room in
    let same : to_z w8 (of_z w8 run.count) ≡ run.count = search rules in
    let a : to_z w8 (of_z w8 run.weight) ≡ run.weight = search rules in
    let b : to_z w8 (of_z w8 c.small.result) ≡ c.small.result = search rules in
    let d : to_z w64 (of_z w64 c.weight.result) ≡ c.weight.result = search rules in
    let added = ap₂ (λ (x y : ℤ). x +ℤ y) a (b ∙ c.small.ensures ∙ d ∙ c.weight.ensures) in
    let counted : FitsSigned w8 (run.count +ℤ pos 1) = omega (arith, ints, from, room) in
    ap₂ (λ (count weight : ℤ). record { edge = run.edge; count = to_z w8 (of_z w8 (count +ℤ pos 1)); weight = to_z w8 (of_z w8 weight) }) same added
    ∙ ap₂ (λ (count weight : ℤ). record { edge = run.edge; count = count; weight = weight }) (to_z-of_z w8 (run.count +ℤ pos 1) counted) (to_z-of_z w8 (run.weight +ℤ weight edge) (fits run edge c.requires.small room))
