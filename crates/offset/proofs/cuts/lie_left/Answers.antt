use Rattle.std.proofs.Common.{arith, pos, [], ◌∷◌, ◌≤ℤ◌}
use Rattle.std.proofs.lemmas.Int.{ints}
use Rattle.std.proofs.lemmas.List.Elements.{All-cons, All-nil}
use Rattle.plane.specs.declared.point.Point.{Point}
use Rattle.plane.specs.Lines.{height_over}
use Rattle.offset.proofs.cuts.lie_left.Goals as goal

pub returns : goal.returns
returns c =
    let P = λ (tip : Point). pos 0 ≤ℤ height_over c.args.line tip in
    let tips = c.args.tips in
    All-cons P tips.at (tips.from ∷ tips.to ∷ []) (omega (arith, ints, c.height_over.ensures.value, c.if-height_over-lt0.false))
    (All-cons P tips.from (tips.to ∷ []) (omega (arith, ints, c.height_over-2.ensures.value, c.if-height_over-lt0-2.false))
    (All-cons P tips.to [] (omega (arith, ints, c.height_over-3.ensures.value, c.if-height_over-lt0-3.false)) (All-nil P)))
