use Rattle.std.proofs.Common.{◌≡◌, ◌+ℤ◌, ◌<ℤ◌, ℤ, List, pos, to_z, of_z, subst, rules, arith}
use Rattle.std.specs.Int.{w128}
use Rattle.std.specs.List.{All}
use Rattle.std.proofs.lemmas.List.{take_all}
use Rattle.std.proofs.lemmas.List.Elements.{All-more}
use Rattle.plane.specs.declared.point.Point.{Point}
use Rattle.monotone_chains.specs.Stretches.Cut.{way}
use Rattle.plane.specs.Lines.{height_over, margin_of}
use Rattle.monotone_chains.proofs.StretchLemmas.CutRows.{All-way}
use Rattle.monotone_chains.proofs.stretches.lines.all_above.Goals as goal

pub loop-point-preserved : goal.loop-point-preserved
loop-point-preserved c =
    All-more (λ point. (to_z w128 (of_z w128 c.args.top) +ℤ margin_of c.args.line) <ℤ height_over c.args.line point) c.args.part.inner.now c.loop-point.point-index
    (record { x = pos 0; y = pos 0 }) c.loop-point-test.true c.loop-point.invariant c.if-not-is_above-3.ensures

pub returns : goal.returns
returns c =
    let past = c.loop-point-test.false in
    let line = c.args.line in
    let top : ℤ = to_z w128 (of_z w128 c.args.top) in
    let is : top ≡ c.args.top = search rules in
    let above : Point → Type 0 = λ point. (top +ℤ margin_of line) <ℤ height_over line point in
    subst (λ (z : ℤ). All (λ point. (z +ℤ margin_of line) <ℤ height_over line point) (way c.args.part)) is
    (All-way above c.args.part c.if-not-is_above.ensures c.if-not-is_above-2.ensures
    (subst (λ (points : List Point). All above points) (take_all c.loop-point.point-index c.args.part.inner.now (omega (arith, past))) c.loop-point.invariant))
