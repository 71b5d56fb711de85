use Rattle.std.proofs.Common.{◌≡◌, ℤ, ◌+ℤ◌, ◌<ℤ◌, to_z, of_z, subst, rules}
use Rattle.std.specs.Bool.{OnTrue}
use Rattle.std.specs.Int.{w128}
use Rattle.std.specs.List.{All}
use Rattle.monotone_chains.specs.Stretches.{AreApart}
use Rattle.monotone_chains.specs.Stretches.Cut.{way}
use Rattle.plane.specs.Lines.{height_over, margin_of}
use Rattle.monotone_chains.proofs.StretchLemmas.CutTests.{OnTrue-weaker}
use Rattle.monotone_chains.proofs.StretchLemmas.CutLines.{AreApart-line}
use Rattle.monotone_chains.proofs.stretches.lines.lies_beyond.Goals as goal

pub returns : goal.returns
returns c =
    let line = c.args.line in
    let top = c.greatest_over-top.result in
    let one = way c.args.one in
    let other = way c.args.other in
    let is : to_z w128 (of_z w128 top) ≡ top = search rules in
    OnTrue-weaker c.all_above.result (All (λ point. (top +ℤ margin_of line) <ℤ height_over line point) other) (AreApart one other)
    (AreApart-line line top one other c.greatest_over-top.ensures.most)
    (subst (λ (z : ℤ). OnTrue c.all_above.result (All (λ point. (z +ℤ margin_of line) <ℤ height_over line point) other)) is c.all_above.ensures)
