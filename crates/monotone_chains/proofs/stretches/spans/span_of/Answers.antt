use Rattle.std.proofs.Common.{◌≡◌, ◌≤ℤ◌, ◌<ℤ◌, ◌<◌, ℤ, length, to_z, of_z, w32, FitsSigned, rules, arith, ap₂, sym, subst}
use Rattle.std.specs.List.{All}
use Rattle.std.proofs.lemmas.Bool.{OnTrue_at}
use Rattle.std.proofs.lemmas.Int.{ints}
use Rattle.plane.specs.declared.point.Point.{Point}
use Rattle.monotone_chains.specs.Stretches.Cut.{way}
use Rattle.monotone_chains.specs.Stretches.Spans.{AreFar, HasHeights}
use Rattle.monotone_chains.specs.declared.stretches.spans.Heights.{Heights}
use Rattle.monotone_chains.proofs.StretchLemmas.CutSpans.{span-back, span-forth}
use Rattle.monotone_chains.proofs.StretchLemmas.CutWays.{length-way}
use Rattle.monotone_chains.proofs.stretches.spans.span_of.Goals as goal

pub returns-then-part : goal.returns-then-part
returns-then-part c =
    let part = c.args.part in
    let low : to_z w32 (of_z w32 c.heights_of-heights.result.low) ≡ c.heights_of-heights.result.low = search rules in
    let high : to_z w32 (of_z w32 c.heights_of-heights.result.high) ≡ c.heights_of-heights.result.high = search rules in
    let heights : Heights = record { low = to_z w32 (of_z w32 c.heights_of-heights.result.low); high = to_z w32 (of_z w32 c.heights_of-heights.result.high) } in
    let same = ap₂ (λ (a b : ℤ). let pair : Heights = record { low = a; high = b } in pair) (sym low) (sym high) in
    let order : part.from.x ≤ℤ part.to.x = search rules in
    let x : FitsSigned w32 part.from.x = search rules in
    let x_too : FitsSigned w32 part.to.x = search rules in
    let y : FitsSigned w32 c.heights_of-heights.result.low = search rules in
    span-forth part c.requires heights _ c.are_far-opens.result c.are_far-closes.result
    (subst (λ (h : Heights). All (HasHeights h) (way part)) same c.heights_of-heights.ensures)
    (λ more. let long : 0 < length part.inner.now = omega (arith, more, length-way part) in search rules)
    (λ set. subst (AreFar part.from) c.second_of.ensures (OnTrue_at set c.are_far-opens.ensures))
    (λ set. subst (λ (point : Point). AreFar point part.to) c.before_last.ensures (OnTrue_at set c.are_far-closes.ensures))
    (omega (arith, ints, x)) (omega (arith, ints, x_too)) (omega (arith, ints, y, low)) order

pub returns-else-part : goal.returns-else-part
returns-else-part c =
    let part = c.args.part in
    let low : to_z w32 (of_z w32 c.heights_of-heights.result.low) ≡ c.heights_of-heights.result.low = search rules in
    let high : to_z w32 (of_z w32 c.heights_of-heights.result.high) ≡ c.heights_of-heights.result.high = search rules in
    let heights : Heights = record { low = to_z w32 (of_z w32 c.heights_of-heights.result.low); high = to_z w32 (of_z w32 c.heights_of-heights.result.high) } in
    let same = ap₂ (λ (a b : ℤ). let pair : Heights = record { low = a; high = b } in pair) (sym low) (sym high) in
    let order : part.to.x <ℤ part.from.x = search rules in
    let x : FitsSigned w32 part.from.x = search rules in
    let x_too : FitsSigned w32 part.to.x = search rules in
    let y : FitsSigned w32 c.heights_of-heights.result.low = search rules in
    span-back part c.requires heights _ c.are_far-opens.result c.are_far-closes.result
    (subst (λ (h : Heights). All (HasHeights h) (way part)) same c.heights_of-heights.ensures)
    (λ more. let long : 0 < length part.inner.now = omega (arith, more, length-way part) in search rules)
    (λ set. subst (AreFar part.from) c.second_of.ensures (OnTrue_at set c.are_far-opens.ensures))
    (λ set. subst (λ (point : Point). AreFar point part.to) c.before_last.ensures (OnTrue_at set c.are_far-closes.ensures))
    (omega (arith, ints, x)) (omega (arith, ints, x_too)) (omega (arith, ints, y, low)) order
