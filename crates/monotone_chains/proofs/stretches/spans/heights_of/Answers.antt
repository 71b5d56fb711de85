use Rattle.std.proofs.Common.{◌≡◌, ℤ, pos, get_or, take, subst, to_z, of_z, w32, FitsSigned, List, rules, arith}
use Rattle.std.specs.List.{All}
use Rattle.std.proofs.lemmas.Int.{ints, to_z-of_z}
use Rattle.std.proofs.lemmas.List.{take_all}
use Rattle.std.proofs.lemmas.List.Elements.{All-more, All-weaker}
use Rattle.plane.specs.declared.point.Point.{Point}
use Rattle.monotone_chains.specs.Stretches.Spans.{HasHeights}
use Rattle.monotone_chains.specs.declared.stretches.spans.Heights.{Heights}
use Rattle.monotone_chains.proofs.StretchLemmas.CutRows.{All-way}
use Rattle.monotone_chains.proofs.stretches.spans.heights_of.Goals as goal

pub loop-point-preserved : goal.loop-point-preserved
loop-point-preserved c =
    let (first, second, upto) = c.loop-point.invariant in
    let none : Point = record { x = pos 0; y = pos 0 } in
    let points = c.args.part.inner.now in
    let i = c.loop-point.point-index in
    let least : ℤ = to_z w32 (of_z w32 c.min-low-in-loop-point.result) in
    let greatest : ℤ = to_z w32 (of_z w32 c.max-high-in-loop-point.result) in
    let before : Heights = record { low = to_z w32 c.loop-point.low-bits; high = to_z w32 c.loop-point.high-bits } in
    let after : Heights = record { low = least; high = greatest } in
    let low : least ≡ c.min-low-in-loop-point.result = search rules in
    let high : greatest ≡ c.max-high-in-loop-point.result = search rules in
    let fits : FitsSigned w32 (get_or points i none).y = search rules in
    let here = to_z-of_z w32 (get_or points i none).y fits in
    let a = c.min-low-in-loop-point.ensures.self_bound in
    let b = c.min-low-in-loop-point.ensures.other_bound in
    let e = c.max-high-in-loop-point.ensures.self_bound in
    let f = c.max-high-in-loop-point.ensures.other_bound in
    let more : (point : Point) → HasHeights before point → HasHeights after point =
    λ point has. let from = has.low in let upto = has.high in record { low = omega (arith, ints, low, a, from); high = omega (arith, ints, high, e, upto) } in (
      more c.args.part.from first,
      more c.args.part.to second,
      All-more (HasHeights after) points i none c.loop-point-test.true (All-weaker (HasHeights before) (HasHeights after) more (take i points) upto)
          (record { low = omega (arith, ints, low, b, here); high = omega (arith, ints, high, f, here) }),
    )

pub returns : goal.returns
returns c =
    let (first, second, upto) = c.loop-point.invariant in
    let past = c.loop-point-test.false in
    let heights : Heights = record { low = to_z w32 c.loop-point.low-bits; high = to_z w32 c.loop-point.high-bits } in
    All-way (HasHeights heights) c.args.part first second
    (subst (λ (points : List Point). All (HasHeights heights) points) (take_all c.loop-point.point-index c.args.part.inner.now (omega (arith, past))) upto)
