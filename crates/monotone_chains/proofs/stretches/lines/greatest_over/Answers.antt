use Rattle.std.proofs.Common.{◌≡◌, ◌^◌, ◌≤ℤ◌, ℤ, List, get_or, pos, take, to_z, of_z, sym, subst, rules, arith}
use Rattle.std.specs.Int.{w128}
use Rattle.std.specs.List.{All}
use Rattle.std.proofs.lemmas.Int.{ints}
use Rattle.std.proofs.lemmas.List.{take_all}
use Rattle.std.proofs.lemmas.List.Elements.{All-more, All-weaker}
use Rattle.plane.specs.Meet.Crosses.{IsWithin}
use Rattle.plane.specs.declared.point.Point.{Point}
use Rattle.plane.specs.Lines.{height_over}
use Rattle.monotone_chains.proofs.StretchLemmas.CutRows.{All-way}
use Rattle.monotone_chains.proofs.stretches.lines.greatest_over.Goals as goal

pub loop-point-preserved : goal.loop-point-preserved
loop-point-preserved c =
    let (small, first, second, upto) = c.loop-point.invariant in
    let none : Point = record { x = pos 0; y = pos 0 } in
    let part = c.args.part in
    let line = c.args.line in
    let i = c.loop-point.point-index in
    let was : ℤ = to_z w128 c.loop-point.most-bits in
    let now : ℤ = to_z w128 (of_z w128 c.higher-most-in-loop-point.result) in
    let is : c.higher-most-in-loop-point.result ≡ now = sym (let same : now ≡ c.higher-most-in-loop-point.result = search rules in same) in
    let rising : was ≤ℤ now = subst (λ (z : ℤ). was ≤ℤ z) is c.higher-most-in-loop-point.ensures.most in
    let more : (point : Point) → height_over line point ≤ℤ was → height_over line point ≤ℤ now = λ point below. omega (arith, ints, rising, below) in (
      subst (λ (z : ℤ). IsWithin (2 ^ 65) z) is c.higher-most-in-loop-point.ensures.within,
      more part.from first,
      more part.to second,
      All-more (λ point. height_over line point ≤ℤ now) part.inner.now i none c.loop-point-test.true
          (All-weaker (λ point. height_over line point ≤ℤ was) (λ point. height_over line point ≤ℤ now) more (take i part.inner.now) upto)
          (subst (λ (z : ℤ). height_over line (get_or part.inner.now i none) ≤ℤ z) is c.higher-most-in-loop-point.ensures.point),
    )

pub returns-clause-most : goal.returns-clause-most
returns-clause-most c =
    let (small, first, second, upto) = c.loop-point.invariant in
    let past = c.loop-point-test.false in
    let lower : Point → Type 0 = λ point. height_over c.args.line point ≤ℤ to_z w128 c.loop-point.most-bits in
    All-way lower c.args.part first second
    (subst (λ (points : List Point). All lower points) (take_all c.loop-point.point-index c.args.part.inner.now (omega (arith, past))) upto)
