use Rattle.std.proofs.Common.{rules, arith, IsTrue}
use Rattle.std.proofs.lemmas.Int.{ints}
use Rattle.itree.proofs.mode.can_crop_to.Goals as goal

pub returns-then-is_span : goal.returns-then-is_span
returns-then-is_span c =
    let is : IsTrue c.is_span.result = search rules in
    let (wide, left, right) = c.is_span.ensures.0 is in (
      λ also.
          let (tall, low, high) = c.is_span-then-is_span.ensures.0 also in
          record {
            some = record { wide = omega (arith, ints, wide); tall = omega (arith, ints, tall) };
            margin = record { left = omega (arith, ints, left); low = omega (arith, ints, low); right = omega (arith, ints, right); high = omega (arith, ints, high) };
          },
      λ can. c.is_span-then-is_span.ensures.1 (omega (arith, ints, can.some.tall), omega (arith, ints, can.margin.low), omega (arith, ints, can.margin.high)),
    )

pub returns-else-is_span : goal.returns-else-is_span
returns-else-is_span c = (
  λ is. let no : IsTrue c.is_span.result → ⊥ = search rules in absurd (no is),
  λ can. c.is_span.ensures.1 (omega (arith, ints, can.some.wide), omega (arith, ints, can.margin.left), omega (arith, ints, can.margin.right)),
)
