use Rattle.std.proofs.Common.{◌+◌, ◌-◌, ◌/◌, ◌<◌, ℕ, arith}
use Rattle.overlay.specs.Contours.Order.{point_at}
use Rattle.overlay.proofs.ContourLemmas.Order.{IsBehind-trans}
use Rattle.overlay.proofs.contours.order.first_from.Goals as goal

pub loop-low-preserved-then-is_behind : goal.loop-low-preserved-then-is_behind
loop-low-preserved-then-is_behind c =
    let (upto, inside, before, behind) = c.loop-low.invariant in
    let more = c.loop-low-test.true in
    let sorted = c.args.sorted.now in
    let low = c.loop-low.low in
    let high = c.loop-low.high in
    let middle : ℕ = low + (high - low) / 2 in
    let below : middle < high = omega (arith, more) in (
      omega arith,
      omega (arith, below, inside),
      before,
      λ k from within. IsBehind-trans c.args.point (point_at sorted middle) (point_at sorted k) c.if-is_behind.ensures (c.requires middle k from within),
    )

pub loop-low-preserved : goal.loop-low-preserved
loop-low-preserved c =
    let (upto, inside, before, behind) = c.loop-low.invariant in
    let more = c.loop-low-test.true in
    let sorted = c.args.sorted.now in
    let low = c.loop-low.low in
    let high = c.loop-low.high in
    let middle : ℕ = low + (high - low) / 2 in
    let below : middle < high = omega (arith, more) in (
      omega (arith, below),
      inside,
      λ k within is. c.if-is_behind.ensures (IsBehind-trans c.args.point (point_at sorted k) (point_at sorted middle) is (c.requires k middle (omega (arith, within)) (omega (arith, below, inside)))),
      behind,
    )
