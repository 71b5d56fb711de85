use Rattle.std.proofs.Common.{◌≡◌, ◌∙◌, ◌<◌, ◌≤◌, ◌<ℤ◌, ◌≤ℤ◌, ap, arith, length, pos, rules, subst, sym}
use Rattle.std.specs.List.{All}
use Rattle.std.proofs.lemmas.Int.{ints}
use Rattle.plane.specs.declared.edge.Edge.{Edge}
use Rattle.plane.specs.declared.point.Point.{Point}
use Rattle.plane.specs.Lines.{height_over}
use Rattle.overlay.specs.Areas.{swept}
use Rattle.offset.specs.Raw.{nowhere}
use Rattle.offset.specs.Shape.{neighbours, sides, turn}
use Rattle.offset.proofs.ShapeLemmas.{all-within, length-neighbours, length-sides, more, not-all, two-at}
use Rattle.offset.proofs.shape.turn_left.Goals as goal

pub returns-then-turn-le0 : goal.returns-then-turn-le0
returns-then-turn-le0 c =
    let corners = c.args.corners.now in
    let size = length-neighbours (sides corners) ∙ length-sides corners in
    let both = two-at corners c.loop-index.index c.next_place.result c.side_at-side.result c.side_at-next.result c.loop-index-test.true c.next_place.ensures c.side_at-side.ensures c.side_at-next.ensures in
    not-all (λ two. pos 0 <ℤ turn two.0 two.1) (neighbours (sides corners)) c.loop-index.index (nowhere, nowhere) (c.side_at-side.result, c.side_at-next.result) (omega (arith, size, c.loop-index-test.true)) both
    (λ left. omega (arith, ints, c.turn.ensures, left, c.if-turn-le0.true))

pub loop-index-preserved : goal.loop-index-preserved
loop-index-preserved c =
    let corners = c.args.corners.now in
    let size = length-neighbours (sides corners) ∙ length-sides corners in
    let both = two-at corners c.loop-index.index c.next_place.result c.side_at-side.result c.side_at-next.result c.loop-index-test.true c.next_place.ensures c.side_at-side.ensures c.side_at-next.ensures in
    more (λ two. pos 0 <ℤ turn two.0 two.1) (neighbours (sides corners)) c.loop-index.index (nowhere, nowhere) (c.side_at-side.result, c.side_at-next.result) (omega (arith, size, c.loop-index-test.true)) both
    (omega (arith, ints, c.turn.ensures, c.if-turn-le0.false)) c.loop-index.invariant

pub returns : goal.returns
returns c =
    let corners = c.args.corners.now in
    let size = length-neighbours (sides corners) ∙ length-sides corners in
    all-within (λ two. pos 0 <ℤ turn two.0 two.1) (neighbours (sides corners)) c.loop-index.index (omega (arith, size, c.loop-index-test.false)) c.loop-index.invariant
