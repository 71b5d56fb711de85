use Rattle.std.proofs.Common.{◌≡◌, ◌∙◌, ◌<◌, ◌≤◌, ◌<ℤ◌, ◌≤ℤ◌, ap, arith, length, pos, rules, subst, sym}
use Rattle.std.specs.List.{All}
use Rattle.std.proofs.lemmas.Int.{ints}
use Rattle.plane.specs.declared.edge.Edge.{Edge}
use Rattle.plane.specs.declared.point.Point.{Point}
use Rattle.plane.specs.Lines.{height_over}
use Rattle.overlay.specs.Areas.{swept}
use Rattle.offset.specs.Raw.{nowhere}
use Rattle.offset.specs.Shape.{neighbours, sides, turn}
use Rattle.offset.proofs.ShapeLemmas.{all-within, height-origin, length-neighbours, length-sides, more, neighbour-at, next-within, not-all}
use Rattle.offset.proofs.shape.go_round_origin.Goals as goal

pub returns-then-height_over-le0 : goal.returns-then-height_over-le0
returns-then-height_over-le0 c =
    let corners = c.args.corners.now in
    let size = length-sides corners in
    not-all (λ side. pos 0 <ℤ swept side) (sides corners) c.loop-index.index nowhere c.side_at.result (omega (arith, size, c.loop-index-test.true)) c.side_at.ensures
    (λ around. let value = c.height_over.ensures.value ∙ height-origin c.side_at.result in omega (arith, ints, value, around, c.if-height_over-le0.true))

pub loop-index-preserved : goal.loop-index-preserved
loop-index-preserved c =
    let corners = c.args.corners.now in
    let size = length-sides corners in
    more (λ side. pos 0 <ℤ swept side) (sides corners) c.loop-index.index nowhere c.side_at.result (omega (arith, size, c.loop-index-test.true)) c.side_at.ensures
    (let value = c.height_over.ensures.value ∙ height-origin c.side_at.result in omega (arith, ints, value, c.if-height_over-le0.false)) c.loop-index.invariant

pub returns : goal.returns
returns c =
    let corners = c.args.corners.now in
    let size = length-sides corners in
    all-within (λ side. pos 0 <ℤ swept side) (sides corners) c.loop-index.index (omega (arith, size, c.loop-index-test.false)) c.loop-index.invariant
