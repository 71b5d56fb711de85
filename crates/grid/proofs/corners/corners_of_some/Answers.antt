use Rattle.std.proofs.Common.{rules, below_more}
use Rattle.grid.specs.Grid.{IsFinitePosition, position_at}
use Rattle.grid.proofs.CornerLemmas.{least_more, greatest_more}
use Rattle.grid.proofs.corners.corners_of_some.Goals as goal

pub loop-i-preserved : goal.loop-i-preserved
loop-i-preserved c =
    let all = c.args.positions.now in
    let i = c.loop-i.i in
    let known = c.loop-i.invariant.corners in
    let here : IsFinitePosition (position_at all i) = search rules in
    record {
      corners = record {
        low_x = least_more (λ p. p.x) all i c.loop-i.low.x c.lesser_corner-low.result.x c.loop-i-test.true known.low_x c.lesser_corner-low.ensures.x;
        low_y = least_more (λ p. p.y) all i c.loop-i.low.y c.lesser_corner-low.result.y c.loop-i-test.true known.low_y c.lesser_corner-low.ensures.y;
        high_x = greatest_more (λ p. p.x) all i c.loop-i.high.x c.greater_corner-high.result.x c.loop-i-test.true known.high_x c.greater_corner-high.ensures.x;
        high_y = greatest_more (λ p. p.y) all i c.loop-i.high.y c.greater_corner-high.result.y c.loop-i-test.true known.high_y c.greater_corner-high.ensures.y;
      };
      finite = below_more _ _ c.loop-i.invariant.finite here;
    }
