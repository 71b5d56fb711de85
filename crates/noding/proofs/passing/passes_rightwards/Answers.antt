use Rattle.std.proofs.Common.{◌<ℤ◌, ◌≤ℤ◌, rules, true, false}
use Rattle.noding.proofs.SnapLemmas.Passing.{Onwards, falling, onwards, outside_falling, outside_rising, outside_x, passed_tested, rising}
use Rattle.noding.proofs.passing.passes_rightwards.Goals as goal

pub returns-then-not-is_between : goal.returns-then-not-is_between
returns-then-not-is_between c = outside_x c.args.edge c.args.x c.args.y c.requires.right (search rules)

pub returns-then-not-is_between-2 : goal.returns-then-not-is_between-2
returns-then-not-is_between-2 c = outside_rising c.args.edge c.args.x c.args.y (search rules) (search rules)

pub returns-then-not-is_between-3 : goal.returns-then-not-is_between-3
returns-then-not-is_between-3 c = outside_falling c.args.edge c.args.x c.args.y (search rules) (search rules)

pub returns-then-edge : goal.returns-then-edge
returns-then-edge c =
    let edge = c.args.edge in
    let rises : edge.y0 ≤ℤ edge.y1 = search rules in
    let along_x : Onwards edge.x0 edge.x1 c.args.x c.distance-width.result c.distance-right.result = onwards edge.x0 edge.x1 c.args.x c.distance-width.result c.distance-right.result (search rules) (search rules) (search rules) in
    passed_tested edge c.args.x c.args.y c.distance-width.result c.distance.result c.distance-right.result c.distance-then-edge.result
    (rising edge c.args.x c.args.y c.distance-width.result c.distance.result c.distance-right.result c.distance-then-edge.result along_x rises (search rules) (search rules) (search rules))
    true c.is_passed.result rises c.is_passed.ensures

pub returns : goal.returns
returns c =
    let edge = c.args.edge in
    let falls : edge.y1 <ℤ edge.y0 = search rules in
    let along_x : Onwards edge.x0 edge.x1 c.args.x c.distance-width.result c.distance-right.result = onwards edge.x0 edge.x1 c.args.x c.distance-width.result c.distance-right.result (search rules) (search rules) (search rules) in
    passed_tested edge c.args.x c.args.y c.distance-width.result c.distance-2.result c.distance-right.result c.distance-3.result
    (falling edge c.args.x c.args.y c.distance-width.result c.distance-2.result c.distance-right.result c.distance-3.result along_x falls (search rules) (search rules) (search rules))
    false c.is_passed-2.result falls c.is_passed-2.ensures
