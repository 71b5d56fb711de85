use Rattle.std.proofs.Common.{◌≡◌, ◌<◌, arith, ◌↔◌}
use Rattle.std.specs.Prelude.{pos, ◌<ℤ◌}
use Rattle.grid.specs.Area.{twice_area}
use Rattle.grid.specs.Grid.{IsFinitePosition}
use Rattle.grid.specs.Places.{left_of, number_of}
use Rattle.grid.proofs.AreaLemmas.Along.{sum_between-step, sum_between-end, sum_between-begin, All-behind}
use Rattle.grid.proofs.AreaLemmas.Numbers.{number_of-none}
use Rattle.grid.proofs.AreaLemmas.Signs.{left_of-none, left_of-positive}
use Rattle.grid.proofs.direction.runs_counterclockwise.Goals as goal

pub loop-position-init : goal.loop-position-init
loop-position-init c = record {
  sum =
      sum_between-begin c.args.ring.now c.in-Some.first.now c.in-Some.rest.now c.position_parts_of-start.result _
      c.in-Some.ensures.cases.0 c.position_parts_of-start.ensures.x c.position_parts_of-start.ensures.y
      (left_of-none _ _ c.zero-added.ensures c.zero-taken.ensures);
  from = c.position_parts_of-start.ensures.ranges;
  added = λ k. omega (arith, number_of-none c.zero-added.result c.zero-added.ensures k);
  taken = λ k. omega (arith, number_of-none c.zero-taken.result c.zero-taken.ensures k);
}

pub position_parts_of-to-requires : goal.position_parts_of-to-requires
position_parts_of-to-requires c =
    All-behind IsFinitePosition c.args.ring.now c.in-Some.first.now c.in-Some.rest.now c.in-Some.ensures.cases.0 c.requires.finite c.loop-position.position-index _ c.loop-position-test.true

pub loop-position-preserved : goal.loop-position-preserved
loop-position-preserved c = record {
  sum =
      sum_between-step _ _ _ c.loop-position.from c.position_parts_of-to.result c.position_parts_of-start.result c.in-Some.rest.now c.loop-position.position-index _
      c.loop-position-test.true c.position_parts_of-to.ensures.x c.position_parts_of-to.ensures.y c.loop-position.invariant.sum c.add_edge.ensures.left;
  from = c.position_parts_of-to.ensures.ranges;
  added = λ k. omega (arith, c.add_edge.ensures.added_bound k, c.loop-position.invariant.added k);
  taken = λ k. omega (arith, c.add_edge.ensures.taken_bound k, c.loop-position.invariant.taken k);
}

pub returns : goal.returns
returns c =
    let whole : left_of c.add_edge-2.new.added c.add_edge-2.new.taken ≡ twice_area c.args.ring.now =
    sum_between-end _ _ _ c.loop-position.from c.position_parts_of-start.result c.in-Some.rest.now c.loop-position.position-index
    c.loop-position-test.false c.loop-position.invariant.sum c.add_edge-2.ensures.left in
    let tells : (number_of c.add_edge-2.new.taken < number_of c.add_edge-2.new.added) ↔ (pos 0 <ℤ twice_area c.args.ring.now) = rw whole at (left_of-positive c.add_edge-2.new.added c.add_edge-2.new.taken) in
    (λ h. tells.0 (c.is_greater.ensures.0 h), λ h. c.is_greater.ensures.1 (tells.1 h))
