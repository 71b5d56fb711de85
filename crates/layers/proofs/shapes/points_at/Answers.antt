use Rattle.std.proofs.Common.{◌≤◌, length, arith, rules}
use Rattle.layers.specs.Shapes.{all_rings}
use Rattle.layers.proofs.ListLemmas.{AreEnds-upto, joined-between, lists_of-at}
use Rattle.layers.proofs.shapes.points_at.Goals as goal

pub offset_bounds-shapes-start : goal.offset_bounds-shapes-start
offset_bounds-shapes-start c =
    let shapes = c.args.shapes in
    let (onwards, inside) = c.range_at-first.ensures.within (length shapes.ring_ends.now) c.requires.shapes.1 in
    let upto : c.range_at-first.result.0 ≤ length shapes.ring_ends.now = omega (arith, onwards, inside) in
    let first = AreEnds-upto 0 shapes.ring_ends.now (length shapes.points.now) c.range_at-first.result.0 c.requires.shapes.0 (omega arith) upto in
    let within : c.start_of-start.result ≤ length shapes.points.now = omega (arith, first) in
    search rules

pub slice_bounds-result-count : goal.slice_bounds-result-count
slice_bounds-result-count c =
    let shapes = c.args.shapes in
    let (onwards, inside) = c.range_at-first.ensures.within (length shapes.ring_ends.now) c.requires.shapes.1 in
    let (upto, are) = joined-between shapes.points.now 0 shapes.ring_ends.now c.range_at-first.result.0 c.range_at-first.result.1 c.requires.shapes.0 onwards inside in
    omega (arith, upto)

pub slice_bounds-result-end : goal.slice_bounds-result-end
slice_bounds-result-end c =
    let shapes = c.args.shapes in
    let (onwards, inside) = c.range_at-first.ensures.within (length shapes.ring_ends.now) c.requires.shapes.1 in
    let last = AreEnds-upto 0 shapes.ring_ends.now (length shapes.points.now) c.range_at-first.result.1 c.requires.shapes.0 (omega arith) inside in
    let within : c.start_of-end.result ≤ length shapes.points.now = omega (arith, last) in
    search rules

pub slice_bounds-result-start : goal.slice_bounds-result-start
slice_bounds-result-start c =
    let shapes = c.args.shapes in
    let (onwards, inside) = c.range_at-first.ensures.within (length shapes.ring_ends.now) c.requires.shapes.1 in
    let (upto, are) = joined-between shapes.points.now 0 shapes.ring_ends.now c.range_at-first.result.0 c.range_at-first.result.1 c.requires.shapes.0 onwards inside in
    let within : c.start_of-start.result ≤ c.start_of-end.result = omega (arith, upto) in
    search rules

pub returns : goal.returns
returns c =
    let shapes = c.args.shapes in
    let (onwards, inside) = c.range_at-first.ensures.within (length shapes.ring_ends.now) c.requires.shapes.1 in
    let (upto, are) = joined-between shapes.points.now 0 shapes.ring_ends.now c.range_at-first.result.0 c.range_at-first.result.1 c.requires.shapes.0 onwards inside in
    let here = lists_of-at (all_rings shapes) 0 shapes.shape_ends.now c.args.place c.requires.place in
    rw (c.start_of-start.ensures, c.start_of-end.ensures, ← are, here, ← c.range_at-first.ensures.start, ← c.range_at-first.ensures.end)
