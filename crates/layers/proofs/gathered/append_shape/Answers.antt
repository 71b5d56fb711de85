use Rattle.std.proofs.Common.{◌≡◌, ◌∷◌, [], length, get_or, arith}
use Rattle.std.specs.List.{between}
use Rattle.layers.specs.Shapes.{all_rings}
use Rattle.layers.proofs.GatheredLemmas.{AreGathered-more, AreGathered-one}
use Rattle.layers.proofs.ListLemmas.{between-more, length-lists_of, lists_of-at}
use Rattle.layers.proofs.gathered.append_shape.Goals as goal

pub list_at-requires-clause-place : goal.list_at-requires-clause-place
list_at-requires-clause-place g c =
    let within = c.range_at-first.ensures.within (length c.args.shapes.ring_ends.now) c.requires.shapes.1 in
    omega arith

pub loop-ring-preserved : goal.loop-ring-preserved
loop-ring-preserved g c =
    let rings = all_rings c.args.shapes in
    let first = c.range_at-first.result.0 in
    let at = c.loop-ring.ring in
    let within = c.range_at-first.ensures.within (length c.args.shapes.ring_ends.now) c.requires.shapes.1 in
    let size = length-lists_of c.args.shapes.points.now 0 c.args.shapes.ring_ends.now in
    rw (between-more rings first at [] (omega arith) (omega arith))
    (AreGathered-more (between first at rings) (get_or rings at [] ∷ []) _ _ _ _ _ _ c.loop-ring.invariant
    (AreGathered-one (get_or rings at []) _ _ _ _ c.len.result (rw c.list_at.ensures at c.in_ok-extend_from_slice.ensures.items) c.in_ok-push.ensures.items (omega (arith, c.len.ensures))))

pub returns : goal.returns
returns g c =
    let shapes = c.args.shapes in
    let within = c.range_at-first.ensures.within (length shapes.ring_ends.now) c.requires.shapes.1 in
    let last : c.loop-ring.ring ≡ get_or shapes.shape_ends.now c.args.place 0 = omega arith in
    let here = lists_of-at (all_rings shapes) 0 shapes.shape_ends.now c.args.place c.requires.place in
    rw (here, ← last, ← c.range_at-first.ensures.start) c.loop-ring.invariant
