use Rattle.std.proofs.Common.{◌<◌, [], ◌++◌, List, length, get_or, take, ap, sym, subst, ◌∙◌, arith}
use Rattle.std.proofs.lemmas.List.{take_all, take_more}
use Rattle.plane.specs.declared.point.Point.{Point}
use Rattle.layers.specs.Parents.{AreOuters, middle_of}
use Rattle.layers.specs.Shapes.{all_rings, shapes_of}
use Rattle.layers.proofs.ListLemmas.{length-lists_of}
use Rattle.layers.proofs.ParentLemmas.Outers.{AreOuters-more}
use Rattle.layers.proofs.parents.outers_of.Goals as goal

pub loop-place-preserved : goal.loop-place-preserved
loop-place-preserved g c =
    let polygons = shapes_of c.args.polygons in
    let place = c.loop-place.place in
    let before = c.loop-place.outers in
    let after = c.push_outer.new.outers in
    let told = c.in_ok-push_outer.ensures in
    let ring = c.outer_ring.ensures in
    let (middle, middle_is, middles_are) = told.middles in
    let size = length-lists_of (all_rings c.args.polygons) 0 c.args.polygons.shape_ends.now in
    let below = c.loop-place-test.true in
    let within : place < length polygons = omega (arith, size, below) in
    subst (λ (some : List (List (List Point))). AreOuters some after.points.items after.ring_ends.items after.shape_ends.items after.middles.items) (sym (take_more polygons place [] within))
    (AreOuters-more (take place polygons) (get_or polygons place []) before.points.items after.points.items before.ring_ends.items after.ring_ends.items before.shape_ends.items after.shape_ends.items before.middles.items after.middles.items middle
    c.loop-place.invariant (told.points ∙ ap (λ (outer : List Point). before.points.items ++ outer) ring) told.rings told.shapes (middle_is ∙ ap middle_of ring) middles_are)

pub returns : goal.returns
returns g c =
    let polygons = shapes_of c.args.polygons in
    let outers = c.loop-place.outers in
    let size = length-lists_of (all_rings c.args.polygons) 0 c.args.polygons.shape_ends.now in
    let done = c.loop-place-test.false in
    subst (λ (some : List (List (List Point))). AreOuters some outers.points.items outers.ring_ends.items outers.shape_ends.items outers.middles.items) (take_all c.loop-place.place polygons (omega (arith, size, done)))
    c.loop-place.invariant
