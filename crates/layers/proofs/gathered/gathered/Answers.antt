use Rattle.std.proofs.Common.{[], ◌∷◌, ℕ, List, get_or, take, append-nil}
use Rattle.std.proofs.lemmas.List.{take_more}
use Rattle.plane.specs.declared.point.Point.{Point}
use Rattle.layers.specs.Shapes.{rings_at, shapes_of}
use Rattle.layers.proofs.GatheredLemmas.{AreGathered-more}
use Rattle.std.proofs.lemmas.List.Concat.{flat_map-append}
use Rattle.layers.proofs.gathered.gathered.Goals as goal

pub loop-place-preserved : goal.loop-place-preserved
loop-place-preserved g c =
    let shapes = c.args.group.shapes in
    let places = c.args.group.places.now in
    let k = c.loop-place.place-index in
    let rings : ℕ → List (List Point) = λ place. get_or (shapes_of shapes) place [] in
    rw (take_more places k 0 c.loop-place-test.true, flat_map-append rings (take k places) (get_or places k 0 ∷ []), append-nil)
    (AreGathered-more (rings_at shapes (take k places)) (rings (get_or places k 0)) _ _ _ _ _ _ c.loop-place.invariant c.in_ok-append_shape.ensures)
