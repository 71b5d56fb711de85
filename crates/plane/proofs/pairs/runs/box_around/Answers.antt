use Rattle.std.proofs.Common.{get_or, pos, arith}
use Rattle.std.proofs.lemmas.Option.{slice_get-get_or}
use Rattle.plane.specs.declared.pairs.items.Bounds.{Bounds}
use Rattle.plane.proofs.PairsLemmas.Compared.{around-first, around-more}
use Rattle.plane.proofs.pairs.runs.box_around.Goals as goal

pub loop-place-init : goal.loop-place-init
loop-place-init c =
    let boxes = c.args.boxes.now in
    let from = c.args.from in
    let run = c.requires.run in
    let inside = c.requires.inside in
    let none : Bounds = record { left = pos 0; right = pos 0; low = pos 0; high = pos 0 } in
    around-first boxes from (get_or boxes from none) (slice_get-get_or boxes from none (omega (arith, run, inside)))

pub loop-place-preserved : goal.loop-place-preserved
loop-place-preserved c =
    let boxes = c.args.boxes.now in
    let place = c.loop-place.place in
    let test = c.loop-place-test.true in
    let inside = c.requires.inside in
    let none : Bounds = record { left = pos 0; right = pos 0; low = pos 0; high = pos 0 } in
    around-more boxes c.args.from place c.loop-place.around (get_or boxes place none) c.join_boxes-around.result c.loop-place.invariant
    (slice_get-get_or boxes place none (omega (arith, test, inside))) c.join_boxes-around.ensures.one c.join_boxes-around.ensures.other

pub returns : goal.returns
returns c = let test = c.loop-place-test.false in λ place box there behind below. c.loop-place.invariant place box there behind (omega (arith, below, test))
