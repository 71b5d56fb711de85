use Rattle.std.proofs.Common.{◌<◌, length, refl, subst, sym, arith, ◌∙◌}
use Rattle.layers.specs.Shapes.{all_rings, shapes_of}
use Rattle.layers.proofs.BoxedLemmas.{AreBoxesUpto, AreBoxesUpto-all, AreBoxesUpto-none, AreBoxesUpto-push, AreBoxesUpto-skip}
use Rattle.layers.proofs.ListLemmas.{length-lists_of}
use Rattle.layers.proofs.boxes.boxes_of.Goals as goal
use Rattle.layers.proofs.boxes.boxes_of.Goals.{in-Some+in_ok-push, in_default}

pub loop-place-init : goal.loop-place-init
loop-place-init g c = subst (AreBoxesUpto (shapes_of c.args.shapes) 0) (sym c.new-boxes.ensures.items) (AreBoxesUpto-none (shapes_of c.args.shapes))

pub loop-place-preserved : goal.loop-place-preserved
loop-place-preserved g c =
    let shapes = shapes_of c.args.shapes in
    let k = c.loop-place.place in
    let within : k < length shapes = (let size = length-lists_of (all_rings c.args.shapes) 0 c.args.shapes.shape_ends.now in let test = c.loop-place-test.true in omega (arith, size, test)) in
    elim c.match-box_of.branch [
      | in-Some+in_ok-push w ↦
          let is = rw c.points_at.ensures at w.in-Some.ensures.0 in
          rw (w.boxes-is, w.in_ok-push.ensures.items) (AreBoxesUpto-push shapes k c.loop-place.boxes.items _ refl (record { place = within; is = is }) c.loop-place.invariant)
      | in_default w ↦ rw w.boxes-is (AreBoxesUpto-skip shapes k c.loop-place.boxes.items (sym c.points_at.ensures ∙ w.in_default.ensures) c.loop-place.invariant)
    ]

pub returns : goal.returns
returns g c =
    let size = length-lists_of (all_rings c.args.shapes) 0 c.args.shapes.shape_ends.now in
    let past = c.loop-place-test.false in
    let upto = c.loop-place.auto.place-end in
    AreBoxesUpto-all (shapes_of c.args.shapes) c.loop-place.place c.loop-place.boxes.items (omega (arith, size, past, upto)) c.loop-place.invariant
