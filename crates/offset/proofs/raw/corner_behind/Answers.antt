use Rattle.std.proofs.Common.{◌∙◌, ℕ, ap, arith, get_or, length, pos, refl, sym}
use Rattle.std.proofs.lemmas.List.{get_or_past}
use Rattle.plane.specs.declared.edge.Edge.{Edge}
use Rattle.plane.specs.declared.point.Point.{Point}
use Rattle.plane.specs.Ends.{start_of}
use Rattle.offset.specs.Raw.{nowhere}
use Rattle.offset.specs.Shape.{neighbours, next_place, sides}
use Rattle.offset.proofs.ShapeLemmas.{length-neighbours, length-sides, next-within, side-at, two-at}
use Rattle.offset.proofs.raw.corner_behind.Goals as goal

pub returns-then-place-corners : goal.returns-then-place-corners
returns-then-place-corners c =
    let corners = c.args.corners.now in
    let place = c.args.place in
    let next = next_place place (length corners) in
    let origin : Point = record { x = pos 0; y = pos 0 } in
    let within = next-within place (length corners) c.if-place-corners.true in
    ap (λ (n : ℕ). get_or corners n origin) c.next_place.ensures
    ∙ sym (ap start_of (side-at corners next origin nowhere within))
    ∙ ap (λ (two : Edge × Edge). start_of two.1) (two-at corners place next (get_or (sides corners) place nowhere) (get_or (sides corners) next nowhere) c.if-place-corners.true refl refl refl)

pub returns-else-place-corners : goal.returns-else-place-corners
returns-else-place-corners c =
    let corners = c.args.corners.now in
    let size = length-neighbours (sides corners) in
    let sized = length-sides corners in
    sym (ap (λ (two : Edge × Edge). start_of two.1) (get_or_past (neighbours (sides corners)) c.args.place (nowhere, nowhere) (omega (arith, size, sized, c.if-place-corners.false))))
