use Rattle.std.proofs.Common.{◌∙◌, arith, sym}
use Rattle.std.proofs.lemmas.Bool.{OnTrue_from}
use Rattle.std.proofs.lemmas.List.Elements.{Contains-get_or}
use Rattle.offset.specs.Near.{IsOfFurthest, sides_at}
use Rattle.offset.specs.Raw.{nowhere}
use Rattle.offset.specs.Shape.{neighbours, sides}
use Rattle.offset.proofs.PieceLemmas.Convex.{furthest-is}
use Rattle.offset.proofs.ShapeLemmas.{length-neighbours, length-sides}
use Rattle.offset.proofs.raw.is_of_furthest.Goals as goal

-- the one that is found is the only one
pub returns-then-place-corners : goal.returns-then-place-corners
returns-then-place-corners c =
    let corners = c.args.corners.now in
    let size = length-neighbours (sides corners) in
    let sized = length-sides corners in
    let held = Contains-get_or (neighbours (sides corners)) c.args.place (nowhere, nowhere) (omega (arith, size, sized, c.if-place-corners.true)) in
    OnTrue_from c.is_furthest_at.result (IsOfFurthest corners c.args.edge c.args.place) (λ found. furthest-is corners c.requires c.args.edge (sides_at corners c.args.place) held (sym c.is_furthest_at.ensures ∙ found))
