use Rattle.std.proofs.Common.{[], List, subst, arith}
use Rattle.std.specs.List.{All}
use Rattle.std.proofs.lemmas.List.{take_all}
use Rattle.std.proofs.lemmas.List.Elements.{All-more}
use Rattle.plane.specs.declared.point.Point.{Point}
use Rattle.overlay.specs.OnePiece.{TouchAlongNoCircle}
use Rattle.tiles.proofs.JoinLists.{length-lists_of}
use Rattle.validity.specs.Given.{directed, polygons_of, rings_at}
use Rattle.validity.proofs.Framed.{none-is, some-is}
use Rattle.validity.proofs.validity.fault_of_pieces.Goals as goal

pub returns-in-Some-clause-ok : goal.returns-in-Some-clause-ok
returns-in-Some-clause-ok g c =
    let size = length-lists_of (rings_at c.args.set.rings) 0 c.args.set.polygon_ends.now in
    let more = c.loop-polygon-test.true in
    let (touches, held) = some-is _ _ c.in_ok-touch.field-0 c.in-Some.touch c.in-Some.is c.in_ok-touch.ensures.ok in
    (omega (arith, size, more), touches, held)

pub loop-polygon-preserved : goal.loop-polygon-preserved
loop-polygon-preserved g c =
    let polygons = polygons_of c.args.set in
    let size = length-lists_of (rings_at c.args.set.rings) 0 c.args.set.polygon_ends.now in
    let more = c.loop-polygon-test.true in
    All-more (λ (polygon : List (List Point)). TouchAlongNoCircle (directed polygon)) polygons c.loop-polygon.polygon [] (omega (arith, size, more)) c.loop-polygon.invariant
    (none-is _ _ c.in_ok-touch.field-0 c.in_default.is c.in_ok-touch.ensures.ok)

pub returns-clause-ok : goal.returns-clause-ok
returns-clause-ok g c =
    let polygons = polygons_of c.args.set in
    let size = length-lists_of (rings_at c.args.set.rings) 0 c.args.set.polygon_ends.now in
    let past = c.loop-polygon-test.false in
    subst (All (λ (polygon : List (List Point)). TouchAlongNoCircle (directed polygon))) (take_all c.loop-polygon.polygon polygons (omega (arith, size, past))) c.loop-polygon.invariant
