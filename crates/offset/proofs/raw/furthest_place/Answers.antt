use Rattle.std.proofs.Common.{◌∙◌, ◌≡◌, [], ap, arith, filter, length, List, sym}
use Rattle.std.proofs.lemmas.List.{get_or_past, take_all}
use Rattle.plane.specs.declared.edge.Edge.{Edge}
use Rattle.plane.specs.Ends.{start_of}
use Rattle.std.specs.Prelude.{get_or}
use Rattle.offset.specs.Raw.{is_furthest, nowhere}
use Rattle.offset.specs.Shape.{neighbours, sides}
use Rattle.offset.proofs.RawLemmas.{first-kept, none-kept}
use Rattle.offset.proofs.ShapeLemmas.{length-neighbours, length-sides}
use Rattle.offset.proofs.raw.furthest_place.Goals as goal

pub returns-then-is_furthest_at : goal.returns-then-is_furthest_at
returns-then-is_furthest_at c =
    let corners = c.args.corners.now in
    let size = length-neighbours (sides corners) in
    let sized = length-sides corners in
    sym (ap (λ (two : Edge × Edge). start_of two.1)
    (first-kept (is_furthest c.args.edge) (neighbours (sides corners)) c.loop-index.index (nowhere, nowhere) (nowhere, nowhere) (omega (arith, size, sized, c.loop-index-test.true)) c.loop-index.invariant
    (sym c.is_furthest_at.ensures ∙ c.if-is_furthest_at.true)))

pub loop-index-preserved : goal.loop-index-preserved
loop-index-preserved c =
    let corners = c.args.corners.now in
    let size = length-neighbours (sides corners) in
    let sized = length-sides corners in
    none-kept (is_furthest c.args.edge) (neighbours (sides corners)) c.loop-index.index (nowhere, nowhere) (omega (arith, size, sized, c.loop-index-test.true)) c.loop-index.invariant
    (sym c.is_furthest_at.ensures ∙ c.if-is_furthest_at.false)

pub returns : goal.returns
returns c =
    let corners = c.args.corners.now in
    let all = neighbours (sides corners) in
    let size = length-neighbours (sides corners) in
    let sized = length-sides corners in
    let kept : filter (is_furthest c.args.edge) all ≡ [] = ap (filter (is_furthest c.args.edge)) (sym (take_all c.loop-index.index all (omega (arith, size, sized, c.loop-index-test.false)))) ∙ c.loop-index.invariant in
    ap (λ (two : Edge × Edge). start_of two.1) (get_or_past all (length corners) (nowhere, nowhere) (omega (arith, size, sized)))
    ∙ sym (ap (λ (pairs : List (Edge × Edge)). start_of (get_or pairs 0 (nowhere, nowhere)).1) kept)
