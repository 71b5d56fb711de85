use Rattle.std.proofs.Common.{◌++◌, ◌<◌, ◌∙◌, ◌∷◌, [], List, ap, ap₂, arith, get_or, length, map, subst, subst₂, sym}
use Rattle.std.proofs.lemmas.List.{take_all}
use Rattle.plane.specs.declared.edge.Edge.{Edge}
use Rattle.plane.specs.declared.point.Point.{Point}
use Rattle.offset.specs.Cuts.{edge_at, moved_by_furthest}
use Rattle.offset.specs.Faults.{IsRawFault}
use Rattle.offset.specs.Raw.{furthest, joint, moved_edge, nowhere, raw_of_ring, raw_of_two}
use Rattle.offset.specs.Shape.{neighbours, sides}
use Rattle.offset.proofs.RawLemmas.{earlier-fails, handed-on, made-fails, mapped-more}
use Rattle.offset.proofs.ShapeLemmas.{length-neighbours, length-sides, neighbour-at}
use Rattle.offset.proofs.cuts.moved_edges.Goals as goal

pub returns-in_err-push_moved-clause-fault : goal.returns-in_err-push_moved-clause-fault
returns-in_err-push_moved-clause-fault g c =
    let corners = c.args.corners.now in
    let ring = c.args.ring.now in
    let index = c.loop-index.index in
    let size = length-neighbours (sides ring) in
    let sized = length-sides ring in
    let pair = neighbour-at (sides ring) index nowhere (nowhere, nowhere) (omega (arith, sized, c.loop-index-test.true)) in
    let two = get_or (neighbours (sides ring)) index (nowhere, nowhere) in
    let edge = c.side_at-edge.ensures ∙ sym (ap (λ (two : Edge × Edge). two.0) pair) in
    let corner = c.corner_behind.ensures ∙ c.place_near-near.ensures ∙ ap (λ (e : Edge). furthest corners e) edge in
    handed-on c.from_residual-in_err-push_moved.result _ (IsRawFault (raw_of_ring corners ring)) c.from_residual-in_err-push_moved.ensures.1
    (made-fails (raw_of_two corners) (neighbours (sides ring)) index (nowhere, nowhere) _ (omega (arith, size, sized, c.loop-index-test.true))
    (earlier-fails (moved_edge (furthest corners two.0) two.0 ∷ []) (joint corners two.0 two.1) _
    (subst₂ (λ (by : Point) (e : Edge). IsRawFault (moved_edge by e ∷ []) c.in_err-push_moved.field-0.0) corner edge c.in_err-push_moved.ensures.fault)))

pub loop-index-preserved : goal.loop-index-preserved
loop-index-preserved g c =
    let corners = c.args.corners.now in
    let ring = c.args.ring.now in
    let sized = length-sides ring in
    let corner = c.corner_behind.ensures ∙ c.place_near-near.ensures ∙ ap (λ (e : Edge). furthest corners e) c.side_at-edge.ensures in
    c.in_ok-push_moved.ensures.ok
    ∙ ap₂ (λ (by : Point) (e : Edge). c.loop-index.moved.items ++ moved_edge by e ∷ []) corner c.side_at-edge.ensures
    ∙ mapped-more (moved_by_furthest corners) (sides ring) c.loop-index.index nowhere [] c.loop-index.moved.items (omega (arith, sized, c.loop-index-test.true)) c.loop-index.invariant

pub returns-clause-ok : goal.returns-clause-ok
returns-clause-ok g c =
    let sized = length-sides c.args.ring.now in
    c.loop-index.invariant ∙ ap (λ (edges : List Edge). map (moved_by_furthest c.args.corners.now) edges) (take_all c.loop-index.index (sides c.args.ring.now) (omega (arith, sized, c.loop-index-test.false)))
