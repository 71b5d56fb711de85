use Rattle.std.proofs.Common.{Vec, ap₂, ◌<◌, ◌∙◌, ◌∷◌, ◌++◌, ◌≡◌, [], ap, arith, List, length, map, subst, sym, filter, rules}
use Rattle.std.proofs.lemmas.List.{take_all}
use Rattle.plane.specs.declared.edge.Edge.{Edge}
use Rattle.plane.specs.declared.point.Point.{Point}
use Rattle.plane.specs.Ends.{end_of}
use Rattle.offset.specs.Faults.{IsRawFault}
use Rattle.offset.specs.Raw.{fan, is_of_fan, moved_edge, nowhere}
use Rattle.offset.specs.Shape.{sides}
use Rattle.offset.proofs.RawLemmas.{handed-on, kept-fails, kept-more, kept-same}
use Rattle.offset.proofs.ShapeLemmas.{length-sides}
use Rattle.offset.proofs.raw.append_fan.Goals.{then-is_of_fan+in_ok-push_moved, else-is_of_fan}
use Rattle.offset.proofs.raw.append_fan.Goals as goal

pub returns-in_err-push_moved-clause-fault : goal.returns-in_err-push_moved-clause-fault
returns-in_err-push_moved-clause-fault g c =
    let corners = c.args.corners.now in
    let at = end_of c.args.edge in
    let size = length-sides corners in
    let kept = sym (ap (is_of_fan c.args.edge c.args.next) c.side_at-side.ensures) ∙ sym c.is_of_fan.ensures ∙ c.if-is_of_fan.true in
    handed-on c.from_residual.result _ (IsRawFault (map (moved_edge at) (fan corners c.args.edge c.args.next))) c.from_residual.ensures.1
    (kept-fails (moved_edge at) (is_of_fan c.args.edge c.args.next) (sides corners) c.loop-index.index nowhere _ (omega (arith, size, c.loop-index-test.true)) kept
    (subst (λ (side : Edge). IsRawFault (moved_edge at side ∷ []) c.in_err-push_moved.field-0.0) c.side_at-side.ensures
    (subst (λ (at' : Point). IsRawFault (moved_edge at' c.side_at-side.result ∷ []) c.in_err-push_moved.field-0.0) c.end_of.ensures c.in_err-push_moved.ensures.fault)))

pub loop-index-preserved : goal.loop-index-preserved
loop-index-preserved g c =
    let corners = c.args.corners.now in
    let at = end_of c.args.edge in
    let size = length-sides corners in
    let inside : c.loop-index.index < length (sides corners) = omega (arith, size, c.loop-index-test.true) in
    let tested = sym (ap (is_of_fan c.args.edge c.args.next) c.side_at-side.ensures) ∙ sym c.is_of_fan.ensures in
    elim c.if-is_of_fan.branch [
      | then-is_of_fan+in_ok-push_moved w ↦
          ap (λ (edges : Vec Edge _). edges.items) w.edges-is ∙ w.in_ok-push_moved.ensures.ok
          ∙ ap₂ (λ (from : Point) (side : Edge). c.loop-index.edges.items ++ moved_edge from side ∷ []) w.end_of.ensures c.side_at-side.ensures
          ∙ kept-more (moved_edge at) (is_of_fan c.args.edge c.args.next) (sides corners) c.loop-index.index nowhere c.args.edges.now.items c.loop-index.edges.items inside (tested ∙ w.if-is_of_fan.true) c.loop-index.invariant
      | else-is_of_fan w ↦
          ap (λ (edges : Vec Edge _). edges.items) w.edges-is
          ∙ kept-same (moved_edge at) (is_of_fan c.args.edge c.args.next) (sides corners) c.loop-index.index nowhere c.args.edges.now.items c.loop-index.edges.items inside (tested ∙ w.if-is_of_fan.false) c.loop-index.invariant
    ]

pub returns-clause-ok : goal.returns-clause-ok
returns-clause-ok g c =
    let corners = c.args.corners.now in
    let size = length-sides corners in
    c.loop-index.invariant
    ∙ ap (λ (all : List Edge). c.args.edges.now.items ++ map (moved_edge (end_of c.args.edge)) (filter (is_of_fan c.args.edge c.args.next) all)) (take_all c.loop-index.index (sides corners) (omega (arith, size, c.loop-index-test.false)))
