use Rattle.std.proofs.Common.{◌++◌, ◌∷◌, [], List, get_or, map, take, ap, ap₂, sym, ◌∙◌, append_assoc}
use Rattle.std.proofs.lemmas.List.{map-append, take_more}
use Rattle.plane.specs.declared.edge.Edge.{Edge}
use Rattle.plane.specs.declared.point.Point.{Point}
use Rattle.plane.proofs.PairsLemmas.Extends.{OnErr-always}
use Rattle.plane.specs.Ends.{end_of}
use Rattle.layers.proofs.lines.joining.append_ends.Goals as goal

pub returns-in_err-push-clause-err : goal.returns-in_err-push-clause-err
returns-in_err-push-clause-err g c =
    OnErr-always c.from_residual.result _ (map end_of (take c.loop-edge.edge-index c.args.edges.now), c.in_err-push.ensures.items ∙ c.loop-edge.invariant)

pub loop-edge-preserved : goal.loop-edge-preserved
loop-edge-preserved g c =
    let edges = c.args.edges.now in
    let place = c.loop-edge.edge-index in
    let before = c.args.points.now.items in
    let edge = get_or edges place _ in
    c.in_ok-push.ensures.items
    ∙ ap₂ (λ (list : List Point) (point : Point). list ++ point ∷ []) c.loop-edge.invariant c.end_of.ensures
    ∙ append_assoc before (map end_of (take place edges)) (end_of edge ∷ [])
    ∙ ap (λ (list : List Point). before ++ list) (sym (ap (λ (list : List Edge). map end_of list) (take_more edges place _ c.loop-edge-test.true) ∙ map-append end_of (take place edges) (edge ∷ [])))
