use Rattle.std.proofs.Common.{◌<◌, ◌++◌, ◌∷◌, [], List, length, get_or, map, ap, sym, ◌∙◌, append_assoc, arith}
use Rattle.std.proofs.lemmas.Bool.{eqb-false}
use Rattle.std.proofs.lemmas.Result.{on_ok_weaker}
use Rattle.plane.specs.declared.point.Point.{Point}
use Rattle.plane.specs.Ends.{end_of, start_of}
use Rattle.layers.proofs.LineLemmas.Paths.{along-some}
use Rattle.layers.proofs.lines.joining.append_points.Goals as goal

pub returns-clause-ok : goal.returns-clause-ok
returns-clause-ok g c =
    let edges = c.args.edges.now in
    let before = c.args.points.now.items in
    let some : 0 < length edges = (let not_empty = eqb-false _ _ (sym c.is_empty.ensures ∙ c.if-is_empty.false) in omega (arith, not_empty)) in
    on_ok_weaker c.append_ends.result (λ told. told
    ∙ ap (λ (list : List Point). list ++ map end_of edges) (c.in_ok-push.ensures.items ∙ ap (λ (point : Point). before ++ point ∷ []) c.start_of.ensures)
    ∙ append_assoc before (start_of (get_or edges 0 _) ∷ []) (map end_of edges)
    ∙ ap (λ (list : List Point). before ++ list) (sym (along-some edges _ some))) c.append_ends.ensures.ok
