use Rattle.std.proofs.Common.{◌++◌, ◌∷◌, [], ap, ◌∙◌}
use Rattle.plane.specs.declared.point.Point.{Point}
use Rattle.noding.proofs.ColumnLemmas.Hot.{gains-ends}
use Rattle.noding.proofs.columns.hot_points.push_both_ends.Goals as goal

pub returns : goal.returns
returns g c =
    let before = c.args.points.now.items in
    let now = c.push.new.self.items in
    gains-ends c.args.edge before now c.push-2.new.self.items (c.in_ok-push.ensures.items ∙ ap (λ (point : Point). before ++ point ∷ []) c.start_of.ensures)
    (c.in_ok-push-2.ensures.items ∙ ap (λ (point : Point). now ++ point ∷ []) c.end_of.ensures)
