use Rattle.std.proofs.Common.{◌++◌, List, ap, map, ◌∙◌}
use Rattle.overlay.specs.Fill.Verticals.{left_end, right_end}
use Rattle.overlay.specs.declared.fill.verticals.End.{End}
use Rattle.overlay.proofs.fill.verticals.ends_of.Goals as goal

pub returns : goal.returns
returns g c =
    c.in_ok-append_right_ends.ensures
    ∙ ap (λ (ends : List End). ends ++ map right_end c.args.edges.now) (c.in_ok-append_left_ends.ensures ∙ ap (λ (ends : List End). ends ++ map left_end c.args.edges.now) c.in_ok-ends.ensures.items)
