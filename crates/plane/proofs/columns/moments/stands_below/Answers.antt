-- By its height where the other begins, and where it passes through that point by its slope.
use Rattle.std.proofs.Common.{◌∙◌, ap, sym, subst, Bool, MatchBool}
use Rattle.plane.specs.Columns.Status.{StandsBelow}
use Rattle.plane.specs.declared.point.Point.{Point}
use Rattle.plane.proofs.ColumnLemmas.Lines.{below_by_height, below_by_slope, not_below_by_height}
use Rattle.plane.proofs.columns.moments.stands_below.Goals as goal

pub returns-in-Less : goal.returns-in-Less
returns-in-Less c =
    below_by_height c.args.other c.args.beginning c.start_of.result c.requires.beginning_right
    (ap (λ (at : Point). at.x) c.start_of.ensures) (ap (λ (at : Point). at.y) c.start_of.ensures) (sym c.in-Less.is ∙ c.compare_to_point.ensures)

pub returns-in-Equal : goal.returns-in-Equal
returns-in-Equal c =
    subst (λ (r : Bool). MatchBool r (StandsBelow c.args.beginning c.args.other) (¬ (StandsBelow c.args.beginning c.args.other))) (sym c.ne.ensures)
    (below_by_slope c.args.other c.args.beginning c.start_of.result c.requires.beginning_right
    (ap (λ (at : Point). at.x) c.start_of.ensures) (ap (λ (at : Point). at.y) c.start_of.ensures) (sym c.in-Equal.is ∙ c.compare_to_point.ensures)
    c.compare_slopes.result c.compare_slopes.ensures)

pub returns-in-Greater : goal.returns-in-Greater
returns-in-Greater c =
    not_below_by_height c.args.other c.args.beginning c.start_of.result c.requires.beginning_right
    (ap (λ (at : Point). at.x) c.start_of.ensures) (ap (λ (at : Point). at.y) c.start_of.ensures) (sym c.in-Greater.is ∙ c.compare_to_point.ensures)
