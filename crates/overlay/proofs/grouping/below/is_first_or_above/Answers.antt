use Rattle.std.proofs.Common.{◌≡◌, Bool, Option, true, not, ap, sym, subst, ◌∙◌}
use Rattle.std.specs.Bool.{OnTrue}
use Rattle.std.specs.Prelude.{IfSome}
use Rattle.overlay.specs.Fill.Counts.{is_over}
use Rattle.overlay.specs.Grouping.{AreEndsUpto, IsSideOf, is_first_or_above}
use Rattle.overlay.specs.declared.grouping.sides.Side.{Side}
use Rattle.overlay.proofs.GroupingLemmas.Highest.{under-not_lower}
use Rattle.overlay.proofs.grouping.below.is_first_or_above.Goals as goal

pub returns-then-not-is_under : goal.returns-then-not-is_under
returns-then-not-is_under c = λ rings x noded is over best.
    let (of, over_too) = subst (λ (one : Option Side). IfSome one (λ other. IsSideOf rings other × (is_over x other.piece.edge ≡ true))) c.in-Some.is best in
    c.is_below.ensures rings x noded of is over_too over ∙ ap (λ (one : Option Side). is_first_or_above x c.args.side one) (sym c.in-Some.is)

pub returns-else-not-is_under : goal.returns-else-not-is_under
returns-else-not-is_under c = λ rings x noded is over best.
    let (of, over_too) = subst (λ (one : Option Side). IfSome one (λ other. IsSideOf rings other × (is_over x other.piece.edge ≡ true))) c.in-Some.is best in
    let ends = subst (λ (t : Bool). OnTrue t (AreEndsUpto c.args.side.piece.edge c.in-Some.other.piece.edge)) c.if-not-is_under.false c.is_under.ensures in
    ap not c.if-not-is_under.false ∙ sym (under-not_lower c.args.side.piece.edge c.in-Some.other.piece.edge x ends over over_too) ∙ ap (λ (one : Option Side). is_first_or_above x c.args.side one) (sym c.in-Some.is)
