use Rattle.std.proofs.Common.{◌≡◌, ◌<ℤ◌, Bool, Option, true, false, sym, subst, subst₂}
use Rattle.std.specs.Bool.{OnTrue}
use Rattle.plane.specs.declared.edge.Edge.{Edge}
use Rattle.overlay.specs.Polygons.{begins_before}
use Rattle.overlay.proofs.GroupingLemmas.Begins.{begins_behind}
use Rattle.overlay.proofs.grouping.directions.begins_behind.Goals as goal

pub returns-in-Some : goal.returns-in-Some
returns-in-Some c = by c.starts_before.result c.starts_before.ensures
  where
    by : (b : Bool) → OnTrue b (c.turn_rightwards.result.x0 <ℤ c.turn_rightwards-in-Some.result.x0) → OnTrue b (begins_before c.args.edge c.args.best ≡ false)
    by true less =
        subst (λ (best : Option Edge). begins_before c.args.edge best ≡ false) (sym c.in-Some.is)
        (begins_behind c.args.edge c.in-Some.other (subst₂ (λ (one other : Edge). one.x0 <ℤ other.x0) c.turn_rightwards.ensures c.turn_rightwards-in-Some.ensures less))
    by false none = tt
