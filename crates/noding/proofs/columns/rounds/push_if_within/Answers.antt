use Rattle.std.proofs.Common.{refl, subst}
use Rattle.plane.specs.declared.pairs.items.Bounds.{Bounds}
use Rattle.plane.specs.Pairs.Bounds.{BoundsMeet}
use Rattle.noding.specs.Columns.Rounds.{IsOneWithin}
use Rattle.plane.proofs.GainsLemmas.{gains-none, gains-only}
use Rattle.noding.proofs.columns.rounds.push_if_within.Goals as goal

pub returns-in_ok-push : goal.returns-in_ok-push
returns-in_ok-push g c =
    let around = c.args.around in
    let lies = subst (λ (box : Bounds). BoundsMeet around box) c.bounds.ensures c.if-boxes_meet.ensures in
    gains-only (IsOneWithin around c.args.point) c.args.points.now.items c.push.new.self.items c.args.point (lies, refl) (λ point is. is.1) c.in_ok-push.ensures.items

pub returns-else-boxes_meet : goal.returns-else-boxes_meet
returns-else-boxes_meet g c =
    let around = c.args.around in
    let none = subst (λ (box : Bounds). ¬ (BoundsMeet around box)) c.bounds.ensures c.if-boxes_meet.ensures in
    gains-none (IsOneWithin around c.args.point) c.args.points.now.items (λ point is. none is.0)
