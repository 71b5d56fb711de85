use Rattle.std.proofs.Common.{◌∙◌, [], pos, refl}
use Rattle.plane.proofs.PairsLemmas.Extends.{Extends-same, Extends-trans}
use Rattle.plane.specs.declared.point.Point.{Point}
use Rattle.plane.specs.Gains.{IsOfSome}
use Rattle.noding.specs.Moving.{IsMovedAt}
use Rattle.plane.proofs.GainsLemmas.{gains-all, gains-next, gains-none, none_of}
use Rattle.noding.proofs.moved.move_at_all.Goals as goal

pub loop-point-init : goal.loop-point-init
loop-point-init g c = (
  refl,
  c.requires.spread,
  c.requires.flagged,
  Extends-same c.args.moved.now.order.items,
  gains-none (IsOfSome (IsMovedAt c.args.visits.now) []) c.args.moved.now.order.items (none_of (IsMovedAt c.args.visits.now)),
)

pub loop-point-preserved : goal.loop-point-preserved
loop-point-preserved g c =
    let (size, spread, flagged, longer, gains) = c.loop-point.invariant in
    let before = c.args.moved.now.order.items in
    let now = c.loop-point.moved.order.items in
    let after = c.move_at.new.moved.order.items in
    let none : Point = record { x = pos 0; y = pos 0 } in (
      c.in_ok-move_at.ensures.size ∙ size,
      c.in_ok-move_at.ensures.spread,
      c.in_ok-move_at.ensures.flagged,
      Extends-trans before now after longer c.in_ok-move_at.ensures.more,
      gains-next (IsMovedAt c.args.visits.now) c.args.points.now c.loop-point.point-index none before now after c.loop-point-test.true gains c.in_ok-move_at.ensures.gains,
    )

pub returns-clause-gains : goal.returns-clause-gains
returns-clause-gains g c = gains-all (IsMovedAt c.args.visits.now) c.args.points.now c.loop-point.point-index c.args.moved.now.order.items c.loop-point.moved.order.items c.loop-point-test.false c.loop-point.invariant.4
