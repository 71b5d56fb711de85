use Rattle.std.proofs.Common.{[], pos, refl, ◌∙◌}
use Rattle.plane.proofs.PairsLemmas.Extends.{Extends-same, Extends-trans}
use Rattle.plane.specs.Gains.{IsOfSome}
use Rattle.noding.specs.Moving.{IsPlaceOf}
use Rattle.noding.specs.declared.moved.Visit.{Visit}
use Rattle.plane.proofs.GainsLemmas.{gains-all, gains-next, gains-none, none_of}
use Rattle.noding.proofs.moved.move_visits.Goals as goal

pub loop-visit-init : goal.loop-visit-init
loop-visit-init g c = (refl, c.requires.flagged, Extends-same c.args.moved.now.order.items, gains-none (IsOfSome IsPlaceOf []) c.args.moved.now.order.items (none_of IsPlaceOf))

pub loop-visit-preserved : goal.loop-visit-preserved
loop-visit-preserved g c =
    let (size, flagged, longer, gains) = c.loop-visit.invariant in
    let before = c.args.moved.now.order.items in
    let now = c.loop-visit.moved.order.items in
    let after = c.flag.new.moved.order.items in
    let none : Visit = record { number = 0; point = record { x = pos 0; y = pos 0 }; place = 0 } in (
      c.in_ok-flag.ensures.size ∙ size,
      c.in_ok-flag.ensures.flagged,
      Extends-trans before now after longer c.in_ok-flag.ensures.more,
      gains-next IsPlaceOf c.args.visits.now c.loop-visit.visit-index none before now after c.loop-visit-test.true gains c.in_ok-flag.ensures.gains,
    )

pub returns-clause-gains : goal.returns-clause-gains
returns-clause-gains g c = gains-all IsPlaceOf c.args.visits.now c.loop-visit.visit-index c.args.moved.now.order.items c.loop-visit.moved.order.items c.loop-visit-test.false c.loop-visit.invariant.3
