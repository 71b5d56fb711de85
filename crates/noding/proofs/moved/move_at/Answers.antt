use Rattle.std.proofs.Common.{List, subst, arith}
use Rattle.plane.specs.Gains.{GainsThese, IsOfSome}
use Rattle.noding.specs.Moving.{IsPlaceOf}
use Rattle.noding.specs.declared.moved.Visit.{Visit}
use Rattle.noding.proofs.ChainLemmas.Moving.{gains-at, gains-nowhere, gains-spread, spread-more}
use Rattle.noding.proofs.moved.move_at.Goals as goal

pub returns-then-end-first-clause-gains : goal.returns-then-end-first-clause-gains
returns-then-end-first-clause-gains g c =
    gains-nowhere c.args.visits.now c.number_of-number.result c.visits_below-first.result c.visits_upto-end.result c.visits_below-first.ensures c.visits_upto-end.ensures.is c.visits_upto-end.ensures.bound
    c.args.point c.number_of-number.ensures.is c.number_of-number.ensures.in_range c.if-end-first.true c.args.moved.now.order.items

pub returns-then-spread-first-clause-gains : goal.returns-then-spread-first-clause-gains
returns-then-spread-first-clause-gains g c =
    gains-spread c.args.visits.now c.number_of-number.result c.visits_below-first.result c.visits_upto-end.result c.visits_below-first.ensures c.visits_upto-end.ensures.is c.visits_upto-end.ensures.bound
    c.args.point c.number_of-number.ensures.is c.number_of-number.ensures.in_range c.if-end-first.false c.args.spread.now c.args.moved.now.order.items c.requires.spread c.if-spread-first.true

pub returns-clause-spread : goal.returns-clause-spread
returns-clause-spread g c =
    let some = c.if-end-first.false in
    spread-more c.args.visits.now c.number_of-number.result c.visits_below-first.result c.visits_upto-end.result c.visits_below-first.ensures c.visits_upto-end.ensures.is c.visits_upto-end.ensures.bound
    c.args.point c.number_of-number.ensures.is c.number_of-number.ensures.in_range some c.args.spread.now c.args.moved.now.order.items c.move_visits.new.moved.order.items c.requires.spread c.in_ok-move_visits.ensures.more
    (gains-at c.args.visits.now c.number_of-number.result c.visits_below-first.result c.visits_upto-end.result c.visits_below-first.ensures c.visits_upto-end.ensures.is c.visits_upto-end.ensures.bound
    c.args.point c.number_of-number.ensures.is c.number_of-number.ensures.in_range (omega (arith, some)) c.args.moved.now.order.items c.move_visits.new.moved.order.items
    (subst (λ (group : List Visit). GainsThese (IsOfSome IsPlaceOf group) c.args.moved.now.order.items c.move_visits.new.moved.order.items) c.visits_at.ensures c.in_ok-move_visits.ensures.gains))

pub returns-clause-gains : goal.returns-clause-gains
returns-clause-gains g c =
    let some = c.if-end-first.false in
    gains-at c.args.visits.now c.number_of-number.result c.visits_below-first.result c.visits_upto-end.result c.visits_below-first.ensures c.visits_upto-end.ensures.is c.visits_upto-end.ensures.bound
    c.args.point c.number_of-number.ensures.is c.number_of-number.ensures.in_range (omega (arith, some)) c.args.moved.now.order.items c.move_visits.new.moved.order.items
    (subst (λ (group : List Visit). GainsThese (IsOfSome IsPlaceOf group) c.args.moved.now.order.items c.move_visits.new.moved.order.items) c.visits_at.ensures c.in_ok-move_visits.ensures.gains)
