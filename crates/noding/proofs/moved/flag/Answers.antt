use Rattle.std.proofs.Common.{◌≡◌, false, true, get_or, sym, ◌∙◌, subst}
use Rattle.std.proofs.lemmas.List.{get_or_default}
use Rattle.plane.specs.Gains.{GainsThese}
use Rattle.plane.proofs.GainsLemmas.{gains-one}
use Rattle.noding.proofs.ChainLemmas.Moving.{flagged-more, gains-flagged}
use Rattle.noding.proofs.moved.flag.Goals as goal

pub returns-then-index-clause-gains : goal.returns-then-index-clause-gains
returns-then-index-clause-gains g c =
    let flags = c.args.moved.now.flags.items in
    let is : get_or flags c.args.place false ≡ true = get_or_default flags c.args.place false c.index.result.now c.requires.within ∙ sym c.index.ensures ∙ c.if-index.true in
    gains-flagged c.args.place flags c.args.moved.now.order.items c.requires.flagged is

pub returns-clause-flagged : goal.returns-clause-flagged
returns-clause-flagged g c =
    let flags = c.args.moved.now.flags.items in
    let is : get_or flags c.args.place false ≡ false = get_or_default flags c.args.place false c.index.result.now c.requires.within ∙ sym c.index.ensures ∙ c.if-index.false in
    flagged-more c.args.place flags c.args.moved.now.order.items c.push.new.self.items c.requires.flagged c.requires.within is c.in_ok-push.ensures.items

pub returns-clause-gains : goal.returns-clause-gains
returns-clause-gains g c =
    subst (GainsThese (λ other. other ≡ c.args.place) c.args.moved.now.order.items) (sym c.in_ok-push.ensures.items) (gains-one c.args.moved.now.order.items c.args.place)
