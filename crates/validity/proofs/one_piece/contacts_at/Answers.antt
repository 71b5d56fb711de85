use Rattle.std.proofs.Common.{[], List, get_or, arith}
use Rattle.std.proofs.lemmas.Option.{slice_get-get_or}
use Rattle.std.proofs.Common.{sym, subst}
use Rattle.plane.proofs.GainsLemmas.{gains-all, gains-next, gains-none, none_of}
use Rattle.plane.specs.Gains.{GainsThese, IsOfSome}
use Rattle.validity.specs.Contacts.{IsContactAt}
use Rattle.validity.specs.declared.one_piece.Contact.{Contact}
use Rattle.validity.proofs.Contacts.{contact-at}
use Rattle.validity.proofs.one_piece.contacts_at.Goals as goal

pub loop-pair-init : goal.loop-pair-init
loop-pair-init g c =
    subst (λ (list : List Contact). GainsThese (IsOfSome (IsContactAt c.args.owned.now) []) [] list) (sym c.new-contacts.ensures.items) (gains-none (IsOfSome (IsContactAt c.args.owned.now) []) [] (none_of (IsContactAt c.args.owned.now)))

pub loop-pair-preserved : goal.loop-pair-preserved
loop-pair-preserved g c =
    let owned = c.args.owned.now in
    let pair = get_or c.args.pairs.now c.loop-pair.pair-index (0, 0) in
    let (in_one, in_other) = c.requires c.loop-pair.pair-index (0, 0) c.loop-pair-test.true in
    gains-next (IsContactAt owned) c.args.pairs.now c.loop-pair.pair-index (0, 0) [] c.loop-pair.contacts.items _ c.loop-pair-test.true c.loop-pair.invariant
    (contact-at owned pair _ _ (slice_get-get_or owned pair.0 _ in_one) (slice_get-get_or owned pair.1 _ in_other) _ _ c.in_ok-append_contacts.ensures)

pub returns : goal.returns
returns g c =
    let past = c.loop-pair-test.false in
    gains-all (IsContactAt c.args.owned.now) c.args.pairs.now c.loop-pair.pair-index [] c.loop-pair.contacts.items (omega (arith, past)) c.loop-pair.invariant
