-- A session that is kept is found while it stands.
use Rattle.std.specs.Cmp.{nat_cmp_total, on_total, tied_itself}
use Rattle.std.specs.Ordering.{nat_cmp}
use Rattle.i_tree.proofs.KeyLemmas.Callers.{ge-upto, is_answered}
use Rattle.uses.specs.declared.sessions.Session.{Session}
use Rattle.uses.proofs.sessions.Sessions.guest_of.Goals as goal

pub returns : goal.returns
returns g c until guest kept upto =
    let session : Session = record { number = c.args.number; until = until } in
    let is_live = ge-upto until c.args.now upto in
    let by_number = on_total (λ (one : Session). one.number) nat_cmp_total in
    let told = c.first_less_or_equal_by.ensures in
    is_answered (λ (one : Session). one.until) nat_cmp c.args.now (session, guest) is_live by_number session (tied_itself by_number session) _ kept _ _ _ _ (λ other answer says. says) told.kept told.rising told.value
