-- The guest that is found is the session's, so the name is theirs.
use Rattle.std.proofs.Common.{ℕ, Option, None, Some, sym, ap, ◌∙◌}
use Rattle.uses.specs.declared.sessions.Guest.{Guest}
use Rattle.uses.proofs.sessions.Sessions.name_of.Goals as goal

name_in : Option Guest → Option ℕ
name_in (Some guest) = Some guest.name
name_in None = None

number_in : ℕ → Option Guest → ℕ
number_in _ (Some guest) = guest.number
number_in other None = other

pub returns-in-Some : goal.returns-in-Some
unfolding name_in
returns-in-Some g c until name kept upto =
    let found = c.guest_of.ensures until (Some (record { number = c.args.number; name = name })) kept upto in
    ap name_in (sym c.in-Some.is ∙ found)

pub returns-in_default : goal.returns-in_default
unfolding number_in
returns-in_default g c until name kept upto =
    let found = c.guest_of.ensures until (Some (record { number = c.args.number; name = name })) kept upto in
    absurd (c.if-guest-number.false (ap (number_in 0) (sym c.in-Some.is ∙ found)))

pub returns-in_default-2 : goal.returns-in_default-2
returns-in_default-2 g c until name kept upto =
    let found = c.guest_of.ensures until (Some (record { number = c.args.number; name = name })) kept upto in
    absurd (cc (sym c.in_default.is ∙ found))
